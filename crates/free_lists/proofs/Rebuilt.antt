-- The free chunks of a row are listed.
use Rattle.std.proofs.Common.{◌≡◌, ℕ, ◌+◌, ◌-◌, ◌<◌, ◌≤◌, ◌⊎◌, List, [], ◌∷◌, ◌++◌, get_or, refl, arith, subst, sym, ap, ◌∙◌, inl, inr, append_assoc, Bool, true, false, cond}
use Rattle.std.specs.List.{Contains}
use Rattle.std.specs.List.Sorted.{IsPermutation}
use Rattle.std.proofs.lemmas.List.{append-nil}
use Rattle.std.proofs.lemmas.List.Elements.{Contains-append_right}
use Rattle.std.proofs.lemmas.List.Sorted.{IsPermutation-append_comm, sum_by-IsPermutation}
use Rattle.std.proofs.lemmas.Bool.{cases_Bool}
use Rattle.object_header.specs.Chunks.{Chunk, leads, chunk_of, IsChunk, Cuts}
use Rattle.free_lists.specs.Runs.{IsFree, covers, cover}
use Rattle.free_lists.specs.Lists.{Lists}
use Rattle.free_lists.specs.Rows.{is_free, free_runs, rewritten, with_run, written}
use Rattle.free_lists.specs.declared.lists.FreeLists.{FreeLists}
use Rattle.free_lists.proofs.Covers.{covers-outside, cover-cons}
use Rattle.free_lists.proofs.Given.{lists_permuted}
use Rattle.free_lists.proofs.Written.{free_is_written}

-- ---- the first chunk of a row

-- its header is in its first or second word, and a word is behind it
pub record Lies (at : ℕ) (c : Chunk) : Type 0 where
  pub at_is : c.at ≡ at
  pub from : at ≤ c.start
  pub room : c.start + 2 ≤ at + c.size

chunk_of-lies : (at w : ℕ) → Lies at (chunk_of at w)
unfolding chunk_of
chunk_of-lies at w = elim (cases_Bool (leads w)) [
  | inl is ↦ rw is (record { at_is = refl; from = omega arith; room = omega arith })
  | inr not ↦ rw not (record { at_is = refl; from = omega arith; room = omega arith })
]

pub lies : (words : List ℕ) (at : ℕ) (c : Chunk) → IsChunk words at c → Lies at c
lies words at c k = subst (Lies at) (sym k.is) (chunk_of-lies at (get_or words at 0))

pub cuts_up : (words : List ℕ) (at end : ℕ) (cs : List Chunk) → Cuts words at end cs → at ≤ end
cuts_up words at end [] t = omega (arith, t)
cuts_up words at end (c ∷ cs) t = let l = cuts_up words (at + c.size) end cs t.1 in omega (arith, l)

-- it stands among the same words
chunk_same : (old new : List ℕ) (at : ℕ) (c : Chunk) → IsChunk old at c → get_or new at 0 ≡ get_or old at 0 → get_or new c.start 0 ≡ get_or old c.start 0 → IsChunk new at c
chunk_same old new at c k first header = record {
  is = k.is ∙ ap (chunk_of at) (sym first);
  twice = ap leads header ∙ k.twice ∙ ap leads (sym first);
}

-- ---- the runs of a row

with_run-parts : (free : Bool) (run : ℕ × ℕ) (runs : List (ℕ × ℕ)) → with_run free run runs ≡ with_run free run [] ++ runs
with_run-parts true run runs = refl
with_run-parts false run runs = refl

pub free_runs-append : (words : List ℕ) (cs ds : List Chunk) → free_runs words (cs ++ ds) ≡ free_runs words cs ++ free_runs words ds
unfolding free_runs
free_runs-append words [] ds = refl
free_runs-append words (c ∷ cs) ds =
    let rest = free_runs-append words cs ds in
    let free : Bool = is_free (get_or words c.start 0) in
    with_run-parts free (c.at, c.size) (free_runs words (cs ++ ds)) ∙ ap (λ rs. with_run free (c.at, c.size) [] ++ rs) rest
    ∙ sym (append_assoc (with_run free (c.at, c.size) []) (free_runs words cs) (free_runs words ds))
    ∙ ap (λ rs. rs ++ free_runs words ds) (sym (with_run-parts free (c.at, c.size) (free_runs words cs)))

-- a run covers its own words at most
with_run-cover : (free : Bool) (at size : ℕ) (runs : List (ℕ × ℕ)) (k : ℕ) → (k < at) ⊎ (at + size ≤ k) → cover (with_run free (at, size) runs) k ≡ cover runs k
with_run-cover true at size runs k out = omega (arith, cover-cons (at, size) runs k, covers-outside k at size out)
with_run-cover false at size runs k out = refl

with_run-outside : (free : Bool) (run : ℕ × ℕ) (runs : List (ℕ × ℕ)) (k : ℕ) → cover (with_run free run runs) k ≡ 0 → cover runs k ≡ 0
with_run-outside true run runs k e = omega (arith, cover-cons run runs k, e)
with_run-outside false run runs k e = e

module _ (words : List ℕ) (done : List Chunk) (c : Chunk) where
  abbrev with_this : List (ℕ × ℕ)
  with_this = with_run (is_free (get_or words c.start 0)) (c.at, c.size) (free_runs words done)

  one_run : free_runs words (c ∷ []) ≡ with_run (is_free (get_or words c.start 0)) (c.at, c.size) []
  unfolding free_runs
  one_run = refl

  -- one more chunk at the end
  more_runs : IsPermutation (free_runs words (done ++ c ∷ [])) with_this
  more_runs =
      let one : List (ℕ × ℕ) = with_run (is_free (get_or words c.start 0)) (c.at, c.size) [] in
      let left : free_runs words (done ++ c ∷ []) ≡ free_runs words done ++ one = free_runs-append words done (c ∷ []) ∙ ap (λ rs. free_runs words done ++ rs) one_run in
      rw (left, with_run-parts (is_free (get_or words c.start 0)) (c.at, c.size) (free_runs words done)) (IsPermutation-append_comm (free_runs words done) one)

  more_cover : (k : ℕ) → cover (free_runs words (done ++ c ∷ [])) k ≡ cover with_this k
  more_cover k = sym (sum_by-IsPermutation (covers k) (free_runs words (done ++ c ∷ [])) with_this more_runs)

-- ---- the walk

-- a walk over a row of old words has come to `at`, and the free chunks behind it are listed
pub record IsWalked (old words : List ℕ) (free : FreeLists) (at to : ℕ) (cs : List Chunk) : Type 0 where
  pub done : List Chunk
  pub rest : List Chunk
  pub is : cs ≡ done ++ rest
  pub ahead : Cuts old at to rest
  pub lists : Lists words free (free_runs old done)
  pub before : (k : ℕ) → at ≤ k → cover (free_runs old done) k ≡ 0
  pub others : (k : ℕ) → cover (free_runs old done) k ≡ 0 → get_or words k 0 ≡ get_or old k 0

pub walk_begins : (words : List ℕ) (free : FreeLists) (from to : ℕ) (cs : List Chunk) → Lists words free [] → Cuts words from to cs → IsWalked words words free from to cs
unfolding free_runs
walk_begins words free from to cs l t = record { done = []; rest = cs; is = refl; ahead = t; lists = l; before = λ k ge. refl; others = λ k e. refl }

-- the header of the next chunk, and its end, lie in the rest of the row
pub record IsNext (at to start end : ℕ) : Type 0 where
  pub from : at ≤ start
  pub room : start + 2 ≤ end
  pub fits : end ≤ to

module _ (old words : List ℕ) (free : FreeLists) (at to : ℕ) (cs : List Chunk) (w : IsWalked old words free at to cs) where
  abbrev here : Chunk
  here = chunk_of at (get_or words at 0)

  -- the words ahead are those of the beginning
  ahead_same : (k : ℕ) → at ≤ k → get_or words k 0 ≡ get_or old k 0
  ahead_same k ge = w.others k (w.before k ge)

  -- the rest of the row begins with the chunk that the words tell
  record Meets : Type 0 where
    rest : List Chunk
    is : w.rest ≡ here ∷ rest
    cut : Cuts old (at + here.size) to rest

  meets : at < to → Meets
  meets lt = go w.rest refl w.ahead
    where
      go : (rest : List Chunk) → w.rest ≡ rest → Cuts old at to rest → Meets
      go [] is t = absurd (omega (arith, t, lt))
      go (c ∷ ds) is t =
          let same : c ≡ here = t.0.is ∙ ap (chunk_of at) (sym (ahead_same at (omega arith))) in
          record {
            rest = ds;
            is = is ∙ ap (λ d. d ∷ ds) same;
            cut = subst (λ (d : Chunk). Cuts old (at + d.size) to ds) same t.1;
          }

  -- a step of the walk, from the words that it reads
  module _ (first start end : ℕ) (first_is : first ≡ get_or words at 0) (start_is : start ≡ (chunk_of at first).start) (end_is : end ≡ at + (chunk_of at first).size) where
    same_start : start ≡ here.start
    same_start = start_is ∙ ap (λ f. (chunk_of at f).start) first_is

    same_end : end ≡ at + here.size
    same_end = end_is ∙ ap (λ f. at + (chunk_of at f).size) first_is

    pub walk_next : at < to → IsNext at to start end
    walk_next lt =
        let l = chunk_of-lies at (get_or words at 0) in
        let up = cuts_up old (at + here.size) to (meets lt).rest (meets lt).cut in
        record {
          from = omega (arith, same_start, l.from);
          room = omega (arith, same_start, same_end, l.room);
          fits = omega (arith, same_end, up);
        }

    -- the run of the chunk, if it is free, before those that are listed
    abbrev listed : ℕ → List (ℕ × ℕ)
    listed header = with_run (is_free header) (at, end - at) (free_runs old w.done)

    listed_are : (header : ℕ) → header ≡ get_or words start 0 → listed header ≡ with_this old w.done here
    listed_are header header_is =
        let l = chunk_of-lies at (get_or words at 0) in
        let word : header ≡ get_or old here.start 0 = header_is ∙ ap (λ n. get_or words n 0) same_start ∙ ahead_same here.start l.from in
        let size : end - at ≡ here.size = omega (arith, same_end) in
        let free' : Bool = is_free (get_or old here.start 0) in
        ap (λ h. with_run (is_free h) (at, end - at) (free_runs old w.done)) word ∙ ap (λ n. with_run free' (at, n) (free_runs old w.done)) size
        ∙ ap (λ n. with_run free' (n, here.size) (free_runs old w.done)) (sym l.at_is)

    pub walk_on : (header : ℕ) → header ≡ get_or words start 0 → at < to → (new : List ℕ) (free' : FreeLists) → Lists new free' (listed header)
        → ((k : ℕ) → cover (listed header) k ≡ 0 → get_or new k 0 ≡ get_or words k 0) → IsWalked old new free' end to cs
    walk_on header header_is lt new free' lists others =
        let l = chunk_of-lies at (get_or words at 0) in
        let m = meets lt in
        let same = listed_are header header_is in
        let free'' : Bool = is_free (get_or old here.start 0) in
        subst (λ e. IsWalked old new free' e to cs) (sym same_end) (record {
          done = w.done ++ here ∷ [];
          rest = m.rest;
          is = w.is ∙ ap (λ rs. w.done ++ rs) m.is ∙ sym (append_assoc w.done (here ∷ []) m.rest);
          ahead = m.cut;
          lists = lists_permuted new free' (with_this old w.done here) (free_runs old (w.done ++ here ∷ [])) (more_runs old w.done here) (subst (Lists new free') same lists);
          before = λ k ge. more_cover old w.done here k ∙ with_run-cover free'' here.at here.size (free_runs old w.done) k (inr (omega (arith, l.at_is))) ∙ w.before k (omega arith);
          others = λ k out.
              let none : cover (with_this old w.done here) k ≡ 0 = sym (more_cover old w.done here k) ∙ out in
              others k (ap (λ rs. cover rs k) same ∙ none) ∙ w.others k (with_run-outside free'' (here.at, here.size) (free_runs old w.done) k none);
        })

  -- where the walk ends
  pub walk_ends : to ≤ at → cs ≡ w.done
  walk_ends le = go w.rest w.is w.ahead
    where
      go : (rest : List Chunk) → cs ≡ w.done ++ rest → Cuts old at to rest → cs ≡ w.done
      go [] is t = is ∙ append-nil w.done
      go (c ∷ rest) is t = let l = lies old at c t.0 in let u = cuts_up old (at + c.size) to rest t.1 in absurd (omega (arith, l.from, l.room, u))

-- the free chunks of a row begin in it
pub free_below : (words : List ℕ) (at to : ℕ) (cs : List Chunk) → Cuts words at to cs → (k : ℕ) → k < at → cover (free_runs words cs) k ≡ 0
unfolding free_runs
free_below words at to [] t k lt = refl
free_below words at to (c ∷ cs) t k lt =
    let l = lies words at c t.0 in
    with_run-cover (is_free (get_or words c.start 0)) c.at c.size (free_runs words cs) k (inl (omega (arith, l.at_is))) ∙ free_below words (at + c.size) to cs t.1 k (omega arith)

-- ---- the row once its free chunks were written anew

module _ (old new : List ℕ) (to : ℕ) where
  abbrev Frees : List (ℕ × ℕ) → Type 0
  Frees runs = (x : ℕ × ℕ) → Contains runs x → IsFree new x.0 x.1

  abbrev Keeps : ℕ → List (ℕ × ℕ) → Type 0
  Keeps at runs = (k : ℕ) → at ≤ k → k < to → cover runs k ≡ 0 → get_or new k 0 ≡ get_or old k 0

  -- the first chunk is a chunk again
  again : (at : ℕ) (c : Chunk) (runs : List (ℕ × ℕ)) (free : Bool) → IsChunk old at c → at + c.size ≤ to → ((k : ℕ) → k < at + c.size → cover runs k ≡ 0)
      → Frees (with_run free (c.at, c.size) runs) → Keeps at (with_run free (c.at, c.size) runs) → IsChunk new at (cond free (written c.at c.size) c)
  again at c runs true k room below frees keeps =
      let l = lies old at c k in
      subst (λ a. IsChunk new a (written c.at c.size)) l.at_is (free_is_written new c.at c.size (frees (c.at, c.size) (0, omega arith, refl))).chunk
  again at c runs false k room below frees keeps =
      let l = lies old at c k in
      chunk_same old new at c k (keeps at (omega arith) (omega (arith, room, l.room, l.from)) (below at (omega (arith, l.room, l.from))))
      (keeps c.start l.from (omega (arith, room, l.room)) (below c.start (omega (arith, l.room))))

  size_again : (c : Chunk) (free : Bool) → (cond free (written c.at c.size) c).size ≡ c.size
  size_again c true = refl
  size_again c false = refl

  frees_on : (run : ℕ × ℕ) (runs : List (ℕ × ℕ)) (free : Bool) → Frees (with_run free run runs) → Frees runs
  frees_on run runs true frees = λ x there. frees x (Contains-append_right (run ∷ []) runs x there)
  frees_on run runs false frees = frees

  pub cuts_rewritten : (at : ℕ) (cs : List Chunk) → Cuts old at to cs → Frees (free_runs old cs) → Keeps at (free_runs old cs) → Cuts new at to (rewritten old cs)
  unfolding rewritten free_runs
  cuts_rewritten at [] t frees keeps = t
  cuts_rewritten at (c ∷ cs) t frees keeps =
      let free : Bool = is_free (get_or old c.start 0) in
      let runs : List (ℕ × ℕ) = free_runs old cs in
      let l = lies old at c t.0 in
      let rest = cuts_rewritten (at + c.size) cs t.1 (frees_on (c.at, c.size) runs free frees)
      (λ k ge lt out. keeps k (omega (arith, ge)) lt (with_run-cover free c.at c.size runs k (inr (omega (arith, ge, l.at_is))) ∙ out)) in (
        again at c runs free t.0 (cuts_up old (at + c.size) to cs t.1) (free_below old (at + c.size) to cs t.1) frees keeps,
        subst (λ n. Cuts new (at + n) to (rewritten old cs)) (sym (size_again c free)) rest,
      )
