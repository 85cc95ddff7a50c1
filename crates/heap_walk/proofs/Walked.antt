-- A walk over a row of chunks that marks their starts.
use Rattle.std.proofs.Common.{◌≡◌, ℕ, Bool, true, false, not, eqb, ◌&&◌, ◌||◌, ◌+◌, ◌<◌, ◌≤◌, List, [], ◌∷◌, get_or, refl, sym, ap, ◌∙◌, subst, arith, inl, inr}
use mathlib.Core.Bool.{and-false, or-false}
use Rattle.std.proofs.lemmas.Bool.{cases_Bool, cases_eq, eq-eqb, ne_eqb}
use Rattle.object_header.specs.Chunks.{Chunk, leads, chunk_of, Cuts, starts_in}
use Rattle.object_header.specs.Head.{class_of}
use Rattle.heap_walk.specs.Starts.{has_start}
use Rattle.heap_walk.specs.declared.starts.StartMap.{StartMap}

-- the chunks before `at` are marked, and the rest stand between there and `end`
pub record IsWalked (words : List ℕ) (at end : ℕ) (cs : List Chunk) (map : StartMap) : Type 0 where
  pub rest : List Chunk
  pub cut : Cuts words at end rest
  pub marked : (s : ℕ) → has_start map s || starts_in words rest s ≡ starts_in words cs s

-- the chunk at `at` is the next one, with a word behind its header
pub record IsNext (words : List ℕ) (at end : ℕ) : Type 0 where
  pub after : at ≤ (chunk_of at (get_or words at 0)).start
  pub room : (chunk_of at (get_or words at 0)).start + 2 ≤ at + (chunk_of at (get_or words at 0)).size
  pub fits : at + (chunk_of at (get_or words at 0)).size ≤ end

starts_behind : (at w : ℕ) → (at ≤ (chunk_of at w).start) × ((chunk_of at w).start + 2 ≤ at + (chunk_of at w).size)
unfolding chunk_of
starts_behind at w = elim (cases_Bool (leads w)) [
  | inl is ↦ rw is (omega arith, omega arith)
  | inr not ↦ rw not (omega arith, omega arith)
]

cuts_up : (words : List ℕ) (at end : ℕ) (cs : List Chunk) → Cuts words at end cs → at ≤ end
cuts_up words at end [] t = omega (arith, t)
cuts_up words at end (c ∷ cs) t = let l = cuts_up words (at + c.size) end cs t.1 in omega (arith, l)

absorbed : (x y : Bool) → x || (y && x) ≡ x
absorbed true y = refl
absorbed false y = and-false y

module _ (words : List ℕ) (at end : ℕ) (cs : List Chunk) (old : StartMap) where
  abbrev here : Chunk
  here = chunk_of at (get_or words at 0)

  pub next : IsWalked words at end cs old → at < end → IsNext words at end
  next w l = go w.rest w.cut
    where
      go : (rest : List Chunk) → Cuts words at end rest → IsNext words at end
      go [] t = absurd (omega (arith, t, l))
      go (c ∷ ds) t =
          let up = cuts_up words (at + here.size) end ds (subst (λ (d : Chunk). Cuts words (at + d.size) end ds) t.0.is t.1) in
          let b = starts_behind at (get_or words at 0) in
          record { after = b.0; room = b.1; fits = up }

  pub walk_on : (new : StartMap) → IsWalked words at end cs old → at < end
      → ((k : ℕ) → has_start new k ≡ (has_start old k || (eqb k here.start && not (eqb (class_of (get_or words here.start 0)) 0)))) → IsWalked words (at + here.size) end cs new
  unfolding starts_in
  walk_on new w l marks = go w.rest w.cut w.marked
    where
      go : (rest : List Chunk) → Cuts words at end rest → ((s : ℕ) → has_start old s || starts_in words rest s ≡ starts_in words cs s) → IsWalked words (at + here.size) end cs new
      go [] t m = absurd (omega (arith, t, l))
      go (c ∷ ds) t m = record {
        rest = ds;
        cut = subst (λ (d : Chunk). Cuts words (at + d.size) end ds) t.0.is t.1;
        marked = λ s. ap (λ b. b || starts_in words ds s) (marks s) ∙ step s (has_start old s) (ap (λ (d : Chunk). d.start) t.0.is) ∙ m s;
      }
        where
          step : (s : ℕ) (b : Bool) → c.start ≡ here.start
              → (b || (eqb s here.start && not (eqb (class_of (get_or words here.start 0)) 0))) || starts_in words ds s ≡ b || starts_in words (c ∷ ds) s
          step s true e = refl
          step s false e = elim (cases_eq s here.start) [
            | inl is ↦ rw (e, is, eq-eqb here.start here.start refl) (absorbed (not (eqb (class_of (get_or words here.start 0)) 0)) _)
            | inr n ↦ rw (e, ne_eqb s here.start n, ne_eqb here.start s (λ k. n (sym k))) refl
          ]

-- behind the last chunk all are marked
pub walked_all : (words : List ℕ) (at end : ℕ) (cs : List Chunk) (map : StartMap) → IsWalked words at end cs map → end ≤ at → (s : ℕ) → has_start map s ≡ starts_in words cs s
unfolding starts_in
walked_all words at end cs map w l s = go w.rest w.cut w.marked
  where
    go : (rest : List Chunk) → Cuts words at end rest → ((k : ℕ) → has_start map k || starts_in words rest k ≡ starts_in words cs k) → has_start map s ≡ starts_in words cs s
    go [] t m = sym (or-false (has_start map s)) ∙ m s
    go (c ∷ ds) t m = absurd (omega (arith, (starts_behind at (get_or words at 0)).0, (starts_behind at (get_or words at 0)).1, ap (λ (d : Chunk). d.size) t.0.is, cuts_up words (at + c.size) end ds t.1, l))
