-- Mark bits are cleared chunk by chunk, row by row.
use Rattle.std.proofs.Common.{◌≡◌, ◌≢◌, ◌⊎◌, ℕ, ◌+◌, ◌<◌, ◌≤◌, List, ◌++◌, length, get_or, set, refl, append_assoc, sym, ap, ◌∙◌, subst, arith, inl, inr}
use Rattle.std.proofs.lemmas.List.{length-set, get_or-set_same, get_or-set_other}
use Rattle.object_header.specs.Chunks.{Chunk, chunk_of, Cuts, row}
use Rattle.spur_graph.specs.declared.limits.Limits.{Limits}
use Rattle.spur_graph.specs.Spaces.{Spaces, AreSpaces, AreRows, old_row, eden_row, past_row, rows}
use Rattle.heap_cells.proofs.Cutting.{Lies, cuts-in_order, stands}
use Rattle.heap_cells.proofs.Spaced.{one-row, eden_past}
use Rattle.heap_cells.proofs.Writing.{keeps-same}
use Rattle.heap_cells.proofs.Members.{In, in_list, listed, in_either, in_left, in_right}
use Rattle.spur_heap.specs.MarkBits.{without_mark, IsNoHeaderOf, Unmarks}
use Rattle.spur_heap.proofs.NextChunk.{IsNext, meets, next, none_left}

-- the headers before `at` are without their mark bits, and the rest of the chunks stand between there and `end`
pub record IsCleared (words new : List ℕ) (at end : ℕ) (cs : List Chunk) : Type 0 where
  pub rest : List Chunk
  pub cut : Cuts words at end rest
  pub among : (c : Chunk) → In rest c → In cs c
  pub passed : (c : Chunk) → In cs c → In rest c ⊎ ((c.start < at) × (get_or new c.start 0 ≡ without_mark (get_or words c.start 0)))
  pub ahead : (j : ℕ) → at ≤ j → get_or new j 0 ≡ get_or words j 0
  pub others : (j : ℕ) → IsNoHeaderOf cs j → get_or new j 0 ≡ get_or words j 0
  pub long : length new ≡ length words

pub clearing_begins : (words : List ℕ) (at end : ℕ) (cs : List Chunk) → Cuts words at end cs → IsCleared words words at end cs
clearing_begins words at end cs t = record { rest = cs; cut = t; among = λ c m. m; passed = λ c m. inl m; ahead = λ j l. refl; others = λ j n. refl; long = refl }

module _ (words new : List ℕ) (at end : ℕ) (cs : List Chunk) (w : IsCleared words new at end cs) where
  abbrev here : Chunk
  here = chunk_of at (get_or words at 0)

  pub next_cleared : at < end → IsNext words at end
  next_cleared l = next words at end w.rest w.cut l

  pub clear_on : at < end → end ≤ length words → IsCleared words (set new here.start (without_mark (get_or new here.start 0))) (at + here.size) end cs
  clear_on l within =
      let m = meets words at end w.rest w.cut l in
      let b = next_cleared l in
      let word : ℕ = without_mark (get_or new here.start 0) in
      let inside : here.start < length new = let n = w.long in omega (arith, n, b.room, b.fits, within) in
      let its : In w.rest here = subst (λ (ds : List Chunk). In ds here) (sym m.is) (inl refl) in
      let other : (j : ℕ) → j ≢ here.start → get_or (set new here.start word) j 0 ≡ get_or new j 0 = λ j n. get_or-set_other new here.start j word 0 n in
      let then : get_or (set new here.start word) here.start 0 ≡ without_mark (get_or words here.start 0) = get_or-set_same new here.start word 0 inside ∙ ap without_mark (w.ahead here.start b.after) in
      record {
        rest = m.more;
        cut = m.tail;
        among = λ c k. w.among c (subst (λ (ds : List Chunk). In ds c) (sym m.is) (inr k));
        passed = λ c k. elim (w.passed c k) [
          | inl ahead ↦ elim (subst (λ (ds : List Chunk). In ds c) m.is ahead) [
            | inl e ↦ inr (subst (λ (d : Chunk). (d.start < at + here.size) × (get_or (set new here.start word) d.start 0 ≡ without_mark (get_or words d.start 0))) e (omega (arith, b.room), then))
            | inr more ↦ inl more
          ]
          | inr behind ↦ inr (let low = behind.0 in (omega (arith, low, b.after, b.room), other c.start (λ e. omega (arith, e, low, b.after)) ∙ behind.1))
        ];
        ahead = λ j far. other j (λ e. omega (arith, e, far, b.room)) ∙ w.ahead j (omega (arith, far, b.after, b.room));
        others = λ j n. other j (n here (listed cs here (w.among here its))) ∙ w.others j n;
        long = length-set new here.start word ∙ w.long;
      }

  -- behind the last chunk all are
  pub cleared_all : end ≤ at → Unmarks words new cs
  cleared_all l = record {
    long = w.long;
    headers = λ c m. elim (w.passed c (in_list cs c m)) [
      | inl ahead ↦ absurd (subst (λ (ds : List Chunk). In ds c) (none_left words at end w.rest w.cut l) ahead)
      | inr behind ↦ behind.1
    ];
    others = w.others;
  }

-- ---- one row behind another

module _ (words mid : List ℕ) (cs : List Chunk) (u : Unmarks words mid cs) (from end : ℕ) (below : (c : Chunk) → In cs c → c.start < from) (cut : Cuts words from end (row words from end)) where
  abbrev ds : List Chunk
  ds = row words from end

  lies : (c : Chunk) → In ds c → Lies from end c
  lies c m = (stands words from end ds c (cuts-in_order words from end ds cut) m).lies

  untouched : (j : ℕ) → from ≤ j → get_or mid j 0 ≡ get_or words j 0
  untouched j l = u.others j (λ c m e. let b = below c (in_list cs c m) in omega (arith, b, l, e))

  pub row_behind : (row mid from end ≡ ds) × Cuts mid from end (row mid from end)
  row_behind = one-row words mid from end cut (λ c m. let l = lies c m in keeps-same words mid c (untouched c.at l.after) (untouched c.start (omega (arith, l.after, l.lead))))

  pub both_cleared : (new : List ℕ) → Unmarks mid new (row mid from end) → Unmarks words new (cs ++ ds)
  both_cleared new then =
      let w : Unmarks mid new ds = subst (λ (es : List Chunk). Unmarks mid new es) row_behind.0 then in
      record {
        long = w.long ∙ u.long;
        headers = λ c m. elim (in_either cs ds c (in_list (cs ++ ds) c m)) [
          | inl first ↦
              let b = below c first in
              w.others c.start (λ d n e. let l = lies d (in_list ds d n) in omega (arith, b, l.after, l.lead, e)) ∙ u.headers c (listed cs c first)
          | inr second ↦ let l = lies c second in w.headers c (listed ds c second) ∙ ap without_mark (untouched c.start (omega (arith, l.after, l.lead)))
        ];
        others = λ j n.
            w.others j (λ d m. n d (listed (cs ++ ds) d (in_right cs ds d (in_list ds d m))))
            ∙ u.others j (λ d m. n d (listed (cs ++ ds) d (in_left cs ds d (in_list cs d m))));
      }

-- old space, eden and past space
module _ (words : List ℕ) (limits : Limits) (p : Spaces) (k : AreSpaces (length words) limits p) (r : AreRows words p) (one : List ℕ) (u : Unmarks words one (old_row words p)) where
  old_below : (c : Chunk) → In (old_row words p) c → c.start < p.eden_at
  old_below c m =
      let l = (stands words 0 p.old_end (old_row words p) c (cuts-in_order words 0 p.old_end (old_row words p) r.old) m).lies in
      let b = k.eden_behind in
      omega (arith, l.room, l.before, b)

  pub eden_stands : (eden_row one p ≡ eden_row words p) × Cuts one p.eden_at (p.eden_at + p.eden_used) (eden_row one p)
  eden_stands = row_behind words one (old_row words p) u p.eden_at (p.eden_at + p.eden_used) old_below r.eden

  module _ (two : List ℕ) (w : Unmarks one two (eden_row one p)) where
    first_two : Unmarks words two (old_row words p ++ eden_row words p)
    first_two = both_cleared words one (old_row words p) u p.eden_at (p.eden_at + p.eden_used) old_below r.eden two w

    both_below : (c : Chunk) → In (old_row words p ++ eden_row words p) c → c.start < p.past_at
    both_below c m =
        let far = eden_past words limits p k in
        elim (in_either (old_row words p) (eden_row words p) c m) [
          | inl old ↦ let b = old_below c old in omega (arith, b, far)
          | inr eden ↦
              let l = (stands words p.eden_at (p.eden_at + p.eden_used) (eden_row words p) c (cuts-in_order words p.eden_at (p.eden_at + p.eden_used) (eden_row words p) r.eden) eden).lies in
              omega (arith, l.room, l.before, far)
        ]

    pub past_stands : (past_row two p ≡ past_row words p) × Cuts two p.past_at (p.past_at + p.past_used) (past_row two p)
    past_stands = row_behind words two (old_row words p ++ eden_row words p) first_two p.past_at (p.past_at + p.past_used) both_below r.past

    pub all_cleared : (new : List ℕ) → Unmarks two new (past_row two p) → Unmarks words new (rows words p)
    all_cleared new then =
        subst (λ (cs : List Chunk). Unmarks words new cs) (append_assoc (old_row words p) (eden_row words p) (past_row words p))
        (both_cleared words two (old_row words p ++ eden_row words p) first_two p.past_at (p.past_at + p.past_used) both_below r.past new then)
