-- The steps of the two walks.
use Rattle.std.proofs.Common.{◌≡◌, ◌≢◌, ℕ, ◌+◌, ◌-◌, ◌<◌, ◌≤◌, List, length, get_or, set, sym, ap, ◌∙◌, subst, inl, inr, arith}
use Rattle.std.specs.Option.{unwrap_or}
use Rattle.std.proofs.lemmas.Bool.{cases_eq}
use Rattle.std.proofs.lemmas.List.{length-set, get_or-set_other, get_or-set_same}
use Rattle.object_header.specs.Fields.{fields_of}
use Rattle.object_header.specs.Head.{class_of}
use Rattle.spur_graph.specs.Segments.{Segment, word_in}
use Rattle.object_header.specs.Chunks.{Chunk, chunk_of}
use Rattle.spur_graph.specs.Cells.{Store, start_named}
use Rattle.spur_graph.specs.Heaps.{HasNoUnusedBits}
use Rattle.heap_cells.specs.Settled.{word_of}
use Rattle.heap_cells.proofs.Cutting.{chunk_of-lies, chunk_of-at}
use Rattle.image_settle.specs.Settles.{IsCleared, IsTurned, unmarked, slot_in}
use Rattle.image_settle.proofs.Walking.{Walking, walk_goes, comes}

-- the chunk at `at`, as a span
pub record Spans (words : List ℕ) (at start slots end : ℕ) : Type 0 where
  pub start_is : start ≡ (chunk_of at (get_or words at 0)).start
  pub slots_is : slots ≡ (chunk_of at (get_or words at 0)).slots
  pub end_is : end ≡ at + (chunk_of at (get_or words at 0)).size

-- one chunk of the first walk
pub record Settles (h : Store) (new next : List ℕ) (start slots : ℕ) : Type 0 where
  pub same_len : length next ≡ length new
  pub header : fields_of (get_or next start 0) ≡ unmarked (fields_of (get_or new start 0))
  pub unused : HasNoUnusedBits (get_or next start 0)
  pub slots_are : (j : ℕ) → start < j → j < start + 1 + slots → get_or next j 0 ≡ slot_in h start (h.cell start) (j - start - 1) (get_or new j 0)
  pub before : (j : ℕ) → j < start → get_or next j 0 ≡ get_or new j 0
  pub behind : (j : ℕ) → start + 1 + slots ≤ j → get_or next j 0 ≡ get_or new j 0

-- one chunk of the second walk
pub record Turns (segs : List Segment) (new next : List ℕ) (start : ℕ) : Type 0 where
  pub turned : class_of (get_or new start 0) ≡ 8 → next ≡ set new (start + 1) (word_of (start_named (word_in segs 0) new (get_or new (start + 1) 0)))
  pub kept : class_of (get_or new start 0) ≢ 8 → next ≡ new

-- a word of the second walk
turned_word : (segs : List Segment) (new next : List ℕ) (start : ℕ) → Turns segs new next start → start + 1 < length new → (j : ℕ) → (j ≢ start + 1 → get_or next j 0 ≡ get_or new j 0)
turned_word segs new next start t l j ne = elim (cases_eq (class_of (get_or new start 0)) 8) [
  | inl e ↦ ap (λ ws. get_or ws j 0) (t.turned e) ∙ get_or-set_other new (start + 1) j (word_of (start_named (word_in segs 0) new (get_or new (start + 1) 0))) 0 ne
  | inr n ↦ ap (λ ws. get_or ws j 0) (t.kept n)
]

pub turned_long : (segs : List Segment) (new next : List ℕ) (start : ℕ) → Turns segs new next start → length next ≡ length new
turned_long segs new next start t = elim (cases_eq (class_of (get_or new start 0)) 8) [
  | inl e ↦ ap length (t.turned e) ∙ length-set new (start + 1) (word_of (start_named (word_in segs 0) new (get_or new (start + 1) 0)))
  | inr n ↦ ap length (t.kept n)
]

module _ (old : List ℕ) (cs : List Chunk) (new next : List ℕ) (at start slots end : ℕ) where
  -- a span read from the words as they are is that of the words as they were
  pub spans_old : Spans new at start slots end → get_or new at 0 ≡ get_or old at 0 → Spans old at start slots end
  spans_old s e = let k = ap (chunk_of at) e in record {
    start_is = s.start_is ∙ ap (λ (x : Chunk). x.start) k;
    slots_is = s.slots_is ∙ ap (λ (x : Chunk). x.slots) k;
    end_is = s.end_is ∙ ap (λ (x : Chunk). at + x.size) k;
  }

  pub settles_step : (h : Store) → Walking (λ c j w. IsCleared h old c j w) old new cs at → at < length old → Spans new at start slots end → Settles h new next start slots
      → Walking (λ c j w. IsCleared h old c j w) old next cs end
  settles_step h w l spans k =
      let s = spans_old spans (w.same at (omega arith)) in
      let c = chunk_of at (get_or old at 0) in
      let lies = chunk_of-lies at (get_or old at 0) in
      let place = chunk_of-at at (get_or old at 0) in
      let low : at ≤ start = omega (arith, s.start_is, lies.lead, place) in
      let room : start + 1 + slots ≤ end = omega (arith, s.start_is, s.slots_is, s.end_is, lies.slots, place) in
      subst (Walking (λ d j v. IsCleared h old d j v) old next cs) (sym s.end_is) (walk_goes (λ d j v. IsCleared h old d j v) old cs new next at w l k.same_len
      (λ j a. k.before j (omega (arith, low)))
      (λ j a. k.behind j (omega (arith, room, s.end_is)))
      (λ j a b. record {
        header = λ e.
            let is : j ≡ start = e ∙ sym s.start_is in
            ap (λ n. fields_of (get_or next n 0)) is ∙ k.header ∙ ap (λ n. unmarked (fields_of (get_or new n 0))) (sym is) ∙ ap (λ v. unmarked (fields_of v)) (w.same j a);
        unused = λ e. subst (λ n. HasNoUnusedBits (get_or next n 0)) (s.start_is ∙ sym e) k.unused;
        slots = λ m n.
            k.slots_are j (omega (arith, m, s.start_is)) (omega (arith, n, s.start_is, s.slots_is))
            ∙ ap (λ v. slot_in h start (h.cell start) (j - start - 1) v) (w.same j a)
            ∙ ap (λ n. slot_in h n (h.cell n) (j - n - 1) (get_or old j 0)) s.start_is;
        before = λ m. k.before j (omega (arith, m, s.start_is)) ∙ w.same j a;
        behind = λ m. k.behind j (omega (arith, m, s.start_is, s.slots_is)) ∙ w.same j a;
      }))

  -- a chunk that is no forwarder, and was settled
  pub others_step : (h : Store) → Walking (λ c j w. class_of (get_or old c.start 0) ≢ 8) old new cs at → at < length old → Spans new at start slots end → Settles h new next start slots
      → class_of (get_or new start 0) ≢ 8 → Walking (λ c j w. class_of (get_or old c.start 0) ≢ 8) old next cs end
  others_step h w l spans k other =
      let s = spans_old spans (w.same at (omega arith)) in
      let lies = chunk_of-lies at (get_or old at 0) in
      let place = chunk_of-at at (get_or old at 0) in
      let low : at ≤ start = omega (arith, s.start_is, lies.lead, place) in
      let room : start + 1 + slots ≤ end = omega (arith, s.start_is, s.slots_is, s.end_is, lies.slots, place) in
      let class : class_of (get_or new start 0) ≡ class_of (get_or old (chunk_of at (get_or old at 0)).start 0) = ap class_of (w.same start low) ∙ ap (λ n. class_of (get_or old n 0)) s.start_is in
      subst (Walking (λ d j v. class_of (get_or old d.start 0) ≢ 8) old next cs) (sym s.end_is) (walk_goes (λ d j v. class_of (get_or old d.start 0) ≢ 8) old cs new next at w l k.same_len
      (λ j a. k.before j (omega (arith, low)))
      (λ j a. k.behind j (omega (arith, room, s.end_is)))
      (λ j a b e. other (class ∙ e)))

  pub turns_step : (segs : List Segment) → Walking (λ c j w. IsTurned segs old c j w) old new cs at → at < length old → Spans new at start slots end → Turns segs new next start
      → Walking (λ c j w. IsTurned segs old c j w) old next cs end
  turns_step segs w l spans k =
      let s = spans_old spans (w.same at (omega arith)) in
      let lies = chunk_of-lies at (get_or old at 0) in
      let place = chunk_of-at at (get_or old at 0) in
      let come = comes (λ d j v. IsTurned segs old d j v) old cs new at w l in
      let low : at ≤ start = omega (arith, s.start_is, lies.lead, place) in
      let room : start + 2 ≤ end = omega (arith, s.start_is, s.end_is, lies.room, place) in
      let fits : start + 1 < length new = omega (arith, come.lies.room, come.lies.before, s.start_is, w.long) in
      let other = turned_word segs new next start k fits in
      let class : class_of (get_or new start 0) ≡ class_of (get_or old (chunk_of at (get_or old at 0)).start 0) = ap class_of (w.same start low) ∙ ap (λ n. class_of (get_or old n 0)) s.start_is in
      subst (Walking (λ d j v. IsTurned segs old d j v) old next cs) (sym s.end_is) (walk_goes (λ d j v. IsTurned segs old d j v) old cs new next at w l (turned_long segs new next start k)
      (λ j a. other j (λ e. omega (arith, e, low)))
      (λ j a. other j (λ e. omega (arith, e, room, s.end_is)))
      (λ j a b. record {
        target = λ m e.
            let is : j ≡ start + 1 = e ∙ ap (λ n. n + 1) (sym s.start_is) in
            let v = word_of (start_named (word_in segs 0) new (get_or new (start + 1) 0)) in
            ap (λ n. get_or next n 0) is ∙ ap (λ ws. get_or ws (start + 1) 0) (k.turned (class ∙ m)) ∙ get_or-set_same new (start + 1) v 0 fits
            ∙ ap (λ n. word_of (start_named (word_in segs 0) new (get_or new n 0))) (sym is)
            ∙ ap (λ x. word_of (start_named (word_in segs 0) new x)) (w.same j a)
            ∙ ap (λ n. word_of (unwrap_or (word_in segs 0 (get_or old j 0)) n)) w.long;
        kept = λ n. ap (λ ws. get_or ws j 0) (k.kept (λ m. n (sym class ∙ m))) ∙ w.same j a;
        others = λ n. other j (λ e. n (e ∙ ap (λ i. i + 1) s.start_is)) ∙ w.same j a;
      }))

-- the chunk at `at` is inside
pub record Fits (new : List ℕ) (at start end : ℕ) : Type 0 where
  pub inside : start + 1 < length new
  pub ahead : at < end

pub span_fits : (R : Chunk → ℕ → ℕ → Type 0) (old : List ℕ) (cs : List Chunk) (new : List ℕ) (at start slots end : ℕ) → Walking R old new cs at → at < length old → Spans new at start slots end → Fits new at start end
span_fits R old cs new at start slots end w l spans =
    let s = spans_old old cs new new at start slots end spans (w.same at (omega arith)) in
    let k = comes R old cs new at w l in
    record { inside = omega (arith, s.start_is, k.lies.room, k.lies.before, w.long); ahead = omega (arith, s.end_is, k.lies.room, k.lies.lead, k.at) }
