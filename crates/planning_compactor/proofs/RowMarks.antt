-- The objects of a range that is a row of chunks, as a list.
use Rattle.std.proofs.Common.{◌≡◌, ◌≢◌, ℕ, Bool, true, false, cond, ◌+◌, ◌-◌, ◌<◌, ◌≤◌, max, List, [], ◌∷◌, map, get_or, refl, sym, ap, ◌∙◌, subst, inl, inr, arith}
use Rattle.std.specs.List.{filter}
use Rattle.std.proofs.lemmas.Bool.{cases_Bool, cases_eq, cases_lt, false_from_ne_true}
use Rattle.object_header.specs.Chunks.{Chunk, leads, InOrder}
use Rattle.spur_graph.specs.Planned.{Marked}
use Rattle.heap_cells.specs.Rows.{starts_of}
use Rattle.heap_cells.proofs.Members.{In, chunk_of_start}
use Rattle.heap_cells.proofs.Cutting.{head, shape, stands, ends_after}
use Rattle.heap_walk.specs.Shapes.{lead_at, place_at, words_at}
use Rattle.compaction_laws.specs.Compacting.{is_pinned}
use Rattle.planning_compactor.specs.Planning.{mark_at, marks}
use Rattle.planning_compactor.proofs.Lists.{marks-skip, marks-here, marks-none}

-- a chunk as it is planned
abbrev pub mark_of : List ℕ → Chunk → Marked
mark_of words c = record { at = c.at; start = c.start; size = c.size; pinned = is_pinned words c.start }

-- the words of a chunk are told at its start
pub record IsToldAt (words : List ℕ) (c : Chunk) : Type 0 where
  pub place : place_at words c.start ≡ c.at
  pub size : words_at words c.start ≡ c.size

pub told-at : (words : List ℕ) (at end : ℕ) (cs : List Chunk) (c : Chunk) → InOrder words at end cs → In cs c → IsToldAt words c
told-at words at end cs c t m =
    let h = shape words c (stands words at end cs c t m).chunk in
    let lead = h.lead in
    let size = h.size in
    let slots = h.slots in
    record { place = omega (arith, lead); size = omega (arith, lead, size, slots) }

mark-told : (words : List ℕ) (c : Chunk) → IsToldAt words c → mark_at words c.start ≡ mark_of words c
mark-told words c t = λ i. record { at = t.place i; start = c.start; size = t.size i; pinned = is_pinned words c.start }

module _ (has : ℕ → Bool) (words : List ℕ) where
  -- each that starts there is one of the row
  abbrev pub AreOf : ℕ → ℕ → List Chunk → Type 0
  AreOf at end cs = (s : ℕ) → has s ≡ true → at ≤ s → s < end → In (starts_of cs) s

  none-else : (at end : ℕ) (cs : List Chunk) → AreOf at end cs → (s : ℕ) → at ≤ s → s < end → ((c : Chunk) → In cs c → c.start ≢ s) → has s ≡ false
  none-else at end cs of s l m other = false_from_ne_true (has s) (λ on. let r = chunk_of_start cs s (of s on l m) in other r.0 r.1 r.2)

  pub row-marks : (at end : ℕ) (cs : List Chunk) → InOrder words at end cs → AreOf at end cs → marks has words at end ≡ map (mark_of words) (filter (λ (c : Chunk). has c.start) cs)
  row-marks at end [] t of = marks-none has words at end (λ s l m. none-else at end [] of s l m (λ c k. absurd k))
  row-marks at end (c ∷ cs) t of =
      let h = head words at end c cs t in
      let after = h.after in
      let lead = h.lead in
      let room = h.room in
      let rest = t.1.1 in
      let last = ends_after words (c.at + c.size) end cs rest in
      -- the others start behind it
      let behind : (d : Chunk) → In cs d → c.at + c.size ≤ d.start = λ d m. (let l = (stands words (c.at + c.size) end cs d rest m).lies in let a = l.after in let b = l.lead in omega (arith, a, b)) in
      let front : marks has words at end ≡ marks has words c.start end =
      marks-skip has words at c.start end (omega (arith, after, lead)) (omega (arith, room, last))
      (λ s l m. none-else at end (c ∷ cs) of s l (omega (arith, m, room, last)) (λ d k e. elim k [
        | inl is ↦ (let z : c.start ≡ d.start = ap (λ (x : Chunk). x.start) is in omega (arith, z, e, m))
        | inr k' ↦ (let b = behind d k' in omega (arith, b, e, m, room))
      ])) in
      let back : marks has words (c.start + 1) end ≡ marks has words (c.at + c.size) end =
      marks-skip has words (c.start + 1) (c.at + c.size) end (omega (arith, room)) last
      (λ s l m. none-else at end (c ∷ cs) of s (omega (arith, l, after, lead)) (omega (arith, m, last)) (λ d k e. elim k [
        | inl is ↦ (let z : c.start ≡ d.start = ap (λ (x : Chunk). x.start) is in omega (arith, z, e, l))
        | inr k' ↦ (let b = behind d k' in omega (arith, b, e, m))
      ])) in
      let more : marks has words (c.at + c.size) end ≡ map (mark_of words) (filter (λ (d : Chunk). has d.start) cs) =
      row-marks (c.at + c.size) end cs rest (λ s on l m. elim (of s on (omega (arith, l, after)) m) [
        | inl is ↦ absurd (omega (arith, is, l, room))
        | inr k ↦ k
      ]) in
      elim (cases_Bool (has c.start)) [
        | inl on ↦
            front ∙ marks-here has words c.start end (omega (arith, room, last)) on
            ∙ (λ i. mark-told words c (told-at words at end (c ∷ cs) c t (inl refl)) i ∷ (back ∙ more) i)
            ∙ sym (ap (λ b. map (mark_of words) (cond b (c ∷ filter (λ (d : Chunk). has d.start) cs) (filter (λ (d : Chunk). has d.start) cs))) on)
        | inr off ↦
            front
            ∙ marks-skip has words c.start (c.start + 1) end (omega arith) (omega (arith, room, last)) (λ s l m. (let e : s ≡ c.start = omega (arith, l, m) in ap has e ∙ off))
            ∙ back ∙ more
            ∙ sym (ap (λ b. map (mark_of words) (cond b (c ∷ filter (λ (d : Chunk). has d.start) cs) (filter (λ (d : Chunk). has d.start) cs))) off)
      ]
