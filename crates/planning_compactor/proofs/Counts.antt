-- How many free chunks a row has.
use Rattle.std.proofs.Common.{◌≡◌, ℕ, Bool, true, false, not, ◌+◌, ◌<◌, ◌≤◌, ◌⊎◌, List, [], ◌∷◌, refl, ap, inl, inr, arith, cond}
use Rattle.std.specs.List.{count_by}
use Rattle.std.proofs.lemmas.Bool.{cases_Bool, and_from}
use Rattle.std.proofs.lemmas.List.Sums.{sum_by-cons}
use Rattle.object_header.specs.Chunks.{Chunk, Cuts, row}
use Rattle.heap_walk.specs.Shapes.{place_at}
use Rattle.heap_cells.proofs.Members.{In, listed}
use Rattle.heap_cells.proofs.Cutting.{first, stands, shape, cuts-in_order}
use Rattle.compaction_laws.specs.Compacting.{is_pinned}
use Rattle.planning_compactor.specs.Pins.{is_pin}
use Rattle.planning_compactor.specs.Planning.{IsIn}
use Rattle.compaction_laws.specs.Compacting.{free_count, pinned_count}
use Rattle.planning_compactor.specs.Filled.{IsFreeGap, IsCut, IsPacked}

counted : (f : Chunk → Bool) (c : Chunk) (cs : List Chunk) → count_by f (c ∷ cs) ≡ cond (f c) 1 0 + count_by f cs
counted f c cs = sum_by-cons (λ x. cond (f x) 1 0) c cs

one : (b : Bool) → cond b 1 0 ≤ 1
one true = omega arith
one false = omega arith

-- each chunk is an object or a whole gap
abbrev Kinds : (ℕ → Bool) → List ℕ → ℕ → ℕ → List Chunk → Type 0
Kinds has words low end cs = (c : Chunk) → In cs c → (has c.start ≡ true) ⊎ IsFreeGap has words low end c

module _ (has : ℕ → Bool) (words : List ℕ) (low end : ℕ) (packed : IsPacked has words low end) where
  -- the next chunk behind a gap is a pinned object
  behind-gap : (c d : Chunk) → IsFreeGap has words low end c → d.at ≡ c.at + c.size → low ≤ c.at → IsIn has low end d.start → place_at words d.start ≡ d.at → is_pin has words d.start ≡ true
  behind-gap c d g e l i at = elim (cases_Bool (is_pinned words d.start)) [
    | inl on ↦ and_from (has d.start) (is_pinned words d.start) i.0 on
    | inr off ↦ absurd (
        let some = g.gap.some in
        elim (packed d.start i off) [
          | inl front ↦ omega (arith, front, at, e, l, some)
          | inr s ↦
              let z = s.2 in
              elim (g.gap.none s.0 s.1) [ inl k ↦ omega (arith, k, z, at, e, some) | inr k ↦ omega (arith, k, z, at, e) ]
        ])
  ]

  -- two gaps are not side by side
  gaps-apart : (c d : Chunk) → IsFreeGap has words low end c → IsFreeGap has words low end d → d.at ≡ c.at + c.size → d.at < end → ⊥
  gaps-apart c d g h e l = elim g.gap.right [
    | inl z ↦ omega (arith, z, e, l)
    | inr t ↦
        let z = t.2 in
        let some = h.gap.some in
        elim (h.gap.none t.0 t.1) [ inl k ↦ omega (arith, k, z, e) | inr k ↦ omega (arith, k, z, e, some) ]
  ]

  few-from : (x : ℕ) (cs : List Chunk) → low ≤ x → Cuts words x end cs → Kinds has words low end cs → free_count has cs ≤ pinned_count has words cs + 1
  few-from x [] l t k = omega arith
  few-from x (c ∷ []) l t k = omega (arith, counted (λ (y : Chunk). not (has y.start)) c [], one (not (has c.start)))
  few-from x (c ∷ d ∷ ds) l t k =
      let place : c.at ≡ x = (first words x c t.0).1 in
      let next : d.at ≡ x + c.size = (first words (x + c.size) d t.1.0).1 in
      let s = stands words (x + c.size) end (d ∷ ds) d (cuts-in_order words (x + c.size) end (d ∷ ds) t.1) (inl refl) in
      let free_c = counted (λ (y : Chunk). not (has y.start)) c (d ∷ ds) in
      let free_d = counted (λ (y : Chunk). not (has y.start)) d ds in
      let pin_c = counted (λ (y : Chunk). is_pin has words y.start) c (d ∷ ds) in
      let pin_d = counted (λ (y : Chunk). is_pin has words y.start) d ds in
      elim (k c (inl refl)) [
        | inl on ↦
            let deeper = few-from (x + c.size) (d ∷ ds) (omega (arith, l)) t.1 (λ y m. k y (inr m)) in
            let none : ◌≡◌ {A = ℕ} (cond (not (has c.start)) 1 0) 0 = ap (λ b. cond (not b) 1 0) on in
            omega (arith, deeper, free_c, pin_c, none)
        | inr gap ↦ elim (k d (inr (inl refl))) [
          | inr other ↦
              let before = s.lies.before in
              let room = s.lies.room in
              let lead = s.lies.lead in
              absurd (gaps-apart c d gap other (omega (arith, next, place)) (omega (arith, before, room, lead)))
          | inl on ↦
              let deeper = few-from (x + c.size + d.size) ds (omega (arith, l)) t.1.1 (λ y m. k y (inr (inr m))) in
              let h = shape words d s.chunk in
              let start = h.lead in
              let after = s.lies.after in
              let before = s.lies.before in
              let room = s.lies.room in
              let lead = s.lies.lead in
              let i : IsIn has low end d.start = (on, omega (arith, l, after, lead), omega (arith, before, room)) in
              let pin = behind-gap c d gap (omega (arith, next, place)) (omega (arith, l, place)) i (omega (arith, start)) in
              let none : ◌≡◌ {A = ℕ} (cond (not (has d.start)) 1 0) 0 = ap (λ b. cond (not b) 1 0) on in
              let more : ◌≡◌ {A = ℕ} (cond (is_pin has words d.start) 1 0) 1 = ap (λ b. cond b 1 0) pin in
              omega (arith, deeper, free_c, free_d, pin_c, pin_d, none, more, one (not (has c.start)))
        ]
      ]

-- each gap but the last is followed by a pinned object
pub few-free : {has : ℕ → Bool} {words : List ℕ} {low end : ℕ} → IsCut has words low end → IsPacked has words low end → free_count has (row words low end) ≤ pinned_count has words (row words low end) + 1
few-free {has} {words} {low} {end} c p = few-from has words low end p low (row words low end) (omega arith) c.cuts (λ d m. c.kinds d (listed (row words low end) d m))
