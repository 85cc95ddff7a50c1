-- Objects that go to their planned places, in the words of the laws of compaction.
use Rattle.std.proofs.Common.{◌≡◌, ℕ, Bool, true, false, cond, ◌+◌, ◌-◌, ◌≤◌, List, [], ◌∷◌, ◌++◌, map, refl, sym, ap, ◌∙◌, subst, inl, inr, arith}
use Rattle.std.proofs.lemmas.Bool.{cases_Bool}
use Rattle.object_header.specs.Chunks.{Chunk, Cuts}
use Rattle.spur_graph.specs.Planned.{Marked, pins_of, place, plan, planned}
use Rattle.heap_cells.proofs.Members.{In}
use Rattle.heap_cells.proofs.Cutting.{first}
use Rattle.compaction_laws.specs.Compacting.{starts_at, GoAsPlanned}
use Rattle.planning_compactor.specs.Spans.{moves_in, move_to, stays, Packed, Laid}
use Rattle.planning_compactor.specs.Compacted.{Agrees}
use Rattle.planning_compactor.proofs.Packed.{packed_stay}
use Rattle.planning_compactor.proofs.Plans.{plan-on', plan-off'}
use Rattle.planning_compactor.proofs.RowMarks.{mark_of}

-- a header stands at the first word or behind it, and a pinned object stays
pub record IsGoing (p : ℕ → ℕ) (m : Marked) : Type 0 where
  pub behind : m.at ≤ m.start
  pub pinned : m.pinned ≡ true → p m.start ≡ m.start

module _ (p : ℕ → ℕ) where
  abbrev gone : List Marked → List ℕ
  gone ms = map (λ (m : Marked). p m.start) ms

  -- the moves of those that are not pinned tell where each goes
  go-from : (pins : List Marked) (finger : ℕ) (ms : List Marked) → ((m : Marked) → In ms m → IsGoing p m) → Agrees p (moves_in ms (plan pins finger ms)) → gone ms ≡ starts_at ms (plan pins finger ms)
  unfolding starts_at plan
  go-from pins finger [] k a = refl
  go-from pins finger (m ∷ ms) k a =
      let g = k m (inl refl) in
      elim (cases_Bool m.pinned) [
        | inl on ↦
            let rest : List (ℕ × ℕ) = plan pins finger ms in
            let e : plan pins finger (m ∷ ms) ≡ (m.at, m.at) ∷ rest = plan-on' pins finger m ms on in
            let more : Agrees p (moves_in ms rest) = subst (λ b. Agrees p (cond b (moves_in ms rest) (move_to m m.at ∷ moves_in ms rest))) on (subst (λ es. Agrees p (moves_in (m ∷ ms) es)) e a) in
            let behind = g.behind in
            let here : p m.start ≡ m.at + (m.start - m.at) = g.pinned on ∙ omega (arith, behind) in
            (λ i. here i ∷ go-from pins finger ms (λ n l. k n (inr l)) more i) ∙ sym (ap (starts_at (m ∷ ms)) e)
        | inr off ↦
            let t : ℕ = place pins finger m.at m.size in
            let rest : List (ℕ × ℕ) = plan pins (t + m.size) ms in
            let e : plan pins finger (m ∷ ms) ≡ (m.at, t) ∷ rest = plan-off' pins finger m ms off in
            let more : Agrees p (move_to m t ∷ moves_in ms rest) = subst (λ b. Agrees p (cond b (moves_in ms rest) (move_to m t ∷ moves_in ms rest))) off (subst (λ es. Agrees p (moves_in (m ∷ ms) es)) e a) in
            (λ i. more.0 i ∷ go-from pins (t + m.size) ms (λ n l. k n (inr l)) more.1 i) ∙ sym (ap (starts_at (m ∷ ms)) e)
      ]

  pub go-planned : (low : ℕ) (ms : List Marked) → ((m : Marked) → In ms m → IsGoing p m) → Agrees p (moves_in ms (planned low ms)) → GoAsPlanned p low ms
  go-planned low ms k a = go-from (pins_of ms) low ms k a

  -- some that stay before the others
  go-behind : (fs ms : List Marked) (places : List (ℕ × ℕ)) → ((m : Marked) → In fs m → (m.at ≤ m.start) × (p m.start ≡ m.start)) → gone ms ≡ starts_at ms places → gone (fs ++ ms) ≡ starts_at (fs ++ ms) (stays fs ++ places)
  unfolding starts_at
  go-behind [] ms places k e = e
  go-behind (f ∷ fs) ms places k e =
      let g = k f (inl refl) in
      let behind = g.0 in
      let here : p f.start ≡ f.at + (f.start - f.at) = g.1 ∙ omega (arith, behind) in
      λ i. here i ∷ go-behind fs ms places (λ m l. k m (inr l)) e i

  pub go-behind-packed : (low mid end : ℕ) (fs ms : List Marked) → Packed low mid fs → Laid mid end ms → ((m : Marked) → In fs m → (m.at ≤ m.start) × (p m.start ≡ m.start)) → GoAsPlanned p mid ms → GoAsPlanned p low (fs ++ ms)
  go-behind-packed low mid end fs ms packed laid k go = go-behind fs ms (planned mid ms) k go ∙ ap (starts_at (fs ++ ms)) (sym (packed_stay low mid end fs ms packed laid))

-- chunks that cut a range lie one behind another
pub row-packed : (words : List ℕ) (at end : ℕ) (cs : List Chunk) → Cuts words at end cs → Packed at end (map (mark_of words) cs)
row-packed words at end [] t = t
row-packed words at end (c ∷ cs) t =
    let f = first words at c t.0 in
    let lead = f.0.lead in
    let room = f.0.room in
    (f.1, omega (arith, lead, room), row-packed words (c.at + c.size) end cs (subst (λ x. Cuts words (x + c.size) end cs) (sym f.1) t.1))
