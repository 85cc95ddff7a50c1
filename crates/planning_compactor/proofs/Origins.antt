-- Where the objects come from that stand after a pass.
use Rattle.std.proofs.Common.{◌≡◌, ℕ, Bool, true, ◌+◌, ◌-◌, ◌<◌, ◌≤◌, ◌⊎◌, List, length, sym, ap, ◌∙◌, subst, inl, inr, arith}
use Rattle.std.proofs.lemmas.Bool.{cases_eq, cases_lt}
use Rattle.heap_walk.specs.declared.saved.Saved.{Saved}
use Rattle.heap_walk.specs.Shapes.{lead_at, place_at, end_at}
use Rattle.heap_laws.specs.Compaction.{IsMovedBy, MovedBy}
use Rattle.planning_compactor.specs.Spans.{Gap}
use Rattle.planning_compactor.specs.Entries.{start_of}
use Rattle.planning_compactor.specs.Slid.{target_of, to_at, long_at}
use Rattle.planning_compactor.specs.Planning.{IsIn, IsAbsent, AreLaid, HasMoves}
use Rattle.planning_compactor.specs.Objects.{goes_to, AreObjects}
use Rattle.planning_compactor.proofs.Shapes.{head-moved, lead-low, lead-same, words-same, place-same, end-same}
use Rattle.planning_compactor.proofs.Heads.{some-or}
use Rattle.planning_compactor.proofs.Moving.{goes-at, goes-else}

-- the objects of a table have gone to their places
pub record HasPassed (has has' : ℕ → Bool) (words words' : List ℕ) (low end : ℕ) (es : List Saved) (next : ℕ) : Type 0 where
  pub objects : AreObjects has words
  pub laid : AreLaid has words low end
  pub moves : HasMoves has words low end es (length es) next
  pub moved : MovedBy (goes_to es) has has' words words'

module _ {has has' : ℕ → Bool} {w w' : List ℕ} {low end : ℕ} {es : List Saved} {next : ℕ} (k : HasPassed has has' w w' low end es next) where
  pub there : (j : ℕ) → j < length es → has (start_of es j) ≡ true
  there j l = (k.moves.starts j l).0

  pub low' : (s : ℕ) → has s ≡ true → lead_at w s ≤ s
  low' s g = lead-low w s (k.laid.stands s g)

  pub down : (j : ℕ) → j < length es → target_of es j ≤ start_of es j
  down j l = let a = (k.moves.down j l).0 in let b = k.moves.room j l in let c = low' (start_of es j) (there j l) in omega (arith, a, b, c)

  -- an object has come by the table, or has stayed
  pub origin : (s : ℕ) → has' s ≡ true → ((j : ℕ) × (j < length es) × (target_of es j ≡ s)) ⊎ ((has s ≡ true) × IsAbsent es (length es) s)
  origin s g =
      let b = k.moved.back s g in
      elim (some-or (length es) (start_of es) b.0) [
        | inl j ↦ inl (j.0, j.1, sym (goes-at es k.moves.rising j.0 j.1) ∙ ap (goes_to es) j.2 ∙ b.2)
        | inr a ↦ let e : b.0 ≡ s = sym (goes-else es b.0 a) ∙ b.2 in inr (subst (λ x. has x ≡ true) e b.1, subst (IsAbsent es (length es)) e a)
      ]

  pub gone : (j : ℕ) → j < length es → IsMovedBy (goes_to es) w w' (start_of es j) (target_of es j)
  gone j l = subst (IsMovedBy (goes_to es) w w' (start_of es j)) (goes-at es k.moves.rising j l) (k.moved.objects (start_of es j) (there j l))

  pub stay : (s : ℕ) → has s ≡ true → IsAbsent es (length es) s → IsMovedBy (goes_to es) w w' s s
  stay s g a = subst (IsMovedBy (goes_to es) w w' s) (goes-else es s a) (k.moved.objects s g)

  pub came : (s : ℕ) → has' s ≡ true → (t : ℕ) × (has t ≡ true) × IsMovedBy (goes_to es) w w' t s
  came s g = elim (origin s g) [
    | inl j ↦ (start_of es j.0, there j.0 j.1, subst (IsMovedBy (goes_to es) w w' (start_of es j.0)) j.2 (gone j.0 j.1))
    | inr a ↦ (s, a.0, stay s a.0 a.1)
  ]

  pub kept-has : (s : ℕ) → has s ≡ true → IsAbsent es (length es) s → has' s ≡ true
  kept-has s g a = ap has' (sym (goes-else es s a)) ∙ k.moved.there s g

  -- places and ends of the objects that went, and of those that stayed
  pub place-gone : (j : ℕ) → j < length es → place_at w' (target_of es j) ≡ to_at es w j
  place-gone j l = ap (λ n. target_of es j - n) (lead-same (head-moved (gone j l)))

  pub end-gone : (j : ℕ) → j < length es → end_at w' (target_of es j) ≡ to_at es w j + long_at es w j
  end-gone j l = λ i. place-gone j l i + words-same (head-moved (gone j l)) i

  pub place-stay : (s : ℕ) → has s ≡ true → IsAbsent es (length es) s → place_at w' s ≡ place_at w s
  place-stay s g a = place-same (head-moved (stay s g a))

  pub end-stay : (s : ℕ) → has s ≡ true → IsAbsent es (length es) s → end_at w' s ≡ end_at w s
  end-stay s g a = end-same (head-moved (stay s g a))

  -- who went stays in the range
  pub gone-in : (j : ℕ) → j < length es → (low ≤ target_of es j) × (target_of es j < end)
  gone-in j l = let f = (k.moves.floor j l).0 in let i = (k.moves.starts j l).2 in let d = down j l in (omega (arith, f), omega (arith, i, d))

  pub gone-end : (j : ℕ) → j < length es → to_at es w j + long_at es w j ≤ end
  gone-end j l = let a = (k.moves.down j l).0 in let b = (k.laid.last (start_of es j) (k.moves.starts j l)).0 in omega (arith, a, b)

  pub far : (s : ℕ) → has' s ≡ true → (s < low) ⊎ (end ≤ s) → (has s ≡ true) × IsAbsent es (length es) s
  far s g z = elim (origin s g) [
    | inr q ↦ q
    | inl q ↦ absurd (let i = gone-in q.0 q.1 in let i0 = i.0 in let i1 = i.1 in let e = q.2 in elim z [ inl c ↦ omega (arith, i0, e, c) | inr c ↦ omega (arith, i1, e, c) ])
  ]

  -- which of two goes first
  pub clear-gone : (j t : ℕ) → j < length es → IsIn has low end t → IsAbsent es (length es) t → target_of es j < t → Gap (to_at es w j + long_at es w j) (place_at w t)
  clear-gone j t l i a less = elim (k.moves.clear j t l i a) [
    | inr g ↦ g
    | inl g ↦ absurd (let z = g.0 in let r = k.moves.room j l in let q = low' t i.0 in omega (arith, z, r, q, less))
  ]

  pub clear-stay : (j t : ℕ) → j < length es → IsIn has low end t → IsAbsent es (length es) t → t < target_of es j → Gap (end_at w t) (to_at es w j)
  clear-stay j t l i a less = elim (k.moves.clear j t l i a) [
    | inl g ↦ g
    | inr g ↦ absurd (let z = g.0 in let r = k.moves.room j l in let q = low' t i.0 in omega (arith, z, r, q, less))
  ]

  pub both-gone : (i j : ℕ) → i < length es → j < length es → target_of es i < target_of es j → Gap (to_at es w i + long_at es w i) (to_at es w j)
  both-gone i j a b less = elim (cases_lt i j) [
    | inl l ↦ k.moves.gaps i j l b
    | inr l ↦ elim (cases_eq j i) [
      | inl e ↦ absurd (let z : target_of es i < target_of es i = subst (λ x. target_of es i < target_of es x) e less in omega (arith, z))
      | inr d ↦ absurd (let z = (k.moves.gaps j i (omega (arith, l, d)) a).0 in let r = k.moves.room j b in let q = k.moves.room i a in omega (arith, z, r, q, less))
    ]
  ]
