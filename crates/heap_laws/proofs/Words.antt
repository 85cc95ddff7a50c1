-- The value of a word under moved places.
use Rattle.std.proofs.Common.{◌≡◌, ℕ, suc, zero, Bool, true, false, ◌%◌, ◌<◌, ◌≤◌, List, [], ◌∷◌, map, take, length, get_or, refl, sym, ap, ◌∙◌, arith, inl, inr, Some}
use Rattle.std.proofs.lemmas.Bool.{cases_Bool, cases_eq, or_left, or_right, cond-true, cond-false}
use Rattle.std.specs.Option.{unwrap_or}
use Rattle.spur_graph.specs.declared.answer.Value.TheVariants.{Ref}
use Rattle.spur_graph.specs.Value.{is_immediate_word}
use Rattle.spur_graph.specs.Names.{rename}
use Rattle.spur_graph.specs.Cells.{Store, first, final, lead}
use Rattle.spur_graph.specs.Ordinary.{passes, is_ordinary, is_good_reference, is_good_word}
use Rattle.spur_graph.specs.CellGraph.{read}
use Rattle.heap_cells.proofs.Below.{passed, mapped_there}
use Rattle.heap_cells.proofs.Values.{fixed, read-reference, read-none, read-fixed, reference-good, reference-bad}
use Rattle.heap_laws.specs.Placed.{goal, IsPlacedWord, CanPlace}
use Rattle.heap_laws.proofs.Places.{ordinary-placed, nil_ordinary}

pub goal-good : (h : Store) (w s : ℕ) → is_good_reference h w ≡ true → lead h w ≡ Some s → goal h w ≡ s
goal-good h w s good is = cond-true (is_good_reference h w) _ _ good ∙ ap (λ o. unwrap_or o (first h 0)) is

pub goal-bad : (h : Store) (w : ℕ) → is_good_reference h w ≡ false → goal h w ≡ first h 0
goal-bad h w bad = cond-false (is_good_reference h w) _ _ bad

-- a word that is no immediate reads as the object to which it leads
pub read-goal : (name : ℕ → ℕ) (h : Store) (w : ℕ) → ((v s : ℕ) → h.to v ≡ Some s → v % 8 ≡ 0) → is_immediate_word w ≡ false → read name h w ≡ Ref (name (goal h w))
read-goal name h w aligned off = elim (cases_Bool (is_good_reference h w)) [
  | inl good ↦
      let g = passed (is_ordinary h) (lead h w) good in
      let m = mapped_there (final h) (h.to w) g.one g.is in
      read-reference name h w (aligned w m.0 m.1) ∙ reference-good name h w g.one good g.is ∙ ap (λ s. Ref (name s)) (sym (goal-good h w g.one good g.is))
  | inr bad ↦
      let nil : read name h w ≡ Ref (name (first h 0)) = elim (cases_eq (w % 8) 0) [
        | inl z ↦ read-reference name h w z ∙ reference-bad name h w bad
        | inr n ↦ read-none name h w n off
      ] in
      nil ∙ ap (λ s. Ref (name s)) (sym (goal-bad h w bad))
]

module _ {p : ℕ → ℕ} {keep : ℕ → Bool} {old new : Store} (k : CanPlace p keep old new) where
  pub goal_ordinary : (w : ℕ) → is_ordinary old (goal old w) ≡ true
  goal_ordinary w = elim (cases_Bool (is_good_reference old w)) [
    | inl good ↦ let g = passed (is_ordinary old) (lead old w) good in ap (is_ordinary old) (goal-good old w g.one good g.is) ∙ g.holds
    | inr bad ↦ ap (is_ordinary old) (goal-bad old w bad) ∙ nil_ordinary k
  ]

  pub good-placed : (w w' : ℕ) → is_immediate_word w ≡ false → IsPlacedWord p keep old new w w' → is_good_reference new w' ≡ true
  good-placed w w' off m = ap (passes (is_ordinary new)) (m.leads off) ∙ ordinary-placed k (goal old w) (m.kept off) ∙ goal_ordinary w

  -- whatever stood there, the word is that of a value
  pub value_word : (w w' : ℕ) → IsPlacedWord p keep old new w w' → is_good_word new w' ≡ true
  value_word w w' m = elim (cases_Bool (is_immediate_word w)) [
    | inl on ↦ or_left (is_immediate_word w') (is_good_reference new w') (ap is_immediate_word (m.same on) ∙ on)
    | inr off ↦ or_right (is_immediate_word w') (is_good_reference new w') (good-placed w w' off m)
  ]

  module _ (name name' pp : ℕ → ℕ) (named : (s : ℕ) → keep s ≡ true → is_ordinary old s ≡ true → pp (name s) ≡ name' (p s)) where
    pub read-placed : (w w' : ℕ) → IsPlacedWord p keep old new w w' → read name' new w' ≡ rename pp (read name old w)
    read-placed w w' m = elim (cases_Bool (is_immediate_word w)) [
      | inl on ↦ let v = fixed w on in ap (read name' new) (m.same on) ∙ read-fixed name' new w v ∙ sym (v.same pp) ∙ ap (rename pp) (sym (read-fixed name old w v))
      | inr off ↦
          let to = mapped_there (final new) (new.to w') (p (goal old w)) (m.leads off) in
          read-reference name' new w' (k.reads_new.aligned w' to.0 to.1) ∙ reference-good name' new w' (p (goal old w)) (good-placed w w' off m) (m.leads off)
          ∙ ap (λ t. Ref t) (sym (named (goal old w) (m.kept off) (goal_ordinary w)))
          ∙ ap (rename pp) (sym (read-goal name old w k.reads.aligned off))
    ]

    -- the first words of a list
    pub reads-placed : (n : ℕ) (ws ws' : List ℕ) → n ≤ length ws → length ws' ≡ length ws → ((i : ℕ) → i < n → IsPlacedWord p keep old new (get_or ws i 0) (get_or ws' i 0)) → map (read name' new) (take n ws') ≡ map (rename pp) (map (read name old) (take n ws))
    reads-placed zero ws ws' l e m = refl
    reads-placed (suc n) [] ws' l e m = absurd (omega (arith, l))
    reads-placed (suc n) (w ∷ ws) [] l e m = absurd (omega (arith, e))
    reads-placed (suc n) (w ∷ ws) (w' ∷ ws') l e m = λ i. read-placed w w' (m 0 (omega arith)) i ∷ reads-placed n ws ws' (omega (arith, l)) (omega (arith, e)) (λ j b. m (suc j) (omega (arith, b))) i
