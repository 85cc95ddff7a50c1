-- No cause of refusal applies to the objects under moved places, and in a heap they are sound.
use Rattle.std.proofs.Common.{◌≡◌, ℕ, Bool, true, false, not, ◌&&◌, ◌*◌, ◌<◌, ◌≤◌, ltb, length, get_or, sym, ap, ◌∙◌, subst, arith, inl, inr}
use Rattle.std.proofs.lemmas.Bool.{cases_Bool, ltb-true, and_left, and_right, not_from_true}
use Rattle.spur_graph.specs.Cells.{Store, is_there, is_formed, first, pointer_count}
use Rattle.spur_graph.specs.Ordinary.{body_at, root_slot, page_places, roots_slots, is_ordinary, is_internal, is_bad_slot, is_bad_page}
use Rattle.spur_graph.specs.Heaps.{IsSound}
use Rattle.heap_cells.specs.Settled.{IsLoadable}
use Rattle.heap_cells.proofs.References.{ordinary_there, ordinary_apart}
use Rattle.heap_laws.specs.Placed.{CanPlace}
use Rattle.heap_laws.proofs.Places.{first-kept, first-placed, nil_slot-placed, is_page-placed, internal-placed, ordinary-placed, format-placed, count-placed, formed-placed}
use Rattle.heap_laws.proofs.Words.{value_word}
use Rattle.heap_laws.proofs.Classes.{bad_entry-placed}

module _ {p : ℕ → ℕ} {keep : ℕ → Bool} {old new : Store} (k : CanPlace p keep old new) where
  formed : (t : ℕ) → is_there (new.cell t) ≡ true → is_formed (body_at new t) ≡ true
  formed t e =
      let b = k.placed.back t e in
      subst (λ u. is_formed (body_at new u) ≡ true) b.2 (formed-placed k b.0 b.1 ∙ k.loadable.formed b.0 (k.placed.some b.0 b.1))

  firsts : (j : ℕ) → j < 5 → is_there (new.cell (first new j)) ≡ true
  firsts j l = ap (λ s. is_there (new.cell s)) (first-placed k j l) ∙ (k.placed.objects (first old j) (first-kept k j l)).there

  pub outer-placed : (j : ℕ) → j < 3 → is_internal new (first new j) ≡ false
  outer-placed j l = let m : j < 5 = omega (arith, l) in ap (is_internal new) (first-placed k j m) ∙ internal-placed k (first old j) (first-kept k j m) ∙ k.outer j l

  lists : (body_at new (first new 3)).format < 24
  lists = let e : (body_at new (first new 3)).format ≡ (body_at old (first old 3)).format = ap (λ s. (body_at new s).format) (first-placed k 3 (omega arith)) ∙ format-placed k (first old 3) (first-kept k 3 (omega arith)) in
      let l : (body_at old (first old 3)).format < 24 = k.loadable.lists in omega (arith, e, l)

  roots : ((body_at new (first new 4)).format ≡ 2) × (length (body_at new (first new 4)).words ≡ roots_slots)
  roots = (
    ap (λ s. (body_at new s).format) (first-placed k 4 (omega arith)) ∙ format-placed k (first old 4) (first-kept k 4 (omega arith)) ∙ k.loadable.roots.0,
    ap (λ s. length (body_at new s).words) (first-placed k 4 (omega arith)) ∙ (k.placed.objects (first old 4) (first-kept k 4 (omega arith))).long ∙ k.loadable.roots.1,
  )

  pages : (i : ℕ) → i < page_places → is_bad_page new i ≡ false
  pages i l = (λ x. not (nil_slot-placed k i l x) && not (is_page-placed k i l x)) ∙ k.loadable.pages i l

  slot_at : (s i : ℕ) → keep s ≡ true → is_bad_slot new (p s) i ≡ false
  slot_at s i e = elim (cases_Bool (is_ordinary new (p s))) [
    | inr off ↦ and_left _ _ (and_left _ _ off)
    | inl on ↦ elim (cases_Bool (ltb i (pointer_count (body_at new (p s))))) [
      | inr off ↦ and_left _ _ (and_right _ _ off)
      | inl low ↦
          let n = ordinary_apart old s (sym (ordinary-placed k s e) ∙ on) in
          let below : i < pointer_count (body_at old s) = omega (arith, ltb-true i (pointer_count (body_at new (p s))) low, count-placed k s e) in
          and_right _ _ (not_from_true _ (value_word k (get_or (body_at old s).words i 0) (get_or (body_at new (p s)).words i 0) ((k.placed.objects s e).slots n.1 n.0 i below)))
    ]
  ]

  pub slots-placed : (t i : ℕ) → is_bad_slot new t i ≡ false
  slots-placed t i = elim (cases_Bool (is_ordinary new t)) [
    | inr off ↦ and_left _ _ (and_left _ _ off)
    | inl on ↦ let b = k.placed.back t (ordinary_there new t on) in subst (λ u. is_bad_slot new u i ≡ false) b.2 (slot_at b.0 i b.1)
  ]

  pub loadable-placed : IsLoadable new
  loadable-placed = record {
    formed = formed;
    five = k.placed.five;
    objects = firsts;
    lists = lists;
    roots = roots;
    ends = k.placed.ends;
    pages = pages;
    entries = λ i. bad_entry-placed k i ∙ k.loadable.entries i;
    slots = λ s i n. slots-placed s i;
  }

  -- in a heap the slots of the hidden roots behind the pages are nil
  pub sound-placed : ((i : ℕ) → page_places ≤ i → i < roots_slots → root_slot new i ≡ 8 * first new 0) → IsSound new
  sound-placed tops = record {
    formed = formed;
    targets = k.placed.targets;
    ends = k.placed.ends;
    roots = record {
      five = k.placed.five;
      objects = firsts;
      outer = outer-placed;
      lists = lists;
      roots = roots;
      tops = tops;
      pages = pages;
      entries = λ i. bad_entry-placed k i ∙ k.loadable.entries i;
    };
    slots = slots-placed;
  }
