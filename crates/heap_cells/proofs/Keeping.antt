-- What a store with objects more keeps of one, however many were added; and a store with an object behind the others.
use Rattle.std.proofs.Common.{◌≡◌, ℕ, true, cond, ◌<◌, eqb, List, [], ◌∷◌, ◌++◌, get_or, refl, sym, ap, ◌∙◌, arith, inl, inr, length-append}
use Rattle.std.proofs.lemmas.Bool.{cases_eq, ne_eqb}
use Rattle.std.proofs.lemmas.List.{get_or_append_left}
use Rattle.spur_graph.specs.Cells.{Body, Empty, There, Store, is_start, is_formed, pointer_count, first}
use Rattle.spur_graph.specs.Ordinary.{is_internal, is_good_reference, is_good_word}
use Rattle.spur_graph.specs.Heaps.{IsSound, AreMourners}
use Rattle.heap_cells.proofs.Adding.{Adds, added-sound, added-internal, good-kept, reference-kept, added-mourners}
use Rattle.heap_cells.proofs.AddedGraph.{HasStarts}
use Rattle.heap_cells.proofs.Members.{in_left, in_right}

-- the store is sound, internal objects are as before, and what was good is good
pub record Keeps (old new : Store) : Type 0 where
  pub sound : IsSound new
  pub internal : (t : ℕ) → is_internal new t ≡ is_internal old t
  pub goods : (w : ℕ) → is_good_word old w ≡ true → is_good_word new w ≡ true
  pub references : (w : ℕ) → is_good_reference old w ≡ true → is_good_reference new w ≡ true
  pub mourners : (groups : List (List ℕ)) → AreMourners old groups → AreMourners new groups

pub keeps_added : {old new : Store} {s : ℕ} {b : Body} → Adds old new s b → Keeps old new
keeps_added k = record {
  sound = added-sound k;
  internal = added-internal k;
  goods = good-kept k;
  references = reference-kept k;
  mourners = added-mourners k;
}

pub keeps_both : {old middle new : Store} → Keeps old middle → Keeps middle new → Keeps old new
keeps_both one two = record {
  sound = two.sound;
  internal = λ t. two.internal t ∙ one.internal t;
  goods = λ w good. two.goods w (one.goods w good);
  references = λ w good. two.references w (one.references w good);
  mourners = λ groups m. two.mourners groups (one.mourners groups m);
}

-- ---- an object behind the others

abbrev pub with_object : Store → ℕ → Body → Store
with_object h s b = record { names = h.names; starts = h.starts ++ s ∷ []; cell = λ t. cond (eqb t s) (There b) (h.cell t); to = h.to }

module _ (h : Store) (s : ℕ) (b : Body) (sound : IsSound h) where
  pub firsts_stay : (j : ℕ) → j < 5 → first (with_object h s b) j ≡ first h j
  firsts_stay j l = let five = sound.roots.five in get_or_append_left h.starts (s ∷ []) 0 j (omega (arith, l, five))

  pub object_adds : h.cell s ≡ Empty → is_formed b ≡ true → ((i : ℕ) → i < pointer_count b → is_good_word h (get_or b.words i 0) ≡ true) → Adds h (with_object h s b) s b
  object_adds empty formed slots = record {
    sound = sound;
    empty = empty;
    cells = λ t. refl;
    names = refl;
    to = refl;
    five = let five = sound.roots.five in let long = length-append h.starts (s ∷ []) in omega (arith, five, long);
    firsts = firsts_stay;
    formed = formed;
    slots = slots;
  }

  pub object_has_starts : HasStarts h → HasStarts (with_object h s b)
  object_has_starts has t on = elim (cases_eq t s) [
    | inl e ↦ in_right h.starts (s ∷ []) t (inl (sym e))
    | inr n ↦ in_left h.starts (s ∷ []) t (has t (sym (ap (λ x. is_start (cond x (There b) (h.cell t))) (ne_eqb t s n)) ∙ on))
  ]
