-- Whether an object names new space, slot by slot.
use Rattle.std.proofs.Common.{◌≡◌, ℕ, suc, Bool, true, false, ◌||◌, ◌+◌, ◌<◌, length, get_or, refl, sym, ap, ◌∙◌, arith}
use Rattle.spur_graph.specs.Cells.{Body, There, any_below, pointer_count}
use Rattle.spur_graph.specs.Heaps.{View, store_of, is_over, names_over}
use Rattle.heap_cells.proofs.Below.{any_below-has}
use Rattle.heap_cells.proofs.Bodies.{pointers_fit}
use Rattle.heap_cells.proofs.CellKinds.{there_is}
use Rattle.heap_cells.proofs.ObjectReads.{object-word, object-inside}
use Rattle.spur_heap.specs.Words.{AreSound, is_object, body_in}
use Rattle.spur_heap.proofs.Orders.{order}

-- one of the first pointers names a place behind old space
abbrev pub over_below : View → ℕ → ℕ → Bool
over_below v s i = any_below (λ j. is_over v.spaces.old_end (get_or (body_in v s).words j 0)) i

pub over_none : (v : View) (s : ℕ) → over_below v s 0 ≡ false
unfolding any_below
over_none v s = refl

pub over_next : (v : View) (s i : ℕ) → over_below v s (i + 1) ≡ (is_over v.spaces.old_end (get_or (body_in v s).words i 0) || over_below v s i)
unfolding any_below
over_next v s i = let e : i + 1 ≡ suc i = omega arith in ap (over_below v s) e

over_cell : (end : ℕ) (b : Body) → names_over end (There b) ≡ any_below (λ j. is_over end (get_or b.words j 0)) (pointer_count b)
unfolding names_over
over_cell end b = refl

module _ (v : View) (k : AreSound v) (s : ℕ) (object : is_object v s ≡ true) where
  pub over_all : over_below v s (pointer_count (body_in v s)) ≡ names_over v.spaces.old_end ((store_of v).cell s)
  over_all = sym (ap (names_over v.spaces.old_end) (there_is ((store_of v).cell s) object) ∙ over_cell v.spaces.old_end (body_in v s))

  module _ (i : ℕ) (l : i < pointer_count (body_in v s)) where
    slot_in : i < length (body_in v s).words
    slot_in = let f = pointers_fit (body_in v s) (k.sound.formed s object) in omega (arith, f, l)

    pub pointer_below : s + 1 + i < length v.words
    pointer_below = object-inside _ v.words _ (order v k) s object i slot_in

    pub pointer_word : get_or (body_in v s).words i 0 ≡ get_or v.words (s + 1 + i) 0
    pointer_word = object-word _ v.words _ (order v k) s object i slot_in

    -- one that names such a place tells
    pub over_found : is_over v.spaces.old_end (get_or v.words (s + 1 + i) 0) ≡ true → names_over v.spaces.old_end ((store_of v).cell s) ≡ true
    over_found on = sym over_all ∙ any_below-has (λ j. is_over v.spaces.old_end (get_or (body_in v s).words j 0)) (pointer_count (body_in v s)) i l (ap (is_over v.spaces.old_end) pointer_word ∙ on)
