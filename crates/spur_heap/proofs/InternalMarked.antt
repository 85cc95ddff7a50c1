-- The internal objects are marked, one after another.
use Rattle.std.proofs.Common.{◌≡◌, ◌≢◌, ℕ, Bool, true, false, not, ◌&&◌, ◌||◌, ◌<◌, eqb, suc, refl, sym, ap, ◌∙◌, arith, inl, inr}
use mathlib.Core.Bool.{and-false, or-false}
use Rattle.std.proofs.lemmas.Bool.{cases_Bool, cases_eq, eq-eqb, ne_eqb, eqb-true, or_cases, false≢true}
use Rattle.spur_graph.specs.Cells.{Store, first, any_below}
use Rattle.spur_graph.specs.Ordinary.{page_places, root_slot, tells, is_at, is_internal}
use Rattle.spur_graph.specs.Heaps.{View, IsWhole, store_of, heap_graph, heap_room, is_marked}
use Rattle.heap_cells.specs.Settled.{word_of}
use Rattle.heap_cells.proofs.Internals.{place_there}
use Rattle.heap_cells.proofs.WholeClosed.{sound_loadable}
use Rattle.spur_heap.specs.MarkBits.{IsObject, MarksThose, marked, is_page_of, is_internal_below}
use Rattle.spur_heap.proofs.InternalMarks.{Place, place_of}
use Rattle.spur_heap.proofs.Puts.{whole_sound}

-- one start is
pub marks_one : (v w : View) (start : ℕ) → w ≡ marked v start → store_of w ≡ store_of v → heap_graph w ≡ heap_graph v → heap_room w ≡ heap_room v
    → is_marked w.words start ≡ true → ((s : ℕ) → s ≢ start → is_marked w.words s ≡ is_marked v.words s) → MarksThose (λ s. eqb s start) v w
marks_one v w start written store graph room here others = record {
  rest = written ∙ (λ i. let u : View = record v { words = (sym written i).words } in u);
  store = store;
  graph = graph;
  room = room;
  inner = λ s on. ap (is_marked w.words) (eqb-true s start on) ∙ here;
  others = λ s off. others s (λ e. false≢true (sym off ∙ eq-eqb s start e));
}

-- some are, and then others
pub marks_then : (P Q R : ℕ → Bool) (u v w : View) → MarksThose P u v → MarksThose Q v w → ((s : ℕ) → R s ≡ P s || Q s) → MarksThose R u w
marks_then P Q R u v w first then either =
    record {
      rest = then.rest ∙ ap (λ (x : View). let y : View = record x { words = w.words } in y) first.rest;
      store = then.store ∙ first.store;
      graph = then.graph ∙ first.graph;
      room = then.room ∙ first.room;
      inner = λ s on. elim (cases_Bool (Q s)) [
        | inl second ↦ then.inner s second
        | inr not_second ↦ then.others s not_second ∙ first.inner s (elim (or_cases (P s) (Q s) (sym (either s) ∙ on)) [ inl p ↦ p | inr q ↦ absurd (false≢true (sym not_second ∙ q)) ])
      ];
      others = λ s off. let none = neither (P s) (Q s) (sym (either s) ∙ off) in then.others s none.1 ∙ first.others s none.0;
    }
  where
    neither : (a b : Bool) → (a || b) ≡ false → (a ≡ false) × (b ≡ false)
    neither true b e = absurd (false≢true (sym e))
    neither false b e = (refl, e)

pub marks_as : (P R : ℕ → Bool) (u v : View) → MarksThose P u v → ((s : ℕ) → R s ≡ P s) → MarksThose R u v
marks_as P R u v m same = record { rest = m.rest; store = m.store; graph = m.graph; room = m.room; inner = λ s on. m.inner s (sym (same s) ∙ on); others = λ s off. m.others s (sym (same s) ∙ off) }

-- ---- the page of a place

module _ (v : View) (whole : IsWhole v) (place : ℕ) (within : place < page_places) where
  abbrev pub its : Place v place
  its = place_of v (whole_sound v whole) place within

  pub page_there : IsObject v its.start
  page_there = place_there (sound_loadable (store_of v) whole.sound) place its.start within its.named

  told : (s : ℕ) → is_page_of (store_of v) place s ≡ (not (eqb s (first (store_of v) 0)) && eqb its.start s)
  told s = ap (λ o. not (eqb s (first (store_of v) 0)) && is_at s o) its.named

  -- where it is not that of nil
  pub one_page_of : root_slot (store_of v) place ≢ word_of (first (store_of v) 0) → (s : ℕ) → is_page_of (store_of v) place s ≡ eqb s its.start
  one_page_of other s = told s ∙ elim (cases_eq s its.start) [
    | inl e ↦
        let no_nil : s ≢ first (store_of v) 0 = λ q. other (let w = its.word in omega (arith, w, e, q)) in
        (λ x. not (ne_eqb s (first (store_of v) 0) no_nil x) && eq-eqb its.start s (sym e) x) ∙ sym (eq-eqb s its.start e)
    | inr n ↦ ap (λ b. not (eqb s (first (store_of v) 0)) && b) (ne_eqb its.start s (λ e. n (sym e))) ∙ and-false (not (eqb s (first (store_of v) 0))) ∙ sym (ne_eqb s its.start n)
  ]

-- ---- all of them

-- before the first place
pub internal_none : (h : Store) (s : ℕ) → is_internal_below h 0 s ≡ (eqb s (first h 3) || eqb s (first h 4))
unfolding any_below
internal_none h s = ap (λ b. eqb s (first h 3) || eqb s (first h 4) || b) (and-false (not (eqb s (first h 0)))) ∙ or-false (eqb s (first h 3) || eqb s (first h 4))

-- with one place more
pub internal_more : (h : Store) (n s : ℕ) → is_internal_below h (suc n) s ≡ is_internal_below h n s || is_page_of h n s
unfolding any_below
internal_more h n s = split (eqb s (first h 3) || eqb s (first h 4)) (not (eqb s (first h 0))) (tells h n s) (any_below (λ i. tells h i s) n)
  where
    split : (a b c d : Bool) → (a || (b && (c || d))) ≡ (a || (b && d)) || (b && c)
    split true b c d = refl
    split false false c d = refl
    split false true true true = refl
    split false true true false = refl
    split false true false true = refl
    split false true false false = refl

pub internal_all : (h : Store) (s : ℕ) → is_internal h s ≡ is_internal_below h page_places s
unfolding is_internal
internal_all h s = refl
