-- The piece of words that serves two copies: how many words are asked for, and what refuses them.
use Rattle.std.proofs.Common.{◌≡◌, ◌+◌, ◌||◌, ℕ, false, cond, sym, ap, ◌∙◌, arith, Some, None}
use Rattle.std.proofs.lemmas.Bool.{ne_eqb}
use Rattle.std.specs.Prelude.{length}
use Rattle.std.specs.Option.{is_none}
use Rattle.spur_graph.specs.declared.answer.Full.{Full}
use Rattle.spur_graph.specs.declared.answer.Refusal.TheVariants as r
use Rattle.spur_graph.specs.Room.{Space, Spot, Old, fresh_spot, fresh_words, slots_in, spot_at}
use Rattle.spur_graph.specs.Serve.{Anywhere, Served, serve, full_of}
use Rattle.spur_graph.specs.Become.{needs_no_words, exchange_words}
use Rattle.spur_graph.specs.Refusals.{test, unserved, no_piece}
use Rattle.spur_graph.specs.Heaps.{View, heap_room}
use Rattle.spur_heap.specs.Words.{body_in}
use Rattle.lazy_become.specs.Rows.{CanMoveOut}

-- how many slots the two objects have
pub record HasSlots (v : View) (a b m n : ℕ) : Type 0 where
  pub first : m ≡ length (body_in v a).words
  pub second : n ≡ length (body_in v b).words
  pub first_spot : (space : Space) → fresh_spot space (slots_in (spot_at (heap_room v) a)) ≡ fresh_spot space m
  pub second_spot : (space : Space) → fresh_spot space (slots_in (spot_at (heap_room v) b)) ≡ fresh_spot space n

module _ (v : View) (a b : ℕ) (can : CanMoveOut v a b) where
  pub needs_words : needs_no_words (heap_room v) a b ≡ false
  needs_words = λ i. ne_eqb a b can.apart i || can.unlike i

  module _ {m n : ℕ} (k : HasSlots v a b m n) where
    words_of : (x y : ℕ) → fresh_spot Old x ≡ fresh_spot Old y → fresh_words x ≡ fresh_words y
    words_of x y e = ap (λ (spot : Spot). spot.words) e

    pub asked : exchange_words (heap_room v) a b ≡ fresh_words n + fresh_words m
    asked =
        let one = words_of (slots_in (spot_at (heap_room v) a)) m (k.first_spot Old) in
        let other = words_of (slots_in (spot_at (heap_room v) b)) n (k.second_spot Old) in
        omega (arith, one, other)

    refused : no_piece (heap_room v) a b ≡ unserved Anywhere (heap_room v) (fresh_words n + fresh_words m)
    refused =
        ap (λ t. cond t None (unserved Anywhere (heap_room v) (exchange_words (heap_room v) a b))) needs_words
        ∙ ap (unserved Anywhere (heap_room v)) asked

    pub is_served : (served : Served) → serve Anywhere (heap_room v) (fresh_words n + fresh_words m) ≡ Some served → no_piece (heap_room v) a b ≡ None
    is_served served serves = refused ∙ ap (λ o. test (is_none o) (r.Full (full_of Anywhere (heap_room v) (fresh_words n + fresh_words m)))) serves

    pub is_refused : (full : Full) → serve Anywhere (heap_room v) (fresh_words n + fresh_words m) ≡ None → full ≡ full_of Anywhere (heap_room v) (fresh_words n + fresh_words m)
        → no_piece (heap_room v) a b ≡ Some (r.Full full)
    is_refused full none is =
        refused ∙ ap (λ o. test (is_none o) (r.Full (full_of Anywhere (heap_room v) (fresh_words n + fresh_words m)))) none
        ∙ ap (λ f. Some (r.Full f)) (sym is)
