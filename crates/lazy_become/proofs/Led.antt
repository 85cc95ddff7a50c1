-- What becomes of the words of a heap where an object becomes a forwarder: its header word is written and the word behind.
use Rattle.std.proofs.Common.{◌≡◌, ◌≢◌, ℕ, Bool, true, false, cond, ◌+◌, get_or, set, refl, ap, ◌∙◌}
use Rattle.std.proofs.lemmas.List.{get_or-set_other}
use Rattle.spur_graph.specs.Heaps.{View}
use Rattle.heap_cells.specs.Settled.{word_of}
use Rattle.spur_heap.specs.Remembering.{remembered_at, remembered_for, must_remember, with_remembered}
use Rattle.spur_heap.specs.Forwarders.{forwarder_word, led_to}
use Rattle.lazy_become.proofs.Chunked.{IsApart}

module _ (v : View) (s : ℕ) where
  abbrev marked : Bool → View
  marked b = cond b (remembered_at v s) v

  marked_alone : (b : Bool) → marked b ≡ record v { words = (marked b).words }
  marked_alone true = refl
  marked_alone false = refl

  marked_elsewhere : (b : Bool) (j : ℕ) → j ≢ s → get_or (marked b).words j 0 ≡ get_or v.words j 0
  marked_elsewhere true j other = get_or-set_other v.words s j (with_remembered (get_or v.words s 0)) 0 other
  marked_elsewhere false j other = refl

  module _ (t : ℕ) where
    -- nothing but words changes
    pub led_alone : led_to v s t ≡ record v { words = (led_to v s t).words }
    led_alone = ap (λ (u : View). record u { words = (led_to v s t).words }) (marked_alone (must_remember v s (word_of t)))

    pub led_elsewhere : (j : ℕ) → IsApart s j → get_or (led_to v s t).words j 0 ≡ get_or v.words j 0
    led_elsewhere j k =
        let u : View = remembered_for v s (word_of t) in
        let head = forwarder_word (get_or u.words s 0) in
        get_or-set_other (set u.words s head) (s + 1) j (word_of t) 0 k.behind ∙ get_or-set_other u.words s j head 0 k.header ∙ marked_elsewhere (must_remember v s (word_of t)) j k.header
