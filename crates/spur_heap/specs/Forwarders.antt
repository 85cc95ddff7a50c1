-- An object of a heap becomes a forwarder to another.
use Rattle.std.specs.Prelude.{ℕ, ◌≡◌, ◌≢◌, ◌+◌, slice_index, true, false}
use Rattle.object_header.specs.Field.{with_field}
use Rattle.object_header.specs.declared.header.TheConstants.{FORWARDER_CLASS}
use Rattle.spur_graph.specs.declared.layout.TheConstants.{FORWARDER_FORMAT}
use Rattle.spur_graph.specs.Instances.{has_entered}
use Rattle.spur_graph.specs.Refusals.{waits}
use Rattle.spur_graph.specs.Heaps.{View, heap_graph}
use Rattle.heap_cells.specs.Settled.{word_of}
use Rattle.spur_heap.specs.Views.{node_in}
use Rattle.spur_heap.specs.Remembering.{after, remembered_for}

-- the header word with the class index and the format of a forwarder
abbrev pub forwarder_word : ℕ → ℕ
forwarder_word word = with_field 24 5 (with_field 0 22 word FORWARDER_CLASS) FORWARDER_FORMAT

-- the header at `s` is that of a forwarder, and the word behind it names the start `t`
abbrev pub leading : View → ℕ → ℕ → View
leading v s t = after (after v s (forwarder_word (slice_index v.words s))) (s + 1) (word_of t)

-- the same, with the remembered bit where the forwarder has to be remembered
abbrev pub led_to : View → ℕ → ℕ → View
led_to v s t = leading (remembered_for v s (word_of t)) s t

-- an entered class passes to what has its hash, and not to nil, whose entry would be none
abbrev pub KeepsClass : View → ℕ → ℕ → Type 0
KeepsClass v s t = has_entered (heap_graph v) s ≡ true → ((node_in v t).hash ≡ (node_in v s).hash) × (t ≢ (heap_graph v).nil)

-- a mourner passes to what has fired and does not mourn
abbrev pub KeepsMourner : View → ℕ → ℕ → Type 0
KeepsMourner v s t = waits (heap_graph v) s ≡ true → ((node_in v t).format ≡ 1) × (waits (heap_graph v) t ≡ false)
