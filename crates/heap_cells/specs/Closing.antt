-- When the graph of a store is closed.
use Rattle.std.specs.Prelude.{ℕ, ◌≡◌, ◌<◌, ◌%◌, ◌^◌, true, false, Some}
use Rattle.std.specs.List.{All, Contains}
use Rattle.std.specs.FinMap.{FinMap, get}
use Rattle.spur_graph.specs.declared.answer.Value.{Value}
use Rattle.spur_graph.specs.Graph.{Handle, handle_cmp, IsClosed}
use Rattle.spur_graph.specs.Cells.{Body, Store, first, is_start, is_there}
use Rattle.spur_graph.specs.Ordinary.{body_at, is_internal, is_good_reference, is_good_word}
use Rattle.spur_graph.specs.CellGraph.{read, graph_of}
use Rattle.heap_cells.specs.Settled.{IsLoadable}

-- the fields fit their places in a header word, and the slots are words of 64 bits
pub record HasWidths (b : Body) : Type 0 where
  pub class_bits : b.class < 2 ^ 22
  pub hash_bits : b.hash < 2 ^ 22
  pub format_bits : b.format < 32
  pub word_bits : All (λ w. w < 2 ^ 64) b.words

-- a word of 64 bits that is good and has this value
pub record IsHeld (name : ℕ → ℕ) (h : Store) (v : Value) : Type 0 where
  pub word : ℕ
  pub good : is_good_word h word ≡ true
  pub bits : word < 2 ^ 64
  pub is : v ≡ read name h word

-- what a store and what names it from outside need for their graph to be closed: besides that no cause of refusal applies, references are multiples of
-- 8, nil, false and true are no internal objects, and no two starts have one name
pub record CanClose (name : ℕ → ℕ) (h : Store) (special : ℕ) (handles : FinMap handle_cmp Value) (hash next : ℕ) : Type 0 where
  pub loadable : IsLoadable h
  pub aligned : (w s : ℕ) → h.to w ≡ Some s → w % 8 ≡ 0
  pub inside : (s : ℕ) → is_start (h.cell s) ≡ true → Contains h.starts s
  pub outer : (k : ℕ) → k < 3 → is_internal h (first h k) ≡ false
  pub once : (s t : ℕ) → Contains h.starts s → Contains h.starts t → name s ≡ name t → s ≡ t
  pub widths : (s : ℕ) → is_there (h.cell s) ≡ true → HasWidths (body_at h s)
  pub special_there : is_good_reference h special ≡ true
  pub held : (k : Handle) (v : Value) → get handles k ≡ Some v → IsHeld name h v
  pub state_bits : hash < 2 ^ 32
  pub fresh : (s : ℕ) → is_start (h.cell s) ≡ true → name s < next

abbrev pub LoadableIsClosed : Type 0
LoadableIsClosed = (name : ℕ → ℕ) (h : Store) (special : ℕ) (handles : FinMap handle_cmp Value) (hash next : ℕ) → CanClose name h special handles hash next → IsClosed (graph_of name h special handles hash next)
