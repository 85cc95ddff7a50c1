-- First fields that are kept aside.
use Rattle.std.specs.Prelude.{ℕ, ◌≡◌, ◌≢◌, ◌+◌, ◌<◌, List, [], ◌∷◌, length, slice_index, slice_index_or, if◌then◌else◌, nat_eq}
use Rattle.heap_walk.specs.declared.saved.Saved.{Saved}

-- entry `k`
abbrev pub entry : List Saved → ℕ → Saved
entry es k = slice_index_or es k (record { start = 0; first = 0 })

abbrev pub start_of : List Saved → ℕ → ℕ
start_of es k = (entry es k).start

-- the starts rise, and the word behind each is there
pub record IsTable (es : List Saved) (words : List ℕ) : Type 0 where
  pub rising : (i j : ℕ) → i < j → j < length es → start_of es i < start_of es j
  pub inside : (k : ℕ) → k < length es → start_of es k + 1 < length words

-- no entry keeps this word
abbrev pub IsElsewhere : List Saved → ℕ → Type 0
IsElsewhere es j = (k : ℕ) → k < length es → start_of es k + 1 ≢ j

-- the word `j` as it would be with the first fields put back
unfoldable pub virtual : List Saved → List ℕ → ℕ → ℕ
virtual [] words j = slice_index words j
virtual (e ∷ es) words j = if nat_eq (e.start + 1) j then e.first else virtual es words j

-- the first field of each object of the table and the word that the table has for it have changed places
pub record Exchanged (es es' : List Saved) (words words' : List ℕ) : Type 0 where
  pub same_words : length words' ≡ length words
  pub same_table : length es' ≡ length es
  pub starts : (k : ℕ) → k < length es → start_of es' k ≡ start_of es k
  pub taken : (k : ℕ) → k < length es → (entry es' k).first ≡ slice_index words (start_of es k + 1)
  pub put : (k : ℕ) → k < length es → slice_index words' (start_of es k + 1) ≡ (entry es k).first
  pub others : (j : ℕ) → IsElsewhere es j → slice_index words' j ≡ slice_index words j
