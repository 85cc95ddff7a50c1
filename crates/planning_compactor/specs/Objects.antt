-- Objects and roots, and what a pass does to them.
use Rattle.std.specs.Prelude.{ℕ, ◌≡◌, ◌≢◌, ◌+◌, ◌/◌, ◌%◌, ◌<◌, ◌≤◌, ◌⊎◌, Bool, true, false, List, [], ◌∷◌, ◌++◌, map, length, slice_index, if◌then◌else◌, nat_eq}
use Rattle.object_header.specs.Formats.{is_method}
use Rattle.object_header.specs.Head.{format_of}
use Rattle.object_header.specs.Chunks.{slots_at}
use Rattle.heap_walk.specs.declared.saved.Saved.{Saved}
use Rattle.heap_walk.specs.Shapes.{place_at, end_at}
use Rattle.heap_laws.specs.Compaction.{pointers_at, MovedBy}
use Rattle.planning_compactor.specs.Spans.{Move}
use Rattle.planning_compactor.specs.Entries.{start_of}
use Rattle.compaction_laws.specs.Compacting.{is_pinned}
use Rattle.planning_compactor.specs.Readdressed.{AreLive}
use Rattle.planning_compactor.specs.Slid.{target_of}
use Rattle.planning_compactor.specs.Planning.{AreStill, move_of}

-- where the object that starts at `t` goes: an entry of the table tells it, and without one it stays
unfoldable pub goes_to : List Saved → ℕ → ℕ
goes_to [] t = t
goes_to (e ∷ es) t = if nat_eq e.start t then e.first / 8 else goes_to es t

-- objects stand at the starts: their references name starts, and the first field of a method is there and is no reference
pub record AreObjects (has : ℕ → Bool) (words : List ℕ) : Type 0 where
  pub live : AreLive has words
  pub fits : (s : ℕ) → has s ≡ true → pointers_at words s ≤ slots_at words s
  pub refs : (s i : ℕ) → has s ≡ true → i < pointers_at words s → slice_index words (s + 1 + i) % 8 ≡ 0 → has (slice_index words (s + 1 + i) / 8) ≡ true
  pub methods : (s : ℕ) → has s ≡ true → is_method (format_of (slice_index words s)) ≡ true → (0 < slots_at words s) × (slice_index words (s + 1) % 8 ≢ 0)

-- ---- what a pass does

-- a word of no object, outside of the range
abbrev pub IsLoose : (ℕ → Bool) → List ℕ → ℕ → ℕ → ℕ → Type 0
IsLoose has words low end j = ((j < low) ⊎ (end ≤ j)) × ((s : ℕ) → has s ≡ true → (j < place_at words s) ⊎ (end_at words s ≤ j))

-- such words are as before
abbrev pub KeepsLoose : (ℕ → Bool) → List ℕ → List ℕ → ℕ → ℕ → Type 0
KeepsLoose has words words' low end = (j : ℕ) → IsLoose has words low end j → slice_index words' j ≡ slice_index words j

-- a pass has made the next moves, behind objects that stay where they are
pub record IsPass (before : List Move) (es : List Saved) (has has' : ℕ → Bool) (words words' : List ℕ) (low end next : ℕ) (after : List Move) : Type 0 where
  pub moved : MovedBy (goes_to es) has has' words words'
  pub loose : KeepsLoose has words words' low end
  pub mobile : (k : ℕ) → k < length es → is_pinned words (start_of es k) ≡ false
  pub below : (k : ℕ) → k < length es → (start_of es k < next) × (target_of es k ≤ start_of es k)
  pub within : (k : ℕ) → k < length es → (low ≤ start_of es k) × (start_of es k < end)
  pub floor : (k : ℕ) → k < length es → low ≤ target_of es k
  pub rising : (j k : ℕ) → j < k → k < length es → start_of es j < start_of es k
  pub stays : List Move
  pub still : AreStill next stays
  pub is : before ≡ stays ++ (map move_of es ++ after)
