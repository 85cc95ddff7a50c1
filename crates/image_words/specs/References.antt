-- What the words and the maps of an image tell of where its references lead.
use Rattle.std.specs.Prelude.{ℕ, ◌≡◌, ◌≢◌, ◌+◌, ◌<◌, List, length, slice_index, true, nat_eq}
use Rattle.object_header.specs.Head.{class_of}
use Rattle.object_header.specs.declared.header.TheConstants.{FORWARDER_CLASS}
use Rattle.heap_walk.specs.Starts.{has_start, covered}
use Rattle.spur_graph.specs.Segments.{word_in}
use Rattle.spur_graph.specs.Cells.{Moved, Store, start_named, is_start, is_moved, is_there, target_of}
use Rattle.spur_graph.specs.Ordinary.{body_at, is_ordinary, is_bad_slot}
use Rattle.image_words.specs.declared.image.ImageWords.{ImageWords}
use Rattle.image_words.specs.Roots.{AreRoots}

-- the maps and the roots are those of a store in which each forwarder names the object to which it leads
pub record IsImage (h : Store) (image : ImageWords) : Type 0 where
  pub to : (w : ℕ) → h.to w ≡ word_in image.map.now 0 w
  pub inside : (s : ℕ) → is_start (h.cell s) ≡ true → s + 1 < h.names
  pub has : (s : ℕ) → has_start image.starts.now s ≡ is_start (h.cell s)
  pub has_ordinary : (s : ℕ) → has_start image.ordinary.now s ≡ is_ordinary h s
  pub covers : (covered image.starts.now ≡ h.names) × (covered image.ordinary.now ≡ h.names)
  pub firsts : AreRoots h image.roots
  pub resolved : (s t : ℕ) → h.cell s ≡ Moved t → is_there (h.cell t) ≡ true

-- the words tell where those of a store lead, though other words than headers and those of forwarders may be written already
pub record Leads (h : Store) (words : List ℕ) : Type 0 where
  pub names : h.names ≡ length words
  pub moved : (s : ℕ) → is_start (h.cell s) ≡ true → is_moved (h.cell s) ≡ nat_eq (class_of (slice_index words s)) FORWARDER_CLASS
  pub target : (s : ℕ) → is_moved (h.cell s) ≡ true → target_of (h.cell s) ≡ start_named h.to words (slice_index words (s + 1))

-- a pointer slot of this object, of another format than 3, that has no value
abbrev pub IsBadPointerOf : Store → ℕ → ℕ → Type 0
IsBadPointerOf h s n = (i : ℕ) × (n ≡ s + 1 + i) × ((body_at h s).format ≢ 3) × (is_bad_slot h s i ≡ true)

-- a pointer slot, of an object of another format than 3, that has no value
abbrev pub IsBadPointer : Store → ℕ → Type 0
IsBadPointer h n = (s i : ℕ) × (n ≡ s + 1 + i) × ((body_at h s).format ≢ 3) × (is_bad_slot h s i ≡ true)
