-- A heap as ranges of words that are compacted.
use Rattle.std.specs.Prelude.{ℕ, ◌≡◌, ◌+◌, ◌<◌, ◌≤◌, ◌&&◌, not, Bool, nat_eq, List, length, slice_index, vec_capacity}
use Rattle.object_header.specs.Head.{class_of}
use Rattle.object_header.specs.Chunks.{row}
use Rattle.object_header.specs.declared.header.TheConstants.{FORWARDER_CLASS}
use Rattle.heap_walk.specs.Starts.{has_start, covered}
use Rattle.spur_graph.specs.Heaps.{View, is_marked}
use Rattle.spur_heap.specs.Mourning.{left}
use Rattle.spur_heap.specs.declared.heap.HeapParts.{HeapParts}
use Rattle.compaction_laws.specs.Compacting.{IsFull, behind_roots, free_count, pinned_count}
use Rattle.planning_compactor.specs.declared.parts.Parts.{Parts}
use Rattle.planning_compactor.specs.declared.parts.YoungEnds.{YoungEnds}
use Rattle.planning_compactor.specs.Planning.{AreLaid}
use Rattle.planning_compactor.specs.Objects.{AreObjects}
use Rattle.planning_compactor.specs.Roots.{Roots, roots_of, AreRoots, RootsMovedBy}
use Rattle.planning_compactor.specs.Filled.{AreTwice, IsCut, IsMobile}
use Rattle.planning_compactor.specs.Compacted.{AreCompacted}

-- old space behind the hidden roots, and what is used of eden and of past space
abbrev pub ranges_in : View → Parts
ranges_in v = record {
  old_space = record { low = behind_roots v; end = v.spaces.old_end };
  eden = record { low = v.spaces.eden_at; end = v.spaces.eden_at + v.spaces.eden_used };
  past_space = record { low = v.spaces.past_at; end = v.spaces.past_at + v.spaces.past_used };
}

-- an object starts there that is not marked
abbrev pub is_lost : (ℕ → Bool) → List ℕ → ℕ → Bool
is_lost has words s = has s && (not (is_marked words s) && not (nat_eq (class_of (slice_index words s)) FORWARDER_CLASS))

-- what names objects from outside of the words
abbrev pub roots_in : HeapParts → Roots
roots_in p = roots_of p.handles.words p.special (left p)

-- these ranges of words can be compacted
pub record CanCompact (has : ℕ → Bool) (words : List ℕ) (r : Roots) (parts : Parts) : Type 0 where
  pub order : (parts.old_space.end ≤ parts.eden.low) × (parts.eden.end ≤ parts.past_space.low) × (parts.past_space.end ≤ length words)
  pub old_space : AreLaid has words parts.old_space.low parts.old_space.end
  pub eden : AreLaid has words parts.eden.low parts.eden.end
  pub past_space : AreLaid has words parts.past_space.low parts.past_space.end
  pub mobile : IsMobile has words parts.eden.low parts.eden.end × IsMobile has words parts.past_space.low parts.past_space.end
  pub objects : AreObjects has words
  pub twice : AreTwice has words
  pub roots : AreRoots has r

-- they are compacted, and nothing of the heap has changed but words, starts, roots, and the table that was used
pub record CompactsRanges (old new : HeapParts) (parts : Parts) (ends : YoungEnds) : Type 0 where
  pub covers : covered new.starts ≡ covered old.starts
  pub cut : IsCut (has_start new.starts) new.region parts.old_space.low parts.old_space.end
  pub laid : AreLaid (has_start new.starts) new.region parts.old_space.low parts.old_space.end
  pub few : free_count (has_start new.starts) (row new.region parts.old_space.low parts.old_space.end)
      ≤ pinned_count (has_start new.starts) new.region (row new.region parts.old_space.low parts.old_space.end) + 1
  pub eden : IsFull (has_start new.starts) new.region parts.eden.low parts.eden.end ends.eden
  pub past_space : IsFull (has_start new.starts) new.region parts.past_space.low parts.past_space.end ends.past_space
  pub order : (parts.eden.low ≤ ends.eden) × (parts.past_space.low ≤ ends.past_space)
  pub goes : ℕ → ℕ
  pub compacted : AreCompacted goes (has_start old.starts) (has_start new.starts) old.region new.region parts
  pub roots : RootsMovedBy goes (roots_in old) (roots_in new)
  pub handles : new.handles ≡ record old.handles { words = new.handles.words }
  pub mourners : length new.mourners.items ≡ length old.mourners.items
  pub places : vec_capacity new.mourners ≡ vec_capacity old.mourners
  pub saved : length new.saved.items ≡ length old.saved.items
  pub rest : new ≡ record old { region = new.region; starts = new.starts; handles = new.handles; special = new.special; mourners = new.mourners; saved = new.saved }
