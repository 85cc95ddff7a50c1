-- The parts of a heap, as they stand for one.
use Rattle.std.specs.Prelude.{ℕ, ◌≡◌, ◌≤◌, ◌&&◌, Bool, List, [], length, drop, vec_capacity, refl, nat_eq, if◌then◌else◌}
use Rattle.std.specs.Coded.{Coded, code_by, coded×, coded_ℕ, coded_list}
use Rattle.std.specs.FinMap.{FinMap, code}
use Rattle.heap_walk.specs.Starts.{has_start, covered}
use Rattle.spur_graph.specs.Graph.{handle_cmp}
use Rattle.spur_graph.specs.Cells.{is_start}
use Rattle.spur_graph.specs.Ordinary.{ordinary_starts}
use Rattle.spur_graph.specs.Spaces.{Spaces, old_row}
use Rattle.handle_table.specs.Handles.{held}
use Rattle.free_lists.specs.Rows.{free_runs}
use Rattle.free_lists.specs.Lists.{Lists}
use Rattle.spur_graph.specs.Heaps.{View, Phase, Whole, Marked, store_of, is_remembered, IsWhole}
use Rattle.spur_heap.specs.Tables.{parted, groups_of, HasPlaces, IsTableOf}
use Rattle.spur_heap.specs.declared.heap.HeapParts.{HeapParts}
use Rattle.spur_heap.specs.declared.heap.Phase as code
use Rattle.spur_heap.specs.declared.heap.Phase.TheVariants as codes

-- where the spaces are
abbrev pub spaces_of : HeapParts → Spaces
spaces_of p = record {
  old_end = p.old_end;
  eden_at = p.eden_at;
  first_at = p.first_at;
  second_at = p.second_at;
  past_at = p.past_at;
  eden_used = p.eden_used;
  past_used = p.past_used;
}

-- the phase as contracts see it
abbrev pub phase_seen : code.Phase → Phase
phase_seen codes.Whole = Whole
phase_seen codes.Marked = Marked

-- what contracts see of the parts
abbrev pub view_of : HeapParts → View
view_of p = record {
  words = p.region;
  spaces = spaces_of p;
  mourners = groups_of p.mourned p.mourners.items;
  handles = held p.handles;
  special = p.special;
  hash = p.hash;
  carried = p.carried;
  limits = p.limits;
  phase = phase_seen p.phase;
  stack = p.marks.items;
}

-- the map has the starts of objects and forwarders, and no other
pub record HasMap (p : HeapParts) : Type 0 where
  pub starts : (s : ℕ) → has_start p.starts s ≡ is_start ((store_of (view_of p)).cell s)
  pub covers : covered p.starts ≡ length p.region

-- the free lists have the free chunks of old space, and no other
pub record HasLists (p : HeapParts) : Type 0 where
  pub lists : Lists p.region p.free (free_runs p.region (old_row p.region (spaces_of p)))

-- the number is that of the ordinary objects
pub record HasCount (p : HeapParts) : Type 0 where
  pub count : p.objects ≡ length (ordinary_starts (store_of (view_of p)))

-- an object or a forwarder starts there, and its header has the remembered bit
abbrev pub is_noted : View → ℕ → Bool
is_noted v s = is_start ((store_of v).cell s) && is_remembered v.words s

-- the table of remembered starts has those whose header has the remembered bit, and no other, each once
pub record HasRemembered (p : HeapParts) : Type 0 where
  pub table : IsTableOf (is_noted (view_of p)) (length p.region) p.remembered

-- the table of mourners begins with a group, and the tables have their places
pub record HasTables (p : HeapParts) : Type 0 where
  pub taken : p.mourned ≤ length p.mourners.items
  pub grouped : (parted (drop p.mourned p.mourners.items)).front ≡ []
  pub mourner_places : HasPlaces (length p.region) (vec_capacity p.mourners)
  pub mark_places : HasPlaces (length p.region) (vec_capacity p.marks)
  pub saved : length p.saved.items ≡ p.limits.saved
  pub some_saved : 1 ≤ p.limits.saved

-- the parts stand for a graph, and each table has what the words tell
pub record ArePartsOfHeap (p : HeapParts) : Type 0 where
  pub whole : IsWhole (view_of p)
  pub map : HasMap p
  pub free_chunks : HasLists p
  pub objects : HasCount p
  pub remembered : HasRemembered p
  pub tables : HasTables p

-- phases as numbers
abbrev number_of : Phase → ℕ
number_of Whole = 0
number_of Marked = 1

abbrev phase_of : ℕ → Phase
phase_of n = if nat_eq n 0 then Whole else Marked

pub phase_back : (phase : Phase) → phase_of (number_of phase) ≡ phase
phase_back Whole = refl
phase_back Marked = refl

abbrev phase_code : Coded Phase
phase_code = code_by ℕ coded_ℕ number_of phase_of phase_back

-- spaces as numbers
abbrev Seven : Type 0
Seven = ℕ × (ℕ × (ℕ × (ℕ × (ℕ × (ℕ × ℕ)))))

abbrev spaces_code : Coded Spaces
spaces_code = code_by Seven
    (coded× coded_ℕ (coded× coded_ℕ (coded× coded_ℕ (coded× coded_ℕ (coded× coded_ℕ (coded× coded_ℕ coded_ℕ))))))
    (λ p. (p.old_end, (p.eden_at, (p.first_at, (p.second_at, (p.past_at, (p.eden_used, p.past_used)))))))
    (λ t. record { old_end = t.0; eden_at = t.1.0; first_at = t.1.1.0; second_at = t.1.1.1.0; past_at = t.1.1.1.1.0; eden_used = t.1.1.1.1.1.0; past_used = t.1.1.1.1.1.1 })
    (λ _. refl)

-- a view as a tuple of what has a code
abbrev pub Fields : Type 0
Fields = List ℕ × (FinMap handle_cmp ℕ × (ℕ × (ℕ × (List ℕ × (ℕ × (ℕ × (ℕ × (ℕ × (Spaces × (List (List ℕ) × (Phase × List ℕ)))))))))))

abbrev pub view_code : Coded View
view_code = code_by Fields
    (coded× (coded_list coded_ℕ) (coded× (code (coded× coded_ℕ (coded_list coded_ℕ)) coded_ℕ) (coded× coded_ℕ (coded× coded_ℕ (coded× (coded_list coded_ℕ)
    (coded× coded_ℕ (coded× coded_ℕ (coded× coded_ℕ (coded× coded_ℕ (coded× spaces_code (coded× (coded_list (coded_list coded_ℕ)) (coded× phase_code (coded_list coded_ℕ)))))))))))))
    (λ v. (v.words, (v.handles, (v.special, (v.hash, (v.carried, (v.limits.eden, (v.limits.survivor, (v.limits.room, (v.limits.saved, (v.spaces, (v.mourners, (v.phase, v.stack)))))))))))))
    (λ t. record {
      words = t.0;
      handles = t.1.0;
      special = t.1.1.0;
      hash = t.1.1.1.0;
      carried = t.1.1.1.1.0;
      limits = record { eden = t.1.1.1.1.1.0; survivor = t.1.1.1.1.1.1.0; room = t.1.1.1.1.1.1.1.0; saved = t.1.1.1.1.1.1.1.1.0 };
      spaces = t.1.1.1.1.1.1.1.1.1.0;
      mourners = t.1.1.1.1.1.1.1.1.1.1.0;
      phase = t.1.1.1.1.1.1.1.1.1.1.1.0;
      stack = t.1.1.1.1.1.1.1.1.1.1.1.1;
    })
    (λ _. refl)
