-- The header of an object is written anew, and the object stays: only bits that are no part of it change.
use Rattle.std.proofs.Common.{◌≡◌, ℕ, Bool, true, ◌||◌, length, get_or, refl, sym, ap, ◌∙◌, subst, inl, inr}
use Rattle.std.proofs.lemmas.Bool.{cases_eq, eq-eqb, ne_eqb}
use Rattle.object_header.specs.Chunks.{slots_from}
use Rattle.object_header.specs.Fields.{fields_of}
use Rattle.spur_graph.specs.Cells.{Body, There, Store, body_from}
use Rattle.spur_graph.specs.Spaces.{old_row, eden_row, past_row}
use Rattle.spur_graph.specs.HeapRoom.{room_in}
use Rattle.spur_graph.specs.Ordinary.{is_ordinary}
use Rattle.spur_graph.specs.CellGraph.{read}
use Rattle.spur_graph.specs.Heaps.{View, IsWhole, store_of, heap_value, heap_graph, heap_room, graph_in, own_name, is_remembered}
use Rattle.heap_cells.proofs.CellKinds.{there_is, there_starts}
use Rattle.heap_cells.proofs.ObjectReads.{object-body}
use Rattle.spur_heap.specs.Words.{AreSound, is_object, body_in}
use Rattle.spur_heap.specs.Remembering.{after}
use Rattle.spur_heap.proofs.Orders.{order}
use Rattle.spur_heap.proofs.OneCell.{with_cell}
use Rattle.spur_heap.proofs.Touched.{Touch, Keeps, Fits, touched_store, touched_whole, touched_graph, touched_room}
use Rattle.spur_heap.proofs.Headers.{header_touch}
use Rattle.spur_heap.proofs.Tables.{SameTables, NotesToo, SameNoted, touched_tables, touched_noted, touched_same}

-- both header words tell the same object
pub record TellSame (old new : ℕ) : Type 0 where
  pub count : (fields_of new).count ≡ (fields_of old).count
  pub hash : (fields_of new).hash ≡ (fields_of old).hash
  pub pinned : (fields_of new).pinned ≡ (fields_of old).pinned
  pub format : (fields_of new).format ≡ (fields_of old).format
  pub readonly : (fields_of new).readonly ≡ (fields_of old).readonly
  pub class : (fields_of new).class ≡ (fields_of old).class

module _ (v : View) (k : AreSound v) (s : ℕ) (object : is_object v s ≡ true) (w : ℕ) (same : TellSame (get_or v.words s 0) w) where
  same_body : body_from (fields_of w) (body_in v s).words ≡ body_in v s
  same_body =
      let is : body_in v s ≡ body_from (fields_of (get_or v.words s 0)) (slots_from v.words s) = object-body _ v.words _ (order v k) s object in
      (λ x. let b : Body = record { class = same.class x; hash = same.hash x; format = same.format x; pinned = same.pinned x; readonly = same.readonly x; words = (is x).words } in b) ∙ sym is

  -- no cell is another
  same_cell : with_cell (store_of v) s (There (body_in v s)) ≡ store_of v
  same_cell =
      let cell : (t : ℕ) → (with_cell (store_of v) s (There (body_in v s))).cell t ≡ (store_of v).cell t = λ t. elim (cases_eq t s) [
        | inl e ↦ rw (eq-eqb t s e) (sym (there_is ((store_of v).cell s) object) ∙ ap (λ u. (store_of v).cell u) (sym e))
        | inr n ↦ rw (ne_eqb t s n) refl
      ] in
      λ x. let h : Store = record (store_of v) { cell = λ t. cell t x } in h

  touch : Touch v (after v s w).words s (There (body_in v s))
  touch = header_touch v k s object w (body_in v s) same_body same.count same.class

  pub same_tables : SameTables v (after v s w)
  same_tables = touched_tables v (after v s w).words s (There (body_in v s)) touch (there_starts ((store_of v).cell s) object) refl (λ t. ap (λ (h : Store). is_ordinary h t) same_cell)

  pub same_notes : (on : Bool) → is_remembered (after v s w).words s ≡ (is_remembered v.words s || on) → NotesToo v (after v s w) on s
  same_notes = touched_noted v (after v s w).words s (There (body_in v s)) touch (there_starts ((store_of v).cell s) object) refl

  pub same_noted : is_remembered (after v s w).words s ≡ is_remembered v.words s → SameNoted v (after v s w)
  same_noted = touched_same v (after v s w).words s (There (body_in v s)) touch (there_starts ((store_of v).cell s) object) refl

  pub same_store : store_of (after v s w) ≡ store_of v
  same_store = touched_store v (after v s w).words s (There (body_in v s)) touch ∙ same_cell

  keeps : Keeps (store_of v) (with_cell (store_of v) s (There (body_in v s)))
  keeps = subst (λ (h : Store). Keeps (store_of v) h) (sym same_cell) (record { sound = k.sound; internal = λ t e. e; goods = λ w e. e; references = λ w e. e; mourners = λ groups m. m })

  pub same_whole : Fits v (after v s w).words s (There (body_in v s)) → IsWhole v → IsWhole (after v s w)
  same_whole fits whole = touched_whole v (after v s w).words s (There (body_in v s)) touch fits keeps whole

  pub same_graph : heap_graph (after v s w) ≡ heap_graph v
  same_graph = touched_graph v (after v s w).words s (There (body_in v s)) touch ∙ ap (λ h. graph_in h v.special v.handles v.mourners v.hash (length v.words)) same_cell

  pub same_room : heap_room (after v s w) ≡ heap_room v
  same_room =
      touched_room v (after v s w).words s (There (body_in v s)) touch
      ∙ ap (λ h. room_in h (old_row v.words v.spaces) (eden_row v.words v.spaces) (past_row v.words v.spaces) v.spaces.old_end v.limits v.spaces.eden_used v.spaces.past_used) same_cell

  pub same_value : (u : ℕ) → heap_value (after v s w) u ≡ heap_value v u
  same_value u = ap (λ (h : Store). read own_name h u) same_store
