-- A pointer slot of an object is written, and the object is remembered where it has to be.
use Rattle.std.proofs.Common.{◌≡◌, ℕ, true, false, cond, ◌+◌, ◌<◌, List, length, get_or, set, refl, sym, ap, ◌∙◌, subst, arith, inl, inr, nat_lt, ◌&&◌, ◌||◌, eqb}
use Rattle.std.proofs.lemmas.Bool.{false≢true, cases_Bool, and_parts, lt-ltb, ltb-true}
use Rattle.std.proofs.lemmas.List.{length-set}
use Rattle.object_header.specs.Formats.{is_method}
use Rattle.spur_graph.specs.Graph.{with_node}
use Rattle.spur_graph.specs.Cells.{Store}
use Rattle.spur_graph.specs.Ordinary.{is_ordinary, is_good_word, body_at}
use Rattle.spur_graph.specs.CellGraph.{node_of}
use Rattle.spur_graph.specs.Heaps.{View, IsWhole, store_of, heap_value, heap_graph, heap_room, own_name, is_over, is_remembered}
use Rattle.remembered_set.specs.Starts.{Table}
use Rattle.spur_heap.specs.declared.heap.HeapParts.{HeapParts}
use Rattle.spur_heap.specs.Parts.{view_of, is_noted}
use Rattle.spur_heap.specs.Words.{is_object}
use Rattle.spur_heap.specs.Views.{IsOrdinary, IsGood, node_in}
use Rattle.spur_heap.specs.Remembering.{must_remember, with_remembered, after, remembered_at, remembered_for, stored}
use Rattle.spur_heap.proofs.Noted.{or_false}
use Rattle.spur_heap.proofs.Tables.{SameTables, NotesToo, tables-same, tables-trans}
use Rattle.spur_heap.proofs.RememberedBit.{remembered_tables, remembered_notes, remembered_store, remembered_graph, remembered_room, remembered_value, remembered_whole, bit_is_set}
use Rattle.spur_heap.proofs.Written.{Write, HasBitFor, whole_written, graph_written, tables_written, noted_written, ordinary_kept, good_kept, value_kept, room_kept}
use Rattle.spur_heap.proofs.Puts.{whole_sound, object, pointer_write, pointer_node}

-- `u` is `v` but for the remembered bit of what starts at `s`, which is set where `w` names new space and `s` is in old space
pub record RemembersFor (v u : View) (s w : ℕ) : Type 0 where
  pub whole : IsWhole u
  pub store : store_of u ≡ store_of v
  pub tables : SameTables v u
  pub notes : NotesToo v u (must_remember v s w) s
  pub graph : heap_graph u ≡ heap_graph v
  pub room : heap_room u ≡ heap_room v
  pub value : (w : ℕ) → heap_value u w ≡ heap_value v w
  pub bit : s < u.spaces.old_end → is_over u.spaces.old_end w ≡ true → is_remembered u.words s ≡ true

module _ (v : View) (whole : IsWhole v) (s : ℕ) (o : is_object v s ≡ true) (w : ℕ) where
  remembers_on : must_remember v s w ≡ true → RemembersFor v (remembered_at v s) s w
  remembers_on on =
      let low : s < v.spaces.old_end = ltb-true s v.spaces.old_end (and_parts (nat_lt s v.spaces.old_end) (is_over v.spaces.old_end w) on).0 in
      let k = whole_sound v whole in
      record {
        whole = remembered_whole v k s o low whole;
        store = remembered_store v k s o;
        tables = remembered_tables v k s o;
        notes = λ t. remembered_notes v k s o t ∙ (λ i. is_noted v t || (sym on i && eqb t s));
        graph = remembered_graph v k s o;
        room = remembered_room v k s o;
        value = remembered_value v k s o;
        bit = λ l over. bit_is_set v k s o;
      }

  remembers_off : must_remember v s w ≡ false → RemembersFor v v s w
  remembers_off off = record {
    whole = whole;
    store = refl;
    tables = tables-same v;
    notes = λ t. sym (or_false (is_noted v t)) ∙ (λ i. is_noted v t || (sym off i && eqb t s));
    graph = refl;
    room = refl;
    value = λ u. refl;
    bit = λ l over. absurd (false≢true (sym off ∙ (λ x. lt-ltb s v.spaces.old_end l x && over x)));
  }

  pub remembers_for : RemembersFor v (remembered_for v s w) s w
  remembers_for = elim (cases_Bool (must_remember v s w)) [
    | inl on ↦ subst (λ b. RemembersFor v (cond b (remembered_at v s) v) s w) (sym on) (remembers_on on)
    | inr off ↦ subst (λ b. RemembersFor v (cond b (remembered_at v s) v) s w) (sym off) (remembers_off off)
  ]

module _ (v : View) (whole : IsWhole v) (s : ℕ) (there : IsOrdinary v s) (w : ℕ) where
  remembers : RemembersFor v (remembered_for v s w) s w
  remembers = remembers_for v whole s (object v whole s there) w

  abbrev u : View
  u = remembered_for v s w

  there_then : IsOrdinary u s
  there_then = ap (λ (h : Store). is_ordinary h s) remembers.store ∙ there

  pub node_then : node_in u s ≡ node_in v s
  node_then = λ x. node_of own_name (remembers.store x) (body_at (remembers.store x) s)

  module _ (i : ℕ) (within : i < length (node_in v s).pointers) (literals : is_method (node_in v s).format ≡ true → 0 < i) (good : IsGood v w) where
    within_then : i < length (node_in u s).pointers
    within_then = let e : length (node_in u s).pointers ≡ length (node_in v s).pointers = ap (λ n. length n.pointers) node_then in omega (arith, within, e)

    pub write : Write u s i w
    write =
        pointer_write u remembers.whole s there_then i within_then w (λ m. literals (ap (λ n. is_method n.format) (sym node_then) ∙ m))
        (ap (λ (h : Store). is_good_word h w) remembers.store ∙ good)

    bit_for : HasBitFor u s i w write
    bit_for m low over = remembers.bit low over

    pub stored_whole : IsWhole (stored v s i w)
    stored_whole = whole_written u s i w write bit_for remembers.whole

    pub stored_graph : heap_graph (stored v s i w) ≡ with_node (heap_graph v) s (record (node_in v s) { pointers = set (node_in v s).pointers i (heap_value v w) })
    stored_graph =
        graph_written u s i w write
        ∙ ap (with_node (heap_graph u) s) (pointer_node u remembers.whole s there_then i within_then w write)
        ∙ (λ x. with_node (remembers.graph x) s (record (node_then x) { pointers = set (node_then x).pointers i (remembers.value w x) }))

    pub stored_room : heap_room (stored v s i w) ≡ heap_room v
    stored_room = room_kept u s i w write ∙ remembers.room

    pub stored_value : (w' : ℕ) → heap_value (stored v s i w) w' ≡ heap_value v w'
    stored_value w' = value_kept u s i w write w' ∙ remembers.value w'

    pub stored_good : (w' : ℕ) → IsGood v w' → IsGood (stored v s i w) w'
    stored_good w' g = good_kept u s i w write w' ∙ ap (λ (h : Store). is_good_word h w') remembers.store ∙ g

    pub stored_ordinary : (t : ℕ) → IsOrdinary v t → IsOrdinary (stored v s i w) t
    stored_ordinary t o = ordinary_kept u s i w write t ∙ ap (λ (h : Store). is_ordinary h t) remembers.store ∙ o

    pub stored_tables : SameTables v (stored v s i w)
    stored_tables = tables-trans v u (stored v s i w) remembers.tables (tables_written u s i w write)

    pub stored_notes : NotesToo v (stored v s i w) (must_remember v s w) s
    stored_notes t = noted_written u s i w write t ∙ remembers.notes t

pub remembered_for_long : (v : View) (s w : ℕ) → length (remembered_for v s w).words ≡ length v.words
remembered_for_long v s w = elim (cases_Bool (must_remember v s w)) [
  | inl on ↦ subst (λ b. length (cond b (remembered_at v s) v).words ≡ length v.words) (sym on) (length-set v.words s (with_remembered (get_or v.words s 0)))
  | inr off ↦ subst (λ b. length (cond b (remembered_at v s) v).words ≡ length v.words) (sym off) refl
]

-- no field but the words is another
pub stored_view : (v : View) (s i w : ℕ) → stored v s i w ≡ record v { words = (stored v s i w).words }
stored_view v s i w = elim (cases_Bool (must_remember v s w)) [
  | inl on ↦ subst (λ b. let u : View = after (cond b (remembered_at v s) v) (s + 1 + i) w in u ≡ record v { words = u.words }) (sym on) refl
  | inr off ↦ subst (λ b. let u : View = after (cond b (remembered_at v s) v) (s + 1 + i) w in u ≡ record v { words = u.words }) (sym off) refl
]

-- what is seen of the parts then
pub stored_seen : (p : HeapParts) (v : View) → view_of p ≡ v → (s i w : ℕ) → (q : HeapParts) (table : Table) → q ≡ record p { region = (remembered_for (view_of p) s w).words; remembered = table }
    → (new : List ℕ) → new ≡ set q.region (s + 1 + i) w → view_of (record q { region = new }) ≡ stored v s i w
stored_seen p v same s i w q table is new e =
    let words : new ≡ (stored (view_of p) s i w).words = e ∙ ap (λ (r : HeapParts). set r.region (s + 1 + i) w) is in
    (λ x. view_of (record (is x) { region = words x })) ∙ sym (stored_view (view_of p) s i w) ∙ ap (λ (u : View). stored u s i w) same
