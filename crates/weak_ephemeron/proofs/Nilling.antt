-- Slots that name what is not marked become nil.
use Rattle.std.proofs.Common.{◌≡◌, ◌≢◌, ℕ, zero, suc, Bool, true, false, not, cond, eqb, ◌&&◌, ◌+◌, ◌<◌, ◌≤◌, List, [], ◌∷◌, ◌++◌, map, take, drop, length, min, get_or, set, refl, sym, ap, ◌∙◌, subst, arith, inl, inr, Some}
use Rattle.std.proofs.lemmas.Bool.{false≢true, cases_eq, eq-eqb, ne_eqb}
use Rattle.std.proofs.lemmas.List.{take_min}
use Rattle.std.proofs.lemmas.Option.{none-some}
use Rattle.std.specs.List.{count_by}
use Rattle.object_header.specs.Formats.{is_method}
use Rattle.spur_graph.specs.declared.answer.Value.{Value}
use Rattle.spur_graph.specs.declared.answer.Value.TheVariants.{Int, Char, Float, Ref}
use Rattle.spur_graph.specs.Graph.{Graph, with_node}
use Rattle.spur_graph.specs.Node.{Node}
use Rattle.spur_graph.specs.Live.{strong_count, weak_values}
use Rattle.spur_graph.specs.Rounds.{names_dead, without_dead}
use Rattle.spur_graph.specs.declared.answer.Refusal.{Refusal}
use Rattle.spur_graph.specs.declared.answer.Refusal.TheVariants as refusals
use Rattle.spur_graph.specs.Refusals.{test}
use Rattle.spur_graph.specs.Value.{is_immediate}
use Rattle.spur_graph.specs.Cells.{There, first, is_start}
use Rattle.spur_graph.specs.Heaps.{View, IsWhole, heap_graph, heap_room, heap_value, is_marked}
use Rattle.heap_cells.specs.Settled.{word_of}
use Rattle.spur_heap.specs.Remembering.{remembered_for, stored}
use Rattle.spur_heap.specs.MarkBits.{marks}
use Rattle.spur_heap.specs.Views.{IsGood, IsOrdinary, node_in, store}
use Rattle.spur_heap.specs.Words.{starts_at}
use Rattle.spur_heap.proofs.Changing.{swap_of}
use Rattle.spur_heap.proofs.InPlace.{changed}
use Rattle.spur_heap.proofs.Following.{own_value}
use Rattle.spur_heap.proofs.Pages.{outer_ordinary}
use Rattle.spur_heap.proofs.Puts.{object, whole_sound}
use Rattle.spur_heap.proofs.Storing.{RemembersFor, remembers_for, stored_view, write}
use Rattle.spur_heap.proofs.StoredMarks.{remembered_marks, slot_marks}
use Rattle.spur_heap.proofs.Touched.{touched_store}
use Rattle.spur_heap.proofs.Written.{Slot, Write, body_then, change, slot_touch, then}
use Rattle.weak_ephemeron.specs.Stays.{Stays}
use Rattle.weak_ephemeron.specs.Steps.{HasNodeAt, NilsOne, NilsSlot, slot_value, without_name}
use Rattle.weak_ephemeron.proofs.Turning.{counted, counted_all, drop_min, turned, turned_all, turned_behind, turned_length, turned_more, turned_none}
use Rattle.weak_ephemeron.proofs.Staying.{node_other, nodes_by_graph, stays_changed, stays_marks, stays_same, stays_then}

-- ---- a slot is written

module _ (v : View) (whole : IsWhole v) (s : ℕ) (there : IsOrdinary v s) (i w : ℕ) (within : i < length (node_in v s).pointers) (literals : is_method (node_in v s).format ≡ true → 0 < i) (good : IsGood v w) where
  abbrev u : View
  u = remembered_for v s w

  r : RemembersFor v u s w
  r = remembers_for v whole s (object v whole s there) w

  one : Write u s i w
  one = write v whole s there w i within literals good

  slot : Slot u s i
  slot = record { sound = one.sound; object = object u r.whole s one.ordinary; inside = one.inside }

  store_then : store (stored v s i w) ≡ changed (store u) s (body_then u s i w)
  store_then = touched_store u (then u s i w).words s (There (body_then u s i w)) (slot_touch u s i w slot)

  stored_marks : (t : ℕ) → starts_at v t ≡ true → is_marked (stored v s i w).words t ≡ is_marked v.words t
  stored_marks t e = slot_marks u s i w slot t (ap (λ h. is_start (h.cell t)) r.store ∙ e) ∙ remembered_marks v whole s (object v whole s there) w t

  module _ (a : View) (is : a ≡ stored v s i w) (n : Node) (graph : heap_graph a ≡ with_node (heap_graph v) s n) (room : heap_room a ≡ heap_room v) where
    put_stays : Stays v a
    put_stays =
        stays_changed v a (swap_of (change u s i w one)) r.store (ap (λ (x : View). store x) is ∙ store_then) (graph ∙ (λ x. record (heap_graph v) { nodes = (sym graph x).nodes; mourners = (sym graph x).mourners })) room
        (λ t e. ap (λ (x : View). is_marked x.words t) is ∙ stored_marks t e)
        (is ∙ stored_view v s i w ∙ (λ x. record v { words = (sym (is ∙ stored_view v s i w) x).words; mourners = (sym (is ∙ stored_view v s i w) x).mourners }))

    put_nodes : HasNodeAt s n v a
    put_nodes = nodes_by_graph v a s n there put_stays (graph ∙ (λ x. record (with_node (heap_graph v) s n) { mourners = (sym graph x).mourners })) (node_other v a (swap_of (change u s i w one)) r.store (ap (λ (x : View). store x) is ∙ store_then))

-- ---- names that are not marked

-- what names an object does so where the object is not marked
pub names_one : (v : View) (x : Value) (start : ℕ) (on : Bool) → x ≡ Ref start → IsOrdinary v start → on ≡ is_marked v.words start → not on ≡ names_dead (marks v) x
names_one v x start on is there bit = ap not (bit ∙ sym (ap (λ o. o && is_marked v.words start) there)) ∙ sym (ap (names_dead (marks v)) is)

pub names_none : (live : ℕ → Bool) (x : Value) (why : Refusal) → test (is_immediate x) refusals.Immediate ≡ Some why → false ≡ names_dead live x
names_none live (Int n) why e = refl
names_none live (Char c) why e = refl
names_none live (Float w) why e = refl
names_none live (Ref a) why e = absurd (none-some why e)

-- the same marks and the same nil
dead_same : (live live' : ℕ → Bool) → ((t : ℕ) → live' t ≡ live t) → (x : Value) → names_dead live' x ≡ names_dead live x
dead_same live live' same (Int n) = refl
dead_same live live' same (Char c) = refl
dead_same live live' same (Float w) = refl
dead_same live live' same (Ref a) = ap not (same a)

pub stays_dead : {a b : View} → Stays a b → (x : Value) → names_dead (marks b) x ≡ names_dead (marks a) x
stays_dead {a} {b} k x = dead_same (marks a) (marks b) (stays_marks k) x

stays_without : {a b : View} → Stays a b → (x : Value) → without_name (heap_graph b) (marks b) x ≡ without_name (heap_graph a) (marks a) x
stays_without {a} {b} k x = λ y. cond (stays_dead k x y) (Ref (k.graph y).nil) x

-- ---- one slot

module _ (v : View) (s i : ℕ) where
  abbrev x : Value
  x = slot_value v s i

  abbrev with_slot : Value → Node
  with_slot y = record (node_in v s) { pointers = set (node_in v s).pointers i y }

  set_same : (vs : List Value) (j : ℕ) (d : Value) → set vs j (get_or vs j d) ≡ vs
  set_same [] j d = refl
  set_same (y ∷ vs) zero d = refl
  set_same (y ∷ vs) (suc j) d = ap (λ us. y ∷ us) (set_same vs j d)

  pub slot_kept : names_dead (marks v) x ≡ false → NilsSlot s i v v
  slot_kept off = record {
    stays = stays_same v;
    nodes = λ t.
        let same : with_slot (without_name (heap_graph v) (marks v) x) ≡ node_in v s =
        ap (λ b. with_slot (cond b (Ref (heap_graph v).nil) x)) off ∙ (λ y. record (node_in v s) { pointers = set_same (node_in v s).pointers i (heap_value v 0) y }) in
        elim (cases_eq t s) [
          | inl e ↦ ap (node_in v) e ∙ sym same ∙ sym (ap (λ b. cond b (with_slot (without_name (heap_graph v) (marks v) x)) (node_in v t)) (eq-eqb t s e))
          | inr n ↦ sym (ap (λ b. cond b (with_slot (without_name (heap_graph v) (marks v) x)) (node_in v t)) (ne_eqb t s n))
        ];
    table = refl;
  }

  pub slot_nilled : IsWhole v → IsOrdinary v s → (node_in v s).format ≡ 4 → i < length (node_in v s).pointers → names_dead (marks v) x ≡ true → (nil : ℕ) → nil ≡ word_of (first (store v) 0) → IsGood v nil
      → (a : View) → a ≡ stored v s i nil → heap_graph a ≡ with_node (heap_graph v) s (with_slot (heap_value v nil)) → heap_room a ≡ heap_room v → NilsSlot s i v a
  slot_nilled whole there four within on nil is good a written graph room =
      let value : heap_value v nil ≡ Ref (heap_graph v).nil = ap (heap_value v) is ∙ own_value v (first (store v) 0) (outer_ordinary v (whole_sound v whole) 0 (omega arith)) in
      let new : with_slot (heap_value v nil) ≡ with_slot (without_name (heap_graph v) (marks v) x) = ap with_slot (value ∙ sym (ap (λ b. cond b (Ref (heap_graph v).nil) x) on)) in
      let no_literals : is_method (node_in v s).format ≡ true → 0 < i = λ m. absurd (false≢true (sym (ap is_method four) ∙ m)) in
      record {
        stays = put_stays v whole s there i nil within no_literals good a written (with_slot (heap_value v nil)) graph room;
        nodes = subst (λ n. HasNodeAt s n v a) new (put_nodes v whole s there i nil within no_literals good a written (with_slot (heap_value v nil)) graph room);
        table = ap (λ (y : View). y.mourners) (written ∙ stored_view v s i nil);
      }

-- ---- slot after slot

-- the slots from `k` on below `i` were looked at
pub record NilsBelow (s k i : ℕ) (old new : View) : Type 0 where
  pub stays : Stays old new
  pub nodes : HasNodeAt s (record (node_in old s) { pointers = turned (without_name (heap_graph old) (marks old)) k i (node_in old s).pointers }) old new
  pub table : new.mourners ≡ old.mourners

module _ (s k : ℕ) (v : View) where
  abbrev vs : List Value
  vs = (node_in v s).pointers

  abbrev f : Value → Value
  f = without_name (heap_graph v) (marks v)

  abbrev node_at : ℕ → Node
  node_at i = record (node_in v s) { pointers = turned f k i vs }

  pub below_none : NilsBelow s k k v v
  below_none = record {
    stays = stays_same v;
    nodes = λ t.
        let same : node_at k ≡ node_in v s = λ y. record (node_in v s) { pointers = turned_none f (heap_value v 0) k vs y } in
        elim (cases_eq t s) [
          | inl e ↦ ap (node_in v) e ∙ sym same ∙ sym (ap (λ b. cond b (node_at k) (node_in v t)) (eq-eqb t s e))
          | inr n ↦ sym (ap (λ b. cond b (node_at k) (node_in v t)) (ne_eqb t s n))
        ];
    table = refl;
  }

  here : (b : View) (n : Node) → HasNodeAt s n v b → node_in b s ≡ n
  here b n nodes = nodes s ∙ ap (λ y. cond y n (node_in v s)) (eq-eqb s s refl)

  pub value_then : (i : ℕ) (b : View) → NilsBelow s k i v b → slot_value b s i ≡ slot_value v s i
  value_then i b x =
      (λ y. get_or (here b (node_at i) x.nodes y).pointers i (x.stays.values 0 y))
      ∙ turned_behind f (heap_value v 0) k i vs

  pub below_length : (i : ℕ) (b : View) → NilsBelow s k i v b → length (node_in b s).pointers ≡ length vs
  below_length i b x = ap (λ (n : Node). length n.pointers) (here b (node_at i) x.nodes) ∙ turned_length f (heap_value v 0) k i vs

  pub below_more : (i : ℕ) (b c : View) → NilsBelow s k i v b → k ≤ i → i < length vs → NilsSlot s i b c → NilsBelow s k (i + 1) v c
  below_more i b c x from low y =
      let one : i + 1 ≡ suc i = omega arith in
      let last : record (node_in b s) { pointers = set (node_in b s).pointers i (without_name (heap_graph b) (marks b) (slot_value b s i)) } ≡ node_at (i + 1) =
      ap (λ z. record (node_in b s) { pointers = set (node_in b s).pointers i z }) (stays_without x.stays (slot_value b s i) ∙ ap f (value_then i b x))
      ∙ ap (λ (n : Node). record n { pointers = set n.pointers i (f (slot_value v s i)) }) (here b (node_at i) x.nodes)
      ∙ (λ z. record (node_in v s) { pointers = turned_more f (heap_value v 0) k i vs from low z })
      ∙ ap node_at (sym one) in
      record {
        stays = stays_then x.stays y.stays;
        nodes = λ t. elim (cases_eq t s) [
          | inl e ↦ ap (node_in c) e ∙ here_then b c y ∙ last ∙ sym (ap (λ q. cond q (node_at (i + 1)) (node_in v t)) (eq-eqb t s e))
          | inr n ↦ there_then b c y t n ∙ other_then b x t n ∙ sym (ap (λ q. cond q (node_at (i + 1)) (node_in v t)) (ne_eqb t s n))
        ];
        table = y.table ∙ x.table;
      }
    where
      here_then : (b c : View) → NilsSlot s i b c → node_in c s ≡ record (node_in b s) { pointers = set (node_in b s).pointers i (without_name (heap_graph b) (marks b) (slot_value b s i)) }
      here_then b c y = y.nodes s ∙ ap (λ q. cond q (record (node_in b s) { pointers = set (node_in b s).pointers i (without_name (heap_graph b) (marks b) (slot_value b s i)) }) (node_in b s)) (eq-eqb s s refl)

      there_then : (b c : View) → NilsSlot s i b c → (t : ℕ) → t ≢ s → node_in c t ≡ node_in b t
      there_then b c y t n = y.nodes t ∙ ap (λ q. cond q (record (node_in b s) { pointers = set (node_in b s).pointers i (without_name (heap_graph b) (marks b) (slot_value b s i)) }) (node_in b t)) (ne_eqb t s n)

      other_then : (b : View) → NilsBelow s k i v b → (t : ℕ) → t ≢ s → node_in b t ≡ node_in v t
      other_then b x t n = x.nodes t ∙ ap (λ q. cond q (node_at i) (node_in v t)) (ne_eqb t s n)

-- ---- all of them

module _ (s : ℕ) (v : View) (four : (node_in v s).format ≡ 4) where
  abbrev g : Graph
  g = heap_graph v

  abbrev n : Node
  n = node_in v s

  abbrev m : ℕ
  m = strong_count g n

  weak_are : weak_values g n ≡ drop m n.pointers
  weak_are = ap (λ b. cond b (drop m n.pointers) []) (ap (λ k. eqb k 4) four)

  node_then : (k i : ℕ) → k ≡ min m (length n.pointers) → i ≡ length n.pointers → record n { pointers = turned (without_name g (marks v)) k i n.pointers } ≡ without_dead g (marks v) n
  node_then k i first last =
      let values : turned (without_name g (marks v)) k i n.pointers ≡ take m n.pointers ++ map (without_name g (marks v)) (weak_values g n) =
      (λ y. turned (without_name g (marks v)) (first y) (last y) n.pointers) ∙ turned_all (without_name g (marks v)) (heap_value v 0) (min m (length n.pointers)) n.pointers
      ∙ (λ y. take_min m n.pointers y ++ map (without_name g (marks v)) (drop_min m n.pointers y))
      ∙ ap (λ ws. take m n.pointers ++ map (without_name g (marks v)) ws) (sym weak_are) in
      (λ y. record n { pointers = values y })
      ∙ sym (ap (λ b. cond b (record n { pointers = take m n.pointers ++ map (without_name g (marks v)) (weak_values g n) }) n) (ap (λ k. eqb k 4) four))

  pub nils_all : (k i : ℕ) (b : View) → k ≡ min m (length n.pointers) → i ≡ length n.pointers → NilsBelow s k i v b → NilsOne s v b
  nils_all k i b first last x = record { stays = x.stays; nodes = subst (λ y. HasNodeAt s y v b) (node_then k i first last) x.nodes; table = x.table }

  pub count_all : (k i count : ℕ) → k ≡ min m (length n.pointers) → i ≡ length n.pointers → count ≡ counted (names_dead (marks v)) k i n.pointers → count ≡ count_by (names_dead (marks v)) (weak_values g n)
  count_all k i count first last is =
      is ∙ (λ y. counted (names_dead (marks v)) (first y) (last y) n.pointers) ∙ counted_all (names_dead (marks v)) (heap_value v 0) (min m (length n.pointers)) n.pointers
      ∙ ap (count_by (names_dead (marks v))) (drop_min m n.pointers ∙ sym weak_are)

-- nothing is weak
module _ (s : ℕ) (v : View) (other : (node_in v s).format ≢ 4) where
  pub nils_none : NilsOne s v v
  nils_none = record {
    stays = stays_same v;
    nodes = λ t.
        let live = marks v in
        let n : Node = node_in v s in
        let same : without_dead (heap_graph v) live n ≡ n =
        ap (λ b. cond b (record n { pointers = take (strong_count (heap_graph v) n) n.pointers ++ map (without_name (heap_graph v) live) (weak_values (heap_graph v) n) }) n) (ne_eqb n.format 4 other) in
        elim (cases_eq t s) [
          | inl e ↦ ap (node_in v) e ∙ sym same ∙ sym (ap (λ b. cond b (without_dead (heap_graph v) live n) (node_in v t)) (eq-eqb t s e))
          | inr o ↦ sym (ap (λ b. cond b (without_dead (heap_graph v) live n) (node_in v t)) (ne_eqb t s o))
        ];
    table = refl;
  }

  pub count_none : 0 ≡ count_by (names_dead (marks v)) (weak_values (heap_graph v) (node_in v s))
  count_none = sym (ap (λ b. count_by (names_dead (marks v)) (cond b (drop (strong_count (heap_graph v) (node_in v s)) (node_in v s).pointers) [])) (ne_eqb (node_in v s).format 4 other))
