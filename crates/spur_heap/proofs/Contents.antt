-- An ordinary object takes the contents of another that has as many slots: class index, format, flags and slots.
use Rattle.std.proofs.Common.{◌≡◌, ◌≢◌, ◌⊎◌, ℕ, Bool, true, false, ◌&&◌, ◌||◌, ◌<◌, ◌^◌, eqb, nat_lt, List, [], ◌∷◌, map, length, get_or, refl, sym, ap, ◌∙◌, subst, arith, inl, inr}
use Rattle.std.proofs.lemmas.Bool.{false≢true, eq-eqb, eqb-false, ltb-true, lt-ltb, and_parts, or_right}
use Rattle.std.specs.List.{Contains, list_any}
use Rattle.object_header.specs.Field.{field_of, with_field}
use Rattle.object_header.specs.Fields.{Fields, fields_of}
use Rattle.object_header.specs.Head.{class_of}
use Rattle.object_header.specs.Chunks.{slots_at, slots_from}
use Rattle.object_header.proofs.Fields.{field_of-lt}
use Rattle.spur_graph.specs.Refusals.{waits}
use Rattle.spur_graph.specs.Cells.{Body, There, Store, body_from, is_formed, is_there, pointer_count, final}
use Rattle.spur_graph.specs.CellGraph.{node_of}
use Rattle.spur_graph.specs.Heaps.{View, IsWhole, HasBits, HasNoUnusedBits, store_of, chunks_of, heap_to, heap_graph, own_name, is_remembered, names_over, waiting_in}
use Rattle.heap_cells.proofs.CellKinds.{there_is, there_starts, there_is_not_moved}
use Rattle.heap_cells.proofs.Cutting.{start-in}
use Rattle.heap_cells.proofs.Members.{In, in_list, listed}
use Rattle.heap_cells.proofs.ObjectReads.{object-slots}
use Rattle.heap_cells.proofs.References.{ordinary_there}
use Rattle.heap_cells.proofs.UnusedBits.{set_unused}
use Rattle.heap_cells.proofs.WholeClosed.{waiting_renamed}
use Rattle.spur_heap.specs.Contents.{TakesHeader}
use Rattle.spur_heap.specs.Flags.{flag_bit}
use Rattle.spur_heap.specs.Swaps.{remembers}
use Rattle.spur_heap.specs.Views.{IsOrdinary, node_in}
use Rattle.spur_heap.specs.Words.{AreSound, body_in, is_good}
use Rattle.spur_heap.proofs.Orders.{order}
use Rattle.spur_heap.proofs.Hops.{start_at}
use Rattle.spur_heap.proofs.Changing.{IsNoClass}
use Rattle.spur_heap.proofs.ExchangedHeaders.{remembers_all, remembers_only}
use Rattle.spur_heap.proofs.Flagged.{flag_small}
use Rattle.spur_heap.proofs.Written.{slot_good}
use Rattle.spur_heap.proofs.Puts.{whole_sound, body_is, fields_are}
use Rattle.spur_heap.proofs.OtherHash.{with_hash, formed_hash, count_hash, over_hash, node_hash}
use Rattle.spur_heap.proofs.Overwritten.{Overwrite}

-- a header word with another field
pub record SetsTo (lo len old value new : ℕ) (set : Fields → Fields) : Type 0 where
  pub word : new ≡ with_field lo len old value
  pub fields : fields_of new ≡ set (fields_of old)

-- ---- the header

-- the header of the source with another count, this hash, no mark, no grey bit and another remembered bit
pub header_takes : (v : View) (from to hash own other counted hashed unmarked white word n : ℕ) (on : Bool) (bit : ℕ) → own ≡ get_or v.words to 0 → other ≡ get_or v.words from 0
    → n ≡ (fields_of own).count → n < 2 ^ 8 → hash < 2 ^ 22 → on ≡ remembers v to from → bit ≡ flag_bit on
    → SetsTo 56 8 other n counted (λ f. record f { count = n }) → SetsTo 32 22 counted hash hashed (λ f. record f { hash = hash }) → SetsTo 55 1 hashed 0 unmarked (λ f. record f { marked = 0 })
    → SetsTo 31 1 unmarked 0 white (λ f. record f { grey = 0 }) → SetsTo 29 1 white bit word (λ f. record f { remembered = bit }) → TakesHeader v from to hash word
header_takes v from to hash own other counted hashed unmarked white word n on bit own_is other_is n_is n_small hash_small on_is bit_is a b c d e = record {
  fields = e.fields
      ∙ ap (λ (f : Fields). let g : Fields = record f { remembered = bit } in g) d.fields
      ∙ ap (λ (f : Fields). let g : Fields = record f { grey = 0; remembered = bit } in g) c.fields
      ∙ ap (λ (f : Fields). let g : Fields = record f { marked = 0; grey = 0; remembered = bit } in g) b.fields
      ∙ ap (λ (f : Fields). let g : Fields = record f { marked = 0; hash = hash; grey = 0; remembered = bit } in g) a.fields
      ∙ (λ x. record (fields_of (other_is x)) { count = (n_is ∙ ap (λ w. (fields_of w).count) own_is) x; marked = 0; hash = hash; grey = 0; remembered = (bit_is ∙ ap flag_bit on_is) x });
  unused = λ k.
      set_unused 29 1 white bit word (inl (omega arith)) (inr (omega arith)) (subst (λ m. m < 2) (sym bit_is) (flag_small on)) e.word
      (set_unused 31 1 unmarked 0 white (inl (omega arith)) (inr (omega arith)) (omega arith) d.word
      (set_unused 55 1 hashed 0 unmarked (inl (omega arith)) (inl (omega arith)) (omega arith) c.word
      (set_unused 32 22 counted hash hashed (inl (omega arith)) (inr (omega arith)) hash_small b.word
      (set_unused 56 8 other n counted (inl (omega arith)) (inl (omega arith)) n_small a.word (subst HasNoUnusedBits (sym other_is) k)))));
}

-- ---- what its conditions say of the words

-- an object that is not pinned has no flag for it
pub unpinned : (v : View) → IsWhole v → (s : ℕ) → IsOrdinary v s → (node_in v s).pinned ≡ false → (body_in v s).pinned ≡ 0
unpinned v whole s there off =
    let is : (body_in v s).pinned ≡ field_of 30 1 (get_or v.words s 0) = ap (λ (b : Body). b.pinned) (body_is v whole s there) in
    let low = field_of-lt (get_or v.words s 0) 30 1 in
    let not_one = eqb-false (body_in v s).pinned 1 (sym (fields_are v whole s there).pinned ∙ off) in
    omega (arith, is, low, not_one)

among : (s : ℕ) (ts : List ℕ) → In ts s → list_any (eqb s) ts ≡ true
among s [] m = absurd m
among s (t ∷ ts) m = elim m [
  | inl e ↦ ap (λ b. b || list_any (eqb s) ts) (eq-eqb s t (sym e))
  | inr later ↦ or_right (eqb s t) (list_any (eqb s) ts) (among s ts later)
]

-- no mourner leads to an object that does not wait
pub unawaited : (v : View) (s : ℕ) → waits (heap_graph v) s ≡ false → Contains (map (final (store_of v)) (waiting_in v.mourners)) s → ⊥
unawaited v s off m =
    let on : list_any (eqb s) (map (final (store_of v)) (waiting_in v.mourners)) ≡ true = among s _ (in_list _ s m) in
    false≢true (sym off ∙ ap (λ ts. list_any (eqb s) ts) (waiting_renamed (final (store_of v)) v.mourners) ∙ on)

bit_on : (b : Bool) → flag_bit b ≡ 1 → b ≡ true
bit_on true e = refl
bit_on false e = absurd (omega (arith, e))

-- ---- the object then

module _ (v : View) (whole : IsWhole v) (from to hash w : ℕ) (source : IsOrdinary v from) (target : IsOrdinary v to) (takes : TakesHeader v from to hash w) where
  sound : AreSound v
  sound = whole_sound v whole

  object : is_there ((store_of v).cell from) ≡ true
  object = ordinary_there (store_of v) from source

  pub taken_body : body_from (fields_of w) (body_in v from).words ≡ with_hash (body_in v from) hash
  taken_body =
      let is : body_in v from ≡ body_from (fields_of (get_or v.words from 0)) (slots_from v.words from) = body_is v whole from source in
      (λ x. body_from (takes.fields x) (body_in v from).words) ∙ (λ x. let b : Body = record (sym is x) { hash = hash; words = (body_in v from).words } in b)

  pub taken_used : class_of w ≢ 0
  taken_used e = (start_at v sound from (there_starts ((store_of v).cell from) object)).not_free (sym (ap (λ (f : Fields). f.class) takes.fields) ∙ e)

  pub taken_kept : class_of w ≢ 8
  taken_kept e =
      let r = start_at v sound from (there_starts ((store_of v).cell from) object) in
      false≢true (sym (there_is_not_moved ((store_of v).cell from) object) ∙ r.moved ∙ eq-eqb (class_of (get_or v.words from 0)) 8 (sym (ap (λ (f : Fields). f.class) takes.fields) ∙ e))

  pub taken_formed : is_formed (body_from (fields_of w) (body_in v from).words) ≡ true
  taken_formed = ap is_formed taken_body ∙ formed_hash (body_in v from) hash ∙ whole.sound.formed from object

  pub taken_good : (i : ℕ) → i < pointer_count (body_from (fields_of w) (body_in v from).words) → is_good v (get_or (body_in v from).words i 0) ≡ true
  taken_good i l = let e : pointer_count (body_from (fields_of w) (body_in v from).words) ≡ pointer_count (body_in v from) = ap pointer_count taken_body ∙ count_hash (body_in v from) hash in slot_good v sound from source i (omega (arith, l, e))

  pub taken_over : names_over v.spaces.old_end (There (body_from (fields_of w) (body_in v from).words)) ≡ names_over v.spaces.old_end ((store_of v).cell from)
  taken_over = ap (λ (b : Body). names_over v.spaces.old_end (There b)) taken_body ∙ over_hash v.spaces.old_end (body_in v from) hash ∙ ap (names_over v.spaces.old_end) (sym (there_is ((store_of v).cell from) object))

  pub taken_node : (h : Store) → node_of own_name h (body_from (fields_of w) (body_in v from).words) ≡ record (node_of own_name h (body_in v from)) { hash = hash }
  taken_node h = ap (node_of own_name h) taken_body ∙ node_hash h (body_in v from) hash

  pub taken_bits : HasBits v.phase w
  taken_bits =
      let c = start-in heap_to v.words (chunks_of v) from (there_starts ((store_of v).cell from) object) in
      let was : HasBits v.phase (get_or v.words from 0) = subst (λ t. HasBits v.phase (get_or v.words t 0)) c.2 (whole.bits c.0 (listed (chunks_of v) c.0 c.1)) in
      record { marked = λ p. ap (λ (f : Fields). f.marked) takes.fields; grey = ap (λ (f : Fields). f.grey) takes.fields; unused = takes.unused was.unused }

  pub taken_all : to < v.spaces.old_end → names_over v.spaces.old_end ((store_of v).cell from) ≡ true → (fields_of w).remembered ≡ 1
  taken_all low over = ap (λ (f : Fields). f.remembered) takes.fields ∙ ap flag_bit (remembers_all v to from low over)

  pub taken_only : (fields_of w).remembered ≡ 1 → to < v.spaces.old_end
  taken_only on =
      let c = start-in heap_to v.words (chunks_of v) to (there_starts ((store_of v).cell to) (ordinary_there (store_of v) to target)) in
      let was : is_remembered v.words to ≡ true → to < v.spaces.old_end = λ bit.
      let low = (whole.remembered.only c.0 (listed (chunks_of v) c.0 c.1) (ap (is_remembered v.words) c.2 ∙ bit)).0 in
      omega (arith, low, c.2) in
      remembers_only v to from was (bit_on _ (sym (ap (λ (f : Fields). f.remembered) takes.fields) ∙ on))

  module _ (slots : length (body_in v from).words ≡ length (body_in v to).words) where
    pub taken_slots : slots_at v.words to ≡ length (body_in v from).words
    taken_slots = sym (object-slots _ v.words _ (order v sound) to (ordinary_there (store_of v) to target)) ∙ sym slots

    -- neither is pinned where it may not be, and where a mourner leads there is one that has fired
    pub taken : (hash ≡ (body_in v to).hash) ⊎ IsNoClass (store_of v) to → (body_in v from).pinned ≡ 0 → (Contains (map (final (store_of v)) (waiting_in v.mourners)) to → (body_in v from).format ≡ 1)
        → Overwrite v to w (body_in v from).words
    taken classed mobile fired = record {
      whole = whole;
      ordinary = target;
      slots = taken_slots;
      count = ap (λ (f : Fields). f.count) takes.fields;
      used = taken_used;
      kept = taken_kept;
      hash = elim classed [ inl same ↦ inl (ap (λ (f : Fields). f.hash) takes.fields ∙ same) | inr none ↦ inr none ];
      formed = taken_formed;
      good = taken_good;
      fired = λ m. ap (λ (f : Fields). f.format) takes.fields ∙ sym (ap (λ (b : Body). b.format) (body_is v whole from source)) ∙ fired m;
      bits = taken_bits;
      all = λ low over. taken_all low (sym taken_over ∙ over);
      only = taken_only;
      mobile = λ l. ap (λ (f : Fields). f.pinned) takes.fields ∙ sym (ap (λ (b : Body). b.pinned) (body_is v whole from source)) ∙ mobile;
    }
