-- The node of an object, and of the same with another pointer or another unit.
use Rattle.std.proofs.Common.{◌≡◌, ℕ, true, ◌==◌, ◌+◌, ◌*◌, ◌/◌, ◌%◌, ◌^◌, ◌<◌, zero, suc, List, [], ◌∷◌, map, take, drop, length, get_or, set, refl, sym, ap, ◌∙◌, arith}
use Rattle.std.proofs.lemmas.List.{length-map, length-take-le, get_or-take, map-set, set-get_or, take-set-le, drop-set-lt}
use Rattle.std.specs.List.{range_with_len}
use Rattle.object_header.specs.Field.{with_field}
use Rattle.object_header.specs.Formats.{unit_bytes_of}
use Rattle.spur_graph.specs.declared.answer.Value.{Value}
use Rattle.spur_graph.specs.Node.{Node}
use Rattle.spur_graph.specs.Cells.{Body, Store, pointer_count, pointers, unit_count, unit_at, units, is_formed}
use Rattle.spur_graph.specs.CellGraph.{read, node_of}
use Rattle.spur_graph.specs.Heaps.{own_name}
use Rattle.heap_cells.proofs.Bodies.{IsLike, with_words, pointer_count-same, unit_count-same, units-same, pointers_fit}
use Rattle.heap_cells.proofs.Noding.{units-long}
use Rattle.heap_cells.proofs.ObjectWrites.{take-set_in}
use Rattle.spur_heap.proofs.UnitRows.{units_written}

map_read : {X : Type 0} (f : ℕ → X) (ws : List ℕ) (i : ℕ) (d : X) → i < length ws → get_or (map f ws) i d ≡ f (get_or ws i 0)
map_read f [] i d l = absurd (omega arith)
map_read f (w ∷ ws) zero d l = refl
map_read f (w ∷ ws) (suc i) d l = map_read f ws i d (omega arith)

-- what a node has of the header
pub record HasFields (n : Node) (b : Body) : Type 0 where
  pub class : n.class ≡ b.class
  pub hash : n.hash ≡ b.hash
  pub format : n.format ≡ b.format
  pub pinned : n.pinned ≡ (b.pinned == 1)
  pub readonly : n.readonly ≡ (b.readonly == 1)

module _ (h : Store) (b : Body) where
  pub node_fields : HasFields (node_of own_name h b) b
  unfolding node_of
  node_fields = record { class = refl; hash = refl; format = refl; pinned = refl; readonly = refl }

  pointers_are : (node_of own_name h b).pointers ≡ map (read own_name h) (pointers b)
  unfolding node_of
  pointers_are = refl

  units_are : (node_of own_name h b).units ≡ units b
  unfolding node_of
  units_are = refl

  pub node_units : length (node_of own_name h b).units ≡ unit_count b
  node_units = ap length units_are ∙ units-long b

  pub node_unit : (i : ℕ) → get_or (node_of own_name h b).units i 0 ≡ get_or (units b) i 0
  node_unit i = ap (λ us. get_or us i 0) units_are

  module _ (formed : is_formed b ≡ true) where
    taken : length (pointers b) ≡ pointer_count b
    taken = length-take-le (pointer_count b) b.words (pointers_fit b formed)

    pub node_pointers : length (node_of own_name h b).pointers ≡ pointer_count b
    node_pointers = ap length pointers_are ∙ length-map (pointers b) (read own_name h) ∙ taken

    pub node_pointer : (i : ℕ) (d : Value) → i < pointer_count b → get_or (node_of own_name h b).pointers i d ≡ read own_name h (get_or b.words i 0)
    node_pointer i d low =
        ap (λ vs. get_or vs i d) pointers_are
        ∙ map_read (read own_name h) (pointers b) i d (omega (arith, low, taken))
        ∙ ap (read own_name h) (get_or-take (pointer_count b) b.words i 0 low)

    -- a pointer is written
    pub node_with_pointer : (i w : ℕ) → i < pointer_count b → IsLike b (set b.words i w)
        → node_of own_name h (with_words b (set b.words i w)) ≡ record (node_of own_name h b) { pointers = set (node_of own_name h b).pointers i (read own_name h w) }
    unfolding node_of
    node_with_pointer i w low like =
        let values : map (read own_name h) (take (pointer_count (with_words b (set b.words i w))) (set b.words i w)) ≡ set (map (read own_name h) (pointers b)) i (read own_name h w) =
        ap (λ m. map (read own_name h) (take m (set b.words i w))) (pointer_count-same b (set b.words i w) like)
        ∙ ap (map (read own_name h)) (take-set_in b.words (pointer_count b) i w low)
        ∙ map-set (read own_name h) (pointers b) i w in
        let rest : units (with_words b (set b.words i w)) ≡ units b = units-same b (set b.words i w) like (drop-set-lt (pointer_count b) b.words i w low) in
        λ x. record { class = b.class; hash = b.hash; format = b.format; pointers = values x; units = rest x; pinned = b.pinned == 1; readonly = b.readonly == 1 }

    -- a pointer is written that reads as the one before
    pub node_same_pointer : (i w : ℕ) → i < pointer_count b → IsLike b (set b.words i w) → read own_name h w ≡ read own_name h (get_or b.words i 0)
        → node_of own_name h (with_words b (set b.words i w)) ≡ node_of own_name h b
    node_same_pointer i w low like same =
        let n : Node = node_of own_name h b in
        let vs : List Value = n.pointers in
        let read_so : set vs i (read own_name h w) ≡ vs = ap (set vs i) (same ∙ sym (node_pointer i (read own_name h w) low)) ∙ set-get_or vs i (read own_name h w) in
        node_with_pointer i w low like ∙ ap (λ (us : List Value). record n { pointers = us }) read_so

    -- a unit is written
    pub node_with_unit : (i v : ℕ) → i < unit_count b → (range : v < 2 ^ (8 * unit_bytes_of b.format))
        → (ws : List ℕ) → ws ≡ set b.words (pointer_count b + i * unit_bytes_of b.format / 8) (with_field (8 * (i * unit_bytes_of b.format % 8)) (8 * unit_bytes_of b.format) (get_or b.words (pointer_count b + i * unit_bytes_of b.format / 8) 0) v)
        → IsLike b ws → node_of own_name h (with_words b ws) ≡ record (node_of own_name h b) { units = set (node_of own_name h b).units i v }
    unfolding node_of
    node_with_unit i v low range ws is like =
        let at : ℕ = pointer_count b + i * unit_bytes_of b.format / 8 in
        let x : ℕ = with_field (8 * (i * unit_bytes_of b.format % 8)) (8 * unit_bytes_of b.format) (get_or b.words at 0) v in
        let front : take (pointer_count (with_words b ws)) ws ≡ pointers b =
        ap (λ m. take m ws) (pointer_count-same b ws like) ∙ ap (take (pointer_count b)) is ∙ take-set-le (pointer_count b) b.words at x (omega arith) in
        let rest : units (with_words b ws) ≡ set (units b) i v =
        (λ y. map (unit_at (unit_bytes_of b.format) (drop (pointer_count-same b ws like y) (is y))) (range_with_len 0 (unit_count-same b ws like y)))
        ∙ units_written b formed i low v range in
        λ y. record { class = b.class; hash = b.hash; format = b.format; pointers = map (read own_name h) (front y); units = rest y; pinned = b.pinned == 1; readonly = b.readonly == 1 }
