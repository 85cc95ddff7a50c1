-- A saved file denotes the heap's graph: its objects are those of the heap under other names, file addresses.
use Rattle.std.proofs.Common.{◌≡◌, ℕ, true, ◌+◌, ◌*◌, ◌%◌, ◌^◌, ◌<◌, [], List, length, refl, sym, ap, ◌∙◌, subst, arith}
use Rattle.std.proofs.lemmas.List.Elements.{All-from_recursion}
use Rattle.std.specs.FinMap.{empty, get-empty}
use Rattle.spur_graph.specs.Names.{Iso}
use Rattle.spur_graph.specs.Segments.{address_in, greatest_end}
use Rattle.spur_graph.specs.Cells.{final}
use Rattle.spur_graph.specs.Ordinary.{is_ordinary}
use Rattle.spur_graph.specs.ImageFile.{base, last_hash}
use Rattle.spur_graph.specs.Heaps.{View, IsWhole, store_of, own_name}
use Rattle.spur_graph.specs.LoadedGraph.{loaded_graph, file_name}
use Rattle.spur_graph.specs.CellGraph.{graph_of, read}
use Rattle.spur_graph.specs.Graph.{handle_cmp}
use Rattle.graph_laws.proofs.Denoted.{denotes-renamed}
use Rattle.heap_cells.proofs.HandleValues.{handle_values-empty}
use Rattle.heap_cells.proofs.References.{ordinary_there}
use Rattle.heap_laws.specs.Placed.{Outside, IsPlacedOutside, IsPlacedHandle, kept_graph, graph_under}
use Rattle.heap_laws.specs.Placing.{Paired}
use Rattle.heap_laws.proofs.Wholes.{whole_is_ready}
use Rattle.heap_laws.proofs.Graphs.{placed_is_same_graph, all_are_kept}
use Rattle.heap_laws.proofs.Pairs.{places_pair}
use Rattle.image_save.specs.Saved.{saved_text, saved_value, file_place, file_words, has_object}
use Rattle.image_save.specs.Denotes.{IsRead, HasWords, SavedDenotes, SavedDenotesGraph, saved_store, bare_graph}
use Rattle.image_save.proofs.Reading.{saved_is_read}
use Rattle.image_save.proofs.Moves.{object_place, places_once}
use Rattle.image_save.proofs.Placed.{address_is, store_placed, special_placed}
use Rattle.image_save.proofs.Unrefused.{store_is, accepted}

module _ (v : View) (whole : IsWhole v) (all : HasWords v) where
  abbrev text : List ℕ
  text = saved_text v

  abbrev next : ℕ
  next = greatest_end

  r : IsRead v
  r = saved_is_read v whole all

  -- ---- names

  name_is : (s : ℕ) → s < file_words v → file_name text s ≡ base v.carried + 8 * s
  name_is s l = ap (λ segs. address_in segs s) r.segments_are ∙ address_is v whole s l

  names_apart : (s t : ℕ) → has_object v s ≡ true → has_object v t ≡ true → file_name text (file_place v s) ≡ file_name text (file_place v t) → s ≡ t
  names_apart s t a b e =
      let x = name_is (file_place v s) (object_place v whole s a) in
      let y = name_is (file_place v t) (object_place v whole t b) in
      places_once v whole s t a b (omega (arith, x, y, e))

  pub pair : Paired (file_place v) (has_object v) (store_of v) own_name (file_name text)
  pair = places_pair (file_place v) (has_object v) (store_of v) (saved_store v) own_name (file_name text) (store_placed v whole) (whole_is_ready v whole).1 (λ s t a b e. e) names_apart

  -- ---- what names objects from outside: the special objects word alone

  abbrev outside : Outside
  outside = record { special = v.special; held = empty; groups = [] }

  abbrev outside' : Outside
  outside' = record { special = saved_value v v.special; held = empty; groups = [] }

  out : IsPlacedOutside (file_place v) (has_object v) (store_of v) (saved_store v) outside outside'
  out = record {
    special = special_placed v whole;
    held = λ q. subst (λ o. IsPlacedHandle (file_place v) (has_object v) (store_of v) (saved_store v) o o) (sym (get-empty handle_cmp q)) tt;
    groups = refl;
    waiting = All-from_recursion (λ s. (has_object v (final (store_of v) s) ≡ true) × (is_ordinary (store_of v) (final (store_of v) s) ≡ true)) [] tt;
  }

  -- ---- the graphs

  same : Iso (kept_graph own_name (has_object v) (store_of v) v.special empty [] v.hash (length v.words)) (graph_under (file_name text) (saved_store v) (saved_value v v.special) empty [] v.hash next) pair.place pair.back
  same =
      placed_is_same_graph (file_place v) (has_object v) (store_of v) (saved_store v) own_name (file_name text) pair.place pair.back outside outside' v.hash (length v.words) next
      (store_placed v whole) (λ s t a b e. e) pair.are out

  before_is : kept_graph own_name (has_object v) (store_of v) v.special empty [] v.hash (length v.words) ≡ bare_graph v
  before_is = λ i. record (bare_graph v) {
    nodes = all_are_kept (has_object v) (store_of v) own_name (λ s e. ordinary_there (store_of v) s e) i;
    handles = handle_values-empty (read own_name (store_of v)) i;
  }

  hash_is : last_hash text % 2 ^ 32 ≡ v.hash
  hash_is = let bits = whole.state_bits in let is = r.hash_is in omega (arith, is, bits)

  after_is : graph_under (file_name text) (saved_store v) (saved_value v v.special) empty [] v.hash next ≡ loaded_graph text
  after_is =
      ap (λ hs. graph_of (file_name text) (saved_store v) (saved_value v v.special) hs v.hash next) (handle_values-empty (read (file_name text) (saved_store v)))
      ∙ (λ i. graph_of (file_name text) (sym (store_is v whole all) i) (sym r.special_is i) empty (sym hash_is i) next)

  pub graph_same : Iso (bare_graph v) (loaded_graph text) pair.place pair.back
  graph_same =
      let kept = kept_graph own_name (has_object v) (store_of v) v.special empty [] v.hash (length v.words) in
      subst (λ g. Iso g (loaded_graph text) pair.place pair.back) before_is (subst (λ g. Iso kept g pair.place pair.back) after_is same)

pub saved_denotes : SavedDenotes
saved_denotes v whole all = record {
  accepted = accepted v whole all;
  place = (pair v whole all).place;
  back = (pair v whole all).back;
  graph = graph_same v whole all;
}

pub saved_denotes_graph : SavedDenotesGraph
saved_denotes_graph v g room stands all = denotes-renamed stands.graph (saved_denotes v stands.whole all)
