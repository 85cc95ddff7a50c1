-- Settled words with a room behind them are those of a heap, which stands for the bytes that were read.
use Rattle.std.proofs.lemmas.List.{length-take-le, length-drop, take-append-drop}
use Rattle.std.proofs.Common.{◌≡◌, ℕ, ◌+◌, ◌*◌, ◌<◌, ◌≤◌, ◌%◌, ◌^◌, List, [], ◌++◌, length, take, drop, map, refl, sym, ap, ◌∙◌, subst, arith, inl, inr, eqb, length-take, Result, Ok, Err, IfOk}
use Rattle.std.proofs.lemmas.Bool.{cases_Bool}
use Rattle.std.specs.FinMap.{empty}
use Rattle.spur_graph.specs.declared.limits.Limits.{Limits}
use Rattle.spur_graph.specs.ImageFile.{special_word, last_hash}
use Rattle.spur_graph.specs.Segments.{Segment, segments, all_words, total_words}
use Rattle.object_header.specs.Chunks.{Chunk}
use Rattle.spur_graph.specs.CellRoom.{room_sizes}
use Rattle.spur_graph.specs.ImageCauses.{most_words}
use Rattle.spur_graph.specs.Graph.{Graph}
use Rattle.spur_graph.specs.Names.{Iso}
use Rattle.spur_graph.specs.Room.{Room}
use Rattle.spur_graph.specs.Step.{SameRoom}
use Rattle.spur_graph.specs.Heaps.{View, Whole, IsCarried, IsWhole, Stands}
use Rattle.spur_graph.specs.Spaces.{fresh_spaces}
use Rattle.spur_graph.specs.LoadedGraph.{loaded_graph, loaded_room}
use Rattle.spur_graph.specs.FileStores.{file_store}
use Rattle.spur_heap.specs.Views.{Adopts, AreClear}
use Rattle.image_settle.specs.Rooms.{HasRoom, room_chunks}
use Rattle.image_laws.specs.Whole.{IsLoaded, StandsInOrder}
use Rattle.image_laws.proofs.Rows.{none_is_lost}
use Rattle.image_laws.proofs.Whole.{loaded_is_whole, heap_in_order, clear_seen}
use Rattle.image_load.specs.declared.image.Image.{Image}
use Rattle.image_load.specs.Passes.{AreTried}
use Rattle.image_load.specs.Images.{IsImageOf, IsSoundImage, AreSettled}

pub tried : (bytes : List ℕ) (image : Image) → IsImageOf bytes image → AreTried bytes image.bare.limits image.map (take (total_words image.map) image.bare.region) image.header.special
tried bytes image i = record {
  segments_are = i.map_is;
  words_are = i.words_are;
  special_is = i.special_is;
  before = λ other low n bad. i.passes other n (omega (arith, low)) bad;
}

sizes : (at room : ℕ) → map (λ (c : Chunk). c.size) (room_chunks at room) ≡ room_sizes room
sizes at room = elim (cases_Bool (eqb room 0)) [
  | inl on ↦ rw on refl
  | inr off ↦ rw off refl
]

module _ (segs : List Segment) (old front all : List ℕ) (special word : ℕ) (a : AreSettled segs old front special word) (v : View) (room : ℕ)
    (r : HasRoom (file_store segs a.mid) front all room) (rest : List ℕ) (words : v.words ≡ all ++ rest) (places : v.spaces ≡ fresh_spaces (length all) v.limits) (behind : length rest ≡ v.limits.eden + 2 * v.limits.survivor) (mourn : v.mourners ≡ [])
    (none : v.handles ≡ empty) (is : v.special ≡ word) (bits : v.hash < 2 ^ 32) (carried : IsCarried v.carried) (few : length v.words ≤ most_words) where
  loaded : IsLoaded (file_store segs a.mid) special all v
  loaded = record {
    rest = rest;
    words_are = words;
    spaces_are = places;
    behind = behind;
    none_mourn = mourn;
    named = a.alone.named;
    loadable = a.loadable;
    settled = r.settled;
    special_there = a.special_there;
    special_word = is ∙ a.special_word;
    none_held = none;
    cut = r.cut;
    clear = r.clear;
    state_bits = bits;
    header = carried;
    few = few;
  }

  pub whole : IsWhole v
  whole = loaded_is_whole (file_store segs a.mid) special all v loaded

  pub clear : AreClear v
  clear = clear_seen (file_store segs a.mid) special all v loaded

  pub stands : (bytes : List ℕ) (limits : Limits) → segs ≡ segments bytes → old ≡ all_words bytes → length old ≡ total_words segs → special ≡ special_word bytes → v.hash ≡ last_hash bytes % 2 ^ 32
      → v.limits ≡ limits → room ≡ limits.room → length all ≡ length old + limits.room → StandsInOrder bytes limits v
  stands bytes limits es ew total special_is state within size long =
      heap_in_order bytes limits segs old (file_store segs a.mid) (room_chunks (length front) room) all v
      (record { segments_are = es; words_are = ew; rising = a.rising; of = total; cut = a.cut; ends = none_is_lost (file_store segs old) a.lost })
      (record {
        resolved = a.resolved;
        loaded = subst (λ s. IsLoaded (file_store segs a.mid) s all v) special_is loaded;
        state = state;
        within = within;
        row = r.chunks_are ∙ ap (λ cs. cs ++ room_chunks (length front) room) a.row;
        sizes = sizes (length front) room ∙ ap room_sizes size;
        long = long;
      })

module _ (image : Image) (sound : IsSoundImage image) (front region : List ℕ) (word : ℕ) (a : AreSettled image.map (take (total_words image.map) image.bare.region) front image.header.special word)
    (r : HasRoom (file_store image.map a.mid) front (take image.bare.old_end region) image.bare.limits.room) (long : length region ≡ length image.bare.region) where
  -- the heap that is made of an image
  abbrev pub view : View
  view = record {
    words = region;
    spaces = fresh_spaces image.bare.old_end image.bare.limits;
    mourners = [];
    handles = empty;
    special = word;
    hash = image.header.last_hash % 2 ^ 32;
    carried = image.header.carried;
    limits = image.bare.limits;
    phase = Whole;
    stack = [];
  }

  bits : image.header.last_hash % 2 ^ 32 < 2 ^ 32
  bits = omega arith

  few : length region ≤ most_words
  few = let f = sound.few in omega (arith, long, f)

  front_long : length (take image.bare.old_end region) ≡ image.bare.old_end
  front_long = let l = sound.long in length-take-le image.bare.old_end region (omega (arith, long, l))

  words : region ≡ take image.bare.old_end region ++ drop image.bare.old_end region
  words = sym (take-append-drop image.bare.old_end region)

  behind : length (drop image.bare.old_end region) ≡ image.bare.limits.eden + 2 * image.bare.limits.survivor
  behind = let l = sound.long in omega (arith, length-drop image.bare.old_end region, long, l)

  places : fresh_spaces image.bare.old_end image.bare.limits ≡ fresh_spaces (length (take image.bare.old_end region)) image.bare.limits
  places = ap (λ n. fresh_spaces n image.bare.limits) (sym front_long)

  pub image_whole : IsWhole view
  image_whole = whole image.map (take (total_words image.map) image.bare.region) front (take image.bare.old_end region) image.header.special word a view image.bare.limits.room r (drop image.bare.old_end region) words places behind refl refl refl bits sound.carried few

  pub image_clear : AreClear view
  image_clear = clear image.map (take (total_words image.map) image.bare.region) front (take image.bare.old_end region) image.header.special word a view image.bare.limits.room r (drop image.bare.old_end region) words places behind refl refl refl bits sound.carried few

  pub image_stands : (bytes : List ℕ) → IsImageOf bytes image → StandsInOrder bytes image.bare.limits view
  image_stands bytes i =
      let old : List ℕ = take (total_words image.map) image.bare.region in
      let all : length old ≡ total_words image.map = let o = sound.old in let l = sound.long in omega (arith, length-take (total_words image.map) image.bare.region, o, l) in
      stands image.map old front (take image.bare.old_end region) image.header.special word a view image.bare.limits.room r (drop image.bare.old_end region) words places behind refl refl refl bits sound.carried few bytes image.bare.limits i.map_is i.words_are all i.special_is
      (ap (λ n. n % 2 ^ 32) i.hash_is) refl refl (let o = sound.old in omega (arith, front_long, all, o))

-- the heap that is made stands for what its places stand for
pub adopted_stands : (v new : View) (g : Graph) (room : Room) → Adopts v new → IsWhole new → Stands v g room → Stands new g room
adopted_stands v new g room a whole s = record {
  whole = whole;
  place = s.place;
  back = s.back;
  graph = subst (λ h. Iso g h s.place s.back) (sym a.graph) s.graph;
  figures = subst (λ r. SameRoom room r s.place) (sym a.room) s.figures;
}

pub adopted_in_order : (v new : View) (bytes : List ℕ) (limits : Limits) → Adopts v new → IsWhole new → StandsInOrder bytes limits v → StandsInOrder bytes limits new
unfolding adopted_stands
adopted_in_order v new bytes limits a whole s = record {
  stands = adopted_stands v new (loaded_graph bytes) (loaded_room bytes limits) a whole s.stands;
  placed = s.placed;
  rising = s.rising;
}

-- what holds of an answer of one kind
pub of_ok : {A E : Type 0} (r : Result A E) (Q R : A → Type 0) → ((x : A) → Q x → R x) → IfOk r Q → IfOk r R
of_ok (Ok x) Q R f q = f x q
of_ok (Err e) Q R f q = q
