use Rattle.std.proofs.Common.{◌≡◌, ◌+◌, ℕ, List, length, take, sym, ap, ◌∙◌, subst}
use Rattle.spur_graph.specs.Segments.{total_words}
use Rattle.spur_graph.specs.Heaps.{View}
use Rattle.spur_graph.specs.LoadedGraph.{loaded_graph, loaded_room}
use Rattle.spur_graph.specs.FileStores.{file_store}
use Rattle.image_settle.specs.Rooms.{IsAlone, HasRoom}
use Rattle.image_load.specs.declared.image.Image.{Image}
use Rattle.spur_graph.specs.Cells.{Store}
use Rattle.image_load.specs.Images.{IsImageOf, IsSoundImage, AreSettled}
use Rattle.image_load.specs.Passes.{AreTried}
use Rattle.image_load.proofs.Reading.{still_empty}
use Rattle.image_load.proofs.Adopting.{tried, view, image_whole, image_clear, image_stands, adopted_stands, adopted_in_order}
use Rattle.image_load.proofs.loader.adopt.Goals as goal

-- the words are those of the image's region, also while it is lent
still_tried : (bytes : List ℕ) (image : Image) (words : List ℕ) → words ≡ image.bare.region → IsImageOf bytes image → AreTried bytes image.bare.limits image.map (take (total_words image.map) words) image.header.special
still_tried bytes image words is i =
    let Tried : List ℕ → Type 0 = λ region. AreTried bytes image.bare.limits image.map (take (total_words image.map) region) image.header.special in
    subst Tried (sym is) (tried bytes image i)

still_settled : (image : Image) (words : List ℕ) → words ≡ image.bare.region → (front : List ℕ) (word : ℕ) → AreSettled image.map (take (total_words image.map) words) front image.header.special word
    → AreSettled image.map (take (total_words image.map) image.bare.region) front image.header.special word
still_settled image words is front word a =
    let Settled : List ℕ → Type 0 = λ region. AreSettled image.map (take (total_words image.map) region) front image.header.special word in
    subst Settled is a

-- the room stands behind the words of the segments, up to the end of old space
room_behind : (image : Image) → IsSoundImage image → (at : ℕ) (before after : List ℕ) (h : Store) → at ≡ total_words image.map
    → (IsAlone h (take at before) → HasRoom h (take at before) (take (at + image.bare.limits.room) after) image.bare.limits.room)
    → IsAlone h (take (total_words image.map) before) → HasRoom h (take (total_words image.map) before) (take image.bare.old_end after) image.bare.limits.room
room_behind image sound at before after h is put alone =
    let front : List ℕ = take (total_words image.map) before in
    let room : ℕ = image.bare.limits.room in
    let Room : ℕ → Type 0 = λ n. IsAlone h (take n before) → HasRoom h (take n before) (take (n + room) after) room in
    subst (λ n. HasRoom h front (take n after) room) sound.old (subst Room is put alone)

pub returns-in-Err-clause-refused : goal.returns-in-Err-clause-refused
returns-in-Err-clause-refused c bytes i = c.in-Err.ensures.refused bytes c.args.image.bare.limits (still_tried bytes c.args.image c.region_mut-region.result.now c.region_mut-region.ensures.value i)

pub adopt-heap-requires-clause-whole : goal.adopt-heap-requires-clause-whole
adopt-heap-requires-clause-whole c =
    let image = c.args.image in
    let front : List ℕ = take (total_words image.map) c.settle_front.new.region in
    let a = still_settled image c.region_mut-region.result.now c.region_mut-region.ensures.value front c.in-Ok.special c.in-Ok.ensures.settled in
    let h = file_store image.map a.mid in
    let room = room_behind image c.requires c.words.result c.settle_front.new.region c.put_room.new.region h c.words.ensures (c.put_room.ensures.heap h) a.alone in
    image_whole image c.requires front c.put_room.new.region c.in-Ok.special a room (c.put_room.ensures.same_len ∙ c.in-Ok.ensures.long ∙ ap length c.region_mut-region.ensures.value)

pub adopt-heap-requires-clause-clear : goal.adopt-heap-requires-clause-clear
adopt-heap-requires-clause-clear c =
    let image = c.args.image in
    let front : List ℕ = take (total_words image.map) c.settle_front.new.region in
    let a = still_settled image c.region_mut-region.result.now c.region_mut-region.ensures.value front c.in-Ok.special c.in-Ok.ensures.settled in
    let h = file_store image.map a.mid in
    let room = room_behind image c.requires c.words.result c.settle_front.new.region c.put_room.new.region h c.words.ensures (c.put_room.ensures.heap h) a.alone in
    image_clear image c.requires front c.put_room.new.region c.in-Ok.special a room (c.put_room.ensures.same_len ∙ c.in-Ok.ensures.long ∙ ap length c.region_mut-region.ensures.value)

pub adopt-heap-requires-clause-tables : goal.adopt-heap-requires-clause-tables
adopt-heap-requires-clause-tables c =
    still_empty c.args.image.bare c.put_room.new.region (c.put_room.ensures.same_len ∙ c.in-Ok.ensures.long ∙ ap length c.region_mut-region.ensures.value) c.requires.tables

pub returns-clause-unmarked : goal.returns-clause-unmarked
returns-clause-unmarked c = ap (λ (v : View). v.phase) c.adopt-heap.ensures.rest

pub returns-clause-stands : goal.returns-clause-stands
returns-clause-stands c bytes i =
    let image = c.args.image in
    let front : List ℕ = take (total_words image.map) c.settle_front.new.region in
    let a = still_settled image c.region_mut-region.result.now c.region_mut-region.ensures.value front c.in-Ok.special c.in-Ok.ensures.settled in
    let h = file_store image.map a.mid in
    let room = room_behind image c.requires c.words.result c.settle_front.new.region c.put_room.new.region h c.words.ensures (c.put_room.ensures.heap h) a.alone in
    let long = c.put_room.ensures.same_len ∙ c.in-Ok.ensures.long ∙ ap length c.region_mut-region.ensures.value in
    let v : View = view image c.requires front c.put_room.new.region c.in-Ok.special a room long in (
      c.in-Ok.ensures.accepted bytes image.bare.limits (still_tried bytes image c.region_mut-region.result.now c.region_mut-region.ensures.value i),
      adopted_stands v c.adopt-heap.result (loaded_graph bytes) (loaded_room bytes image.bare.limits) c.adopt-heap.ensures c.whole.ensures.whole
          (image_stands image c.requires front c.put_room.new.region c.in-Ok.special a room long bytes i).stands,
    )

pub returns-clause-order : goal.returns-clause-order
returns-clause-order c bytes i =
    let image = c.args.image in
    let front : List ℕ = take (total_words image.map) c.settle_front.new.region in
    let a = still_settled image c.region_mut-region.result.now c.region_mut-region.ensures.value front c.in-Ok.special c.in-Ok.ensures.settled in
    let h = file_store image.map a.mid in
    let room = room_behind image c.requires c.words.result c.settle_front.new.region c.put_room.new.region h c.words.ensures (c.put_room.ensures.heap h) a.alone in
    let long = c.put_room.ensures.same_len ∙ c.in-Ok.ensures.long ∙ ap length c.region_mut-region.ensures.value in
    let v : View = view image c.requires front c.put_room.new.region c.in-Ok.special a room long in
    adopted_in_order v c.adopt-heap.result bytes image.bare.limits c.adopt-heap.ensures c.whole.ensures.whole (image_stands image c.requires front c.put_room.new.region c.in-Ok.special a room long bytes i)

pub returns-clause-fresh : goal.returns-clause-fresh
returns-clause-fresh c = (
  ap (λ (v : View). v.handles) c.adopt-heap.ensures.rest,
  ap (λ (v : View). v.limits) c.adopt-heap.ensures.rest,
)

pub returns-clause-carried : goal.returns-clause-carried
returns-clause-carried c = ap (λ (v : View). v.carried) c.adopt-heap.ensures.rest
