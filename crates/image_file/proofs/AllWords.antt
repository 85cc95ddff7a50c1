-- The words of segments, one segment more.
use Rattle.std.proofs.Common.{◌≡◌, ℕ, ◌+◌, ◌-◌, ◌*◌, ◌≤◌, ◌<◌, List, [], ◌∷◌, ◌++◌, length, take, drop, arith, sym, ap, ◌∙◌, length-take, length-drop, append-nil}
use Rattle.std.proofs.lemmas.List.{take_more, drop-drop}
use Rattle.std.proofs.lemmas.List.Sums.{sum_by_push, sum_by-take-le}
use Rattle.std.proofs.lemmas.List.Concat.{flat_map-cons}
use Rattle.std.proofs.lemmas.Grind.{flat_map-append}
use Rattle.std.proofs.Math.Seq.{take-add}
use Rattle.std.specs.List.{flat_map}
use Rattle.spur_graph.specs.Bytes.{words_in}
use Rattle.spur_graph.specs.Segments.{Segment, bridge_bytes, word_count, total_words, segment_words}
use Rattle.heap_segments.specs.Rising.{segment_at}
use Rattle.image_file.specs.Held.{HasWords}

-- the words of one segment more
pub total_more : (map : List Segment) (i : ℕ) → i < length map → total_words (take (i + 1) map) ≡ total_words (take i map) + word_count (segment_at map i)
total_more map i lt = ap total_words (take_more map i (record { at = 0; size = 0; address = 0 }) lt) ∙ sum_by_push word_count (take i map) (segment_at map i)

pub total_within : (map : List Segment) (i : ℕ) → total_words (take i map) ≤ total_words map
total_within map i = sum_by-take-le word_count map i

-- a segment begins where those before it end
pub run_within : (map : List Segment) (i begin count : ℕ) → i < length map → begin ≡ total_words (take i map) → count ≡ word_count (segment_at map i) → begin + count ≤ total_words map
run_within map i begin count lt begins counts = omega (arith, begins, counts, total_more map i lt, total_within map (i + 1))

one_flat : (f : Segment → List ℕ) (s : Segment) → flat_map f (s ∷ []) ≡ f s
one_flat f s = flat_map-cons f s [] ∙ append-nil (f s)

-- the words of a segment are those that the file holds at its place
segment_read : (file run : List ℕ) (s : Segment) (place count : ℕ) → place ≡ s.at → 8 * count + bridge_bytes ≡ s.size → length run ≡ count → HasWords file place run → run ≡ segment_words file s
segment_read file run s place count at size long has =
    let bytes : 8 * length run ≡ s.at + s.size - bridge_bytes - s.at = omega (arith, size, long) in
    has.read ∙ (ap (λ n. words_in (take (8 * length run) (drop n file))) at ∙ ap (λ n. words_in (take n (drop s.at file))) bytes)

-- the words of the segments so far, and of one more
pub words_more : (file old now : List ℕ) (map : List Segment) (i place begin count : ℕ) → i < length map → place ≡ (segment_at map i).at → begin ≡ total_words (take i map) → count ≡ word_count (segment_at map i)
    → 8 * count + bridge_bytes ≡ (segment_at map i).size → begin + count ≤ length now → take (total_words (take i map)) old ≡ flat_map (segment_words file) (take i map) → take begin now ≡ take begin old
    → HasWords file place (take count (drop begin now)) → take (total_words (take (i + 1) map)) now ≡ flat_map (segment_words file) (take (i + 1) map)
words_more file old now map i place begin count lt at begins counts size within before front has =
    let s : Segment = segment_at map i in
    let run : List ℕ = take count (drop begin now) in
    let f : Segment → List ℕ = segment_words file in
    let long : length run ≡ count = omega (arith, length-take count (drop begin now), length-drop begin now, within) in
    let total : total_words (take (i + 1) map) ≡ begin + count = omega (arith, total_more map i lt, begins, counts) in
    let seen : take begin now ≡ flat_map f (take i map) = front ∙ (ap (λ n. take n old) begins ∙ before) in
    let read : run ≡ f s = segment_read file run s place count at size long has in
    ap (λ n. take n now) total ∙ (take-add begin count now ∙ (ap (λ ws. ws ++ run) seen ∙ (ap (λ ws. flat_map f (take i map) ++ ws) (read ∙ sym (one_flat f s))
    ∙ (sym (flat_map-append f (take i map) (s ∷ [])) ∙ ap (flat_map f) (sym (take_more map i (record { at = 0; size = 0; address = 0 }) lt))))))

-- the words behind all segments
pub behind_all : (old now first : List ℕ) (end total : ℕ) → end ≤ total → drop end now ≡ drop end old → drop total old ≡ drop total first → drop total now ≡ drop total first
behind_all old now first end total le same before =
    let more : end + (total - end) ≡ total = omega (arith, le) in
    let parted : (xs : List ℕ) → drop total xs ≡ drop (total - end) (drop end xs) = λ xs. sym (drop-drop (total - end) end xs ∙ ap (λ m. drop m xs) more) in
    parted now ∙ (ap (drop (total - end)) same ∙ (sym (parted old) ∙ before))
