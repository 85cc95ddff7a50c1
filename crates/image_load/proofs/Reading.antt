-- What is read of an image, and the errors of its file.
use Rattle.std.proofs.Common.{◌≡◌, ℕ, List, take, length, vec_capacity, sym, ap, ◌∙◌, subst}
use Rattle.std.specs.List.{flat_map}
use Rattle.spur_graph.specs.declared.limits.Limits.{Limits}
use Rattle.spur_graph.specs.Segments.{Segment, segments, segment_words, all_words, total_words}
use Rattle.spur_heap.specs.declared.bare.Bare.{Bare}
use Rattle.spur_heap.specs.Tables.{HasPlaces, HasEmptyTables}
use Rattle.image_file.specs.Passed.{Passes}
use Rattle.image_file.specs.Errors.{IsFault, IsCauseOf}
use Rattle.image_file.specs.Whole.{IsFrontOf, last_row}
use Rattle.image_file.specs.declared.front.Front.{Front}
use Rattle.image_file.specs.declared.error.LoadError.{LoadError}
use Rattle.image_file.specs.declared.error.LoadError.TheVariants as errors
use Rattle.image_load.specs.Images.{IsImageOf}

all_are : (bytes : List ℕ) (segs : List Segment) → segs ≡ segments bytes → flat_map (segment_words bytes) segs ≡ all_words bytes
unfolding all_words
all_are bytes segs e = ap (flat_map (segment_words bytes)) e

pub image_of : (bytes : List ℕ) (limits : Limits) (f : Front) (bare : Bare) → bare.limits ≡ limits → IsFrontOf bytes limits f → take (total_words f.map) bare.region ≡ flat_map (segment_words bytes) f.map
    → IsImageOf bytes (record { header = f.header; map = f.map; bare = bare })
image_of bytes limits f bare same front words = record {
  special_is = front.header_is.special_is;
  hash_is = front.header_is.hash_is;
  carried_is = front.header_is.carried_is;
  map_is = front.map_is;
  words_are = words ∙ all_are bytes f.map front.map_is;
  passes = subst (λ l. Passes bytes l last_row) (sym same) front.passes;
}

-- the tables of places stay while the words are read
pub still_empty : (bare : Bare) (words : List ℕ) → length words ≡ length bare.region → HasEmptyTables bare → HasEmptyTables (record bare { region = words })
still_empty bare words long tables = record {
  no_mourners = tables.no_mourners;
  mourner_places = subst (λ n. HasPlaces n (vec_capacity bare.mourners)) (sym long) tables.mourner_places;
  none_remembered = tables.none_remembered;
  remembered_places = subst (λ n. HasPlaces n bare.remembered.capacity) (sym long) tables.remembered_places;
  no_marks = tables.no_marks;
  mark_places = subst (λ n. HasPlaces n (vec_capacity bare.marks)) (sym long) tables.mark_places;
  saved = tables.saved;
  some_saved = tables.some_saved;
}

-- a fault of the store tells of no cause
pub fault_told : (bytes : List ℕ) (limits : Limits) (e : LoadError) → IsFault e → IsCauseOf bytes limits e
fault_told bytes limits errors.ReadFault k = k
fault_told bytes limits errors.Memory k = k
fault_told bytes limits other k = absurd k
