use Rattle.std.proofs.Common.{◌≡◌, ◌≤◌, ℕ, List, length, take, arith}
use Rattle.std.specs.List.{flat_map}
use Rattle.spur_graph.specs.ImageFile.{header_bytes}
use Rattle.spur_graph.specs.Segments.{segment_words, total_words}
use Rattle.spur_heap.specs.declared.bare.Bare.{Bare}
use Rattle.heap_segments.specs.Rising.{end_place}
use Rattle.image_file.specs.Errors.{IsFault, IsCauseOf}
use Rattle.image_file.specs.Whole.{IsFrontOf}
use Rattle.image_file.proofs.Fronts.{told_file, file_told, tells_same}
use Rattle.image_load.specs.Images.{IsImageOf}
use Rattle.image_load.proofs.Reading.{image_of, fault_told}
use Rattle.image_load.proofs.image.read_image.Goals as goal

pub returns-in-Ok-read_words-clause-image : goal.returns-in-Ok-read_words-clause-image
returns-in-Ok-read_words-clause-image g c =
    let told = g.F.Files.told c.args.files.now in
    let name : List ℕ = c.args.name.now in
    let front = c.in-Ok.front in
    let bare : Bare = record c.in-Ok-new.bare { region = c.read_words.new.region } in
    let Of : List ℕ → Type 0 = λ bytes. IsImageOf bytes (record { header = front.header; map = front.map; bare = bare }) in
    let Front : List ℕ → Type 0 = λ bytes. IsFrontOf bytes c.args.limits front in
    let Words : List ℕ → Type 0 = λ bytes. take (total_words front.map) bare.region ≡ flat_map (segment_words bytes) front.map in
    file_told told name Of (λ bytes tells. image_of bytes c.args.limits front bare c.in-Ok-new.ensures.limits (told_file told name bytes Front tells c.in-Ok.ensures.front)
    (told_file (g.F.Files.told c.read_front.new.files) name bytes Words (tells_same told (g.F.Files.told c.read_front.new.files) name bytes c.in-Ok.ensures.same tells) c.in-Ok-read_words.ensures.words))

pub returns-in-Err-read_words-clause-refused : goal.returns-in-Err-read_words-clause-refused
returns-in-Err-read_words-clause-refused g c =
    let told = g.F.Files.told c.args.files.now in
    let name : List ℕ = c.args.name.now in
    let front = c.in-Ok.front in
    let error = c.in-Err-read_words.error in
    let Cause : List ℕ → Type 0 = λ bytes. IsCauseOf bytes c.args.limits error in
    let Front : List ℕ → Type 0 = λ bytes. IsFrontOf bytes c.args.limits front in
    let Fault : List ℕ → Type 0 = λ bytes. end_place header_bytes front.map ≤ length bytes → IsFault error in
    file_told told name Cause (λ bytes tells.
    let f = told_file told name bytes Front tells c.in-Ok.ensures.front in
    let fault = told_file (g.F.Files.told c.read_front.new.files) name bytes Fault (tells_same told (g.F.Files.told c.read_front.new.files) name bytes c.in-Ok.ensures.same tells) c.in-Err-read_words.ensures.refused in
    fault_told bytes c.args.limits error (fault (omega (arith, f.ends, f.held))))
