use Rattle.std.proofs.Common.{◌≡◌, ℕ, List, length, take, drop, Some, None}
use Rattle.spur_graph.specs.declared.limits.Limits.{Limits}
use Rattle.image_file.specs.Told.{Tells}
use Rattle.image_file.specs.Errors.{IsCauseOf, header_error}
use Rattle.image_file.proofs.Fronts.{error_handed, told_file, front_is, front_short, front_refused, fault_of_file, header_of_file, passes_front, sound_header}
use Rattle.image_file.proofs.header.read_header.Goals as goal

pub returns-then-count-lt-HEADER_BYTES-clause-refused : goal.returns-then-count-lt-HEADER_BYTES-clause-refused
returns-then-count-lt-HEADER_BYTES-clause-refused g c file tells limits =
    let into : List ℕ = c.read_full.new.into in
    let count : ℕ = c.in_ok-count.count in
    front_short file into limits count c.read_full.auto.into c.if-count-lt-HEADER_BYTES.true
    (told_file (g.F.Files.told c.args.files.now) c.args.name.now file (λ bs. take count into ≡ take (length into) (drop 0 bs)) tells c.in_ok-count.ensures.bytes)

pub returns-clause-header : goal.returns-clause-header
returns-clause-header g c file tells =
    let into : List ℕ = c.read_full.new.into in
    let count : ℕ = c.in_ok-count.count in
    let front = front_is file into count c.read_full.auto.into c.if-count-lt-HEADER_BYTES.false
    (told_file (g.F.Files.told c.args.files.now) c.args.name.now file (λ bs. take count into ≡ take (length into) (drop 0 bs)) tells c.in_ok-count.ensures.bytes) in
    header_of_file file into c.in_ok-read.field-0 front.0 c.in_ok-read.ensures.fields

pub returns-clause-passes : goal.returns-clause-passes
returns-clause-passes g c file tells limits =
    let into : List ℕ = c.read_full.new.into in
    let count : ℕ = c.in_ok-count.count in
    let front = front_is file into count c.read_full.auto.into c.if-count-lt-HEADER_BYTES.false
    (told_file (g.F.Files.told c.args.files.now) c.args.name.now file (λ bs. take count into ≡ take (length into) (drop 0 bs)) tells c.in_ok-count.ensures.bytes) in
    passes_front file limits front.1 (fault_of_file file into None front.0 c.in_ok-read.ensures.error)

pub returns-clause-sound : goal.returns-clause-sound
returns-clause-sound g c = sound_header c.read_full.new.into c.in_ok-read.field-0 c.read_full.auto.into c.in_ok-read.ensures.fields c.in_ok-read.ensures.error

pub returns-in_err-read-clause-refused : goal.returns-in_err-read-clause-refused
returns-in_err-read-clause-refused g c =
    let into : List ℕ = c.read_full.new.into in
    let count : ℕ = c.in_ok-count.count in
    error_handed c.from_residual-in_err-read.result (header_error c.in_err-read.field-0.0)
    (λ e. (file : List ℕ) → Tells (g.F.Files.told c.args.files.now) c.args.name.now file → (limits : Limits) → IsCauseOf file limits e) c.from_residual-in_err-read.ensures.1
    (λ file tells limits.
    let front = front_is file into count c.read_full.auto.into c.if-count-lt-HEADER_BYTES.false
    (told_file (g.F.Files.told c.args.files.now) c.args.name.now file (λ bs. take count into ≡ take (length into) (drop 0 bs)) tells c.in_ok-count.ensures.bytes) in
    front_refused file limits c.in_err-read.field-0.0 front.1 (fault_of_file file into (Some c.in_err-read.field-0.0) front.0 c.in_err-read.ensures.error))
