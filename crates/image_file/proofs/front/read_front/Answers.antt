use Rattle.std.proofs.Common.{ap, ◌+◌, ◌∙◌}
use Rattle.std.specs.Option.{IfSome}
use Rattle.spur_graph.specs.ImageFile.{header_bytes}
use Rattle.image_file.specs.Errors.{IsCauseOf}
use Rattle.image_file.specs.Whole.{IsFrontOf}
use Rattle.image_file.proofs.Fronts.{error_handed, file_told, tells_same}
use Rattle.image_file.proofs.Refusals.{has_header, long_heap, passes_large, passes_length, passes_chain, large_refused, short_refused, chain_refused}
use Rattle.image_file.proofs.front.read_front.Goals as goal

pub returns-in_err-header-clause-refused : goal.returns-in_err-header-clause-refused
returns-in_err-header-clause-refused g c =
    let told = g.F.Files.told c.args.files.now in
    let name = c.args.name.now in
    let error = c.in_err-header.field-0.0 in
    error_handed c.from_residual.result error (λ e. IfSome told (λ store. IsCauseOf (store name) c.args.limits e)) c.from_residual.ensures.1
    (file_told told name (λ bs. IsCauseOf bs c.args.limits error) (λ file tells. c.in_err-header.ensures.refused file tells c.args.limits))

pub returns-in_err-check_size-clause-refused : goal.returns-in_err-check_size-clause-refused
returns-in_err-check_size-clause-refused g c =
    let told = g.F.Files.told c.args.files.now in
    let name = c.args.name.now in
    let error = c.in_err-check_size.field-0.0 in
    error_handed c.from_residual-in_err-check_size.result error (λ e. IfSome told (λ store. IsCauseOf (store name) c.args.limits e)) c.from_residual-in_err-check_size.ensures.1
    (file_told told name (λ bs. IsCauseOf bs c.args.limits error) (λ file tells.
    large_refused file c.args.limits c.in_ok-header.header error (c.in_ok-header.ensures.header file tells) (c.in_ok-header.ensures.passes file tells c.args.limits) c.in_err-check_size.ensures.large.0
    c.in_err-check_size.ensures.large.1))

pub returns-in_err-check_length-clause-refused : goal.returns-in_err-check_length-clause-refused
returns-in_err-check_length-clause-refused g c =
    let told = g.F.Files.told c.args.files.now in
    let name = c.args.name.now in
    let error = c.in_err-check_length.field-0.0 in
    let header = c.in_ok-header.header in
    let limits = c.args.limits in
    error_handed c.from_residual-in_err-check_length.result error (λ e. IfSome told (λ store. IsCauseOf (store name) limits e)) c.from_residual-in_err-check_length.ensures.1
    (file_told told name (λ bs. IsCauseOf bs limits error) (λ file tells.
    let is = c.in_ok-header.ensures.header file tells in
    let four = c.in_ok-header.ensures.passes file tells limits in
    let again = tells_same told (g.F.Files.told c.read_header.new.files) name file c.in_ok-header.ensures.same tells in
    short_refused file limits (128 + header.heap_bytes) error (passes_large file limits header is four c.in_ok-check_size.ensures.fits) (ap (λ n. header_bytes + n) is.heap_is)
    (c.in_err-check_length.ensures.short file again (has_header file limits four))))

pub returns-in_err-map-clause-refused : goal.returns-in_err-map-clause-refused
returns-in_err-map-clause-refused g c =
    let told = g.F.Files.told c.args.files.now in
    let name = c.args.name.now in
    let error = c.in_err-map.field-0.0 in
    let header = c.in_ok-header.header in
    let limits = c.args.limits in
    error_handed c.from_residual-in_err-map.result error (λ e. IfSome told (λ store. IsCauseOf (store name) limits e)) c.from_residual-in_err-map.ensures.1
    (file_told told name (λ bs. IsCauseOf bs limits error) (λ file tells.
    let is = c.in_ok-header.ensures.header file tells in
    let four = c.in_ok-header.ensures.passes file tells limits in
    let again = tells_same told (g.F.Files.told c.read_header.new.files) name file c.in_ok-header.ensures.same tells in
    let last = tells_same told (g.F.Files.told c.check_length.new.files) name file (c.in_ok-check_length.ensures.same ∙ c.in_ok-header.ensures.same) tells in
    let long = long_heap file header is (c.in_ok-check_length.ensures.long file again (has_header file limits four)) in
    chain_refused file limits error (passes_length file limits (passes_large file limits header is four c.in_ok-check_size.ensures.fits) long) (c.in_err-map.ensures.refused file last is long)))

pub returns-clause-front : goal.returns-clause-front
returns-clause-front g c =
    let told = g.F.Files.told c.args.files.now in
    let name = c.args.name.now in
    let header = c.in_ok-header.header in
    let limits = c.args.limits in
    file_told told name (λ bs. IsFrontOf bs limits (record { header = header; map = c.in_ok-map.map })) (λ file tells.
    let is = c.in_ok-header.ensures.header file tells in
    let four = c.in_ok-header.ensures.passes file tells limits in
    let again = tells_same told (g.F.Files.told c.read_header.new.files) name file c.in_ok-header.ensures.same tells in
    let last = tells_same told (g.F.Files.told c.check_length.new.files) name file (c.in_ok-check_length.ensures.same ∙ c.in_ok-header.ensures.same) tells in
    let long = long_heap file header is (c.in_ok-check_length.ensures.long file again (has_header file limits four)) in
    let chain = c.in_ok-map.ensures.chain file last is long in
    record {
      header_is = is;
      map_is = chain.all;
      held = long;
      ends = c.in_ok-map.ensures.ends ∙ ap (λ n. header_bytes + n) is.heap_is;
      passes = passes_chain file limits (passes_length file limits (passes_large file limits header is four c.in_ok-check_size.ensures.fits) long) chain.good;
    })
