use Rattle.std.proofs.Common.{rules, ◌∙◌, arith}
use Rattle.spur_io.proofs.Changes.{on_err}
use Rattle.spur_io.proofs.Fronts.{begun_front, begun_short, front_more, front_short, front_whole}
use Rattle.drill_files.proofs.Pieces.{image_pieces, image_is}
use Rattle.drill_files.proofs.image_writer.write_base_image.Goals as goal

pub returns-in_err-append-clause-refused : goal.returns-in_err-append-clause-refused
returns-in_err-append-clause-refused g c = on_err c.from_residual-in_err-append.result (begun_short image_pieces image_is.0 image_is.1 (g.F.Files.told c.args.files.now) (g.F.Files.told c.begin.new.self) (g.F.Files.told c.append.new.self) c.args.name.now c.as_slice.result.now _ c.in_err-append.field-0.0 (c.as_slice.ensures.value ∙ c.base_header.ensures) c.in_ok-begin.ensures.bytes c.in_err-append.ensures.bytes)

pub pieces-init : goal.pieces-init
pieces-init g c = record {
  front = begun_front image_pieces (g.F.Files.told c.args.files.now) (g.F.Files.told c.begin.new.self) (g.F.Files.told c.append.new.self) c.args.name.now c.as_slice.result.now _ _ (c.as_slice.ensures.value ∙ c.base_header.ensures) c.in_ok-begin.ensures.bytes c.in_ok-append.ensures.bytes;
  within = omega arith;
  writes = search rules;
  reads = search rules;
}

pub returns-in_err-append-2-clause-refused : goal.returns-in_err-append-2-clause-refused
returns-in_err-append-2-clause-refused g c = on_err c.from_residual-in_err-append-2.result (front_short image_pieces c.word_count-end.result c.word_count-end.ensures.whole (g.F.Files.told c.args.files.now) (g.F.Files.told c.pieces.files) (g.F.Files.told c.append-in-pieces.new.self) c.args.name.now c.as_slice-in-pieces.result.now c.pieces.written c.min-count.result c.in_err-append-2.field-0.0 (c.as_slice-in-pieces.ensures.value ∙ c.words_piece.ensures) (omega arith) c.pieces.invariant.front c.in_err-append-2.ensures.bytes)

pub pieces-preserved : goal.pieces-preserved
pieces-preserved g c = record {
  front = front_more image_pieces (g.F.Files.told c.args.files.now) (g.F.Files.told c.pieces.files) (g.F.Files.told c.append-in-pieces.new.self) c.args.name.now c.as_slice-in-pieces.result.now c.pieces.written c.min-count.result _ (c.as_slice-in-pieces.ensures.value ∙ c.words_piece.ensures) c.pieces.invariant.front c.in_ok-append-2.ensures.bytes;
  within = omega arith;
  writes = search rules;
  reads = search rules;
}

pub returns-clause-written : goal.returns-clause-written
returns-clause-written g c = front_whole image_pieces c.word_count-end.result c.word_count-end.ensures.whole (g.F.Files.told c.args.files.now) (g.F.Files.told c.pieces.files) c.args.name.now c.pieces.written (omega arith) c.pieces.invariant.front
