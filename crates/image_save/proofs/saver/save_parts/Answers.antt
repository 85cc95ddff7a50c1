use Rattle.std.proofs.Common.{rules, ◌+◌, ℕ, ◌∙◌, arith, inl, inr, Err}
use Rattle.spur_io.proofs.Changes.{on_err, told_as}
use Rattle.spur_io.proofs.Fronts.{begun_front, begun_short, front_more, front_short, front_whole}
use Rattle.spur_io.specs.Store.{Begins}
use Rattle.spur_heap.specs.Parts.{view_of}
use Rattle.image_save.specs.Saved.{IsCutShort}
use Rattle.image_save.proofs.Pieces.{saved_pieces, text_is}
use Rattle.image_save.proofs.Ready.{ready_first}
use Rattle.image_save.proofs.saver.save_parts.Goals as goal

pub returns-in_err-begin-clause-cut : goal.returns-in_err-begin-clause-cut
returns-in_err-begin-clause-cut g c =
    on_err c.from_residual.result
    (told_as (g.F.Files.told c.args.files.now) (g.F.Files.told c.begin.new.self) c.args.name.now (Begins (Err c.in_err-begin.field-0.0)) (IsCutShort (view_of c.args.parts.now))
    (λ old new begun. elim begun [ inl same ↦ inl same | inr none ↦ inr (0, none) ]) c.in_err-begin.ensures.bytes)

pub returns-in_err-append-clause-cut : goal.returns-in_err-append-clause-cut
returns-in_err-append-clause-cut g c =
    let v = view_of c.args.parts.now in
    let words : ℕ = c.places_of-places.result.words in
    on_err c.from_residual-in_err-append.result
    (begun_short (saved_pieces v) (words + 2) (text_is v words c.places_of-places.ensures.words_is) (g.F.Files.told c.args.files.now) (g.F.Files.told c.begin.new.self) (g.F.Files.told c.append.new.self) c.args.name.now
    c.header_bytes.result _ c.in_err-append.field-0.0 c.header_bytes.ensures c.in_ok-begin.ensures.bytes c.in_err-append.ensures.bytes)

pub pieces-init : goal.pieces-init
pieces-init g c = record {
  front = begun_front (saved_pieces (view_of c.args.parts.now)) (g.F.Files.told c.args.files.now) (g.F.Files.told c.begin.new.self) (g.F.Files.told c.append.new.self) c.args.name.now
      c.header_bytes.result _ _ c.header_bytes.ensures c.in_ok-begin.ensures.bytes c.in_ok-append.ensures.bytes;
  within = omega arith;
  ready = ready_first (view_of c.args.parts.now) c.requires c.before-cursor.result c.before-cursor.ensures;
  writes = search rules;
  reads = search rules;
}

pub returns-in_err-append-2-clause-cut : goal.returns-in_err-append-2-clause-cut
returns-in_err-append-2-clause-cut g c =
    let v = view_of c.args.parts.now in
    let words : ℕ = c.places_of-places.result.words in
    on_err c.from_residual-in_err-append-2.result
    (front_short (saved_pieces v) (words + 2) (text_is v words c.places_of-places.ensures.words_is) (g.F.Files.told c.args.files.now) (g.F.Files.told c.pieces.files) (g.F.Files.told c.append-in-pieces.new.self) c.args.name.now
    c.as_slice.result.now c.pieces.done c.min-count.result c.in_err-append-2.field-0.0 (c.as_slice.ensures.value ∙ c.words_piece-piece.ensures.bytes) (omega arith) c.pieces.invariant.front c.in_err-append-2.ensures.bytes)

pub pieces-preserved : goal.pieces-preserved
pieces-preserved g c = record {
  front = front_more (saved_pieces (view_of c.args.parts.now)) (g.F.Files.told c.args.files.now) (g.F.Files.told c.pieces.files) (g.F.Files.told c.append-in-pieces.new.self) c.args.name.now
      c.as_slice.result.now c.pieces.done c.min-count.result _ (c.as_slice.ensures.value ∙ c.words_piece-piece.ensures.bytes) c.pieces.invariant.front c.in_ok-append-2.ensures.bytes;
  within = omega arith;
  ready = c.words_piece-piece.ensures.ready;
  writes = search rules;
  reads = search rules;
}

pub returns-clause-saved : goal.returns-clause-saved
returns-clause-saved g c =
    let v = view_of c.args.parts.now in
    let words : ℕ = c.places_of-places.result.words in
    front_whole (saved_pieces v) (words + 2) (text_is v words c.places_of-places.ensures.words_is) (g.F.Files.told c.args.files.now) (g.F.Files.told c.pieces.files) c.args.name.now c.pieces.done (omega arith) c.pieces.invariant.front
