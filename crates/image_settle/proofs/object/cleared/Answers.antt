use Rattle.std.proofs.Common.{inl, inr, arith}
use Rattle.object_header.specs.Fields.{fields_of}
use Rattle.heap_cells.proofs.UnusedBits.{zero_unused, set_unused}
use Rattle.image_settle.proofs.Headers.{built}
use Rattle.image_settle.proofs.object.cleared.Goals as goal

pub returns-clause-fields : goal.returns-clause-fields
returns-clause-fields c = built (fields_of c.args.header.0) _ _ _ _ _ _ _ _ _ _ _ _ c.count.ensures.value c.set_count.ensures.fields c.hash.ensures.value c.set_hash.ensures.fields c.pinned.ensures.value c.set_pinned.ensures.fields
    c.format.ensures.value c.set_format.ensures.fields c.readonly.ensures.value c.set_readonly.ensures.fields c.class.ensures.value c.set_class.ensures.fields

pub returns-clause-unused : goal.returns-clause-unused
returns-clause-unused c =
    let count = set_unused 56 8 0 c.count.result c.set_count.result.0 (inl (omega arith)) (inl (omega arith)) c.count.ensures.bound c.set_count.ensures.word zero_unused in
    let hash = set_unused 32 22 c.set_count.result.0 c.hash.result c.set_hash.result.0 (inl (omega arith)) (inr (omega arith)) c.hash.ensures.bound c.set_hash.ensures.word count in
    let pinned = set_unused 30 1 c.set_hash.result.0 c.pinned.result c.set_pinned.result.0 (inl (omega arith)) (inr (omega arith)) c.pinned.ensures.bound c.set_pinned.ensures.word hash in
    let format = set_unused 24 5 c.set_pinned.result.0 c.format.result c.set_format.result.0 (inl (omega arith)) (inr (omega arith)) c.format.ensures.bound c.set_format.ensures.word pinned in
    let readonly = set_unused 23 1 c.set_format.result.0 c.readonly.result c.set_readonly.result.0 (inl (omega arith)) (inr (omega arith)) c.readonly.ensures.bound c.set_readonly.ensures.word format in
    set_unused 0 22 c.set_readonly.result.0 c.class.result c.set_class.result.0 (inr (omega arith)) (inr (omega arith)) c.class.ensures.bound c.set_class.ensures.word readonly
