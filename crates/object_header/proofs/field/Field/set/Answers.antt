use Rattle.std.proofs.Common.{◌-◌, ◌+◌, arith}
use Rattle.object_header.proofs.Fields.{shl-field_of-le, sub-add-with_field, with_field-lt, SetsField-with_field}
use Rattle.object_header.proofs.field.Field.set.Goals as goal

pub overflow_sub-result : goal.overflow_sub-result
overflow_sub-result g c = rw c.get.ensures.value (shl-field_of-le c.args.word g.row.LO g.row.LEN c.requires.within)

pub overflow_add-result : goal.overflow_add-result
overflow_add-result g c =
    rw (c.get.ensures.value, sub-add-with_field c.args.word g.row.LO g.row.LEN c.args.value c.requires.within c.requires.fits)
    (record { fits = with_field-lt c.args.word g.row.LO g.row.LEN c.args.value (64 - (g.row.LO + g.row.LEN)) (omega arith) c.ranges.word.fits c.requires.fits })

pub returns-clause-value : goal.returns-clause-value
returns-clause-value g c =
    rw c.get.ensures.value (sub-add-with_field c.args.word g.row.LO g.row.LEN c.args.value c.requires.within c.requires.fits)

pub returns-clause-sets : goal.returns-clause-sets
returns-clause-sets g c =
    rw (c.get.ensures.value, sub-add-with_field c.args.word g.row.LO g.row.LEN c.args.value c.requires.within c.requires.fits)
    (SetsField-with_field c.args.word g.row.LO g.row.LEN c.args.value c.requires.fits)
