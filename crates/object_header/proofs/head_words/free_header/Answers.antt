use Rattle.std.proofs.Common.{inl, inr, arith}
use Rattle.object_header.proofs.HeadWords.{built_free, free_bit}
use Rattle.object_header.proofs.head_words.free_header.Goals as goal

pub returns-clause-fields : goal.returns-clause-fields
returns-clause-fields c = built_free c.args.count _ _ _ c.set_count.ensures.fields c.set_format.ensures.fields c.set_class.ensures.fields

pub returns-clause-low : goal.returns-clause-low
returns-clause-low c =
    free_bit 22 c.args.count _ _ _ (inl (omega arith)) (inl (omega arith)) (inr (omega arith)) c.requires c.set_count.ensures.word c.set_format.ensures.word c.set_class.ensures.word

pub returns-clause-high : goal.returns-clause-high
returns-clause-high c =
    free_bit 54 c.args.count _ _ _ (inl (omega arith)) (inr (omega arith)) (inr (omega arith)) c.requires c.set_count.ensures.word c.set_format.ensures.word c.set_class.ensures.word
