use Rattle.object_header.proofs.HeadWords.{overflow_count, overflow_slots}
use Rattle.object_header.proofs.head_words.overflow_word.Goals as goal

pub returns-clause-count : goal.returns-clause-count
returns-clause-count c = overflow_count c.args.slots c.requires

pub returns-clause-slots : goal.returns-clause-slots
returns-clause-slots c = overflow_slots c.args.slots c.requires
