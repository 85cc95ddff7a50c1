use Rattle.std.proofs.Common.{◌+◌, ◌≢◌, get_or-set_other, refl}
use Rattle.spur_words.proofs.views.Pair.put_second.Goals as goal

pub returns-clause-first_kept : goal.returns-clause-first_kept
returns-clause-first_kept c k within =
    let pair = c.args.self.now in
    let other : pair.first_at + k ≢ pair.second_at + c.args.i = pair.apart k c.args.i within c.requires in
    rw (c.put_from.ensures, get_or-set_other) refl
