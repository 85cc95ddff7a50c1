use Rattle.std.proofs.Common.{◌+◌, ◌≢◌, get_or-set_other, refl, sym}
use Rattle.spur_words.proofs.views.Pair.put_first.Goals as goal

pub returns-clause-second_kept : goal.returns-clause-second_kept
returns-clause-second_kept c k within =
    let pair = c.args.self.now in
    let other : pair.second_at + k ≢ pair.first_at + c.args.i = λ same. pair.apart c.args.i k c.requires within (sym same) in
    rw (c.put_from.ensures, get_or-set_other) refl
