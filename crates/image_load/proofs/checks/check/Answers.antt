use Rattle.image_load.proofs.Telling.{reaches_objects, reaches_forwarders, reaches_pages}
use Rattle.image_load.proofs.checks.check.Goals as goal

pub returns-in-Err-clause-refused : goal.returns-in-Err-clause-refused
returns-in-Err-clause-refused c bytes limits special t = c.in-Err.ensures.told bytes limits (reaches_objects t)

pub returns-in-Err-check_forwarders-clause-refused : goal.returns-in-Err-check_forwarders-clause-refused
returns-in-Err-check_forwarders-clause-refused c bytes limits special t = c.in-Err-check_forwarders.ensures.told bytes limits (reaches_forwarders t c.in-Ok.ensures.chunks)

pub returns-in-Err-check_classes-clause-refused : goal.returns-in-Err-check_classes-clause-refused
returns-in-Err-check_classes-clause-refused c bytes limits special t =
    c.in-Err-check_classes.ensures.told c.args.words.now bytes limits (reaches_pages t c.in-Ok.ensures.chunks c.in-Ok-check_forwarders.ensures.forwarded)
