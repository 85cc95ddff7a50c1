use Rattle.std.proofs.Common.{sym, ◌∙◌}
use Rattle.image_checks.proofs.head.known_head.Goals as goal

pub unreachable-requires : goal.unreachable-requires
unreachable-requires c = c.requires.read c.args.at (record {
  k = c.requires.place.0;
  is = sym c.requires.place.1;
  inside = c.requires.before;
  error = c.in-Err.field-0;
  refused = sym c.head_at.ensures.value ∙ c.in-Err.is;
})
