use Rattle.std.proofs.Common.{◌≡◌, ◌∙◌, sym, ap}
use Rattle.spur_graph.specs.Heaps.{View}
use Rattle.weak_ephemeron.proofs.Retiring.{fires_one, retired_absent, retired_format, retired_there}
use Rattle.weak_ephemeron.proofs.firing.fire.Goals as goal

pub add_mourner-requires-clause-there : goal.add_mourner-requires-clause-there
add_mourner-requires-clause-there c = retired_there c.args.heap.now c.whole.ensures.whole c.args.start c.requires.there c.requires.ephemeron c.retire_ephemeron.new.self c.retire_ephemeron.ensures.written c.retire_ephemeron.ensures.graph c.retire_ephemeron.ensures.room

pub add_mourner-requires-clause-format : goal.add_mourner-requires-clause-format
add_mourner-requires-clause-format c = retired_format c.args.heap.now c.whole.ensures.whole c.args.start c.requires.there c.requires.ephemeron c.retire_ephemeron.new.self c.retire_ephemeron.ensures.written c.retire_ephemeron.ensures.graph c.retire_ephemeron.ensures.room

pub add_mourner-requires-clause-absent : goal.add_mourner-requires-clause-absent
add_mourner-requires-clause-absent c = retired_absent c.args.heap.now c.whole.ensures.whole c.args.start c.requires.there c.requires.ephemeron c.retire_ephemeron.new.self c.retire_ephemeron.ensures.written c.retire_ephemeron.ensures.graph c.retire_ephemeron.ensures.room

pub add_mourner-requires-clause-some : goal.add_mourner-requires-clause-some
add_mourner-requires-clause-some c later none = c.requires.some later (sym (ap (λ (v : View). v.mourners) c.retire_ephemeron.ensures.written) ∙ none)

pub returns : goal.returns
returns c = record {
  fires = fires_one c.args.heap.now c.whole.ensures.whole c.args.start c.requires.there c.requires.ephemeron c.retire_ephemeron.new.self c.retire_ephemeron.ensures.written c.retire_ephemeron.ensures.graph c.retire_ephemeron.ensures.room
      c.args.first c.add_mourner.new.self c.add_mourner.ensures.rest c.add_mourner.ensures.graph c.add_mourner.ensures.room;
}
