use Rattle.image_checks.specs.Chains.{AreKnown}
use Rattle.image_checks.proofs.Resolving.{kept, more, done-here, done-next, done-before, done-all, lost, no-lost, resolved}
use Rattle.image_checks.proofs.chains.resolve_forwarders.Goals as goal

pub returns-then-not-resolve-clause-least : goal.returns-then-not-resolve-clause-least
returns-then-not-resolve-clause-least c =
    let i = c.starts.invariant in
    let known : AreKnown c.args.map.now c.args.words.now c.args.starts.now = record { cut = c.requires.cut; all = c.requires.all; marked = c.requires.starts; covers = c.requires.covers } in
    lost known i.short c.in-Some.s (c.resolve.ensures.lost c.if-not-resolve.true) (done-before known i.short c.starts.at c.in-Some.s i.done c.in-Some.ensures.first)

pub starts-preserved : goal.starts-preserved
starts-preserved c =
    let i = c.starts.invariant in
    let new = c.resolve.new.words in
    let short = c.resolve.ensures.shortened in
    let known : AreKnown c.args.map.now c.args.words.now c.args.starts.now = record { cut = c.requires.cut; all = c.requires.all; marked = c.requires.starts; covers = c.requires.covers } in
    record {
      known = kept c.args.map.now c.starts.words c.args.starts.now i.known new short;
      short = more c.args.map.now c.args.words.now c.args.starts.now known c.starts.words new i.short short;
      done = done-next known i.short new c.in-Some.s short (done-before known i.short c.starts.at c.in-Some.s i.done c.in-Some.ensures.first)
          (done-here known i.short new c.in-Some.s (c.resolve.ensures.ends c.if-not-resolve.false) (c.resolve.ensures.here c.if-not-resolve.false));
    }

pub returns-clause-least : goal.returns-clause-least
returns-clause-least c =
    let i = c.starts.invariant in
    let known : AreKnown c.args.map.now c.args.words.now c.args.starts.now = record { cut = c.requires.cut; all = c.requires.all; marked = c.requires.starts; covers = c.requires.covers } in
    no-lost known i.short (done-all known i.short c.starts.at i.done c.in_default.ensures.none)

pub returns-clause-resolved : goal.returns-clause-resolved
returns-clause-resolved c =
    let i = c.starts.invariant in
    let known : AreKnown c.args.map.now c.args.words.now c.args.starts.now = record { cut = c.requires.cut; all = c.requires.all; marked = c.requires.starts; covers = c.requires.covers } in
    resolved known i.short (done-all known i.short c.starts.at i.done c.in_default.ensures.none)
