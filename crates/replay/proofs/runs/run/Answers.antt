use Rattle.std.proofs.Common.{map, subst, List, ℕ}
use Rattle.std.specs.String.{string_bytes}
use Rattle.replay.specs.declared.runs.Status.TheVariants as status
use Rattle.replay.specs.Stops.{IsPut}
use Rattle.replay.proofs.Outcomes.{misused}
use Rattle.replay.proofs.runs.run.Goals as goal

pub returns-in-None-clause-outcome : goal.returns-in-None-clause-outcome
returns-in-None-clause-outcome g c =
    let P : List ℕ → Type 0 = λ line. IsPut line (g.K.Sink.so_far c.args.out.now) (g.K.Sink.so_far c.put_line.new.out) (g.K.Sink.fault_count c.args.out.now) (g.K.Sink.fault_count c.put_line.new.out) status.Usage c.put_line.result in
    misused (g.F.Files.told c.args.files.now) (g.K.Sink.so_far c.args.out.now) (g.K.Sink.so_far c.put_line.new.out) (map string_bytes c.args.words.now) c.args.kept.now (g.F.Files.write_count c.args.files.now)
    (g.F.Files.write_count c.args.files.now) (g.K.Sink.fault_count c.args.out.now) (g.K.Sink.fault_count c.put_line.new.out) c.put_line.result c.requires c.in-None.ensures.none (subst P c.as_bytes.ensures.value c.put_line.ensures)
