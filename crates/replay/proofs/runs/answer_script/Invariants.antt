use Rattle.std.proofs.Common.{◌≡◌, ◌-◌, ◌≤◌, false}
use Rattle.replay.specs.Sessions.{SameRun, WhereTold}
use Rattle.replay.specs.Runs.{most_script_bytes}
use Rattle.replay.proofs.Scripts.{ReadTo}
use Rattle.replay.proofs.runs.answer_script.Given as goal

-- nothing was refused, and the lines of the bytes that were read were answered
abbrev pub invariant-pieces : goal.invariant-pieces
invariant-pieces g l = record {
  run : SameRun l.fn.session l.session;
  ended : l.session.ended ≡ false;
  reads : g.F.Files.read_count l.files ≡ g.F.Files.read_count l.fn.files;
  writes : g.F.Files.write_count l.files ≡ g.F.Files.write_count l.fn.files;
  faults : g.K.Sink.fault_count l.out ≡ g.K.Sink.fault_count l.fn.out;
  low : l.at ≤ most_script_bytes;
  read : WhereTold (g.F.Files.told l.fn.files) (g.F.Files.told l.files) (ReadTo (g.K.Sink.so_far l.fn.out) l.fn.session l.session l.script l.at l.open_line (g.K.Sink.so_far l.out));
}

abbrev pub decreases-pieces : goal.decreases-pieces
decreases-pieces g l = most_script_bytes - l.at
