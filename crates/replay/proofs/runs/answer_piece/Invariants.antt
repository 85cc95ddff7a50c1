use Rattle.std.proofs.Common.{◌≡◌, length}
use Rattle.replay.specs.Sessions.{SameRun, WhereTold}
use Rattle.replay.proofs.Pieces.{Passed}
use Rattle.replay.proofs.runs.answer_piece.Given as goal

-- the lines up to the rest of the piece were answered, without a fault
abbrev pub invariant-lines : goal.invariant-lines
invariant-lines g l = record {
  run : SameRun l.fn.session l.session;
  ended : l.session.ended ≡ l.fn.session.ended;
  reads : g.F.Files.read_count l.files ≡ g.F.Files.read_count l.fn.files;
  writes : g.F.Files.write_count l.files ≡ g.F.Files.write_count l.fn.files;
  faults : g.K.Sink.fault_count l.out ≡ g.K.Sink.fault_count l.fn.out;
  passed : WhereTold (g.F.Files.told l.fn.files) (g.F.Files.told l.files)
      (λ store store_now. Passed l.fn.session store l.session store_now l.fn.open_line l.open_line l.piece l.rest (g.K.Sink.so_far l.fn.out) (g.K.Sink.so_far l.out));
}

abbrev pub decreases-lines : goal.decreases-lines
decreases-lines g l = length l.rest
