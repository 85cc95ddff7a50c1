use Rattle.std.proofs.Common.{◌≡◌, ◌-◌, ◌≤◌, length}
use Rattle.std.specs.Option.{IfSome}
use Rattle.spur_io.proofs.FullReads.{IsFilled}
use Rattle.spur_io.proofs.full_reads.read_full.Given as goal

-- what is told is as at entry, and the bytes so far are those of the file
abbrev pub invariant-pieces : goal.invariant-pieces
invariant-pieces g l = record {
  told : g.F.Files.told l.files ≡ g.F.Files.told l.fn.files;
  reads : g.F.Files.read_count l.files ≡ g.F.Files.read_count l.fn.files;
  writes : g.F.Files.write_count l.files ≡ g.F.Files.write_count l.fn.files;
  most : l.filled ≤ length l.into;
  front : IfSome (g.F.Files.told l.fn.files) (λ store. IsFilled (store l.name) l.at l.filled l.into);
}

abbrev pub decreases-pieces : goal.decreases-pieces
decreases-pieces g l = length l.initial.into - l.filled
