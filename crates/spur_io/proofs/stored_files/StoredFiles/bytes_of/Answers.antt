use Rattle.std.proofs.Common.{sym, ◌∙◌}
use Rattle.spur_io.proofs.Places.{stored_found, stored_missing}
use Rattle.spur_io.proofs.stored_files.StoredFiles.bytes_of.Goals as goal

pub returns-in-Some : goal.returns-in-Some
returns-in-Some c =
    c.as_slice.ensures.value ∙ stored_found c.args.self.now.list.items c.in-Some.place c.index.result.now c.args.name.now (sym c.in-Some.ensures) c.index.ensures

pub returns-in-None : goal.returns-in-None
returns-in-None c = sym (stored_missing c.args.self.now.list.items c.args.name.now (sym c.in-None.ensures))
