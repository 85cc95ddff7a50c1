use Rattle.std.proofs.lemmas.Result.{err_from_is_err_and}
use Rattle.spur_io.proofs.Places.{adds_none}
use Rattle.spur_io.proofs.memory_files.MemoryFilesFiles.append.Goals as goal

pub returns-in_err-extend-clause-bytes : goal.returns-in_err-extend-clause-bytes
returns-in_err-extend-clause-bytes c =
    let p = err_from_is_err_and c.from_residual.result c.from_residual.ensures.1 in
    rw p.1 (adds_none _ _ c.args.name.now c.args.bytes.now p.0 c.in_err-extend.ensures.err)
