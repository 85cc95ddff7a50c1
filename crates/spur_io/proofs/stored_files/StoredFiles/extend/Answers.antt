use Rattle.std.proofs.Common.{◌≡◌, ◌++◌, refl}
use Rattle.std.proofs.lemmas.Result.{err_from_is_err_and}
use Rattle.spur_io.proofs.Places.{changes_only, all_kept}
use Rattle.spur_io.proofs.stored_files.StoredFiles.extend.Goals as goal

pub returns-in_err-extend_from_slice-clause-err : goal.returns-in_err-extend_from_slice-clause-err
returns-in_err-extend_from_slice-clause-err c =
    let p = err_from_is_err_and c.from_residual-in_err-extend_from_slice.result c.from_residual-in_err-extend_from_slice.ensures.1 in
    rw p.1
    (all_kept _ _ c.args.name.now
    (changes_only c.args.self.now.list.items c.find_or_make.new.self.list.items c.in_ok-place.place c.index_mut.result.now _ c.args.name.now (λ old new. new ≡ old) c.in_ok-place.ensures.same c.in_ok-place.ensures.place
    c.index_mut.ensures.value refl c.in_err-extend_from_slice.ensures.items))

pub returns-clause-ok : goal.returns-clause-ok
returns-clause-ok c =
    changes_only c.args.self.now.list.items c.find_or_make.new.self.list.items c.in_ok-place.place c.index_mut.result.now _ c.args.name.now (λ old new. new ≡ old ++ c.args.bytes.now) c.in_ok-place.ensures.same
    c.in_ok-place.ensures.place c.index_mut.ensures.value refl c.in_ok-extend_from_slice.ensures.items
