use Rattle.std.proofs.Common.{◌≡◌, [], refl}
use Rattle.spur_io.proofs.Places.{changes_only}
use Rattle.spur_io.proofs.stored_files.StoredFiles.make_empty.Goals as goal

pub returns-clause-ok : goal.returns-clause-ok
returns-clause-ok c =
    changes_only c.args.self.now.list.items c.find_or_make.new.self.list.items c.in_ok-place.place c.index_mut.result.now _ c.args.name.now (λ old new. new ≡ []) c.in_ok-place.ensures.same c.in_ok-place.ensures.place
    c.index_mut.ensures.value refl c.clear.ensures.items
