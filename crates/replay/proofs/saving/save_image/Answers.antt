use Rattle.std.proofs.Common.{List, ℕ, subst}
use Rattle.spur_io.specs.Store.{Changes}
use Rattle.image_save.specs.Saved.{IsSaved, IsCutShort}
use Rattle.replay.proofs.SavedLines.{saved_as, cuts_as, on_fault}
use Rattle.replay.proofs.saving.save_image.Goals as goal

pub returns-in-Ok-clause-saved : goal.returns-in-Ok-clause-saved
returns-in-Ok-clause-saved g c =
    let P : List ℕ → Type 0 = λ name. Changes (g.F.Files.told c.args.files.now) (g.F.Files.told c.save.new.files) name (IsSaved c.args.heap.now) in
    saved_as c.args.heap.now (g.F.Files.told c.args.files.now) (g.F.Files.told c.save.new.files) c.args.name.now.bytes c.in-Ok.ensures.denotes (subst P c.as_str-2.ensures.value c.in-Ok.ensures.saved)

pub returns-in-Err-Failed-clause-cut : goal.returns-in-Err-Failed-clause-cut
returns-in-Err-Failed-clause-cut g c =
    let P : List ℕ → Type 0 = λ name. Changes (g.F.Files.told c.args.files.now) (g.F.Files.told c.save.new.files) name (IsCutShort c.args.heap.now) in
    on_fault c.into-in-Err-Failed.result
    (cuts_as c.args.heap.now (g.F.Files.told c.args.files.now) (g.F.Files.told c.save.new.files) c.args.name.now.bytes c.in-Err-Failed.ensures.denotes (subst P c.as_str-2.ensures.value c.in-Err-Failed.ensures.cut))

pub returns-in-Err-Memory-clause-cut : goal.returns-in-Err-Memory-clause-cut
returns-in-Err-Memory-clause-cut g c =
    let P : List ℕ → Type 0 = λ name. Changes (g.F.Files.told c.args.files.now) (g.F.Files.told c.save.new.files) name (IsCutShort c.args.heap.now) in
    on_fault c.into-in-Err-Memory.result
    (cuts_as c.args.heap.now (g.F.Files.told c.args.files.now) (g.F.Files.told c.save.new.files) c.args.name.now.bytes c.in-Err-Memory.ensures.denotes (subst P c.as_str-2.ensures.value c.in-Err-Memory.ensures.cut))
