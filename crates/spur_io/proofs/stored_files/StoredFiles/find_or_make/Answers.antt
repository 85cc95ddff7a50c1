use Rattle.std.proofs.Common.{◌≡◌, true, Some, ap, sym, ◌∙◌}
use Rattle.std.proofs.lemmas.Slice.Eq.{bytes_eq-Decides}
use Rattle.spur_io.specs.Stored.{is_named}
use Rattle.spur_io.proofs.Places.{position-push, stored_push}
use Rattle.spur_io.proofs.stored_files.StoredFiles.find_or_make.Goals as goal

pub returns-in_ok-push-in-None-clause-place : goal.returns-in_ok-push-in-None-clause-place
returns-in_ok-push-in-None-clause-place c =
    let named : is_named c.args.name.now c.in_ok-empty-in-None.field-0 ≡ true = (bytes_eq-Decides _ c.args.name.now).1 c.in_ok-empty-in-None.ensures.name in
    rw c.in_ok-push-in-None.ensures.items
    (position-push (is_named c.args.name.now) c.args.self.now.list.items c.in_ok-empty-in-None.field-0 (sym c.in-None.ensures) named ∙ ap Some (sym (c.len-place.ensures ∙ c.args.self.now.list.ok.0)))

pub returns-in_ok-push-in-None-clause-same : goal.returns-in_ok-push-in-None-clause-same
returns-in_ok-push-in-None-clause-same c =
    rw c.in_ok-push-in-None.ensures.items (λ n. stored_push c.args.self.now.list.items c.in_ok-empty-in-None.field-0 n c.in_ok-empty-in-None.ensures.bytes)
