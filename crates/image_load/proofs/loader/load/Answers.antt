use Rattle.std.proofs.Common.{List, ℕ, subst}
use Rattle.std.specs.Option.{IfSome}
use Rattle.spur_graph.specs.declared.limits.Limits.{Limits}
use Rattle.spur_graph.specs.ImageCauses.{IsAccepted}
use Rattle.spur_graph.specs.Heaps.{View, Stands}
use Rattle.spur_graph.specs.LoadedGraph.{loaded_graph, loaded_room}
use Rattle.image_laws.specs.Whole.{StandsInOrder}
use Rattle.image_file.proofs.Fronts.{told_file, file_told}
use Rattle.image_load.specs.Images.{IsImageOf}
use Rattle.image_load.proofs.Adopting.{of_ok}
use Rattle.image_load.proofs.loader.load.Goals as goal

pub returns-in-Ok-clause-stands : goal.returns-in-Ok-clause-stands
returns-in-Ok-clause-stands g c =
    let told = g.F.Files.told c.args.files.now in
    let name : List ℕ = c.args.name.now in
    let image = c.in-Ok.image in
    let Of : List ℕ → Type 0 = λ bytes. IsImageOf bytes image in
    let Loaded : Limits → List ℕ → View → Type 0 = λ l bytes h. IsAccepted bytes l × Stands h (loaded_graph bytes) (loaded_room bytes l) in
    let Q : View → Type 0 = λ h. (bytes : List ℕ) → IsImageOf bytes image → Loaded image.bare.limits bytes h in
    let R : View → Type 0 = λ h. IfSome told (λ store. Loaded c.args.limits (store name) h) in
    of_ok c.adopt.result Q R (λ h loaded. file_told told name (λ bytes. Loaded c.args.limits bytes h) (λ bytes tells.
    subst (λ l. Loaded l bytes h) c.in-Ok.ensures.limits (loaded bytes (told_file told name bytes Of tells c.in-Ok.ensures.image)))) c.adopt.ensures.stands

pub returns-in-Ok-clause-order : goal.returns-in-Ok-clause-order
returns-in-Ok-clause-order g c =
    let told = g.F.Files.told c.args.files.now in
    let name : List ℕ = c.args.name.now in
    let image = c.in-Ok.image in
    let Of : List ℕ → Type 0 = λ bytes. IsImageOf bytes image in
    let Q : View → Type 0 = λ h. (bytes : List ℕ) → IsImageOf bytes image → StandsInOrder bytes image.bare.limits h in
    let R : View → Type 0 = λ h. IfSome told (λ store. StandsInOrder (store name) c.args.limits h) in
    of_ok c.adopt.result Q R (λ h loaded. file_told told name (λ bytes. StandsInOrder bytes c.args.limits h) (λ bytes tells.
    subst (λ l. StandsInOrder bytes l h) c.in-Ok.ensures.limits (loaded bytes (told_file told name bytes Of tells c.in-Ok.ensures.image)))) c.adopt.ensures.order
