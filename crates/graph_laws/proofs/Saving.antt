-- States that differ in names alone choose alike: a text that is saved in one of them is saved in the other, and so it is with what a collection leaves and with
-- who mourns no more.
use Rattle.std.proofs.Common.{ℕ, refl, sym, ap, ◌∙◌, subst}
use Rattle.spur_graph.specs.declared.answer.Answer.{Answer}
use Rattle.spur_graph.specs.Bytes.{Text}
use Rattle.spur_graph.specs.Form.{Form, Gc, Mourn, Save}
use Rattle.spur_graph.specs.State.{State}
use Rattle.spur_graph.specs.Saves.{Saves}
use Rattle.spur_graph.specs.Does.{Chooses}
use Rattle.spur_graph.specs.Step.{Renamed}
use Rattle.graph_laws.proofs.Denoted.{denotes-renamed}
use Rattle.graph_laws.proofs.Named.{IsNamed, files-named}
use Rattle.graph_laws.proofs.Collecting.{collects-alike}
use Rattle.graph_laws.proofs.Mourning.{mourns-alike}

module _ {s t : State} (named : IsNamed s) (k : Renamed s t) where
  saves-alike : (name : Text) (answer : Answer) (new : State) → Saves t name answer new → (end : State) × Saves s name answer end × Renamed end new × IsNamed end
  saves-alike name answer new saves =
      let end : State = record s { files = new.files } in (
        end,
        record {
          done = saves.done;
          file = denotes-renamed k.graph saves.file;
          others = λ n other. saves.others n other ∙ ap (λ files. files n) k.files;
          rest = refl;
        },
        subst (λ x. Renamed end x) (sym saves.rest) (record {
          p = k.p;
          back = k.back;
          graph = k.graph;
          room = k.room;
          files = refl;
          script = k.script;
          next = k.next;
        }),
        files-named named new.files,
      )

  pub chooses-alike : (m : ℕ) (form : Form) (answer : Answer) (new : State) → Chooses t m form answer new → (end : State) × Chooses s m form answer end × Renamed end new × IsNamed end
  chooses-alike m (Save name) answer new saves = saves-alike name answer new saves
  chooses-alike m Gc answer new collects = collects-alike named k answer new collects
  chooses-alike m (Mourn h) answer new mourns = mourns-alike named k m h answer new mourns
  chooses-alike m form answer new none = absurd none
