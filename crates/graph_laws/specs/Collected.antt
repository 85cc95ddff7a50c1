-- What full collections, scavenges and mournings leave.
use Rattle.std.specs.Prelude.{ℕ}
use Rattle.spur_graph.specs.declared.answer.Answer.{Answer}
use Rattle.spur_graph.specs.Bytes.{Text}
use Rattle.spur_graph.specs.State.{State}
use Rattle.spur_graph.specs.Collections.{Collects, Mourns}
use Rattle.spur_graph.specs.Scavenges.{Scavenges}
use Rattle.graph_laws.specs.FixedNames.{HasAllNames}

-- a full collection leaves a closed graph, and a room that tells of no name but those that have a node
abbrev pub CollectsKeepNames : Type 0
CollectsKeepNames = (old new : State) (answer : Answer) → HasAllNames old → Collects old answer new → HasAllNames new

-- so does a scavenge
abbrev pub ScavengesKeepNames : Type 0
ScavengesKeepNames = (old new : State) (answer : Answer) → HasAllNames old → Scavenges old answer new → HasAllNames new

-- and so does a mourning
abbrev pub MournsKeepNames : Type 0
MournsKeepNames = (old new : State) (k : ℕ) (h : Text) (answer : Answer) → HasAllNames old → Mourns old k h answer new → HasAllNames new
