use Rattle.std.proofs.Common.{refl, arith}
use Rattle.std.specs.Prelude.{Result, Ok, Err, OnOk, IsErr}
use Rattle.replay.proofs.Graphs.{handle_bound, handles_keep, no_room_left}
use Rattle.replay.proofs.handles.bind.Goals as goal

-- what was done where it did not fail
done : {X E : Type 0} (result : Result X E) (P : Type 0) → OnOk result P → (IsErr result → ⊥) → P
done (Ok x) P did never = did
done (Err e) P did never = absurd (never refl)

pub returns : goal.returns
returns c =
    let is = done c.bind-bound.result _ c.bind-bound.ensures.bound (λ failed.
    let full = c.bind-bound.ensures.full.0 failed in
    let refused = no_room_left c.args.heap.now c.args.mutator c.args.name.now.bytes full.0 (omega (arith, full.1)) in
    let room = c.requires.room in
    cc) in
    record {
      bound = handle_bound c.args.heap.now c.bind-bound.new.self c.args.mutator c.args.name.now.bytes c.args.word is;
      keeps = handles_keep c.args.heap.now c.bind-bound.new.self c.args.mutator c.args.name.now.bytes c.args.word is;
    }
