use Rattle.std.proofs.Common.{◌-◌, arith, ap, ◌∙◌, set}
use Rattle.free_lists.proofs.Taken.{small_taken}
use Rattle.free_lists.proofs.lists.FreeLists.remove_small.Goals as goal

pub overflow_add-at : goal.overflow_add-at
overflow_add-at c =
    let h = c.requires.held in
    let chunk = h.1.chunks (c.args.at, c.args.words) h.2 in
    record { fits = omega (arith, chunk.inside, chunk.big, c.requires.small) }

pub get-next-requires : goal.get-next-requires
get-next-requires c =
    let h = c.requires.held in
    let chunk = h.1.chunks (c.args.at, c.args.words) h.2 in
    omega (arith, chunk.inside, chunk.big)

pub returns : goal.returns
returns c = record {
  out = λ runs l there.
      small_taken c.args.region.now c.args.self.now _ runs c.args.at c.args.words l c.requires.short c.requires.first
      (c.set_head.ensures.heads ∙ ap (λ n. set c.args.self.now.heads c.args.words n) c.get-next.ensures) c.set_head.ensures.same.0 (c.set_head.ensures.bits l.bits)
      (ap (λ n. n - c.args.words) c.set_head.ensures.same.1);
}
