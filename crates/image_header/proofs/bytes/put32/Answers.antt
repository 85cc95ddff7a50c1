use Rattle.std.proofs.Common.{List, ℕ, ◌++◌, take, drop, refl, ap, ◌∙◌}
use Rattle.std.specs.Int.{w32, to_le_bytes}
use Rattle.image_header.proofs.Puts.{put_is}
use Rattle.image_header.proofs.bytes.put32.Goals as goal

pub returns : goal.returns
returns c =
    let field : List ℕ = to_le_bytes w32 c.args.number in
    let old : List ℕ = c.args.bytes.now in
    ap (λ front. front ++ c.write_u32.new.buf) c.split_at_mut-rest.ensures.front
    ∙ (ap (λ rest. take c.args.at old ++ rest) (c.write_u32.ensures ∙ ap (λ rest. field ++ drop 4 rest) c.split_at_mut-rest.ensures.back) ∙ put_is c.args.at 4 field old refl)
