use Rattle.std.proofs.Common.{List, ℕ, ◌++◌, take, drop, refl, ap, ◌∙◌}
use Rattle.std.specs.Int.{w64, to_le_bytes}
use Rattle.image_header.proofs.Puts.{put_is}
use Rattle.image_header.proofs.bytes.put64.Goals as goal

pub returns : goal.returns
returns c =
    let field : List ℕ = to_le_bytes w64 c.args.number in
    let old : List ℕ = c.args.bytes.now in
    ap (λ front. front ++ c.write_u64.new.buf) c.split_at_mut-rest.ensures.front
    ∙ (ap (λ rest. take c.args.at old ++ rest) (c.write_u64.ensures ∙ ap (λ rest. field ++ drop 8 rest) c.split_at_mut-rest.ensures.back) ∙ put_is c.args.at 8 field old refl)
