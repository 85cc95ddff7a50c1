use Rattle.std.proofs.Common.{◌≡◌, ℕ, ◌+◌, ◌-◌, sym, ap, arith, inl, inr}
use Rattle.std.proofs.lemmas.Bool.{cases_eq}
use Rattle.heap_walk.specs.Starts.{has_start}
use Rattle.heap_walk.specs.Shapes.{end_at}
use Rattle.planning_compactor.specs.Planning.{IsIn}
use Rattle.planning_compactor.proofs.parts.last_end.Goals as goal

pub objects-preserved : goal.objects-preserved
objects-preserved c =
    let has = has_start c.args.starts.now in
    let words = c.args.words.now in
    let s : ℕ = c.in-Some.start in
    let f = c.in-Some.ensures.found in
    let i = c.objects.invariant in
    let here : IsIn has c.args.part.low c.args.part.end s = (f.2, omega (arith, i.bound, f.0), f.1) in
    let at : s - c.lead_of.result + c.words_of.result ≡ end_at words s = λ j. s - c.lead_of.ensures.value j + c.words_of.ensures.value j in
    record {
      edge = inr (s, here, sym at);
      none = λ t k l. elim (cases_eq t s) [
        | inl e ↦ (let z : end_at words t ≡ end_at words s = ap (end_at words) e in omega (arith, z, at))
        | inr d ↦ (let z = (c.requires.laid.apart t s k here (omega (arith, l, d))).0 in omega (arith, z, at))
      ];
      bound = omega (arith, i.bound, f.0);
    }
