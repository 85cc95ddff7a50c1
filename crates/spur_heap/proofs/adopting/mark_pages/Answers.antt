use Rattle.std.proofs.Common.{◌≡◌, ◌+◌, ◌/◌, ◌||◌, ℕ, suc, get_or, refl, ap, sym, ◌∙◌, arith}
use Rattle.std.proofs.Math.Bool.{or_comm}
use Rattle.spur_graph.specs.Cells.{any_below}
use Rattle.spur_heap.specs.Counting.{names_page, root_names}
use Rattle.spur_heap.proofs.adopting.mark_pages.Goals as goal

pub places-init : goal.places-init
unfolding any_below
places-init c = record { marks = λ s. c.requires.empty s; covers = refl }

pub mark_page-requires : goal.mark_page-requires
mark_page-requires c = record {
  inside = λ other.
      let is = c.get.ensures in
      let low = c.requires.pages c.places.i (omega (arith, c.places-test.true)) (λ e. other (is ∙ e)) in
      let same : c.get.result / 8 ≡ get_or c.args.region.now (c.args.roots + 1 + c.places.i) 0 / 8 = ap (λ w. w / 8) is in
      omega (arith, low, same, c.places.invariant.covers);
}

pub places-preserved : goal.places-preserved
unfolding any_below
places-preserved c = record {
  marks = λ s.
      let n : ℕ = c.places.i in
      let f = root_names c.args.region.now c.args.roots c.args.nil s in
      let one : n + 1 ≡ suc n = omega arith in
      c.mark_page.ensures.marks s
      ∙ ap (λ b. b || names_page c.args.nil s c.get.result) (c.places.invariant.marks s)
      ∙ ap (λ w. any_below f n || names_page c.args.nil s w) c.get.ensures
      ∙ or_comm (any_below f n) (f n)
      ∙ sym (ap (any_below f) one);
  covers = c.mark_page.ensures.covers ∙ c.places.invariant.covers;
}

pub returns-clause-marks : goal.returns-clause-marks
returns-clause-marks c = λ s.
    let all : c.places.i ≡ 4096 = omega arith in
    c.places.invariant.marks s ∙ ap (any_below (root_names c.args.region.now c.args.roots c.args.nil s)) all

pub returns-clause-covers : goal.returns-clause-covers
returns-clause-covers c = c.places.invariant.covers
