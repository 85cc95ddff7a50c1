use Rattle.std.proofs.Common.{◌≡◌, ℕ, arith, refl, subst}
use Rattle.heap_walk.specs.Starts.{has_start}
use Rattle.spur_graph.specs.Cells.{first}
use Rattle.spur_graph.specs.Ordinary.{page_places}
use Rattle.spur_graph.specs.FileStores.{file_store}
use Rattle.image_checks.specs.Checked.{AreLeft}
use Rattle.image_checks.proofs.Objects.{stands_there}
use Rattle.image_checks.proofs.Paging.{left_all, left_ordinary}
use Rattle.image_checks.proofs.pages.take_pages.Goals as goal

pub places-init : goal.places-init
places-init c = record {
  covers = refl;
  good = λ i l. absurd (omega (arith, l));
  left = left_all (file_store c.args.map.now c.args.words.now) (has_start c.args.ordinary.now) c.requires.objects;
}

pub unset-requires : goal.unset-requires
unset-requires c =
    let there = stands_there c.requires.cut (first (file_store c.args.map.now c.args.words.now) 3) (c.requires.first.roots.objects 3 (omega arith)) in
    omega (arith, there.below, c.requires.first.are.free_lists, c.places.invariant.covers, c.requires.covers)

pub unset-requires-2 : goal.unset-requires-2
unset-requires-2 c =
    let there = stands_there c.requires.cut (first (file_store c.args.map.now c.args.words.now) 4) (c.requires.first.roots.objects 4 (omega arith)) in
    omega (arith, there.below, c.requires.first.are.hidden_roots, c.unset.ensures.covers, c.places.invariant.covers, c.requires.covers)

pub returns-clause-ordinary : goal.returns-clause-ordinary
returns-clause-ordinary c =
    let h = file_store c.args.map.now c.args.words.now in
    let all : c.places.place ≡ page_places = omega (arith, c.places-test.false, c.places.auto.place-end) in
    let Left : ℕ → Type 0 = λ n. AreLeft h n (has_start c.places.ordinary) in
    let left : AreLeft h page_places (has_start c.places.ordinary) = subst Left all c.places.invariant.left in
    left_ordinary h (has_start c.places.ordinary) (has_start c.unset.new.self) (has_start c.unset-2.new.self) c.args.roots.now.free_lists c.args.roots.now.hidden_roots
    (c.requires.first.are.free_lists) (c.requires.first.are.hidden_roots) left c.unset.ensures.removed c.unset.ensures.others c.unset-2.ensures.removed c.unset-2.ensures.others
