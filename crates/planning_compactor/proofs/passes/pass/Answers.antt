use Rattle.std.proofs.Common.{◌≡◌, ℕ, Bool, List, [], length, map, ◌++◌, take, drop, ◌≤◌, ◌∙◌, sym, ap, subst, arith, refl}
use Rattle.std.proofs.lemmas.List.{length-take-le}
use Rattle.heap_walk.specs.declared.saved.Saved.{Saved}
use Rattle.heap_walk.specs.Starts.{has_start}
use Rattle.heap_laws.specs.Compaction.{MovedBy}
use Rattle.planning_compactor.specs.Planning.{AreLaid, HasMoves, left, move_of}
use Rattle.planning_compactor.specs.Objects.{goes_to, AreObjects, KeepsLoose}
use Rattle.planning_compactor.specs.Roots.{roots_of}
use Rattle.planning_compactor.proofs.Fronts.{front-moves, front-plan, none-moved, none-roots}
use Rattle.planning_compactor.proofs.Origins.{HasPassed}
use Rattle.planning_compactor.proofs.After.{laid-after, objects-after, roots-after}
use Rattle.planning_compactor.proofs.Goings.{plan-after, done-after, left-after, below-after}
use Rattle.planning_compactor.proofs.passes.pass.Goals as goal

-- the first entries of the table are made
passed : {has has' : ℕ → Bool} {w w' : List ℕ} {low end next n : ℕ} {es : List Saved} → AreObjects has w → AreLaid has w low end → HasMoves has w low end es n next → n ≤ length es → MovedBy (goes_to (take n es)) has has' w w'
    → HasPassed has has' w w' low end (take n es) next
passed {has} {has'} {w} {w'} {low} {end} {next} {n} {es} o laid h l m = record { objects = o; laid = laid; moves = front-moves has w low end next es n l h; moved = m }

pub returns-then-count-eq0-clause-moved : goal.returns-then-count-eq0-clause-moved
returns-then-count-eq0-clause-moved c =
    let v = c.plan_moves-count.ensures in
    let p = c.plan_moves-count.new.plan in
    let none : take c.plan_moves-count.result c.plan_moves-count.new.table ≡ [] = ap (λ n. take n c.plan_moves-count.new.table) c.if-count-eq0.true in (
      [],
      refl,
      record {
        moved = none-moved (has_start c.args.starts.now) c.args.words.now;
        loose = λ j f. refl;
        mobile = λ k l. absurd (omega (arith, l));
        below = λ k l. absurd (omega (arith, l));
        within = λ k l. absurd (omega (arith, l));
        floor = λ k l. absurd (omega (arith, l));
        rising = λ j k l b. absurd (omega (arith, b));
        stays = v.is.stays;
        still = v.is.still;
        is = v.is.is ∙ ap (λ es. v.is.stays ++ (map move_of es ++ left (has_start c.args.starts.now) c.args.words.now p.next p.pin p.finger c.args.plan.now.end)) none;
      },
      none-roots (roots_of c.args.handles.now c.args.special.now c.args.mourners.now),
    )

pub returns-clause-moved : goal.returns-clause-moved
returns-clause-moved c =
    let v = c.plan_moves-count.ensures in
    let u = c.move_objects.ensures in
    let p = c.plan_moves-count.new.plan in
    let es = take c.plan_moves-count.result c.plan_moves-count.new.table in
    let has = has_start c.args.starts.now in
    let k = passed c.requires.objects c.requires.laid v.moves (omega (arith, v.few, v.same_table)) u.moved in
    let h = k.moves in (
      es,
      length-take-le c.plan_moves-count.result c.plan_moves-count.new.table (omega (arith, v.few, v.same_table)),
      record {
        moved = u.moved;
        loose = subst (λ y. KeepsLoose has c.args.words.now c.move_objects.new.words c.args.plan.now.low y) v.same.1 (subst (λ x. KeepsLoose has c.args.words.now c.move_objects.new.words x p.end) v.same.0 u.loose);
        mobile = h.mobile;
        below = below-after k;
        within = λ j l. let i = h.starts j l in (i.1, i.2);
        floor = λ j l. let f = (h.floor j l).0 in omega (arith, f);
        rising = h.rising;
        stays = v.is.stays;
        still = v.is.still;
        is = v.is.is ∙ ap (λ ms. v.is.stays ++ (map move_of es ++ ms)) (sym (left-after k p.pin p.finger v.plan.inside.0));
      },
      u.roots,
    )

pub returns-clause-laid : goal.returns-clause-laid
returns-clause-laid c =
    let v = c.plan_moves-count.ensures in
    laid-after (passed c.requires.objects c.requires.laid v.moves (omega (arith, v.few, v.same_table)) c.move_objects.ensures.moved)

pub returns-clause-objects : goal.returns-clause-objects
returns-clause-objects c =
    let v = c.plan_moves-count.ensures in
    objects-after (passed c.requires.objects c.requires.laid v.moves (omega (arith, v.few, v.same_table)) c.move_objects.ensures.moved)

pub returns-clause-plan : goal.returns-clause-plan
returns-clause-plan c =
    let v = c.plan_moves-count.ensures in
    let p = c.plan_moves-count.new.plan in
    let few : c.plan_moves-count.result ≤ length c.plan_moves-count.new.table = omega (arith, v.few, v.same_table) in
    let k = passed c.requires.objects c.requires.laid v.moves few c.move_objects.ensures.moved in
    plan-after k p.pin p.finger (c.move_objects.new.table ++ drop c.plan_moves-count.result c.plan_moves-count.new.table)
    (front-plan (has_start c.args.starts.now) c.args.words.now c.args.plan.now.low c.args.plan.now.end p.next p.pin p.finger c.plan_moves-count.new.table c.plan_moves-count.result few v.plan)

pub returns-clause-done : goal.returns-clause-done
returns-clause-done c = λ l.
    let v = c.plan_moves-count.ensures in
    done-after (passed c.requires.objects c.requires.laid v.moves (omega (arith, v.few, v.same_table)) c.move_objects.ensures.moved) (v.done l)

pub returns-clause-roots : goal.returns-clause-roots
returns-clause-roots c =
    let v = c.plan_moves-count.ensures in
    roots-after (passed c.requires.objects c.requires.laid v.moves (omega (arith, v.few, v.same_table)) c.move_objects.ensures.moved) c.requires.roots c.move_objects.ensures.roots

pub move_objects-requires-clause-moves : goal.move_objects-requires-clause-moves
move_objects-requires-clause-moves c =
    let v = c.plan_moves-count.ensures in
    let p = c.plan_moves-count.new.plan in
    let has = has_start c.args.starts.now in
    let es = take c.plan_moves-count.result c.plan_moves-count.new.table in
    let front = front-moves has c.args.words.now c.args.plan.now.low c.args.plan.now.end p.next c.plan_moves-count.new.table c.plan_moves-count.result (omega (arith, v.few, v.same_table)) v.moves in
    subst (λ y. HasMoves has c.args.words.now p.low y es (length es) p.next) (sym v.same.1) (subst (λ x. HasMoves has c.args.words.now x c.args.plan.now.end es (length es) p.next) (sym v.same.0) front)
