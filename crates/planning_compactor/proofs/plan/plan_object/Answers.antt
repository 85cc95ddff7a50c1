use Rattle.std.proofs.Common.{◌≡◌, ℕ, true, false, ◌+◌, ◌-◌, ◌*◌, sym, ap, ◌∙◌, subst, refl, arith, set, inl, inr, ◌∷◌}
use Rattle.std.proofs.lemmas.Bool.{ne_eqb, eq-eqb}
use Rattle.heap_walk.specs.Starts.{has_start}
use Rattle.heap_walk.specs.declared.saved.Saved.{Saved}
use Rattle.heap_walk.specs.Shapes.{lead_at, place_at, words_at}
use Rattle.compaction_laws.specs.Compacting.{is_pinned}
use Rattle.planning_compactor.specs.Planning.{Passing, HasRoom, IsPlan, HasMoves, left, pins}
use Rattle.planning_compactor.proofs.Steps.{stay-step, move-plan, move-moves}
use Rattle.planning_compactor.specs.Spans.{Move, stop}
use Rattle.planning_compactor.proofs.Lefts.{left-pinned, left-mobile, entry-move}
use Rattle.planning_compactor.proofs.Shapes.{lead-low}
use Rattle.planning_compactor.proofs.plan.plan_object.Goals as goal

pub returns-then-target-start-clause-plan : goal.returns-then-target-start-clause-plan
returns-then-target-start-clause-plan c =
    let has = has_start c.args.starts.now in
    let words = c.args.words.now in
    let low : ℕ = c.args.plan.now.low in
    let end : ℕ = c.args.plan.now.end in
    let s : ℕ = c.args.start in
    let next' : c.stop.new.plan.next ≡ s + 1 = ap (λ (x : _). x.next) c.stop.ensures.same in
    let place : s - c.lead_of-lead.result ≡ place_at words s = ap (λ n. s - n) c.lead_of-lead.ensures.value in
    let m : Passing has words low end (place_at words s) c.args.plan.now.pin c.args.plan.now.finger c.stop.new.plan.pin c.stop.new.plan.finger =
    subst (λ p. Passing has words low end p c.args.plan.now.pin c.args.plan.now.finger c.stop.new.plan.pin c.stop.new.plan.finger) place c.stop.ensures.passing in
    let r : HasRoom has words low end (place_at words s) (words_at words s) c.stop.new.plan.pin c.stop.new.plan.finger =
    subst (λ p. HasRoom has words low end p (words_at words s) c.stop.new.plan.pin c.stop.new.plan.finger) place
    (subst (λ n. HasRoom has words low end (s - c.lead_of-lead.result) n c.stop.new.plan.pin c.stop.new.plan.finger) c.words_of-size.ensures.value c.stop.ensures.room) in
    let off : is_pinned words s ≡ false = ne_eqb _ 1 (λ e. c.if-pinned-eq1.false (c.pinned.ensures.value ∙ e)) in
    subst (λ n. IsPlan has words low end n c.stop.new.plan.pin (c.stop.new.plan.finger + c.words_of-size.result) c.args.table.now c.args.count) (sym next')
    (subst (λ n. IsPlan has words low end (s + 1) c.stop.new.plan.pin (c.stop.new.plan.finger + n) c.args.table.now c.args.count) (sym c.words_of-size.ensures.value)
    (stay-step has words low end s c.args.plan.now.next c.args.plan.now.pin c.args.plan.now.finger c.args.table.now c.args.count c.requires.laid c.requires.here c.requires.next c.requires.none c.requires.plan
    c.stop.new.plan.pin c.stop.new.plan.finger m r off (omega (arith, c.if-target-start.true, c.lead_of-lead.ensures.value))))

pub returns-clause-plan : goal.returns-clause-plan
returns-clause-plan c =
    let has = has_start c.args.starts.now in
    let words = c.args.words.now in
    let low : ℕ = c.args.plan.now.low in
    let end : ℕ = c.args.plan.now.end in
    let s : ℕ = c.args.start in
    let new : Saved = record { start = s; first = 8 * (c.stop.new.plan.finger + c.lead_of-lead.result) } in
    let next' : c.stop.new.plan.next ≡ s + 1 = ap (λ (x : _). x.next) c.stop.ensures.same in
    let place : s - c.lead_of-lead.result ≡ place_at words s = ap (λ n. s - n) c.lead_of-lead.ensures.value in
    let m : Passing has words low end (place_at words s) c.args.plan.now.pin c.args.plan.now.finger c.stop.new.plan.pin c.stop.new.plan.finger =
    subst (λ p. Passing has words low end p c.args.plan.now.pin c.args.plan.now.finger c.stop.new.plan.pin c.stop.new.plan.finger) place c.stop.ensures.passing in
    let r : HasRoom has words low end (place_at words s) (words_at words s) c.stop.new.plan.pin c.stop.new.plan.finger =
    subst (λ p. HasRoom has words low end p (words_at words s) c.stop.new.plan.pin c.stop.new.plan.finger) place
    (subst (λ n. HasRoom has words low end (s - c.lead_of-lead.result) n c.stop.new.plan.pin c.stop.new.plan.finger) c.words_of-size.ensures.value c.stop.ensures.room) in
    let off : is_pinned words s ≡ false = ne_eqb _ 1 (λ e. c.if-pinned-eq1.false (c.pinned.ensures.value ∙ e)) in
    let first : 8 * (c.stop.new.plan.finger + c.lead_of-lead.result) ≡ 8 * (c.stop.new.plan.finger + lead_at words s) = ap (λ n. 8 * (c.stop.new.plan.finger + n)) c.lead_of-lead.ensures.value in
    subst (λ n. IsPlan has words low end n c.stop.new.plan.pin (c.stop.new.plan.finger + c.words_of-size.result) (set c.args.table.now c.args.count new) (c.args.count + 1)) (sym next')
    (subst (λ n. IsPlan has words low end (s + 1) c.stop.new.plan.pin (c.stop.new.plan.finger + n) (set c.args.table.now c.args.count new) (c.args.count + 1)) (sym c.words_of-size.ensures.value)
    (move-plan has words low end s c.args.plan.now.next c.args.plan.now.pin c.args.plan.now.finger c.args.table.now c.args.count c.requires.laid c.requires.here c.requires.next c.requires.none c.requires.plan
    c.stop.new.plan.pin c.stop.new.plan.finger m r off new refl first c.requires.room c.requires.moves))

pub returns-clause-moves : goal.returns-clause-moves
returns-clause-moves c =
    let has = has_start c.args.starts.now in
    let words = c.args.words.now in
    let low : ℕ = c.args.plan.now.low in
    let end : ℕ = c.args.plan.now.end in
    let s : ℕ = c.args.start in
    let new : Saved = record { start = s; first = 8 * (c.stop.new.plan.finger + c.lead_of-lead.result) } in
    let next' : c.stop.new.plan.next ≡ s + 1 = ap (λ (x : _). x.next) c.stop.ensures.same in
    let place : s - c.lead_of-lead.result ≡ place_at words s = ap (λ n. s - n) c.lead_of-lead.ensures.value in
    let m : Passing has words low end (place_at words s) c.args.plan.now.pin c.args.plan.now.finger c.stop.new.plan.pin c.stop.new.plan.finger =
    subst (λ p. Passing has words low end p c.args.plan.now.pin c.args.plan.now.finger c.stop.new.plan.pin c.stop.new.plan.finger) place c.stop.ensures.passing in
    let r : HasRoom has words low end (place_at words s) (words_at words s) c.stop.new.plan.pin c.stop.new.plan.finger =
    subst (λ p. HasRoom has words low end p (words_at words s) c.stop.new.plan.pin c.stop.new.plan.finger) place
    (subst (λ n. HasRoom has words low end (s - c.lead_of-lead.result) n c.stop.new.plan.pin c.stop.new.plan.finger) c.words_of-size.ensures.value c.stop.ensures.room) in
    let off : is_pinned words s ≡ false = ne_eqb _ 1 (λ e. c.if-pinned-eq1.false (c.pinned.ensures.value ∙ e)) in
    let first : 8 * (c.stop.new.plan.finger + c.lead_of-lead.result) ≡ 8 * (c.stop.new.plan.finger + lead_at words s) = ap (λ n. 8 * (c.stop.new.plan.finger + n)) c.lead_of-lead.ensures.value in
    subst (HasMoves has words low end (set c.args.table.now c.args.count new) (c.args.count + 1)) (sym next')
    (move-moves has words low end s c.args.plan.now.next c.args.plan.now.pin c.args.plan.now.finger c.args.table.now c.args.count c.requires.laid c.requires.here c.requires.next c.requires.none c.requires.plan
    c.stop.new.plan.pin c.stop.new.plan.finger m r off new refl first c.requires.room c.requires.moves)

pub returns-then-pinned-eq1-clause-is : goal.returns-then-pinned-eq1-clause-is
returns-then-pinned-eq1-clause-is c =
    let on : is_pinned c.args.words.now c.args.start ≡ true = eq-eqb _ 1 (sym c.pinned.ensures.value ∙ c.if-pinned-eq1.true) in
    inl (refl, left-pinned (has_start c.args.starts.now) c.args.words.now c.args.plan.now.next c.args.plan.now.pin c.args.plan.now.finger c.args.plan.now.end c.args.start c.requires.next c.requires.here.2 c.requires.here.0 c.requires.none on)

pub returns-then-target-start-clause-is : goal.returns-then-target-start-clause-is
returns-then-target-start-clause-is c =
    let has = has_start c.args.starts.now in
    let words = c.args.words.now in
    let end : ℕ = c.args.plan.now.end in
    let s : ℕ = c.args.start in
    let next' : c.stop.new.plan.next ≡ s + 1 = ap (λ (x : _). x.next) c.stop.ensures.same in
    let place : s - c.lead_of-lead.result ≡ place_at words s = ap (λ n. s - n) c.lead_of-lead.ensures.value in
    let f : ℕ = c.stop.new.plan.finger in
    let is : stop (pins has words c.args.plan.now.pin end) c.args.plan.now.finger (place_at words s) (words_at words s) ≡ record { at = f; ahead = pins has words c.stop.new.plan.pin end } =
    subst (λ n. stop (pins has words c.args.plan.now.pin end) c.args.plan.now.finger (place_at words s) n ≡ record { at = f; ahead = pins has words c.stop.new.plan.pin end }) c.words_of-size.ensures.value
    (subst (λ p. stop (pins has words c.args.plan.now.pin end) c.args.plan.now.finger p c.words_of-size.result ≡ record { at = f; ahead = pins has words c.stop.new.plan.pin end }) place c.stop.ensures.is) in
    let off : is_pinned words s ≡ false = ne_eqb _ 1 (λ e. c.if-pinned-eq1.false (c.pinned.ensures.value ∙ e)) in
    let whole : left has words c.args.plan.now.next c.args.plan.now.pin c.args.plan.now.finger end ≡ record { start = s; target = f + lead_at words s } ∷ left has words (s + 1) c.stop.new.plan.pin (f + words_at words s) end =
    left-mobile has words c.args.plan.now.next c.args.plan.now.pin c.args.plan.now.finger end s c.requires.next c.requires.here.2 c.requires.here.0 c.requires.none c.stop.new.plan.pin f off (lead-low words s (c.requires.laid.stands s c.requires.here.0)) is in
    let after : left has words (s + 1) c.stop.new.plan.pin (f + words_at words s) end ≡ left has words c.stop.new.plan.next c.stop.new.plan.pin (f + c.words_of-size.result) end =
    ap (λ n. left has words n c.stop.new.plan.pin (f + words_at words s) end) (sym next') ∙ ap (λ n. left has words c.stop.new.plan.next c.stop.new.plan.pin (f + n) end) (sym c.words_of-size.ensures.value) in
    let stays : f + lead_at words s ≡ s = omega (arith, c.if-target-start.true, c.lead_of-lead.ensures.value) in
    inr (inl (refl, c.if-count-eq0.true, (s, omega (arith, next'), whole ∙ ap (λ t. record { start = s; target = t } ∷ left has words (s + 1) c.stop.new.plan.pin (f + words_at words s) end) stays ∙ ap (λ ms. record { start = s; target = s } ∷ ms) after)))

pub returns-clause-is : goal.returns-clause-is
returns-clause-is c =
    let has = has_start c.args.starts.now in
    let words = c.args.words.now in
    let end : ℕ = c.args.plan.now.end in
    let s : ℕ = c.args.start in
    let next' : c.stop.new.plan.next ≡ s + 1 = ap (λ (x : _). x.next) c.stop.ensures.same in
    let place : s - c.lead_of-lead.result ≡ place_at words s = ap (λ n. s - n) c.lead_of-lead.ensures.value in
    let f : ℕ = c.stop.new.plan.finger in
    let is : stop (pins has words c.args.plan.now.pin end) c.args.plan.now.finger (place_at words s) (words_at words s) ≡ record { at = f; ahead = pins has words c.stop.new.plan.pin end } =
    subst (λ n. stop (pins has words c.args.plan.now.pin end) c.args.plan.now.finger (place_at words s) n ≡ record { at = f; ahead = pins has words c.stop.new.plan.pin end }) c.words_of-size.ensures.value
    (subst (λ p. stop (pins has words c.args.plan.now.pin end) c.args.plan.now.finger p c.words_of-size.result ≡ record { at = f; ahead = pins has words c.stop.new.plan.pin end }) place c.stop.ensures.is) in
    let off : is_pinned words s ≡ false = ne_eqb _ 1 (λ e. c.if-pinned-eq1.false (c.pinned.ensures.value ∙ e)) in
    let whole : left has words c.args.plan.now.next c.args.plan.now.pin c.args.plan.now.finger end ≡ record { start = s; target = f + lead_at words s } ∷ left has words (s + 1) c.stop.new.plan.pin (f + words_at words s) end =
    left-mobile has words c.args.plan.now.next c.args.plan.now.pin c.args.plan.now.finger end s c.requires.next c.requires.here.2 c.requires.here.0 c.requires.none c.stop.new.plan.pin f off (lead-low words s (c.requires.laid.stands s c.requires.here.0)) is in
    let after : left has words (s + 1) c.stop.new.plan.pin (f + words_at words s) end ≡ left has words c.stop.new.plan.next c.stop.new.plan.pin (f + c.words_of-size.result) end =
    ap (λ n. left has words n c.stop.new.plan.pin (f + words_at words s) end) (sym next') ∙ ap (λ n. left has words c.stop.new.plan.next c.stop.new.plan.pin (f + n) end) (sym c.words_of-size.ensures.value) in
    let first : f + lead_at words s ≡ f + c.lead_of-lead.result = ap (λ n. f + n) (sym c.lead_of-lead.ensures.value) in
    inr (inr (
      refl,
      whole ∙ ap (λ t. record { start = s; target = t } ∷ left has words (s + 1) c.stop.new.plan.pin (f + words_at words s) end) first
          ∙ ap (λ ms. record { start = s; target = f + c.lead_of-lead.result } ∷ ms) after
          ∙ ap (λ (e : Move). e ∷ left has words c.stop.new.plan.next c.stop.new.plan.pin (f + c.words_of-size.result) end) (sym (entry-move c.args.table.now c.args.count s (f + c.lead_of-lead.result) c.requires.room)),
    ))
