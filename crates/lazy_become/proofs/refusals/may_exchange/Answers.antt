use Rattle.std.proofs.Common.{◌∙◌, true, false, refl, sym}
use Rattle.std.proofs.lemmas.Bool.{or_left, or_right}
use Rattle.lazy_become.proofs.RowReads.{neither, held_read}
use Rattle.lazy_become.proofs.refusals.may_exchange.Goals as goal
use Rattle.lazy_become.proofs.refusals.may_exchange.Goals.{then-is_pinned-via-then-is_pinned, then-is_pinned-via-else-is_pinned+then-is_pinned-2}
use Rattle.lazy_become.proofs.refusals.may_exchange.Goals.{then-is_readonly-via-then-is_readonly, then-is_readonly-via-else-is_readonly+then-is_readonly-2}
use Rattle.lazy_become.proofs.refusals.may_exchange.Goals.{then-is_mourner-via-then-is_mourner, then-is_mourner-via-else-is_mourner+then-is_mourner-2}

pub returns-then-is_pinned : goal.returns-then-is_pinned
returns-then-is_pinned c =
    let plain = neither _ _ (sym c.is_special.ensures ∙ c.if-is_special.false) (sym c.is_special-else-is_special.ensures ∙ c.if-is_special-2.false) in
    let row = held_read c.args.heap.now c.args.a c.args.b c.requires.first c.requires.second false true _ _ plain in
    elim c.then-is_pinned.branch [
      | then-is_pinned-via-then-is_pinned w ↦ row (or_left _ _ (sym c.is_pinned.ensures ∙ w.if-is_pinned.true)) refl refl
      | then-is_pinned-via-else-is_pinned+then-is_pinned-2 w ↦ row (or_right _ _ (sym w.is_pinned-else-is_pinned.ensures ∙ w.if-is_pinned-2.true)) refl refl
    ]

pub returns-then-is_readonly : goal.returns-then-is_readonly
returns-then-is_readonly c =
    let plain = neither _ _ (sym c.is_special.ensures ∙ c.if-is_special.false) (sym c.is_special-else-is_special.ensures ∙ c.if-is_special-2.false) in
    let mobile = neither _ _ (sym c.is_pinned.ensures ∙ c.if-is_pinned.false) (sym c.is_pinned-else-is_pinned.ensures ∙ c.if-is_pinned-2.false) in
    let row = held_read c.args.heap.now c.args.a c.args.b c.requires.first c.requires.second false false true _ plain mobile in
    elim c.then-is_readonly.branch [
      | then-is_readonly-via-then-is_readonly w ↦ row (or_left _ _ (sym c.is_readonly.ensures ∙ w.if-is_readonly.true)) refl
      | then-is_readonly-via-else-is_readonly+then-is_readonly-2 w ↦ row (or_right _ _ (sym w.is_readonly-else-is_readonly.ensures ∙ w.if-is_readonly-2.true)) refl
    ]

pub returns-then-is_mourner : goal.returns-then-is_mourner
returns-then-is_mourner c =
    let plain = neither _ _ (sym c.is_special.ensures ∙ c.if-is_special.false) (sym c.is_special-else-is_special.ensures ∙ c.if-is_special-2.false) in
    let mobile = neither _ _ (sym c.is_pinned.ensures ∙ c.if-is_pinned.false) (sym c.is_pinned-else-is_pinned.ensures ∙ c.if-is_pinned-2.false) in
    let free = neither _ _ (sym c.is_readonly.ensures ∙ c.if-is_readonly.false) (sym c.is_readonly-else-is_readonly.ensures ∙ c.if-is_readonly-2.false) in
    let row = held_read c.args.heap.now c.args.a c.args.b c.requires.first c.requires.second false false false true plain mobile free in
    elim c.then-is_mourner.branch [
      | then-is_mourner-via-then-is_mourner w ↦ row (or_left _ _ (sym c.is_mourner.ensures ∙ w.if-is_mourner.true))
      | then-is_mourner-via-else-is_mourner+then-is_mourner-2 w ↦ row (or_right _ _ (sym w.is_mourner-else-is_mourner.ensures ∙ w.if-is_mourner-2.true))
    ]

pub returns : goal.returns
returns c =
    let plain = neither _ _ (sym c.is_special.ensures ∙ c.if-is_special.false) (sym c.is_special-else-is_special.ensures ∙ c.if-is_special-2.false) in
    let mobile = neither _ _ (sym c.is_pinned.ensures ∙ c.if-is_pinned.false) (sym c.is_pinned-else-is_pinned.ensures ∙ c.if-is_pinned-2.false) in
    let free = neither _ _ (sym c.is_readonly.ensures ∙ c.if-is_readonly.false) (sym c.is_readonly-else-is_readonly.ensures ∙ c.if-is_readonly-2.false) in
    let awake = neither _ _ (sym c.is_mourner.ensures ∙ c.if-is_mourner.false) (sym c.is_mourner-else-is_mourner.ensures ∙ c.if-is_mourner-2.false) in
    held_read c.args.heap.now c.args.a c.args.b c.requires.first c.requires.second false false false false plain mobile free awake
