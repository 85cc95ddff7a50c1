use Rattle.std.proofs.Common.{◌∙◌, ◌≡◌, ◌&&◌, true, false, refl, sym}
use Rattle.std.proofs.lemmas.Bool.{or_left, or_right}
use Rattle.spur_graph.specs.Refusals.{is_special, is_classed}
use Rattle.spur_graph.specs.Heaps.{heap_graph}
use Rattle.lazy_become.proofs.RowReads.{neither, handed, unhanded, standing_read}
use Rattle.lazy_become.proofs.refusals.may_forward.Goals as goal
use Rattle.lazy_become.proofs.refusals.may_forward.Goals.{then-copy_hash, else-copy_hash, then-copy_hash-2, else-copy_hash-2}
use Rattle.lazy_become.proofs.refusals.may_forward.Goals.{then-is_classed-via-then-is_classed, then-is_classed-via-else-is_classed+then-is_classed-2}

pub returns-then-is_pinned : goal.returns-then-is_pinned
returns-then-is_pinned c =
    let v = c.args.heap.now in
    let other : (c.args.copy_hash && is_special (heap_graph v) c.args.b) ≡ c.if-copy_hash.value = elim c.if-copy_hash.branch [
      | then-copy_hash w ↦ handed _ _ _ _ w.if-copy_hash.true w.value-is w.is_special-then-copy_hash.ensures
      | else-copy_hash w ↦ unhanded _ _ _ w.if-copy_hash.false w.value-is
    ] in
    let plain = neither _ _ (sym c.is_special.ensures ∙ c.if-is_special.false) (other ∙ c.if-is_special-2.false) in
    standing_read v c.args.a c.args.b c.requires.first c.requires.second c.args.copy_hash false true _ _ _ plain (sym c.is_pinned.ensures ∙ c.if-is_pinned.true) refl refl refl

pub returns-then-is_readonly : goal.returns-then-is_readonly
returns-then-is_readonly c =
    let v = c.args.heap.now in
    let other : (c.args.copy_hash && is_special (heap_graph v) c.args.b) ≡ c.if-copy_hash.value = elim c.if-copy_hash.branch [
      | then-copy_hash w ↦ handed _ _ _ _ w.if-copy_hash.true w.value-is w.is_special-then-copy_hash.ensures
      | else-copy_hash w ↦ unhanded _ _ _ w.if-copy_hash.false w.value-is
    ] in
    let plain = neither _ _ (sym c.is_special.ensures ∙ c.if-is_special.false) (other ∙ c.if-is_special-2.false) in
    standing_read v c.args.a c.args.b c.requires.first c.requires.second c.args.copy_hash false false true _ _ plain (sym c.is_pinned.ensures ∙ c.if-is_pinned.false) (sym c.is_readonly.ensures ∙ c.if-is_readonly.true) refl refl

pub returns-then-is_mourner : goal.returns-then-is_mourner
returns-then-is_mourner c =
    let v = c.args.heap.now in
    let other : (c.args.copy_hash && is_special (heap_graph v) c.args.b) ≡ c.if-copy_hash.value = elim c.if-copy_hash.branch [
      | then-copy_hash w ↦ handed _ _ _ _ w.if-copy_hash.true w.value-is w.is_special-then-copy_hash.ensures
      | else-copy_hash w ↦ unhanded _ _ _ w.if-copy_hash.false w.value-is
    ] in
    let plain = neither _ _ (sym c.is_special.ensures ∙ c.if-is_special.false) (other ∙ c.if-is_special-2.false) in
    standing_read v c.args.a c.args.b c.requires.first c.requires.second c.args.copy_hash false false false true _ plain (sym c.is_pinned.ensures ∙ c.if-is_pinned.false) (sym c.is_readonly.ensures ∙ c.if-is_readonly.false) (sym c.is_mourner.ensures ∙ c.if-is_mourner.true) refl

pub returns-then-is_classed : goal.returns-then-is_classed
returns-then-is_classed c =
    let v = c.args.heap.now in
    let other : (c.args.copy_hash && is_special (heap_graph v) c.args.b) ≡ c.if-copy_hash.value = elim c.if-copy_hash.branch [
      | then-copy_hash w ↦ handed _ _ _ _ w.if-copy_hash.true w.value-is w.is_special-then-copy_hash.ensures
      | else-copy_hash w ↦ unhanded _ _ _ w.if-copy_hash.false w.value-is
    ] in
    let plain = neither _ _ (sym c.is_special.ensures ∙ c.if-is_special.false) (other ∙ c.if-is_special-2.false) in
    let row = standing_read v c.args.a c.args.b c.requires.first c.requires.second c.args.copy_hash false false false false true plain (sym c.is_pinned.ensures ∙ c.if-is_pinned.false) (sym c.is_readonly.ensures ∙ c.if-is_readonly.false) (sym c.is_mourner.ensures ∙ c.if-is_mourner.false) in
    elim c.then-is_classed.branch [
      | then-is_classed-via-then-is_classed w ↦ row (or_left _ _ (sym c.is_classed.ensures ∙ w.if-is_classed.true))
      | then-is_classed-via-else-is_classed+then-is_classed-2 w ↦
          let there : (c.args.copy_hash && is_classed (heap_graph v) c.args.b) ≡ w.if-copy_hash-2.value = elim w.if-copy_hash-2.branch [
            | then-copy_hash-2 u ↦ handed _ _ _ _ u.if-copy_hash-2.true u.value-is u.is_classed-then-copy_hash-2.ensures
            | else-copy_hash-2 u ↦ unhanded _ _ _ u.if-copy_hash-2.false u.value-is
          ] in
          row (or_right _ _ (there ∙ w.if-is_classed-2.true))
    ]

pub returns : goal.returns
returns c =
    let v = c.args.heap.now in
    let other : (c.args.copy_hash && is_special (heap_graph v) c.args.b) ≡ c.if-copy_hash.value = elim c.if-copy_hash.branch [
      | then-copy_hash w ↦ handed _ _ _ _ w.if-copy_hash.true w.value-is w.is_special-then-copy_hash.ensures
      | else-copy_hash w ↦ unhanded _ _ _ w.if-copy_hash.false w.value-is
    ] in
    let plain = neither _ _ (sym c.is_special.ensures ∙ c.if-is_special.false) (other ∙ c.if-is_special-2.false) in
    let there : (c.args.copy_hash && is_classed (heap_graph v) c.args.b) ≡ c.if-copy_hash-2.value = elim c.if-copy_hash-2.branch [
      | then-copy_hash-2 u ↦ handed _ _ _ _ u.if-copy_hash-2.true u.value-is u.is_classed-then-copy_hash-2.ensures
      | else-copy_hash-2 u ↦ unhanded _ _ _ u.if-copy_hash-2.false u.value-is
    ] in
    let unclassed = neither _ _ (sym c.is_classed.ensures ∙ c.if-is_classed.false) (there ∙ c.if-is_classed-2.false) in
    standing_read v c.args.a c.args.b c.requires.first c.requires.second c.args.copy_hash false false false false false plain (sym c.is_pinned.ensures ∙ c.if-is_pinned.false) (sym c.is_readonly.ensures ∙ c.if-is_readonly.false) (sym c.is_mourner.ensures ∙ c.if-is_mourner.false) unclassed
