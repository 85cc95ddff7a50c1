use Rattle.std.proofs.Common.{◌≡◌, ◌<◌, ℕ, List, length, slice_index, Some, ◌∙◌, ap, sym, arith}
use Rattle.std.specs.FinMap.{get}
use Rattle.spur_graph.specs.Graph.{Handle}
use Rattle.handle_table.specs.Handles.{Bindings, held, handle_at}
use Rattle.handle_table.proofs.Bound.{get-bound, bound-among}
use Rattle.handle_table.proofs.table.HandleTable.words.Goals as goal

pub returns-clause-each : goal.returns-clause-each
returns-clause-each c i within =
    let handles : List Handle = c.self.inside.index in
    let words : List ℕ = c.self.inside.words.items in
    let same : length words ≡ length handles = c.self.invariant.0 in
    let read : c.as_slice.result.now ≡ words = c.as_slice.ensures.value in
    let count : length c.as_slice.result.now ≡ length words = ap length read in (
      handle_at handles i,
      ap (λ (t : Bindings). get (held t) (handle_at handles i)) (sym c.self.view_is) ∙ get-bound handles words i c.len-count.ensures.distinct (sym same) (omega (arith, within, same, count))
          ∙ ap (λ (ws : List ℕ). Some (slice_index ws i)) (sym read),
    )

pub returns-clause-all : goal.returns-clause-all
returns-clause-all c handle word e =
    let words : List ℕ = c.self.inside.words.items in
    let read : c.as_slice.result.now ≡ words = c.as_slice.ensures.value in
    let count : length c.as_slice.result.now ≡ length words = ap length read in
    let a = bound-among c.self.inside.index words handle word (ap (λ (t : Bindings). get (held t) handle) c.self.view_is ∙ e) in
    (a.0, omega (arith, a.1, count), ap (λ (ws : List ℕ). slice_index ws a.0) read ∙ a.2)
