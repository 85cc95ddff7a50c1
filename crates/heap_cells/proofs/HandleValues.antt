-- The values that handles have.
use Rattle.std.proofs.Common.{◌≡◌, ℕ, map, ap, sym, ◌∙◌}
use Rattle.std.specs.Option.{option_map}
use Rattle.std.specs.FinMap.{FinMap, get, entries, empty, same_map, get-empty, get-entries, get-from_entries}
use Rattle.spur_graph.specs.Graph.{Handle, handle_cmp}
use Rattle.spur_graph.specs.Handles.{handles_total}
use Rattle.spur_graph.specs.declared.answer.Value.{Value}
use Rattle.spur_graph.specs.Heaps.{handle_values}
use Rattle.spur_graph.proofs.HandleMaps.{find-mapped, exact_handles}

-- the value of a handle is that of its word
pub get-handle_values : (value : ℕ → Value) (held : FinMap handle_cmp ℕ) (h : Handle) → get (handle_values value held) h ≡ option_map value (get held h)
get-handle_values value held h =
    get-from_entries handles_total (map (λ e. (e.0, value e.1)) (entries held)) h ∙ find-mapped handle_cmp value h (entries held) ∙ ap (option_map value) (sym (get-entries held h))

-- no handles have no values
pub handle_values-empty : (value : ℕ → Value) → handle_values value empty ≡ empty
handle_values-empty value = same_map handles_total exact_handles _ _ (λ h. get-handle_values value empty h ∙ ap (option_map value) (get-empty handle_cmp h) ∙ sym (get-empty handle_cmp h))
