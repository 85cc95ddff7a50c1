-- The values that handles have, and how many there are.
use Rattle.std.proofs.Common.{◌≡◌, ℕ, Bool, true, false, cond, refl, ap, sym, ◌∙◌, Option, None}
use Rattle.std.specs.Option.{option_map}
use Rattle.std.specs.Ordering.{eq_by_cmp}
use Rattle.std.specs.FinMap.{FinMap, get, len, insert, remove, same_map, get-insert, get-remove}
use Rattle.spur_graph.specs.Graph.{Handle, handle_cmp}
use Rattle.spur_graph.specs.Handles.{handles_total}
use Rattle.spur_graph.specs.declared.answer.Value.{Value}
use Rattle.spur_graph.specs.Heaps.{handle_values}
use Rattle.spur_graph.proofs.HandleMaps.{exact_handles, as_many_handles}
use Rattle.heap_cells.proofs.Finding.{chosen}
use Rattle.heap_cells.proofs.HandleValues.{get-handle_values}

-- there are as many values as words
pub len-handle_values : (value : ℕ → Value) (held : FinMap handle_cmp ℕ) → len (handle_values value held) ≡ len held
len-handle_values value held = as_many_handles value held (handle_values value held) (get-handle_values value held)

pub handle_values-insert : (value : ℕ → Value) (held : FinMap handle_cmp ℕ) (h : Handle) (word : ℕ) → handle_values value (insert held h word) ≡ insert (handle_values value held) h (value word)
handle_values-insert value held h word = same_map handles_total exact_handles _ _ (λ q.
    get-handle_values value (insert held h word) q
    ∙ ap (option_map value) (get-insert handles_total held h word q)
    ∙ sym (chosen value (eq_by_cmp handle_cmp q h) word (get held q) (value word) (get (handle_values value held) q) refl (get-handle_values value held q))
    ∙ sym (get-insert handles_total (handle_values value held) h (value word) q))

kept : {X Y : Type 0} (f : X → Y) (b : Bool) (o : Option X) (u : Option Y) → u ≡ option_map f o → cond b None u ≡ option_map f (cond b None o)
kept f true o u is = refl
kept f false o u is = is

pub handle_values-remove : (value : ℕ → Value) (held : FinMap handle_cmp ℕ) (h : Handle) → handle_values value (remove held h) ≡ remove (handle_values value held) h
handle_values-remove value held h = same_map handles_total exact_handles _ _ (λ q.
    get-handle_values value (remove held h) q
    ∙ ap (option_map value) (get-remove handles_total held h q)
    ∙ sym (kept value (eq_by_cmp handle_cmp q h) (get held q) (get (handle_values value held) q) (get-handle_values value held q))
    ∙ sym (get-remove handles_total (handle_values value held) h q))
