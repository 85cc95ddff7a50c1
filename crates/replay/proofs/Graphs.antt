-- What a heap's graph tells of the words of the heap.
use Rattle.std.proofs.Common.{◌≡◌, ◌≤◌, ◌<◌, ℕ, List, [], ◌∷◌, refl, ap, sym, ◌∙◌, Option, Some, None, Bool, true, false}
use Rattle.std.proofs.lemmas.Bool.{le-leb, lt-leb}
use Rattle.std.specs.Prelude.{nat_le, ◌&&◌, IfOk, IsSome}
use Rattle.std.specs.Result.{result_err}
use Rattle.std.specs.Option.{option_map, ok_or, is_none, is_some}
use Rattle.std.specs.FinMap.{get, len, insert, remove}
use Rattle.spur_graph.specs.declared.answer.Refusal.{Refusal}
use Rattle.spur_graph.specs.declared.answer.Refusal.TheVariants as r
use Rattle.spur_graph.specs.Graph.{held, bind, unbind}
use Rattle.spur_graph.specs.Cells.{first}
use Rattle.spur_graph.specs.Refusals.{test, unknown, handles}
use Rattle.spur_graph.specs.Heaps.{View, IsWhole, heap_graph}
use Rattle.spur_heap.specs.Views.{store}
use Rattle.replay.specs.Sessions.{graph_of, room_of, value_in}
use Rattle.replay.specs.Commands.{Becomes, Keeps}
use Rattle.handle_table.proofs.Bound.{remove-absent}
use Rattle.heap_cells.proofs.HandleValues.{get-handle_values}
use Rattle.replay.proofs.Held.{len-handle_values, handle_values-insert, handle_values-remove}
use Rattle.spur_heap.proofs.NodesAt as nodes

-- handles
pub held_value : (v : View) (k : ℕ) (h : List ℕ) (word : ℕ) → get v.handles (k, h) ≡ Some word → held (graph_of v) k h ≡ Some (value_in v word)
unfolding graph_of
held_value v k h word is = get-handle_values (value_in v) v.handles (k, h) ∙ ap (option_map (value_in v)) is

pub held_none : (v : View) (k : ℕ) (h : List ℕ) → get v.handles (k, h) ≡ None → held (graph_of v) k h ≡ None
unfolding graph_of
held_none v k h is = get-handle_values (value_in v) v.handles (k, h) ∙ ap (option_map (value_in v)) is

pub handles_counted : (v : View) → len (graph_of v).handles ≡ len v.handles
unfolding graph_of
handles_counted v = len-handle_values (value_in v) v.handles

pub handle_bound : (v new : View) (k : ℕ) (h : List ℕ) (word : ℕ) → new ≡ record v { handles = insert v.handles (k, h) word } → Becomes v new (bind (graph_of v) k h (value_in v word))
unfolding graph_of room_of
handle_bound v new k h word is =
    let bound : graph_of (record v { handles = insert v.handles (k, h) word }) ≡ bind (graph_of v) k h (value_in v word) = λ i. record (heap_graph v) { handles = handle_values-insert (value_in v) v.handles (k, h) word i } in
    (ap graph_of is ∙ bound, ap room_of is)

pub handle_dropped : (v new : View) (k : ℕ) (h : List ℕ) → new ≡ record v { handles = remove v.handles (k, h) } → Becomes v new (unbind (graph_of v) k h)
unfolding graph_of room_of
handle_dropped v new k h is =
    let dropped : graph_of (record v { handles = remove v.handles (k, h) }) ≡ unbind (graph_of v) k h = λ i. record (heap_graph v) { handles = handle_values-remove (value_in v) v.handles (k, h) i } in
    (ap graph_of is ∙ dropped, ap room_of is)

-- only the handles differ
pub handles_keep : (v new : View) (k : ℕ) (h : List ℕ) (word : ℕ) → new ≡ record v { handles = insert v.handles (k, h) word } → Keeps v new
handles_keep v new k h word is = record { carried = ap (λ (u : View). u.carried) is; limits = ap (λ (u : View). u.limits) is; phase = ap (λ (u : View). u.phase) is }

pub handle_kept : (v new : View) (k : ℕ) (h : List ℕ) → get v.handles (k, h) ≡ None → new ≡ record v { handles = remove v.handles (k, h) } → new ≡ v
handle_kept v new k h none is = is ∙ (λ i. record v { handles = sym (remove-absent v.handles (k, h) none) i })

-- whether a handle is held
pub known : (v : View) (k : ℕ) (h : List ℕ) (word : ℕ) → get v.handles (k, h) ≡ Some word → unknown (graph_of v) k (h ∷ []) ≡ None
known v k h word is = rw (held_value v k h word is) refl

pub not_known : (v : View) (k : ℕ) (h : List ℕ) → get v.handles (k, h) ≡ None → unknown (graph_of v) k (h ∷ []) ≡ Some r.Unknown
not_known v k h is = rw (held_none v k h is) refl

pub looked_up : (v : View) (k : ℕ) (h : List ℕ) (o : Option ℕ) → get v.handles (k, h) ≡ o → unknown (graph_of v) k (h ∷ []) ≡ result_err (ok_or o r.Unknown)
looked_up v k h None is = not_known v k h is
looked_up v k h (Some word) is = known v k h word is

pub looked_up_value : (v : View) (k : ℕ) (h : List ℕ) (o : Option ℕ) → get v.handles (k, h) ≡ o → IfOk (ok_or o r.Unknown) (λ word. held (graph_of v) k h ≡ Some (value_in v word))
looked_up_value v k h None is = tt
looked_up_value v k h (Some word) is = held_value v k h word is

pub known_before : (v : View) (k : ℕ) (h : List ℕ) (o : Option ℕ) → get v.handles (k, h) ≡ o → IsSome o → unknown (graph_of v) k (h ∷ []) ≡ None
known_before v k h None is some = cc
known_before v k h (Some word) is some = known v k h word is

pub unknown_before : (v : View) (k : ℕ) (h : List ℕ) (o : Option ℕ) → get v.handles (k, h) ≡ o → (IsSome o → ⊥) → unknown (graph_of v) k (h ∷ []) ≡ Some r.Unknown
unknown_before v k h None is none = not_known v k h is
unknown_before v k h (Some word) is none = absurd (none refl)

pub none_before : (o : Option ℕ) → (IsSome o → ⊥) → o ≡ None
none_before None none = refl
none_before (Some word) none = absurd (none refl)

-- whether there is room for a handle
untested : (b : Bool) (why : Refusal) → test (b && false) why ≡ None
untested true why = refl
untested false why = refl

pub no_room_left : (v : View) (k : ℕ) (h : List ℕ) → get v.handles (k, h) ≡ None → 65536 ≤ len v.handles → handles (graph_of v) k h ≡ Some r.Handles
no_room_left v k h none full =
    let counted : nat_le 65536 (len (graph_of v).handles) ≡ true = ap (nat_le 65536) (handles_counted v) ∙ le-leb 65536 (len v.handles) full in
    rw (held_none v k h none, counted) refl

pub room_left : (v : View) (k : ℕ) (h : List ℕ) → len v.handles < 65536 → handles (graph_of v) k h ≡ None
room_left v k h few =
    let counted : nat_le 65536 (len (graph_of v).handles) ≡ false = ap (nat_le 65536) (handles_counted v) ∙ lt-leb 65536 (len v.handles) few in
    rw (counted) (untested (is_none (held (graph_of v) k h)) r.Handles)

pub room_held : (v : View) (k : ℕ) (h : List ℕ) (o : Option ℕ) → get v.handles (k, h) ≡ o → is_some o ≡ true → handles (graph_of v) k h ≡ None
room_held v k h None is some = cc
room_held v k h (Some word) is some = rw (held_value v k h word is) refl

-- names behind the last word are fresh
pub names_fresh : (v : View) → IsWhole v → (a : ℕ) → (graph_of v).next ≤ a → get (graph_of v).nodes a ≡ None
unfolding graph_of
names_fresh v w a past = nodes.names_fresh v w a past

-- what the roots name
pub nil_named : (v : View) → (graph_of v).nil ≡ first (store v) 0
unfolding graph_of
nil_named v = refl

pub no_named : (v : View) → (graph_of v).no ≡ first (store v) 1
unfolding graph_of
no_named v = refl

pub yes_named : (v : View) → (graph_of v).yes ≡ first (store v) 2
unfolding graph_of
yes_named v = refl

pub special_named : (v : View) → (graph_of v).special ≡ value_in v v.special
unfolding graph_of
special_named v = refl
