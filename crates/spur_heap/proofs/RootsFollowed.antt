-- What names objects from outside is followed: the special objects word, the handles and the mourners.
use Rattle.std.proofs.Common.{◌≡◌, ℕ, true, List, refl, ap, ◌∙◌, sym, subst, Option, Some, None}
use Rattle.std.specs.Prelude.{IfSome}
use Rattle.std.specs.Option.{option_map}
use Rattle.std.specs.FinMap.{FinMap, get, same_map}
use Rattle.spur_graph.specs.declared.answer.Value.{Value}
use Rattle.spur_graph.specs.Graph.{Graph, Handle, handle_cmp}
use Rattle.spur_graph.specs.Handles.{handles_total}
use Rattle.spur_graph.proofs.HandleMaps.{exact_handles}
use Rattle.spur_graph.specs.CellGraph.{read}
use Rattle.spur_graph.specs.Heaps.{View, store_of, heap_graph, heap_value, own_name, handle_values}
use Rattle.handle_table.specs.Handles.{Bindings, held}
use Rattle.handle_table.proofs.Bound.{get-bound_map}
use Rattle.heap_cells.specs.Settled.{settled_word}
use Rattle.heap_cells.proofs.HandleValues.{get-handle_values}
use Rattle.spur_heap.specs.Words.{AreSound, is_good}
use Rattle.spur_heap.specs.Following.{IsFollowed, IsFollowedHandle, IsFollowedMourner, Follows, followed_held}
use Rattle.spur_heap.proofs.FollowedWords.{Settles, settles}

-- a heap that others name from outside
module _ (v : View) (special : ℕ) (handles : FinMap handle_cmp ℕ) (mourners : List (List ℕ)) where
  abbrev pub named_by : View
  named_by = record v { special = special; handles = handles; mourners = mourners }

  pub outside_follows : heap_graph named_by ≡ heap_graph v → ((h : Handle) → IsFollowedHandle v h → IsFollowedHandle named_by h) → (IsFollowed v v.special → IsFollowed v special)
      → ((k : ℕ) → IsFollowedMourner v k → IsFollowedMourner named_by k) → Follows v named_by
  outside_follows graph held special mourners = record {
    graph = graph;
    room = refl;
    values = λ w. refl;
    goods = λ w. refl;
    ordinary = λ s. refl;
    objects = λ s. refl;
    forwarders = λ s. refl;
    nodes = λ s. refl;
    starts = refl;
    marks = λ s e. refl;
    long = refl;
    rest = refl;
    slots = λ s i e. e;
    entries = λ i e. e;
    held = held;
    special = special;
    mourners = mourners;
  }

pub special_follows : (v : View) (word : ℕ) → Settles v v.special word → Follows v (record v { special = word })
special_follows v word s =
    outside_follows v word v.handles v.mourners (λ x. let g : Graph = record (heap_graph v) { special = s.value x } in g) (λ h e. e) (λ e. s.followed) (λ k e. e)

-- ---- the handles

module _ (v : View) (k : AreSound v) (b : Bindings) (seen : held b ≡ v.handles) (good : (h : Handle) (word : ℕ) → get v.handles h ≡ Some word → is_good v word ≡ true) where
  -- the words then
  abbrev pub handles_then : FinMap handle_cmp ℕ
  handles_then = held (followed_held v b)

  each_then : (h : Handle) → get handles_then h ≡ option_map (settled_word (store_of v)) (get v.handles h)
  each_then h = get-bound_map (settled_word (store_of v)) b.handles b.words h ∙ ap (λ m. option_map (settled_word (store_of v)) (get m h)) seen

  -- of the word of one handle
  by_word : (P : Option ℕ → Option ℕ → Type 0) → P None None → ((word : ℕ) → Settles v word (settled_word (store_of v) word) → P (Some word) (Some (settled_word (store_of v) word)))
      → (h : Handle) → P (get v.handles h) (option_map (settled_word (store_of v)) (get v.handles h))
  by_word P none some h = of (get v.handles h) (good h)
    where
      of : (o : Option ℕ) → ((word : ℕ) → o ≡ Some word → is_good v word ≡ true) → P o (option_map (settled_word (store_of v)) o)
      of None good = none
      of (Some word) good = some word (settles v k word (settled_word (store_of v) word) (good word refl) refl)

  pub held_then : (h : Handle) (word : ℕ) → get handles_then h ≡ Some word → is_good v word ≡ true
  held_then h word e = by_word (λ o q. q ≡ Some word → is_good v word ≡ true) (λ none. absurd cc) (λ w s same. ap (is_good v) (sym (some_same same)) ∙ s.good) h (sym (each_then h) ∙ e)
    where
      some_same : {a b : ℕ} → Some a ≡ Some b → a ≡ b
      some_same e = cc

  values_then : handle_values (read own_name (store_of v)) handles_then ≡ handle_values (read own_name (store_of v)) v.handles
  values_then = same_map handles_total exact_handles _ _ (λ h.
      get-handle_values (heap_value v) handles_then h ∙ ap (option_map (heap_value v)) (each_then h)
      ∙ by_word (λ o q. option_map (heap_value v) q ≡ option_map (heap_value v) o) refl (λ w s. ap (λ (x : Value). Some x) s.value) h
      ∙ sym (get-handle_values (heap_value v) v.handles h))

  pub handle_followed : (h : Handle) → IfSome (get handles_then h) (IsFollowed v)
  handle_followed h = subst (λ o. IfSome o (IsFollowed v)) (sym (each_then h)) (by_word (λ o q. IfSome q (IsFollowed v)) tt (λ w s. s.followed) h)

  pub handles_follow : Follows v (record v { handles = handles_then })
  handles_follow =
      outside_follows v v.special handles_then v.mourners (λ x. let g : Graph = record (heap_graph v) { handles = values_then x } in g) (λ h e. handle_followed h) (λ e. e) (λ k e. e)
