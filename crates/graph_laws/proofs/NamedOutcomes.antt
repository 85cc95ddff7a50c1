-- A command leads from a state that speaks only of names that have nodes to one that does so too.
use Rattle.std.proofs.Common.{◌≡◌, ℕ, Bool, true, false, if◌then◌else◌, nat_eq, [], ◌∷◌, slice_set, refl, sym, ap, ◌∙◌, subst, Some, None, Option}
use Rattle.std.specs.Option.{option_map, unwrap_or}
use Rattle.std.specs.List.{All, list_any}
use Rattle.std.proofs.lemmas.Bool.{or_parts}
use Rattle.std.specs.FinMap.{get}
use Rattle.spur_graph.specs.declared.answer.Answer.{Answer}
use Rattle.spur_graph.specs.declared.answer.Answer.TheVariants as answers
use Rattle.spur_graph.specs.declared.answer.Refusal.TheVariants as r
use Rattle.spur_graph.specs.declared.answer.Value.{Value}
use Rattle.spur_graph.specs.declared.answer.Value.TheVariants.{Ref}
use Rattle.spur_graph.specs.declared.answer.Value.TheVariants as values
use Rattle.spur_graph.specs.Value.{is_immediate}
use Rattle.spur_graph.specs.Node.{Node}
use Rattle.spur_graph.specs.Bytes.{Text}
use Rattle.spur_graph.specs.Form.{Form, Special, Nil, Yes, No, Int, Char, Float, Copy, Drop, Kind, Class, Size, Fetch, Store, Unit, SetUnit, Same, New, NewOld, Enter, Hash, Become, Forward, Pin, Unpin, ReadOnly, Writable, Stat}
use Rattle.spur_graph.specs.Graph.{Graph, blank, HasNode}
use Rattle.spur_graph.specs.Room.{Room, fresh_spot}
use Rattle.spur_graph.specs.Serve.{Source, Anywhere, OldAlone, Served, serve}
use Rattle.spur_graph.specs.Instances.{instance}
use Rattle.spur_graph.specs.Hashes.{next_state, drawn, with_hash, hashed, free_index, entered}
use Rattle.spur_graph.specs.State.{State, value_at, name_at, node_of_handle, with_graph, with_changed, with_fresh, slots_asked, words_asked}
use Rattle.spur_graph.specs.Classes.{class_index, class_value}
use Rattle.spur_graph.specs.Refusals.{immediate, is_special}
use Rattle.spur_graph.specs.Refused.{row, refused}
use Rattle.spur_graph.specs.Does.{Outcome, ok, new_instance, room_entered, outcome, Is}
use Rattle.graph_laws.proofs.RowParts.{none_in_row, no_immediate, untested, no_immediates}
use Rattle.graph_laws.proofs.BecomeOutcomes.{exchange-named, forward-named, pin-named}
use Rattle.graph_laws.proofs.Rooms.{served-keeps, entered-keeps}
use Rattle.graph_laws.proofs.Named.{IsNamed, value_at-named, name_at-named, slot-named, set-named, replicate-named, names_nothing, has_name, get-here, bound-named, dropped-named, changed-named, room-named, state-named, entry-named, fresh-named}

-- two handles that are not refused as immediates
pub two_bare : (g : Graph) (m : ℕ) (a b : Text) → immediate g m (a ∷ b ∷ []) ≡ None → (is_immediate (value_at g m a) ≡ false) × (is_immediate (value_at g m b) ≡ false)
two_bare g m a b e = let bare = no_immediates g m (a ∷ b ∷ []) e in (bare.0, bare.1.0)

module _ {s : State} (named : IsNamed s) (m : ℕ) where
  -- the name of a handle that is no immediate has a node
  pub node_there : (o : Text) → is_immediate (value_at s.graph m o) ≡ false → get s.graph.nodes (name_at s.graph m o) ≡ Some (node_of_handle s.graph m o)
  node_there o bare = let n = name_at-named named m o bare in n.1 ∙ ap Some (sym (ap (λ x. unwrap_or x blank) n.1))

  -- whatever a command leads to speaks of names that have nodes
  is-named : (answer : Answer) (new : State) (o : Outcome) → IsNamed o.1 → Is (Some o) answer new → IsNamed new
  is-named answer new o known is = subst IsNamed (sym is.1) known

  pointers_of : (o : Text) → is_immediate (value_at s.graph m o) ≡ false → All (HasNode s.graph) (node_of_handle s.graph m o).pointers
  pointers_of o bare = named.pointers (name_at s.graph m o) (node_of_handle s.graph m o) (node_there o bare)

  class-named : (v : Value) → HasNode s.graph (class_value s.graph v)
  class-named v = by (get s.graph.classes (class_index s.graph v)) refl
    where
      by : (o : Option Value) → get s.graph.classes (class_index s.graph v) ≡ o → HasNode s.graph (unwrap_or o (Ref s.graph.nil))
      by None e = named.nil
      by (Some w) e = named.classes (class_index s.graph v) w e

  new-named : (h c : Text) (n : ℕ) (source : Source) (answer : Answer) (new : State)
      → Is (option_map (λ served. ok (new_instance s m h c n served)) (serve source s.room (words_asked s.graph m c n))) answer new → IsNamed new
  new-named h c n source answer new is = by (serve source s.room (words_asked s.graph m c n)) refl is
    where
      by : (o : Option Served) → serve source s.room (words_asked s.graph m c n) ≡ o → Is (option_map (λ served. ok (new_instance s m h c n served)) o) answer new → IsNamed new
      by None e is = absurd is
      by (Some served) e is =
          let node = instance s.graph (node_of_handle s.graph m c) n in
          let spot = fresh_spot served.space (slots_asked s.graph m c n) in
          let fresh = fresh-named (room-named named served.room (served-keeps source s.room (words_asked s.graph m c n) served e)) node spot (replicate-named s.graph _ (Ref s.graph.nil) named.nil) in
          is-named answer new (ok (new_instance s m h c n served)) (bound-named fresh m h (Ref s.graph.next) (has_name (with_fresh s.graph node) s.graph.next node (get-here s.graph s.graph.next node))) is

  hash-named : (o : Text) (hash : ℕ) → is_immediate (value_at s.graph m o) ≡ false → IsNamed (with_graph s (with_hash s.graph (name_at s.graph m o) hash))
  hash-named o hash bare = changed-named named (name_at s.graph m o) (node_of_handle s.graph m o) (record (node_of_handle s.graph m o) { hash = hash }) (node_there o bare) (pointers_of o bare)

  hashed-named : (o : Text) → is_immediate (value_at s.graph m o) ≡ false → IsNamed (with_graph s (hashed s.graph (name_at s.graph m o)))
  hashed-named o bare = by (nat_eq (node_of_handle s.graph m o).hash 0)
    where
      by : (b : Bool) → IsNamed (with_graph s (if b then record (with_hash s.graph (name_at s.graph m o) (drawn s.graph.hash_state)) { hash_state = next_state s.graph.hash_state } else s.graph))
      by true = state-named (hash-named o (drawn s.graph.hash_state) bare) (next_state s.graph.hash_state)
      by false = named

  enter-named : (c : Text) (answer : Answer) (new : State) → is_immediate (value_at s.graph m c) ≡ false → Is (outcome s m (Enter c)) answer new → IsNamed new
  enter-named c answer new bare is = by (room_entered s.room (free_index s.graph)) refl is
    where
      i : ℕ
      i = free_index s.graph

      by : (o : Option Room) → room_entered s.room (free_index s.graph) ≡ o
          → Is (option_map (λ room. (answers.Number (free_index s.graph), record s { graph = entered s.graph (name_at s.graph m c) (free_index s.graph); room = room })) o) answer new → IsNamed new
      by None e is = absurd is
      by (Some room) e is =
          let hash = hash-named c i bare in
          let class = record (node_of_handle s.graph m c) { hash = i } in
          let entry = entry-named hash i (Ref (name_at s.graph m c)) (has_name (with_hash s.graph (name_at s.graph m c) i) (name_at s.graph m c) class (get-here s.graph (name_at s.graph m c) class)) in
          let keep = entered-keeps s.room room i e in
          subst IsNamed (sym is.1) (room-named entry room (record { spots = keep.spots; old_names = keep.old_names }))

  flag-named : (o : Text) (f : Node → Node) → is_immediate (value_at s.graph m o) ≡ false → ((n : Node) → (f n).pointers ≡ n.pointers) → IsNamed (with_changed s (name_at s.graph m o) f)
  flag-named o f bare same = changed-named named (name_at s.graph m o) (node_of_handle s.graph m o) (f (node_of_handle s.graph m o)) (node_there o bare)
      (subst (All (HasNode s.graph)) (sym (same (node_of_handle s.graph m o))) (pointers_of o bare))

  pub stays_named : (form : Form) (answer : Answer) (new : State) → refused s m form ≡ None → Is (outcome s m form) answer new → IsNamed new
  stays_named (Special h) answer new e is = is-named answer new _ (bound-named named m h s.graph.special named.special) is
  stays_named (Nil h) answer new e is = is-named answer new _ (bound-named named m h (Ref s.graph.nil) named.nil) is
  stays_named (Yes h) answer new e is = is-named answer new _ (bound-named named m h (Ref s.graph.yes) named.yes) is
  stays_named (No h) answer new e is = is-named answer new _ (bound-named named m h (Ref s.graph.no) named.no) is
  stays_named (Int h n) answer new e is = is-named answer new _ (bound-named named m h (values.Int n) (names_nothing s.graph (values.Int n) refl)) is
  stays_named (Char h n) answer new e is = is-named answer new _ (bound-named named m h (values.Char n) (names_nothing s.graph (values.Char n) refl)) is
  stays_named (Float h w) answer new e is = is-named answer new _ (bound-named named m h (values.Float w) (names_nothing s.graph (values.Float w) refl)) is
  stays_named (Copy h o) answer new e is = is-named answer new _ (bound-named named m h (value_at s.graph m o) (value_at-named named m o)) is
  stays_named (Drop h) answer new e is = is-named answer new _ (dropped-named named m h) is
  stays_named (Kind o) answer new e is = is-named answer new _ named is
  stays_named (Class h o) answer new e is = is-named answer new _ (bound-named named m h (class_value s.graph (value_at s.graph m o)) (class-named (value_at s.graph m o))) is
  stays_named (Size o) answer new e is = is-named answer new _ named is
  stays_named (Fetch h o i) answer new e is =
      let bare = no_immediate _ (none_in_row (row s m (Fetch h o i)) e).1.1.0 in
      is-named answer new _ (bound-named named m h _ (slot-named named (node_of_handle s.graph m o).pointers i (pointers_of o bare))) is
  stays_named (Store o i v) answer new e is =
      let bare = no_immediate _ (none_in_row (row s m (Store o i v)) e).1.0 in
      is-named answer new _ (changed-named named (name_at s.graph m o) (node_of_handle s.graph m o)
      (record (node_of_handle s.graph m o) { pointers = slice_set (node_of_handle s.graph m o).pointers i (value_at s.graph m v) }) (node_there o bare)
      (set-named s.graph (node_of_handle s.graph m o).pointers i (value_at s.graph m v) (value_at-named named m v) (pointers_of o bare))) is
  stays_named (Unit o i) answer new e is = is-named answer new _ named is
  stays_named (SetUnit o i u) answer new e is =
      let bare = no_immediate _ (none_in_row (row s m (SetUnit o i u)) e).1.0 in
      is-named answer new _ (changed-named named (name_at s.graph m o) (node_of_handle s.graph m o)
      (record (node_of_handle s.graph m o) { units = slice_set (node_of_handle s.graph m o).units i u }) (node_there o bare) (pointers_of o bare)) is
  stays_named (Same a b) answer new e is = is-named answer new _ named is
  stays_named (New h c n) answer new e is = new-named h c n Anywhere answer new is
  stays_named (NewOld h c n) answer new e is = new-named h c n OldAlone answer new is
  stays_named (Enter c) answer new e is = enter-named c answer new (no_immediate _ (none_in_row (row s m (Enter c)) e).1.0) is
  stays_named (Hash o) answer new e is = is-named answer new _ (hashed-named o (no_immediate _ (none_in_row (row s m (Hash o)) e).1.0)) is
  stays_named (Become a b) answer new e is = let bare = two_bare s.graph m a b (none_in_row (row s m (Become a b)) e).1.0 in
      exchange-named named (name_at s.graph m a) (name_at s.graph m b) (node_of_handle s.graph m a) (node_of_handle s.graph m b) answer new (node_there a bare.0) (node_there b bare.1) is
  stays_named (Forward a b hash) answer new e is =
      let none = none_in_row (row s m (Forward a b hash)) e in
      let bare = two_bare s.graph m a b none.1.0 in
      let plain = or_parts (is_special s.graph (name_at s.graph m a)) (list_any (λ h. is_special s.graph (name_at s.graph m h)) (if hash then b ∷ [] else [])) (untested _ r.Special none.1.1.0) in
      is-named answer new _ (forward-named named (name_at s.graph m a) (name_at s.graph m b) (node_of_handle s.graph m b) hash (node_there b bare.1) plain.0) is
  stays_named (Pin o) answer new e is =
      pin-named named (name_at s.graph m o) (node_of_handle s.graph m o) answer new (node_there o (no_immediate _ (none_in_row (row s m (Pin o)) e).1.0)) is
  stays_named (Unpin o) answer new e is = is-named answer new _ (flag-named o (λ n. record n { pinned = false }) (no_immediate _ (none_in_row (row s m (Unpin o)) e).1.0) (λ n. refl)) is
  stays_named (ReadOnly o) answer new e is = is-named answer new _ (flag-named o (λ n. record n { readonly = true }) (no_immediate _ (none_in_row (row s m (ReadOnly o)) e).1.0) (λ n. refl)) is
  stays_named (Writable o) answer new e is = is-named answer new _ (flag-named o (λ n. record n { readonly = false }) (no_immediate _ (none_in_row (row s m (Writable o)) e).1.0) (λ n. refl)) is
  stays_named Stat answer new e is = is-named answer new _ named is
  stays_named form answer new e is = absurd is
