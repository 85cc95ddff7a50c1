-- States that differ in names alone give the same answer to a line.
use Rattle.std.proofs.Common.{◌≡◌, ◌+◌, ℕ, zero, suc, Bool, true, false, ◌||◌, if◌then◌else◌, nat_eq, List, ◌∷◌, length, map, replicate, slice_index, slice_index_or, slice_set, refl, sym, ap, ◌∙◌, subst, arith, inl, inr, Some, None, Option}
use Rattle.std.proofs.lemmas.List.{length-map, map-set}
use Rattle.std.proofs.Math.ListN.{get_or-map}
use Rattle.std.specs.Option.{option_map}
use Rattle.std.specs.List.{flat_map, sum}
use Rattle.std.specs.FinMap.{get}
use Rattle.std.specs.FinSet.{contains}
use Rattle.object_header.specs.Formats.{pointer_slots_of}
use Rattle.spur_graph.specs.declared.answer.Answer.{Answer}
use Rattle.spur_graph.specs.declared.answer.Answer.TheVariants as answers
use Rattle.spur_graph.specs.declared.answer.Refusal.{Refusal}
use Rattle.spur_graph.specs.declared.answer.Refusal.TheVariants as r
use Rattle.spur_graph.specs.declared.answer.Value.{Value}
use Rattle.spur_graph.specs.declared.answer.Value.TheVariants.{Ref}
use Rattle.spur_graph.specs.declared.answer.Value.TheVariants as values
use Rattle.spur_graph.specs.Value.{is_immediate, same_value}
use Rattle.spur_graph.specs.Node.{Node}
use Rattle.spur_graph.specs.Names.{rename, rename_node}
use Rattle.spur_graph.specs.Bytes.{Text}
use Rattle.spur_graph.specs.Form.{Form, Special, Nil, Yes, No, Int, Char, Float, Copy, Drop, Kind, Class, Size, Fetch, Store, Unit, SetUnit, Same, New, NewOld, Enter, Hash, Become, Forward, Pin, Unpin, ReadOnly, Writable, Stat}
use Rattle.spur_graph.specs.Room.{fresh_words, fresh_spot}
use Rattle.spur_graph.specs.FreeSizes.{largest}
use Rattle.spur_graph.specs.Serve.{Source, Anywhere, OldAlone, serve}
use Rattle.spur_graph.specs.Instances.{fresh_node, layout_in, slots_for, format_for, instance}
use Rattle.spur_graph.specs.Hashes.{next_state, drawn, hash_now, with_hash, hashed, free_index, entered}
use Rattle.spur_graph.specs.State.{State, value_at, name_at, node_of_handle, with_graph, with_changed, made, slots_asked, words_asked}
use Rattle.spur_graph.specs.Shows.{shown, stat_of}
use Rattle.spur_graph.specs.Classes.{class_value}
use Rattle.spur_graph.specs.Refusals.{test}
use Rattle.spur_graph.specs.Refused.{row, refused}
use Rattle.spur_graph.specs.Does.{Outcome, ok, new_instance, room_entered, outcome, Is, Does}
use Rattle.spur_graph.specs.Step.{long, syntax, refusal, done, Answers, RefusesLater, Refuses, Passes, SameRoom, Renamed}
use Rattle.graph_laws.specs.FixedNames.{AnswersAlike}
use Rattle.spur_graph.proofs.HandleMaps.{as_many_handles}
use Rattle.graph_laws.proofs.Values.{layout_in-renamed, free_index-renamed, value_at-renamed, name_at-renamed, node_of_handle-renamed, same_value-renamed, shown-renamed, class_value-renamed}
use Rattle.graph_laws.proofs.RowParts.{none_in_row, no_immediate}
use Rattle.graph_laws.proofs.Refusals.{refused-renamed}
use Rattle.graph_laws.proofs.Alikes.{Alike, mapped-alike}
use Rattle.graph_laws.proofs.Becoming.{flagged-renamed}
use Rattle.graph_laws.proofs.BecomeOutcomes.{exchange-alike, forward-alike, pin-alike}
use Rattle.graph_laws.proofs.NamedOutcomes.{two_bare, node_there, stays_named}
use Rattle.graph_laws.proofs.Changes.{bound-renamed, dropped-renamed, changed-renamed, state-renamed, entered-renamed, made-renamed, q}
use Rattle.graph_laws.proofs.Fresh.{fresh-iso, fresh-room}
use Rattle.graph_laws.proofs.Counts.{len-renamed, waiting-counted}
use Rattle.graph_laws.proofs.Rooms.{with_places, served_with, serve-same, served-keeps, entered-same, entered-keeps}
use Rattle.graph_laws.proofs.Saving.{chooses-alike}
use Rattle.graph_laws.proofs.Named.{IsNamed, all_named}

-- a value in each place
map-replicate : {X Y : Type 0} (f : X → Y) (n : ℕ) (x : X) → map f (replicate n x) ≡ replicate n (f x)
map-replicate f zero x = refl
map-replicate f (suc n) x = ap (λ ys. f x ∷ ys) (map-replicate f n x)

-- a fresh node under other names
pub fresh_node-renamed : (p : ℕ → ℕ) (nil class format slots : ℕ) → fresh_node (p nil) class format slots ≡ rename_node p (fresh_node nil class format slots)
fresh_node-renamed p nil class format slots = ap (λ vs. record (fresh_node (p nil) class format slots) { pointers = vs }) (sym (map-replicate (rename p) (pointer_slots_of format slots 0) (Ref nil)))

module _ {s t : State} (named : IsNamed s) (k : Renamed s t) (m : ℕ) where
  abbrev corresponds : Text → Type 0
  corresponds o = node_of_handle t.graph m o ≡ rename_node k.p (node_of_handle s.graph m o)

  -- the nodes of a handle correspond where no immediate is refused
  nodes-alike : (o : Text) → test (is_immediate (value_at s.graph m o) || false) r.Immediate ≡ None → corresponds o
  nodes-alike o e = node_of_handle-renamed k.graph m o (no_immediate _ e)

  fetched : (o : Text) (i : ℕ) → corresponds o →
      slice_index_or (node_of_handle t.graph m o).pointers i (Ref t.graph.nil) ≡ rename k.p (slice_index_or (node_of_handle s.graph m o).pointers i (Ref s.graph.nil))
  fetched o i same =
      (λ j. slice_index_or (same j).pointers i (Ref (k.graph.nil j)))
      ∙ get_or-map (rename k.p) (node_of_handle s.graph m o).pointers i (Ref s.graph.nil)

  sized : (o : Text) → corresponds o →
      answers.Size (length (node_of_handle t.graph m o).pointers) (length (node_of_handle t.graph m o).units) ≡ answers.Size (length (node_of_handle s.graph m o).pointers) (length (node_of_handle s.graph m o).units)
  sized o same =
      ap (λ (n : Node). answers.Size (length n.pointers) (length n.units)) same
      ∙ ap (λ l. answers.Size l (length (node_of_handle s.graph m o).units)) (length-map (node_of_handle s.graph m o).pointers (rename k.p))

  stored : (n N : Node) (i : ℕ) (v w : Value) → N ≡ rename_node k.p n → w ≡ rename k.p v → record N { pointers = slice_set N.pointers i w } ≡ rename_node k.p (record n { pointers = slice_set n.pointers i v })
  stored n N i v w same e =
      (λ j. record (same j) { pointers = slice_set (same j).pointers i (e j) })
      ∙ ap (λ vs. record n { pointers = vs }) (sym (map-set (rename k.p) n.pointers i v))

  there : (o : Text) → is_immediate (value_at s.graph m o) ≡ false → get s.graph.nodes (name_at s.graph m o) ≡ Some (node_of_handle s.graph m o)
  there o bare = node_there named m o bare

  -- an instance under the names with the fresh one
  instance-alike : (c : Text) (n : ℕ) → is_immediate (value_at s.graph m c) ≡ false → instance t.graph (node_of_handle t.graph m c) n ≡ rename_node (q k named t.graph.next (k.next t.graph.next (omega arith))) (instance s.graph (node_of_handle s.graph m c) n)
  instance-alike c n bare =
      let e = node_of_handle-renamed k.graph m c bare in
      let class = node_of_handle s.graph m c in
      ap (λ x. instance t.graph x n) e
      ∙ ap (λ l. fresh_node t.graph.nil class.hash (format_for l n) (slots_for l n)) (layout_in-renamed k.p class)
      ∙ ap (λ nil. fresh_node nil class.hash (format_for (layout_in class) n) (slots_for (layout_in class) n)) (fresh-iso named k.graph t.graph.next (k.next t.graph.next (omega arith))).nil
      ∙ fresh_node-renamed (q k named t.graph.next (k.next t.graph.next (omega arith))) s.graph.nil class.hash (format_for (layout_in class) n) (slots_for (layout_in class) n)

  slots-alike : (c : Text) (n : ℕ) → is_immediate (value_at s.graph m c) ≡ false → slots_asked t.graph m c n ≡ slots_asked s.graph m c n
  slots-alike c n bare = ap (λ l. slots_for l n) (ap layout_in (node_of_handle-renamed k.graph m c bare) ∙ layout_in-renamed k.p (node_of_handle s.graph m c))

  -- a fresh instance, whose words are served on both sides
  new-alike : (h c : Text) (n : ℕ) (source : Source) → is_immediate (value_at s.graph m c) ≡ false
      → Alike (option_map (λ served. ok (new_instance s m h c n served)) (serve source s.room (words_asked s.graph m c n))) (option_map (λ served. ok (new_instance t m h c n served)) (serve source t.room (words_asked t.graph m c n)))
  new-alike h c n source bare = mapped-alike (serve source s.room (words_asked s.graph m c n)) (serve source t.room (words_asked t.graph m c n))
      (λ served. ok (new_instance s m h c n served)) (λ served. ok (new_instance t m h c n served)) (served_with t.room.spots t.room.old_names)
      (ap (λ l. serve source t.room (fresh_words l)) (slots-alike c n bare) ∙ serve-same k.room source (words_asked s.graph m c n))
      (λ served e.
      let keep = served-keeps source s.room (words_asked s.graph m c n) served e in
      let room = fresh-room named k.graph t.graph.next (k.next t.graph.next (omega arith)) k.room in
      let left : SameRoom served.room (with_places t.room.spots t.room.old_names served.room) (q k named t.graph.next (k.next t.graph.next (omega arith))) = record {
        spots = λ a. room.spots a ∙ ap (λ x. get x a) (sym keep.spots);
        old_names = λ a. room.old_names a ∙ ap (λ x. contains x a) (sym keep.old_names);
        rest = refl;
      } in
      let spot = fresh_spot served.space (slots_asked s.graph m c n) in (
        refl,
        subst (λ l. Renamed (new_instance s m h c n served) (made t m h (instance t.graph (node_of_handle t.graph m c) n) l (served_with t.room.spots t.room.old_names served))) (sym (slots-alike c n bare))
            (made-renamed k named t.graph.next (k.next t.graph.next (omega arith)) m h (instance s.graph (node_of_handle s.graph m c) n) (instance t.graph (node_of_handle t.graph m c) n) served.room (with_places t.room.spots t.room.old_names served.room) spot (t.graph.next + 1) (instance-alike c n bare) left (λ b l. (λ same. omega (arith, same, l), omega (arith, l)))),
      ))

  -- a hash is had, or is drawn on both sides
  hash_of : (o : Text) → is_immediate (value_at s.graph m o) ≡ false → (node_of_handle t.graph m o).hash ≡ (node_of_handle s.graph m o).hash
  hash_of o bare = ap (λ (n : Node). n.hash) (node_of_handle-renamed k.graph m o bare)

  hash_now-alike : (o : Text) → is_immediate (value_at s.graph m o) ≡ false → hash_now t.graph (name_at t.graph m o) ≡ hash_now s.graph (name_at s.graph m o)
  hash_now-alike o bare = λ i. if nat_eq (hash_of o bare i) 0 then drawn (k.graph.hash_state i) else hash_of o bare i

  with_hash-alike : (o : Text) (hash : ℕ) → is_immediate (value_at s.graph m o) ≡ false → Renamed (with_graph s (with_hash s.graph (name_at s.graph m o) hash)) (with_graph t (with_hash t.graph (name_at t.graph m o) hash))
  with_hash-alike o hash bare = changed-renamed k (name_at s.graph m o) (name_at t.graph m o) (node_of_handle s.graph m o)
      (record (node_of_handle s.graph m o) { hash = hash }) (record (node_of_handle t.graph m o) { hash = hash })
      (name_at-renamed k.graph m o bare) (there o bare) (ap (λ (n : Node). record n { hash = hash }) (node_of_handle-renamed k.graph m o bare))

  hashed-alike : (o : Text) → is_immediate (value_at s.graph m o) ≡ false → Renamed (with_graph s (hashed s.graph (name_at s.graph m o))) (with_graph t (hashed t.graph (name_at t.graph m o)))
  hashed-alike o bare = subst
      (λ hash. Renamed (with_graph s (hashed s.graph (name_at s.graph m o)))
      (with_graph t (if nat_eq hash 0 then record (with_hash t.graph (name_at t.graph m o) (drawn t.graph.hash_state)) { hash_state = next_state t.graph.hash_state } else t.graph)))
      (sym (hash_of o bare)) (by (nat_eq (node_of_handle s.graph m o).hash 0))
    where
      by : (b : Bool) → Renamed
          (with_graph s (if b then record (with_hash s.graph (name_at s.graph m o) (drawn s.graph.hash_state)) { hash_state = next_state s.graph.hash_state } else s.graph))
          (with_graph t (if b then record (with_hash t.graph (name_at t.graph m o) (drawn t.graph.hash_state)) { hash_state = next_state t.graph.hash_state } else t.graph))
      by true = subst
          (λ x. Renamed (with_graph s (record (with_hash s.graph (name_at s.graph m o) (drawn s.graph.hash_state)) { hash_state = next_state s.graph.hash_state }))
          (with_graph t (record (with_hash t.graph (name_at t.graph m o) (drawn x)) { hash_state = next_state x })))
          (sym k.graph.hash_state) (state-renamed (with_hash-alike o (drawn s.graph.hash_state) bare) (next_state s.graph.hash_state))
      by false = k

  -- a class is entered at one index on both sides
  enter-alike : (c : Text) → is_immediate (value_at s.graph m c) ≡ false → Alike (outcome s m (Enter c)) (outcome t m (Enter c))
  enter-alike c bare = subst
      (λ j. Alike (outcome s m (Enter c)) (option_map (λ room. (answers.Number j, record t { graph = entered t.graph (name_at t.graph m c) j; room = room })) (room_entered t.room j)))
      (sym (free_index-renamed k.graph))
      (mapped-alike (room_entered s.room i) (room_entered t.room i)
      (λ room. (answers.Number i, record s { graph = entered s.graph (name_at s.graph m c) i; room = room })) (λ room. (answers.Number i, record t { graph = entered t.graph (name_at t.graph m c) i; room = room }))
      (with_places t.room.spots t.room.old_names) (entered-same k.room i)
      (λ room e.
      let keep = entered-keeps s.room room i e in
      let left : SameRoom room (with_places t.room.spots t.room.old_names room) k.p = record {
        spots = λ a. k.room.spots a ∙ ap (λ x. get x a) (sym keep.spots);
        old_names = λ a. k.room.old_names a ∙ ap (λ x. contains x a) (sym keep.old_names);
        rest = refl;
      } in (
        refl,
        entered-renamed k i (name_at s.graph m c) (name_at t.graph m c) (node_of_handle s.graph m c)
            (record (node_of_handle s.graph m c) { hash = i }) (record (node_of_handle t.graph m c) { hash = i }) room (with_places t.room.spots t.room.old_names room)
            (name_at-renamed k.graph m c bare) (there c bare) (ap (λ (n : Node). record n { hash = i }) (node_of_handle-renamed k.graph m c bare)) left,
      )))
    where
      i : ℕ
      i = free_index s.graph

  -- what is counted
  stat-alike : stat_of t.graph t.room ≡ stat_of s.graph s.room
  stat-alike = λ i. record {
    nodes = len-renamed (rename_node k.p) k.p k.back k.graph.left k.graph.right s.graph.nodes t.graph.nodes k.graph.nodes i;
    handles = as_many_handles (rename k.p) s.graph.handles t.graph.handles k.graph.handles i;
    mourners = (ap (λ groups. length (flat_map (λ (g : List ℕ). g) groups)) k.graph.mourners ∙ waiting-counted k.p s.graph.mourners) i;
    free = sum (k.room.rest i).free;
    largest = largest (k.room.rest i).free;
    eden = (k.room.rest i).eden_left;
    past = (k.room.rest i).past_used;
  }

  -- a flag of an object is set or cleared
  flag-alike : (o : Text) (f : Node → Node) → is_immediate (value_at s.graph m o) ≡ false → ((n : Node) → f (rename_node k.p n) ≡ rename_node k.p (f n)) → Renamed (with_changed s (name_at s.graph m o) f) (with_changed t (name_at t.graph m o) f)
  flag-alike o f bare same = subst (λ a. Renamed (with_changed s (name_at s.graph m o) f) (with_changed t a f)) (sym (name_at-renamed k.graph m o bare))
      (flagged-renamed k (name_at s.graph m o) (node_of_handle s.graph m o) f (there o bare) same s.room t.room k.room)

  -- what a command answers and does, where nothing refuses it
  alike : (form : Form) → refused s m form ≡ None → refused t m form ≡ None → Alike (outcome s m form) (outcome t m form)
  alike (Special h) e f = (refl, bound-renamed k m h s.graph.special t.graph.special k.graph.special)
  alike (Nil h) e f = (refl, bound-renamed k m h (Ref s.graph.nil) (Ref t.graph.nil) (ap Ref k.graph.nil))
  alike (Yes h) e f = (refl, bound-renamed k m h (Ref s.graph.yes) (Ref t.graph.yes) (ap Ref k.graph.yes))
  alike (No h) e f = (refl, bound-renamed k m h (Ref s.graph.no) (Ref t.graph.no) (ap Ref k.graph.no))
  alike (Int h n) e f = (refl, bound-renamed k m h (values.Int n) (values.Int n) refl)
  alike (Char h n) e f = (refl, bound-renamed k m h (values.Char n) (values.Char n) refl)
  alike (Float h w) e f = (refl, bound-renamed k m h (values.Float w) (values.Float w) refl)
  alike (Copy h o) e f = (refl, bound-renamed k m h (value_at s.graph m o) (value_at t.graph m o) (value_at-renamed k.graph m o))
  alike (Drop h) e f = (refl, dropped-renamed k m h)
  alike (Fetch h o i) e f =
      let same : corresponds o = nodes-alike o (none_in_row (row s m (Fetch h o i)) e).1.1.0 in
      (refl, bound-renamed k m h _ _ (fetched o i same))
  alike (Kind o) e f = (ap answers.Shown (ap (shown t.graph) (value_at-renamed k.graph m o) ∙ shown-renamed k.graph (value_at s.graph m o)), k)
  alike (Class h o) e f = (refl, bound-renamed k m h _ _ (ap (class_value t.graph) (value_at-renamed k.graph m o) ∙ class_value-renamed k.graph (value_at s.graph m o)))
  alike (Size o) e f = (sized o (nodes-alike o (none_in_row (row s m (Size o)) e).1.0), k)
  alike (Store o i v) e f =
      let bare : is_immediate (value_at s.graph m o) ≡ false = no_immediate _ (none_in_row (row s m (Store o i v)) e).1.0 in (
        refl,
        changed-renamed k (name_at s.graph m o) (name_at t.graph m o) (node_of_handle s.graph m o)
            (record (node_of_handle s.graph m o) { pointers = slice_set (node_of_handle s.graph m o).pointers i (value_at s.graph m v) })
            (record (node_of_handle t.graph m o) { pointers = slice_set (node_of_handle t.graph m o).pointers i (value_at t.graph m v) })
            (name_at-renamed k.graph m o bare) (there o bare)
            (stored (node_of_handle s.graph m o) (node_of_handle t.graph m o) i (value_at s.graph m v) (value_at t.graph m v) (node_of_handle-renamed k.graph m o bare) (value_at-renamed k.graph m v)),
      )
  alike (Unit o i) e f = (ap (λ (n : Node). answers.Number (slice_index n.units i)) (nodes-alike o (none_in_row (row s m (Unit o i)) e).1.0), k)
  alike (SetUnit o i u) e f =
      let bare : is_immediate (value_at s.graph m o) ≡ false = no_immediate _ (none_in_row (row s m (SetUnit o i u)) e).1.0 in (
        refl,
        changed-renamed k (name_at s.graph m o) (name_at t.graph m o) (node_of_handle s.graph m o)
            (record (node_of_handle s.graph m o) { units = slice_set (node_of_handle s.graph m o).units i u })
            (record (node_of_handle t.graph m o) { units = slice_set (node_of_handle t.graph m o).units i u })
            (name_at-renamed k.graph m o bare) (there o bare)
            (ap (λ (n : Node). record n { units = slice_set n.units i u }) (node_of_handle-renamed k.graph m o bare)),
      )
  alike (Same a b) e f =
      let same : same_value (value_at t.graph m a) (value_at t.graph m b) ≡ same_value (rename k.p (value_at s.graph m a)) (rename k.p (value_at s.graph m b))
      = λ i. same_value (value_at-renamed k.graph m a i) (value_at-renamed k.graph m b i) in
      (ap answers.Truth (same ∙ same_value-renamed k.graph (value_at s.graph m a) (value_at s.graph m b)), k)
  alike (New h c n) e f = new-alike h c n Anywhere (no_immediate _ (none_in_row (row s m (New h c n)) e).1.1.0)
  alike (NewOld h c n) e f = new-alike h c n OldAlone (no_immediate _ (none_in_row (row s m (NewOld h c n)) e).1.1.0)
  alike (Enter c) e f = enter-alike c (no_immediate _ (none_in_row (row s m (Enter c)) e).1.0)
  alike (Hash o) e f = let bare = no_immediate _ (none_in_row (row s m (Hash o)) e).1.0 in (ap answers.Number (hash_now-alike o bare), hashed-alike o bare)
  alike (Become a b) e f = let bare = two_bare s.graph m a b (none_in_row (row s m (Become a b)) e).1.0 in
      exchange-alike k (name_at s.graph m a) (name_at s.graph m b) (name_at t.graph m a) (name_at t.graph m b) (node_of_handle s.graph m a) (node_of_handle s.graph m b)
      (there a bare.0) (there b bare.1) (name_at-renamed k.graph m a bare.0) (name_at-renamed k.graph m b bare.1)
  alike (Forward a b hash) e f = let bare = two_bare s.graph m a b (none_in_row (row s m (Forward a b hash)) e).1.0 in (
    refl,
    forward-alike k (name_at s.graph m a) (name_at s.graph m b) (name_at t.graph m a) (name_at t.graph m b) (node_of_handle s.graph m b) hash
        (there b bare.1) (name_at-renamed k.graph m a bare.0) (name_at-renamed k.graph m b bare.1),
  )
  alike (Pin o) e f = let bare = no_immediate _ (none_in_row (row s m (Pin o)) e).1.0 in
      pin-alike k (name_at s.graph m o) (name_at t.graph m o) (node_of_handle s.graph m o) (there o bare) (name_at-renamed k.graph m o bare)
  alike (Unpin o) e f = (refl, flag-alike o (λ n. record n { pinned = false }) (no_immediate _ (none_in_row (row s m (Unpin o)) e).1.0) (λ n. refl))
  alike (ReadOnly o) e f = (refl, flag-alike o (λ n. record n { readonly = true }) (no_immediate _ (none_in_row (row s m (ReadOnly o)) e).1.0) (λ n. refl))
  alike (Writable o) e f = (refl, flag-alike o (λ n. record n { readonly = false }) (no_immediate _ (none_in_row (row s m (Writable o)) e).1.0) (λ n. refl))
  alike Stat e f = (ap answers.Stat stat-alike, k)
  alike form e f = refl

  -- what refuses a command while it is carried out is the same under other names; no command has such refusals
  later-there : (form : Form) (why : Refusal) → RefusesLater s m form why → RefusesLater t m form why
  later-there form why later = absurd later

  later-here : (form : Form) (why : Refusal) → RefusesLater t m form why → RefusesLater s m form why
  later-here form why later = absurd later

-- an outcome is had in both states
had : (o u : Option Outcome) (answer : Answer) (new : State) → Alike o u → Is u answer new → (end : State) × Is o answer end × Renamed end new
had None u answer new a is = absurd (subst (λ x. Is x answer new) a is)
had (Some o) None answer new a is = absurd a
had (Some o) (Some u) answer new a is = (o.1, (is.0 ∙ a.0, refl), subst (λ x. Renamed o.1 x) (sym is.1) a.1)

module _ {s t : State} (named : IsNamed s) (k : Renamed s t) (m : ℕ) (form : Form) where
  refused-alike : refused s m form ≡ refused t m form
  refused-alike = sym (refused-renamed s t k.p k.back k.graph k.room k.script m form)

  refuses-alike : (why : Refusal) → Refuses t m form why → Refuses s m form why
  refuses-alike why (inl row) = inl (refused-alike ∙ row)
  refuses-alike why (inr later) = inr (refused-alike ∙ later.0, later-here named k m form why later.1)

  passes-alike : Passes t m form → Passes s m form
  passes-alike passes = (refused-alike ∙ passes.0, λ why later. passes.1 why (later-there named k m form why later))

  does-alike : (answer : Answer) (new : State) → Passes t m form → Does t m form answer new → (end : State) × Does s m form answer end × Renamed end new × IsNamed end
  does-alike answer new passes (inl is) =
      let found = had (outcome s m form) (outcome t m form) answer new (alike named k m form (passes-alike passes).0 passes.0) is in
      (found.0, inl found.1, found.2, stays_named named m form answer found.0 (passes-alike passes).0 found.1)
  does-alike answer new passes (inr chooses) =
      let found = chooses-alike named k m form answer new chooses in
      (found.0, inr found.1, found.2, found.3)

-- the same line has the same answer, and leads to a state that speaks of names that have nodes too
pub answered_alike : (s t new : State) (text : Text) (answer : Answer) → IsNamed s → Renamed s t → Answers t text answer new → (end : State) × Answers s text answer end × Renamed end new × IsNamed end
answered_alike s t new text answer named k (long l) = (s, long l, k, named)
answered_alike s t new text answer named k (syntax l none) = (s, syntax l none, k, named)
answered_alike s t new text answer named k (refusal m form why l reads refuses leaves) =
    (s, refusal m form why l reads (refuses-alike named k m form why refuses) refl, subst (λ x. Renamed s x) (sym leaves) k, named)
answered_alike s t new text answer named k (done m form l reads passes does) =
    let found = does-alike named k m form answer new passes does in
    (found.0, done m form l reads (passes-alike named k m form passes) found.1, found.2, found.3)

pub answers_alike : AnswersAlike
answers_alike s t new text answer all k answers =
    let found = answered_alike s t new text answer (all_named s all) k answers in
    (found.0, found.1, found.2)
