-- A pointer slot of an object or a page gets the word to which its word is followed.
use Rattle.std.proofs.Common.{◌≡◌, ℕ, true, false, ◌%◌, ◌<◌, length, get_or, refl, sym, ap, ◌∙◌, subst, arith, Option, Some, None}
use Rattle.std.specs.Prelude.{IfSome}
use Rattle.std.specs.FinMap.{get}
use Rattle.spur_graph.specs.Cells.{There, Store, is_start, is_there, is_moved}
use Rattle.spur_graph.specs.Spaces.{old_row, eden_row, past_row}
use Rattle.spur_graph.specs.Ordinary.{passes, is_ordinary, ordinary_starts, is_good_word, body_at, page_of, entry, page_entries}
use Rattle.spur_graph.specs.CellGraph.{read, node_of}
use Rattle.spur_graph.specs.Heaps.{View, IsWhole, store_of, heap_to, own_name, is_marked, waiting_in}
use Rattle.heap_cells.proofs.CellKinds.{there_starts}
use Rattle.spur_heap.specs.Words.{body_in, is_object, starts_at}
use Rattle.spur_heap.specs.Remembering.{must_remember, remembered_for, stored}
use Rattle.spur_heap.specs.Following.{is_forwarder, IsFollowed, IsFollowedSlot, Follows}
use Rattle.spur_heap.proofs.SlotCounts.{pointers_within}
use Rattle.spur_heap.proofs.OneCell.{with_cell}
use Rattle.spur_heap.proofs.InPlace.{changed, there-same, moved-same}
use Rattle.spur_heap.proofs.Swap.{internal-same, ordinary-same, reference-same, good-same, mourners_kept, fires_alike}
use Rattle.spur_heap.proofs.Graphs.{read-same, starts-same, room-same}
use Rattle.spur_heap.proofs.SlotAlike.{Another, another_body, another_like, another_slot, by_slots, swap, page_of-same, another_sound, another_node, another_graph}
use Rattle.spur_heap.proofs.Touched.{Touch, Keeps, touched_store, touched_whole, touched_graph, touched_room}
use Rattle.spur_heap.proofs.Tables.{SameTables, NotesToo, touched_tables, touched_same, tables-trans}
use Rattle.spur_heap.proofs.Written.{bit_kept, Slot, body_then, slot_touch, slot_fits, slot_length}
use Rattle.spur_heap.proofs.StoredMarks.{remembered_marks, slot_marks}
use Rattle.spur_heap.proofs.Storing.{RemembersFor, remembers_for, remembered_for_long, stored_view}
use Rattle.spur_heap.proofs.Puts.{whole_sound}

module _ (v : View) (whole : IsWhole v) (s n w : ℕ) (k : Another (store_of v) s n w (body_in v s)) where
  object : is_object v s ≡ true
  object = ap is_there k.there

  -- the object is remembered where it has to be
  abbrev u : View
  u = remembered_for v s w

  r : RemembersFor v u s w
  r = remembers_for v whole s object w

  then : Another (store_of u) s n w (body_in u s)
  then = subst (λ (h : Store). Another h s n w (body_at h s)) (sym r.store) k

  slot : Slot u s n
  slot = record {
    sound = whole_sound u r.whole;
    object = ap is_there then.there;
    inside = let fit = pointers_within u (whole_sound u r.whole) s (ap is_there then.there) in let low = then.low in omega (arith, low, fit);
  }

  -- the heap then
  abbrev new : View
  new = stored v s n w

  touch : Touch u new.words s (There (body_then u s n w))
  touch = slot_touch u s n w slot

  keeps : Keeps (store_of u) (with_cell (store_of u) s (There (body_then u s n w)))
  keeps = record {
    sound = another_sound then;
    internal = λ t e. sym (internal-same (swap then) t) ∙ e;
    goods = λ w e. good-same (swap then) w ∙ e;
    references = λ w e. reference-same (swap then) w ∙ e;
    mourners = λ groups m. mourners_kept (swap then) groups (fires_alike (swap then) refl groups m) m;
  }

  pub followed_whole : IsWhole new
  followed_whole =
      touched_whole u new.words s (There (body_then u s n w)) touch (slot_fits u s n w slot (another_like then) (λ m low over. r.bit low over) r.whole) keeps r.whole

  pub followed_tables : SameTables v new
  followed_tables =
      tables-trans v u new r.tables
      (touched_tables u new.words s (There (body_then u s n w)) touch (there_starts ((store_of u).cell s) slot.object) refl (ordinary-same (swap then)))

  pub followed_notes : NotesToo v new (must_remember v s w) s
  followed_notes t =
      touched_same u new.words s (There (body_then u s n w)) touch (there_starts ((store_of u).cell s) slot.object) refl (bit_kept u s n w slot) t ∙ r.notes t

  store_then : store_of new ≡ changed (store_of u) s (another_body then)
  store_then = touched_store u new.words s (There (body_then u s n w)) touch

  -- ---- what is the same

  forwarders : (t : ℕ) → is_forwarder new t ≡ is_forwarder v t
  forwarders t = ap (λ (h : Store). is_moved (h.cell t)) store_then ∙ moved-same (swap then).place t ∙ ap (λ (h : Store). is_moved (h.cell t)) r.store

  pages : (i : ℕ) → page_of (store_of new) i ≡ page_of (store_of v) i
  pages i = ap (λ (h : Store). page_of h i) store_then ∙ page_of-same then i ∙ ap (λ (h : Store). page_of h i) r.store

  marks : (t : ℕ) → starts_at v t ≡ true → is_marked new.words t ≡ is_marked v.words t
  marks t starts = slot_marks u s n w slot t (ap (λ (h : Store). is_start (h.cell t)) r.store ∙ starts) ∙ remembered_marks v whole s object w t

  view_then : new ≡ record v { words = new.words }
  view_then = stored_view v s n w

  module _ (followed : IsFollowed v w) where
    word_followed : (x : ℕ) → IsFollowed v x → IsFollowed new x
    word_followed x e = (λ y. passes (λ t. forwarders t y) (heap_to x)) ∙ e

    pub slots_followed : (t i : ℕ) → IsFollowedSlot v t i → IsFollowedSlot new t i
    slots_followed t i e =
        let at : IsFollowed v (get_or (body_at (changed (store_of u) s (another_body then)) t).words i 0) =
        by_slots then t i (IsFollowed v) (λ a b. followed) (subst (λ (h : Store). IsFollowed v (get_or (body_at h t).words i 0)) (sym r.store) e) in
        word_followed (get_or (body_in new t).words i 0) (subst (λ (h : Store). IsFollowed v (get_or (body_at h t).words i 0)) (sym store_then) at)

    -- the slot is followed then
    pub slot_followed : IsFollowedSlot new s n
    slot_followed =
        let at : get_or (body_in new s).words n 0 ≡ w = ap (λ (h : Store). get_or (body_at h s).words n 0) store_then ∙ another_slot then in
        word_followed (get_or (body_in new s).words n 0) (subst (IsFollowed v) (sym at) followed)

    entries_followed : (i : ℕ) → IsFollowed v (entry (store_of v) i) → IsFollowed new (entry (store_of new) i)
    entries_followed i e = subst (λ p. IsFollowed new (get_or (body_in new p).words (i % page_entries) 0)) (sym (pages i)) (slots_followed (page_of (store_of v) i) (i % page_entries) e)

    -- so is the entry that is the slot
    pub entry_followed : (i : ℕ) → page_of (store_of v) i ≡ s → i % page_entries ≡ n → IsFollowed new (entry (store_of new) i)
    entry_followed i at slot_is = subst (λ p. IsFollowed new (get_or (body_in new p).words (i % page_entries) 0)) (sym (pages i ∙ at)) (subst (λ j. IsFollowedSlot new s j) (sym slot_is) slot_followed)

    pub follows_slot : Follows v new
    follows_slot = record {
      graph = touched_graph u new.words s (There (body_then u s n w)) touch ∙ another_graph then u.special u.handles u.mourners u.hash (length u.words) ∙ r.graph;
      room =
          touched_room u new.words s (There (body_then u s n w)) touch
          ∙ room-same (swap then) (old_row u.words u.spaces) (eden_row u.words u.spaces) (past_row u.words u.spaces) u.spaces.old_end u.limits u.spaces.eden_used u.spaces.past_used ∙ r.room;
      values = λ x. ap (λ (h : Store). read own_name h x) store_then ∙ read-same (swap then) x ∙ r.value x;
      goods = λ x. ap (λ (h : Store). is_good_word h x) store_then ∙ good-same (swap then) x ∙ ap (λ (h : Store). is_good_word h x) r.store;
      ordinary = λ t. ap (λ (h : Store). is_ordinary h t) store_then ∙ ordinary-same (swap then) t ∙ ap (λ (h : Store). is_ordinary h t) r.store;
      objects = λ t. ap (λ (h : Store). is_there (h.cell t)) store_then ∙ there-same (swap then).place t ∙ ap (λ (h : Store). is_there (h.cell t)) r.store;
      forwarders = forwarders;
      nodes = λ t. ap (λ (h : Store). node_of own_name h (body_at h t)) store_then ∙ another_node then t ∙ ap (λ (h : Store). node_of own_name h (body_at h t)) r.store;
      starts = ap ordinary_starts store_then ∙ starts-same (swap then) ∙ ap ordinary_starts r.store;
      marks = marks;
      long = slot_length u s n w slot ∙ remembered_for_long v s w;
      rest = view_then ∙ (λ y. record v { words = new.words; special = (sym view_then y).special; handles = (sym view_then y).handles; mourners = (sym view_then y).mourners });
      slots = slots_followed;
      entries = entries_followed;
      held = λ h e. subst (λ m. IfSome (get m h) (IsFollowed new)) (ap (λ (x : View). x.handles) (sym view_then)) (held_then (get v.handles h) e);
      special = λ e. subst (IsFollowed new) (ap (λ (x : View). x.special) (sym view_then)) (word_followed v.special e);
      mourners = λ i e. subst (λ groups. i < length (waiting_in groups) → is_forwarder new (get_or (waiting_in groups) i 0) ≡ false) (ap (λ (x : View). x.mourners) (sym view_then)) (λ l. forwarders (get_or (waiting_in v.mourners) i 0) ∙ e l);
    }
      where
        held_then : (o : Option ℕ) → IfSome o (IsFollowed v) → IfSome o (IsFollowed new)
        held_then None e = tt
        held_then (Some x) e = word_followed x e
