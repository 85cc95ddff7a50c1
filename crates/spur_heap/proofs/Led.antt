-- An object whose header has its remembered bit where it is wanted becomes a forwarder: its header and the word behind it are written.
use Rattle.std.proofs.Common.{◌≡◌, ◌≢◌, ℕ, true, ◌+◌, ◌<◌, leb, List, length, get_or, set, refl, sym, ap, ◌∙◌, subst, arith, inl, inr, nat_eq}
use Rattle.std.proofs.lemmas.List.{length-set, get_or-set_same, get_or-set_other}
use Rattle.std.specs.Option.{unwrap_or}
use Rattle.object_header.specs.Field.{SetsField, with_field}
use Rattle.object_header.specs.Fields.{fields_of}
use Rattle.object_header.proofs.Fields.{SetsField-with_field}
use Rattle.spur_graph.specs.Names.{rename}
use Rattle.spur_graph.specs.Become.{instead, redirect, room_redirected}
use Rattle.spur_graph.specs.Cells.{Moved, Store, is_start}
use Rattle.spur_graph.specs.Ordinary.{is_ordinary, is_good_word, ordinary_starts, passes}
use Rattle.spur_graph.specs.Spaces.{old_row, eden_row, past_row}
use Rattle.spur_graph.specs.CellGraph.{read}
use Rattle.spur_graph.specs.Heaps.{View, IsWhole, HasBits, HasNoUnusedBits, store_of, chunks_of, heap_to, heap_value, heap_graph, heap_room, own_name, is_over, is_remembered, names_over}
use Rattle.free_lists.specs.declared.lists.FreeLists.{FreeLists}
use Rattle.heap_cells.specs.Rows.{starts_of}
use Rattle.heap_cells.specs.RowWrites.{Rewrites}
use Rattle.heap_cells.specs.Settled.{word_of}
use Rattle.heap_cells.proofs.CellKinds.{there_starts}
use Rattle.heap_cells.proofs.Cutting.{start-in, stands}
use Rattle.heap_cells.proofs.ForwardedRoom.{room-forwarded}
use Rattle.heap_cells.proofs.ForwardedSound.{MayMourn, forwarded-sound, forwarded-mourners}
use Rattle.heap_cells.proofs.ForwarderWrites.{forwarder-written}
use Rattle.heap_cells.proofs.Forwarding.{Forwards, with_forwarder, internal-same, ordinary-here, ordinary-other, reference-same, good-same}
use Rattle.heap_cells.proofs.Internals.{heap-named}
use Rattle.heap_cells.proofs.Members.{In, in_list, listed}
use Rattle.heap_cells.proofs.Redirecting.{read-forwarded, graph-forwarded}
use Rattle.heap_cells.proofs.References.{ordinary_there}
use Rattle.heap_cells.proofs.UnusedBits.{set_unused}
use Rattle.spur_heap.specs.Words.{AreSound, starts_at}
use Rattle.spur_heap.specs.Forwarders.{forwarder_word, leading}
use Rattle.spur_heap.proofs.FewerStarts.{one_fewer}
use Rattle.spur_heap.proofs.Figures.{starts_once}
use Rattle.spur_heap.proofs.Hops.{start_at}
use Rattle.spur_heap.proofs.OneCell.{with_cell}
use Rattle.spur_heap.proofs.Orders.{order}
use Rattle.spur_heap.proofs.Puts.{whole_sound}
use Rattle.spur_heap.proofs.Tables.{SameNoted, touched_same, HasFreeLists, touched_starts, touched_lists}
use Rattle.spur_heap.proofs.Touched.{Touch, Holds, Fits, touched_store, held_whole, touched_graph, touched_room}

-- the header of a forwarder has the bits of the object's
pub record IsForwarder (old new : ℕ) : Type 0 where
  pub class : (fields_of new).class ≡ 8
  pub count : (fields_of new).count ≡ (fields_of old).count
  pub marked : (fields_of new).marked ≡ (fields_of old).marked
  pub grey : (fields_of new).grey ≡ (fields_of old).grey
  pub remembered : (fields_of new).remembered ≡ (fields_of old).remembered
  pub unused : HasNoUnusedBits old → HasNoUnusedBits new

pub a_forwarder : (word : ℕ) → IsForwarder word (forwarder_word word)
a_forwarder word =
    let mid : ℕ = with_field 0 22 word 8 in
    let f : SetsField 0 22 word 8 mid = SetsField-with_field word 0 22 8 (omega arith) in
    let g : SetsField 24 5 mid 7 (with_field 24 5 mid 7) = SetsField-with_field mid 24 5 7 (omega arith) in
    record {
      class = g.others 0 22 (inl (omega arith)) ∙ f.reads;
      count = g.others 56 8 (inr (omega arith)) ∙ f.others 56 8 (inr (omega arith));
      marked = g.others 55 1 (inr (omega arith)) ∙ f.others 55 1 (inr (omega arith));
      grey = g.others 31 1 (inr (omega arith)) ∙ f.others 31 1 (inr (omega arith));
      remembered = g.others 29 1 (inr (omega arith)) ∙ f.others 29 1 (inr (omega arith));
      unused = λ k. set_unused 24 5 mid 7 (forwarder_word word) (inl (omega arith)) (inr (omega arith)) (omega arith) refl (set_unused 0 22 word 8 mid (inr (omega arith)) (inr (omega arith)) (omega arith) refl k);
    }

-- a forwarder names what lies behind old space where its target does
over_moved : (end t : ℕ) → names_over end (Moved t) ≡ true → leb end t ≡ true
unfolding names_over
over_moved end t e = e

module _ (u : View) (whole : IsWhole u) (a b : ℕ) (k : Forwards (store_of u) a b) (may : MayMourn (store_of u) u.mourners a b)
    (bit : a < u.spaces.old_end → is_over u.spaces.old_end (word_of b) ≡ true → is_remembered u.words a ≡ true) where
  abbrev h : Store
  h = store_of u

  sound : AreSound u
  sound = whole_sound u whole

  start : is_start (h.cell a) ≡ true
  start = there_starts (h.cell a) (ordinary_there h a k.from)

  start_to : is_start (h.cell b) ≡ true
  start_to = there_starts (h.cell b) (ordinary_there h b k.to)

  -- ---- the words

  abbrev header : ℕ
  header = get_or u.words a 0

  abbrev new : List ℕ
  new = (leading u a b).words

  rewrites : Rewrites heap_to u.words new (length u.words) (chunks_of u) a (Moved b)
  rewrites = subst (λ x. Rewrites heap_to u.words new (length u.words) (chunks_of u) a (Moved (unwrap_or x (length u.words)))) (heap-named b)
      (forwarder-written heap_to u.words (length u.words) (chunks_of u) a (forwarder_word header) (word_of b) (order u sound) (omega arith) start (a_forwarder header).count (a_forwarder header).class)

  own_header : get_or new a 0 ≡ forwarder_word header
  own_header =
      let low = (start_at u sound a start).below in
      get_or-set_other (set u.words a (forwarder_word header)) (a + 1) a (word_of b) 0 (λ e. omega (arith, e)) ∙ get_or-set_same u.words a (forwarder_word header) 0 (omega (arith, low))

  other_word : (j : ℕ) → j ≢ a → j ≢ a + 1 → get_or new j 0 ≡ get_or u.words j 0
  other_word j n m = get_or-set_other (set u.words a (forwarder_word header)) (a + 1) j (word_of b) 0 m ∙ get_or-set_other u.words a j (forwarder_word header) 0 n

  pub led_touch : Touch u new a (Moved b)
  led_touch =
      let c = start-in heap_to u.words (chunks_of u) a start in
      let l = (stands u.words 0 (length u.words) (chunks_of u) c.0 (order u sound) c.1).lies in
      record {
        sound = sound;
        long = length-set (set u.words a (forwarder_word header)) (a + 1) (word_of b) ∙ length-set u.words a (forwarder_word header);
        rewrites = rewrites;
        chunk = c.0;
        inside = c.1;
        start = c.2;
        others = λ j out. other_word j
            (λ e. elim out [ inl low ↦ omega (arith, e, low, l.lead, c.2) | inr high ↦ omega (arith, e, high, l.room, c.2) ])
            (λ e. elim out [ inl low ↦ omega (arith, e, low, l.lead, c.2) | inr high ↦ omega (arith, e, high, l.room, c.2) ]);
      }

  -- ---- the heap is whole

  holds : Holds u (with_cell h a (Moved b))
  holds = record {
    sound = forwarded-sound k;
    inner = λ t e. whole.inner t (sym (internal-same k t) ∙ e);
    held = λ n w e. good-same k w ∙ whole.held n w e;
    special = reference-same k u.special ∙ whole.special_there;
    mourners = forwarded-mourners k u.mourners may whole.mourners;
  }

  bit_kept : is_remembered new a ≡ is_remembered u.words a
  bit_kept = ap (λ w. nat_eq (fields_of w).remembered 1) own_header ∙ ap (λ n. nat_eq n 1) (a_forwarder header).remembered

  over : is_over u.spaces.old_end (word_of b) ≡ leb u.spaces.old_end b
  over = ap (passes (λ t. leb u.spaces.old_end t)) (heap-named b)

  fits : Fits u new a (Moved b)
  fits = record {
    bits = λ was.
        let f = a_forwarder header in
        subst (λ w. HasBits u.phase w) (sym own_header) (record { marked = λ w. f.marked ∙ was.marked w; grey = f.grey ∙ was.grey; unused = f.unused was.unused });
    all = λ low other names. bit_kept ∙ bit low (over ∙ over_moved u.spaces.old_end b names);
    only = λ on.
        let c = start-in heap_to u.words (chunks_of u) a start in
        let r = whole.remembered.only c.0 (listed (chunks_of u) c.0 c.1) (ap (is_remembered u.words) c.2 ∙ sym bit_kept ∙ on) in
        (omega (arith, r.0, c.2), refl);
    young = λ l mobile. (refl, refl);
  }

  pub led_whole : IsWhole (leading u a b)
  led_whole = held_whole u new a (Moved b) led_touch fits holds whole

  -- ---- what is read of it

  led_store : store_of (leading u a b) ≡ with_forwarder h a b
  led_store = touched_store u new a (Moved b) led_touch

  pub led_ordinary : (t : ℕ) → t ≢ a → is_ordinary (store_of (leading u a b)) t ≡ is_ordinary h t
  led_ordinary t n = ap (λ (g : Store). is_ordinary g t) led_store ∙ ordinary-other k t n

  pub led_good : (w : ℕ) → is_good_word (store_of (leading u a b)) w ≡ is_good_word h w
  led_good w = ap (λ (g : Store). is_good_word g w) led_store ∙ good-same k w

  pub led_value : (w : ℕ) → heap_value (leading u a b) w ≡ rename (instead a b) (heap_value u w)
  led_value w = ap (λ (g : Store). read own_name g w) led_store ∙ read-forwarded k w

  pub led_graph : heap_graph (leading u a b) ≡ redirect (heap_graph u) a b
  led_graph = touched_graph u new a (Moved b) led_touch ∙ graph-forwarded k u.special u.handles u.mourners u.hash (length u.words)

  among : (t : ℕ) → is_start (h.cell t) ≡ true → In (starts_of (chunks_of u)) t
  among t on = in_list (starts_of (chunks_of u)) t (start_at u sound t on).stands

  pub led_room : heap_room (leading u a b) ≡ room_redirected (heap_room u) a b
  led_room =
      touched_room u new a (Moved b) led_touch
      ∙ room-forwarded k (old_row u.words u.spaces) (eden_row u.words u.spaces) (past_row u.words u.spaces) (among a start) (among b start_to) u.spaces.old_end u.limits u.spaces.eden_used u.spaces.past_used

  -- ---- the tables

  pub led_noted : SameNoted u (leading u a b)
  led_noted = touched_same u new a (Moved b) led_touch start refl bit_kept

  pub led_starts : (t : ℕ) → starts_at (leading u a b) t ≡ starts_at u t
  led_starts = touched_starts u new a (Moved b) led_touch start refl

  pub led_lists : (free : FreeLists) → HasFreeLists u free → HasFreeLists (leading u a b) free
  led_lists = touched_lists u new a (Moved b) led_touch start refl

  -- there is one ordinary object fewer
  pub led_count : length (ordinary_starts h) ≡ length (ordinary_starts (store_of (leading u a b))) + 1
  unfolding ordinary_starts
  led_count =
      one_fewer (is_ordinary (with_forwarder h a b)) (is_ordinary h) a k.from (ordinary-here k) (ordinary-other k) (starts_of (chunks_of u))
      (starts_once u.words 0 (length u.words) (chunks_of u) (order u sound)) (among a start)
      ∙ ap (λ (g : Store). length (ordinary_starts g) + 1) (sym led_store)
