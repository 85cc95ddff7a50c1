-- An object is entered in the class table of a heap.
use Rattle.std.proofs.Common.{◌≡◌, ℕ, true, not, ◌&&◌, ◌/◌, ◌%◌, length, refl, sym, ap, ◌∙◌, subst, arith, Some}
use Rattle.std.proofs.lemmas.Bool.{not-false, not-true}
use Rattle.std.specs.Option.{is_none}
use Rattle.std.specs.FinMap.{insert}
use Rattle.spur_graph.specs.declared.answer.Value.TheVariants.{Ref}
use Rattle.spur_graph.specs.Cells.{There, Store, is_there, first, lead}
use Rattle.spur_graph.specs.Spaces.{old_row, eden_row, past_row}
use Rattle.spur_graph.specs.Ordinary.{page_entries, is_at, is_ordinary, is_good_word, entry, body_at}
use Rattle.spur_graph.specs.CellGraph.{read, has_class}
use Rattle.spur_graph.specs.Heaps.{View, IsWhole, store_of, heap_value, heap_graph, heap_room, own_name}
use Rattle.heap_cells.specs.Settled.{word_of}
use Rattle.heap_cells.proofs.Below.{at-named}
use Rattle.heap_cells.proofs.CellKinds.{there_is, there_starts}
use Rattle.heap_cells.proofs.Internals.{IsPageAt}
use Rattle.spur_heap.specs.Words.{starts_at, AreSound, body_in}
use Rattle.spur_heap.specs.Views.{IsOrdinary, IsGood}
use Rattle.spur_heap.specs.Remembering.{must_remember, remembered_for}
use Rattle.spur_heap.specs.Entering.{CanEnter}
use Rattle.spur_heap.proofs.OneCell.{with_cell}
use Rattle.spur_heap.proofs.Following.{own_lead, own_value}
use Rattle.spur_heap.proofs.PageAt.{has, page, page_start, at_page}
use Rattle.spur_heap.proofs.Puts.{whole_sound, fields_are}
use Rattle.spur_heap.proofs.Touched.{Touch, Keeps, touched_store, touched_whole, touched_graph, touched_room}
use Rattle.spur_heap.proofs.Tables.{SameTables, NotesToo, touched_tables, touched_same, tables-trans}
use Rattle.spur_heap.proofs.InPlace.{changed}
use Rattle.spur_heap.proofs.Swap.{internal-same, ordinary-same, reference-same, good-same, mourners_kept, fires_alike}
use Rattle.spur_heap.proofs.Graphs.{read-same, room-same}
use Rattle.spur_heap.proofs.Written.{bit_kept, Slot, body_then, then, slot_touch, slot_fits}
use Rattle.spur_heap.proofs.Storing.{RemembersFor, remembers_for}
use Rattle.spur_heap.proofs.ClassTable.{no_entry}
use Rattle.spur_heap.proofs.Entered.{Enters, entered_alike, entered_swap, entered_sound, length_is, graph-entered}

module _ (v : View) (whole : IsWhole v) (index start : ℕ) (can : CanEnter v index start) where
  abbrev h : Store
  h = store_of v

  abbrev i : ℕ
  i = index / page_entries

  -- the word of the entry
  abbrev pub entry_word : ℕ
  entry_word = word_of start

  abbrev sound : AreSound v
  sound = whole_sound v whole

  -- the start of the page
  abbrev pub start_of_page : ℕ
  start_of_page = page_start v (whole_sound v whole) index can.below can.page

  there : IsPageAt h i start_of_page
  there = at_page v sound index can.below can.page

  led_to_nil : lead h (entry h index) ≡ Some (first h 0)
  led_to_nil =
      let none : not (has_class h index) ≡ true = sym (no_entry v sound index) ∙ ap is_none can.unentered in
      let at : is_at (first h 0) (lead h (entry h index)) ≡ true = not-false _ (sym (ap (λ x. x && not (is_at (first h 0) (lead h (entry h index)))) (has v sound index can.below can.page)) ∙ not-true _ none) in
      at-named (first h 0) (lead h (entry h index)) at

  enters : Enters h index entry_word start start_of_page (body_at h start_of_page)
  enters = record {
    sound = sound.sound;
    below = can.below;
    has = has v sound index can.below can.page;
    page = page v sound index can.below can.page;
    named = there.named;
    there = there_is (h.cell start_of_page) there.there;
    leads = own_lead v start can.there;
    value = own_value v start can.there;
    ordinary = can.there;
    other = can.other;
    known = can.known;
    hash = sym (fields_are v whole start can.there).hash ∙ can.hash;
    unentered = led_to_nil;
  }

  -- the page is remembered where it has to be
  abbrev u : View
  u = remembered_for v start_of_page entry_word

  r : RemembersFor v u start_of_page entry_word
  r = remembers_for v whole start_of_page there.there entry_word

  enters_then : Enters (store_of u) index entry_word start start_of_page (body_in u start_of_page)
  enters_then = subst (λ (g : Store). Enters g index entry_word start start_of_page (body_at g start_of_page)) (sym r.store) enters

  abbrev slot : ℕ
  slot = index % page_entries

  places : Slot u start_of_page slot
  places = record {
    sound = whole_sound u r.whole;
    object = ap (λ (g : Store). is_there (g.cell start_of_page)) r.store ∙ there.there;
    inside = omega (arith, length_is enters_then);
  }

  -- the heap then
  abbrev pub entered_at : View
  entered_at = then u start_of_page slot entry_word

  touch : Touch u entered_at.words start_of_page (There (body_then u start_of_page slot entry_word))
  touch = slot_touch u start_of_page slot entry_word places

  keeps : Keeps (store_of u) (with_cell (store_of u) start_of_page (There (body_then u start_of_page slot entry_word)))
  keeps = record {
    sound = entered_sound enters_then;
    internal = λ t e. sym (internal-same (entered_swap enters_then) t) ∙ e;
    goods = λ w e. good-same (entered_swap enters_then) w ∙ e;
    references = λ w e. reference-same (entered_swap enters_then) w ∙ e;
    mourners = λ groups m. mourners_kept (entered_swap enters_then) groups (fires_alike (entered_swap enters_then) refl groups m) m;
  }

  pub entered_whole : IsWhole entered_at
  entered_whole =
      touched_whole u entered_at.words start_of_page (There (body_then u start_of_page slot entry_word)) touch
      (slot_fits u start_of_page slot entry_word places (entered_alike enters_then).like (λ m low over. r.bit low over) r.whole) keeps r.whole

  pub entered_tables : SameTables v entered_at
  entered_tables =
      tables-trans v u entered_at r.tables
      (touched_tables u entered_at.words start_of_page (There (body_then u start_of_page slot entry_word)) touch (there_starts ((store_of u).cell start_of_page) places.object) refl (ordinary-same (entered_swap enters_then)))

  pub entered_notes : NotesToo v entered_at (must_remember v start_of_page entry_word) start_of_page
  entered_notes t =
      touched_same u entered_at.words start_of_page (There (body_then u start_of_page slot entry_word)) touch (there_starts ((store_of u).cell start_of_page) places.object) refl
      (bit_kept u start_of_page slot entry_word places) t ∙ r.notes t

  pub page_starts : starts_at v start_of_page ≡ true
  page_starts = there_starts ((store_of v).cell start_of_page) there.there

  store-entered : store_of entered_at ≡ changed (store_of u) start_of_page (body_then u start_of_page slot entry_word)
  store-entered = touched_store u entered_at.words start_of_page (There (body_then u start_of_page slot entry_word)) touch

  pub entered_ordinary_kept : (t : ℕ) → IsOrdinary v t → IsOrdinary entered_at t
  entered_ordinary_kept t on =
      ap (λ (g : Store). is_ordinary g t) store-entered ∙ ordinary-same (entered_swap enters_then) t ∙ ap (λ (g : Store). is_ordinary g t) r.store ∙ on

  pub entered_good : (w : ℕ) → IsGood v w → IsGood entered_at w
  entered_good w on = ap (λ (g : Store). is_good_word g w) store-entered ∙ good-same (entered_swap enters_then) w ∙ ap (λ (g : Store). is_good_word g w) r.store ∙ on

  pub entered_value : (w : ℕ) → heap_value entered_at w ≡ heap_value v w
  entered_value w = ap (λ (g : Store). read own_name g w) store-entered ∙ read-same (entered_swap enters_then) w ∙ r.value w

  pub entered_graph : heap_graph entered_at ≡ record (heap_graph v) { classes = insert (heap_graph v).classes index (Ref start) }
  entered_graph =
      touched_graph u entered_at.words start_of_page (There (body_then u start_of_page slot entry_word)) touch
      ∙ graph-entered enters_then u.special u.handles u.mourners u.hash (length u.words)
      ∙ (λ x. record (r.graph x) { classes = insert (r.graph x).classes index (Ref start) })

  pub entered_room : heap_room entered_at ≡ heap_room v
  entered_room =
      touched_room u entered_at.words start_of_page (There (body_then u start_of_page slot entry_word)) touch
      ∙ room-same (entered_swap enters_then) (old_row u.words u.spaces) (eden_row u.words u.spaces) (past_row u.words u.spaces) u.spaces.old_end u.limits u.spaces.eden_used u.spaces.past_used
      ∙ r.room
