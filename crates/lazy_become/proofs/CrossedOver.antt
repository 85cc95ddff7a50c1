-- Two objects that were copied, and forwarded to the copies, are exchanged up to names, and no other words were written.
use Rattle.std.proofs.Common.{◌≡◌, ◌⊎◌, ◌+◌, ◌<◌, ◌≤◌, ℕ, false, cond, ◌||◌, nat_eq, get_or, sym, ap, ◌∙◌, subst, Some, None}
use Rattle.std.proofs.lemmas.Bool.{false≢true, eqb-false, ne_eqb, or_parts}
use Rattle.std.specs.Option.{option_map}
use Rattle.std.specs.FinMap.{get}
use Rattle.std.specs.FinSet.{contains}
use Rattle.spur_graph.specs.Graph.{Graph}
use Rattle.spur_graph.specs.Names.{Iso}
use Rattle.spur_graph.specs.Room.{Room, fresh_spot, slots_in, spot_at}
use Rattle.spur_graph.specs.Serve.{Anywhere, Served, serve}
use Rattle.spur_graph.specs.Spaces.{Spaces}
use Rattle.spur_graph.specs.Step.{SameRoom}
use Rattle.spur_graph.specs.Refusals.{is_special}
use Rattle.spur_graph.specs.Become.{redirect, room_redirected, exchange, exchanged, exchange_words, crossed_over, room_exchanged}
use Rattle.spur_graph.specs.Heaps.{View, IsWhole, heap_graph, heap_room}
use Rattle.graph_laws.specs.OutOfPlace.{IsPlain, IsNowhere, AreFour, crossed, moved_out, room_moved_out}
use Rattle.graph_laws.proofs.MovingOut.{moves_out, room_moves_out}
use Rattle.graph_laws.proofs.Rooms.{served-keeps}
use Rattle.spur_heap.specs.Views.{IsOrdinary, node_in}
use Rattle.spur_heap.specs.Outside.{IsOutsideEden}
use Rattle.spur_heap.proofs.NodesAt.{get_there}
use Rattle.spur_heap.proofs.RoomNames.{no_spot_without, no_old_name_without}
use Rattle.lazy_become.specs.Writes.{Exchanges, ExchangeWrites, KeepsTables}
use Rattle.lazy_become.proofs.Chunked.{outside_apart}
use Rattle.lazy_become.proofs.Led.{led_alone, led_elsewhere}
use Rattle.lazy_become.proofs.Pieces.{needs_words}
use Rattle.lazy_become.proofs.Tables.{tables_on}
use Rattle.lazy_become.proofs.Moved.{Copied, Leads, a_c, a_d, b_c, b_d}

-- a name that is none of nil, false and true
is_plain : (v : View) (a : ℕ) → IsOrdinary v a → is_special (heap_graph v) a ≡ false → IsPlain (heap_graph v) a
is_plain v a there plain =
    let g : Graph = heap_graph v in
    let one = or_parts (nat_eq a g.nil || nat_eq a g.no) (nat_eq a g.yes) plain in
    let two = or_parts (nat_eq a g.nil) (nat_eq a g.no) one.0 in
    record {
      node = node_in v a;
      there = get_there v a there;
      no_nil = eqb-false a g.nil two.0;
      no_false = eqb-false a g.no two.1;
      no_true = eqb-false a g.yes one.1;
    }

-- of a name without a node the room tells nothing, whatever words were served
is_nowhere : (v : View) (n q : ℕ) (served : Served) → serve Anywhere (heap_room v) n ≡ Some served → get (heap_graph v).nodes q ≡ None → IsNowhere served.room q
is_nowhere v n q served serves fresh =
    let kept = served-keeps Anywhere (heap_room v) n served serves in
    record {
      spot = ap (λ spots. get spots q) kept.spots ∙ no_spot_without v q fresh;
      young = ap (λ names. contains names q) kept.old_names ∙ no_old_name_without v q fresh;
    }

-- nothing but words changed
led_tables : {u w : View} {a c : ℕ} → Leads u w a c → w ≡ record u { words = w.words }
led_tables {u} {w} {a} {c} k = k.written ∙ led_alone u a c ∙ ap (λ (o : View). record u { words = o.words }) (sym k.written)

module _ {v t u w : View} {a b c d : ℕ} (k : Copied v t a b c d) (one : Leads t u a c) (two : Leads u w b d) where
  abbrev g : Graph
  g = heap_graph v

  pub tables_kept : KeepsTables v w
  tables_kept = tables_on v u w (tables_on v t u (k.copies).rest (led_tables one)) (led_tables two)

  -- ---- the graph

  graph_moved : heap_graph w ≡ moved_out g a b c d
  graph_moved = two.graph ∙ ap (λ h. redirect h b d) one.graph ∙ ap (λ h. redirect (redirect h a c) b d) (k.copies).graph

  moves : Iso (exchange g a b) (moved_out g a b c d) (crossed a b c d) (crossed a b c d)
  moves = moves_out g a b c d (record {
    closed = k.closed;
    apart = (k.can).apart;
    fresh_apart = (k.copies).apart;
    first = is_plain v a k.there_a (k.can).plain.0;
    second = is_plain v b k.there_b (k.can).plain.1;
    fresh_first = (k.copies).fresh_first;
    fresh_second = (k.copies).fresh_second;
  })

  graph_then : Iso (exchanged g a b) (heap_graph w) (crossed a b c d) (crossed a b c d)
  graph_then =
      subst (λ h. Iso h (heap_graph w) (crossed a b c d) (crossed a b c d)) (sym (ap (λ x. cond x g (exchange g a b)) (ne_eqb a b (k.can).apart)))
      (subst (λ h. Iso (exchange g a b) h (crossed a b c d) (crossed a b c d)) (sym graph_moved) moves)

  -- ---- the room

  abbrev served : Served
  served = (k.copies).served

  abbrev room_then : Room
  room_then = crossed_over (heap_room v) served.space a b served.room

  room_served : room_exchanged (heap_room v) a b ≡ Some room_then
  room_served =
      ap (λ x. cond x (Some (heap_room v)) (option_map (λ (s : Served). crossed_over (heap_room v) s.space a b s.room) (serve Anywhere (heap_room v) (exchange_words (heap_room v) a b)))) (needs_words v a b k.can)
      ∙ ap (option_map (λ (s : Served). crossed_over (heap_room v) s.space a b s.room)) (k.copies).serves

  four : AreFour a b c d
  four = record { apart = (k.can).apart; fresh_apart = (k.copies).apart; first = (a_c k, a_d k); second = (b_c k, b_d k) }

  room_moved : heap_room w ≡ room_moved_out served.room a b c d (fresh_spot served.space (slots_in (spot_at (heap_room v) b))) (fresh_spot served.space (slots_in (spot_at (heap_room v) a)))
  room_moved = two.room ∙ ap (λ r. room_redirected r b d) one.room ∙ ap (λ r. room_redirected (room_redirected r a c) b d) (k.copies).room

  figures_then : SameRoom room_then (heap_room w) (crossed a b c d)
  figures_then =
      let n = exchange_words (heap_room v) a b in
      subst (λ r. SameRoom room_then r (crossed a b c d)) (sym room_moved)
      (room_moves_out served.room a b c d (fresh_spot served.space (slots_in (spot_at (heap_room v) b))) (fresh_spot served.space (slots_in (spot_at (heap_room v) a))) four
      (is_nowhere v n c served (k.copies).serves (k.copies).fresh_first) (is_nowhere v n d served (k.copies).serves (k.copies).fresh_second))

  pub exchanges : IsWhole w → Exchanges v w a b
  exchanges whole = (room_then, room_served, record { whole = whole; place = crossed a b c d; back = crossed a b c d; graph = graph_then; figures = figures_then })

  -- ---- the words

  pub writes : ExchangeWrites v w a b
  writes = record {
    one = λ e. absurd ((k.can).apart e);
    in_place = λ none. absurd (false≢true (sym (needs_words v a b k.can) ∙ none));
    moved = λ j out_a out_b free eden.
        let spaces : w.spaces ≡ t.spaces = ap (λ (o : View). o.spaces) (led_tables two) ∙ ap (λ (o : View). o.spaces) (led_tables one) in
        let behind : IsOutsideEden v t j = subst (λ (s : Spaces). (j < v.spaces.eden_at + v.spaces.eden_used) ⊎ (v.spaces.eden_at + s.eden_used ≤ j)) spaces eden in
        ap (λ (o : View). get_or o.words j 0) two.written ∙ led_elsewhere u b d j (outside_apart v k.whole b j k.there_b out_b)
        ∙ ap (λ (o : View). get_or o.words j 0) one.written ∙ led_elsewhere t a c j (outside_apart v k.whole a j k.there_a out_a)
        ∙ (k.copies).others j free behind;
  }
