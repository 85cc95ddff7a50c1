-- A page of the class table is made: an object that is allocated in old space becomes one, and the graph is as before.
use Rattle.std.proofs.Common.{◌≡◌, ◌≢◌, ℕ, false, not, cond, ◌&&◌, ◌||◌, ◌/◌, ◌<◌, List, ◌++◌, refl, sym, ap, ◌∙◌, subst, inl, inr, Some, None, Option}
use Rattle.std.proofs.lemmas.Bool.{cases_Bool, false_from_ne_true}
use Rattle.std.proofs.lemmas.Map.Views.{Contains-from_any}
use Rattle.std.specs.Option.{option_map, unwrap_or}
use Rattle.std.specs.List.{filter, find}
use Rattle.std.specs.Ordering.{nat_cmp, eq_by_cmp}
use Rattle.std.specs.Cmp.{nat_cmp_total}
use Rattle.std.specs.FinMap.{get, get-from_entries, get-insert, nat_cmp-IsAntisymmetric}
use Rattle.std.specs.FinSet.{FinSet, contains}
use Rattle.std.specs.FinSet as sets
use Rattle.object_header.specs.Chunks.{Chunk}
use Rattle.spur_graph.specs.declared.answer.Value.TheVariants.{Ref}
use Rattle.spur_graph.specs.FreeSizes.{fits, shortened}
use Rattle.spur_graph.specs.Graph.{Graph, IsClosed, node}
use Rattle.spur_graph.specs.Instances.{fresh_node}
use Rattle.spur_graph.specs.Node.{Node}
use Rattle.spur_graph.specs.Room.{Room, Space, Spot, Old, Eden, Past, fresh_spot, fresh_words, is_old, placed, with_page}
use Rattle.spur_graph.specs.Serve.{OldAlone, Served, serve}
use Rattle.spur_graph.specs.Cells.{Store}
use Rattle.spur_graph.specs.Spaces.{old_row, eden_row, past_row}
use Rattle.spur_graph.specs.Ordinary.{page_entries, passes, class_limit, is_ordinary}
use Rattle.spur_graph.specs.CellRoom.{ordinary_chunks}
use Rattle.spur_graph.specs.HeapRoom.{room_in, spot_in, spots_of, is_reached, old_names_of}
use Rattle.spur_graph.specs.Heaps.{View, IsWhole, store_of, heap_graph, heap_room, heap_value}
use Rattle.heap_cells.proofs.AddedRoom.{in_map}
use Rattle.heap_cells.proofs.Entries.{place_below}
use Rattle.heap_cells.proofs.Finding.{key_same, same_key}
use Rattle.heap_cells.proofs.Members.{In, in_list, in_either, filter_in}
use Rattle.spur_heap.specs.Views.{IsOrdinary, IsGood, node_in}
use Rattle.spur_heap.specs.Allocating.{Makes}
use Rattle.spur_heap.specs.Entering.{HasNoPage, MakesPage, CanTurn, TurnsIntoPage, page_class, page_format, without_node, without_spot}
use Rattle.spur_heap.proofs.Following.{good_reference}
use Rattle.spur_heap.proofs.Leads.{aligned_by}
use Rattle.spur_heap.proofs.Lone.{lead_valued}
use Rattle.spur_heap.proofs.NodesAt.{get_there, node_there}
use Rattle.spur_heap.proofs.Puts.{whole_sound}
use Rattle.spur_heap.proofs.Turned.{found_in}
use Rattle.spur_heap.proofs.TurnedGraph.{take_back}

-- old space alone serves out of its free chunks
pub record ServesOld (room : Room) (served : Served) : Type 0 where
  pub space : served.space ≡ Old
  pub rest : served.room ≡ record room { free = served.room.free }

serves_old : (room : Room) (n : ℕ) (served : Served) → serve OldAlone room n ≡ Some served → ServesOld room served
unfolding serve
serves_old room n served is = go (find (fits n) room.free) is
  where
    go : (o : Option ℕ) → option_map (λ size. let s : Served = record { space = Old; room = record room { free = shortened n size room.free } } in s) o ≡ Some served → ServesOld room served
    go None e = absurd cc
    go (Some size) e =
        let one : Served = record { space = Old; room = record room { free = shortened n size room.free } } in
        let same : one ≡ served = ap (λ o. unwrap_or o one) e in
        subst (ServesOld room) same (record { space = refl; rest = refl })

-- a name that has no node has no spot, and is no old name
module _ (v : View) (s : ℕ) (fresh : get (heap_graph v).nodes s ≡ None) where
  abbrev h : Store
  h = store_of v

  pub not_there : IsOrdinary v s → ⊥
  not_there on = absurd (let both : Some (node_in v s) ≡ None = sym (get_there v s on) ∙ fresh in cc)

  no_spot_in : (space : Space) (cs : List Chunk) (x : Spot) → In (spots_of space h cs) (s, x) → ⊥
  no_spot_in space cs x m =
      let c = in_map (λ (d : Chunk). (d.start, spot_in space d)) (ordinary_chunks h cs) (s, x) m in
      let on = (filter_in (λ (d : Chunk). is_ordinary h d.start) cs c.0 c.1).1 in
      not_there (ap (is_ordinary h) (sym (ap (λ (e : ℕ × Spot). e.0) c.2)) ∙ on)

  pub no_spot : get (heap_room v).spots s ≡ None
  unfolding room_in
  no_spot = none (get (heap_room v).spots s) refl
    where
      X : List (ℕ × Spot)
      X = spots_of Old h (old_row v.words v.spaces)

      Y : List (ℕ × Spot)
      Y = spots_of Eden h (eden_row v.words v.spaces)

      Z : List (ℕ × Spot)
      Z = spots_of Past h (past_row v.words v.spaces)

      none : (o : Option Spot) → get (heap_room v).spots s ≡ o → o ≡ None
      none None e = refl
      none (Some x) e =
          let m = found_in s (X ++ (Y ++ Z)) x (sym (get-from_entries nat_cmp_total (X ++ (Y ++ Z)) s) ∙ e) in
          absurd (elim (in_either X (Y ++ Z) (s, x) m) [
            | inl a ↦ no_spot_in Old (old_row v.words v.spaces) x a
            | inr b ↦ elim (in_either Y Z (s, x) b) [ inl c ↦ no_spot_in Eden (eden_row v.words v.spaces) x c | inr d ↦ no_spot_in Past (past_row v.words v.spaces) x d ]
          ])

  pub no_old_name : contains (heap_room v).old_names s ≡ false
  unfolding room_in
  no_old_name = false_from_ne_true _ (λ on.
      let O : List Chunk = old_row v.words v.spaces in
      let all : List Chunk = O ++ (eden_row v.words v.spaces ++ past_row v.words v.spaces) in
      let names : List ℕ = old_names_of h O all in
      let m : In names s = in_list names s (Contains-from_any (λ x y e. key_same x y e) s names (sym (sets.contains-from_list nat_cmp_total names s) ∙ on)) in
      let c = in_map (λ (d : Chunk). d.start) (filter (λ (d : Chunk). is_reached h O d.start) (ordinary_chunks h all)) s m in
      let d = filter_in (λ (d : Chunk). is_reached h O d.start) (ordinary_chunks h all) c.0 c.1 in
      let there = (filter_in (λ (d : Chunk). is_ordinary h d.start) all c.0 d.0).1 in
      not_there (ap (is_ordinary h) (sym c.2) ∙ there))

  -- no good word has it as value
  pub no_value : IsWhole v → (w : ℕ) → IsGood v w → heap_value v w ≢ Ref s
  no_value whole w good is =
      let lead = lead_valued v whole w s good is in
      not_there (ap (passes (is_ordinary h)) (sym lead) ∙ good_reference v (whole_sound v whole) w good (aligned_by v w s lead))

-- a member that was put is taken again
set_back : (m : FinSet nat_cmp) (s : ℕ) → contains m s ≡ false → sets.remove (sets.insert m s) s ≡ m
set_back m s none = sets.same_set nat_cmp_total nat_cmp-IsAntisymmetric (sets.remove (sets.insert m s) s) m (λ q.
    sets.contains-remove nat_cmp_total (sets.insert m s) s q ∙ ap (λ b. not (eq_by_cmp nat_cmp q s) && b) (sets.contains-insert nat_cmp_total m s q) ∙ at q)
  where
    at : (q : ℕ) → (not (eq_by_cmp nat_cmp q s) && (eq_by_cmp nat_cmp q s || contains m q)) ≡ contains m q
    at q = elim (cases_Bool (eq_by_cmp nat_cmp q s)) [
      | inl on ↦ ap (λ b. not b && (b || contains m q)) on ∙ sym (ap (contains m) (key_same q s on) ∙ none)
      | inr off ↦ ap (λ b. not b && (b || contains m q)) off
    ]

module _ {old mid : View} {s : ℕ} (whole : IsWhole old) (closed : IsClosed (heap_graph old)) (m : Makes old mid OldAlone page_class page_format page_entries s) where
  abbrev n : Node
  n = fresh_node (heap_graph old).nil page_class page_format page_entries

  serves : ServesOld (heap_room old) m.served
  serves = serves_old (heap_room old) (fresh_words page_entries) m.served m.serves

  graph_back : without_node (heap_graph mid) s ≡ heap_graph old
  graph_back = ap (λ (g : Graph). without_node g s) m.graph ∙ (λ x. record (heap_graph old) { nodes = take_back (heap_graph old).nodes s n m.fresh x })

  room_is : heap_room mid ≡ placed m.served.room s (fresh_spot Old page_entries)
  room_is = m.room ∙ ap (λ (space : Space). placed m.served.room s (fresh_spot space page_entries)) serves.space

  room_back : without_spot (heap_room mid) s ≡ m.served.room
  room_back =
      let spots : get m.served.room.spots s ≡ None = ap (λ (r : Room). get r.spots s) serves.rest ∙ no_spot old s m.fresh in
      let names : contains m.served.room.old_names s ≡ false = ap (λ (r : Room). contains r.old_names s) serves.rest ∙ no_old_name old s m.fresh in
      ap (λ (r : Room). without_spot r s) room_is
      ∙ (λ x. record m.served.room { spots = take_back m.served.room.spots s (fresh_spot Old page_entries) spots x; old_names = set_back m.served.room.old_names s names x })

  module _ {index : ℕ} (below : index < class_limit) (absent : HasNoPage old index) where
    pub can_turn : CanTurn mid (index / page_entries) s
    can_turn = record {
      below = place_below index below;
      absent = ap (λ (r : Room). contains r.pages (index / page_entries)) room_is ∙ ap (λ (r : Room). contains r.pages (index / page_entries)) serves.rest ∙ absent;
      there = m.there;
      node = m.node ∙ ap (λ (g : Graph). fresh_node g.nil page_class page_format page_entries) (sym m.graph);
      spot =
          ap (λ (r : Room). get r.spots s) room_is ∙ get-insert nat_cmp_total m.served.room.spots s (fresh_spot Old page_entries) s
          ∙ ap (λ b. cond b (Some (fresh_spot Old page_entries)) (get m.served.room.spots s)) (same_key s s refl);
      lone = subst (λ (g : Graph). IsClosed g) (sym graph_back) closed;
    }

    module _ {new : View} (t : TurnsIntoPage mid new (index / page_entries) s) where
      graph : heap_graph new ≡ heap_graph old
      graph = t.graph ∙ graph_back

      other : (w : ℕ) → IsGood old w → heap_value mid w ≢ Ref s
      other w good is = no_value old s m.fresh whole w good (sym (m.values w good) ∙ is)

      apart : (a : ℕ) → IsOrdinary old a → a ≢ s
      apart a on e = not_there old s m.fresh (ap (is_ordinary (store_of old)) (sym e) ∙ on)

      stays : (a : ℕ) → IsOrdinary old a → IsOrdinary new a
      stays a on = t.ordinary a (apart a on) (m.ordinary a on)

      rest : new ≡ record old { words = new.words }
      rest =
          let spaces = m.spaces (ap is_old serves.space) in
          t.rest ∙ (λ x. record (m.rest x) { words = new.words }) ∙ (λ x. record old { words = new.words; spaces = spaces x })

      pub page_made : MakesPage old new index
      page_made = record {
        served = m.served;
        serves = m.serves;
        graph = graph;
        room = t.room ∙ ap (λ (r : Room). with_page r (index / page_entries)) room_back;
        values = λ w good. t.values w (other w good) ∙ m.values w good;
        goods = λ w good. t.goods w (other w good) (m.goods w good);
        ordinary = stays;
        nodes = λ a on. sym (node_there new a (stays a on)) ∙ ap (λ (g : Graph). node g a) graph ∙ node_there old a on;
        rest = rest;
      }
