-- A heap in which an object was pinned stands for the graph and the room of the machine: where it stood, or by a copy that nothing names before, under names
-- that change places.
use Rattle.std.proofs.Common.{◌≡◌, ◌≢◌, ℕ, true, false, cond, ◌||◌, eqb, refl, sym, ap, ◌∙◌, subst, Some}
use Rattle.std.proofs.lemmas.Bool.{or_parts, eqb-false}
use Rattle.std.specs.Option.{option_map}
use Rattle.std.specs.FinMap.{get}
use Rattle.std.specs.FinSet.{contains}
use Rattle.spur_graph.specs.declared.answer.Value.{Value}
use Rattle.spur_graph.specs.declared.answer.Value.TheVariants.{Ref}
use Rattle.spur_graph.specs.Value.{name_of}
use Rattle.spur_graph.specs.Node.{Node}
use Rattle.spur_graph.specs.Names.{Iso, swapped}
use Rattle.spur_graph.specs.Graph.{Graph, IsClosed, with_node}
use Rattle.spur_graph.specs.Become.{pinned, redirect, room_pinned, room_redirected}
use Rattle.spur_graph.specs.Refusals.{is_special}
use Rattle.spur_graph.specs.Room.{Room, Spot, Old, is_old, placed, spot_at}
use Rattle.spur_graph.specs.Serve.{Served, OldAlone, serve}
use Rattle.spur_graph.specs.Step.{SameRoom}
use Rattle.spur_graph.specs.Heaps.{View, IsWhole, heap_graph, heap_room}
use Rattle.spur_graph.proofs.Renaming.{itself}
use Rattle.graph_laws.specs.OutOfPlace.{CanCopy, IsNowhere, copied_out, room_copied_out}
use Rattle.graph_laws.proofs.CopyingOut.{copies_out, room_copies_out}
use Rattle.graph_laws.proofs.Rooms.{served-keeps}
use Rattle.spur_heap.specs.Views.{IsOrdinary, node_in}
use Rattle.spur_heap.proofs.NodesAt.{get_there, node_there}
use Rattle.spur_heap.proofs.RoomNames.{no_spot_without, no_old_name_without}
use Rattle.pinning.specs.Pins.{CopiesToOld, Pins}
use Rattle.pinning.proofs.Forwarding.{pinned_copy, other, graph_is}
use Rattle.pinning.proofs.Naming.{pinned_named}

-- ---- where it stood

same_room : (room : Room) → SameRoom room room (λ a. a)
same_room room = record { spots = λ a. refl; old_names = λ a. refl; rest = refl }

pub pins_here : (old new : View) (s : ℕ) (x : Value) → IsOrdinary old s → x ≡ Ref s → is_old (spot_at (heap_room old) s).space ≡ true
    → heap_graph new ≡ with_node (heap_graph old) s (record (node_in old s) { pinned = true }) → heap_room new ≡ heap_room old → IsWhole new → Pins old new (name_of x)
pins_here old new s x there named stands graph room whole =
    let old_room : Room = heap_room old in
    let still : room_pinned old_room (name_of x) ≡ Some old_room =
    ap (λ (y : Value). room_pinned old_room (name_of y)) named
    ∙ ap (λ b. cond b (Some old_room) (option_map (λ (served : Served). placed served.room s (record (spot_at old_room s) { space = Old })) (serve OldAlone old_room (spot_at old_room s).words))) stands in (
      old_room,
      still,
      record {
        whole = whole;
        place = λ a. a;
        back = λ a. a;
        graph = subst (λ (g : Graph). Iso (pinned (heap_graph old) (name_of x)) g (λ a. a) (λ a. a)) (sym (pinned_named old new s x true there named graph)) (itself (pinned (heap_graph old) (name_of x)));
        figures = subst (λ (r : Room). SameRoom old_room r (λ a. a)) (sym room) (same_room old_room);
      },
    )

-- ---- by a copy

module _ (old copied flagged new : View) (start copy : ℕ) (there : IsOrdinary old start) (c : CopiesToOld old copied start copy)
    (graph : heap_graph flagged ≡ with_node (heap_graph copied) copy (record (node_in copied copy) { pinned = true })) (ordinary : (s : ℕ) → IsOrdinary copied s → IsOrdinary flagged s)
    (closed : IsClosed (heap_graph old)) (plain : is_special (heap_graph old) start ≡ false) where
  abbrev g : Graph
  g = heap_graph old

  abbrev n : Node
  n = pinned_copy old copied flagged start copy there c graph ordinary

  abbrev spot : Spot
  spot = record (spot_at (heap_room old) start) { space = Old }

  abbrev room : Room
  room = placed c.served.room start spot

  apart : start ≢ copy
  apart = other old copied flagged start copy there c graph ordinary

  can_copy : CanCopy g start copy n
  can_copy =
      let own = or_parts (eqb start g.nil || eqb start g.no) (eqb start g.yes) plain in
      let first = or_parts (eqb start g.nil) (eqb start g.no) own.0 in
      record {
        closed = closed;
        plain = record { node = node_in old start; there = get_there old start there; no_nil = eqb-false start g.nil first.0; no_false = eqb-false start g.no first.1; no_true = eqb-false start g.yes own.1 };
        fresh = c.fresh;
        named = (closed.all_nodes start (node_in old start) (get_there old start there)).1;
      }

  -- the room of the free words tells nothing of the copy
  nowhere : IsNowhere c.served.room copy
  nowhere =
      let keep = served-keeps OldAlone (heap_room old) (spot_at (heap_room old) start).words c.served c.serves in
      record {
        spot = ap (λ spots. get spots copy) keep.spots ∙ no_spot_without old copy c.fresh;
        young = ap (λ names. contains names copy) keep.old_names ∙ no_old_name_without old copy c.fresh;
      }

  module _ (away : is_old (spot_at (heap_room old) start).space ≡ false) (forwarded : heap_graph new ≡ redirect (heap_graph flagged) start copy) (same : heap_room flagged ≡ heap_room copied)
      (moved : heap_room new ≡ room_redirected (heap_room flagged) start copy) (whole : IsWhole new) where
    served : room_pinned (heap_room old) start ≡ Some room
    served =
        ap (λ b. cond b (Some (heap_room old)) (option_map (λ (s : Served). placed s.room start spot) (serve OldAlone (heap_room old) (spot_at (heap_room old) start).words))) away
        ∙ ap (option_map (λ (s : Served). placed s.room start spot)) c.serves

    graph_new : heap_graph new ≡ copied_out g start copy n
    graph_new = forwarded ∙ ap (λ (h : Graph). redirect h start copy) (graph_is old copied flagged start copy there c graph ordinary)

    graph_old : with_node g start n ≡ pinned g start
    graph_old = ap (λ (m : Node). with_node g start (record m { pinned = true })) (sym (node_there old start there))

    room_new : heap_room new ≡ room_copied_out c.served.room start copy spot
    room_new = moved ∙ ap (λ (r : Room). room_redirected r start copy) (same ∙ c.room)

    pub pins_copy : Pins old new start
    pins_copy =
        let p : ℕ → ℕ = swapped start copy in (
          room,
          served,
          record {
            whole = whole;
            place = p;
            back = p;
            graph = subst (λ (h : Graph). Iso h (heap_graph new) p p) graph_old (subst (λ (h : Graph). Iso (with_node g start n) h p p) (sym graph_new) (copies_out g start copy n can_copy));
            figures = subst (λ (r : Room). SameRoom room r p) (sym room_new) (room_copies_out c.served.room start copy spot apart nowhere);
          },
        )
