-- A copy in old space: an object that was made to be filled can take the contents of an object of new space, and then is its copy.
use Rattle.std.proofs.Common.{◌≡◌, ◌≢◌, ℕ, true, false, cond, not, ◌&&◌, ◌<◌, eqb, ltb, length, get_or, refl, sym, ap, ◌∙◌, subst, Option, Some, None}
use Rattle.std.proofs.lemmas.Bool.{eqb-true, ltb-true, false_from_ne_true}
use Rattle.std.proofs.lemmas.List.Folds.{list_any_none}
use Rattle.std.proofs.lemmas.Option.{none-some, same_Some}
use Rattle.std.specs.List.{find}
use Rattle.std.specs.Option.{option_map, unwrap_or}
use Rattle.std.specs.Cmp.{nat_cmp_total}
use Rattle.std.specs.FinMap.{get, get-insert}
use Rattle.spur_graph.specs.Node.{Node}
use Rattle.spur_graph.specs.Graph.{Graph, IsClosed, waiting, with_node}
use Rattle.spur_graph.specs.Room.{Room, Space, Spot, Old, no_spot, fresh_spot, fresh_words, is_old, placed, spot_at}
use Rattle.spur_graph.specs.Serve.{Served, OldAlone, serve}
use Rattle.spur_graph.specs.FreeSizes.{fits, shortened}
use Rattle.spur_graph.specs.Instances.{has_entered, is_entry}
use Rattle.spur_graph.specs.Refusals.{waits}
use Rattle.spur_graph.specs.Heaps.{View, IsWhole, heap_graph, heap_room}
use Rattle.graph_laws.proofs.CopyingOut.{tied}
use Rattle.spur_heap.specs.declared.allocation.TheConstants.{BLANK_CLASS, BLANK_FORMAT}
use Rattle.spur_heap.specs.Allocating.{Makes}
use Rattle.spur_heap.specs.Exchanging.{CanTake}
use Rattle.spur_heap.specs.Pairing.{blank_node}
use Rattle.spur_heap.specs.Views.{IsOrdinary, node_in}
use Rattle.spur_heap.specs.Words.{body_in}
use Rattle.spur_heap.proofs.NodesAt.{node_there}
use Rattle.spur_heap.proofs.SpotsAt.{old_told}
use Rattle.pinning.specs.Pins.{CopiesToOld}
use Rattle.pinning.proofs.Naming.{apart_from, node_kept, written_twice}
use Rattle.pinning.proofs.SlotCounts.{slots_in_node, slots_blank, slots_told}
use Rattle.pinning.proofs.Young.{young_mobile}

-- a name without a node waits nowhere
pub awake : (g : Graph) → IsClosed g → (a : ℕ) → get g.nodes a ≡ None → waits g a ≡ false
awake g closed a none = list_any_none (eqb a) (waiting g) (λ i d l. false_from_ne_true _ (λ t.
    let f = closed.fired i d l in
    none-some f.0 (sym none ∙ ap (get g.nodes) (eqb-true a (get_or (waiting g) i d) t) ∙ f.1)))

-- old space serves where it alone is asked
old_serves : (room : Room) (n : ℕ) (served : Served) → serve OldAlone room n ≡ Some served → served.space ≡ Old
unfolding serve
old_serves room n served e = by (find (fits n) room.free) e
  where
    cut : ℕ → Served
    cut size = record { space = Old; room = record room { free = shortened n size room.free } }

    by : (o : Option ℕ) → option_map cut o ≡ Some served → served.space ≡ Old
    by None e = absurd (none-some served e)
    by (Some size) e = ap (λ (x : Served). x.space) (sym (same_Some (cut size) served e))

module _ (old mid : View) (start copy slots : ℕ) (whole : IsWhole old) (closed : IsClosed (heap_graph old)) (there : IsOrdinary old start)
    (made : Makes old mid OldAlone BLANK_CLASS BLANK_FORMAT slots copy) where
  abbrev blank : Node
  blank = blank_node (heap_graph old) slots

  other : start ≢ copy
  other = apart_from old start copy there made.fresh

  source_kept : node_in mid start ≡ node_in old start
  source_kept = node_kept old mid copy start blank made.graph other there (made.ordinary start there)

  unentered : has_entered (heap_graph mid) copy ≡ false
  unentered = ap (λ (n : Node). not (eqb n.hash 0) && is_entry copy (get (heap_graph mid).classes n.hash)) (node_there mid copy made.there ∙ made.node)

  asleep : waits (heap_graph mid) copy ≡ false
  asleep = ap (λ (g : Graph). waits g copy) made.graph ∙ awake (heap_graph old) closed copy made.fresh

  pub can_take : IsWhole mid → ltb start old.spaces.old_end ≡ false → slots ≡ length (body_in old start).words → CanTake mid start copy
  can_take good away count = record {
    apart = other;
    slots =
        slots_in_node mid good start (made.ordinary start there) ∙ ap slots_told source_kept ∙ sym (slots_in_node old whole start there)
        ∙ sym count ∙ sym (slots_blank (heap_graph old) slots)
        ∙ sym (slots_in_node mid good copy made.there ∙ ap slots_told made.node);
    mobile = ap (λ (n : Node). n.pinned) source_kept ∙ young_mobile old whole start there away;
    unentered = unentered;
    awake = asleep;
  }

  -- ---- the copy

  module _ (young : is_old (spot_at (heap_room old) start).space ≡ false) (spot : ◌≡◌ {A = Spot} (record (spot_at (heap_room old) start) { space = Old }) (fresh_spot Old slots)) where
    words : fresh_words slots ≡ (spot_at (heap_room old) start).words
    words = sym (ap (λ (x : Spot). x.words) spot)

    space : made.served.space ≡ Old
    space = old_serves (heap_room old) (fresh_words slots) made.served made.serves

    room : heap_room mid ≡ placed made.served.room copy (record (spot_at (heap_room old) start) { space = Old })
    room = made.room ∙ ap (λ (x : Space). placed made.served.room copy (fresh_spot x slots)) space ∙ ap (placed made.served.room copy) (sym spot)

    stands_old : is_old (spot_at (heap_room mid) copy).space ≡ true
    stands_old =
        let x : Spot = record (spot_at (heap_room old) start) { space = Old } in
        ap (λ (q : Room). is_old (spot_at q copy).space) room
        ∙ ap (λ o. is_old (unwrap_or o no_spot).space) (get-insert nat_cmp_total made.served.room.spots copy x copy ∙ ap (λ b. cond b (Some x) (get made.served.room.spots copy)) (tied copy copy refl))

    spaces : mid.spaces ≡ old.spaces
    spaces = made.spaces (ap is_old space)

    pub copied : IsWhole mid → (new : View) (hash : ℕ) → hash ≡ (node_in old start).hash
        → heap_graph new ≡ with_node (heap_graph mid) copy (record (node_in mid start) { hash = hash }) → heap_room new ≡ heap_room mid → ((t : ℕ) → IsOrdinary mid t → IsOrdinary new t) → new ≡ record mid { words = new.words }
        → CopiesToOld old new start copy
    copied good new hash own graph same ordinary rest = record {
      served = made.served;
      serves = ap (serve OldAlone (heap_room old)) (sym words) ∙ made.serves;
      fresh = made.fresh;
      graph = graph ∙ (λ i. with_node (made.graph i) copy (record (source_kept i) { hash = own i })) ∙ written_twice (heap_graph old) copy blank (node_in old start);
      room = same ∙ room;
      there = ordinary copy made.there;
      low =
          let low : copy < mid.spaces.old_end = ltb-true copy mid.spaces.old_end (old_told mid good copy made.there ∙ stands_old) in
          subst (λ (v : View). copy < v.spaces.old_end) (sym rest) low;
      ordinary = λ t on. ordinary t (made.ordinary t on);
      rest = rest ∙ ap (λ (v : View). let w : View = record v { words = new.words } in w) (made.rest ∙ ap (λ p. let w : View = record old { words = mid.words; spaces = p } in w) spaces);
    }
