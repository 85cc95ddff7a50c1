-- What a marking without an excepted name leaves: exactly the live objects are marked, and the internal ones.
use Rattle.std.proofs.Common.{◌≡◌, ℕ, true, false, ◌&&◌, [], map, sym, ap, ◌∙◌, subst, inl, inr, Some, None}
use Rattle.std.proofs.lemmas.Bool.{false≢true, and_parts, cases_Bool}
use Rattle.std.proofs.lemmas.Option.{none-some}
use Rattle.std.specs.Cmp.{nat_cmp_total}
use Rattle.std.specs.FinMap.{get, get-from_entries}
use Rattle.spur_graph.specs.Node.{Node}
use Rattle.spur_graph.specs.Graph.{IsClosed}
use Rattle.spur_graph.specs.Live.{Live, none}
use Rattle.spur_graph.specs.Cells.{Store}
use Rattle.spur_graph.specs.Ordinary.{body_at, is_ordinary, ordinary_starts}
use Rattle.spur_graph.specs.CellGraph.{node_of, nodes_of}
use Rattle.spur_graph.specs.Heaps.{View, heap_graph, is_marked, own_name, store_of}
use Rattle.heap_cells.proofs.Members.{filter_in}
use Rattle.spur_heap.specs.MarkBits.{marks}
use Rattle.spur_heap.specs.Views.{IsOrdinary, store}
use Rattle.spur_heap.proofs.Keys.{find-absent}
use Rattle.marker.specs.Finished.{IsMarkedWhole}
use Rattle.marker.specs.Followed.{AreFollowed}
use Rattle.marker.specs.Marked.{AreInternalMarked, IsFound}
use Rattle.marker.specs.Visits.{AreBare}
use Rattle.full_collection.proofs.LiveNames.{live_there}

-- what has a node is ordinary
node_ordinary : (v : View) (a : ℕ) (n : Node) → get (heap_graph v).nodes a ≡ Some n → is_ordinary (store_of v) a ≡ true
unfolding nodes_of ordinary_starts
node_ordinary v a n is = elim (cases_Bool (is_ordinary h a)) [
  | inl on ↦ on
  | inr off ↦ absurd (none-some n (sym (get-from_entries nat_cmp_total (map (λ s. (s, node_of own_name h (body_at h s))) (ordinary_starts h)) a
      ∙ find-absent (λ s. node_of own_name h (body_at h s)) (ordinary_starts h) a (λ m. false≢true (sym off ∙ (filter_in (is_ordinary h) h.starts a m).1))) ∙ is))
]
  where
    h : Store
    h = store_of v

module _ (old new : View) (closed : IsClosed (heap_graph new)) (graph : heap_graph new ≡ heap_graph old)
    (sound : (t : ℕ) → IsOrdinary new t → is_marked new.words t ≡ true → IsFound old None t) (complete : (t : ℕ) → IsFound old None t → is_marked new.words t ≡ true) where
  lives : (a : ℕ) → marks new a ≡ true → Live (heap_graph new) none a
  lives a on =
      let both = and_parts (is_ordinary (store new) a) (is_marked new.words a) on in
      elim (sound a both.0 both.1) [
        | inl live ↦ subst (λ g. Live g none a) (sym graph) live
        | inr excepted ↦ absurd (false≢true excepted)
      ]

  marked : (a : ℕ) → Live (heap_graph new) none a → marks new a ≡ true
  marked a live =
      let n = live_there (heap_graph new) closed a live in
      let on : is_marked new.words a ≡ true = complete a (inl (subst (λ g. Live g none a) graph live)) in
      λ x. node_ordinary new a n.0 n.1 x && on x

  pub marked_whole : AreInternalMarked new → AreBare new → AreFollowed new → new.stack ≡ [] → IsMarkedWhole new
  marked_whole inner bare followed empty = record {
    exact = record { sound = lives; whole = marked };
    through = record { inner = inner; bare = bare; followed = followed; empty = empty };
  }
