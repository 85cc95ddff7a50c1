-- After the rounds and the nils the internal objects are marked and all words are followed.
use Rattle.std.proofs.Common.{◌≡◌, ℕ, Bool, true, false, not, ◌&&◌, ◌<◌, cond, nat_lt, length, refl, sym, ap, ◌∙◌, subst, inl, inr}
use Rattle.std.proofs.lemmas.Bool.{cases_Bool, and_parts, not-true, lt-ltb}
use Rattle.std.specs.FinMap.{retain_keys}
use Rattle.spur_graph.specs.Live.{Live, none}
use Rattle.spur_graph.specs.Rounds.{Decides, map_nodes, nils, swept, without_dead}
use Rattle.spur_graph.specs.Cells.{Store, is_moved, is_there}
use Rattle.spur_graph.specs.CellGraph.{node_of}
use Rattle.spur_graph.specs.Ordinary.{body_at, is_internal, is_ordinary}
use Rattle.spur_graph.specs.Heaps.{View, IsWhole, heap_graph, is_marked, marked_graph, own_name}
use Rattle.heap_cells.proofs.CellKinds.{there_starts}
use Rattle.heap_cells.proofs.Internals.{internal_there}
use Rattle.heap_cells.proofs.References.{ordinary_there}
use Rattle.heap_cells.proofs.WholeClosed.{sound_loadable}
use Rattle.spur_heap.specs.Following.{Follows}
use Rattle.spur_heap.specs.MarkBits.{MarksThose, marks}
use Rattle.spur_heap.specs.Views.{IsOrdinary, node_in, store}
use Rattle.spur_heap.proofs.Starting.{start_below}
use Rattle.weak_ephemeron.proofs.Staying.{stays_marks}
use Rattle.marker.specs.Finished.{Finishes, IsMarkedThrough, IsMarkedWhole}
use Rattle.marker.specs.Firing.{NilsBelow, Rounded}
use Rattle.marker.specs.Followed.{AreFollowed}
use Rattle.marker.specs.Marked.{AreInternalMarked}
use Rattle.marker.specs.Visits.{AreBare}
use Rattle.spur_heap.proofs.FollowedWords.{follows_same}
use Rattle.marker.proofs.FollowedHeaps.{follows_bare, follows_internal, follows_marks}
use Rattle.marker.proofs.MournersKept.{mourners_kept}
use Rattle.marker.proofs.NilledHeaps.{nils_long}
use Rattle.marker.proofs.NodeMaps.{nodes_kept}
use Rattle.marker.proofs.Rounding.{stays_bare}
use Rattle.marker.proofs.Visiting.{no_forwarder}

module _ (v : View) (marked : IsMarkedWhole v) (fired : ℕ) (b : View) (r : Rounded v fired b) (whole_b : IsWhole b) (nilled : ℕ) (c : View) (n : NilsBelow (length b.words) b c) (count : nilled ≡ nils (marks b) (heap_graph b)) (whole_c : IsWhole c)
    (d : View) (m : MarksThose (is_internal (store c)) c d) (e : View) (f : Follows d e) (all : AreFollowed e) (whole_e : IsWhole e) where
  ordinary_d : (t : ℕ) → is_ordinary (store d) t ≡ is_ordinary (store c) t
  ordinary_d t = ap (λ (h : Store). is_ordinary h t) m.store

  marks_d : (t : ℕ) → marks d t ≡ marks c t
  marks_d t = ap (λ o. o && is_marked d.words t) (ordinary_d t) ∙ bits (is_ordinary (store c) t) refl
    where
      bits : (o : Bool) → is_ordinary (store c) t ≡ o → (o && is_marked d.words t) ≡ (o && is_marked c.words t)
      bits false is = refl
      bits true is = m.others t (not-true (is_internal (store c) t) (and_parts (is_there ((store c).cell t)) (not (is_internal (store c) t)) is).1)

  marks_e : (t : ℕ) → marks e t ≡ marks b t
  marks_e t = follows_marks f t ∙ marks_d t ∙ stays_marks n.stays t

  same_marks : ◌≡◌ {A = ℕ → Bool} (marks e) (marks b)
  same_marks i t = marks_e t i

  bare_d : AreBare c → AreBare d
  bare_d bare s moved =
      let was : is_moved ((store c).cell s) ≡ true = ap (λ (h : Store). is_moved (h.cell s)) (sym m.store) ∙ moved in
      elim (cases_Bool (is_internal (store c) s)) [
        | inl on ↦ absurd (no_forwarder ((store c).cell s) (internal_there (store c) (sound_loadable (store c) whole_c.sound) s on) was)
        | inr off ↦ m.others s off ∙ bare s was
      ]

  inner_d : AreInternalMarked d
  inner_d s on = m.inner s (ap (λ (h : Store). is_internal h s) (sym m.store) ∙ on)

  through : IsMarkedThrough e
  through = record {
    inner = follows_internal f whole_e inner_d;
    bare = follows_bare f (bare_d (stays_bare n.stays (r.bare marked.through.bare)));
    followed = all;
    empty = ap (λ (u : View). u.stack) f.rest ∙ ap (λ (u : View). u.stack) m.rest ∙ ap (λ (u : View). u.stack) n.stays.rest ∙ ap (λ (u : View). u.stack) r.rest ∙ marked.through.empty;
  }

  -- ---- the graph

  ordinary_e : (t : ℕ) → is_ordinary (store e) t ≡ is_ordinary (store b) t
  ordinary_e t = f.ordinary t ∙ ordinary_d t ∙ n.stays.ordinary t

  same_bits : (t : ℕ) → IsOrdinary b t → is_marked e.words t ≡ marks b t
  same_bits t on = ap (λ o. o && is_marked e.words t) (sym (ordinary_e t ∙ on)) ∙ marks_e t

  -- a marked object has its node without the dead names
  node_e : (t : ℕ) → IsOrdinary b t → marks b t ≡ true → node_in e t ≡ without_dead (heap_graph b) (marks b) (node_in b t)
  node_e t there on =
      let starts = there_starts ((store c).cell t) (ordinary_there (store c) t (n.stays.ordinary t ∙ there)) in
      let low = subst (λ k. t < k) (nils_long (length b.words) b c n) (start_below c whole_c t starts) in
      let test : (marks b t && nat_lt t (length b.words)) ≡ true = λ i. on i && lt-ltb t (length b.words) low i in
      f.nodes t
      ∙ ap (λ (h : Store). node_of own_name h (body_at h t)) m.store
      ∙ n.nodes t
      ∙ ap (λ o. cond o (without_dead (heap_graph b) (marks b) (node_in b t)) (node_in b t)) test

  nodes_e : retain_keys (heap_graph e).nodes (is_marked e.words) ≡ map_nodes (λ t x. without_dead (heap_graph b) (marks b) x) (retain_keys (heap_graph b).nodes (marks b))
  nodes_e = nodes_kept b e ordinary_e (λ t x. without_dead (heap_graph b) (marks b) x) (marks b) (is_marked e.words) same_bits node_e

  graph_swept : marked_graph e ≡ swept (marks e) (heap_graph b)
  graph_swept =
      let groups = mourners_kept b c whole_b whole_c n.stays.values n.table in
      let rest : heap_graph e ≡ record (heap_graph b) { nodes = (heap_graph c).nodes } =
      f.graph ∙ m.graph ∙ n.stays.graph ∙ (λ i. record (heap_graph b) { nodes = (heap_graph c).nodes; mourners = groups i }) in
      (λ i. record (rest i) { nodes = nodes_e i }) ∙ ap (λ (l : ℕ → Bool). swept l (heap_graph b)) (sym same_marks)

  pub finishes : Finishes v nilled fired e
  finishes = record {
    mid = heap_graph b;
    rounds = r.rounds;
    exact = subst (λ (l : ℕ → Bool). Decides l (Live (heap_graph b) none)) (sym same_marks) r.exact;
    graph = graph_swept;
    count = count ∙ ap (λ (l : ℕ → Bool). nils l (heap_graph b)) (sym same_marks);
    room = f.room ∙ m.room ∙ n.stays.room ∙ r.room;
    through = through;
    rest =
        f.rest
        ∙ ap (λ (u : View). record u { words = e.words; special = e.special; handles = e.handles; mourners = e.mourners }) m.rest
        ∙ ap (λ (u : View). record u { words = e.words; special = e.special; handles = e.handles; mourners = e.mourners }) n.stays.rest
        ∙ ap (λ (u : View). record u { words = e.words; special = e.special; handles = e.handles; mourners = e.mourners }) r.rest;
  }

-- where nothing fired and no slot became nil, all stands as it did
pub finishes_idle : (v : View) → IsMarkedWhole v → (fired : ℕ) (b : View) → Rounded v fired b → IsWhole b → (nilled : ℕ) (c : View) → NilsBelow (length b.words) b c → nilled ≡ nils (marks b) (heap_graph b) → IsWhole c
    → fired ≡ 0 → c ≡ b → Finishes v nilled fired c
finishes_idle v marked fired b r whole_b nilled c n count whole_c none same =
    let was : c ≡ v = same ∙ r.idle none in
    let internal : MarksThose (is_internal (store c)) c c = record { rest = refl; store = refl; graph = refl; room = refl; inner = subst (λ (u : View). AreInternalMarked u) (sym was) marked.through.inner; others = λ s e. refl } in
    finishes v marked fired b r whole_b nilled c n count whole_c c internal c (follows_same c) (subst (λ (u : View). AreFollowed u) (sym was) marked.through.followed) whole_c
