-- An ephemeron fires.
use Rattle.std.proofs.Common.{true, false, cond, ◌≡◌, ℕ, Bool, List, get_or, nat_eq, refl, sym, ap, ◌∙◌, arith, inl, inr}
use Rattle.std.proofs.lemmas.Bool.{cases_eq, eq-eqb, false_from_ne_true}
use Rattle.std.proofs.lemmas.List.{get_or-set_other}
use Rattle.object_header.specs.Field.{SetsField, with_field}
use Rattle.object_header.specs.Fields.{fields_of}
use Rattle.object_header.proofs.Fields.{SetsField-with_field}
use Rattle.spur_graph.specs.Node.{Node}
use Rattle.spur_graph.specs.Refusals.{waits}
use Rattle.spur_graph.specs.Graph.{Graph, with_node}
use Rattle.spur_graph.specs.Cells.{Body, is_moved, is_there}
use Rattle.spur_graph.specs.Ordinary.{is_good_word, is_ordinary, ordinary_starts}
use Rattle.spur_graph.specs.Heaps.{View, IsWhole, heap_graph, heap_room, heap_value, is_marked}
use Rattle.spur_heap.specs.Heading.{CanHead}
use Rattle.spur_heap.specs.Mourning.{added, retired_word}
use Rattle.spur_heap.specs.Remembering.{after}
use Rattle.spur_heap.specs.Views.{IsOrdinary, node_in, store}
use Rattle.spur_heap.proofs.Changing.{swap_of}
use Rattle.spur_heap.proofs.Flagged.{can_retire}
use Rattle.spur_heap.proofs.Headed.{body, change, headed_store}
use Rattle.spur_heap.proofs.InPlace.{changed}
use Rattle.spur_heap.proofs.Headers.{header_read}
use Rattle.spur_heap.proofs.Mourned.{waits_fired}
use Rattle.spur_heap.proofs.Puts.{body_is, fields_are, object, whole_sound}
use Rattle.weak_ephemeron.specs.Stays.{Stays}
use Rattle.weak_ephemeron.specs.Steps.{FiresOne, HasNodeAt}
use Rattle.weak_ephemeron.proofs.Staying.{node_other, nodes_by_graph, stays_changed, stays_then}

retired_fields : (word : ℕ) → fields_of (retired_word word) ≡ record (fields_of word) { format = 1 }
retired_fields word =
    let f : SetsField 24 5 word 1 (with_field 24 5 word 1) = SetsField-with_field word 24 5 1 (omega arith) in
    λ x. record {
      count = f.others 56 8 (inr (omega arith)) x;
      marked = f.others 55 1 (inr (omega arith)) x;
      hash = f.others 32 22 (inr (omega arith)) x;
      grey = f.others 31 1 (inr (omega arith)) x;
      pinned = f.others 30 1 (inr (omega arith)) x;
      remembered = f.others 29 1 (inr (omega arith)) x;
      format = f.reads x;
      readonly = f.others 23 1 (inl (omega arith)) x;
      class = f.others 0 22 (inl (omega arith)) x;
    }

module _ (v : View) (whole : IsWhole v) (s : ℕ) (there : IsOrdinary v s) (five : (node_in v s).format ≡ 5) where
  abbrev word : ℕ
  word = get_or v.words s 0

  abbrev w : ℕ
  w = retired_word word

  read_format : (fields_of word).format ≡ 5
  read_format = sym (ap (λ (b : Body). b.format) (body_is v whole s there)) ∙ sym (fields_are v whole s there).format ∙ five

  can : CanHead v s w
  can = can_retire v s w word refl (omega (arith, read_format)) refl (retired_fields word)

  -- the header alone is written
  header_marks : (t : ℕ) → is_marked (after v s w).words t ≡ is_marked v.words t
  header_marks t = elim (cases_eq t s) [
    | inl e ↦
        ap (λ u. nat_eq (fields_of (get_or (after v s w).words u 0)).marked 1) e
        ∙ ap (λ x. nat_eq (fields_of x).marked 1) (header_read v (whole_sound v whole) s (object v whole s there) w)
        ∙ ap (λ m. nat_eq m 1) can.marked
        ∙ ap (is_marked v.words) (sym e)
    | inr n ↦ ap (λ x. nat_eq (fields_of x).marked 1) (get_or-set_other v.words s t w 0 n)
  ]

  module _ (a : View) (is : a ≡ after v s w) (graph : heap_graph a ≡ with_node (heap_graph v) s (record (node_in v s) { format = 1 })) (room : heap_room a ≡ heap_room v) where
    store_then : store a ≡ changed (store v) s (body v whole s there w can)
    store_then = ap (λ (x : View). store x) is ∙ headed_store v whole s there w can

    retired_stays : Stays v a
    retired_stays =
        stays_changed v a (swap_of (change v whole s there w can)) refl store_then (graph ∙ (λ x. record (heap_graph v) { nodes = (sym graph x).nodes; mourners = (sym graph x).mourners })) room
        (λ t e. ap (λ (x : View). is_marked x.words t) is ∙ header_marks t)
        (is ∙ (λ x. record v { words = (sym is x).words; mourners = (sym is x).mourners }))

    retired_nodes : HasNodeAt s (record (node_in v s) { format = 1 }) v a
    retired_nodes =
        nodes_by_graph v a s (record (node_in v s) { format = 1 }) there retired_stays (graph ∙ (λ x. record (with_node (heap_graph v) s (record (node_in v s) { format = 1 })) { mourners = (sym graph x).mourners }))
        (node_other v a (swap_of (change v whole s there w can)) refl store_then)

    pub retired_there : IsOrdinary a s
    retired_there = retired_stays.ordinary s ∙ there

    pub retired_format : (node_in a s).format ≡ 1
    retired_format = ap (λ (n : Node). n.format) (retired_nodes s) ∙ ap (λ b. (cond b (record (node_in v s) { format = 1 }) (node_in v s)).format) (eq-eqb s s refl)

    -- what has fired mourns, and an ephemeron has not
    pub retired_absent : waits (heap_graph a) s ≡ false
    retired_absent =
        ap (λ (g : Graph). waits g s) graph
        ∙ false_from_ne_true _ (λ on. let one = waits_fired v whole.mourners s on in let e = (fields_are v whole s there).format in omega (arith, one, e, five))

    -- and it mourns
    pub fires_one : (first : Bool) (c : View) → c ≡ record a { mourners = added a.mourners s first } → heap_graph c ≡ record (heap_graph a) { mourners = added (heap_graph a).mourners s first } → heap_room c ≡ heap_room a → FiresOne s first v c
    fires_one first c rest graph' room' =
        let groups : a.mourners ≡ v.mourners = ap (λ (x : View). x.mourners) is in
        let names : (heap_graph a).mourners ≡ (heap_graph v).mourners = ap (λ (g : Graph). g.mourners) graph in
        let joined : Stays a c = mourns a c (added a.mourners s first) rest (graph' ∙ (λ x. record (heap_graph a) { nodes = (sym graph' x).nodes; mourners = (sym graph' x).mourners })) room' in
        record {
          stays = stays_then retired_stays joined;
          nodes = λ t. ap (λ (x : View). node_in x t) rest ∙ retired_nodes t;
          mourners = ap (λ (g : Graph). g.mourners) graph' ∙ ap (λ gs. added gs s first) names;
          table = ap (λ (x : View). x.mourners) rest ∙ ap (λ gs. added gs s first) groups;
        }
      where
        -- where other mourners are all that changes
        mourns : (a c : View) (groups : List (List ℕ)) → c ≡ record a { mourners = groups } → heap_graph c ≡ record (heap_graph a) { nodes = (heap_graph c).nodes; mourners = (heap_graph c).mourners } → heap_room c ≡ heap_room a → Stays a c
        mourns a c groups rest graph room = record {
          graph = graph;
          room = room;
          values = λ x. ap (λ (y : View). heap_value y x) rest;
          goods = λ x. ap (λ (y : View). is_good_word (store y) x) rest;
          ordinary = λ t. ap (λ (y : View). is_ordinary (store y) t) rest;
          objects = λ t. ap (λ (y : View). is_there ((store y).cell t)) rest;
          forwarders = λ t. ap (λ (y : View). is_moved ((store y).cell t)) rest;
          starts = ap (λ (y : View). ordinary_starts (store y)) rest;
          marks = λ t e. ap (λ (y : View). is_marked y.words t) rest;
          rest = rest ∙ (λ x. record a { words = (sym rest x).words; mourners = (sym rest x).mourners });
        }
