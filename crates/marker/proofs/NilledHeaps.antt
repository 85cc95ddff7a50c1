-- Weak slots become nil, in a walk over the starts of a heap, and are counted.
use Rattle.std.proofs.Common.{◌≡◌, ℕ, zero, suc, Bool, true, false, cond, ◌==◌, ◌&&◌, ◌<◌, ◌≤◌, nat_lt, List, [], ◌∷◌, ◌++◌, map, take, drop, length, refl, sym, ap, ◌∙◌, inl, inr, arith, Option, Some, None}
use Rattle.std.proofs.lemmas.Bool.{cases_lt, and_parts, lt-ltb, le-ltb}
use Rattle.std.specs.Prelude.{slice_get}
use Rattle.std.specs.Option.{unwrap_or}
use Rattle.std.specs.List.{count_by, sum_by}
use Rattle.std.specs.FinMap.{entries, get}
use Rattle.spur_graph.specs.declared.answer.Value.{Value}
use Rattle.spur_graph.specs.declared.answer.Value.TheVariants.{Int, Char, Float, Ref}
use Rattle.spur_graph.specs.Node.{Node}
use Rattle.spur_graph.specs.Graph.{Graph, blank, node}
use Rattle.spur_graph.specs.Live.{fixed_in, fixed_of, strong_count, weak_values}
use Rattle.spur_graph.specs.Rounds.{names_dead, without_dead}
use Rattle.spur_graph.specs.Ordinary.{is_ordinary}
use Rattle.spur_graph.specs.Heaps.{View, heap_graph, is_marked}
use Rattle.heap_cells.proofs.CellKinds.{there_starts}
use Rattle.heap_cells.proofs.References.{ordinary_there}
use Rattle.spur_heap.specs.MarkBits.{StartsAt, marks}
use Rattle.spur_heap.specs.Views.{node_in, store}
use Rattle.spur_heap.proofs.NodesAt.{node_there}
use Rattle.weak_ephemeron.specs.Steps.{without_name}
use Rattle.weak_ephemeron.proofs.Staying.{stays_marks, stays_same}
use Rattle.marker.specs.Firing.{NilsBelow, nils_below}
use Rattle.marker.proofs.NodeMaps.{get_absent}

-- ---- how many slots are strong stays

-- a value that becomes nil tells no number, before or after
module _ (g : Graph) (live : ℕ → Bool) where
  abbrev nilled : Value → Value
  nilled v = without_name g live v

  fixed_nilled : (v : Value) → fixed_in (Some (nilled v)) ≡ fixed_in (Some v)
  fixed_nilled (Int n) = refl
  fixed_nilled (Char c) = refl
  fixed_nilled (Float w) = refl
  fixed_nilled (Ref a) = by (names_dead live (Ref a))
    where
      by : (b : Bool) → fixed_in (Some (cond b (Ref g.nil) (Ref a))) ≡ 0
      by true = refl
      by false = refl

  fixed_mapped : (vs : List Value) (j : ℕ) → fixed_in (slice_get (map nilled vs) j) ≡ fixed_in (slice_get vs j)
  fixed_mapped [] j = refl
  fixed_mapped (v ∷ vs) zero = fixed_nilled v
  fixed_mapped (v ∷ vs) (suc j) = fixed_mapped vs j

  fixed_split : (k : ℕ) (vs : List Value) (j : ℕ) → fixed_in (slice_get (take k vs ++ map nilled (drop k vs)) j) ≡ fixed_in (slice_get vs j)
  fixed_split zero vs j = fixed_mapped vs j
  fixed_split (suc k) [] j = refl
  fixed_split (suc k) (v ∷ vs) zero = refl
  fixed_split (suc k) (v ∷ vs) (suc j) = fixed_split k vs j

  fixed_without : (n : Node) → fixed_in (slice_get (without_dead g live n).pointers 2) ≡ fixed_in (slice_get n.pointers 2)
  fixed_without n = by (n.format == 4)
    where
      by : (b : Bool) → fixed_in (slice_get (cond b (record n { pointers = take (strong_count g n) n.pointers ++ map nilled (cond b (drop (strong_count g n) n.pointers) []) }) n).pointers 2) ≡ fixed_in (slice_get n.pointers 2)
      by true = fixed_split (strong_count g n) n.pointers 2
      by false = refl

-- ---- a walk so far

never_below : (t : ℕ) → nat_lt t 0 ≡ false
never_below t = le-ltb t 0 (omega arith)

pub unless : (x y : Bool) → y ≡ false → (x && y) ≡ false
unless true y off = off
unless false y off = refl

pub nils_none : (v : View) → NilsBelow 0 v v
nils_none v = record {
  stays = stays_same v;
  nodes = λ t. sym (ap (λ b. cond b (without_dead (heap_graph v) (marks v) (node_in v t)) (node_in v t)) (unless (marks v t) (nat_lt t 0) (never_below t)));
  table = refl;
}

module _ (i : ℕ) (a b : View) (x : NilsBelow i a b) where
  pub nils_long : length b.words ≡ length a.words
  nils_long = ap (λ (g : Graph). g.next) x.stays.graph

  abbrev test : ℕ → Bool
  test t = marks a t && nat_lt t i

  class_same : (c : ℕ) → fixed_in (slice_get (node (heap_graph b) c).pointers 2) ≡ fixed_in (slice_get (node (heap_graph a) c).pointers 2)
  class_same c = by (is_ordinary (store a) c) refl
    where
      changed : (o : Bool) → fixed_in (slice_get (cond o (without_dead (heap_graph a) (marks a) (node_in a c)) (node_in a c)).pointers 2) ≡ fixed_in (slice_get (node_in a c).pointers 2)
      changed true = fixed_without (heap_graph a) (marks a) (node_in a c)
      changed false = refl

      by : (o : Bool) → is_ordinary (store a) c ≡ o → fixed_in (slice_get (node (heap_graph b) c).pointers 2) ≡ fixed_in (slice_get (node (heap_graph a) c).pointers 2)
      by true on =
          ap (λ (n : Node). fixed_in (slice_get n.pointers 2)) (node_there b c (x.stays.ordinary c ∙ on) ∙ x.nodes c)
          ∙ changed (test c)
          ∙ ap (λ (n : Node). fixed_in (slice_get n.pointers 2)) (sym (node_there a c on))
      by false off =
          let was : node (heap_graph b) c ≡ node (heap_graph a) c = ap (λ o. unwrap_or o blank) (get_absent b c (x.stays.ordinary c ∙ off) ∙ sym (get_absent a c off)) in
          ap (λ (n : Node). fixed_in (slice_get n.pointers 2)) was

  fixed_same : (o : Option Value) → fixed_of (heap_graph b) o ≡ fixed_of (heap_graph a) o
  fixed_same None = refl
  fixed_same (Some (Int n)) = refl
  fixed_same (Some (Char c)) = refl
  fixed_same (Some (Float w)) = refl
  fixed_same (Some (Ref c)) = class_same c

  strong_same : (n : Node) → strong_count (heap_graph b) n ≡ strong_count (heap_graph a) n
  strong_same n =
      ap (λ (g : Graph). cond (n.format == 4) (fixed_of (heap_graph b) (get g.classes n.class)) (length n.pointers)) x.stays.graph
      ∙ (λ y. cond (n.format == 4) (fixed_same (get (heap_graph a).classes n.class) y) (length n.pointers))

  weak_same : (n : Node) → weak_values (heap_graph b) n ≡ weak_values (heap_graph a) n
  weak_same n y = cond (n.format == 4) (drop (strong_same n y) n.pointers) []

  pub marks_same : ◌≡◌ {A = ℕ → Bool} (marks b) (marks a)
  marks_same y t = stays_marks x.stays t y

  pub without_same : (n : Node) → without_dead (heap_graph b) (marks b) n ≡ without_dead (heap_graph a) (marks a) n
  without_same n y =
      cond (n.format == 4)
      (record n { pointers = take (strong_same n y) n.pointers ++ map (λ v. cond (names_dead (marks_same y) v) (Ref (x.stays.graph y).nil) v) (weak_same n y) })
      n

  -- an object that is still to come is as it was
  pub node_to_come : (s : ℕ) → i ≤ s → node_in b s ≡ node_in a s
  node_to_come s from = x.nodes s ∙ ap (λ o. cond o (without_dead (heap_graph a) (marks a) (node_in a s)) (node_in a s)) (unless (marks a s) (nat_lt s i) (le-ltb s i from))

  pub marked_starts : (t : ℕ) → marks a t ≡ true → StartsAt b t
  marked_starts t on = there_starts ((store b).cell t) (ordinary_there (store b) t (x.stays.ordinary t ∙ (and_parts (is_ordinary (store a) t) (is_marked a.words t) on).0))

  pub count_to_come : (s : ℕ) → i ≤ s → count_by (names_dead (marks b)) (weak_values (heap_graph b) (node_in b s)) ≡ count_by (names_dead (marks a)) (weak_values (heap_graph a) (node_in a s))
  count_to_come s from =
      ap (λ (n : Node). count_by (names_dead (marks b)) (weak_values (heap_graph b) n)) (node_to_come s from)
      ∙ (λ y. count_by (names_dead (marks_same y)) (weak_same (node_in a s) y))

  -- which of the marked start below another place
  pub same_test : (j : ℕ) → ((t : ℕ) → marks a t ≡ true → (t < j → t < i) × (t < i → t < j)) → (t : ℕ) → (marks a t && nat_lt t j) ≡ (marks a t && nat_lt t i)
  same_test j both t = by (marks a t) refl
    where
      by : (o : Bool) → marks a t ≡ o → (o && nat_lt t j) ≡ (o && nat_lt t i)
      by false off = refl
      by true on = elim (cases_lt t i) [
        | inl low ↦ lt-ltb t j ((both t on).1 low) ∙ sym (lt-ltb t i low)
        | inr high ↦ elim (cases_lt t j) [ inl low ↦ (let l = (both t on).0 low in absurd (omega (arith, l, high))) | inr far ↦ le-ltb t j far ∙ sym (le-ltb t i high) ]
      ]

  -- so the walk is as far there
  pub moved_on : (j : ℕ) → ((t : ℕ) → (marks a t && nat_lt t j) ≡ (marks a t && nat_lt t i)) → NilsBelow j a b
  moved_on j same = record {
    stays = x.stays;
    nodes = λ t. x.nodes t ∙ ap (λ o. cond o (without_dead (heap_graph a) (marks a) (node_in a t)) (node_in a t)) (sym (same t));
    table = x.table;
  }

  pub moved_count : (j : ℕ) → ((t : ℕ) → (marks a t && nat_lt t j) ≡ (marks a t && nat_lt t i)) → nils_below (marks a) (heap_graph a) j ≡ nils_below (marks a) (heap_graph a) i
  moved_count j same y = sum_by (λ e. cond (same e.0 y) (count_by (names_dead (marks a)) (weak_values (heap_graph a) e.1)) 0) (entries (heap_graph a).nodes)
