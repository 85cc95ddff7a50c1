-- A walk in which weak slots become nil, start after start.
use Rattle.std.proofs.Common.{◌≡◌, ◌≢◌, ℕ, Bool, true, false, cond, ◌==◌, ◌&&◌, ◌+◌, ◌-◌, ◌^◌, ◌<◌, ◌≤◌, nat_lt, List, [], ◌∷◌, drop, length, refl, sym, ap, ◌∙◌, subst, inl, inr, arith}
use Rattle.std.proofs.lemmas.Bool.{false≢true, cases_Bool, cases_eq, cases_lt, and_parts, eq-eqb, ne_eqb, lt-ltb, le-ltb}
use Rattle.std.proofs.lemmas.List.{length-drop}
use Rattle.std.proofs.lemmas.List.Sums.{count_by-le-length, sum_by-cons}
use Rattle.std.specs.List.{count_by, sum_by}
use Rattle.std.specs.FinMap.{entries, entries_sorted, get-entries}
use Rattle.spur_graph.specs.Node.{Node}
use Rattle.spur_graph.specs.Graph.{Graph}
use Rattle.spur_graph.specs.Live.{strong_count, weak_values}
use Rattle.spur_graph.specs.Rounds.{names_dead, nils, without_dead}
use Rattle.spur_graph.specs.Ordinary.{is_ordinary}
use Rattle.spur_graph.specs.Heaps.{View, IsWhole, heap_graph, is_marked}
use Rattle.spur_heap.specs.MarkBits.{StartsAt, marks}
use Rattle.spur_heap.specs.Views.{IsOrdinary, node_in, store}
use Rattle.spur_heap.proofs.NodesAt.{get_there}
use Rattle.spur_heap.proofs.Puts.{pointer_inside}
use Rattle.spur_heap.proofs.Starting.{start_below}
use Rattle.weak_ephemeron.specs.Steps.{NilsOne}
use Rattle.weak_ephemeron.proofs.Staying.{stays_marks, stays_then}
use Rattle.marker.specs.Firing.{NilsBelow, nils_below}
use Rattle.marker.proofs.EntrySums.{sum_entries_kept, sum_one}
use Rattle.marker.proofs.NilledHeaps.{count_to_come, marked_starts, moved_count, moved_on, nils_long, node_to_come, same_test, unless, without_same}

-- ---- how many an object can have

pub few_weak : (v : View) → IsWhole v → (s : ℕ) → IsOrdinary v s → count_by (names_dead (marks v)) (weak_values (heap_graph v) (node_in v s)) ≤ 2 ^ 27
few_weak v whole s there =
    let n : Node = node_in v s in
    let one = count_by-le-length (names_dead (marks v)) (weak_values (heap_graph v) n) in
    let two = fewer n (n.format == 4) in
    let three = within (length n.pointers) refl in
    omega (arith, one, two, three, whole.few)
  where
    fewer : (n : Node) (b : Bool) → length (cond b (drop (strong_count (heap_graph v) n) n.pointers) []) ≤ length n.pointers
    fewer n true = let l = length-drop (strong_count (heap_graph v) n) n.pointers in omega (arith, l)
    fewer n false = omega arith

    within : (k : ℕ) → length (node_in v s).pointers ≡ k → k ≤ length v.words
    within k is = elim (cases_eq k 0) [
      | inl none ↦ omega (arith, none)
      | inr some ↦ let l = pointer_inside v whole s there (k - 1) (omega (arith, is, some)) in omega (arith, l, some)
    ]

-- ---- one start more

module _ (i s : ℕ) (a b : View) (x : NilsBelow i a b) (from : i ≤ s) (gap : (t : ℕ) → i ≤ t → t < s → StartsAt b t → ⊥) where
  to_come : (t : ℕ) → marks a t ≡ true → t < s + 1 → i ≤ t → t ≡ s
  to_come t on l high = elim (cases_eq t s) [
    | inl e ↦ e
    | inr n ↦ absurd (gap t high (omega (arith, l, n)) (marked_starts i a b x t on))
  ]

  -- which is not marked
  skipped : marks b s ≡ false → (t : ℕ) → (marks a t && nat_lt t (s + 1)) ≡ (marks a t && nat_lt t i)
  skipped off = same_test i a b x (s + 1) (λ t on. (
    (λ l. elim (cases_lt t i) [
      | inl low ↦ low
      | inr high ↦ absurd (false≢true (sym off ∙ stays_marks x.stays s ∙ ap (marks a) (sym (to_come t on l high)) ∙ on))
    ]),
    (λ l. omega (arith, l, from)),
  ))

  pub nils_skipped : marks b s ≡ false → NilsBelow (s + 1) a b
  nils_skipped off = moved_on i a b x (s + 1) (skipped off)

  pub count_skipped : marks b s ≡ false → nils_below (marks a) (heap_graph a) (s + 1) ≡ nils_below (marks a) (heap_graph a) i
  count_skipped off = moved_count i a b x (s + 1) (skipped off)

  -- which is marked
  module _ (on : marks b s ≡ true) where
    marked : marks a s ≡ true
    marked = sym (stays_marks x.stays s) ∙ on

    there : IsOrdinary a s
    there = (and_parts (is_ordinary (store a) s) (is_marked a.words s) marked).0

    other_test : (t : ℕ) → t ≢ s → (marks a t && nat_lt t (s + 1)) ≡ (marks a t && nat_lt t i)
    other_test t n = by (marks a t) refl
      where
        by : (o : Bool) → marks a t ≡ o → (o && nat_lt t (s + 1)) ≡ (o && nat_lt t i)
        by false off = refl
        by true here = elim (cases_lt t i) [
          | inl low ↦ lt-ltb t (s + 1) (omega (arith, low, from)) ∙ sym (lt-ltb t i low)
          | inr high ↦ elim (cases_lt t (s + 1)) [ inl low ↦ absurd (n (to_come t here low high)) | inr far ↦ le-ltb t (s + 1) far ∙ sym (le-ltb t i high) ]
        ]

    here_test : (marks a s && nat_lt s (s + 1)) ≡ true
    here_test y = marked y && lt-ltb s (s + 1) (omega arith) y

    was_test : (marks a s && nat_lt s i) ≡ false
    was_test = unless (marks a s) (nat_lt s i) (le-ltb s i from)

    pub nils_one : (c : View) → NilsOne s b c → NilsBelow (s + 1) a c
    nils_one c y = record {
      stays = stays_then x.stays y.stays;
      nodes = λ t. y.nodes t ∙ elim (cases_eq t s) [
        | inl e ↦
            ap (λ o. cond o (without_dead (heap_graph b) (marks b) (node_in b s)) (node_in b t)) (eq-eqb t s e)
            ∙ ap (without_dead (heap_graph b) (marks b)) (node_to_come i a b x s from)
            ∙ without_same i a b x (node_in a s)
            ∙ sym (ap (λ o. cond o (without_dead (heap_graph a) (marks a) (node_in a s)) (node_in a s)) here_test)
            ∙ ap (λ u. cond (marks a u && nat_lt u (s + 1)) (without_dead (heap_graph a) (marks a) (node_in a u)) (node_in a u)) (sym e)
        | inr n ↦
            ap (λ o. cond o (without_dead (heap_graph b) (marks b) (node_in b s)) (node_in b t)) (ne_eqb t s n)
            ∙ x.nodes t
            ∙ ap (λ o. cond o (without_dead (heap_graph a) (marks a) (node_in a t)) (node_in a t)) (sym (other_test t n))
      ];
      table = y.table ∙ x.table;
    }

    pub count_one : nils_below (marks a) (heap_graph a) (s + 1) ≡ nils_below (marks a) (heap_graph a) i + count_by (names_dead (marks b)) (weak_values (heap_graph b) (node_in b s))
    count_one =
        let g : Graph = heap_graph a in
        let weight : ℕ × Node → ℕ = λ e. count_by (names_dead (marks a)) (weak_values g e.1) in
        let sum = sum_one (λ e. cond (marks a e.0 && nat_lt e.0 i) (weight e) 0) (λ e. cond (marks a e.0 && nat_lt e.0 (s + 1)) (weight e) 0) s (node_in a s) (entries g.nodes) (entries_sorted g.nodes)
        (sym (get-entries g.nodes s) ∙ get_there a s there)
        (λ e n. ap (λ o. cond o (weight e) 0) (other_test e.0 n))
        (ap (λ o. cond o (weight (s, node_in a s)) 0) was_test) in
        let one : cond (marks a s && nat_lt s (s + 1)) (weight (s, node_in a s)) 0 ≡ weight (s, node_in a s) = ap (λ o. cond o (weight (s, node_in a s)) 0) here_test in
        let same = count_to_come i a b x s from in
        sum ∙ ap (λ n. nils_below (marks a) g i + n) (one ∙ sym same)

  -- one or the other
  pub nils_more : (c : View) → (marks b s ≡ false → c ≡ b) → (marks b s ≡ true → NilsOne s b c) → NilsBelow (s + 1) a c
  nils_more c skips nils = elim (cases_Bool (marks b s)) [
    | inl on ↦ nils_one on c (nils on)
    | inr off ↦ subst (λ (v : View). NilsBelow (s + 1) a v) (sym (skips off)) (nils_skipped off)
  ]

  pub count_more : (n m : ℕ) → n ≡ nils_below (marks a) (heap_graph a) i → (marks b s ≡ false → m ≡ 0) → (marks b s ≡ true → m ≡ count_by (names_dead (marks b)) (weak_values (heap_graph b) (node_in b s)))
      → n + m ≡ nils_below (marks a) (heap_graph a) (s + 1)
  count_more n m is skips counts = elim (cases_Bool (marks b s)) [
    | inl on ↦ (λ y. is y + counts on y) ∙ sym (count_one on)
    | inr off ↦ let none = skips off in let same = count_skipped off in omega (arith, is, none, same)
  ]

-- at most so many at one start
pub few_at : (v : View) → IsWhole v → (s m : ℕ) → (marks v s ≡ false → m ≡ 0) → (marks v s ≡ true → m ≡ count_by (names_dead (marks v)) (weak_values (heap_graph v) (node_in v s))) → m ≤ 2 ^ 27
few_at v whole s m skips counts = elim (cases_Bool (marks v s)) [
  | inl on ↦ let few = few_weak v whole s (and_parts (is_ordinary (store v) s) (is_marked v.words s) on).0 in omega (arith, few, counts on)
  | inr off ↦ omega (arith, skips off)
]

-- ---- no start is left

module _ (i : ℕ) (a b : View) (x : NilsBelow i a b) (gap : (t : ℕ) → i ≤ t → StartsAt b t → ⊥) where
  below : (t : ℕ) → marks a t ≡ true → t < i
  below t on = elim (cases_lt t i) [ inl low ↦ low | inr high ↦ absurd (gap t high (marked_starts i a b x t on)) ]

  pub nils_every : IsWhole b → NilsBelow (length a.words) a b
  nils_every whole = moved_on i a b x (length a.words) (same_test i a b x (length a.words) (λ t on. (
    (λ l. below t on),
    (λ l. subst (λ n. t < n) (nils_long i a b x) (start_below b whole t (marked_starts i a b x t on))),
  )))

  marked_below : (t : ℕ) → (marks a t && nat_lt t i) ≡ marks a t
  marked_below t = by (marks a t) refl
    where
      by : (o : Bool) → marks a t ≡ o → (o && nat_lt t i) ≡ o
      by false off = refl
      by true on = lt-ltb t i (below t on)

  pub count_every : nils_below (marks a) (heap_graph a) i ≡ nils (marks a) (heap_graph a)
  count_every =
      let g : Graph = heap_graph a in
      (λ y. sum_by (λ e. cond (marked_below e.0 y) (count_by (names_dead (marks a)) (weak_values g e.1)) 0) (entries g.nodes)) ∙ sym (sum_entries_kept g.nodes (marks a) (λ e. count_by (names_dead (marks a)) (weak_values g e.1)))

-- nothing was counted before
pub count_none : (a : View) → nils_below (marks a) (heap_graph a) 0 ≡ 0
count_none a = zeros (entries (heap_graph a).nodes)
  where
    none : (e : ℕ × Node) → cond (marks a e.0 && nat_lt e.0 0) (count_by (names_dead (marks a)) (weak_values (heap_graph a) e.1)) 0 ≡ 0
    none e = ap (λ o. cond o (count_by (names_dead (marks a)) (weak_values (heap_graph a) e.1)) 0) (unless (marks a e.0) (nat_lt e.0 0) (le-ltb e.0 0 (omega arith)))

    zeros : (es : List (ℕ × Node)) → sum_by (λ e. cond (marks a e.0 && nat_lt e.0 0) (count_by (names_dead (marks a)) (weak_values (heap_graph a) e.1)) 0) es ≡ 0
    zeros [] = refl
    zeros (e ∷ es) = let r = zeros es in let here = none e in omega (arith, sum_by-cons (λ z. cond (marks a z.0 && nat_lt z.0 0) (count_by (names_dead (marks a)) (weak_values (heap_graph a) z.1)) 0) e es, r, here)
