-- One weak object is cleared.
use Rattle.std.proofs.Common.{◌≡◌, ◌≢◌, ◌⊎◌, ℕ, Bool, true, false, not, ◌&&◌, ◌+◌, ◌<◌, cond, eqb, List, ◌++◌, map, take, drop, length, get_or, refl, sym, ap, ◌∙◌, subst, inl, inr, arith, Some, None, Option}
use Rattle.std.proofs.lemmas.Bool.{cases_eq, eq-eqb}
use Rattle.std.proofs.lemmas.List.{drop-map, length-map, length-take, length-drop, length-append}
use Rattle.std.proofs.lemmas.List.Elements.{recursion_from_All, All-drop, All-take, All-append, All-map, Contains-get_or}
use Rattle.std.proofs.Math.Seq.{take-length}
use Rattle.std.specs.Option.{option_map}
use Rattle.std.specs.List.{All, count_by, sum_by}
use Rattle.std.specs.Ordering.{nat_cmp}
use Rattle.std.specs.FinMap.{FinMap, get, entries, retain_keys}
use Rattle.spur_graph.specs.Node.{Node}
use Rattle.spur_graph.specs.Graph.{Graph}
use Rattle.spur_graph.specs.Live.{fixed_of, weak_values}
use Rattle.spur_graph.specs.Rounds.{names_dead, without_dead, nils}
use Rattle.spur_graph.specs.Cells.{Body, There, Store, is_there, first, pointers, pointer_count, units}
use Rattle.spur_graph.specs.Ordinary.{body_at, is_ordinary, is_good_word}
use Rattle.spur_graph.specs.CellGraph.{read, node_of, nodes_of}
use Rattle.heap_cells.proofs.Bodies.{IsLike, with_words, all_pointers, is_formed-same}
use Rattle.heap_cells.proofs.References.{ordinary_there}
use Rattle.graph_laws.proofs.Sweeping.{get-live}
use Rattle.heap_laws.specs.Placed.{Outside}
use Rattle.scavenge_laws.specs.Copying.{IsClear, strong_slots, strong_words}
use Rattle.scavenge_laws.specs.Writing.{PutsCell}
use Rattle.scavenge_laws.specs.Ending.{cleared_word, cleared_words, is_dead_word, Ending}
use Rattle.scavenge_laws.proofs.Keeping.{outside-kept}
use Rattle.scavenge_laws.proofs.Putting.{put-here, put-else, object-moved}
use Rattle.scavenge_laws.proofs.Places.{place-here}
use Rattle.scavenge_laws.proofs.Rebodied.{Rebodies, rebodied-root, rebodied-ordinary, rebodied-heap, rebodied-outside}
use Rattle.scavenge_laws.proofs.Renoded.{node-else, node-put, graph-rebodied}
use Rattle.scavenge_laws.proofs.Firings.{node-at, units_none}
use Rattle.scavenge_laws.proofs.Values.{slot-word, node-format, node-class, node-pointers}
use Rattle.scavenge_laws.proofs.Cleared.{or_nil, lives-by, nil-lives, cleared-good, cleared-clear, words-read, dead-count}
use Rattle.scavenge_laws.proofs.Weak.{without-weak, without-twice, weak-now, weak-values, none-weak}
use Rattle.scavenge_laws.proofs.Sums.{sum-changed}

module _ {young : ℕ → Bool} {g : Graph} {live : ℕ → Bool} {old : Store} {o : Outside} {left : ℕ → Type 0} {done : ℕ} {p q : ℕ → ℕ} (c : Ending young g live old o left done p q)
    {a : ℕ} {new : Store} (put : PutsCell a (There (with_words (body_at old a) (cleared_words young g old (body_at old a)))) old new)
    (ordinary : is_ordinary old a ≡ true) (out : young a ≡ false) (four : (body_at old a).format ≡ 4) (strong : All (IsClear young) (strong_words g (body_at old a))) where
  abbrev b : Body
  b = body_at old a

  abbrev k : ℕ
  k = fixed_of g (get g.classes (body_at old a).class)

  slots-are : strong_slots g (body_at old a) ≡ fixed_of g (get g.classes (body_at old a).class)
  slots-are = ap (λ t. cond t (fixed_of g (get g.classes (body_at old a).class)) (cond (eqb (body_at old a).format 5) 0 (pointer_count (body_at old a)))) (eq-eqb (body_at old a).format 4 four)

  abbrev ws : List ℕ
  ws = cleared_words young g old (body_at old a)

  count : pointer_count (body_at old a) ≡ length (body_at old a).words
  count = all_pointers (body_at old a) (omega (arith, four))

  long : length (cleared_words young g old (body_at old a)) ≡ length (body_at old a).words
  long =
      let n : ℕ = strong_slots g (body_at old a) in
      let one = length-append (take (strong_slots g (body_at old a)) (body_at old a).words) (map (cleared_word young old) (drop (strong_slots g (body_at old a)) (body_at old a).words)) in
      let two = length-map (drop (strong_slots g (body_at old a)) (body_at old a).words) (cleared_word young old) in
      let three = length-take (strong_slots g (body_at old a)) (body_at old a).words in
      let rest = length-drop (strong_slots g (body_at old a)) (body_at old a).words in
      omega (arith, one, two, three, rest)

  pointers-are : pointers (body_at old a) ≡ (body_at old a).words
  pointers-are = ap (λ n. take n (body_at old a).words) count ∙ take-length (body_at old a).words

  all-good : All (λ w. is_good_word old w ≡ true) (body_at old a).words
  all-good = subst (All (λ w. is_good_word old w ≡ true)) pointers-are (λ i d l. slot-word old c.heap.store.sound a ordinary (get_or (pointers (body_at old a)) i d) (Contains-get_or (pointers (body_at old a)) i d l))

  now-good : All (λ w. is_good_word old w ≡ true) (cleared_words young g old (body_at old a))
  now-good = All-append (λ w. is_good_word old w ≡ true) (take (strong_slots g (body_at old a)) (body_at old a).words) (map (cleared_word young old) (drop (strong_slots g (body_at old a)) (body_at old a).words))
      (All-take (λ w. is_good_word old w ≡ true) (strong_slots g (body_at old a)) (body_at old a).words all-good)
      (All-map (λ w. is_good_word old w ≡ true) (cleared_word young old) (drop (strong_slots g (body_at old a)) (body_at old a).words)
      (λ i d l. cleared-good c.heap c.outer c.places c.standing (get_or (drop (strong_slots g (body_at old a)) (body_at old a).words) i d) (All-drop (λ w. is_good_word old w ≡ true) (strong_slots g (body_at old a)) (body_at old a).words all-good i d l)))

  like : IsLike (body_at old a) (cleared_words young g old (body_at old a))
  like = record { long = long; first = λ l. absurd (omega (arith, l, four)) }

  new-count : pointer_count (with_words (body_at old a) (cleared_words young g old (body_at old a))) ≡ length (cleared_words young g old (body_at old a))
  new-count = all_pointers (with_words (body_at old a) (cleared_words young g old (body_at old a))) (omega (arith, four))

  rebodies : Rebodies a (with_words (body_at old a) (cleared_words young g old (body_at old a))) old new
  rebodies = record {
    heap = c.heap;
    put = put;
    ordinary = ordinary;
    class = refl;
    hash = refl;
    formed = is_formed-same (body_at old a) (cleared_words young g old (body_at old a)) like ∙ c.heap.store.sound.formed a (ordinary_there old a ordinary);
    good = λ i l. now-good i 0 (subst (λ n. i < n) new-count l);
    fired = λ e. e;
  }

  -- ---- the node

  first-nil : q (first old 0) ≡ g.nil
  first-nil = ap (λ (x : Graph). x.nil) c.rest

  node-cleared : node_of q old (with_words (body_at old a) (cleared_words young g old (body_at old a))) ≡ without_dead g live (node_of q old (body_at old a))
  unfolding node_of
  node-cleared =
      let values : map (read q old) (pointers (with_words (body_at old a) (cleared_words young g old (body_at old a)))) ≡ take (fixed_of g (get g.classes (body_at old a).class)) (map (read q old) (pointers (body_at old a)))
      ++ map (or_nil live g.nil) (drop (fixed_of g (get g.classes (body_at old a).class)) (map (read q old) (pointers (body_at old a)))) =
      ap (λ n. map (read q old) (take n (cleared_words young g old (body_at old a)))) new-count ∙ ap (map (read q old)) (take-length (cleared_words young g old (body_at old a)))
      ∙ words-read c.heap c.outer c.places c.standing (strong_slots g (body_at old a)) (body_at old a).words all-good
      ∙ (λ i. take (slots-are i) (map (read q old) (sym pointers-are i)) ++ map (or_nil live (first-nil i)) (drop (slots-are i) (map (read q old) (sym pointers-are i)))) in
      let rest : units (with_words (body_at old a) (cleared_words young g old (body_at old a))) ≡ units (body_at old a) = units_none (with_words (body_at old a) (cleared_words young g old (body_at old a))) (omega (arith, four)) ∙ sym (units_none (body_at old a) (omega (arith, four))) in
      (λ i. record (node_of q old (body_at old a)) { pointers = values i; units = rest i })
      ∙ sym (without-weak g live (node_of q old (body_at old a)) (eq-eqb (body_at old a).format 4 four))

  -- ---- the nodes

  here : get (nodes_of q old) (q a) ≡ Some (node_of q old (body_at old a))
  here = place-here c.heap c.places a ordinary

  now-here : get (nodes_of q new) (q a) ≡ Some (without_dead g live (node_of q old (body_at old a)))
  now-here = place-here (rebodied-heap rebodies) c.places a (rebodied-ordinary rebodies a ∙ ordinary) ∙ ap Some (node-put rebodies q ∙ node-cleared)

  now-else : (n : ℕ) → n ≢ q a → get (nodes_of q new) n ≡ get (nodes_of q old) n
  now-else n other =
      let apart : p n ≢ a = λ e. other (sym (c.places.right n) ∙ ap q e) in
      node-at (rebodied-heap rebodies) c.places n ∙ (λ i. cond (rebodied-ordinary rebodies (p n) i) (Some (node-else rebodies q (p n) apart i)) None) ∙ sym (node-at c.heap c.places n)

  nil-live : live g.nil ≡ true
  nil-live = ap live (sym first-nil) ∙ nil-lives c.heap c.outer c.places c.standing

  nodes : (n : ℕ) → (get (nodes_of q new) n ≡ get g.nodes n) ⊎ (get (nodes_of q new) n ≡ option_map (without_dead g live) (get g.nodes n))
  nodes n = elim (cases_eq n (q a)) [
    | inl e ↦ inr (ap (get (nodes_of q new)) e ∙ now-here ∙ at (c.nodes (q a)) ∙ ap (λ m. option_map (without_dead g live) (get g.nodes m)) (sym e))
    | inr other ↦ elim (c.nodes n) [ inl e ↦ inl (now-else n other ∙ e) | inr e ↦ inr (now-else n other ∙ e) ]
  ]
    where
      mapped : (o : Option Node) → Some (node_of q old (body_at old a)) ≡ option_map (without_dead g live) o → Some (without_dead g live (node_of q old (body_at old a))) ≡ option_map (without_dead g live) o
      mapped None e = absurd cc
      mapped (Some m) e =
          let is : node_of q old (body_at old a) ≡ without_dead g live m = cc in
          ap (λ x. Some (without_dead g live x)) is ∙ ap Some (without-twice g live nil-live m)

      at : (get (nodes_of q old) (q a) ≡ get g.nodes (q a)) ⊎ (get (nodes_of q old) (q a) ≡ option_map (without_dead g live) (get g.nodes (q a))) → Some (without_dead g live (node_of q old (body_at old a))) ≡ option_map (without_dead g live) (get g.nodes (q a))
      at (inl e) = ap (option_map (without_dead g live)) (sym here ∙ e)
      at (inr e) = mapped (get g.nodes (q a)) (sym here ∙ e)

  -- ---- the count

  abbrev count-one : ℕ
  count-one = count_by (is_dead_word young old) (drop (strong_slots g (body_at old a)) (body_at old a).words)

  abbrev E : ℕ × Node → ℕ
  E e = count_by (names_dead live) (weak_values g e.1)

  four_on : eqb (node_of q old (body_at old a)).format 4 ≡ true
  four_on = eq-eqb (node_of q old (body_at old a)).format 4 (node-format q old (body_at old a) ∙ four)

  -- the values that were weak
  were-weak : weak_values g (node_of q old (body_at old a)) ≡ map (read q old) (drop (strong_slots g (body_at old a)) (body_at old a).words)
  were-weak =
      weak-values g live (node_of q old (body_at old a)) four_on
      ∙ (λ i. drop (fixed_of g (get g.classes (node-class q old (body_at old a) i))) (node-pointers q old (body_at old a) i))
      ∙ (λ i. drop (sym slots-are i) (map (read q old) (pointers-are i)))
      ∙ drop-map (read q old) (strong_slots g (body_at old a)) (body_at old a).words

  more : count-one + E (q a, without_dead g live (node_of q old (body_at old a))) ≡ E (q a, node_of q old (body_at old a))
  more =
      let none : E (q a, without_dead g live (node_of q old (body_at old a))) ≡ 0 = none-weak g live nil-live (node_of q old (body_at old a)) four_on in
      let all : E (q a, node_of q old (body_at old a)) ≡ count-one = ap (count_by (names_dead live)) were-weak
      ∙ dead-count c.heap c.outer c.places c.standing (drop (strong_slots g (body_at old a)) (body_at old a).words)
      (recursion_from_All (λ w. is_good_word old w ≡ true) (drop (strong_slots g (body_at old a)) (body_at old a).words) (All-drop (λ w. is_good_word old w ≡ true) (strong_slots g (body_at old a)) (body_at old a).words all-good)) in
      omega (arith, none, all)

  a-lives : live (q a) ≡ true
  a-lives = lives-by c.heap c.outer c.places c.standing a ordinary ∙ ap not out

  live-at : (m : FinMap nat_cmp Node) (n : ℕ) → get (retain_keys m live) n ≡ cond (live n) (get m n) None
  live-at m n = get-live (record g { nodes = m }) live n

  nilled : count-one + nils live (record g { nodes = nodes_of q new }) ≡ nils live (record g { nodes = nodes_of q old })
  nilled =
      let was : nils live (record g { nodes = nodes_of q old }) ≡ sum_by E (entries (retain_keys (nodes_of q old) live)) = λ i. sum_by (λ e. count_by (names_dead live) (weak-now g live (nodes_of q old) c.nodes e.1 i)) (entries (retain_keys (nodes_of q old) live)) in
      let is : nils live (record g { nodes = nodes_of q new }) ≡ sum_by E (entries (retain_keys (nodes_of q new) live)) = λ i. sum_by (λ e. count_by (names_dead live) (weak-now g live (nodes_of q new) nodes e.1 i)) (entries (retain_keys (nodes_of q new) live)) in
      let changed = sum-changed E (retain_keys (nodes_of q old) live) (retain_keys (nodes_of q new) live) (q a) (node_of q old (body_at old a)) (without_dead g live (node_of q old (body_at old a))) count-one
      (live-at (nodes_of q old) (q a) ∙ (λ i. cond (a-lives i) (here i) None))
      (live-at (nodes_of q new) (q a) ∙ (λ i. cond (a-lives i) (now-here i) None))
      (λ n other. live-at (nodes_of q new) n ∙ (λ i. cond (live n) (now-else n other i) None) ∙ sym (live-at (nodes_of q old) n))
      more in
      omega (arith, was, is, changed)

  -- ---- the whole

  now-clear : All (IsClear young) (pointers (with_words (body_at old a) (cleared_words young g old (body_at old a))))
  now-clear = subst (All (IsClear young)) (sym (ap (λ n. take n (cleared_words young g old (body_at old a))) new-count ∙ take-length (cleared_words young g old (body_at old a))))
      (All-append (IsClear young) (take (strong_slots g (body_at old a)) (body_at old a).words) (map (cleared_word young old) (drop (strong_slots g (body_at old a)) (body_at old a).words))
      (subst (λ xs. All (IsClear young) (take (strong_slots g (body_at old a)) xs)) pointers-are strong)
      (All-map (IsClear young) (cleared_word young old) (drop (strong_slots g (body_at old a)) (body_at old a).words) (λ i d l. cleared-clear c.heap c.outer c.places c.standing (get_or (drop (strong_slots g (body_at old a)) (body_at old a).words) i d))))

  there : is_there (old.cell a) ≡ true
  there = ordinary_there old a ordinary

  pub clears-one : (left' : ℕ → Type 0) → ((s : ℕ) → left s → left' s ⊎ (s ≡ a)) → Ending young g live new o left' (done + count_by (is_dead_word young old) (drop (strong_slots g (body_at old a)) (body_at old a).words)) p q
  clears-one left' less = record {
    heap = rebodied-heap rebodies;
    outer = outside-kept put.keeps (rebodied-root rebodies) young c.outer;
    good = rebodied-outside rebodies o c.good;
    places = c.places;
    standing = λ n. c.standing n ∙ (λ i. sym (rebodied-ordinary rebodies (p n)) i && not (young (p n)));
    rest = graph-rebodied rebodies q o g.hash_state g.next ∙ ap (λ (x : Graph). record x { nodes = nodes_of q new }) c.rest;
    nodes = nodes;
    nilled = (let n = nilled in let m = c.nilled in omega (arith, n, m));
    moved = λ s t y e. c.moved s t y (object-moved put there s t e);
    clear = λ s d y n e. elim (cases_eq s a) [
      | inl same ↦ inr (let z : There (with_words (body_at old a) (cleared_words young g old (body_at old a))) ≡ There d = sym (put-here put s same) ∙ e in
          let is : with_words (body_at old a) (cleared_words young g old (body_at old a)) ≡ d = cc in
          subst (λ (x : Body). All (IsClear young) (pointers x)) is now-clear)
      | inr m ↦ elim (c.clear s d y (λ k. n (k ∙ sym (put.keeps.firsts 3 (omega arith)))) (sym (put-else put s m) ∙ e)) [
        | inl t ↦ elim (less s t) [ inl k ↦ inl k | inr k ↦ absurd (m k) ]
        | inr t ↦ inr t
      ]
    ];
    roots = c.roots;
  }
