-- One more ephemeron of a group fires.
use Rattle.std.proofs.Common.{◌≡◌, ◌≢◌, ℕ, Bool, true, false, not, ◌&&◌, ◌<◌, cond, eqb, ltb, List, [], ◌∷◌, ◌++◌, ◌-◌, ◌*◌, ◌/◌, map, take, drop, length, get_or, refl, sym, ap, ◌∙◌, subst, inl, inr, arith, Some, None, Option}
use Rattle.std.proofs.lemmas.Bool.{false≢true, cases_eq, and_parts, le-ltb, not-false, lt-ltb}
use Rattle.std.proofs.lemmas.List.{map-append, append_assoc}
use Rattle.std.proofs.lemmas.List.Elements.{All-append, All-contains, All-from_recursion, Contains-append_left, Contains-get_or}
use Rattle.std.proofs.lemmas.Simd.{map-map}
use Rattle.std.specs.Option.{option_map}
use Rattle.std.specs.List.{All, Contains, range_with_len}
use Rattle.std.specs.Cmp.{nat_cmp_total}
use Rattle.std.specs.FinMap.{get, same_map, nat_cmp-IsAntisymmetric}
use Rattle.object_header.specs.Formats.{unit_bytes_of, unused_of}
use Rattle.object_header.specs.Head.{whole_units}
use Rattle.spur_graph.specs.Node.{Node}
use Rattle.spur_graph.specs.Graph.{Graph, AreApart}
use Rattle.spur_graph.specs.Rounds.{mourning}
use Rattle.spur_graph.specs.Cells.{Body, There, Store, is_formed, is_there, final, pointers, pointer_count, unit_at, unit_count, units}
use Rattle.spur_graph.specs.Ordinary.{body_at, is_ordinary, is_good_word}
use Rattle.spur_graph.specs.CellGraph.{read, node_of, nodes_of}
use Rattle.spur_graph.specs.Heaps.{HasFired, AreMourners, waiting_in}
use Rattle.heap_cells.proofs.Bodies.{all_pointers}
use Rattle.heap_cells.proofs.Chains.{final-there}
use Rattle.heap_cells.proofs.References.{ordinary_there}
use Rattle.heap_laws.specs.Placed.{Outside, graph_under}
use Rattle.heap_laws.specs.Instances.{IsGoodOutside}
use Rattle.graph_laws.proofs.Apart.{apart-append}
use Rattle.graph_laws.proofs.Redirected.{came_from}
use Rattle.spur_graph.proofs.Reaching.{only_among}
use Rattle.scavenge_laws.specs.Copying.{Lives, IsClear, IsScanned, IsHeapStore, ArePlaces, Copying, Grown}
use Rattle.scavenge_laws.specs.Writing.{PutsCell}
use Rattle.scavenge_laws.specs.Firing.{fire_some, behind, with_group, fired_body, Firing}
use Rattle.scavenge_laws.proofs.Keeping.{outside-kept}
use Rattle.scavenge_laws.proofs.Livelier.{Livelier, livelier, slots-livelier, get-some, mourners-some, hash-some, next-some, rest-some, waiting-behind, map-behind, mourning-here, mourning-else, more-livelier}
use Rattle.scavenge_laws.proofs.Putting.{put-else, object-here, object-moved, object-starts}
use Rattle.scavenge_laws.proofs.Values.{from-map}
use Rattle.scavenge_laws.proofs.Places.{place-here, place-comes}
use Rattle.scavenge_laws.proofs.Rebodied.{Rebodies, rebodied-final, rebodied-root, rebodied-ordinary, rebodied-heap, rebodied-outside}
use Rattle.scavenge_laws.proofs.Renoded.{node-else, node-put, graph-rebodied}

-- ---- the body

fired-count : (b : Body) → pointer_count (fired_body b) ≡ length b.words
fired-count b = all_pointers (fired_body b) (omega arith)

pub fired-formed : (b : Body) → is_formed b ≡ true → is_formed (fired_body b) ≡ true
unfolding is_formed
fired-formed b f =
    let c = and_parts _ _ (and_parts _ _ (and_parts _ _ f).0).0 in
    let none : ltb (whole_units 1 (length b.words) (pointer_count (fired_body b))) 0 ≡ false = le-ltb (whole_units 1 (length b.words) (pointer_count (fired_body b))) 0 (omega arith) in
    λ x. ((c.0 x && true) && true) && not (none x)

pub units_none : (b : Body) → b.format < 9 → units b ≡ []
unfolding unit_count
units_none b l =
    let bytes : unit_bytes_of b.format ≡ 0 = ap (λ t. cond t 0 (cond (ltb b.format 10) 8 (cond (ltb b.format 12) 4 (cond (ltb b.format 16) 2 1)))) (lt-ltb b.format 9 l) in
    let whole : whole_units b.format (length b.words) (pointer_count b) ≡ 0 = ap (λ n. cond (eqb n 0) 0 ((length b.words - pointer_count b) * 8 / n)) bytes in
    let none : unit_count b ≡ 0 = ap (λ n. n - unused_of b.format) whole ∙ omega arith in
    ap (λ n. map (unit_at (unit_bytes_of b.format) (drop (pointer_count b) b.words)) (range_with_len 0 n)) none

-- the node of what has fired
pub fired-node : (q : ℕ → ℕ) (h : Store) (b : Body) → b.format ≡ 5 → node_of q h (fired_body b) ≡ record (node_of q h b) { format = 1 }
unfolding node_of
fired-node q h b five =
    let count : pointer_count (fired_body b) ≡ pointer_count b = fired-count b ∙ sym (all_pointers b (omega (arith, five))) in
    let rest : units (fired_body b) ≡ units b = units_none (fired_body b) (omega arith) ∙ sym (units_none b (omega (arith, five))) in
    λ i. record (node_of q h b) { format = 1; pointers = map (read q h) (take (count i) b.words); units = rest i }

-- ---- nodes by places

-- what a name has, by what stands at its place
pub node-at : {h : Store} {p q : ℕ → ℕ} → IsHeapStore h → ArePlaces p q → (a : ℕ) → get (nodes_of q h) a ≡ (cond (is_ordinary h (p a)) (Some (node_of q h (body_at h (p a)))) None)
node-at {h} {p} {q} heap places a = by (is_ordinary h (p a)) refl (get (nodes_of q h) a) refl
  where
    by : (t : Bool) → is_ordinary h (p a) ≡ t → (o : Option Node) → get (nodes_of q h) a ≡ o → o ≡ cond t (Some (node_of q h (body_at h (p a)))) None
    by true on o e = sym e ∙ ap (get (nodes_of q h)) (sym (places.right a)) ∙ place-here heap places (p a) on
    by false off None e = refl
    by false off (Some n) e = absurd (false≢true (sym off ∙ (place-comes heap places a n e).0))

module _ {young : ℕ → Bool} {g : Graph} {further : ℕ → Bool} {old : Store} {o : Outside} {places : List ℕ} {todo held : ℕ → Type 0} {p q : ℕ → ℕ} (f : Firing young g further old o places todo held p q)
    {a : ℕ} {new : Store} (put : PutsCell a (There (fired_body (body_at old a))) old new) (ordinary : is_ordinary old a ≡ true) (out : young a ≡ false) (five : (body_at old a).format ≡ 5) where
  c : Copying young (fire_some g (map q places)) further old (with_group o places) todo held p q
  c = f.copying

  b : Body
  b = body_at old a

  there : is_there (old.cell a) ≡ true
  there = ordinary_there old a ordinary

  good-slot : (i : ℕ) → i < pointer_count (fired_body (body_at old a)) → is_good_word old (get_or (body_at old a).words i 0) ≡ true
  good-slot i l =
      let count : pointer_count (body_at old a) ≡ length (body_at old a).words = all_pointers (body_at old a) (omega (arith, five)) in
      let low : i < pointer_count (body_at old a) = (let m = fired-count (body_at old a) in omega (arith, l, m, count)) in
      let front : (is_ordinary old a && ltb i (pointer_count (body_at old a))) ≡ true = λ x. ordinary x && lt-ltb i (pointer_count (body_at old a)) low x in
      not-false _ (sym (ap (λ t. t && not (is_good_word old (get_or (body_at old a).words i 0))) front) ∙ c.heap.store.sound.slots a i)

  rebodies : Rebodies a (fired_body (body_at old a)) old new
  rebodies = record {
    heap = c.heap;
    put = put;
    ordinary = ordinary;
    class = refl;
    hash = refl;
    formed = fired-formed (body_at old a) (c.heap.store.sound.formed a there);
    good = good-slot;
    fired = λ e. refl;
  }

  finals : ◌≡◌ {A = ℕ → ℕ} (final new) (final old)
  finals i s = rebodied-final rebodies s i

  more : List ℕ
  more = places ++ a ∷ []

  own : final old a ≡ a
  own = final-there old a there

  -- ---- mourners

  not_fired : (s : ℕ) → HasFired old s → final old s ≢ a
  not_fired s m e = let k : 5 ≡ 1 = sym five ∙ ap (λ t. (body_at old t).format) (sym e) ∙ m.format in omega (arith, k)

  now-fired : HasFired new a
  now-fired = record {
    ordinary = ap (is_ordinary new) (rebodied-final rebodies a ∙ own) ∙ rebodied-ordinary rebodies a ∙ ordinary;
    format = ap (λ t. (body_at new t).format) (rebodied-final rebodies a ∙ own) ∙ ap (λ (d : Body). d.format) (object-here put there);
  }

  mourners : AreMourners new (behind o.groups (places ++ a ∷ []))
  mourners =
      let was = rebodied-outside rebodies (with_group o places) c.good in
      record {
        some = some places was.mourners.some;
        fired = subst (All (HasFired new)) (sym waits) (All-append (HasFired new) (waiting_in (behind o.groups places)) (a ∷ []) was.mourners.fired (All-from_recursion (HasFired new) (a ∷ []) (now-fired, tt)));
        apart = subst AreApart (sym (ap (map (final new)) waits ∙ map-append (final new) (waiting_in (behind o.groups places)) (a ∷ [])))
            (apart-append (map (final new) (waiting_in (behind o.groups places))) (final new a ∷ []) was.mourners.apart (λ i j d l m. absurd (omega (arith, l, m))) disjoint);
      }
    where
      waits : waiting_in (behind o.groups (places ++ a ∷ [])) ≡ waiting_in (behind o.groups places) ++ a ∷ []
      waits =
          waiting-behind o.groups (places ++ a ∷ []) ∙ sym (append_assoc (waiting_in o.groups) places (a ∷ []))
          ∙ ap (λ xs. xs ++ a ∷ []) (sym (waiting-behind o.groups places))

      front : (xs ys : List (List ℕ)) → All (λ group. group ≢ []) (xs ++ ys) → All (λ group. group ≢ []) xs
      front xs ys all i d l = All-contains (λ group. group ≢ []) (xs ++ ys) (get_or xs i d) all (Contains-append_left xs ys (get_or xs i d) (Contains-get_or xs i d l))

      one : (x : ℕ) (xs : List ℕ) → All (λ group. group ≢ []) ((x ∷ xs) ∷ [])
      one x xs = All-from_recursion (λ (group : List ℕ). group ≢ []) ((x ∷ xs) ∷ []) ((λ e. absurd cc), tt)

      some : (places : List ℕ) → All (λ group. group ≢ []) (behind o.groups places) → All (λ group. group ≢ []) (behind o.groups (places ++ a ∷ []))
      some [] all = All-append (λ (group : List ℕ). group ≢ []) o.groups ((a ∷ []) ∷ []) all (one a [])
      some (x ∷ xs) all = All-append (λ (group : List ℕ). group ≢ []) o.groups ((x ∷ xs ++ a ∷ []) ∷ []) (front o.groups ((x ∷ xs) ∷ []) all) (one x (xs ++ a ∷ []))

      disjoint : (x : ℕ) → Contains (map (final new) (waiting_in (behind o.groups places))) x → Contains (final new a ∷ []) x → ⊥
      disjoint x d e =
          let w = from-map (final new) 0 (waiting_in (behind o.groups places)) x d in
          let m = All-contains (HasFired old) (waiting_in (behind o.groups places)) w.0 c.good.mourners.fired w.1 in
          not_fired w.0 m (sym (rebodied-final rebodies w.0) ∙ w.2 ∙ sym (only_among (final new a) x e) ∙ rebodied-final rebodies a ∙ own)

  good : IsGoodOutside new (with_group o (places ++ a ∷ []))
  good = let r = rebodied-outside rebodies (with_group o places) c.good in record { special = r.special; held = r.held; mourners = mourners }

  -- ---- the graph

  abbrev names : List ℕ
  names = map q places

  nodes-fired : nodes_of q new ≡ (fire_some g (map q (places ++ a ∷ []))).nodes
  nodes-fired = same_map nat_cmp_total nat_cmp-IsAntisymmetric (nodes_of q new) (fire_some g (map q (places ++ a ∷ []))).nodes (λ n.
      node-at (rebodied-heap rebodies) c.places n ∙ at n ∙ sym (ap (λ xs. get (fire_some g xs).nodes n) (map-append q places (a ∷ [])) ∙ get-some g (names ++ q a ∷ []) n))
    where
      was : (n : ℕ) → cond (is_ordinary old (p n)) (Some (node_of q old (body_at old (p n)))) None ≡ option_map (mourning names n) (get g.nodes n)
      was n = sym (node-at c.heap c.places n) ∙ ap (λ (x : Graph). get x.nodes n) c.same ∙ get-some g names n

      -- another name
      mapped : (n : ℕ) → n ≢ q a → (o : Option Node) → option_map (mourning (names ++ q a ∷ []) n) o ≡ option_map (mourning names n) o
      mapped n other None = refl
      mapped n other (Some x) = ap Some (mourning-else g names (q a) n x other)

      at : (n : ℕ) → cond (is_ordinary new (p n)) (Some (node_of q new (body_at new (p n)))) None ≡ option_map (mourning (names ++ q a ∷ []) n) (get g.nodes n)
      at n = elim (cases_eq (p n) a) [
        | inl e ↦
            let name : n ≡ q a = sym (c.places.right n) ∙ ap q e in
            let on : is_ordinary new (p n) ≡ true = rebodied-ordinary rebodies (p n) ∙ ap (is_ordinary old) e ∙ ordinary in
            let here : Some (node_of q old (body_at old a)) ≡ option_map (mourning names n) (get g.nodes n) =
            sym (ap (λ t. cond t (Some (node_of q old (body_at old a))) None) (ap (is_ordinary old) e ∙ ordinary)) ∙ ap (λ s. cond (is_ordinary old (p n)) (Some (node_of q old (body_at old s))) None) (sym e) ∙ was n in
            let m = came_from (mourning names n) (get g.nodes n) (node_of q old (body_at old a)) (sym here) in
            ap (λ t. cond t (Some (node_of q new (body_at new (p n)))) None) on
            ∙ ap (λ s. Some (node_of q new (body_at new s))) e
            ∙ ap Some (node-put rebodies q ∙ fired-node q old (body_at old a) five ∙ ap (λ (x : Node). record x { format = 1 }) (sym m.2) ∙ ap (λ y. record (mourning names y m.0) { format = 1 }) name ∙ sym (mourning-here g names (q a) m.0) ∙ ap (λ y. mourning (names ++ q a ∷ []) y m.0) (sym name))
            ∙ ap (option_map (mourning (names ++ q a ∷ []) n)) (sym m.1)
        | inr other ↦
            (λ i. cond (rebodied-ordinary rebodies (p n) i) (Some (node-else rebodies q (p n) other i)) None)
            ∙ was n
            ∙ sym (mapped n (λ e. other (ap p e ∙ c.places.left a)) (get g.nodes n))
      ]

  groups-same : map (map (λ s. q (final new s))) o.groups ≡ g.mourners
  groups-same = (λ i. map (map (λ s. q (finals i s))) o.groups) ∙ f.groups

  ends-same : map (final new) (places ++ a ∷ []) ≡ places ++ a ∷ []
  ends-same = (λ i. map (finals i) (places ++ a ∷ [])) ∙ map-append (final old) places (a ∷ []) ∙ (λ i. f.ends i ++ own i ∷ [])

  same : graph_under q new o.special o.held (behind o.groups (places ++ a ∷ [])) (fire_some g (map q (places ++ a ∷ []))).hash_state (fire_some g (map q (places ++ a ∷ []))).next ≡ fire_some g (map q (places ++ a ∷ []))
  same =
      let places' : List ℕ = places ++ a ∷ [] in
      let m : map (map (λ s. q (final new s))) (behind o.groups (places ++ a ∷ [])) ≡ (fire_some g (map q (places ++ a ∷ []))).mourners =
      map-behind (λ s. q (final new s)) o.groups (places ++ a ∷ [])
      ∙ (λ i. behind (groups-same i) ((sym (map-map q (final new) (places ++ a ∷ [])) ∙ ap (map q) ends-same) i))
      ∙ sym (mourners-some g (map q (places ++ a ∷ []))) in
      (λ i. graph_under q new o.special o.held (behind o.groups (places ++ a ∷ [])) ((hash-some g (map q (places ++ a ∷ [])) ∙ sym (hash-some g names)) i) ((next-some g (map q (places ++ a ∷ [])) ∙ sym (next-some g names)) i))
      ∙ ap (λ (x : Graph). record x { mourners = map (map (λ s. q (final new s))) (behind o.groups (places ++ a ∷ [])) }) (graph-rebodied rebodies q (with_group o places) (fire_some g names).hash_state (fire_some g names).next)
      ∙ ap (λ (x : Graph). record x { nodes = nodes_of q new; mourners = map (map (λ s. q (final new s))) (behind o.groups (places ++ a ∷ [])) }) c.same
      ∙ rest-some g names (nodes_of q new) (map (map (λ s. q (final new s))) (behind o.groups (places ++ a ∷ [])))
      ∙ (λ i. record g { nodes = nodes-fired i; mourners = m i })
      ∙ sym (rest-some g (map q (places ++ a ∷ [])) (fire_some g (map q (places ++ a ∷ []))).nodes (fire_some g (map q (places ++ a ∷ []))).mourners)

  -- ---- what was looked at

  livelier-now : Livelier (fire_some g (map q places)) (fire_some g (map q (places ++ a ∷ [])))
  livelier-now = subst (λ xs. Livelier (fire_some g (map q places)) (fire_some g xs)) (sym (map-append q places (a ∷ []))) (more-livelier g (map q places) (q a))

  still-scanned : (s : ℕ) (d : Body) → IsScanned young (fire_some g (map q places)) held s d → IsScanned young (fire_some g (map q (places ++ a ∷ []))) held s d
  still-scanned s d (inl all) = inl all
  still-scanned s d (inr back) = inr (back.0, back.1, subst (λ n. All (IsClear young) (take n (pointers d))) (sym (slots-livelier livelier-now d)) back.2)

  pub fires-more : (todo' : ℕ → Type 0) → ((s : ℕ) → todo s → todo' s) → todo' a → Firing young g further new o (places ++ a ∷ []) todo' held p q
  fires-more todo' keeps adds = record {
    copying = record {
      heap = rebodied-heap rebodies;
      outer = outside-kept put.keeps (rebodied-root rebodies) young c.outer;
      good = good;
      places = c.places;
      same = same;
      sound = λ s y on. livelier livelier-now further (q s) (c.sound s y (sym (rebodied-ordinary rebodies s) ∙ on));
      led = λ s y e inner. livelier livelier-now further (q (final new s)) (subst (Lives (fire_some g (map q places)) further) (ap q (sym (rebodied-final rebodies s))) (c.led s y (sym (object-starts put there s) ∙ e) (ap young (sym (rebodied-final rebodies s)) ∙ inner)));
      moved = λ s t y e. elim (c.moved s t y (object-moved put there s t e)) [ inl d ↦ inl (keeps s d) | inr d ↦ inr d ];
      scanned = λ s d y n e. elim (cases_eq s a) [
        | inl k ↦ inl (subst todo' (sym k) adds)
        | inr m ↦ elim (c.scanned s d y (λ k. n (k ∙ sym (put.keeps.firsts 3 (omega arith)))) (sym (put-else put s m) ∙ e)) [ inl t ↦ inl (keeps s t) | inr t ↦ inr (still-scanned s d t) ]
      ];
    };
    groups = groups-same;
    ends = ends-same;
  }

  pub fires-grown : Grown old q new q
  fires-grown = record { starts = λ s e. object-starts put there s ∙ e; names = λ s e. ap q (rebodied-final rebodies s) }

-- before the first
pub fires-first : {young : ℕ → Bool} {g : Graph} {further : ℕ → Bool} {h : Store} {o : Outside} {todo held : ℕ → Type 0} {p q : ℕ → ℕ} → Copying young g further h o todo held p q → Firing young g further h o [] todo held p q
fires-first c = record { copying = c; groups = ap (λ (x : Graph). x.mourners) c.same; ends = refl }
