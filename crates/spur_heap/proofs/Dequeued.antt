-- A heap with a mourner less.
use Rattle.std.proofs.Common.{ℕ, suc, ◌≡◌, ◌≢◌, ◌/◌, true, List, [], ◌∷◌, ◌++◌, map, length, get_or, refl, sym, ap, ◌∙◌, subst, arith, inl}
use Rattle.std.proofs.lemmas.List.{map-append}
use Rattle.std.proofs.lemmas.List.Elements.{All-rest}
use Rattle.spur_graph.specs.Graph.{Graph, AreApart}
use Rattle.spur_graph.specs.Cells.{final}
use Rattle.spur_graph.specs.Collections.{without_first}
use Rattle.spur_graph.specs.Heaps.{View, HasFired, store_of, heap_graph, heap_room, heap_value, waiting_in, mourners_of}
use Rattle.heap_cells.specs.Settled.{settled_word, word_of}
use Rattle.heap_cells.proofs.Members.{In, in_left, listed}
use Rattle.spur_heap.specs.declared.heap.HeapParts.{HeapParts}
use Rattle.spur_heap.specs.Tables.{Parted, begins, start_in, parted}
use Rattle.spur_heap.specs.Mourning.{TakesEntry, TakesMourner, left, popped}
use Rattle.spur_heap.specs.Parts.{view_of, ArePartsOfHeap}
use Rattle.spur_heap.specs.Views.{IsGood}
use Rattle.spur_heap.proofs.Following.{leads, own_value}
use Rattle.spur_heap.proofs.Groups.{waiting_are, groups_some, starts_regrouped, first_begins, first_group, parted_popped, popped_named, popped_first}
use Rattle.spur_heap.proofs.Mourned.{fired_good, waiting_left}
use Rattle.spur_heap.proofs.Puts.{whole_sound}
use Rattle.spur_heap.proofs.Requeued.{table_changed}

-- of names of which none stands twice, the others are others than the first
apart_first : (a : ℕ) (xs : List ℕ) → AreApart (a ∷ xs) → (x : ℕ) → In xs x → a ≢ x
apart_first a xs apart x m same = let c = listed xs x m in apart 0 (suc c.0) x (omega arith) (omega (arith, c.1)) (same ∙ sym c.2)

apart_rest : (a : ℕ) (xs : List ℕ) → AreApart (a ∷ xs) → AreApart xs
apart_rest a xs apart i j d l m = apart (suc i) (suc j) d (omega (arith, l)) (omega (arith, m))

module _ {p q : HeapParts} {entry : ℕ} (k : ArePartsOfHeap p) (t : TakesEntry p q entry) where
  first : begins entry ≡ true
  first = first_begins entry t.others (sym (ap (λ es. (parted es).front) t.was) ∙ k.tables.grouped)

  -- where the entry leads
  abbrev name : ℕ
  name = final (store_of (view_of p)) (start_in entry)

  popped_parted : parted (left q) ≡ record { front = []; groups = popped (view_of p).mourners }
  popped_parted =
      ap parted t.is ∙ parted_popped entry t.others first
      ∙ ap (λ es. let r : Parted = record { front = []; groups = popped (parted es).groups } in r) (sym t.was)

  front : (parted (left q)).front ≡ []
  front = ap (λ (r : Parted). r.front) popped_parted

  waiting_was : waiting_in (view_of p).mourners ≡ start_in entry ∷ waiting_in (view_of q).mourners
  waiting_was =
      waiting_left p k ∙ ap (map start_in) t.was
      ∙ ap (λ ss. start_in entry ∷ ss) (sym (waiting_are (left q) front ∙ ap (map start_in) t.is ∙ starts_regrouped t.others))

  ends_was : map (final (store_of (view_of p))) (waiting_in (view_of p).mourners) ≡ name ∷ map (final (store_of (view_of p))) (waiting_in (view_of q).mourners)
  ends_was = ap (map (final (store_of (view_of p)))) waiting_was

  apart_was : AreApart (name ∷ map (final (store_of (view_of p))) (waiting_in (view_of q).mourners))
  apart_was = subst (λ (ss : List ℕ). AreApart ss) ends_was k.whole.mourners.apart

  first_fired : HasFired (store_of (view_of p)) (start_in entry)
  first_fired =
      subst (HasFired (store_of (view_of p))) (ap (λ (ss : List ℕ). get_or ss 0 0) waiting_was)
      (k.whole.mourners.fired 0 0 (let e = ap (λ (ss : List ℕ). length ss) waiting_was in omega (arith, e)))

  pub popped_parts : ArePartsOfHeap q
  popped_parts = table_changed p q k t.changes front (record {
    some = groups_some (left q);
    fired = All-rest (HasFired (store_of (view_of p))) (start_in entry) (waiting_in (view_of q).mourners) (waiting_in (view_of p).mourners) waiting_was k.whole.mourners.fired;
    apart = apart_rest name (map (final (store_of (view_of p))) (waiting_in (view_of q).mourners)) apart_was;
  })

  popped_seen : view_of q ≡ record (view_of p) { mourners = popped (view_of p).mourners }
  popped_seen = ap view_of t.changes.rest ∙ ap (λ (r : Parted). let u : View = record (view_of p) { mourners = r.groups } in u) popped_parted

  -- the word of the entry's start can be followed
  pub entry_good : IsGood (view_of q) (word_of (start_in entry))
  entry_good = subst (λ (u : View). IsGood u (word_of (start_in entry))) (sym popped_seen) (fired_good (view_of p) (start_in entry) first_fired)

  -- the groups, by their names
  abbrev group : List ℕ
  group = map (final (store_of (view_of p))) (parted t.others).front

  abbrev groups : List (List ℕ)
  groups = mourners_of (store_of (view_of p)) (parted t.others).groups

  are : mourners_of (store_of (view_of p)) (view_of p).mourners ≡ (name ∷ group) ∷ groups
  are = ap (mourners_of (store_of (view_of p))) (ap (λ es. (parted es).groups) t.was ∙ first_group entry t.others first)

  -- no other of the group leads there
  others : (x : ℕ) → In group x → name ≢ x
  others x m =
      let h = store_of (view_of p) in
      let all : map (final h) (waiting_in (view_of p).mourners) ≡ name ∷ (group ++ map (final h) (waiting_in (parted t.others).groups)) =
      ap (λ gs. map (final h) (waiting_in gs)) (ap (λ es. (parted es).groups) t.was ∙ first_group entry t.others first)
      ∙ ap (λ ss. name ∷ ss) (map-append (final h) (parted t.others).front (waiting_in (parted t.others).groups)) in
      apart_first name (group ++ map (final h) (waiting_in (parted t.others).groups)) (subst (λ (ss : List ℕ). AreApart ss) all k.whole.mourners.apart) x
      (in_left group (map (final h) (waiting_in (parted t.others).groups)) x m)

  taken_graph : heap_graph (view_of q) ≡ record (heap_graph (view_of p)) { mourners = without_first name (name ∷ group) groups }
  taken_graph =
      ap heap_graph popped_seen
      ∙ ap (λ ms. let g : Graph = record (heap_graph (view_of p)) { mourners = ms } in g) (popped_named (final (store_of (view_of p))) (view_of p).mourners ∙ ap popped are ∙ popped_first name group groups others)

  settled : settled_word (store_of (view_of q)) (word_of (start_in entry)) ≡ word_of name
  settled =
      let s : ℕ = start_in entry in
      let place : word_of s / 8 ≡ s = omega arith in
      ap (λ (u : View). settled_word (store_of u) (word_of s)) popped_seen
      ∙ sym (leads (view_of p) (whole_sound (view_of p) k.whole) (word_of s) (fired_good (view_of p) s first_fired) (omega arith)).followed
      ∙ ap (λ t. word_of (final (store_of (view_of p)) t)) place

  pub takes : (word : ℕ) → word ≡ settled_word (store_of (view_of q)) (word_of (start_in entry)) → IsGood (view_of q) word → TakesMourner (view_of p) (view_of q) word
  takes word followed good = record {
    group = name ∷ group;
    groups = groups;
    are = are;
    name = name;
    waits = listed (name ∷ group) name (inl refl);
    is = followed ∙ settled;
    good = good;
    value = ap (λ (u : View). heap_value u word) popped_seen ∙ ap (heap_value (view_of p)) (followed ∙ settled) ∙ own_value (view_of p) name first_fired.ordinary;
    rest = popped_seen;
    graph = taken_graph;
    room = ap heap_room popped_seen;
  }

-- where no entry is left there is no group
pub no_groups : (p : HeapParts) → left p ≡ [] → (heap_graph (view_of p)).mourners ≡ []
unfolding parted
no_groups p none = ap (λ es. mourners_of (store_of (view_of p)) (parted es).groups) none
