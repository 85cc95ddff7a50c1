-- What a marking keeps: the heap but for mark bits and the stack, and how many objects are not marked.
use Rattle.std.proofs.Common.{◌≡◌, ℕ, Bool, true, false, ◌+◌, ◌<◌, ◌≤◌, List, [], ◌∷◌, length, refl, sym, ap, ◌∙◌, subst, inl, inr, arith}
use Rattle.std.proofs.lemmas.Bool.{cases_Bool, cases_eq, and_right}
use Rattle.spur_graph.specs.Cells.{Store, is_moved, is_there}
use Rattle.spur_graph.specs.Ordinary.{body_at, is_ordinary, is_good_word, ordinary_starts}
use Rattle.spur_graph.specs.CellGraph.{read, node_of}
use Rattle.spur_graph.specs.Heaps.{View, IsWhole, store_of, chunks_of, heap_graph, heap_room, heap_value, is_marked, own_name}
use Rattle.heap_cells.specs.Rows.{starts_of}
use Rattle.heap_cells.proofs.CellKinds.{there_starts}
use Rattle.heap_cells.proofs.Members.{In, in_list, in_filter}
use Rattle.heap_cells.proofs.References.{ordinary_there}
use Rattle.spur_heap.specs.MarkBits.{marks}
use Rattle.spur_heap.specs.Words.{body_in}
use Rattle.spur_heap.specs.Views.{IsOrdinary, node_in, store}
use Rattle.spur_heap.proofs.Hops.{start_at}
use Rattle.spur_heap.proofs.Puts.{whole_sound}
use Rattle.spur_heap.proofs.Starting.{start_below}
use Rattle.marker.specs.Visits.{left, unmarked, MarksOnly, Keeps}

-- ---- the same heap

pub keeps_same : (v : View) → MarksOnly v v
keeps_same v = record { store = refl; graph = refl; room = refl; rest = refl }

pub keeps_then : {a b c : View} → MarksOnly a b → MarksOnly b c → MarksOnly a c
keeps_then {a} {b} {c} k l = record {
  store = l.store ∙ k.store;
  graph = l.graph ∙ k.graph;
  room = l.room ∙ k.room;
  rest = l.rest ∙ ap (λ (v : View). record v { words = c.words; stack = c.stack }) k.rest;
}

pub keeps_back : {a b : View} → MarksOnly a b → MarksOnly b a
keeps_back {a} {b} k = record {
  store = sym k.store;
  graph = sym k.graph;
  room = sym k.room;
  rest = sym (ap (λ (v : View). record v { words = a.words; stack = a.stack }) k.rest);
}

-- where another stack is all that changes
pub keeps_stacked : (a b : View) (stack : List ℕ) → b ≡ record a { stack = stack } → MarksOnly a b
keeps_stacked a b stack is = subst (λ (v : View). MarksOnly a v) (sym is) (record { store = refl; graph = refl; room = refl; rest = refl })

-- where words are others
pub keeps_words : (a b : View) (words : List ℕ) → store b ≡ store a → heap_graph b ≡ heap_graph a → heap_room b ≡ heap_room a → b ≡ record a { words = words } → MarksOnly a b
keeps_words a b words same graph room is = record {
  store = same;
  graph = graph;
  room = room;
  rest = is ∙ (λ i. record a { words = (sym is i).words; stack = (sym is i).stack });
}

module _ {a b : View} (k : MarksOnly a b) where
  pub same_ordinary : (s : ℕ) → is_ordinary (store b) s ≡ is_ordinary (store a) s
  same_ordinary s = ap (λ (h : Store). is_ordinary h s) k.store

  pub same_moved : (s : ℕ) → is_moved ((store b).cell s) ≡ is_moved ((store a).cell s)
  same_moved s = ap (λ (h : Store). is_moved (h.cell s)) k.store

  pub same_node : (s : ℕ) → node_in b s ≡ node_in a s
  same_node s = ap (λ (h : Store). node_of own_name h (body_at h s)) k.store

  pub same_value : (w : ℕ) → heap_value b w ≡ heap_value a w
  same_value w = ap (λ (h : Store). read own_name h w) k.store

  pub same_starts : ordinary_starts (store b) ≡ ordinary_starts (store a)
  same_starts = ap (λ (h : Store). ordinary_starts h) k.store

  pub same_length : length b.words ≡ length a.words
  same_length = ap (λ (h : Store). h.names) k.store

  pub keeps_all : Keeps a b
  keeps_all = record {
    graph = k.graph;
    room = k.room;
    values = same_value;
    goods = λ w. ap (λ (h : Store). is_good_word h w) k.store;
    ordinary = same_ordinary;
    objects = λ s. ap (λ (h : Store). is_there (h.cell s)) k.store;
    forwarders = same_moved;
    nodes = same_node;
    starts = same_starts;
    phase = ap (λ (v : View). v.phase) k.rest;
    long = same_length;
  }

-- ---- counting what is not marked

fewer_left : (m m' : ℕ → Bool) → ((t : ℕ) → m t ≡ true → m' t ≡ true) → (xs : List ℕ) → left m' xs ≤ left m xs
fewer_left m m' keeps [] = omega arith
fewer_left m m' keeps (x ∷ xs) =
    let r = fewer_left m m' keeps xs in
    elim (cases_Bool (m x)) [
      | inl on ↦ let on' = keeps x on in rw (on, on') (omega (arith, r))
      | inr off ↦ elim (cases_Bool (m' x)) [
        | inl on ↦ rw (off, on) (omega (arith, r))
        | inr off' ↦ rw (off, off') (omega (arith, r))
      ]
    ]

one_left : (m m' : ℕ → Bool) → ((t : ℕ) → m t ≡ true → m' t ≡ true) → (s : ℕ) → m s ≡ false → m' s ≡ true → (xs : List ℕ) → In xs s → left m' xs + 1 ≤ left m xs
one_left m m' keeps s off on [] k = absurd k
one_left m m' keeps s off on (x ∷ xs) k =
    let rest = fewer_left m m' keeps xs in
    elim (cases_eq x s) [
      | inl e ↦ let off' : m x ≡ false = ap m e ∙ off in let on' : m' x ≡ true = ap m' e ∙ on in rw (off', on') (omega (arith, rest))
      | inr n ↦
          let r = one_left m m' keeps s off on xs (elim k [ inl e ↦ absurd (n e) | inr m ↦ m ]) in
          elim (cases_Bool (m x)) [
            | inl y ↦ let y' = keeps x y in rw (y, y') (omega (arith, r))
            | inr z ↦ elim (cases_Bool (m' x)) [
              | inl y ↦ rw (z, y) (omega (arith, r))
              | inr z' ↦ rw (z, z') (omega (arith, r))
            ]
          ]
    ]

-- an object has the format of its header
pub node_format : (v : View) (s : ℕ) → (node_in v s).format ≡ (body_in v s).format
unfolding node_of
node_format v s = refl

-- an ordinary object starts at a word
pub ordinary_below : (v : View) → IsWhole v → (s : ℕ) → IsOrdinary v s → s < length v.words
ordinary_below v whole s there = start_below v whole s (there_starts ((store v).cell s) (ordinary_there (store v) s there))

-- it is one of the ordinary starts
pub among_ordinary : (v : View) → IsWhole v → (s : ℕ) → IsOrdinary v s → In (ordinary_starts (store v)) s
unfolding ordinary_starts
among_ordinary v whole s there =
    let starts = there_starts ((store_of v).cell s) (ordinary_there (store_of v) s there) in
    in_filter (is_ordinary (store_of v)) (store_of v).starts s (in_list (starts_of (chunks_of v)) s (start_at v (whole_sound v whole) s starts).stands) there

unmarked_at : (v : View) (s : ℕ) → is_marked v.words s ≡ false → marks v s ≡ false
unmarked_at v s off = and_right (is_ordinary (store v) s) (is_marked v.words s) off

pub some_unmarked : (v : View) → IsWhole v → (s : ℕ) → IsOrdinary v s → is_marked v.words s ≡ false → 1 ≤ unmarked v
some_unmarked v whole s there off =
    let l = one_left (marks v) (λ t. true) (λ t e. refl) s (unmarked_at v s off) refl (ordinary_starts (store v)) (among_ordinary v whole s there) in
    omega (arith, l)

-- an object was marked
pub one_fewer : (a b : View) → IsWhole a → ordinary_starts (store b) ≡ ordinary_starts (store a) → ((t : ℕ) → marks a t ≡ true → marks b t ≡ true) → (s : ℕ) → IsOrdinary a s → is_marked a.words s ≡ false → marks b s ≡ true
    → unmarked b + 1 ≤ unmarked a
one_fewer a b whole starts keeps s there off on =
    let l = one_left (marks a) (marks b) keeps s (unmarked_at a s off) on (ordinary_starts (store a)) (among_ordinary a whole s there) in
    let same : unmarked b ≡ left (marks b) (ordinary_starts (store a)) = ap (left (marks b)) starts in
    omega (arith, l, same)
