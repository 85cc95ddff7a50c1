-- Ephemerons fire one after another, in the order of the mark stack.
use Rattle.std.proofs.Common.{◌≡◌, ◌≢◌, ℕ, Bool, true, false, cond, ◌==◌, ◌||◌, ◌&&◌, ◌+◌, ◌<◌, List, [], ◌∷◌, ◌++◌, length, length-append, refl, sym, ap, ◌∙◌, subst, inl, inr, arith}
use Rattle.std.proofs.lemmas.Bool.{false≢true, cases_Bool, cases_eq, eq-eqb, eqb-false, ne_eqb, false_from_ne_true}
use Rattle.std.proofs.lemmas.List.Elements.{Contains-append_left, Contains-get_or, Contains-push, Contains-push_cases}
use Rattle.std.proofs.lemmas.List.Folds.{list_any-append}
use Rattle.std.proofs.lemmas.List.Quantifiers.{all_pairs_push}
use Rattle.std.specs.Prelude.{slice_index, slice_index_or}
use Rattle.std.specs.List.{Contains, list_any}
use Rattle.spur_graph.specs.Node.{Node}
use Rattle.spur_graph.specs.Graph.{Graph}
use Rattle.spur_graph.specs.Live.{is_keyed}
use Rattle.spur_graph.specs.Rounds.{mourning, names_dead}
use Rattle.spur_graph.specs.Heaps.{View, heap_graph}
use Rattle.graph_laws.proofs.Forms.{from_group, in_group}
use Rattle.spur_heap.specs.MarkBits.{marks}
use Rattle.spur_heap.specs.Mourning.{added, extended}
use Rattle.spur_heap.specs.Views.{node_in}
use Rattle.weak_ephemeron.specs.Steps.{FiresOne, slot_value}
use Rattle.weak_ephemeron.proofs.Nilling.{stays_dead}
use Rattle.weak_ephemeron.proofs.Staying.{stays_marks, stays_same, stays_then}
use Rattle.marker.specs.Firing.{FiresFirst, behind}
use Rattle.marker.specs.Waiting.{waits}
use Rattle.marker.proofs.Steps.{none-in-nil}

-- ---- groups

-- a mourner more in the last group
extended_last : (groups : List (List ℕ)) (group : List ℕ) (s : ℕ) → extended (groups ++ group ∷ []) s ≡ groups ++ (group ++ s ∷ []) ∷ []
unfolding extended
extended_last [] group s = refl
extended_last (g ∷ []) group s = refl
extended_last (g ∷ h ∷ groups) group s = ap (λ gs. g ∷ gs) (extended_last (h ∷ groups) group s)

pub added_behind : (groups : List (List ℕ)) (group : List ℕ) (s : ℕ) → added (behind groups group) s (length group == 0) ≡ behind groups (group ++ s ∷ [])
added_behind groups [] s = refl
added_behind groups (a ∷ group) s = ap (added (behind groups (a ∷ group)) s) (ne_eqb (length (a ∷ group)) 0 (λ e. omega (arith, e))) ∙ extended_last groups (a ∷ group) s

pub some_behind : (groups : List (List ℕ)) (group : List ℕ) → group ≢ [] → behind groups group ≡ groups ++ group ∷ []
some_behind groups [] some = absurd (some refl)
some_behind groups (a ∷ group) some = refl

pub push_some : {X : Type 0} (xs : List X) (x : X) → xs ++ x ∷ [] ≢ []
push_some xs x e = let l = ap (λ ys. length ys) e in omega (arith, l, length-append xs (x ∷ []))

-- ---- a stack so far

pub fires_none : (v : View) → FiresFirst 0 v 0 v
fires_none v = record {
  group = [];
  count = refl;
  stays = stays_same v;
  nodes = λ t. refl;
  mourners = refl;
  table = refl;
  only = λ t c. absurd (none-in-nil t c);
  all = λ k l on. absurd (omega (arith, l));
  apart = λ i j d l m. absurd (omega (arith, m));
  idle = λ e. refl;
}

module _ (i : ℕ) (a : View) (fired : ℕ) (b : View) (x : FiresFirst i a fired b) where
  pub fires_long : length b.words ≡ length a.words
  fires_long = ap (λ (g : Graph). g.next) x.stays.graph

  pub fires_marks : (t : ℕ) → marks b t ≡ marks a t
  fires_marks t = stays_marks x.stays t

  pub fires_stack : b.stack ≡ a.stack
  fires_stack = ap (λ (v : View). v.stack) x.stays.rest

  -- some have fired, so that there is a group
  pub fires_some : (fired == 0) ≡ false → b.mourners ≢ []
  fires_some off none =
      let some : x.group ≢ [] = λ e. let l = ap (λ (names : List ℕ). length names) e in eqb-false fired 0 off (x.count ∙ l) in
      push_some a.mourners x.group (sym (x.table ∙ some_behind a.mourners x.group some) ∙ none)

  -- what has fired does not wait, and of the others those do that did
  waits_fired : (s : ℕ) → list_any (λ t. t == s) x.group ≡ true → waits b s ≡ false
  waits_fired s on =
      let node : node_in b s ≡ record (node_in a s) { format = 1 } = x.nodes s ∙ ap (λ o. cond o (record (node_in a s) { format = 1 }) (node_in a s)) on in
      ap (λ n. is_keyed n && names_dead (marks b) (slot_value b s 0)) node

  node_other : (s : ℕ) → list_any (λ t. t == s) x.group ≡ false → node_in b s ≡ node_in a s
  node_other s off = x.nodes s ∙ ap (λ o. cond o (record (node_in a s) { format = 1 }) (node_in a s)) off

  waits_other : (s : ℕ) → list_any (λ t. t == s) x.group ≡ false → waits b s ≡ waits a s
  waits_other s off =
      let slot : slot_value b s 0 ≡ slot_value a s 0 = λ y. slice_index_or (node_other s off y).pointers 0 (x.stays.values 0 y) in
      let dead : names_dead (marks b) (slot_value b s 0) ≡ names_dead (marks a) (slot_value a s 0) = ap (names_dead (marks b)) slot ∙ stays_dead x.stays (slot_value a s 0) in
      λ y. is_keyed (node_other s off y) && dead y

  -- ---- one start more

  module _ (s : ℕ) (is : s ≡ slice_index a.stack i) (there : i < length a.stack) where
    fires_skipped : waits b s ≡ false → FiresFirst (i + 1) a fired b
    fires_skipped off = record {
      group = x.group;
      count = x.count;
      stays = x.stays;
      nodes = x.nodes;
      mourners = x.mourners;
      table = x.table;
      only = x.only;
      all = λ k l on. elim (cases_eq k i) [
        | inr n ↦ x.all k (omega (arith, l, n)) on
        | inl e ↦
            let here : slice_index a.stack k ≡ s = ap (slice_index a.stack) e ∙ sym is in
            elim (cases_Bool (list_any (λ t. t == s) x.group)) [
              | inl among ↦ subst (Contains x.group) (sym here) (from_group x.group s among)
              | inr apart ↦ absurd (false≢true (sym off ∙ waits_other s apart ∙ ap (waits a) (sym here) ∙ on))
            ]
      ];
      apart = x.apart;
      idle = x.idle;
    }

    module _ (on : waits b s ≡ true) (c : View) (y : FiresOne s (fired == 0) b c) where
      abbrev group : List ℕ
      group = x.group ++ s ∷ []

      outside : list_any (λ t. t == s) x.group ≡ false
      outside = false_from_ne_true _ (λ among. false≢true (sym (waits_fired s among) ∙ on))

      in_grown : (t : ℕ) → list_any (λ u. u == t) group ≡ (list_any (λ u. u == t) x.group || (s == t || false))
      in_grown t = list_any-append (λ u. u == t) x.group (s ∷ [])

      either : (p q : Bool) → q ≡ false → (p || (q || false)) ≡ p
      either true q e = refl
      either false true e = e
      either false false e = refl

      last : (p q : Bool) → q ≡ true → (p || (q || false)) ≡ true
      last true q e = refl
      last false true e = refl
      last false false e = e

      other_then : (t : ℕ) → t ≢ s → list_any (λ u. u == t) group ≡ list_any (λ u. u == t) x.group
      other_then t n = in_grown t ∙ either (list_any (λ u. u == t) x.group) (s == t) (ne_eqb s t (λ e. n (sym e)))

      here_then : list_any (λ u. u == s) group ≡ true
      here_then = in_grown s ∙ last (list_any (λ u. u == s) x.group) (s == s) (eq-eqb s s refl)

      abbrev mourner : Node → Node
      mourner n = record n { format = 1 }

      nodes_then : (t : ℕ) → node_in c t ≡ mourning group t (node_in a t)
      nodes_then t = y.nodes t ∙ elim (cases_eq t s) [
        | inl e ↦
            ap (λ o. cond o (mourner (node_in b s)) (node_in b t)) (eq-eqb t s e)
            ∙ ap mourner (node_other s outside)
            ∙ sym (ap (λ o. cond o (mourner (node_in a s)) (node_in a s)) here_then)
            ∙ ap (λ u. mourning group u (node_in a u)) (sym e)
        | inr n ↦
            ap (λ o. cond o (mourner (node_in b s)) (node_in b t)) (ne_eqb t s n)
            ∙ x.nodes t
            ∙ sym (ap (λ o. cond o (mourner (node_in a t)) (node_in a t)) (other_then t n))
      ]

      first : (fired == 0) ≡ (length x.group == 0)
      first = ap (λ n. n == 0) x.count

      fires_fired : FiresFirst (i + 1) a (fired + 1) c
      fires_fired = record {
        group = group;
        count = let n = x.count in omega (arith, n, length-append x.group (s ∷ []));
        stays = stays_then x.stays y.stays;
        nodes = nodes_then;
        mourners = y.mourners ∙ ap (λ gs. added gs s (fired == 0)) x.mourners ∙ ap (added (behind (heap_graph a).mourners x.group) s) first ∙ added_behind (heap_graph a).mourners x.group s;
        table = y.table ∙ ap (λ gs. added gs s (fired == 0)) x.table ∙ ap (added (behind a.mourners x.group) s) first ∙ added_behind a.mourners x.group s;
        only = λ t k. elim (Contains-push_cases x.group s t k) [
          | inl was ↦ x.only t was
          | inr new ↦ (subst (Contains a.stack) (sym is ∙ new) (Contains-get_or a.stack i 0 there), ap (waits a) (sym new) ∙ sym (waits_other s outside) ∙ on)
        ];
        all = λ k l w. elim (cases_eq k i) [
          | inl e ↦ subst (Contains group) (is ∙ ap (slice_index a.stack) (sym e)) (Contains-push x.group s)
          | inr n ↦ Contains-append_left x.group (s ∷ []) (slice_index a.stack k) (x.all k (omega (arith, l, n)) w)
        ];
        apart = all_pairs_push (λ t u. t ≢ u) x.group s x.apart (λ k d l e. false≢true (sym outside ∙ in_group x.group s (subst (Contains x.group) e (Contains-get_or x.group k d l))));
        idle = λ e. absurd (push_some x.group s e);
      }

    -- one or the other
    pub fires_more : (n : ℕ) (c : View) → (waits b s ≡ false → c ≡ b) → (waits b s ≡ true → FiresOne s (fired == 0) b c) → n ≡ cond (waits b s) 1 0 → FiresFirst (i + 1) a (fired + n) c
    fires_more n c skips fires count = elim (cases_Bool (waits b s)) [
      | inl on ↦ let one : n ≡ 1 = count ∙ ap (λ o. cond o 1 0) on in subst (λ m. FiresFirst (i + 1) a (fired + m) c) (sym one) (fires_fired on c (fires on))
      | inr off ↦
          let none : n ≡ 0 = count ∙ ap (λ o. cond o 1 0) off in
          let sum : fired ≡ fired + n = omega (arith, none) in
          subst (λ m. FiresFirst (i + 1) a m c) sum (subst (λ (v : View). FiresFirst (i + 1) a fired v) (sym (skips off)) (fires_skipped off))
    ]
