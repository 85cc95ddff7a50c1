-- The ephemerons that die are gathered on the mark stack.
use Rattle.std.proofs.Common.{◌≡◌, ◌≢◌, ℕ, Bool, true, false, cond, eqb, ◌&&◌, ◌+◌, ◌<◌, ◌≤◌, ◌/◌, List, [], ◌∷◌, ◌++◌, length, length-append, get_or, refl, sym, ap, ◌∙◌, subst, inl, inr, arith, Some}
use Rattle.std.proofs.lemmas.Bool.{false≢true, cases_Bool, cases_eq, cases_lt, and_parts, eqb-true, eq-eqb, ne_eqb, false_from_ne_true}
use Rattle.std.proofs.lemmas.List.Elements.{Contains-append_left, Contains-get_or, Contains-push, Contains-push_cases}
use Rattle.std.proofs.lemmas.List.Quantifiers.{all_pairs_push}
use Rattle.std.proofs.lemmas.List.Sums.{length-filter, sum_by-cons}
use Rattle.std.proofs.lemmas.Map.Keys.{IsDistinct-from_apart}
use Rattle.std.proofs.lemmas.Map.Made.{length-le_from_is_member}
use Rattle.std.proofs.lemmas.Map.Views.{Contains-from_any}
use Rattle.std.proofs.lemmas.Option.{same_Some}
use Rattle.std.specs.Cmp.{nat_eq_equiv}
use Rattle.std.specs.List.{Contains, count_by, filter, list_any}
use Rattle.spur_graph.specs.declared.answer.Value.TheVariants.{Ref}
use Rattle.spur_graph.specs.Node.{Node}
use Rattle.spur_graph.specs.Graph.{AreApart}
use Rattle.spur_graph.specs.Live.{Live, Reached, AtRoot, ByStrong, ByLoose, ByKey, HasKey, is_keyed, none}
use Rattle.spur_graph.specs.Rounds.{Decides}
use Rattle.spur_graph.specs.Ordinary.{is_ordinary, ordinary_starts}
use Rattle.spur_graph.specs.Heaps.{View, IsWhole, heap_graph, is_marked}
use Rattle.spur_graph.proofs.Reaching.{live_by_rules}
use Rattle.heap_cells.proofs.AddedRoom.{any-has}
use Rattle.heap_cells.proofs.CellKinds.{there_starts}
use Rattle.heap_cells.proofs.Members.{in_filter}
use Rattle.heap_cells.proofs.References.{ordinary_there}
use Rattle.spur_heap.specs.MarkBits.{StartsAt, marks}
use Rattle.spur_heap.specs.Views.{IsOrdinary, node_in, store}
use Rattle.spur_heap.proofs.FewMourners.{few_apart}
use Rattle.spur_heap.proofs.FewObjects.{half_ordinary}
use Rattle.spur_heap.proofs.NodesAt.{get_there}
use Rattle.spur_heap.proofs.Puts.{whole_sound}
use Rattle.spur_heap.proofs.Starting.{start_below}
use Rattle.marker.specs.Firing.{Gathers, dies}
use Rattle.marker.specs.Waiting.{Progress, waits}
use Rattle.marker.specs.Visits.{HasRoom, IsStackOf, left}
use Rattle.marker.proofs.Keeping.{among_ordinary}
use Rattle.marker.proofs.MarkedKeys.{ready_key, waits_parts}
use Rattle.marker.proofs.Steps.{keyed_format, none-in-nil}
use Rattle.marker.proofs.Working.{with_stack}

-- ---- what dies

pub dies_parts : (v : View) (s : ℕ) → dies v s ≡ true → (marks v s ≡ true) × (waits v s ≡ true)
dies_parts v s on = and_parts (marks v s) (waits v s) on

pub dies_ordinary : (v : View) (s : ℕ) → dies v s ≡ true → IsOrdinary v s
dies_ordinary v s on = (and_parts (is_ordinary (store v) s) (is_marked v.words s) (dies_parts v s on).0).0

-- what has another format than an ephemeron does not
pub other_lives : (v : View) (s : ℕ) → (marks v s ≡ true → (node_in v s).format ≢ 5) → dies v s ≡ false
other_lives v s other = false_from_ne_true (dies v s) (λ on.
    let parts = dies_parts v s on in
    other parts.0 (keyed_format (node_in v s) (waits_parts v s parts.1).0))

-- ---- a walk so far

pub gathers_none : (v : View) → v.stack ≡ [] → Gathers 0 v v
gathers_none v empty = record {
  rest = refl;
  only = λ t c. absurd (none-in-nil t (subst (λ (ss : List ℕ). Contains ss t) empty c));
  all = λ t l on. absurd (omega (arith, l));
  apart = subst (λ (ss : List ℕ). AreApart ss) (sym empty) (λ i j d l m. absurd (omega (arith, m)));
}

module _ (i : ℕ) (a b : View) (x : Gathers i a b) where
  pub gathers_long : length b.words ≡ length a.words
  gathers_long = ap (λ (v : View). length v.words) x.rest

  same_dies : (t : ℕ) → dies b t ≡ dies a t
  same_dies t = ap (λ (v : View). dies v t) x.rest

  ordinary_now : (t : ℕ) → dies a t ≡ true → IsOrdinary b t
  ordinary_now t on = dies_ordinary b t (same_dies t ∙ on)

  marked_starts : (t : ℕ) → dies a t ≡ true → StartsAt b t
  marked_starts t on = there_starts ((store b).cell t) (ordinary_there (store b) t (ordinary_now t on))

  pub dying_below : IsWhole b → (t : ℕ) → dies a t ≡ true → t < length a.words
  dying_below whole t on = subst (λ n. t < n) gathers_long (start_below b whole t (marked_starts t on))

  pushed : (s : ℕ) → i ≤ s → AreApart (b.stack ++ s ∷ [])
  pushed s from = all_pairs_push (λ t u. t ≢ u) b.stack s x.apart (λ k d l e. let low = (x.only (get_or b.stack k d) (Contains-get_or b.stack k d l)).0 in omega (arith, low, from, e))

  -- the stack has room for one more
  pub gathers_room : IsWhole b → (s : ℕ) → i ≤ s → dies b s ≡ true → length b.stack < length b.words / 2
  gathers_room whole s from on =
      let few = few_apart b (whole_sound b whole) (b.stack ++ s ∷ []) (pushed s from) (λ k d l. ordinary (get_or (b.stack ++ s ∷ []) k d) (Contains-get_or (b.stack ++ s ∷ []) k d l)) in
      omega (arith, few, length-append b.stack (s ∷ []))
    where
      ordinary : (t : ℕ) → Contains (b.stack ++ s ∷ []) t → IsOrdinary b t
      ordinary t c = elim (Contains-push_cases b.stack s t c) [
        | inl was ↦ ordinary_now t (x.only t was).1
        | inr new ↦ subst (λ u. IsOrdinary b u) new (dies_ordinary b s on)
      ]

  -- ---- one start more

  module _ (s : ℕ) (from : i ≤ s) (gap : (t : ℕ) → i ≤ t → t < s → StartsAt b t → ⊥) where
    gathers_skipped : dies b s ≡ false → Gathers (s + 1) a b
    gathers_skipped off = record {
      rest = x.rest;
      only = λ t c. let o = x.only t c in (omega (arith, o.0, from), o.1);
      all = λ t l on. elim (cases_lt t i) [
        | inl low ↦ x.all t low on
        | inr high ↦ elim (cases_eq t s) [
          | inl e ↦ absurd (false≢true (sym off ∙ same_dies s ∙ ap (dies a) (sym e) ∙ on))
          | inr n ↦ absurd (gap t high (omega (arith, l, n)) (marked_starts t on))
        ]
      ];
      apart = x.apart;
    }

    gathers_put : dies b s ≡ true → Gathers (s + 1) a (with_stack b (b.stack ++ s ∷ []))
    gathers_put on = record {
      rest = ap (λ (v : View). with_stack v (b.stack ++ s ∷ [])) x.rest;
      only = λ t c. elim (Contains-push_cases b.stack s t c) [
        | inl was ↦ let o = x.only t was in (omega (arith, o.0, from), o.1)
        | inr new ↦ (omega (arith, new), ap (dies a) (sym new) ∙ sym (same_dies s) ∙ on)
      ];
      all = λ t l dying. elim (cases_lt t i) [
        | inl low ↦ Contains-append_left b.stack (s ∷ []) t (x.all t low dying)
        | inr high ↦ elim (cases_eq t s) [
          | inl e ↦ subst (Contains (b.stack ++ s ∷ [])) (sym e) (Contains-push b.stack s)
          | inr n ↦ absurd (gap t high (omega (arith, l, n)) (marked_starts t dying))
        ]
      ];
      apart = pushed s from;
    }

    -- one or the other
    pub gathers_more : (c : View) → (dies b s ≡ false → c ≡ b) → (dies b s ≡ true → c ≡ with_stack b (b.stack ++ s ∷ [])) → Gathers (s + 1) a c
    gathers_more c skips puts = elim (cases_Bool (dies b s)) [
      | inl on ↦ subst (λ (v : View). Gathers (s + 1) a v) (sym (puts on)) (gathers_put on)
      | inr off ↦ subst (λ (v : View). Gathers (s + 1) a v) (sym (skips off)) (gathers_skipped off)
    ]

  -- no start is left
  pub gathers_every : IsWhole b → ((t : ℕ) → i ≤ t → StartsAt b t → ⊥) → Gathers (length a.words) a b
  gathers_every whole gap = record {
    rest = x.rest;
    only = λ t c. let on = (x.only t c).1 in (dying_below whole t on, on);
    all = λ t l on. elim (cases_lt t i) [ inl low ↦ x.all t low on | inr high ↦ absurd (gap t high (marked_starts t on)) ];
    apart = x.apart;
  }

-- ---- all are gathered

left_and_rest : (m : ℕ → Bool) (xs : List ℕ) → left m xs + count_by m xs ≡ length xs
left_and_rest m [] = refl
left_and_rest m (x ∷ xs) =
    let r = left_and_rest m xs in
    let c = sum_by-cons (λ y. cond (m y) 1 0) x xs in
    let one = one_more (m x) in
    omega (arith, r, c, one)
  where
    one_more : (b : Bool) → cond b 0 1 + cond b 1 0 ≡ 1
    one_more true = refl
    one_more false = refl

module _ (a b : View) (x : Gathers (length a.words) a b) (whole : IsWhole b) where
  marked_now : (t : ℕ) → Contains b.stack t → marks b t ≡ true
  marked_now t among = (dies_parts b t (same_dies (length a.words) a b x t ∙ (x.only t among).1)).0

  pub gathered_stack : IsStackOf b
  gathered_stack t among = ordinary_now (length a.words) a b x t (x.only t among).1

  pub gathered_room : HasRoom b
  gathered_room =
      let starts : List ℕ = ordinary_starts (store b) in
      let distinct = IsDistinct-from_apart eqb b.stack (λ i j d l m. ne_eqb _ _ (x.apart i j d l m)) in
      let among : (q : ℕ) → list_any (eqb q) b.stack ≡ true → list_any (eqb q) (filter (marks b) starts) ≡ true = λ q on.
      let here = Contains-from_any {eq = eqb} eqb-true q b.stack on in
      any-has (eqb q) (filter (marks b) starts) q (in_filter (marks b) starts q (among_ordinary b whole q (gathered_stack q here)) (marked_now q here)) (eq-eqb q q refl) in
      let few = length-le_from_is_member nat_eq_equiv b.stack (filter (marks b) starts) distinct among in
      let all = left_and_rest (marks b) starts in
      let half = half_ordinary b (whole_sound b whole) in
      omega (arith, few, length-filter (marks b) starts, all, half)

  -- so a marking can go on from them
  module _ (exact : Decides (marks a) (Live (heap_graph a) none)) where
    reached : (t : ℕ) → marks a t ≡ true → Reached (heap_graph a) none none t
    reached t on = (live_by_rules (heap_graph a) none none t).0 (exact.sound t on)

    found : (t : ℕ) → Reached (heap_graph a) none none t → marks a t ≡ true
    found t r = exact.whole t ((live_by_rules (heap_graph a) none none t).1 r)

    by_key : (s t : ℕ) → marks a s ≡ true → IsOrdinary a s → is_keyed (node_in a s) ≡ true → HasKey (node_in a s) (λ c. marks a c ≡ true) → Contains (node_in a s).pointers (Ref t) → marks a t ≡ true
    by_key s t on there is key v = elim key.2 [
      | inl loose ↦ found t (ByLoose s t (node_in a s) key.0 (reached s on) refl (get_there a s there) is key.1 loose v)
      | inr w ↦ found t (ByKey s w.0 t (node_in a s) (reached s on) refl (get_there a s there) is (key.1 ∙ ap Some w.1) (reached w.0 w.2) v)
    ]

    progress_was : Progress (heap_graph a) none (marks a) b.stack
    progress_was = record {
      marking = record {
        rooted = λ t root. found t (AtRoot t root);
        sound = reached;
        stacked = λ t c. (dies_parts a t (x.only t c).1).0;
        done = λ s t n on speaks there v. inr (found t (ByStrong s t n (reached s on) refl there v));
      };
      keyed = λ s t n on speaks there is v.
          let ordinary : IsOrdinary a s = (and_parts (is_ordinary (store a) s) (is_marked a.words s) on).0 in
          let same : n ≡ node_in a s = same_Some n (node_in a s) (sym there ∙ get_there a s ordinary) in
          elim (cases_Bool (waits a s)) [
            | inl w ↦ let dying : dies a s ≡ true = (λ i. on i && w i) in inl (x.all s (dying_below (length a.words) a b x whole s dying) dying)
            | inr off ↦
                let keyed = ap is_keyed (sym same) ∙ is in
                inr (by_key s t on ordinary keyed (ready_key a s off keyed) (subst (λ (y : Node). Contains y.pointers (Ref t)) same v))
          ];
    }

    pub gathered_progress : Progress (heap_graph b) none (marks b) b.stack
    gathered_progress = subst (λ (v : View). Progress (heap_graph v) none (marks v) b.stack) (sym x.rest) progress_was
