-- The table beside the walk.
use Rattle.std.proofs.Common.{◌≡◌, ◌≢◌, ℕ, Bool, true, false, ◌+◌, ◌/◌, ◌<◌, ◌≤◌, List, length, sym, ap, ◌∙◌, inl, inr, arith, MatchOption, IfSome, IfNone, Option, Some, None}
use Rattle.std.proofs.lemmas.Bool.{cases_eq, cases_lt, true≢false, and_parts, leb-true}
use Rattle.heap_walk.specs.declared.saved.Saved.{Saved}
use Rattle.planning_compactor.specs.Entries.{start_of, IsTable, IsElsewhere}
use Rattle.planning_compactor.specs.Readdressed.{is_between, CanReaddress, Readdressed}

pub between-bounds : (low high w : ℕ) → is_between low high w ≡ true → (low ≤ w / 8) × (w / 8 ≤ high)
unfolding is_between
between-bounds low high w e = let a = and_parts _ _ e in let b = and_parts _ _ a.1 in (leb-true low (w / 8) b.0, leb-true (w / 8) high b.1)

module _ (has : ℕ → Bool) (es : List Saved) (words : List ℕ) (at k s : ℕ) (t : IsTable es words)
    (entries : (m : ℕ) → m < length es → has (start_of es m) ≡ true)
    (before : (m : ℕ) → m < k → m < length es → start_of es m < at)
    (ahead : (m : ℕ) → k ≤ m → m < length es → at ≤ start_of es m)
    (u : at ≤ s) (none : (j : ℕ) → at ≤ j → j < s → has j ≡ false)
  where
    from-here : (m : ℕ) → k ≤ m → m < length es → s ≤ start_of es m
    from-here m l b = elim (cases_lt (start_of es m) s) [ inl less ↦ absurd (true≢false (sym (entries m b) ∙ none (start_of es m) (ahead m l b) less)) | inr not ↦ not ]

    later : (k < length es → start_of es k ≢ s) → (m : ℕ) → k ≤ m → m < length es → s < start_of es m
    later n m l b = elim (cases_eq m k) [
      | inl e ↦
          let h = from-here m l b in
          let d : start_of es m ≢ s = λ q. n (omega (arith, e, b)) (ap (start_of es) (sym e) ∙ q) in
          omega (arith, h, d)
      | inr d ↦ let r = t.rising k m (omega (arith, l, d)) b in let h = from-here k (omega arith) (omega (arith, l, b)) in omega (arith, r, h)
    ]

    pub kept-of : (o : Option ℕ) → IfSome o (λ m. (m ≡ k) × (k < length es) × (start_of es k ≡ s)) → IfNone o (k < length es → start_of es k ≢ s)
        → MatchOption o (IsElsewhere es (s + 1)) (λ m. (m < length es) × (start_of es m ≡ s))
    kept-of (Some m) a n = (omega (arith, a.0, a.1), ap (start_of es) a.0 ∙ a.2)
    kept-of None a n = λ m b e. elim (cases_lt m k) [
      | inl l ↦ let r = before m l b in omega (arith, r, u, e)
      | inr l ↦ let r = later n m l b in omega (arith, r, e)
    ]

    pub before-next : (o : Option ℕ) (k' : ℕ) → IfSome o (λ m. (m ≡ k) × (k < length es) × (start_of es k ≡ s)) → IfNone o (k < length es → start_of es k ≢ s)
        → IfSome o (λ m. k' ≡ k + 1) → IfNone o (k' ≡ k) → (m : ℕ) → m < k' → m < length es → start_of es m < s + 1
    before-next (Some i) k' a n f g m l b = elim (cases_eq m k) [
      | inl e ↦ omega (arith, ap (start_of es) e, a.2)
      | inr d ↦ let r = before m (omega (arith, l, f, d)) b in omega (arith, r, u)
    ]
    before-next None k' a n f g m l b = let r = before m (omega (arith, l, g)) b in omega (arith, r, u)

    pub ahead-next : (o : Option ℕ) (k' : ℕ) → IfSome o (λ m. (m ≡ k) × (k < length es) × (start_of es k ≡ s)) → IfNone o (k < length es → start_of es k ≢ s)
        → IfSome o (λ m. k' ≡ k + 1) → IfNone o (k' ≡ k) → (m : ℕ) → k' ≤ m → m < length es → s + 1 ≤ start_of es m
    ahead-next (Some i) k' a n f g m l b = let r = t.rising k m (omega (arith, l, f)) b in omega (arith, r, a.2)
    ahead-next None k' a n f g m l b = let r = later n m (omega (arith, l, g)) b in omega (arith, r)

    pub few-next : (o : Option ℕ) (k' : ℕ) → k ≤ at → IfSome o (λ m. k' ≡ k + 1) → IfNone o (k' ≡ k) → k' ≤ s + 1
    few-next (Some i) k' l f g = omega (arith, f, l, u)
    few-next None k' l f g = omega (arith, g, l, u)

pub walk-end : (has : ℕ → Bool) (es es' : List Saved) (words words' : List ℕ) (low high at : ℕ) → CanReaddress has es words low high → Readdressed has es es' words words' low high at
    → at ≤ length words → ((j : ℕ) → at ≤ j → j < length words → has j ≡ false) → Readdressed has es es' words words' low high (length words)
walk-end has es es' words words' low high at c r u none =
    let before : (t : ℕ) → has t ≡ true → t < at = λ t g. elim (cases_lt t at) [ inl a ↦ a | inr a ↦ let b = (c.live.stands t g).below in absurd (true≢false (sym g ∙ none t a (omega (arith, b)))) ] in
    record {
      same_words = r.same_words;
      same_table = r.same_table;
      starts = r.starts;
      targets = r.targets;
      slots = λ t i g l m. r.slots t i g (before t g) m;
      others = λ j f. r.others j (λ t g l m. f t g (omega (arith, l, u)) m);
      outside = λ j f. r.outside j (λ t g l m. f t g (omega (arith, l, u)) m);
    }
