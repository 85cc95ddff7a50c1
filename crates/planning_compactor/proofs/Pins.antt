-- The finger passes pinned chunks.
use Rattle.std.proofs.Common.{◌≡◌, ℕ, Bool, true, false, ◌+◌, ◌-◌, ◌<◌, ◌≤◌, ◌⊎◌, List, sym, ◌∙◌, subst, inl, inr, arith}
use Rattle.std.proofs.lemmas.Bool.{cases_eq, cases_lt, true≢false, and_parts}
use Rattle.spur_graph.specs.FreeSizes.{fits}
use Rattle.planning_compactor.specs.Spans.{Gap}
use Rattle.heap_walk.specs.Shapes.{place_at, words_at, end_at}
use Rattle.compaction_laws.specs.Compacting.{is_pinned}
use Rattle.planning_compactor.specs.Pins.{is_pin}
use Rattle.planning_compactor.specs.Planning.{IsIn, AreLaid, Passing, HasRoom}
use Rattle.planning_compactor.proofs.Spacing.{gap-same, gap-then, gap-more, gap-fits}
use Rattle.planning_compactor.proofs.Shapes.{words-two}

pub pin-in : (has : ℕ → Bool) (words : List ℕ) (low end q : ℕ) → IsIn (is_pin has words) low end q → IsIn has low end q
pin-in has words low end q k = ((and_parts (has q) (is_pinned words q) k.0).0, k.1, k.2)

module _ (has : ℕ → Bool) (words : List ℕ) (low end s n pin finger pin' finger' : ℕ) (laid : AreLaid has words low end) (here : IsIn has low end s)
    (r : Passing has words low end (place_at words s) pin finger pin' finger')
  where
    -- up to the next pinned chunk
    pub pass-to : (q : ℕ) → pin' ≤ q → q < end → ((k : ℕ) → pin' ≤ k → k < q → is_pin has words k ≡ false) → Passing has words low end (place_at words s) pin finger q finger'
    pass-to q l m none = record {
      behind = r.behind;
      passed = λ k h a b. elim (cases_lt k pin') [ inl c ↦ r.passed k h a c | inr c ↦ absurd (true≢false (sym h.0 ∙ none k c b)) ];
      ahead = λ k h a. r.ahead k h (omega (arith, l, a));
      on = (omega (arith, r.on.0, l), omega (arith, m));
      later = λ k h a b. elim (cases_lt k q) [ inl c ↦ absurd (true≢false (sym h.0 ∙ none k (r.later k h a b) c)) | inr c ↦ c ];
      down = r.down;
    }

    -- there is none
    pub pass-all : ((k : ℕ) → pin' ≤ k → k < end → is_pin has words k ≡ false) → Passing has words low end (place_at words s) pin finger end finger'
    pass-all none = record {
      behind = r.behind;
      passed = λ k h a b. elim (cases_lt k pin') [ inl c ↦ r.passed k h a c | inr c ↦ absurd (true≢false (sym h.0 ∙ none k c b)) ];
      ahead = λ k h a. absurd (let z = h.2 in omega (arith, z, a));
      on = (let z = r.on in omega (arith, z.0, z.1), omega arith);
      later = λ k h a b. absurd (true≢false (sym h.0 ∙ none k (r.later k h a b) h.2));
      down = r.down;
    }

    module _ (h : IsIn (is_pin has words) low end pin') where
      -- over a pinned chunk before the object
      pub pass-over : pin ≤ pin' → pin' < s → Passing has words low end (place_at words s) pin finger (pin' + 1) (end_at words pin')
      pass-over on l =
          let i : IsIn has low end pin' = pin-in has words low end pin' h in
          let f : Gap finger' (place_at words pin') = r.ahead pin' h (omega arith) in
          let g : Gap (place_at words pin') (end_at words pin') = gap-more (place_at words pin') (words_at words pin') (words-two words pin') in
          let far : Gap finger' (end_at words pin') = gap-then finger' (place_at words pin') (end_at words pin') f g in
          record {
            behind = λ x a. gap-then x finger' (end_at words pin') (r.behind x a) far;
            passed = λ k m a b. elim (cases_eq k pin') [
              | inl e ↦ subst (λ x. Gap (end_at words x) (end_at words pin')) (sym e) (gap-same (end_at words pin'))
              | inr d ↦ gap-then (end_at words k) finger' (end_at words pin') (r.passed k m a (omega (arith, b, d))) far
            ];
            ahead = λ k m a. laid.apart pin' k i (pin-in has words low end k m) (omega (arith, a));
            on = (omega (arith, on), let z = h.2 in omega (arith, z));
            later = λ k m a b. elim (cases_eq k pin') [
              | inl e ↦ absurd (let o = (laid.apart pin' s i here l).0 in let b' : place_at words s ≤ place_at words pin' = subst (λ x. place_at words s ≤ place_at words x) e b in omega (arith, o, b'))
              | inr d ↦ let z = r.later k m a b in omega (arith, z, d)
            ];
            down = laid.apart pin' s i here l;
          }

      -- what begins before the object starts before it
      pub starts-before : place_at words pin' < place_at words s → pin' < s
      starts-before l = elim (cases_lt pin' s) [
        | inl a ↦ a
        | inr a ↦ elim (cases_eq pin' s) [
          | inl e ↦ absurd (let l' : place_at words s < place_at words s = subst (λ x. place_at words x < place_at words s) e l in omega (arith, l'))
          | inr d ↦ absurd (let o = (laid.apart s pin' here (pin-in has words low end pin' h) (omega (arith, a, d))).0 in omega (arith, o, l))
        ]
      ]

      order : (q : ℕ) → IsIn (is_pin has words) low end q → pin' ≤ q → (q ≡ pin') ⊎ Gap (end_at words pin') (place_at words q)
      order q m a = elim (cases_eq q pin') [ inl e ↦ inl e | inr d ↦ inr (laid.apart pin' q (pin-in has words low end pin' h) (pin-in has words low end q m) (omega (arith, a, d))) ]

      -- none begins before the object
      pub room-far : place_at words s ≤ place_at words pin' → HasRoom has words low end (place_at words s) n pin' finger'
      room-far l q m a b = elim (order q m a) [
        | inl e ↦ absurd (let b' : place_at words pin' < place_at words s = subst (λ x. place_at words x < place_at words s) e b in omega (arith, b', l))
        | inr o ↦ absurd (let z = o.0 in omega (arith, z, b, l))
      ]

      -- the gap takes the object
      pub room-fits : fits n (place_at words pin' - finger') ≡ true → HasRoom has words low end (place_at words s) n pin' finger'
      room-fits ok q m a b =
          let g : Gap (finger' + n) (place_at words pin') = gap-fits finger' (place_at words pin') n (r.ahead pin' h (omega arith)).0 ok in
          elim (order q m a) [
            | inl e ↦ subst (λ x. Gap (finger' + n) (place_at words x)) (sym e) g
            | inr o ↦ gap-then (finger' + n) (place_at words pin') (place_at words q) g
                (gap-then (place_at words pin') (end_at words pin') (place_at words q) (gap-more (place_at words pin') (words_at words pin') (words-two words pin')) o)
          ]
