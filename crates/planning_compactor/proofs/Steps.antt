-- One chunk after another is planned.
use Rattle.std.proofs.Common.{◌≡◌, ◌≢◌, ℕ, Bool, true, false, ◌+◌, ◌-◌, ◌*◌, ◌/◌, ◌<◌, ◌≤◌, ◌⊎◌, List, length, set, sym, ap, ◌∙◌, subst, inl, inr, arith}
use Rattle.std.proofs.lemmas.Bool.{cases_Bool, cases_eq, cases_lt, true≢false, and_parts, and_from}
use Rattle.std.proofs.lemmas.List.{get_or-set_same, get_or-set_other}
use Rattle.planning_compactor.specs.Spans.{Gap}
use Rattle.heap_walk.specs.declared.saved.Saved.{Saved}
use Rattle.planning_compactor.specs.Entries.{entry, start_of}
use Rattle.heap_walk.specs.Shapes.{lead_at, place_at, words_at, end_at}
use Rattle.compaction_laws.specs.Compacting.{is_pinned}
use Rattle.planning_compactor.specs.Pins.{is_pin}
use Rattle.planning_compactor.specs.Slid.{target_of, to_at, from_at, long_at}
use Rattle.planning_compactor.specs.Planning.{IsIn, AreLaid, AreAhead, Passing, HasRoom, IsAbsent, HasMoves, IsPlan}
use Rattle.planning_compactor.proofs.Spacing.{gap-same, gap-then, gap-more, gap-both}
use Rattle.planning_compactor.proofs.Shapes.{words-two}
use Rattle.planning_compactor.proofs.Pins.{pin-in}

module _ (has : ℕ → Bool) (words : List ℕ) (low end s next pin finger : ℕ) (es : List Saved) (n : ℕ) (laid : AreLaid has words low end) (here : IsIn has low end s)
    (on : next ≤ s) (none : (k : ℕ) → next ≤ k → k < s → has k ≡ false) (r : IsPlan has words low end next pin finger es n)
  where
    -- a chunk before the next is before this one
    earlier : (t : ℕ) → IsIn has low end t → t < s → t < next
    earlier t i l = elim (cases_lt t next) [ inl a ↦ a | inr a ↦ absurd (true≢false (sym i.0 ∙ none t a l)) ]

    -- a pinned chunk stays, and is ahead
    pub pinned-step : is_pinned words s ≡ true → IsPlan has words low end (s + 1) pin finger es n
    pinned-step is = record {
      inside = (r.inside.0, r.inside.1, let z = r.inside.2 in omega (arith, z, on));
      floor = r.floor;
      coming = λ t i l. r.coming t i (omega (arith, on, l));
      ahead = r.ahead;
      behind = λ t i l a p. elim (cases_eq t s) [
        | inl e ↦ absurd (let q : s < pin = subst (λ x. x < pin) e (p (ap (is_pinned words) e ∙ is)) in let z = r.later s (is-pin, here.1, here.2) on in omega (arith, q, z))
        | inr d ↦ r.behind t i (earlier t i (omega (arith, l, d))) a p
      ];
      moved = r.moved;
      later = λ q i l. r.later q i (omega (arith, on, l));
    }
      where
        is-pin : is_pin has words s ≡ true
        is-pin = and_from (has s) (is_pinned words s) here.0 is

    pub finger-down : Gap finger (place_at words s)
    finger-down = r.coming s here on

    module _ (pin' finger' : ℕ) (m : Passing has words low end (place_at words s) pin finger pin' finger') (room : HasRoom has words low end (place_at words s) (words_at words s) pin' finger') (off : is_pinned words s ≡ false) where
      up : Gap finger' (finger' + words_at words s)
      up = gap-more finger' (words_at words s) (words-two words s)

      far : Gap finger finger'
      far = m.behind finger (gap-same finger)

      wide : Gap (finger' + words_at words s) (end_at words s)
      wide = gap-both finger' (place_at words s) (words_at words s) m.down

      coming' : (t : ℕ) → IsIn has low end t → s < t → Gap (finger' + words_at words s) (place_at words t)
      coming' t i l = gap-then (finger' + words_at words s) (end_at words s) (place_at words t) wide (laid.apart s t here i l)

      ahead' : AreAhead has words low end pin' (finger' + words_at words s)
      ahead' q i l = elim (cases_lt (place_at words q) (place_at words s)) [
        | inl a ↦ room q i l a
        | inr a ↦ coming' q (pin-in has words low end q i) (elim (cases_lt s q) [
          | inl b ↦ b
          | inr b ↦ elim (cases_eq q s) [
            | inl e ↦ absurd (true≢false (sym (and_parts (has s) (is_pinned words s) (subst (λ x. is_pin has words x ≡ true) e i.0)).1 ∙ off))
            | inr d ↦ absurd (let z = (laid.apart q s (pin-in has words low end q i) here (omega (arith, b, d))).0 in omega (arith, z, a))
          ]
        ])
      ]

      behind' : (t : ℕ) → IsIn has low end t → t < s → IsAbsent es n t → (is_pinned words t ≡ true → t < pin') → Gap (end_at words t) finger'
      behind' t i l a p = elim (cases_Bool (is_pinned words t)) [
        | inr f ↦ m.behind (end_at words t) (r.behind t i (earlier t i l) a (λ q. absurd (true≢false (sym q ∙ f))))
        | inl q ↦ elim (cases_lt t pin) [
          | inl b ↦ m.behind (end_at words t) (r.behind t i (earlier t i l) a (λ k. b))
          | inr b ↦ m.passed t (and_from (has t) (is_pinned words t) i.0 q, i.1, i.2) b (p q)
        ]
      ]

      later' : (q : ℕ) → IsIn (is_pin has words) low end q → s + 1 ≤ q → pin' ≤ q
      later' q i l = m.later q i (r.later q i (omega (arith, on, l))) (let z = (laid.apart s q here (pin-in has words low end q i) (omega (arith, l))).0 in omega (arith, z))

      inside' : (low ≤ pin') × (pin' ≤ end) × (low ≤ s + 1)
      inside' = (let z = r.inside.0 in let y = m.on.0 in omega (arith, z, y), m.on.1, let z = r.inside.2 in omega (arith, z, on))

      floor' : Gap low finger'
      floor' = gap-then low finger finger' r.floor far

      -- a chunk that is planned where it stands
      pub stay-step : finger' + lead_at words s ≡ s → IsPlan has words low end (s + 1) pin' (finger' + words_at words s) es n
      stay-step is = record {
        inside = inside';
        floor = gap-then low finger' (finger' + words_at words s) floor' up;
        coming = λ t i l. coming' t i (omega (arith, l));
        ahead = ahead';
        behind = λ t i l a p. elim (cases_eq t s) [
          | inl e ↦ subst (λ x. Gap (end_at words x) (finger' + words_at words s)) (sym e) (subst (λ x. Gap (x + words_at words s) (finger' + words_at words s)) place-is (gap-same (finger' + words_at words s)))
          | inr d ↦ gap-then (end_at words t) finger' (finger' + words_at words s) (behind' t i (omega (arith, l, d)) a p) up
        ];
        moved = λ k l. gap-then (to_at es words k + long_at es words k) finger' (finger' + words_at words s) (m.behind (to_at es words k + long_at es words k) (r.moved k l)) up;
        later = later';
      }
        where
          place-is : finger' ≡ place_at words s
          place-is = omega (arith, is)

      -- a chunk that moves
      module _ (new : Saved) (starts : new.start ≡ s) (first : new.first ≡ 8 * (finger' + lead_at words s)) (b : n < length es) (h : HasMoves has words low end es n next) where
        es' : List Saved
        es' = set es n new

        at-new : entry (set es n new) n ≡ new
        at-new = get_or-set_same es n new (record { start = 0; first = 0 }) b

        at-old : (k : ℕ) → k < n → entry (set es n new) k ≡ entry es k
        at-old k l = get_or-set_other es n k new (record { start = 0; first = 0 }) (λ e. omega (arith, e, l))

        start-new : start_of (set es n new) n ≡ s
        start-new = ap (λ (x : Saved). x.start) at-new ∙ starts

        first-new : (entry (set es n new) n).first ≡ 8 * (finger' + lead_at words s)
        first-new = ap (λ (x : Saved). x.first) at-new ∙ first

        target-new : target_of (set es n new) n ≡ finger' + lead_at words s
        target-new = omega (arith, first-new)

        to-new : to_at (set es n new) words n ≡ finger'
        to-new = omega (arith, target-new, ap (lead_at words) start-new)

        long-new : long_at (set es n new) words n ≡ words_at words s
        long-new = ap (words_at words) start-new

        to-old : (k : ℕ) → k < n → to_at (set es n new) words k ≡ to_at es words k
        to-old k l = ap (λ (x : Saved). x.first / 8 - lead_at words x.start) (at-old k l)

        long-old : (k : ℕ) → k < n → long_at (set es n new) words k ≡ long_at es words k
        long-old k l = ap (λ (x : Saved). words_at words x.start) (at-old k l)

        start-old : (k : ℕ) → k < n → start_of (set es n new) k ≡ start_of es k
        start-old k l = ap (λ (x : Saved). x.start) (at-old k l)

        absent-old : (t : ℕ) → IsAbsent (set es n new) (n + 1) t → IsAbsent es n t
        absent-old t a k l e = a k (omega (arith, l)) (start-old k l ∙ e)

        not-new : (t : ℕ) → IsAbsent (set es n new) (n + 1) t → t ≢ s
        not-new t a e = a n (omega arith) (start-new ∙ sym e)

        pub move-plan : IsPlan has words low end (s + 1) pin' (finger' + words_at words s) (set es n new) (n + 1)
        move-plan = record {
          inside = inside';
          floor = gap-then low finger' (finger' + words_at words s) floor' up;
          coming = λ t i l. coming' t i (omega (arith, l));
          ahead = ahead';
          behind = λ t i l a p. gap-then (end_at words t) finger' (finger' + words_at words s) (behind' t i (let d = not-new t a in omega (arith, l, d)) (absent-old t a) p) up;
          moved = λ k l. elim (cases_eq k n) [
            | inl e ↦ subst (λ x. Gap x (finger' + words_at words s)) (sym (ap (λ j. to_at (set es n new) words j + long_at (set es n new) words j) e ∙ omega (arith, to-new, long-new))) (gap-same (finger' + words_at words s))
            | inr d ↦
                let l' : k < n = omega (arith, l, d) in
                subst (λ x. Gap x (finger' + words_at words s)) (sym (omega (arith, to-old k l', long-old k l')))
                (gap-then (to_at es words k + long_at es words k) finger' (finger' + words_at words s) (m.behind (to_at es words k + long_at es words k) (r.moved k l')) up)
          ];
          later = later';
        }

        behind-new : (k : ℕ) → k < n → Gap (to_at (set es n new) words k + long_at (set es n new) words k) (to_at (set es n new) words n)
        behind-new k l = subst (λ x. Gap x (to_at (set es n new) words n)) (sym (omega (arith, to-old k l, long-old k l)))
            (subst (Gap (to_at es words k + long_at es words k)) (sym to-new) (m.behind (to_at es words k + long_at es words k) (r.moved k l)))

        clear-new : (t : ℕ) → IsIn has low end t → IsAbsent (set es n new) (n + 1) t → Gap (end_at words t) finger' ⊎ Gap (finger' + words_at words s) (place_at words t)
        clear-new t i a = elim (cases_lt s t) [
          | inl l ↦ inr (coming' t i l)
          | inr l ↦
              let before : t < s = let d = not-new t a in omega (arith, l, d) in
              elim (cases_Bool (is_pinned words t)) [
                | inr f ↦ inl (behind' t i before (absent-old t a) (λ q. absurd (true≢false (sym q ∙ f))))
                | inl q ↦ elim (cases_lt t pin') [
                  | inl c ↦ inl (behind' t i before (absent-old t a) (λ k. c))
                  | inr c ↦ inr (ahead' t (and_from (has t) (is_pinned words t) i.0 q, i.1, i.2) c)
                ]
              ]
        ]

        pub move-moves : HasMoves has words low end (set es n new) (n + 1) (s + 1)
        move-moves = record {
          starts = λ k l. elim (cases_eq k n) [ inl e ↦ subst (IsIn has low end) (sym (ap (start_of (set es n new)) e ∙ start-new)) here | inr d ↦ subst (IsIn has low end) (sym (start-old k (omega (arith, l, d)))) (h.starts k (omega (arith, l, d))) ];
          mobile = λ k l. elim (cases_eq k n) [ inl e ↦ ap (is_pinned words) (ap (start_of (set es n new)) e ∙ start-new) ∙ off | inr d ↦ ap (is_pinned words) (start-old k (omega (arith, l, d))) ∙ h.mobile k (omega (arith, l, d)) ];
          below = λ k l. elim (cases_eq k n) [ inl e ↦ omega (arith, ap (start_of (set es n new)) e, start-new) | inr d ↦ let z = h.below k (omega (arith, l, d)) in omega (arith, z, on, start-old k (omega (arith, l, d))) ];
          rising = λ j k l m'. elim (cases_eq k n) [
            | inl e ↦ let z = h.below j (omega (arith, l, e)) in omega (arith, z, on, start-old j (omega (arith, l, e)), ap (start_of (set es n new)) e, start-new)
            | inr d ↦ let z = h.rising j k l (omega (arith, m', d)) in omega (arith, z, start-old j (omega (arith, l, m', d)), start-old k (omega (arith, m', d)))
          ];
          aim = λ k l. elim (cases_eq k n) [
            | inl e ↦ subst (λ x. (entry (set es n new) x).first ≡ 8 * target_of (set es n new) x) (sym e) (omega (arith, first-new, target-new))
            | inr d ↦ subst (λ (x : Saved). x.first ≡ 8 * (x.first / 8)) (sym (at-old k (omega (arith, l, d)))) (h.aim k (omega (arith, l, d)))
          ];
          room = λ k l. elim (cases_eq k n) [
            | inl e ↦ subst (λ x. lead_at words (start_of (set es n new) x) ≤ target_of (set es n new) x) (sym e) (omega (arith, target-new, ap (lead_at words) start-new))
            | inr d ↦ subst (λ (x : Saved). lead_at words x.start ≤ x.first / 8) (sym (at-old k (omega (arith, l, d)))) (h.room k (omega (arith, l, d)))
          ];
          down = λ k l. elim (cases_eq k n) [
            | inl e ↦ subst (λ x. Gap (to_at (set es n new) words x) (from_at (set es n new) words x)) (sym e) (subst (λ x. Gap x (from_at (set es n new) words n)) (sym to-new) (subst (λ x. Gap finger' (place_at words x)) (sym start-new) m.down))
            | inr d ↦ subst (λ (x : Saved). Gap (x.first / 8 - lead_at words x.start) (place_at words x.start)) (sym (at-old k (omega (arith, l, d)))) (h.down k (omega (arith, l, d)))
          ];
          floor = λ k l. elim (cases_eq k n) [
            | inl e ↦ subst (λ x. Gap low (to_at (set es n new) words x)) (sym e) (subst (Gap low) (sym to-new) floor')
            | inr d ↦ subst (Gap low) (sym (to-old k (omega (arith, l, d)))) (h.floor k (omega (arith, l, d)))
          ];
          gaps = λ j k l m'. elim (cases_eq k n) [
            | inl e ↦ subst (λ x. Gap (to_at (set es n new) words j + long_at (set es n new) words j) (to_at (set es n new) words x)) (sym e) (behind-new j (omega (arith, l, e)))
            | inr d ↦
                let k' : k < n = omega (arith, m', d) in
                let j' : j < n = omega (arith, l, k') in
                subst (λ x. Gap x (to_at (set es n new) words k)) (sym (omega (arith, to-old j j', long-old j j'))) (subst (Gap (to_at es words j + long_at es words j)) (sym (to-old k k')) (h.gaps j k l k'))
          ];
          clear = λ k t l i a. elim (cases_eq k n) [
            | inl e ↦ subst (λ x. Gap (end_at words t) (to_at (set es n new) words x) ⊎ Gap (to_at (set es n new) words x + long_at (set es n new) words x) (place_at words t)) (sym e)
                (elim (clear-new t i a) [ inl g ↦ inl (subst (Gap (end_at words t)) (sym to-new) g) | inr g ↦ inr (subst (λ x. Gap x (place_at words t)) (sym (omega (arith, to-new, long-new))) g) ])
            | inr d ↦
                let k' : k < n = omega (arith, l, d) in
                elim (h.clear k t k' i (absent-old t a)) [ inl g ↦ inl (subst (Gap (end_at words t)) (sym (to-old k k')) g) | inr g ↦ inr (subst (λ x. Gap x (place_at words t)) (sym (omega (arith, to-old k k', long-old k k'))) g) ]
          ];
          known = λ t l i a c f. elim (cases_eq t s) [
            | inl e ↦ (n, omega arith, start-new ∙ sym e)
            | inr d ↦
                let before : t < s = omega (arith, c, d) in
                elim (cases_lt 0 n) [
                  | inl pos ↦ let k = h.known t pos i (omega (arith, a, start-old 0 pos)) (earlier t i before) f in (k.0, omega (arith, k.1), start-old k.0 k.1 ∙ k.2)
                  | inr z ↦ absurd (let e : n ≡ 0 = omega (arith, z) in let q : start_of (set es n new) 0 ≡ s = ap (start_of (set es n new)) (sym e) ∙ start-new in omega (arith, a, q, before))
                ]
          ];
        }
