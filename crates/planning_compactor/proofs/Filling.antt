-- One gap after another is filled.
use Rattle.std.proofs.Common.{◌≡◌, ℕ, Bool, false, ◌+◌, ◌-◌, ◌<◌, ◌≤◌, ◌⊎◌, List, length, get_or, refl, sym, ap, ◌∙◌, subst, inl, inr, arith}
use Rattle.std.proofs.lemmas.Bool.{cases_eq, cases_lt, true≢false}
use Rattle.object_header.specs.Chunks.{StandsAt}
use Rattle.free_lists.specs.Runs.{IsFree}
use Rattle.planning_compactor.specs.Spans.{Gap}
use Rattle.heap_walk.specs.Shapes.{lead_at, place_at, words_at, end_at}
use Rattle.planning_compactor.specs.Planning.{IsIn, AreLaid}
use Rattle.planning_compactor.specs.Filled.{IsGap, IsFilled}
use Rattle.free_lists.proofs.Grafts.{free_same}
use Rattle.planning_compactor.proofs.Shapes.{SameHead, lead-one, lead-low, slots_at-moved, lead-same, words-same, stands-same}

-- up to `at` the gaps are filled, and the next chunk starts at `from` or behind it
pub record Filling (has : ℕ → Bool) (old words : List ℕ) (low end at from : ℕ) : Type 0 where
  pub filled : IsFilled has old words low end at
  pub ahead : (s : ℕ) → IsIn has low end s → from ≤ s → Gap at (place_at old s)
  pub behind : (s : ℕ) → IsIn has low end s → s < from → end_at old s ≤ at
  pub edge : (at ≡ low) ⊎ ((s : ℕ) × IsIn has low end s × (end_at old s ≡ at))
  pub last : Gap at end
  pub bounds : (low ≤ at) × (low ≤ from)

module _ (has : ℕ → Bool) (old words : List ℕ) (low end at from : ℕ) (laid : AreLaid has old low end) (r : Filling has old words low end at from) where
  -- the end of a chunk is behind its place
  longer : (s : ℕ) → place_at old s + 2 ≤ end_at old s
  longer s = omega arith

  -- the head of a chunk is as it was
  module _ (s : ℕ) (i : IsIn has low end s) where
    low' : lead_at old s ≤ s
    low' = lead-low old s (laid.stands s i.0)

    head-is : get_or words s 0 ≡ get_or old s 0
    head-is = r.filled.live s s i (omega arith) (omega (arith, low'))

    head : SameHead old words s s
    head = record {
      header = head-is;
      slots = slots_at-moved old words s s head-is (λ on. let e = lead-one old s on in r.filled.live s (s - 1) i (omega (arith, e)) (omega (arith, e, low')));
    }

    pub lead-is : lead_at words s ≡ lead_at old s
    lead-is = lead-same head

    pub size-is : words_at words s ≡ words_at old s
    size-is = words-same head

    pub stands-is : StandsAt words s
    stands-is = stands-same head (laid.stands s i.0) low' (omega arith) r.filled.same_words

  -- a gap that ends behind `at` and not behind `to`, where `to` is the next chunk's place or the end
  module _ (to : ℕ) (words' : List ℕ) (g : Gap at to) (tail : to ≤ end) (next : (s : ℕ) → IsIn has low end s → from ≤ s → to ≤ place_at old s)
      (same : length words' ≡ length words) (free : at < to → IsFree words' at (to - at)) (others : (j : ℕ) → (j < at) ⊎ (to ≤ j) → get_or words' j 0 ≡ get_or words j 0)
    where
      begins : (a b : ℕ) → IsGap has old low end a b → at < b → b ≤ to → a ≡ at
      begins a b k l m = elim k.left [
        | inl e ↦ elim r.edge [
          | inl z ↦ e ∙ sym z
          | inr z ↦ elim (k.none z.0 z.1) [
            | inl q ↦ (let u = r.bounds.0 in let z2 = z.2 in omega (arith, q, z2, e, u))
            | inr q ↦ absurd (let n = longer z.0 in let z2 = z.2 in omega (arith, q, n, z2, l))
          ]
        ]
        | inr e ↦
            let n = longer e.0 in
            let e2 = e.2 in
            let some = k.some in
            elim (cases_lt e.0 from) [
              | inr c ↦ absurd (let h = next e.0 e.1 c in omega (arith, h, n, e2, some, m))
              | inl c ↦
                  let h = r.behind e.0 e.1 c in
                  elim r.edge [
                    | inl z ↦ absurd (let f0 = (laid.first e.0 e.1).0 in omega (arith, h, f0, n, e2, z))
                    | inr z ↦ elim (k.none z.0 z.1) [
                      | inl q ↦ (let z2 = z.2 in omega (arith, h, q, z2, e2))
                      | inr q ↦ absurd (let y = longer z.0 in let z2 = z.2 in omega (arith, q, y, z2, l))
                    ]
                  ]
            ]
      ]

      ends : (a b : ℕ) → IsGap has old low end a b → at < b → b ≤ to → b ≡ to
      ends a b k l m = elim k.right [
        | inl e ↦ omega (arith, e, m, tail)
        | inr e ↦ elim (cases_lt e.0 from) [
          | inl c ↦ absurd (let h = r.behind e.0 e.1 c in let n = longer e.0 in let e2 = e.2 in omega (arith, h, n, e2, l))
          | inr c ↦ (let h = next e.0 e.1 c in let e2 = e.2 in omega (arith, h, e2, m))
        ]
      ]

      pub filled-to : IsFilled has old words' low end to
      filled-to = record {
        same_words = same ∙ r.filled.same_words;
        live = λ s j i l m. others j (side s j i l m) ∙ r.filled.live s j i l m;
        outside = λ j o. others j (elim o [ inl x ↦ inl (let z = r.bounds.0 in omega (arith, x, z)) | inr x ↦ inr (omega (arith, x, tail)) ]) ∙ r.filled.outside j o;
        free = λ a b k m. elim (cases_lt at b) [
          | inl l ↦
              let x : a ≡ at = begins a b k l m in
              let y : b ≡ to = ends a b k l m in
              subst (λ v. IsFree words' v (b - v)) (sym x) (subst (λ v. IsFree words' at (v - at)) (sym y) (free (omega (arith, l, m))))
          | inr l ↦
              let f = r.filled.free a b k l in
              let two = f.big in
              free_same words words' a (b - a) same (others a (inl (omega (arith, l, two)))) (others (a + 1) (inl (omega (arith, l, two)))) f
        ];
      }
        where
          side : (s j : ℕ) → IsIn has low end s → place_at old s ≤ j → j < end_at old s → (j < at) ⊎ (to ≤ j)
          side s j i l m = elim (cases_lt s from) [
            | inl c ↦ inl (let h = r.behind s i c in omega (arith, h, m))
            | inr c ↦ inr (let h = next s i c in omega (arith, h, l))
          ]

-- a chunk has been passed
pub filling-next : (has : ℕ → Bool) (old words words' : List ℕ) (low end at from s : ℕ) → AreLaid has old low end → Filling has old words low end at from → IsIn has low end s → from ≤ s → ((k : ℕ) → from ≤ k → k < s → has k ≡ false)
    → IsFilled has old words' low end (place_at old s) → Filling has old words' low end (end_at old s) (s + 1)
filling-next has old words words' low end at from s laid r i on none f = record {
  filled = record {
    same_words = f.same_words;
    live = f.live;
    outside = f.outside;
    free = λ a b k l. elim (k.none s i) [
      | inl q ↦ absurd (let some = k.some in omega (arith, q, some, l))
      | inr q ↦ f.free a b k q
    ];
  };
  ahead = λ t j l. laid.apart s t i j (omega (arith, l));
  behind = λ t j l. elim (cases_eq t s) [
    | inl e ↦ (let z : end_at old t ≡ end_at old s = ap (end_at old) e in omega (arith, z))
    | inr d ↦ elim (cases_lt t from) [
      | inl c ↦ (let h = r.behind t j c in let g = (r.ahead s i on).0 in omega (arith, h, g))
      | inr c ↦ absurd (true≢false (sym j.0 ∙ none t c (omega (arith, l, d))))
    ]
  ];
  edge = inr (s, i, refl);
  last = laid.last s i;
  bounds = (let f0 = (laid.first s i).0 in omega (arith, f0), let z = i.1 in omega (arith, z));
}

pub filling-first : (has : ℕ → Bool) (old : List ℕ) (low end : ℕ) → AreLaid has old low end → Filling has old old low end low low
filling-first has old low end laid = record {
  filled = record { same_words = refl; live = λ s j i l m. refl; outside = λ j o. refl; free = λ a b k l. absurd (elim k.left [ inl e ↦ (let s = k.some in omega (arith, e, s, l)) | inr e ↦ (let f = (laid.first e.0 e.1).0 in let s = k.some in let e2 = e.2 in omega (arith, f, s, e2, l)) ]) };
  ahead = λ s i l. laid.first s i;
  behind = λ s i l. absurd (let z = i.1 in omega (arith, z, l));
  edge = inl refl;
  last = laid.whole;
  bounds = (omega arith, omega arith);
}
