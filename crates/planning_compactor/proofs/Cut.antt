-- A range whose gaps are filled is cut into chunks.
use Rattle.std.proofs.Common.{◌≡◌, ◌≢◌, ℕ, suc, zero, Bool, true, false, cond, ◌+◌, ◌-◌, ◌<◌, ◌≤◌, ◌⊎◌, max, List, [], ◌∷◌, get_or, refl, sym, ap, ◌∙◌, subst, inl, inr, arith}
use Rattle.std.proofs.lemmas.Bool.{cases_Bool, cases_eq, cases_lt, true≢false, false_from_ne_true, lt-ltb, le-ltb}
use Rattle.std.specs.List.{Contains}
use Rattle.object_header.specs.Chunks.{Chunk, leads, chunk_of, Cuts, slots_at}
use Rattle.free_lists.specs.Rows.{written}
use Rattle.free_lists.proofs.Written.{free_is_written}
use Rattle.heap_walk.specs.Shapes.{lead_at, place_at, words_at, end_at}
use Rattle.heap_cells.specs.Rows.{starts_of}
use Rattle.heap_cells.proofs.Members.{In, in_list, listed}
use Rattle.heap_cells.proofs.Cutting.{row-is}
use Rattle.planning_compactor.specs.Planning.{IsIn, AreLaid}
use Rattle.planning_compactor.specs.Filled.{IsGap, IsFilled, AreTwice, IsFreeGap, IsCut}
use Rattle.planning_compactor.proofs.Shapes.{SameHead, lead-one, lead-low, slots_at-moved, place-same, end-same}

-- the first start from `x` on, if there is one among the next `n` words
first-start : (n : ℕ) (has : ℕ → Bool) (x : ℕ) → ((s : ℕ) × (x ≤ s) × (s < x + n) × (has s ≡ true) × ((k : ℕ) → x ≤ k → k < s → has k ≡ false)) ⊎ ((k : ℕ) → x ≤ k → k < x + n → has k ≡ false)
first-start zero has x = inr (λ k a b. absurd (omega (arith, a, b)))
first-start (suc n) has x = elim (cases_Bool (has x)) [
  | inl on ↦ inl (x, omega arith, omega arith, on, λ k a b. absurd (omega (arith, a, b)))
  | inr off ↦ elim (first-start n has (x + 1)) [
    | inl f ↦ let a = f.1 in let b = f.2 in inl (f.0, omega (arith, a), omega (arith, b), f.3, λ k c d. elim (cases_eq k x) [ inl e ↦ ap has e ∙ off | inr m ↦ f.4 k (omega (arith, c, m)) d ])
    | inr f ↦ inr (λ k c d. elim (cases_eq k x) [ inl e ↦ ap has e ∙ off | inr m ↦ f k (omega (arith, c, m)) (omega (arith, d)) ])
  ]
]

-- what the first word of a chunk tells
record Told (w at s n : ℕ) : Type 0 where
  start : (chunk_of at w).start ≡ s
  size : (chunk_of at w).size ≡ n

told-plain : (words : List ℕ) (s : ℕ) → leads (get_or words s 0) ≡ false → Told (get_or words s 0) s s (1 + max 1 (slots_at words s))
unfolding chunk_of slots_at
told-plain words s off = record { start = rw off refl; size = rw off refl }

told-long : (words : List ℕ) (s : ℕ) → 1 ≤ s → leads (get_or words s 0) ≡ true → leads (get_or words (s - 1) 0) ≡ true → Told (get_or words (s - 1) 0) (s - 1) s (2 + max 1 (slots_at words s))
unfolding chunk_of slots_at
told-long words s l on up = let e : s - 1 + 1 ≡ s = omega (arith, l) in record { start = rw up e; size = rw (up, on) refl }

module _ {has : ℕ → Bool} {old new : List ℕ} {low end : ℕ} (laid : AreLaid has old low end) (twice : AreTwice has old) (f : IsFilled has old new low end end) where
  longer : (s : ℕ) → place_at old s + 2 ≤ end_at old s
  longer s = omega arith

  low' : (s : ℕ) → IsIn has low end s → lead_at old s ≤ s
  low' s i = lead-low old s (laid.stands s i.0)

  -- ---- the words of an object are as before

  header : (s : ℕ) → IsIn has low end s → get_or new s 0 ≡ get_or old s 0
  header s i = let z = low' s i in f.live s s i (omega arith) (omega (arith, z))

  head : (s : ℕ) → IsIn has low end s → SameHead old new s s
  head s i = let z = low' s i in record {
    header = header s i;
    slots = slots_at-moved old new s s (header s i) (λ on. let e = lead-one old s on in f.live s (s - 1) i (omega (arith, e)) (omega (arith, e, z)));
  }

  gap-new : (a b : ℕ) → IsGap has old low end a b → IsGap has new low end a b
  gap-new a b g = record {
    some = g.some;
    left = elim g.left [ inl e ↦ inl e | inr s ↦ inr (s.0, s.1, end-same (head s.0 s.1) ∙ s.2) ];
    right = elim g.right [ inl e ↦ inl e | inr s ↦ inr (s.0, s.1, place-same (head s.0 s.1) ∙ s.2) ];
    none = λ s i. elim (g.none s i) [ inl l ↦ inl (omega (arith, l, end-same (head s i))) | inr l ↦ inr (omega (arith, l, place-same (head s i))) ];
  }

  -- ---- one chunk before others

  -- a row of chunks up to the end
  record RowFrom (x : ℕ) : Type 0 where
    chunks : List Chunk
    cuts : Cuts new x end chunks
    starts : (s : ℕ) → IsIn has low end s → x ≤ place_at old s → In (starts_of chunks) s
    kinds : (c : Chunk) → In chunks c → (has c.start ≡ true) ⊎ IsFreeGap has new low end c

  row-none : (x : ℕ) → x ≡ end → RowFrom x
  row-none x e = record {
    chunks = [];
    cuts = e;
    starts = λ s i l. absurd (let z = (laid.last s i).0 in let y = longer s in omega (arith, e, l, z, y));
    kinds = λ c m. absurd m;
  }

  chunk-there : (s : ℕ) → IsIn has low end s → Told (get_or new (place_at old s) 0) (place_at old s) s (words_at old s) × (leads (get_or new s 0) ≡ leads (get_or new (place_at old s) 0))
  chunk-there s i =
      let z = low' s i in
      let first : get_or new (place_at old s) 0 ≡ get_or old (place_at old s) 0 = f.live s (place_at old s) i (omega arith) (omega arith) in
      elim (cases_Bool (leads (get_or old s 0))) [
        | inr off ↦
            let none : lead_at old s ≡ 0 = ap (λ b. cond b 1 0) off in
            let same : place_at old s ≡ s = omega (arith, none) in
            let size : words_at old s ≡ 1 + max 1 (slots_at old s) = ap (λ n. n + 1 + max 1 (slots_at old s)) none in (
              subst (λ v. Told v (place_at old s) s (words_at old s)) (sym first) (subst (λ p. Told (get_or old p 0) p s (words_at old s)) (sym same) (subst (Told (get_or old s 0) s s) (sym size) (told-plain old s off))),
              ap (λ p. leads (get_or new p 0)) (sym same),
            )
        | inl on ↦
            let one = lead-one old s on in
            let same : place_at old s ≡ s - 1 = omega (arith, one) in
            let up = twice s i.0 on in
            let size : words_at old s ≡ 2 + max 1 (slots_at old s) = ap (λ n. n + 1 + max 1 (slots_at old s)) one in (
              subst (λ v. Told v (place_at old s) s (words_at old s)) (sym first) (subst (λ p. Told (get_or old p 0) p s (words_at old s)) (sym same) (subst (Told (get_or old (s - 1) 0) (s - 1) s) (sym size) (told-long old s (omega (arith, one, z)) on up))),
              ap leads (header s i) ∙ on ∙ sym (ap leads (first ∙ ap (λ p. get_or old p 0) same) ∙ up),
            )
      ]

  with-object : (s : ℕ) → IsIn has low end s → RowFrom (end_at old s) → RowFrom (place_at old s)
  with-object s i r =
      let c = chunk-there s i in
      let k : Chunk = chunk_of (place_at old s) (get_or new (place_at old s) 0) in
      let at : place_at old s + k.size ≡ end_at old s = ap (λ n. place_at old s + n) c.0.size in
      record {
        chunks = k ∷ r.chunks;
        cuts = (record { is = refl; twice = ap (λ j. leads (get_or new j 0)) c.0.start ∙ c.1 }, subst (λ x. Cuts new x end r.chunks) (sym at) r.cuts);
        starts = λ t j l. elim (cases_lt s t) [
          | inl a ↦ inr (r.starts t j (laid.apart s t i j a).0)
          | inr a ↦ elim (cases_eq t s) [
            | inl e ↦ inl (c.0.start ∙ sym e)
            | inr d ↦ absurd (let z = (laid.apart t s j i (omega (arith, a, d))).0 in let y = longer t in omega (arith, z, y, l))
          ]
        ];
        kinds = λ d m. elim m [ inl e ↦ inl (ap (λ (x : Chunk). has x.start) (sym e) ∙ ap has c.0.start ∙ i.0) | inr n ↦ r.kinds d n ];
      }

  written-near : (a n : ℕ) → a ≤ (written a n).start × ((written a n).start ≤ a + 1)
  written-near a n = elim (cases_lt 255 n) [
    | inl l ↦ rw (lt-ltb 255 n l) (omega arith, omega arith)
    | inr l ↦ rw (le-ltb 255 n l) (omega arith, omega arith)
  ]

  -- no object starts in a gap
  gap-alone : (a b s : ℕ) → IsGap has old low end a b → 2 ≤ b - a → a ≤ s → s ≤ a + 1 → has s ≡ false
  gap-alone a b s g two l m = false_from_ne_true (has s) (λ on.
      let some = g.some in
      let z = lead-low old s (laid.stands s on) in
      let ins : IsIn has low end s = (on, low-in a b s g l, end-in a b s g two m) in
      elim (g.none s ins) [
        | inl e ↦ omega (arith, e, l, z)
        | inr e ↦ omega (arith, e, m, two, some)
      ])
    where
      low-in : (a b s : ℕ) → IsGap has old low end a b → a ≤ s → low ≤ s
      low-in a b s g l = elim g.left [
        | inl e ↦ omega (arith, e, l)
        | inr t ↦ (let z = (laid.first t.0 t.1).0 in let y = longer t.0 in let e = t.2 in omega (arith, z, y, e, l))
      ]

      end-in : (a b s : ℕ) → IsGap has old low end a b → 2 ≤ b - a → s ≤ a + 1 → s < end
      end-in a b s g two m = elim g.right [
        | inl e ↦ (let some = g.some in omega (arith, e, m, two, some))
        | inr t ↦ (let z = (laid.last t.0 t.1).0 in let y = longer t.0 in let e = t.2 in omega (arith, z, y, e, m, two))
      ]

  with-gap : (a b : ℕ) → IsGap has old low end a b → b ≤ end → RowFrom b → RowFrom a
  with-gap a b g l r =
      let some = g.some in
      let q = f.free a b g l in
      let v = free_is_written new a (b - a) q in
      let at : a + (b - a) ≡ b = omega (arith, some) in
      let near = written-near a (b - a) in
      let whole : IsGap has new low end a (a + (b - a)) = subst (IsGap has new low end a) (sym at) (gap-new a b g) in
      record {
        chunks = written a (b - a) ∷ r.chunks;
        cuts = (v.chunk, subst (λ x. Cuts new x end r.chunks) (sym at) r.cuts);
        starts = λ s i m. elim (g.none s i) [ inl n ↦ absurd (let y = longer s in omega (arith, n, m, y)) | inr n ↦ inr (r.starts s i n) ];
        kinds = λ d m. elim m [
          | inl e ↦ inr (subst (IsFreeGap has new low end) e (record { none = gap-alone a b (written a (b - a)).start g q.big near.0 near.1; free = q; class = v.class; gap = whole }))
          | inr n ↦ r.kinds d n
        ];
      }

  -- ---- the whole row

  -- a row can begin at the front, and at the end of an object
  record Edge (x : ℕ) : Type 0 where
    above : low ≤ x
    below : x ≤ end
    left : (x ≡ low) ⊎ ((s : ℕ) × IsIn has low end s × (end_at old s ≡ x))
    none : (s : ℕ) → IsIn has low end s → (end_at old s ≤ x) ⊎ (x ≤ place_at old s)

  edge-end : (s : ℕ) → IsIn has low end s → Edge (end_at old s)
  edge-end s i = record {
    above = (let a = (laid.first s i).0 in omega (arith, a));
    below = (laid.last s i).0;
    left = inr (s, i, refl);
    none = λ t j. elim (cases_lt s t) [
      | inl l ↦ inr (laid.apart s t i j l).0
      | inr l ↦ elim (cases_eq t s) [
        | inl e ↦ inl (let z : end_at old t ≡ end_at old s = ap (end_at old) e in omega (arith, z))
        | inr d ↦ inl (let z = (laid.apart t s j i (omega (arith, l, d))).0 in omega (arith, z))
      ]
    ];
  }

  -- the gap before the next object
  gap-before : (x s : ℕ) → Edge x → IsIn has low end s → x ≤ place_at old s → x ≢ place_at old s → ((k : ℕ) → x ≤ k → k < s → has k ≡ false) → IsGap has old low end x (place_at old s)
  gap-before x s e i ahead n none = record {
    some = omega (arith, ahead, n);
    left = e.left;
    right = inr (s, i, refl);
    none = λ t j. elim (e.none t j) [
      | inl a ↦ inl a
      | inr a ↦ elim (cases_lt t s) [
        | inl c ↦ absurd (true≢false (sym j.0 ∙ none t (omega (arith, a)) c))
        | inr c ↦ elim (cases_eq t s) [
          | inl d ↦ inr (let v : place_at old t ≡ place_at old s = ap (place_at old) d in omega (arith, v))
          | inr d ↦ inr (let v = (laid.apart s t i j (omega (arith, c, d))).0 in omega (arith, v))
        ]
      ]
    ];
  }

  rows-from : (n x : ℕ) → end ≤ x + n → Edge x → RowFrom x
  rows-from zero x l e = row-none x (let b = e.below in omega (arith, l, b))
  rows-from (suc n) x l e = elim (cases_lt x end) [
    | inr z ↦ row-none x (let b = e.below in omega (arith, z, b))
    | inl z ↦ elim (first-start (end - x) has x) [
      | inr free ↦ with-gap x end (record {
        some = z;
        left = e.left;
        right = inl refl;
        none = λ s i. elim (e.none s i) [
          | inl a ↦ inl a
          | inr a ↦ absurd (let b = i.2 in true≢false (sym i.0 ∙ free s (omega (arith, a)) (omega (arith, b, z))))
        ];
      }) (omega arith) (row-none end refl)
      | inl s ↦
          let s1 = s.1 in
          let s2 = s.2 in
          let up = e.above in
          let i : IsIn has low end s.0 = (s.3, omega (arith, up, s1), omega (arith, s2, z)) in
          let ahead : x ≤ place_at old s.0 = elim (e.none s.0 i) [ inr a ↦ a | inl a ↦ absurd (let w = low' s.0 i in omega (arith, a, s1, w)) ] in
          let here = with-object s.0 i (rows-from n (end_at old s.0) (let w = longer s.0 in omega (arith, l, ahead, w)) (edge-end s.0 i)) in
          elim (cases_eq x (place_at old s.0)) [
            | inl q ↦ subst RowFrom (sym q) here
            | inr q ↦ with-gap x (place_at old s.0) (gap-before x s.0 e i ahead q s.4) (let v = (laid.last s.0 i).0 in omega (arith, v)) here
          ]
    ]
  ]

  pub is-cut : IsCut has new low end
  is-cut =
      let w = laid.whole.0 in
      let r = rows-from (end - low) low (omega (arith, w)) (record { above = omega arith; below = w; left = inl refl; none = λ s i. inr (laid.first s i).0 }) in
      let is = row-is new low end r.chunks r.cuts in
      record {
        cuts = subst (Cuts new low end) (sym is) r.cuts;
        starts = λ s i. subst (λ cs. Contains (starts_of cs) s) (sym is) (listed (starts_of r.chunks) s (r.starts s i (laid.first s i).0));
        kinds = λ c m. r.kinds c (in_list r.chunks c (subst (λ cs. Contains cs c) is m));
      }
