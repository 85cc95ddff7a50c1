-- The second half of a pass: chunks whose references are rewritten go to their places.
use Rattle.std.proofs.Common.{◌≡◌, ◌≢◌, ℕ, Bool, true, ◌+◌, ◌-◌, ◌<◌, ◌≤◌, List, length, get_or, sym, ap, ◌∙◌, subst, inl, inr, arith}
use Rattle.std.proofs.lemmas.Bool.{cases_eq, cases_lt}
use Rattle.object_header.specs.Chunks.{leads, slots_at, StandsAt}
use Rattle.heap_walk.specs.declared.saved.Saved.{Saved}
use Rattle.planning_compactor.specs.Entries.{start_of}
use Rattle.heap_walk.specs.Shapes.{lead_at, place_at, words_at, end_at}
use Rattle.planning_compactor.specs.Slid.{target_of, to_at, from_at, long_at, CanSlide, Slid}
use Rattle.planning_compactor.specs.Planning.{AreLaid, HasMoves}
use Rattle.planning_compactor.specs.Objects.{goes_to, AreObjects, KeepsLoose}
use Rattle.heap_laws.specs.Compaction.{IsMovedBy, MovedBy}
use Rattle.planning_compactor.proofs.Told.{object-moved}
use Rattle.planning_compactor.proofs.Shapes.{slots_at-moved, lead-one, lead-low, lead-same, words-same, stands-same}
use Rattle.planning_compactor.proofs.Heads.{some-or}
use Rattle.planning_compactor.proofs.Moving.{goes-at, goes-else, Readied}

module _ {has : ℕ → Bool} {low end next : ℕ} {es0 es3 : List Saved} {w0 w3 : List ℕ} (o : AreObjects has w0) (laid : AreLaid has w0 low end) (h : HasMoves has w0 low end es0 (length es0) next)
    (r : Readied has es0 es3 w0 w3)
  where
    there : (k : ℕ) → k < length es0 → has (start_of es0 k) ≡ true
    there k l = (h.starts k l).0

    lead3 : (k : ℕ) → k < length es0 → lead_at w3 (start_of es3 k) ≡ lead_at w0 (start_of es0 k)
    lead3 k l = ap (lead_at w3) (r.starts k l) ∙ lead-same (r.heads (start_of es0 k) (there k l))

    to3 : (k : ℕ) → k < length es0 → to_at es3 w3 k ≡ to_at es0 w0 k
    to3 k l = omega (arith, r.targets k l, lead3 k l)

    from3 : (k : ℕ) → k < length es0 → from_at es3 w3 k ≡ from_at es0 w0 k
    from3 k l = omega (arith, r.starts k l, lead3 k l)

    long3 : (k : ℕ) → k < length es0 → long_at es3 w3 k ≡ long_at es0 w0 k
    long3 k l = ap (words_at w3) (r.starts k l) ∙ words-same (r.heads (start_of es0 k) (there k l))

    low3 : (s : ℕ) → has s ≡ true → lead_at w0 s ≤ s
    low3 s g = lead-low w0 s (o.live.stands s g)

    pub can-slide : CanSlide es3 w3
    can-slide = record {
      stands = λ k l. let m : k < length es0 = omega (arith, l, r.same_table) in subst (StandsAt w3) (sym (r.starts k m)) (stands-same (r.heads (start_of es0 k) (there k m)) (o.live.stands (start_of es0 k) (there k m)) (lead-low w0 (start_of es0 k) (o.live.stands (start_of es0 k) (there k m))) (omega arith) r.same_words);
      room = λ k l. let m : k < length es0 = omega (arith, l, r.same_table) in let z = h.room k m in omega (arith, z, lead3 k m, r.targets k m);
      down = λ k l.
          let m : k < length es0 = omega (arith, l, r.same_table) in
          let z = (h.down k m).0 in
          let y = h.room k m in
          let x = low3 (start_of es0 k) (there k m) in
          omega (arith, z, y, x, r.targets k m, r.starts k m);
      order = λ j k l b.
          let m : k < length es0 = omega (arith, b, r.same_table) in
          let i : j < length es0 = omega (arith, l, m) in
          let z = (h.gaps j k l m).0 in
          omega (arith, z, to3 j i, to3 k m, long3 j i);
    }

    -- where objects start and go there are words
    pub inside : (k : ℕ) → k < length es3 → (start_of es3 k < length w0) × (target_of es3 k < length w0)
    inside k l = let a = (can-slide.stands k l).below in let b = can-slide.down k l in (omega (arith, a, r.same_words), omega (arith, a, b, r.same_words))

    -- a chunk has its header within its words
    past : (k : ℕ) → k < length es0 → target_of es0 k < to_at es0 w0 k + long_at es0 w0 k
    past k l = let r' = h.room k l in omega (arith, r')

    targets-apart : (i j : ℕ) → i < length es0 → j < length es0 → target_of es0 i ≡ target_of es0 j → i ≡ j
    targets-apart i j a b e = elim (cases_lt i j) [
      | inl l ↦ absurd (let z = (h.gaps i j l b).0 in let y = past i a in omega (arith, z, y, e))
      | inr l ↦ elim (cases_eq i j) [
        | inl q ↦ q
        | inr d ↦ absurd (let z = (h.gaps j i (omega (arith, l, d)) a).0 in let y = past j b in omega (arith, z, y, e))
      ]
    ]

    target-alone : (k t : ℕ) → k < length es0 → has t ≡ true → ((i : ℕ) → i < length es0 → start_of es0 i ≢ t) → target_of es0 k ≡ t → ⊥
    target-alone k t l g a e =
        let y = past k l in
        let r' = h.room k l in
        let low' = low3 t g in
        elim (cases_lt t low) [
          | inl x ↦ let f = (h.floor k l).0 in omega (arith, f, e, x)
          | inr x ↦ elim (cases_lt t end) [
            | inr z ↦ let d = (h.down k l).0 in let i = (h.starts k l).2 in let q = low3 (start_of es0 k) (there k l) in omega (arith, d, i, q, r', e, z)
            | inl z ↦ elim (h.clear k t l (g, x, z) a) [
              | inl c ↦ let c0 = c.0 in omega (arith, c0, e, low')
              | inr c ↦ let c0 = c.0 in omega (arith, c0, y, e)
            ]
          ]
        ]

    pub goes-once : (s t : ℕ) → has s ≡ true → has t ≡ true → goes_to es0 s ≡ goes_to es0 t → s ≡ t
    goes-once s t g k e = elim (some-or (length es0) (start_of es0) s) [
      | inl i ↦
          let gi : goes_to es0 s ≡ target_of es0 i.0 = ap (goes_to es0) (sym i.2) ∙ goes-at es0 h.rising i.0 i.1 in
          elim (some-or (length es0) (start_of es0) t) [
            | inl j ↦
                let gj : goes_to es0 t ≡ target_of es0 j.0 = ap (goes_to es0) (sym j.2) ∙ goes-at es0 h.rising j.0 j.1 in
                let same : i.0 ≡ j.0 = targets-apart i.0 j.0 i.1 j.1 (sym gi ∙ e ∙ gj) in
                sym i.2 ∙ ap (start_of es0) same ∙ j.2
            | inr b ↦ absurd (target-alone i.0 t i.1 k b (sym gi ∙ e ∙ goes-else es0 t b))
          ]
      | inr a ↦ elim (some-or (length es0) (start_of es0) t) [
        | inl j ↦ absurd (target-alone j.0 s j.1 g a (sym (ap (goes_to es0) (sym j.2) ∙ goes-at es0 h.rising j.0 j.1) ∙ sym e ∙ goes-else es0 s a))
        | inr b ↦ sym (goes-else es0 s a) ∙ e ∙ goes-else es0 t b
      ]
    ]

    -- a word of no object, outside of the range
    pub loose-kept : {w4 : List ℕ} → Slid es3 w3 w4 (length es3) → KeepsLoose has w0 w4 low end
    loose-kept s j f =
        s.others j (λ k l.
        let m : k < length es0 = omega (arith, l, r.same_table) in
        let e1 = to3 k m in
        let e2 = long3 k m in
        let a = (h.floor k m).0 in
        let b = (h.down k m).0 in
        let c = (laid.last (start_of es0 k) (h.starts k m)).0 in
        elim f.0 [ inl x ↦ inl (omega (arith, x, a, e1)) | inr x ↦ inr (omega (arith, x, b, c, e1, e2)) ])
        ∙ r.loose j f.1

    module _ {has' : ℕ → Bool} {w4 : List ℕ} (s : Slid es3 w3 w4 (length es3))
        (added : (k : ℕ) → k < length es3 → has' (target_of es3 k) ≡ true)
        (back' : (t : ℕ) → has' t ≡ true → ((k : ℕ) → k < length es3 → target_of es3 k ≢ t) → (has t ≡ true) × ((k : ℕ) → k < length es3 → start_of es3 k ≢ t))
        (kept : (t : ℕ) → has t ≡ true → ((k : ℕ) → k < length es3 → start_of es3 k ≢ t) → has' t ≡ true)
      where
        -- a chunk of the table
        moved-run : (k i : ℕ) → k < length es0 → i < long_at es0 w0 k → get_or w4 (to_at es0 w0 k + i) 0 ≡ get_or w3 (from_at es0 w0 k + i) 0
        moved-run k i l m = ap (λ x. get_or w4 (x + i) 0) (sym (to3 k l)) ∙ s.moved k i (omega (arith, l, r.same_table)) (omega (arith, m, long3 k l)) ∙ ap (λ x. get_or w3 (x + i) 0) (from3 k l)

        moved-one : (k : ℕ) → k < length es0 → IsMovedBy (goes_to es0) w0 w4 (start_of es0 k) (target_of es0 k)
        moved-one k l =
            let t : ℕ = start_of es0 k in
            let g : has t ≡ true = there k l in
            let room = h.room k l in
            let low' = low3 t g in
            let n : ℕ = lead_at w0 t in
            let a : to_at es0 w0 k + n ≡ target_of es0 k = omega (arith, room) in
            let b : from_at es0 w0 k + n ≡ t = omega (arith, low') in
            let head : get_or w4 (target_of es0 k) 0 ≡ get_or w3 t 0 = ap (λ x. get_or w4 x 0) (sym a) ∙ moved-run k n l (omega arith) ∙ ap (λ x. get_or w3 x 0) b in
            let lead : leads (get_or w3 t 0) ≡ true → get_or w4 (target_of es0 k - 1) 0 ≡ get_or w3 (t - 1) 0 = λ on.
            let e : n ≡ 1 = lead-one w0 t (ap leads (sym (r.heads t g).header) ∙ on) in
            let c : target_of es0 k - 1 ≡ to_at es0 w0 k + 0 = omega (arith, room, e) in
            let d : from_at es0 w0 k + 0 ≡ t - 1 = omega (arith, e) in
            ap (λ x. get_or w4 x 0) c ∙ moved-run k 0 l (omega arith) ∙ ap (λ x. get_or w3 x 0) d in
            let slots : slots_at w4 (target_of es0 k) ≡ slots_at w3 t = slots_at-moved w3 w4 t (target_of es0 k) head lead in
            let slot : (i : ℕ) → i < slots_at w0 t → get_or w4 (target_of es0 k + 1 + i) 0 ≡ get_or w3 (t + 1 + i) 0 = λ i m.
            let c : target_of es0 k + 1 + i ≡ to_at es0 w0 k + (n + 1 + i) = omega (arith, room) in
            let d : from_at es0 w0 k + (n + 1 + i) ≡ t + 1 + i = omega (arith, low') in
            ap (λ x. get_or w4 x 0) c ∙ moved-run k (n + 1 + i) l (omega (arith, m)) ∙ ap (λ x. get_or w3 x 0) d in
            let fits = o.fits t g in
            object-moved (goes_to es0) w0 w4 t (target_of es0 k) (o.methods t g) (head ∙ (r.heads t g).header) (λ on. lead (ap leads ((r.heads t g).header) ∙ on) ∙ r.leads t g on) (slots ∙ (r.heads t g).slots)
            (λ i m. slot i (omega (arith, m, fits)) ∙ r.pointers t i g m) (λ i m q. slot i q ∙ r.rest t i g m q)

        -- a chunk that is not in the table
        still : (t j : ℕ) → has t ≡ true → ((k : ℕ) → k < length es0 → start_of es0 k ≢ t) → place_at w0 t ≤ j → j < end_at w0 t → get_or w4 j 0 ≡ get_or w3 j 0
        still t j g a b c = s.others j (λ k l.
            let m : k < length es0 = omega (arith, l, r.same_table) in
            let e1 = to3 k m in
            let e2 = long3 k m in
            elim (cases_lt t low) [
              | inl x ↦ let z = laid.below t g x in let y = (h.floor k m).0 in inl (omega (arith, z, y, c, e1))
              | inr x ↦ elim (cases_lt t end) [
                | inr y ↦
                    let z = laid.above t g y in
                    let d = (h.down k m).0 in
                    let f = (laid.last (start_of es0 k) (h.starts k m)).0 in
                    inr (omega (arith, z, d, f, b, e1, e2))
                | inl y ↦ elim (h.clear k t m (g, x, y) a) [
                  | inl q ↦ inl (let z = q.0 in omega (arith, z, c, e1))
                  | inr q ↦ inr (let z = q.0 in omega (arith, z, b, e1, e2))
                ]
              ]
            ])

        still-one : (t : ℕ) → has t ≡ true → ((k : ℕ) → k < length es0 → start_of es0 k ≢ t) → IsMovedBy (goes_to es0) w0 w4 t t
        still-one t g a =
            let low' = low3 t g in
            let head : get_or w4 t 0 ≡ get_or w3 t 0 = still t t g a (omega arith) (omega (arith, low')) in
            let lead : leads (get_or w3 t 0) ≡ true → get_or w4 (t - 1) 0 ≡ get_or w3 (t - 1) 0 = λ on.
            let e : lead_at w0 t ≡ 1 = lead-one w0 t (ap leads (sym (r.heads t g).header) ∙ on) in
            still t (t - 1) g a (omega (arith, e)) (omega (arith, e, low')) in
            let slots : slots_at w4 t ≡ slots_at w3 t = slots_at-moved w3 w4 t t head lead in
            let slot : (i : ℕ) → i < slots_at w0 t → get_or w4 (t + 1 + i) 0 ≡ get_or w3 (t + 1 + i) 0 = λ i m. still t (t + 1 + i) g a (omega arith) (omega (arith, m, low')) in
            let fits = o.fits t g in
            object-moved (goes_to es0) w0 w4 t t (o.methods t g) (head ∙ (r.heads t g).header) (λ on. lead (ap leads ((r.heads t g).header) ∙ on) ∙ r.leads t g on) (slots ∙ (r.heads t g).slots)
            (λ i m. slot i (omega (arith, m, fits)) ∙ r.pointers t i g m) (λ i m q. slot i q ∙ r.rest t i g m q)

        pub all-moved : MovedBy (goes_to es0) has has' w0 w4
        all-moved = record {
          same_words = s.same_words ∙ r.same_words;
          there = λ t g. elim (some-or (length es0) (start_of es0) t) [
            | inl k ↦ ap has' (ap (goes_to es0) (sym k.2) ∙ goes-at es0 h.rising k.0 k.1 ∙ sym (r.targets k.0 k.1)) ∙ added k.0 (let z = k.1 in omega (arith, z, r.same_table))
            | inr a ↦ ap has' (goes-else es0 t a) ∙ kept t g (λ k l e. let m : k < length es0 = omega (arith, l, r.same_table) in a k m (sym (r.starts k m) ∙ e))
          ];
          back = λ t g. elim (some-or (length es3) (target_of es3) t) [
            | inl k ↦ let m : k.0 < length es0 = (let z = k.1 in omega (arith, z, r.same_table)) in (start_of es0 k.0, there k.0 m, goes-at es0 h.rising k.0 m ∙ sym (r.targets k.0 m) ∙ k.2)
            | inr a ↦ let q = back' t g a in (t, q.0, goes-else es0 t (λ k l e. q.1 k (omega (arith, l, r.same_table)) (r.starts k l ∙ e)))
          ];
          once = goes-once;
          objects = λ t g. elim (some-or (length es0) (start_of es0) t) [
            | inl k ↦ subst (λ x. IsMovedBy (goes_to es0) w0 w4 x (goes_to es0 x)) k.2 (subst (IsMovedBy (goes_to es0) w0 w4 (start_of es0 k.0)) (sym (goes-at es0 h.rising k.0 k.1)) (moved-one k.0 k.1))
            | inr a ↦ subst (IsMovedBy (goes_to es0) w0 w4 t) (sym (goes-else es0 t a)) (still-one t g a)
          ];
        }
