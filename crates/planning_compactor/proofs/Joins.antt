-- One pass after another.
use Rattle.std.proofs.Common.{◌≡◌, ℕ, suc, Bool, true, ◌+◌, ◌<◌, ◌≤◌, ◌⊎◌, List, [], ◌∷◌, ◌++◌, map, length, sym, ap, ◌∙◌, subst, inl, inr, arith}
use Rattle.std.proofs.lemmas.Bool.{cases_lt, true≢false}
use Rattle.std.proofs.lemmas.List.{append_assoc}
use Rattle.std.specs.List.{AllByRecursion}
use Rattle.planning_compactor.specs.Spans.{Move}
use Rattle.heap_walk.specs.declared.saved.Saved.{Saved}
use Rattle.planning_compactor.specs.Entries.{entry, start_of}
use Rattle.planning_compactor.specs.Slid.{target_of}
use Rattle.compaction_laws.specs.Compacting.{is_pinned}
use Rattle.planning_compactor.specs.Planning.{AreStill, move_of, AreLaid}
use Rattle.planning_compactor.specs.Objects.{goes_to, IsPass, IsLoose}
use Rattle.heap_laws.specs.Compaction.{MovedBy, IsMovedBy}
use Rattle.planning_compactor.specs.Compacted.{IsCompacting}
use Rattle.planning_compactor.proofs.Moving.{goes-at, goes-else}
use Rattle.planning_compactor.proofs.Heads.{some-or}
use Rattle.heap_walk.specs.Shapes.{place_at, end_at}
use Rattle.planning_compactor.proofs.Shapes.{head-moved, place-same, end-same}
use Rattle.planning_compactor.proofs.Composed.{moved-then, pinned-then}
use Rattle.planning_compactor.proofs.Rises.{Rises, Above, rises-front, rises-back, rises-cross, above-entry}

module _ (all done before after : List Move) (p : ℕ → ℕ) (es : List Saved) (has0 has has' : ℕ → Bool) (w0 w w' : List ℕ) (low end next next' : ℕ) (on : next ≤ next')
    (c : IsCompacting all done before p has0 has w0 w low end next) (q : IsPass before es has has' w w' low end next' after) (rise : Rises next before)
  where
    p' : ℕ → ℕ
    p' t = goes_to es (p t)

    rise' : Rises next (q.stays ++ (map move_of es ++ after))
    rise' = subst (Rises next) q.is rise

    starts-up : (k : ℕ) → k < length es → next ≤ start_of es k
    starts-up = above-entry next es (rises-front next (map move_of es) after (rises-back next q.stays (map move_of es ++ after) rise'))

    -- what is done stays done
    old-placed : (ms : List Move) → AllByRecursion (λ (e : Move). (p e.start ≡ e.target) × (e.target < next)) ms → AllByRecursion (λ (e : Move). (goes_to es (p e.start) ≡ e.target) × (e.target < next')) ms
    old-placed [] a = tt
    old-placed (e ∷ ms) a =
        let low' = a.0.1 in
        ((ap (goes_to es) a.0.0 ∙ goes-else es e.target (λ k l z. let u = starts-up k l in omega (arith, u, z, low')), omega (arith, low', on)), old-placed ms a.1)

    still-placed : (ms : List Move) → AreStill next' ms → Above next ms → AllByRecursion (λ (e : Move). Above (e.start + 1) (map move_of es)) ms → AllByRecursion (λ (e : Move). (goes_to es (p e.start) ≡ e.target) × (e.target < next')) ms
    still-placed [] a b d = tt
    still-placed (e ∷ ms) a b d =
        let t = a.0.0 in
        let l = a.0.1 in
        ((ap (goes_to es) (c.unmoved e.start b.0) ∙ goes-else es e.start (λ k m z. let u = above-entry (e.start + 1) es d.0 k m in omega (arith, u, z)) ∙ sym t, omega (arith, t, l)), still-placed ms a.1 b.1 d.1)

    -- the entries, by number
    entry-placed : (k : ℕ) → k < length es → (goes_to es (p (start_of es k)) ≡ target_of es k) × (target_of es k < next')
    entry-placed k l = let b = q.below k l in let b0 = b.0 in let b1 = b.1 in (ap (goes_to es) (c.unmoved (start_of es k) (starts-up k l)) ∙ goes-at es q.rising k l, omega (arith, b0, b1))

-- a word of no object, outside of a range, is of none once objects have moved within the range
pub loose-still : {p : ℕ → ℕ} {has has' : ℕ → Bool} {w w' : List ℕ} {low end : ℕ} → MovedBy p has has' w w' → ((t : ℕ) → (t < low) ⊎ (end ≤ t) → p t ≡ t) → ((t : ℕ) → low ≤ t → t < end → (low ≤ p t) × (p t < end))
    → AreLaid has' w' low end → (j : ℕ) → IsLoose has w low end j → IsLoose has' w' low end j
loose-still {p} {has} {has'} {w} {w'} {low} {end} m outside inside laid j f = (
  f.0,
  λ s g. elim (cases_lt s low) [
    | inl a ↦ stays s g (inl a)
    | inr a ↦ elim (cases_lt s end) [
      | inr b ↦ stays s g (inr b)
      | inl b ↦ elim f.0 [ inl x ↦ inl (let z = (laid.first s (g, a, b)).0 in omega (arith, x, z)) | inr x ↦ inr (let z = (laid.last s (g, a, b)).0 in omega (arith, x, z)) ]
    ]
  ],
)
  where
    stays : (s : ℕ) → has' s ≡ true → (s < low) ⊎ (end ≤ s) → (j < place_at w' s) ⊎ (end_at w' s ≤ j)
    stays s g o =
        let b = m.back s g in
        let same : p b.0 ≡ b.0 = elim (cases_lt b.0 low) [
          | inl c ↦ outside b.0 (inl c)
          | inr c ↦ elim (cases_lt b.0 end) [
            | inr d ↦ outside b.0 (inr d)
            | inl d ↦ absurd (let i = inside b.0 c d in let i0 = i.0 in let i1 = i.1 in let e = b.2 in elim o [ inl x ↦ omega (arith, i0, e, x) | inr x ↦ omega (arith, i1, e, x) ])
          ]
        ] in
        let at : b.0 ≡ s = sym same ∙ b.2 in
        let h : has s ≡ true = subst (λ x. has x ≡ true) at b.1 in
        let v : IsMovedBy p w w' s s = subst (λ x. IsMovedBy p w w' x s) at (subst (IsMovedBy p w w' b.0) b.2 (m.objects b.0 b.1)) in
        elim (f.1 s h) [ inl x ↦ inl (omega (arith, x, place-same (head-moved v))) | inr x ↦ inr (omega (arith, x, end-same (head-moved v))) ]

all-entries : (P : Move → Type 0) (es : List Saved) → ((k : ℕ) → k < length es → P (move_of (entry es k))) → AllByRecursion P (map move_of es)
all-entries P [] h = tt
all-entries P (e ∷ es) h = (h 0 (omega arith), all-entries P es (λ k l. h (suc k) (omega arith)))

all-append : (P : Move → Type 0) (xs ys : List Move) → AllByRecursion P xs → AllByRecursion P ys → AllByRecursion P (xs ++ ys)
all-append P [] ys a b = b
all-append P (x ∷ xs) ys a b = (a.0, all-append P xs ys a.1 b)

module _ (all done before after : List Move) (p : ℕ → ℕ) (es : List Saved) (has0 has has' : ℕ → Bool) (w0 w w' : List ℕ) (low end next next' : ℕ) (on : next ≤ next')
    (c : IsCompacting all done before p has0 has w0 w low end next) (q : IsPass before es has has' w w' low end next' after) (rise : Rises next before) (laid : AreLaid has w low end)
  where
    -- a word that was loose at first is so still
    still-loose : (j : ℕ) → IsLoose has0 w0 low end j → IsLoose has w low end j
    still-loose j f = loose-still c.moved c.outside c.inside laid j f

    pub compacting-more : IsCompacting all (done ++ (q.stays ++ map move_of es)) after (λ t. goes_to es (p t)) has0 has' w0 w' low end next'
    compacting-more =
        let P : Move → Type 0 = λ (e : Move). (goes_to es (p e.start) ≡ e.target) × (e.target < next') in
        let r : Rises next (q.stays ++ (map move_of es ++ after)) = subst (Rises next) q.is rise in
        record {
          moved = moved-then p (goes_to es) has0 has has' w0 w w' c.moved q.moved;
          loose = λ j f. q.loose j (still-loose j f) ∙ c.loose j f;
          is = c.is ∙ ap (λ ms. done ++ ms) (q.is ∙ sym (append_assoc q.stays (map move_of es) after)) ∙ sym (append_assoc done (q.stays ++ map move_of es) after);
          placed = all-append P done (q.stays ++ map move_of es) (old-placed all done before after p es has0 has has' w0 w w' low end next next' on c q rise done c.placed)
              (all-append P q.stays (map move_of es)
              (still-placed all done before after p es has0 has has' w0 w w' low end next next' on c q rise q.stays q.still (rises-front next q.stays (map move_of es ++ after) r) (rises-cross next q.stays (map move_of es) after r))
              (all-entries P es (entry-placed all done before after p es has0 has has' w0 w w' low end next next' on c q rise)));
          pinned = pinned-then p (goes_to es) has0 has has' w0 w w' c.moved c.pinned (λ t g k. goes-else es t (λ i l e. true≢false (sym k ∙ ap (is_pinned w) (sym e) ∙ q.mobile i l)));
          outside = λ t o. ap (goes_to es) (c.outside t o) ∙ goes-else es t (λ i l e. let z = q.within i l in let z0 = z.0 in let z1 = z.1 in elim o [ inl a ↦ omega (arith, a, e, z0) | inr a ↦ omega (arith, a, e, z1) ]);
          inside = λ t a b.
              let i = c.inside t a b in
              elim (some-or (length es) (start_of es) (p t)) [
                | inl k ↦ let e : goes_to es (p t) ≡ target_of es k.0 = ap (goes_to es) (sym k.2) ∙ goes-at es q.rising k.0 k.1 in let f = q.floor k.0 k.1 in let d = (q.below k.0 k.1).1 in let z = (q.within k.0 k.1).1 in (omega (arith, e, f), omega (arith, e, d, z))
                | inr n ↦ let e : goes_to es (p t) ≡ p t = goes-else es (p t) n in let i0 = i.0 in let i1 = i.1 in (omega (arith, e, i0), omega (arith, e, i1))
              ];
          unmoved = λ t l. ap (goes_to es) (c.unmoved t (omega (arith, on, l))) ∙ goes-else es t (λ i m e. let z = (q.below i m).0 in omega (arith, z, e, l));
        }

    -- a full table brings the plan on
    pub gets-on : 0 < length es → (next < end) × (next < next')
    gets-on l = let u = starts-up all done before after p es has0 has has' w0 w w' low end next next' on c q rise 0 l in let z = (q.within 0 l).1 in let y = (q.below 0 l).0 in (omega (arith, u, z), omega (arith, u, y))
