-- One object after another.
use Rattle.std.proofs.Common.{◌≡◌, ℕ, Bool, true, false, ◌+◌, ◌-◌, ◌/◌, ◌<◌, ◌≤◌, ◌⊎◌, List, length, get_or, refl, sym, ap, ◌∙◌, subst, inl, inr, arith}
use Rattle.std.proofs.lemmas.Bool.{cases_eq, cases_lt, true≢false}
use Rattle.std.specs.Prelude.{◌==◌}
use Rattle.object_header.specs.Fields.{fields_of}
use Rattle.object_header.specs.Chunks.{leads, slots_at, StandsAt}
use Rattle.heap_walk.specs.declared.saved.Saved.{Saved}
use Rattle.planning_compactor.specs.Entries.{start_of, virtual, IsTable}
use Rattle.planning_compactor.specs.Readdressed.{is_between, moved_word, pointers_with, count_at, CanReaddress, IsNoSlot, Readdressed, IsNamed, Rewritten}
use Rattle.planning_compactor.proofs.Rewrites.{moved_word-same}
use Rattle.planning_compactor.proofs.Shapes.{slots_at-moved}

pub pointers-two : (words words' : List ℕ) (t f f' : ℕ) → get_or words' t 0 ≡ get_or words t 0 → slots_at words' t ≡ slots_at words t → f' ≡ f → pointers_with words' t f' ≡ pointers_with words t f
unfolding pointers_with
pointers-two words words' t f f' e s g = rw (e, s, g) refl

module _ (has : ℕ → Bool) (es es' : List Saved) (words words' : List ℕ) (low high at : ℕ) (c : CanReaddress has es words low high) (r : Readdressed has es es' words words' low high at) where
  -- a header is no slot
  pub head-no_slot : (t : ℕ) → has t ≡ true → IsNoSlot has es words at t
  head-no_slot t h = λ s g l m. let e = c.live.apart s t g h m in let f = c.fits s g in let k = e.slots in omega (arith, f, k)

  pub lead-no_slot : (t : ℕ) → has t ≡ true → leads (get_or words t 0) ≡ true → IsNoSlot has es words at (t - 1)
  lead-no_slot t h on = λ s g l m. let e = c.live.apart s t g h (omega (arith, m)) in let f = c.fits s g in let k = e.behind on in omega (arith, f, k)

  pub head-now : (t : ℕ) → has t ≡ true → get_or words' t 0 ≡ get_or words t 0
  head-now t h = r.outside t (head-no_slot t h)

  pub slots-now : (t : ℕ) → has t ≡ true → slots_at words' t ≡ slots_at words t
  slots-now t h = slots_at-moved words words' t t (head-now t h) (λ on. r.outside (t - 1) (lead-no_slot t h on))

  pub stands-now : (t : ℕ) → has t ≡ true → StandsAt words' t
  stands-now t h =
      let s = c.live.stands t h in
      let b = s.below in
      let f = s.fits in
      record { below = omega (arith, b, r.same_words); behind = λ on. s.behind (ap leads (sym (head-now t h)) ∙ on); fits = omega (arith, f, slots-now t h, r.same_words) }

  pub table-now : IsTable es' words'
  table-now = record {
    rising = λ a b l m. let k = c.table.rising a b l (omega (arith, m, r.same_table)) in omega (arith, k, r.starts a (omega (arith, l, m, r.same_table)), r.starts b (omega (arith, m, r.same_table)));
    inside = λ a l. let k = c.table.inside a (omega (arith, l, r.same_table)) in omega (arith, k, r.starts a (omega (arith, l, r.same_table)), r.same_words);
  }

  -- a slot of an object that was not passed is as it was
  pub slot-same : (t i : ℕ) → has t ≡ true → at ≤ t → virtual es' words' (t + 1 + i) ≡ virtual es words (t + 1 + i)
  slot-same t i h u = r.others (t + 1 + i) (λ s g l m. let e = c.live.apart s t g h (omega (arith, l, u)) in let f = c.fits s g in let k = e.slots in omega (arith, f, k))

  pub count-same : (t : ℕ) → has t ≡ true → at ≤ t → count_at es' words' t ≡ count_at es words t
  count-same t h u =
      let e : t + 1 + 0 ≡ t + 1 = omega arith in
      let first : virtual es' words' (t + 1) ≡ virtual es words (t + 1) = ap (virtual es' words') (sym e) ∙ slot-same t 0 h u ∙ ap (virtual es words) e in
      pointers-two words words' t (virtual es words (t + 1)) (virtual es' words' (t + 1)) (head-now t h) (slots-now t h) first

  module _ (s : ℕ) (h : has s ≡ true) (u : at ≤ s) where
    -- what the rewriting of this object asks
    pub apart-now : (k : ℕ) → k < length es' → (start_of es' k ≤ s) ⊎ (s + slots_at words' s < start_of es' k)
    apart-now k l =
        let m : k < length es = omega (arith, l, r.same_table) in
        elim (cases_lt s (start_of es k)) [
          | inl less ↦ inr (let e = c.live.apart s (start_of es k) h (c.entries k m) less in let q = e.slots in omega (arith, q, r.starts k m, slots-now s h))
          | inr not ↦ inl (omega (arith, not, r.starts k m))
        ]

    pub fits-now : count_at es' words' s ≤ slots_at words' s
    fits-now = let f = c.fits s h in omega (arith, f, count-same s h u, slots-now s h)

    ref-now : (i : ℕ) → i < count_at es' words' s → is_between low high (virtual es' words' (s + 1 + i)) ≡ true → has (virtual es' words' (s + 1 + i) / 8) ≡ true
    ref-now i l in' =
        ap (λ w. has (w / 8)) (slot-same s i h u) ∙ c.refs s i h (omega (arith, l, count-same s h u)) (ap (is_between low high) (sym (slot-same s i h u)) ∙ in')

    pub named-now : (between : (w : ℕ) → is_between low high w ≡ true → (low ≤ w / 8) × (w / 8 ≤ high)) (i : ℕ) → i < count_at es' words' s → is_between low high (virtual es' words' (s + 1 + i)) ≡ true → IsNamed words' es' (virtual es' words' (s + 1 + i) / 8)
    named-now between i l in' =
        let t : ℕ = virtual es' words' (s + 1 + i) / 8 in
        let g : has t ≡ true = ref-now i l in' in
        let st = (stands-now t g).below in
        record {
          inside = st;
          kept = λ off.
              let k = c.known t g (between (virtual es' words' (s + 1 + i)) in').0 (between (virtual es' words' (s + 1 + i)) in').1 (ap (λ w. (fields_of w).pinned == 1) (sym (head-now t g)) ∙ off) in
              (k.0, omega (arith, k.1, r.same_table), r.starts k.0 k.1 ∙ k.2);
        }

    pub heads-now : (i : ℕ) → i < count_at es' words' s → is_between low high (virtual es' words' (s + 1 + i)) ≡ true → (virtual es' words' (s + 1 + i) / 8 ≤ s) ⊎ (s + slots_at words' s < virtual es' words' (s + 1 + i) / 8)
    heads-now i l in' =
        let t : ℕ = virtual es' words' (s + 1 + i) / 8 in
        let g : has t ≡ true = ref-now i l in' in
        elim (cases_lt s t) [
          | inl less ↦ inr (let e = c.live.apart s t h g less in let q = e.slots in omega (arith, q, slots-now s h))
          | inr not ↦ inl not
        ]

    module _ (es'' : List Saved) (words'' : List ℕ) (between : (w : ℕ) → is_between low high w ≡ true → (low ≤ w / 8) × (w / 8 ≤ high))
        (none : (t : ℕ) → at ≤ t → t < s → has t ≡ false)
        (q : Rewritten es' es'' words' words'' low high s (count_at es' words' s))
      where
        frame : (i : ℕ) → i < count_at es words s → moved_word words' low high (virtual es words (s + 1 + i)) ≡ moved_word words low high (virtual es words (s + 1 + i))
        frame i l = moved_word-same words words' low high (virtual es words (s + 1 + i)) (λ in'.
            let t : ℕ = virtual es words (s + 1 + i) / 8 in
            let g : has t ≡ true = c.refs s i h l in' in (
              head-now t g,
              λ off. let k = c.known t g (between (virtual es words (s + 1 + i)) in').0 (between (virtual es words (s + 1 + i)) in').1 off in
                  ap (λ j. get_or words' (j + 1) 0) (sym k.2) ∙ r.targets k.0 k.1 ∙ ap (λ j. get_or words (j + 1) 0) k.2,
            ))

        -- a place that is no slot of an object up to this one
        no_slot-before : (j : ℕ) → IsNoSlot has es words (s + 1) j → IsNoSlot has es words at j
        no_slot-before j f = λ t g l m. f t g (omega (arith, l, u)) m

        no_slot-here : (j : ℕ) → IsNoSlot has es words (s + 1) j → (j ≤ s) ⊎ (s + count_at es' words' s < j)
        no_slot-here j f = elim (cases_lt s j) [ inl less ↦ inr (let k = f s h (omega arith) less in omega (arith, k, count-same s h u)) | inr not ↦ inl not ]

        pub walk-more : Readdressed has es es'' words words'' low high (s + 1)
        walk-more = record {
          same_words = q.same_words ∙ r.same_words;
          same_table = q.same_table ∙ r.same_table;
          starts = λ k l. q.starts k (omega (arith, l, r.same_table)) ∙ r.starts k l;
          targets = λ k l. ap (λ j. get_or words'' (j + 1) 0) (sym (r.starts k l)) ∙ q.targets k (omega (arith, l, r.same_table)) ∙ ap (λ j. get_or words' (j + 1) 0) (r.starts k l) ∙ r.targets k l;
          slots = λ t i g l m. elim (cases_eq t s) [
            | inl e ↦
                let m' : i < count_at es words s = subst (λ x. i < count_at es words x) e m in
                ap (λ x. virtual es'' words'' (x + 1 + i)) e ∙ q.slots i (omega (arith, m', count-same s h u)) ∙ ap (moved_word words' low high) (slot-same s i h u) ∙ frame i m' ∙ ap (λ x. moved_word words low high (virtual es words (x + 1 + i))) (sym e)
            | inr n ↦
                let before : t < at = elim (cases_lt t at) [ inl a ↦ a | inr a ↦ absurd (true≢false (sym g ∙ none t a (omega (arith, l, n)))) ] in
                let e = c.live.apart t s g h (omega (arith, l, n)) in
                let f = c.fits t g in
                let k = e.slots in
                q.others (t + 1 + i) (inl (omega (arith, f, k, m))) ∙ r.slots t i g before m
          ];
          others = λ j f. q.others j (no_slot-here j f) ∙ r.others j (no_slot-before j f);
          outside = λ j f. q.outside j (no_slot-here j f) ∙ r.outside j (no_slot-before j f);
        }
