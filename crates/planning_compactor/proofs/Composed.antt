-- One move of objects after another, and none at all.
use Rattle.std.proofs.Common.{◌≡◌, ℕ, Bool, true, ◌+◌, ◌*◌, ◌/◌, ◌%◌, List, get_or, refl, sym, ap, ◌∙◌, inl, inr, arith}
use Rattle.std.proofs.lemmas.Bool.{cases_eq, ne_eqb, eq-eqb}
use Rattle.object_header.specs.Chunks.{leads}
use Rattle.heap_laws.specs.Compaction.{MovedBy}
use Rattle.heap_laws.specs.Instances.{readdressed_by}
use Rattle.compaction_laws.specs.Compacting.{is_pinned}
use Rattle.planning_compactor.specs.Roots.{Roots, RootsMovedBy}
use Rattle.planning_compactor.proofs.Shapes.{head-moved, pinned-same}

word-stays : (word : ℕ) → readdressed_by (λ t. t) word ≡ word
word-stays word = elim (cases_eq (word % 8) 0) [
  | inl e ↦ rw (eq-eqb (word % 8) 0 e) (let z : 8 * (word / 8) ≡ word = omega (arith, e) in z)
  | inr n ↦ rw (ne_eqb (word % 8) 0 n) refl
]

pub moved-none : (has : ℕ → Bool) (words : List ℕ) → MovedBy (λ t. t) has has words words
moved-none has words = record {
  same_words = refl;
  there = λ t g. g;
  back = λ s g. (s, g, refl);
  once = λ s t g k e. e;
  objects = λ t g. record { header = refl; lead = λ on. refl; slots = refl; count = refl; pointers = λ i l. sym (word-stays (get_or words (t + 1 + i) 0)); others = λ i l m. refl };
}

pub roots-none : (r : Roots) → RootsMovedBy (λ t. t) r r
roots-none r = record {
  same_handles = refl;
  handles = λ i l. sym (word-stays (get_or r.handles i 0));
  special = sym (word-stays r.special);
  same_mourners = refl;
  starts = λ i l. refl;
  groups = λ i l. refl;
}

module _ (p q : ℕ → ℕ) where
  words-then : (word : ℕ) → readdressed_by q (readdressed_by p word) ≡ readdressed_by (λ t. q (p t)) word
  words-then word = elim (cases_eq (word % 8) 0) [
    | inl e ↦
        let a : readdressed_by p word ≡ 8 * p (word / 8) = rw (eq-eqb (word % 8) 0 e) refl in
        let b : (8 * p (word / 8)) % 8 ≡ 0 = omega arith in
        let c : 8 * p (word / 8) / 8 ≡ p (word / 8) = omega arith in
        ap (readdressed_by q) a ∙ rw (eq-eqb ((8 * p (word / 8)) % 8) 0 b, c, eq-eqb (word % 8) 0 e) refl
    | inr n ↦
        let a : readdressed_by p word ≡ word = rw (ne_eqb (word % 8) 0 n) refl in
        ap (readdressed_by q) a ∙ rw (ne_eqb (word % 8) 0 n) refl
  ]

  pub roots-then : {a b d : Roots} → RootsMovedBy p a b → RootsMovedBy q b d → RootsMovedBy (λ t. q (p t)) a d
  roots-then {a} x y = record {
    same_handles = y.same_handles ∙ x.same_handles;
    handles = λ i l. y.handles i (omega (arith, l, x.same_handles)) ∙ ap (readdressed_by q) (x.handles i l) ∙ words-then (get_or a.handles i 0);
    special = y.special ∙ ap (readdressed_by q) x.special ∙ words-then a.special;
    same_mourners = y.same_mourners ∙ x.same_mourners;
    starts = λ i l. y.starts i (omega (arith, l, x.same_mourners)) ∙ ap q (x.starts i l);
    groups = λ i l. y.groups i (omega (arith, l, x.same_mourners)) ∙ x.groups i l;
  }

  module _ (has0 has has' : ℕ → Bool) (w0 w w' : List ℕ) (a : MovedBy p has0 has w0 w) where
    pub moved-then : MovedBy q has has' w w' → MovedBy (λ t. q (p t)) has0 has' w0 w'
    moved-then b = record {
      same_words = b.same_words ∙ a.same_words;
      there = λ t g. b.there (p t) (a.there t g);
      back = λ s g. let y = b.back s g in let x = a.back y.0 y.1 in (x.0, x.1, ap q x.2 ∙ y.2);
      once = λ s t g k e. a.once s t g k (b.once (p s) (p t) (a.there s g) (a.there t k) e);
      objects = λ t g.
          let v = a.objects t g in
          let u = b.objects (p t) (a.there t g) in
          record {
            header = u.header ∙ v.header;
            lead = λ on. u.lead (ap leads v.header ∙ on) ∙ v.lead on;
            slots = u.slots ∙ v.slots;
            count = u.count ∙ v.count;
            pointers = λ i l. u.pointers i (omega (arith, l, v.count)) ∙ ap (readdressed_by q) (v.pointers i l) ∙ words-then (get_or w0 (t + 1 + i) 0);
            others = λ i l m. u.others i (omega (arith, l, v.count)) (omega (arith, m, v.slots)) ∙ v.others i l m;
          };
    }

    -- what stays by the first, and then by the second
    pub pinned-then : ((t : ℕ) → has0 t ≡ true → is_pinned w0 t ≡ true → p t ≡ t) → ((t : ℕ) → has t ≡ true → is_pinned w t ≡ true → q t ≡ t) → (t : ℕ) → has0 t ≡ true → is_pinned w0 t ≡ true → q (p t) ≡ t
    pinned-then f h t g k =
        let same : p t ≡ t = f t g k in
        let there : has t ≡ true = ap has (sym same) ∙ a.there t g in
        let now : is_pinned w t ≡ true = ap (is_pinned w) (sym same) ∙ pinned-same (head-moved (a.objects t g)) ∙ k in
        ap q same ∙ h t there now
