-- Sums over lists whose members go to one another, in any order.
use Rattle.std.proofs.Common.{◌≡◌, ◌⊎◌, ℕ, Bool, cond, ◌+◌, List, [], ◌∷◌, refl, sym, ap, ◌∙◌, subst, inl, inr, arith}
use Rattle.std.proofs.lemmas.Bool.{cases_Bool}
use Rattle.std.proofs.lemmas.List.Sums.{sum_by-cons}
use Rattle.std.specs.List.{filter, sum_by}
use Rattle.heap_cells.proofs.Members.{In, filter_in}

-- no two have one key
abbrev pub AreApart : {A : Type 0} → (A → ℕ) → List A → Type 0
AreApart key [] = Unit {0}
AreApart key (x ∷ xs) = ((z : _) → In xs z → key z ≡ key x → ⊥) × AreApart key xs

pub apart_filter : {A : Type 0} (key : A → ℕ) (f : A → Bool) (xs : List A) → AreApart key xs → AreApart key (filter f xs)
apart_filter key f [] a = tt
apart_filter key f (x ∷ xs) a = elim (cases_Bool (f x)) [
  | inl on ↦ subst (λ b. AreApart key (cond b (x ∷ filter f xs) (filter f xs))) (sym on) ((λ z m. a.0 z (filter_in f xs z m).0), apart_filter key f xs a.1)
  | inr off ↦ subst (λ b. AreApart key (cond b (x ∷ filter f xs) (filter f xs))) (sym off) (apart_filter key f xs a.1)
]

pub once_apart : {A : Type 0} (key : A → ℕ) (xs : List A) → AreApart key xs → (x z : A) → In xs x → In xs z → key x ≡ key z → x ≡ z
once_apart key [] a x z m n e = absurd m
once_apart key (y ∷ xs) a x z m n e = elim m [
  | inl f ↦ elim n [ inl g ↦ sym f ∙ g | inr o ↦ absurd (a.0 z o (sym e ∙ ap key (sym f))) ]
  | inr q ↦ elim n [ inl g ↦ absurd (a.0 x q (e ∙ ap key (sym g))) | inr o ↦ once_apart key xs a.1 x z q o e ]
]

-- a member taken out
record Out {A : Type 0} (key : A → ℕ) (G : A → ℕ) (ys : List A) (y : A) : Type 0 where
  rest : List A
  sum : sum_by G ys ≡ G y + sum_by G rest
  back : (z : A) → In rest z → In ys z
  either : (z : A) → In ys z → (y ≡ z) ⊎ In rest z
  other : (z : A) → In rest z → key z ≡ key y → ⊥
  apart : AreApart key rest

out : {A : Type 0} (key : A → ℕ) (G : A → ℕ) (ys : List A) (y : A) → AreApart key ys → In ys y → Out key G ys y
out key G [] y a m = absurd m
out key G (x ∷ ys) y a m = elim m [
  | inl e ↦ record {
    rest = ys;
    sum = sum_by-cons G x ys ∙ ap (λ z. G z + sum_by G ys) e;
    back = λ z n. inr n;
    either = λ z n. elim n [ inl f ↦ inl (sym e ∙ f) | inr o ↦ inr o ];
    other = λ z n f. a.0 z n (f ∙ ap key (sym e));
    apart = a.1;
  }
  | inr n ↦
      let r = out key G ys y a.1 n in
      record {
        rest = x ∷ r.rest;
        sum = let q = r.sum in omega (arith, q, sum_by-cons G x ys, sum_by-cons G x r.rest);
        back = λ z q. elim q [ inl f ↦ inl f | inr o ↦ inr (r.back z o) ];
        either = λ z q. elim q [ inl f ↦ inr (inl f) | inr o ↦ elim (r.either z o) [ inl f ↦ inl f | inr w ↦ inr (inr w) ] ];
        other = λ z q f. elim q [ inl g ↦ a.0 y n (sym f ∙ ap key (sym g)) | inr o ↦ r.other z o f ];
        apart = ((λ z q. a.0 z (r.back z q)), r.apart);
      }
]

pub sum-placed : {A B : Type 0} (p : ℕ → ℕ) (key : A → ℕ) (key' : B → ℕ) (F : A → ℕ) (G : B → ℕ) (xs : List A) (ys : List B) → AreApart key xs → AreApart key' ys
    → ((x z : A) → In xs x → In xs z → p (key x) ≡ p (key z) → key x ≡ key z)
    → ((x : A) → In xs x → (y : B) × In ys y × (key' y ≡ p (key x)) × (G y ≡ F x))
    → ((y : B) → In ys y → (x : A) × In xs x × (p (key x) ≡ key' y)) → sum_by G ys ≡ sum_by F xs
sum-placed p key key' F G [] [] a b one to from = refl
sum-placed p key key' F G [] (y ∷ ys) a b one to from = absurd (from y (inl refl)).1
sum-placed p key key' F G (x ∷ xs) ys a b one to from =
    let t = to x (inl refl) in
    let o = out key' G ys t.0 b t.1 in
    let rest : sum_by G o.rest ≡ sum_by F xs = sum-placed p key key' F G xs o.rest a.1 o.apart (λ u v m n e. one u v (inr m) (inr n) e)
    (λ u m. let s = to u (inr m) in elim (o.either s.0 s.1) [
      | inl e ↦ absurd (a.0 u m (one u x (inr m) (inl refl) (sym s.2 ∙ ap key' (sym e) ∙ t.2)))
      | inr n ↦ (s.0, n, s.2, s.3)
    ])
    (λ y m. let s = from y (o.back y m) in elim s.1 [
      | inl e ↦ absurd (o.other y m (sym s.2 ∙ ap (λ z. p (key z)) (sym e) ∙ sym t.2))
      | inr n ↦ (s.0, n, s.2)
    ]) in
    let taken = o.sum in
    omega (arith, taken, t.3, rest, sum_by-cons F x xs)
