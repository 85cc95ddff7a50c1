-- Numbers that are apart lead one to one to others, as a part of a pairing of all numbers.
use Rattle.std.proofs.Common.{◌≡◌, ◌≢◌, ℕ, suc, ◌<◌, List, [], ◌∷◌, length, get_or, refl, sym, ap, ◌∙◌, arith}
use Rattle.std.specs.List.{AllByRecursion, Contains}
use Rattle.std.proofs.lemmas.List.Elements.{All-contains, All-from_recursion, recursion_from_All}
use Rattle.std.proofs.lemmas.List.{get_or_default}
use Rattle.spur_graph.specs.Names.{swapped}
use Rattle.spur_graph.proofs.Swapping.{swapped-left, swapped-else, swapped-twice}

-- numbers that lead to one another
pub record Pairing (p q : ℕ → ℕ) : Type 0 where
  pub left : (s : ℕ) → q (p s) ≡ s
  pub right : (s : ℕ) → p (q s) ≡ s

-- a pairing that takes the names of these to themselves
pub record Extends (name : ℕ → ℕ) (starts : List ℕ) : Type 0 where
  pub p : ℕ → ℕ
  pub q : ℕ → ℕ
  pub pairing : Pairing p q
  pub there : AllByRecursion (λ s. p (name s) ≡ s) starts

-- none stands twice, and no two have one name
abbrev AreApart : (ℕ → ℕ) → List ℕ → Type 0
AreApart name [] = Unit {0}
AreApart name (s ∷ ss) = AllByRecursion (λ t. (name t ≢ name s) × (t ≢ s)) ss × AreApart name ss

extend : (name : ℕ → ℕ) (starts : List ℕ) → AreApart name starts → Extends name starts
extend name [] a = record { p = λ s. s; q = λ s. s; pairing = record { left = λ s. refl; right = λ s. refl }; there = tt }
extend name (e ∷ es) a =
    let r = extend name es a.1 in
    record {
      p = λ s. swapped (r.p (name e)) e (r.p s);
      q = λ s. r.q (swapped (r.p (name e)) e s);
      pairing = record {
        left = λ s. ap r.q (swapped-twice (r.p (name e)) e (r.p s)) ∙ r.pairing.left s;
        right = λ s. ap (swapped (r.p (name e)) e) (r.pairing.right (swapped (r.p (name e)) e s)) ∙ swapped-twice (r.p (name e)) e s;
      };
      there = (swapped-left (r.p (name e)) e (r.p (name e)) refl, keep r es r.there a.0);
    }
  where
    keep : (r : Extends name es) (fs : List ℕ) → AllByRecursion (λ t. r.p (name t) ≡ t) fs → AllByRecursion (λ t. (name t ≢ name e) × (t ≢ e)) fs → AllByRecursion (λ t. swapped (r.p (name e)) e (r.p (name t)) ≡ t) fs
    keep r [] t a = tt
    keep r (f ∷ fs) t a = (swapped-else (r.p (name e)) e (r.p (name f)) (λ k. a.0.0 (sym (r.pairing.left (name f)) ∙ ap r.q k ∙ r.pairing.left (name e))) (λ k. a.0.1 (sym t.0 ∙ k)) ∙ t.0, keep r fs t.1 a.1)

-- starts that rise are apart
are_apart : (name : ℕ → ℕ) (ss : List ℕ) → ((i j : ℕ) → i < j → j < length ss → get_or ss i 0 < get_or ss j 0) → ((s t : ℕ) → Contains ss s → Contains ss t → name s ≡ name t → s ≡ t) → AreApart name ss
are_apart name [] up one = tt
are_apart name (s ∷ ss) up one =
    let others : (j : ℕ) (d : ℕ) → j < length ss → (name (get_or ss j d) ≢ name s) × (get_or ss j d ≢ s) = λ j d l.
    let above : s < get_or ss j 0 = up 0 (suc j) (omega arith) (omega (arith, l)) in
    let same : get_or ss j d ≡ get_or ss j 0 = get_or_default ss j d 0 l in
    let inside : Contains (s ∷ ss) (get_or ss j d) = (suc j, omega (arith, l), get_or_default ss j (get_or ss j d) d l) in
    let front : Contains (s ∷ ss) s = (0, omega arith, refl) in
    (λ e. let is : get_or ss j d ≡ s = one (get_or ss j d) s inside front e in omega (arith, above, same, is), λ is. omega (arith, above, same, is)) in (
      recursion_from_All (λ t. (name t ≢ name s) × (t ≢ s)) ss others,
      are_apart name ss (λ i j l m. up (suc i) (suc j) (omega (arith, l)) (omega (arith, m))) (λ a b p q e. one a b (suc p.0, omega (arith, p.1), p.2) (suc q.0, omega (arith, q.1), q.2) e),
    )

pub pairing_of : (name : ℕ → ℕ) (ss : List ℕ) → ((i j : ℕ) → i < j → j < length ss → get_or ss i 0 < get_or ss j 0) → ((s t : ℕ) → Contains ss s → Contains ss t → name s ≡ name t → s ≡ t) → Extends name ss
pairing_of name ss up one = extend name ss (are_apart name ss up one)

pub pairing_at : {name : ℕ → ℕ} {ss : List ℕ} (e : Extends name ss) (s : ℕ) → Contains ss s → e.p (name s) ≡ s
pairing_at {name} {ss} e s c = All-contains (λ t. e.p (name t) ≡ t) ss s (All-from_recursion (λ t. e.p (name t) ≡ t) ss e.there) c
