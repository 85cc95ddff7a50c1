-- Names that stand apart in two lists that stand one behind the other.
use Rattle.std.proofs.Common.{◌≡◌, ℕ, suc, List, [], ◌∷◌, ◌++◌, get_or, sym, subst, inl, inr, arith}
use Rattle.std.proofs.lemmas.List.Elements.{All-append, Contains-append_left, Contains-append_right, Contains-append_cases, Contains-get_or, All-contains}
use Rattle.std.proofs.lemmas.List.Kept.{AllPairs-cons}
use Rattle.std.specs.List.{All, Contains}
use Rattle.spur_graph.specs.Graph.{AreApart}
use Rattle.spur_graph.proofs.Reaching.{first_among, only_among}

first_apart : (a : ℕ) (names : List ℕ) → AreApart (a ∷ names) → All (λ b. a ≡ b → ⊥) names
first_apart a names apart i d l = apart 0 (suc i) d (omega arith) (omega (arith, l))

others_apart : (a : ℕ) (names : List ℕ) → AreApart (a ∷ names) → AreApart names
others_apart a names apart i j d before within = apart (suc i) (suc j) d (omega (arith, before)) (omega (arith, within))

-- no name stands in both
abbrev pub AreDisjoint : List ℕ → List ℕ → Type 0
AreDisjoint xs ys = (a : ℕ) → Contains xs a → Contains ys a → ⊥

pub apart-append : (xs ys : List ℕ) → AreApart xs → AreApart ys → AreDisjoint xs ys → AreApart (xs ++ ys)
apart-append [] ys first second disjoint = second
apart-append (x ∷ xs) ys first second disjoint = AllPairs-cons (λ a b. a ≡ b → ⊥) x (xs ++ ys)
    (All-append (λ b. x ≡ b → ⊥) xs ys (first_apart x xs first)
    (λ i d l same. disjoint x (first_among x xs) (subst (Contains ys) (sym same) (Contains-get_or ys i d l))))
    (apart-append xs ys (others_apart x xs first) second (λ a among also. disjoint a (Contains-append_right (x ∷ []) xs a among) also))

pub apart-parts : (xs ys : List ℕ) → AreApart (xs ++ ys) → AreApart xs × AreApart ys × AreDisjoint xs ys
apart-parts [] ys apart = ((λ i j d before within. omega (arith, within)), apart, λ a among also. omega (arith, among.1))
apart-parts (x ∷ xs) ys apart =
    let rest = apart-parts xs ys (others_apart x (xs ++ ys) apart) in
    let first = first_apart x (xs ++ ys) apart in (
      AllPairs-cons (λ a b. a ≡ b → ⊥) x xs (λ i d l. All-contains (λ b. x ≡ b → ⊥) (xs ++ ys) (get_or xs i d) first (Contains-append_left xs ys (get_or xs i d) (Contains-get_or xs i d l))) rest.0,
      rest.1,
      λ a among also. elim (Contains-append_cases (x ∷ []) xs a among) [
        | inl same ↦ All-contains (λ b. x ≡ b → ⊥) (xs ++ ys) a first (Contains-append_right xs ys a also) (only_among x a same)
        | inr later ↦ rest.2 a later also
      ],
    )
