-- The names of kept objects and those of their places, as a part of a pairing of all numbers.
use Rattle.std.proofs.Common.{◌≡◌, ℕ, suc, zero, Bool, true, cond, ◌<◌, List, [], ◌∷◌, length, get_or, sym, ap, ◌∙◌, subst, inl, inr, arith}
use Rattle.std.proofs.lemmas.Bool.{cases_Bool}
use Rattle.std.specs.List.{Contains, filter}
use Rattle.std.proofs.lemmas.List.Elements.{Contains-get_or}
use Rattle.heap_cells.proofs.CellKinds.{there_starts}
use Rattle.heap_cells.proofs.Members.{In, in_list, listed, in_filter, filter_in}
use Rattle.heap_cells.proofs.Pairings.{Extends, pairing_of, pairing_at}
use Rattle.heap_laws.specs.Placing.{PlacesPair}

-- what is kept of a rising list rises
abbrev pub Above : ℕ → List ℕ → Type 0
Above s ss = (j : ℕ) → j < length ss → s < get_or ss j 0

abbrev Rises : List ℕ → Type 0
Rises ss = (i j : ℕ) → i < j → j < length ss → get_or ss i 0 < get_or ss j 0

pub above_in : (s : ℕ) (ss : List ℕ) → Above s ss → (t : ℕ) → In ss t → s < t
above_in s [] up t m = absurd m
above_in s (u ∷ ss) up t m = elim m [
  | inl e ↦ let a = up 0 (omega arith) in omega (arith, a, e)
  | inr n ↦ above_in s ss (λ j l. up (suc j) (omega (arith, l))) t n
]

above_kept : (keep : ℕ → Bool) (s : ℕ) (ss : List ℕ) → Above s ss → Above s (filter keep ss)
above_kept keep s ss up j l = above_in s ss up (get_or (filter keep ss) j 0) (filter_in keep ss (get_or (filter keep ss) j 0) (in_list (filter keep ss) (get_or (filter keep ss) j 0) (Contains-get_or (filter keep ss) j 0 l))).0

rises_cons : (s : ℕ) (ss : List ℕ) → Above s ss → Rises ss → Rises (s ∷ ss)
rises_cons s ss up rise i zero l m = absurd (omega (arith, l))
rises_cons s ss up rise zero (suc j) l m = up j (omega (arith, m))
rises_cons s ss up rise (suc i) (suc j) l m = rise i j (omega (arith, l)) (omega (arith, m))

rises_kept : (keep : ℕ → Bool) (ss : List ℕ) → Rises ss → Rises (filter keep ss)
rises_kept keep [] rise = rise
rises_kept keep (s ∷ ss) rise =
    let above : Above s ss = λ j l. rise 0 (suc j) (omega arith) (omega (arith, l)) in
    let rest : Rises (filter keep ss) = rises_kept keep ss (λ i j l m. rise (suc i) (suc j) (omega (arith, l)) (omega (arith, m))) in
    elim (cases_Bool (keep s)) [
      | inl on ↦ subst (λ b. Rises (cond b (s ∷ filter keep ss) (filter keep ss))) (sym on) (rises_cons s (filter keep ss) (above_kept keep s ss above) rest)
      | inr off ↦ subst (λ b. Rises (cond b (s ∷ filter keep ss) (filter keep ss))) (sym off) rest
    ]

pub places_pair : PlacesPair
places_pair p keep old new name name' k rise apart apart' =
    let ss : List ℕ = filter keep old.starts in
    let up = rises_kept keep old.starts rise in
    let kept : (s : ℕ) → Contains ss s → keep s ≡ true = λ s c. (filter_in keep old.starts s (in_list ss s c)).1 in
    let e : Extends name ss = pairing_of name ss up (λ s t c d x. apart s t (kept s c) (kept t d) x) in
    let f : Extends (λ s. name' (p s)) ss = pairing_of (λ s. name' (p s)) ss up (λ s t c d x. apart' s t (kept s c) (kept t d) x) in
    record {
      place = λ a. f.q (e.p a);
      back = λ a. e.q (f.p a);
      are = record {
        left = λ a. ap e.q (f.pairing.right (e.p a)) ∙ e.pairing.left a;
        right = λ a. ap f.q (e.pairing.right (f.p a)) ∙ f.pairing.left a;
        named = λ s on o.
            let c : Contains ss s = listed ss s (in_filter keep old.starts s (in_list old.starts s (k.reads.inside s (there_starts (old.cell s) (k.placed.some s on)))) on) in
            ap f.q (pairing_at e s c) ∙ ap f.q (sym (pairing_at f s c)) ∙ f.pairing.left (name' (p s));
      };
    }
