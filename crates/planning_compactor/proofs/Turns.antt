-- One turn of the exchange of first fields.
use Rattle.std.proofs.Common.{◌≡◌, ◌≢◌, ℕ, ◌+◌, ◌<◌, ◌≤◌, List, length, get_or, set, sym, ap, ◌∙◌, inl, inr, arith}
use Rattle.std.proofs.lemmas.Bool.{cases_eq}
use Rattle.std.proofs.lemmas.List.{length-set, get_or-set_same, get_or-set_other}
use Rattle.heap_walk.specs.declared.saved.Saved.{Saved}
use Rattle.planning_compactor.specs.Entries.{entry, start_of, IsTable}

pub record Swapped (old table : List Saved) (before words : List ℕ) (i : ℕ) : Type 0 where
  pub same_words : length words ≡ length before
  pub same_table : length table ≡ length old
  pub starts : (k : ℕ) → k < length old → start_of table k ≡ start_of old k
  pub taken : (k : ℕ) → k < i → (entry table k).first ≡ get_or before (start_of old k + 1) 0
  pub rest : (k : ℕ) → i ≤ k → k < length old → (entry table k).first ≡ (entry old k).first
  pub put : (k : ℕ) → k < i → get_or words (start_of old k + 1) 0 ≡ (entry old k).first
  pub others : (j : ℕ) → ((k : ℕ) → k < i → start_of old k + 1 ≢ j) → get_or words j 0 ≡ get_or before j 0

pub turn : (old table : List Saved) (before words : List ℕ) (i : ℕ) → IsTable old before → i < length old → Swapped old table before words i
    → Swapped old (set table i (record { start = start_of table i; first = get_or words (start_of table i + 1) 0 })) before (set words (start_of table i + 1) (entry table i).first) (i + 1)
turn old table before words i t b s =
    let new : Saved = record { start = start_of table i; first = get_or words (start_of table i + 1) 0 } in
    let none : Saved = record { start = 0; first = 0 } in
    let a : ℕ = start_of table i + 1 in
    let is : start_of table i ≡ start_of old i = s.starts i b in
    let here : entry (set table i new) i ≡ new = get_or-set_same table i new none (omega (arith, b, s.same_table)) in
    let inside = t.inside i b in
    let low : a < length words = omega (arith, is, inside, s.same_words) in
    let free : get_or words (start_of old i + 1) 0 ≡ get_or before (start_of old i + 1) 0 = s.others (start_of old i + 1) (λ k l e. let r = t.rising k i l b in omega (arith, r, e)) in
    record {
      same_words = length-set words a (entry table i).first ∙ s.same_words;
      same_table = length-set table i new ∙ s.same_table;
      starts = λ k l. elim (cases_eq k i) [
        | inl e ↦ ap (λ j. start_of (set table i new) j) e ∙ ap (λ (x : Saved). x.start) here ∙ is ∙ ap (start_of old) (sym e)
        | inr n ↦ ap (λ (x : Saved). x.start) (get_or-set_other table i k new none n) ∙ s.starts k l
      ];
      taken = λ k l. elim (cases_eq k i) [
        | inl e ↦ ap (λ j. (entry (set table i new) j).first) e ∙ ap (λ (x : Saved). x.first) here ∙ ap (λ j. get_or words (j + 1) 0) is ∙ free ∙ ap (λ j. get_or before (start_of old j + 1) 0) (sym e)
        | inr n ↦ ap (λ (x : Saved). x.first) (get_or-set_other table i k new none n) ∙ s.taken k (omega (arith, l, n))
      ];
      rest = λ k l m. ap (λ (x : Saved). x.first) (get_or-set_other table i k new none (λ e. omega (arith, e, l))) ∙ s.rest k (omega arith) m;
      put = λ k l. elim (cases_eq k i) [
        | inl e ↦ ap (λ j. get_or (set words a (entry table i).first) (j + 1) 0) (ap (start_of old) e ∙ sym is) ∙ get_or-set_same words a (entry table i).first 0 low ∙ s.rest i (omega arith) b ∙ ap (λ j. (entry old j).first) (sym e)
        | inr n ↦ get_or-set_other words a (start_of old k + 1) (entry table i).first 0 (λ e. let r = t.rising k i (omega (arith, l, n)) b in omega (arith, r, e, is)) ∙ s.put k (omega (arith, l, n))
      ];
      others = λ j h. get_or-set_other words a j (entry table i).first 0 (λ e. h i (omega arith) (omega (arith, is, e))) ∙ s.others j (λ k l. h k (omega (arith, l)));
    }
