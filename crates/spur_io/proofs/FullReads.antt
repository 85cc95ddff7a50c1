-- A buffer that is filled by several reads.
use Rattle.std.proofs.Common.{◌≡◌, ◌+◌, ◌≤◌, ℕ, List, ◌++◌, length, take, drop, refl, sym, ◌∙◌, ap, subst, arith, Option, Some, None, Ok, length-append, length-drop, length-take}
use Rattle.std.proofs.lemmas.List.{take_all, take-append-le, drop-drop}
use Rattle.std.proofs.Math.Seq.{take-add, take-append-add}
use Rattle.std.specs.Option.{IfSome}
use Rattle.spur_io.specs.Store.{FileMap, Gives, Reads}

-- the first `filled` bytes are those of the file at `at`, and the file has as many there
pub record IsFilled (file : List ℕ) (at filled : ℕ) (into : List ℕ) : Type 0 where
  pub front : take filled into ≡ take filled (drop at file)
  pub within : filled ≤ length (drop at file)

-- no byte yet
pub none_filled : (told : Option FileMap) (name : List ℕ) (at : ℕ) (into : List ℕ) → IfSome told (λ store. IsFilled (store name) at 0 into)
none_filled None name at into = tt
none_filled (Some store) name at into = record { front = refl; within = omega arith }

-- what was read is in front of what the read left
taken : (front new rest : List ℕ) (filled n : ℕ) → length front ≡ filled → n ≤ length new → take (filled + n) (front ++ (new ++ rest)) ≡ front ++ take n new
taken front new rest filled n long le = ap (λ k. take (k + n) (front ++ (new ++ rest))) (sym long) ∙ take-append-add front (new ++ rest) n ∙ ap (λ xs. front ++ xs) (take-append-le n new rest le)

-- a read more
filled_more : (file into new rest : List ℕ) (at filled n : ℕ) → filled ≤ length into → n ≤ length new → Gives file (at + filled) new n → IsFilled file at filled into → IsFilled file at (filled + n) (take filled into ++ (new ++ rest))
filled_more file into new rest at filled n fits le gives so_far =
    let long : length (take filled into) ≡ filled = simp length-take (omega arith) in
    let next : take n (drop filled (drop at file)) ≡ take n new = ap (take n) (drop-drop filled at file) ∙ sym gives.front in
    let read : take (filled + n) (drop at file) ≡ take filled into ++ take n new =
    take-add filled n (drop at file) ∙ ap (λ xs. xs ++ take n (drop filled (drop at file))) (sym so_far.front) ∙ ap (λ xs. take filled into ++ xs) next in
    let room : n ≤ length (drop (at + filled) file) = gives.within in
    record { front = taken (take filled into) new rest filled n long le ∙ sym read; within = omega (arith, length-drop at file, length-drop (at + filled) file, so_far.within) }

-- the same where the bytes are told
pub told_more : (told old : Option FileMap) (name into new rest : List ℕ) (at place filled n : ℕ) → told ≡ old → Reads told name place new (Ok n) → place ≡ at + filled → filled ≤ length into → n ≤ length new
    → IfSome old (λ store. IsFilled (store name) at filled into)
    → IfSome old (λ store. IsFilled (store name) at (filled + n) (take filled into ++ (new ++ rest)))
told_more None None name into new rest at place filled n same reads is fits le so_far = tt
told_more None (Some old) name into new rest at place filled n same reads is fits le so_far = cc
told_more (Some told) None name into new rest at place filled n same reads is fits le so_far = tt
told_more (Some told) (Some old) name into new rest at place filled n same reads is fits le so_far =
    let one : told ≡ old = cc in
    let P : ℕ → Type 0 = λ k. Gives (told name) k new n in
    let here : Gives (told name) (at + filled) new n = subst P is reads in
    let Q : FileMap → Type 0 = λ store. Gives (store name) (at + filled) new n in
    filled_more (old name) into new rest at filled n fits le (subst Q one here) so_far

-- the whole of it
pub told_whole : (old : Option FileMap) (name into : List ℕ) (at filled : ℕ) → filled ≡ length into → IfSome old (λ store. IsFilled (store name) at filled into) → IfSome old (λ store. take filled into ≡ take (length into) (drop at (store name)))
told_whole None name into at filled all so_far = tt
told_whole (Some store) name into at filled all so_far = so_far.front ∙ ap (λ n. take n (drop at (store name))) all

-- all that there is
ended : (file into new rest : List ℕ) (at filled : ℕ) → filled ≤ length into → Gives file (at + filled) new 0 → IsFilled file at filled into
    → take filled (take filled into ++ (new ++ rest)) ≡ take (length (take filled into ++ (new ++ rest))) (drop at file)
ended file into new rest at filled fits gives so_far =
    let long : length (take filled into) ≡ filled = simp length-take (omega arith) in
    let none : length (drop (at + filled) file) ≡ 0 = ap length (gives.end_only refl) in
    let short : length (drop at file) ≤ filled = omega (arith, length-drop at file, length-drop (at + filled) file) in
    let more : filled ≤ length (take filled into ++ (new ++ rest)) = omega (arith, length-append (take filled into) (new ++ rest)) in
    let front : take filled (take filled into ++ (new ++ rest)) ≡ take filled into =
    take-append-le filled (take filled into) (new ++ rest) (omega arith) ∙ take_all filled (take filled into) (omega arith) in
    let total : take (length (take filled into ++ (new ++ rest))) (drop at file) ≡ drop at file = take_all (length (take filled into ++ (new ++ rest))) (drop at file) (omega arith) in
    front ∙ so_far.front ∙ take_all filled (drop at file) short ∙ sym total

-- the same where the bytes are told
pub told_end : (told old : Option FileMap) (name into new rest : List ℕ) (at place filled n : ℕ) → told ≡ old → Reads told name place new (Ok n) → n ≡ 0 → place ≡ at + filled → filled ≤ length into
    → IfSome old (λ store. IsFilled (store name) at filled into)
    → IfSome old (λ store. take filled (take filled into ++ (new ++ rest)) ≡ take (length (take filled into ++ (new ++ rest))) (drop at (store name)))
told_end None None name into new rest at place filled n same reads none is fits so_far = tt
told_end None (Some old) name into new rest at place filled n same reads none is fits so_far = cc
told_end (Some told) None name into new rest at place filled n same reads none is fits so_far = tt
told_end (Some told) (Some old) name into new rest at place filled n same reads none is fits so_far =
    let one : told ≡ old = cc in
    let P : ℕ → ℕ → Type 0 = λ k m. Gives (told name) k new m in
    let at_end : P place 0 = subst (P place) none reads in
    let here : P (at + filled) 0 = subst (λ k. P k 0) is at_end in
    let Q : FileMap → Type 0 = λ store. Gives (store name) (at + filled) new 0 in
    ended (old name) into new rest at filled fits (subst Q one here) so_far
