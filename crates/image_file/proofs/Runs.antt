-- A run of words that is written into others.
use Rattle.std.proofs.Common.{◌≡◌, ℕ, zero, suc, ◌+◌, ◌-◌, ◌≤◌, List, [], ◌∷◌, ◌++◌, length, take, drop, arith, refl, sym, ap, ◌∙◌, length-take, length-drop, length-append, slice_range}
use Rattle.std.proofs.lemmas.List.{take-append-le, take_all, take-take, drop-drop, drop-take}
use Rattle.std.proofs.Math.Seq.{take-add}
use Rattle.std.specs.List.{refill}
use Rattle.spur_words.specs.Lending.{with_run}

length_with : (old run : List ℕ) (at : ℕ) → at + length run ≤ length old → length (with_run old at run) ≡ length old
length_with old run at within =
    let rest : List ℕ = drop (length run) (drop at old) in
    omega (arith, within, length-append (take at old) (run ++ rest), length-append run rest, length-take at old, length-drop (length run) (drop at old), length-drop at old)

pub refilled : (old run : List ℕ) (at : ℕ) → at + length run ≤ length old → refill (length old) old (with_run old at run) ≡ with_run old at run
refilled old run at within =
    let now : List ℕ = with_run old at run in
    let long : length now ≡ length old = length_with old run at within in
    take-append-le (length old) now (drop (length now) old) (omega (arith, long)) ∙ take_all (length old) now (omega (arith, long))

pub length_run : (old run : List ℕ) (at : ℕ) → at + length run ≤ length old → length (refill (length old) old (with_run old at run)) ≡ length old
length_run old run at within = ap length (refilled old run at within) ∙ length_with old run at within

-- the words before the run
pub before_run : (old run : List ℕ) (at n : ℕ) → at + length run ≤ length old → n ≤ at → take n (refill (length old) old (with_run old at run)) ≡ take n old
before_run old run at n within le =
    ap (take n) (refilled old run at within) ∙ (take-append-le n (take at old) (run ++ drop (length run) (drop at old)) (omega (arith, within, le, length-take at old)) ∙ take-take n at old le)

drop_exact : (n : ℕ) (xs ys : List ℕ) → length xs ≡ n → drop n (xs ++ ys) ≡ ys
drop_exact zero [] ys is = refl
drop_exact zero (x ∷ xs) ys is = absurd (omega (arith, is))
drop_exact (suc n) [] ys is = absurd (omega (arith, is))
drop_exact (suc n) (x ∷ xs) ys is = drop_exact n xs ys (omega (arith, is))

from_run : (old run : List ℕ) (at : ℕ) → at + length run ≤ length old → drop at (with_run old at run) ≡ run ++ drop (length run) (drop at old)
from_run old run at within = drop_exact at (take at old) (run ++ drop (length run) (drop at old)) (omega (arith, within, length-take at old))

-- the words behind the run
pub behind_run : (old run : List ℕ) (at n : ℕ) → at + length run ≤ length old → at + length run ≤ n → drop n (refill (length old) old (with_run old at run)) ≡ drop n old
behind_run old run at n within le =
    let now : List ℕ = with_run old at run in
    let end : ℕ = at + length run in
    let rest : List ℕ = drop (length run) (drop at old) in
    let more : end + (n - end) ≡ n = omega (arith, le) in
    let parted : (xs : List ℕ) → drop n xs ≡ drop (n - end) (drop end xs) = λ xs. sym (drop-drop (n - end) end xs ∙ ap (λ m. drop m xs) more) in
    let tail : drop end now ≡ drop end old = sym (drop-drop (length run) at now) ∙ (ap (drop (length run)) (from_run old run at within) ∙ (drop_exact (length run) run rest refl ∙ drop-drop (length run) at old)) in
    ap (drop n) (refilled old run at within) ∙ (parted now ∙ (ap (drop (n - end)) tail ∙ sym (parted old)))

-- the words from a place before the run on, up to its end
pub with_more : (old run : List ℕ) (begin done : ℕ) → begin + done + length run ≤ length old
    → take (done + length run) (drop begin (refill (length old) old (with_run old (begin + done) run))) ≡ take done (drop begin old) ++ run
with_more old run begin done within =
    let at : ℕ = begin + done in
    let now : List ℕ = with_run old at run in
    let rest : List ℕ = drop (length run) (drop at old) in
    let zs : List ℕ = drop begin now in
    let same : take at now ≡ take at old = ap (take at) (sym (refilled old run at within)) ∙ before_run old run at at within (omega arith) in
    let front : take done zs ≡ take done (drop begin old) = sym (drop-take begin done now) ∙ (ap (drop begin) same ∙ drop-take begin done old) in
    let back : take (length run) (drop done zs) ≡ run =
    ap (take (length run)) (drop-drop done begin now ∙ from_run old run at within) ∙ (take-append-le (length run) run rest (omega arith) ∙ take_all (length run) run (omega arith)) in
    ap (λ xs. take (done + length run) (drop begin xs)) (refilled old run at within) ∙ (take-add done (length run) zs ∙ (ap (λ xs. xs ++ take (length run) (drop done zs)) front ∙ ap (λ xs. take done (drop begin old) ++ xs) back))

-- a run has so many words as the window that it is written to
pub run_length : (old run window : List ℕ) (at count : ℕ) → length run ≡ length window → window ≡ slice_range old at (at + count) → at + count ≤ length old → length run ≡ count
run_length old run window at count same is within = omega (arith, same, ap length is, length-take (at + count - at) (drop at old), length-drop at old, within)
