use Rattle.std.proofs.Common.{◌≡◌, ℕ, Bool, List, ◌+◌, ◌-◌, ◌<◌, ◌≤◌, sym, ap, ◌∙◌, subst, arith, inl, inr, length, true, false, ◌⊎◌, slice_index}
use Rattle.std.proofs.lemmas.Bool.{true≢false, cases_eq, cases_lt}
use Rattle.planning_compactor.specs.Planning.{AreLaid, IsIn}
use Rattle.heap_walk.specs.Starts.{has_start}
use Rattle.planning_compactor.specs.Spans.{Gap}
use Rattle.heap_walk.specs.Shapes.{place_at, end_at}
use Rattle.free_lists.specs.Runs.{IsFree}
use Rattle.planning_compactor.specs.Filled.{IsFilled}
use Rattle.planning_compactor.proofs.Filling.{Filling, lead-is, size-is, stands-is, filled-to, filling-next}
use Rattle.planning_compactor.proofs.Cut.{is-cut}
use Rattle.planning_compactor.proofs.gaps.fill_gaps.Goals as goal

here : (has : ℕ → Bool) (low end from s : ℕ) → low ≤ from → from ≤ s → s < end → has s ≡ true → IsIn has low end s
here has low end from s l a b g = (g, omega (arith, l, a), b)

-- the next chunk and those behind it
from-there : (has : ℕ → Bool) (low end from s t : ℕ) → IsIn has low end t → from ≤ t → ((k : ℕ) → from ≤ k → k < s → has k ≡ false) → s ≤ t
from-there has low end from s t j l none = elim (cases_lt t s) [ inl c ↦ absurd (true≢false (sym j.0 ∙ none t l c)) | inr c ↦ c ]

place-next : (has : ℕ → Bool) (old : List ℕ) (low end s t : ℕ) → IsIn has low end s → IsIn has low end t → AreLaid has old low end → s ≤ t → place_at old s ≤ place_at old t
place-next has old low end s t i j laid l = elim (cases_eq t s) [
  | inl e ↦ (let z : place_at old t ≡ place_at old s = ap (place_at old) e in omega (arith, z))
  | inr d ↦ (let z = (laid.apart s t i j (omega (arith, l, d))).0 in omega (arith, z))
]

pub words_of-requires : goal.words_of-requires
words_of-requires c =
    let f = c.in-Some.ensures.found in
    let r = c.objects.invariant in
    stands-is (has_start c.args.starts.now) c.args.words.now c.objects.words c.args.low c.args.end c.objects.at c.objects.from c.requires.laid r c.in-Some.start (here (has_start c.args.starts.now) c.args.low c.args.end c.objects.from c.in-Some.start r.bounds.1 f.0 f.1 f.2)

pub fill-requires-clause-gap : goal.fill-requires-clause-gap
fill-requires-clause-gap c =
    let has = has_start c.args.starts.now in
    let f = c.in-Some.ensures.found in
    let r = c.objects.invariant in
    let i = here has c.args.low c.args.end c.objects.from c.in-Some.start r.bounds.1 f.0 f.1 f.2 in
    let lead = lead-is has c.args.words.now c.objects.words c.args.low c.args.end c.objects.at c.objects.from c.requires.laid r c.in-Some.start i in
    subst (Gap c.objects.at) (ap (λ n. c.in-Some.start - n) (sym (c.lead_of.ensures.value ∙ lead))) (r.ahead c.in-Some.start i f.0)

pub objects-preserved : goal.objects-preserved
objects-preserved c =
    let has = has_start c.args.starts.now in
    let s : ℕ = c.in-Some.start in
    let old = c.args.words.now in
    let f = c.in-Some.ensures.found in
    let r = c.objects.invariant in
    let i = here has c.args.low c.args.end c.objects.from s r.bounds.1 f.0 f.1 f.2 in
    let lead = lead-is has old c.objects.words c.args.low c.args.end c.objects.at c.objects.from c.requires.laid r s i in
    let size = size-is has old c.objects.words c.args.low c.args.end c.objects.at c.objects.from c.requires.laid r s i in
    let place : s - c.lead_of.result ≡ place_at old s = ap (λ n. s - n) (c.lead_of.ensures.value ∙ lead) in
    let next : s - c.lead_of.result + c.words_of.result ≡ end_at old s = omega (arith, place, c.words_of.ensures.value, size) in
    let v = c.fill.ensures in
    let inside : place_at old s ≤ c.args.end = (let z = (c.requires.laid.last s i).0 in omega (arith, z)) in
    let filled : IsFilled has old c.fill.new.words c.args.low c.args.end (place_at old s) =
    filled-to has old c.objects.words c.args.low c.args.end c.objects.at c.objects.from c.requires.laid r (place_at old s) c.fill.new.words (r.ahead s i f.0) inside
    (λ t j l. place-next has old c.args.low c.args.end s t i j c.requires.laid (from-there has c.args.low c.args.end c.objects.from s t j l c.in-Some.ensures.first))
    v.same_words (λ l. subst (λ x. IsFree c.fill.new.words c.objects.at (x - c.objects.at)) place (v.free (omega (arith, l, place))))
    (λ j o. v.others j (elim o [ inl x ↦ inl x | inr x ↦ inr (omega (arith, x, place)) ])) in
    subst (λ x. Filling has old c.fill.new.words c.args.low c.args.end x (s + 1)) (sym next)
    (filling-next has old c.objects.words c.fill.new.words c.args.low c.args.end c.objects.at c.objects.from s c.requires.laid r i f.0 c.in-Some.ensures.first filled)

returns-filled : (has : ℕ → Bool) (old words words' : List ℕ) (low end at from : ℕ) → (laid : AreLaid has old low end) → (r : Filling has old words low end at from) → ((k : ℕ) → from ≤ k → k < end → has k ≡ false)
    → length words' ≡ length words → (at < end → IsFree words' at (end - at)) → ((j : ℕ) → (j < at) ⊎ (end ≤ j) → slice_index words' j ≡ slice_index words j) → IsFilled has old words' low end end
returns-filled has old words words' low end at from laid r none same free others = filled-to has old words low end at from laid r end words' r.last (omega arith) (λ t j l. absurd (true≢false (sym j.0 ∙ none t l j.2))) same free others

pub returns-clause-filled : goal.returns-clause-filled
returns-clause-filled c =
    let has = has_start c.args.starts.now in
    let r = c.objects.invariant in
    let v = c.fill-2.ensures in
    filled-to has c.args.words.now c.objects.words c.args.low c.args.end c.objects.at c.objects.from c.requires.laid r c.args.end c.fill-2.new.words r.last (omega arith)
    (λ t j l. absurd (true≢false (sym j.0 ∙ c.in_default.ensures.none t l j.2))) v.same_words v.free v.others

pub returns-clause-cut : goal.returns-clause-cut
returns-clause-cut c =
    let has = has_start c.args.starts.now in
    let f = returns-filled has c.args.words.now c.objects.words c.fill-2.new.words c.args.low c.args.end c.objects.at c.objects.from c.requires.laid c.objects.invariant (λ k a b. c.in_default.ensures.none k a b) c.fill-2.ensures.same_words c.fill-2.ensures.free c.fill-2.ensures.others in
    is-cut c.requires.laid c.requires.twice f
