use Rattle.std.proofs.Common.{◌≡◌, ◌≢◌, ◌+◌, ◌<◌, ◌≤◌, ℕ, Bool, true, false, cond, not, ◌&&◌, eqb, length, get_or, sym, ap, ◌∙◌, refl, subst, arith, inl, inr}
use Rattle.std.proofs.lemmas.Bool.{cases_eq, cases_lt, true≢false}
use Rattle.object_header.specs.Head.{class_of}
use Rattle.heap_walk.specs.Starts.{has_start}
use Rattle.spur_graph.specs.Heaps.{is_marked}
use Rattle.planning_compactor.specs.Ranges.{is_lost}
use Rattle.planning_compactor.proofs.Tallies.{count-next, count-none, one-most}
use Rattle.planning_compactor.proofs.sweeps.sweep.Goals as goal

pub starts-preserved : goal.starts-preserved
starts-preserved c =
    let i = c.starts.invariant in
    let e = c.keep_marked-lost.ensures in
    let f = c.in-Some.ensures.found in
    let s : ℕ = c.in-Some.start in
    let old : ℕ → Bool = has_start c.args.starts.now in
    let lost : ℕ → Bool = is_lost old c.args.words.now in
    let goes : ℕ → Bool → Bool = λ k b. b && (not (is_marked c.args.words.now k) && not (eqb (class_of (get_or c.args.words.now k 0)) 8)) in
    let end : s < length c.args.words.now = (let a = f.1 in omega (arith, a, i.covers, c.requires.covers)) in
    let none : (k : ℕ) → c.starts.at ≤ k → k < s → lost k ≡ false = λ k l m. ap (goes k) (sym (i.after k l) ∙ c.in-Some.ensures.first k l m) in
    let here : c.keep_marked-lost.result ≡ cond (lost s) 1 0 = e.lost ∙ ap (λ b. cond (goes s b) 1 0) (i.after s f.0) in
    let next = count-next lost c.args.words.now c.starts.at s (length c.args.words.now) f.0 end none in
    record {
      covers = e.covers ∙ i.covers;
      before = λ k l g. elim (cases_eq k s) [
        | inl same ↦ subst (λ x. has_start c.keep_marked-lost.new.starts x ≡ is_marked c.args.words.now x) (sym same) e.here
        | inr other ↦ elim (cases_lt k c.starts.at) [
          | inl low ↦ e.others k other ∙ i.before k low g
          | inr high ↦ absurd (true≢false (sym g ∙ sym (i.after k high) ∙ c.in-Some.ensures.first k high (omega (arith, l, other))))
        ]
      ];
      gone = λ k g. elim (cases_eq k s) [
        | inl same ↦ absurd (true≢false (sym f.2 ∙ i.after s f.0 ∙ ap old (sym same) ∙ g))
        | inr other ↦ e.others k other ∙ i.gone k g
      ];
      after = λ k l. let a = f.0 in e.others k (λ same. omega (arith, l, same)) ∙ i.after k (omega (arith, l, a));
      few = let a = f.0 in let b = i.few in let m = one-most (lost s) in omega (arith, a, b, here, m);
      inside = omega (arith, end);
      lost = let b = i.lost in omega (arith, b, next, here);
    }

pub returns-clause-kept : goal.returns-clause-kept
returns-clause-kept c = λ s g. elim (cases_lt s c.starts.at) [
  | inl l ↦ c.starts.invariant.before s l g
  | inr l ↦ absurd (let b = c.requires.stands s g in true≢false (sym g ∙ sym (c.starts.invariant.after s l) ∙ c.in_default.ensures.none s l (omega (arith, b, c.requires.covers, c.starts.invariant.covers))))
]

pub returns-clause-lost : goal.returns-clause-lost
returns-clause-lost c =
    let i = c.starts.invariant in
    let left = count-none (is_lost (has_start c.args.starts.now) c.args.words.now) c.args.words.now c.starts.at (length c.args.words.now)
    (λ k l m. ap (λ b. b && (not (is_marked c.args.words.now k) && not (eqb (class_of (get_or c.args.words.now k 0)) 8))) (sym (i.after k l) ∙ c.in_default.ensures.none k l (omega (arith, m, i.covers, c.requires.covers)))) in
    let all = i.lost in
    omega (arith, all, left)
