use Rattle.std.proofs.Common.{◌≡◌, ◌+◌, List, ℕ, get_or, set, refl, sym, ◌∙◌}
use Rattle.spur_heap.specs.Swaps.{swap_run}
use Rattle.spur_heap.proofs.Swapped.{swap_none, swap_next}
use Rattle.spur_heap.proofs.swapping.swap_runs.Goals as goal

pub words-init : goal.words-init
words-init c = record {
  first_at = c.pair_mut-pair.ensures.first.0;
  first_len = c.pair_mut-pair.ensures.first.1;
  second_at = c.pair_mut-pair.ensures.second.0;
  second_len = c.pair_mut-pair.ensures.second.1;
  name = refl;
  run = sym (swap_none c.pair_mut-pair.result.region.now c.args.a c.args.b);
}

pub words-preserved : goal.words-preserved
words-preserved c =
    let start : List ℕ = c.pair_mut-pair.result.region.now in
    let i : ℕ = c.words.i in
    let run : c.words.pair.region.now ≡ swap_run start c.args.a c.args.b i = c.words.invariant.run in
    let first : c.get_first-first.result ≡ get_or (swap_run start c.args.a c.args.b i) (c.args.a + i) 0 = c.get_first-first.ensures ∙ (λ x. get_or (run x) (c.words.invariant.first_at x + i) 0) in
    let second : c.get_second-second.result ≡ get_or (swap_run start c.args.a c.args.b i) (c.args.b + i) 0 = c.get_second-second.ensures ∙ (λ x. get_or (run x) (c.words.invariant.second_at x + i) 0) in
    let place : c.put_first.new.self.second_at ≡ c.args.b = c.put_first.ensures.same_second.0 ∙ c.words.invariant.second_at in
    let mid : c.put_first.new.self.region.now ≡ set (swap_run start c.args.a c.args.b i) (c.args.a + i) (get_or (swap_run start c.args.a c.args.b i) (c.args.b + i) 0) = c.put_first.ensures.written ∙ (λ x. set (run x) (c.words.invariant.first_at x + i) (second x)) in
    record {
      first_at = c.put_second.ensures.same_first.0 ∙ c.put_first.ensures.same_first.0 ∙ c.words.invariant.first_at;
      first_len = c.put_second.ensures.same_first.1 ∙ c.put_first.ensures.same_first.1 ∙ c.words.invariant.first_len;
      second_at = c.put_second.ensures.same_second.0 ∙ place;
      second_len = c.put_second.ensures.same_second.1 ∙ c.put_first.ensures.same_second.1 ∙ c.words.invariant.second_len;
      name = c.put_second.ensures.same_reference ∙ c.put_first.ensures.same_reference ∙ c.words.invariant.name;
      run = c.put_second.ensures.written ∙ (λ x. set (mid x) (place x + i) (first x)) ∙ sym (swap_next start c.args.a c.args.b i);
    }
