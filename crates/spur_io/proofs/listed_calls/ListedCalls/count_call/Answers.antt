use Rattle.std.proofs.Common.{◌≡◌, ◌-◌, ◌++◌, ℕ, List, length, take, drop, map, nat_lt, ap, refl, sym, ◌∙◌, rules}
use Rattle.std.specs.List.{filter}
use Rattle.std.proofs.lemmas.List.{take_at, length-map}
use Rattle.std.proofs.lemmas.List.Elements.{filter_from_retain}
use Rattle.spur_io.proofs.listed_calls.ListedCalls.count_call.Goals as goal

-- a whole list that was lent, and written
lent_whole : (old new written : List ℕ) (len : ℕ) → new ≡ written → length written ≡ len → take len (new ++ drop (length new) old) ≡ written
lent_whole old new written len same long = ap (λ n. take n (new ++ drop (length new) old)) (sym long ∙ ap length (sym same)) ∙ take_at new (drop (length new) old) (length new) refl ∙ same

pub returns-clause-after : goal.returns-clause-after
returns-clause-after c =
    let old : List ℕ = c.args.self.now.ahead.items in
    let lowered : List ℕ = map (λ n. n - 1) old in
    let same : c.bring_nearer.new.numbers ≡ lowered = c.bring_nearer.ensures ∙ ap (map (λ n. n - 1)) c.deref_mut.ensures.value in
    let whole : take c.args.self.now.ahead.len (c.bring_nearer.new.numbers ++ drop (length c.bring_nearer.new.numbers) old) ≡ lowered = lent_whole old c.bring_nearer.new.numbers lowered c.args.self.now.ahead.len same (length-map old (λ n. n - 1) ∙ sym c.args.self.now.ahead.ok.0) in
    filter_from_retain _ (λ n. nat_lt 0 n) (λ p x b q t. search rules) _ _ _ c.retain.ensures.filtered ∙ ap (filter (λ n. nat_lt 0 n)) whole
