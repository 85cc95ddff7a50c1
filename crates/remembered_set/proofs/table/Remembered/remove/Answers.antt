use Rattle.std.proofs.Common.{rules, ◌≡◌, ◌≢◌, ◌==◌, not, filter, subst, sym}
use Rattle.std.proofs.lemmas.Fn.{filter_same}
use Rattle.std.proofs.lemmas.List.Kept.{AllPairs-filter}
use Rattle.remembered_set.specs.Starts.{AreDistinct}
use Rattle.remembered_set.proofs.table.Remembered.remove.Goals as goal

kept : (c : goal.After-retain) → c.retain.new.self.items ≡ filter (λ s. not (s == c.args.start)) c.self.inside.starts.items
kept c = filter_same _ _ _ (λ x b f' k. search rules) _ _ c.retain.ensures.filtered

pub invariant_of-self : goal.invariant_of-self
invariant_of-self c = subst (λ xs. AreDistinct xs) (sym (kept c)) (AllPairs-filter (λ a b. a ≢ b) (λ s. not (s == c.args.start)) c.self.inside.starts.items c.self.invariant)

pub returns : goal.returns
returns c = search (rules, kept c, c.self.view_is, c.retain.ensures.capacity)
