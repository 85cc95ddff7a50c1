use Rattle.std.proofs.Common.{◌≡◌, ℕ, ◌+◌, ◌<◌, ◌≤◌, ap, ◌∙◌, inl, inr, arith}
use Rattle.object_header.specs.Chunks.{slots_at}
use Rattle.planning_compactor.specs.Entries.{virtual}
use Rattle.planning_compactor.specs.Readdressed.{pointers_with}
use Rattle.planning_compactor.proofs.Rewrites.{rewritten-more}
use Rattle.planning_compactor.proofs.slots.readdress_object.Goals as goal

pub slots-preserved : goal.slots-preserved
slots-preserved c =
    let es = c.args.table.now in
    let words = c.args.words.now in
    let s : ℕ = c.args.start in
    let i : ℕ = c.slots.i in
    let n : ℕ = pointers_with words s (virtual es words (s + 1)) in
    let w : ℕ = virtual es words (s + 1 + i) in
    let count : c.pointers_with-count.result ≡ n = c.pointers_with-count.ensures ∙ ap (pointers_with words s) c.field-first.ensures in
    let b : i < n = omega (arith, c.slots-test.true, count) in
    let v = c.rewrite.ensures in
    rewritten-more es c.slots.table words c.slots.words c.args.low c.args.high s i n c.slots.invariant b c.rewrite.new.table c.rewrite.new.words
    (c.requires.named i b)
    (λ in'. elim (c.requires.heads i b in') [ inl a ↦ inl a | inr a ↦ inr (let f : n ≤ slots_at words s = c.requires.fits in omega (arith, a, f)) ])
    v.same_words v.same_table v.starts v.targets v.here v.others v.outside
