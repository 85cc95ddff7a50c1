use Rattle.std.proofs.Common.{◌≡◌, ◌+◌, ◌*◌, ℕ, not, sym, ap, ◌∙◌, arith, inl, inr, subst}
use Rattle.std.proofs.lemmas.Bool.{false≢true, cases_lt}
use Rattle.spur_graph.specs.Ordinary.{page_entries}
use Rattle.image_checks.specs.Checks.{IsBadIndex}
use Rattle.spur_graph.specs.FileStores.{file_store}
use Rattle.image_checks.proofs.ClassEntries.{page_here, bad_entry}
use Rattle.image_checks.proofs.entries.check_page.Goals as goal

pub returns-then-not-is_good_entry : goal.returns-then-not-is_good_entry
returns-then-not-is_good_entry c =
    let k = c.requires.paged.cut in
    let page = page_here k c.args.place c.in-Some.page c.requires.paged.pages c.requires.within c.in-Some.ensures.page in
    (omega arith, omega (arith, c.entries-test.true), bad_entry k c.args.place c.in-Some.page c.entries.entry c.is_good_entry.result page c.requires.within (omega (arith, c.entries-test.true)) c.is_good_entry.ensures ∙ ap not c.if-not-is_good_entry.true, c.entries.invariant)

pub entries-preserved : goal.entries-preserved
entries-preserved c n from to bad = elim (cases_lt n (c.args.place * page_entries + c.entries.entry)) [
  | inl low ↦ c.entries.invariant n from low bad
  | inr high ↦
      let k = c.requires.paged.cut in
      let page = page_here k c.args.place c.in-Some.page c.requires.paged.pages c.requires.within c.in-Some.ensures.page in
      let same : n ≡ c.args.place * page_entries + c.entries.entry = omega (arith, to, high) in
      let Bad : ℕ → Type 0 = IsBadIndex (file_store c.args.image.now.map.now c.args.words.now) in
      let good = bad_entry k c.args.place c.in-Some.page c.entries.entry c.is_good_entry.result page c.requires.within (omega (arith, c.entries-test.true)) c.is_good_entry.ensures ∙ ap not c.if-not-is_good_entry.false in
      false≢true (sym good ∙ subst Bad same bad)
]
