use Rattle.std.proofs.Common.{◌≢◌, not, ◌&&◌, sym, ap, ◌∙◌, eqb, get_or}
use Rattle.std.specs.Prelude.{nat_lt}
use Rattle.image_words.specs.Roots.{has_root}
use Rattle.object_header.specs.Chunks.{slots_at}
use Rattle.object_header.specs.Head.{format_of}
use Rattle.heap_walk.specs.Starts.{has_start, covered}
use Rattle.spur_graph.specs.Ordinary.{page_entries}
use Rattle.spur_graph.specs.Cells.{first}
use Rattle.spur_graph.specs.FileStores.{file_store}
use Rattle.image_checks.proofs.Objects.{page_array, left_within, there_covered}
use Rattle.image_checks.proofs.Paging.{unnamed_bad, nil_good, free_test, roots_same, left_nil, left_page, no_start}
use Rattle.image_checks.proofs.pages.take_page.Goals as goal

pub returns-in_default-clause-told : goal.returns-in_default-clause-told
returns-in_default-clause-told c = sym (ap not (unnamed_bad (file_store c.args.map.now c.args.words.now) c.args.place (sym c.named_at.ensures ∙ no_start c.named_at.result c.in_default.not-Some)))

pub returns-then-start-roots-clause-told : goal.returns-then-start-roots-clause-told
returns-then-start-roots-clause-told c =
    sym (ap not (nil_good (file_store c.args.map.now c.args.words.now) c.args.place c.in-Some.start (sym c.named_at.ensures ∙ c.in-Some.is) (c.if-start-roots.true ∙ c.requires.first.are.nil)))

pub returns-then-start-roots-clause-taken : goal.returns-then-start-roots-clause-taken
returns-then-start-roots-clause-taken c on =
    left_nil (file_store c.args.map.now c.args.words.now) c.args.place c.in-Some.start (has_start c.args.left.now) (sym c.named_at.ensures ∙ c.in-Some.is) (c.if-start-roots.true ∙ c.requires.first.are.nil) c.requires.left

pub is_free_page-requires : goal.is_free_page-requires
is_free_page-requires c = left_within c.requires.cut c.args.left.now c.args.place c.requires.covers c.requires.left

pub returns-then-not-is_free_page-clause-told : goal.returns-then-not-is_free_page-clause-told
returns-then-not-is_free_page-clause-told c =
    let h = file_store c.args.map.now c.args.words.now in
    let s = c.in-Some.start in
    let named = sym c.named_at.ensures ∙ c.in-Some.is in
    let other : s ≢ first h 0 = λ is. c.if-start-roots.false (is ∙ sym (c.requires.first.are.nil)) in
    let test = free_test (file_store c.args.map.now c.args.words.now) c.args.place s (has_start c.args.left.now) (nat_lt s (covered c.args.left.now)) (has_root c.args.roots.now s)
    (eqb (format_of (get_or c.args.words.now s 0)) 2 && eqb (slots_at c.args.words.now s) page_entries) named other c.requires.left
    (page_array c.requires.cut s) (there_covered c.requires.cut c.args.left.now s c.requires.covers) (roots_same (file_store c.args.map.now c.args.words.now) c.args.roots.now s c.requires.first.are) in
    sym (ap not (test ∙ ap not (sym c.is_free_page.ensures ∙ c.if-not-is_free_page.true)))

pub returns-clause-told : goal.returns-clause-told
returns-clause-told c =
    let h = file_store c.args.map.now c.args.words.now in
    let s = c.in-Some.start in
    let named = sym c.named_at.ensures ∙ c.in-Some.is in
    let other : s ≢ first h 0 = λ is. c.if-start-roots.false (is ∙ sym (c.requires.first.are.nil)) in
    let test = free_test (file_store c.args.map.now c.args.words.now) c.args.place s (has_start c.args.left.now) (nat_lt s (covered c.args.left.now)) (has_root c.args.roots.now s)
    (eqb (format_of (get_or c.args.words.now s 0)) 2 && eqb (slots_at c.args.words.now s) page_entries) named other c.requires.left
    (page_array c.requires.cut s) (there_covered c.requires.cut c.args.left.now s c.requires.covers) (roots_same (file_store c.args.map.now c.args.words.now) c.args.roots.now s c.requires.first.are) in
    sym (ap not (test ∙ ap not (sym c.is_free_page.ensures ∙ c.if-not-is_free_page.false)))

pub returns-clause-taken : goal.returns-clause-taken
returns-clause-taken c on =
    let h = file_store c.args.map.now c.args.words.now in
    let s = c.in-Some.start in
    let other : s ≢ first h 0 = λ is. c.if-start-roots.false (is ∙ sym (c.requires.first.are.nil)) in
    left_page (file_store c.args.map.now c.args.words.now) c.args.place s (has_start c.args.left.now) (has_start c.unset.new.self) (sym c.named_at.ensures ∙ c.in-Some.is) other c.requires.left c.unset.ensures.removed c.unset.ensures.others
