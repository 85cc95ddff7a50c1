use Rattle.std.proofs.Common.{◌≡◌, ℕ, Bool, not, length, sym, ap, ◌∙◌, arith, inl, inr}
use Rattle.std.proofs.lemmas.Bool.{cases_lt, cases_eq}
use Rattle.heap_walk.specs.declared.starts.StartMap.{StartMap}
use Rattle.heap_walk.specs.Starts.{has_start, covered}
use Rattle.spur_graph.specs.Cells.{is_there}
use Rattle.spur_graph.specs.FileStores.{file_store}
use Rattle.image_checks.proofs.AtStarts.{forwarder_told, none_there, marked_before}
use Rattle.image_checks.proofs.Objects.{none_behind}
use Rattle.image_checks.proofs.pages.mark_objects.Goals.{then-not-is_forwarder, else-not-is_forwarder}
use Rattle.image_checks.proofs.pages.mark_objects.Goals as goal

pub starts-preserved : goal.starts-preserved
starts-preserved c =
    let i = c.starts.invariant in
    let start = c.in-Some.start in
    let there : ℕ → Bool = λ s. is_there ((file_store c.args.map.now c.args.words.now).cell s) in
    let told : there start ≡ not c.is_forwarder.result = forwarder_told c.requires.checked start c.is_forwarder.result c.is_forwarder.ensures c.in-Some.ensures.found.2 in
    let before = marked_before c.requires.checked (has_start c.starts.objects) c.starts.at start i.marked i.empty c.in-Some.ensures.first in
    elim c.if-not-is_forwarder.branch [
      | then-not-is_forwarder w ↦ record {
        covers = ap (λ (m : StartMap). covered m) w.objects-is ∙ w.set.ensures.covers ∙ i.covers;
        marked = λ s l. ap (λ m. has_start m s) w.objects-is ∙ elim (cases_eq s start) [
          | inl same ↦ ap (has_start w.set.new.self) same ∙ w.set.ensures.added ∙ sym (ap there same ∙ told ∙ ap not w.if-not-is_forwarder.true)
          | inr other ↦ w.set.ensures.others s other ∙ before s (omega (arith, l, other))
        ];
        empty = λ s l. ap (λ m. has_start m s) w.objects-is ∙ w.set.ensures.others s (λ same. omega (arith, l, same)) ∙ i.empty s (omega (arith, l, c.in-Some.ensures.found.0));
      }
      | else-not-is_forwarder w ↦ record {
        covers = ap (λ (m : StartMap). covered m) w.objects-is ∙ i.covers;
        marked = λ s l. ap (λ m. has_start m s) w.objects-is ∙ elim (cases_eq s start) [
          | inl same ↦ i.empty s (omega (arith, same, c.in-Some.ensures.found.0)) ∙ sym (ap there same ∙ told ∙ ap not w.if-not-is_forwarder.false)
          | inr other ↦ before s (omega (arith, l, other))
        ];
        empty = λ s l. ap (λ m. has_start m s) w.objects-is ∙ i.empty s (omega (arith, l, c.in-Some.ensures.found.0));
      }
    ]

pub returns-clause-objects : goal.returns-clause-objects
returns-clause-objects c s = elim (cases_lt s c.starts.at) [
  | inl low ↦ c.starts.invariant.marked s low
  | inr high ↦ c.starts.invariant.empty s high ∙ sym (elim (cases_lt s (length c.args.words.now)) [
    | inl inside ↦ none_there c.requires.checked s (c.in_default.ensures.none s high (omega (arith, inside, c.requires.checked.covers)))
    | inr far ↦ none_behind c.requires.checked.cut s far
  ])
]
