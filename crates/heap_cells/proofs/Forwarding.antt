-- An ordinary object becomes a forwarder to another: what led to the first leads to the second, and the internal objects are the same.
use Rattle.std.proofs.Common.{◌≡◌, ◌≢◌, ℕ, true, false, cond, not, ◌&&◌, ◌||◌, ◌/◌, ◌%◌, ◌<◌, eqb, ltb, get_or, refl, sym, ap, ◌∙◌, arith, inl, inr, Some, None, Option}
use Rattle.std.proofs.lemmas.Bool.{false≢true, cases_Bool, cases_eq, eq-eqb, ne_eqb, ltb-true, and_parts, and_left, and_right, or_right, not-false, not-true, not_from_true}
use Rattle.std.specs.Option.{unwrap_or, option_map}
use Rattle.spur_graph.specs.Become.{instead}
use Rattle.spur_graph.specs.Value.{is_immediate_word}
use Rattle.spur_graph.specs.Cells.{Moved, Store, is_start, is_moved, is_there, target_of, body_of, first, final, lead, any_below}
use Rattle.spur_graph.specs.Ordinary.{page_places, page_entries, class_limit, is_at, passes, body_at, root_slot, tells, is_nil_slot, is_first, is_page_body, is_page, is_internal, is_ordinary, is_good_reference, is_good_word, is_bad_page, has_page, page_of, entry, is_entered}
use Rattle.spur_graph.specs.Heaps.{IsSound}
use Rattle.heap_cells.proofs.Below.{any_below-has, passed}
use Rattle.heap_cells.proofs.CellKinds.{there_starts, there_is_not_moved, moved_starts}
use Rattle.heap_cells.proofs.Chains.{good_forwarder_ends, final-end}
use Rattle.heap_cells.proofs.Entries.{place_below}
use Rattle.heap_cells.proofs.Internals.{IsPageAt, a_page, not_first, place_cases}
use Rattle.heap_cells.proofs.References.{ordinary_there, ordinary_apart}
use Rattle.heap_cells.proofs.Retargeting.{Retargets, redirected, instead-here, instead-other}
use Rattle.heap_cells.proofs.WholeClosed.{sound_loadable}

-- the store with a forwarder to `b` at `a`
abbrev pub with_forwarder : Store → ℕ → ℕ → Store
with_forwarder h a b = record h { cell = λ t. cond (eqb t a) (Moved b) (h.cell t) }

-- two different ordinary objects; the first is none of nil, false and true, and where it is an entered class, the second has its hash and is not nil
pub record Forwards (old : Store) (a b : ℕ) : Type 0 where
  pub sound : IsSound old
  pub below : (t : ℕ) → is_start (old.cell t) ≡ true → t < old.names
  pub from : is_ordinary old a ≡ true
  pub to : is_ordinary old b ≡ true
  pub apart : a ≢ b
  pub plain : (j : ℕ) → j < 3 → a ≢ first old j
  pub classed : is_entered old a ≡ true → ((body_at old b).hash ≡ (body_at old a).hash) × (b ≢ first old 0)

module _ {old : Store} {a b : ℕ} (k : Forwards old a b) where
  abbrev new : Store
  new = with_forwarder old a b

  pub forwarder_here : (with_forwarder old a b).cell a ≡ Moved b
  forwarder_here = ap (λ x. cond x (Moved b) (old.cell a)) (eq-eqb a a refl)

  pub others_kept : (t : ℕ) → t ≢ a → (with_forwarder old a b).cell t ≡ old.cell t
  others_kept t n = ap (λ x. cond x (Moved b) (old.cell t)) (ne_eqb t a n)

  pub a_there : is_there (old.cell a) ≡ true
  a_there = ordinary_there old a k.from

  pub b_there : is_there (old.cell b) ≡ true
  b_there = ordinary_there old b k.to

  pub b_kept : (with_forwarder old a b).cell b ≡ old.cell b
  b_kept = others_kept b (λ e. k.apart (sym e))

  -- ---- chains

  retargets : Retargets (λ t. is_moved (old.cell t)) (λ t. is_moved (new.cell t)) (λ t. target_of (old.cell t)) (λ t. target_of (new.cell t)) a b
  retargets = record {
    on = ap is_moved forwarder_here;
    at = ap target_of forwarder_here;
    tests = λ t n. ap is_moved (others_kept t n);
    targets = λ t n. ap target_of (others_kept t n);
    from = there_is_not_moved (old.cell a) a_there;
    to = there_is_not_moved (old.cell b) b_there;
    apart = k.apart;
  }

  ended : (t : ℕ) → is_moved (old.cell (final old t)) ≡ false
  ended t = elim (cases_Bool (is_moved (old.cell t))) [
    | inl on ↦ there_is_not_moved (old.cell (final old t)) (good_forwarder_ends old t (k.sound.ends t) on)
    | inr off ↦ ap (λ u. is_moved (old.cell u)) (final-end old t off) ∙ off
  ]

  pub final-forwarded : (t : ℕ) → final (with_forwarder old a b) t ≡ instead a b (final old t)
  unfolding final
  final-forwarded t = redirected retargets old.names t (λ u on. k.below u (moved_starts (old.cell u) on)) (k.below a (there_starts (old.cell a) a_there)) (ended t)

  mapped : (o : Option ℕ) → option_map (final new) o ≡ option_map (instead a b) (option_map (final old) o)
  mapped None = refl
  mapped (Some t) = ap (λ u. Some u) (final-forwarded t)

  pub lead-forwarded : (w : ℕ) → lead (with_forwarder old a b) w ≡ option_map (instead a b) (lead old w)
  lead-forwarded w = mapped (old.to w)

  -- ---- internal objects are the same

  pub start-same : (t : ℕ) → is_start ((with_forwarder old a b).cell t) ≡ is_start (old.cell t)
  start-same t = elim (cases_eq t a) [
    | inl e ↦ ap (λ u. is_start (new.cell u)) e ∙ ap is_start forwarder_here ∙ sym (ap (λ u. is_start (old.cell u)) e ∙ there_starts (old.cell a) a_there)
    | inr n ↦ ap is_start (others_kept t n)
  ]

  pub root-same : (i : ℕ) → root_slot (with_forwarder old a b) i ≡ root_slot old i
  root-same i = ap (λ c. get_or (body_of c).words i 0) (others_kept (first old 4) (λ e. (ordinary_apart old a k.from).0 (sym e)))

  tells-same : (i t : ℕ) → tells new i t ≡ tells old i t
  tells-same i t = ap (λ w. is_at t (old.to w)) (root-same i)

  pub nil_slot-same : (i : ℕ) → is_nil_slot (with_forwarder old a b) i ≡ is_nil_slot old i
  nil_slot-same i = tells-same i (first old 0)

  pub internal-same : (t : ℕ) → is_internal (with_forwarder old a b) t ≡ is_internal old t
  unfolding is_internal
  internal-same t = λ x. eqb t (first old 3) || eqb t (first old 4) || (not (eqb t (first old 0)) && any_below (λ i. tells-same i t x) page_places)

  pub ordinary-other : (t : ℕ) → t ≢ a → is_ordinary (with_forwarder old a b) t ≡ is_ordinary old t
  ordinary-other t n = λ x. is_there (others_kept t n x) && not (internal-same t x)

  pub ordinary-here : is_ordinary (with_forwarder old a b) a ≡ false
  ordinary-here = and_left _ (not (is_internal new a)) (ap is_there forwarder_here)

  pub ordinary_to : is_ordinary (with_forwarder old a b) b ≡ true
  ordinary_to = ordinary-other b (λ e. k.apart (sym e)) ∙ k.to

  pub ordinary-instead : (t : ℕ) → is_ordinary (with_forwarder old a b) (instead a b t) ≡ is_ordinary old t
  ordinary-instead t = elim (cases_eq t a) [
    | inl e ↦ ap (is_ordinary new) (instead-here a b t e) ∙ ordinary_to ∙ sym (ap (is_ordinary old) e ∙ k.from)
    | inr n ↦ ap (is_ordinary new) (instead-other a b t n) ∙ ordinary-other t n
  ]

  passes-instead : (o : Option ℕ) → passes (is_ordinary new) (option_map (instead a b) o) ≡ passes (is_ordinary old) o
  passes-instead None = refl
  passes-instead (Some t) = ordinary-instead t

  pub reference-same : (w : ℕ) → is_good_reference (with_forwarder old a b) w ≡ is_good_reference old w
  reference-same w = ap (passes (is_ordinary new)) (lead-forwarded w) ∙ passes-instead (lead old w)

  pub good-same : (w : ℕ) → is_good_word (with_forwarder old a b) w ≡ is_good_word old w
  good-same w = λ x. is_immediate_word w || reference-same w x

  pub there_instead : (t : ℕ) → is_there (old.cell t) ≡ true → is_there (new.cell (instead a b t)) ≡ true
  there_instead t on = elim (cases_eq t a) [
    | inl e ↦ ap (λ u. is_there (new.cell u)) (instead-here a b t e) ∙ ap is_there b_kept ∙ b_there
    | inr n ↦ ap (λ u. is_there (new.cell u)) (instead-other a b t n) ∙ ap is_there (others_kept t n) ∙ on
  ]

  -- ---- pages are the same

  page_apart : (i : ℕ) → i < page_places → (p : ℕ) → IsPageAt old i p → p ≢ a
  unfolding is_internal
  page_apart i l p page e =
      let told : tells old i p ≡ true = ap (is_at p) page.named ∙ eq-eqb p p refl in
      let some : any_below (λ j. tells old j p) page_places ≡ true = any_below-has (λ j. tells old j p) page_places i l told in
      let no_nil : eqb p (first old 0) ≡ false = ne_eqb p (first old 0) (not_first old p 0 (omega arith) page.later) in
      let inside : is_internal old p ≡ true = or_right (eqb p (first old 3) || eqb p (first old 4)) (not (eqb p (first old 0)) && any_below (λ j. tells old j p) page_places) (λ x. not (no_nil x) && some x) in
      let off : is_internal old a ≡ false = not-true _ (and_parts (is_there (old.cell a)) (not (is_internal old a)) k.from).1 in
      false≢true (sym off ∙ ap (is_internal old) (sym e) ∙ inside)

  page-kept : (i : ℕ) → i < page_places → is_page old i ≡ true → is_page new i ≡ true
  unfolding is_page
  page-kept i l on =
      let test = λ (t : ℕ). is_there (old.cell t) && is_page_body (body_at old t) && not (is_first old t) && not (any_below (λ j. tells old j t) i) in
      let p = passed test (old.to (root_slot old i)) on in
      let named = a_page old i on in
      let one : named.0 ≡ p.one = same_some named.0 p.one (sym named.1.named ∙ p.is) in
      let n : p.one ≢ a = λ e. page_apart i l named.0 named.1 (one ∙ e) in
      let now : (is_there (new.cell p.one) && is_page_body (body_at new p.one) && not (is_first old p.one) && not (any_below (λ j. tells new j p.one) i)) ≡ test p.one =
      λ x. is_there (others_kept p.one n x) && is_page_body (body_of (others_kept p.one n x)) && not (is_first old p.one) && not (any_below (λ j. tells-same j p.one x) i) in
      ap (passes (λ t. is_there (new.cell t) && is_page_body (body_at new t) && not (is_first old t) && not (any_below (λ j. tells new j t) i))) (ap old.to (root-same i) ∙ p.is) ∙ now ∙ p.holds
    where
      same_some : (x y : ℕ) → Some x ≡ Some y → x ≡ y
      same_some x y e = cc

  pub bad_page-none : (i : ℕ) → i < page_places → is_bad_page new i ≡ false
  bad_page-none i l = elim (place_cases (sound_loadable old k.sound) i l) [
    | inl nil ↦ and_left (not (is_nil_slot new i)) (not (is_page new i)) (not_from_true _ (nil_slot-same i ∙ nil))
    | inr page ↦ and_right (not (is_nil_slot new i)) (not (is_page new i)) (not_from_true _ (page-kept i l page))
  ]

  pub has_page-same : (i : ℕ) → has_page (with_forwarder old a b) i ≡ has_page old i
  has_page-same i = λ x. ltb i class_limit && not (nil_slot-same (i / page_entries) x)

  pub entry-same : (i : ℕ) → has_page old i ≡ true → entry (with_forwarder old a b) i ≡ entry old i
  entry-same i e =
      let parts = and_parts (ltb i class_limit) (not (is_nil_slot old (i / page_entries))) e in
      let l = place_below i (ltb-true i class_limit parts.0) in
      let page : is_page old (i / page_entries) ≡ true = not-false _ (sym (ap (λ x. not x && not (is_page old (i / page_entries))) (not-true _ parts.1)) ∙ k.sound.roots.pages (i / page_entries) l) in
      let p = a_page old (i / page_entries) page in
      let is : page_of old i ≡ p.0 = ap (λ o. unwrap_or o old.names) p.1.named in
      let other : page_of old i ≢ a = λ same. page_apart (i / page_entries) l p.0 p.1 (sym is ∙ same) in
      ap (λ w. get_or (body_at new (unwrap_or (old.to w) old.names)).words (i % page_entries) 0) (root-same (i / page_entries))
      ∙ ap (λ c. get_or (body_of c).words (i % page_entries) 0) (others_kept (page_of old i) other)

  pub entry-lead : (i : ℕ) → has_page old i ≡ true → lead (with_forwarder old a b) (entry (with_forwarder old a b) i) ≡ option_map (instead a b) (lead old (entry old i))
  entry-lead i e = ap (lead new) (entry-same i e) ∙ lead-forwarded (entry old i)
