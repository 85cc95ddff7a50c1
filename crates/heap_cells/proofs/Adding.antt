-- An object where nothing stood: the store is sound as before, and what was good stays good.
use Rattle.std.proofs.Common.{◌≡◌, ◌≢◌, ℕ, true, false, cond, not, ◌&&◌, ◌||◌, ◌*◌, ◌/◌, ◌%◌, ◌<◌, ◌≤◌, eqb, ltb, List, map, length, get_or, refl, sym, ap, ◌∙◌, subst, arith, inl, inr}
use Rattle.std.proofs.lemmas.Bool.{false≢true, cases_Bool, cases_eq, eq-eqb, ne_eqb, ltb-true, and_parts, and_left, and_right, or_cases, or_left, or_right, not-false, not-true, not_from_true, false_from_ne_true}
use Rattle.std.specs.Option.{unwrap_or, option_map}
use Rattle.spur_graph.specs.Graph.{AreApart}
use Rattle.spur_graph.specs.Chains.{follow}
use Rattle.spur_graph.specs.Value.{is_immediate_word}
use Rattle.spur_graph.specs.Cells.{Body, Cell, Empty, Moved, There, Store, is_start, is_moved, is_there, target_of, body_of, is_formed, pointer_count, first, final, lead, any_below}
use Rattle.spur_graph.specs.Ordinary.{page_places, page_entries, class_limit, is_at, passes, body_at, root_slot, tells, is_nil_slot, is_first, is_page_body, is_page, is_internal, is_ordinary, is_good_reference, is_good_word, is_bad_forwarder, is_bad_page, is_bad_slot, has_page, page_of, entry, has_entry, is_no_index, is_entered, is_bad_entry}
use Rattle.spur_graph.specs.Heaps.{IsSound, HasRoots, HasFired, AreMourners, waiting_in}
use Rattle.heap_cells.proofs.Below.{any_below-same, and-same, passed}
use Rattle.heap_cells.proofs.CellKinds.{there_starts}
use Rattle.heap_cells.proofs.Chains.{follow-same, good_forwarder_ends}
use Rattle.heap_cells.proofs.Entries.{place_below, entered_ordinary}
use Rattle.heap_cells.proofs.Internals.{a_page, place_cases, internal-starts}
use Rattle.heap_cells.proofs.References.{ordinary_there}
use Rattle.heap_cells.proofs.WholeClosed.{sound_loadable}

-- `new` has this object at a start where `old` had nothing; the first five chunks are as before
pub record Adds (old new : Store) (s : ℕ) (b : Body) : Type 0 where
  pub sound : IsSound old
  pub empty : old.cell s ≡ Empty
  pub cells : (t : ℕ) → new.cell t ≡ cond (eqb t s) (There b) (old.cell t)
  pub names : new.names ≡ old.names
  pub to : new.to ≡ old.to
  pub five : 5 ≤ length new.starts
  pub firsts : (j : ℕ) → j < 5 → first new j ≡ first old j
  pub formed : is_formed b ≡ true
  pub slots : (i : ℕ) → i < pointer_count b → is_good_word old (get_or b.words i 0) ≡ true

module _ {old new : Store} {s : ℕ} {b : Body} (k : Adds old new s b) where
  pub added-here : new.cell s ≡ There b
  added-here = k.cells s ∙ ap (λ x. cond x (There b) (old.cell s)) (eq-eqb s s refl)

  pub added-other : (t : ℕ) → t ≢ s → new.cell t ≡ old.cell t
  added-other t n = k.cells t ∙ ap (λ x. cond x (There b) (old.cell t)) (ne_eqb t s n)

  -- what an empty cell and an object have in common is the same of all cells
  same-of : {X : Type 0} (f : Cell → X) → f (There b) ≡ f Empty → (t : ℕ) → f (new.cell t) ≡ f (old.cell t)
  same-of f e t = elim (cases_eq t s) [
    | inl is ↦ ap (λ u. f (new.cell u)) is ∙ ap f added-here ∙ e ∙ sym (ap f k.empty) ∙ ap (λ u. f (old.cell u)) (sym is)
    | inr n ↦ ap f (added-other t n)
  ]

  moved-same : (t : ℕ) → is_moved (new.cell t) ≡ is_moved (old.cell t)
  moved-same = same-of is_moved refl

  -- a start of before is another place
  pub apart : (t : ℕ) → is_start (old.cell t) ≡ true → t ≢ s
  apart t on e = false≢true (sym (ap (λ u. is_start (old.cell u)) e ∙ ap is_start k.empty) ∙ on)

  pub apart_there : (t : ℕ) → is_there (old.cell t) ≡ true → t ≢ s
  apart_there t on = apart t (there_starts (old.cell t) on)

  start-kept : (t : ℕ) → is_start (old.cell t) ≡ true → is_start (new.cell t) ≡ true
  start-kept t on = ap is_start (added-other t (apart t on)) ∙ on

  there-kept : (t : ℕ) → is_there (old.cell t) ≡ true → is_there (new.cell t) ≡ true
  there-kept t on = ap is_there (added-other t (apart_there t on)) ∙ on

  pub added-final : (t : ℕ) → final new t ≡ final old t
  unfolding final
  added-final t =
      ap (λ n. follow (λ u. is_moved (new.cell u)) (λ u. target_of (new.cell u)) n t) k.names
      ∙ follow-same (λ u. is_moved (new.cell u)) (λ u. is_moved (old.cell u)) (λ u. target_of (new.cell u)) (λ u. target_of (old.cell u)) moved-same (same-of target_of refl) old.names t

  pub lead-same : (w : ℕ) → lead new w ≡ lead old w
  lead-same w = λ x. option_map (λ t. added-final t x) (k.to x w)

  first_there : (j : ℕ) → j < 5 → is_there (old.cell (first old j)) ≡ true
  first_there j l = k.sound.roots.objects j l

  first_cell : (j : ℕ) → j < 5 → new.cell (first new j) ≡ old.cell (first old j)
  first_cell j l = ap new.cell (k.firsts j l) ∙ added-other (first old j) (apart_there (first old j) (first_there j l))

  root-same : (i : ℕ) → root_slot new i ≡ root_slot old i
  root-same i = ap (λ c. get_or (body_of c).words i 0) (first_cell 4 (omega arith))

  tells-same : (i t : ℕ) → tells new i t ≡ tells old i t
  tells-same i t = λ x. is_at t (k.to x (root-same i x))

  pub nil_slot-same : (i : ℕ) → is_nil_slot new i ≡ is_nil_slot old i
  nil_slot-same i = let nil = k.firsts 0 (omega arith) in λ x. is_at (nil x) (k.to x (root-same i x))

  pub added-internal : (t : ℕ) → is_internal new t ≡ is_internal old t
  unfolding is_internal
  added-internal t =
      let nil = k.firsts 0 (omega arith) in
      let three = k.firsts 3 (omega arith) in
      let four = k.firsts 4 (omega arith) in
      λ x. eqb t (three x) || eqb t (four x) || (not (eqb t (nil x)) && any_below (λ i. tells-same i t x) page_places)

  pub added-ordinary : is_ordinary new s ≡ true
  added-ordinary =
      let outer : is_internal old s ≡ false = false_from_ne_true _ (λ on. apart s (internal-starts old (sound_loadable old k.sound) s on) refl) in
      λ x. (ap is_there added-here) x && not ((added-internal s ∙ outer) x)

  pub ordinary-other : (t : ℕ) → t ≢ s → is_ordinary new t ≡ is_ordinary old t
  ordinary-other t n = λ x. is_there (added-other t n x) && not (added-internal t x)

  pub ordinary-kept : (t : ℕ) → is_ordinary old t ≡ true → is_ordinary new t ≡ true
  ordinary-kept t on = ordinary-other t (apart_there t (ordinary_there old t on)) ∙ on

  pub reference-kept : (w : ℕ) → is_good_reference old w ≡ true → is_good_reference new w ≡ true
  reference-kept w on =
      let p = passed (is_ordinary old) (lead old w) on in
      ap (passes (is_ordinary new)) (lead-same w ∙ p.is) ∙ ordinary-kept p.one p.holds

  pub good-kept : (w : ℕ) → is_good_word old w ≡ true → is_good_word new w ≡ true
  good-kept w on = elim (or_cases (is_immediate_word w) (is_good_reference old w) on) [
    | inl immediate ↦ or_left (is_immediate_word w) (is_good_reference new w) immediate
    | inr reference ↦ or_right (is_immediate_word w) (is_good_reference new w) (reference-kept w reference)
  ]

  -- ---- pages

  is_first-same : (t : ℕ) → is_first new t ≡ is_first old t
  is_first-same t = any_below-same (λ j. eqb (first new j) t) (λ j. eqb (first old j) t) 5 (λ j l. ap (λ u. eqb u t) (k.firsts j l))

  page-kept : (i : ℕ) → is_page old i ≡ true → is_page new i ≡ true
  unfolding is_page
  page-kept i on =
      let test = λ (t : ℕ). is_there (old.cell t) && is_page_body (body_at old t) && not (is_first old t) && not (any_below (λ j. tells old j t) i) in
      let p = passed test (old.to (root_slot old i)) on in
      let there = (and_parts (is_there (old.cell p.one)) _ (and_parts _ _ (and_parts _ _ p.holds).0).0).0 in
      let n = apart_there p.one there in
      let now : (is_there (new.cell p.one) && is_page_body (body_at new p.one) && not (is_first new p.one) && not (any_below (λ j. tells new j p.one) i)) ≡ test p.one =
      λ x. is_there (added-other p.one n x) && is_page_body (body_of (added-other p.one n x)) && not (is_first-same p.one x) && not (any_below (λ j. tells-same j p.one x) i) in
      ap (passes (λ t. is_there (new.cell t) && is_page_body (body_at new t) && not (is_first new t) && not (any_below (λ j. tells new j t) i))) ((λ x. k.to x (root-same i x)) ∙ p.is) ∙ now ∙ p.holds

  bad_page-none : (i : ℕ) → i < page_places → is_bad_page new i ≡ false
  bad_page-none i l = elim (place_cases (sound_loadable old k.sound) i l) [
    | inl nil ↦ and_left (not (is_nil_slot new i)) (not (is_page new i)) (not_from_true _ (nil_slot-same i ∙ nil))
    | inr page ↦ and_right (not (is_nil_slot new i)) (not (is_page new i)) (not_from_true _ (page-kept i page))
  ]

  pub has_page-same : (i : ℕ) → has_page new i ≡ has_page old i
  has_page-same i = λ x. ltb i class_limit && not (nil_slot-same (i / page_entries) x)

  pub entry-same : (i : ℕ) → has_page old i ≡ true → entry new i ≡ entry old i
  entry-same i e =
      let parts = and_parts (ltb i class_limit) (not (is_nil_slot old (i / page_entries))) e in
      let l = place_below i (ltb-true i class_limit parts.0) in
      let page : is_page old (i / page_entries) ≡ true = not-false _ (sym (ap (λ x. not x && not (is_page old (i / page_entries))) (not-true _ parts.1)) ∙ k.sound.roots.pages (i / page_entries) l) in
      let p = a_page old (i / page_entries) page in
      let is : page_of old i ≡ p.0 = ap (λ o. unwrap_or o old.names) p.1.named in
      let other : page_of old i ≢ s = λ same. apart_there p.0 p.1.there (sym is ∙ same) in
      let at : page_of new i ≡ page_of old i = λ x. unwrap_or (k.to x (root-same (i / page_entries) x)) (k.names x) in
      ap (λ t. get_or (body_at new t).words (i % page_entries) 0) at ∙ ap (λ c. get_or (body_of c).words (i % page_entries) 0) (added-other (page_of old i) other)

  pub entry_lead-same : (i : ℕ) → has_page old i ≡ true → lead new (entry new i) ≡ lead old (entry old i)
  entry_lead-same i e = ap (lead new) (entry-same i e) ∙ lead-same (entry old i)

  has_entry-same : (i t : ℕ) → has_entry new i t ≡ has_entry old i t
  has_entry-same i t = and-same (has_page new i) (has_page old i) (is_at t (lead new (entry new i))) (is_at t (lead old (entry old i))) (has_page-same i) (λ e. ap (is_at t) (entry_lead-same i e))

  entered-kept : (t : ℕ) → is_entered old t ≡ true → is_entered new t ≡ true
  unfolding is_entered
  entered-kept t on =
      let n = apart_there t (ordinary_there old t (entered_ordinary old t on)) in
      let hash : (body_at new t).hash ≡ (body_at old t).hash = ap (λ c. (body_of c).hash) (added-other t n) in
      let has : has_entry new (body_at new t).hash t ≡ has_entry old (body_at old t).hash t = ap (λ m. has_entry new m t) hash ∙ has_entry-same (body_at old t).hash t in
      (λ x. ordinary-other t n x && not (is_no_index (hash x)) && has x) ∙ on

  bad_entry-none : (i : ℕ) → is_bad_entry new i ≡ false
  bad_entry-none i = elim (cases_Bool (has_page old i)) [
    | inr off ↦ and_left (has_page new i) _ (has_page-same i ∙ off)
    | inl on ↦
        let old_test = λ (t : ℕ). eqb t (first old 0) || (not (eqb i 0) && is_entered old t) in
        let new_test = λ (t : ℕ). eqb t (first new 0) || (not (eqb i 0) && is_entered new t) in
        let held : passes old_test (lead old (entry old i)) ≡ true = not-false _ (sym (ap (λ x. x && not (passes old_test (lead old (entry old i)))) on) ∙ k.sound.roots.entries i) in
        let p = passed old_test (lead old (entry old i)) held in
        let nil = k.firsts 0 (omega arith) in
        let now : new_test p.one ≡ true = elim (or_cases (eqb p.one (first old 0)) (not (eqb i 0) && is_entered old p.one) p.holds) [
          | inl at_nil ↦ or_left (eqb p.one (first new 0)) _ (ap (eqb p.one) nil ∙ at_nil)
          | inr class ↦ let c = and_parts (not (eqb i 0)) (is_entered old p.one) class in or_right (eqb p.one (first new 0)) _ (λ x. c.0 x && entered-kept p.one c.1 x)
        ] in
        and_right (has_page new i) _ (not_from_true _ (ap (passes new_test) (entry_lead-same i on ∙ p.is) ∙ now))
  ]

  -- ---- the store

  slot-none : (t i : ℕ) → is_bad_slot new t i ≡ false
  slot-none t i = elim (cases_eq t s) [
    | inr n ↦ elim (cases_Bool (is_ordinary old t && ltb i (pointer_count (body_at old t)))) [
      | inr off ↦ and_left (is_ordinary new t && ltb i (pointer_count (body_at new t))) _ ((λ x. ordinary-other t n x && ltb i (pointer_count (body_of (added-other t n x)))) ∙ off)
      | inl on ↦
          let was : is_good_word old (get_or (body_at old t).words i 0) ≡ true = not-false _ (sym (ap (λ x. x && not (is_good_word old (get_or (body_at old t).words i 0))) on) ∙ k.sound.slots t i) in
          let now : is_good_word new (get_or (body_at new t).words i 0) ≡ true =
          ap (λ c. is_good_word new (get_or (body_of c).words i 0)) (added-other t n) ∙ good-kept (get_or (body_at old t).words i 0) was in
          and_right (is_ordinary new t && ltb i (pointer_count (body_at new t))) _ (not_from_true _ now)
    ]
    | inl is ↦ ap (λ u. is_bad_slot new u i) is ∙ elim (cases_Bool (ltb i (pointer_count (body_at new s)))) [
      | inr off ↦ and_left _ _ (and_right _ _ off)
      | inl on ↦
          let count : pointer_count (body_at new s) ≡ pointer_count b = ap (λ c. pointer_count (body_of c)) added-here in
          let low : i < pointer_count b = omega (arith, ltb-true i (pointer_count (body_at new s)) on, count) in
          and_right _ _ (not_from_true _ (ap (λ c. is_good_word new (get_or (body_of c).words i 0)) added-here ∙ good-kept (get_or b.words i 0) (k.slots i low)))
    ]
  ]

  targets : (t u : ℕ) → new.cell t ≡ Moved u → is_start (new.cell u) ≡ true
  targets t u e = elim (cases_eq t s) [
    | inl is ↦ absurd (false≢true (ap is_moved (sym added-here ∙ ap new.cell (sym is) ∙ e)))
    | inr n ↦ start-kept u (k.sound.targets t u (sym (added-other t n) ∙ e))
  ]

  ends : (t : ℕ) → is_bad_forwarder new t ≡ false
  ends t = elim (cases_Bool (is_moved (old.cell t))) [
    | inr off ↦ and_left (is_moved (new.cell t)) _ (moved-same t ∙ off)
    | inl on ↦
        let there = there-kept (final old t) (good_forwarder_ends old t (k.sound.ends t) on) in
        and_right (is_moved (new.cell t)) _ (not_from_true _ (ap (λ u. is_there (new.cell u)) (added-final t) ∙ there))
  ]

  roots : HasRoots new
  roots = record {
    five = k.five;
    objects = λ j l. ap is_there (first_cell j l) ∙ k.sound.roots.objects j l;
    outer = λ j l. ap (is_internal new) (k.firsts j (omega arith)) ∙ added-internal (first old j) ∙ k.sound.roots.outer j l;
    lists =
        let e : (body_at new (first new 3)).format ≡ (body_at old (first old 3)).format = ap (λ c. (body_of c).format) (first_cell 3 (omega arith)) in
        let l = k.sound.roots.lists in
        omega (arith, e, l);
    roots = (ap (λ c. (body_of c).format) (first_cell 4 (omega arith)) ∙ k.sound.roots.roots.0, ap (λ c. length (body_of c).words) (first_cell 4 (omega arith)) ∙ k.sound.roots.roots.1);
    tops = λ i m l. root-same i ∙ k.sound.roots.tops i m l ∙ ap (λ t. 8 * t) (sym (k.firsts 0 (omega arith)));
    pages = bad_page-none;
    entries = bad_entry-none;
  }

  pub added-sound : IsSound new
  added-sound = record {
    formed = λ t on. elim (cases_eq t s) [
      | inl is ↦ ap (λ u. is_formed (body_at new u)) is ∙ ap (λ c. is_formed (body_of c)) added-here ∙ k.formed
      | inr n ↦ ap (λ c. is_formed (body_of c)) (added-other t n) ∙ k.sound.formed t (sym (ap is_there (added-other t n)) ∙ on)
    ];
    targets = targets;
    ends = ends;
    roots = roots;
    slots = slot-none;
  }

  -- ---- mourners

  fired-kept : (t : ℕ) → HasFired old t → HasFired new t
  fired-kept t f =
      let n = apart_there (final old t) (ordinary_there old (final old t) f.ordinary) in
      record {
        ordinary = ap (is_ordinary new) (added-final t) ∙ ordinary-kept (final old t) f.ordinary;
        format = ap (λ u. (body_at new u).format) (added-final t) ∙ ap (λ c. (body_of c).format) (added-other (final old t) n) ∙ f.format;
      }

  pub added-mourners : (groups : List (List ℕ)) → AreMourners old groups → AreMourners new groups
  added-mourners groups m = record {
    some = m.some;
    fired = λ i d l. fired-kept (get_or (waiting_in groups) i d) (m.fired i d l);
    apart = subst (λ (ts : List ℕ). AreApart ts) (λ x. map (λ t. sym (added-final t) x) (waiting_in groups)) m.apart;
  }
