-- An ordinary object that nothing names becomes a page of the class table: the hidden roots name it where they named nil.
use Rattle.std.proofs.Common.{◌≡◌, ◌≢◌, ℕ, true, false, not, ◌&&◌, ◌||◌, ◌/◌, ◌%◌, ◌<◌, eqb, ltb, length, get_or, set, refl, sym, ap, ◌∙◌, arith, inl, inr, Some, None, Option}
use Rattle.std.proofs.lemmas.Bool.{false≢true, cases_Bool, cases_eq, eq-eqb, ne_eqb, ltb-true, and_parts, and_left, and_right, or_cases, or_left, or_right, not-false, not-true, not_from_true, false_from_ne_true}
use Rattle.std.proofs.lemmas.List.{length-set, get_or-set_same, get_or-set_other}
use Rattle.std.specs.Option.{unwrap_or}
use Rattle.spur_graph.specs.Value.{is_immediate_word}
use Rattle.spur_graph.specs.Cells.{Body, There, Store, is_there, body_of, pointer_count, first, final, lead, any_below}
use Rattle.spur_graph.specs.Ordinary.{page_places, page_entries, class_limit, is_at, passes, body_at, root_slot, tells, is_nil_slot, is_first, is_page_body, is_page, is_internal, is_ordinary, is_good_reference, is_good_word, is_bad_page, is_bad_slot, is_bad_entry, has_page, page_of, entry, has_entry, is_no_index, is_entered}
use Rattle.spur_graph.specs.Heaps.{IsSound, HasRoots}
use Rattle.heap_cells.proofs.Below.{any_below-same, any_below-has, any_below-none, at-named, passed}
use Rattle.heap_cells.proofs.Bodies.{IsLike, with_words}
use Rattle.heap_cells.proofs.Entries.{place_below}
use Rattle.heap_cells.proofs.Internals.{a_page, not_first}
use Rattle.heap_cells.proofs.References.{ordinary_apart}
use Rattle.spur_heap.proofs.InPlace.{changed, Alike, cell-here, cell-other, kept, there-same, format-same, length-same, final-same, lead-same, targets-same, ends-same, formed-same}

-- an ordinary object with the shape of a page and entries that lead to nil, that no ordinary object, no entry and no place of the hidden roots names; its
-- place there names nil
pub record Pages (old : Store) (i w s : ℕ) (r : Body) : Type 0 where
  pub sound : IsSound old
  pub place : i < page_places
  pub nil : is_nil_slot old i ≡ true
  pub there : old.cell (first old 4) ≡ There r
  pub named : old.to w ≡ Some s
  pub ordinary : is_ordinary old s ≡ true
  pub later : is_first old s ≡ false
  pub body : is_page_body (body_at old s) ≡ true
  pub unnamed : (t j : ℕ) → is_ordinary old t ≡ true → j < pointer_count (body_at old t) → lead old (get_or (body_at old t).words j 0) ≢ Some s
  pub unentered : (j : ℕ) → has_page old j ≡ true → lead old (entry old j) ≢ Some s
  pub entries : (j : ℕ) → j < page_entries → lead old (get_or (body_at old s).words j 0) ≡ Some (first old 0)

module _ {old : Store} {i w s : ℕ} {r : Body} (k : Pages old i w s r) where
  abbrev pub paged_roots : Body
  paged_roots = with_words r (set r.words i w)

  abbrev pub paged : Store
  paged = changed old (first old 4) paged_roots

  roots_there : body_at old (first old 4) ≡ r
  roots_there = ap body_of k.there

  roots_long : i < length r.words
  roots_long = let l = k.sound.roots.roots.1 in let e : length (body_at old (first old 4)).words ≡ length r.words = ap (λ (b : Body). length b.words) roots_there in let p = k.place in omega (arith, l, e, p)

  like : IsLike r paged_roots.words
  like = record {
    long = length-set r.words i w;
    first = λ l. let f = k.sound.roots.roots.0 in let e : (body_at old (first old 4)).format ≡ r.format = ap (λ (b : Body). b.format) roots_there in absurd (omega (arith, l, f, e));
  }

  pub alike : Alike old (first old 4) r paged_roots
  alike = record { place = record { there = k.there }; class = refl; format = refl; like = like }

  pub paged-final : (t : ℕ) → final paged t ≡ final old t
  paged-final = final-same alike.place

  pub paged-lead : (v : ℕ) → lead paged v ≡ lead old v
  paged-lead = lead-same alike.place

  -- ---- the hidden roots

  root-here : root_slot paged i ≡ w
  root-here = ap (λ c. get_or (body_of c).words i 0) (cell-here alike.place) ∙ get_or-set_same r.words i w 0 roots_long

  root-other : (j : ℕ) → j ≢ i → root_slot paged j ≡ root_slot old j
  root-other j n = ap (λ c. get_or (body_of c).words j 0) (cell-here alike.place) ∙ get_or-set_other r.words i j w 0 n ∙ sym (ap (λ (b : Body). get_or b.words j 0) roots_there)

  tells-here : (t : ℕ) → tells paged i t ≡ eqb s t
  tells-here t = ap (λ u. is_at t (old.to u)) root-here ∙ ap (is_at t) k.named

  tells-other : (j t : ℕ) → j ≢ i → tells paged j t ≡ tells old j t
  tells-other j t n = ap (λ u. is_at t (old.to u)) (root-other j n)

  -- the start is none of the first five
  not_one : (j : ℕ) → j < 5 → s ≢ first old j
  not_one j l = not_first old s j l k.later

  outside : is_internal old s ≡ false
  outside = not-true _ (and_parts (is_there (old.cell s)) (not (is_internal old s)) k.ordinary).1

  -- no place names it
  untold : (j : ℕ) → j < page_places → tells old j s ≡ false
  unfolding is_internal
  untold j l = false_from_ne_true _ (λ on. false≢true (sym outside ∙ or_right (eqb s (first old 3) || eqb s (first old 4)) _
      (λ x. not (ne_eqb s (first old 0) (not_one 0 (omega arith)) x) && any_below-has (λ m. tells old m s) page_places j l on x)))

  -- of other starts the places tell the same
  tells-same : (j t : ℕ) → t ≢ s → t ≢ first old 0 → tells paged j t ≡ tells old j t
  tells-same j t n nil = elim (cases_eq j i) [
    | inr other ↦ tells-other j t other
    | inl e ↦
        let was : tells old i t ≡ false = ap (is_at t) (at-named (first old 0) (old.to (root_slot old i)) k.nil) ∙ ne_eqb (first old 0) t (λ q. nil (sym q)) in
        ap (λ m. tells paged m t) e ∙ tells-here t ∙ ne_eqb s t (λ q. n (sym q)) ∙ sym was ∙ ap (λ m. tells old m t) (sym e)
  ]

  pub internal-other : (t : ℕ) → t ≢ s → is_internal paged t ≡ is_internal old t
  unfolding is_internal
  internal-other t n = elim (cases_eq t (first old 0)) [
    | inl e ↦
        let off : not (eqb t (first old 0)) ≡ false = ap not (eq-eqb t (first old 0) e) in
        ap (λ b. eqb t (first old 3) || eqb t (first old 4) || (b && any_below (λ j. tells paged j t) page_places)) off ∙ sym (ap (λ b. eqb t (first old 3) || eqb t (first old 4) || (b && any_below (λ j. tells old j t) page_places)) off)
    | inr nil ↦ λ x. eqb t (first old 3) || eqb t (first old 4) || (not (eqb t (first old 0)) && any_below (λ j. tells-same j t n nil x) page_places)
  ]

  pub internal-here : is_internal paged s ≡ true
  unfolding is_internal
  internal-here = or_right (eqb s (first old 3) || eqb s (first old 4)) _
      (λ x. not (ne_eqb s (first old 0) (not_one 0 (omega arith)) x) && any_below-has (λ j. tells paged j s) page_places i k.place (tells-here s ∙ eq-eqb s s refl) x)

  pub ordinary-other : (t : ℕ) → t ≢ s → is_ordinary paged t ≡ is_ordinary old t
  ordinary-other t n = λ x. there-same alike.place t x && not (internal-other t n x)

  pub ordinary-here : is_ordinary paged s ≡ false
  ordinary-here = and_right _ _ (ap not internal-here)

  -- ---- words that do not lead to it

  pub reference-other : (v : ℕ) → lead old v ≢ Some s → is_good_reference paged v ≡ is_good_reference old v
  reference-other v n = ap (passes (is_ordinary paged)) (paged-lead v) ∙ same (lead old v) n
    where
      same : (o : Option ℕ) → o ≢ Some s → passes (is_ordinary paged) o ≡ passes (is_ordinary old) o
      same None m = refl
      same (Some t) m = ordinary-other t (λ e. m (ap (λ u. Some u) e))

  pub good-other : (v : ℕ) → lead old v ≢ Some s → is_good_word paged v ≡ is_good_word old v
  good-other v n = λ x. is_immediate_word v || reference-other v n x

  -- ---- pages

  first-same : (t : ℕ) → is_first paged t ≡ is_first old t
  first-same t = refl

  page-here : is_page paged i ≡ true
  unfolding is_page
  page-here =
      let body : is_page_body (body_at paged s) ≡ true = (λ x. eqb (format-same alike s x) 2 && eqb (length-same alike s x) page_entries) ∙ k.body in
      let there : is_there (paged.cell s) ≡ true = there-same alike.place s ∙ (and_parts (is_there (old.cell s)) (not (is_internal old s)) k.ordinary).0 in
      let none : any_below (λ j. tells paged j s) i ≡ false = any_below-none (λ j. tells paged j s) i (λ j l. tells-other j s (λ e. omega (arith, e, l)) ∙ untold j (let p = k.place in omega (arith, l, p))) in
      ap (passes (λ t. is_there (paged.cell t) && is_page_body (body_at paged t) && not (is_first old t) && not (any_below (λ j. tells paged j t) i))) (ap old.to root-here ∙ k.named)
      ∙ (λ x. there x && body x && not (k.later x) && not (none x))

  pub nil-here : is_nil_slot paged i ≡ false
  nil-here = tells-here (first old 0) ∙ ne_eqb s (first old 0) (not_one 0 (omega arith))

  pub nil-other : (j : ℕ) → j ≢ i → is_nil_slot paged j ≡ is_nil_slot old j
  nil-other j n = tells-other j (first old 0) n

  -- another page is another object
  page_apart : (j : ℕ) → j < page_places → (p : ℕ) → old.to (root_slot old j) ≡ Some p → p ≢ s
  page_apart j l p named e = false≢true (sym (untold j l) ∙ ap (is_at s) named ∙ eq-eqb p s e)

  page-other : (j : ℕ) → j < page_places → j ≢ i → is_page old j ≡ true → is_page paged j ≡ true
  unfolding is_page
  page-other j l n page =
      let q = passed (λ t. is_there (old.cell t) && is_page_body (body_at old t) && not (is_first old t) && not (any_below (λ m. tells old m t) j)) (old.to (root_slot old j)) page in
      let p : ℕ = q.one in
      let parts = and_parts (is_there (old.cell p) && is_page_body (body_at old p) && not (is_first old p)) (not (any_below (λ m. tells old m p) j)) q.holds in
      let later : is_first old p ≡ false = not-true _ (and_parts (is_there (old.cell p) && is_page_body (body_at old p)) (not (is_first old p)) parts.0).1 in
      let body : is_page_body (body_at paged p) ≡ is_page_body (body_at old p) = λ x. eqb (format-same alike p x) 2 && eqb (length-same alike p x) page_entries in
      let same : any_below (λ m. tells paged m p) j ≡ any_below (λ m. tells old m p) j = any_below-same (λ m. tells paged m p) (λ m. tells old m p) j (λ m b. tells-same m p (page_apart j l p q.is) (not_first old p 0 (omega arith) later)) in
      ap (passes (λ t. is_there (paged.cell t) && is_page_body (body_at paged t) && not (is_first old t) && not (any_below (λ m. tells paged m t) j))) (ap old.to (root-other j n) ∙ q.is)
      ∙ (λ x. there-same alike.place p x && body x && not (is_first old p) && not (same x)) ∙ q.holds

  good_page : (j : ℕ) → j < page_places → is_bad_page paged j ≡ false
  good_page j l = elim (cases_eq j i) [
    | inl e ↦ ap (is_bad_page paged) e ∙ and_right (not (is_nil_slot paged i)) _ (not_from_true _ page-here)
    | inr n ↦ elim (cases_Bool (is_nil_slot old j)) [
      | inl nil ↦ and_left _ _ (not_from_true _ (nil-other j n ∙ nil))
      | inr some ↦
          let page : is_page old j ≡ true = not-false _ (sym (ap (λ x. not x && not (is_page old j)) some) ∙ k.sound.roots.pages j l) in
          and_right (not (is_nil_slot paged j)) _ (not_from_true _ (page-other j l n page))
    ]
  ]

  -- ---- the entries

  pub nil_place : (j : ℕ) → j / page_entries ≡ i → has_page old j ≡ false
  nil_place j e = and_right (ltb j class_limit) _ (ap not (ap (is_nil_slot old) e ∙ k.nil))

  pub elsewhere : (j : ℕ) → has_page old j ≡ true → j / page_entries ≢ i
  elsewhere j on e = false≢true (sym (nil_place j e) ∙ on)

  pub paged-has_page : (j : ℕ) → j / page_entries ≢ i → has_page paged j ≡ has_page old j
  paged-has_page j n = λ x. ltb j class_limit && not (nil-other (j / page_entries) n x)

  -- of the new page each leads to nil
  pub lead-here : (j : ℕ) → j / page_entries ≡ i → lead paged (entry paged j) ≡ Some (first old 0)
  lead-here j e =
      let page : page_of paged j ≡ s = ap (λ m. unwrap_or (old.to (root_slot paged m)) old.names) e ∙ ap (λ u. unwrap_or (old.to u) old.names) root-here ∙ ap (λ o. unwrap_or o old.names) k.named in
      let is : entry paged j ≡ get_or (body_at old s).words (j % page_entries) 0 =
      ap (λ q. get_or (body_at paged q).words (j % page_entries) 0) page ∙ ap (λ c. get_or (body_of c).words (j % page_entries) 0) (cell-other alike.place s (not_one 4 (omega arith))) in
      ap (lead paged) is ∙ paged-lead (get_or (body_at old s).words (j % page_entries) 0) ∙ k.entries (j % page_entries) (omega arith)

  pub entry-other : (j : ℕ) → has_page old j ≡ true → entry paged j ≡ entry old j
  entry-other j on =
      let n = elsewhere j on in
      let parts = and_parts (ltb j class_limit) (not (is_nil_slot old (j / page_entries))) on in
      let l = place_below j (ltb-true j class_limit parts.0) in
      let page : is_page old (j / page_entries) ≡ true = not-false _ (sym (ap (λ x. not x && not (is_page old (j / page_entries))) (not-true _ parts.1)) ∙ k.sound.roots.pages (j / page_entries) l) in
      let p = a_page old (j / page_entries) page in
      let is : page_of old j ≡ p.0 = ap (λ o. unwrap_or o old.names) p.1.named in
      let far : page_of old j ≢ first old 4 = λ e. not_first old p.0 4 (omega arith) p.1.later (sym is ∙ e) in
      ap (λ u. get_or (body_at paged (unwrap_or (old.to u) old.names)).words (j % page_entries) 0) (root-other (j / page_entries) n)
      ∙ ap (λ c. get_or (body_of c).words (j % page_entries) 0) (cell-other alike.place (page_of old j) far)

  pub lead-other : (j : ℕ) → has_page old j ≡ true → lead paged (entry paged j) ≡ lead old (entry old j)
  lead-other j on = ap (lead paged) (entry-other j on) ∙ paged-lead (entry old j)

  entered-kept : (t : ℕ) → is_entered old t ≡ true → is_entered paged t ≡ true
  unfolding is_entered
  entered-kept t on =
      let hash : ℕ = (body_at old t).hash in
      let there = (and_parts (is_ordinary old t && not (is_no_index hash)) (has_entry old hash t) on).1 in
      let parts = and_parts (has_page old hash) (is_at t (lead old (entry old hash))) there in
      let leads : lead old (entry old hash) ≡ Some t = at-named t (lead old (entry old hash)) parts.1 in
      let other : t ≢ s = λ e. k.unentered hash parts.0 (leads ∙ ap (λ u. Some u) e) in
      let has : has_entry paged hash t ≡ has_entry old hash t = λ x. paged-has_page hash (elsewhere hash parts.0) x && is_at t (lead-other hash parts.0 x) in
      (λ x. ordinary-other t other x && not (is_no_index (kept alike.place (λ c. (body_of c).hash) refl t x)) && (ap (λ m. has_entry paged m t) (kept alike.place (λ c. (body_of c).hash) refl t) ∙ has) x) ∙ on

  stays_at : (j t : ℕ) → (eqb t (first old 0) || (not (eqb j 0) && is_entered old t)) ≡ true → (eqb t (first old 0) || (not (eqb j 0) && is_entered paged t)) ≡ true
  stays_at j t on = elim (or_cases (eqb t (first old 0)) (not (eqb j 0) && is_entered old t) on) [
    | inl nil ↦ or_left _ _ nil
    | inr class ↦ let parts = and_parts (not (eqb j 0)) (is_entered old t) class in or_right (eqb t (first old 0)) _ (λ x. parts.0 x && entered-kept t parts.1 x)
  ]

  stays : (j : ℕ) (o : Option ℕ) → passes (λ t. eqb t (first old 0) || (not (eqb j 0) && is_entered old t)) o ≡ true → passes (λ t. eqb t (first old 0) || (not (eqb j 0) && is_entered paged t)) o ≡ true
  stays j None on = on
  stays j (Some t) on = stays_at j t on

  good_entry : (j : ℕ) → is_bad_entry paged j ≡ false
  good_entry j = elim (cases_eq (j / page_entries) i) [
    | inl e ↦ and_right (has_page paged j) _ (not_from_true _ (ap (passes (λ t. eqb t (first old 0) || (not (eqb j 0) && is_entered paged t))) (lead-here j e) ∙ or_left (eqb (first old 0) (first old 0)) _ (eq-eqb (first old 0) (first old 0) refl)))
    | inr n ↦ elim (cases_Bool (has_page old j)) [
      | inr off ↦ and_left _ _ (paged-has_page j n ∙ off)
      | inl on ↦
          let was : passes (λ t. eqb t (first old 0) || (not (eqb j 0) && is_entered old t)) (lead old (entry old j)) ≡ true =
          not-false _ (sym (ap (λ x. x && not (passes (λ t. eqb t (first old 0) || (not (eqb j 0) && is_entered old t)) (lead old (entry old j)))) on) ∙ k.sound.roots.entries j) in
          and_right (has_page paged j) _ (not_from_true _ (ap (passes (λ t. eqb t (first old 0) || (not (eqb j 0) && is_entered paged t))) (lead-other j on) ∙ stays j (lead old (entry old j)) was))
    ]
  ]

  -- ---- the store is sound as before

  slots : (t j : ℕ) → is_bad_slot paged t j ≡ false
  slots t j = elim (cases_eq t s) [
    | inl e ↦ and_left _ _ (and_left _ _ (ap (is_ordinary paged) e ∙ ordinary-here))
    | inr n ↦ elim (cases_Bool (is_ordinary old t)) [
      | inr off ↦ and_left _ _ (and_left _ _ (ordinary-other t n ∙ off))
      | inl on ↦
          let body : body_at paged t ≡ body_at old t = ap body_of (cell-other alike.place t (ordinary_apart old t on).0) in
          elim (cases_Bool (ltb j (pointer_count (body_at old t)))) [
            | inr off ↦ and_left _ _ (and_right _ _ (ap (λ b. ltb j (pointer_count b)) body ∙ off))
            | inl low ↦
                let good : is_good_word old (get_or (body_at old t).words j 0) ≡ true = not-false _ (sym (λ x. on x && low x && not (is_good_word old (get_or (body_at old t).words j 0))) ∙ k.sound.slots t j) in
                and_right _ _ (not_from_true _ (ap (λ b. is_good_word paged (get_or b.words j 0)) body ∙ good-other (get_or (body_at old t).words j 0) (k.unnamed t j on (ltb-true j (pointer_count (body_at old t)) low)) ∙ good))
          ]
    ]
  ]

  roots : HasRoots paged
  roots = record {
    five = k.sound.roots.five;
    objects = λ j l. there-same alike.place (first old j) ∙ k.sound.roots.objects j l;
    outer = λ j l. internal-other (first old j) (λ e. not_one j (omega (arith, l)) (sym e)) ∙ k.sound.roots.outer j l;
    lists = let e = format-same alike (first old 3) in let l = k.sound.roots.lists in omega (arith, e, l);
    roots = (format-same alike (first old 4) ∙ k.sound.roots.roots.0, length-same alike (first old 4) ∙ k.sound.roots.roots.1);
    tops = λ j m l. root-other j (λ e. let p = k.place in omega (arith, e, m, p)) ∙ k.sound.roots.tops j m l;
    pages = good_page;
    entries = good_entry;
  }

  pub paged_sound : IsSound paged
  paged_sound = record {
    formed = formed-same alike k.sound;
    targets = targets-same alike.place k.sound;
    ends = ends-same alike.place k.sound;
    roots = roots;
    slots = slots;
  }
