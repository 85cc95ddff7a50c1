-- What is internal, and what a page is, under moved places.
use Rattle.std.proofs.Common.{◌≡◌, ◌≢◌, ℕ, Bool, true, not, ◌&&◌, ◌||◌, ◌<◌, eqb, get_or, sym, ap, ◌∙◌, arith, inl, inr}
use Rattle.std.proofs.lemmas.Bool.{cases_eq, eq-eqb, ne_eqb}
use Rattle.spur_graph.specs.Cells.{Body, Store, is_there, first, pointer_count, is_formed, any_below}
use Rattle.spur_graph.specs.Ordinary.{page_places, page_entries, is_at, passes, body_at, tells, is_nil_slot, is_first, is_page_body, is_page, is_internal, is_ordinary}
use Rattle.heap_cells.proofs.Below.{any_below-same}
use Rattle.heap_cells.proofs.Bodies.{IsLike, first_tag, method_some, is_formed-same, pointer_count-same}
use Rattle.heap_cells.proofs.Both.{integer_word}
use Rattle.heap_cells.proofs.Internals.{place_named}
use Rattle.heap_laws.specs.Placed.{CanPlace}

module _ {p : ℕ → ℕ} {keep : ℕ → Bool} {old new : Store} (k : CanPlace p keep old new) where
  pub eqb-placed : (s t : ℕ) → keep s ≡ true → keep t ≡ true → eqb (p s) (p t) ≡ eqb s t
  eqb-placed s t e f = elim (cases_eq s t) [
    | inl same ↦ eq-eqb (p s) (p t) (ap p same) ∙ sym (eq-eqb s t same)
    | inr other ↦ ne_eqb (p s) (p t) (λ x. other (k.placed.once s t e f x)) ∙ sym (ne_eqb s t other)
  ]

  pub first-kept : (j : ℕ) → j < 5 → keep (first old j) ≡ true
  first-kept j l = (k.placed.firsts j l).0

  pub first-placed : (j : ℕ) → j < 5 → first new j ≡ p (first old j)
  first-placed j l = (k.placed.firsts j l).1

  pub is_first_at : (s j : ℕ) → j < 5 → keep s ≡ true → eqb (p s) (first new j) ≡ eqb s (first old j)
  is_first_at s j l e = ap (eqb (p s)) (first-placed j l) ∙ eqb-placed s (first old j) e (first-kept j l)

  pub there-placed : (s : ℕ) → keep s ≡ true → is_there (new.cell (p s)) ≡ is_there (old.cell s)
  there-placed s e = (k.placed.objects s e).there ∙ sym (k.placed.some s e)

  pub tells-placed : (i s : ℕ) → i < page_places → keep s ≡ true → tells new i (p s) ≡ tells old i s
  tells-placed i s l e =
      let r = place_named k.loadable i l in
      let q = k.placed.pages i r.0 l r.1 in
      ap (is_at (p s)) q.1 ∙ eqb-placed r.0 s q.0 e ∙ sym (ap (is_at s) r.1)

  pub nil_slot-placed : (i : ℕ) → i < page_places → is_nil_slot new i ≡ is_nil_slot old i
  nil_slot-placed i l = ap (tells new i) (first-placed 0 (omega arith)) ∙ tells-placed i (first old 0) l (first-kept 0 (omega arith))

  pub internal-placed : (s : ℕ) → keep s ≡ true → is_internal new (p s) ≡ is_internal old s
  unfolding is_internal
  internal-placed s e =
      let three = is_first_at s 3 (omega arith) e in
      let four = is_first_at s 4 (omega arith) e in
      let nil = is_first_at s 0 (omega arith) e in
      let some = any_below-same (λ i. tells new i (p s)) (λ i. tells old i s) page_places (λ i l. tells-placed i s l e) in
      λ x. three x || four x || (not (nil x) && some x)

  pub ordinary-placed : (s : ℕ) → keep s ≡ true → is_ordinary new (p s) ≡ is_ordinary old s
  ordinary-placed s e = λ x. there-placed s e x && not (internal-placed s e x)

  pub nil_ordinary : is_ordinary old (first old 0) ≡ true
  nil_ordinary = λ x. k.loadable.objects 0 (omega arith) x && not (k.outer 0 (omega arith) x)

  is_first-placed : (s : ℕ) → keep s ≡ true → is_first new (p s) ≡ is_first old s
  is_first-placed s e = any_below-same (λ j. eqb (first new j) (p s)) (λ j. eqb (first old j) s) 5 (λ j l. ap (λ t. eqb t (p s)) (first-placed j l) ∙ eqb-placed (first old j) s (first-kept j l) e)

  pub format-placed : (s : ℕ) → keep s ≡ true → (body_at new (p s)).format ≡ (body_at old s).format
  format-placed s e = ap (λ (b : Body). b.format) (k.placed.objects s e).head

  pub hash-placed : (s : ℕ) → keep s ≡ true → (body_at new (p s)).hash ≡ (body_at old s).hash
  hash-placed s e = ap (λ (b : Body). b.hash) (k.placed.objects s e).head

  pub pinned-placed : (s : ℕ) → keep s ≡ true → (body_at new (p s)).pinned ≡ (body_at old s).pinned
  pinned-placed s e = ap (λ (b : Body). b.pinned) (k.placed.objects s e).head

  pub is_page-placed : (i : ℕ) → i < page_places → is_page new i ≡ is_page old i
  unfolding is_page
  is_page-placed i l =
      let r = place_named k.loadable i l in
      let q = k.placed.pages i r.0 l r.1 in
      let body : is_page_body (body_at new (p r.0)) ≡ is_page_body (body_at old r.0) = λ x. eqb (format-placed r.0 q.0 x) 2 && eqb ((k.placed.objects r.0 q.0).long x) page_entries in
      let none = any_below-same (λ j. tells new j (p r.0)) (λ j. tells old j r.0) i (λ j m. tells-placed j r.0 (omega (arith, l, m)) q.0) in
      let test : (is_there (new.cell (p r.0)) && is_page_body (body_at new (p r.0)) && not (is_first new (p r.0)) && not (any_below (λ j. tells new j (p r.0)) i)) ≡ (is_there (old.cell r.0) && is_page_body (body_at old r.0) && not (is_first old r.0) && not (any_below (λ j. tells old j r.0) i)) =
      λ x. there-placed r.0 q.0 x && body x && not (is_first-placed r.0 q.0 x) && not (none x) in
      ap (passes (λ s. is_there (new.cell s) && is_page_body (body_at new s) && not (is_first new s) && not (any_below (λ j. tells new j s) i))) q.1
      ∙ test
      ∙ sym (ap (passes (λ s. is_there (old.cell s) && is_page_body (body_at old s) && not (is_first old s) && not (any_below (λ j. tells old j s) i))) r.1)

  -- ---- an object by its words

  pub not_method_three : (s : ℕ) → s ≡ first old 3 → (body_at old s).format < 24
  not_method_three s e = let f : (body_at old s).format ≡ (body_at old (first old 3)).format = ap (λ t. (body_at old t).format) e in let l = k.loadable.lists in omega (arith, f, l)

  pub not_method_four : (s : ℕ) → s ≡ first old 4 → (body_at old s).format < 24
  not_method_four s e = let f : (body_at old s).format ≡ 2 = ap (λ t. (body_at old t).format) e ∙ k.loadable.roots.0 in omega (arith, f)

  pub like-placed : (s : ℕ) → keep s ≡ true → IsLike (body_at old s) (body_at new (p s)).words
  like-placed s e = record {
    long = (k.placed.objects s e).long;
    first = λ l.
        let tag = first_tag (body_at old s) (k.loadable.formed s (k.placed.some s e)) l in
        let three : s ≢ first old 3 = λ x. let m = not_method_three s x in omega (arith, l, m) in
        let four : s ≢ first old 4 = λ x. let m = not_method_four s x in omega (arith, l, m) in
        let w = (k.placed.objects s e).slots three four 0 (method_some (body_at old s) l) in
        w.same (integer_word (get_or (body_at old s).words 0 0) tag);
  }

  pub count-placed : (s : ℕ) → keep s ≡ true → pointer_count (body_at new (p s)) ≡ pointer_count (body_at old s)
  count-placed s e = ap pointer_count (k.placed.objects s e).head ∙ pointer_count-same (body_at old s) (body_at new (p s)).words (like-placed s e)

  pub formed-placed : (s : ℕ) → keep s ≡ true → is_formed (body_at new (p s)) ≡ is_formed (body_at old s)
  formed-placed s e = ap is_formed (k.placed.objects s e).head ∙ is_formed-same (body_at old s) (body_at new (p s)).words (like-placed s e)
