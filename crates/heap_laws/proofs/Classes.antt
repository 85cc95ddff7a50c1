-- The class table under moved places.
use Rattle.std.proofs.Common.{◌≡◌, ℕ, Bool, true, false, not, ◌&&◌, ◌||◌, ◌/◌, ◌%◌, ◌<◌, eqb, ltb, length, get_or, refl, sym, ap, ◌∙◌, subst, arith, inl, inr, Some}
use Rattle.std.proofs.lemmas.Bool.{false≢true, eqb-true, ltb-true, and_parts, not-true}
use Rattle.std.specs.Option.{unwrap_or}
use Rattle.spur_graph.specs.Value.{is_immediate_word}
use Rattle.spur_graph.specs.Cells.{Store, first, final, lead, pointer_count}
use Rattle.spur_graph.specs.Ordinary.{page_places, page_entries, class_limit, is_at, passes, body_at, is_nil_slot, is_ordinary, is_good_reference, has_page, page_of, entry, has_entry, is_no_index, is_entered, is_bad_entry}
use Rattle.spur_graph.specs.CellGraph.{has_class}
use Rattle.heap_cells.proofs.Below.{mapped_there, and-same, and3-same}
use Rattle.heap_cells.proofs.Bodies.{all_pointers}
use Rattle.heap_cells.proofs.Entries.{place_below, entry_passes}
use Rattle.heap_cells.proofs.Internals.{IsPageAt, a_page, not_first, place_cases}
use Rattle.heap_cells.proofs.References.{not_immediate}
use Rattle.heap_laws.specs.Placed.{goal, IsPlacedWord, CanPlace}
use Rattle.heap_laws.proofs.Places.{eqb-placed, first-kept, first-placed, nil_slot-placed, ordinary-placed, hash-placed, nil_ordinary}
use Rattle.heap_laws.proofs.Words.{goal-good}

-- an entry: where its word leads in both
pub record Leads (p : ℕ → ℕ) (keep : ℕ → Bool) (old new : Store) (i : ℕ) : Type 0 where
  pub start : ℕ
  pub kept : keep start ≡ true
  pub ordinary : is_ordinary old start ≡ true
  pub before : lead old (entry old i) ≡ Some start
  pub after : lead new (entry new i) ≡ Some (p start)

module _ {p : ℕ → ℕ} {keep : ℕ → Bool} {old new : Store} (k : CanPlace p keep old new) where
  pub has_page-placed : (i : ℕ) → has_page new i ≡ has_page old i
  has_page-placed i = and-same (ltb i class_limit) (ltb i class_limit) (not (is_nil_slot new (i / page_entries))) (not (is_nil_slot old (i / page_entries))) refl
      (λ l. ap not (nil_slot-placed k (i / page_entries) (place_below i (ltb-true i class_limit l))))

  place : (i : ℕ) → has_page old i ≡ true → i / page_entries < page_places
  place i e = place_below i (ltb-true i class_limit (and_parts (ltb i class_limit) (not (is_nil_slot old (i / page_entries))) e).0)

  page_there : (i : ℕ) → has_page old i ≡ true → (s : ℕ) × IsPageAt old (i / page_entries) s
  page_there i e = elim (place_cases k.loadable (i / page_entries) (place i e)) [
    | inl nil ↦ absurd (false≢true (sym (not-true _ (and_parts (ltb i class_limit) (not (is_nil_slot old (i / page_entries))) e).1) ∙ nil))
    | inr page ↦ a_page old (i / page_entries) page
  ]

  pub entry-placed : (i : ℕ) → has_page old i ≡ true → IsPlacedWord p keep old new (entry old i) (entry new i)
  entry-placed i e =
      let s : ℕ = (page_there i e).0 in
      let g = (page_there i e).1 in
      let q = k.placed.pages (i / page_entries) s (place i e) g.named in
      let body = and_parts (eqb (body_at old s).format 2) (eqb (length (body_at old s).words) page_entries) g.body in
      let two : (body_at old s).format ≡ 2 = eqb-true _ _ body.0 in
      let long : length (body_at old s).words ≡ page_entries = eqb-true _ _ body.1 in
      let count : pointer_count (body_at old s) ≡ length (body_at old s).words = all_pointers (body_at old s) (omega (arith, two)) in
      let n : i % page_entries < page_entries = omega arith in
      let from : page_of old i ≡ s = ap (λ o. unwrap_or o old.names) g.named in
      let to : page_of new i ≡ p s = ap (λ o. unwrap_or o new.names) q.1 in
      let w = (k.placed.objects s q.0).slots (not_first old s 3 (omega arith) g.later) (not_first old s 4 (omega arith) g.later) (i % page_entries) (omega (arith, count, long, n)) in
      let w1 : IsPlacedWord p keep old new (entry old i) (get_or (body_at new (p s)).words (i % page_entries) 0) = subst (λ t. IsPlacedWord p keep old new (get_or (body_at old t).words (i % page_entries) 0) (get_or (body_at new (p s)).words (i % page_entries) 0)) (sym from) w in
      subst (λ t. IsPlacedWord p keep old new (entry old i) (get_or (body_at new t).words (i % page_entries) 0)) (sym to) w1

  -- an entry leads to nil or to an entered class
  pub entry_leads : (i : ℕ) → has_page old i ≡ true → Leads p keep old new i
  entry_leads i e =
      let g = entry_passes old i (nil_ordinary k) e (k.loadable.entries i) in
      let m = mapped_there (final old) (old.to (entry old i)) g.one g.is in
      let off : is_immediate_word (entry old i) ≡ false = not_immediate (entry old i) (k.reads.aligned (entry old i) m.0 m.1) in
      let w = entry-placed i e in
      let good : is_good_reference old (entry old i) ≡ true = ap (passes (is_ordinary old)) g.is ∙ g.holds in
      let is : goal old (entry old i) ≡ g.one = goal-good old (entry old i) g.one good g.is in
      record {
        start = g.one;
        kept = sym (ap keep is) ∙ w.kept off;
        ordinary = g.holds;
        before = g.is;
        after = w.leads off ∙ ap (λ s. Some (p s)) is;
      }

  has_entry-placed : (i s : ℕ) → keep s ≡ true → has_entry new i (p s) ≡ has_entry old i s
  has_entry-placed i s e = and-same (has_page new i) (has_page old i) (is_at (p s) (lead new (entry new i))) (is_at s (lead old (entry old i))) (has_page-placed i)
      (λ f. let r = entry_leads i f in ap (is_at (p s)) r.after ∙ eqb-placed k r.start s r.kept e ∙ sym (ap (is_at s) r.before))

  pub entered-placed : (s : ℕ) → keep s ≡ true → is_entered new (p s) ≡ is_entered old s
  unfolding is_entered
  entered-placed s e = and3-same (is_ordinary new (p s)) (is_ordinary old s) (not (is_no_index (body_at new (p s)).hash)) (not (is_no_index (body_at old s).hash)) (has_entry new (body_at new (p s)).hash (p s)) (has_entry old (body_at old s).hash s) (ordinary-placed k s e)
      (λ f. ap (λ n. not (is_no_index n)) (hash-placed k s e))
      (λ f. ap (λ n. has_entry new n (p s)) (hash-placed k s e) ∙ has_entry-placed (body_at old s).hash s e)

  pub bad_entry-placed : (i : ℕ) → is_bad_entry new i ≡ is_bad_entry old i
  bad_entry-placed i = and-same (has_page new i) (has_page old i) (not (passes (λ s. eqb s (first new 0) || (not (eqb i 0) && is_entered new s)) (lead new (entry new i)))) (not (passes (λ s. eqb s (first old 0) || (not (eqb i 0) && is_entered old s)) (lead old (entry old i)))) (has_page-placed i)
      (λ f. let r = entry_leads i f in
      let test : (eqb (p r.start) (first new 0) || (not (eqb i 0) && is_entered new (p r.start))) ≡ (eqb r.start (first old 0) || (not (eqb i 0) && is_entered old r.start)) =
      λ x. (ap (eqb (p r.start)) (first-placed k 0 (omega arith)) ∙ eqb-placed k r.start (first old 0) r.kept (first-kept k 0 (omega arith))) x || (not (eqb i 0) && entered-placed r.start r.kept x) in
      ap not (ap (passes (λ s. eqb s (first new 0) || (not (eqb i 0) && is_entered new s))) r.after ∙ test ∙ sym (ap (passes (λ s. eqb s (first old 0) || (not (eqb i 0) && is_entered old s))) r.before)))

  pub has_class-placed : (i : ℕ) → has_class new i ≡ has_class old i
  has_class-placed i = and-same (has_page new i) (has_page old i) (not (is_at (first new 0) (lead new (entry new i)))) (not (is_at (first old 0) (lead old (entry old i)))) (has_page-placed i)
      (λ f. let r = entry_leads i f in
      let nil : is_at (first new 0) (lead new (entry new i)) ≡ is_at (first old 0) (lead old (entry old i)) =
      ap (is_at (first new 0)) r.after ∙ ap (eqb (p r.start)) (first-placed k 0 (omega arith)) ∙ eqb-placed k r.start (first old 0) r.kept (first-kept k 0 (omega arith)) ∙ sym (ap (is_at (first old 0)) r.before) in
      ap not nil)
