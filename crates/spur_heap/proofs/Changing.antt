-- A store and the same with another object in the place of an ordinary one, also of another class and with other slots: it is sound as before.
use Rattle.std.proofs.Common.{◌≡◌, ◌≢◌, ℕ, true, false, ◌⊎◌, not, ◌&&◌, ◌/◌, ◌%◌, ◌<◌, ltb, get_or, sym, ap, ◌∙◌, arith, inl, inr}
use Rattle.std.proofs.lemmas.Bool.{false≢true, cases_eq, ltb-true, and_parts, not-false, not-true}
use Rattle.std.specs.Option.{unwrap_or}
use Rattle.spur_graph.specs.Cells.{Body, There, Store, is_there, body_of, is_formed, pointer_count, first, lead}
use Rattle.spur_graph.specs.Ordinary.{page_places, page_entries, class_limit, body_at, is_nil_slot, is_page, is_internal, is_ordinary, is_good_word, has_page, page_of, entry, is_entered}
use Rattle.spur_graph.specs.CellGraph.{has_class}
use Rattle.spur_graph.specs.Heaps.{IsSound}
use Rattle.heap_cells.proofs.Bodies.{pointer_count-like}
use Rattle.heap_cells.proofs.Internals.{IsPageAt, a_page}
use Rattle.heap_cells.proofs.References.{ordinary_apart}
use Rattle.heap_cells.proofs.Entries.{place_below}
use Rattle.spur_heap.proofs.InPlace.{changed, Alike, cell-other, kept, lead-same, alike_formed}
use Rattle.spur_heap.proofs.Swap.{Swap, page_internal, root-same, sound_swapped}
use Rattle.spur_heap.proofs.EntriesAlike.{good_entry, has_class-same as class-same}

-- it is no class that the table has; nil may stand at any index
abbrev pub IsNoClass : Store → ℕ → Type 0
IsNoClass old s = is_entered old s ≡ true → s ≡ first old 0

-- an ordinary object of a sound store, and what is to stand in its place: formed, with good words in its pointer slots. Its hash is as before, or it is
-- no class. Class, format, flags and the number of slots may differ
pub record Change (old : Store) (s : ℕ) (b b' : Body) : Type 0 where
  pub sound : IsSound old
  pub there : old.cell s ≡ There b
  pub ordinary : is_ordinary old s ≡ true
  pub hash : (b'.hash ≡ b.hash) ⊎ IsNoClass old s
  pub formed : is_formed b' ≡ true
  pub slots : (i : ℕ) → i < pointer_count b' → is_good_word old (get_or b'.words i 0) ≡ true

-- one of the same class and format, with as many words
pub change_alike : {old : Store} {s : ℕ} {b : Body} {b' : Body} → IsSound old → Alike old s b b' → is_ordinary old s ≡ true → (b'.hash ≡ b.hash) ⊎ IsNoClass old s
    → ((i : ℕ) → i < pointer_count b → is_good_word old (get_or b'.words i 0) ≡ true) → Change old s b b'
change_alike {old} {s} {b} {b'} sound k ordinary hash good = record {
  sound = sound;
  there = k.place.there;
  ordinary = ordinary;
  hash = hash;
  formed = alike_formed k sound;
  slots = λ i l. good i (let e = pointer_count-like b b' k.format k.like in omega (arith, l, e));
}

module _ {old : Store} {s : ℕ} {b : Body} {b' : Body} (k : Change old s b b') where
  outer : is_internal old s ≡ false
  outer = not-true _ (and_parts (is_there (old.cell s)) (not (is_internal old s)) k.ordinary).1

  pub swap_of : Swap old s b b'
  swap_of = record {
    sound = k.sound;
    place = record { there = k.there };
    roots = λ e. (ordinary_apart old s k.ordinary).0 (sym e);
    formed = k.formed;
    inner = λ on. absurd (false≢true (sym outer ∙ on));
    slots = λ on. k.slots;
  }

  -- a page is another
  page_apart : (i : ℕ) → i < page_places → (p : ℕ) → IsPageAt old i p → p ≢ s
  page_apart i l p page e = false≢true (sym outer ∙ ap (is_internal old) (sym e) ∙ page_internal old i l p page)

  pub entry-same : (i : ℕ) → has_page old i ≡ true → entry (changed old s b') i ≡ entry old i
  entry-same i e =
      let parts = and_parts (ltb i class_limit) (not (is_nil_slot old (i / page_entries))) e in
      let l = place_below i (ltb-true i class_limit parts.0) in
      let page : is_page old (i / page_entries) ≡ true = not-false _ (sym (ap (λ x. not x && not (is_page old (i / page_entries))) (not-true _ parts.1)) ∙ k.sound.roots.pages (i / page_entries) l) in
      let p = a_page old (i / page_entries) page in
      let is : page_of old i ≡ p.0 = ap (λ o. unwrap_or o old.names) p.1.named in
      let other : page_of old i ≢ s = λ same. page_apart (i / page_entries) l p.0 p.1 (sym is ∙ same) in
      ap (λ w. get_or (body_at (changed old s b') (unwrap_or (old.to w) old.names)).words (i % page_entries) 0) (root-same swap_of (i / page_entries))
      ∙ ap (λ c. get_or (body_of c).words (i % page_entries) 0) (cell-other swap_of.place (page_of old i) other)

  pub entry_lead-same : (i : ℕ) → has_page old i ≡ true → lead (changed old s b') (entry (changed old s b') i) ≡ lead old (entry old i)
  entry_lead-same i e = ap (lead (changed old s b')) (entry-same i e) ∙ lead-same swap_of.place (entry old i)

  -- an entered class has the hash that it had, or is nil
  entered_hash : (t : ℕ) → is_entered old t ≡ true → (t ≡ first old 0) ⊎ ((body_at (changed old s b') t).hash ≡ (body_at old t).hash)
  entered_hash t entered = elim (cases_eq t s) [
    | inr n ↦ inr (ap (λ c. (body_of c).hash) (cell-other swap_of.place t n))
    | inl is ↦ elim k.hash [
      | inl same ↦ inr (kept swap_of.place (λ c. (body_of c).hash) same t)
      | inr none ↦ inl (is ∙ none (ap (is_entered old) (sym is) ∙ entered))
    ]
  ]

  pub has_class-same : (i : ℕ) → has_class (changed old s b') i ≡ has_class old i
  has_class-same = class-same swap_of entry_lead-same entered_hash

  pub sound_changed : IsSound (changed old s b')
  sound_changed = sound_swapped swap_of (good_entry swap_of entry_lead-same entered_hash k.sound.roots.entries)
