-- The roots of a heap's graph are what the words of its roots name.
use Rattle.std.proofs.Common.{◌≡◌, ℕ, zero, suc, true, cond, not, ◌&&◌, ◌*◌, ◌/◌, ◌<◌, ltb, length, get_or, refl, sym, ap, ◌∙◌, subst, arith, inl, inr, Option, Some, None}
use Rattle.std.proofs.lemmas.Bool.{cases_Bool, and_parts, ltb-true}
use Rattle.std.proofs.lemmas.List.{length-map, get_or-map}
use Rattle.std.specs.Option.{option_map}
use Rattle.std.specs.List.{Contains}
use Rattle.std.specs.FinMap.{get}
use Rattle.spur_graph.specs.declared.answer.Value.{Value}
use Rattle.spur_graph.specs.declared.answer.Value.TheVariants.{Ref}
use Rattle.spur_graph.specs.Graph.{Graph, Handle, waiting}
use Rattle.spur_graph.specs.Live.{IsRoot, HandleNames, Mourns, SpecialNames, EntryNames, IsNil, IsFalse, IsTrue}
use Rattle.spur_graph.specs.Cells.{Store, first, final, lead}
use Rattle.spur_graph.specs.Ordinary.{class_limit, page_entries, is_at, is_nil_slot, has_page, entry}
use Rattle.spur_graph.specs.CellGraph.{read, has_class}
use Rattle.spur_graph.specs.Heaps.{View, IsWhole, HasFired, store_of, heap_graph, heap_value, own_name, waiting_in}
use Rattle.heap_cells.specs.Settled.{settled_word, word_of}
use Rattle.heap_cells.proofs.Below.{at-named}
use Rattle.heap_cells.proofs.Entries.{place_below}
use Rattle.heap_cells.proofs.HandleValues.{get-handle_values}
use Rattle.spur_heap.specs.Words.{AreSound}
use Rattle.spur_heap.specs.Entering.{HasPage}
use Rattle.spur_heap.specs.Views.{class_word}
use Rattle.spur_heap.specs.Roots.{RootNames, First, Special, Held, Mourner, Entry}
use Rattle.spur_heap.proofs.ClassTable.{page_listed}
use Rattle.spur_heap.proofs.ClassValues.{leading_value}
use Rattle.spur_heap.proofs.Entered.{classes_at}
use Rattle.spur_heap.proofs.EntryFollowed.{entry_good}
use Rattle.spur_heap.proofs.FollowedWords.{settles}
use Rattle.spur_heap.proofs.Following.{own_value, leads}
use Rattle.spur_heap.proofs.Mourned.{fired_good, ends}
use Rattle.spur_heap.proofs.PageAt.{has}
use Rattle.spur_heap.proofs.Pages.{outer_ordinary}
use Rattle.spur_heap.proofs.Puts.{whole_sound}

same_name : {a b : ℕ} → Ref a ≡ Ref b → a ≡ b
same_name e = cc

some_value : {x y : Value} → Some x ≡ Some y → x ≡ y
some_value e = cc

module _ (v : View) (whole : IsWhole v) where
  abbrev h : Store
  h = store_of v

  abbrev g : Graph
  g = heap_graph v

  sound : AreSound v
  sound = whole_sound v whole

  -- ---- nil, false and true

  first_value : (k : ℕ) → k < 3 → heap_value v (word_of (first h k)) ≡ Ref (first h k)
  first_value k l = own_value v (first h k) (outer_ordinary v sound k l)

  first_root : (k : ℕ) → k < 3 → IsRoot g (first h k)
  first_root zero l = IsNil
  first_root (suc zero) l = IsFalse
  first_root (suc (suc zero)) l = IsTrue
  first_root (suc (suc (suc k))) l = absurd (omega (arith, l))

  -- ---- handles

  held_value : (handle : Handle) → get g.handles handle ≡ option_map (heap_value v) (get v.handles handle)
  held_value handle = get-handle_values (heap_value v) v.handles handle

  held_root : (handle : Handle) (word a : ℕ) → get v.handles handle ≡ Some word → heap_value v word ≡ Ref a → IsRoot g a
  held_root handle word a at value = HandleNames handle a (held_value handle ∙ ap (option_map (heap_value v)) at ∙ ap Some value)

  of_handle : (handle : Handle) (a : ℕ) → get g.handles handle ≡ Some (Ref a) → RootNames v a
  of_handle handle a at = of (get v.handles handle) refl (sym (held_value handle) ∙ at)
    where
      of : (o : Option ℕ) → get v.handles handle ≡ o → option_map (heap_value v) o ≡ Some (Ref a) → RootNames v a
      of None is value = absurd cc
      of (Some word) is value = Held handle word is (some_value value)

  -- ---- mourners

  mourner_value : (s : ℕ) → HasFired h s → heap_value v (word_of s) ≡ Ref (final h s)
  mourner_value s f =
      let place : word_of s / 8 ≡ s = omega arith in
      sym (leads v sound (word_of s) (fired_good v s f) (omega arith)).value ∙ ap (λ t. heap_value v (word_of (final h t))) place ∙ own_value v (final h s) f.ordinary

  mourner_root : (k a : ℕ) → k < length (waiting_in v.mourners) → heap_value v (8 * get_or (waiting_in v.mourners) k 0) ≡ Ref a → IsRoot g a
  mourner_root k a l value =
      let s : ℕ = get_or (waiting_in v.mourners) k 0 in
      let name : final h s ≡ a = same_name (sym (mourner_value s (whole.mourners.fired k 0 l)) ∙ value) in
      let long : length (waiting g) ≡ length (waiting_in v.mourners) = ap length (ends v) ∙ length-map (waiting_in v.mourners) (final h) in
      Mourns a (k, omega (arith, l, long), ap (λ ss. get_or ss k a) (ends v) ∙ get_or-map (final h) (waiting_in v.mourners) k 0 a l ∙ name)

  of_mourner : (a : ℕ) → Contains (waiting g) a → RootNames v a
  of_mourner a (k, l, is) =
      let long : length (waiting g) ≡ length (waiting_in v.mourners) = ap length (ends v) ∙ length-map (waiting_in v.mourners) (final h) in
      let low : k < length (waiting_in v.mourners) = omega (arith, l, long) in
      let name : final h (get_or (waiting_in v.mourners) k 0) ≡ a = sym (ap (λ ss. get_or ss k a) (ends v) ∙ get_or-map (final h) (waiting_in v.mourners) k 0 a low) ∙ is in
      Mourner k low (mourner_value (get_or (waiting_in v.mourners) k 0) (whole.mourners.fired k 0 low) ∙ ap (λ b. Ref b) name)

  -- ---- the class table

  class_found : (index : ℕ) → has_page h index ≡ true → (word : ℕ) → class_word v index word → word ≡ settled_word h (entry h index)
  class_found index on word is = is ∙ ap (λ b. cond b (settled_word h (entry h index)) (word_of (first h 0))) on

  entry_root : (index word a : ℕ) → index < class_limit → HasPage v index → class_word v index word → heap_value v word ≡ Ref a → IsRoot g a
  entry_root index word a low paged is value =
      let on = has v sound index low paged in
      let good = entry_good v sound index low paged in
      let s = settles v sound (entry h index) word good (class_found index on word is) in
      let named : heap_value v (entry h index) ≡ Ref a = sym s.value ∙ value in
      elim (cases_Bool (is_at (first h 0) (lead h (entry h index)))) [
        | inl nil ↦ subst (IsRoot g) (same_name (sym (leading_value v whole index low (first h 0) on (at-named (first h 0) (lead h (entry h index)) nil)) ∙ named)) IsNil
        | inr other ↦ EntryNames index a (classes_at h index ∙ ap (λ b. cond b (Some (read own_name h (entry h index))) None) (λ x. on x && not (other x)) ∙ ap Some named)
      ]

  of_entry : (index a : ℕ) → get g.classes index ≡ Some (Ref a) → RootNames v a
  of_entry index a at = elim (cases_Bool (has_class h index)) [
    | inr off ↦ absurd (let none : None ≡ Some (Ref a) = sym (ap (λ b. cond b (Some (read own_name h (entry h index))) None) off) ∙ sym (classes_at h index) ∙ at in let f : ⊥ = cc in f)
    | inl on ↦
        let page : has_page h index ≡ true = (and_parts (has_page h index) (not (is_at (first h 0) (lead h (entry h index)))) on).0 in
        let parts = and_parts (ltb index class_limit) (not (is_nil_slot h (index / page_entries))) page in
        let low : index < class_limit = ltb-true index class_limit parts.0 in
        let paged : HasPage v index = page_listed v sound index (index / page_entries) (place_below index low) ∙ parts.1 in
        let good = entry_good v sound index low paged in
        let word : ℕ = settled_word h (entry h index) in
        let s = settles v sound (entry h index) word good refl in
        let named : heap_value v (entry h index) ≡ Ref a = some_value (sym (ap (λ b. cond b (Some (read own_name h (entry h index))) None) on) ∙ sym (classes_at h index) ∙ at) in
        Entry index word low paged (sym (ap (λ b. cond b (settled_word h (entry h index)) (word_of (first h 0))) page)) (s.value ∙ named)
  ]

  -- ---- all of them

  pub root_named : (a : ℕ) → IsRoot g a → RootNames v a
  root_named _ (HandleNames handle a at) = of_handle handle a at
  root_named _ (Mourns a waits) = of_mourner a waits
  root_named _ (SpecialNames a value) = Special value
  root_named _ (EntryNames index a at) = of_entry index a at
  root_named _ IsNil = First 0 (omega arith) (first_value 0 (omega arith))
  root_named _ IsFalse = First 1 (omega arith) (first_value 1 (omega arith))
  root_named _ IsTrue = First 2 (omega arith) (first_value 2 (omega arith))

  pub named_root : (a : ℕ) → RootNames v a → IsRoot g a
  named_root a (First k l value) = subst (IsRoot g) (same_name (sym (first_value k l) ∙ value)) (first_root k l)
  named_root a (Special value) = SpecialNames a value
  named_root a (Held handle word at value) = held_root handle word a at value
  named_root a (Mourner k l value) = mourner_root k a l value
  named_root a (Entry index word low paged is value) = entry_root index word a low paged is value
