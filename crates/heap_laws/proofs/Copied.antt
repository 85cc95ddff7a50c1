-- A copy with its forwarder: one object stands elsewhere, and every word leads to it as before.
use Rattle.std.proofs.Common.{◌≡◌, ◌≢◌, ℕ, suc, zero, true, false, cond, not, ◌&&◌, ◌||◌, ◌*◌, ◌<◌, ◌≤◌, eqb, drop, length, get_or, refl, sym, ap, ◌∙◌, subst, arith, inl, inr, Some}
use Rattle.std.proofs.lemmas.Bool.{false≢true, cases_Bool, cases_eq, eq-eqb, ne_eqb, and_parts, and_left, and_right, not_from_true, not-true, or_right}
use Rattle.std.specs.Option.{option_map}
use Rattle.spur_graph.specs.Chains.{hop, follow}
use Rattle.spur_graph.specs.Value.{is_immediate_word}
use Rattle.spur_graph.specs.Cells.{Moved, Store, is_there, is_start, is_moved, target_of, body_of, first, final, lead, pointer_count, any_below}
use Rattle.spur_graph.specs.Ordinary.{body_at, root_slot, page_places, roots_slots, passes, tells, is_internal, is_ordinary, is_good_reference, is_bad_forwarder}
use Rattle.heap_cells.proofs.Below.{passed, mapped_there, any_below-has}
use Rattle.heap_cells.proofs.Bodies.{with_words}
use Rattle.heap_cells.proofs.CellKinds.{there_starts, there_is_not_moved, moved_starts}
use Rattle.heap_cells.proofs.Chains.{moves, forwards, follow-end, final-there, good_forwarder_ends}
use Rattle.heap_cells.proofs.Internals.{place_there, not_first}
use Rattle.heap_cells.proofs.References.{ordinary_there}
use Rattle.heap_cells.proofs.WholeClosed.{sound_loadable}
use Rattle.heap_laws.specs.Placed.{IsPlacedWord, IsPlacedObject, CanPlace}
use Rattle.heap_laws.specs.Instances.{IsCopied, all_objects, moved_to}
use Rattle.heap_cells.proofs.Enough.{enough}
use Rattle.heap_laws.proofs.Words.{goal-good}
use Rattle.heap_laws.proofs.Slots.{slot-good}

module _ {a c : ℕ} {old new : Store} (k : IsCopied a c old new) where
  from_there : is_there (old.cell a) ≡ true
  from_there = ordinary_there old a k.ordinary

  apart : c ≢ a
  apart e = false≢true (sym (ap is_there k.free) ∙ ap (λ t. is_there (old.cell t)) e ∙ from_there)

  pub start_apart : (t : ℕ) → is_start (old.cell t) ≡ true → t ≢ c
  start_apart t on e = false≢true (sym (ap (λ u. is_start (old.cell u)) e ∙ ap is_start k.free) ∙ on)

  at_to : new.cell c ≡ old.cell a
  at_to = k.cells c ∙ ap (λ b. cond b (old.cell a) (cond (eqb c a) (Moved c) (old.cell c))) (eq-eqb c c refl)

  at_from : new.cell a ≡ Moved c
  at_from = k.cells a ∙ ap (λ b. cond b (old.cell a) (cond (eqb a a) (Moved c) (old.cell a))) (ne_eqb a c (λ e. apart (sym e))) ∙ ap (λ b. cond b (Moved c) (old.cell a)) (eq-eqb a a refl)

  other : (t : ℕ) → t ≢ c → t ≢ a → new.cell t ≡ old.cell t
  other t n m = k.cells t ∙ ap (λ b. cond b (old.cell a) (cond (eqb t a) (Moved c) (old.cell t))) (ne_eqb t c n) ∙ ap (λ b. cond b (Moved c) (old.cell t)) (ne_eqb t a m)

  to_place : moved_to a c a ≡ c
  to_place = ap (λ b. cond b c a) (eq-eqb a a refl)

  stays : (s : ℕ) → s ≢ a → moved_to a c s ≡ s
  stays s n = ap (λ b. cond b c s) (ne_eqb s a n)

  -- an object stands at its place
  cell-placed : (s : ℕ) → is_start (old.cell s) ≡ true → new.cell (moved_to a c s) ≡ old.cell s
  cell-placed s e = elim (cases_eq s a) [
    | inl same ↦ ap (λ t. new.cell (moved_to a c t)) same ∙ ap new.cell to_place ∙ at_to ∙ ap old.cell (sym same)
    | inr n ↦ ap new.cell (stays s n) ∙ other s (start_apart s e) n
  ]

  -- ---- chains

  from_ends : moves old a ≡ false
  from_ends = there_is_not_moved (old.cell a) from_there

  to_ends : moves new c ≡ false
  to_ends = ap is_moved at_to ∙ from_ends

  moves-other : (t : ℕ) → t ≢ a → moves new t ≡ moves old t
  moves-other t n = elim (cases_eq t c) [
    | inl e ↦ ap (moves new) e ∙ to_ends ∙ sym (ap is_moved k.free) ∙ sym (ap (moves old) e)
    | inr o ↦ ap is_moved (other t o n)
  ]

  hop-from : hop (moves new) (forwards new) a ≡ c
  hop-from = ap (λ d. cond (is_moved d) (target_of d) a) at_from

  hop-other : (t : ℕ) → t ≢ a → hop (moves new) (forwards new) t ≡ hop (moves old) (forwards old) t
  hop-other t n = elim (cases_Bool (moves old t)) [
    | inl on ↦ ap (λ d. cond (is_moved d) (target_of d) t) (other t (start_apart t (moved_starts (old.cell t) on)) n)
    | inr off ↦ ap (λ b. cond b (forwards new t) t) (moves-other t n ∙ off) ∙ sym (ap (λ b. cond b (forwards old t) t) off)
  ]

  -- one step more leads to the place of the end
  follow-copied : (n s : ℕ) → moves old (follow (moves old) (forwards old) n s) ≡ false → follow (moves new) (forwards new) (suc n) s ≡ moved_to a c (follow (moves old) (forwards old) n s)
  unfolding follow
  follow-copied zero s e = elim (cases_eq s a) [
    | inl same ↦ ap (hop (moves new) (forwards new)) same ∙ hop-from ∙ sym to_place ∙ ap (moved_to a c) (sym same)
    | inr n ↦ hop-other s n ∙ ap (λ b. cond b (forwards old s) s) e ∙ sym (stays s n)
  ]
  follow-copied (suc n) s e = elim (cases_eq s a) [
    | inl same ↦
        let old_end : follow (moves old) (forwards old) (suc n) s ≡ a = ap (follow (moves old) (forwards old) (suc n)) same ∙ follow-end (moves old) (forwards old) (suc n) a from_ends in
        ap (follow (moves new) (forwards new) (suc n)) (ap (hop (moves new) (forwards new)) same ∙ hop-from) ∙ follow-end (moves new) (forwards new) (suc n) c to_ends ∙ sym to_place ∙ ap (moved_to a c) (sym old_end)
    | inr o ↦ ap (follow (moves new) (forwards new) (suc n)) (hop-other s o) ∙ follow-copied n (hop (moves old) (forwards old) s) e
  ]

  moves_within : (t : ℕ) → moves new t ≡ true → t < old.names
  moves_within t on = elim (cases_eq t a) [
    | inl e ↦ let l = k.below a (there_starts (old.cell a) from_there) in omega (arith, e, l)
    | inr n ↦ k.below t (moved_starts (old.cell t) (sym (moves-other t n) ∙ on))
  ]

  place_ends : (e : ℕ) → moves old e ≡ false → moves new (moved_to a c e) ≡ false
  place_ends e off = elim (cases_eq e a) [
    | inl same ↦ ap (λ t. moves new (moved_to a c t)) same ∙ ap (moves new) to_place ∙ to_ends
    | inr n ↦ ap (moves new) (stays e n) ∙ moves-other e n ∙ off
  ]

  pub final-copied : (s : ℕ) → is_moved (old.cell (final old s)) ≡ false → final new s ≡ moved_to a c (final old s)
  unfolding final
  final-copied s off =
      let more = follow-copied old.names s off in
      let end : moves new (follow (moves new) (forwards new) (suc old.names) s) ≡ false = ap (moves new) more ∙ place_ends (follow (moves old) (forwards old) old.names s) off in
      ap (λ n. follow (moves new) (forwards new) n s) k.names ∙ (enough (moves new) (forwards new) old.names (suc old.names) s moves_within end).1 ∙ more

  -- ---- words, unchanged

  pub word-copied : (w : ℕ) → (is_immediate_word w ≡ false → is_good_reference old w ≡ true) → IsPlacedWord (moved_to a c) (all_objects old) old new w w
  word-copied w good = record {
    same = λ e. refl;
    leads = λ off.
        let r = passed (is_ordinary old) (lead old w) (good off) in
        let o = mapped_there (final old) (old.to w) r.one r.is in
        let end : final old o.0 ≡ r.one = let e : lead old w ≡ Some (final old o.0) = ap (option_map (final old)) o.1 in let h = r.is in cc in
        let there : is_there (old.cell (final old o.0)) ≡ true = ap (λ t. is_there (old.cell t)) end ∙ ordinary_there old r.one r.holds in
        ap (option_map (final new)) (k.same w ∙ o.1) ∙ ap (λ s. Some s) (final-copied o.0 (there_is_not_moved _ there)) ∙ ap (λ s. Some (moved_to a c s)) (end ∙ sym (goal-good old w r.one (good off) r.is));
    kept = λ off. let r = passed (is_ordinary old) (lead old w) (good off) in ap (all_objects old) (goal-good old w r.one (good off) r.is) ∙ ordinary_there old r.one r.holds;
  }

  object : (s : ℕ) → is_there (old.cell s) ≡ true → IsPlacedObject (moved_to a c) (all_objects old) old new s
  object s e =
      let is : new.cell (moved_to a c s) ≡ old.cell s = cell-placed s (there_starts (old.cell s) e) in
      record {
        there = ap is_there is ∙ e;
        head = ap body_of is ∙ ap (λ d. with_words (body_at old s) (body_of d).words) (sym is);
        long = ap (λ d. length (body_of d).words) is;
        slots = λ three four i l. subst (λ d. IsPlacedWord (moved_to a c) (all_objects old) old new (get_or (body_at old s).words i 0) (get_or (body_of d).words i 0)) (sym is)
            (word-copied (get_or (body_at old s).words i 0) (slot-good old k.before.sound s i e three four l));
        units = λ three four. ap (λ d. drop (pointer_count (body_at old s)) (body_of d).words) is;
      }

  back : (t : ℕ) → is_there (new.cell t) ≡ true → (s : ℕ) × (all_objects old s ≡ true) × (moved_to a c s ≡ t)
  back t e = elim (cases_eq t c) [
    | inl same ↦ (a, from_there, to_place ∙ sym same)
    | inr n ↦ elim (cases_eq t a) [
      | inl same ↦ absurd (false≢true (sym (ap is_there at_from) ∙ sym (ap (λ u. is_there (new.cell u)) same) ∙ e))
      | inr o ↦ (t, ap is_there (sym (other t n o)) ∙ e, stays t o)
    ]
  ]

  once : (s t : ℕ) → is_there (old.cell s) ≡ true → is_there (old.cell t) ≡ true → moved_to a c s ≡ moved_to a c t → s ≡ t
  once s t e f is = elim (cases_eq s a) [
    | inl same ↦ elim (cases_eq t a) [
      | inl too ↦ same ∙ sym too
      | inr n ↦ absurd (start_apart t (there_starts (old.cell t) f) (sym (sym to_place ∙ ap (moved_to a c) (sym same) ∙ is ∙ stays t n)))
    ]
    | inr m ↦ elim (cases_eq t a) [
      | inl too ↦ absurd (start_apart s (there_starts (old.cell s) e) (sym (stays s m) ∙ is ∙ ap (moved_to a c) too ∙ to_place))
      | inr n ↦ sym (stays s m) ∙ is ∙ stays t n
    ]
  ]

  first-stays : (j : ℕ) → j < 5 → moved_to a c (first old j) ≡ first old j
  first-stays j l = stays (first old j) (λ e. not_first old a j l k.later (sym e))

  root-same : (i : ℕ) → root_slot new i ≡ root_slot old i
  root-same i =
      ap (λ s. get_or (body_at new s).words i 0) (k.firsts 4 (omega arith) ∙ sym (first-stays 4 (omega arith)))
      ∙ ap (λ d. get_or (body_of d).words i 0) (cell-placed (first old 4) (there_starts (old.cell (first old 4)) (k.before.sound.roots.objects 4 (omega arith))))

  not_told : (i s : ℕ) → i < page_places → old.to (root_slot old i) ≡ Some s → s ≢ a
  unfolding is_internal
  not_told i s l e same =
      let nil : eqb a (first old 0) ≡ false = ne_eqb a (first old 0) (not_first old a 0 (omega arith) k.later) in
      let told : tells old i a ≡ true = ap (passes (λ t. eqb t a)) e ∙ eq-eqb s a same in
      let some : any_below (λ j. tells old j a) page_places ≡ true = any_below-has (λ j. tells old j a) page_places i l told in
      let last : (not (eqb a (first old 0)) && any_below (λ j. tells old j a) page_places) ≡ true = λ x. not (nil x) && some x in
      let on : is_internal old a ≡ true = or_right (eqb a (first old 3) || eqb a (first old 4)) (not (eqb a (first old 0)) && any_below (λ j. tells old j a) page_places) last in
      let off : is_internal old a ≡ false = not-true _ (and_parts (is_there (old.cell a)) (not (is_internal old a)) k.ordinary).1 in
      false≢true (sym off ∙ on)

  start-kept : (t : ℕ) → is_start (old.cell t) ≡ true → is_start (new.cell t) ≡ true
  start-kept t e = elim (cases_eq t a) [
    | inl same ↦ ap (λ u. is_start (new.cell u)) same ∙ ap is_start at_from
    | inr n ↦ ap is_start (other t (start_apart t e) n) ∙ e
  ]

  targets : (s t : ℕ) → new.cell s ≡ Moved t → is_start (new.cell t) ≡ true
  targets s t e = elim (cases_eq s a) [
    | inl same ↦ let f : Moved c ≡ Moved t = sym at_from ∙ ap new.cell (sym same) ∙ e in let is : c ≡ t = cc in ap (λ u. is_start (new.cell u)) (sym is) ∙ ap is_start at_to ∙ there_starts (old.cell a) from_there
    | inr n ↦ elim (cases_eq s c) [
      | inl same ↦ absurd (false≢true (sym to_ends ∙ ap (moves new) (sym same) ∙ ap is_moved e))
      | inr o ↦ start-kept t (k.before.sound.targets s t (sym (other s o n) ∙ e))
    ]
  ]

  ends : (s : ℕ) → is_bad_forwarder new s ≡ false
  ends s = elim (cases_Bool (is_moved (new.cell s))) [
    | inr off ↦ and_left _ _ off
    | inl on ↦ and_right _ _ (not_from_true _ (leads (elim (cases_eq s a) [
      | inl same ↦ ap (λ t. is_there (old.cell (final old t))) same ∙ ap (λ t. is_there (old.cell t)) (final-there old a from_there) ∙ from_there
      | inr n ↦ good_forwarder_ends old s (k.before.sound.ends s) (sym (moves-other s n) ∙ on)
    ])))
  ]
    where
      leads : is_there (old.cell (final old s)) ≡ true → is_there (new.cell (final new s)) ≡ true
      leads there =
          ap (λ t. is_there (new.cell t)) (final-copied s (there_is_not_moved _ there)) ∙ ap is_there (cell-placed (final old s) (there_starts _ there)) ∙ there

  pub copied_placed : CanPlace (moved_to a c) (all_objects old) old new
  copied_placed = record {
    reads = k.before.reads;
    loadable = sound_loadable old k.before.sound;
    outer = k.before.sound.roots.outer;
    reads_new = k.reads;
    placed = record {
      some = λ s e. e;
      objects = object;
      back = back;
      once = once;
      five = k.five;
      firsts = λ j l. (k.before.sound.roots.objects j l, k.firsts j l ∙ sym (first-stays j l));
      pages = λ i s l e. (place_there (sound_loadable old k.before.sound) i s l e, ap new.to (root-same i) ∙ k.same (root_slot old i) ∙ e ∙ ap (λ t. Some t) (sym (stays s (not_told i s l e))));
      targets = targets;
      ends = ends;
    };
  }

  -- the slots of the hidden roots behind the pages are nil as before
  pub copied_tops : (i : ℕ) → page_places ≤ i → i < roots_slots → root_slot new i ≡ 8 * first new 0
  copied_tops i l m = root-same i ∙ k.before.sound.roots.tops i l m ∙ ap (λ s. 8 * s) (sym (k.firsts 0 (omega arith)))
