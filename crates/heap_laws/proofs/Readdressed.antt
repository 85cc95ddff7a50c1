-- Compaction: what lives stands at its new place, and references are under the new places.
use Rattle.std.proofs.Common.{◌≡◌, ℕ, suc, zero, Bool, true, false, cond, ◌&&◌, ◌*◌, ◌/◌, ◌%◌, ◌<◌, ◌≤◌, drop, length, get_or, refl, sym, ap, ◌∙◌, subst, arith, inl, inr, Some, None}
use Rattle.std.proofs.lemmas.Bool.{cases_Bool, eq-eqb, ne_eqb, and_parts, and_left, and_right, not_from_true}
use Rattle.std.specs.Option.{option_map}
use Rattle.spur_graph.specs.Chains.{hop, follow}
use Rattle.spur_graph.specs.Value.{is_immediate_word}
use Rattle.spur_graph.specs.Cells.{Moved, Store, is_there, is_start, is_moved, target_of, first, final, lead, pointer_count}
use Rattle.spur_graph.specs.Ordinary.{body_at, root_slot, page_places, roots_slots, is_ordinary, is_good_reference, is_bad_forwarder}
use Rattle.spur_graph.specs.Heaps.{heap_to}
use Rattle.heap_cells.proofs.Below.{passed, mapped_there}
use Rattle.heap_cells.proofs.Bodies.{pointers_fit, all_pointers}
use Rattle.heap_cells.proofs.CellKinds.{there_starts, moved_starts, moved_is, there_is_not_moved, unmoved_is_there}
use Rattle.heap_cells.proofs.Chains.{moves, forwards, final-end, good_forwarder_ends}
use Rattle.heap_cells.proofs.Fronts.{front-in, drop-front}
use Rattle.heap_cells.proofs.Internals.{place_there}
use Rattle.heap_cells.proofs.References.{immediate_tag}
use Rattle.heap_cells.proofs.WholeClosed.{sound_loadable}
use Rattle.heap_laws.specs.Placed.{goal, IsPlacedWord, IsPlacedObject, CanPlace}
use Rattle.heap_laws.specs.Instances.{renamed_by, live_objects, IsReaddressed}
use Rattle.heap_cells.proofs.Enough.{enough}
use Rattle.heap_cells.proofs.WholeClosed.{heap_aligned}
use Rattle.heap_laws.proofs.Words.{goal-good}
use Rattle.heap_laws.proofs.Slots.{slot-good}

-- what a reference of a heap names
pub heap_names : (w s : ℕ) → heap_to w ≡ Some s → s ≡ w / 8
heap_names w s e =
    let z = heap_aligned w s e in
    let is : heap_to w ≡ Some (w / 8) = ap (λ b. cond b (Some (w / 8)) None) (eq-eqb (w % 8) 0 z) in
    cc

module _ {p address : ℕ → ℕ} {live : ℕ → Bool} {old new : Store} (k : IsReaddressed p address live old new) where
  abbrev renamed : ℕ → ℕ
  renamed = renamed_by (λ t. address (p t))

  -- ---- what stands at a place

  object_lives : (s : ℕ) → live s ≡ true → is_moved (old.cell s) ≡ false → is_there (old.cell s) ≡ true
  object_lives s e off = unmoved_is_there (old.cell s) off ∙ k.starts s e

  forwarder_lives : (s : ℕ) → live s ≡ true → is_moved (old.cell s) ≡ true → (live (target_of (old.cell s)) ≡ true) × (new.cell (p s) ≡ Moved (p (target_of (old.cell s))))
  forwarder_lives s e on = k.forwarders s (target_of (old.cell s)) e (moved_is (old.cell s) on)

  moved-same : (s : ℕ) → live s ≡ true → is_moved (new.cell (p s)) ≡ is_moved (old.cell s)
  moved-same s e = elim (cases_Bool (is_moved (old.cell s))) [
    | inl on ↦ ap is_moved (forwarder_lives s e on).1 ∙ sym on
    | inr off ↦ there_is_not_moved (new.cell (p s)) (k.objects s e (object_lives s e off)).there ∙ sym off
  ]

  start-new : (s : ℕ) → live s ≡ true → is_start (new.cell (p s)) ≡ true
  start-new s e = elim (cases_Bool (is_moved (old.cell s))) [
    | inl on ↦ ap is_start (forwarder_lives s e on).1
    | inr off ↦ there_starts (new.cell (p s)) (k.objects s e (object_lives s e off)).there
  ]

  -- ---- chains

  hop-placed : (s : ℕ) → live s ≡ true → (hop (moves new) (forwards new) (p s) ≡ p (hop (moves old) (forwards old) s)) × (live (hop (moves old) (forwards old) s) ≡ true)
  hop-placed s e = elim (cases_Bool (moves old s)) [
    | inl on ↦ let f = forwarder_lives s e on in let is : hop (moves old) (forwards old) s ≡ forwards old s = ap (λ b. cond b (forwards old s) s) on in (ap (λ c. cond (is_moved c) (target_of c) (p s)) f.1 ∙ ap p (sym is), ap live is ∙ f.0)
    | inr off ↦ let is : hop (moves old) (forwards old) s ≡ s = ap (λ b. cond b (forwards old s) s) off in (ap (λ b. cond b (forwards new (p s)) (p s)) (moved-same s e ∙ off) ∙ ap p (sym is), ap live is ∙ e)
  ]

  follow-placed : (n s : ℕ) → live s ≡ true → (follow (moves new) (forwards new) n (p s) ≡ p (follow (moves old) (forwards old) n s)) × (live (follow (moves old) (forwards old) n s) ≡ true)
  unfolding follow
  follow-placed zero s e = (refl, e)
  follow-placed (suc n) s e =
      let h = hop-placed s e in
      let r = follow-placed n (hop (moves old) (forwards old) s) h.1 in
      (ap (follow (moves new) (forwards new) n) h.0 ∙ r.0, r.1)

  old_ends : (s : ℕ) → is_moved (old.cell (final old s)) ≡ false
  old_ends s = elim (cases_Bool (is_moved (old.cell s))) [
    | inl on ↦ there_is_not_moved (old.cell (final old s)) (good_forwarder_ends old s (k.before.sound.ends s) on)
    | inr off ↦ ap (λ t. is_moved (old.cell t)) (final-end old s off) ∙ off
  ]

  -- a place leads to the place of the end
  pub final-placed : (s : ℕ) → live s ≡ true → (final new (p s) ≡ p (final old s)) × (live (final old s) ≡ true)
  unfolding final
  final-placed s e =
      let r = follow-placed old.names s e in
      let end : moves new (follow (moves new) (forwards new) old.names (p s)) ≡ false = ap (moves new) r.0 ∙ moved-same (follow (moves old) (forwards old) old.names s) r.1 ∙ old_ends s in
      ((enough (moves new) (forwards new) new.names old.names (p s) (λ t on. k.below t (moved_starts (new.cell t) on)) end).1 ∙ r.0, r.1)

  -- ---- words

  renamed-named : (w : ℕ) → w % 8 ≡ 0 → renamed w ≡ address (p (w / 8))
  renamed-named w z = ap (λ b. cond b (address (p (w / 8))) w) (eq-eqb (w % 8) 0 z)

  named-new : (w : ℕ) → w % 8 ≡ 0 → live (w / 8) ≡ true → new.to (renamed w) ≡ Some (p (w / 8))
  named-new w z e = ap new.to (renamed-named w z) ∙ k.to_new (p (w / 8)) (start-new (w / 8) e)

  -- a good word under the new places leads to the place
  pub word-readdressed : (w : ℕ) → (is_immediate_word w ≡ false → is_good_reference old w ≡ true) → (w % 8 ≡ 0 → live (w / 8) ≡ true) → IsPlacedWord p (live_objects live old) old new w (renamed w)
  word-readdressed w good on = record {
    same = λ e. ap (λ b. cond b (address (p (w / 8))) w) (ne_eqb (w % 8) 0 (immediate_tag w e));
    leads = λ off. let r = here off in ap (option_map (final new)) (named-new w r.0 (on r.0)) ∙ ap (λ s. Some s) ((final-placed (w / 8) (on r.0)).0 ∙ ap p (sym r.1));
    kept = λ off. let r = here off in let e = (final-placed (w / 8) (on r.0)).1 in let there = object_lives (final old (w / 8)) e (old_ends (w / 8)) in ap (live_objects live old) r.1 ∙ (λ x. e x && there x);
  }
    where
      here : is_immediate_word w ≡ false → (w % 8 ≡ 0) × (goal old w ≡ final old (w / 8))
      here off =
          let r = passed (is_ordinary old) (lead old w) (good off) in
          let o = mapped_there (final old) (old.to w) r.one r.is in
          let to : heap_to w ≡ Some o.0 = sym (k.to_old w) ∙ o.1 in
          let is : o.0 ≡ w / 8 = heap_names w o.0 to in
          let end : lead old w ≡ Some (final old (w / 8)) = ap (option_map (final old)) o.1 ∙ ap (λ s. Some (final old s)) is in
          (heap_aligned w o.0 to, goal-good old w (final old (w / 8)) (good off) end)

  object : (s : ℕ) → live_objects live old s ≡ true → IsPlacedObject p (live_objects live old) old new s
  object s both =
      let parts = and_parts (live s) (is_there (old.cell s)) both in
      let o = k.objects s parts.0 parts.1 in
      record {
        there = o.there;
        head = o.head;
        long = o.long;
        slots = λ three four i l.
            let fits : pointer_count (body_at old s) ≤ length (body_at old s).words = pointers_fit (body_at old s) (k.before.sound.formed s parts.1) in
            let is : get_or (body_at new (p s)).words i 0 ≡ renamed (get_or (body_at old s).words i 0) =
            ap (λ ws. get_or ws i 0) (o.words three) ∙ front-in renamed (pointer_count (body_at old s)) i (body_at old s).words l (omega (arith, l, fits)) in
            subst (IsPlacedWord p (live_objects live old) old new (get_or (body_at old s).words i 0)) (sym is)
            (word-readdressed (get_or (body_at old s).words i 0) (slot-good old k.before.sound s i parts.1 three four l) (k.refs s i parts.0 parts.1 three l));
        units = λ three four. ap (drop (pointer_count (body_at old s))) (o.words three) ∙ drop-front renamed (pointer_count (body_at old s)) (body_at old s).words;
      }

  -- ---- roots and forwarders

  first-object : (j : ℕ) → j < 5 → live_objects live old (first old j) ≡ true
  first-object j l = λ x. (k.firsts j l).0 x && k.before.sound.roots.objects j l x

  roots-count : pointer_count (body_at old (first old 4)) ≡ roots_slots
  roots-count = let two : (body_at old (first old 4)).format ≡ 2 = k.before.sound.roots.roots.0 in all_pointers (body_at old (first old 4)) (omega (arith, two)) ∙ k.before.sound.roots.roots.1

  root-at : (i : ℕ) → i < roots_slots → root_slot new i ≡ renamed (root_slot old i)
  root-at i l =
      let f = k.firsts 4 (omega arith) in
      let long : length (body_at old (first old 4)).words ≡ roots_slots = k.before.sound.roots.roots.1 in
      ap (λ s. get_or (body_at new s).words i 0) f.1 ∙ ap (λ ws. get_or ws i 0) ((k.objects (first old 4) f.0 (k.before.sound.roots.objects 4 (omega arith))).words k.apart)
      ∙ front-in renamed (pointer_count (body_at old (first old 4))) i (body_at old (first old 4)).words (omega (arith, roots-count, l)) (omega (arith, long, l))

  root-live : (i : ℕ) → i < roots_slots → root_slot old i % 8 ≡ 0 → live (root_slot old i / 8) ≡ true
  root-live i l z = k.refs (first old 4) i (k.firsts 4 (omega arith)).0 (k.before.sound.roots.objects 4 (omega arith)) k.apart (omega (arith, roots-count, l)) z

  page : (i s : ℕ) → i < page_places → old.to (root_slot old i) ≡ Some s → (live_objects live old s ≡ true) × (new.to (root_slot new i) ≡ Some (p s))
  page i s l e =
      let n : i < roots_slots = omega (arith, l) in
      let to : heap_to (root_slot old i) ≡ Some s = sym (k.to_old (root_slot old i)) ∙ e in
      let z = heap_aligned (root_slot old i) s to in
      let is = heap_names (root_slot old i) s to in
      let on = root-live i n z in
      let lives : live s ≡ true = ap live is ∙ on in
      (λ x. lives x && place_there (sound_loadable old k.before.sound) i s l e x, ap new.to (root-at i n) ∙ named-new (root_slot old i) z on ∙ ap (λ t. Some (p t)) (sym is))

  back : (t : ℕ) → is_there (new.cell t) ≡ true → (s : ℕ) × (live_objects live old s ≡ true) × (p s ≡ t)
  back t e =
      let b = k.back t (there_starts (new.cell t) e) in
      let off : is_moved (old.cell b.0) ≡ false = sym (moved-same b.0 b.1) ∙ ap (λ u. is_moved (new.cell u)) b.2 ∙ there_is_not_moved (new.cell t) e in
      (b.0, λ x. b.1 x && object_lives b.0 b.1 off x, b.2)

  targets : (s t : ℕ) → new.cell s ≡ Moved t → is_start (new.cell t) ≡ true
  targets s t e =
      let b = k.back s (ap is_start e) in
      let on : is_moved (old.cell b.0) ≡ true = sym (moved-same b.0 b.1) ∙ ap (λ u. is_moved (new.cell u)) b.2 ∙ ap is_moved e in
      let f = forwarder_lives b.0 b.1 on in
      let same : Moved (p (target_of (old.cell b.0))) ≡ Moved t = sym f.1 ∙ ap new.cell b.2 ∙ e in
      let is : p (target_of (old.cell b.0)) ≡ t = cc in
      ap (λ u. is_start (new.cell u)) (sym is) ∙ start-new (target_of (old.cell b.0)) f.0

  ends : (s : ℕ) → is_bad_forwarder new s ≡ false
  ends s = elim (cases_Bool (is_moved (new.cell s))) [
    | inr off ↦ and_left _ _ off
    | inl on ↦
        let b = k.back s (moved_starts (new.cell s) on) in
        let f = final-placed b.0 b.1 in
        let end : final new s ≡ p (final old b.0) = ap (final new) (sym b.2) ∙ f.0 in
        let there : is_there (new.cell (final new s)) ≡ true = ap (λ t. is_there (new.cell t)) end ∙ (k.objects (final old b.0) f.1 (object_lives (final old b.0) f.1 (old_ends b.0))).there in
        and_right _ _ (not_from_true _ there)
  ]

  pub readdressed_placed : CanPlace p (live_objects live old) old new
  readdressed_placed = record {
    reads = k.before.reads;
    loadable = sound_loadable old k.before.sound;
    outer = k.before.sound.roots.outer;
    reads_new = k.reads;
    placed = record {
      some = λ s e. (and_parts (live s) (is_there (old.cell s)) e).1;
      objects = object;
      back = back;
      once = λ s t e f is. k.once s t (and_parts (live s) (is_there (old.cell s)) e).0 (and_parts (live t) (is_there (old.cell t)) f).0 is;
      five = k.five;
      firsts = λ j l. (first-object j l, (k.firsts j l).1);
      pages = page;
      targets = targets;
      ends = ends;
    };
  }

  -- in a heap the slots of the hidden roots behind the pages are nil
  pub readdressed_tops : ((t : ℕ) → address t ≡ 8 * t) → (i : ℕ) → page_places ≤ i → i < roots_slots → root_slot new i ≡ 8 * first new 0
  readdressed_tops word i l n =
      let nil : root_slot old i ≡ 8 * first old 0 = k.before.sound.roots.tops i l n in
      let z : root_slot old i % 8 ≡ 0 = omega (arith, nil) in
      let quot : root_slot old i / 8 ≡ first old 0 = omega (arith, nil) in
      let f = k.firsts 0 (omega arith) in
      root-at i n ∙ renamed-named (root_slot old i) z ∙ ap (λ s. address (p s)) quot ∙ word (p (first old 0)) ∙ ap (λ s. 8 * s) (sym f.1)
