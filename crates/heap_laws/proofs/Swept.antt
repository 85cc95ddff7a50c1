-- Sweeping: what does not live goes, and nothing moves.
use Rattle.std.proofs.Common.{◌≡◌, ℕ, suc, zero, Bool, true, false, cond, ◌&&◌, ◌*◌, ◌<◌, ◌≤◌, drop, length, get_or, refl, sym, ap, ◌∙◌, subst, arith, inl, inr, Some}
use Rattle.std.proofs.lemmas.Bool.{false≢true, cases_Bool, and_parts, and_left, and_right, not_from_true}
use Rattle.std.specs.Option.{option_map}
use Rattle.spur_graph.specs.Chains.{hop, follow}
use Rattle.spur_graph.specs.Value.{is_immediate_word}
use Rattle.spur_graph.specs.Cells.{Cell, Empty, Moved, Store, is_there, is_start, is_moved, target_of, body_of, first, final, lead, pointer_count}
use Rattle.spur_graph.specs.Ordinary.{body_at, root_slot, page_places, roots_slots, is_ordinary, is_good_reference, is_bad_forwarder}
use Rattle.heap_cells.proofs.Below.{passed, mapped_there}
use Rattle.heap_cells.proofs.Bodies.{with_words}
use Rattle.heap_cells.proofs.CellKinds.{moved_is}
use Rattle.heap_cells.proofs.Chains.{moves, forwards, good_forwarder_ends}
use Rattle.heap_cells.proofs.Internals.{place_there}
use Rattle.heap_cells.proofs.References.{ordinary_there}
use Rattle.heap_cells.proofs.WholeClosed.{sound_loadable}
use Rattle.heap_laws.specs.Placed.{IsPlacedWord, IsPlacedObject, CanPlace}
use Rattle.heap_laws.specs.Instances.{IsSwept, live_objects, same_place}
use Rattle.heap_laws.proofs.Words.{goal-good}
use Rattle.heap_laws.proofs.Slots.{slot-good}

there_lives : (b : Bool) (c : Cell) → is_there (cond b c Empty) ≡ true → (b ≡ true) × (is_there c ≡ true)
there_lives true c e = (refl, e)
there_lives false c e = absurd (false≢true e)

moved_lives : (b : Bool) (c : Cell) → is_moved (cond b c Empty) ≡ true → (b ≡ true) × (is_moved c ≡ true)
moved_lives true c e = (refl, e)
moved_lives false c e = absurd (false≢true e)

module _ {live : ℕ → Bool} {old new : Store} (k : IsSwept live old new) where
  lives : (t : ℕ) → live t ≡ true → new.cell t ≡ old.cell t
  lives t e = k.cells t ∙ ap (λ b. cond b (old.cell t) Empty) e

  target_lives : (s : ℕ) → live s ≡ true → is_moved (old.cell s) ≡ true → live (target_of (old.cell s)) ≡ true
  target_lives s e on = k.targets s (target_of (old.cell s)) e (moved_is (old.cell s) on)

  hop-lives : (s : ℕ) → live s ≡ true → live (hop (moves old) (forwards old) s) ≡ true
  hop-lives s e = elim (cases_Bool (is_moved (old.cell s))) [
    | inl on ↦ ap live (ap (λ b. cond b (target_of (old.cell s)) s) on) ∙ target_lives s e on
    | inr off ↦ ap live (ap (λ b. cond b (target_of (old.cell s)) s) off) ∙ e
  ]

  follow-lives : (n s : ℕ) → live s ≡ true → (follow (moves new) (forwards new) n s ≡ follow (moves old) (forwards old) n s) × (live (follow (moves old) (forwards old) n s) ≡ true)
  unfolding follow
  follow-lives zero s e = (refl, e)
  follow-lives (suc n) s e =
      let r = follow-lives n (hop (moves old) (forwards old) s) (hop-lives s e) in
      (ap (λ c. follow (moves new) (forwards new) n (cond (is_moved c) (target_of c) s)) (lives s e) ∙ r.0, r.1)

  pub final-swept : (s : ℕ) → live s ≡ true → (final new s ≡ final old s) × (live (final old s) ≡ true)
  unfolding final
  final-swept s e =
      let r = follow-lives old.names s e in
      (ap (λ n. follow (moves new) (forwards new) n s) k.names ∙ r.0, r.1)

  -- a word that names what lives says what it said
  pub word-swept : (w : ℕ) → (is_immediate_word w ≡ false → is_good_reference old w ≡ true) → ((t : ℕ) → old.to w ≡ Some t → live t ≡ true) → IsPlacedWord same_place (live_objects live old) old new w w
  word-swept w good on = record {
    same = λ e. refl;
    leads = λ off.
        let g = passed (is_ordinary old) (lead old w) (good off) in
        let m = mapped_there (final old) (old.to w) g.one g.is in
        let end : final old m.0 ≡ g.one = let e : lead old w ≡ Some (final old m.0) = ap (option_map (final old)) m.1 in let h = g.is in cc in
        ap (option_map (final new)) (k.to w ∙ m.1) ∙ ap (λ s. Some s) ((final-swept m.0 (on m.0 m.1)).0 ∙ end ∙ sym (goal-good old w g.one (good off) g.is));
    kept = λ off.
        let g = passed (is_ordinary old) (lead old w) (good off) in
        let m = mapped_there (final old) (old.to w) g.one g.is in
        let end : final old m.0 ≡ g.one = let e : lead old w ≡ Some (final old m.0) = ap (option_map (final old)) m.1 in let h = g.is in cc in
        let there = ordinary_there old g.one g.holds in
        let lives : live g.one ≡ true = ap live (sym end) ∙ (final-swept m.0 (on m.0 m.1)).1 in
        ap (live_objects live old) (goal-good old w g.one (good off) g.is) ∙ (λ x. lives x && there x);
  }

  object : (s : ℕ) → live_objects live old s ≡ true → IsPlacedObject same_place (live_objects live old) old new s
  object s e =
      let parts = and_parts (live s) (is_there (old.cell s)) e in
      let is : new.cell s ≡ old.cell s = lives s parts.0 in
      record {
        there = ap is_there is ∙ parts.1;
        head = ap body_of is ∙ ap (λ c. with_words (body_at old s) (body_of c).words) (sym is);
        long = ap (λ c. length (body_of c).words) is;
        slots = λ three four i l. subst (λ c. IsPlacedWord same_place (live_objects live old) old new (get_or (body_at old s).words i 0) (get_or (body_of c).words i 0)) (sym is)
            (word-swept (get_or (body_at old s).words i 0) (slot-good old k.before.sound s i parts.1 three four l) (λ t. k.slots s i t parts.0 three four l));
        units = λ three four. ap (λ c. drop (pointer_count (body_at old s)) (body_of c).words) is;
      }

  first-object : (j : ℕ) → j < 5 → live_objects live old (first old j) ≡ true
  first-object j l = λ x. (k.firsts j l).0 x && k.before.sound.roots.objects j l x

  root-same : (i : ℕ) → root_slot new i ≡ root_slot old i
  root-same i = let f = k.firsts 4 (omega arith) in ap (λ s. get_or (body_at new s).words i 0) f.1 ∙ ap (λ c. get_or (body_of c).words i 0) (lives (first old 4) f.0)

  ends : (s : ℕ) → is_bad_forwarder new s ≡ false
  ends s = elim (cases_Bool (is_moved (new.cell s))) [
    | inr off ↦ and_left _ _ off
    | inl on ↦
        let m = moved_lives (live s) (old.cell s) (ap is_moved (sym (k.cells s)) ∙ on) in
        let f = final-swept s m.0 in
        let there : is_there (new.cell (final new s)) ≡ true = ap (λ t. is_there (new.cell t)) f.0 ∙ ap is_there (lives (final old s) f.1) ∙ good_forwarder_ends old s (k.before.sound.ends s) m.1 in
        and_right _ _ (not_from_true _ there)
  ]

  pub swept_placed : CanPlace same_place (live_objects live old) old new
  swept_placed = record {
    reads = k.before.reads;
    loadable = sound_loadable old k.before.sound;
    outer = k.before.sound.roots.outer;
    reads_new = k.reads;
    placed = record {
      some = λ s e. (and_parts (live s) (is_there (old.cell s)) e).1;
      objects = object;
      back = λ t e. let m = there_lives (live t) (old.cell t) (ap is_there (sym (k.cells t)) ∙ e) in (t, λ x. m.0 x && m.1 x, refl);
      once = λ s t e f is. is;
      five = k.five;
      firsts = λ j l. (first-object j l, (k.firsts j l).1);
      pages = λ i s l e. (λ x. k.pages i s l e x && place_there (sound_loadable old k.before.sound) i s l e x, ap new.to (root-same i) ∙ k.to (root_slot old i) ∙ e);
      targets = λ s t e.
          let on : is_moved (cond (live s) (old.cell s) Empty) ≡ true = ap is_moved (sym (k.cells s) ∙ e) in
          let m = moved_lives (live s) (old.cell s) on in
          let is : old.cell s ≡ Moved t = sym (lives s m.0) ∙ e in
          ap is_start (lives t (k.targets s t m.0 is)) ∙ k.before.sound.targets s t is;
      ends = ends;
    };
  }

  -- the slots of the hidden roots behind the pages are nil as before
  pub swept_tops : (i : ℕ) → page_places ≤ i → i < roots_slots → root_slot new i ≡ 8 * first new 0
  swept_tops i l m = let f = k.firsts 0 (omega arith) in root-same i ∙ k.before.sound.roots.tops i l m ∙ ap (λ s. 8 * s) (sym f.1)
