-- A store whose words say what they said: some of them are followed, and chains end where they ended.
use Rattle.std.proofs.Common.{◌≡◌, ◌≢◌, ℕ, true, false, ◌*◌, ◌/◌, ◌%◌, ◌<◌, cond, map, drop, length, get_or, refl, sym, ap, ◌∙◌, subst, inl, inr, ◌⊎◌, arith, Some, None, Option}
use Rattle.std.proofs.lemmas.Bool.{cases_Bool, eq-eqb, ne_eqb, and_left, and_right, not_from_true}
use Rattle.std.specs.Option.{option_map}
use Rattle.std.specs.FinMap.{get}
use Rattle.spur_graph.specs.Value.{is_immediate_word}
use Rattle.spur_graph.specs.Cells.{Moved, Store, is_moved, is_start, is_there, first, final, lead, pointer_count}
use Rattle.spur_graph.specs.Ordinary.{body_at, root_slot, is_good_reference, is_good_word, is_bad_forwarder}
use Rattle.spur_graph.specs.Heaps.{waiting_in}
use Rattle.heap_cells.specs.Settled.{word_of}
use Rattle.heap_cells.proofs.Bodies.{with_words}
use Rattle.heap_cells.proofs.Chains.{good_forwarder_ends, final-there}
use Rattle.heap_cells.proofs.Internals.{heap-named, place_there}
use Rattle.heap_cells.proofs.References.{ordinary_there, immediate_tag}
use Rattle.heap_cells.proofs.WholeClosed.{sound_loadable}
use Rattle.heap_laws.specs.Placed.{IsPlacedWord, IsPlacedObject, IsPlacedHandle, IsPlacedOutside, CanPlace, Outside}
use Rattle.heap_laws.specs.Instances.{IsGoodOutside, all_objects, same_place, readdressed_by}
use Rattle.heap_laws.proofs.Slots.{slot-good}
use Rattle.heap_laws.proofs.Words.{goal-good}
use Rattle.heap_laws.proofs.Outsides.{twice_groups}
use Rattle.scavenge_laws.specs.Copying.{IsHeapStore}
use Rattle.scavenge_laws.specs.Writing.{KeepsFirsts, IsFollowed, FollowsRoots}
use Rattle.scavenge_laws.proofs.Naming.{good_reference, reference-leads}

-- an object says what it said
pub record SaysSame (old new : Store) (s : ℕ) : Type 0 where
  pub head : body_at new s ≡ with_words (body_at old s) (body_at new s).words
  pub long : length (body_at new s).words ≡ length (body_at old s).words
  pub roots : s ≡ first old 4 → (body_at new s).words ≡ (body_at old s).words
  pub slots : (i : ℕ) → i < pointer_count (body_at old s) → IsFollowed old (get_or (body_at old s).words i 0) (get_or (body_at new s).words i 0)
  pub units : drop (pointer_count (body_at old s)) (body_at new s).words ≡ drop (pointer_count (body_at old s)) (body_at old s).words

pub record Resays (old new : Store) : Type 0 where
  pub heap : IsHeapStore old
  pub keeps : KeepsFirsts old new
  pub ends : (s : ℕ) → final new s ≡ final old s
  pub there : (s : ℕ) → is_there (new.cell s) ≡ is_there (old.cell s)
  pub moves : (s : ℕ) → is_moved (new.cell s) ≡ is_moved (old.cell s)
  pub starts : (s : ℕ) → is_start (new.cell s) ≡ is_start (old.cell s)
  pub objects : (s : ℕ) → is_there (old.cell s) ≡ true → SaysSame old new s
  pub targets : (s t : ℕ) → new.cell s ≡ Moved t → is_start (new.cell t) ≡ true

-- a word of an immediate is as it was
followed_fixed : (h : Store) (w w' : ℕ) → w % 8 ≢ 0 → IsFollowed h w w' → w' ≡ w
followed_fixed h w w' n (inl e) = e
followed_fixed h w w' n (inr e) = e ∙ ap (λ b. cond b (8 * final h (w / 8)) w) (ne_eqb (w % 8) 0 n)

module _ {old new : Store} (k : Resays old new) where
  -- a followed word leads where the other led
  leads-followed : (w w' : ℕ) → w % 8 ≡ 0 → is_there (old.cell (final old (w / 8))) ≡ true → IsFollowed old w w' → lead new w' ≡ Some (final old (w / 8))
  leads-followed w w' z there (inl e) = ap (lead new) e ∙ ap (option_map (final new)) (k.keeps.to w ∙ k.heap.to w ∙ ap (λ b. cond b (Some (w / 8)) None) (eq-eqb (w % 8) 0 z)) ∙ ap (λ t. Some t) (k.ends (w / 8))
  leads-followed w w' z there (inr e) =
      ap (lead new) (e ∙ ap (λ b. cond b (8 * final old (w / 8)) w) (eq-eqb (w % 8) 0 z))
      ∙ ap (option_map (final new)) (k.keeps.to (word_of (final old (w / 8))) ∙ k.heap.to (word_of (final old (w / 8))) ∙ heap-named (final old (w / 8)))
      ∙ ap (λ t. Some t) (k.ends (final old (w / 8)) ∙ final-there old (final old (w / 8)) there)

  pub word-resaid : (w w' : ℕ) → (is_immediate_word w ≡ false → is_good_reference old w ≡ true) → IsFollowed old w w' → IsPlacedWord same_place (all_objects old) old new w w'
  word-resaid w w' good followed = record {
    same = λ on. followed_fixed old w w' (immediate_tag w on) followed;
    leads = λ off.
        let l = reference-leads (λ s. s) old k.heap w (good off) in
        leads-followed w w' l.aligned (ordinary_there old (final old (w / 8)) l.ordinary) followed ∙ ap (λ s. Some s) (sym (goal-good old w (final old (w / 8)) (good off) l.is));
    kept = λ off.
        let l = reference-leads (λ s. s) old k.heap w (good off) in
        ap (all_objects old) (goal-good old w (final old (w / 8)) (good off) l.is) ∙ ordinary_there old (final old (w / 8)) l.ordinary;
  }

  object : (s : ℕ) → is_there (old.cell s) ≡ true → IsPlacedObject same_place (all_objects old) old new s
  object s e =
      let o = k.objects s e in
      record {
        there = k.there s ∙ e;
        head = o.head;
        long = o.long;
        slots = λ three four i l. word-resaid (get_or (body_at old s).words i 0) (get_or (body_at new s).words i 0) (slot-good old k.heap.store.sound s i e three four l) (o.slots i l);
        units = λ three four. o.units;
      }

  pub root-resaid : (i : ℕ) → root_slot new i ≡ root_slot old i
  root-resaid i =
      ap (λ s. get_or (body_at new s).words i 0) (k.keeps.firsts 4 (omega arith))
      ∙ ap (λ ws. get_or ws i 0) ((k.objects (first old 4) (k.heap.store.sound.roots.objects 4 (omega arith))).roots refl)

  bad-forwarder : (s : ℕ) → is_bad_forwarder new s ≡ false
  bad-forwarder s = elim (cases_Bool (is_moved (new.cell s))) [
    | inr off ↦ and_left _ _ off
    | inl on ↦
        let was : is_there (old.cell (final old s)) ≡ true = good_forwarder_ends old s (k.heap.store.sound.ends s) (sym (k.moves s) ∙ on) in
        and_right _ _ (not_from_true _ (ap (λ t. is_there (new.cell t)) (k.ends s) ∙ k.there (final old s) ∙ was))
  ]

  pub resaid_placed : CanPlace same_place (all_objects old) old new
  resaid_placed = record {
    reads = k.heap.store.reads;
    loadable = sound_loadable old k.heap.store.sound;
    outer = k.heap.store.sound.roots.outer;
    reads_new = k.keeps.reads;
    placed = record {
      some = λ s e. e;
      objects = object;
      back = λ t e. (t, sym (k.there t) ∙ e, refl);
      once = λ s t e f is. is;
      five = k.keeps.five;
      firsts = λ j l. (k.heap.store.sound.roots.objects j l, k.keeps.firsts j l);
      pages = λ i s l e. (place_there (sound_loadable old k.heap.store.sound) i s l e, ap new.to (root-resaid i) ∙ k.keeps.to (root_slot old i) ∙ e);
      targets = k.targets;
      ends = bad-forwarder;
    };
  }

  -- ---- roots

  handle-resaid : (a b : Option ℕ) → ((w : ℕ) → a ≡ Some w → is_good_word old w ≡ true) → (b ≡ a) ⊎ (b ≡ option_map (readdressed_by (final old)) a) → IsPlacedHandle same_place (all_objects old) old new a b
  handle-resaid None b good e = subst (IsPlacedHandle same_place (all_objects old) old new None) (elim e [ inl x ↦ sym x | inr x ↦ sym x ]) tt
  handle-resaid (Some w) b good (inl e) = subst (IsPlacedHandle same_place (all_objects old) old new (Some w)) (sym e) (word-resaid w w (good_reference old w (good w refl)) (inl refl))
  handle-resaid (Some w) b good (inr e) = subst (IsPlacedHandle same_place (all_objects old) old new (Some w)) (sym e) (word-resaid w (readdressed_by (final old) w) (good_reference old w (good w refl)) (inr refl))

  pub roots-resaid : (o o' : Outside) → IsGoodOutside old o → FollowsRoots old o o' → IsPlacedOutside same_place (all_objects old) old new o o'
  roots-resaid o o' good f = record {
    special = word-resaid o.special o'.special (λ off. good.special) f.special;
    held = λ h. handle-resaid (get o.held h) (get o'.held h) (good.held h) (f.held h);
    groups = (λ i. map (map (λ s. k.ends s i)) o'.groups) ∙ f.groups ∙ sym (twice_groups same_place (final old) o.groups);
    waiting = λ j d l. let r = good.mourners.fired j d l in (ordinary_there old (final old (get_or (waiting_in o.groups) j d)) r.ordinary, r.ordinary);
  }

  -- roots that were not written say what they said
  pub same-roots : (o : Outside) → FollowsRoots old o o
  same-roots o = record { special = inl refl; held = λ h. inl refl; groups = refl }
