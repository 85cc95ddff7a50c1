-- With nothing to do, and all that is held back asleep, what stands outside the space that is being left is exactly what is live.
use Rattle.std.proofs.Common.{◌≡◌, ◌≢◌, ℕ, Bool, true, false, not, ◌&&◌, ◌||◌, ◌/◌, ◌%◌, ◌<◌, eqb, ltb, List, map, take, get_or, length, refl, sym, ap, ◌∙◌, subst, inl, inr, arith, Some, None, Option}
use Rattle.std.proofs.lemmas.Bool.{false≢true, eqb-true, and_parts, or_right, ltb-true, not-true}
use Rattle.std.proofs.lemmas.Option.{same_Some}
use Rattle.std.proofs.lemmas.List.{get_or_default}
use Rattle.std.proofs.lemmas.List.Elements.{All-contains, All-take}
use Rattle.std.specs.Prelude.{slice_get}
use Rattle.std.specs.Option.{option_map, unwrap_or}
use Rattle.std.specs.List.{All, Contains, filter, range_with_len}
use Rattle.std.specs.FinMap.{get}
use Rattle.spur_graph.specs.declared.answer.Value.{Value}
use Rattle.spur_graph.specs.declared.answer.Value.TheVariants.{Ref}
use Rattle.spur_graph.specs.Value.{is_immediate}
use Rattle.spur_graph.specs.Node.{Node}
use Rattle.spur_graph.specs.Graph.{Graph, Handle, waiting}
use Rattle.spur_graph.specs.Live.{is_keyed, strong_values, IsRoot, HandleNames, Mourns, SpecialNames, EntryNames, IsNil, IsFalse, IsTrue, AtRoot, AtGiven, ByStrong, ByLoose, ByKey}
use Rattle.spur_graph.specs.Cells.{Body, is_formed, Moved, There, Store, first, final, pointers, pointer_count}
use Rattle.spur_graph.specs.Ordinary.{class_limit, page_places, page_entries, body_at, root_slot, is_ordinary, is_good_word, is_good_reference, is_nil_slot, has_page, entry}
use Rattle.spur_graph.specs.CellGraph.{read, node_of, has_class, classes_of}
use Rattle.spur_graph.specs.Heaps.{HasFired, waiting_in}
use Rattle.heap_cells.proofs.Bodies.{all_pointers}
use Rattle.heap_cells.proofs.CellKinds.{there_is}
use Rattle.heap_cells.proofs.Entries.{place_below}
use Rattle.heap_cells.proofs.Finding.{get-member}
use Rattle.heap_cells.proofs.HandleValues.{get-handle_values}
use Rattle.heap_cells.proofs.Internals.{IsPageAt, a_page, place_cases, not_first}
use Rattle.heap_cells.proofs.Members.{filter_in}
use Rattle.heap_cells.proofs.References.{ordinary_there, ordinary_apart}
use Rattle.heap_cells.proofs.WholeClosed.{sound_loadable, waiting_renamed}
use Rattle.heap_laws.specs.Placed.{Outside}
use Rattle.heap_laws.proofs.Slots.{entry-good}
use Rattle.scavenge_laws.specs.Copying.{IsClear, strong_words, strong_slots, IsScanned, Lives, Copying, AreOld, AreClear, AreAsleep, HasYoungKey}
use Rattle.scavenge_laws.proofs.Naming.{word-leads, reads-reference}
use Rattle.scavenge_laws.proofs.Outer.{page_internal, stays-outside}
use Rattle.scavenge_laws.proofs.Values.{in_front, front_in, from-map, first-map, node-pointers, node-format, strong-words, slot-word}
use Rattle.scavenge_laws.proofs.Places.{Stands, ordinary-body, comes, place-of}

module _ {young : ℕ → Bool} {g : Graph} {further : ℕ → Bool} {h : Store} {o : Outside} {todo held : ℕ → Type 0} {p q : ℕ → ℕ} (c : Copying young g further h o todo held p q) (done : (s : ℕ) → todo s → ⊥) where
  pub forwarders : (s t : ℕ) → young s ≡ false → h.cell s ≡ Moved t → young t ≡ false
  forwarders s t out e = elim (c.moved s t out e) [ inl d ↦ absurd (done s d) | inr d ↦ d ]

  pub scanned : (s : ℕ) (b : Body) → young s ≡ false → s ≢ first h 3 → h.cell s ≡ There b → IsScanned young g held s b
  scanned s b out n e = elim (c.scanned s b out n e) [ inl d ↦ absurd (done s d) | inr d ↦ d ]

  -- a start outside leads to a name that stands there
  pub out-by : (t a : ℕ) → young t ≡ false → is_ordinary h (final h t) ≡ true → q (final h t) ≡ a → Stands young h p a
  out-by t a out on e =
      let at = place-of c (final h t) a e in
      record { ordinary = ap (is_ordinary h) at ∙ on; outside = ap young at ∙ stays-outside young h forwarders t out }

  -- a good word that names nothing in the space that is being left
  clear-out : (w a : ℕ) → is_good_word h w ≡ true → IsClear young w → read q h w ≡ Ref a → Stands young h p a
  clear-out w a good clear e =
      let r = reads-reference q h c.heap w a good e in
      out-by (w / 8) a (clear r.0) (word-leads q h c.heap w good r.0).ordinary r.1

  pub stand : (s : ℕ) → young s ≡ false → is_ordinary h s ≡ true → IsScanned young g held s (body_at h s)
  stand s out on = scanned s (body_at h s) out (ordinary_apart h s on).1 (ordinary-body h s on)

  formed : (s : ℕ) → is_ordinary h s ≡ true → is_formed (body_at h s) ≡ true
  formed s on = c.heap.store.sound.formed s (ordinary_there h s on)

  -- some words of an object, clear and good, and a value among what they read as
  among-out : (ws : List ℕ) (a : ℕ) → ((w : ℕ) → Contains ws w → is_good_word h w ≡ true) → All (IsClear young) ws → Contains (map (read q h) ws) (Ref a) → Stands young h p a
  among-out ws a good clear value =
      let w = from-map (read q h) 0 ws (Ref a) value in
      clear-out w.0 a (good w.0 w.1) (All-contains (IsClear young) ws w.0 clear w.1) w.2

  in_take : (n : ℕ) (ws : List ℕ) (w : ℕ) → Contains (take n ws) w → Contains ws w
  in_take n ws w d = let f = in_front n ws w d in (f.0, f.2, get_or_default ws f.0 w 0 f.2 ∙ f.3)

  strong-out : (s a : ℕ) → young s ≡ false → is_ordinary h s ≡ true → Contains (strong_values g (node_of q h (body_at h s))) (Ref a) → Stands young h p a
  strong-out s a out on value =
      let b : Body = body_at h s in
      let clear : All (IsClear young) (strong_words g b) = elim (stand s out on) [
        | inl all ↦ All-take (IsClear young) (strong_slots g b) (pointers b) all
        | inr back ↦ back.2
      ] in
      among-out (strong_words g b) a (λ w d. slot-word h c.heap.store.sound s on w (in_take (strong_slots g b) (pointers b) w d)) clear
      (subst (λ vs. Contains vs (Ref a)) (strong-words q h g b (formed s on)) value)

  -- an ephemeron that is not held back
  keyed-out : (s a : ℕ) → young s ≡ false → is_ordinary h s ≡ true → (held s → ⊥) → Contains (node_of q h (body_at h s)).pointers (Ref a) → Stands young h p a
  keyed-out s a out on free value =
      let b : Body = body_at h s in
      let clear : All (IsClear young) (pointers b) = elim (stand s out on) [ inl all ↦ all | inr back ↦ absurd (free back.0) ] in
      among-out (pointers b) a (λ w d. slot-word h c.heap.store.sound s on w d) clear (subst (λ vs. Contains vs (Ref a)) (node-pointers q h b) value)

  -- ---- roots

  module _ (clear : AreClear young o) where
    first-stands : (j a : ℕ) → j < 3 → a ≡ q (first h j) → Stands young h p a
    first-stands j a l e =
        let at = place-of c (first h j) a (sym e) in
        record {
          ordinary = ap (is_ordinary h) at ∙ (λ x. c.heap.store.sound.roots.objects j (omega (arith, l)) x && not (c.heap.store.sound.roots.outer j l x));
          outside = ap young at ∙ c.outer.firsts j l;
        }

    mapped_there : (ov : Option ℕ) (a : ℕ) → option_map (read q h) ov ≡ Some (Ref a) → (w : ℕ) × (ov ≡ Some w) × (read q h w ≡ Ref a)
    mapped_there None a e = let z : None ≡ Some (Ref a) = e in absurd cc
    mapped_there (Some w) a e = (w, refl, same_Some _ _ e)

    handle-out : (k : Handle) (a : ℕ) → get g.handles k ≡ Some (Ref a) → Stands young h p a
    handle-out k a e =
        let was : option_map (read q h) (get o.held k) ≡ Some (Ref a) = sym (get-handle_values (read q h) o.held k) ∙ ap (λ (x : Graph). get x.handles k) c.same ∙ e in
        let w = mapped_there (get o.held k) a was in
        clear-out w.0 a (c.good.held k w.0 w.1) (clear.held k w.0 w.1) w.2

    mourner-out : (a : ℕ) → Contains (waiting g) a → Stands young h p a
    mourner-out a d =
        let among : Contains (map (λ s. q (final h s)) (waiting_in o.groups)) a = subst (λ xs. Contains xs a) (ap (λ (x : Graph). waiting x) (sym c.same) ∙ waiting_renamed (λ s. q (final h s)) o.groups) d in
        let m = from-map (λ s. q (final h s)) 0 (waiting_in o.groups) a among in
        let f = All-contains (HasFired h) (waiting_in o.groups) m.0 c.good.mourners.fired m.1 in
        out-by m.0 a (clear.waiting m.0 m.1) f.ordinary m.2

    reference_good : (w : ℕ) → is_good_reference h w ≡ true → is_good_word h w ≡ true
    reference_good w on = or_right _ _ on

    special-out : (a : ℕ) → g.special ≡ Ref a → Stands young h p a
    special-out a e = clear-out o.special a (reference_good o.special c.good.special) clear.special (ap (λ (x : Graph). x.special) c.same ∙ e)

    -- the page of an index, whose entries are all clear
    entry-clear : (i : ℕ) → has_page h i ≡ true → IsClear young (entry h i)
    entry-clear i e =
        let parts = and_parts (ltb i class_limit) (not (is_nil_slot h (i / page_entries))) e in
        let l = place_below i (ltb-true i class_limit parts.0) in
        elim (place_cases (sound_loadable h c.heap.store.sound) (i / page_entries) l) [
          | inl nil ↦ absurd (false≢true (sym (not-true _ parts.1) ∙ nil))
          | inr page ↦ (let s = a_page h (i / page_entries) page in page-clear i s.0 (i / page_entries) l s.1 refl)
        ]
      where
        page-clear : (i s j : ℕ) → j < page_places → IsPageAt h j s → j ≡ i / page_entries → IsClear young (entry h i)
        page-clear i s j l at same =
            let b : Body = body_at h s in
            let body = and_parts (eqb b.format 2) (eqb (length b.words) page_entries) at.body in
            let two : b.format ≡ 2 = eqb-true _ _ body.0 in
            let long : length b.words ≡ page_entries = eqb-true _ _ body.1 in
            let count : pointer_count b ≡ length b.words = all_pointers b (omega (arith, two)) in
            let low : i % page_entries < page_entries = omega arith in
            let out : young s ≡ false = c.outer.inner s (page_internal h j s l at) in
            let clear : All (IsClear young) (pointers b) = elim (scanned s b out (not_first h s 3 (omega arith) at.later) (there_is (h.cell s) at.there)) [
              | inl all ↦ all
              | inr back ↦ absurd (false≢true (sym (λ x. eqb (two x) 4 || eqb (two x) 5) ∙ back.1))
            ] in
            let is : entry h i ≡ get_or b.words (i % page_entries) 0 = ap (λ o. get_or (body_at h (unwrap_or o h.names)).words (i % page_entries) 0) (ap (λ n. h.to (root_slot h n)) (sym same) ∙ at.named) in
            subst (IsClear young) (sym is) (All-contains (IsClear young) (pointers b) (get_or b.words (i % page_entries) 0) clear (front_in (pointer_count b) b.words (i % page_entries) (omega (arith, low, count, long)) (omega (arith, low, long))))

    entry-out : (i a : ℕ) → get g.classes i ≡ Some (Ref a) → Stands young h p a
    unfolding classes_of
    entry-out i a e =
        let m = get-member (λ j. j) (λ j. read q h (entry h j)) i (filter (has_class h) (range_with_len 0 class_limit)) (Ref a) (ap (λ (x : Graph). get x.classes i) c.same ∙ e) in
        let page = (and_parts (has_page h m.0) _ (filter_in (has_class h) (range_with_len 0 class_limit) m.0 m.1).1).0 in
        clear-out (entry h m.0) a (reference_good (entry h m.0) (entry-good h c.heap.store.sound m.0 page)) (entry-clear m.0 page) m.3

    root-out : (a : ℕ) → IsRoot g a → Stands young h p a
    root-out _ (HandleNames k a e) = handle-out k a e
    root-out _ (Mourns a d) = mourner-out a d
    root-out _ (SpecialNames a e) = special-out a e
    root-out _ (EntryNames i a e) = entry-out i a e
    root-out _ IsNil = first-stands 0 g.nil (omega arith) (ap (λ (x : Graph). x.nil) (sym c.same))
    root-out _ IsFalse = first-stands 1 g.no (omega arith) (ap (λ (x : Graph). x.no) (sym c.same))
    root-out _ IsTrue = first-stands 2 g.yes (omega arith) (ap (λ (x : Graph). x.yes) (sym c.same))

    -- ---- what is live

    module _ (old : AreOld young g further h q) (asleep : AreAsleep young h held) where
      -- the key of an ephemeron that is held back
      key-young : (s : ℕ) → young s ≡ false → is_ordinary h s ≡ true → (body_at h s).format ≡ 5 → held s → HasYoungKey young h (body_at h s)
      key-young s out on five back = elim (asleep s out on back) [
        | inl four ↦ absurd (let k : 4 ≡ 5 = sym four ∙ five in omega (arith, k))
        | inr key ↦ key
      ]

      pub format-of : (s : ℕ) (n : Node) → n ≡ node_of q h (body_at h s) → is_keyed n ≡ true → (body_at h s).format ≡ 5
      format-of s n e keyed = sym (node-format q h (body_at h s)) ∙ ap (λ (m : Node). m.format) (sym e) ∙ eqb-true n.format 5 (and_parts _ _ keyed).0

      pub key-of : (s : ℕ) (n : Node) (v : Value) → n ≡ node_of q h (body_at h s) → slice_get n.pointers 0 ≡ Some v → (0 < pointer_count (body_at h s)) × (0 < length (body_at h s).words) × (read q h (get_or (body_at h s).words 0 0) ≡ v)
      key-of s n v e is = first-map (read q h) (pointer_count (body_at h s)) (body_at h s).words v (sym (ap (λ vs. slice_get vs 0) (ap (λ (m : Node). m.pointers) e ∙ node-pointers q h (body_at h s))) ∙ is)

      old-out : (a : ℕ) → further a ≡ true → Stands young h p a
      old-out a is =
          let s = old.starts a is in
          let n = old.names a is in
          out-by s.0 a s.1 (ap (is_ordinary h) (sym (place-of c (final h s.0) a s.3)) ∙ (comes c a n.0 n.1).0) s.3

      pub all-out : (a : ℕ) → Lives g further a → Stands young h p a
      all-out _ (AtRoot a root) = root-out a root
      all-out _ (AtGiven a is) = old-out a is
      all-out _ (ByStrong b a n live speaks there value) =
          let s = all-out b live in
          let m = comes c b n there in
          strong-out (p b) a s.outside s.ordinary (subst (λ (x : Node). Contains (strong_values g x) (Ref a)) m.1 value)
      all-out _ (ByLoose b a n key live speaks there keyed is loose value) =
          let s = all-out b live in
          let m = comes c b n there in
          let k = key-of (p b) n key m.1 is in
          let free : held (p b) → ⊥ = λ back.
          let y = key-young (p b) s.outside s.ordinary (format-of (p b) n m.1 keyed) back in
          let l = word-leads q h c.heap (get_or (body_at h (p b)).words 0 0) (slot-word h c.heap.store.sound (p b) s.ordinary _ (front_in (pointer_count (body_at h (p b))) (body_at h (p b)).words 0 k.0 k.1)) y.reference in
          false≢true (sym (ap is_immediate (sym k.2 ∙ l.value)) ∙ loose) in
          keyed-out (p b) a s.outside s.ordinary free (subst (λ (x : Node). Contains x.pointers (Ref a)) m.1 value)
      all-out _ (ByKey b k a n live speaks there keyed is also value) =
          let s = all-out b live in
          let t = all-out k also in
          let m = comes c b n there in
          let f = key-of (p b) n (Ref k) m.1 is in
          let word = slot-word h c.heap.store.sound (p b) s.ordinary _ (front_in (pointer_count (body_at h (p b))) (body_at h (p b)).words 0 f.0 f.1) in
          let r = reads-reference q h c.heap (get_or (body_at h (p b)).words 0 0) k word f.2 in
          let free : held (p b) → ⊥ = λ back.
          let y = key-young (p b) s.outside s.ordinary (format-of (p b) n m.1 keyed) back in
          false≢true (sym (ap young (sym (place-of c _ k r.1)) ∙ t.outside) ∙ y.key) in
          keyed-out (p b) a s.outside s.ordinary free (subst (λ (x : Node). Contains x.pointers (Ref a)) m.1 value)

      -- whatever has a node and stands outside is live
      pub only-live : (a : ℕ) → Stands young h p a → Lives g further a
      only-live a s = subst (Lives g further) (c.places.right a) (c.sound (p a) s.outside s.ordinary)
