-- Which words lead to live names: those of roots, strong ones of what stands outside, and those of an ephemeron whose key is live.
use Rattle.std.proofs.Common.{◌≡◌, ◌≢◌, ℕ, Bool, true, false, not, ◌&&◌, ◌/◌, ◌%◌, ◌<◌, ◌+◌, ltb, map, length, get_or, refl, sym, ap, ◌∙◌, subst, inl, inr, arith, Some}
use Rattle.std.proofs.lemmas.Bool.{cases_Bool, cases_eq, eq-eqb, lt-ltb, ltb-true, and_parts}
use Rattle.std.proofs.lemmas.List.{get_or_default}
use Rattle.std.specs.Prelude.{slice_get}
use Rattle.std.specs.Option.{option_map}
use Rattle.std.specs.List.{Contains, filter, range_with_len}
use Rattle.std.specs.FinMap.{get}
use Rattle.spur_graph.specs.declared.answer.Value.{Value}
use Rattle.spur_graph.specs.declared.answer.Value.TheVariants.{Int, Char, Float, Ref}
use Rattle.spur_graph.specs.Value.{is_immediate}
use Rattle.spur_graph.specs.Graph.{Graph, Handle, waiting}
use Rattle.spur_graph.specs.Names.{rename}
use Rattle.spur_graph.specs.Live.{is_keyed, HandleNames, Mourns, SpecialNames, EntryNames, IsNil, AtRoot, ByStrong, ByLoose, ByKey}
use Rattle.spur_graph.specs.Cells.{Store, first, final, lead, pointers, pointer_count}
use Rattle.spur_graph.specs.Ordinary.{class_limit, is_at, body_at, is_internal, is_ordinary, has_page, entry}
use Rattle.spur_graph.specs.CellGraph.{read, node_of, has_class, classes_of}
use Rattle.spur_graph.specs.Heaps.{waiting_in}
use Rattle.heap_cells.proofs.Bodies.{pointers_fit}
use Rattle.heap_cells.proofs.Below.{at-named}
use Rattle.heap_cells.proofs.Finding.{get-at}
use Rattle.heap_cells.proofs.HandleValues.{get-handle_values}
use Rattle.heap_cells.proofs.Members.{in_filter, in_range}
use Rattle.heap_cells.proofs.References.{ordinary_there}
use Rattle.heap_cells.proofs.Values.{IsFixed, fixed, read-fixed}
use Rattle.heap_cells.proofs.WholeClosed.{waiting_renamed}
use Rattle.heap_laws.specs.Placed.{Outside}
use Rattle.heap_laws.proofs.Slots.{entry-good, internal-entry}
use Rattle.graph_laws.proofs.Living.{among-mapped}
use Rattle.scavenge_laws.specs.Copying.{Lives, strong_words, Copying}
use Rattle.scavenge_laws.proofs.Naming.{reference-leads, word-leads, word-fixed}
use Rattle.scavenge_laws.proofs.Values.{in_front, front_in, first-front, node-pointers, node-format, values-long, strong-words, slot-word}
use Rattle.scavenge_laws.proofs.Places.{here}

module _ {young : ℕ → Bool} {g : Graph} {further : ℕ → Bool} {h : Store} {o : Outside} {todo held : ℕ → Type 0} {p q : ℕ → ℕ} (c : Copying young g further h o todo held p q) where
  -- a word leads to a live name
  abbrev pub LeadsToLive : ℕ → Type 0
  LeadsToLive w = w % 8 ≡ 0 → Lives g further (q (final h (w / 8)))

  -- ---- roots

  pub handle-lives : (k : Handle) (w : ℕ) → get o.held k ≡ Some w → w % 8 ≡ 0 → Lives g further (q (final h (w / 8)))
  handle-lives k w e z =
      let l = word-leads q h c.heap w (c.good.held k w e) z in
      AtRoot (q (final h (w / 8))) (HandleNames k (q (final h (w / 8))) (ap (λ (x : Graph). get x.handles k) (sym c.same) ∙ get-handle_values (read q h) o.held k ∙ ap (option_map (read q h)) e ∙ ap Some l.value))

  pub special-lives : Lives g further (q (final h (o.special / 8)))
  special-lives =
      let l = reference-leads q h c.heap o.special c.good.special in
      AtRoot (q (final h (o.special / 8))) (SpecialNames (q (final h (o.special / 8))) (ap (λ (x : Graph). x.special) (sym c.same) ∙ l.value))

  pub waiting-lives : (s : ℕ) → Contains (waiting_in o.groups) s → Lives g further (q (final h s))
  waiting-lives s d = AtRoot (q (final h s)) (Mourns (q (final h s)) (subst (λ xs. Contains xs (q (final h s))) (sym (waiting_renamed (λ t. q (final h t)) o.groups) ∙ ap waiting c.same) (among-mapped (λ t. q (final h t)) (waiting_in o.groups) s d)))

  nil-lives : Lives g further (q (first h 0))
  nil-lives = subst (Lives g further) (sym (ap (λ (x : Graph). x.nil) c.same)) (AtRoot g.nil IsNil)

  pub entry-lives : (i : ℕ) → has_page h i ≡ true → entry h i % 8 ≡ 0 → Lives g further (q (final h (entry h i / 8)))
  unfolding classes_of
  entry-lives i page z =
      let l = reference-leads q h c.heap (entry h i) (entry-good h c.heap.store.sound i page) in
      elim (cases_Bool (is_at (first h 0) (lead h (entry h i)))) [
        | inl nil ↦
            let named = at-named (first h 0) (lead h (entry h i)) nil in
            let is : final h (entry h i / 8) ≡ first h 0 = (let e : Some (final h (entry h i / 8)) ≡ Some (first h 0) = sym l.is ∙ named in cc) in
            subst (Lives g further) (ap q (sym is)) nil-lives
        | inr class ↦
            let on : has_class h i ≡ true = λ x. page x && not (class x) in
            let low : i < class_limit = ltb-true i class_limit (and_parts (ltb i class_limit) _ page).0 in
            let among = in_filter (has_class h) (range_with_len 0 class_limit) i (in_range 0 class_limit i (omega arith) (omega (arith, low))) on in
            AtRoot (q (final h (entry h i / 8))) (EntryNames i (q (final h (entry h i / 8))) (ap (λ (x : Graph). get x.classes i) (sym c.same)
            ∙ get-at (λ j. j) (λ j. read q h (entry h j)) i (filter (has_class h) (range_with_len 0 class_limit)) (λ t m e. ap (λ j. read q h (entry h j)) (sym e)) among ∙ ap Some l.value))
      ]

  -- a slot of a page of the class table
  pub page-lives : (s i : ℕ) → is_internal h s ≡ true → s ≢ first h 3 → s ≢ first h 4 → i < pointer_count (body_at h s) → get_or (body_at h s).words i 0 % 8 ≡ 0 → Lives g further (q (final h (get_or (body_at h s).words i 0 / 8)))
  page-lives s i on three four l z =
      let e = internal-entry h c.heap.store.sound s i on three four l in
      subst (λ w. Lives g further (q (final h (w / 8)))) e.word (entry-lives e.index e.page (ap (λ w. w % 8) e.word ∙ z))

  -- ---- objects

  module _ (s : ℕ) (out : young s ≡ false) (on : is_ordinary h s ≡ true) where
    live : Lives g further (q s)
    live = c.sound s out on

    pub strong-lives : (w : ℕ) → Contains (strong_words g (body_at h s)) w → w % 8 ≡ 0 → Lives g further (q (final h (w / 8)))
    strong-lives w d z =
        let formed = c.heap.store.sound.formed s (ordinary_there h s on) in
        let f = in_front _ (pointers (body_at h s)) w d in
        let good = slot-word h c.heap.store.sound s on w (f.0, f.2, get_or_default (pointers (body_at h s)) f.0 w 0 f.2 ∙ f.3) in
        let l = word-leads q h c.heap w good z in
        ByStrong (q s) (q (final h (w / 8))) (node_of q h (body_at h s)) live refl (here c s on)
        (subst (λ vs. Contains vs (Ref (q (final h (w / 8))))) (sym (strong-words q h g (body_at h s) formed)) (subst (λ v. Contains (map (read q h) (strong_words g (body_at h s))) v) l.value (among-mapped (read q h) (strong_words g (body_at h s)) w d)))

    immediate_value : (w : ℕ) (k : IsFixed w) → is_immediate k.value ≡ true
    immediate_value w k = by k.value (k.same (λ a. a + 1))
      where
        by : (v : Value) → rename (λ a. a + 1) v ≡ v → is_immediate v ≡ true
        by (Int n) e = refl
        by (Char n) e = refl
        by (Float n) e = refl
        by (Ref a) e = let n : a + 1 ≡ a = cc in absurd (omega (arith, n))

    -- a word of an ephemeron, where its key is no reference or leads to a live name
    pub keyed-lives : (body_at h s).format ≡ 5 → 0 < pointer_count (body_at h s) → (get_or (body_at h s).words 0 0 % 8 ≡ 0 → Lives g further (q (final h (get_or (body_at h s).words 0 0 / 8))))
        → (w : ℕ) → Contains (pointers (body_at h s)) w → w % 8 ≡ 0 → Lives g further (q (final h (w / 8)))
    keyed-lives five some key w d z =
        let k : ℕ = get_or (body_at h s).words 0 0 in
        let formed = c.heap.store.sound.formed s (ordinary_there h s on) in
        let l : 0 < length (body_at h s).words = (let fit = pointers_fit (body_at h s) formed in omega (arith, fit, some)) in
        let good = slot-word h c.heap.store.sound s on (get_or (body_at h s).words 0 0) (front_in (pointer_count (body_at h s)) (body_at h s).words 0 some l) in
        let to = word-leads q h c.heap w (slot-word h c.heap.store.sound s on w d) z in
        let long : length (node_of q h (body_at h s)).pointers ≡ pointer_count (body_at h s) = ap length (node-pointers q h (body_at h s)) ∙ values-long q h (body_at h s) formed in
        let keyed : is_keyed (node_of q h (body_at h s)) ≡ true = λ x. eq-eqb ((node_of q h (body_at h s)).format) 5 (node-format q h (body_at h s) ∙ five) x && lt-ltb 0 (length (node_of q h (body_at h s)).pointers) (subst (λ n. 0 < n) (sym long) some) x in
        let front : slice_get (node_of q h (body_at h s)).pointers 0 ≡ Some (read q h (get_or (body_at h s).words 0 0)) = ap (λ vs. slice_get vs 0) (node-pointers q h (body_at h s)) ∙ first-front (read q h) (pointer_count (body_at h s)) (body_at h s).words some l in
        let among : Contains (node_of q h (body_at h s)).pointers (Ref (q (final h (w / 8)))) = subst (λ vs. Contains vs (Ref (q (final h (w / 8))))) (sym (node-pointers q h (body_at h s))) (subst (λ v. Contains (map (read q h) (pointers (body_at h s))) v) to.value (among-mapped (read q h) (pointers (body_at h s)) w d)) in
        elim (cases_eq (get_or (body_at h s).words 0 0 % 8) 0) [
          | inl r ↦ ByKey (q s) (q (final h (get_or (body_at h s).words 0 0 / 8))) (q (final h (w / 8))) (node_of q h (body_at h s)) live refl (here c s on) keyed
              (front ∙ ap Some (word-leads q h c.heap (get_or (body_at h s).words 0 0) good r).value) (key r) among
          | inr n ↦
              let f = fixed (get_or (body_at h s).words 0 0) (word-fixed q h c.heap (get_or (body_at h s).words 0 0) good n) in
              ByLoose (q s) (q (final h (w / 8))) (node_of q h (body_at h s)) (read q h (get_or (body_at h s).words 0 0)) live refl (here c s on) keyed front
              (ap is_immediate (read-fixed q h (get_or (body_at h s).words 0 0) f) ∙ immediate_value (get_or (body_at h s).words 0 0) f) among
        ]
