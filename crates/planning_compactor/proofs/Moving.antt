-- A pass, step by step.
use Rattle.std.proofs.Common.{◌^◌, ◌≡◌, ◌≢◌, ℕ, suc, zero, Bool, true, false, ◌+◌, ◌-◌, ◌*◌, ◌/◌, ◌%◌, ◌<◌, ◌≤◌, ◌⊎◌, List, [], ◌∷◌, length, get_or, refl, sym, ap, ◌∙◌, inl, inr, arith}
use Rattle.std.proofs.lemmas.Bool.{cases_Bool, cases_eq, cases_lt, ne_eqb, eq-eqb, true≢false, le-leb}
use Rattle.object_header.specs.Chunks.{leads, slots_at}
use Rattle.heap_walk.specs.declared.saved.Saved.{Saved}
use Rattle.planning_compactor.specs.Entries.{entry, start_of, virtual, IsTable, Exchanged}
use Rattle.compaction_laws.specs.Compacting.{is_pinned}
use Rattle.planning_compactor.specs.Slid.{target_of}
use Rattle.planning_compactor.specs.Readdressed.{is_between, moved_word, count_at, CanReaddress, IsNoSlot, Readdressed, pointers_with}
use Rattle.planning_compactor.specs.Planning.{HasMoves}
use Rattle.planning_compactor.specs.Objects.{goes_to, AreObjects}
use Rattle.heap_laws.specs.Compaction.{pointers_at}
use Rattle.planning_compactor.proofs.Virtual.{virtual-at, virtual-else}
use Rattle.planning_compactor.proofs.Walks.{pointers-two, head-no_slot, lead-no_slot}
use Rattle.planning_compactor.proofs.Cursors.{between-bounds}
use Rattle.spur_heap.specs.Tables.{start_in}
use Rattle.planning_compactor.specs.Roots.{Roots, AreRoots, RootsMovedBy, Readdresses}
use Rattle.planning_compactor.proofs.Shapes.{lead-low, slots_at-moved, pinned-same}
use Rattle.planning_compactor.proofs.Heads.{SameHeads, live-same, heads-fields, some-or}
use Rattle.heap_laws.specs.Instances.{readdressed_by}
use Rattle.heap_walk.specs.Shapes.{end_at, place_at}

tail-rising : (e : Saved) (es : List Saved) → ((i j : ℕ) → i < j → j < length (e ∷ es) → start_of (e ∷ es) i < start_of (e ∷ es) j) → (i j : ℕ) → i < j → j < length es → start_of es i < start_of es j
tail-rising e es a i j l b = a (suc i) (suc j) (omega (arith, l)) (omega (arith, b))

pub goes-at : (es : List Saved) → ((i j : ℕ) → i < j → j < length es → start_of es i < start_of es j) → (k : ℕ) → k < length es → goes_to es (start_of es k) ≡ target_of es k
unfolding goes_to
goes-at [] r k l = absurd (omega arith)
goes-at (e ∷ es) r zero l = rw (eq-eqb e.start e.start refl) refl
goes-at (e ∷ es) r (suc k) l = let z = r 0 (suc k) (omega arith) l in rw (ne_eqb e.start (start_of es k) (λ q. omega (arith, q, z))) (goes-at es (tail-rising e es r) k (omega arith))

pub goes-else : (es : List Saved) (t : ℕ) → ((k : ℕ) → k < length es → start_of es k ≢ t) → goes_to es t ≡ t
unfolding goes_to
goes-else [] t h = refl
goes-else (e ∷ es) t h = rw (ne_eqb e.start t (h 0 (omega arith))) (goes-else es t (λ k l. h (suc k) (omega (arith, l))))

between-no : (low high w : ℕ) → w % 8 ≢ 0 → is_between low high w ≡ false
unfolding is_between
between-no low high w n = rw (ne_eqb (w % 8) 0 n) refl

between-is : (low high w : ℕ) → w % 8 ≡ 0 → low ≤ w / 8 → w / 8 ≤ high → is_between low high w ≡ true
unfolding is_between
between-is low high w e a b = rw (eq-eqb (w % 8) 0 e, le-leb low (w / 8) a, le-leb (w / 8) high b) refl

between-ref : (low high w : ℕ) → is_between low high w ≡ true → w % 8 ≡ 0
between-ref low high w e = elim (cases_eq (w % 8) 0) [ inl a ↦ a | inr n ↦ absurd (true≢false (sym e ∙ between-no low high w n)) ]

-- the pointers of an object are those that its first field tells
pointers-with : (words : List ℕ) (s : ℕ) → pointers_with words s (get_or words (s + 1) 0) ≡ pointers_at words s
unfolding pointers_with pointers_at
pointers-with words s = refl

-- the references are rewritten, and the table says where chunks go
pub record Readied (has : ℕ → Bool) (es0 es3 : List Saved) (w0 w3 : List ℕ) : Type 0 where
  pub same_words : length w3 ≡ length w0
  pub same_table : length es3 ≡ length es0
  pub starts : (k : ℕ) → k < length es0 → start_of es3 k ≡ start_of es0 k
  pub targets : (k : ℕ) → k < length es0 → target_of es3 k ≡ target_of es0 k
  pub heads : SameHeads has w0 w3
  pub leads : (t : ℕ) → has t ≡ true → leads (get_or w0 t 0) ≡ true → get_or w3 (t - 1) 0 ≡ get_or w0 (t - 1) 0
  pub pointers : (s i : ℕ) → has s ≡ true → i < pointers_at w0 s → get_or w3 (s + 1 + i) 0 ≡ readdressed_by (goes_to es0) (get_or w0 (s + 1 + i) 0)
  pub rest : (s i : ℕ) → has s ≡ true → pointers_at w0 s ≤ i → i < slots_at w0 s → get_or w3 (s + 1 + i) 0 ≡ get_or w0 (s + 1 + i) 0
  pub loose : (j : ℕ) → ((s : ℕ) → has s ≡ true → (j < place_at w0 s) ⊎ (end_at w0 s ≤ j)) → get_or w3 j 0 ≡ get_or w0 j 0

module _ {has : ℕ → Bool} {low end next : ℕ} {es0 es1 : List Saved} {w0 w1 : List ℕ} (o : AreObjects has w0) (h : HasMoves has w0 low end es0 (length es0) next)
    (x1 : Exchanged es0 es1 w0 w1)
  where
    rising1 : (i j : ℕ) → i < j → j < length es1 → start_of es1 i < start_of es1 j
    rising1 i j l b = let z = h.rising i j l (omega (arith, b, x1.same_table)) in omega (arith, z, x1.starts i (omega (arith, l, b, x1.same_table)), x1.starts j (omega (arith, b, x1.same_table)))

    start-has : (k : ℕ) → k < length es0 → has (start_of es0 k) ≡ true
    start-has k l = (h.starts k l).0

    -- the words with the first fields put back are the words at first
    virtual-first : (j : ℕ) → virtual es1 w1 j ≡ get_or w0 j 0
    virtual-first j = elim (some-or (length es0) (λ k. start_of es0 k + 1) j) [
      | inl k ↦
          let l : k.0 < length es1 = (let z = k.1 in omega (arith, z, x1.same_table)) in
          let at : start_of es1 k.0 + 1 ≡ j = (let z = k.2 in omega (arith, z, x1.starts k.0 k.1)) in
          ap (virtual es1 w1) (sym at) ∙ virtual-at es1 w1 k.0 rising1 l ∙ x1.taken k.0 k.1 ∙ ap (λ i. get_or w0 i 0) k.2
      | inr a ↦ virtual-else es1 w1 j (λ k l e. let m : k < length es0 = omega (arith, l, x1.same_table) in a k m (omega (arith, e, x1.starts k m))) ∙ x1.others j a
    ]

    heads-first : SameHeads has w0 w1
    heads-first = heads-fields has w0 w1 es0 o.live start-has x1.others

    count-first : (s : ℕ) → has s ≡ true → count_at es1 w1 s ≡ pointers_at w0 s
    count-first s g = pointers-two w0 w1 s (get_or w0 (s + 1) 0) (virtual es1 w1 (s + 1)) (heads-first s g).header (heads-first s g).slots (virtual-first (s + 1)) ∙ pointers-with w0 s

    known-first : 0 < length es0 → (t : ℕ) → has t ≡ true → start_of es0 0 ≤ t → t ≤ start_of es0 (length es0 - 1) → is_pinned w1 t ≡ false → (k : ℕ) × (k < length es0) × (start_of es0 k ≡ t)
    known-first some t g a b f =
        let i0 = h.starts 0 some in
        let l : length es0 - 1 < length es0 = omega (arith, some) in
        let i1 = h.starts (length es0 - 1) l in
        let y = h.below (length es0 - 1) l in
        let z0 = i0.1 in
        let z1 = i1.2 in
        h.known t some (g, omega (arith, z0, a), omega (arith, z1, b)) a (omega (arith, y, b)) (sym (pinned-same (heads-first t g)) ∙ f)

    pub can-readdress : 0 < length es0 → CanReaddress has es1 w1 (start_of es0 0) (start_of es0 (length es0 - 1))
    can-readdress some = record {
      live = live-same has w0 w1 heads-first x1.same_words o.live;
      table = record {
        rising = rising1;
        inside = λ k l. let m : k < length es0 = omega (arith, l, x1.same_table) in let z = (o.live.stands (start_of es0 k) (start-has k m)).below in omega (arith, z, x1.starts k m, x1.same_words);
      };
      entries = λ k l. let m : k < length es0 = omega (arith, l, x1.same_table) in ap has (x1.starts k m) ∙ start-has k m;
      known = λ t g a b f. let k = known-first some t g a b f in (k.0, (let z = k.1 in omega (arith, z, x1.same_table)), x1.starts k.0 k.1 ∙ k.2);
      fits = λ s g. let z = o.fits s g in omega (arith, z, count-first s g, (heads-first s g).slots);
      refs = λ s i g l e.
          let v : virtual es1 w1 (s + 1 + i) ≡ get_or w0 (s + 1 + i) 0 = virtual-first (s + 1 + i) in
          let m : get_or w0 (s + 1 + i) 0 % 8 ≡ 0 = ap (λ w. w % 8) (sym v) ∙ between-ref (start_of es0 0) (start_of es0 (length es0 - 1)) (virtual es1 w1 (s + 1 + i)) e in
          ap (λ w. has (w / 8)) v ∙ o.refs s i g (omega (arith, l, count-first s g)) m;
    }

    -- a word is rewritten to its reference under the new places
    moved-is : 0 < length es0 → (w : ℕ) → (w % 8 ≡ 0 → has (w / 8) ≡ true) → moved_word w1 (start_of es0 0) (start_of es0 (length es0 - 1)) w ≡ readdressed_by (goes_to es0) w
    unfolding moved_word
    moved-is some w ref = elim (cases_eq (w % 8) 0) [
      | inr n ↦ rw (between-no (start_of es0 0) (start_of es0 (length es0 - 1)) w n, ne_eqb (w % 8) 0 n) refl
      | inl e ↦ elim (some-or (length es0) (start_of es0) (w / 8)) [
        | inl k ↦
            let first : start_of es0 0 ≤ w / 8 = elim (cases_eq k.0 0) [ inl z ↦ (let q : start_of es0 0 ≡ w / 8 = ap (start_of es0) (sym z) ∙ k.2 in omega (arith, q)) | inr p ↦ (let q = h.rising 0 k.0 (omega (arith, p)) k.1 in let r = k.2 in omega (arith, q, r)) ] in
            let last : w / 8 ≤ start_of es0 (length es0 - 1) = elim (cases_eq k.0 (length es0 - 1)) [
              | inl z ↦ (let q : start_of es0 (length es0 - 1) ≡ w / 8 = ap (start_of es0) (sym z) ∙ k.2 in omega (arith, q))
              | inr p ↦ (let m = k.1 in let q = h.rising k.0 (length es0 - 1) (omega (arith, p, m)) (omega (arith, some)) in let r = k.2 in omega (arith, q, r))
            ] in
            let g : has (w / 8) ≡ true = ref e in
            let off : is_pinned w1 (w / 8) ≡ false = pinned-same (heads-first (w / 8) g) ∙ ap (is_pinned w0) (sym k.2) ∙ h.mobile k.0 k.1 in
            let there : get_or w1 (w / 8 + 1) 0 ≡ 8 * goes_to es0 (w / 8) = ap (λ i. get_or w1 (i + 1) 0) (sym k.2) ∙ x1.put k.0 k.1 ∙ h.aim k.0 k.1 ∙ ap (λ i. 8 * i) (sym (goes-at es0 h.rising k.0 k.1)) ∙ ap (λ i. 8 * goes_to es0 i) k.2 in
            rw (between-is (start_of es0 0) (start_of es0 (length es0 - 1)) w e first last, off, eq-eqb (w % 8) 0 e) there
        | inr a ↦
            let same : goes_to es0 (w / 8) ≡ w / 8 = goes-else es0 (w / 8) a in
            let stays : 8 * (w / 8) ≡ w = omega (arith, e) in
            elim (cases_Bool (is_between (start_of es0 0) (start_of es0 (length es0 - 1)) w)) [
              | inr out ↦ rw (out, eq-eqb (w % 8) 0 e, same) (sym stays)
              | inl in' ↦ elim (cases_Bool (is_pinned w1 (w / 8))) [
                | inl on ↦ rw (in', on, eq-eqb (w % 8) 0 e, same) (sym stays)
                | inr off ↦ absurd (let b = between-bounds (start_of es0 0) (start_of es0 (length es0 - 1)) w in' in let k = known-first some (w / 8) (ref e) b.0 b.1 off in a k.0 k.1 k.2)
              ]
            ]
      ]
    ]

    -- what names objects from outside
    word-inside : (w : ℕ) → (w % 8 ≡ 0 → has (w / 8) ≡ true) → is_between (start_of es0 0) (start_of es0 (length es0 - 1)) w ≡ true → w / 8 + 1 < length w1
    word-inside w ref e =
        let z = (o.live.stands (w / 8) (ref (between-ref (start_of es0 0) (start_of es0 (length es0 - 1)) w e))).below in
        omega (arith, z, x1.same_words)

    mourner-moved : 0 < length es0 → (s : ℕ) → has s ≡ true → moved_word w1 (start_of es0 0) (start_of es0 (length es0 - 1)) (8 * s) ≡ 8 * goes_to es0 s
    mourner-moved some s g =
        let e : 8 * s % 8 ≡ 0 = omega arith in
        let q : 8 * s / 8 ≡ s = omega arith in
        moved-is some (8 * s) (λ z. ap has q ∙ g) ∙ rw (eq-eqb (8 * s % 8) 0 e) (ap (λ t. 8 * goes_to es0 t) q)

    goes-down : (s : ℕ) → has s ≡ true → goes_to es0 s < length w0
    goes-down s g =
        let z = (o.live.stands s g).below in
        elim (some-or (length es0) (start_of es0) s) [
          | inl k ↦
              let to : goes_to es0 s ≡ target_of es0 k.0 = ap (goes_to es0) (sym k.2) ∙ goes-at es0 h.rising k.0 k.1 in
              let d = (h.down k.0 k.1).0 in
              let r = h.room k.0 k.1 in
              let y = lead-low w0 (start_of es0 k.0) (o.live.stands (start_of es0 k.0) (start-has k.0 k.1)) in
              let e = k.2 in
              omega (arith, to, d, r, y, e, z)
          | inr a ↦ omega (arith, goes-else es0 s a, z)
        ]

    module _ (r : Roots) (a : AreRoots has r) where
      pub handles-inside : (i : ℕ) → i < length r.handles → is_between (start_of es0 0) (start_of es0 (length es0 - 1)) (get_or r.handles i 0) ≡ true → get_or r.handles i 0 / 8 + 1 < length w1
      handles-inside i l = word-inside (get_or r.handles i 0) (a.handles i l)

      pub special-inside : is_between (start_of es0 0) (start_of es0 (length es0 - 1)) r.special ≡ true → r.special / 8 + 1 < length w1
      special-inside = word-inside r.special a.special

      pub mourners-inside : (i : ℕ) → i < length r.mourners → start_in (get_or r.mourners i 0) + 1 < length w1
      mourners-inside i l = let z = (o.live.stands (start_in (get_or r.mourners i 0)) (a.mourners i l)).below in omega (arith, z, x1.same_words)

      module _ (some : 0 < length es0) where
        pub mourners-small : length w0 ≤ 2 ^ 27 → (i : ℕ) → i < length r.mourners → moved_word w1 (start_of es0 0) (start_of es0 (length es0 - 1)) (8 * start_in (get_or r.mourners i 0)) < 2 ^ 34
        mourners-small small i l =
            let s : ℕ = start_in (get_or r.mourners i 0) in
            let z = goes-down s (a.mourners i l) in
            omega (arith, mourner-moved some s (a.mourners i l), z, small)

        pub roots-moved : {r' : Roots} → Readdresses w1 (start_of es0 0) (start_of es0 (length es0 - 1)) r r' → RootsMovedBy (goes_to es0) r r'
        roots-moved m = record {
          same_handles = m.same_handles;
          handles = λ i l. m.handles i l ∙ moved-is some (get_or r.handles i 0) (a.handles i l);
          special = m.special ∙ moved-is some r.special a.special;
          same_mourners = m.same_mourners;
          starts = λ i l.
              let s : ℕ = start_in (get_or r.mourners i 0) in
              let q : 8 * goes_to es0 s / 8 ≡ goes_to es0 s = omega arith in
              m.starts i l ∙ ap (λ x. x / 8) (mourner-moved some s (a.mourners i l)) ∙ q;
          groups = m.groups;
        }

    module _ (some : 0 < length es0) {es2 : List Saved} {w2 : List ℕ} (r : Readdressed has es1 es2 w1 w2 (start_of es0 0) (start_of es0 (length es0 - 1)) (length w1)) where
      starts2 : (k : ℕ) → k < length es0 → start_of es2 k ≡ start_of es0 k
      starts2 k l = r.starts k (omega (arith, l, x1.same_table)) ∙ x1.starts k l

      len2 : length es2 ≡ length es0
      len2 = r.same_table ∙ x1.same_table

      pub table-second : IsTable es2 w2
      table-second = record {
        rising = λ i j l b. let z = h.rising i j l (omega (arith, b, len2)) in omega (arith, z, starts2 i (omega (arith, l, b, len2)), starts2 j (omega (arith, b, len2)));
        inside = λ k l. let m : k < length es0 = omega (arith, l, len2) in let z = (o.live.stands (start_of es0 k) (start-has k m)).below in omega (arith, z, starts2 k m, x1.same_words, r.same_words);
      }

      module _ {es3 : List Saved} {w3 : List ℕ} (x2 : Exchanged es2 es3 w2 w3) where
        len3 : length es3 ≡ length es0
        len3 = x2.same_table ∙ len2

        starts3 : (k : ℕ) → k < length es0 → start_of es3 k ≡ start_of es0 k
        starts3 k l = x2.starts k (omega (arith, l, len2)) ∙ starts2 k l

        first3 : (k : ℕ) → k < length es0 → (entry es3 k).first ≡ (entry es0 k).first
        first3 k l =
            x2.taken k (omega (arith, l, len2)) ∙ ap (λ i. get_or w2 (i + 1) 0) (r.starts k (omega (arith, l, x1.same_table))) ∙ r.targets k (omega (arith, l, x1.same_table)) ∙ ap (λ i. get_or w1 (i + 1) 0) (x1.starts k l) ∙ x1.put k l

        target3 : (k : ℕ) → k < length es0 → target_of es3 k ≡ target_of es0 k
        target3 k l = ap (λ i. i / 8) (first3 k l)

        len-w3 : length w3 ≡ length w0
        len-w3 = x2.same_words ∙ r.same_words ∙ x1.same_words

        virtual-second : (j : ℕ) → get_or w3 j 0 ≡ virtual es2 w2 j
        virtual-second j = elim (some-or (length es2) (λ k. start_of es2 k + 1) j) [
          | inl k ↦ ap (λ i. get_or w3 i 0) (sym k.2) ∙ x2.put k.0 k.1 ∙ sym (virtual-at es2 w2 k.0 table-second.rising k.1) ∙ ap (virtual es2 w2) k.2
          | inr a ↦ x2.others j a ∙ sym (virtual-else es2 w2 j a)
        ]

        others3 : (j : ℕ) → IsNoSlot has es1 w1 (length w1) j → get_or w3 j 0 ≡ get_or w0 j 0
        others3 j f = virtual-second j ∙ r.others j f ∙ virtual-first j

        can : CanReaddress has es1 w1 (start_of es0 0) (start_of es0 (length es0 - 1))
        can = can-readdress some

        header3 : (t : ℕ) → has t ≡ true → get_or w3 t 0 ≡ get_or w0 t 0
        header3 t g = others3 t (head-no_slot has es1 es2 w1 w2 (start_of es0 0) (start_of es0 (length es0 - 1)) (length w1) can r t g)

        lead3 : (t : ℕ) → has t ≡ true → leads (get_or w0 t 0) ≡ true → get_or w3 (t - 1) 0 ≡ get_or w0 (t - 1) 0
        lead3 t g on = others3 (t - 1) (lead-no_slot has es1 es2 w1 w2 (start_of es0 0) (start_of es0 (length es0 - 1)) (length w1) can r t g (ap leads ((heads-first t g).header) ∙ on))

        heads3 : SameHeads has w0 w3
        heads3 t g = record { header = header3 t g; slots = slots_at-moved w0 w3 t t (header3 t g) (lead3 t g) }

        pointers3 : (s i : ℕ) → has s ≡ true → i < pointers_at w0 s → get_or w3 (s + 1 + i) 0 ≡ readdressed_by (goes_to es0) (get_or w0 (s + 1 + i) 0)
        pointers3 s i g l =
            let z = (o.live.stands s g).below in
            virtual-second (s + 1 + i) ∙ r.slots s i g (omega (arith, z, x1.same_words)) (omega (arith, l, count-first s g)) ∙ ap (moved_word w1 (start_of es0 0) (start_of es0 (length es0 - 1))) (virtual-first (s + 1 + i))
            ∙ moved-is some (get_or w0 (s + 1 + i) 0) (o.refs s i g l)

        rest3 : (s i : ℕ) → has s ≡ true → pointers_at w0 s ≤ i → i < slots_at w0 s → get_or w3 (s + 1 + i) 0 ≡ get_or w0 (s + 1 + i) 0
        rest3 s i g a b = others3 (s + 1 + i) (λ t k l m. elim (cases_lt t s) [
          | inl c ↦ let q = (o.live.apart t s k g c).slots in let f = o.fits t k in omega (arith, q, f, count-first t k)
          | inr c ↦ elim (cases_eq t s) [
            | inl e ↦ omega (arith, e, ap (count_at es1 w1) e, count-first s g, a)
            | inr d ↦ absurd (let q = (o.live.apart s t g k (omega (arith, c, d))).slots in omega (arith, q, m, b))
          ]
        ])

        -- a word of no object
        loose3 : (j : ℕ) → ((s : ℕ) → has s ≡ true → (j < place_at w0 s) ⊎ (end_at w0 s ≤ j)) → get_or w3 j 0 ≡ get_or w0 j 0
        loose3 j f = others3 j (λ s g l m. elim (f s g) [
          | inl a ↦ omega (arith, a, m)
          | inr a ↦ let z = o.fits s g in let y = lead-low w0 s (o.live.stands s g) in omega (arith, a, z, y, count-first s g)
        ])

        pub readied : Readied has es0 es3 w0 w3
        readied = record {
          same_words = len-w3;
          same_table = len3;
          starts = starts3;
          targets = target3;
          heads = heads3;
          leads = lead3;
          pointers = pointers3;
          rest = rest3;
          loose = loose3;
        }
