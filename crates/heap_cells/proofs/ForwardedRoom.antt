-- The room once an object became a forwarder: the object has no spot, and where old space had or reached it, it reaches the other.
use Rattle.std.proofs.Common.{◌≡◌, ◌≢◌, ℕ, Bool, true, false, cond, not, ◌&&◌, ◌||◌, ◌==◌, ◌-◌, List, [], ◌∷◌, ◌++◌, map, refl, sym, ap, ◌∙◌, inl, inr, Some, None}
use Rattle.std.proofs.lemmas.Bool.{false≢true, cases_Bool, cases_eq, eq-eqb, ne_eqb, and_parts, not-true, false_from_ne_true}
use Rattle.std.proofs.lemmas.List.{append-nil}
use Rattle.std.specs.List.{filter, range_with_len, sum_by, count_by, list_any}
use Rattle.std.specs.Ordering.{nat_cmp, eq_by_cmp}
use Rattle.std.specs.Cmp.{nat_cmp_total}
use Rattle.std.specs.FinMap.{FinMap, get, remove, from_entries, find, get-from_entries, get-remove, same_map, nat_cmp-IsAntisymmetric}
use Rattle.std.specs.FinSet.{FinSet, contains, contains-insert, contains-remove, contains-from_list, same_set}
use Rattle.std.specs.FinSet as sets
use Rattle.spur_graph.specs.declared.limits.Limits.{Limits}
use Rattle.spur_graph.specs.Become.{room_redirected}
use Rattle.spur_graph.specs.Room.{Space, Spot, Old, Eden, Past}
use Rattle.object_header.specs.Chunks.{Chunk}
use Rattle.spur_graph.specs.Cells.{Store, body_of, is_start, is_there}
use Rattle.spur_graph.specs.Ordinary.{page_places, body_at, is_ordinary, is_internal}
use Rattle.spur_graph.specs.FreeSizes.{ascending}
use Rattle.spur_graph.specs.HeapRoom.{room_in, is_reached, spot_in, spots_of, old_names_of}
use Rattle.heap_cells.specs.Rows.{starts_of}
use Rattle.heap_cells.proofs.AddedRoom.{any-has, count-members}
use Rattle.heap_cells.proofs.Members.{In, filter_in}
use Rattle.heap_cells.proofs.Reaching.{any_at, reached-forwarded}
use Rattle.heap_cells.proofs.Finding.{same_key, key_same}
use Rattle.heap_cells.proofs.Forwarding.{Forwards, with_forwarder, others_kept, start-same, internal-same, nil_slot-same, ordinary-here, ordinary-other}

module _ {old : Store} {a b : ℕ} (k : Forwards old a b) where
  abbrev new : Store
  new = with_forwarder old a b

  -- ---- spots

  spots_other : (space : Space) (q : ℕ) → q ≢ a → (es ds : List (ℕ × Spot)) → find nat_cmp q es ≡ find nat_cmp q ds → (cs : List Chunk) → find nat_cmp q (spots_of space new cs ++ es) ≡ find nat_cmp q (spots_of space old cs ++ ds)
  spots_other space q n es ds e [] = e
  spots_other space q n es ds e (c ∷ cs) = elim (cases_eq c.start a) [
    | inl is ↦
        let off : is_ordinary new c.start ≡ false = ap (is_ordinary new) is ∙ ordinary-here k in
        let far : eq_by_cmp nat_cmp q c.start ≡ false = false_from_ne_true _ (λ x. n (key_same q c.start x ∙ is)) in
        elim (cases_Bool (is_ordinary old c.start)) [
          | inl on ↦ rw (off, on, far) (spots_other space q n es ds e cs)
          | inr without ↦ rw (off, without) (spots_other space q n es ds e cs)
        ]
    | inr other ↦ elim (cases_Bool (is_ordinary old c.start)) [
      | inl on ↦
          let now : is_ordinary new c.start ≡ true = ordinary-other k c.start other ∙ on in
          rw (now, on) (ap (λ o. cond (eq_by_cmp nat_cmp q c.start) (Some (spot_in space c)) o) (spots_other space q n es ds e cs))
      | inr off ↦ let now : is_ordinary new c.start ≡ false = ordinary-other k c.start other ∙ off in rw (now, off) (spots_other space q n es ds e cs)
    ]
  ]

  spots_gone : (space : Space) (es : List (ℕ × Spot)) → find nat_cmp a es ≡ None → (cs : List Chunk) → find nat_cmp a (spots_of space new cs ++ es) ≡ None
  spots_gone space es e [] = e
  spots_gone space es e (c ∷ cs) = elim (cases_Bool (is_ordinary new c.start)) [
    | inr off ↦ rw off (spots_gone space es e cs)
    | inl on ↦
        let far : eq_by_cmp nat_cmp a c.start ≡ false = false_from_ne_true _ (λ x. false≢true (sym (ordinary-here k) ∙ ap (is_ordinary new) (key_same a c.start x) ∙ on)) in
        rw (on, far) (spots_gone space es e cs)
  ]

  spots-forwarded : (front eden past : List Chunk) → from_entries {R = nat_cmp} (spots_of Old new front ++ (spots_of Eden new eden ++ spots_of Past new past)) ≡ remove (from_entries {R = nat_cmp} (spots_of Old old front ++ (spots_of Eden old eden ++ spots_of Past old past))) a
  spots-forwarded front eden past = same_map nat_cmp_total nat_cmp-IsAntisymmetric _ _ (λ q.
      let was : FinMap nat_cmp Spot = from_entries {R = nat_cmp} (spots_of Old old front ++ (spots_of Eden old eden ++ spots_of Past old past)) in
      get-from_entries nat_cmp_total (spots_of Old new front ++ (spots_of Eden new eden ++ spots_of Past new past)) q
      ∙ elim (cases_eq q a) [
        | inl e ↦
            ap (λ r. find nat_cmp r (spots_of Old new front ++ (spots_of Eden new eden ++ spots_of Past new past))) e
            ∙ spots_gone Old (spots_of Eden new eden ++ spots_of Past new past) (spots_gone Eden (spots_of Past new past) (last_gone past) eden) front
            ∙ sym (ap (λ x. cond x None (get was q)) (same_key q a e))
        | inr n ↦
            spots_other Old q n (spots_of Eden new eden ++ spots_of Past new past) (spots_of Eden old eden ++ spots_of Past old past) (spots_other Eden q n (spots_of Past new past) (spots_of Past old past) (last_other q n past) eden) front
            ∙ sym (get-from_entries nat_cmp_total (spots_of Old old front ++ (spots_of Eden old eden ++ spots_of Past old past)) q)
            ∙ sym (ap (λ x. cond x None (get was q)) (false_from_ne_true _ (λ x. n (key_same q a x))))
      ]
      ∙ sym (get-remove nat_cmp_total was a q))
    where
      last_gone : (cs : List Chunk) → find nat_cmp a (spots_of Past new cs) ≡ None
      last_gone cs = ap (find nat_cmp a) (sym (append-nil (spots_of Past new cs))) ∙ spots_gone Past [] refl cs

      last_other : (q : ℕ) → q ≢ a → (cs : List Chunk) → find nat_cmp q (spots_of Past new cs) ≡ find nat_cmp q (spots_of Past old cs)
      last_other q n cs = ap (find nat_cmp q) (sym (append-nil (spots_of Past new cs))) ∙ spots_other Past q n [] [] refl cs ∙ ap (find nat_cmp q) (append-nil (spots_of Past old cs))

  -- ---- old names

  module _ (front all : List Chunk) (a_in : In (starts_of all) a) (b_in : In (starts_of all) b) where
    abbrev was : FinSet nat_cmp
    was = sets.from_list {R = nat_cmp} (old_names_of old front all)

    abbrev here : ℕ → Bool
    here q = list_any (eq_by_cmp nat_cmp q) (starts_of all)

    had : (q : ℕ) → contains was q ≡ ((is_ordinary old q && is_reached old front q) && here q)
    had q = contains-from_list nat_cmp_total (old_names_of old front all) q ∙ any_at (is_ordinary old) (is_reached old front) q all

    has : (q : ℕ) → contains (sets.from_list {R = nat_cmp} (old_names_of new front all)) q ≡ ((is_ordinary new q && is_reached new front q) && here q)
    has q = contains-from_list nat_cmp_total (old_names_of new front all) q ∙ any_at (is_ordinary new) (is_reached new front) q all

    had_at : (q : ℕ) → is_ordinary old q ≡ true → In (starts_of all) q → contains was q ≡ is_reached old front q
    had_at q on m = had q ∙ (λ i. (on i && is_reached old front q) && any-has (eq_by_cmp nat_cmp q) (starts_of all) q m (same_key q q refl) i) ∙ plain (is_reached old front q)
      where
        plain : (x : Bool) → (x && true) ≡ x
        plain true = refl
        plain false = refl

    has_at_b : contains (sets.from_list {R = nat_cmp} (old_names_of new front all)) b ≡ (contains was b || contains was a)
    has_at_b =
        let n : b ≢ a = λ e. k.apart (sym e) in
        has b ∙ (λ i. ((ordinary-other k b n ∙ k.to) i && (reached-forwarded k front b n ∙ (λ j. is_reached old front b || (eq-eqb b b refl j && is_reached old front a))) i) && any-has (eq_by_cmp nat_cmp b) (starts_of all) b b_in (same_key b b refl) i)
        ∙ plain (is_reached old front b || is_reached old front a)
        ∙ sym (λ i. had_at b k.to b_in i || had_at a k.from a_in i)
      where
        plain : (x : Bool) → (x && true) ≡ x
        plain true = refl
        plain false = refl

    has_other : (q : ℕ) → q ≢ a → q ≢ b → contains (sets.from_list {R = nat_cmp} (old_names_of new front all)) q ≡ contains was q
    has_other q n m =
        has q ∙ (λ i. (ordinary-other k q n i && (reached-forwarded k front q n ∙ (λ j. is_reached old front q || (ne_eqb q b m j && is_reached old front a)) ∙ drop_false (is_reached old front q)) i) && here q) ∙ sym (had q)
      where
        drop_false : (x : Bool) → (x || false) ≡ x
        drop_false true = refl
        drop_false false = refl

    has_gone : contains (sets.from_list {R = nat_cmp} (old_names_of new front all)) a ≡ false
    has_gone = has a ∙ (λ i. (ordinary-here k i && is_reached new front a) && here a)

    abbrev with_b : FinSet nat_cmp
    with_b = cond (contains was a) (sets.insert was b) was

    in_with_b : (q : ℕ) → contains with_b q ≡ cond (contains was a) (eq_by_cmp nat_cmp q b || contains was q) (contains was q)
    in_with_b q = elim (cases_Bool (contains was a)) [
      | inl on ↦ rw on (contains-insert nat_cmp_total was b q)
      | inr off ↦ rw off refl
    ]

    names-forwarded : sets.from_list {R = nat_cmp} (old_names_of new front all) ≡ sets.remove with_b a
    names-forwarded = same_set nat_cmp_total nat_cmp-IsAntisymmetric _ _ (λ q. elim (cases_eq q a) [
      | inl e ↦
          ap (contains (sets.from_list {R = nat_cmp} (old_names_of new front all))) e ∙ has_gone
          ∙ sym (contains-remove nat_cmp_total with_b a q ∙ (λ i. not (same_key q a e i) && contains with_b q))
      | inr n ↦
          let other : eq_by_cmp nat_cmp q a ≡ false = false_from_ne_true _ (λ x. n (key_same q a x)) in
          let right : contains (sets.remove with_b a) q ≡ cond (contains was a) (eq_by_cmp nat_cmp q b || contains was q) (contains was q) = contains-remove nat_cmp_total with_b a q ∙ (λ i. not (other i) && contains with_b q) ∙ in_with_b q in
          elim (cases_eq q b) [
            | inl e ↦ ap (contains (sets.from_list {R = nat_cmp} (old_names_of new front all))) e ∙ has_at_b ∙ chosen (contains was a) (contains was b) ∙ sym (right ∙ (λ i. cond (contains was a) (same_key q b e i || contains was (e i)) (contains was (e i))))
            | inr m ↦
                let far : eq_by_cmp nat_cmp q b ≡ false = false_from_ne_true _ (λ x. m (key_same q b x)) in
                has_other q n m ∙ sym (right ∙ (λ i. cond (contains was a) (far i || contains was q) (contains was q)) ∙ both_ways (contains was a) (contains was q))
          ]
    ])
      where
        chosen : (x y : Bool) → (y || x) ≡ cond x true y
        chosen true true = refl
        chosen true false = refl
        chosen false true = refl
        chosen false false = refl

        both_ways : (x y : Bool) → cond x y y ≡ y
        both_ways true y = refl
        both_ways false y = refl

  pub room-forwarded : (front eden past : List Chunk) → In (starts_of (front ++ (eden ++ past))) a → In (starts_of (front ++ (eden ++ past))) b → (words : ℕ) (limits : Limits) (eden_used past_used : ℕ)
      → room_in (with_forwarder old a b) front eden past words limits eden_used past_used ≡ room_redirected (room_in old front eden past words limits eden_used past_used) a b
  unfolding room_in
  room-forwarded front eden past a_in b_in words limits eden_used past_used =
      let apart : (c : Chunk) → In (filter (λ (d : Chunk). is_start (old.cell d.start) && is_internal old d.start) front) c → c.start ≢ a = λ c m is.
      let inside = (and_parts (is_start (old.cell c.start)) (is_internal old c.start) (filter_in (λ (d : Chunk). is_start (old.cell d.start) && is_internal old d.start) front c m).1).1 in
      let outer = not-true _ (and_parts (is_there (old.cell a)) (not (is_internal old a)) k.from).1 in
      false≢true (sym outer ∙ ap (is_internal old) (sym is) ∙ inside) in
      let pinned : count_by (λ (c : Chunk). (body_at new c.start).pinned == 1) (filter (λ (c : Chunk). is_start (old.cell c.start) && is_internal old c.start) front)
      ≡ count_by (λ (c : Chunk). (body_at old c.start).pinned == 1) (filter (λ (c : Chunk). is_start (old.cell c.start) && is_internal old c.start) front) =
      count-members (λ (c : Chunk). (body_at new c.start).pinned == 1) (λ (c : Chunk). (body_at old c.start).pinned == 1) (filter (λ (c : Chunk). is_start (old.cell c.start) && is_internal old c.start) front)
      (λ c m. ap (λ y. (body_of y).pinned == 1) (others_kept k c.start (apart c m))) in
      let counted : count_by (λ (c : Chunk). (body_at new c.start).pinned == 1) (filter (λ (c : Chunk). is_start (new.cell c.start) && is_internal new c.start) front)
      ≡ count_by (λ (c : Chunk). (body_at old c.start).pinned == 1) (filter (λ (c : Chunk). is_start (old.cell c.start) && is_internal old c.start) front) =
      (λ x. count_by (λ (c : Chunk). (body_at new c.start).pinned == 1) (filter (λ (c : Chunk). start-same k c.start x && internal-same k c.start x) front)) ∙ pinned in
      λ x. record {
        old_words = words;
        eden_words = limits.eden;
        survivor_words = limits.survivor;
        spots = spots-forwarded front eden past x;
        old_names = names-forwarded front (front ++ (eden ++ past)) a_in b_in x;
        free = ascending (map (λ (c : Chunk). c.size) (filter (λ (c : Chunk). not (start-same k c.start x)) front));
        eden_left = limits.eden - eden_used;
        past_used = past_used;
        internal_words = sum_by (λ (c : Chunk). c.size) (filter (λ (c : Chunk). start-same k c.start x && internal-same k c.start x) front);
        internal_pinned = counted x;
        pages = sets.from_list (filter (λ i. not (nil_slot-same k i x)) (range_with_len 0 page_places));
      }
