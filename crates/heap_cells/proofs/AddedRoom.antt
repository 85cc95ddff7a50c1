-- The room of a store with an object more: at the low end of a free chunk of old space, or behind the used eden.
use Rattle.std.proofs.Common.{◌≡◌, ◌≢◌, ℕ, suc, Bool, true, false, cond, not, ◌&&◌, ◌||◌, ◌==◌, ◌+◌, ◌-◌, eqb, ltb, List, [], ◌∷◌, ◌++◌, map, length, refl, sym, ap, ◌∙◌, arith, inl, inr, append_assoc, length-append}
use Rattle.std.proofs.lemmas.Bool.{cases_Bool, eq-eqb, ne_eqb, and_parts, and_left, and_right, or_right, not-true}
use Rattle.std.proofs.lemmas.List.{map-append}
use Rattle.std.proofs.lemmas.List.Elements.{filter-append}
use Rattle.std.proofs.lemmas.List.Sums.{sum_by-cons}
use Rattle.std.specs.List.{filter, list_any, sum_by, count_by, range_with_len}
use Rattle.std.specs.Ordering.{nat_cmp}
use Rattle.std.specs.FinMap.{from_entries, insert}
use Rattle.std.specs.FinSet as sets
use Rattle.object_header.specs.Chunks.{Chunk}
use Rattle.spur_graph.specs.declared.limits.Limits.{Limits}
use Rattle.spur_graph.specs.Room.{Space, Spot, Old, Eden, Past, placed}
use Rattle.spur_graph.specs.FreeSizes.{ascending, shortened}
use Rattle.spur_graph.specs.Cells.{Body, Store, Empty, body_of, is_start, is_moved, is_there, final}
use Rattle.spur_graph.specs.Ordinary.{page_places, body_at, is_ordinary, is_internal}
use Rattle.spur_graph.specs.CellRoom.{is_free, free_sizes, internal_chunks}
use Rattle.spur_graph.specs.HeapRoom.{spot_in, spots_of, is_reached, room_in}
use Rattle.heap_cells.specs.Rows.{starts_of}
use Rattle.heap_cells.proofs.Adding.{Adds, added-here, added-other, added-final, added-internal, added-ordinary, ordinary-other, nil_slot-same, apart, apart_there}
use Rattle.heap_cells.proofs.CellKinds.{there_starts, start_is_there_or_moved}
use Rattle.heap_cells.proofs.Chains.{final-there, good_forwarder_ends}
use Rattle.heap_cells.proofs.FreeSizes.{served_sizes}
use Rattle.heap_cells.proofs.Members.{In, in_either, in_left, in_right, filter_in}
use Rattle.heap_cells.proofs.Tables.{filter_members, filter_none, any_members, entries_more, members_more}

-- ---- a row in which one member became others

pub in_map : {X Y : Type 0} (f : X → Y) (xs : List X) (y : Y) → In (map f xs) y → (x : X) × In xs x × (f x ≡ y)
in_map f [] y k = absurd k
in_map f (x ∷ xs) y k = elim k [
  | inl e ↦ (x, inl refl, e)
  | inr m ↦ let r = in_map f xs y m in (r.0, inr r.1, r.2)
]

module _ {X : Type 0} (p q : X → Bool) (xs rest ys : List X) (f c : X) (on_xs : (x : X) → In xs x → q x ≡ p x) (on_ys : (x : X) → In ys x → q x ≡ p x) where
  filter-out : p f ≡ false → filter p (xs ++ f ∷ ys) ≡ filter p xs ++ filter p ys
  filter-out off = filter-append p xs (f ∷ ys) ∙ ap (λ b. filter p xs ++ cond b (f ∷ filter p ys) (filter p ys)) off

  filter-front : (zs : List X) → filter q (xs ++ zs) ≡ filter p xs ++ filter q zs
  filter-front zs = filter-append q xs zs ∙ ap (λ ds. ds ++ filter q zs) (filter_members q p xs on_xs)

  filter-behind : ((d : X) → In rest d → q d ≡ false) → filter q (rest ++ ys) ≡ filter p ys
  filter-behind off = filter-append q rest ys ∙ (λ i. filter_none q rest off i ++ filter_members q p ys on_ys i)

  filter-in : q c ≡ true → ((d : X) → In rest d → q d ≡ false) → filter q (xs ++ c ∷ (rest ++ ys)) ≡ filter p xs ++ c ∷ filter p ys
  filter-in on off = filter-front (c ∷ (rest ++ ys)) ∙ (λ i. filter p xs ++ cond (on i) (c ∷ filter-behind off i) (filter-behind off i))

  filter-gone : q c ≡ false → ((d : X) → In rest d → q d ≡ false) → filter q (xs ++ c ∷ (rest ++ ys)) ≡ filter p xs ++ filter p ys
  filter-gone absent off = filter-front (c ∷ (rest ++ ys)) ∙ (λ i. filter p xs ++ cond (absent i) (c ∷ filter-behind off i) (filter-behind off i))

  filter-rest : q c ≡ false → ((d : X) → In rest d → q d ≡ true) → filter q (xs ++ c ∷ (rest ++ ys)) ≡ filter p xs ++ (rest ++ filter p ys)
  filter-rest absent on =
      filter-front (c ∷ (rest ++ ys)) ∙ ap (λ b. filter p xs ++ cond b (c ∷ filter q (rest ++ ys)) (filter q (rest ++ ys))) absent
      ∙ ap (λ ds. filter p xs ++ ds) (filter-append q rest ys ∙ (λ i. all-pass rest on i ++ filter_members q p ys on_ys i))
    where
      all-pass : (ds : List X) → ((d : X) → In ds d → q d ≡ true) → filter q ds ≡ ds
      all-pass [] pass = refl
      all-pass (d ∷ ds) pass = ap (λ b. cond b (d ∷ filter q ds) (filter q ds)) (pass d (inl refl)) ∙ ap (λ es. d ∷ es) (all-pass ds (λ e m. pass e (inr m)))

  any-gone : p f ≡ false → q c ≡ false → ((d : X) → In rest d → q d ≡ false) → list_any q (xs ++ c ∷ (rest ++ ys)) ≡ list_any p (xs ++ f ∷ ys)
  any-gone f_off c_off off = over xs on_xs
    where
      skip : (ds : List X) → ((d : X) → In ds d → q d ≡ false) → list_any q (ds ++ ys) ≡ list_any q ys
      skip [] none = refl
      skip (d ∷ ds) none = ap (λ b. b || list_any q (ds ++ ys)) (none d (inl refl)) ∙ skip ds (λ e m. none e (inr m))

      over : (zs : List X) → ((x : X) → In zs x → q x ≡ p x) → list_any q (zs ++ c ∷ (rest ++ ys)) ≡ list_any p (zs ++ f ∷ ys)
      over [] on = ap (λ b. b || list_any q (rest ++ ys)) c_off ∙ skip rest off ∙ any_members q p ys on_ys ∙ sym (ap (λ b. b || list_any p ys) f_off)
      over (z ∷ zs) on = λ i. on z (inl refl) i || over zs (λ y m. on y (inr m)) i

pub any-has : {X : Type 0} (p : X → Bool) (xs : List X) (x : X) → In xs x → p x ≡ true → list_any p xs ≡ true
any-has p [] x k on = absurd k
any-has p (y ∷ ys) x k on = elim k [
  | inl e ↦ ap (λ b. b || list_any p ys) (ap p e ∙ on)
  | inr m ↦ or_right (p y) (list_any p ys) (any-has p ys x m on)
]

pub any-none : {X : Type 0} (p : X → Bool) (xs : List X) → ((x : X) → In xs x → p x ≡ false) → list_any p xs ≡ false
any-none p [] off = refl
any-none p (x ∷ xs) off = ap (λ b. b || list_any p xs) (off x (inl refl)) ∙ any-none p xs (λ y m. off y (inr m))

pub count-members : {X : Type 0} (p q : X → Bool) (xs : List X) → ((x : X) → In xs x → p x ≡ q x) → count_by p xs ≡ count_by q xs
count-members p q [] e = refl
count-members p q (x ∷ xs) e =
    sum_by-cons (λ y. cond (p y) 1 0) x xs ∙ (λ i. cond (e x (inl refl) i) 1 0 + count-members p q xs (λ y m. e y (inr m)) i) ∙ sym (sum_by-cons (λ y. cond (q y) 1 0) x xs)

-- how many starts pass a test
starts-passing : (p : ℕ → Bool) (cs : List Chunk) → length (filter p (starts_of cs)) ≡ length (filter (λ (d : Chunk). p d.start) cs)
starts-passing p [] = refl
starts-passing p (c ∷ cs) = elim (cases_Bool (p c.start)) [
  | inl on ↦
      ap (λ b. length (cond b (c.start ∷ filter p (starts_of cs)) (filter p (starts_of cs)))) on ∙ ap suc (starts-passing p cs)
      ∙ sym (ap (λ b. length (cond b (c ∷ filter (λ (d : Chunk). p d.start) cs) (filter (λ (d : Chunk). p d.start) cs))) on)
  | inr off ↦
      ap (λ b. length (cond b (c.start ∷ filter p (starts_of cs)) (filter p (starts_of cs)))) off ∙ starts-passing p cs
      ∙ sym (ap (λ b. length (cond b (c ∷ filter (λ (d : Chunk). p d.start) cs) (filter (λ (d : Chunk). p d.start) cs))) off)
]

one-more : (xs ys : List Chunk) (c : Chunk) → length (xs ++ c ∷ ys) ≡ length (xs ++ ys) + 1
one-more xs ys c = let a = length-append xs (c ∷ ys) in let b = length-append xs ys in omega (arith, a, b)

-- ---- chunks elsewhere

module _ {old new : Store} {s : ℕ} {b : Body} (k : Adds old new s b) where
  is_start-other : (d : Chunk) → d.start ≢ s → is_start (new.cell d.start) ≡ is_start (old.cell d.start)
  is_start-other d n = ap is_start (added-other k d.start n)

  free-other : (d : Chunk) → d.start ≢ s → is_free new d ≡ is_free old d
  free-other d n = ap not (is_start-other d n)

  internal-other : (d : Chunk) → d.start ≢ s → (is_start (new.cell d.start) && is_internal new d.start) ≡ (is_start (old.cell d.start) && is_internal old d.start)
  internal-other d n = λ x. is_start-other d n x && added-internal k d.start x

  reaches-other : (t : ℕ) (d : Chunk) → d.start ≢ s → (is_start (new.cell d.start) && eqb (final new d.start) t) ≡ (is_start (old.cell d.start) && eqb (final old d.start) t)
  reaches-other t d n = λ x. is_start-other d n x && eqb (added-final k d.start x) t

  outer : is_internal new s ≡ false
  outer = not-true _ (and_parts (is_there (new.cell s)) (not (is_internal new s)) (added-ordinary k)).1

  -- the internal objects have the pins that they had
  pins-kept : (cs : List Chunk) → count_by (λ (d : Chunk). (body_at new d.start).pinned == 1) (internal_chunks old cs) ≡ count_by (λ (d : Chunk). (body_at old d.start).pinned == 1) (internal_chunks old cs)
  pins-kept cs = count-members (λ (d : Chunk). (body_at new d.start).pinned == 1) (λ (d : Chunk). (body_at old d.start).pinned == 1) (internal_chunks old cs) (λ d m.
      let on = (filter_in (λ (e : Chunk). is_start (old.cell e.start) && is_internal old e.start) cs d m).1 in
      let n = apart k d.start (and_parts (is_start (old.cell d.start)) (is_internal old d.start) on).0 in
      ap (λ c. (body_of c).pinned == 1) (added-other k d.start n))

  spots-kept : (space : Space) (cs : List Chunk) → ((d : Chunk) → In cs d → d.start ≢ s) → spots_of space new cs ≡ spots_of space old cs
  spots-kept space cs away = ap (λ ds. map (λ (c : Chunk). (c.start, spot_in space c)) ds) (filter_members (λ (d : Chunk). is_ordinary new d.start) (λ (d : Chunk). is_ordinary old d.start) cs (λ d m. ordinary-other k d.start (away d m)))

  -- a spot among others, of which none before it has this start
  spots-more : (space : Space) (c : Chunk) → c.start ≡ s → (xs ys : List Chunk) (tail : List (ℕ × Spot)) → ((d : Chunk) → In xs d → d.start ≢ s)
      → from_entries {R = nat_cmp} (map (λ (d : Chunk). (d.start, spot_in space d)) (xs ++ c ∷ ys) ++ tail)
      ≡ insert (from_entries {R = nat_cmp} (map (λ (d : Chunk). (d.start, spot_in space d)) (xs ++ ys) ++ tail)) s (spot_in space c)
  spots-more space c is xs ys tail away =
      let e : Chunk → ℕ × Spot = λ d. (d.start, spot_in space d) in
      ap (λ es. from_entries {R = nat_cmp} (es ++ tail)) (map-append e xs (c ∷ ys))
      ∙ ap (λ es. from_entries {R = nat_cmp} es) (append_assoc (map e xs) (e c ∷ map e ys) tail)
      ∙ ap (λ t. from_entries {R = nat_cmp} (map e xs ++ (t, spot_in space c) ∷ (map e ys ++ tail))) is
      ∙ entries_more s (spot_in space c) (map e xs) (map e ys ++ tail) (λ y m. let d = in_map e xs y m in λ same. away d.0 d.1 (ap (λ (z : ℕ × Spot). z.0) d.2 ∙ same))
      ∙ ap (λ es. insert (from_entries {R = nat_cmp} es) s (spot_in space c)) (sym (append_assoc (map e xs) (map e ys) tail) ∙ ap (λ es. es ++ tail) (sym (map-append e xs ys)))

  module _ (xs rest ys eden past : List Chunk) (f c : Chunk) (is : c.start ≡ s) (free : old.cell f.start ≡ Empty) (rest_free : (d : Chunk) → In rest d → new.cell d.start ≡ Empty)
      (away : (d : Chunk) → In (xs ++ (ys ++ (eden ++ past))) d → d.start ≢ s) where
    abbrev front : List Chunk
    front = xs ++ f ∷ ys

    abbrev front' : List Chunk
    front' = xs ++ c ∷ (rest ++ ys)

    abbrev young : List Chunk
    young = eden ++ past

    away_xs : (d : Chunk) → In xs d → d.start ≢ s
    away_xs d m = away d (in_left xs (ys ++ young) d m)

    away_ys : (d : Chunk) → In ys d → d.start ≢ s
    away_ys d m = away d (in_right xs (ys ++ young) d (in_left ys young d m))

    away_zs : (d : Chunk) → In (ys ++ young) d → d.start ≢ s
    away_zs d m = away d (in_right xs (ys ++ young) d m)

    abbrev o : Chunk → Bool
    o d = is_ordinary old d.start

    abbrev o' : Chunk → Bool
    o' d = is_ordinary new d.start

    o_xs : (d : Chunk) → In xs d → o' d ≡ o d
    o_xs d m = ordinary-other k d.start (away_xs d m)

    o_zs : (d : Chunk) → In (ys ++ young) d → o' d ≡ o d
    o_zs d m = ordinary-other k d.start (away_zs d m)

    o_ys : (d : Chunk) → In ys d → o' d ≡ o d
    o_ys d m = ordinary-other k d.start (away_ys d m)

    o_f : o f ≡ false
    o_f = ap (λ x. is_there x && not (is_internal old f.start)) free

    o_c : o' c ≡ true
    o_c = ap (is_ordinary new) is ∙ added-ordinary k

    o_rest : (d : Chunk) → In rest d → o' d ≡ false
    o_rest d m = ap (λ x. is_there x && not (is_internal new d.start)) (rest_free d m)

    -- ---- spots

    old-spots : from_entries {R = nat_cmp} (spots_of Old new front' ++ (spots_of Eden new eden ++ spots_of Past new past))
        ≡ insert (from_entries {R = nat_cmp} (spots_of Old old front ++ (spots_of Eden old eden ++ spots_of Past old past))) s (spot_in Old c)
    old-spots =
        let e : Chunk → ℕ × Spot = λ d. (d.start, spot_in Old d) in
        let tail : List (ℕ × Spot) = spots_of Eden old eden ++ spots_of Past old past in
        let tails : spots_of Eden new eden ++ spots_of Past new past ≡ tail =
        λ x. spots-kept Eden eden (λ d m. away_zs d (in_right ys young d (in_left eden past d m))) x ++ spots-kept Past past (λ d m. away_zs d (in_right ys young d (in_right eden past d m))) x in
        (λ x. from_entries {R = nat_cmp} (map e (filter-in o o' xs rest ys f c o_xs o_ys o_c o_rest x) ++ tails x))
        ∙ spots-more Old c is (filter o xs) (filter o ys) tail (λ d m. away_xs d (filter_in o xs d m).0)
        ∙ ap (λ ds. insert (from_entries {R = nat_cmp} (map e ds ++ tail)) s (spot_in Old c)) (sym (filter-out o o' xs rest ys f c o_xs o_ys o_f))

    -- ---- old names

    reached-other : (t : ℕ) → t ≢ s → is_reached new front' t ≡ is_reached old front t
    unfolding is_reached
    reached-other t n =
        any-gone (λ (d : Chunk). is_start (old.cell d.start) && eqb (final old d.start) t) (λ (d : Chunk). is_start (new.cell d.start) && eqb (final new d.start) t) xs rest ys f c
        (λ d m. reaches-other t d (away_xs d m)) (λ d m. reaches-other t d (away_ys d m))
        (ap (λ x. is_start x && eqb (final old f.start) t) free)
        (and_right (is_start (new.cell c.start)) (eqb (final new c.start) t) (ap (λ u. eqb u t) (ap (final new) is ∙ final-there new s (ap is_there (added-here k))) ∙ ne_eqb s t (λ e. n (sym e))))
        (λ d m. ap (λ x. is_start x && eqb (final new d.start) t) (rest_free d m))

    reached-self : is_reached new front' c.start ≡ true
    unfolding is_reached
    reached-self = any-has (λ (d : Chunk). is_start (new.cell d.start) && eqb (final new d.start) c.start) front' c (in_right xs (c ∷ (rest ++ ys)) c (inl refl))
        (let there : is_there (new.cell c.start) ≡ true = ap (λ t. is_there (new.cell t)) is ∙ ap is_there (added-here k) in
        λ x. there_starts (new.cell c.start) there x && (ap (λ u. eqb u c.start) (final-there new c.start there) ∙ eq-eqb c.start c.start refl) x)

    abbrev r : Chunk → Bool
    r d = is_reached old front d.start

    abbrev r' : Chunk → Bool
    r' d = is_reached new front' d.start

    all-after : front' ++ young ≡ xs ++ c ∷ (rest ++ (ys ++ young))
    all-after = append_assoc xs (c ∷ (rest ++ ys)) young ∙ ap (λ ds. xs ++ c ∷ ds) (append_assoc rest ys young)

    all-before : front ++ young ≡ xs ++ f ∷ (ys ++ young)
    all-before = append_assoc xs (f ∷ ys) young

    abbrev X : List Chunk
    X = filter o xs

    abbrev Z : List Chunk
    Z = filter o (ys ++ young)

    names-after : filter r' (filter o' (front' ++ young)) ≡ filter r X ++ c ∷ filter r Z
    names-after =
        ap (λ ds. filter r' (filter o' ds)) all-after
        ∙ ap (filter r') (filter-in o o' xs rest (ys ++ young) f c o_xs o_zs o_c o_rest)
        ∙ filter-in r r' X [] Z f c (λ d m. reached-other d.start (away_xs d (filter_in o xs d m).0)) (λ d m. reached-other d.start (away_zs d (filter_in o (ys ++ young) d m).0)) reached-self (λ d m. absurd m)

    names-before : filter r (filter o (front ++ young)) ≡ filter r X ++ filter r Z
    names-before =
        ap (λ ds. filter r (filter o ds)) all-before
        ∙ ap (filter r) (filter-out o o' xs rest (ys ++ young) f c o_xs o_zs o_f)
        ∙ filter-append r X Z

    old-names : sets.from_list {R = nat_cmp} (map (λ (d : Chunk). d.start) (filter r' (filter o' (front' ++ young))))
        ≡ sets.insert (sets.from_list {R = nat_cmp} (map (λ (d : Chunk). d.start) (filter r (filter o (front ++ young))))) s
    old-names =
        let start = λ (d : Chunk). d.start in
        ap (λ ds. sets.from_list {R = nat_cmp} (map start ds)) names-after
        ∙ ap (λ ts. sets.from_list {R = nat_cmp} ts) (map-append start (filter r X) (c ∷ filter r Z))
        ∙ ap (λ t. sets.from_list {R = nat_cmp} (map start (filter r X) ++ t ∷ map start (filter r Z))) is
        ∙ members_more (map start (filter r X)) (map start (filter r Z)) s
        ∙ ap (λ ts. sets.insert (sets.from_list {R = nat_cmp} ts) s) (sym (ap (map start) names-before ∙ map-append start (filter r X) (filter r Z)))

    -- one ordinary start more
    pub count-taken : length (filter (is_ordinary new) (starts_of (xs ++ c ∷ (rest ++ (ys ++ young))))) ≡ length (filter (is_ordinary old) (starts_of (xs ++ f ∷ (ys ++ young)))) + 1
    count-taken =
        let more = starts-passing (is_ordinary new) (xs ++ c ∷ (rest ++ (ys ++ young))) ∙ ap (λ (ds : List Chunk). length ds) (filter-in o o' xs rest (ys ++ young) f c o_xs o_zs o_c o_rest) ∙ one-more X Z c in
        let was = starts-passing (is_ordinary old) (xs ++ f ∷ (ys ++ young)) ∙ ap (λ (ds : List Chunk). length ds) (filter-out o o' xs rest (ys ++ young) f c o_xs o_zs o_f) in
        more ∙ ap (λ n. n + 1) (sym was)

    -- ---- free chunks, internal objects, pages

    sizes-after : free_sizes new front' ≡ map (λ (d : Chunk). d.size) (filter (is_free old) xs) ++ (map (λ (d : Chunk). d.size) rest ++ map (λ (d : Chunk). d.size) (filter (is_free old) ys))
    sizes-after =
        let size = λ (d : Chunk). d.size in
        ap (map size) (filter-rest (is_free old) (is_free new) xs rest ys f c (λ d m. free-other d (away_xs d m)) (λ d m. free-other d (away_ys d m))
        (ap (λ t. not (is_start (new.cell t))) is ∙ ap (λ x. not (is_start x)) (added-here k)) (λ d m. ap (λ x. not (is_start x)) (rest_free d m)))
        ∙ map-append size (filter (is_free old) xs) (rest ++ filter (is_free old) ys)
        ∙ ap (λ ns. map size (filter (is_free old) xs) ++ ns) (map-append size rest (filter (is_free old) ys))

    sizes-before : free_sizes old front ≡ map (λ (d : Chunk). d.size) (filter (is_free old) xs) ++ f.size ∷ map (λ (d : Chunk). d.size) (filter (is_free old) ys)
    sizes-before =
        let size = λ (d : Chunk). d.size in
        ap (map size) (filter-append (is_free old) xs (f ∷ ys) ∙ ap (λ b. filter (is_free old) xs ++ cond b (f ∷ filter (is_free old) ys) (filter (is_free old) ys)) (ap (λ x. not (is_start x)) free))
        ∙ map-append size (filter (is_free old) xs) (f ∷ filter (is_free old) ys)

    sizes-served : (n : ℕ) → map (λ (d : Chunk). d.size) rest ≡ cond (ltb n f.size) ((f.size - n) ∷ []) [] → ascending (free_sizes new front') ≡ shortened n f.size (ascending (free_sizes old front))
    sizes-served n left =
        let size = λ (d : Chunk). d.size in
        ap ascending sizes-after
        ∙ ap (λ ns. ascending (map size (filter (is_free old) xs) ++ (ns ++ map size (filter (is_free old) ys)))) left
        ∙ sym (ap (λ ns. shortened n f.size (ascending ns)) sizes-before ∙ served_sizes n f.size (map size (filter (is_free old) xs)) (map size (filter (is_free old) ys)))

    abbrev i : Chunk → Bool
    i d = is_start (old.cell d.start) && is_internal old d.start

    abbrev i' : Chunk → Bool
    i' d = is_start (new.cell d.start) && is_internal new d.start

    internals-kept : internal_chunks new front' ≡ internal_chunks old front
    internals-kept =
        filter-gone i i' xs rest ys f c (λ d m. internal-other d (away_xs d m)) (λ d m. internal-other d (away_ys d m))
        (and_right (is_start (new.cell c.start)) (is_internal new c.start) (ap (is_internal new) is ∙ outer))
        (λ d m. ap (λ x. is_start x && is_internal new d.start) (rest_free d m))
        ∙ sym (filter-out i i' xs rest ys f c (λ d m. internal-other d (away_xs d m)) (λ d m. internal-other d (away_ys d m)) (ap (λ x. is_start x && is_internal old f.start) free))

    -- the low words of a free chunk are the object, and the rest is a free chunk
    pub room-taken : (n words : ℕ) (limits : Limits) (eden_used past_used : ℕ) → map (λ (d : Chunk). d.size) rest ≡ cond (ltb n f.size) ((f.size - n) ∷ []) []
        → room_in new front' eden past words limits eden_used past_used
        ≡ placed (record (room_in old front eden past words limits eden_used past_used) { free = shortened n f.size (room_in old front eden past words limits eden_used past_used).free }) s (spot_in Old c)
    unfolding room_in
    room-taken n words limits eden_used past_used left =
        let pins : count_by (λ (d : Chunk). (body_at new d.start).pinned == 1) (internal_chunks new front') ≡ count_by (λ (d : Chunk). (body_at old d.start).pinned == 1) (internal_chunks old front) =
        ap (count_by (λ (d : Chunk). (body_at new d.start).pinned == 1)) internals-kept ∙ pins-kept front in
        λ x. record {
          old_words = words;
          eden_words = limits.eden;
          survivor_words = limits.survivor;
          spots = old-spots x;
          old_names = old-names x;
          free = sizes-served n left x;
          eden_left = limits.eden - eden_used;
          past_used = past_used;
          internal_words = sum_by (λ (d : Chunk). d.size) (internals-kept x);
          internal_pinned = pins x;
          pages = sets.from_list (filter (λ j. not (nil_slot-same k j x)) (range_with_len 0 page_places));
        }

  -- ---- behind the used eden

  module _ (front eden past : List Chunk) (c : Chunk) (is : c.start ≡ s) (away : (d : Chunk) → In (front ++ (eden ++ past)) d → d.start ≢ s) where
    away_front : (d : Chunk) → In front d → d.start ≢ s
    away_front d m = away d (in_left front (eden ++ past) d m)

    away_eden : (d : Chunk) → In eden d → d.start ≢ s
    away_eden d m = away d (in_right front (eden ++ past) d (in_left eden past d m))

    away_past : (d : Chunk) → In past d → d.start ≢ s
    away_past d m = away d (in_right front (eden ++ past) d (in_right eden past d m))

    abbrev p : Chunk → Bool
    p d = is_ordinary old d.start

    abbrev p' : Chunk → Bool
    p' d = is_ordinary new d.start

    p_c : p' c ≡ true
    p_c = ap (is_ordinary new) is ∙ added-ordinary k

    p-other : (d : Chunk) → d.start ≢ s → p' d ≡ p d
    p-other d n = ordinary-other k d.start n

    eden-more : filter p' (eden ++ c ∷ []) ≡ filter p eden ++ c ∷ []
    eden-more = filter-in p p' eden [] [] c c (λ d m. p-other d (away_eden d m)) (λ d m. absurd m) p_c (λ d m. absurd m)

    eden-spots : from_entries {R = nat_cmp} (spots_of Old new front ++ (spots_of Eden new (eden ++ c ∷ []) ++ spots_of Past new past))
        ≡ insert (from_entries {R = nat_cmp} (spots_of Old old front ++ (spots_of Eden old eden ++ spots_of Past old past))) s (spot_in Eden c)
    eden-spots =
        let e : Chunk → ℕ × Spot = λ d. (d.start, spot_in Eden d) in
        let g : Chunk → ℕ × Spot = λ d. (d.start, spot_in Old d) in
        let F : List (ℕ × Spot) = spots_of Old old front in
        let E : List (ℕ × Spot) = spots_of Eden old eden in
        let P : List (ℕ × Spot) = spots_of Past old past in
        let more : spots_of Eden new (eden ++ c ∷ []) ++ P ≡ E ++ (c.start, spot_in Eden c) ∷ P =
        ap (λ ds. map e ds ++ P) eden-more ∙ ap (λ es. es ++ P) (map-append e (filter p eden) (c ∷ [])) ∙ append_assoc E (e c ∷ []) P in
        (λ x. from_entries {R = nat_cmp} (spots-kept Old front away_front x ++ (spots_of Eden new (eden ++ c ∷ []) ++ spots-kept Past past away_past x)))
        ∙ ap (λ es. from_entries {R = nat_cmp} (F ++ es)) more
        ∙ ap (λ es. from_entries {R = nat_cmp} es) (sym (append_assoc F E ((c.start, spot_in Eden c) ∷ P)))
        ∙ ap (λ t. from_entries {R = nat_cmp} ((F ++ E) ++ (t, spot_in Eden c) ∷ P)) is
        ∙ entries_more s (spot_in Eden c) (F ++ E) P (λ y m. elim (in_either F E y m) [
          | inl a ↦ let d = in_map g (filter p front) y a in λ same. away_front d.0 (filter_in p front d.0 d.1).0 (ap (λ (z : ℕ × Spot). z.0) d.2 ∙ same)
          | inr a ↦ let d = in_map e (filter p eden) y a in λ same. away_eden d.0 (filter_in p eden d.0 d.1).0 (ap (λ (z : ℕ × Spot). z.0) d.2 ∙ same)
        ])
        ∙ ap (λ es. insert (from_entries {R = nat_cmp} es) s (spot_in Eden c)) (append_assoc F E P)

    eden-reached : (t : ℕ) → is_reached new front t ≡ is_reached old front t
    unfolding is_reached
    eden-reached t = any_members (λ (d : Chunk). is_start (new.cell d.start) && eqb (final new d.start) t) (λ (d : Chunk). is_start (old.cell d.start) && eqb (final old d.start) t) front (λ d m. reaches-other t d (away_front d m))

    -- whatever old space reaches stood there before
    final_apart : (t : ℕ) → is_start (old.cell t) ≡ true → final old t ≢ s
    final_apart t on = elim (cases_Bool (is_moved (old.cell t))) [
      | inl moved ↦ apart_there k (final old t) (good_forwarder_ends old t (k.sound.ends t) moved)
      | inr unmoved ↦
          let there : is_there (old.cell t) ≡ true = start_is_there_or_moved (old.cell t) on ∙ ap not unmoved in
          λ e. apart_there k t there (sym (final-there old t there) ∙ e)
    ]

    unreached : is_reached old front c.start ≡ false
    unfolding is_reached
    unreached = any-none (λ (d : Chunk). is_start (old.cell d.start) && eqb (final old d.start) c.start) front (λ d m. elim (cases_Bool (is_start (old.cell d.start))) [
      | inl on ↦ and_right (is_start (old.cell d.start)) (eqb (final old d.start) c.start) (ne_eqb (final old d.start) c.start (λ e. final_apart d.start on (e ∙ is)))
      | inr off ↦ and_left (is_start (old.cell d.start)) (eqb (final old d.start) c.start) off
    ])

    abbrev q : Chunk → Bool
    q d = is_reached old front d.start

    abbrev q' : Chunk → Bool
    q' d = is_reached new front d.start

    eden-all : front ++ ((eden ++ c ∷ []) ++ past) ≡ (front ++ eden) ++ c ∷ past
    eden-all = ap (λ ds. front ++ ds) (append_assoc eden (c ∷ []) past) ∙ sym (append_assoc front eden (c ∷ past))

    eden-names : filter q' (filter p' (front ++ ((eden ++ c ∷ []) ++ past))) ≡ filter q (filter p (front ++ (eden ++ past)))
    eden-names =
        let A : List Chunk = front ++ eden in
        let away_A : (d : Chunk) → In A d → d.start ≢ s = λ d m. elim (in_either front eden d m) [ inl a ↦ away_front d a | inr a ↦ away_eden d a ] in
        ap (λ ds. filter q' (filter p' ds)) eden-all
        ∙ ap (filter q') (filter-in p p' A [] past c c (λ d m. p-other d (away_A d m)) (λ d m. p-other d (away_past d m)) p_c (λ d m. absurd m))
        ∙ filter-gone q q' (filter p A) [] (filter p past) c c (λ d m. eden-reached d.start) (λ d m. eden-reached d.start) (eden-reached c.start ∙ unreached) (λ d m. absurd m)
        ∙ sym (filter-append q (filter p A) (filter p past))
        ∙ ap (filter q) (sym (filter-append p A past))
        ∙ ap (λ ds. filter q (filter p ds)) (append_assoc front eden past)

    -- one ordinary start more
    pub count-grown : length (filter (is_ordinary new) (starts_of ((front ++ eden) ++ c ∷ past))) ≡ length (filter (is_ordinary old) (starts_of ((front ++ eden) ++ past))) + 1
    count-grown =
        let A : List Chunk = front ++ eden in
        let away_A : (d : Chunk) → In A d → d.start ≢ s = λ d m. elim (in_either front eden d m) [ inl a ↦ away_front d a | inr a ↦ away_eden d a ] in
        let more = starts-passing (is_ordinary new) (A ++ c ∷ past) ∙ ap (λ (ds : List Chunk). length ds) (filter-in p p' A [] past c c (λ d m. p-other d (away_A d m)) (λ d m. p-other d (away_past d m)) p_c (λ d m. absurd m)) ∙ one-more (filter p A) (filter p past) c in
        let was = starts-passing (is_ordinary old) (A ++ past) ∙ ap (λ (ds : List Chunk). length ds) (filter-append p A past) in
        more ∙ ap (λ n. n + 1) (sym was)

    eden-internals : internal_chunks new front ≡ internal_chunks old front
    eden-internals = filter_members (λ (d : Chunk). is_start (new.cell d.start) && is_internal new d.start) (λ (d : Chunk). is_start (old.cell d.start) && is_internal old d.start) front (λ d m. internal-other d (away_front d m))

    eden-free : free_sizes new front ≡ free_sizes old front
    eden-free = ap (map (λ (d : Chunk). d.size)) (filter_members (is_free new) (is_free old) front (λ d m. free-other d (away_front d m)))

    -- words behind the used eden are the object
    pub room-grown : (words : ℕ) (limits : Limits) (eden_used past_used : ℕ)
        → room_in new front (eden ++ c ∷ []) past words limits (eden_used + c.size) past_used
        ≡ placed (record (room_in old front eden past words limits eden_used past_used) { eden_left = (room_in old front eden past words limits eden_used past_used).eden_left - c.size }) s (spot_in Eden c)
    unfolding room_in
    room-grown words limits eden_used past_used =
        let left : limits.eden - (eden_used + c.size) ≡ limits.eden - eden_used - c.size = omega arith in
        let pins : count_by (λ (d : Chunk). (body_at new d.start).pinned == 1) (internal_chunks new front) ≡ count_by (λ (d : Chunk). (body_at old d.start).pinned == 1) (internal_chunks old front) =
        ap (count_by (λ (d : Chunk). (body_at new d.start).pinned == 1)) eden-internals ∙ pins-kept front in
        λ x. record {
          old_words = words;
          eden_words = limits.eden;
          survivor_words = limits.survivor;
          spots = eden-spots x;
          old_names = sets.from_list (map (λ (d : Chunk). d.start) (eden-names x));
          free = ascending (eden-free x);
          eden_left = left x;
          past_used = past_used;
          internal_words = sum_by (λ (d : Chunk). d.size) (eden-internals x);
          internal_pinned = pins x;
          pages = sets.from_list (filter (λ j. not (nil_slot-same k j x)) (range_with_len 0 page_places));
        }
