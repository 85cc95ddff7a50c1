-- An entry of the class table is made: the store with another word in a page.
use Rattle.std.proofs.Common.{◌≡◌, ◌≢◌, ℕ, true, false, not, cond, ◌&&◌, ◌||◌, ◌/◌, ◌%◌, ◌<◌, eqb, ltb, List, [], ◌∷◌, map, length, get_or, set, refl, sym, ap, ◌∙◌, arith, inl, inr, Some, None, Option}
use Rattle.std.proofs.lemmas.Bool.{false≢true, cases_Bool, cases_eq, cases_lt, eq-eqb, ne_eqb, eqb-true, ltb-true, le-ltb, and_parts, and_left, and_right, or_cases, or_left, or_right, or_parts, not-false, not-true, not_from_true, false_from_ne_true}
use Rattle.std.proofs.lemmas.List.{length-set, get_or-set_same, get_or-set_other}
use Rattle.std.specs.Option.{unwrap_or}
use Rattle.std.specs.List.{filter, list_any, range_with_len}
use Rattle.std.specs.Ordering.{nat_cmp, eq_by_cmp}
use Rattle.std.specs.Cmp.{nat_cmp_total}
use Rattle.std.specs.FinMap.{FinMap, get, insert, from_entries, find, get-from_entries, get-insert, same_map, nat_cmp-IsAntisymmetric}
use Rattle.spur_graph.specs.declared.answer.Value.TheVariants.{Ref}
use Rattle.spur_graph.specs.Graph.{handle_cmp}
use Rattle.spur_graph.specs.Cells.{Body, There, Store, is_there, body_of, first, lead, any_below}
use Rattle.spur_graph.specs.Ordinary.{page_places, page_entries, class_limit, is_at, passes, body_at, root_slot, tells, is_nil_slot, is_first, is_page_body, is_page, is_internal, is_ordinary, ordinary_starts, has_page, page_of, entry, has_entry, is_no_index, is_entered, is_bad_entry}
use Rattle.spur_graph.specs.CellGraph.{read, node_of, nodes_of, has_class, classes_of}
use Rattle.spur_graph.specs.Heaps.{IsSound, own_name, handle_values, graph_in}
use Rattle.heap_cells.proofs.Below.{any_below-has, at-named, passed, and-same}
use Rattle.heap_cells.proofs.Bodies.{with_words}
use Rattle.heap_cells.proofs.Entries.{place_below}
use Rattle.heap_cells.proofs.Finding.{key_same, same_key}
use Rattle.heap_cells.proofs.Internals.{a_page, not_first}
use Rattle.spur_heap.proofs.InPlace.{changed, Alike, cell-here, cell-other, kept, lead-same, alike_formed}
use Rattle.spur_heap.proofs.Swap.{Swap, page_internal, root-same, ordinary-same, has_page-same, sound_swapped}
use Rattle.spur_heap.proofs.Graphs.{map_kept, read-same, node-same, starts-same, mourners-same}
use Rattle.spur_heap.proofs.ClassTable.{key_kept, key_past}

-- an entry that is made: `w` leads to an ordinary object whose hash is the index, and the entry of the page at `p` led to nil
pub record Enters (old : Store) (index w start p : ℕ) (b : Body) : Type 0 where
  pub sound : IsSound old
  pub below : index < class_limit
  pub has : has_page old index ≡ true
  pub page : is_page old (index / page_entries) ≡ true
  pub named : old.to (root_slot old (index / page_entries)) ≡ Some p
  pub there : old.cell p ≡ There b
  pub leads : lead old w ≡ Some start
  pub value : read own_name old w ≡ Ref start
  pub ordinary : is_ordinary old start ≡ true
  pub other : start ≢ first old 0
  pub known : is_no_index index ≡ false
  pub hash : (body_at old start).hash ≡ index
  pub unentered : lead old (entry old index) ≡ Some (first old 0)

-- a page is named by one slot of the hidden roots
pages_apart : (h : Store) (i j q r : ℕ) → i < j → is_page h j ≡ true → h.to (root_slot h i) ≡ Some q → h.to (root_slot h j) ≡ Some r → q ≢ r
unfolding is_page
pages_apart h i j q r l page at_i at_j e =
    let p = passed (λ s. is_there (h.cell s) && is_page_body (body_at h s) && not (is_first h s) && not (any_below (λ k. tells h k s) j)) (h.to (root_slot h j)) page in
    let n = p.is in
    let same : p.one ≡ r = cc in
    let once : any_below (λ k. tells h k p.one) j ≡ false = not-true _ (and_parts _ (not (any_below (λ k. tells h k p.one) j)) p.holds).1 in
    let told : tells h i p.one ≡ true = ap (is_at p.one) at_i ∙ eq-eqb q p.one (e ∙ sym same) in
    false≢true (sym once ∙ any_below-has (λ k. tells h k p.one) j i l told)

-- what the class table of a store has at an index
found_kept : {X : Type 0} (f : ℕ → X) (i : ℕ) (js : List ℕ) → find nat_cmp i (map (λ j. (j, f j)) js) ≡ cond (list_any (eq_by_cmp nat_cmp i) js) (Some (f i)) None
found_kept f i [] = refl
found_kept f i (j ∷ js) = elim (cases_Bool (eq_by_cmp nat_cmp i j)) [ inl on ↦ rw on (ap (λ k. Some (f k)) (sym (key_same i j on))) | inr off ↦ rw off (found_kept f i js) ]

pub classes_at : (h : Store) (q : ℕ) → get (classes_of own_name h) q ≡ cond (has_class h q) (Some (read own_name h (entry h q))) None
unfolding classes_of
classes_at h q = among class_limit refl
  where
    among : (n : ℕ) → n ≡ class_limit → get (from_entries {R = nat_cmp} (map (λ j. (j, read own_name h (entry h j))) (filter (has_class h) (range_with_len 0 n)))) q ≡ cond (has_class h q) (Some (read own_name h (entry h q))) None
    among n all =
        get-from_entries nat_cmp_total (map (λ j. (j, read own_name h (entry h j))) (filter (has_class h) (range_with_len 0 n))) q
        ∙ found_kept (λ j. read own_name h (entry h j)) q (filter (has_class h) (range_with_len 0 n))
        ∙ ap (λ b. cond b (Some (read own_name h (entry h q))) None) (elim (cases_lt q n) [
          | inl low ↦ key_kept (has_class h) n q low
          | inr far ↦ key_past (has_class h) n q far ∙ sym (ap (λ b. (b && not (is_nil_slot h (q / page_entries))) && not (is_at (first h 0) (lead h (entry h q)))) (le-ltb q class_limit (omega (arith, far, all))))
        ])

module _ {old : Store} {index w start p : ℕ} {b : Body} (k : Enters old index w start p b) where
  abbrev pub entered_body : Body
  entered_body = with_words b (set b.words (index % page_entries) w)

  abbrev new : Store
  new = changed old p entered_body

  i_below : index / page_entries < page_places
  i_below = place_below index k.below

  -- the page is what `p` names
  page_is : (a_page old (index / page_entries) k.page).0 ≡ p
  page_is = let n = (a_page old (index / page_entries) k.page).1.named in let m = k.named in cc

  body_is : is_page_body b ≡ true
  body_is = sym (ap (λ c. is_page_body (body_of c)) k.there) ∙ ap (λ q. is_page_body (body_at old q)) (sym page_is) ∙ (a_page old (index / page_entries) k.page).1.body

  format_is : b.format ≡ 2
  format_is = eqb-true b.format 2 (and_parts (eqb b.format 2) (eqb (length b.words) page_entries) body_is).0

  pub length_is : length b.words ≡ page_entries
  length_is = eqb-true (length b.words) page_entries (and_parts (eqb b.format 2) (eqb (length b.words) page_entries) body_is).1

  internal : is_internal old p ≡ true
  internal = ap (is_internal old) (sym page_is) ∙ page_internal old (index / page_entries) i_below (a_page old (index / page_entries) k.page).0 (a_page old (index / page_entries) k.page).1

  -- an ordinary object is another
  apart : (t : ℕ) → is_ordinary old t ≡ true → t ≢ p
  apart t on e = false≢true (sym (not-true _ (and_parts (is_there (old.cell t)) (not (is_internal old t)) on).1) ∙ ap (is_internal old) e ∙ internal)

  pub entered_alike : Alike old p b entered_body
  entered_alike = record {
    place = record { there = k.there };
    class = refl;
    format = refl;
    like = record { long = length-set b.words (index % page_entries) w; first = λ l. absurd (omega (arith, l, format_is)) };
  }

  pub entered_swap : Swap old p b entered_body
  entered_swap = record {
    sound = k.sound;
    place = entered_alike.place;
    formed = alike_formed entered_alike k.sound;
    inner = λ on. record { format = refl; long = entered_alike.like.long; pinned = refl };
    roots = λ e. not_first old (a_page old (index / page_entries) k.page).0 4 (omega arith) (a_page old (index / page_entries) k.page).1.later (page_is ∙ sym e);
    slots = λ on. absurd (apart p on refl);
  }

  -- ---- the entries

  own_page : page_of old index ≡ p
  own_page = ap (λ o. unwrap_or o old.names) k.named

  page_of-same : (i : ℕ) → page_of new i ≡ page_of old i
  page_of-same i = ap (λ u. unwrap_or (old.to u) old.names) (root-same entered_swap (i / page_entries))

  pub entry-here : entry new index ≡ w
  entry-here =
      ap (λ q. get_or (body_at new q).words (index % page_entries) 0) (page_of-same index ∙ own_page)
      ∙ ap (λ c. get_or (body_of c).words (index % page_entries) 0) (cell-here entered_swap.place)
      ∙ get_or-set_same b.words (index % page_entries) w 0 (omega (arith, length_is))

  page-at : (i : ℕ) → has_page old i ≡ true → is_page old (i / page_entries) ≡ true
  page-at i e =
      let parts = and_parts (ltb i class_limit) (not (is_nil_slot old (i / page_entries))) e in
      let l = place_below i (ltb-true i class_limit parts.0) in
      not-false _ (sym (ap (λ x. not x && not (is_page old (i / page_entries))) (not-true _ parts.1)) ∙ k.sound.roots.pages (i / page_entries) l)

  pub entry-other : (i : ℕ) → has_page old i ≡ true → i ≢ index → entry new i ≡ entry old i
  entry-other i e n = elim (cases_eq (i / page_entries) (index / page_entries)) [
    | inl same ↦
        let at : page_of old i ≡ p = ap (λ m. unwrap_or (old.to (root_slot old m)) old.names) same ∙ own_page in
        let slot : i % page_entries ≢ index % page_entries = λ rest. n (omega (arith, same, rest)) in
        ap (λ q. get_or (body_at new q).words (i % page_entries) 0) (page_of-same i ∙ at)
        ∙ ap (λ c. get_or (body_of c).words (i % page_entries) 0) (cell-here entered_swap.place)
        ∙ get_or-set_other b.words (index % page_entries) (i % page_entries) w 0 slot
        ∙ sym (ap (λ c. get_or (body_of c).words (i % page_entries) 0) k.there)
        ∙ sym (ap (λ q. get_or (body_at old q).words (i % page_entries) 0) at)
    | inr other ↦
        let page = page-at i e in
        let q = a_page old (i / page_entries) page in
        let is : page_of old i ≡ q.0 = ap (λ o. unwrap_or o old.names) q.1.named in
        let far : q.0 ≢ p = elim (cases_lt (i / page_entries) (index / page_entries)) [
          | inl low ↦ pages_apart old (i / page_entries) (index / page_entries) q.0 p low k.page q.1.named k.named
          | inr high ↦ λ e. pages_apart old (index / page_entries) (i / page_entries) p q.0 (omega (arith, high, other)) page k.named q.1.named (sym e)
        ] in
        ap (λ t. get_or (body_at new t).words (i % page_entries) 0) (page_of-same i) ∙ ap (λ c. get_or (body_of c).words (i % page_entries) 0) (cell-other entered_swap.place (page_of old i) (λ e. far (sym is ∙ e)))
  ]

  lead-other : (i : ℕ) → has_page old i ≡ true → i ≢ index → lead new (entry new i) ≡ lead old (entry old i)
  lead-other i e n = ap (lead new) (entry-other i e n) ∙ lead-same entered_swap.place (entry old i)

  lead-here : lead new (entry new index) ≡ Some start
  lead-here = ap (lead new) entry-here ∙ lead-same entered_swap.place w ∙ k.leads

  -- ---- entered classes

  hash-same : (t : ℕ) → (body_at new t).hash ≡ (body_at old t).hash
  hash-same = kept entered_swap.place (λ c. (body_of c).hash) refl

  entered-kept : (t : ℕ) → t ≢ first old 0 → is_entered old t ≡ true → is_entered new t ≡ true
  unfolding is_entered
  entered-kept t n on =
      let hash : ℕ = (body_at old t).hash in
      let entry_there = (and_parts (is_ordinary old t && not (is_no_index hash)) (has_entry old hash t) on).1 in
      let parts = and_parts (has_page old hash) (is_at t (lead old (entry old hash))) entry_there in
      let leads : lead old (entry old hash) ≡ Some t = at-named t (lead old (entry old hash)) parts.1 in
      let other : hash ≢ index = λ e. n (let nil : lead old (entry old hash) ≡ Some (first old 0) = ap (λ m. lead old (entry old m)) e ∙ k.unentered in cc) in
      let has : has_entry new hash t ≡ has_entry old hash t = λ x. has_page-same entered_swap hash x && is_at t (lead-other hash parts.0 other x) in
      (λ x. ordinary-same entered_swap t x && not (is_no_index (hash-same t x)) && (ap (λ m. has_entry new m t) (hash-same t) ∙ has) x) ∙ on

  entered-here : is_entered new start ≡ true
  unfolding is_entered
  entered-here =
      let hash : (body_at new start).hash ≡ index = hash-same start ∙ k.hash in
      let has : has_entry new index start ≡ true = (λ x. (has_page-same entered_swap index ∙ k.has) x && is_at start (lead-here x)) ∙ eq-eqb start start refl in
      λ x. (ordinary-same entered_swap start ∙ k.ordinary) x && not ((ap is_no_index hash ∙ k.known) x) && (ap (λ m. has_entry new m start) hash ∙ has) x

  some_index : eqb index 0 ≡ false
  some_index = (or_parts (eqb index 0) (eqb index 3) (or_parts (eqb index 0 || eqb index 3) (eqb index 8) k.known).0).0

  good_entry : (i : ℕ) → is_bad_entry new i ≡ false
  good_entry i = elim (cases_Bool (has_page old i)) [
    | inr off ↦ and_left _ _ (has_page-same entered_swap i ∙ off)
    | inl on ↦ and_right _ _ (not_from_true _ (elim (cases_eq i index) [
      | inl e ↦
          let test : (eqb start (first old 0) || (not (eqb index 0) && is_entered new start)) ≡ true = or_right (eqb start (first old 0)) _ (λ x. not (some_index x) && entered-here x) in
          ap (λ m. passes (λ t. eqb t (first old 0) || (not (eqb m 0) && is_entered new t)) (lead new (entry new m))) e ∙ ap (passes (λ t. eqb t (first old 0) || (not (eqb index 0) && is_entered new t))) lead-here ∙ test
      | inr n ↦
          let was : passes (λ t. eqb t (first old 0) || (not (eqb i 0) && is_entered old t)) (lead old (entry old i)) ≡ true =
          not-false _ (sym (ap (λ x. x && not (passes (λ t. eqb t (first old 0) || (not (eqb i 0) && is_entered old t)) (lead old (entry old i)))) on) ∙ k.sound.roots.entries i) in
          ap (passes (λ t. eqb t (first old 0) || (not (eqb i 0) && is_entered new t))) (lead-other i on n) ∙ stays i (lead old (entry old i)) was
    ]))
  ]
    where
      stays_at : (i t : ℕ) → (eqb t (first old 0) || (not (eqb i 0) && is_entered old t)) ≡ true → (eqb t (first old 0) || (not (eqb i 0) && is_entered new t)) ≡ true
      stays_at i t on = elim (cases_eq t (first old 0)) [
        | inl e ↦ or_left _ _ (eq-eqb t (first old 0) e)
        | inr n ↦ elim (or_cases (eqb t (first old 0)) (not (eqb i 0) && is_entered old t) on) [
          | inl nil ↦ or_left _ _ nil
          | inr class ↦ let parts = and_parts (not (eqb i 0)) (is_entered old t) class in or_right (eqb t (first old 0)) _ (λ x. parts.0 x && entered-kept t n parts.1 x)
        ]
      ]

      stays : (i : ℕ) (o : Option ℕ) → passes (λ t. eqb t (first old 0) || (not (eqb i 0) && is_entered old t)) o ≡ true → passes (λ t. eqb t (first old 0) || (not (eqb i 0) && is_entered new t)) o ≡ true
      stays i None on = on
      stays i (Some t) on = stays_at i t on

  pub entered_sound : IsSound new
  entered_sound = sound_swapped entered_swap good_entry

  -- ---- the graph has one entry more

  class-here : has_class new index ≡ true
  class-here = (λ x. (has_page-same entered_swap index ∙ k.has) x && not (is_at (first old 0) (lead-here x))) ∙ ap not (ne_eqb start (first old 0) k.other)

  class-other : (i : ℕ) → i ≢ index → has_class new i ≡ has_class old i
  class-other i n = and-same (has_page new i) (has_page old i) (not (is_at (first old 0) (lead new (entry new i)))) (not (is_at (first old 0) (lead old (entry old i)))) (has_page-same entered_swap i)
      (λ e x. not (is_at (first old 0) (lead-other i e n x)))

  found-other : (q : ℕ) → q ≢ index → cond (has_class new q) (Some (read own_name new (entry new q))) None ≡ cond (has_class old q) (Some (read own_name old (entry old q))) None
  found-other q n = elim (cases_Bool (has_class old q)) [
    | inr off ↦ ap (λ c. cond c (Some (read own_name new (entry new q))) None) (class-other q n ∙ off) ∙ sym (ap (λ c. cond c (Some (read own_name old (entry old q))) None) off)
    | inl on ↦
        let page = (and_parts (has_page old q) (not (is_at (first old 0) (lead old (entry old q)))) on).0 in
        ap (λ c. cond c (Some (read own_name new (entry new q))) None) (class-other q n ∙ on)
        ∙ ap (λ v. Some v) (read-same entered_swap (entry new q) ∙ ap (read own_name old) (entry-other q page n))
        ∙ sym (ap (λ c. cond c (Some (read own_name old (entry old q))) None) on)
  ]

  classes-entered : classes_of own_name new ≡ insert (classes_of own_name old) index (Ref start)
  classes-entered = same_map nat_cmp_total nat_cmp-IsAntisymmetric (classes_of own_name new) (insert (classes_of own_name old) index (Ref start)) (λ q.
      classes_at new q ∙ at q ∙ sym (get-insert nat_cmp_total (classes_of own_name old) index (Ref start) q))
    where
      at : (q : ℕ) → cond (has_class new q) (Some (read own_name new (entry new q))) None ≡ cond (eq_by_cmp nat_cmp q index) (Some (Ref start)) (get (classes_of own_name old) q)
      at q = elim (cases_eq q index) [
        | inl e ↦
            ap (λ m. cond (has_class new m) (Some (read own_name new (entry new m))) None) e ∙ ap (λ c. cond c (Some (read own_name new (entry new index))) None) class-here
            ∙ ap (λ v. Some v) (read-same entered_swap (entry new index) ∙ ap (read own_name old) entry-here ∙ k.value)
            ∙ sym (ap (λ c. cond c (Some (Ref start)) (get (classes_of own_name old) q)) (same_key q index e))
        | inr n ↦
            found-other q n ∙ sym (classes_at old q)
            ∙ sym (ap (λ c. cond c (Some (Ref start)) (get (classes_of own_name old) q)) (false_from_ne_true _ (λ on. n (key_same q index on))))
      ]

  nodes-entered : nodes_of own_name new ≡ nodes_of own_name old
  unfolding nodes_of ordinary_starts
  nodes-entered =
      ap (λ ss. from_entries {R = nat_cmp} (map (λ t. (t, node_of own_name new (body_at new t))) ss)) (starts-same entered_swap)
      ∙ ap (λ es. from_entries {R = nat_cmp} es) (map_kept (is_ordinary old) (λ t. (t, node_of own_name old (body_at old t))) (λ t. (t, node_of own_name new (body_at new t)))
      (λ t on. let node : node_of own_name new (body_at new t) ≡ node_of own_name old (body_at old t) = node-same entered_swap (body_at new t) ∙ ap (λ c. node_of own_name old (body_of c)) (cell-other entered_swap.place t (apart t on)) in λ x. (t, node x))
      old.starts)

  pub graph-entered : (special : ℕ) (held : FinMap handle_cmp ℕ) (groups : List (List ℕ)) (hash next : ℕ)
      → graph_in new special held groups hash next ≡ record (graph_in old special held groups hash next) { classes = insert (classes_of own_name old) index (Ref start) }
  graph-entered special held groups hash next =
      λ x. record (graph_in old special held groups hash next) {
        nodes = nodes-entered x;
        special = read-same entered_swap special x;
        classes = classes-entered x;
        handles = handle_values (λ u. read-same entered_swap u x) held;
        mourners = mourners-same entered_swap groups x;
      }
