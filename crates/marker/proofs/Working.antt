-- Objects are passed one after another, or set aside.
use Rattle.std.proofs.Common.{◌≡◌, ℕ, true, false, ◌+◌, ◌-◌, ◌<◌, ◌≤◌, List, [], ◌∷◌, ◌++◌, length, length-append, min, refl, sym, ap, ◌∙◌, subst, inl, inr, arith, Option}
use Rattle.std.proofs.lemmas.Bool.{cases_Bool}
use Rattle.std.proofs.lemmas.List.Edits.{length-swap}
use Rattle.std.proofs.lemmas.List.Elements.{Contains-append_left, Contains-push}
use Rattle.std.proofs.lemmas.List.Sorted.{Contains-permutation, IsPermutation-swap, IsPermutation-sym}
use Rattle.std.proofs.Math.Seq.{get_or-append_seam}
use Rattle.std.specs.Prelude.{slice_index}
use Rattle.std.specs.List.{Contains, swap}
use Rattle.std.specs.List.Sorted.{IsPermutation}
use Rattle.spur_graph.specs.declared.answer.Value.{Value}
use Rattle.spur_graph.specs.Live.{strong_count}
use Rattle.spur_graph.specs.Ordinary.{is_ordinary}
use Rattle.spur_graph.specs.Heaps.{View, heap_graph, heap_value}
use Rattle.spur_heap.proofs.NodesAt.{get_there}
use Rattle.spur_heap.specs.MarkBits.{marks}
use Rattle.spur_heap.specs.Views.{IsOrdinary, node_in, store}
use Rattle.marker.specs.Marks.{silent_of}
use Rattle.marker.specs.Waiting.{Progress, waits}
use Rattle.marker.specs.Visits.{unmarked, MarksOnly, HasRoom, HasRoomForOne, IsStackOf, Visits, NamesBelow, NamesCounted, Works}
use Rattle.marker.proofs.Keeping.{keeps_same, keeps_then, keeps_stacked, same_length}
use Rattle.marker.proofs.MarkedKeys.{ready_key}
use Rattle.marker.proofs.Visiting.{visits_as}
use Rattle.marker.proofs.Steps.{counted_scanned, has_taken, progress_turned, silent_taken, taken_has}

-- ---- the slots of an object that count

pub visits_counted : (a b : View) (s n : ℕ) → n ≡ min (strong_count (heap_graph a) (node_in a s)) (length (node_in a s).pointers) → Visits (NamesBelow a s n) a b → Visits (NamesCounted a s) a b
visits_counted a b s n is v =
    let count : ℕ = strong_count (heap_graph a) (node_in a s) in
    let vs : List Value = (node_in a s).pointers in
    visits_as (NamesBelow a s n) (NamesCounted a s) a b (λ t x. taken_has vs count n (heap_value a 0) t is x) (λ t c. has_taken vs count n (heap_value a 0) t is c) v

-- ---- works

pub works_same : (except : Option ℕ) (v : View) → Works except v v
works_same except v = record { keeps = keeps_same v; progress = λ m. m; more = λ t e. e; low = omega arith; bare = λ i. i; ordinary = λ o. o }

pub works_then : (except : Option ℕ) (a b c : View) → Works except a b → Works except b c → Works except a c
works_then except a b c w x = record {
  keeps = keeps_then w.keeps x.keeps;
  progress = λ m. subst (λ g. Progress g (silent_of except) (marks c) c.stack) w.keeps.graph (x.progress (subst (λ g. Progress g (silent_of except) (marks b) b.stack) (sym w.keeps.graph) (w.progress m)));
  more = λ t e. x.more t (w.more t e);
  low = let p = w.low in let q = x.low in omega (arith, p, q);
  bare = λ i. x.bare (w.bare i);
  ordinary = λ o. x.ordinary (w.ordinary o);
}

-- the heap with this stack
abbrev pub with_stack : View → List ℕ → View
with_stack b stack = record b { stack = stack }

-- the stack is in another order
pub works_turned : (except : Option ℕ) (b : View) (stack : List ℕ) → length stack ≡ length b.stack → ((t : ℕ) → Contains b.stack t → Contains stack t) → ((t : ℕ) → Contains stack t → Contains b.stack t) → Works except b (with_stack b stack)
works_turned except b stack long to back = record {
  keeps = keeps_stacked b (with_stack b stack) stack refl;
  progress = λ m. progress_turned (heap_graph b) (silent_of except) (marks b) b.stack stack to back m;
  more = λ t e. e;
  low = omega (arith, long);
  bare = λ i. i;
  ordinary = λ o t c. o t (back t c);
}

-- ---- two starts change places

module _ (xs : List ℕ) (i j : ℕ) (first : i < length xs) (second : j < length xs) where
  turned : IsPermutation xs (swap xs i j)
  turned = IsPermutation-swap xs (swap xs i j) i j first second refl

  pub swapped_long : length (swap xs i j) ≡ length xs
  swapped_long = length-swap xs i j

  pub swapped_to : (t : ℕ) → Contains xs t → Contains (swap xs i j) t
  swapped_to t c = Contains-permutation xs (swap xs i j) t turned c

  pub swapped_back : (t : ℕ) → Contains (swap xs i j) t → Contains xs t
  swapped_back t c = Contains-permutation (swap xs i j) xs t (IsPermutation-sym xs (swap xs i j) turned) c

-- ---- a start is taken from the stack

module _ (b p : View) (s : ℕ) (items : b.stack ≡ p.stack ++ s ∷ []) (is : p ≡ with_stack b p.stack) where
  one_less : length b.stack ≡ length p.stack + 1
  one_less = ap length items ∙ length-append p.stack (s ∷ [])

  same_unmarked : unmarked p ≡ unmarked b
  same_unmarked = ap (λ (v : View). unmarked v) is

  pub put_back : b ≡ with_stack p (p.stack ++ s ∷ [])
  put_back = ap (λ (ss : List ℕ). with_stack b ss) items ∙ sym (ap (λ (v : View). with_stack v (p.stack ++ s ∷ [])) is)

  pub popped_there : IsStackOf b → IsOrdinary p s
  popped_there o = ap (λ (v : View). is_ordinary (store v) s) is ∙ o s (subst (λ (xs : List ℕ). Contains xs s) (sym items) (Contains-push p.stack s))

  pub popped_room : HasRoom b → HasRoomForOne p
  popped_room room = let long = ap (λ (v : View). length v.words) is in omega (arith, one_less, same_unmarked, long, room)

  -- the last start of the stack
  pub popped_last : slice_index b.stack (length b.stack - 1) ≡ s
  popped_last =
      let at : length b.stack - 1 ≡ length p.stack = omega (arith, one_less) in
      ap (slice_index b.stack) at ∙ ap (λ (xs : List ℕ). slice_index xs (length p.stack)) items ∙ get_or-append_seam p.stack s [] 0

  pub popped_waits : waits b s ≡ waits p s
  popped_waits = ap (λ (v : View). waits v s) (sym is)

  -- it is passed, or set aside
  module _ (except : Option ℕ) (waiting n : ℕ) (c : View) (there : IsOrdinary p s) (within : waiting ≤ length p.stack)
      (excepted : silent_of except s ≡ true → (n ≡ waiting) × (c ≡ p))
      (aside : silent_of except s ≡ false → waits p s ≡ true → (n ≡ waiting + 1) × (c ≡ with_stack p (swap (p.stack ++ s ∷ []) waiting (length p.stack))))
      (passed : silent_of except s ≡ false → waits p s ≡ false → (n ≡ waiting) × Visits (NamesCounted p s) p c) where
    abbrev whole : List ℕ
    whole = p.stack ++ s ∷ []

    abbrev back : View
    back = with_stack p whole

    one_more : length whole ≡ length p.stack + 1
    one_more = length-append p.stack (s ∷ [])

    first : waiting < length whole
    first = omega (arith, within, one_more)

    last : length p.stack < length whole
    last = omega (arith, one_more)

    works_excepted : silent_of except s ≡ true → Works except back p
    works_excepted on = record {
      keeps = keeps_stacked back p p.stack refl;
      progress = λ m. silent_taken (heap_graph p) (silent_of except) (marks p) p.stack s on m;
      more = λ t e. e;
      low = omega (arith, one_more);
      bare = λ i. i;
      ordinary = λ o t k. o t (Contains-append_left p.stack (s ∷ []) t k);
    }

    works_aside : Works except back (with_stack p (swap whole waiting (length p.stack)))
    works_aside = works_turned except back (swap whole waiting (length p.stack)) (swapped_long whole waiting (length p.stack) first last) (swapped_to whole waiting (length p.stack) first last) (swapped_back whole waiting (length p.stack) first last)

    works_passed : silent_of except s ≡ false → waits p s ≡ false → Visits (NamesCounted p s) p c → Works except back c
    works_passed off ready v = record {
      keeps = keeps_then (keeps_stacked back p p.stack refl) v.keeps;
      progress = λ m. counted_scanned (heap_graph p) (silent_of except) (NamesCounted p s) (marks p) (marks c) p.stack c.stack s (node_in p s) off (get_there p s there) (ready_key p s ready) (λ t x. x) (λ t x. x) m v.scanned;
      more = v.scanned.keeps;
      low = let l = v.low in omega (arith, one_more, l);
      bare = v.bare;
      ordinary = λ o. v.ordinary (λ t k. o t (Contains-append_left p.stack (s ∷ []) t k));
    }

    works_by : Works except back c
    works_by = elim (cases_Bool (silent_of except s)) [
      | inl on ↦ subst (λ (v : View). Works except back v) (sym (excepted on).1) (works_excepted on)
      | inr off ↦ elim (cases_Bool (waits p s)) [
        | inl on ↦ subst (λ (v : View). Works except back v) (sym (aside off on).1) works_aside
        | inr ready ↦ works_passed off ready (passed off ready).1
      ]
    ]

    pub works_advanced : Works except b c
    works_advanced = subst (λ (v : View). Works except v c) (sym put_back) works_by

    -- what waits stands on the stack
    pub within_advanced : n ≤ length c.stack
    within_advanced = elim (cases_Bool (silent_of except s)) [
      | inl on ↦ let e = excepted on in let long = ap (λ (v : View). length v.stack) e.1 in omega (arith, e.0, long, within)
      | inr off ↦ elim (cases_Bool (waits p s)) [
        | inl on ↦ let e = aside off on in let long = ap (λ (v : View). length v.stack) e.1 in omega (arith, e.0, long, swapped_long whole waiting (length p.stack) first last, one_more, within)
        | inr ready ↦ let e = passed off ready in let grown = e.1.grown in omega (arith, e.0, grown, within)
      ]
    ]

    -- less is left to be passed, but for what is set aside
    pub less_advanced : waits p s ≡ false → unmarked c + length c.stack < unmarked b + length b.stack
    less_advanced ready = elim (cases_Bool (silent_of except s)) [
      | inl on ↦
          let count = ap (λ (v : View). unmarked v) (excepted on).1 in
          let long = ap (λ (v : View). length v.stack) (excepted on).1 in
          omega (arith, one_less, same_unmarked, count, long)
      | inr off ↦ let low = (passed off ready).1.low in omega (arith, one_less, same_unmarked, low)
    ]

    pub least_advanced : waiting ≤ n
    least_advanced = elim (cases_Bool (silent_of except s)) [
      | inl on ↦ let e = (excepted on).0 in omega (arith, e)
      | inr off ↦ elim (cases_Bool (waits p s)) [ inl on ↦ let e = (aside off on).0 in omega (arith, e) | inr ready ↦ let e = (passed off ready).0 in omega (arith, e) ]
    ]

    pub fewer_advanced : unmarked c + length c.stack - n < unmarked b + length b.stack - waiting
    fewer_advanced = elim (cases_Bool (waits p s)) [
      | inl on ↦ elim (cases_Bool (silent_of except s)) [
        | inl quiet ↦
            let e = excepted quiet in
            let count = ap (λ (v : View). unmarked v) e.1 in
            let long = ap (λ (v : View). length v.stack) e.1 in
            omega (arith, one_less, same_unmarked, count, long, e.0, within)
        | inr off ↦
            let e = aside off on in
            let count = ap (λ (v : View). unmarked v) e.1 in
            let long = ap (λ (v : View). length v.stack) e.1 in
            omega (arith, one_less, same_unmarked, count, long, e.0, within, swapped_long whole waiting (length p.stack) first last, one_more)
      ]
      | inr ready ↦
          let less = less_advanced ready in
          let least = least_advanced in
          omega (arith, less, least, within, one_less)
    ]

-- ---- room on the stack

pub room_kept : (a b : View) → MarksOnly a b → unmarked b + length b.stack ≤ unmarked a + length a.stack → HasRoom a → HasRoom b
room_kept a b keeps low room = let long = same_length keeps in omega (arith, low, room, long)
