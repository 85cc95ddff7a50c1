-- How many slots are not free, and what that says of a search.
use Rattle.std.proofs.Common.{◌≡◌, ◌≢◌, ◌<◌, ◌≤◌, ℕ, zero, suc, ◌+◌, ◌-◌, List, [], ◌∷◌, length, slice_index, slice_set, min, replicate, refl, sym, ap, subst, ◌∙◌, inl, inr, arith}
use Rattle.std.proofs.lemmas.List.Sums.{sum_by-set, sum_by-cons}
use Rattle.std.proofs.lemmas.List.{get_or_past, get_or-set_same, get_or-set_other, get_or-replicate, length-set, length-replicate}
use Rattle.std.proofs.lemmas.Bool.{cases_eq, cases_lt}
use borrow.Author.Count.{below_more}
use Rattle.handle_table.specs.Slots.{used, home_of, IsReached, IsReachedOver, IsPaired, IsIndexed, HasGap, IsFreeFor}

pub used-cons : (x : ℕ) (slots : List ℕ) → used (x ∷ slots) ≡ min 1 x + used slots
unfolding used
used-cons x slots = sum_by-cons (min 1) x slots

pub used-set : (slots : List ℕ) (i v : ℕ) → i < length slots → used (slice_set slots i v) + min 1 (slice_index slots i) ≡ used slots + min 1 v
unfolding used
used-set slots i v h = sum_by-set (min 1) slots i v 0 h

used-none : used [] ≡ 0
unfolding used
used-none = refl

pub used-free : (n : ℕ) → used (replicate n 0) ≡ 0
used-free zero = used-none
used-free (suc n) = omega (arith, used-cons 0 (replicate n 0), used-free n)

-- slots that are not free are no more than those that are used
pub used_stretch : (slots : List ℕ) (a b : ℕ) → ((j : ℕ) → a ≤ j → j < b → slice_index slots j ≢ 0) → b ≤ length slots → b ≤ a + used slots
used_stretch slots a zero h k = omega arith
used_stretch [] a (suc b) h k = absurd (omega arith)
used_stretch (x ∷ slots) zero (suc b) h k =
    let rest : b ≤ 0 + used slots = used_stretch slots 0 b (λ j _ l. h (suc j) (omega arith) (omega arith)) (omega arith) in
    let first : x ≢ 0 = h 0 (omega arith) (omega arith) in
    omega (arith, used-cons x slots)
used_stretch (x ∷ slots) (suc a) (suc b) h k =
    let rest : b ≤ a + used slots = used_stretch slots a b (λ j m l. h (suc j) (omega arith) (omega arith)) (omega arith) in
    omega (arith, used-cons x slots)

pub home_of_small : (h : _) → home_of h < 131072
unfolding home_of
home_of_small h = omega arith

-- a slot that is not free lies within, since a read past the end is 0
within_slots : (slots : List ℕ) (i : ℕ) → slice_index slots i ≢ 0 → i < length slots
within_slots slots i h = elim (cases_lt i (length slots)) [ inl l ↦ l | inr g ↦ absurd (h (get_or_past slots i 0 g)) ]

-- a search that has met no free slot has one more slot to look at
pub next_probe : (slots : List ℕ) (count home at : ℕ) → used slots ≡ count → count ≤ 65536 → length slots ≡ 196608 → home < 131072 → IsReached slots home at → at < 196608 → slice_index slots at ≢ 0
    → (at + 1 < 196608) × IsReached slots home (at + 1)
next_probe slots count home at u few size small r l here =
    let further : (j : ℕ) → home ≤ j → j < at + 1 → slice_index slots j ≢ 0 =
    λ j m k. below_more (λ (j : ℕ). home ≤ j → slice_index slots j ≢ 0) at (λ (k : ℕ) n h. r.1 k h n) (λ _. here) j k m in
    let full : at + 1 ≤ home + used slots = used_stretch slots home (at + 1) further (omega arith) in
    (omega arith, (omega arith, further))

-- what was in the slot `from` stands in the slot `to`, which was free
record IsMoved (slots new : List ℕ) (to from : ℕ) : Type 0 where
  size : length new ≡ length slots
  placed : slice_index new to ≡ slice_index slots from
  freed : slice_index new from ≡ 0
  others : (i : ℕ) → i ≢ to → i ≢ from → slice_index new i ≡ slice_index slots i
  counted : used new ≡ used slots

moved : (slots : List ℕ) (to from : ℕ) → to < from → from < length slots → slice_index slots to ≡ 0 → slice_index slots from ≢ 0 → IsMoved slots (slice_set (slice_set slots to (slice_index slots from)) from 0) to from
moved slots to from l k free here =
    let v : ℕ = slice_index slots from in
    let first : List ℕ = slice_set slots to v in
    let long : length first ≡ length slots = length-set slots to v in
    let same : slice_index first from ≡ v = get_or-set_other slots to from v 0 (omega arith) in
    record {
      size = length-set first from 0 ∙ long;
      placed = get_or-set_other first from to 0 0 (omega arith) ∙ get_or-set_same slots to v 0 (omega arith);
      freed = get_or-set_same first from 0 0 (omega arith);
      others = λ i a b. get_or-set_other first from i 0 0 b ∙ get_or-set_other slots to i v 0 a;
      counted = let one : used first + min 1 0 ≡ used slots + min 1 v = subst (λ (z : ℕ). used first + min 1 z ≡ used slots + min 1 v) free (used-set slots to v (omega arith)) in
          let two : used (slice_set first from 0) + min 1 v ≡ used first + min 1 0 = subst (λ (z : ℕ). used (slice_set first from 0) + min 1 z ≡ used first + min 1 0) same (used-set first from 0 (omega arith)) in
          omega arith;
    }

-- a handle behind the gap, whose search would pass over it, moves into it
pub shifted : (slots : List ℕ) (count : ℕ) (home slot new_home new_slot : ℕ → ℕ) (gap at : ℕ)
    → HasGap slots count home slot gap at → at < 196608 → slice_index slots at ≢ 0 → home (slice_index slots at - 1) ≤ gap
    → new_slot (slice_index slots at - 1) ≡ gap → ((m : ℕ) → m ≢ slice_index slots at - 1 → new_slot m ≡ slot m) → ((m : ℕ) → new_home m ≡ home m)
    → HasGap (slice_set (slice_set slots gap (slice_index slots at)) at 0) count new_home new_slot at (at + 1)
shifted slots count home slot new_home new_slot gap at g l here passes moves stays homes =
    let v : ℕ = slice_index slots at in
    let n : ℕ = v - 1 in
    let new : List ℕ = slice_set (slice_set slots gap v) at 0 in
    let size : length slots ≡ 196608 = g.paired.size in
    let ahead : gap < at = g.within.0 in
    let m : IsMoved slots new gap at = moved slots gap at ahead (omega arith) g.free here in
    let named : (v ≤ count) × (slot n ≡ at) = g.paired.named at here in
    let old_slot : slot n ≡ at = named.1 in
    let few : v ≤ count = named.0 in
    let apart : (k : ℕ) → k < count → k ≢ n → (slot k ≢ at) × (slot k ≢ gap) = λ k below ne.
    let p : slice_index slots (slot k) ≡ k + 1 = (g.paired.pointed k below).1 in (
      (λ e. ne (let q : slice_index slots at ≡ k + 1 = sym (ap (λ (i : ℕ). slice_index slots i) e) ∙ p in omega arith)),
      (λ e. let q : slice_index slots gap ≡ k + 1 = sym (ap (λ (i : ℕ). slice_index slots i) e) ∙ p in let f : slice_index slots gap ≡ 0 = g.free in omega arith),
    ) in
    record {
      paired = record {
        size = m.size ∙ size;
        few = g.paired.few;
        pointed = λ k below. elim (cases_eq k n) [
          | inl e ↦ let is : new_slot k ≡ gap = ap new_slot e ∙ moves in
              (omega arith, ap (λ (i : ℕ). slice_index new i) is ∙ m.placed ∙ (let q : v ≡ k + 1 = omega arith in q))
          | inr ne ↦ let is : new_slot k ≡ slot k = stays k ne in
              let p : (slot k < 196608) × (slice_index slots (slot k) ≡ k + 1) = g.paired.pointed k below in
              (omega arith, ap (λ (i : ℕ). slice_index new i) is ∙ m.others (slot k) (apart k below ne).1 (apart k below ne).0 ∙ p.1)
        ];
        named = λ i used_here. elim (cases_eq i at) [
          | inl e ↦ absurd (used_here (ap (λ (i : ℕ). slice_index new i) e ∙ m.freed))
          | inr far ↦ elim (cases_eq i gap) [
            | inl e ↦ let is : slice_index new i ≡ v = ap (λ (i : ℕ). slice_index new i) e ∙ m.placed in
                (omega arith, ap (λ (w : ℕ). new_slot (w - 1)) is ∙ moves ∙ sym e)
            | inr ne ↦ let is : slice_index new i ≡ slice_index slots i = m.others i ne far in
                let p : (slice_index slots i ≤ count) × (slot (slice_index slots i - 1) ≡ i) = g.paired.named i (λ z. used_here (is ∙ z)) in
                let other : slice_index slots i - 1 ≢ n = λ e. far (sym p.1 ∙ ap slot e ∙ old_slot) in
                (omega arith, ap (λ (w : ℕ). new_slot (w - 1)) is ∙ stays (slice_index slots i - 1) other ∙ p.1)
          ]
        ];
        counted = m.counted ∙ g.paired.counted;
      };
      within = (omega arith, omega arith);
      free = m.freed;
      reached = λ k below. elim (cases_eq k n) [
        | inl e ↦ let is : new_slot k ≡ gap = ap new_slot e ∙ moves in
            let h : new_home k ≡ home n = homes k ∙ ap home e in
            let r : IsReachedOver slots gap (home n) (slot n) = g.reached n (omega arith) in
            (omega arith, λ j a b c z. r.1 j (omega arith) (omega arith) (omega arith) (sym (m.others j (omega arith) c) ∙ z))
        | inr ne ↦ let is : new_slot k ≡ slot k = stays k ne in
            let h : new_home k ≡ home k = homes k in
            let r : IsReachedOver slots gap (home k) (slot k) = g.reached k below in
            let low : home k ≤ slot k = r.0 in (
              omega arith,
              λ j a b c z. elim (cases_eq j gap) [
                | inl e ↦ here (sym m.placed ∙ ap (λ (i : ℕ). slice_index new i) (sym e) ∙ z)
                | inr other ↦ r.1 j (omega arith) (omega arith) other (sym (m.others j other c) ∙ z)
              ],
            )
      ];
      passed = λ k below a b. absurd (omega arith);
    }

-- a handle behind the gap, whose search starts behind it, stays
pub stayed : (slots : List ℕ) (count : ℕ) (home slot : ℕ → ℕ) (gap at : ℕ) → HasGap slots count home slot gap at → at < 196608 → slice_index slots at ≢ 0 → gap < home (slice_index slots at - 1)
    → HasGap slots count home slot gap (at + 1)
stayed slots count home slot gap at g l here ahead =
    let within = g.within in
    let named = g.paired.named at here in
    record {
      paired = g.paired;
      within = (omega arith, omega arith);
      free = g.free;
      reached = g.reached;
      passed = λ k below a b. elim (cases_eq (slot k) at) [
        | inl e ↦ let p : (slot k < 196608) × (slice_index slots (slot k) ≡ k + 1) = g.paired.pointed k below in
            let q : slice_index slots at ≡ k + 1 = sym (ap (λ (i : ℕ). slice_index slots i) e) ∙ p.1 in
            let same : slice_index slots at - 1 ≡ k = omega arith in
            let h : home (slice_index slots at - 1) ≡ home k = ap home same in
            omega arith
        | inr ne ↦ g.passed k below a (omega arith)
      ];
    }

-- two indices in one slot are one
slot_apart : (slots : List ℕ) (count : ℕ) (slot : ℕ → ℕ) → IsPaired slots count slot → (a b : ℕ) → a < count → b < count → slot a ≡ slot b → a ≡ b
slot_apart slots count slot p a b l m e =
    let first : slice_index slots (slot a) ≡ a + 1 = (p.pointed a l).1 in
    let second : slice_index slots (slot b) ≡ b + 1 = (p.pointed b m).1 in
    let same : slice_index slots (slot a) ≡ slice_index slots (slot b) = ap (λ (i : ℕ). slice_index slots i) e in
    omega arith

-- an index that a handle has once another is gone, and the index that it had
record WasAt (slots : List ℕ) (count n m : ℕ) (home slot new_home new_slot : ℕ → ℕ) : Type 0 where
  before : ℕ
  below : before < count
  other : before ≢ n
  slot_is : new_slot m ≡ slot before
  home_is : new_home m ≡ home before
  points : slice_index slots (slot before) ≡ m + 1

-- the last handle takes the index of one that goes, and the slot of that one is a gap
pub dropped : (slots : List ℕ) (last n : ℕ) (home slot new_home new_slot : ℕ → ℕ) → IsIndexed slots (last + 1) home slot → n ≤ last
    → (n < last → (new_home n ≡ home last) × (new_slot n ≡ slot last)) → ((m : ℕ) → m < last → m ≢ n → (new_home m ≡ home m) × (new_slot m ≡ slot m))
    → HasGap (slice_set (slice_set slots (slot last) (n + 1)) (slot n) 0) last new_home new_slot (slot n) (slot n + 1)
dropped slots last n home slot new_home new_slot g l takes stays =
    let p : ℕ = slot n in
    let q : ℕ = slot last in
    let paired : IsPaired slots (last + 1) slot = g.paired in
    let size : length slots ≡ 196608 = paired.size in
    let few : last + 1 ≤ 65536 = paired.few in
    let at_p : (p < 196608) × (slice_index slots p ≡ n + 1) = paired.pointed n (omega arith) in
    let at_q : (q < 196608) × (slice_index slots q ≡ last + 1) = paired.pointed last (omega arith) in
    let in_p : p < 196608 = at_p.0 in
    let in_q : q < 196608 = at_q.0 in
    let first : List ℕ = slice_set slots q (n + 1) in
    let new : List ℕ = slice_set first p 0 in
    let long : length first ≡ length slots = length-set slots q (n + 1) in
    let first_q : slice_index first q ≡ n + 1 = get_or-set_same slots q (n + 1) 0 (omega arith) in
    let first_p : slice_index first p ≡ n + 1 = elim (cases_eq p q) [
      | inl e ↦ ap (λ (i : ℕ). slice_index first i) e ∙ first_q
      | inr ne ↦ get_or-set_other slots q p (n + 1) 0 ne ∙ at_p.1
    ] in
    let new_p : slice_index new p ≡ 0 = get_or-set_same first p 0 0 (omega arith) in
    let new_q : q ≢ p → slice_index new q ≡ n + 1 = λ ne. get_or-set_other first p q 0 0 ne ∙ first_q in
    let others : (i : ℕ) → i ≢ p → i ≢ q → slice_index new i ≡ slice_index slots i = λ i a b. get_or-set_other first p i 0 0 a ∙ get_or-set_other slots q i (n + 1) 0 b in
    let apart : (a b : ℕ) → a < last + 1 → b < last + 1 → slot a ≡ slot b → a ≡ b = slot_apart slots (last + 1) slot paired in
    let was : (m : ℕ) → m < last → WasAt new (last + 1) n m home slot new_home new_slot = λ m below. elim (cases_eq m n) [
      | inl e ↦ let ahead : n < last = omega arith in
          let t : (new_home n ≡ home last) × (new_slot n ≡ slot last) = takes ahead in
          record {
            before = last;
            below = omega arith;
            other = λ z. let w : last ≡ n = z in omega arith;
            slot_is = ap new_slot e ∙ t.1;
            home_is = ap new_home e ∙ t.0;
            points = new_q (λ z. let w : last ≡ n = apart last n (omega arith) (omega arith) z in omega arith) ∙ ap (λ (k : ℕ). k + 1) (sym e);
          }
      | inr ne ↦ let t : (new_home m ≡ home m) × (new_slot m ≡ slot m) = stays m below ne in
          record {
            before = m;
            below = omega arith;
            other = ne;
            slot_is = t.1;
            home_is = t.0;
            points = others (slot m) (λ z. ne (apart m n (omega arith) (omega arith) z)) (λ z. let w : m ≡ last = apart m last (omega arith) (omega arith) z in omega arith) ∙ (paired.pointed m (omega arith)).1;
          }
    ] in
    record {
      paired = record {
        size = length-set first p 0 ∙ long ∙ size;
        few = omega arith;
        pointed = λ m below. let w = was m below in
            let k : slot w.before < 196608 = (paired.pointed w.before w.below).0 in
            let s : new_slot m ≡ slot w.before = w.slot_is in
            (omega arith, ap (λ (i : ℕ). slice_index new i) w.slot_is ∙ w.points);
        named = λ i here. elim (cases_eq i p) [
          | inl e ↦ absurd (here (ap (λ (i : ℕ). slice_index new i) e ∙ new_p))
          | inr far ↦ elim (cases_eq i q) [
            | inl e ↦ let ne : q ≢ p = λ z. far (e ∙ z) in
                let is : slice_index new i ≡ n + 1 = ap (λ (i : ℕ). slice_index new i) e ∙ new_q ne in
                let ahead : n < last = elim (cases_eq n last) [ inl z ↦ absurd (ne (ap slot (sym z))) | inr z ↦ omega arith ] in
                (omega arith, ap new_slot (let k : slice_index new i - 1 ≡ n = omega arith in k) ∙ (takes ahead).1 ∙ sym e)
            | inr ne ↦ let is : slice_index new i ≡ slice_index slots i = others i far ne in
                let r : (slice_index slots i ≤ last + 1) × (slot (slice_index slots i - 1) ≡ i) = paired.named i (λ z. here (is ∙ z)) in
                let u : ℕ = slice_index slots i - 1 in
                let not_last : u ≢ last = λ z. ne (sym r.1 ∙ ap slot z) in
                let not_n : u ≢ n = λ z. far (sym r.1 ∙ ap slot z) in
                let low : slice_index slots i ≤ last + 1 = r.0 in
                let some : slice_index slots i ≢ 0 = λ z. here (is ∙ z) in
                (omega arith, ap (λ (w : ℕ). new_slot (w - 1)) is ∙ (stays u (omega arith) not_n).1 ∙ r.1)
          ]
        ];
        counted = let one : used first + min 1 (last + 1) ≡ used slots + min 1 (n + 1) = subst (λ (z : ℕ). used first + min 1 z ≡ used slots + min 1 (n + 1)) at_q.1 (used-set slots q (n + 1) (omega arith)) in
            let two : used new + min 1 (n + 1) ≡ used first + min 1 0 = subst (λ (z : ℕ). used new + min 1 z ≡ used first + min 1 0) first_p (used-set first p 0 (omega arith)) in
            let all : used slots ≡ last + 1 = paired.counted in
            omega arith;
      };
      within = (omega arith, omega arith);
      free = new_p;
      reached = λ m below. let w = was m below in
          let s : new_slot m ≡ slot w.before = w.slot_is in
          let h : new_home m ≡ home w.before = w.home_is in
          let r : IsReached slots (home w.before) (slot w.before) = g.reached w.before w.below in
          let low : home w.before ≤ slot w.before = r.0 in (
            omega arith,
            λ j a b far z. elim (cases_eq j q) [
              | inl e ↦ let ne : q ≢ p = λ y. far (e ∙ y) in
                  let is : slice_index new j ≡ n + 1 = ap (λ (i : ℕ). slice_index new i) e ∙ new_q ne in
                  omega arith
              | inr ne ↦ r.1 j (omega arith) (omega arith) (sym (others j far ne) ∙ z)
            ],
          );
      passed = λ m below a b. absurd (omega arith);
    }

-- a handle that is entered last, in the free slot at which the search for it ends
pub entered : (slots : List ℕ) (count i : ℕ) (home slot new_home new_slot : ℕ → ℕ) → IsIndexed slots count home slot → count < 65536 → IsFreeFor slots (new_home count) i
    → new_slot count ≡ i → ((m : ℕ) → m < count → (new_home m ≡ home m) × (new_slot m ≡ slot m))
    → IsIndexed (slice_set slots i (count + 1)) (count + 1) new_home new_slot
entered slots count i home slot new_home new_slot g few f here stays =
    let paired : IsPaired slots count slot = g.paired in
    let size : length slots ≡ 196608 = paired.size in
    let within : i < 196608 = f.within in
    let free : slice_index slots i ≡ 0 = f.free in
    let new : List ℕ = slice_set slots i (count + 1) in
    let new_i : slice_index new i ≡ count + 1 = get_or-set_same slots i (count + 1) 0 (omega arith) in
    let others : (j : ℕ) → j ≢ i → slice_index new j ≡ slice_index slots j = λ j ne. get_or-set_other slots i j (count + 1) 0 ne in
    let filled : (j : ℕ) → slice_index slots j ≢ 0 → slice_index new j ≢ 0 = λ j some z. elim (cases_eq j i) [
      | inl e ↦ let k : slice_index new j ≡ count + 1 = ap (λ (i : ℕ). slice_index new i) e ∙ new_i in omega arith
      | inr ne ↦ some (sym (others j ne) ∙ z)
    ] in
    record {
      paired = record {
        size = length-set slots i (count + 1) ∙ size;
        few = omega arith;
        pointed = λ m below. elim (cases_eq m count) [
          | inl e ↦ let is : new_slot m ≡ i = ap new_slot e ∙ here in
              (omega arith, ap (λ (i : ℕ). slice_index new i) is ∙ new_i ∙ ap (λ (k : ℕ). k + 1) (sym e))
          | inr ne ↦ let is : new_slot m ≡ slot m = (stays m (omega arith)).1 in
              let p : (slot m < 196608) × (slice_index slots (slot m) ≡ m + 1) = paired.pointed m (omega arith) in
              let far : slot m ≢ i = λ z. let k : slice_index slots (slot m) ≡ slice_index slots i = ap (λ (i : ℕ). slice_index slots i) z in let w : slice_index slots (slot m) ≡ m + 1 = p.1 in omega arith in
              (omega arith, ap (λ (i : ℕ). slice_index new i) is ∙ others (slot m) far ∙ p.1)
        ];
        named = λ j some. elim (cases_eq j i) [
          | inl e ↦ let is : slice_index new j ≡ count + 1 = ap (λ (i : ℕ). slice_index new i) e ∙ new_i in
              (omega arith, ap new_slot (let k : slice_index new j - 1 ≡ count = omega arith in k) ∙ here ∙ sym e)
          | inr ne ↦ let is : slice_index new j ≡ slice_index slots j = others j ne in
              let before : slice_index slots j ≢ 0 = λ z. some (is ∙ z) in
              let r : (slice_index slots j ≤ count) × (slot (slice_index slots j - 1) ≡ j) = paired.named j before in
              (omega arith, ap (λ (w : ℕ). new_slot (w - 1)) is ∙ (stays (slice_index slots j - 1) (omega arith)).1 ∙ r.1)
        ];
        counted = let one : used new + min 1 0 ≡ used slots + min 1 (count + 1) = subst (λ (z : ℕ). used new + min 1 z ≡ used slots + min 1 (count + 1)) free (used-set slots i (count + 1) (omega arith)) in
            let all : used slots ≡ count = paired.counted in
            omega arith;
      };
      reached = λ m below. elim (cases_eq m count) [
        | inl e ↦ let is : new_slot m ≡ i = ap new_slot e ∙ here in
            let h : new_home m ≡ new_home count = ap new_home e in
            let r : IsReached slots (new_home count) i = f.reached in
            (omega arith, λ j a b. filled j (r.1 j (omega arith) (omega arith)))
        | inr ne ↦ let t : (new_home m ≡ home m) × (new_slot m ≡ slot m) = stays m (omega arith) in
            let r : IsReached slots (home m) (slot m) = g.reached m (omega arith) in
            (omega arith, λ j a b. filled j (r.1 j (omega arith) (omega arith)))
      ];
    }

-- slots of which none is used
pub free_slots : (slots : List ℕ) (n : ℕ) (home slot : ℕ → ℕ) → slots ≡ replicate n 0 → n ≡ 196608 → IsIndexed slots 0 home slot
free_slots slots n home slot is size =
    let long : length slots ≡ n = ap length is ∙ length-replicate {A = ℕ} n 0 in
    let free : (i : ℕ) → slice_index slots i ≡ 0 = λ i. elim (cases_lt i n) [
      | inl l ↦ ap (λ (s : List ℕ). slice_index s i) is ∙ get_or-replicate n i 0 0 l
      | inr g ↦ get_or_past slots i 0 (omega arith)
    ] in
    record {
      paired = record {
        size = long ∙ size;
        few = omega arith;
        pointed = λ n below. absurd (omega arith);
        named = λ i some. absurd (some (free i));
        counted = ap used is ∙ used-free n;
      };
      reached = λ n below. absurd (omega arith);
    }
