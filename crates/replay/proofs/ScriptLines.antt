-- The lines of a text that comes in parts.
use Rattle.std.proofs.Common.{◌≡◌, ◌≢◌, ◌<◌, ◌≤◌, ◌+◌, ℕ, zero, suc, List, [], ◌∷◌, ◌++◌, length, take, drop, get_or, refl, sym, ap, ◌∙◌, append_assoc, append-nil, Bool, true, false, cond, not, true≢false, nat_lt, Some, None, Option, Result, Ok, Err, inl, inr, arith, min, length-drop, length-take}
use mathlib.Core.Bool.{or-true}
use Rattle.std.specs.Result.{IsOk, OnOk}
use Rattle.std.specs.List.{position, position_or_len}
use Rattle.std.proofs.lemmas.Bool.{cases_lt, ltb-false, eqb-true, false≢true}
use Rattle.std.proofs.lemmas.List.{take_min, take-append-drop, get_or-drop}
use Rattle.std.proofs.lemmas.List.Folds.{list_any-append}
use Rattle.std.proofs.lemmas.List.Sums.{prefix_len-le-length}
use Rattle.std.proofs.lemmas.List.Quantifiers.{position-Some}
use Rattle.std.proofs.Math.Seq.{take-append-add, drop-cons}
use Rattle.std.specs.Prelude.{◌==◌}
use Rattle.memchr.specs.Find.{IsFirstByte, is_byte}
use Rattle.spur_graph.specs.Bytes.{Text}
use Rattle.spur_graph.specs.Words.{onto_first}
use Rattle.spur_graph.specs.Lines.{lines_of, ended_lines_of, open_line_of, onto_ended, has_line_feed}

-- a line feed in front ends an empty line
record FeedFirst (b : ℕ) (t : Text) : Type 0 where
  has : has_line_feed (b ∷ t) ≡ true
  ended : ended_lines_of (b ∷ t) ≡ [] ∷ ended_lines_of t
  lines : lines_of (b ∷ t) ≡ [] ∷ lines_of t
  opened : open_line_of (b ∷ t) ≡ open_line_of t

feed_first : (b : ℕ) (t : Text) → (b == 10) ≡ true → FeedFirst b t
unfolding ended_lines_of lines_of open_line_of
feed_first b t is = record { has = rw is refl; ended = rw is refl; lines = rw is refl; opened = rw is refl }

-- another byte in front belongs to the first line
record ByteFirst (b : ℕ) (t : Text) : Type 0 where
  has : has_line_feed (b ∷ t) ≡ has_line_feed t
  ended : ended_lines_of (b ∷ t) ≡ onto_ended b (ended_lines_of t)
  lines : lines_of (b ∷ t) ≡ onto_first b (lines_of t)

byte_first : (b : ℕ) (t : Text) → (b == 10) ≡ false → ByteFirst b t
unfolding ended_lines_of lines_of
byte_first b t is = record { has = rw is refl; ended = rw is refl; lines = rw is refl }

-- what stands before a line feed is not open
open_behind : (b : ℕ) (t : Text) → has_line_feed (b ∷ t) ≡ true → open_line_of (b ∷ t) ≡ open_line_of t
unfolding open_line_of
open_behind b t is = rw is refl

-- a text without a line feed is open
pub all_open : (t : Text) → has_line_feed t ≡ false → open_line_of t ≡ t
unfolding open_line_of
all_open [] none = refl
all_open (b ∷ t) none = rw none refl

-- and ends no line
pub none_ended : (t : Text) → has_line_feed t ≡ false → ended_lines_of t ≡ []
none_ended [] none = unfold ended_lines_of in refl
none_ended (b ∷ t) none = elim (b == 10) as (λ v. (b == 10) ≡ v → ended_lines_of (b ∷ t) ≡ []) [
  | true ↦ λ is. absurd (true≢false (sym (feed_first b t is).has ∙ none))
  | false ↦ λ is. let first = byte_first b t is in first.ended ∙ ap (onto_ended b) (none_ended t (sym first.has ∙ none))
] refl

-- where there is a line feed, a line is ended
record SomeEnded (t : Text) : Type 0 where
  line : Text
  lines : List Text
  are : ended_lines_of t ≡ line ∷ lines

some_ended : (t : Text) → has_line_feed t ≡ true → SomeEnded t
some_ended [] has = absurd (true≢false (sym has))
some_ended (b ∷ t) has = elim (b == 10) as (λ v. (b == 10) ≡ v → SomeEnded (b ∷ t)) [
  | true ↦ λ is. record { line = []; lines = ended_lines_of t; are = (feed_first b t is).ended }
  | false ↦ λ is.
      let first = byte_first b t is in
      let rest = some_ended t (sym first.has ∙ has) in
      record { line = b ∷ rest.line; lines = rest.lines; are = first.ended ∙ ap (onto_ended b) rest.are }
] refl

-- how a function cuts a text into lines, from its end on
record Cuts (f : Text → List Text) : Type 0 where
  feed : (b : ℕ) (t : Text) → (b == 10) ≡ true → f (b ∷ t) ≡ [] ∷ f t
  onto : ℕ → List Text → List Text
  byte : (b : ℕ) (t : Text) → (b == 10) ≡ false → f (b ∷ t) ≡ onto b (f t)
  first : (b : ℕ) (line : Text) (lines : List Text) → onto b (line ∷ lines) ≡ (b ∷ line) ∷ lines

cut_parts : (f : Text → List Text) (cuts : Cuts f) (a c : Text) → f (a ++ c) ≡ ended_lines_of a ++ f (open_line_of a ++ c)
cut_parts f cuts [] c = unfold ended_lines_of open_line_of in refl
cut_parts f cuts (b ∷ a) c = elim (b == 10) as (λ v. (b == 10) ≡ v → f (b ∷ a ++ c) ≡ ended_lines_of (b ∷ a) ++ f (open_line_of (b ∷ a) ++ c)) [
  | true ↦ λ is.
      let here = feed_first b a is in
      let rest = cut_parts f cuts a c in
      let goal : [] ∷ f (a ++ c) ≡ [] ∷ (ended_lines_of a ++ f (open_line_of a ++ c)) = ap (λ ls. [] ∷ ls) rest in
      cuts.feed b (a ++ c) is ∙ rw (here.ended, here.opened) goal
  | false ↦ λ is.
      let here = byte_first b a is in
      let rest = cut_parts f cuts a c in
      elim (has_line_feed a) as (λ v. has_line_feed a ≡ v → f (b ∷ a ++ c) ≡ ended_lines_of (b ∷ a) ++ f (open_line_of (b ∷ a) ++ c)) [
        | true ↦ λ has.
            let some = some_ended a has in
            let opened : open_line_of (b ∷ a) ≡ open_line_of a = open_behind b a (here.has ∙ has) in
            let ended : ended_lines_of (b ∷ a) ≡ (b ∷ some.line) ∷ some.lines = here.ended ∙ ap (onto_ended b) some.are in
            let front : cuts.onto b (ended_lines_of a ++ f (open_line_of a ++ c)) ≡ (b ∷ some.line) ∷ (some.lines ++ f (open_line_of a ++ c)) =
            ap (λ ls. cuts.onto b (ls ++ f (open_line_of a ++ c))) some.are ∙ cuts.first b some.line (some.lines ++ f (open_line_of a ++ c)) in
            cuts.byte b (a ++ c) is ∙ ap (cuts.onto b) rest ∙ front ∙ sym (λ i. ended i ++ f (opened i ++ c))
        | false ↦ λ has.
            let opened : open_line_of (b ∷ a) ≡ b ∷ a = all_open (b ∷ a) (here.has ∙ has) in
            let ended : ended_lines_of (b ∷ a) ≡ [] = none_ended (b ∷ a) (here.has ∙ has) in
            sym (λ i. ended i ++ f (opened i ++ c))
      ] refl
] refl

-- the lines of two parts
pub lines_parts : (a c : Text) → lines_of (a ++ c) ≡ ended_lines_of a ++ lines_of (open_line_of a ++ c)
lines_parts a c = cut_parts lines_of (record { feed = λ b t is. (feed_first b t is).lines; onto = onto_first; byte = λ b t is. (byte_first b t is).lines; first = λ b line lines. refl }) a c

pub ended_parts : (a c : Text) → ended_lines_of (a ++ c) ≡ ended_lines_of a ++ ended_lines_of (open_line_of a ++ c)
ended_parts a c = cut_parts ended_lines_of (record { feed = λ b t is. (feed_first b t is).ended; onto = onto_ended; byte = λ b t is. (byte_first b t is).ended; first = λ b line lines. refl }) a c

-- a line feed in a part is one of the whole
has_behind : (a c : Text) → has_line_feed c ≡ true → has_line_feed (a ++ c) ≡ true
has_behind a c has = list_any-append (λ b. b == 10) a c ∙ rw has (or-true (has_line_feed a))

has_before : (a c : Text) → has_line_feed a ≡ true → has_line_feed (a ++ c) ≡ true
has_before a c has = list_any-append (λ b. b == 10) a c ∙ rw has refl

none_both : (a c : Text) → has_line_feed a ≡ false → has_line_feed c ≡ false → has_line_feed (a ++ c) ≡ false
none_both a c none none' = list_any-append (λ b. b == 10) a c ∙ rw (none, none') refl

-- the open line is that of the open line of the first part with the second behind it
pub open_parts : (a c : Text) → open_line_of (a ++ c) ≡ open_line_of (open_line_of a ++ c)
open_parts [] c = unfold open_line_of in refl
open_parts (b ∷ a) c = elim (has_line_feed (b ∷ a)) as (λ v. has_line_feed (b ∷ a) ≡ v → open_line_of (b ∷ a ++ c) ≡ open_line_of (open_line_of (b ∷ a) ++ c)) [
  | true ↦ λ has. open_behind b (a ++ c) (has_before (b ∷ a) c has) ∙ open_parts a c ∙ sym (ap (λ t. open_line_of (t ++ c)) (open_behind b a has))
  | false ↦ λ has. sym (ap (λ t. open_line_of (t ++ c)) (all_open (b ∷ a) has))
] refl

-- the open line has no line feed
pub open_has_none : (t : Text) → has_line_feed (open_line_of t) ≡ false
open_has_none [] = unfold open_line_of in refl
open_has_none (b ∷ t) = elim (has_line_feed (b ∷ t)) as (λ v. has_line_feed (b ∷ t) ≡ v → has_line_feed (open_line_of (b ∷ t)) ≡ false) [
  | true ↦ λ has. ap has_line_feed (open_behind b t has) ∙ open_has_none t
  | false ↦ λ has. ap has_line_feed (all_open (b ∷ t) has) ∙ has
] refl

-- further bytes without a line feed go on in the open line
pub open_more : (a c : Text) → has_line_feed c ≡ false → open_line_of (a ++ c) ≡ open_line_of a ++ c
open_more a c none = open_parts a c ∙ all_open (open_line_of a ++ c) (none_both (open_line_of a) c (open_has_none a) none)

-- and end no line
pub ended_same : (a c : Text) → has_line_feed c ≡ false → ended_lines_of (a ++ c) ≡ ended_lines_of a
ended_same a c none = ended_parts a c ∙ ap (λ ls. ended_lines_of a ++ ls) (none_ended (open_line_of a ++ c) (none_both (open_line_of a) c (open_has_none a) none)) ∙ append-nil (ended_lines_of a)

-- a line that is ended
ended_one : (line : Text) → has_line_feed line ≡ false → (ended_lines_of (line ++ 10 ∷ []) ≡ line ∷ []) × (open_line_of (line ++ 10 ∷ []) ≡ [])
ended_one [] none =
    let first = feed_first 10 [] refl in
    (first.ended ∙ ap (λ ls. [] ∷ ls) (none_ended [] refl), first.opened ∙ all_open [] refl)
ended_one (b ∷ line) none = elim (b == 10) as (λ v. (b == 10) ≡ v → (ended_lines_of (b ∷ line ++ 10 ∷ []) ≡ (b ∷ line) ∷ []) × (open_line_of (b ∷ line ++ 10 ∷ []) ≡ [])) [
  | true ↦ λ is. absurd (true≢false (sym (feed_first b line is).has ∙ none))
  | false ↦ λ is.
      let rest = ended_one line (sym (byte_first b line is).has ∙ none) in
      ((byte_first b (line ++ 10 ∷ []) is).ended ∙ ap (onto_ended b) rest.0, open_behind b (line ++ 10 ∷ []) (has_behind (b ∷ line) (10 ∷ []) (feed_first 10 [] refl).has) ∙ rest.1)
] refl

-- the open line goes on to its line feed
pub ended_more : (a line : Text) → has_line_feed line ≡ false → ended_lines_of (a ++ (line ++ 10 ∷ [])) ≡ ended_lines_of a ++ (open_line_of a ++ line) ∷ []
ended_more a line none =
    let one = ended_one (open_line_of a ++ line) (none_both (open_line_of a) line (open_has_none a) none) in
    ended_parts a (line ++ 10 ∷ []) ∙ ap (λ ls. ended_lines_of a ++ ls) (ap ended_lines_of (sym (append_assoc (open_line_of a) line (10 ∷ []))) ∙ one.0)

-- behind that line feed nothing is open
pub open_none : (a line : Text) → has_line_feed line ≡ false → open_line_of (a ++ (line ++ 10 ∷ [])) ≡ []
open_none a line none =
    let one = ended_one (open_line_of a ++ line) (none_both (open_line_of a) line (open_has_none a) none) in
    open_parts a (line ++ 10 ∷ []) ∙ ap open_line_of (sym (append_assoc (open_line_of a) line (10 ∷ []))) ∙ one.1

-- the lines of a text without a line feed
one_line : (b : ℕ) (t : Text) → has_line_feed (b ∷ t) ≡ false → lines_of (b ∷ t) ≡ (b ∷ t) ∷ []
one_line b [] none = elim (b == 10) as (λ v. (b == 10) ≡ v → lines_of (b ∷ []) ≡ (b ∷ []) ∷ []) [
  | true ↦ λ is. absurd (true≢false (sym (feed_first b [] is).has ∙ none))
  | false ↦ λ is. (byte_first b [] is).lines ∙ unfold lines_of in refl
] refl
one_line b (c ∷ t) none = elim (b == 10) as (λ v. (b == 10) ≡ v → lines_of (b ∷ c ∷ t) ≡ (b ∷ c ∷ t) ∷ []) [
  | true ↦ λ is. absurd (true≢false (sym (feed_first b (c ∷ t) is).has ∙ none))
  | false ↦ λ is. (byte_first b (c ∷ t) is).lines ∙ ap (onto_first b) (one_line c t (sym (byte_first b (c ∷ t) is).has ∙ none))
] refl

-- the ended lines, and the lines of the open one
split : (t : Text) → lines_of t ≡ ended_lines_of t ++ lines_of (open_line_of t)
split t = sym (ap lines_of (append-nil t)) ∙ lines_parts t [] ∙ ap (λ o. ended_lines_of t ++ lines_of o) (append-nil (open_line_of t))

-- the lines of a text are those that are ended, where nothing is open
pub all_ended : (t : Text) → open_line_of t ≡ [] → lines_of t ≡ ended_lines_of t
all_ended t none = split t ∙ ap (λ o. ended_lines_of t ++ lines_of o) none ∙ unfold lines_of in append-nil (ended_lines_of t)

-- an open line with bytes is one line
one_of : (o : Text) → has_line_feed o ≡ false → o ≢ [] → lines_of o ≡ o ∷ []
one_of [] none some = absurd (some refl)
one_of (b ∷ o) none some = one_line b o none

-- and else the open line behind them
pub one_open : (t : Text) → open_line_of t ≢ [] → lines_of t ≡ ended_lines_of t ++ open_line_of t ∷ []
one_open t some = split t ∙ ap (λ ls. ended_lines_of t ++ ls) (one_of (open_line_of t) (open_has_none t) some)

-- no line feed before the first
before_first : (t : Text) (n : ℕ) → n ≤ length t → ((k : ℕ) → k < n → (get_or t k 0 == 10) ≡ false) → has_line_feed (take n t) ≡ false
before_first t zero within before = refl
before_first [] (suc n) within before = refl
before_first (b ∷ t) (suc n) within before = (byte_first b (take n t) (before 0 (omega arith))).has ∙ before_first t n (omega arith) (λ k below. before (suc k) (omega arith))

-- a line that is cut at the first line feed has none
pub first_cut : (t : Text) (n : ℕ) → position (λ b. b == 10) t ≡ Some n → has_line_feed (take n t) ≡ false
first_cut t n is = let found = position-Some (λ b. b == 10) t n 0 is in before_first t n (omega (arith, found.0)) found.2

-- no line feed at all
none_by : (v : Bool) (n len : ℕ) → cond (not v) (1 + n) 0 ≡ suc len → (v ≡ false) × (n ≡ len)
none_by true n len is = absurd (omega arith)
none_by false n len is = (refl, omega arith)

none_at : (t : Text) → position_or_len (λ b. b == 10) t ≡ length t → has_line_feed t ≡ false
none_at [] is = refl
none_at (b ∷ t) is = let by = none_by (b == 10) (position_or_len (λ c. c == 10) t) (length t) is in (byte_first b t by.0).has ∙ none_at t by.1

none_where : (v : Bool) (n : ℕ) → cond v (Some n) None ≡ None → v ≡ false
none_where true n is = cc
none_where false n is = refl

pub none_found : (t : Text) → position (λ b. b == 10) t ≡ None → has_line_feed t ≡ false
none_found t is =
    let test = none_where (nat_lt (position_or_len (λ b. b == 10) t) (length t)) (position_or_len (λ b. b == 10) t) is in
    let most = prefix_len-le-length (λ b. not (b == 10)) t in
    none_at t (omega (arith, most, ltb-false (position_or_len (λ b. b == 10) t) (length t) test))

within_by : (v : Bool) (n len : ℕ) → n < len → cond (not v) (1 + n) 0 < suc len
within_by true n len lt = omega arith
within_by false n len lt = omega arith

found_within : (t : Text) (k : ℕ) → k < length t → (get_or t k 0 == 10) ≡ true → position_or_len (λ b. b == 10) t < length t
found_within [] k lt is = absurd (omega arith)
found_within (b ∷ t) zero lt is = rw is (omega arith)
found_within (b ∷ t) (suc k) lt is = within_by (b == 10) (position_or_len (λ c. c == 10) t) (length t) (found_within t k (omega arith) is)

-- the place that a search for the first line feed finds
pub feed_is : (t : Text) (r : Option ℕ) → IsFirstByte (is_byte 10) t r → r ≡ position (λ b. b == 10) t
feed_is t None none = elim (position (λ b. b == 10) t) as (λ o. position (λ b. b == 10) t ≡ o → None ≡ o) [
  | None ↦ λ e. refl
  | Some i ↦ λ e. let found = position-Some (λ b. b == 10) t i 0 e in absurd (none i (omega arith) found.0 found.1)
] refl
feed_is t (Some k) first = elim (position (λ b. b == 10) t) as (λ o. position (λ b. b == 10) t ≡ o → Some k ≡ o) [
  | None ↦ λ e.
      let test = none_where (nat_lt (position_or_len (λ b. b == 10) t) (length t)) (position_or_len (λ b. b == 10) t) e in
      absurd (omega (arith, ltb-false (position_or_len (λ b. b == 10) t) (length t) test, found_within t k first.0.high first.1))
  | Some i ↦ λ e.
      let found = position-Some (λ b. b == 10) t i 0 e in
      elim (cases_lt i k) [
        | inl lt ↦ absurd (first.0.before i (omega arith) lt found.1)
        | inr ge ↦ elim (cases_lt k i) [ inl lt ↦ absurd (false≢true (sym (found.2 k lt) ∙ first.1)) | inr le ↦ ap Some (omega (arith, ge, le)) ]
      ]
] refl

-- as much as there is room for
pub filled : (kept bytes : List ℕ) (most room : ℕ) → length kept + room ≡ most → kept ++ take (min room (length bytes)) bytes ≡ take most (kept ++ bytes)
filled kept bytes most room is = ap (λ t. kept ++ t) (take_min room bytes) ∙ sym (take-append-add kept bytes room) ∙ ap (λ n. take n (kept ++ bytes)) is

-- a text is its first line, the line feed and what follows
pub feed_cut : (t : Text) (n : ℕ) → position (λ b. b == 10) t ≡ Some n → t ≡ take n t ++ 10 ∷ drop 1 (drop n t)
feed_cut t n is =
    let found = position-Some (λ b. b == 10) t n 0 is in
    let feed : get_or (drop n t) 0 0 ≡ 10 = get_or-drop n t 0 0 ∙ ap (λ k. get_or t k 0) (let e : n + 0 ≡ n = omega arith in e) ∙ eqb-true (get_or t n 0) 10 found.1 in
    let some : 0 < length (drop n t) = omega (arith, found.0, length-drop n t) in
    sym (take-append-drop n t) ∙ ap (λ r. take n t ++ r) (drop-cons (drop n t) 0 0 some ∙ ap (λ b. b ∷ drop 1 (drop n t)) feed)

-- a list that took as much as there was room for
pub extended : {E : Type 0} (r : Result (Unit {0}) E) (kept new bytes front : List ℕ) (room : ℕ) → room + length kept ≡ 1025 → front ≡ take (min room (length bytes)) bytes → (length kept + length front ≤ 1025 → IsOk r)
    → OnOk r (new ≡ kept ++ front) → new ≡ take 1025 (kept ++ bytes)
extended (Ok x) kept new bytes front room most is fits ok = ok ∙ ap (λ t. kept ++ t) is ∙ filled kept bytes 1025 room (omega arith)
extended (Err e) kept new bytes front room most is fits ok = absurd (false≢true (fits (omega (arith, ap length is, length-take (min room (length bytes)) bytes))))
