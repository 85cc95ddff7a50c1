-- A walk over a row of chunks that enters their starts, and counts the objects that were not there.
use Rattle.std.proofs.Common.{◌≡◌, ℕ, Bool, true, false, not, eqb, cond, ◌&&◌, ◌||◌, ◌+◌, ◌<◌, ◌≤◌, List, [], ◌∷◌, get_or, refl, sym, ap, ◌∙◌, arith, inl, inr}
use Rattle.std.proofs.Math.Bool.{or_assoc}
use mathlib.Core.Bool.{and-false, or-false}
use Rattle.std.proofs.lemmas.Bool.{cases_Bool, cases_eq, eq-eqb, ne_eqb}
use Rattle.object_header.specs.Head.{class_of}
use Rattle.object_header.specs.Chunks.{Chunk, chunk_of, Cuts, starts_in}
use Rattle.heap_walk.specs.Starts.{has_start}
use Rattle.heap_walk.specs.declared.starts.StartMap.{StartMap}
use Rattle.spur_heap.proofs.NextChunk.{IsNext, meets, next, none_left}
use Rattle.spur_heap.specs.Counting.{one_new, count_new, has_entered, is_object_header}

-- the chunks before `at` are entered and counted, and the rest stand between there and `end`
pub record IsCounted (words : List ℕ) (at end : ℕ) (cs : List Chunk) (first map : StartMap) (n : ℕ) : Type 0 where
  pub rest : List Chunk
  pub cut : Cuts words at end rest
  pub marked : (s : ℕ) → has_start map s || starts_in words rest s ≡ has_start first s || starts_in words cs s
  pub ahead : (s : ℕ) → at ≤ s → has_start map s ≡ has_start first s
  pub count : n + count_new words first rest ≡ count_new words first cs
  pub few : n ≤ at

pub one_at_most : (map : StartMap) (start header : ℕ) → one_new map start header ≤ 1
one_at_most map start header = elim (cases_Bool (is_object_header header && not (has_start map start))) [ inl on ↦ rw on (omega arith) | inr off ↦ rw off (omega arith) ]

-- what starts in a row is its first chunk or starts in the rest
starts_in-cons : (words : List ℕ) (c : Chunk) (cs : List Chunk) (s : ℕ) → starts_in words (c ∷ cs) s ≡ (eqb s c.start && not (eqb (class_of (get_or words c.start 0)) 0)) || starts_in words cs s
unfolding starts_in
starts_in-cons words c cs s = elim (cases_eq s c.start) [
  | inl is ↦ rw (is, eq-eqb c.start c.start refl) (absorbed (not (eqb (class_of (get_or words c.start 0)) 0)) _)
  | inr n ↦ rw (ne_eqb s c.start n, ne_eqb c.start s (λ k. n (sym k))) refl
]
  where
    absorbed : (x y : Bool) → x ≡ x || (y && x)
    absorbed true y = refl
    absorbed false y = sym (and-false y)

pub counting_begins : (words : List ℕ) (end : ℕ) (cs : List Chunk) (map : StartMap) → Cuts words 0 end cs → IsCounted words 0 end cs map map 0
counting_begins words end cs map t = record { rest = cs; cut = t; marked = λ s. refl; ahead = λ s l. refl; count = omega arith; few = omega arith }

module _ (words : List ℕ) (at end : ℕ) (cs : List Chunk) (first map : StartMap) (n : ℕ) (w : IsCounted words at end cs first map n) where
  abbrev here : Chunk
  here = chunk_of at (get_or words at 0)

  pub next_counted : at < end → IsNext words at end
  next_counted l = next words at end w.rest w.cut l

  pub count_on : at < end → (new : StartMap) → ((s : ℕ) → has_start new s ≡ has_entered map here.start (get_or words here.start 0) s)
      → IsCounted words (at + here.size) end cs first new (n + one_new map here.start (get_or words here.start 0))
  unfolding count_new
  count_on l new marks =
      let m = meets words at end w.rest w.cut l in
      let b = next_counted l in
      let header : ℕ = get_or words here.start 0 in
      let same : one_new map here.start header ≡ one_new first here.start header = ap (λ h. cond (is_object_header header && not h) 1 0) (w.ahead here.start b.after) in
      let tail : count_new words first w.rest ≡ one_new first here.start header + count_new words first m.more = ap (λ ds. count_new words first ds) m.is in
      record {
        rest = m.more;
        cut = m.tail;
        marked = λ s.
            ap (λ x. x || starts_in words m.more s) (marks s)
            ∙ or_assoc (has_start map s) (eqb s here.start && not (eqb (class_of header) 0)) (starts_in words m.more s)
            ∙ ap (λ x. has_start map s || x) (sym (starts_in-cons words here m.more s))
            ∙ ap (λ (ds : List Chunk). has_start map s || starts_in words ds s) (sym m.is)
            ∙ w.marked s;
        ahead = λ s far.
            let other : eqb s here.start ≡ false = ne_eqb s here.start (λ e. omega (arith, e, far, b.room)) in
            marks s ∙ ap (λ x. has_start map s || (x && not (eqb (class_of header) 0))) other ∙ or-false (has_start map s) ∙ w.ahead s (omega (arith, far, b.after, b.room));
        count = omega (arith, same, tail, w.count);
        few = omega (arith, w.few, one_at_most map here.start header, b.after, b.room);
      }

  -- behind the last chunk all are entered and counted
  pub counted_all : end ≤ at → ((s : ℕ) → has_start map s ≡ has_start first s || starts_in words cs s) × (n ≡ count_new words first cs)
  unfolding starts_in count_new
  counted_all l =
      let none = none_left words at end w.rest w.cut l in
      let marked : (s : ℕ) → has_start map s || starts_in words [] s ≡ has_start first s || starts_in words cs s = λ s. ap (λ (ds : List Chunk). has_start map s || starts_in words ds s) (sym none) ∙ w.marked s in
      let count : n + count_new words first [] ≡ count_new words first cs = ap (λ (ds : List Chunk). n + count_new words first ds) (sym none) ∙ w.count in
      (λ s. sym (or-false (has_start map s)) ∙ marked s, omega (arith, count))
