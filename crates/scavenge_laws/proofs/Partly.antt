-- A weak object some of whose words are cleared, in the middle of its clearing.
use Rattle.std.proofs.Common.{◌≡◌, ◌⊎◌, ℕ, Bool, true, false, ◌*◌, ◌/◌, ◌%◌, ◌<◌, cond, eqb, List, length, get_or, refl, ap, ◌∙◌, subst, inl, inr, arith}
use Rattle.spur_graph.specs.Graph.{Graph}
use Rattle.spur_graph.specs.Cells.{Cell, There, Store, final, pointer_count}
use Rattle.spur_graph.specs.Ordinary.{body_at, is_ordinary, is_good_word}
use Rattle.heap_cells.proofs.Bodies.{IsLike, with_words, all_pointers, is_formed-same}
use Rattle.heap_cells.proofs.References.{ordinary_there}
use Rattle.heap_laws.specs.Placed.{Outside}
use Rattle.scavenge_laws.specs.Copying.{IsHeapStore}
use Rattle.scavenge_laws.specs.Writing.{PutsCell}
use Rattle.scavenge_laws.specs.Ending.{cleared_word, Ending}
use Rattle.scavenge_laws.proofs.Cleared.{cleared-good}
use Rattle.scavenge_laws.proofs.Rebodied.{Rebodies, rebodied-final, rebodied-heap}
use Rattle.scavenge_laws.proofs.Values.{front_in, slot-word}

-- a cell is written twice
pub put_twice : {a : ℕ} {x y : Cell} {old mid new : Store} → PutsCell a x old mid → PutsCell a y mid new → PutsCell a y old new
put_twice {a} {x} {y} {old} {mid} {new} f g = record {
  keeps = record {
    reads = g.keeps.reads;
    names = g.keeps.names ∙ f.keeps.names;
    to = λ w. g.keeps.to w ∙ f.keeps.to w;
    five = g.keeps.five;
    firsts = λ j l. g.keeps.firsts j l ∙ f.keeps.firsts j l;
  };
  cells = λ t. g.cells t ∙ at t;
}
  where
    pick : (b : Bool) (u v : Cell) → cond b y (cond b u v) ≡ cond b y v
    pick true u v = refl
    pick false u v = refl

    at : (t : ℕ) → cond (eqb t a) y (mid.cell t) ≡ cond (eqb t a) y (old.cell t)
    at t = ap (cond (eqb t a) y) (f.cells t) ∙ pick (eqb t a) x (old.cell t)

module _ {young : ℕ → Bool} {g : Graph} {live : ℕ → Bool} {old : Store} {o : Outside} {left : ℕ → Type 0} {count : ℕ} {p q : ℕ → ℕ} (c : Ending young g live old o left count p q)
    {a : ℕ} {words : List ℕ} {new : Store} (put : PutsCell a (There (with_words (body_at old a) words)) old new) (ordinary : is_ordinary old a ≡ true) (four : (body_at old a).format ≡ 4) (long : length words ≡ length (body_at old a).words)
    (each : (i : ℕ) → i < length words → (get_or words i 0 ≡ get_or (body_at old a).words i 0) ⊎ (get_or words i 0 ≡ cleared_word young old (get_or (body_at old a).words i 0))) where
  like : IsLike (body_at old a) words
  like = record { long = long; first = λ l. absurd (omega (arith, l, four)) }

  count-new : pointer_count (with_words (body_at old a) words) ≡ length words
  count-new = all_pointers (with_words (body_at old a) words) (omega (arith, four))

  count-old : pointer_count (body_at old a) ≡ length (body_at old a).words
  count-old = all_pointers (body_at old a) (omega (arith, four))

  good : (i : ℕ) → i < length words → is_good_word old (get_or words i 0) ≡ true
  good i l =
      let was = slot-word old c.heap.store.sound a ordinary (get_or (body_at old a).words i 0) (front_in (pointer_count (body_at old a)) (body_at old a).words i (omega (arith, l, long, count-old)) (omega (arith, l, long))) in
      elim (each i l) [
        | inl e ↦ ap (is_good_word old) e ∙ was
        | inr e ↦ ap (is_good_word old) e ∙ cleared-good c.heap c.outer c.places c.standing (get_or (body_at old a).words i 0) was
      ]

  rebodies : Rebodies a (with_words (body_at old a) words) old new
  rebodies = record {
    heap = c.heap;
    put = put;
    ordinary = ordinary;
    class = refl;
    hash = refl;
    formed = is_formed-same (body_at old a) words like ∙ c.heap.store.sound.formed a (ordinary_there old a ordinary);
    good = λ i l. good i (subst (λ n. i < n) count-new l);
    fired = λ e. e;
  }

  -- the store is that of a heap, chains end where they ended, and a word would be cleared to the same
  pub partly_heap : IsHeapStore new
  partly_heap = rebodied-heap rebodies

  pub partly_final : (s : ℕ) → final new s ≡ final old s
  partly_final = rebodied-final rebodies

  pub partly_cleared : (w : ℕ) → cleared_word young new w ≡ cleared_word young old w
  partly_cleared w =
      let nil = put.keeps.firsts 0 (omega arith) in
      λ i. cond (eqb (w % 8) 0) (cond (young (partly_final (w / 8) i)) (8 * nil i) (8 * partly_final (w / 8) i)) w
