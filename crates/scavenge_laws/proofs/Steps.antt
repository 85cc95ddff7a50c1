-- The steps of a scavenge that leave all names where they are: slots, forwarders and roots are followed.
use Rattle.std.proofs.Common.{◌≡◌, ◌≢◌, ℕ, Bool, true, false, List, arith, refl, sym, ap, ◌∙◌, subst, inl, inr, ◌⊎◌}
use Rattle.std.proofs.lemmas.Bool.{cases_eq}
use Rattle.std.specs.List.{All}
use Rattle.spur_graph.specs.Graph.{Graph}
use Rattle.spur_graph.specs.Cells.{Body, Moved, There, Store, is_start, is_there, first, final}
use Rattle.spur_graph.specs.Ordinary.{body_at}
use Rattle.heap_cells.proofs.Bodies.{with_words}
use Rattle.heap_laws.specs.Placed.{Outside}
use Rattle.heap_laws.proofs.Good.{outside_good}
use Rattle.scavenge_laws.specs.Copying.{Lives, IsClear, strong_words, may_wait, IsScanned, Copying, Grown}
use Rattle.scavenge_laws.specs.Writing.{PutsCell, AreFollowed, FollowsRoots}
use Rattle.scavenge_laws.proofs.Keeping.{once, placed-same, ordinary-kept, outside-kept, heap-kept}
use Rattle.scavenge_laws.proofs.Resaying.{Resays, root-resaid, resaid_placed, roots-resaid, same-roots}
use Rattle.scavenge_laws.proofs.Putting.{put-here, put-else, object-moved, written_resays, resays_itself, shortened_resays}

module _ {young : ℕ → Bool} {g : Graph} {further : ℕ → Bool} {old : Store} {o : Outside} {todo held : ℕ → Type 0} {p q : ℕ → ℕ} (c : Copying young g further old o todo held p q) where
  -- words that say what they said keep everything, where what was written is still to do
  pub resaid : {new : Store} (o' : Outside) → Resays old new → FollowsRoots old o o'
      → ((s t : ℕ) → young s ≡ false → new.cell s ≡ Moved t → todo s ⊎ (young t ≡ false))
      → ((s : ℕ) (b : Body) → young s ≡ false → s ≢ first old 3 → new.cell s ≡ There b → todo s ⊎ IsScanned young g held s b)
      → Copying young g further new o' todo held p q
  resaid {new} o' k roots moved scanned =
      let placed = resaid_placed k in
      let out = roots-resaid k o o' c.good roots in
      record {
        heap = heap-kept k.keeps (root-resaid k) placed k.heap (λ s e. c.heap.below s (sym (k.starts s) ∙ e));
        outer = outside-kept k.keeps (root-resaid k) young c.outer;
        good = outside_good placed o o' c.good out;
        places = c.places;
        same = placed-same placed q q (once c.places) (λ s on. refl) o o' g.hash_state g.next out ∙ c.same;
        sound = λ s out on. c.sound s out (sym (ordinary-kept k.keeps (root-resaid k) s (k.there s)) ∙ on);
        led = λ s out e y. subst (Lives g further) (ap q (sym (k.ends s))) (c.led s out (sym (k.starts s) ∙ e) (ap young (sym (k.ends s)) ∙ y));
        moved = moved;
        scanned = λ s b out n e. scanned s b out (λ same. n (same ∙ sym (k.keeps.firsts 3 (omega arith)))) e;
      }

  pub resaid-grown : {new : Store} → Resays old new → Grown old q new q
  resaid-grown {new} k = record { starts = λ s e. k.starts s ∙ e; names = λ s e. ap q (k.ends s) }

  -- slots of an object that is to do are followed
  module _ {a : ℕ} {words : List ℕ} {new : Store} (put : PutsCell a (There (with_words (body_at old a) words)) old new) (there : is_there (old.cell a) ≡ true) (four : a ≢ first old 4) (followed : AreFollowed old (body_at old a) words) where
    resays : Resays old new
    resays = written_resays c.heap put there four followed

    pub written : todo a → Copying young g further new o todo held p q
    written in_do = resaid o resays (same-roots resays o)
        (λ s t out e. c.moved s t out (object-moved put there s t e))
        (λ s b out n e. elim (cases_eq s a) [
          | inl same ↦ inl (subst todo (sym same) in_do)
          | inr m ↦ c.scanned s b out n (sym (put-else put s m) ∙ e)
        ])

    pub written-grown : Grown old q new q
    written-grown = resaid-grown resays

    pub written-final : (s : ℕ) → final new s ≡ final old s
    written-final = resays.ends

  -- a forwarder that is to do leads to its end at once
  module _ {a t : ℕ} {new : Store} (put : PutsCell a (Moved (final old a)) old new) (was : old.cell a ≡ Moved t) where
    resays-short : Resays old new
    resays-short = shortened_resays c.heap put was

    pub shortened : todo a → Copying young g further new o todo held p q
    shortened in_do = resaid o resays-short (same-roots resays-short o)
        (λ s u out e. elim (cases_eq s a) [
          | inl same ↦ inl (subst todo (sym same) in_do)
          | inr m ↦ c.moved s u out (sym (put-else put s m) ∙ e)
        ])
        (λ s b out n e. elim (cases_eq s a) [
          | inl same ↦ let z : Moved (final old a) ≡ There b = sym (put-here put s same) ∙ e in absurd cc
          | inr m ↦ c.scanned s b out n (sym (put-else put s m) ∙ e)
        ])

    pub shortened-grown : Grown old q new q
    shortened-grown = resaid-grown resays-short

    pub shortened-final : (s : ℕ) → final new s ≡ final old s
    shortened-final = resays-short.ends

  -- roots are followed
  pub roots-followed : (o' : Outside) → FollowsRoots old o o' → Copying young g further old o' todo held p q
  roots-followed o' roots = resaid o' (resays_itself c.heap) roots c.moved c.scanned

  -- what is to do and what is held back may be said in other words
  pub resaying : (todo' held' : ℕ → Type 0)
      → ((s t : ℕ) → young s ≡ false → old.cell s ≡ Moved t → todo s → todo' s ⊎ (young t ≡ false))
      → ((s : ℕ) (b : Body) → young s ≡ false → s ≢ first old 3 → old.cell s ≡ There b → todo s → todo' s ⊎ IsScanned young g held' s b)
      → ((s : ℕ) (b : Body) → young s ≡ false → s ≢ first old 3 → old.cell s ≡ There b → held s → may_wait b ≡ true → All (IsClear young) (strong_words g b) → todo' s ⊎ IsScanned young g held' s b)
      → Copying young g further old o todo' held' p q
  resaying todo' held' moves scans keeps = record {
    heap = c.heap;
    outer = c.outer;
    good = c.good;
    places = c.places;
    same = c.same;
    sound = c.sound;
    led = c.led;
    moved = λ s t out e. elim (c.moved s t out e) [ inl d ↦ moves s t out e d | inr d ↦ inr d ];
    scanned = λ s b out n e. elim (c.scanned s b out n e) [
      | inl d ↦ scans s b out n e d
      | inr d ↦ elim d [ inl all ↦ inr (inl all) | inr back ↦ keeps s b out n e back.0 back.1 back.2 ]
    ];
  }

  -- a place is done
  pub place-done : (todo' held' : ℕ → Type 0) (a : ℕ) → ((s : ℕ) → is_start (old.cell s) ≡ true → todo s → todo' s ⊎ (s ≡ a)) → ((s : ℕ) → held s → held' s)
      → ((t : ℕ) → old.cell a ≡ Moved t → young t ≡ false) → ((b : Body) → a ≢ first old 3 → old.cell a ≡ There b → IsScanned young g held' a b)
      → Copying young g further old o todo' held' p q
  place-done todo' held' a less more is-moved is-there = resaying todo' held'
      (λ s t out e d. elim (less s (ap is_start e) d) [ inl k ↦ inl k | inr k ↦ inr (is-moved t (ap old.cell (sym k) ∙ e)) ])
      (λ s b out n e d. elim (less s (ap is_start e) d) [ inl k ↦ inl k | inr k ↦ inr (subst (λ u. IsScanned young g held' u b) (sym k) (is-there b (λ x. n (k ∙ x)) (ap old.cell (sym k) ∙ e))) ])
      (λ s b out n e d is strong. inr (inr (more s d, is, strong)))
