-- The single copy: a live object goes out of the space that is being left, and a forwarder stays.
use Rattle.std.proofs.Common.{◌≡◌, ◌≢◌, ℕ, Bool, true, false, ◌<◌, cond, eqb, get_or, refl, sym, ap, ◌∙◌, subst, inl, inr, arith}
use Rattle.std.proofs.lemmas.Bool.{false≢true, cases_eq, eq-eqb, ne_eqb}
use Rattle.spur_graph.specs.Graph.{Graph}
use Rattle.spur_graph.specs.Names.{swapped}
use Rattle.spur_graph.specs.Cells.{Moved, Store, is_moved, is_start, is_there, body_of, first, final}
use Rattle.spur_graph.specs.Ordinary.{body_at, root_slot}
use Rattle.spur_graph.proofs.Swapping.{swapped-right, swapped-else, swapped-twice}
use Rattle.heap_cells.proofs.CellKinds.{there_starts, there_is_not_moved}
use Rattle.heap_cells.proofs.Chains.{final-there}
use Rattle.heap_cells.proofs.References.{ordinary_there}
use Rattle.heap_laws.specs.Placed.{Outside, CanPlace}
use Rattle.heap_laws.specs.Instances.{IsCopied, all_objects, moved_to}
use Rattle.heap_laws.proofs.Copied.{start_apart, final-copied, copied_placed}
use Rattle.heap_laws.proofs.Named.{outside-copied}
use Rattle.heap_laws.proofs.Good.{outside_good}
use Rattle.scavenge_laws.specs.Copying.{Lives, Copying, Grown}
use Rattle.scavenge_laws.specs.Writing.{PutsCopy}
use Rattle.scavenge_laws.proofs.Keeping.{once, placed-same, ordinary-kept, outside-kept, heap-kept}
use Rattle.scavenge_laws.proofs.Outer.{leads_there, first-outside, young-later, young-ordinary}

module _ {young : ℕ → Bool} {g : Graph} {further : ℕ → Bool} {old new : Store} {o : Outside} {todo held : ℕ → Type 0} {p q : ℕ → ℕ} (c : Copying young g further old o todo held p q)
    {a b : ℕ} (put : PutsCopy a b old new) (inside : young a ≡ true) (there : is_there (old.cell a) ≡ true) (out : young b ≡ false) where
  copied : IsCopied a b old new
  copied = record {
    before = c.heap.store;
    reads = (put.keeps).reads;
    below = c.heap.below;
    ordinary = young-ordinary c.outer a inside there;
    later = young-later c.outer a inside;
    free = put.free;
    cells = put.cells;
    names = (put.keeps).names;
    same = (put.keeps).to;
    five = (put.keeps).five;
    firsts = (put.keeps).firsts;
  }

  placed : CanPlace (moved_to a b) (all_objects old) old new
  placed = copied_placed copied

  not-a : (s : ℕ) → young s ≡ false → s ≢ a
  not-a s y e = false≢true (sym y ∙ ap young e ∙ inside)

  at_b : new.cell b ≡ old.cell a
  at_b = put.cells b ∙ ap (λ t. cond t (old.cell a) (cond (eqb b a) (Moved b) (old.cell b))) (eq-eqb b b refl)

  at_else : (s : ℕ) → s ≢ a → s ≢ b → new.cell s ≡ old.cell s
  at_else s n m = put.cells s ∙ ap (λ t. cond t (old.cell a) (cond (eqb s a) (Moved b) (old.cell s))) (ne_eqb s b m) ∙ ap (λ t. cond t (Moved b) (old.cell s)) (ne_eqb s a n)

  at_a : new.cell a ≡ Moved b
  at_a = put.cells a ∙ ap (λ t. cond t (old.cell a) (cond (eqb a a) (Moved b) (old.cell a))) (ne_eqb a b (λ e. not-a b out (sym e))) ∙ ap (λ t. cond t (Moved b) (old.cell a)) (eq-eqb a a refl)

  four : first old 4 ≢ b
  four = start_apart copied (first old 4) (there_starts _ (c.heap.store.sound.roots.objects 4 (omega arith)))

  roots : (i : ℕ) → root_slot new i ≡ root_slot old i
  roots i =
      ap (λ s. get_or (body_at new s).words i 0) ((put.keeps).firsts 4 (omega arith))
      ∙ ap (λ x. get_or (body_of x).words i 0) (at_else (first old 4) (not-a (first old 4) (first-outside c.outer 4 (omega arith))) four)

  -- the place of an object has its name
  named : (s : ℕ) → is_start (old.cell s) ≡ true → s ≡ swapped a b (moved_to a b s)
  named s on = elim (cases_eq s a) [
    | inl e ↦ e ∙ sym (swapped-right a b b refl) ∙ ap (swapped a b) (sym (ap (λ t. cond t b s) (eq-eqb s a e)))
    | inr n ↦ sym (swapped-else a b s n (start_apart copied s on)) ∙ ap (swapped a b) (sym (ap (λ t. cond t b s) (ne_eqb s a n)))
  ]

  starts : (s : ℕ) → is_start (old.cell s) ≡ true → is_start (new.cell s) ≡ true
  starts s on = elim (cases_eq s a) [
    | inl e ↦ ap (λ t. is_start (new.cell t)) e ∙ ap is_start at_a
    | inr n ↦ ap is_start (at_else s n (start_apart copied s on)) ∙ on
  ]

  below : (s : ℕ) → is_start (new.cell s) ≡ true → s < old.names
  below s on = elim (cases_eq s b) [
    | inl e ↦ subst (λ t. t < old.names) (sym e) put.low
    | inr m ↦ elim (cases_eq s a) [
      | inl e ↦ c.heap.below s (ap (λ t. is_start (old.cell t)) e ∙ there_starts (old.cell a) there)
      | inr n ↦ c.heap.below s (sym (ap is_start (at_else s n m)) ∙ on)
    ]
  ]

  pub copied-grown : Grown old q new (λ s. q (swapped a b s))
  copied-grown = record {
    starts = starts;
    names = λ s on.
        let end = leads_there old c.heap s on in
        ap (λ t. q (swapped a b t)) (final-copied copied s (there_is_not_moved _ end)) ∙ ap q (sym (named (final old s) (there_starts _ end)));
  }

  pub copied-copying : Lives g further (q a) → (todo' : ℕ → Type 0) → ((s : ℕ) → todo s → todo' s) → todo' b → Copying young g further new o todo' held (λ s. swapped a b (p s)) (λ s. q (swapped a b s))
  copied-copying live todo' keeps adds = record {
    heap = heap-kept put.keeps roots placed c.heap below;
    outer = outside-kept put.keeps roots young c.outer;
    good = outside_good placed o o c.good (outside-copied copied o c.good);
    places = record {
      left = λ s. ap (swapped a b) (c.places.left (swapped a b s)) ∙ swapped-twice a b s;
      right = λ s. ap q (swapped-twice a b (p s)) ∙ c.places.right s;
    };
    same = placed-same placed q (λ s. q (swapped a b s)) (once c.places) (λ s on. ap q (named s (there_starts _ (ordinary_there old s on)))) o o g.hash_state g.next (outside-copied copied o c.good) ∙ c.same;
    sound = λ s y on. elim (cases_eq s b) [
      | inl e ↦ subst (Lives g further) (ap q (sym (swapped-right a b s e))) live
      | inr m ↦ subst (Lives g further) (ap q (sym (swapped-else a b s (not-a s y) m))) (c.sound s y (sym (ordinary-kept put.keeps roots s (ap is_there (at_else s (not-a s y) m))) ∙ on))
    ];
    led = λ s y on inner. elim (cases_eq s b) [
      | inl e ↦ absurd (false≢true (sym (ap young (ap (final new) e ∙ final-there new b (ap is_there at_b ∙ there)) ∙ out) ∙ inner))
      | inr m ↦
          let was : is_start (old.cell s) ≡ true = sym (ap is_start (at_else s (not-a s y) m)) ∙ on in
          let end = leads_there old c.heap s was in
          let to : final new s ≡ moved_to a b (final old s) = final-copied copied s (there_is_not_moved _ end) in
          elim (cases_eq (final old s) a) [
            | inl e ↦ absurd (false≢true (sym (ap young (to ∙ ap (λ t. cond t b (final old s)) (eq-eqb (final old s) a e)) ∙ out) ∙ inner))
            | inr n ↦
                let stays : final new s ≡ final old s = to ∙ ap (λ t. cond t b (final old s)) (ne_eqb (final old s) a n) in
                subst (Lives g further) (ap q (sym (ap (swapped a b) stays ∙ swapped-else a b (final old s) n (start_apart copied (final old s) (there_starts _ end))))) (c.led s y was (ap young (sym stays) ∙ inner))
          ]
    ];
    moved = λ s t y e. elim (cases_eq s b) [
      | inl same ↦ absurd (false≢true (sym (ap is_moved at_b ∙ there_is_not_moved _ there) ∙ ap (λ u. is_moved (new.cell u)) (sym same) ∙ ap is_moved e))
      | inr m ↦ elim (c.moved s t y (sym (at_else s (not-a s y) m) ∙ e)) [ inl d ↦ inl (keeps s d) | inr d ↦ inr d ]
    ];
    scanned = λ s x y n e. elim (cases_eq s b) [
      | inl same ↦ inl (subst todo' (sym same) adds)
      | inr m ↦ elim (c.scanned s x y (λ k. n (k ∙ sym ((put.keeps).firsts 3 (omega arith)))) (sym (at_else s (not-a s y) m) ∙ e)) [ inl d ↦ inl (keeps s d) | inr d ↦ inr d ]
    ];
  }
