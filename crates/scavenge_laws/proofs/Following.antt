-- Slots that are followed one at a time, and steps that change no cell.
use Rattle.std.proofs.Common.{◌≡◌, ℕ, Bool, ◌<◌, ◌≤◌, set, length, length-set, get_or, refl, sym, ap, ◌∙◌, inl, inr, arith}
use Rattle.std.proofs.lemmas.Bool.{cases_eq}
use Rattle.std.proofs.lemmas.List.{get_or-set_same, get_or-set_other, drop-set-lt}
use Rattle.spur_graph.specs.Graph.{Graph}
use Rattle.spur_graph.specs.Cells.{Body, Store, is_moved, is_start, is_there, target_of, body_of, final, pointer_count}
use Rattle.heap_laws.specs.Placed.{Outside}
use Rattle.heap_laws.specs.Instances.{readdressed_by}
use Rattle.scavenge_laws.specs.Copying.{IsHeapStore, Copying, Grown}
use Rattle.scavenge_laws.specs.Writing.{KeepsFirsts, AreFollowed}
use Rattle.scavenge_laws.proofs.Resaying.{Resays, same-roots}
use Rattle.scavenge_laws.proofs.Putting.{final-same, unsaid}
use Rattle.scavenge_laws.proofs.Steps.{resaid, resaid-grown}

-- ---- one slot

pub slot_followed : (h : Store) (b : Body) (i : ℕ) → i < pointer_count b → pointer_count b ≤ length b.words → AreFollowed h b (set b.words i (readdressed_by (final h) (get_or b.words i 0)))
slot_followed h b i l fits = record {
  long = length-set b.words i (readdressed_by (final h) (get_or b.words i 0));
  slots = λ j m. elim (cases_eq j i) [
    | inl same ↦ inr (ap (λ k. get_or (set b.words i (readdressed_by (final h) (get_or b.words i 0))) k 0) same ∙ get_or-set_same b.words i (readdressed_by (final h) (get_or b.words i 0)) 0 (omega (arith, l, fits)) ∙ ap (λ k. readdressed_by (final h) (get_or b.words k 0)) (sym same))
    | inr n ↦ inl (get_or-set_other b.words i j (readdressed_by (final h) (get_or b.words i 0)) 0 n)
  ];
  rest = drop-set-lt (pointer_count b) b.words i (readdressed_by (final h) (get_or b.words i 0)) l;
}

-- ---- no cell is another

-- starts may be more, and bits that are no part of an object may differ
pub resays_cells : {old new : Store} → IsHeapStore old → KeepsFirsts old new → ((t : ℕ) → new.cell t ≡ old.cell t) → Resays old new
resays_cells {old} {new} heap keeps same = record {
  heap = heap;
  keeps = keeps;
  ends = final-same old new keeps.names (λ t. ap is_moved (same t)) (λ t. ap target_of (same t));
  there = λ s. ap is_there (same s);
  moves = λ s. ap is_moved (same s);
  starts = λ s. ap is_start (same s);
  objects = λ s on. unsaid s (ap body_of (same s));
  targets = λ s t e. ap is_start (same t) ∙ heap.store.sound.targets s t (sym (same s) ∙ e);
}

module _ {young : ℕ → Bool} {g : Graph} {further : ℕ → Bool} {old : Store} {o : Outside} {todo held : ℕ → Type 0} {p q : ℕ → ℕ} (c : Copying young g further old o todo held p q) {new : Store} (keeps : KeepsFirsts old new) (same : (t : ℕ) → new.cell t ≡ old.cell t) where
  pub cells-same : Copying young g further new o todo held p q
  cells-same =
      let k = resays_cells c.heap keeps same in
      resaid c o k (same-roots k o) (λ s t out e. c.moved s t out (sym (same s) ∙ e)) (λ s b out n e. c.scanned s b out n (sym (same s) ∙ e))

  pub cells-grown : Grown old q new q
  cells-grown = resaid-grown c (resays_cells c.heap keeps same)

-- ---- steps one after another

pub grown_none : {h : Store} {q : ℕ → ℕ} → Grown h q h q
grown_none {h} {q} = record { starts = λ s e. e; names = λ s e. refl }

pub grown_then : {h k l : Store} {q r t : ℕ → ℕ} → Grown h q k r → Grown k r l t → Grown h q l t
grown_then a b = record { starts = λ s e. b.starts s (a.starts s e); names = λ s e. b.names s (a.starts s e) ∙ a.names s e }
