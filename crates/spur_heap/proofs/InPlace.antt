-- A store and the same with another object in the place of one: what they have in common.
use Rattle.std.proofs.Common.{◌≡◌, ◌≢◌, ℕ, true, false, not, ◌&&◌, length, refl, sym, ap, ◌∙◌, inl, inr}
use Rattle.std.proofs.lemmas.Bool.{false≢true, cases_eq}
use Rattle.std.specs.Option.{option_map}
use Rattle.spur_graph.specs.Cells.{Body, Cell, Moved, There, Store, is_start, is_moved, is_there, target_of, body_of, is_formed, final, lead}
use Rattle.spur_graph.specs.Ordinary.{body_at, is_bad_forwarder}
use Rattle.spur_graph.specs.Heaps.{IsSound}
use Rattle.heap_cells.proofs.Chains.{follow-same}
use Rattle.heap_cells.proofs.Bodies.{IsLike, is_formed-like}
use Rattle.spur_heap.proofs.OneCell.{with_cell, cell_here, cell_other}

-- the store with this object at one start
abbrev pub changed : Store → ℕ → Body → Store
changed h s b = with_cell h s (There b)

-- the first of two objects stands in a store, where the second is to stand
pub record InPlace (old : Store) (s : ℕ) (b b' : Body) : Type 0 where
  pub there : old.cell s ≡ There b

module _ {old : Store} {s : ℕ} {b : Body} {b' : Body} (k : InPlace old s b b') where
  pub cell-here : (changed old s b').cell s ≡ There b'
  cell-here = cell_here old s (There b')

  pub cell-other : (t : ℕ) → t ≢ s → (changed old s b').cell t ≡ old.cell t
  cell-other = cell_other old s (There b')

  -- what is the same of both objects is the same of all cells
  pub kept : {X : Type 0} (f : Cell → X) → f (There b') ≡ f (There b) → (t : ℕ) → f ((changed old s b').cell t) ≡ f (old.cell t)
  kept f e t = elim (cases_eq t s) [
    | inl is ↦ ap (λ u. f ((changed old s b').cell u)) is ∙ ap f cell-here ∙ e ∙ sym (ap f k.there) ∙ ap (λ u. f (old.cell u)) (sym is)
    | inr n ↦ ap f (cell-other t n)
  ]

  pub moved-same : (t : ℕ) → is_moved ((changed old s b').cell t) ≡ is_moved (old.cell t)
  moved-same = kept is_moved refl

  pub there-same : (t : ℕ) → is_there ((changed old s b').cell t) ≡ is_there (old.cell t)
  there-same = kept is_there refl

  pub start-same : (t : ℕ) → is_start ((changed old s b').cell t) ≡ is_start (old.cell t)
  start-same = kept is_start refl

  pub final-same : (t : ℕ) → final (changed old s b') t ≡ final old t
  unfolding final
  final-same t = follow-same (λ u. is_moved ((changed old s b').cell u)) (λ u. is_moved (old.cell u)) (λ u. target_of ((changed old s b').cell u)) (λ u. target_of (old.cell u)) moved-same (kept target_of refl) old.names t

  pub lead-same : (w : ℕ) → lead (changed old s b') w ≡ lead old w
  lead-same w = λ x. option_map (λ t. final-same t x) (old.to w)

  -- ---- where the store is sound

  pub targets-same : IsSound old → (t u : ℕ) → (changed old s b').cell t ≡ Moved u → is_start ((changed old s b').cell u) ≡ true
  targets-same sound t u e = elim (cases_eq t s) [
    | inl is ↦ absurd (false≢true (ap is_moved (sym cell-here ∙ ap (λ v. (changed old s b').cell v) (sym is) ∙ e)))
    | inr n ↦ start-same u ∙ sound.targets t u (sym (cell-other t n) ∙ e)
  ]

  pub ends-same : IsSound old → (t : ℕ) → is_bad_forwarder (changed old s b') t ≡ false
  ends-same sound t =
      let there : is_there ((changed old s b').cell (final (changed old s b') t)) ≡ is_there (old.cell (final old t)) = ap (λ u. is_there ((changed old s b').cell u)) (final-same t) ∙ there-same (final old t) in
      (λ x. moved-same t x && not (there x)) ∙ sound.ends t

  pub formed-kept : is_formed b' ≡ true → IsSound old → (t : ℕ) → is_there ((changed old s b').cell t) ≡ true → is_formed (body_at (changed old s b') t) ≡ true
  formed-kept formed sound t e = elim (cases_eq t s) [
    | inl is ↦ ap (λ u. is_formed (body_at (changed old s b') u)) is ∙ ap (λ c. is_formed (body_of c)) cell-here ∙ formed
    | inr n ↦ ap (λ c. is_formed (body_of c)) (cell-other t n) ∙ sound.formed t (sym (there-same t) ∙ e)
  ]

-- both are of the same class and format, and have as many words. Flags may differ, and so may the hash
pub record Alike (old : Store) (s : ℕ) (b b' : Body) : Type 0 where
  pub place : InPlace old s b b'
  pub class : b'.class ≡ b.class
  pub format : b'.format ≡ b.format
  pub like : IsLike b b'.words

module _ {old : Store} {s : ℕ} {b : Body} {b' : Body} (k : Alike old s b b') where
  pub format-same : (t : ℕ) → (body_at (changed old s b') t).format ≡ (body_at old t).format
  format-same = kept k.place (λ c. (body_of c).format) k.format

  pub length-same : (t : ℕ) → length (body_at (changed old s b') t).words ≡ length (body_at old t).words
  length-same = kept k.place (λ c. length (body_of c).words) k.like.long

  pub alike_formed : IsSound old → is_formed b' ≡ true
  alike_formed sound = is_formed-like b b' k.class k.format k.like ∙ sym (ap (λ c. is_formed (body_of c)) k.place.there) ∙ sound.formed s (ap is_there k.place.there)

  pub formed-same : IsSound old → (t : ℕ) → is_there ((changed old s b').cell t) ≡ true → is_formed (body_at (changed old s b') t) ≡ true
  formed-same sound = formed-kept k.place (alike_formed sound) sound
