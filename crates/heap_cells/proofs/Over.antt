-- What names a place behind old space.
use Rattle.std.proofs.Common.{◌≡◌, ◌⊎◌, ℕ, true, ◌<◌, length, get_or, set, refl, sym, ap, ◌∙◌, inl, inr, arith}
use Rattle.std.proofs.lemmas.Bool.{cases_eq}
use Rattle.std.proofs.lemmas.List.{get_or-set_same, get_or-set_other}
use Rattle.spur_graph.specs.Cells.{Body, Cell, Empty, Moved, There, is_start, pointer_count}
use Rattle.spur_graph.specs.Heaps.{is_over, names_over}
use Rattle.heap_cells.proofs.Below.{any_below-has, any_below-found}
use Rattle.heap_cells.proofs.Bodies.{IsLike, with_words, pointer_count-same}

-- what names a place behind old space is an object or a forwarder
pub over-starts : (end : ℕ) (x : Cell) → names_over end x ≡ true → is_start x ≡ true
unfolding names_over
over-starts end Empty e = e
over-starts end (Moved t) e = refl
over-starts end (There b) e = refl

-- an object that has another word in slot `n` and names such a place named one before, or does so by this word
pub over-written : (end : ℕ) (b : Body) (n w : ℕ) → n < length b.words → IsLike b (set b.words n w) → names_over end (There (with_words b (set b.words n w))) ≡ true
    → (names_over end (There b) ≡ true) ⊎ ((n < pointer_count b) × (is_over end w ≡ true))
unfolding names_over
over-written end b n w inside like e =
    let count = pointer_count-same b (set b.words n w) like in
    let r = any_below-found (λ i. is_over end (get_or (set b.words n w) i 0)) (pointer_count (with_words b (set b.words n w))) e in
    elim (cases_eq r.0 n) [
      | inl same ↦ inr (omega (arith, r.1, count, same), sym (ap (is_over end) (ap (λ i. get_or (set b.words n w) i 0) same ∙ get_or-set_same b.words n w 0 inside)) ∙ r.2)
      | inr other ↦ inl (any_below-has (λ i. is_over end (get_or b.words i 0)) (pointer_count b) r.0 (omega (arith, r.1, count)) (sym (ap (is_over end) (get_or-set_other b.words n r.0 w 0 other)) ∙ r.2))
    ]
