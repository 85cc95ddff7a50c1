-- One chunk after another goes down.
use Rattle.std.proofs.Common.{◌≡◌, ℕ, ◌+◌, ◌-◌, ◌<◌, ◌≤◌, List, length, get_or, sym, ap, ◌∙◌, subst, inl, inr, arith}
use Rattle.std.proofs.lemmas.Bool.{cases_eq}
use Rattle.object_header.specs.Chunks.{slots_at, StandsAt}
use Rattle.heap_walk.specs.declared.saved.Saved.{Saved}
use Rattle.planning_compactor.specs.Entries.{start_of}
use Rattle.heap_walk.specs.Shapes.{lead_at, place_at, words_at}
use Rattle.planning_compactor.specs.Slid.{target_of, to_at, from_at, long_at, CanSlide, Slid}
use Rattle.planning_compactor.proofs.Shapes.{SameHead, slots_at-moved, lead-one, lead-low, lead-same, words-same, stands-same}

module _ (es : List Saved) (before words : List ℕ) (i : ℕ) (c : CanSlide es before) (r : Slid es before words i) (b : i < length es) where
  s : ℕ
  s = start_of es i

  -- what stands at the chunk or behind it is as before
  above : (j : ℕ) → from_at es before i ≤ j → get_or words j 0 ≡ get_or before j 0
  above j l = r.others j (λ k m. inr (let o = c.order k i m b in let d = c.down i b in omega (arith, o, d, l)))

  head-is : get_or words (start_of es i) 0 ≡ get_or before (start_of es i) 0
  head-is = above (start_of es i) (omega arith)

  slots-is : slots_at words (start_of es i) ≡ slots_at before (start_of es i)
  slots-is = slots_at-moved before words (start_of es i) (start_of es i) head-is (λ on. above (start_of es i - 1) (omega (arith, lead-one before (start_of es i) on)))

  head : SameHead before words (start_of es i) (start_of es i)
  head = record { header = head-is; slots = slots-is }

  pub lead-is : lead_at words (start_of es i) ≡ lead_at before (start_of es i)
  lead-is = lead-same head

  size-is : words_at words (start_of es i) ≡ words_at before (start_of es i)
  size-is = words-same head

  pub stands-is : StandsAt words (start_of es i)
  stands-is = stands-same head (c.stands i b) (lead-low before (start_of es i) (c.stands i b)) (omega arith) r.same_words

  pub room-is : lead_at words (start_of es i) ≤ target_of es i
  room-is = let k = c.room i b in omega (arith, k, lead-is)

  module _ (words' : List ℕ) (same : length words' ≡ length words)
      (moved : (j : ℕ) → j < words_at words (start_of es i) → get_or words' (target_of es i - lead_at words (start_of es i) + j) 0 ≡ get_or words (place_at words (start_of es i) + j) 0)
      (below : (j : ℕ) → j < target_of es i - lead_at words (start_of es i) → get_or words' j 0 ≡ get_or words j 0)
      (over : (j : ℕ) → target_of es i - lead_at words (start_of es i) + words_at words (start_of es i) ≤ j → get_or words' j 0 ≡ get_or words j 0)
    where
      under : (j : ℕ) → j < to_at es before i → get_or words' j 0 ≡ get_or words j 0
      under j l = below j (omega (arith, l, lead-is))

      pub slid-more : Slid es before words' (i + 1)
      slid-more = record {
        same_words = same ∙ r.same_words;
        moved = λ k j l m. elim (cases_eq k i) [
          | inl e ↦
              let m' : j < long_at es before i = subst (λ x. j < long_at es before x) e m in
              let a : to_at es before i + j ≡ target_of es i - lead_at words (start_of es i) + j = omega (arith, lead-is) in
              let d : place_at words (start_of es i) + j ≡ from_at es before i + j = omega (arith, lead-is) in
              ap (λ x. get_or words' (to_at es before x + j) 0) e ∙ ap (λ x. get_or words' x 0) a ∙ moved j (omega (arith, m', size-is)) ∙ ap (λ x. get_or words x 0) d ∙ above (from_at es before i + j) (omega arith)
              ∙ ap (λ x. get_or before (from_at es before x + j) 0) (sym e)
          | inr n ↦ let o = c.order k i (omega (arith, l, n)) b in under (to_at es before k + j) (omega (arith, o, m)) ∙ r.moved k j (omega (arith, l, n)) m
        ];
        others = λ j f. elim (f i (omega arith)) [
          | inl low ↦ under j low ∙ r.others j (λ k l. f k (omega (arith, l)))
          | inr up ↦ over j (omega (arith, up, lead-is, size-is)) ∙ r.others j (λ k l. f k (omega (arith, l)))
        ];
      }
