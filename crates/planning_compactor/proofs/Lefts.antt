-- The moves that are left.
use Rattle.std.proofs.Common.{◌≡◌, ℕ, suc, zero, Bool, true, false, ◌+◌, ◌-◌, ◌*◌, ◌/◌, ◌<◌, ◌≤◌, List, [], ◌∷◌, ◌++◌, map, take, length, set, refl, sym, ap, ◌∙◌, subst, inl, inr, arith}
use Rattle.std.proofs.lemmas.List.{get_or-set_same, append_assoc, take_more, map-append}
use Rattle.planning_compactor.specs.Spans.{Stop, stop, Move, moves}
use Rattle.planning_compactor.proofs.Plans.{moves-on, moves-off}
use Rattle.heap_walk.specs.declared.saved.Saved.{Saved}
use Rattle.planning_compactor.specs.Entries.{entry}
use Rattle.heap_walk.specs.Shapes.{lead_at, place_at, words_at}
use Rattle.compaction_laws.specs.Compacting.{is_pinned}
use Rattle.planning_compactor.specs.Planning.{mark_at, marks, pins, left, move_of, IsNext, AreStill, IsPlanned}
use Rattle.planning_compactor.proofs.Lists.{marks-skip, marks-here}

module _ (has : ℕ → Bool) (words : List ℕ) (next pin finger end s : ℕ) (on : next ≤ s) (l : s < end) (h : has s ≡ true) (none : (k : ℕ) → next ≤ k → k < s → has k ≡ false) where
  next-mark : marks has words next end ≡ mark_at words s ∷ marks has words (s + 1) end
  next-mark = marks-skip has words next s end on (omega (arith, l)) none ∙ marks-here has words s end l h

  pub left-pinned : is_pinned words s ≡ true → left has words next pin finger end ≡ left has words (s + 1) pin finger end
  left-pinned is = ap (moves (pins has words pin end) finger) next-mark ∙ moves-on (pins has words pin end) finger (mark_at words s) (marks has words (s + 1) end) is

  pub left-mobile : (pin' finger' : ℕ) → is_pinned words s ≡ false → lead_at words s ≤ s → stop (pins has words pin end) finger (place_at words s) (words_at words s) ≡ record { at = finger'; ahead = pins has words pin' end }
      → left has words next pin finger end ≡ record { start = s; target = finger' + lead_at words s } ∷ left has words (s + 1) pin' (finger' + words_at words s) end
  left-mobile pin' finger' off room is =
      let behind : s - place_at words s ≡ lead_at words s = omega (arith, room) in
      ap (moves (pins has words pin end) finger) next-mark ∙ moves-off (pins has words pin end) finger (mark_at words s) (marks has words (s + 1) end) off
      ∙ ap (λ (r : Stop). record { start = s; target = r.at + (s - place_at words s) } ∷ moves r.ahead (r.at + words_at words s) (marks has words (s + 1) end)) is
      ∙ ap (λ n. record { start = s; target = finger' + n } ∷ left has words (s + 1) pin' (finger' + words_at words s) end) behind

-- the first entries of two tables
take-same : (es es' : List Saved) (n : ℕ) → n ≤ length es → n ≤ length es' → ((k : ℕ) → k < n → entry es' k ≡ entry es k) → take n es' ≡ take n es
take-same es es' zero l m h = refl
take-same [] es' (suc n) l m h = absurd (omega arith)
take-same (e ∷ es) [] (suc n) l m h = absurd (omega arith)
take-same (e ∷ es) (x ∷ es') (suc n) l m h = λ i. h 0 (omega arith) i ∷ take-same es es' n (omega arith) (omega arith) (λ k b. h (suc k) (omega arith)) i

still-append : (next : ℕ) (xs ys : List Move) → AreStill next xs → AreStill next ys → AreStill next (xs ++ ys)
still-append next [] ys a b = b
still-append next (x ∷ xs) ys a b = (a.0, still-append next xs ys a.1 b)

still-more : (next next' : ℕ) (xs : List Move) → next ≤ next' → AreStill next xs → AreStill next' xs
still-more next next' [] l a = tt
still-more next next' (x ∷ xs) l a = ((a.0.0, let z = a.0.1 in omega (arith, z, l)), still-more next next' xs l a.1)

-- one chunk more
pub planned-more : (first before after : List Move) (es es' : List Saved) (n m next next' : ℕ) → next ≤ next' → n ≤ length es → n < length es' → ((k : ℕ) → k < n → entry es' k ≡ entry es k)
    → IsPlanned first es n next before → IsNext before es' n m next' after → IsPlanned first es' m next' after
planned-more first before after es es' n m next next' u l b same p (inl k) =
    subst (λ x. IsPlanned first es' x next' after) (sym k.0) (record { stays = p.stays; still = still-more next next' p.stays u p.still; is = p.is ∙ ap (λ xs. p.stays ++ (map move_of xs ++ before)) (sym (take-same es es' n l (omega (arith, b)) same)) ∙ ap (λ xs. p.stays ++ (map move_of (take n es') ++ xs)) k.1 })
planned-more first before after es es' n m next next' u l b same p (inr (inl k)) =
    let s : ℕ = k.2.0 in
    let e : Move = record { start = s; target = s } in
    let zero-in : take n es ≡ [] = ap (λ x. take x es) k.1 in
    let zero-in' : take m es' ≡ [] = ap (λ x. take x es') (k.0 ∙ k.1) in
    record {
      stays = p.stays ++ e ∷ [];
      still = still-append next' p.stays (e ∷ []) (still-more next next' p.stays u p.still) ((refl, k.2.1), tt);
      is = p.is ∙ ap (λ xs. p.stays ++ (map move_of xs ++ before)) zero-in ∙ ap (λ xs. p.stays ++ xs) k.2.2 ∙ sym (append_assoc p.stays (e ∷ []) after) ∙ ap (λ xs. (p.stays ++ e ∷ []) ++ (map move_of xs ++ after)) (sym zero-in');
    }
planned-more first before after es es' n m next next' u l b same p (inr (inr k)) =
    let new : Saved = entry es' n in
    let front : take m es' ≡ take n es ++ new ∷ [] = ap (λ x. take x es') k.0 ∙ take_more es' n (record { start = 0; first = 0 }) b ∙ ap (λ xs. xs ++ new ∷ []) (take-same es es' n l (omega (arith, b)) same) in
    record {
      stays = p.stays;
      still = still-more next next' p.stays u p.still;
      is = p.is ∙ ap (λ xs. p.stays ++ (map move_of (take n es) ++ xs)) k.1 ∙ ap (λ xs. p.stays ++ xs) (sym (append_assoc (map move_of (take n es)) (move_of new ∷ []) after) ∙ ap (λ xs. xs ++ after) (sym (map-append move_of (take n es) (new ∷ [])) ∙ ap (map move_of) (sym front)));
    }

pub entry-move : (es : List Saved) (n s t : ℕ) → n < length es → move_of (entry (set es n (record { start = s; first = 8 * t })) n) ≡ record { start = s; target = t }
entry-move es n s t l =
    let q : 8 * t / 8 ≡ t = omega arith in
    ap move_of (get_or-set_same es n (record { start = s; first = 8 * t }) (record { start = 0; first = 0 }) l) ∙ ap (λ x. record { start = s; target = x }) q
