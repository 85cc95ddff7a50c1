-- What settling keeps of the cells, and that chains are the same.
use Rattle.std.proofs.Common.{◌≡◌, ◌≢◌, ℕ, suc, zero, true, false, ◌%◌, ◌<◌, ◌≤◌, eqb, drop, length, get_or, refl, sym, ap, ◌∙◌, arith, inl, inr}
use Rattle.std.proofs.lemmas.Bool.{false≢true, cases_eq, cases_Bool, eq-eqb, ne_eqb, or_left, cond-true, cond-false}
use Rattle.std.proofs.lemmas.List.{get_or_append_left}
use Rattle.spur_graph.specs.Value.{is_immediate_word}
use Rattle.spur_graph.specs.Chains.{follow}
use Rattle.spur_graph.specs.Cells.{Body, Cell, Empty, Moved, There, Store, is_start, is_moved, is_there, target_of, body_of, pointer_count, first, final}
use Rattle.spur_graph.specs.Ordinary.{body_at}
use Rattle.heap_cells.specs.Settled.{map_front, map_from, settled_word, settled_root, settled_words, settled_cell, IsLoadable, IsNamed, IsSettled}
use Rattle.heap_cells.proofs.CellKinds.{there_starts, there_is_not_moved, moved_starts}
use Rattle.heap_cells.proofs.Chains.{moves, forwards, follow-end, follow-step, follow-none, follow-more, follow-same, good_forwarder_ends, final-end}
use Rattle.heap_cells.proofs.Fronts.{length-front, length-from, front-first, drop-front}
use Rattle.heap_cells.proofs.Bodies.{IsLike, with_words, first_tag}

-- words that are loaded, before and after
pub record Both (old new : Store) : Type 0 where
  pub named : IsNamed old
  pub loadable : IsLoadable old
  pub settled : IsSettled old new

settled_moved : (h : Store) (s : ℕ) (c : Cell) → is_moved (settled_cell h s c) ≡ is_moved c
settled_moved h s Empty = refl
settled_moved h s (Moved t) = refl
settled_moved h s (There b) = refl

settled_target : (h : Store) (s : ℕ) (c : Cell) → target_of (settled_cell h s c) ≡ target_of c
settled_target h s Empty = refl
settled_target h s (Moved t) = refl
settled_target h s (There b) = refl

settled_there : (h : Store) (s : ℕ) (c : Cell) → is_there (settled_cell h s c) ≡ is_there c
settled_there h s Empty = refl
settled_there h s (Moved t) = refl
settled_there h s (There b) = refl

settled_start : (h : Store) (s : ℕ) (c : Cell) → is_start (settled_cell h s c) ≡ is_start c
settled_start h s Empty = refl
settled_start h s (Moved t) = refl
settled_start h s (There b) = refl

settled_body : (h : Store) (s : ℕ) (c : Cell) → is_there c ≡ true → body_of (settled_cell h s c) ≡ with_words (body_of c) (settled_words h s (body_of c))
settled_body h s Empty e = absurd (false≢true e)
settled_body h s (Moved t) e = absurd (false≢true e)
settled_body h s (There b) e = refl

-- the words of an object by what it is
pub words-lists : (h : Store) (s : ℕ) (b : Body) → s ≢ first h 4 → s ≡ first h 3 → settled_words h s b ≡ b.words
unfolding settled_words
words-lists h s b n e = cond-false (eqb s (first h 4)) _ _ (ne_eqb s (first h 4) n) ∙ cond-true (eqb s (first h 3)) _ _ (eq-eqb s (first h 3) e)

pub words-roots : (h : Store) (s : ℕ) (b : Body) → s ≡ first h 4 → settled_words h s b ≡ map_from (settled_root h) 0 b.words
unfolding settled_words
words-roots h s b e = cond-true (eqb s (first h 4)) _ _ (eq-eqb s (first h 4) e)

pub words-other : (h : Store) (s : ℕ) (b : Body) → s ≢ first h 4 → s ≢ first h 3 → settled_words h s b ≡ map_front (settled_word h) (pointer_count b) b.words
unfolding settled_words
words-other h s b n m = cond-false (eqb s (first h 4)) _ _ (ne_eqb s (first h 4) n) ∙ cond-false (eqb s (first h 3)) _ _ (ne_eqb s (first h 3) m)

-- an immediate stays
pub immediate_stays : (h : Store) (w : ℕ) → is_immediate_word w ≡ true → settled_word h w ≡ w
immediate_stays h w e = cond-true (is_immediate_word w) _ _ e

-- a SmallInteger is an immediate
pub integer_word : (w : ℕ) → w % 8 ≡ 1 → is_immediate_word w ≡ true
integer_word w e = or_left _ _ (or_left _ _ (eq-eqb (w % 8) 1 e))

module _ {old new : Store} (k : Both old new) where
  pub moved-same : (s : ℕ) → is_moved (new.cell s) ≡ is_moved (old.cell s)
  moved-same s = ap is_moved (k.settled.cells s) ∙ settled_moved old s (old.cell s)

  pub target-same : (s : ℕ) → target_of (new.cell s) ≡ target_of (old.cell s)
  target-same s = ap target_of (k.settled.cells s) ∙ settled_target old s (old.cell s)

  pub there-same : (s : ℕ) → is_there (new.cell s) ≡ is_there (old.cell s)
  there-same s = ap is_there (k.settled.cells s) ∙ settled_there old s (old.cell s)

  pub start-same : (s : ℕ) → is_start (new.cell s) ≡ is_start (old.cell s)
  start-same s = ap is_start (k.settled.cells s) ∙ settled_start old s (old.cell s)

  pub body-settled : (s : ℕ) → is_there (old.cell s) ≡ true → body_at new s ≡ with_words (body_at old s) (settled_words old s (body_at old s))
  body-settled s e = ap body_of (k.settled.cells s) ∙ settled_body old s (old.cell s) e

  pub first-same : (j : ℕ) → j < length old.starts → first new j ≡ first old j
  first-same j l = ap (λ ss. get_or ss j 0) k.settled.starts ∙ get_or_append_left old.starts k.settled.more 0 j l

  pub first-five : (j : ℕ) → j < 5 → first new j ≡ first old j
  first-five j l = let m : 5 ≤ length old.starts = k.loadable.five in first-same j (omega arith)

  -- the chain of a forwarder ends in an object
  pub ends_there : (s : ℕ) → is_moved (old.cell s) ≡ true → is_there (old.cell (final old s)) ≡ true
  ends_there s e = good_forwarder_ends old s (k.loadable.ends s) e

  pub final-same : (s : ℕ) → final new s ≡ final old s
  unfolding final
  final-same s = elim (cases_Bool (is_moved (old.cell s))) [
    | inl on ↦
        let end : is_moved (old.cell (final old s)) ≡ false = there_is_not_moved (old.cell (final old s)) (ends_there s on) in
        follow-same (moves new) (moves old) (forwards new) (forwards old) moved-same target-same new.names s
        ∙ follow-more (moves old) (forwards old) old.names new.names s k.settled.names end
    | inr off ↦ final-end new s (moved-same s ∙ off) ∙ sym (final-end old s off)
  ]

  -- a forwarder names a start
  pub target_starts : (s : ℕ) → is_moved (old.cell s) ≡ true → is_start (old.cell (target_of (old.cell s))) ≡ true
  unfolding final
  target_starts s on = elim (cases_Bool (is_there (old.cell t))) [
    | inl there ↦ there_starts (old.cell t) there
    | inr none ↦ elim (cases_Bool (is_moved (old.cell t))) [
      | inl more ↦ moved_starts (old.cell t) more
      | inr end ↦ absurd (stuck old.names (ends_there s on) none end)
    ]
  ]
    where
      t : ℕ
      t = target_of (old.cell s)

      stuck : (n : ℕ) → is_there (old.cell (follow (moves old) (forwards old) n s)) ≡ true → is_there (old.cell t) ≡ false → is_moved (old.cell t) ≡ false → ⊥
      stuck zero e none end = false≢true (sym (there_is_not_moved (old.cell s) (sym (ap (λ u. is_there (old.cell u)) (follow-none (moves old) (forwards old) s)) ∙ e)) ∙ on)
      stuck (suc n) e none end =
          let f : follow (moves old) (forwards old) (suc n) s ≡ t = follow-step (moves old) (forwards old) n s on ∙ follow-end (moves old) (forwards old) n t end in
          false≢true (sym none ∙ sym (ap (λ u. is_there (old.cell u)) f) ∙ e)

  -- an object has as many words as before, and a method the same first one
  pub like : (s : ℕ) → is_there (old.cell s) ≡ true → IsLike (body_at old s) (settled_words old s (body_at old s))
  like s e = elim (cases_eq s (first old 4)) [
    | inl four ↦
        let two : (body_at old s).format ≡ 2 = ap (λ t. (body_at old t).format) four ∙ k.loadable.roots.0 in
        record {
          long = ap length (words-roots old s (body_at old s) four) ∙ length-from (settled_root old) 0 (body_at old s).words;
          first = λ l. absurd (omega (arith, two, l));
        }
    | inr not_four ↦ elim (cases_eq s (first old 3)) [
      | inl three ↦ record {
        long = ap length (words-lists old s (body_at old s) not_four three);
        first = λ l. ap (λ ws. get_or ws 0 0) (words-lists old s (body_at old s) not_four three);
      }
      | inr not_three ↦ record {
        long = ap length (words-other old s (body_at old s) not_four not_three) ∙ length-front (settled_word old) (pointer_count (body_at old s)) (body_at old s).words;
        first = λ l.
            let tag = first_tag (body_at old s) (k.loadable.formed s e) l in
            ap (λ ws. get_or ws 0 0) (words-other old s (body_at old s) not_four not_three)
            ∙ front-first (settled_word old) (pointer_count (body_at old s)) (body_at old s).words (immediate_stays old (get_or (body_at old s).words 0 0) (integer_word (get_or (body_at old s).words 0 0) tag));
      }
    ]
  ]

  -- what stands behind the pointer slots stays
  pub behind-same : (s : ℕ) → is_there (old.cell s) ≡ true → s ≢ first old 4 → drop (pointer_count (body_at old s)) (settled_words old s (body_at old s)) ≡ drop (pointer_count (body_at old s)) (body_at old s).words
  behind-same s e not_four = elim (cases_eq s (first old 3)) [
    | inl three ↦ ap (drop (pointer_count (body_at old s))) (words-lists old s (body_at old s) not_four three)
    | inr not_three ↦ ap (drop (pointer_count (body_at old s))) (words-other old s (body_at old s) not_four not_three) ∙ drop-front (settled_word old) (pointer_count (body_at old s)) (body_at old s).words
  ]

  pub words-settled : (s : ℕ) → is_there (old.cell s) ≡ true → (body_at new s).words ≡ settled_words old s (body_at old s)
  words-settled s e = ap (λ (b : Body). b.words) (body-settled s e)

  pub length-same : (s : ℕ) → is_there (old.cell s) ≡ true → length (body_at new s).words ≡ length (body_at old s).words
  length-same s e = ap length (words-settled s e) ∙ (like s e).long
