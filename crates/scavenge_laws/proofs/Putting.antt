-- One cell is written: an object with words that say what they said, or a forwarder that leads to its end at once.
use Rattle.std.proofs.Common.{◌≡◌, ◌≢◌, ℕ, suc, zero, Bool, true, false, ◌≤◌, cond, eqb, List, drop, length, get_or, refl, sym, ap, ◌∙◌, subst, inl, inr, arith}
use Rattle.std.proofs.lemmas.Bool.{false≢true, cases_Bool, cases_eq, eq-eqb, ne_eqb}
use Rattle.spur_graph.specs.Chains.{hop, follow}
use Rattle.spur_graph.specs.Cells.{Body, Cell, Empty, Moved, There, Store, is_moved, is_start, is_there, target_of, body_of, first, final, pointer_count}
use Rattle.spur_graph.specs.Ordinary.{body_at}
use Rattle.heap_cells.proofs.Bodies.{with_words}
use Rattle.heap_cells.proofs.CellKinds.{there_starts, there_is_not_moved}
use Rattle.heap_cells.proofs.Chains.{moves, forwards, follow-more, follow-same, final-end, good_forwarder_ends}
use Rattle.scavenge_laws.specs.Copying.{IsHeapStore}
use Rattle.scavenge_laws.specs.Writing.{PutsCell, IsFollowed, AreFollowed}
use Rattle.scavenge_laws.proofs.Resaying.{SaysSame, Resays}

module _ {a : ℕ} {x : Cell} {old new : Store} (put : PutsCell a x old new) where
  pub put-here : (t : ℕ) → t ≡ a → new.cell t ≡ x
  put-here t e = put.cells t ∙ ap (λ b. cond b x (old.cell t)) (eq-eqb t a e)

  pub put-else : (t : ℕ) → t ≢ a → new.cell t ≡ old.cell t
  put-else t n = put.cells t ∙ ap (λ b. cond b x (old.cell t)) (ne_eqb t a n)

  -- what a test tells of the cell is what it told, and so of every cell
  pub put-same : {A : Type 0} (f : Cell → A) → f x ≡ f (old.cell a) → (t : ℕ) → f (new.cell t) ≡ f (old.cell t)
  put-same f e t = elim (cases_eq t a) [
    | inl same ↦ ap f (put-here t same) ∙ e ∙ ap (λ u. f (old.cell u)) (sym same)
    | inr n ↦ ap f (put-else t n)
  ]

-- where chains of two stores have the same steps, they end in the same place
pub final-same : (old new : Store) → new.names ≡ old.names → ((t : ℕ) → is_moved (new.cell t) ≡ is_moved (old.cell t)) → ((t : ℕ) → target_of (new.cell t) ≡ target_of (old.cell t)) → (s : ℕ) → final new s ≡ final old s
unfolding final
final-same old new names on to s = ap (λ n. follow (moves new) (forwards new) n s) names ∙ follow-same (moves new) (moves old) (forwards new) (forwards old) on to old.names s

-- ---- an object

there_target : (x : Cell) → is_there x ≡ true → target_of x ≡ 0
there_target Empty e = refl
there_target (Moved t) e = absurd (false≢true e)
there_target (There b) e = refl

module _ {a : ℕ} {b : Body} {old new : Store} (put : PutsCell a (There b) old new) (there : is_there (old.cell a) ≡ true) where
  pub object-final : (s : ℕ) → final new s ≡ final old s
  object-final = final-same old new (put.keeps).names (put-same put is_moved (sym (there_is_not_moved (old.cell a) there))) (put-same put target_of (sym (there_target (old.cell a) there)))

  pub object-there : (s : ℕ) → is_there (new.cell s) ≡ is_there (old.cell s)
  object-there = put-same put is_there (sym there)

  pub object-moves : (s : ℕ) → is_moved (new.cell s) ≡ is_moved (old.cell s)
  object-moves = put-same put is_moved (sym (there_is_not_moved (old.cell a) there))

  pub object-starts : (s : ℕ) → is_start (new.cell s) ≡ is_start (old.cell s)
  object-starts = put-same put is_start (sym (there_starts (old.cell a) there))

  pub object-here : body_at new a ≡ b
  object-here = ap body_of (put-here put a refl)

  pub object-else : (s : ℕ) → s ≢ a → body_at new s ≡ body_at old s
  object-else s n = ap body_of (put-else put s n)

  -- a forwarder is one as before
  pub object-moved : (s t : ℕ) → new.cell s ≡ Moved t → old.cell s ≡ Moved t
  object-moved s t e = elim (cases_eq s a) [
    | inl same ↦ let z : There b ≡ Moved t = sym (put-here put s same) ∙ e in absurd cc
    | inr n ↦ sym (put-else put s n) ∙ e
  ]

-- an object that was not written says what it said
pub unsaid : {old new : Store} (s : ℕ) → body_at new s ≡ body_at old s → SaysSame old new s
unsaid {old} {new} s e = record {
  head = e ∙ ap (λ (c : Body). with_words (body_at old s) c.words) (sym e);
  long = ap (λ (c : Body). length c.words) e;
  roots = λ four. ap (λ (c : Body). c.words) e;
  slots = λ i l. inl (ap (λ (c : Body). get_or c.words i 0) e);
  units = ap (λ (c : Body). drop (pointer_count (body_at old s)) c.words) e;
}

pub written_resays : {a : ℕ} {words : List ℕ} {old new : Store} → IsHeapStore old → PutsCell a (There (with_words (body_at old a) words)) old new → is_there (old.cell a) ≡ true → a ≢ first old 4
    → AreFollowed old (body_at old a) words → Resays old new
written_resays {a} {words} {old} {new} heap put there four f = record {
  heap = heap;
  keeps = put.keeps;
  ends = object-final put there;
  there = object-there put there;
  moves = object-moves put there;
  starts = object-starts put there;
  objects = λ s on. elim (cases_eq s a) [
    | inl same ↦ subst (SaysSame old new) (sym same) here
    | inr n ↦ unsaid s (object-else put there s n)
  ];
  targets = λ s t e. object-starts put there t ∙ heap.store.sound.targets s t (object-moved put there s t e);
}
  where
    here : SaysSame old new a
    here =
        let is : body_at new a ≡ with_words (body_at old a) words = object-here put there in
        let ws : (body_at new a).words ≡ words = ap (λ (c : Body). c.words) is in
        record {
          head = is ∙ ap (with_words (body_at old a)) (sym ws);
          long = ap length ws ∙ f.long;
          roots = λ e. absurd (four e);
          slots = λ i l. subst (λ xs. IsFollowed old (get_or (body_at old a).words i 0) (get_or xs i 0)) (sym ws) (f.slots i l);
          units = ap (drop (pointer_count (body_at old a))) ws ∙ f.rest;
        }

-- where nothing is written, all says what it said
pub resays_itself : {h : Store} → IsHeapStore h → Resays h h
resays_itself {h} heap = record {
  heap = heap;
  keeps = record { reads = heap.store.reads; names = refl; to = λ w. refl; five = heap.store.sound.roots.five; firsts = λ j l. refl };
  ends = λ s. refl;
  there = λ s. refl;
  moves = λ s. refl;
  starts = λ s. refl;
  objects = λ s on. unsaid s refl;
  targets = heap.store.sound.targets;
}

-- ---- a forwarder

-- one step along a chain is made to lead to its end at once
module _ (m m' : ℕ → Bool) (g g' : ℕ → ℕ) (a e names : ℕ) (next : (t : ℕ) → hop m' g' t ≡ cond (eqb t a) e (hop m g t)) (on : m a ≡ true) (end : follow m g names a ≡ e) (off : m e ≡ false) where
  not-a : e ≢ a
  not-a k = false≢true (sym off ∙ ap m k ∙ on)

  stay : (n : ℕ) → follow m' g' n e ≡ e
  unfolding follow
  stay zero = refl
  stay (suc n) = ap (follow m' g' n) (next e ∙ ap (λ b. cond b e (hop m g e)) (ne_eqb e a not-a) ∙ ap (λ b. cond b (g e) e) off) ∙ stay n

  follow-short : (n s : ℕ) → n ≤ names → m (follow m g n s) ≡ false → follow m' g' n s ≡ follow m g n s
  unfolding follow
  follow-short zero s l k = refl
  follow-short (suc n) s l k = elim (cases_eq s a) [
    | inl same ↦
        let there : hop m' g' s ≡ e = next s ∙ ap (λ b. cond b e (hop m g s)) (eq-eqb s a same) in
        let ends : m (follow m g (suc n) a) ≡ false = ap (λ t. m (follow m g (suc n) t)) (sym same) ∙ k in
        ap (follow m' g' n) there ∙ stay n ∙ sym end ∙ follow-more m g (suc n) names a l ends ∙ ap (follow m g (suc n)) (sym same)
    | inr other ↦
        let there : hop m' g' s ≡ hop m g s = next s ∙ ap (λ b. cond b e (hop m g s)) (ne_eqb s a other) in
        ap (follow m' g' n) there ∙ follow-short n (hop m g s) (omega arith) k
  ]

module _ {a t : ℕ} {old new : Store} (heap : IsHeapStore old) (put : PutsCell a (Moved (final old a)) old new) (was : old.cell a ≡ Moved t) where
  hops : (s : ℕ) → hop (moves new) (forwards new) s ≡ cond (eqb s a) (final old a) (hop (moves old) (forwards old) s)
  hops s = elim (cases_eq s a) [
    | inl e ↦ ap (λ c. cond (is_moved c) (target_of c) s) (put-here put s e) ∙ sym (ap (λ b. cond b (final old a) (hop (moves old) (forwards old) s)) (eq-eqb s a e))
    | inr n ↦ ap (λ c. cond (is_moved c) (target_of c) s) (put-else put s n) ∙ sym (ap (λ b. cond b (final old a) (hop (moves old) (forwards old) s)) (ne_eqb s a n))
  ]

  moves-same : (s : ℕ) → is_moved (new.cell s) ≡ is_moved (old.cell s)
  moves-same = put-same put is_moved (sym (ap is_moved was))

  end_there : is_there (old.cell (final old a)) ≡ true
  end_there = good_forwarder_ends old a (heap.store.sound.ends a) (ap is_moved was)

  short-final : (s : ℕ) → final new s ≡ final old s
  unfolding final
  short-final s = elim (cases_Bool (is_moved (old.cell s))) [
    | inl on ↦
        ap (λ n. follow (moves new) (forwards new) n s) (put.keeps).names
        ∙ follow-short (moves old) (moves new) (forwards old) (forwards new) a (final old a) old.names hops (ap is_moved was) refl (there_is_not_moved _ end_there) old.names s (omega arith)
        (there_is_not_moved _ (good_forwarder_ends old s (heap.store.sound.ends s) on))
    | inr off ↦ final-end new s (moves-same s ∙ off) ∙ sym (final-end old s off)
  ]

  kind : (s : ℕ) → is_there (new.cell s) ≡ is_there (old.cell s)
  kind = put-same put is_there (sym (ap is_there was))

  starts-same : (s : ℕ) → is_start (new.cell s) ≡ is_start (old.cell s)
  starts-same = put-same put is_start (sym (ap is_start was))

  pub shortened_resays : Resays old new
  shortened_resays = record {
    heap = heap;
    keeps = put.keeps;
    ends = short-final;
    there = kind;
    moves = moves-same;
    starts = starts-same;
    objects = λ s on. elim (cases_eq s a) [
      | inl same ↦ absurd (false≢true (sym (ap is_there was) ∙ ap (λ u. is_there (old.cell u)) (sym same) ∙ on))
      | inr n ↦ unsaid s (ap body_of (put-else put s n))
    ];
    targets = λ s u e. starts-same u ∙ elim (cases_eq s a) [
      | inl same ↦
          let z : Moved (final old a) ≡ Moved u = sym (put-here put s same) ∙ e in
          let y : final old a ≡ u = cc in
          ap (λ v. is_start (old.cell v)) (sym y) ∙ there_starts (old.cell (final old a)) end_there
      | inr n ↦ heap.store.sound.targets s u (sym (put-else put s n) ∙ e)
    ];
  }
