-- What old space has that names something behind it is noted, or will be looked at.
use Rattle.std.proofs.Common.{◌≡◌, ◌≢◌, ◌⊎◌, ℕ, Bool, true, false, ◌<◌, ◌≤◌, cond, eqb, sym, ap, ◌∙◌, subst, inl, inr, arith}
use Rattle.std.proofs.lemmas.Bool.{false≢true, cases_eq, ne_eqb}
use Rattle.spur_graph.specs.Cells.{Cell, Empty, Moved, Store, first}
use Rattle.spur_graph.specs.Heaps.{View, IsWhole, names_over, is_remembered, store_of}
use Rattle.scavenge_laws.specs.Writing.{KeepsFirsts, PutsCell, PutsCopy}
use Rattle.scavenge_laws.specs.Ending.{Drops}
use Rattle.scavenge_laws.specs.Noting.{Noting}
use Rattle.scavenge_laws.proofs.Putting.{put-else}

pub noting_begins : (v : View) (noted : ℕ → Type 0) → IsWhole v → Noting v.spaces.old_end (store_of v) (λ s. is_remembered v.words s ≡ true) noted
noting_begins v noted whole = record { all = λ s l n e. inl (whole.remembered.all s l n e) }

module _ {end : ℕ} {old : Store} {todo noted : ℕ → Type 0} (c : Noting end old todo noted) where
  -- the free lists object is where it was
  lists : {new : Store} → KeepsFirsts old new → (s : ℕ) → s ≢ first new 3 → s ≢ first old 3
  lists keeps s n e = n (e ∙ sym (keeps.firsts 3 (omega arith)))

  -- a cell is written that will be looked at, or stands behind old space
  pub noting_put : {a : ℕ} {x : Cell} {new : Store} → PutsCell a x old new → (end ≤ a) ⊎ (todo a ⊎ noted a) → Noting end new todo noted
  noting_put {a} put free = record {
    all = λ s l n e. elim (cases_eq s a) [
      | inl same ↦ elim free [ inl far ↦ absurd (omega (arith, far, l, same)) | inr d ↦ subst (λ t. todo t ⊎ noted t) (sym same) d ]
      | inr m ↦ c.all s l (lists put.keeps s n) (sym (ap (names_over end) (put-else put s m)) ∙ e)
    ];
  }

  -- what stands behind old space is copied: a copy in old space will be looked at
  pub noting_copied : {a b : ℕ} {new : Store} → PutsCopy a b old new → end ≤ a → (todo' : ℕ → Type 0) → ((s : ℕ) → todo s → todo' s) → (b < end → todo' b) → Noting end new todo' noted
  noting_copied {a} {b} put far todo' keeps adds = record {
    all = λ s l n e. elim (cases_eq s b) [
      | inl same ↦ inl (subst todo' (sym same) (adds (subst (λ t. t < end) same l)))
      | inr m ↦
          let apart : s ≢ a = λ k. omega (arith, far, l, k) in
          let was = put.cells s ∙ ap (λ t. cond t (old.cell a) (cond (eqb s a) (Moved b) (old.cell s))) (ne_eqb s b m) ∙ ap (λ t. cond t (Moved b) (old.cell s)) (ne_eqb s a apart) in
          elim (c.all s l (lists put.keeps s n) (sym (ap (names_over end) was) ∙ e)) [ inl d ↦ inl (keeps s d) | inr d ↦ inr d ]
    ];
  }

  -- a place was looked at: it is noted, or names nothing behind old space
  pub noting_done : (a : ℕ) (todo' noted' : ℕ → Type 0) → ((s : ℕ) → todo s → todo' s ⊎ (s ≡ a)) → ((s : ℕ) → noted s → noted' s) → noted' a ⊎ (names_over end (old.cell a) ≡ false) → Noting end old todo' noted'
  noting_done a todo' noted' less more is = record {
    all = λ s l n e. elim (c.all s l n e) [
      | inl d ↦ elim (less s d) [
        | inl k ↦ inl k
        | inr same ↦ elim is [
          | inl on ↦ inr (subst noted' (sym same) on)
          | inr off ↦ absurd (false≢true (sym (ap (λ t. names_over end (old.cell t)) same ∙ off) ∙ e))
        ]
      ]
      | inr d ↦ inr (more s d)
    ];
  }

  -- with nothing to look at, what is noted is what has to be remembered once new space went
  pub noting_ends : {young : ℕ → Bool} {new : Store} → Drops young old new → ((s : ℕ) → s < end → young s ≡ false) → ((s : ℕ) → todo s → ⊥) → (s : ℕ) → s < end → s ≢ first new 3 → names_over end (new.cell s) ≡ true → noted s
  noting_ends d out done s l n e =
      elim (c.all s l (lists d.keeps s n) (sym (ap (names_over end) (d.cells s ∙ ap (λ t. cond t Empty (old.cell s)) (out s l))) ∙ e)) [ inl k ↦ absurd (done s k) | inr k ↦ k ]
