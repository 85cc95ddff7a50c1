-- What shortening some forwarders leaves of chains.
use Rattle.std.proofs.Common.{◌≡◌, ℕ, suc, zero, Bool, true, false, ◌<◌, refl, sym, ap, ◌∙◌, inl, inr, arith}
use Rattle.std.proofs.lemmas.Bool.{cases_Bool, cases_lt}
use Rattle.spur_graph.specs.Chains.{follow}
use Rattle.spur_graph.specs.Cells.{Moved, Store, final, is_start, is_moved, is_there, target_of}
use Rattle.heap_cells.proofs.CellKinds.{there_is_not_moved, moved_starts, moved_is_not_there}
use Rattle.heap_cells.proofs.Chains.{follow-end, follow-step, follow-none, follow-more}
use Rattle.image_checks.specs.Chains.{Ends, Shortens}
use Rattle.heap_cells.proofs.Enough.{enough}

-- two ends of one chain are one
ends-meet : (moved : ℕ → Bool) (target : ℕ → ℕ) (m n s : ℕ) → moved (follow moved target m s) ≡ false → moved (follow moved target n s) ≡ false → follow moved target m s ≡ follow moved target n s
ends-meet moved target m n s a b = elim (cases_lt m n) [
  | inl l ↦ sym (follow-more moved target m n s (omega arith) a)
  | inr l ↦ follow-more moved target n m s l b
]

abbrev pub moved_in : Store → ℕ → Bool
moved_in h t = is_moved (h.cell t)

abbrev pub target_in : Store → ℕ → ℕ
target_in h t = target_of (h.cell t)

module _ (h : Store) where
  pub final-is : (s : ℕ) → final h s ≡ follow (moved_in h) (target_in h) h.names s
  unfolding final
  final-is s = refl

  pub final-still : (s : ℕ) → Ends h s → moved_in h (final h s) ≡ false
  final-still s e = there_is_not_moved (h.cell (final h s)) e

  -- what a forwarder names leads where it leads
  pub final-next : (s : ℕ) → moved_in h s ≡ true → Ends h s → final h (target_in h s) ≡ final h s
  final-next s on e =
      let still : moved_in h (follow (moved_in h) (target_in h) h.names s) ≡ false = ap (moved_in h) (sym (final-is s)) ∙ final-still s e in
      final-is (target_in h s) ∙ sym (follow-step (moved_in h) (target_in h) h.names s on) ∙ follow-more (moved_in h) (target_in h) h.names (suc h.names) s (omega arith) still ∙ sym (final-is s)

module _ (old new : Store) (k : Shortens old new) where
  pub moved-same : (s : ℕ) → moved_in new s ≡ moved_in old s
  moved-same s = elim (k.cells s) [ inl e ↦ ap is_moved e | inr q ↦ ap is_moved q.is ∙ sym q.moved ]

  pub start-same : (s : ℕ) → is_start (new.cell s) ≡ is_start (old.cell s)
  start-same s = elim (k.cells s) [ inl e ↦ ap is_start e | inr q ↦ ap is_start q.is ∙ sym (moved_starts (old.cell s) q.moved) ]

  pub there-same : (s : ℕ) → is_there (new.cell s) ≡ is_there (old.cell s)
  there-same s = elim (k.cells s) [ inl e ↦ ap is_there e | inr q ↦ ap is_there q.is ∙ sym (moved_is_not_there (old.cell s) q.moved) ]

  ahead : (n s : ℕ) → moved_in old (follow (moved_in old) (target_in old) n s) ≡ false → follow (moved_in new) (target_in new) n s ≡ follow (moved_in old) (target_in old) n s
  ahead zero s e = follow-none (moved_in new) (target_in new) s ∙ sym (follow-none (moved_in old) (target_in old) s)
  ahead (suc n) s e = elim (cases_Bool (moved_in old s)) [
    | inr off ↦ follow-end (moved_in new) (target_in new) (suc n) s (moved-same s ∙ off) ∙ sym (follow-end (moved_in old) (target_in old) (suc n) s off)
    | inl on ↦
        let step = follow-step (moved_in new) (target_in new) n s (moved-same s ∙ on) in
        let was = follow-step (moved_in old) (target_in old) n s on in
        elim (k.cells s) [
          | inl same ↦ step ∙ ap (λ t. follow (moved_in new) (target_in new) n t) (ap target_of same) ∙ ahead n (target_in old s) (ap (moved_in old) (sym was) ∙ e) ∙ sym was
          | inr q ↦
              let still : moved_in old (final old s) ≡ false = final-still old s q.ends in
              step ∙ ap (λ t. follow (moved_in new) (target_in new) n t) (ap target_of q.is) ∙ follow-end (moved_in new) (target_in new) n (final old s) (moved-same (final old s) ∙ still)
              ∙ final-is old s ∙ ends-meet (moved_in old) (target_in old) old.names (suc n) s (ap (moved_in old) (sym (final-is old s)) ∙ still) e
        ]
  ]

  behind : (n s : ℕ) → (j : ℕ) × (follow (moved_in new) (target_in new) n s ≡ follow (moved_in old) (target_in old) j s)
  behind zero s = (0, follow-none (moved_in new) (target_in new) s ∙ sym (follow-none (moved_in old) (target_in old) s))
  behind (suc n) s = elim (cases_Bool (moved_in old s)) [
    | inr off ↦ (0, follow-end (moved_in new) (target_in new) (suc n) s (moved-same s ∙ off) ∙ sym (follow-none (moved_in old) (target_in old) s))
    | inl on ↦
        let step = follow-step (moved_in new) (target_in new) n s (moved-same s ∙ on) in
        elim (k.cells s) [
          | inl same ↦
              let r = behind n (target_in old s) in
              (suc r.0, step ∙ ap (λ t. follow (moved_in new) (target_in new) n t) (ap target_of same) ∙ r.1 ∙ sym (follow-step (moved_in old) (target_in old) r.0 s on))
          | inr q ↦ (
            old.names,
            step ∙ ap (λ t. follow (moved_in new) (target_in new) n t) (ap target_of q.is)
                ∙ follow-end (moved_in new) (target_in new) n (final old s) (moved-same (final old s) ∙ final-still old s q.ends) ∙ final-is old s,
          )
        ]
  ]

  final-new : (s : ℕ) → final new s ≡ follow (moved_in new) (target_in new) old.names s
  final-new s = final-is new s ∙ ap (λ n. follow (moved_in new) (target_in new) n s) k.names

  -- a chain that ended leads where it led
  pub forth : (s : ℕ) → Ends old s → final new s ≡ final old s
  forth s e = final-new s ∙ ahead old.names s (ap (moved_in old) (sym (final-is old s)) ∙ final-still old s e) ∙ sym (final-is old s)

  pub ends-forth : (s : ℕ) → Ends old s → Ends new s
  ends-forth s e = ap (λ t. is_there (new.cell t)) (forth s e) ∙ there-same (final old s) ∙ e

  -- and one that ends did so
  pub back : ((t : ℕ) → moved_in old t ≡ true → t < old.names) → (s : ℕ) → Ends new s → final old s ≡ final new s
  back within s e =
      let r = behind old.names s in
      let there : final new s ≡ follow (moved_in old) (target_in old) r.0 s = final-new s ∙ r.1 in
      let still : moved_in old (follow (moved_in old) (target_in old) r.0 s) ≡ false = ap (moved_in old) (sym there) ∙ sym (moved-same (final new s)) ∙ final-still new s e in
      final-is old s ∙ (enough (moved_in old) (target_in old) old.names r.0 s within still).1 ∙ sym there

  pub ends-back : ((t : ℕ) → moved_in old t ≡ true → t < old.names) → (s : ℕ) → Ends new s → Ends old s
  ends-back within s e = ap (λ t. is_there (old.cell t)) (back within s e) ∙ sym (there-same (final new s)) ∙ e

-- shortened twice is shortened
pub shortens-more : (a b c : Store) → ((t : ℕ) → moved_in a t ≡ true → t < a.names) → Shortens a b → Shortens b c → Shortens a c
shortens-more a b c within j k = record {
  names = k.names ∙ j.names;
  starts = k.starts ∙ j.starts;
  to = k.to ∙ j.to;
  cells = λ s. elim (k.cells s) [
    | inl e ↦ elim (j.cells s) [
      | inl f ↦ inl (e ∙ f)
      | inr q ↦ inr (record { moved = q.moved; ends = q.ends; is = e ∙ q.is })
    ]
    | inr q ↦ inr (record {
      moved = sym (moved-same a b j s) ∙ q.moved;
      ends = ends-back a b j within s q.ends;
      is = q.is ∙ ap Moved (sym (back a b j within s q.ends));
    })
  ];
}
