-- What writes keep of where the words of slots lead.
use Rattle.std.proofs.Common.{◌≡◌, ◌≢◌, ℕ, true, ◌+◌, ◌<◌, ◌≤◌, List, length, get_or, set, refl, sym, ap, ◌∙◌, inl, inr, nat_eq}
use Rattle.std.specs.Option.{unwrap_or}
use Rattle.std.proofs.lemmas.Bool.{cases_eq, cases_lt}
use Rattle.std.proofs.lemmas.List.{length-set, get_or-set_other, get_or-set_same}
use Rattle.object_header.specs.Head.{class_of}
use Rattle.spur_graph.specs.Cells.{Store, is_start, is_moved, start_named}
use Rattle.image_words.specs.References.{Leads}
use Rattle.image_settle.specs.Settles.{IsLoose}

module _ (h : Store) (words : List ℕ) (l : Leads h words) where
  pub leads_kept : (new : List ℕ) → length new ≡ length words → ((s : ℕ) → is_start (h.cell s) ≡ true → class_of (get_or new s 0) ≡ class_of (get_or words s 0))
      → ((s : ℕ) → is_moved (h.cell s) ≡ true → get_or new (s + 1) 0 ≡ get_or words (s + 1) 0) → Leads h new
  leads_kept new len class target = record {
    names = l.names ∙ sym len;
    moved = λ s k. l.moved s k ∙ ap (λ n. nat_eq n 8) (sym (class s k));
    target = λ s m. l.target s m ∙ ap (start_named h.to words) (sym (target s m)) ∙ ap (λ n. unwrap_or (h.to (get_or new (s + 1) 0)) n) (sym len);
  }

  -- a loose word may be written
  pub loose_written : (j w : ℕ) → IsLoose h j → Leads h (set words j w)
  loose_written j w k = leads_kept (set words j w) (length-set words j w)
      (λ s e. ap class_of (get_or-set_other words j s w 0 (λ i. k.header s e i)))
      (λ s e. get_or-set_other words j (s + 1) w 0 (λ i. k.target s e i))

  -- a run of loose words may be written
  pub run_written : (new : List ℕ) (from to : ℕ) → length new ≡ length words → ((j : ℕ) → from ≤ j → j < to → IsLoose h j)
      → ((j : ℕ) → j < from → get_or new j 0 ≡ get_or words j 0) → ((j : ℕ) → to ≤ j → get_or new j 0 ≡ get_or words j 0) → Leads h new
  run_written new from to len loose low high = leads_kept new len
      (λ s e. ap class_of (outside s (λ a b. (loose s a b).header s e refl)))
      (λ s e. outside (s + 1) (λ a b. (loose (s + 1) a b).target s e refl))
    where
      outside : (j : ℕ) → (from ≤ j → j < to → ⊥) → get_or new j 0 ≡ get_or words j 0
      outside j n = elim (cases_lt j from) [
        | inl a ↦ low j a
        | inr a ↦ elim (cases_lt j to) [ inl b ↦ absurd (n a b) | inr b ↦ high j b ]
      ]

  -- a header may be written with the same class
  pub header_written : (j w : ℕ) → j < length words → class_of w ≡ class_of (get_or words j 0) → ((s : ℕ) → is_moved (h.cell s) ≡ true → s + 1 ≢ j) → Leads h (set words j w)
  header_written j w l e apart = leads_kept (set words j w) (length-set words j w)
      (λ s k. elim (cases_eq s j) [
        | inl is ↦ ap (λ n. class_of (get_or (set words j w) n 0)) is ∙ ap class_of (get_or-set_same words j w 0 l) ∙ e ∙ ap (λ n. class_of (get_or words n 0)) (sym is)
        | inr ne ↦ ap class_of (get_or-set_other words j s w 0 ne)
      ])
      (λ s k. get_or-set_other words j (s + 1) w 0 (apart s k))
