-- In a closed graph an object that an entry of the class table names is an entered class: its hash tells where to look.
use Rattle.std.proofs.Common.{◌≡◌, ℕ, Bool, true, false, not, cond, eqb, ◌&&◌, ◌||◌, T, List, [], ◌∷◌, refl, sym, ap, ◌∙◌, inl, inr, Some, None, Option}
use Rattle.std.proofs.lemmas.Bool.{false≢true, cases_Bool, cases_eq, eq-eqb, ne_eqb, eqb-true, and_parts, or_right}
use Rattle.std.proofs.lemmas.Option.{none-some}
use Rattle.std.specs.Option.{unwrap_or}
use Rattle.std.specs.declared.cmp.Ordering.{Ordering}
use Rattle.std.specs.declared.cmp.Ordering.TheVariants.{Less, Equal, Greater}
use Rattle.std.specs.Ordering.{nat_cmp, eq_by_cmp, is_lt, is_eq}
use Rattle.std.specs.Cmp.{unsigned_tied}
use Rattle.std.specs.List.{list_any}
use Rattle.std.specs.FinMap.{get, find, is_sorted, entries, entries_sorted, get-entries}
use Rattle.std.specs.FinMap.Entries.{below_all}
use Rattle.spur_graph.specs.declared.answer.Value.{Value}
use Rattle.spur_graph.specs.declared.answer.Value.TheVariants.{Int, Char, Float, Ref}
use Rattle.spur_graph.specs.Value.{same_value}
use Rattle.spur_graph.specs.Node.{Node}
use Rattle.spur_graph.specs.Graph.{Graph, IsClosed, node, blank}
use Rattle.spur_graph.specs.Instances.{is_entry, has_entered}
use Rattle.spur_graph.specs.Refusals.{is_classed}

-- ---- sorted entries

both_hold : (a b : Bool) → T (a && b) → T a × T b
both_hold true b t = (tt, t)
both_hold false b t = absurd t

-- what is less does not tie
not_tied : (o : Ordering) → T (is_lt o) → is_eq o ≡ false
not_tied Less t = refl
not_tied Equal t = absurd t
not_tied Greater t = absurd t

tied : (a b : ℕ) → a ≡ b → eq_by_cmp nat_cmp a b ≡ true
tied a b is = unsigned_tied a b ∙ eq-eqb a b is

module _ {X : Type 0} where
  below_none : (k : ℕ) (es : List (ℕ × X)) → T (below_all nat_cmp k es) → find nat_cmp k es ≡ None
  below_none k [] t = refl
  below_none k (e ∷ es) t =
      let parts = both_hold (is_lt (nat_cmp k e.0)) (below_all nat_cmp k es) t in
      ap (λ b. cond b (Some e.1) (find nat_cmp k es)) (not_tied (nat_cmp k e.0) parts.0) ∙ below_none k es parts.1

  -- the map has what an entry has, at the entry's key
  any_found : (test : X → Bool) (es : List (ℕ × X)) → T (is_sorted nat_cmp es) → list_any (λ e. test e.1) es ≡ true → (i : ℕ) × (x : X) × (find nat_cmp i es ≡ Some x) × (test x ≡ true)
  any_found test [] t any = absurd (false≢true any)
  any_found test (e ∷ es) t any = elim (cases_Bool (test e.1)) [
    | inl on ↦ (e.0, e.1, ap (λ b. cond b (Some e.1) (find nat_cmp e.0 es)) (tied e.0 e.0 refl), on)
    | inr off ↦
        let parts = both_hold (below_all nat_cmp e.0 es) (is_sorted nat_cmp es) t in
        let r = any_found test es parts.1 (sym (ap (λ b. b || list_any (λ d. test d.1) es) off) ∙ any) in
        elim (cases_eq r.0 e.0) [
          | inl same ↦ absurd (none-some r.1 (sym (below_none e.0 es parts.0) ∙ ap (λ k. find nat_cmp k es) (sym same) ∙ r.2))
          | inr other ↦ (r.0, r.1, ap (λ b. cond b (Some e.1) (find nat_cmp r.0 es)) (unsigned_tied r.0 e.0 ∙ ne_eqb r.0 e.0 other) ∙ r.2, r.3)
        ]
  ]

  found_any : (test : X → Bool) (es : List (ℕ × X)) (i : ℕ) (x : X) → find nat_cmp i es ≡ Some x → test x ≡ true → list_any (λ e. test e.1) es ≡ true
  found_any test [] i x is on = absurd (none-some x is)
  found_any test (e ∷ es) i x is on = elim (cases_Bool (eq_by_cmp nat_cmp i e.0)) [
    | inl here ↦
        let same : e.1 ≡ x = ap (λ o. unwrap_or o x) (sym (ap (λ b. cond b (Some e.1) (find nat_cmp i es)) here) ∙ is) in
        ap (λ b. b || list_any (λ d. test d.1) es) (ap test same ∙ on)
    | inr off ↦ or_right (test e.1) (list_any (λ d. test d.1) es) (found_any test es i x (sym (ap (λ b. cond b (Some e.1) (find nat_cmp i es)) off) ∙ is) on)
  ]

-- ---- the class table

named_same : (v : Value) (a : ℕ) → same_value v (Ref a) ≡ true → v ≡ Ref a
named_same (Int n) a on = absurd (false≢true on)
named_same (Char c) a on = absurd (false≢true on)
named_same (Float w) a on = absurd (false≢true on)
named_same (Ref b) a on = ap Ref (eqb-true b a on)

same_name : (a b : ℕ) → Ref a ≡ Ref b → a ≡ b
same_name a b e = cc

entry_some : (a : ℕ) (o : Option Value) → is_entry a o ≡ true → (v : Value) × (o ≡ Some v) × (same_value v (Ref a) ≡ true)
entry_some a None on = absurd (false≢true on)
entry_some a (Some v) on = (v, refl, on)

module _ (g : Graph) (closed : IsClosed g) (a : ℕ) where
  classed_entered : is_classed g a ≡ true → has_entered g a ≡ true
  unfolding is_classed
  classed_entered on =
      let e = any_found (λ v. same_value v (Ref a)) (entries g.classes) (entries_sorted g.classes) on in
      let k = closed.entered e.0 e.1 (get-entries g.classes e.0 ∙ e.2) in
      let one : k.0 ≡ a = same_name k.0 a (sym k.1 ∙ named_same e.1 a e.3) in
      let class : Node = k.2.class in
      let here : node g a ≡ class = ap (node g) (sym one) ∙ ap (λ o. unwrap_or o blank) k.2.there in
      let entry : is_entry a (get g.classes class.hash) ≡ true = ap (is_entry a) k.2.entry ∙ eq-eqb k.0 a one in
      (λ i. not (eqb (here i).hash 0) && is_entry a (get g.classes (here i).hash)) ∙ (λ i. not (ne_eqb class.hash 0 k.2.hashed i) && entry i)

  entered_classed : has_entered g a ≡ true → is_classed g a ≡ true
  unfolding is_classed
  entered_classed on =
      let hash : ℕ = (node g a).hash in
      let e = entry_some a (get g.classes hash) (and_parts (not (eqb hash 0)) (is_entry a (get g.classes hash)) on).1 in
      found_any (λ v. same_value v (Ref a)) (entries g.classes) hash e.0 (sym (get-entries g.classes hash) ∙ e.1) e.2

both_ways : (a b : Bool) → (a ≡ true → b ≡ true) → (b ≡ true → a ≡ true) → a ≡ b
both_ways true b to back = sym (to refl)
both_ways false true to back = back refl
both_ways false false to back = refl

-- an entry of the class table names an object where the entry at its hash does
pub classed_is_entered : (g : Graph) → IsClosed g → (a : ℕ) → is_classed g a ≡ has_entered g a
classed_is_entered g closed a = both_ways (is_classed g a) (has_entered g a) (classed_entered g closed a) (entered_classed g closed a)
