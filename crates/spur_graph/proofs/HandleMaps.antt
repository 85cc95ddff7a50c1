-- Finite maps by handles. A map whose values go through a function has as many keys.
use Rattle.std.proofs.Common.{◌≡◌, Bool, true, false, cond, ◌&&◌, T, List, [], ◌∷◌, length, map, refl, sym, ap, ◌∙◌, subst, Some, Option}
use Rattle.std.proofs.lemmas.List.{length-map}
use Rattle.std.proofs.lemmas.Map.Lookups.{exact_pairs}
use Rattle.std.specs.declared.cmp.Ordering.{Ordering}
use Rattle.std.specs.Ordering.{nat_cmp, eq_by_cmp, is_lt}
use Rattle.std.specs.Option.{option_map}
use Rattle.std.specs.FinMap.{FinMap, get, len, find, is_sorted, IsAntisymmetric, nat_cmp-IsAntisymmetric, slice_cmp-IsAntisymmetric, entries, entries_sorted, from_sorted, get-from_sorted, entries-from_sorted, get-entries, len-entries, same_map}
use Rattle.std.specs.FinMap.Entries.{below_all}
use Rattle.std.specs.Cmp.{IsTotalOrder}
use Rattle.spur_graph.specs.Graph.{Handle, handle_cmp}
use Rattle.spur_graph.specs.Handles.{handles_total}

-- a function of the value chosen is chosen of the function's values
pub chosen : {X Y : Type 0} (f : X → Y) (b : Bool) (x y : Option X) → cond b (option_map f x) (option_map f y) ≡ option_map f (cond b x y)
chosen f true x y = refl
chosen f false x y = refl

module _ {K X Y : Type 0} (R : K → K → Ordering) (f : X → Y) where
  -- the entries with their values mapped
  abbrev pub mapped : List (K × X) → List (K × Y)
  mapped es = map (λ e. (e.0, f e.1)) es

  below-mapped : (k : K) (es : List (K × X)) → below_all R k (mapped es) ≡ below_all R k es
  below-mapped k [] = refl
  below-mapped k (e ∷ es) = ap (λ b. is_lt (R k e.0) && b) (below-mapped k es)

  sorted-mapped : (es : List (K × X)) → is_sorted R (mapped es) ≡ is_sorted R es
  sorted-mapped [] = refl
  sorted-mapped (e ∷ es) = λ i. below-mapped e.0 es i && sorted-mapped es i

  pub find-mapped : (q : K) (es : List (K × X)) → find R q (mapped es) ≡ option_map f (find R q es)
  find-mapped q [] = refl
  find-mapped q (e ∷ es) = ap (cond (eq_by_cmp R q e.0) (Some (f e.1))) (find-mapped q es) ∙ chosen f (eq_by_cmp R q e.0) (Some e.1) (find R q es)

  -- a map that has the mapped values has the same entries, each with its value gone through the function
  pub entries-mapped : IsTotalOrder R → IsAntisymmetric R → (m : FinMap R X) (n : FinMap R Y) → ((q : K) → get n q ≡ option_map f (get m q)) → entries n ≡ mapped (entries m)
  entries-mapped o exact m n is =
      let es = mapped (entries m) in
      let rises : T (is_sorted R es) = subst T (sym (sorted-mapped (entries m))) (entries_sorted m) in
      let made : FinMap R Y = from_sorted es in
      let same : n ≡ made = same_map o exact n made (λ q. is q ∙ ap (option_map f) (get-entries m q) ∙ sym (find-mapped q (entries m)) ∙ sym (get-from_sorted R es q rises)) in
      ap entries same ∙ entries-from_sorted R es rises

  -- it has as many keys
  pub len-mapped : IsTotalOrder R → IsAntisymmetric R → (m : FinMap R X) (n : FinMap R Y) → ((q : K) → get n q ≡ option_map f (get m q)) → len n ≡ len m
  len-mapped o exact m n is = len-entries n ∙ ap length (entries-mapped o exact m n is) ∙ length-map (entries m) (λ e. (e.0, f e.1)) ∙ sym (len-entries m)

-- handles that compare alike are one
pub exact_handles : IsAntisymmetric handle_cmp
exact_handles = exact_pairs nat_cmp _ nat_cmp-IsAntisymmetric (slice_cmp-IsAntisymmetric nat_cmp-IsAntisymmetric)

-- handles of mapped values are as many
pub as_many_handles : {X Y : Type 0} (f : X → Y) (m : FinMap handle_cmp X) (n : FinMap handle_cmp Y) → ((h : Handle) → get n h ≡ option_map f (get m h)) → len n ≡ len m
as_many_handles f m n is = len-mapped handle_cmp f handles_total exact_handles m n is
