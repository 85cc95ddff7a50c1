-- The rows of refusals by what was read of the objects, and what a row tells that refuses nothing.
use Rattle.std.proofs.Common.{◌≡◌, ℕ, Bool, true, false, ◌&&◌, ◌||◌, [], ◌∷◌, refl, sym, ap, ◌∙◌, None}
use Rattle.std.proofs.Math.Bool.{or-false}
use Rattle.std.proofs.lemmas.Bool.{or_parts}
use Rattle.std.specs.List.{list_any}
use Rattle.spur_graph.specs.declared.answer.Refusal.TheVariants as r
use Rattle.spur_graph.specs.Node.{Node}
use Rattle.spur_graph.specs.Graph.{Graph, node}
use Rattle.spur_graph.specs.Refusals.{first, test, is_special, is_classed, waits}
use Rattle.spur_graph.specs.Heaps.{View, heap_graph}
use Rattle.spur_heap.specs.Views.{IsOrdinary, node_in}
use Rattle.spur_heap.proofs.NodesAt.{node_there}
use Rattle.graph_laws.proofs.RowParts.{none_in_row, untested}
use Rattle.lazy_become.specs.Rows.{asked, held_row, standing_row}

-- one of two, and one of those that are asked
both_asked : (p : ℕ → Bool) (a b : ℕ) (x y : Bool) → p a ≡ x → p b ≡ y → list_any p (a ∷ b ∷ []) ≡ (x || y)
both_asked p a b x y is other = (λ i. is i || (other i || false)) ∙ ap (λ z. x || z) (or-false y)

some_asked : (p : ℕ → Bool) (a b : ℕ) (with_hash : Bool) → list_any p (asked a b with_hash) ≡ (p a || (with_hash && p b))
some_asked p a b true = ap (λ z. p a || z) (or-false (p b))
some_asked p a b false = refl

-- what is asked of the other alone where it gets the hash
pub handed : (with_hash value result is : Bool) → with_hash ≡ true → value ≡ result → result ≡ is → (with_hash && is) ≡ value
handed with_hash value result is on e f = (λ i. on i && is) ∙ sym (e ∙ f)

pub unhanded : (with_hash value is : Bool) → with_hash ≡ false → value ≡ with_hash → (with_hash && is) ≡ value
unhanded with_hash value is off e = (λ i. off i && is) ∙ sym (e ∙ off)

-- no one
pub neither : (x y : Bool) → x ≡ false → y ≡ false → (x || y) ≡ false
neither x y e f = λ i. e i || f i

module _ (v : View) (a : ℕ) (there : IsOrdinary v a) where
  is_pinned : (node (heap_graph v) a).pinned ≡ (node_in v a).pinned
  is_pinned = ap (λ (n : Node). n.pinned) (node_there v a there)

  is_readonly : (node (heap_graph v) a).readonly ≡ (node_in v a).readonly
  is_readonly = ap (λ (n : Node). n.readonly) (node_there v a there)

module _ (v : View) (a b : ℕ) (there_a : IsOrdinary v a) (there_b : IsOrdinary v b) where
  abbrev g : Graph
  g = heap_graph v

  pub held_read : (special pinned readonly waiting : Bool) → (is_special g a || is_special g b) ≡ special → ((node_in v a).pinned || (node_in v b).pinned) ≡ pinned
      → ((node_in v a).readonly || (node_in v b).readonly) ≡ readonly → (waits g a || waits g b) ≡ waiting
      → first (held_row g a b) ≡ first (test special r.Special ∷ test pinned r.Pinned ∷ test readonly r.ReadOnly ∷ test waiting r.Mourning ∷ [])
  held_read special pinned readonly waiting s p o w =
      let s' = both_asked (is_special g) a b (is_special g a) (is_special g b) refl refl ∙ s in
      let p' = both_asked (λ c. (node g c).pinned) a b (node_in v a).pinned (node_in v b).pinned (is_pinned v a there_a) (is_pinned v b there_b) ∙ p in
      let o' = both_asked (λ c. (node g c).readonly) a b (node_in v a).readonly (node_in v b).readonly (is_readonly v a there_a) (is_readonly v b there_b) ∙ o in
      let w' = both_asked (waits g) a b (waits g a) (waits g b) refl refl ∙ w in
      λ i. first (test (s' i) r.Special ∷ test (p' i) r.Pinned ∷ test (o' i) r.ReadOnly ∷ test (w' i) r.Mourning ∷ [])

  pub standing_read : (with_hash special pinned readonly waiting classed : Bool) → (is_special g a || (with_hash && is_special g b)) ≡ special → (node_in v a).pinned ≡ pinned
      → (node_in v a).readonly ≡ readonly → waits g a ≡ waiting → (is_classed g a || (with_hash && is_classed g b)) ≡ classed
      → first (standing_row g a b with_hash) ≡ first (test special r.Special ∷ test pinned r.Pinned ∷ test readonly r.ReadOnly ∷ test waiting r.Mourning ∷ test classed r.Classed ∷ [])
  standing_read with_hash special pinned readonly waiting classed s p o w k =
      let s' = some_asked (is_special g) a b with_hash ∙ s in
      let p' = or-false (node g a).pinned ∙ is_pinned v a there_a ∙ p in
      let o' = or-false (node g a).readonly ∙ is_readonly v a there_a ∙ o in
      let w' = or-false (waits g a) ∙ w in
      let k' = some_asked (is_classed g) a b with_hash ∙ k in
      λ i. first (test (s' i) r.Special ∷ test (p' i) r.Pinned ∷ test (o' i) r.ReadOnly ∷ test (w' i) r.Mourning ∷ test (k' i) r.Classed ∷ [])

-- ---- a row that refuses nothing

-- neither of two
pub record AreFalse (x y : Bool) : Type 0 where
  pub one : x ≡ false
  pub other : y ≡ false

none_of : (p : ℕ → Bool) (a b : ℕ) → list_any p (a ∷ b ∷ []) ≡ false → AreFalse (p a) (p b)
none_of p a b e =
    let parts = or_parts (p a) (p b || false) e in
    record { one = parts.0; other = (or_parts (p b) false parts.1).0 }

pub record MayExchange (g : Graph) (a b : ℕ) : Type 0 where
  pub special : AreFalse (is_special g a) (is_special g b)
  pub pinned : AreFalse (node g a).pinned (node g b).pinned
  pub waiting : AreFalse (waits g a) (waits g b)

pub may_exchange : (g : Graph) (a b : ℕ) → first (held_row g a b) ≡ None → MayExchange g a b
may_exchange g a b none =
    let row = none_in_row (held_row g a b) none in
    record {
      special = none_of (is_special g) a b (untested _ r.Special row.0);
      pinned = none_of (λ c. (node g c).pinned) a b (untested _ r.Pinned row.1.0);
      waiting = none_of (waits g) a b (untested _ r.Mourning row.1.1.1.0);
    }

pub record MayForward (g : Graph) (a b : ℕ) (with_hash : Bool) : Type 0 where
  pub special : is_special g a ≡ false
  pub waiting : waits g a ≡ false
  pub classed : is_classed g a ≡ false
  pub other : with_hash ≡ true → is_classed g b ≡ false

pub may_forward : (g : Graph) (a b : ℕ) (with_hash : Bool) → first (standing_row g a b with_hash) ≡ None → MayForward g a b with_hash
may_forward g a b with_hash none =
    let row = none_in_row (standing_row g a b with_hash) none in
    let special = or_parts (is_special g a) (with_hash && is_special g b) (sym (some_asked (is_special g) a b with_hash) ∙ untested _ r.Special row.0) in
    let classed = or_parts (is_classed g a) (with_hash && is_classed g b) (sym (some_asked (is_classed g) a b with_hash) ∙ untested _ r.Classed row.1.1.1.1.0) in
    record {
      special = special.0;
      waiting = (or_parts (waits g a) false (untested _ r.Mourning row.1.1.1.0)).0;
      classed = classed.0;
      other = λ on. ap (λ h. h && is_classed g b) (sym on) ∙ classed.1;
    }
