-- A walk over the starts of a heap by its map, and what stands at each.
use Rattle.std.proofs.Common.{◌≡◌, ℕ, true, false, ◌<◌, ◌≤◌, length, get_or, refl, sym, ◌∙◌, arith, nat_eq, Option, Some, None}
use Rattle.std.specs.Prelude.{IfSome, IfNone}
use Rattle.std.proofs.lemmas.Bool.{false≢true, eq-eqb, eqb-true}
use Rattle.heap_walk.specs.Starts.{has_start, covered}
use Rattle.heap_walk.specs.declared.starts.StartMap.{StartMap}
use Rattle.object_header.specs.Fields.{fields_of}
use Rattle.spur_graph.specs.Cells.{Cell, Empty, Moved, There, is_start, is_moved, is_there}
use Rattle.spur_graph.specs.Heaps.{View, IsWhole, store_of}
use Rattle.spur_heap.specs.Words.{starts_at}
use Rattle.spur_heap.specs.MarkBits.{IsObject, StartsAt}
use Rattle.spur_heap.proofs.Hops.{start_at, moved_by, stays_by}
use Rattle.spur_heap.proofs.Puts.{whole_sound}

moved_only : (c : Cell) → is_moved c ≡ true → is_there c ≡ true → ⊥
moved_only Empty m t = absurd (false≢true m)
moved_only (Moved u) m t = absurd (false≢true t)
moved_only (There b) m t = absurd (false≢true m)

there_else : (c : Cell) → is_moved c ≡ false → is_start c ≡ true → is_there c ≡ true
there_else Empty m s = s
there_else (Moved u) m s = absurd (false≢true (sym m))
there_else (There b) m s = refl

module _ (v : View) (whole : IsWhole v) (s : ℕ) (starts : StartsAt v s) where
  pub start_below : s < length v.words
  start_below = let b = (start_at v (whole_sound v whole) s starts).below in omega (arith, b)

  -- by the class of its header
  module _ (class : ℕ) (is : class ≡ (fields_of (get_or v.words s 0)).class) where
    pub forwarder_is : nat_eq class 8 ≡ true → IsObject v s → ⊥
    forwarder_is on object = moved_only ((store_of v).cell s) (moved_by v (whole_sound v whole) s class starts is (eqb-true class 8 on)) object

    pub object_is : nat_eq class 8 ≡ false → IsObject v s
    object_is off = there_else ((store_of v).cell s) (stays_by v (whole_sound v whole) s class starts is (λ e. false≢true (sym off ∙ eq-eqb class 8 e))) starts

-- the map has starts, and no other
module _ (map : StartMap) (v : View) (same : (s : ℕ) → has_start map s ≡ starts_at v s) (from : ℕ) where
  pub start_found : (o : Option ℕ) → IfSome o (λ s. (from ≤ s) × (s < covered map) × (has_start map s ≡ true)) → IfSome o (λ s. (from ≤ s) × StartsAt v s)
  start_found None h = tt
  start_found (Some s) h = (h.0, sym (same s) ∙ h.2)

  pub none_between : (o : Option ℕ) → IfSome o (λ s. (k : ℕ) → from ≤ k → k < s → has_start map k ≡ false) → IfSome o (λ s. (k : ℕ) → from ≤ k → k < s → StartsAt v k → ⊥)
  none_between None h = tt
  none_between (Some s) h = λ k a b starts. false≢true (sym (h k a b) ∙ same k ∙ starts)

  pub none_behind : IsWhole v → covered map ≡ length v.words → (o : Option ℕ) → IfNone o ((k : ℕ) → from ≤ k → k < covered map → has_start map k ≡ false) → IfNone o ((k : ℕ) → from ≤ k → StartsAt v k → ⊥)
  none_behind whole covers (Some s) h = tt
  none_behind whole covers None h = λ k a starts. let l = start_below v whole k starts in false≢true (sym (h k a (omega (arith, l, covers))) ∙ same k ∙ starts)
