-- What names good objects from outside does so under moved places.
use Rattle.std.proofs.Common.{◌≡◌, ◌≢◌, ℕ, Bool, true, ◌<◌, List, [], ◌∷◌, map, length, get_or, refl, sym, ap, ◌∙◌, subst, arith, Some, None, Option}
use Rattle.std.proofs.lemmas.List.{get_or-map, length-map}
use Rattle.std.proofs.lemmas.List.Elements.{All-map, All-from_recursion, recursion_from_All}
use Rattle.std.proofs.lemmas.Simd.{map-map}
use Rattle.std.specs.List.{All, AllByRecursion, flat_map}
use Rattle.std.specs.FinMap.{get}
use Rattle.spur_graph.specs.Graph.{AreApart}
use Rattle.spur_graph.specs.Cells.{Store, final, lead}
use Rattle.spur_graph.specs.Ordinary.{body_at, is_ordinary, is_good_word}
use Rattle.spur_graph.specs.Heaps.{HasFired, waiting_in}
use Rattle.heap_cells.proofs.Below.{passed, mapped_there}
use Rattle.heap_cells.proofs.References.{not_immediate}
use Rattle.heap_cells.proofs.WholeClosed.{waiting_renamed, some_renamed}
use Rattle.heap_laws.specs.Placed.{IsPlacedHandle, Outside, IsPlacedOutside, CanPlace}
use Rattle.heap_laws.specs.Instances.{IsGoodOutside}
use Rattle.heap_laws.proofs.Places.{ordinary-placed, format-placed}
use Rattle.heap_laws.proofs.Words.{good-placed, value_word}

abbrev tail : List ℕ → List ℕ
tail [] = []
tail (s ∷ ss) = ss

-- members that two functions take to the same
pair_all : (P Q : ℕ → Type 0) (f f' : ℕ → ℕ) → ((s t : ℕ) → P s → f' t ≡ f s → Q t) → (ss ts : List ℕ) → map f' ts ≡ map f ss → AllByRecursion P ss → AllByRecursion Q ts
pair_all P Q f f' q ss [] e all = tt
pair_all P Q f f' q [] (t ∷ ts) e all = absurd cc
pair_all P Q f f' q (s ∷ ss) (t ∷ ts) e all = (q s t all.0 (ap (λ xs. get_or xs 0 0) e), pair_all P Q f f' q ss ts (ap tail e) all.1)

map_some : (f : ℕ → ℕ) (groups : List (List ℕ)) → AllByRecursion (λ (group : List ℕ). group ≢ []) (map (map f) groups) → AllByRecursion (λ (group : List ℕ). group ≢ []) groups
map_some f [] all = tt
map_some f ([] ∷ groups) all = absurd (all.0 refl)
map_some f ((a ∷ group) ∷ groups) all = ((λ e. absurd cc), map_some f groups all.1)

module _ {p : ℕ → ℕ} {keep : ℕ → Bool} {old new : Store} (k : CanPlace p keep old new) (o o' : Outside) (g : IsGoodOutside old o) (r : IsPlacedOutside p keep old new o o') where
  handle_good : (a b : Option ℕ) (w : ℕ) → IsPlacedHandle p keep old new a b → b ≡ Some w → is_good_word new w ≡ true
  handle_good None None w m e = absurd cc
  handle_good None (Some v) w m e = absurd m
  handle_good (Some u) None w m e = absurd m
  handle_good (Some u) (Some v) w m e = let is : v ≡ w = cc in ap (is_good_word new) (sym is) ∙ value_word k u v m

  ends : map (final new) (waiting_in o'.groups) ≡ map p (map (final old) (waiting_in o.groups))
  ends = sym (waiting_renamed (final new) o'.groups) ∙ ap (flat_map (λ (group : List ℕ). group)) r.groups ∙ waiting_renamed p (map (map (final old)) o.groups) ∙ ap (map p) (waiting_renamed (final old) o.groups)

  fired : (s t : ℕ) → HasFired old s × (keep (final old s) ≡ true) → final new t ≡ p (final old s) → HasFired new t
  fired s t f e = record {
    ordinary = ap (is_ordinary new) e ∙ ordinary-placed k (final old s) f.1 ∙ f.0.ordinary;
    format = ap (λ u. (body_at new u).format) e ∙ format-placed k (final old s) f.1 ∙ f.0.format;
  }

  abbrev xs : List ℕ
  xs = map (final old) (waiting_in o.groups)

  kept : All (λ t. keep t ≡ true) xs
  kept = All-map (λ t. keep t ≡ true) (final old) (waiting_in o.groups) (λ j d l. (r.waiting j d l).0)

  places_apart : AreApart (map p xs)
  places_apart i j d l m e =
      let n : j < length xs = omega (arith, m, length-map xs p) in
      let low : i < length xs = omega (arith, l, n) in
      let same : p (get_or xs i 0) ≡ p (get_or xs j 0) = sym (get_or-map p xs i 0 d low) ∙ e ∙ get_or-map p xs j 0 d n in
      g.mourners.apart i j 0 l n (k.placed.once (get_or xs i 0) (get_or xs j 0) (kept i 0 low) (kept j 0 n) same)

  pub outside_good : IsGoodOutside new o'
  outside_good = record {
    special =
        let q = passed (is_ordinary old) (lead old o.special) g.special in
        let m = mapped_there (final old) (old.to o.special) q.one q.is in
        good-placed k o.special o'.special (not_immediate o.special (k.reads.aligned o.special m.0 m.1)) r.special;
    held = λ h w e. handle_good (get o.held h) (get o'.held h) w (r.held h) e;
    mourners = record {
      some = All-from_recursion (λ (group : List ℕ). group ≢ []) o'.groups (map_some (final new) o'.groups
          (subst (AllByRecursion (λ (group : List ℕ). group ≢ [])) (sym r.groups) (some_renamed p (map (map (final old)) o.groups) (some_renamed (final old) o.groups (recursion_from_All (λ (group : List ℕ). group ≢ []) o.groups g.mourners.some)))));
      fired = All-from_recursion (HasFired new) (waiting_in o'.groups) (pair_all (λ s. HasFired old s × (keep (final old s) ≡ true)) (HasFired new) (λ s. p (final old s)) (final new) fired (waiting_in o.groups) (waiting_in o'.groups)
          (ends ∙ map-map p (final old) (waiting_in o.groups))
          (recursion_from_All (λ s. HasFired old s × (keep (final old s) ≡ true)) (waiting_in o.groups) (λ j d l. (g.mourners.fired j d l, (r.waiting j d l).0))));
      apart = subst AreApart (sym ends) places_apart;
    };
  }
