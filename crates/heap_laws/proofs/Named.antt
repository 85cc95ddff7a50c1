-- What names objects from outside says the same after a sweep, a copy, a compaction.
use Rattle.std.proofs.Common.{◌≡◌, ℕ, Bool, true, false, ◌%◌, ◌/◌, ◌<◌, ◌&&◌, cond, length, List, map, get_or, refl, sym, ap, ◌∙◌, subst, inl, inr, Some, None, Option}
use Rattle.std.proofs.lemmas.Bool.{false≢true, or_cases, eq-eqb}
use Rattle.std.proofs.lemmas.List.{get_or_default}
use Rattle.std.proofs.lemmas.List.Elements.{recursion_from_All}
use Rattle.std.proofs.lemmas.Iterator.Adapters.{option_map_id}
use Rattle.std.specs.Option.{option_map}
use Rattle.std.specs.List.{All, AllByRecursion, Contains}
use Rattle.std.specs.FinMap.{get}
use Rattle.spur_graph.specs.Value.{is_immediate_word}
use Rattle.spur_graph.specs.Cells.{Store, final}
use Rattle.spur_graph.specs.Ordinary.{is_good_reference, is_good_word}
use Rattle.spur_graph.specs.Heaps.{HasFired, waiting_in}
use Rattle.heap_cells.proofs.CellKinds.{there_is_not_moved}
use Rattle.heap_cells.proofs.References.{ordinary_there}
use Rattle.heap_laws.specs.Placed.{IsPlacedWord, IsPlacedHandle, Outside, IsPlacedOutside}
use Rattle.heap_laws.specs.Instances.{IsSwept, IsCopied, IsReaddressed, IsGoodOutside, LivesOutside, IsReaddressedOutside, live_objects, all_objects, same_place, moved_to, renamed_by}
use Rattle.heap_laws.proofs.Outsides.{agree_groups, twice_groups}
use Rattle.heap_laws.proofs.Swept.{word-swept, final-swept}
use Rattle.heap_laws.proofs.Copied.{word-copied, final-copied}
use Rattle.heap_laws.proofs.Readdressed.{word-readdressed, final-placed}

-- a good word that is no immediate is a good reference
good_reference : (h : Store) (w : ℕ) → is_good_word h w ≡ true → is_immediate_word w ≡ false → is_good_reference h w ≡ true
good_reference h w good off = elim (or_cases (is_immediate_word w) (is_good_reference h w) good) [
  | inl on ↦ absurd (false≢true (sym off ∙ on))
  | inr reference ↦ reference
]

-- a handle whose word says the same
handle : {p : ℕ → ℕ} {keep : ℕ → Bool} {old new : Store} (f : ℕ → ℕ) (o o' : Option ℕ) → o' ≡ option_map f o → ((w : ℕ) → o ≡ Some w → IsPlacedWord p keep old new w (f w)) → IsPlacedHandle p keep old new o o'
handle {p} {keep} {old} {new} f None o' e m = subst (IsPlacedHandle p keep old new None) (sym e) tt
handle {p} {keep} {old} {new} f (Some w) o' e m = subst (IsPlacedHandle p keep old new (Some w)) (sym e) (m w refl)

-- what holds of the members of two lists
both_all : (P Q : ℕ → Type 0) (ss : List ℕ) → All P ss → ((s : ℕ) → Contains ss s → Q s) → AllByRecursion (λ s. P s × Q s) ss
both_all P Q ss all some = recursion_from_All (λ s. P s × Q s) ss (λ j d l. (all j d l, some (get_or ss j d) (j, l, get_or_again j d l)))
  where
    get_or_again : (j d : ℕ) → j < length ss → get_or ss j (get_or ss j d) ≡ get_or ss j d
    get_or_again j d l = get_or_default ss j (get_or ss j d) d l

module _ {a c : ℕ} {old new : Store} (k : IsCopied a c old new) (o : Outside) (g : IsGoodOutside old o) where
  pub outside-copied : IsPlacedOutside (moved_to a c) (all_objects old) old new o o
  outside-copied = record {
    special = word-copied k o.special (λ off. g.special);
    held = λ h. handle (λ w. w) (get o.held h) (get o.held h) (sym (option_map_id (get o.held h))) (λ w e. word-copied k w (good_reference old w (g.held h w e)));
    groups = agree_groups (final new) (λ s. moved_to a c (final old s)) (HasFired old) (λ s f. final-copied k s (there_is_not_moved _ (ordinary_there old (final old s) f.ordinary))) o.groups (recursion_from_All (HasFired old) (waiting_in o.groups) g.mourners.fired)
        ∙ sym (twice_groups (moved_to a c) (final old) o.groups);
    waiting = λ j d l. let f = g.mourners.fired j d l in (ordinary_there old (final old (get_or (waiting_in o.groups) j d)) f.ordinary, f.ordinary);
  }

module _ {live : ℕ → Bool} {old new : Store} (k : IsSwept live old new) (o : Outside) (g : IsGoodOutside old o) (on : LivesOutside live old o) where
  pub outside-swept : IsPlacedOutside same_place (live_objects live old) old new o o
  outside-swept = record {
    special = word-swept k o.special (λ off. g.special) on.special;
    held = λ h. handle (λ w. w) (get o.held h) (get o.held h) (sym (option_map_id (get o.held h))) (λ w e. word-swept k w (good_reference old w (g.held h w e)) (λ t. on.held h w t e));
    groups = agree_groups (final new) (λ s. same_place (final old s)) (λ s. HasFired old s × (live s ≡ true)) (λ s f. (final-swept k s f.1).0) o.groups (both_all (HasFired old) (λ s. live s ≡ true) (waiting_in o.groups) g.mourners.fired on.waiting)
        ∙ sym (twice_groups same_place (final old) o.groups);
    waiting = λ j d l.
        let f = g.mourners.fired j d l in
        let s : ℕ = get_or (waiting_in o.groups) j d in
        let e : live (final old s) ≡ true = (final-swept k s (on.waiting s (j, l, get_or_default (waiting_in o.groups) j s d l))).1 in
        (λ x. e x && ordinary_there old (final old s) f.ordinary x, f.ordinary);
  }

module _ {p address : ℕ → ℕ} {live : ℕ → Bool} {old new : Store} (k : IsReaddressed p address live old new) (o o' : Outside) (g : IsGoodOutside old o) (on : LivesOutside live old o) (r : IsReaddressedOutside p address o o') where
  named : (w : ℕ) → w % 8 ≡ 0 → old.to w ≡ Some (w / 8)
  named w z = k.to_old w ∙ ap (λ b. cond b (Some (w / 8)) None) (eq-eqb (w % 8) 0 z)

  pub outside-readdressed : IsPlacedOutside p (live_objects live old) old new o o'
  outside-readdressed = record {
    special = subst (IsPlacedWord p (live_objects live old) old new o.special) (sym r.special) (word-readdressed k o.special (λ off. g.special) (λ z. on.special (o.special / 8) (named o.special z)));
    held = λ h. handle (renamed_by (λ t. address (p t))) (get o.held h) (get o'.held h) (r.held h) (λ w e. word-readdressed k w (good_reference old w (g.held h w e)) (λ z. on.held h w (w / 8) e (named w z)));
    groups = ap (map (map (final new))) r.groups ∙ twice_groups (final new) p o.groups
        ∙ agree_groups (λ s. final new (p s)) (λ s. p (final old s)) (λ s. HasFired old s × (live s ≡ true)) (λ s f. (final-placed k s f.1).0) o.groups (both_all (HasFired old) (λ s. live s ≡ true) (waiting_in o.groups) g.mourners.fired on.waiting)
        ∙ sym (twice_groups p (final old) o.groups);
    waiting = λ j d l.
        let f = g.mourners.fired j d l in
        let s : ℕ = get_or (waiting_in o.groups) j d in
        let e : live (final old s) ≡ true = (final-placed k s (on.waiting s (j, l, get_or_default (waiting_in o.groups) j s d l))).1 in
        (λ x. e x && ordinary_there old (final old s) f.ordinary x, f.ordinary);
  }
