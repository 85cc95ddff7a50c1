-- A copy and a forwarder are a change in place, up to names.
use Rattle.std.proofs.Common.{◌≡◌, ◌≢◌, ℕ, Bool, true, false, cond, not, ◌&&◌, ◌||◌, if◌then◌else◌, nat_eq, refl, ap, sym, ◌∙◌, subst, inl, inr, arith, Some, None}
use Rattle.std.proofs.lemmas.Bool.{cases_eq, eq-eqb, ne_eqb}
use Rattle.std.proofs.lemmas.Option.{none-some}
use Rattle.std.specs.Option.{option_map}
use Rattle.std.specs.Ordering.{eq_by_cmp, nat_cmp}
use Rattle.std.specs.Cmp.{nat_cmp_total, unsigned_tied}
use Rattle.std.specs.FinMap.{get, insert, remove, get-insert, get-remove}
use Rattle.std.specs.FinSet.{FinSet, contains, contains-insert, contains-remove}
use Rattle.std.specs.FinSet as sets
use Rattle.spur_graph.specs.declared.answer.Value.TheVariants.{Ref}
use Rattle.spur_graph.specs.Node.{Node}
use Rattle.spur_graph.specs.Graph.{Graph, with_node, HasNode}
use Rattle.spur_graph.specs.Handles.{handles_total}
use Rattle.spur_graph.specs.Names.{Iso, rename, rename_node, swapped}
use Rattle.spur_graph.specs.Room.{Room, Spot, placed, is_old}
use Rattle.spur_graph.specs.Become.{instead, room_redirected}
use Rattle.spur_graph.proofs.MappedValues.{get-map_values}
use Rattle.spur_graph.proofs.Swapping.{swapped-left, swapped-right, swapped-else, swapped-twice}
use Rattle.graph_laws.specs.OutOfPlace.{IsNowhere, copied_out, room_copied_out, CanCopy, CopiesOut, RoomCopiesOut}
use Rattle.graph_laws.proofs.Agreeing.{node-agrees, maybe_node, special-agrees, classes-agree, handles-agree, mourners-agree}

pub tied : (x y : ℕ) → x ≡ y → eq_by_cmp nat_cmp x y ≡ true
tied x y e = unsigned_tied x y ∙ eq-eqb x y e

pub untied : (x y : ℕ) → x ≢ y → eq_by_cmp nat_cmp x y ≡ false
untied x y n = unsigned_tied x y ∙ ne_eqb x y n

-- ---- the graph

module _ (g : Graph) (a c : ℕ) (n : Node) (k : CanCopy g a c n) where
  abbrev p : ℕ → ℕ
  p = swapped a c

  -- what has a node is not the fresh name
  old : (x : ℕ) (m : Node) → get g.nodes x ≡ Some m → x ≢ c
  old x m e same = none-some m (sym k.fresh ∙ ap (get g.nodes) (sym same) ∙ e)

  apart : a ≢ c
  apart = old a (k.plain).node (k.plain).there

  agree : (x : ℕ) (m : Node) → get g.nodes x ≡ Some m → instead a c x ≡ p x
  agree x m e = sym (ap (λ t. if nat_eq x a then c else if t then a else x) (ne_eqb x c (old x m e)))

  got : (x : ℕ) → get (copied_out g a c n).nodes x ≡ option_map (rename_node (instead a c)) (cond (eq_by_cmp nat_cmp x a) None (cond (eq_by_cmp nat_cmp x c) (Some n) (get g.nodes x)))
  got x =
      get-map_values nat_cmp_total (rename_node (instead a c)) (remove (insert g.nodes c n) a) x
      ∙ ap (option_map (rename_node (instead a c))) (get-remove nat_cmp_total (insert g.nodes c n) a x ∙ ap (cond (eq_by_cmp nat_cmp x a) None) (get-insert nat_cmp_total g.nodes c n x))

  -- a name and its node on either side
  abbrev correspond : ℕ → Type 0
  correspond x = get (copied_out g a c n).nodes (p x) ≡ option_map (rename_node p) (get (insert g.nodes a n) x)

  at_name : correspond a
  at_name =
      ap (get (copied_out g a c n).nodes) (swapped-left a c a refl) ∙ got c
      ∙ (λ i. option_map (rename_node (instead a c)) (cond (untied c a (λ e. apart (sym e)) i) None (cond (tied c c refl i) (Some n) (get g.nodes c))))
      ∙ ap Some (node-agrees g (instead a c) p agree n k.named)
      ∙ sym (ap (option_map (rename_node p)) (get-insert nat_cmp_total g.nodes a n a ∙ ap (λ t. cond t (Some n) (get g.nodes a)) (tied a a refl)))

  at_copy : correspond c
  at_copy =
      ap (get (copied_out g a c n).nodes) (swapped-right a c c refl) ∙ got a
      ∙ ap (λ t. option_map (rename_node (instead a c)) (cond t None (cond (eq_by_cmp nat_cmp a c) (Some n) (get g.nodes a)))) (tied a a refl)
      ∙ sym (ap (option_map (rename_node p)) (get-insert nat_cmp_total g.nodes a n c ∙ (λ i. cond (untied c a (λ e. apart (sym e)) i) (Some n) (k.fresh i))))

  at_other : (x : ℕ) → x ≢ a → x ≢ c → correspond x
  at_other x na nc =
      ap (get (copied_out g a c n).nodes) (swapped-else a c x na nc) ∙ got x
      ∙ (λ i. option_map (rename_node (instead a c)) (cond (untied x a na i) None (cond (untied x c nc i) (Some n) (get g.nodes x))))
      ∙ maybe_node g (instead a c) p agree (get g.nodes x) (λ m e. (k.closed.all_nodes x m e).1)
      ∙ sym (ap (option_map (rename_node p)) (get-insert nat_cmp_total g.nodes a n x ∙ ap (λ t. cond t (Some n) (get g.nodes x)) (untied x a na)))

  nodes : (x : ℕ) → correspond x
  nodes x = elim (cases_eq x a) [
    | inl e ↦ subst correspond (sym e) at_name
    | inr na ↦ elim (cases_eq x c) [
      | inl e ↦ subst correspond (sym e) at_copy
      | inr nc ↦ at_other x na nc
    ]
  ]

  stays : (x : ℕ) → HasNode g (Ref x) → a ≢ x → x ≡ p x
  stays x has na = let r = has x refl in sym (swapped-else a c x (λ e. na (sym e)) (old x r.0 r.1))

  copies : Iso (with_node g a n) (copied_out g a c n) p p
  copies = record {
    left = swapped-twice a c;
    right = swapped-twice a c;
    nodes = nodes;
    nil = stays g.nil (k.closed.names 0 0 (omega arith)) (k.plain).no_nil;
    no = stays g.no (k.closed.names 1 0 (omega arith)) (k.plain).no_false;
    yes = stays g.yes (k.closed.names 2 0 (omega arith)) (k.plain).no_true;
    special = special-agrees g (instead a c) p agree k.closed;
    classes = λ i. get-map_values nat_cmp_total (rename (instead a c)) g.classes i ∙ classes-agree g (instead a c) p agree k.closed i;
    handles = λ h. get-map_values handles_total (rename (instead a c)) g.handles h ∙ handles-agree g (instead a c) p agree k.closed h;
    mourners = mourners-agree g (instead a c) p agree k.closed;
    hash_state = refl;
  }

pub copies_out : CopiesOut
copies_out g a c n k = copies g a c n k

-- ---- the room

-- a name that is an old name or becomes one
one_more : (x : Bool) (names : FinSet nat_cmp) (b q : ℕ) → contains (if x then sets.insert names b else names) q ≡ ((eq_by_cmp nat_cmp q b && x) || contains names q)
one_more true names b q = contains-insert nat_cmp_total names b q ∙ ap (λ t. t || contains names q) (and_true (eq_by_cmp nat_cmp q b))
  where
    and_true : (t : Bool) → t ≡ (t && true)
    and_true true = refl
    and_true false = refl
one_more false names b q = ap (λ t. t || contains names q) (and_false (eq_by_cmp nat_cmp q b))
  where
    and_false : (t : Bool) → false ≡ (t && false)
    and_false true = refl
    and_false false = refl

pub old_placed : (room : Room) (a : ℕ) (spot : Spot) (q : ℕ) → contains (placed room a spot).old_names q ≡ ((eq_by_cmp nat_cmp q a && is_old spot.space) || contains room.old_names q)
old_placed room a spot q = one_more (is_old spot.space) room.old_names a q

pub old_redirected : (room : Room) (a b q : ℕ) → contains (room_redirected room a b).old_names q ≡ (not (eq_by_cmp nat_cmp q a) && ((eq_by_cmp nat_cmp q b && contains room.old_names a) || contains room.old_names q))
old_redirected room a b q =
    contains-remove nat_cmp_total (if contains room.old_names a then sets.insert room.old_names b else room.old_names) a q
    ∙ ap (λ t. not (eq_by_cmp nat_cmp q a) && t) (one_more (contains room.old_names a) room.old_names b q)

pub or_turned : (x y : Bool) → (x || (y || false)) ≡ (y || x)
or_turned true true = refl
or_turned true false = refl
or_turned false true = refl
or_turned false false = refl

module _ (room : Room) (a c : ℕ) (spot : Spot) (apart : a ≢ c) (nowhere : IsNowhere room c) where
  spot_got : (x : ℕ) → get (room_copied_out room a c spot).spots x ≡ cond (eq_by_cmp nat_cmp x a) None (cond (eq_by_cmp nat_cmp x c) (Some spot) (get room.spots x))
  spot_got x = get-remove nat_cmp_total (insert room.spots c spot) a x ∙ ap (cond (eq_by_cmp nat_cmp x a) None) (get-insert nat_cmp_total room.spots c spot x)

  spot_had : (x : ℕ) → get (placed room a spot).spots x ≡ cond (eq_by_cmp nat_cmp x a) (Some spot) (get room.spots x)
  spot_had x = get-insert nat_cmp_total room.spots a spot x

  -- the name was old before, or was not
  a_before : contains (placed room c spot).old_names a ≡ contains room.old_names a
  a_before = old_placed room c spot a ∙ ap (λ t. (t && is_old spot.space) || contains room.old_names a) (untied a c apart)

  old_got : (x : ℕ) → contains (room_copied_out room a c spot).old_names x
      ≡ (not (eq_by_cmp nat_cmp x a) && ((eq_by_cmp nat_cmp x c && contains room.old_names a) || ((eq_by_cmp nat_cmp x c && is_old spot.space) || contains room.old_names x)))
  old_got x = old_redirected (placed room c spot) a c x ∙ (λ i. not (eq_by_cmp nat_cmp x a) && ((eq_by_cmp nat_cmp x c && a_before i) || old_placed room c spot x i))

  spots : (x : ℕ) → get (room_copied_out room a c spot).spots (swapped a c x) ≡ get (placed room a spot).spots x
  spots x = elim (cases_eq x a) [
    | inl e ↦
        ap (get (room_copied_out room a c spot).spots) (swapped-left a c x e) ∙ spot_got c
        ∙ (λ i. cond (untied c a (λ f. apart (sym f)) i) None (cond (tied c c refl i) (Some spot) (get room.spots c)))
        ∙ sym (spot_had x ∙ ap (λ t. cond t (Some spot) (get room.spots x)) (tied x a e))
    | inr na ↦ elim (cases_eq x c) [
      | inl e ↦
          ap (get (room_copied_out room a c spot).spots) (swapped-right a c x e) ∙ spot_got a
          ∙ ap (λ t. cond t None (cond (eq_by_cmp nat_cmp a c) (Some spot) (get room.spots a))) (tied a a refl)
          ∙ sym (spot_had x ∙ ap (λ t. cond t (Some spot) (get room.spots x)) (untied x a na) ∙ ap (get room.spots) e ∙ nowhere.spot)
      | inr nc ↦
          ap (get (room_copied_out room a c spot).spots) (swapped-else a c x na nc) ∙ spot_got x
          ∙ (λ i. cond (untied x a na i) None (cond (untied x c nc i) (Some spot) (get room.spots x)))
          ∙ sym (spot_had x ∙ ap (λ t. cond t (Some spot) (get room.spots x)) (untied x a na))
    ]
  ]

  olds : (x : ℕ) → contains (room_copied_out room a c spot).old_names (swapped a c x) ≡ contains (placed room a spot).old_names x
  olds x = elim (cases_eq x a) [
    | inl e ↦
        ap (contains (room_copied_out room a c spot).old_names) (swapped-left a c x e) ∙ old_got c
        ∙ (λ i. not (untied c a (λ f. apart (sym f)) i) && ((tied c c refl i && contains room.old_names a) || ((tied c c refl i && is_old spot.space) || nowhere.young i)))
        ∙ or_turned (contains room.old_names a) (is_old spot.space)
        ∙ sym (ap (contains (placed room a spot).old_names) e ∙ old_placed room a spot a ∙ ap (λ t. (t && is_old spot.space) || contains room.old_names a) (tied a a refl))
    | inr na ↦ elim (cases_eq x c) [
      | inl e ↦
          ap (contains (room_copied_out room a c spot).old_names) (swapped-right a c x e) ∙ old_got a
          ∙ ap (λ t. not t && ((eq_by_cmp nat_cmp a c && contains room.old_names a) || ((eq_by_cmp nat_cmp a c && is_old spot.space) || contains room.old_names a))) (tied a a refl)
          ∙ sym (old_placed room a spot x ∙ ap (λ t. (t && is_old spot.space) || contains room.old_names x) (untied x a na) ∙ ap (contains room.old_names) e ∙ nowhere.young)
      | inr nc ↦
          ap (contains (room_copied_out room a c spot).old_names) (swapped-else a c x na nc) ∙ old_got x
          ∙ (λ i. not (untied x a na i) && ((untied x c nc i && contains room.old_names a) || ((untied x c nc i && is_old spot.space) || contains room.old_names x)))
          ∙ sym (old_placed room a spot x ∙ ap (λ t. (t && is_old spot.space) || contains room.old_names x) (untied x a na))
    ]
  ]

pub room_copies_out : RoomCopiesOut
room_copies_out room a c spot apart nowhere = record {
  spots = spots room a c spot apart nowhere;
  old_names = olds room a c spot apart nowhere;
  rest = refl;
}
