-- The room of two copies and two forwarders is that of an exchange out of place, up to names.
use Rattle.std.proofs.Common.{◌≡◌, ◌≢◌, ℕ, Bool, cond, not, ◌&&◌, ◌||◌, refl, ap, sym, ◌∙◌, Some, None}
use Rattle.std.specs.Ordering.{eq_by_cmp, nat_cmp}
use Rattle.std.specs.Cmp.{nat_cmp_total}
use Rattle.std.specs.FinMap.{get, insert, remove, get-insert, get-remove}
use Rattle.std.specs.FinSet.{contains}
use Rattle.spur_graph.specs.Room.{Room, Spot, placed, is_old}
use Rattle.spur_graph.specs.Become.{room_redirected}
use Rattle.graph_laws.specs.OutOfPlace.{IsNowhere, crossed, room_moved_out, AreFour, RoomMovesOut}
use Rattle.graph_laws.proofs.CopyingOut.{tied, untied, old_placed, old_redirected, or_turned}
use Rattle.graph_laws.proofs.Crossing.{at_a, at_b, at_c, at_d, at_other, by_cases}

module _ (room : Room) (a b c d : ℕ) (first second : Spot) (four : AreFour a b c d) (nowhere_c : IsNowhere room c) (nowhere_d : IsNowhere room d) where
  abbrev new : Room
  new = room_moved_out room a b c d first second

  abbrev both : Room
  both = placed (placed room a first) b second

  -- two names are one
  abbrev tie : ℕ → ℕ → Bool
  tie x y = eq_by_cmp nat_cmp x y

  c_a : c ≢ a
  c_a e = four.first.0 (sym e)

  d_a : d ≢ a
  d_a e = four.first.1 (sym e)

  c_b : c ≢ b
  c_b e = four.second.0 (sym e)

  d_b : d ≢ b
  d_b e = four.second.1 (sym e)

  d_c : d ≢ c
  d_c e = four.fresh_apart (sym e)

  b_a : b ≢ a
  b_a e = four.apart (sym e)

  -- ---- spots

  spot_got : (x : ℕ) → get new.spots x ≡ cond (tie x b) None (cond (tie x a) None (cond (tie x d) (Some second) (cond (tie x c) (Some first) (get room.spots x))))
  spot_got x =
      get-remove nat_cmp_total (remove (insert (insert room.spots c first) d second) a) b x
      ∙ ap (cond (tie x b) None) (get-remove nat_cmp_total (insert (insert room.spots c first) d second) a x
      ∙ ap (cond (tie x a) None) (get-insert nat_cmp_total (insert room.spots c first) d second x
      ∙ ap (cond (tie x d) (Some second)) (get-insert nat_cmp_total room.spots c first x)))

  spot_had : (x : ℕ) → get both.spots x ≡ cond (tie x b) (Some second) (cond (tie x a) (Some first) (get room.spots x))
  spot_had x = get-insert nat_cmp_total (insert room.spots a first) b second x ∙ ap (cond (tie x b) (Some second)) (get-insert nat_cmp_total room.spots a first x)

  abbrev one_spot : ℕ → Type 0
  one_spot x = get new.spots (crossed a b c d x) ≡ get both.spots x

  spots : (x : ℕ) → one_spot x
  spots = by_cases four one_spot
      (ap (get new.spots) (at_a four) ∙ spot_got c
      ∙ (λ i. cond (untied c b c_b i) None (cond (untied c a c_a i) None (cond (untied c d four.fresh_apart i) (Some second) (cond (tied c c refl i) (Some first) (get room.spots c)))))
      ∙ sym (spot_had a ∙ (λ i. cond (untied a b four.apart i) (Some second) (cond (tied a a refl i) (Some first) (get room.spots a)))))
      (ap (get new.spots) (at_c four) ∙ spot_got a
      ∙ (λ i. cond (untied a b four.apart i) None (cond (tied a a refl i) None (cond (tie a d) (Some second) (cond (tie a c) (Some first) (get room.spots a)))))
      ∙ sym (spot_had c ∙ (λ i. cond (untied c b c_b i) (Some second) (cond (untied c a c_a i) (Some first) (nowhere_c.spot i)))))
      (ap (get new.spots) (at_b four) ∙ spot_got d
      ∙ (λ i. cond (untied d b d_b i) None (cond (untied d a d_a i) None (cond (tied d d refl i) (Some second) (cond (tie d c) (Some first) (get room.spots d)))))
      ∙ sym (spot_had b ∙ ap (λ t. cond t (Some second) (cond (tie b a) (Some first) (get room.spots b))) (tied b b refl)))
      (ap (get new.spots) (at_d four) ∙ spot_got b
      ∙ ap (λ t. cond t None (cond (tie b a) None (cond (tie b d) (Some second) (cond (tie b c) (Some first) (get room.spots b))))) (tied b b refl)
      ∙ sym (spot_had d ∙ (λ i. cond (untied d b d_b i) (Some second) (cond (untied d a d_a i) (Some first) (nowhere_d.spot i)))))
      (λ x na nc nb nd.
      ap (get new.spots) (at_other four x na nc nb nd) ∙ spot_got x
      ∙ (λ i. cond (untied x b nb i) None (cond (untied x a na i) None (cond (untied x d nd i) (Some second) (cond (untied x c nc i) (Some first) (get room.spots x)))))
      ∙ sym (spot_had x ∙ (λ i. cond (untied x b nb i) (Some second) (cond (untied x a na i) (Some first) (get room.spots x)))))

  -- ---- old names

  -- the copies are placed
  abbrev copied : Room
  copied = placed (placed room c first) d second

  copied_olds : (x : ℕ) → contains copied.old_names x ≡ ((tie x d && is_old second.space) || ((tie x c && is_old first.space) || contains room.old_names x))
  copied_olds x = old_placed (placed room c first) d second x ∙ ap (λ t. (tie x d && is_old second.space) || t) (old_placed room c first x)

  -- what is no copy is an old name as before
  before_a : contains copied.old_names a ≡ contains room.old_names a
  before_a = copied_olds a ∙ (λ i. (untied a d four.first.1 i && is_old second.space) || ((untied a c four.first.0 i && is_old first.space) || contains room.old_names a))

  abbrev led : Room
  led = room_redirected copied a c

  led_olds : (x : ℕ) → contains led.old_names x
      ≡ (not (tie x a) && ((tie x c && contains room.old_names a) || ((tie x d && is_old second.space) || ((tie x c && is_old first.space) || contains room.old_names x))))
  led_olds x = old_redirected copied a c x ∙ (λ i. not (tie x a) && ((tie x c && before_a i) || copied_olds x i))

  before_b : contains led.old_names b ≡ contains room.old_names b
  before_b = led_olds b ∙ (λ i.
      not (untied b a b_a i) && ((untied b c four.second.0 i && contains room.old_names a) || ((untied b d four.second.1 i && is_old second.space) || ((untied b c four.second.0 i && is_old first.space) || contains room.old_names b))))

  new_olds : (x : ℕ) → contains new.old_names x
      ≡ (not (tie x b) && ((tie x d && contains room.old_names b)
      || (not (tie x a) && ((tie x c && contains room.old_names a) || ((tie x d && is_old second.space) || ((tie x c && is_old first.space) || contains room.old_names x))))))
  new_olds x = old_redirected led b d x ∙ (λ i. not (tie x b) && ((tie x d && before_b i) || led_olds x i))

  both_olds : (x : ℕ) → contains both.old_names x ≡ ((tie x b && is_old second.space) || ((tie x a && is_old first.space) || contains room.old_names x))
  both_olds x = old_placed (placed room a first) b second x ∙ ap (λ t. (tie x b && is_old second.space) || t) (old_placed room a first x)

  -- the old names of the copies, where the ties are these
  abbrev olds_by : Bool → Bool → Bool → Bool → Bool → Bool
  olds_by xb xd xa xc x =
      not xb && ((xd && contains room.old_names b) || (not xa && ((xc && contains room.old_names a) || ((xd && is_old second.space) || ((xc && is_old first.space) || x)))))

  abbrev one_age : ℕ → Type 0
  one_age x = contains new.old_names (crossed a b c d x) ≡ contains both.old_names x

  olds : (x : ℕ) → one_age x
  olds = by_cases four one_age
      (ap (contains new.old_names) (at_a four) ∙ new_olds c
      ∙ (λ i. olds_by (untied c b c_b i) (untied c d four.fresh_apart i) (untied c a c_a i) (tied c c refl i) (nowhere_c.young i))
      ∙ or_turned (contains room.old_names a) (is_old first.space)
      ∙ sym (both_olds a ∙ (λ i. (untied a b four.apart i && is_old second.space) || ((tied a a refl i && is_old first.space) || contains room.old_names a))))
      (ap (contains new.old_names) (at_c four) ∙ new_olds a
      ∙ (λ i. olds_by (untied a b four.apart i) (untied a d four.first.1 i) (tied a a refl i) (tie a c) (contains room.old_names a))
      ∙ sym (both_olds c ∙ (λ i. (untied c b c_b i && is_old second.space) || ((untied c a c_a i && is_old first.space) || nowhere_c.young i))))
      (ap (contains new.old_names) (at_b four) ∙ new_olds d
      ∙ (λ i. olds_by (untied d b d_b i) (tied d d refl i) (untied d a d_a i) (untied d c d_c i) (nowhere_d.young i))
      ∙ or_turned (contains room.old_names b) (is_old second.space)
      ∙ sym (both_olds b ∙ (λ i. (tied b b refl i && is_old second.space) || ((untied b a b_a i && is_old first.space) || contains room.old_names b))))
      (ap (contains new.old_names) (at_d four) ∙ new_olds b
      ∙ ap (λ t. olds_by t (tie b d) (tie b a) (tie b c) (contains room.old_names b)) (tied b b refl)
      ∙ sym (both_olds d ∙ (λ i. (untied d b d_b i && is_old second.space) || ((untied d a d_a i && is_old first.space) || nowhere_d.young i))))
      (λ x na nc nb nd.
      ap (contains new.old_names) (at_other four x na nc nb nd) ∙ new_olds x
      ∙ (λ i. olds_by (untied x b nb i) (untied x d nd i) (untied x a na i) (untied x c nc i) (contains room.old_names x))
      ∙ sym (both_olds x ∙ (λ i. (untied x b nb i && is_old second.space) || ((untied x a na i && is_old first.space) || contains room.old_names x))))

pub room_moves_out : RoomMovesOut
room_moves_out room a b c d first second four nowhere_c nowhere_d = record {
  spots = spots room a b c d first second four nowhere_c nowhere_d;
  old_names = olds room a b c d first second four nowhere_c nowhere_d;
  rest = refl;
}
