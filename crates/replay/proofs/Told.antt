-- What a store tells before and after several calls.
use Rattle.std.proofs.Common.{◌≡◌, ℕ, List, refl, sym, subst, Option, Some, None, Ok}
use Rattle.spur_io.specs.Store.{Gives, Reads}
use Rattle.spur_graph.specs.State.{Files}
use Rattle.replay.specs.Sessions.{WhereTold}

-- what is told in another way
pub told_as : (a b : Option Files) (P Q : Files → Files → Type 0) → ((x y : Files) → a ≡ Some x → P x y → Q x y) → WhereTold a b P → WhereTold a b Q
told_as None None P Q so is = tt
told_as None (Some y) P Q so is = is
told_as (Some x) None P Q so is = is
told_as (Some x) (Some y) P Q so is = so x y refl is

-- one after the other
pub told_on : (a b c : Option Files) (P Q R : Files → Files → Type 0) → ((x y z : Files) → P x y → Q y z → R x z) → WhereTold a b P → WhereTold b c Q → WhereTold a c R
told_on None None None P Q R so one two = tt
told_on None None (Some z) P Q R so one two = two
told_on None (Some y) c P Q R so one two = absurd one
told_on (Some x) None c P Q R so one two = absurd one
told_on (Some x) (Some y) None P Q R so one two = two
told_on (Some x) (Some y) (Some z) P Q R so one two = so x y z one two

-- nothing changes
pub told_still : (a : Option Files) (P : Files → Files → Type 0) → ((x : Files) → a ≡ Some x → P x x) → WhereTold a a P
told_still None P so = tt
told_still (Some x) P so = so x refl

-- what a read gave of a file
pub told_read : (a b later : Option Files) (name into : List ℕ) (at n : ℕ) (P : Files → Files → Type 0) → later ≡ b → Reads b name at into (Ok n) → WhereTold a b P → WhereTold a later (λ x y. P x y × Gives (y name) at into n)
told_read a b later name into at n P same reads is = subst (λ o. WhereTold a o (λ x y. P x y × Gives (y name) at into n)) (sym same) (with a b reads is)
  where
    with : (a b : Option Files) → Reads b name at into (Ok n) → WhereTold a b P → WhereTold a b (λ x y. P x y × Gives (y name) at into n)
    with None None reads is = tt
    with None (Some y) reads is = absurd is
    with (Some x) None reads is = absurd is
    with (Some x) (Some y) reads is = (is, reads)
