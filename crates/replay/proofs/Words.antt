-- The words of a command line.
use Rattle.std.proofs.Common.{◌≡◌, ◌<◌, ◌≤◌, ◌+◌, ◌-◌, ◌↔◌, ℕ, List, [], ◌∷◌, ◌++◌, take, drop, length, map, min, get_or, ap, sym, ◌∙◌, inl, inr, arith, subst, Option, Some, None}
use Rattle.std.specs.Prelude.{codes}
use Rattle.std.specs.Option.{IfSome, IfNone}
use Rattle.std.proofs.lemmas.List.{take_all}
use Rattle.spur_graph.specs.Bytes.{Text}
use Rattle.spur_graph.specs.Words.{number_in}
use Rattle.image_load.specs.Loaded.{AreLimits}
use Rattle.replay.specs.declared.options.Told.{Told}
use Rattle.replay.specs.Options.{IsRoom, IsSaved, Tells, Tell, no_more, further, nothing, limits_told}
use Rattle.replay.specs.Runs.{IsCall}

-- ---- the first words

-- a list of three is its first, second and third
pub three_words : {X Y : Type 0} (f : X → Y) (xs : List X) (a b c : X) → 3 ≤ length xs → length xs < 4 → a ≡ get_or xs 0 a → b ≡ get_or xs 1 b → c ≡ get_or xs 2 c → map f xs ≡ f a ∷ f b ∷ f c ∷ []
three_words f (x ∷ y ∷ z ∷ []) a b c low high first second third = λ i. f (sym first i) ∷ f (sym second i) ∷ f (sym third i) ∷ []
three_words f xs a b c low high first second third = absurd (omega arith)

-- the words behind the first three
pub split_words : (ws front options : List Text) (image script : Text) (n size : ℕ) → ws ≡ front ++ options → IsCall front image script → size ≡ length ws → n ≡ min size 3 → drop n ws ≡ options
split_words ws front options image script n size are call counted is =
    let e : ws ≡ codes "replay" ∷ image ∷ script ∷ options = are ∙ ap (λ f. f ++ options) call.are in
    let long : length ws ≡ length options + 3 = ap length e ∙ omega arith in
    let three : n ≡ 3 = omega (arith, is, counted, long) in
    ap (drop n) e ∙ ap (λ m. drop m (codes "replay" ∷ image ∷ script ∷ options)) three

-- ---- what options tell

-- one text tells one number
same_number : (text : Text) (m n : ℕ) → number_in text ≡ Some m → number_in text ≡ Some n → Some m ≡ Some n
same_number text m n one other = sym one ∙ other

other_option : (option : Text) → option ≡ codes "--room" → option ≡ codes "--saved" → ⊥
other_option option room saved = cc

-- a further option tells one thing
tells_once : (told now then : Told) (option text : Text) → Tells told option text now → Tells told option text then → now ≡ then
tells_once told now then option text (inl one) (inl other) = one.told ∙ ap (λ n. record told { room = n }) (same_number text one.n other.n one.number other.number) ∙ sym other.told
tells_once told now then option text (inr one) (inr other) = one.told ∙ ap (λ n. record told { saved = n }) (same_number text one.n other.n one.number other.number) ∙ sym other.told
tells_once told now then option text (inl one) (inr other) = absurd (other_option option one.is other.is)
tells_once told now then option text (inr one) (inl other) = absurd (other_option option other.is one.is)

-- what a first option tells, and what those behind tell with it
first_told : {told all : Told} {option text : Text} {options : List Text} → Tell told (option ∷ text ∷ options) all → (now : Told) × Tells told option text now × Tell now options all
first_told (further {now = now} one rest) = (now, one, rest)

-- one word is no option
pub half_told : (told all : Told) (words : List Text) → Tell told words all → 1 ≤ length words → length words < 2 → ⊥
half_told told all words no_more low high = omega (arith, low)
half_told told all words (further first rest) low high = omega (arith, high)

-- options tell what those behind the first tell
tells_on : (told now all : Told) (option text : Text) (options : List Text) → Tells told option text now → Tell told (option ∷ text ∷ options) all ↔ Tell now options all
tells_on told now all option text options one = (
  λ t. let first = first_told t in subst (λ mid. Tell mid options all) (tells_once told first.0 now option text first.1 one) first.2,
  λ rest. further one rest,
)

-- a list of two and more is its first, its second and those behind
pub pair_words : {X Y : Type 0} (f : X → Y) (xs : List X) (a b : X) → 2 ≤ length xs → a ≡ get_or xs 0 a → b ≡ get_or xs 1 b → map f xs ≡ f a ∷ f b ∷ map f (take (length xs - 2) (drop 2 xs))
pair_words f (x ∷ y ∷ rest) a b low first second = λ i. f (sym first i) ∷ f (sym second i) ∷ map f (sym (take_all (length (x ∷ y ∷ rest) - 2) rest (omega arith)) i)
pair_words f xs a b low first second = absurd (omega arith)

-- what all options tell is what those behind the next tell
pub tell_behind : (words rest behind : List Text) (told now : Told) (option text : Text) → ((all : Told) → Tell nothing words all ↔ Tell told rest all) → rest ≡ option ∷ text ∷ behind → Tells told option text now
    → (all : Told) → Tell nothing words all ↔ Tell now behind all
tell_behind words rest behind told now option text so_far are one all =
    let on = tells_on told now all option text behind one in (
      λ t. on.0 (subst (λ ws. Tell told ws all) are ((so_far all).0 t)),
      λ t. (so_far all).1 (subst (λ ws. Tell told ws all) (sym are) (on.1 t)),
    )

-- where the next option tells nothing, the options tell nothing
pub tells_nothing : (words rest behind : List Text) (told : Told) (option text : Text) → ((all : Told) → Tell nothing words all ↔ Tell told rest all) → rest ≡ option ∷ text ∷ behind → ((now : Told) → Tells told option text now → ⊥)
    → (all : Told) → Tell nothing words all → ⊥
tells_nothing words rest behind told option text so_far are none all t =
    let first = first_told (subst (λ ws. Tell told ws all) are ((so_far all).0 t)) in
    none first.0 first.1

-- no words tell nothing more
pub told_all : {X : Type 0} (f : X → Text) (xs : List X) (told : Told) → length xs < 1 → Tell told (map f xs) told
told_all f [] told none = no_more
told_all f (x ∷ xs) told none = absurd (omega arith)

pub none_is : {X : Type 0} (r : Option X) (P : Type 0) → P → IfNone r P
none_is None P is = is
none_is (Some x) P is = tt

-- numbers that are told are good
record Good (told : Told) : Type 0 where
  room : IfSome told.room IsRoom
  saved : IfSome told.saved IsSaved

good_with : (told now : Told) (option text : Text) → Tells told option text now → Good told → Good now
good_with told now option text (inl one) good = subst Good (sym one.told) (record { room = one.good; saved = good.saved })
good_with told now option text (inr one) good = subst Good (sym one.told) (record { room = good.room; saved = one.good })

good_told : (told all : Told) (words : List Text) → Tell told words all → Good told → Good all
good_told told all words no_more good = good
good_told told all words (further {now = now} {option = option} {text = text} {options = options} one rest) good = good_told now all options rest (good_with told now option text one good)

good_limits : (room saved : Option ℕ) → IfSome room IsRoom → IfSome saved IsSaved → AreLimits (limits_told (record { room = room; saved = saved }))
good_limits (Some room) (Some saved) r s = record { most_eden = omega arith; most_survivor = omega arith; room = r.0; most_room = omega (arith, r.1); some_saved = s.0; most_saved = omega (arith, s.1) }
good_limits (Some room) None r s = record { most_eden = omega arith; most_survivor = omega arith; room = r.0; most_room = omega (arith, r.1); some_saved = omega arith; most_saved = omega arith }
good_limits None (Some saved) r s = record { most_eden = omega arith; most_survivor = omega arith; room = λ e. omega (arith, e); most_room = omega arith; some_saved = s.0; most_saved = omega (arith, s.1) }
good_limits None None r s = record { most_eden = omega arith; most_survivor = omega arith; room = λ e. omega (arith, e); most_room = omega arith; some_saved = omega arith; most_saved = omega arith }

-- limits that options ask for can be had
pub told_limits : (words : List Text) (told : Told) → Tell nothing words told → AreLimits (limits_told told)
told_limits words told t =
    let good = good_told nothing told words t (record { room = tt; saved = tt }) in
    good_limits told.room told.saved good.room good.saved
