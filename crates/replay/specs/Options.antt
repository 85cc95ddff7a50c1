-- What the options of a command line ask for.
use Rattle.std.specs.Prelude.{◌≡◌, ◌≢◌, ◌≤◌, ◌⊎◌, ℕ, ◌^◌, List, [], ◌∷◌, codes, Some, None}
use Rattle.std.specs.Option.{unwrap_or}
use Rattle.spur_graph.specs.Bytes.{Text}
use Rattle.spur_graph.specs.declared.limits.Limits.{Limits}
use Rattle.spur_graph.specs.Words.{number_in}
use Rattle.replay.specs.declared.options.Told.{Told}

-- the words of room where no option tells them, and the most
abbrev pub default_room : ℕ
default_room = 2 ^ 20

abbrev pub most_room : ℕ
most_room = 2 ^ 26

-- no room, or enough for a free chunk
abbrev pub IsRoom : ℕ → Type 0
IsRoom room = (room ≢ 1) × (room ≤ most_room)

-- the entries of the table of saved fields where no option tells them, and the most
abbrev pub default_saved : ℕ
default_saved = 4096

abbrev pub most_saved : ℕ
most_saved = 2 ^ 24

-- one entry at least
abbrev pub IsSaved : ℕ → Type 0
IsSaved saved = (1 ≤ saved) × (saved ≤ most_saved)

abbrev pub nothing : Told
nothing = record { room = None; saved = None }

-- a further option is `--room`, which was not told before, and a good number
pub record TellsRoom (so_far now : Told) (option text : Text) : Type 0 where
  pub is : option ≡ codes "--room"
  pub first : so_far.room ≡ None
  pub n : ℕ
  pub number : number_in text ≡ Some n
  pub good : IsRoom n
  pub told : now ≡ record so_far { room = Some n }

-- a further option is `--saved`, which was not told before, and a good number
pub record TellsSaved (so_far now : Told) (option text : Text) : Type 0 where
  pub is : option ≡ codes "--saved"
  pub first : so_far.saved ≡ None
  pub n : ℕ
  pub number : number_in text ≡ Some n
  pub good : IsSaved n
  pub told : now ≡ record so_far { saved = Some n }

-- what is told with a further option
abbrev pub Tells : Told → Text → Text → Told → Type 0
Tells so_far option text now = TellsRoom so_far now option text ⊎ TellsSaved so_far now option text

-- options behind those that were read, each a word and a number, in any order, and what all of them tell
pub data Tell : Told → List Text → Told → Type 0 where
  no_more : {so_far : Told} → Tell so_far [] so_far
  further : {so_far now all : Told} {option text : Text} {options : List Text} → Tells so_far option text now → Tell now options all → Tell so_far (option ∷ text ∷ options) all

-- the limits that are told, and the defaults of the others
abbrev pub limits_told : Told → Limits
limits_told told = record { eden = 0; survivor = 0; room = unwrap_or told.room default_room; saved = unwrap_or told.saved default_saved }

-- the options ask for these limits
abbrev pub AskFor : List Text → Limits → Type 0
AskFor options limits = (told : Told) × Tell nothing options told × (limits ≡ limits_told told)
