-- What a store and a sink hold, and what a call does to it.
use Rattle.std.specs.Prelude.{◌≡◌, ◌≢◌, ◌≤◌, ◌⊎◌, ℕ, List, [], ◌++◌, length, take, drop, Option, Some, None, Result, Ok, Err}
use Rattle.spur_io.specs.declared.files.FileFault.{FileFault}
use Rattle.spur_io.specs.declared.sink.SinkFault.{SinkFault}

-- the bytes of each name, none where there is no such file
abbrev pub FileMap : Type 0
FileMap = List ℕ → List ℕ

-- `n` bytes of the file at `at` came to the front of `into`, none only at its end
pub record Gives (file : List ℕ) (at : ℕ) (into : List ℕ) (n : ℕ) : Type 0 where
  pub front : take n into ≡ take n (drop at file)
  pub within : n ≤ length (drop at file)
  pub end_only : n ≡ 0 → drop at file ≡ []

-- what a read gives, where the bytes are told
abbrev pub Reads : Option FileMap → List ℕ → ℕ → List ℕ → Result ℕ FileFault → Type 0
Reads None name at into r = Unit {0}
Reads (Some files) name at into (Err e) = Unit {0}
Reads (Some files) name at into (Ok n) = Gives (files name) at into n

-- one file changes by a step, and the others are as before
pub record ChangesOnly (old new : FileMap) (name : List ℕ) (step : List ℕ → List ℕ → Type 0) : Type 0 where
  pub changed : step (old name) (new name)
  pub others : (other : List ℕ) → other ≢ name → new other ≡ old other

-- the same where the bytes are told
abbrev pub Changes : Option FileMap → Option FileMap → List ℕ → (List ℕ → List ℕ → Type 0) → Type 0
Changes None None name step = Unit {0}
Changes None (Some new) name step = ⊥
Changes (Some old) None name step = ⊥
Changes (Some old) (Some new) name step = ChangesOnly old new name step

-- after `begin`: empty, or at a refusal as before
abbrev pub Begins : Result (Unit {0}) FileFault → List ℕ → List ℕ → Type 0
Begins (Ok x) old new = new ≡ []
Begins (Err e) old new = (new ≡ old) ⊎ (new ≡ [])

-- after `append`: with the bytes, or at a refusal with a prefix of them
abbrev pub Appends : List ℕ → Result (Unit {0}) FileFault → List ℕ → List ℕ → Type 0
Appends bytes (Ok x) old new = new ≡ old ++ bytes
Appends bytes (Err e) old new = (k : ℕ) × (new ≡ old ++ take k bytes)

-- what a put adds to the bytes so far, where these are told
abbrev pub Puts : List ℕ → Option (List ℕ) → Option (List ℕ) → Result (Unit {0}) SinkFault → Type 0
Puts bytes None new r = new ≡ None
Puts bytes (Some old) new (Ok x) = new ≡ Some (old ++ bytes)
Puts bytes (Some old) new (Err e) = (k : ℕ) × (new ≡ Some (old ++ take k bytes))
