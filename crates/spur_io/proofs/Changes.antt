-- A store after several calls on one file.
use Rattle.std.proofs.Common.{ℕ, List, IsSome, OnOk, OnErr, ◌↔◌, refl, ◌∙◌, Option, Some, None, Result, Ok, Err}
use Rattle.spur_io.specs.Store.{FileMap, Changes}

-- two changes of one file
pub both : (before middle after : Option FileMap) (name : List ℕ) (first second whole : List ℕ → List ℕ → Type 0)
    → ((x y z : List ℕ) → first x y → second y z → whole x z)
    → Changes before middle name first → Changes middle after name second → Changes before after name whole
both None None None name first second whole join one two = tt
both None None (Some after) name first second whole join one two = two
both None (Some middle) after name first second whole join one two = absurd one
both (Some before) None after name first second whole join one two = absurd one
both (Some before) (Some middle) None name first second whole join one two = absurd two
both (Some before) (Some middle) (Some after) name first second whole join one two = record {
  changed = join (before name) (middle name) (after name) one.changed two.changed;
  others = λ other differs. two.others other differs ∙ one.others other differs;
}

-- one change that is told of otherwise
pub told_as : (before after : Option FileMap) (name : List ℕ) (first whole : List ℕ → List ℕ → Type 0)
    → ((x y : List ℕ) → first x y → whole x y)
    → Changes before after name first → Changes before after name whole
told_as None None name first whole so one = tt
told_as None (Some after) name first whole so one = one
told_as (Some before) None name first whole so one = one
told_as (Some before) (Some after) name first whole so one = record { changed = so (before name) (after name) one.changed; others = one.others }

-- what holds anyway holds after a refusal
pub on_err : {T E : Type 0} (result : Result T E) {P : Type 0} → P → OnErr result P
on_err (Ok x) p = tt
on_err (Err e) p = p

-- a store that tells its bytes goes on telling them, and one that tells none goes on so
pub tells_on : (before after : Option FileMap) (name : List ℕ) (step : List ℕ → List ℕ → Type 0) → Changes before after name step → IsSome after ↔ IsSome before
tells_on None None name step one = (λ k. k, λ k. k)
tells_on None (Some after) name step one = absurd one
tells_on (Some before) None name step one = absurd one
tells_on (Some before) (Some after) name step one = (λ k. refl, λ k. refl)

-- the same of a call, whatever it answers
pub tells_anyway : {T E : Type 0} (result : Result T E) (before after : Option FileMap) (name : List ℕ) (done cut : List ℕ → List ℕ → Type 0)
    → OnOk result (Changes before after name done) → OnErr result (Changes before after name cut) → IsSome after ↔ IsSome before
tells_anyway (Ok x) before after name done cut ok err = tells_on before after name done ok
tells_anyway (Err e) before after name done cut ok err = tells_on before after name cut err
