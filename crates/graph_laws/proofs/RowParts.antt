-- Rows of refusals that agree in front have one first refusal: what is asked of handles in states that differ in names alone.
use Rattle.std.proofs.Common.{◌≡◌, ℕ, Bool, true, false, ◌&&◌, ◌||◌, nat_le, List, [], ◌∷◌, refl, sym, ap, ◌∙◌, Some, None, Option}
use Rattle.std.proofs.lemmas.Bool.{or_parts}
use Rattle.std.proofs.lemmas.Option.{none-some}
use Rattle.std.specs.Option.{is_none}
use Rattle.std.specs.List.{AllByRecursion, list_any}
use Rattle.spur_graph.specs.declared.answer.Refusal.{Refusal}
use Rattle.spur_graph.specs.declared.answer.Refusal.TheVariants as r
use Rattle.spur_graph.specs.Value.{is_immediate}
use Rattle.spur_graph.specs.Graph.{Graph, held}
use Rattle.spur_graph.specs.Names.{Iso, rename, rename_node}
use Rattle.spur_graph.specs.Bytes.{Text}
use Rattle.spur_graph.specs.State.{value_at, node_of_handle}
use Rattle.spur_graph.specs.Refusals.{Row, first, test, unknown, handles, immediate, most_handles}
use Rattle.spur_graph.specs.Refused.{binds}
use Rattle.spur_graph.proofs.HandleMaps.{as_many_handles}
use Rattle.graph_laws.proofs.Values.{immediate-renamed, value_at-renamed, node_of_handle-renamed, none-mapped}

-- tests that agree are passed by some element of the same lists
pub any-agree : {X : Type 0} (f g : X → Bool) → ((x : X) → f x ≡ g x) → (xs : List X) → list_any f xs ≡ list_any g xs
any-agree f g same [] = refl
any-agree f g same (x ∷ xs) = λ i. same x i || any-agree f g same xs i

-- rows have one first refusal where the refusals in front agree, and where there is none what is behind them
pub behind : (x y : Option Refusal) (xs ys : Row) → x ≡ y → (y ≡ None → first xs ≡ first ys) → first (x ∷ xs) ≡ first (y ∷ ys)
behind x y xs ys e rest = ap (λ z. first (z ∷ xs)) e ∙ by y rest
  where
    by : (z : Option Refusal) → (z ≡ None → first xs ≡ first ys) → first (z ∷ xs) ≡ first (z ∷ ys)
    by None same = same refl
    by (Some why) same = refl

-- a row without a first refusal has none at all
pub none_in_row : (row : Row) → first row ≡ None → AllByRecursion (λ x. x ≡ None) row
none_in_row [] e = tt
none_in_row (None ∷ row) e = (refl, none_in_row row e)
none_in_row (Some why ∷ row) e = absurd (none-some why (sym e))

-- a value that is not refused as an immediate is none
pub no_immediate : (b : Bool) → test (b || false) r.Immediate ≡ None → b ≡ false
no_immediate true e = absurd (none-some r.Immediate (sym e))
no_immediate false e = refl

-- a condition that does not refuse does not hold
pub untested : (b : Bool) (why : Refusal) → test b why ≡ None → b ≡ false
untested true why e = absurd (none-some why (sym e))
untested false why e = refl

-- handles that are not refused as immediates are none
pub no_immediates : (g : Graph) (m : ℕ) (names : List Text) → immediate g m names ≡ None → AllByRecursion (λ h. is_immediate (value_at g m h) ≡ false) names
no_immediates g m [] e = tt
no_immediates g m (h ∷ names) e =
    let parts = or_parts (is_immediate (value_at g m h)) (list_any (λ x. is_immediate (value_at g m x)) names) (untested _ r.Immediate e) in
    (parts.0, no_immediates g m names (ap (λ b. test b r.Immediate) parts.1))

module _ {G H : Graph} {p back : ℕ → ℕ} (k : Iso G H p back) (m : ℕ) where
  free-renamed : (h : Text) → is_none (held H m h) ≡ is_none (held G m h)
  free-renamed h = ap is_none (k.handles (m, h)) ∙ none-mapped (rename p) (held G m h)

  unknown-renamed : (names : List Text) → unknown H m names ≡ unknown G m names
  unknown-renamed names = ap (λ b. test b r.Unknown) (any-agree (λ h. is_none (held H m h)) (λ h. is_none (held G m h)) free-renamed names)

  handles-renamed : (h : Text) → handles H m h ≡ handles G m h
  handles-renamed h = λ i. test (free-renamed h i && nat_le most_handles (as_many_handles (rename p) G.handles H.handles k.handles i)) r.Handles

  immediates-renamed : (names : List Text) → immediate H m names ≡ immediate G m names
  immediates-renamed names = ap (λ b. test b r.Immediate) (any-agree (λ h. is_immediate (value_at H m h)) (λ h. is_immediate (value_at G m h)) same names)
    where
      same : (h : Text) → is_immediate (value_at H m h) ≡ is_immediate (value_at G m h)
      same h = ap is_immediate (value_at-renamed k m h) ∙ immediate-renamed p (value_at G m h)

  -- behind the refusal of immediates the nodes correspond
  pub object : (o : Text) (xs ys : Row) → (node_of_handle H m o ≡ rename_node p (node_of_handle G m o) → first xs ≡ first ys) → first (immediate H m (o ∷ []) ∷ xs) ≡ first (immediate G m (o ∷ []) ∷ ys)
  object o xs ys rest = behind _ _ xs ys (immediates-renamed (o ∷ [])) (λ e. rest (node_of_handle-renamed k m o (no_immediate _ e)))

  -- the same, where the handle's name is asked for
  pub bare_object : (o : Text) (xs ys : Row) → (is_immediate (value_at G m o) ≡ false → first xs ≡ first ys) → first (immediate H m (o ∷ []) ∷ xs) ≡ first (immediate G m (o ∷ []) ∷ ys)
  bare_object o xs ys rest = behind _ _ xs ys (immediates-renamed (o ∷ [])) (λ e. rest (no_immediate _ e))

  -- the same of several handles
  pub bare_objects : (names : List Text) (xs ys : Row) → (AllByRecursion (λ h. is_immediate (value_at G m h) ≡ false) names → first xs ≡ first ys)
      → first (immediate H m names ∷ xs) ≡ first (immediate G m names ∷ ys)
  bare_objects names xs ys rest = behind _ _ xs ys (immediates-renamed names) (λ e. rest (no_immediates G m names e))

  -- behind the refusal of unknown handles, and of a handle too many
  pub known : (names : List Text) (xs ys : Row) → first xs ≡ first ys → first (unknown H m names ∷ xs) ≡ first (unknown G m names ∷ ys)
  known names xs ys rest = behind _ _ xs ys (unknown-renamed names) (λ _. rest)

  pub bindable : (h : Text) (names : List Text) (xs ys : Row) → first xs ≡ first ys → first (binds H m h names xs) ≡ first (binds G m h names ys)
  bindable h names xs ys rest = known names _ _ (behind _ _ xs ys (handles-renamed h) (λ _. rest))
