-- The value of a word.
use Rattle.std.proofs.Common.{◌≡◌, ◌≢◌, ℕ, Bool, true, false, cond, ◌&&◌, ◌||◌, ◌-◌, ◌/◌, ◌%◌, ◌^◌, ◌<◌, T, eqb, ltb, refl, sym, ap, ◌∙◌, subst, arith, inl, inr, Some, None, Option}
use Rattle.std.specs.Prelude.{pos, negsuc}
use Rattle.std.specs.Int.Signed.{le_z_yes, lt_z_yes}
use Rattle.std.proofs.lemmas.Bool.{false≢true, cases_lt, eqb-true, ltb-true, lt-ltb, le-ltb, le-leb, ne_eqb, and_parts, or_cases, or_parts}
use Rattle.std.specs.Option.{unwrap_or}
use Rattle.spur_graph.specs.declared.answer.Value.{Value}
use Rattle.spur_graph.specs.declared.answer.Value.TheVariants.{Int, Char, Float, Ref}
use Rattle.spur_graph.specs.Value.{value_of, int_of, is_immediate_word, IsValue}
use Rattle.spur_graph.specs.Names.{rename}
use Rattle.spur_graph.specs.Cells.{Store, first, lead}
use Rattle.spur_graph.specs.Ordinary.{is_good_reference}
use Rattle.spur_graph.specs.CellGraph.{reference, read}

-- the value of a word with this tag
abbrev at_tag : ℕ → (ℕ → Value) → ℕ → Option Value
at_tag n named word =
    cond (eqb n 0) (Some (named word)) (cond (eqb n 1) (Some (Int (int_of word))) (cond (eqb n 2) (cond (ltb (word / 8) (2 ^ 30)) (Some (Char (word / 8))) None) (cond (eqb n 4) (Some (Float word)) None)))

-- the value of an immediate, which has no name in it
pub record IsFixed (w : ℕ) : Type 0 where
  pub value : Value
  pub is : (f : ℕ → Value) → value_of f w ≡ Some value
  pub same : (p : ℕ → ℕ) → rename p value ≡ value
  pub range : w < 2 ^ 64 → IsValue value

-- the number of a SmallInteger is in its range
int-range : (w : ℕ) → w < 2 ^ 64 → IsValue (Int (int_of w))
int-range w l = elim (cases_lt w (2 ^ 63)) [
  | inl low ↦
      subst (λ n. IsValue (Int n)) (sym (ap (λ b. cond b (pos (w / 8)) (negsuc ((2 ^ 64 - 1 - w) / 8))) (lt-ltb w (2 ^ 63) low))) (le_z_yes tt, lt_z_yes (subst T (sym (lt-ltb (w / 8) (2 ^ 60) (omega (arith, low)))) tt))
  | inr high ↦
      subst (λ n. IsValue (Int n)) (sym (ap (λ b. cond b (pos (w / 8)) (negsuc ((2 ^ 64 - 1 - w) / 8))) (le-ltb w (2 ^ 63) high)))
      (le_z_yes (subst T (sym (le-leb ((2 ^ 64 - 1 - w) / 8) (2 ^ 60 - 1) (omega (arith, high, l)))) tt), lt_z_yes tt)
]

pub fixed : (w : ℕ) → is_immediate_word w ≡ true → IsFixed w
fixed w e = elim (or_cases ((eqb (w % 8) 1) || (eqb (w % 8) 2 && ltb (w / 8) (2 ^ 30))) (eqb (w % 8) 4) e) [
  | inl a ↦ elim (or_cases (eqb (w % 8) 1) (eqb (w % 8) 2 && ltb (w / 8) (2 ^ 30)) a) [
    | inl b ↦ record { value = Int (int_of w); is = λ f. ap (λ n. at_tag n f w) (eqb-true (w % 8) 1 b); same = λ p. refl; range = int-range w }
    | inr b ↦
        let both = and_parts (eqb (w % 8) 2) (ltb (w / 8) (2 ^ 30)) b in
        record { value = Char (w / 8); is = λ f. ap (λ n. at_tag n f w) (eqb-true (w % 8) 2 both.0) ∙ ap (λ t. cond t (Some (Char (w / 8))) None) both.1; same = λ p. refl; range = λ l. ltb-true (w / 8) (2 ^ 30) both.1 }
  ]
  | inr a ↦ record { value = Float w; is = λ f. ap (λ n. at_tag n f w) (eqb-true (w % 8) 4 a); same = λ p. refl; range = λ l. (l, eqb-true (w % 8) 4 a) }
]

neither : {A : Type 0} (b c : Bool) (x : A) → (b && c) ≡ false → cond b (cond c (Some x) None) None ≡ None
neither true true x e = absurd (false≢true (sym e))
neither true false x e = refl
neither false c x e = refl

-- a word of another tag has none
no_value : (f : ℕ → Value) (w : ℕ) → w % 8 ≢ 0 → is_immediate_word w ≡ false → value_of f w ≡ None
no_value f w n off =
    let all = or_parts ((eqb (w % 8) 1) || (eqb (w % 8) 2 && ltb (w / 8) (2 ^ 30))) (eqb (w % 8) 4) off in
    let front = or_parts (eqb (w % 8) 1) (eqb (w % 8) 2 && ltb (w / 8) (2 ^ 30)) all.0 in
    ap (λ b. cond b (Some (f w)) (cond (eqb (w % 8) 1) (Some (Int (int_of w))) (cond (eqb (w % 8) 2) (cond (ltb (w / 8) (2 ^ 30)) (Some (Char (w / 8))) None) (cond (eqb (w % 8) 4) (Some (Float w)) None)))) (ne_eqb (w % 8) 0 n)
    ∙ ap (λ b. cond b (Some (Int (int_of w))) (cond (eqb (w % 8) 2) (cond (ltb (w / 8) (2 ^ 30)) (Some (Char (w / 8))) None) (cond (eqb (w % 8) 4) (Some (Float w)) None))) front.0
    ∙ ap (λ b. cond (eqb (w % 8) 2) (cond (ltb (w / 8) (2 ^ 30)) (Some (Char (w / 8))) None) (cond b (Some (Float w)) None)) all.1
    ∙ neither (eqb (w % 8) 2) (ltb (w / 8) (2 ^ 30)) (Char (w / 8)) front.1

pub read-reference : (name : ℕ → ℕ) (h : Store) (w : ℕ) → w % 8 ≡ 0 → read name h w ≡ reference name h w
unfolding read
read-reference name h w e = ap (λ n. unwrap_or (at_tag n (reference name h) w) (Ref (name (first h 0)))) e

pub read-none : (name : ℕ → ℕ) (h : Store) (w : ℕ) → w % 8 ≢ 0 → is_immediate_word w ≡ false → read name h w ≡ Ref (name (first h 0))
unfolding read
read-none name h w n off = ap (λ o. unwrap_or o (Ref (name (first h 0)))) (no_value (reference name h) w n off)

pub read-fixed : (name : ℕ → ℕ) (h : Store) (w : ℕ) (v : IsFixed w) → read name h w ≡ v.value
unfolding read
read-fixed name h w v = ap (λ o. unwrap_or o (Ref (name (first h 0)))) (v.is (reference name h))

pub read-integer : (name : ℕ → ℕ) (h : Store) (w : ℕ) → w % 8 ≡ 1 → read name h w ≡ Int (int_of w)
unfolding read
read-integer name h w e = ap (λ n. unwrap_or (at_tag n (reference name h) w) (Ref (name (first h 0)))) e

pub reference-good : (name : ℕ → ℕ) (h : Store) (w s : ℕ) → is_good_reference h w ≡ true → lead h w ≡ Some s → reference name h w ≡ Ref (name s)
reference-good name h w s good is = ap (λ b. cond b (Ref (name (unwrap_or (lead h w) (first h 0)))) (Ref (name (first h 0)))) good ∙ ap (λ o. Ref (name (unwrap_or o (first h 0)))) is

pub reference-bad : (name : ℕ → ℕ) (h : Store) (w : ℕ) → is_good_reference h w ≡ false → reference name h w ≡ Ref (name (first h 0))
reference-bad name h w bad = ap (λ b. cond b (Ref (name (unwrap_or (lead h w) (first h 0)))) (Ref (name (first h 0)))) bad
