-- Commands that bind a handle to a value.
use Rattle.std.proofs.Common.{◌≡◌, inl, inr, arith, ℕ, ◌^◌, refl, ap, sym, subst, ◌∙◌, Option, Some, None}
use Rattle.std.proofs.lemmas.Bool.{lt-leb}
use Rattle.std.proofs.lemmas.Bool.Decides.{leb_tells}
use Rattle.std.specs.Prelude.{◌≤◌, ◌-◌, [], ◌∷◌, ◌↔◌, Result, Ok, Err, IfOk, IsOk, ℤ, pos, negsuc}
use Rattle.std.specs.Option.{unwrap_or}
use Rattle.std.proofs.Math.Facts.{ltb_yes, yes_ltb, leb_yes, yes_leb}
use Rattle.spur_graph.specs.declared.answer.Value.{Value}
use Rattle.spur_graph.specs.declared.answer.Value.TheVariants.{Ref}
use Rattle.spur_graph.specs.declared.answer.Value.TheVariants as values
use Rattle.spur_graph.specs.declared.answer.Answer.{Answer}
use Rattle.spur_graph.specs.declared.answer.Answer.TheVariants as answers
use Rattle.spur_graph.specs.declared.answer.Refusal.{Refusal}
use Rattle.spur_graph.specs.declared.answer.Refusal.TheVariants as r
use Rattle.std.specs.Result.{result_err}
use Rattle.spur_graph.specs.Bytes.{Text}
use Rattle.spur_graph.specs.Value.{IsValue, value_of}
use Rattle.spur_graph.specs.Graph.{Graph, bind}
use Rattle.spur_graph.specs.Form.{Form}
use Rattle.spur_graph.specs.State.{State, bound, with_graph}
use Rattle.spur_graph.specs.Refusals.{first, handles, int_range}
use Rattle.spur_graph.specs.Does.{Is, outcome, ok}
use Rattle.spur_graph.specs.Cells as cells
use Rattle.spur_graph.specs.CellGraph.{read, reference}
use Rattle.spur_graph.specs.Heaps.{View, own_name}
use Rattle.immediates.specs.declared.word_kind.Range.{Range}
use Rattle.spur_heap.specs.Views.{store}
use Rattle.replay.specs.Sessions.{graph_of, value_in, over}
use Rattle.replay.specs.Commands.{ObeysExactly, Becomes, no_word, value_row}

-- the state over a graph
pub state_moved : (old new : View) (s : State) (g : Graph) → Becomes old new g → over new s ≡ with_graph (over old s) g
state_moved old new s g is = λ i. record s { graph = is.0 i; room = is.1 i }

-- a command that binds a handle to a value
pub binds : (old new : View) (k : ℕ) (h : Text) (v w : Value) (form : Form) (result : Result Answer Refusal)
    → ((s : State) → outcome (over old s) k form ≡ Some (ok (bound (over old s) k h w))) → v ≡ w
    → IfOk result (λ answer. (answer ≡ answers.Done) × Becomes old new (bind (graph_of old) k h v)) → IfOk result (λ answer. ObeysExactly old k form answer new)
binds old new k h v w form (Ok answer) says same did = λ s.
    let P : Option (Answer × State) → Type 0 = λ o. Is o answer (over new s) in
    inl (subst P (sym (says s)) (did.0, state_moved old new s (bind (graph_of old) k h w) (did.1.0 ∙ ap (bind (graph_of old) k h) same, did.1.1)))
binds old new k h v w form (Err e) says same did = tt

-- the value of a word that has this one whatever references name
valued : (v : View) (word : ℕ) (x : Value) → ((named : ℕ → Value) → value_of named word ≡ Some x) → value_in v word ≡ x
unfolding read
valued v word x says = ap (λ o. unwrap_or o (Ref (cells.first (store v) 0))) (says (reference own_name (store v)))

-- a command that binds a handle to the word of a value, if it has one
pub binds_value : (old new : View) (k : ℕ) (h : Text) (w : Value) (form : Form) (value : Result ℕ Range) (result : Result Answer Refusal)
    → ((s : State) → outcome (over old s) k form ≡ Some (ok (bound (over old s) k h w)))
    → IfOk value (λ word. (named : ℕ → Value) → value_of named word ≡ Some w) → first (value_row (graph_of old) k h value) ≡ result_err result
    → IfOk result (λ answer. (answer ≡ answers.Done) × IfOk value (λ word. Becomes old new (bind (graph_of old) k h (value_in old word)))) → IfOk result (λ answer. ObeysExactly old k form answer new)
binds_value old new k h w form (Ok word) (Ok answer) says valued_so row did = binds old new k h (value_in old word) w form (Ok answer) says (valued old word w valued_so) did
binds_value old new k h w form (Err e) (Ok answer) says valued_so row did = absurd (never (handles (graph_of old) k h) row)
  where
    never : (o : Option Refusal) → first (o ∷ Some r.Range ∷ []) ≡ None → ⊥
    never None is = cc
    never (Some why) is = cc
binds_value old new k h w form value (Err e) says valued_so row did = tt

pub int_valued : (m n : ℤ) (word : Result ℕ Range) → m ≡ n → IfOk word (λ w. (named : ℕ → Value) → value_of named w ≡ Some (values.Int m)) → IfOk word (λ w. (named : ℕ → Value) → value_of named w ≡ Some (values.Int n))
int_valued m n word same is = let P : ℤ → Type 0 = λ z. IfOk word (λ w. (named : ℕ → Value) → value_of named w ≡ Some (values.Int z)) in subst P same is

-- a SmallInteger's number is in range exactly where it has a word
int_word : (n : ℤ) (word : Result ℕ Range) → (IsOk word ↔ IsValue (values.Int n)) → no_word word ≡ int_range n
int_word (pos n) (Ok word) range = let ok = range.0 refl in rw (lt-leb (2 ^ 60) n (ltb_yes ok.1.lt)) refl
int_word (pos n) (Err e) range = elim (leb_tells (2 ^ 60) n) [ inl (is, le) ↦ rw (is) refl | inr (is, lt) ↦ let wrong = range.1 (record { le = tt }, record { lt = yes_ltb lt }) in cc ]
int_word (negsuc n) (Ok word) range = let ok = range.0 refl in rw (lt-leb (2 ^ 60) n (omega (arith, leb_yes ok.0.le))) refl
int_word (negsuc n) (Err e) range = elim (leb_tells (2 ^ 60) n) [ inl (is, le) ↦ rw (is) refl | inr (is, lt) ↦ let low : n ≤ 2 ^ 60 - 1 = omega (arith, lt) in let wrong = range.1 (record { le = yes_leb low }, record { lt = tt }) in cc ]

pub int_row : (g : Graph) (k : ℕ) (h : Text) (n m : ℤ) (word : Result ℕ Range) (out : Option Refusal) → m ≡ n → (IsOk word ↔ IsValue (values.Int m)) → first (value_row g k h word) ≡ out → first (handles g k h ∷ int_range n ∷ []) ≡ out
int_row g k h n m word out same range is =
    let P : ℤ → Type 0 = λ z. IsOk word ↔ IsValue (values.Int z) in
    ap (λ refusal. first (handles g k h ∷ refusal ∷ [])) (sym (int_word n word (subst P same range))) ∙ is
