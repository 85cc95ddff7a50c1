-- Lines with and without the mark of a mutator: the grammar gives what their rules say, and no line has two readings.
use Rattle.std.proofs.Common.{◌≡◌, ◌≢◌, ◌≤◌, ℕ, List, [], ◌∷◌, length, Some, None, true, false, cond, refl, sym, ap, ◌∙◌, subst, inl, inr, arith}
use Rattle.std.specs.Prelude.{◌==◌, option_and_then, slice_index}
use Rattle.std.proofs.lemmas.Bool.{cases_eq, eqb-true, eq-eqb, ne_eqb, false≢true}
use Rattle.spur_graph.specs.Bytes.{Text}
use Rattle.spur_graph.specs.Words.{mutator_in, words_of, onto_first}
use Rattle.spur_graph.specs.Form.{Form}
use Rattle.spur_graph.specs.Rows.{IsLine, plain, marked, IsCommand, row_special, row_nil, row_true, row_false, row_int, row_char, row_float, row_copy, row_drop, row_kind, row_class, row_size, row_hash, row_fetch, row_store, row_unit, row_setunit, row_same, row_new, row_newold, row_enter, row_become, row_forward, row_forward_hash, row_pin, row_unpin, row_readonly, row_writable, row_scavenge, row_gc, row_mourn, row_segstore, row_segload, row_save, row_stat}
use Rattle.script_text.specs.Grammar.{command_of, line_of, of_mutator}
use Rattle.script_text.proofs.Cuts.{some_word, other_byte}
use Rattle.script_text.proofs.Complete.{complete}
use Rattle.script_text.proofs.Sound.{sound, bound}

-- the first byte of a line
abbrev first : List Text → ℕ
first [] = 0
first (w ∷ ws) = slice_index w 0

-- a line that begins with a space has an empty first word
first_space : (bytes : Text) → slice_index bytes 0 ≡ 32 → first (words_of bytes) ≡ 0
unfolding words_of
first_space [] is = refl
first_space (b ∷ bs) is = ap (λ v. first (cond v ([] ∷ words_of bs) (onto_first b (words_of bs)))) (ap (λ x. x == 32) is)

-- every other line begins as its first word
first_other : (bytes : Text) → slice_index bytes 0 ≢ 32 → first (words_of bytes) ≡ slice_index bytes 0
unfolding words_of
first_other [] not = refl
first_other (b ∷ bs) not =
    let more = some_word bs in
    ap (λ v. first (cond v ([] ∷ words_of bs) (onto_first b (words_of bs)))) (other_byte b not) ∙ ap (λ ws. first (onto_first b ws)) more.2

-- a line that does not begin with a mark is a command
pub plain_line : (bytes : Text) → (slice_index bytes 0 == 64) ≡ false → line_of (words_of bytes) ≡ of_mutator 0 (words_of bytes)
plain_line bytes off =
    let more = some_word bytes in
    let other : first (words_of bytes) ≢ 64 = λ at. elim (cases_eq (slice_index bytes 0) 32) [
      | inl space ↦ absurd (omega (arith, at, first_space bytes space))
      | inr some ↦ absurd (false≢true (sym off ∙ eq-eqb (slice_index bytes 0) 64 (sym (first_other bytes some) ∙ at)))
    ] in
    let test : (slice_index more.0 0 == 64) ≡ false = ne_eqb (slice_index more.0 0) 64 (λ at. other (ap first more.2 ∙ at)) in
    ap line_of more.2 ∙ ap (λ v. cond v (option_and_then (λ k. of_mutator k more.1) (mutator_in more.0)) (of_mutator 0 (more.0 ∷ more.1))) test ∙ ap (of_mutator 0) (sym more.2)

-- a line that begins with a mark has it as its first word
pub mark_begins : (bytes mark : Text) (ws : List Text) → words_of bytes ≡ mark ∷ ws → (slice_index bytes 0 == 64) ≡ true → slice_index mark 0 ≡ 64
mark_begins bytes mark ws is on =
    let at = eqb-true (slice_index bytes 0) 64 on in
    sym (ap first is) ∙ first_other bytes (λ space. omega (arith, at, space)) ∙ at

some_byte : (mark : Text) → slice_index mark 0 ≡ 64 → 1 ≤ length mark
some_byte [] at = absurd (omega (arith, at))
some_byte (b ∷ bs) at = omega arith

pub some_mark : (bytes mark : Text) (ws : List Text) → words_of bytes ≡ mark ∷ ws → (slice_index bytes 0 == 64) ≡ true → 1 ≤ length mark
some_mark bytes mark ws is on = some_byte mark (mark_begins bytes mark ws is on)

-- its command is that of the words behind the mark
pub marked_line : (bytes mark : Text) (ws : List Text) → words_of bytes ≡ mark ∷ ws → (slice_index bytes 0 == 64) ≡ true → line_of (words_of bytes) ≡ option_and_then (λ k. of_mutator k ws) (mutator_in mark)
marked_line bytes mark ws is on =
    ap line_of is ∙ ap (λ v. cond v (option_and_then (λ k. of_mutator k ws) (mutator_in mark)) (of_mutator 0 (mark ∷ ws))) (eq-eqb (slice_index mark 0) 64 (mark_begins bytes mark ws is on))

-- no keyword begins with `@`
unmarked : (ws : List Text) (f : Form) → IsCommand ws f → (first ws == 64) ≡ false
unmarked _ _ (row_special h1) = refl
unmarked _ _ (row_nil h1) = refl
unmarked _ _ (row_true h1) = refl
unmarked _ _ (row_false h1) = refl
unmarked _ _ (row_int h1 h2) = refl
unmarked _ _ (row_char h1 h2) = refl
unmarked _ _ (row_float h1 h2) = refl
unmarked _ _ (row_copy h1 h2) = refl
unmarked _ _ (row_drop h1) = refl
unmarked _ _ (row_kind h1) = refl
unmarked _ _ (row_class h1 h2) = refl
unmarked _ _ (row_size h1) = refl
unmarked _ _ (row_hash h1) = refl
unmarked _ _ (row_fetch h1 h2 h3) = refl
unmarked _ _ (row_store h1 h2 h3) = refl
unmarked _ _ (row_unit h1 h2) = refl
unmarked _ _ (row_setunit h1 h2 h3) = refl
unmarked _ _ (row_same h1 h2) = refl
unmarked _ _ (row_new h1 h2 h3) = refl
unmarked _ _ (row_newold h1 h2 h3) = refl
unmarked _ _ (row_enter h1) = refl
unmarked _ _ (row_become h1 h2) = refl
unmarked _ _ (row_forward h1 h2) = refl
unmarked _ _ (row_forward_hash h1 h2) = refl
unmarked _ _ (row_pin h1) = refl
unmarked _ _ (row_unpin h1) = refl
unmarked _ _ (row_readonly h1) = refl
unmarked _ _ (row_writable h1) = refl
unmarked _ _ row_scavenge = refl
unmarked _ _ row_gc = refl
unmarked _ _ (row_mourn h1) = refl
unmarked _ _ (row_segstore h1 h2 h3 h4) = refl
unmarked _ _ (row_segload h1 h2 h3) = refl
unmarked _ _ (row_save h1) = refl
unmarked _ _ row_stat = refl

-- the grammar gives each line of the rules
pub complete_line : (ws : List Text) (k : ℕ) (f : Form) → IsLine ws k f → line_of ws ≡ Some (k, f)
complete_line [] _ f (plain is) = let none = complete [] f is in cc
complete_line (w ∷ ws) _ f (plain is) = let no = unmarked (w ∷ ws) f is in let yes_it = complete (w ∷ ws) f is in rw (no, yes_it) refl
complete_line (w ∷ ws) k f (marked at m is) = let test : (slice_index w 0 == 64) ≡ true = ap (λ b. b == 64) at in let yes_it = complete ws f is in rw (test, m, yes_it) refl

one_value : (p q : ℕ × Form) → Some p ≡ Some q → p ≡ q
one_value p q is = cc

pair_same : (p q : ℕ × Form) → Some p ≡ Some q → (p.0 ≡ q.0) × (p.1 ≡ q.1)
pair_same p q is = let e = one_value p q is in ((λ i. (e i).0), (λ i. (e i).1))

at_is : (ws : List Text) (j k : ℕ) (f : Form) → of_mutator j ws ≡ Some (k, f) → (j ≡ k) × IsCommand ws f
at_is ws j k f is =
    let here : ℕ × Form = (k, f) in
    let c = bound (command_of ws) _ here is in
    let same = pair_same (j, c.0) (k, f) c.2 in
    let Q : Form → Type 0 = λ f. IsCommand ws f in
    (same.0, subst Q same.1 (sound ws c.0 c.1))

-- what the grammar gives is a line of the rules
pub sound_line : (ws : List Text) (k : ℕ) (f : Form) → line_of ws ≡ Some (k, f) → IsLine ws k f
sound_line [] k f is = cc
sound_line (w ∷ ws) k f is = elim (slice_index w 0 == 64) as (λ v. (slice_index w 0 == 64) ≡ v
    → cond v (option_and_then (λ j. of_mutator j ws) (mutator_in w)) (of_mutator 0 (w ∷ ws)) ≡ Some (k, f) → IsLine (w ∷ ws) k f) [
      | true ↦ λ e is.
          let here : ℕ × Form = (k, f) in
          let m = bound (mutator_in w) (λ j. of_mutator j ws) here is in
          let c = at_is ws m.0 k f m.2 in
          let P : ℕ → Type 0 = λ k. IsLine (w ∷ ws) k f in
          subst P c.0 (marked (eqb-true (slice_index w 0) 64 e) m.1 c.1)
      | false ↦ λ e is.
          let c = at_is (w ∷ ws) 0 k f is in
          let P : ℕ → Type 0 = λ k. IsLine (w ∷ ws) k f in
          subst P c.0 (plain c.1)
    ] refl is

-- two readings of a line are one
same_lines : (ws : List Text) (j k : ℕ) (f g : Form) → IsLine ws j f → IsLine ws k g → (j ≡ k) × (f ≡ g)
same_lines ws j k f g one other =
    let first : ℕ × Form = (j, f) in
    let second : ℕ × Form = (k, g) in
    pair_same first second (sym (complete_line ws j f one) ∙ complete_line ws k g other)

-- two readings of a line are of one mutator
pub one_mutator : (ws : List Text) (j k : ℕ) (f g : Form) → IsLine ws j f → IsLine ws k g → j ≡ k
one_mutator ws j k f g one other = (same_lines ws j k f g one other).0

-- two readings of a line are one command
pub one_form : (ws : List Text) (j k : ℕ) (f g : Form) → IsLine ws j f → IsLine ws k g → f ≡ g
one_form ws j k f g one other = (same_lines ws j k f g one other).1

-- a line that the grammar does not give is none
pub no_mark : (ws : List Text) → line_of ws ≡ None → (j : ℕ) (f : Form) → IsLine ws j f → ⊥
no_mark ws none j f line = let given = complete_line ws j f line in cc

-- the command behind the mark of a line is that of the line
pub read_as : (ws cs : List Text) (k : ℕ) (f : Form) → line_of ws ≡ of_mutator k cs → command_of cs ≡ Some f → IsLine ws k f
read_as ws cs k f is command = sound_line ws k f (is ∙ rw command refl)

-- a line without one is no line
pub no_command : (ws cs : List Text) (k : ℕ) → line_of ws ≡ of_mutator k cs → command_of cs ≡ None → (j : ℕ) (f : Form) → IsLine ws j f → ⊥
no_command ws cs k is none j f line = let gives : line_of ws ≡ None = is ∙ rw none refl in no_mark ws gives j f line
