-- What the grammar gives is a row of the table of commands.
use Rattle.std.proofs.Common.{◌≡◌, ℕ, List, [], ◌∷◌, Option, Some, None, true, false, cond, refl, sym, subst}
use Rattle.std.specs.Prelude.{codes, option_and_then}
use Rattle.std.specs.Str.{bytes_eq}
use Rattle.std.proofs.lemmas.Option.{same_Some}
use Rattle.std.proofs.lemmas.Slice.Eq.{bytes_eq-Decides}
use Rattle.spur_graph.specs.Bytes.{Text}
use Rattle.spur_graph.specs.Words.{name_in, file_in, number_in, hex_in, signed_in}
use Rattle.spur_graph.specs.Form.{Form, Special, Nil, Yes, No, Int, Char, Float, Copy, Drop, Kind, Class, Size, Hash, Fetch, Store, Unit, SetUnit, Same, New, NewOld, Enter, Become, Forward, Pin, Unpin, ReadOnly, Writable, Scavenge, Gc, Mourn, SegStore, SegLoad, Save, Stat}
use Rattle.spur_graph.specs.Rows.{IsCommand, row_special, row_nil, row_true, row_false, row_int, row_char, row_float, row_copy, row_drop, row_kind, row_class, row_size, row_hash, row_fetch, row_store, row_unit, row_setunit, row_same, row_new, row_newold, row_enter, row_become, row_forward, row_forward_hash, row_pin, row_unpin, row_readonly, row_writable, row_scavenge, row_gc, row_mourn, row_segstore, row_segload, row_save, row_stat}
use Rattle.script_text.specs.Grammar.{command_of, of_no_argument, of_handle, of_one_argument, of_two_handles, of_two_arguments, of_two_handles_and_number, of_two_handles_and_word, of_three_arguments, of_four_arguments}

-- a test of a keyword: either the word is the keyword, or the other branch was taken
branch : (P : Text → Form → Type 0) (w k : Text) (x y : Option Form) (f : Form) → cond (bytes_eq w k) x y ≡ Some f → (x ≡ Some f → P k f) → (y ≡ Some f → P w f) → P w f
branch P w k x y f is here there = elim (bytes_eq w k) as (λ v. bytes_eq w k ≡ v → cond v x y ≡ Some f → P w f) [
  | true ↦ λ e g. let Q : Text → Type 0 = λ v. P v f in subst Q (sym ((bytes_eq-Decides w k).0 e)) (here g)
  | false ↦ λ e g. there g
] refl is

-- what holds of one command holds of an equal one
at : (P : Form → Type 0) (x f : Form) → Some x ≡ Some f → P x → P f
at P x f is p = subst P (same_Some x f is) p

-- a test of a keyword whose command is at hand
rule : (P : Text → Form → Type 0) (w k : Text) (x f : Form) (y : Option Form) → cond (bytes_eq w k) (Some x) y ≡ Some f → P k x → (y ≡ Some f → P w f) → P w f
rule P w k x f y is here there = branch P w k (Some x) y f is (λ e. at (P k) x f e here) there

-- what is bound was there
pub bound : {A B : Type 0} (o : Option A) (g : A → Option B) (y : B) → option_and_then g o ≡ Some y → (x : A) × (o ≡ Some x) × (g x ≡ Some y)
bound None g y is = cc
bound (Some x) g y is = (x, refl, is)

of_no_argument_is : (w : Text) (f : Form) → of_no_argument w ≡ Some f → IsCommand (w ∷ []) f
unfolding of_no_argument
of_no_argument_is w f is = let P : Text → Form → Type 0 = λ w f. IsCommand (w ∷ []) f in
    rule P w (codes "scavenge") (Scavenge) f _ is (row_scavenge) (λ is.
    (rule P w (codes "gc") (Gc) f _ is (row_gc) (λ is.
    (rule P w (codes "stat") (Stat) f _ is (row_stat) (λ is. cc)))))

of_handle_is : (w a h : Text) (f : Form) → name_in a ≡ Some h → of_handle w h ≡ Some f → IsCommand (w ∷ a ∷ []) f
unfolding of_handle
of_handle_is w a h f n is = let P : Text → Form → Type 0 = λ w f. IsCommand (w ∷ a ∷ []) f in
    rule P w (codes "special") (Special h) f _ is (row_special n) (λ is.
    (rule P w (codes "nil") (Nil h) f _ is (row_nil n) (λ is.
    (rule P w (codes "true") (Yes h) f _ is (row_true n) (λ is.
    (rule P w (codes "false") (No h) f _ is (row_false n) (λ is.
    (rule P w (codes "drop") (Drop h) f _ is (row_drop n) (λ is.
    (rule P w (codes "kind") (Kind h) f _ is (row_kind n) (λ is.
    (rule P w (codes "size") (Size h) f _ is (row_size n) (λ is.
    (rule P w (codes "hash") (Hash h) f _ is (row_hash n) (λ is.
    (rule P w (codes "enter") (Enter h) f _ is (row_enter n) (λ is.
    (rule P w (codes "pin") (Pin h) f _ is (row_pin n) (λ is.
    (rule P w (codes "unpin") (Unpin h) f _ is (row_unpin n) (λ is.
    (rule P w (codes "readonly") (ReadOnly h) f _ is (row_readonly n) (λ is.
    (rule P w (codes "writable") (Writable h) f _ is (row_writable n) (λ is.
    (rule P w (codes "mourn") (Mourn h) f _ is (row_mourn n) (λ is. cc)))))))))))))))))))))))))))

of_two_handles_is : (w a b h o : Text) (f : Form) → name_in a ≡ Some h → name_in b ≡ Some o → of_two_handles w h o ≡ Some f → IsCommand (w ∷ a ∷ b ∷ []) f
unfolding of_two_handles
of_two_handles_is w a b h o f n m is = let P : Text → Form → Type 0 = λ w f. IsCommand (w ∷ a ∷ b ∷ []) f in
    rule P w (codes "copy") (Copy h o) f _ is (row_copy n m) (λ is.
    (rule P w (codes "class") (Class h o) f _ is (row_class n m) (λ is.
    (rule P w (codes "same") (Same h o) f _ is (row_same n m) (λ is.
    (rule P w (codes "become") (Become h o) f _ is (row_become n m) (λ is.
    (rule P w (codes "forward") (Forward h o false) f _ is (row_forward n m) (λ is. cc)))))))))

of_two_handles_and_number_is : (w a b c h o : Text) (i : ℕ) (f : Form) → name_in a ≡ Some h → name_in b ≡ Some o → number_in c ≡ Some i → of_two_handles_and_number w h o i ≡ Some f → IsCommand (w ∷ a ∷ b ∷ c ∷ []) f
unfolding of_two_handles_and_number
of_two_handles_and_number_is w a b c h o i f n m k is = let P : Text → Form → Type 0 = λ w f. IsCommand (w ∷ a ∷ b ∷ c ∷ []) f in
    rule P w (codes "fetch") (Fetch h o i) f _ is (row_fetch n m k) (λ is.
    (rule P w (codes "new") (New h o i) f _ is (row_new n m k) (λ is.
    (rule P w (codes "newold") (NewOld h o i) f _ is (row_newold n m k) (λ is. cc)))))

of_one_argument_is : (w a : Text) (f : Form) → of_one_argument w a ≡ Some f → IsCommand (w ∷ a ∷ []) f
unfolding of_one_argument
of_one_argument_is w a f is = let P : Text → Form → Type 0 = λ w f. IsCommand (w ∷ a ∷ []) f in
    branch P w (codes "save") (option_and_then (λ name. Some (Save name)) (file_in a)) _ f is
    (λ is. let r = bound (file_in a) (λ name. Some (Save name)) f is in at (P (codes "save")) (Save r.0) f r.2 (row_save r.1))
    (λ is. let r = bound (name_in a) (λ h. of_handle w h) f is in of_handle_is w a r.0 f r.1 r.2)

of_two_arguments_is : (w a b : Text) (f : Form) → of_two_arguments w a b ≡ Some f → IsCommand (w ∷ a ∷ b ∷ []) f
unfolding of_two_arguments
of_two_arguments_is w a b f is = let P : Text → Form → Type 0 = λ w f. IsCommand (w ∷ a ∷ b ∷ []) f in
    let n = bound (name_in a) _ f is in let h : Text = n.0 in
    branch P w (codes "int") _ _ f n.2
    (λ is. let r = bound (signed_in b) (λ z. Some (Int h z)) f is in at (P (codes "int")) (Int h r.0) f r.2 (row_int n.1 r.1)) (λ is.
    branch P w (codes "char") _ _ f is
    (λ is. let r = bound (number_in b) (λ z. Some (Char h z)) f is in at (P (codes "char")) (Char h r.0) f r.2 (row_char n.1 r.1)) (λ is.
    branch P w (codes "float") _ _ f is
    (λ is. let r = bound (hex_in b) (λ z. Some (Float h z)) f is in at (P (codes "float")) (Float h r.0) f r.2 (row_float n.1 r.1)) (λ is.
    branch P w (codes "unit") _ _ f is
    (λ is. let r = bound (number_in b) (λ z. Some (Unit h z)) f is in at (P (codes "unit")) (Unit h r.0) f r.2 (row_unit n.1 r.1)) (λ is.
    let r = bound (name_in b) (λ o. of_two_handles w h o) f is in of_two_handles_is w a b h r.0 f n.1 r.1 r.2))))

of_two_handles_and_word_is : (w a b c h o : Text) (f : Form) → name_in a ≡ Some h → name_in b ≡ Some o → of_two_handles_and_word w h o c ≡ Some f → IsCommand (w ∷ a ∷ b ∷ c ∷ []) f
unfolding of_two_handles_and_word
of_two_handles_and_word_is w a b c h o f n m is = let P : Text → Form → Type 0 = λ w f. IsCommand (w ∷ a ∷ b ∷ c ∷ []) f in
    let Q : Text → Form → Type 0 = λ c f. IsCommand (codes "forward" ∷ a ∷ b ∷ c ∷ []) f in
    branch P w (codes "segload") _ _ f is
    (λ is. let r = bound (file_in c) (λ z. Some (SegLoad h o z)) f is in at (P (codes "segload")) (SegLoad h o r.0) f r.2 (row_segload n m r.1)) (λ is.
    branch P w (codes "forward") _ _ f is
    (λ is. rule Q c (codes "hash") (Forward h o true) f _ is (row_forward_hash n m) (λ is. cc)) (λ is.
    let r = bound (number_in c) (λ z. of_two_handles_and_number w h o z) f is in of_two_handles_and_number_is w a b c h o r.0 f n m r.1 r.2))

of_three_arguments_is : (w a b c : Text) (f : Form) → of_three_arguments w a b c ≡ Some f → IsCommand (w ∷ a ∷ b ∷ c ∷ []) f
unfolding of_three_arguments
of_three_arguments_is w a b c f is = let P : Text → Form → Type 0 = λ w f. IsCommand (w ∷ a ∷ b ∷ c ∷ []) f in
    let n = bound (name_in a) _ f is in let h : Text = n.0 in
    branch P w (codes "store") _ _ f n.2
    (λ is. let r = bound (number_in b) _ f is in let s = bound (name_in c) (λ v. Some (Store h r.0 v)) f r.2 in at (P (codes "store")) (Store h r.0 s.0) f s.2 (row_store n.1 r.1 s.1)) (λ is.
    branch P w (codes "setunit") _ _ f is
    (λ is. let r = bound (number_in b) _ f is in let s = bound (number_in c) (λ v. Some (SetUnit h r.0 v)) f r.2 in at (P (codes "setunit")) (SetUnit h r.0 s.0) f s.2 (row_setunit n.1 r.1 s.1)) (λ is.
    let r = bound (name_in b) (λ o. of_two_handles_and_word w h o c) f is in of_two_handles_and_word_is w a b c h r.0 f n.1 r.1 r.2))

of_four_arguments_is : (w a b c d : Text) (f : Form) → of_four_arguments w a b c d ≡ Some f → IsCommand (w ∷ a ∷ b ∷ c ∷ d ∷ []) f
unfolding of_four_arguments
of_four_arguments_is w a b c d f is = let P : Text → Form → Type 0 = λ w f. IsCommand (w ∷ a ∷ b ∷ c ∷ d ∷ []) f in
    branch P w (codes "segstore") _ _ f is
    (λ is. let p = bound (name_in a) _ f is in let q = bound (name_in b) _ f p.2 in let r = bound (name_in c) _ f q.2 in let s = bound (file_in d) (λ v. Some (SegStore p.0 q.0 r.0 v)) f r.2 in
    at (P (codes "segstore")) (SegStore p.0 q.0 r.0 s.0) f s.2 (row_segstore p.1 q.1 r.1 s.1)) (λ is. cc)

-- the command that the grammar gives is a row of these words
pub sound : (ws : List Text) (f : Form) → command_of ws ≡ Some f → IsCommand ws f
sound [] f is = cc
sound (w ∷ []) f is = of_no_argument_is w f is
sound (w ∷ a ∷ []) f is = of_one_argument_is w a f is
sound (w ∷ a ∷ b ∷ []) f is = of_two_arguments_is w a b f is
sound (w ∷ a ∷ b ∷ c ∷ []) f is = of_three_arguments_is w a b c f is
sound (w ∷ a ∷ b ∷ c ∷ d ∷ []) f is = of_four_arguments_is w a b c d f is
sound (w ∷ a ∷ b ∷ c ∷ d ∷ e ∷ ws) f is = cc
