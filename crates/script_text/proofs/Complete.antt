-- The grammar gives the command of each row of the table.
use Rattle.std.proofs.Common.{◌≡◌, List, Some, refl}
use Rattle.spur_graph.specs.Bytes.{Text}
use Rattle.spur_graph.specs.Form.{Form}
use Rattle.spur_graph.specs.Rows.{IsCommand, row_special, row_nil, row_true, row_false, row_int, row_char, row_float, row_copy, row_drop, row_kind, row_class, row_size, row_hash, row_fetch, row_store, row_unit, row_setunit, row_same, row_new, row_newold, row_enter, row_become, row_forward, row_forward_hash, row_pin, row_unpin, row_readonly, row_writable, row_scavenge, row_gc, row_mourn, row_segstore, row_segload, row_save, row_stat}
use Rattle.script_text.specs.Grammar.{command_of, of_no_argument, of_handle, of_one_argument, of_two_handles, of_two_arguments, of_two_handles_and_number, of_two_handles_and_word, of_three_arguments, of_four_arguments}

pub complete : (ws : List Text) (f : Form) → IsCommand ws f → command_of ws ≡ Some f
unfolding of_no_argument of_handle of_one_argument of_two_handles of_two_arguments of_two_handles_and_number of_two_handles_and_word of_three_arguments of_four_arguments
complete _ _ (row_special h1) = rw h1 refl
complete _ _ (row_nil h1) = rw h1 refl
complete _ _ (row_true h1) = rw h1 refl
complete _ _ (row_false h1) = rw h1 refl
complete _ _ (row_int h1 h2) = rw (h1, h2) refl
complete _ _ (row_char h1 h2) = rw (h1, h2) refl
complete _ _ (row_float h1 h2) = rw (h1, h2) refl
complete _ _ (row_copy h1 h2) = rw (h1, h2) refl
complete _ _ (row_drop h1) = rw h1 refl
complete _ _ (row_kind h1) = rw h1 refl
complete _ _ (row_class h1 h2) = rw (h1, h2) refl
complete _ _ (row_size h1) = rw h1 refl
complete _ _ (row_hash h1) = rw h1 refl
complete _ _ (row_fetch h1 h2 h3) = rw (h1, h2, h3) refl
complete _ _ (row_store h1 h2 h3) = rw (h1, h2, h3) refl
complete _ _ (row_unit h1 h2) = rw (h1, h2) refl
complete _ _ (row_setunit h1 h2 h3) = rw (h1, h2, h3) refl
complete _ _ (row_same h1 h2) = rw (h1, h2) refl
complete _ _ (row_new h1 h2 h3) = rw (h1, h2, h3) refl
complete _ _ (row_newold h1 h2 h3) = rw (h1, h2, h3) refl
complete _ _ (row_enter h1) = rw h1 refl
complete _ _ (row_become h1 h2) = rw (h1, h2) refl
complete _ _ (row_forward h1 h2) = rw (h1, h2) refl
complete _ _ (row_forward_hash h1 h2) = rw (h1, h2) refl
complete _ _ (row_pin h1) = rw h1 refl
complete _ _ (row_unpin h1) = rw h1 refl
complete _ _ (row_readonly h1) = rw h1 refl
complete _ _ (row_writable h1) = rw h1 refl
complete _ _ row_scavenge = refl
complete _ _ row_gc = refl
complete _ _ (row_mourn h1) = rw h1 refl
complete _ _ (row_segstore h1 h2 h3 h4) = rw (h1, h2, h3, h4) refl
complete _ _ (row_segload h1 h2 h3) = rw (h1, h2, h3) refl
complete _ _ (row_save h1) = rw h1 refl
complete _ _ row_stat = refl
