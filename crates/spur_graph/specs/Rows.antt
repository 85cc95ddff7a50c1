-- The grammar of commands: which words are which command, one rule a row.
use Rattle.std.specs.Prelude.{◌≡◌, ℕ, ℤ, List, [], ◌∷◌, true, false, Some, codes, slice_index}
use Rattle.spur_graph.specs.Bytes.{Text}
use Rattle.spur_graph.specs.Words.{name_in, file_in, number_in, hex_in, signed_in, mutator_in}
use Rattle.spur_graph.specs.Form.{Form, Special, Nil, Yes, No, Int, Char, Float, Copy, Drop, Kind, Class, Size, Hash, Fetch, Store, Unit, SetUnit, Same, New, NewOld, Enter, Become, Forward, Pin, Unpin, ReadOnly, Writable, Scavenge, Gc, Mourn, SegStore, SegLoad, Save, Stat}

-- these words are this command
pub data IsCommand : List Text → Form → Type 0 where
  row_special : {h_text : Text} {h : Text} → name_in h_text ≡ Some h → IsCommand (codes "special" ∷ h_text ∷ []) (Special h)
  row_nil : {h_text : Text} {h : Text} → name_in h_text ≡ Some h → IsCommand (codes "nil" ∷ h_text ∷ []) (Nil h)
  row_true : {h_text : Text} {h : Text} → name_in h_text ≡ Some h → IsCommand (codes "true" ∷ h_text ∷ []) (Yes h)
  row_false : {h_text : Text} {h : Text} → name_in h_text ≡ Some h → IsCommand (codes "false" ∷ h_text ∷ []) (No h)
  row_int : {h_text n_text : Text} {h : Text} {n : ℤ} → name_in h_text ≡ Some h → signed_in n_text ≡ Some n → IsCommand (codes "int" ∷ h_text ∷ n_text ∷ []) (Int h n)
  row_char : {h_text n_text : Text} {h : Text} {n : ℕ} → name_in h_text ≡ Some h → number_in n_text ≡ Some n → IsCommand (codes "char" ∷ h_text ∷ n_text ∷ []) (Char h n)
  row_float : {h_text word_text : Text} {h : Text} {word : ℕ} → name_in h_text ≡ Some h → hex_in word_text ≡ Some word → IsCommand (codes "float" ∷ h_text ∷ word_text ∷ []) (Float h word)
  row_copy : {h_text o_text : Text} {h o : Text} → name_in h_text ≡ Some h → name_in o_text ≡ Some o → IsCommand (codes "copy" ∷ h_text ∷ o_text ∷ []) (Copy h o)
  row_drop : {h_text : Text} {h : Text} → name_in h_text ≡ Some h → IsCommand (codes "drop" ∷ h_text ∷ []) (Drop h)
  row_kind : {o_text : Text} {o : Text} → name_in o_text ≡ Some o → IsCommand (codes "kind" ∷ o_text ∷ []) (Kind o)
  row_class : {h_text o_text : Text} {h o : Text} → name_in h_text ≡ Some h → name_in o_text ≡ Some o → IsCommand (codes "class" ∷ h_text ∷ o_text ∷ []) (Class h o)
  row_size : {o_text : Text} {o : Text} → name_in o_text ≡ Some o → IsCommand (codes "size" ∷ o_text ∷ []) (Size o)
  row_hash : {o_text : Text} {o : Text} → name_in o_text ≡ Some o → IsCommand (codes "hash" ∷ o_text ∷ []) (Hash o)
  row_fetch : {h_text o_text i_text : Text} {h o : Text} {i : ℕ} → name_in h_text ≡ Some h → name_in o_text ≡ Some o → number_in i_text ≡ Some i → IsCommand (codes "fetch" ∷ h_text ∷ o_text ∷ i_text ∷ []) (Fetch h o i)
  row_store : {o_text i_text v_text : Text} {o : Text} {i : ℕ} {v : Text} → name_in o_text ≡ Some o → number_in i_text ≡ Some i → name_in v_text ≡ Some v → IsCommand (codes "store" ∷ o_text ∷ i_text ∷ v_text ∷ []) (Store o i v)
  row_unit : {o_text i_text : Text} {o : Text} {i : ℕ} → name_in o_text ≡ Some o → number_in i_text ≡ Some i → IsCommand (codes "unit" ∷ o_text ∷ i_text ∷ []) (Unit o i)
  row_setunit : {o_text i_text n_text : Text} {o : Text} {i n : ℕ} → name_in o_text ≡ Some o → number_in i_text ≡ Some i → number_in n_text ≡ Some n → IsCommand (codes "setunit" ∷ o_text ∷ i_text ∷ n_text ∷ []) (SetUnit o i n)
  row_same : {a_text b_text : Text} {a b : Text} → name_in a_text ≡ Some a → name_in b_text ≡ Some b → IsCommand (codes "same" ∷ a_text ∷ b_text ∷ []) (Same a b)
  row_new : {h_text c_text n_text : Text} {h c : Text} {n : ℕ} → name_in h_text ≡ Some h → name_in c_text ≡ Some c → number_in n_text ≡ Some n → IsCommand (codes "new" ∷ h_text ∷ c_text ∷ n_text ∷ []) (New h c n)
  row_newold : {h_text c_text n_text : Text} {h c : Text} {n : ℕ} → name_in h_text ≡ Some h → name_in c_text ≡ Some c → number_in n_text ≡ Some n → IsCommand (codes "newold" ∷ h_text ∷ c_text ∷ n_text ∷ []) (NewOld h c n)
  row_enter : {c_text : Text} {c : Text} → name_in c_text ≡ Some c → IsCommand (codes "enter" ∷ c_text ∷ []) (Enter c)
  row_become : {a_text b_text : Text} {a b : Text} → name_in a_text ≡ Some a → name_in b_text ≡ Some b → IsCommand (codes "become" ∷ a_text ∷ b_text ∷ []) (Become a b)
  row_forward : {a_text b_text : Text} {a b : Text} → name_in a_text ≡ Some a → name_in b_text ≡ Some b → IsCommand (codes "forward" ∷ a_text ∷ b_text ∷ []) (Forward a b false)
  row_forward_hash : {a_text b_text : Text} {a b : Text} → name_in a_text ≡ Some a → name_in b_text ≡ Some b → IsCommand (codes "forward" ∷ a_text ∷ b_text ∷ codes "hash" ∷ []) (Forward a b true)
  row_pin : {o_text : Text} {o : Text} → name_in o_text ≡ Some o → IsCommand (codes "pin" ∷ o_text ∷ []) (Pin o)
  row_unpin : {o_text : Text} {o : Text} → name_in o_text ≡ Some o → IsCommand (codes "unpin" ∷ o_text ∷ []) (Unpin o)
  row_readonly : {o_text : Text} {o : Text} → name_in o_text ≡ Some o → IsCommand (codes "readonly" ∷ o_text ∷ []) (ReadOnly o)
  row_writable : {o_text : Text} {o : Text} → name_in o_text ≡ Some o → IsCommand (codes "writable" ∷ o_text ∷ []) (Writable o)
  row_scavenge : IsCommand (codes "scavenge" ∷ []) Scavenge
  row_gc : IsCommand (codes "gc" ∷ []) Gc
  row_mourn : {h_text : Text} {h : Text} → name_in h_text ≡ Some h → IsCommand (codes "mourn" ∷ h_text ∷ []) (Mourn h)
  row_segstore : {h_text o_text c_text name_text : Text} {h o c name : Text} → name_in h_text ≡ Some h → name_in o_text ≡ Some o → name_in c_text ≡ Some c → file_in name_text ≡ Some name → IsCommand (codes "segstore" ∷ h_text ∷ o_text ∷ c_text ∷ name_text ∷ []) (SegStore h o c name)
  row_segload : {h_text a_text name_text : Text} {h a name : Text} → name_in h_text ≡ Some h → name_in a_text ≡ Some a → file_in name_text ≡ Some name → IsCommand (codes "segload" ∷ h_text ∷ a_text ∷ name_text ∷ []) (SegLoad h a name)
  row_save : {name_text : Text} {name : Text} → file_in name_text ≡ Some name → IsCommand (codes "save" ∷ name_text ∷ []) (Save name)
  row_stat : IsCommand (codes "stat" ∷ []) Stat

-- a command of mutator 0, or a word that begins with `@` and a command
pub data IsLine : List Text → ℕ → Form → Type 0 where
  plain : {words : List Text} {form : Form} → IsCommand words form → IsLine words 0 form
  marked : {mark : Text} {words : List Text} {k : ℕ} {form : Form} → slice_index mark 0 ≡ 64 → mutator_in mark ≡ Some k → IsCommand words form → IsLine (mark ∷ words) k form
