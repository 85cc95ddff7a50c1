-- A command is refused for the same cause in states that differ in names alone.
use Rattle.std.proofs.Common.{◌≡◌, ℕ, false, not, ◌||◌, ◌==◌, nat_le, [], ◌∷◌, length, map, refl, ap, ◌∙◌, Option}
use Rattle.std.proofs.lemmas.List.{length-map}
use Rattle.spur_graph.specs.declared.answer.Refusal.{Refusal}
use Rattle.spur_graph.specs.declared.answer.Refusal.TheVariants as r
use Rattle.spur_graph.specs.Node.{Node}
use Rattle.spur_graph.specs.Names.{Iso, rename, rename_node}
use Rattle.spur_graph.specs.Bytes.{Text}
use Rattle.spur_graph.specs.Form.{Form, Special, Nil, Yes, No, Int, Char, Float, Copy, Drop, Kind, Class, Size, Fetch, Store, Unit, SetUnit, Same, New, NewOld, Enter, Hash, Become, Forward, Pin, Unpin, ReadOnly, Writable, Gc, Mourn, Save, Stat}
use Rattle.spur_graph.specs.Step.{SameRoom}
use Rattle.spur_graph.specs.Room.{fresh_words}
use Rattle.spur_graph.specs.Serve.{Source, Anywhere, OldAlone}
use Rattle.spur_graph.specs.Instances.{layout_in, has_instances, is_size, slots_for}
use Rattle.spur_graph.specs.Hashes.{free_index}
use Rattle.spur_graph.specs.State.{State, name_at, node_of_handle}
use Rattle.spur_graph.specs.Refusals.{first, test, raw_read, raw_write, raw_unit, index_in, unit_range, int_range, char_range, float_range, unserved, is_special, has_hash, no_page, is_script}
use Rattle.spur_graph.specs.Refused.{instance_row, row, refused}
use Rattle.spur_graph.specs.Ordinary.{class_limit}
use Rattle.graph_laws.proofs.Values.{name_at-renamed, node_of_handle-renamed, layout_in-renamed, has_instances-renamed, is_special-renamed, free_index-renamed}
use Rattle.graph_laws.proofs.RowParts.{object, bare_object, known, bindable}
use Rattle.graph_laws.proofs.BecomeRows.{become_row, forward_row, pin_row}
use Rattle.graph_laws.proofs.Rooms.{unserved-same, no_page-same}

-- a node that is readonly is not changed
abbrev guard : Node → Option Refusal
guard n = test (n.readonly || false) r.ReadOnly

-- what the rows of `fetch` and `store` ask of a node is asked of the renamed one
module _ (p : ℕ → ℕ) (n : Node) (i : ℕ) where
  fetch_row : first (raw_read (rename_node p n) ∷ index_in (rename_node p n).pointers i ∷ []) ≡ first (raw_read n ∷ index_in n.pointers i ∷ [])
  fetch_row = ap (λ l. first (raw_read n ∷ test (nat_le l i) r.Index ∷ [])) (length-map n.pointers (rename p))

  store_row : first (raw_write (rename_node p n) i ∷ index_in (rename_node p n).pointers i ∷ guard n ∷ []) ≡ first (raw_write n i ∷ index_in n.pointers i ∷ guard n ∷ [])
  store_row = ap (λ l. first (raw_write n i ∷ test (nat_le l i) r.Index ∷ guard n ∷ [])) (length-map n.pointers (rename p))

-- the rows of making an instance and of entering a class
module _ (s t : State) {p back : ℕ → ℕ} (k : Iso s.graph t.graph p back) (room : SameRoom s.room t.room p) (m : ℕ) where
  instance_row-renamed : (c : Text) (n : ℕ) (source : Source) → first (instance_row t m c n source) ≡ first (instance_row s m c n source)
  instance_row-renamed c n source = bare_object k m c _ _ (λ bare.
      let name = name_at-renamed k m c bare in
      let layout : layout_in (node_of_handle t.graph m c) ≡ layout_in (node_of_handle s.graph m c) = ap layout_in (node_of_handle-renamed k m c bare) ∙ layout_in-renamed p (node_of_handle s.graph m c) in
      λ i. first (
      test (not ((ap (has_instances t.graph) name ∙ has_instances-renamed k (name_at s.graph m c)) i)) r.Class
      ∷ test (not (is_size (layout i) n)) r.Size
      ∷ (ap (λ l. unserved source t.room (fresh_words (slots_for l n))) layout ∙ unserved-same room source (fresh_words (slots_for (layout_in (node_of_handle s.graph m c)) n))) i
      ∷ []))

  enter_row-renamed : (c : Text) → first (row t m (Enter c)) ≡ first (row s m (Enter c))
  enter_row-renamed c = known k m (c ∷ []) _ _ (bare_object k m c _ _ (λ bare.
      let name = name_at-renamed k m c bare in
      let free : free_index t.graph ≡ free_index s.graph = free_index-renamed k in
      λ i. first (
      test ((ap (is_special t.graph) name ∙ is_special-renamed k (name_at s.graph m c)) i || false) r.Special
      ∷ has_hash (node_of_handle-renamed k m c bare i)
      ∷ test (nat_le class_limit (free i)) r.Table
      ∷ (ap (no_page t.room) free ∙ no_page-same room (free_index s.graph)) i
      ∷ [])))

-- the refusal of each command
pub refused-renamed : (s t : State) (p back : ℕ → ℕ) → Iso s.graph t.graph p back → SameRoom s.room t.room p → t.script ≡ s.script → (m : ℕ) (form : Form) → refused t m form ≡ refused s m form
refused-renamed s t p back k room script m (Special h) = bindable k m h [] _ _ refl
refused-renamed s t p back k room script m (Nil h) = bindable k m h [] _ _ refl
refused-renamed s t p back k room script m (Yes h) = bindable k m h [] _ _ refl
refused-renamed s t p back k room script m (No h) = bindable k m h [] _ _ refl
refused-renamed s t p back k room script m (Int h n) = bindable k m h [] (int_range n ∷ []) (int_range n ∷ []) refl
refused-renamed s t p back k room script m (Char h n) = bindable k m h [] (char_range n ∷ []) (char_range n ∷ []) refl
refused-renamed s t p back k room script m (Float h w) = bindable k m h [] (float_range w ∷ []) (float_range w ∷ []) refl
refused-renamed s t p back k room script m (Copy h o) = bindable k m h (o ∷ []) [] [] refl
refused-renamed s t p back k room script m (Drop h) = known k m (h ∷ []) [] [] refl
refused-renamed s t p back k room script m (Kind o) = known k m (o ∷ []) [] [] refl
refused-renamed s t p back k room script m (Class h o) = bindable k m h (o ∷ []) [] [] refl
refused-renamed s t p back k room script m (Size o) = known k m (o ∷ []) _ _ (object k m o [] [] (λ _. refl))
refused-renamed s t p back k room script m (Fetch h o i) =
    bindable k m h (o ∷ []) _ _ (object k m o _ _ (λ e. ap (λ n. first (raw_read n ∷ index_in n.pointers i ∷ [])) e ∙ fetch_row p (node_of_handle s.graph m o) i))
refused-renamed s t p back k room script m (Store o i v) =
    known k m (o ∷ v ∷ []) _ _ (object k m o _ _ (λ e.
    ap (λ n. first (raw_write n i ∷ index_in n.pointers i ∷ guard n ∷ [])) e ∙ store_row p (node_of_handle s.graph m o) i))
refused-renamed s t p back k room script m (Unit o i) =
    known k m (o ∷ []) _ _ (object k m o _ _ (λ e. ap (λ n. first (raw_unit n ∷ index_in n.units i ∷ [])) e))
refused-renamed s t p back k room script m (SetUnit o i u) =
    known k m (o ∷ []) _ _ (object k m o _ _ (λ e. ap (λ n. first (raw_unit n ∷ index_in n.units i ∷ unit_range n u ∷ guard n ∷ [])) e))
refused-renamed s t p back k room script m (Same a b) = known k m (a ∷ b ∷ []) [] [] refl
refused-renamed s t p back k room script m (New h c n) = bindable k m h (c ∷ []) _ _ (instance_row-renamed s t k room m c n Anywhere)
refused-renamed s t p back k room script m (NewOld h c n) = bindable k m h (c ∷ []) _ _ (instance_row-renamed s t k room m c n OldAlone)
refused-renamed s t p back k room script m (Enter c) = enter_row-renamed s t k room m c
refused-renamed s t p back k room script m (Hash o) = known k m (o ∷ []) _ _ (bare_object k m o [] [] (λ _. refl))
refused-renamed s t p back k room script m (Become a b) = become_row s t k room m a b
refused-renamed s t p back k room script m (Forward a b hash) = forward_row s t k room m a b hash
refused-renamed s t p back k room script m (Pin o) = pin_row s t k room m o
refused-renamed s t p back k room script m (Unpin o) = known k m (o ∷ []) _ _ (bare_object k m o [] [] (λ _. refl))
refused-renamed s t p back k room script m (ReadOnly o) = known k m (o ∷ []) _ _ (bare_object k m o [] [] (λ _. refl))
refused-renamed s t p back k room script m (Writable o) = known k m (o ∷ []) _ _ (bare_object k m o [] [] (λ _. refl))
refused-renamed s t p back k room script m Gc = refl
refused-renamed s t p back k room script m (Mourn h) = bindable k m h [] _ _ (ap (λ l. first (test (l == 0) r.NoMourner ∷ [])) (ap length k.mourners ∙ length-map s.graph.mourners (map p)))
refused-renamed s t p back k room script m (Save name) = ap (λ x. first (is_script x name ∷ [])) script
refused-renamed s t p back k room script m Stat = refl
refused-renamed s t p back k room script m form = refl
