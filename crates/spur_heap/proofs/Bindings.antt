-- Handles that are bound and unbound.
use Rattle.std.proofs.Common.{◌≡◌, ℕ, true, refl, sym, ap, ◌∙◌, subst, inl, inr, Option, Some, None, Result, Ok, Err}
use Rattle.std.specs.Prelude.{OnOk, OnErr, IfSome}
use Rattle.std.specs.FinMap.{FinMap, get, insert, remove}
use Rattle.spur_graph.specs.Graph.{Handle, handle_cmp}
use Rattle.spur_graph.specs.Ordinary.{is_good_word}
use Rattle.spur_graph.specs.Heaps.{View, store_of}
use Rattle.handle_table.specs.Handles.{Bindings, held}
use Rattle.handle_table.proofs.Bound.{bound_or_before, before_removed}
use Rattle.spur_heap.specs.declared.heap.HeapParts.{HeapParts}
use Rattle.spur_heap.specs.Parts.{view_of, ArePartsOfHeap}
use Rattle.spur_heap.specs.Views.{IsGood}
use Rattle.spur_heap.proofs.Tables.{tables_kept}

-- the words of all handles are good
abbrev pub AreGood : HeapParts → FinMap handle_cmp ℕ → Type 0
AreGood p m = (h : Handle) (word : ℕ) → get m h ≡ Some word → is_good_word (store_of (view_of p)) word ≡ true

module _ (p : HeapParts) (k : ArePartsOfHeap p) where
  pub with_handles : (t : Bindings) → AreGood p (held t) → ArePartsOfHeap (record p { handles = t })
  with_handles t good = record {
    whole = record {
      spaces = k.whole.spaces;
      rows = k.whole.rows;
      sound = k.whole.sound;
      inner = k.whole.inner;
      young = k.whole.young;
      bits = k.whole.bits;
      remembered = k.whole.remembered;
      held = good;
      special_there = k.whole.special_there;
      mourners = k.whole.mourners;
      state_bits = k.whole.state_bits;
      header = k.whole.header;
      few = k.whole.few;
    };
    map = record { starts = k.map.starts; covers = k.map.covers };
    free_chunks = record { lists = k.free_chunks.lists };
    objects = record { count = k.objects.count };
    remembered = record { table = k.remembered.table };
    tables = tables_kept p (record p { handles = t }) k.tables refl refl;
  }

  good_bound : (h : Handle) (word : ℕ) → IsGood (view_of p) word → AreGood p (insert (held p.handles) h word)
  good_bound h word good q v e = elim (bound_or_before (held p.handles) h q word v e) [
    | inl same ↦ ap (is_good_word (store_of (view_of p))) same ∙ good
    | inr before ↦ k.whole.held q v before
  ]

  pub bound_parts : {E : Type 0} (r : Result Unit E) (h : Handle) (word : ℕ) (new : Bindings) → IsGood (view_of p) word
      → OnOk r (held new ≡ insert (held p.handles) h word) → OnErr r (new ≡ p.handles) → ArePartsOfHeap (record p { handles = new })
  bound_parts (Ok u) h word new good bound same = with_handles new (subst (AreGood p) (sym bound) (good_bound h word good))
  bound_parts (Err e) h word new good bound same = with_handles new (subst (λ (t : Bindings). AreGood p (held t)) (sym same) k.whole.held)

  pub unbound_parts : (h : Handle) (new : Bindings) → held new ≡ remove (held p.handles) h → ArePartsOfHeap (record p { handles = new })
  unbound_parts h new is = with_handles new (subst (AreGood p) (sym is) (λ q v e. k.whole.held q v (before_removed (held p.handles) h q v e)))

-- a handle that is held has a good word
pub held_good : (v : View) (h : Handle) → ((q : Handle) (word : ℕ) → get v.handles q ≡ Some word → IsGood v word) → (o : Option ℕ) → o ≡ get v.handles h → IfSome o (IsGood v)
held_good v h held None e = tt
held_good v h held (Some word) e = held h word (sym e)
