-- Headers in which a flag, the hash or the format is another.
use Rattle.std.proofs.Common.{◌≡◌, ℕ, Bool, true, false, ◌<◌, ◌≤◌, ◌^◌, get_or, refl, sym, ap, ◌∙◌, subst, arith, inl, inr}
use Rattle.object_header.specs.Field.{with_field}
use Rattle.object_header.specs.Fields.{Fields, fields_of}
use Rattle.spur_graph.specs.Instances.{has_entered}
use Rattle.spur_graph.specs.Heaps.{View, heap_graph}
use Rattle.heap_cells.proofs.UnusedBits.{set_unused}
use Rattle.spur_heap.specs.Flags.{flag_bit}
use Rattle.spur_heap.specs.Heading.{CanHead}

pub flag_small : (on : Bool) → flag_bit on < 2
flag_small true = omega arith
flag_small false = omega arith

module _ (v : View) (s new : ℕ) where
  -- the pinned flag, which is set in old space alone
  pub can_pin : (on : Bool) (word bit : ℕ) → word ≡ get_or v.words s 0 → bit ≡ flag_bit on → new ≡ with_field 30 1 word bit → fields_of new ≡ record (fields_of word) { pinned = bit }
      → (on ≡ true → s < v.spaces.old_end) → CanHead v s new
  can_pin on word bit is flag written fields old = subst (λ w. (fields_of new) ≡ record (fields_of w) { pinned = bit } → new ≡ with_field 30 1 w bit → CanHead v s new) (sym is) (λ f e. record {
    count = ap (λ (g : Fields). g.count) f;
    marked = ap (λ (g : Fields). g.marked) f;
    grey = ap (λ (g : Fields). g.grey) f;
    remembered = ap (λ (g : Fields). g.remembered) f;
    format = inl (ap (λ (g : Fields). g.format) f);
    class = ap (λ (g : Fields). g.class) f;
    unused = set_unused 30 1 (get_or v.words s 0) bit new (inl (omega arith)) (inr (omega arith)) (subst (λ n. n < 2) (sym flag) (flag_small on)) e;
    hash = inl (ap (λ (g : Fields). g.hash) f);
    mobile = λ l was. ap (λ (g : Fields). g.pinned) f ∙ flag ∙ clear on old l;
  }) fields written
    where
      clear : (b : Bool) → (b ≡ true → s < v.spaces.old_end) → v.spaces.old_end ≤ s → flag_bit b ≡ 0
      clear true low l = let a = low refl in absurd (omega (arith, a, l))
      clear false low l = refl

  -- the readonly flag
  pub can_lock : (on : Bool) (word bit : ℕ) → word ≡ get_or v.words s 0 → bit ≡ flag_bit on → new ≡ with_field 23 1 word bit → fields_of new ≡ record (fields_of word) { readonly = bit } → CanHead v s new
  can_lock on word bit is flag written fields = subst (λ w. (fields_of new) ≡ record (fields_of w) { readonly = bit } → new ≡ with_field 23 1 w bit → CanHead v s new) (sym is) (λ f e. record {
    count = ap (λ (g : Fields). g.count) f;
    marked = ap (λ (g : Fields). g.marked) f;
    grey = ap (λ (g : Fields). g.grey) f;
    remembered = ap (λ (g : Fields). g.remembered) f;
    format = inl (ap (λ (g : Fields). g.format) f);
    class = ap (λ (g : Fields). g.class) f;
    unused = set_unused 23 1 (get_or v.words s 0) bit new (inl (omega arith)) (inr (omega arith)) (subst (λ n. n < 2) (sym flag) (flag_small on)) e;
    hash = inl (ap (λ (g : Fields). g.hash) f);
    mobile = λ l was. ap (λ (g : Fields). g.pinned) f ∙ was;
  }) fields written

  -- the hash of an object that is no entered class
  pub can_hash : (word hash : ℕ) → word ≡ get_or v.words s 0 → hash < 2 ^ 22 → new ≡ with_field 32 22 word hash → fields_of new ≡ record (fields_of word) { hash = hash } → has_entered (heap_graph v) s ≡ false → CanHead v s new
  can_hash word hash is fits written fields unentered = subst (λ w. (fields_of new) ≡ record (fields_of w) { hash = hash } → new ≡ with_field 32 22 w hash → CanHead v s new) (sym is) (λ f e. record {
    count = ap (λ (g : Fields). g.count) f;
    marked = ap (λ (g : Fields). g.marked) f;
    grey = ap (λ (g : Fields). g.grey) f;
    remembered = ap (λ (g : Fields). g.remembered) f;
    format = inl (ap (λ (g : Fields). g.format) f);
    class = ap (λ (g : Fields). g.class) f;
    unused = set_unused 32 22 (get_or v.words s 0) hash new (inl (omega arith)) (inr (omega arith)) fits e;
    hash = inr unentered;
    mobile = λ l was. ap (λ (g : Fields). g.pinned) f ∙ was;
  }) fields written

  -- the format of named slots alone, of an object whose slots are all pointers
  pub can_retire : (word : ℕ) → word ≡ get_or v.words s 0 → (fields_of word).format < 6 → new ≡ with_field 24 5 word 1 → fields_of new ≡ record (fields_of word) { format = 1 } → CanHead v s new
  can_retire word is plain written fields = subst (λ w. (fields_of w).format < 6 → fields_of new ≡ record (fields_of w) { format = 1 } → new ≡ with_field 24 5 w 1 → CanHead v s new) (sym is) (λ l f e. record {
    count = ap (λ (g : Fields). g.count) f;
    marked = ap (λ (g : Fields). g.marked) f;
    grey = ap (λ (g : Fields). g.grey) f;
    remembered = ap (λ (g : Fields). g.remembered) f;
    format = inr (l, ap (λ (g : Fields). g.format) f);
    class = ap (λ (g : Fields). g.class) f;
    unused = set_unused 24 5 (get_or v.words s 0) 1 new (inl (omega arith)) (inr (omega arith)) (omega arith) e;
    hash = inl (ap (λ (g : Fields). g.hash) f);
    mobile = λ l was. ap (λ (g : Fields). g.pinned) f ∙ was;
  }) plain fields written
