-- An object whose slots are all pointers, with the format of one that has named slots alone: its slots are the same.
use Rattle.std.proofs.Common.{◌≡◌, ℕ, true, ◌<◌, ◌+◌, [], not, eqb, ltb, cond, ◌==◌, map, take, drop, length, get_or, refl, sym, ap, ◌∙◌, arith, inl, inr}
use Rattle.std.proofs.lemmas.Bool.{and_parts, lt-ltb}
use Rattle.std.specs.List.{range_with_len}
use Rattle.object_header.specs.Formats.{unit_bytes_of, unused_of, pointer_slots_of}
use Rattle.object_header.specs.Head.{literals_of, whole_units}
use Rattle.object_header.specs.declared.header.TheConstants.{BRIDGE_CLASS}
use Rattle.spur_graph.specs.Cells.{Body, Store, is_formed, pointer_count, unit_count, units, unit_at}
use Rattle.spur_graph.specs.CellGraph.{read, node_of}
use Rattle.spur_graph.specs.Heaps.{own_name}
use Rattle.spur_heap.specs.Heading.{KeepsSlots}

abbrev pub with_format : Body → ℕ → Body
with_format b f = record b { format = f }

unitless : (b : Body) → b.format < 6 → unit_count b ≡ 0
unfolding unit_count
unitless b low =
    let bytes : unit_bytes_of b.format ≡ 0 = rw (lt-ltb b.format 9 (omega arith)) refl in
    let unused : unused_of b.format ≡ 0 = rw (lt-ltb b.format 10 (omega arith)) refl in
    let whole : whole_units b.format (length b.words) (pointer_count b) ≡ 0 = rw bytes refl in
    omega (arith, unused, whole)

no_units : (b : Body) → unit_count b ≡ 0 → units b ≡ []
no_units b none = ap (λ n. map (unit_at (unit_bytes_of b.format) (drop (pointer_count b) b.words)) (range_with_len 0 n)) none

module _ (b : Body) (f : ℕ) (k : KeepsSlots b.format f) where
  pub count_format : pointer_count (with_format b f) ≡ pointer_count b
  unfolding pointer_count
  count_format = elim k [
    | inl same ↦ ap (λ g. pointer_slots_of g (length b.words) (literals_of (get_or b.words 0 0))) same
    | inr r ↦
        ap (λ g. pointer_slots_of g (length b.words) (literals_of (get_or b.words 0 0))) r.1
        ∙ sym (ap (λ t. cond t (length b.words) (cond (ltb b.format 24) 0 (literals_of (get_or b.words 0 0) + 1))) (lt-ltb b.format 6 r.0))
  ]

  units_format : units (with_format b f) ≡ units b
  units_format = elim k [
    | inl same ↦ λ x. units (with_format b (same x))
    | inr r ↦ no_units (with_format b f) (unitless (with_format b f) (let one = r.1 in omega (arith, one))) ∙ sym (no_units b (unitless b r.0))
  ]

  as_named : is_formed b ≡ true → is_formed (with_format b 1) ≡ true
  unfolding is_formed
  as_named formed =
      let class : not (eqb b.class BRIDGE_CLASS) ≡ true = (and_parts _ _ (and_parts _ _ (and_parts _ _ formed).0).0).0 in
      rw class refl

  pub formed_format : is_formed b ≡ true → is_formed (with_format b f) ≡ true
  formed_format formed = elim k [
    | inl same ↦ (λ x. is_formed (with_format b (same x))) ∙ formed
    | inr r ↦ (λ x. is_formed (with_format b (r.1 x))) ∙ as_named formed
  ]

  pub node_format : (h : Store) → node_of own_name h (with_format b f) ≡ record (node_of own_name h b) { format = f }
  unfolding node_of
  node_format h = λ x. record {
    class = b.class;
    hash = b.hash;
    format = f;
    pointers = map (read own_name h) (take (count_format x) b.words);
    units = units_format x;
    pinned = b.pinned == 1;
    readonly = b.readonly == 1;
  }
