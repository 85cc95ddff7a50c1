-- What a class tells of its instances, and an instance that is made.
use Rattle.std.proofs.Common.{◌≡◌, ◌*◌, ℕ, true, not, ap, sym, subst, ◌∙◌, Some, None, ◌&&◌}
use Rattle.std.specs.Prelude.{ℤ, pos}
use Rattle.std.specs.Option.{is_some, unwrap_or}
use Rattle.spur_graph.specs.declared.answer.Value.{Value}
use Rattle.spur_graph.specs.declared.answer.Value.TheVariants.{Ref}
use Rattle.spur_graph.specs.declared.answer.Refusal.TheVariants as r
use Rattle.spur_graph.specs.Value.{int_of}
use Rattle.spur_graph.specs.Graph.{Graph, node}
use Rattle.spur_graph.specs.Refusals.{test, no_class}
use Rattle.spur_graph.specs.Serve.{Source}
use Rattle.spur_graph.specs.Instances.{has_entered, layout_of, layout_in, is_layout, slots_for, format_for}
use Rattle.spur_graph.specs.Heaps.{View, heap_graph, heap_value}
use Rattle.spur_heap.specs.Views.{IsGood}
use Rattle.spur_heap.specs.Allocating.{Makes}
use Rattle.class_table.specs.declared.layout.Layout.{Layout}
use Rattle.class_table.specs.Layouts.{HasLayout}
use Rattle.class_table.specs.Instantiating.{Instantiates}

-- an entered class with a number in slot 2 has instances where the number is a layout
pub class_told : (g : Graph) (a : ℕ) (x : ℤ) → has_entered g a ≡ true → layout_of (node g a) ≡ Some x → no_class g a ≡ test (not (is_layout x)) r.Class
class_told g a x entered slot = λ i. test (not (entered i && is_some (slot i) && is_layout (unwrap_or (slot i) (pos 0)))) r.Class

pub class_untold : (g : Graph) (a : ℕ) → has_entered g a ≡ true → layout_of (node g a) ≡ None → no_class g a ≡ Some r.Class
class_untold g a entered slot = λ i. test (not (entered i && is_some (slot i) && is_layout (unwrap_or (slot i) (pos 0)))) r.Class

pub layout_told : (g : Graph) (a : ℕ) (l : Layout) → HasLayout g a l → layout_in (node g a) ≡ int_of l.0
layout_told g a l k = ap (λ o. unwrap_or o (pos 0)) k.slot

-- an object that was made is an instance
pub instantiates : (old new : View) (source : Source) (class n s word : ℕ) → Makes old new source (node (heap_graph old) class).hash (format_for (layout_in (node (heap_graph old) class)) n) (slots_for (layout_in (node (heap_graph old) class)) n) s
    → word ≡ 8 * s → IsGood new word → heap_value new word ≡ Ref s → Instantiates old new source (Ref class) n word
instantiates old new source class n s word m refers good value = record {
  served = m.served;
  serves = m.serves;
  start = s;
  refers = refers;
  fresh = m.fresh;
  graph = m.graph;
  room = m.room;
  good = good;
  value = value;
  values = m.values;
  goods = m.goods;
}

pub made_as : (old new : View) (source : Source) (class n s word hash format slots : ℕ) (l : Layout) (x : Value) → x ≡ Ref class → HasLayout (heap_graph old) class l
    → hash ≡ (node (heap_graph old) class).hash → format ≡ format_for (int_of l.0) n → slots ≡ slots_for (int_of l.0) n → Makes old new source hash format slots s
    → word ≡ 8 * s → IsGood new word → heap_value new word ≡ Ref s → Instantiates old new source x n word
made_as old new source class n s word hash format slots l x named k is_hash is_format is_slots m refers good value =
    let g : Graph = heap_graph old in
    let told = layout_told g class l k in
    let formats : format ≡ format_for (layout_in (node g class)) n = is_format ∙ sym (ap (λ y. format_for y n) told) in
    let counts : slots ≡ slots_for (layout_in (node g class)) n = is_slots ∙ sym (ap (λ y. slots_for y n) told) in
    let one = subst (λ h. Makes old new source h format slots s) is_hash m in
    let two = subst (λ f. Makes old new source (node g class).hash f slots s) formats one in
    let three = subst (λ c. Makes old new source (node g class).hash (format_for (layout_in (node g class)) n) c s) counts two in
    subst (λ y. Instantiates old new source y n word) (sym named) (instantiates old new source class n s word three refers good value)
