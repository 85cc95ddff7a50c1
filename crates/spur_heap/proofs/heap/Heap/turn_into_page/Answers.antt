use Rattle.std.proofs.Common.{◌≡◌, ◌+◌, ◌-◌, ◌*◌, ◌<◌, ℕ, List, length, set, refl, ap, sym, ◌∙◌, subst, arith}
use Rattle.std.proofs.lemmas.List.{length-set}
use Rattle.spur_graph.specs.Cells.{first}
use Rattle.spur_graph.specs.Ordinary.{ordinary_starts}
use Rattle.spur_graph.specs.Heaps.{View, IsWhole, store_of}
use Rattle.spur_heap.specs.declared.heap.HeapParts.{HeapParts}
use Rattle.spur_heap.specs.Parts.{view_of, is_noted, ArePartsOfHeap}
use Rattle.spur_heap.specs.Words.{starts_at}
use Rattle.spur_heap.specs.Entering.{CanTurn, TurnsIntoPage}
use Rattle.spur_heap.proofs.Puts.{start_inside}
use Rattle.spur_heap.proofs.Tables.{HasFreeLists, tables_kept}
use Rattle.spur_heap.proofs.Noted.{table_same}
use Rattle.spur_heap.proofs.Turned.{turned, turned_noted, turned_whole, turned_starts, turned_lists, turned_inside}
use Rattle.spur_heap.proofs.TurnedGraph.{turns, turned_count}
use Rattle.spur_heap.proofs.heap.Heap.turn_into_page.Goals as goal

module _ (p : HeapParts) (v : View) (same : view_of p ≡ v) (k : ArePartsOfHeap p) (place start : ℕ) (can : CanTurn v place start) where
  whole : IsWhole v
  whole = subst (λ (u : View). IsWhole u) same k.whole

  count_is : p.objects ≡ length (ordinary_starts (store_of (turned whole can))) + 1
  count_is = k.objects.count ∙ ap (λ (u : View). length (ordinary_starts (store_of u))) same ∙ turned_count whole can

  module _ (roots : ℕ) (roots_is : roots ≡ first (store_of (view_of p)) 4) where
    at : roots ≡ first (store_of v) 4
    at = roots_is ∙ ap (λ (u : View). first (store_of u) 4) same

    inside : roots + 1 + place < length p.region
    inside = let l = turned_inside whole can in let e = at in let n : length p.region ≡ length v.words = ap (λ (u : View). length u.words) same in omega (arith, l, e, n)

    seen : (new : List ℕ) → new ≡ set p.region (roots + 1 + place) (8 * start) → view_of (record p { region = new; objects = p.objects - 1 }) ≡ turned whole can
    seen new is =
        let words : new ≡ (turned whole can).words = is ∙ (λ x. set (same x).words (at x + 1 + place) (8 * start)) in
        λ x. record (same x) { words = words x }

    parts_then : (new : List ℕ) → new ≡ set p.region (roots + 1 + place) (8 * start) → ArePartsOfHeap (record p { region = new; objects = p.objects - 1 })
    parts_then new is =
        let then : View = turned whole can in
        let told = seen new is in
        record {
          whole = subst (λ (u : View). IsWhole u) (sym told) (turned_whole whole can);
          map = record {
            starts = λ t. k.map.starts t ∙ ap (λ (u : View). starts_at u t) same ∙ sym (turned_starts whole can t) ∙ ap (λ (u : View). starts_at u t) (sym told);
            covers = k.map.covers ∙ (let n = length-set p.region (roots + 1 + place) (8 * start) in sym (ap (λ (ws : List ℕ). length ws) is ∙ n));
          };
          free_chunks = record {
            lists = subst (λ (u : View). HasFreeLists u p.free) (sym told) (turned_lists whole can p.free (subst (λ (u : View). HasFreeLists u p.free) same k.free_chunks.lists));
          };
          objects = record {
            count = (let c = count_is in let less : p.objects - 1 ≡ length (ordinary_starts (store_of then)) = omega (arith, c) in less) ∙ ap (λ (u : View). length (ordinary_starts (store_of u))) (sym told);
          };
          remembered = record {
            table = table_same (λ t. ap (λ (u : View). is_noted u t) told ∙ turned_noted whole can t ∙ ap (λ (u : View). is_noted u t) (sym same))
                (ap (λ (ws : List ℕ). length ws) is ∙ length-set p.region (roots + 1 + place) (8 * start)) k.remembered.table;
          };
          tables = tables_kept p (record p { region = new; objects = p.objects - 1 }) k.tables
              (ap (λ (ws : List ℕ). length ws) is ∙ length-set p.region (roots + 1 + place) (8 * start)) refl;
        }

    turns_then : (new : List ℕ) → new ≡ set p.region (roots + 1 + place) (8 * start) → TurnsIntoPage v (view_of (record p { region = new; objects = p.objects - 1 })) place start
    turns_then new is = subst (λ (u : View). TurnsIntoPage v u place start) (sym (seen new is)) (turns whole can)

pub overflow_mul-start : goal.overflow_mul-start
overflow_mul-start c =
    let whole : IsWhole c.args.self.now = subst (λ (v : View). IsWhole v) c.self.view_is c.self.invariant.whole in
    let low = start_inside c.args.self.now whole c.args.start c.requires.can.there in
    let few = whole.few in
    omega (arith, low, few)

pub put-requires : goal.put-requires
put-requires c = inside c.self.inside.parts c.args.self.now c.self.view_is c.self.invariant c.args.place c.args.start c.requires.can c.first_start-roots.result c.first_start-roots.ensures.start

pub overflow_sub-self : goal.overflow_sub-self
overflow_sub-self c = let e = count_is c.self.inside.parts c.args.self.now c.self.view_is c.self.invariant c.args.place c.args.start c.requires.can in omega (arith, e)

pub invariant_of-self : goal.invariant_of-self
invariant_of-self c =
    parts_then c.self.inside.parts c.args.self.now c.self.view_is c.self.invariant c.args.place c.args.start c.requires.can c.first_start-roots.result c.first_start-roots.ensures.start c.put.new.self c.put.ensures

pub returns : goal.returns
returns c =
    turns_then c.self.inside.parts c.args.self.now c.self.view_is c.self.invariant c.args.place c.args.start c.requires.can c.first_start-roots.result c.first_start-roots.ensures.start c.put.new.self c.put.ensures
