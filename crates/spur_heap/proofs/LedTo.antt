-- An object of a heap becomes a forwarder to another: first it is remembered where it has to be, then it leads there.
use Rattle.std.proofs.Common.{◌≡◌, ◌≢◌, ℕ, Bool, true, cond, ◌+◌, ◌-◌, ◌^◌, ◌<◌, List, length, refl, sym, ap, ◌∙◌, subst, arith, inl, inr}
use Rattle.std.proofs.lemmas.Bool.{cases_Bool}
use Rattle.spur_graph.specs.Names.{rename}
use Rattle.spur_graph.specs.Become.{instead, redirect, room_redirected}
use Rattle.spur_graph.specs.Cells.{Store}
use Rattle.spur_graph.specs.Ordinary.{is_ordinary, is_good_word, ordinary_starts}
use Rattle.spur_graph.specs.Heaps.{View, IsWhole, store_of, heap_value, heap_graph, heap_room}
use Rattle.heap_walk.specs.Starts.{has_start, covered}
use Rattle.free_lists.specs.declared.lists.FreeLists.{FreeLists}
use Rattle.heap_cells.specs.Settled.{word_of}
use Rattle.heap_cells.proofs.Forwarding.{Forwards}
use Rattle.heap_cells.proofs.ForwardedSound.{MayMourn}
use Rattle.spur_heap.specs.declared.heap.HeapParts.{HeapParts}
use Rattle.spur_heap.specs.Parts.{view_of, is_noted, ArePartsOfHeap}
use Rattle.spur_heap.specs.Tables.{IsTableOf}
use Rattle.spur_heap.specs.Words.{starts_at}
use Rattle.spur_heap.specs.Views.{IsOrdinary, IsGood}
use Rattle.spur_heap.specs.Remembering.{CanNote, must_remember, noted, remembered_at, remembered_for}
use Rattle.spur_heap.specs.Forwarders.{leading, led_to}
use Rattle.spur_heap.proofs.Forwardable.{CanLead, forwards, may_mourn}
use Rattle.spur_heap.proofs.Led.{led_touch, led_noted, led_whole, led_ordinary, led_good, led_value, led_graph, led_room, led_starts, led_lists, led_count}
use Rattle.spur_heap.proofs.Puts.{object, start_there, start_inside}
use Rattle.spur_heap.proofs.Storing.{RemembersFor, remembers_for}
use Rattle.spur_heap.proofs.Noted.{table_same}
use Rattle.spur_heap.proofs.Tables.{HasFreeLists, NotesToo, tables_kept, noting_table, can_note_at}

-- no field but the words is another
remembered_view : (v : View) (s w : ℕ) → remembered_for v s w ≡ record v { words = (remembered_for v s w).words }
remembered_view v s w = elim (cases_Bool (must_remember v s w)) [
  | inl on ↦ subst (λ x. let u : View = cond x (remembered_at v s) v in u ≡ record v { words = u.words }) (sym on) refl
  | inr off ↦ subst (λ x. let u : View = cond x (remembered_at v s) v in u ≡ record v { words = u.words }) (sym off) refl
]

led_view : (v : View) (a b : ℕ) → led_to v a b ≡ record v { words = (led_to v a b).words }
led_view v a b = ap (λ (u : View). leading u a b) (remembered_view v a (word_of b))

module _ (v : View) (whole : IsWhole v) (a b : ℕ) (can : CanLead v a b) where
  abbrev mid : View
  mid = remembered_for v a (word_of b)

  remembering : RemembersFor v mid a (word_of b)
  remembering = remembers_for v whole a (object v whole a can.from) (word_of b)

  forwards_then : Forwards (store_of mid) a b
  forwards_then = subst (λ (h : Store). Forwards h a b) (sym remembering.store) (forwards v whole a b can)

  same_mourners : mid.mourners ≡ v.mourners
  same_mourners = ap (λ (u : View). u.mourners) (remembered_view v a (word_of b))

  may_then : MayMourn (store_of mid) mid.mourners a b
  may_then = subst (λ (groups : List (List ℕ)). MayMourn (store_of mid) groups a b) (sym same_mourners)
      (subst (λ (h : Store). MayMourn h v.mourners a b) (sym remembering.store) (may_mourn v whole a b can))

  pub led_to_whole : IsWhole (led_to v a b)
  led_to_whole = led_whole mid remembering.whole a b forwards_then may_then remembering.bit

  pub led_to_graph : heap_graph (led_to v a b) ≡ redirect (heap_graph v) a b
  led_to_graph = led_graph mid remembering.whole a b forwards_then may_then remembering.bit ∙ ap (λ g. redirect g a b) remembering.graph

  pub led_to_room : heap_room (led_to v a b) ≡ room_redirected (heap_room v) a b
  led_to_room = led_room mid remembering.whole a b forwards_then may_then remembering.bit ∙ ap (λ room. room_redirected room a b) remembering.room

  pub led_to_value : (w : ℕ) → heap_value (led_to v a b) w ≡ rename (instead a b) (heap_value v w)
  led_to_value w = led_value mid remembering.whole a b forwards_then may_then remembering.bit w ∙ ap (rename (instead a b)) (remembering.value w)

  pub led_to_good : (w : ℕ) → IsGood v w → IsGood (led_to v a b) w
  led_to_good w good = led_good mid remembering.whole a b forwards_then may_then remembering.bit w ∙ ap (λ (h : Store). is_good_word h w) remembering.store ∙ good

  pub led_to_ordinary : (t : ℕ) → t ≢ a → IsOrdinary v t → IsOrdinary (led_to v a b) t
  led_to_ordinary t n on = led_ordinary mid remembering.whole a b forwards_then may_then remembering.bit t n ∙ ap (λ (h : Store). is_ordinary h t) remembering.store ∙ on

  -- ---- the tables

  pub led_to_long : length (led_to v a b).words ≡ length v.words
  led_to_long = (led_touch mid remembering.whole a b forwards_then may_then remembering.bit).long ∙ remembering.tables.long

  pub led_to_notes : NotesToo v (led_to v a b) (must_remember v a (word_of b)) a
  led_to_notes t = led_noted mid remembering.whole a b forwards_then may_then remembering.bit t ∙ remembering.notes t

  pub from_starts : starts_at v a ≡ true
  from_starts = start_there v whole a can.from

  pub led_to_starts : (t : ℕ) → starts_at (led_to v a b) t ≡ starts_at v t
  led_to_starts t = led_starts mid remembering.whole a b forwards_then may_then remembering.bit t ∙ remembering.tables.starts t

  pub led_to_lists : (free : FreeLists) → HasFreeLists v free → HasFreeLists (led_to v a b) free
  led_to_lists free lists = led_lists mid remembering.whole a b forwards_then may_then remembering.bit free (remembering.tables.lists free lists)

  pub led_to_count : length (ordinary_starts (store_of v)) ≡ length (ordinary_starts (store_of (led_to v a b))) + 1
  led_to_count = sym remembering.tables.count ∙ led_count mid remembering.whole a b forwards_then may_then remembering.bit

-- ---- the parts

module _ (p : HeapParts) (k : ArePartsOfHeap p) (v : View) (same : view_of p ≡ v) (a b : ℕ) (can : CanLead v a b) where
  whole : IsWhole v
  whole = subst (λ (u : View). IsWhole u) same k.whole

  pub from_inside : a + 1 < length p.region
  from_inside = let low = start_inside v whole a can.from in let long : length p.region ≡ length v.words = ap (λ (u : View). length u.words) same in omega (arith, low, long)

  pub from_can : CanNote p a
  from_can = can_note_at p k v same a (from_starts v whole a b can)

  pub to_small : b < 2 ^ 27
  to_small = let low = start_inside v whole b can.to in let few = whole.few in omega (arith, low, few)

  pub some_objects : p.objects ≡ length (ordinary_starts (store_of (led_to v a b))) + 1
  some_objects = k.objects.count ∙ ap (λ (u : View). length (ordinary_starts (store_of u))) same ∙ led_to_count v whole a b can

  module _ (q : HeapParts) (is : q ≡ record p { region = (led_to (view_of p) a b).words; remembered = noted (view_of p) (must_remember (view_of p) a (word_of b)) a p.remembered }) (mark : Bool) where
    abbrev pub then : HeapParts
    then = record q { objects = q.objects - 1; forwarders = mark }

    pub seen : view_of then ≡ led_to v a b
    seen = ap view_of is ∙ sym (led_view (view_of p) a b) ∙ ap (λ (u : View). led_to u a b) same

    pub led_parts : ArePartsOfHeap then
    led_parts =
        let told : view_of then ≡ led_to v a b = seen in
        record {
          whole = subst (λ (u : View). IsWhole u) (sym told) (led_to_whole v whole a b can);
          map = record {
            starts = λ t.
                ap (λ (r : HeapParts). has_start r.starts t) is ∙ k.map.starts t ∙ ap (λ (u : View). starts_at u t) same
                ∙ sym (led_to_starts v whole a b can t) ∙ ap (λ (u : View). starts_at u t) (sym told);
            covers =
                ap (λ (r : HeapParts). covered r.starts) is ∙ k.map.covers ∙ ap (λ (u : View). length u.words) same
                ∙ sym (led_to_long v whole a b can) ∙ ap (λ (u : View). length u.words) (sym told);
          };
          free_chunks = record {
            lists = subst (λ (u : View). HasFreeLists u q.free) (sym told)
                (led_to_lists v whole a b can q.free (subst (λ (u : View). HasFreeLists u q.free) same (subst (λ (f : FreeLists). HasFreeLists (view_of p) f) (ap (λ (r : HeapParts). r.free) (sym is)) k.free_chunks.lists)));
          };
          objects = record {
            count =
                (let c = some_objects in let n : q.objects ≡ p.objects = ap (λ (r : HeapParts). r.objects) is in
                let less : q.objects - 1 ≡ length (ordinary_starts (store_of (led_to v a b))) = omega (arith, c, n) in less)
                ∙ ap (λ (u : View). length (ordinary_starts (store_of u))) (sym told);
          };
          remembered = record {
            table = table_same (λ t. ap (λ (u : View). is_noted u t) told) (ap (λ (u : View). length u.words) told ∙ led_to_long v whole a b can ∙ ap (λ (u : View). length u.words) (sym same))
                (subst (λ table. IsTableOf (is_noted (led_to v a b)) (length p.region) table) (sym (ap (λ (r : HeapParts). r.remembered) is))
                (noting_table p k v (led_to v a b) same (λ (u : View). must_remember u a (word_of b)) a (from_starts v whole a b can) (led_to_notes v whole a b can)));
          };
          tables = tables_kept p then k.tables
              (ap (λ (u : View). length u.words) told ∙ led_to_long v whole a b can ∙ ap (λ (u : View). length u.words) (sym same))
              (λ i. record then { mourners = (is i).mourners; mourned = (is i).mourned; marks = (is i).marks; saved = (is i).saved; limits = (is i).limits });
        }
