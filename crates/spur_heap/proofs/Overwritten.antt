-- All words of an ordinary object are written, in as many slots as before: what the heap stands for then.
use Rattle.std.proofs.Common.{◌≡◌, ◌≢◌, ◌⊎◌, ℕ, Bool, true, ◌||◌, ◌+◌, ◌<◌, ◌≤◌, eqb, List, map, length, get_or, refl, sym, ap, ◌∙◌, subst, arith, inl, inr}
use Rattle.std.proofs.lemmas.Bool.{eqb-true}
use Rattle.std.specs.List.{Contains}
use Rattle.object_header.specs.Fields.{fields_of}
use Rattle.object_header.specs.Head.{count_of, class_of}
use Rattle.object_header.specs.Chunks.{slots_at}
use Rattle.spur_graph.specs.Graph.{with_node}
use Rattle.spur_graph.specs.Cells.{Body, There, body_from, is_formed, is_there, is_start, pointer_count, final}
use Rattle.spur_graph.specs.CellGraph.{node_of}
use Rattle.spur_graph.specs.Heaps.{View, IsWhole, HasBits, store_of, chunks_of, heap_to, heap_value, heap_graph, heap_room, own_name, is_remembered, names_over, waiting_in}
use Rattle.heap_cells.specs.RowWrites.{Rewrites}
use Rattle.heap_cells.proofs.CellKinds.{there_is, there_starts}
use Rattle.heap_cells.proofs.Cutting.{start-in, stands, shape}
use Rattle.heap_cells.proofs.Members.{listed}
use Rattle.heap_cells.proofs.ObjectRewrites.{IsRewritten, object-rewritten}
use Rattle.heap_cells.proofs.References.{ordinary_there}
use Rattle.spur_heap.specs.Words.{AreSound, body_in, is_good}
use Rattle.spur_heap.specs.Views.{IsOrdinary, IsGood}
use Rattle.spur_heap.specs.Outside.{IsOutside}
use Rattle.spur_heap.proofs.Orders.{order}
use Rattle.spur_heap.proofs.Hops.{start_at}
use Rattle.spur_heap.proofs.Puts.{whole_sound}
use Rattle.spur_heap.proofs.Touched.{Touch, Fits, same_chunks}
use Rattle.spur_heap.proofs.Tables.{SameTables, NotesToo}
use Rattle.spur_heap.proofs.InPlace.{changed}
use Rattle.spur_heap.proofs.Changing.{Change, IsNoClass}
use Rattle.spur_heap.proofs.Replaced.{replaced_whole, replaced_tables, replaced_noted, replaced_store, replaced_ordinary, replaced_good, replaced_value, replaced_graph, replaced_room}

-- a header word and slots for the ordinary object that starts at `s`: formed, of the same count, with good words in the pointer slots. The hash is as
-- before, or the object is no class. The remembered bit is where it has to be, and what is to stand where a mourner leads has fired
pub record Overwrite (v : View) (s w : ℕ) (xs : List ℕ) : Type 0 where
  pub whole : IsWhole v
  pub ordinary : IsOrdinary v s
  pub slots : slots_at v.words s ≡ length xs
  pub count : count_of w ≡ count_of (get_or v.words s 0)
  pub used : class_of w ≢ 0
  pub kept : class_of w ≢ 8
  pub hash : ((fields_of w).hash ≡ (body_in v s).hash) ⊎ IsNoClass (store_of v) s
  pub formed : is_formed (body_from (fields_of w) xs) ≡ true
  pub good : (i : ℕ) → i < pointer_count (body_from (fields_of w) xs) → is_good v (get_or xs i 0) ≡ true
  pub fired : Contains (map (final (store_of v)) (waiting_in v.mourners)) s → (fields_of w).format ≡ 1
  pub bits : HasBits v.phase w
  pub all : s < v.spaces.old_end → names_over v.spaces.old_end (There (body_from (fields_of w) xs)) ≡ true → (fields_of w).remembered ≡ 1
  pub only : (fields_of w).remembered ≡ 1 → s < v.spaces.old_end
  pub mobile : v.spaces.old_end ≤ s → (fields_of w).pinned ≡ 0

module _ (v : View) (s w : ℕ) (xs new : List ℕ) (k : Overwrite v s w xs) (is : IsRewritten v.words s w xs new) where
  sound : AreSound v
  sound = whole_sound v k.whole

  object : is_there ((store_of v).cell s) ≡ true
  object = ordinary_there (store_of v) s k.ordinary

  start : is_start ((store_of v).cell s) ≡ true
  start = there_starts ((store_of v).cell s) object

  -- the object then
  abbrev pub body_now : Body
  body_now = body_from (fields_of w) xs

  -- the heap then
  abbrev pub overwritten : View
  overwritten = record v { words = new }

  fits : s + 1 + length xs ≤ length v.words
  fits = let f = (start_at v sound s start).fits in let e = k.slots in omega (arith, f, e)

  rewrites : Rewrites heap_to v.words new (length v.words) (chunks_of v) s (There body_now)
  rewrites = object-rewritten heap_to v.words new (length v.words) (chunks_of v) s w xs (order v sound) (omega arith) start fits k.slots k.count k.used k.kept is

  touch : Touch v new s (There body_now)
  touch =
      let c = start-in heap_to v.words (chunks_of v) s start in
      let l = stands v.words 0 (length v.words) (chunks_of v) c.0 (order v sound) c.1 in
      let told = (shape v.words c.0 l.chunk).slots in
      let count : slots_at v.words c.0.start ≡ slots_at v.words s = ap (slots_at v.words) c.2 in
      record {
        sound = sound;
        long = is.long;
        rewrites = rewrites;
        chunk = c.0;
        inside = c.1;
        start = c.2;
        others = λ j out. is.others j (elim out [
          | inl low ↦ inl (omega (arith, low, l.lies.lead, c.2))
          | inr high ↦ inr (omega (arith, high, l.lies.slots, c.2, told, count, k.slots))
        ]);
      }

  change : Change (store_of v) s (body_in v s) body_now
  change = record {
    sound = k.whole.sound;
    there = there_is ((store_of v).cell s) object;
    ordinary = k.ordinary;
    hash = k.hash;
    formed = k.formed;
    slots = k.good;
  }

  bit : is_remembered new s ≡ eqb (fields_of w).remembered 1
  bit = ap (λ u. eqb (fields_of u).remembered 1) is.header

  fit : Fits v new s (There body_now)
  fit = record {
    bits = λ was. subst (λ u. HasBits v.phase u) (sym is.header) k.bits;
    all = λ low other over. bit ∙ ap (λ n. eqb n 1) (k.all low over);
    only = λ on. (k.only (eqb-true (fields_of w).remembered 1 (sym bit ∙ on)), refl);
    young = λ l m. (refl, k.mobile l);
  }

  pub overwritten_whole : IsWhole overwritten
  overwritten_whole = replaced_whole v s new body_now touch change fit k.fired k.whole

  pub overwritten_tables : SameTables v overwritten
  overwritten_tables = replaced_tables v s new body_now touch change

  pub overwritten_notes : (on : Bool) → eqb (fields_of w).remembered 1 ≡ (is_remembered v.words s || on) → NotesToo v overwritten on s
  overwritten_notes on is_on = replaced_noted v s new body_now touch change on (bit ∙ is_on)

  pub overwritten_store : store_of overwritten ≡ changed (store_of v) s body_now
  overwritten_store = replaced_store v s new body_now touch change

  pub overwritten_chunks : chunks_of overwritten ≡ chunks_of v
  overwritten_chunks = same_chunks v new s (There body_now) touch

  pub overwritten_ordinary : (t : ℕ) → IsOrdinary v t → IsOrdinary overwritten t
  overwritten_ordinary t on = replaced_ordinary v s new body_now touch change t ∙ on

  pub overwritten_good : (u : ℕ) → IsGood v u → IsGood overwritten u
  overwritten_good u on = replaced_good v s new body_now touch change u ∙ on

  pub overwritten_value : (u : ℕ) → heap_value overwritten u ≡ heap_value v u
  overwritten_value = replaced_value v s new body_now touch change

  pub overwritten_graph : heap_graph overwritten ≡ with_node (heap_graph v) s (node_of own_name (store_of v) body_now)
  overwritten_graph = replaced_graph v s new body_now touch change

  pub overwritten_room : heap_room overwritten ≡ heap_room v
  overwritten_room = replaced_room v s new body_now touch change

  -- a word of no word of the object stays
  pub overwritten_others : (j : ℕ) → IsOutside v s j → get_or new j 0 ≡ get_or v.words j 0
  overwritten_others j out = touch.others j (out touch.chunk (listed (chunks_of v) touch.chunk touch.inside) touch.start)
