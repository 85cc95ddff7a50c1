-- Two objects that can change contents where they stand, and what the heap is once they did.
use Rattle.std.proofs.Common.{◌≡◌, ◌⊎◌, ℕ, false, cond, ◌+◌, ◌-◌, ◌<◌, ◌≤◌, max, List, length, get_or, set, refl, sym, ap, ◌∙◌, subst, arith, nat_eq, eqb, ◌&&◌, ◌||◌}
use Rattle.std.proofs.lemmas.Bool.{eqb-true, and_parts}
use Rattle.std.specs.Bool.{beq}
use Rattle.object_header.specs.Fields.{fields_of}
use Rattle.object_header.specs.Chunks.{Chunk, leads, slots_at}
use Rattle.spur_graph.specs.Become.{exchange}
use Rattle.spur_graph.specs.Refusals.{waits}
use Rattle.spur_graph.specs.Room.{Spot, spot_at}
use Rattle.spur_graph.specs.Heaps.{View, IsWhole, HasBits, store_of, chunks_of, heap_to, heap_value, heap_graph, heap_room, is_remembered}
use Rattle.heap_cells.proofs.CellKinds.{there_starts}
use Rattle.heap_cells.proofs.Cutting.{start-in}
use Rattle.heap_cells.proofs.Members.{In, listed}
use Rattle.heap_cells.proofs.ObjectReads.{object-slots}
use Rattle.heap_cells.proofs.References.{ordinary_there}
use Rattle.spur_heap.specs.Exchanging.{CanExchange}
use Rattle.spur_heap.specs.Outside.{IsOutside}
use Rattle.heap_walk.specs.Shapes.{lead_at}
use Rattle.spur_heap.specs.Swaps.{swap_run, AreAlike, remembers, header_for, exchanged_words}
use Rattle.spur_heap.specs.Words.{AreSound, body_in}
use Rattle.spur_heap.specs.Views.{IsOrdinary, IsGood, node_in}
use Rattle.spur_heap.proofs.Orders.{order}
use Rattle.spur_heap.proofs.Puts.{whole_sound}
use Rattle.spur_heap.proofs.Tables.{SameTables}
use Rattle.spur_heap.proofs.SpotsAt.{overflow_told, words_told, same_bools}
use Rattle.spur_heap.proofs.Contents.{unpinned, unawaited}
use Rattle.spur_heap.proofs.TwoRuns.{has_places, same_size, start_second, runs}
use Rattle.spur_heap.proofs.ExchangedPlace.{Gets, IsHeaderFor}
use Rattle.spur_heap.proofs.ExchangedHeaders.{is_header, bits_kept, bit_then, remembers_all, remembers_only}
use Rattle.spur_heap.proofs.ExchangedWords.{AreRuns, now, now_long, now_out, now_first, now_second, head_first, head_second}
use Rattle.spur_heap.proofs.Exchanged.{Exchanges, Marks, exchanged_whole}
use Rattle.spur_heap.specs.Parts.{is_noted}
use Rattle.spur_heap.specs.Remembering.{must_with}
use Rattle.spur_heap.proofs.ExchangedGraph.{exchanged_notes, exchanged_ordinary, exchanged_good, exchanged_value, exchanged_graph, exchanged_room, exchanged_tables}

-- ---- as many words

pub are_alike : (v : View) → IsWhole v → (a b : ℕ) → IsOrdinary v a → IsOrdinary v b → CanExchange v a b → AreAlike v.words a b
are_alike v whole a b first second can =
    let x : Spot = spot_at (heap_room v) a in
    let y : Spot = spot_at (heap_room v) b in
    let parts = and_parts (nat_eq x.words y.words) (beq x.overflow y.overflow) can.alike in
    let overflow : x.overflow ≡ y.overflow = same_bools x.overflow y.overflow parts.1 in
    let lead : leads (get_or v.words a 0) ≡ leads (get_or v.words b 0) = overflow_told v whole a first ∙ overflow ∙ sym (overflow_told v whole b second) in
    let slots : (s : ℕ) → IsOrdinary v s → length (body_in v s).words ≡ slots_at v.words s = λ s there. object-slots heap_to v.words (chunks_of v) (order v (whole_sound v whole)) s (ordinary_there (store_of v) s there) in
    let sizes : cond y.overflow 2 1 + max 1 (slots_at v.words a) ≡ cond y.overflow 2 1 + max 1 (slots_at v.words b) =
    (λ i. cond (sym overflow i) 2 1 + max 1 (sym (slots a first) i)) ∙ sym (words_told v whole a first) ∙ eqb-true x.words y.words parts.0 ∙ words_told v whole b second ∙ ap (λ n. cond y.overflow 2 1 + max 1 n) (slots b second) in
    record { lead = lead; size = (λ i. cond (lead i) 1 0 + 1 + max 1 (slots_at v.words a)) ∙ behind (cond y.overflow 2 1) (lead_at v.words b) (max 1 (slots_at v.words a)) (max 1 (slots_at v.words b)) sizes }
  where
    behind : (k l m n : ℕ) → k + m ≡ k + n → l + 1 + m ≡ l + 1 + n
    behind k l m n e = omega (arith, e)

-- ---- the heap then

pub record HasExchanged (v : View) (a b : ℕ) : Type 0 where
  pub whole : IsWhole (record v { words = exchanged_words v a b })
  pub tables : SameTables v (record v { words = exchanged_words v a b })
  pub notes : (t : ℕ) → is_noted (record v { words = exchanged_words v a b }) t ≡ ((is_noted v t || (must_with v a b && eqb t a)) || (must_with v b a && eqb t b))
  pub graph : heap_graph (record v { words = exchanged_words v a b }) ≡ exchange (heap_graph v) a b
  pub room : heap_room (record v { words = exchanged_words v a b }) ≡ heap_room v
  pub values : (w : ℕ) → heap_value (record v { words = exchanged_words v a b }) w ≡ heap_value v w
  pub goods : (w : ℕ) → IsGood v w → IsGood (record v { words = exchanged_words v a b }) w
  pub ordinary : (s : ℕ) → IsOrdinary v s → IsOrdinary (record v { words = exchanged_words v a b }) s
  pub others : (j : ℕ) → IsOutside v a j → IsOutside v b j → get_or (exchanged_words v a b) j 0 ≡ get_or v.words j 0

module _ (v : View) (whole : IsWhole v) (c d : Chunk) (in_c : In (chunks_of v) c) (in_d : In (chunks_of v) d) (first : IsOrdinary v c.start) (second : IsOrdinary v d.start) (can : CanExchange v c.start d.start) where
  sound : AreSound v
  sound = whole_sound v whole

  alike : AreAlike v.words c.start d.start
  alike = are_alike v whole c.start d.start first second can

  abbrev l : ℕ
  l = lead_at v.words c.start

  start_c : c.start ≡ c.at + l
  start_c = (has_places v sound c in_c).lead

  start_d : d.start ≡ d.at + l
  start_d = start_second v sound c d in_c in_d can.apart alike

  size : c.size ≡ d.size
  size = same_size v sound c d in_c in_d can.apart alike

  abbrev wa : ℕ
  wa = header_for v c.start d.start

  abbrev wb : ℕ
  wb = header_for v d.start c.start

  two : AreRuns v.words c.at d.at c.size l
  two = runs v sound c d in_c in_d can.apart alike

  abbrev new : List ℕ
  new = now v.words c.at d.at c.size l wa wb two

  same_words : new ≡ exchanged_words v c.start d.start
  same_words =
      let x : c.at ≡ c.start - l = omega (arith, start_c) in
      let y : d.at ≡ d.start - l = omega (arith, start_d) in
      λ i. set (set (swap_run v.words (x i) (y i) ((has_places v sound c in_c).size i)) (sym start_c i) wa) (sym start_d i) wb

  head_c : get_or new c.start 0 ≡ wa
  head_c = ap (λ j. get_or new j 0) start_c ∙ head_first v.words c.at d.at c.size l wa wb two

  head_d : get_or new d.start 0 ≡ wb
  head_d = ap (λ j. get_or new j 0) start_d ∙ head_second v.words c.at d.at c.size l wa wb two

  gets_c : Gets v new c d
  gets_c = record {
    size = size;
    lead = alike.lead;
    words = λ i m n. now_first v.words c.at d.at c.size l wa wb two i m (λ e. n (omega (arith, e, start_c)));
    header = subst (λ w. IsHeaderFor (get_or v.words c.start 0) (get_or v.words d.start 0) w) (sym head_c) (is_header v c.start d.start);
  }

  gets_d : Gets v new d c
  gets_d = record {
    size = sym size;
    lead = sym alike.lead;
    words = λ i m n. now_second v.words c.at d.at c.size l wa wb two i (omega (arith, m, size)) (λ e. n (omega (arith, e, start_d)));
    header = subst (λ w. IsHeaderFor (get_or v.words d.start 0) (get_or v.words c.start 0) w) (sym head_d) (is_header v d.start c.start);
  }

  marks : (e f : Chunk) → In (chunks_of v) e → In (chunks_of v) f → IsOrdinary v f.start → get_or new e.start 0 ≡ header_for v e.start f.start → (node_in v f.start).pinned ≡ false
      → waits (heap_graph v) e.start ≡ false → Marks v new e f
  marks e f m n there head mobile awake =
      let bit : is_remembered new e.start ≡ remembers v e.start f.start = ap (λ w. nat_eq (fields_of w).remembered 1) head ∙ bit_then v e.start f.start in
      record {
        bits = subst (λ w. HasBits v.phase w) (sym head) (bits_kept v e.start f.start (whole.bits f (listed (chunks_of v) f n)));
        all = λ low over. bit ∙ remembers_all v e.start f.start low over;
        only = λ on. remembers_only v e.start f.start (λ was. (whole.remembered.only e (listed (chunks_of v) e m) was).0) (sym bit ∙ on);
        mobile = unpinned v whole f.start there mobile;
        awake = unawaited v e.start awake;
      }

  exchanges : Exchanges v new c d
  exchanges = record {
    whole = whole;
    long = now_long v.words c.at d.at c.size l wa wb two;
    in_first = in_c;
    in_second = in_d;
    first = first;
    second = second;
    apart = can.apart;
    others = λ j p q. now_out v.words c.at d.at c.size l wa wb two j p (subst (λ n. (j < d.at) ⊎ (d.at + n ≤ j)) (sym size) q);
    gets_first = gets_c;
    gets_second = gets_d;
    marks_first = marks c d in_c in_d second head_c can.mobile.1 can.awake.0;
    marks_second = marks d c in_d in_c first head_d can.mobile.0 can.awake.1;
  }

  of_chunks : HasExchanged v c.start d.start
  of_chunks =
      let at : (j : ℕ) → IsOutside v c.start j → IsOutside v d.start j → get_or new j 0 ≡ get_or v.words j 0 =
      λ j p q. exchanges.others j (p c (listed (chunks_of v) c in_c) refl) (q d (listed (chunks_of v) d in_d) refl) in
      let then : View = record v { words = exchanged_words v c.start d.start } in
      let same : ◌≡◌ {A = View} (record v { words = new }) then = ap (λ (ws : List ℕ). let u : View = record v { words = ws } in u) same_words in
      record {
        whole = subst (λ (u : View). IsWhole u) same (exchanged_whole exchanges);
        tables = subst (λ (u : View). SameTables v u) same (exchanged_tables exchanges);
        notes = λ t. sym (ap (λ (u : View). is_noted u t) same)
            ∙ exchanged_notes exchanges (must_with v c.start d.start) (must_with v d.start c.start)
            (ap (λ w. nat_eq (fields_of w).remembered 1) head_c ∙ bit_then v c.start d.start) (ap (λ w. nat_eq (fields_of w).remembered 1) head_d ∙ bit_then v d.start c.start) t;
        graph = sym (ap heap_graph same) ∙ exchanged_graph exchanges;
        room = sym (ap heap_room same) ∙ exchanged_room exchanges;
        values = λ w. sym (ap (λ (u : View). heap_value u w) same) ∙ exchanged_value exchanges w;
        goods = λ w on. subst (λ (u : View). IsGood u w) same (exchanged_good exchanges w ∙ on);
        ordinary = λ s on. subst (λ (u : View). IsOrdinary u s) same (exchanged_ordinary exchanges s ∙ on);
        others = λ j p q. sym (ap (λ (ws : List ℕ). get_or ws j 0) same_words) ∙ at j p q;
      }

pub has_exchanged : (v : View) → IsWhole v → (a b : ℕ) → IsOrdinary v a → IsOrdinary v b → CanExchange v a b → HasExchanged v a b
has_exchanged v whole a b first second can =
    let c = start-in heap_to v.words (chunks_of v) a (there_starts ((store_of v).cell a) (ordinary_there (store_of v) a first)) in
    let d = start-in heap_to v.words (chunks_of v) b (there_starts ((store_of v).cell b) (ordinary_there (store_of v) b second)) in
    let P : ℕ → ℕ → Type 0 = λ s t. IsOrdinary v s → IsOrdinary v t → CanExchange v s t → HasExchanged v s t in
    let at : P c.0.start d.0.start = of_chunks v whole c.0 d.0 c.1 d.1 in
    subst (λ t. P a t) d.2 (subst (λ s. P s d.0.start) c.2 at) first second can
