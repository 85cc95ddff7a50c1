-- What stands in the chunk at which a walk over all words is.
use Rattle.std.proofs.Common.{◌≡◌, ℕ, Bool, ◌+◌, ◌<◌, ◌≤◌, inl, inr, refl, sym, ap, ◌∙◌, arith, List, length, drop, get_or, set, subst, Option, Ok, true, false, nat_lt, nat_eq, not, ◌&&◌, ◌||◌}
use Rattle.std.proofs.lemmas.Bool.{cases_lt, cases_eq, cases_Bool, false≢true}
use Rattle.std.proofs.lemmas.Bool.Decides.{nat_tests}
use Rattle.std.proofs.lemmas.List.{length-take, length-drop, length-map, get_or-set_same, get_or-set_other}
use Rattle.std.proofs.lemmas.List.Elements.{Contains-get_or}
use Rattle.std.specs.List.{Contains}
use Rattle.object_header.specs.Fields.{Fields, fields_of}
use Rattle.object_header.specs.Head.{class_of, format_of, is_unformed}
use Rattle.object_header.specs.declared.head.Head.{Head}
use Rattle.object_header.specs.Chunks.{Chunk, Cuts, InOrder, chunks, slots_at, slots_from}
use Rattle.spur_graph.specs.Cells.{Body, cell_in, cell_from, body_from, body_of, start_named, store_in, is_there}
use Rattle.spur_graph.specs.Places.{head_at, place, is_bad_root}
use Rattle.heap_cells.specs.Rows.{starts_of, AllRead}
use Rattle.heap_cells.proofs.Members.{In, in_list, chunk_of_start}
use Rattle.heap_cells.proofs.Cutting.{stands, shape, cell-at, all-in_order}
use Rattle.heap_cells.proofs.Starts.{read_cell-is}
use Rattle.heap_cells.proofs.HeadReads.{from-head}
use Rattle.heap_cells.proofs.Ranges.{range-cuts}
use Rattle.heap_cells.proofs.Wholes.{place-is-start, place-is-end}
use Rattle.image_checks.specs.Checks.{HasFive}

there-of : (f : Fields) (next : ℕ) (ws : List ℕ) → is_unformed f.class ≡ false → (is_there (cell_from f next ws) ≡ true) × (body_of (cell_from f next ws) ≡ body_from f ws)
there-of f next ws e = elim (cases_Bool (nat_eq f.class 0)) [
  | inl a ↦ absurd (false≢true (sym (rw a at e)))
  | inr a ↦ elim (cases_Bool (nat_eq f.class 8)) [ inl b ↦ absurd (false≢true (sym (rw (a, b) at e))) | inr b ↦ rw (a, b) (refl, refl) ]
]

-- what stands at the start of a chunk of a row, by its header
cell-of : (to : ℕ → Option ℕ) (words : List ℕ) (end : ℕ) (cs : List Chunk) (c : Chunk) (s header : ℕ) → InOrder words 0 end cs → In cs c → c.start ≡ s → header ≡ get_or words s 0
    → cell_in to words cs s ≡ cell_from (fields_of header) (start_named to words (get_or words (s + 1) 0)) (slots_from words s)
cell-of to words end cs c s header t m e h =
    let there : cell_in to words cs c.start ≡ cell_from (fields_of (get_or words c.start 0)) (start_named to words (get_or words (c.start + 1) 0)) (slots_from words c.start) =
    cell-at to words 0 end cs c t m ∙ read_cell-is to words c (shape words c (stands words 0 end cs c t m).chunk).slots in
    let here : cell_in to words cs s ≡ cell_from (fields_of (get_or words s 0)) (start_named to words (get_or words (s + 1) 0)) (slots_from words s) =
    subst (λ n. cell_in to words cs n ≡ cell_from (fields_of (get_or words n 0)) (start_named to words (get_or words (n + 1) 0)) (slots_from words n)) e there in
    subst (λ w. cell_in to words cs s ≡ cell_from (fields_of w) (start_named to words (get_or words (s + 1) 0)) (slots_from words s)) (sym h) here

module _ (words : List ℕ) where
  -- chunk `k` of the row, whose head was read
  pub record Chunked (k at : ℕ) (h : Head) : Type 0 where
    pub low : k < length (chunks words)
    pub start : get_or (starts_of (chunks words)) k 0 ≡ at + h.lead
    pub stands : Contains (starts_of (chunks words)) (at + h.lead)
    pub header : h.header ≡ get_or words (at + h.lead) 0
    pub told : slots_at words (at + h.lead) ≡ h.slots
    pub cell : (to : ℕ → Option ℕ) → cell_in to words (chunks words) (at + h.lead) ≡ cell_from (fields_of h.header) (start_named to words (get_or words (at + h.lead + 1) 0)) (slots_from words (at + h.lead))

  -- chunk `k` was read, and can be chunk `k` of the first five
  pub record GoodRoot (k : ℕ) : Type 0 where
    pub at : ℕ
    pub head : Head
    pub chunk : Chunked k at head
    pub room : at + head.lead + 1 + head.slots ≤ length words
    pub good : is_bad_root k head ≡ false

module _ (words : List ℕ) (none : AllRead words 0 (length words)) where
  row : Cuts words 0 (length words) (chunks words)
  unfolding chunks
  row = (range-cuts words 0 (length words) (omega arith) none (length words) (omega arith) (omega arith)).row

  pub chunked : (k at : ℕ) (h : Head) → place words 0 (length words) k ≡ at → at < length words → head_at words (length words) at ≡ Ok h → Chunked words k at h
  chunked k at h is l ok =
      let low : k < length (chunks words) = elim (cases_lt k (length (chunks words))) [
        | inl m ↦ m
        | inr m ↦ absurd (omega (arith, place-is-end words k none m, is, l))
      ] in
      let p = place-is-start words k none low in
      let heads : Ok p.head ≡ Ok h = sym p.read ∙ ap (head_at words (length words)) is ∙ ok in
      let same : p.head ≡ h = cc in
      let start : get_or (starts_of (chunks words)) k 0 ≡ at + h.lead = p.start ∙ ap (λ n. n + p.head.lead) is ∙ ap (λ (x : Head). at + x.lead) same in
      let long : length (starts_of (chunks words)) ≡ length (chunks words) = length-map (chunks words) (λ (c : Chunk). c.start) in
      let here : Contains (starts_of (chunks words)) (at + h.lead) = rw start at (Contains-get_or (starts_of (chunks words)) k 0 (omega (arith, low, long))) in
      let g = from-head words (length words) at h (omega arith) l ok in
      let c = chunk_of_start (chunks words) (at + h.lead) (in_list (starts_of (chunks words)) (at + h.lead) here) in
      record {
        low = low;
        start = start;
        stands = here;
        header = g.header;
        told = g.told;
        cell = λ to. cell-of to words (length words) (chunks words) c.0 (at + h.lead) h.header (all-in_order words row) c.1 c.2 g.header;
      }

  -- ---- roots

  unformed : (k : ℕ) (h : Head) → is_bad_root k h ≡ false → is_unformed (class_of h.header) ≡ false
  unformed k h e = elim (cases_Bool (is_unformed (class_of h.header))) [ inl a ↦ absurd (false≢true (sym (rw a at e))) | inr a ↦ a ]

  -- what stands there
  record Stood (to : ℕ → Option ℕ) (k : ℕ) (h : Head) : Type 0 where
    there : is_there (cell_in to words (chunks words) (get_or (starts_of (chunks words)) k 0)) ≡ true
    format : (body_of (cell_in to words (chunks words) (get_or (starts_of (chunks words)) k 0))).format ≡ format_of h.header
    slots : length (body_of (cell_in to words (chunks words) (get_or (starts_of (chunks words)) k 0))).words ≡ h.slots

  stood : (to : ℕ → Option ℕ) (k : ℕ) (g : GoodRoot words k) → Stood to k g.head
  stood to k g =
      let s = g.at + g.head.lead in
      let cell = ap (cell_in to words (chunks words)) g.chunk.start ∙ g.chunk.cell to in
      let t = there-of (fields_of g.head.header) (start_named to words (get_or words (s + 1) 0)) (slots_from words s) (unformed k g.head g.good) in
      let body = ap body_of cell ∙ t.1 in
      record {
        there = ap is_there cell ∙ t.0;
        format = ap (λ (b : Body). b.format) body;
        slots = ap (λ (b : Body). length b.words) body ∙ omega (arith, length-take (slots_at words s) (drop (s + 1) words), length-drop (s + 1) words, g.room, g.chunk.told);
      }

  pub five : ((j : ℕ) → j < 5 → GoodRoot words j) → (to : ℕ → Option ℕ) → HasFive (store_in to words (chunks words))
  five good to =
      let g3 = good 3 (omega arith) in
      let g4 = good 4 (omega arith) in
      let s3 = stood to 3 g3 in
      let s4 = stood to 4 g4 in
      let long : length (starts_of (chunks words)) ≡ length (chunks words) = length-map (chunks words) (λ (c : Chunk). c.start) in
      let lists = g3.good in
      let roots = g4.good in
      record {
        five = omega (arith, g4.chunk.low, long);
        objects = λ k l. (stood to k (good k l)).there;
        lists = omega (arith, s3.format, listed (is_unformed (class_of g3.head.header)) (format_of g3.head.header) lists);
        roots = let r = rooted (is_unformed (class_of g4.head.header)) (format_of g4.head.header) g4.head.slots roots in (s4.format ∙ r.0, s4.slots ∙ r.1);
      }
    where
      listed : (u : Bool) (f : ℕ) → u || (nat_eq 3 3 && nat_lt 23 f) || (nat_eq 3 4 && not (nat_eq f 2 && nat_eq 0 4104)) ≡ false → f < 24
      listed u f e = grind (arith, nat_tests, e)

      rooted : (u : Bool) (f n : ℕ) → u || (nat_eq 4 3 && nat_lt 23 f) || (nat_eq 4 4 && not (nat_eq f 2 && nat_eq n 4104)) ≡ false → (f ≡ 2) × (n ≡ 4104)
      rooted u f n e = (grind (arith, nat_tests, e), grind (arith, nat_tests, e))

module _ (words : List ℕ) (k : ℕ) where
  pub more-roots : GoodRoot words k → ((j : ℕ) → j < k → GoodRoot words j) → (j : ℕ) → j < k + 1 → GoodRoot words j
  more-roots g more j l = elim (cases_eq j k) [ inl e ↦ subst (GoodRoot words) (sym e) g | inr n ↦ more j (omega (arith, n)) ]

  pub more-starts : (at : ℕ) (h : Head) (starts : List ℕ) → Chunked words k at h → k < length starts → ((j : ℕ) → j < k → get_or starts j 0 ≡ get_or (starts_of (chunks words)) j 0)
      → (j : ℕ) → j < k + 1 → get_or (set starts k (at + h.lead)) j 0 ≡ get_or (starts_of (chunks words)) j 0
  more-starts at h starts c l more j b = elim (cases_eq j k) [
    | inl e ↦ ap (λ n. get_or (set starts k (at + h.lead)) n 0) e ∙ get_or-set_same starts k (at + h.lead) 0 l ∙ sym c.start ∙ ap (λ n. get_or (starts_of (chunks words)) n 0) (sym e)
    | inr n ↦ get_or-set_other starts k j (at + h.lead) 0 n ∙ more j (omega (arith, n))
  ]
