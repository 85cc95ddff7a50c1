-- An object of a heap, from its words.
use Rattle.std.proofs.Common.{◌≡◌, ℕ, true, false, ◌+◌, ◌<◌, ◌≤◌, eqb, List, drop, length, get_or, refl, sym, ap, ◌∙◌, subst, arith, inl, inr}
use Rattle.std.proofs.lemmas.Bool.{false≢true, cases_Bool}
use Rattle.std.proofs.lemmas.List.{get_or-drop, get_or-take, length-take-le, length-drop}
use Rattle.std.specs.List.{Contains}
use Rattle.object_header.specs.Fields.{Fields, fields_of}
use Rattle.object_header.specs.Head.{literals_of}
use Rattle.object_header.specs.Formats.{pointer_slots_of}
use Rattle.object_header.specs.Chunks.{Chunk, InOrder, slots_at, slots_from}
use Rattle.spur_graph.specs.Cells.{Body, There, cell_in, cell_from, body_from, body_of, start_named, is_there, is_formed, pointer_count}
use Rattle.spur_graph.specs.Ordinary.{body_at}
use Rattle.spur_graph.specs.Heaps.{heap_to, heap_store}
use Rattle.heap_cells.specs.Rows.{starts_of}
use Rattle.heap_cells.proofs.Bodies.{pointers-same, pointers_fit, method_some}
use Rattle.heap_cells.proofs.CellKinds.{there_starts}
use Rattle.heap_cells.proofs.Cutting.{stands, shape, cell-at}
use Rattle.heap_cells.proofs.Members.{in_list, chunk_of_start}
use Rattle.heap_cells.proofs.Starts.{read_cell-is, start-read}
use Rattle.heap_laws.specs.Compaction.{pointers_at}

pub slot-at : (words : List ℕ) (s i : ℕ) → i < slots_at words s → get_or (slots_from words s) i 0 ≡ get_or words (s + 1 + i) 0
slot-at words s i l = get_or-take (slots_at words s) (drop (s + 1) words) i 0 l ∙ get_or-drop (s + 1) words i 0

pub slots-long : (words : List ℕ) (s : ℕ) → s + 1 + slots_at words s ≤ length words → length (slots_from words s) ≡ slots_at words s
slots-long words s fits = length-take-le (slots_at words s) (drop (s + 1) words) (omega (arith, fits, length-drop (s + 1) words))

-- the header alone tells that an object stands there
pub there_from : (f : Fields) (n n' : ℕ) (ws ws' : List ℕ) → is_there (cell_from f n ws) ≡ true → cell_from f n' ws' ≡ There (body_from f ws')
there_from f n n' ws ws' e = elim (cases_Bool (eqb f.class 0)) [
  | inl on ↦ let no_object : false ≡ true = rw on at e in absurd (false≢true no_object)
  | inr off ↦ elim (cases_Bool (eqb f.class 8)) [
    | inl moved ↦ let no_object : false ≡ true = rw (off, moved) at e in absurd (false≢true no_object)
    | inr there ↦ rw (off, there) refl
  ]
]

-- what stands at the start of a chunk, and that its slots are among the words
pub record Reads (words : List ℕ) (cs : List Chunk) (s : ℕ) : Type 0 where
  pub cell : cell_in heap_to words cs s ≡ cell_from (fields_of (get_or words s 0)) (start_named heap_to words (get_or words (s + 1) 0)) (slots_from words s)
  pub fits : s + 1 + slots_at words s ≤ length words

pub reads : (words : List ℕ) (cs : List Chunk) (s : ℕ) → InOrder words 0 (length words) cs → Contains (starts_of cs) s → Reads words cs s
reads words cs s order m =
    let c = chunk_of_start cs s (in_list (starts_of cs) s m) in
    let a = stands words 0 (length words) cs c.0 order c.1 in
    let h = shape words c.0 a.chunk in
    let slots = h.slots in
    let lies = a.lies.slots in
    let before = a.lies.before in
    subst (Reads words cs) c.2 (record { cell = cell-at heap_to words 0 (length words) cs c.0 order c.1 ∙ read_cell-is heap_to words c.0 h.slots; fits = omega (arith, slots, lies, before) })

-- the pointers of an object, from its head words
count-read : (f : Fields) (words : List ℕ) (s : ℕ) → f ≡ fields_of (get_or words s 0) → s + 1 + slots_at words s ≤ length words → (24 ≤ f.format → 0 < slots_at words s) → pointer_count (body_from f (slots_from words s)) ≡ pointers_at words s
unfolding pointer_count pointers_at
count-read f words s e fits some =
    let z : s + 1 + 0 ≡ s + 1 = omega arith in
    pointers-same f.format (length (slots_from words s)) (literals_of (get_or (slots_from words s) 0 0)) (literals_of (get_or words (s + 1) 0)) (λ l. ap literals_of (slot-at words s 0 (some l) ∙ ap (λ i. get_or words i 0) z))
    ∙ (λ i. pointer_slots_of (e i).format (slots-long words s fits i) (literals_of (get_or words (s + 1) 0)))

-- an object has the fields of its header, and its words are the slots
pub record Object (words : List ℕ) (cs : List Chunk) (s : ℕ) : Type 0 where
  pub fields : Fields
  pub is : fields ≡ fields_of (get_or words s 0)
  pub there : is_there (cell_from fields (start_named heap_to words (get_or words (s + 1) 0)) (slots_from words s)) ≡ true
  pub body : body_at (heap_store words cs) s ≡ body_from fields (slots_from words s)
  pub fits : s + 1 + slots_at words s ≤ length words
  pub long : length (body_at (heap_store words cs) s).words ≡ slots_at words s
  pub count : pointer_count (body_at (heap_store words cs) s) ≡ pointers_at words s
  pub few : pointers_at words s ≤ slots_at words s
  pub slot : (i : ℕ) → i < slots_at words s → get_or (body_at (heap_store words cs) s).words i 0 ≡ get_or words (s + 1 + i) 0

pub object-words : (words : List ℕ) (cs : List Chunk) (s : ℕ) → InOrder words 0 (length words) cs → is_there (cell_in heap_to words cs s) ≡ true → is_formed (body_at (heap_store words cs) s) ≡ true → Object words cs s
object-words words cs s order there formed =
    let a = reads words cs s order (start-read heap_to words (length words) cs s order (there_starts (cell_in heap_to words cs s) there)).stands in
    let next : ℕ = start_named heap_to words (get_or words (s + 1) 0) in
    let f : Fields = fields_of (get_or words s 0) in
    let b : Body = body_at (heap_store words cs) s in
    let on : is_there (cell_from f next (slots_from words s)) ≡ true = ap is_there (sym a.cell) ∙ there in
    let body : b ≡ body_from f (slots_from words s) = ap body_of (a.cell ∙ there_from f next next (slots_from words s) (slots_from words s) on) in
    let long : length b.words ≡ slots_at words s = ap (λ (c : Body). length c.words) body ∙ slots-long words s a.fits in
    let fit = pointers_fit b formed in
    let some : 24 ≤ f.format → 0 < slots_at words s = λ l. let m : 24 ≤ b.format = subst (λ (c : Body). 24 ≤ c.format) (sym body) l in let one = method_some b m in omega (arith, one, fit, long) in
    let count : pointer_count b ≡ pointers_at words s = ap pointer_count body ∙ count-read f words s refl a.fits some in
    record {
      fields = f;
      is = refl;
      there = on;
      body = body;
      fits = a.fits;
      long = long;
      count = count;
      few = omega (arith, fit, long, count);
      slot = λ i l. ap (λ (c : Body). get_or c.words i 0) body ∙ slot-at words s i l;
    }
