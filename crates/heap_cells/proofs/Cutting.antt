-- Where the chunks of a row lie, and what stands at their starts.
use Rattle.std.proofs.Common.{◌≡◌, ◌≢◌, ℕ, suc, zero, true, cond, ◌+◌, ◌-◌, ◌≤◌, max, List, [], ◌∷◌, ◌++◌, length, get_or, refl, sym, ap, ◌∙◌, subst, inl, inr, arith, Option}
use Rattle.std.proofs.lemmas.Bool.{false≢true, cases_Bool, cases_eq, ne_eqb, eq-eqb, lt-ltb, le-ltb}
use Rattle.object_header.specs.Chunks.{Chunk, leads, chunk_of, IsChunk, Cuts, InOrder, chunks_from, chunks, row, slots_at}
use Rattle.spur_graph.specs.Cells.{Empty, read_cell, cell_in, is_start}
use Rattle.heap_cells.proofs.Members.{In}

-- a header stands in the first or second word, at least one word is behind it, and so are the slots
pub record Lies (at end : ℕ) (c : Chunk) : Type 0 where
  pub after : at ≤ c.at
  pub before : c.at + c.size ≤ end
  pub lead : c.at ≤ c.start
  pub room : c.start + 2 ≤ c.at + c.size
  pub slots : c.start + 1 + c.slots ≤ c.at + c.size

pub chunk_of-lies : (at w : ℕ) → Lies at (at + (chunk_of at w).size) (chunk_of at w)
unfolding chunk_of
chunk_of-lies at w = elim (cases_Bool (leads w)) [
  | inl is ↦ rw is (record { after = omega arith; before = omega arith; lead = omega arith; room = omega arith; slots = omega arith })
  | inr not ↦ rw not (record { after = omega arith; before = omega arith; lead = omega arith; room = omega arith; slots = omega arith })
]

pub chunk_of-at : (at w : ℕ) → (chunk_of at w).at ≡ at
unfolding chunk_of
chunk_of-at at w = refl

-- the first chunk of a row
pub first : (words : List ℕ) (at : ℕ) (c : Chunk) → IsChunk words at c → Lies at (at + c.size) c × (c.at ≡ at)
first words at c k = let e = k.is in (subst (λ (x : Chunk). Lies at (at + x.size) x) (sym e) (chunk_of-lies at (get_or words at 0)), ap (λ (x : Chunk). x.at) e ∙ chunk_of-at at (get_or words at 0))

-- the first chunk of a row in order
pub head : (words : List ℕ) (at end : ℕ) (c : Chunk) (cs : List Chunk) → InOrder words at end (c ∷ cs) → Lies at (c.at + c.size) c
head words at end c cs t =
    let f = first words c.at c t.1.0 in
    record { after = t.0; before = omega arith; lead = f.0.lead; room = f.0.room; slots = f.0.slots }

pub ends_after : (words : List ℕ) (at end : ℕ) (cs : List Chunk) → InOrder words at end cs → at ≤ end
ends_after words at end [] t = t
ends_after words at end (c ∷ cs) t = let l : c.at + c.size ≤ end = ends_after words (c.at + c.size) end cs t.1.1 in omega (arith, t.0, l)

-- chunks that cut a range stand in order
pub cuts-in_order : (words : List ℕ) (at end : ℕ) (cs : List Chunk) → Cuts words at end cs → InOrder words at end cs
cuts-in_order words at end [] t = omega (arith, t)
cuts-in_order words at end (c ∷ cs) t =
    let f = first words at c t.0 in (
      omega (arith, f.1),
      (subst (λ n. IsChunk words n c) (sym f.1) t.0, subst (λ n. InOrder words (n + c.size) end cs) (sym f.1) (cuts-in_order words (at + c.size) end cs t.1)),
    )

-- a row behind another, perhaps with words between the two
pub in_order-append : (words : List ℕ) (at mid from end : ℕ) (xs ys : List Chunk) → InOrder words at mid xs → mid ≤ from → InOrder words from end ys → InOrder words at end (xs ++ ys)
in_order-append words at mid from end [] [] t l u = omega (arith, t, l, u)
in_order-append words at mid from end [] (y ∷ ys) t l u = (omega (arith, t, l, u.0), u.1)
in_order-append words at mid from end (x ∷ xs) ys t l u = (t.0, (t.1.0, in_order-append words (x.at + x.size) mid from end xs ys t.1.1 l u))

-- the same row among more words
pub in_order-wider : (words : List ℕ) (at end more : ℕ) (cs : List Chunk) → InOrder words at end cs → end ≤ more → InOrder words at more cs
in_order-wider words at end more [] t l = omega (arith, t, l)
in_order-wider words at end more (c ∷ cs) t l = (t.0, (t.1.0, in_order-wider words (c.at + c.size) end more cs t.1.1 l))

-- a chunk of a row
pub record Stands (words : List ℕ) (at end : ℕ) (c : Chunk) : Type 0 where
  pub chunk : IsChunk words c.at c
  pub lies : Lies at end c

pub stands : (words : List ℕ) (at end : ℕ) (cs : List Chunk) (c : Chunk) → InOrder words at end cs → In cs c → Stands words at end c
stands words at end [] c t k = absurd k
stands words at end (d ∷ cs) c t k =
    let f = head words at end d cs t in
    let l = ends_after words (d.at + d.size) end cs t.1.1 in
    elim k [
      | inl e ↦ subst (Stands words at end) e (record {
        chunk = t.1.0;
        lies = record { after = f.after; before = l; lead = f.lead; room = f.room; slots = f.slots };
      })
      | inr m ↦
          let r = stands words (d.at + d.size) end cs c t.1.1 m in
          record { chunk = r.chunk; lies = record { after = let a = r.lies.after in let b = f.after in omega (arith, a, b); before = r.lies.before; lead = r.lies.lead; room = r.lies.room; slots = r.lies.slots } }
    ]

-- what the head words tell of the chunk, read from its start
pub record Shape (words : List ℕ) (c : Chunk) : Type 0 where
  pub lead : c.start ≡ c.at + cond (leads (get_or words c.start 0)) 1 0
  pub size : c.at + c.size ≡ c.start + 1 + max 1 c.slots
  pub slots : slots_at words c.start ≡ c.slots

shape_of : (words : List ℕ) (at : ℕ) → leads (get_or words (chunk_of at (get_or words at 0)).start 0) ≡ leads (get_or words at 0) → Shape words (chunk_of at (get_or words at 0))
unfolding chunk_of slots_at
shape_of words at twice = elim (cases_Bool (leads (get_or words at 0))) [
  | inl is ↦
      let big : leads (get_or words (at + 1) 0) ≡ true = rw is at twice in
      let back : at + 1 - 1 ≡ at = omega arith in
      rw is (record { lead = rw big refl; size = omega arith; slots = rw (big, back) refl })
  | inr not ↦ rw not (record { lead = rw not (omega arith); size = omega arith; slots = rw not refl })
]

pub shape : (words : List ℕ) (c : Chunk) → IsChunk words c.at c → Shape words c
shape words c k = subst (Shape words) (sym k.is) (shape_of words c.at (ap (λ (x : Chunk). leads (get_or words x.start 0)) (sym k.is) ∙ k.twice))

-- rows that end where others begin
pub Cuts-append : (words : List ℕ) (at mid end : ℕ) (xs ys : List Chunk) → Cuts words at mid xs → Cuts words mid end ys → Cuts words at end (xs ++ ys)
Cuts-append words at mid end [] ys t u = subst (λ k. Cuts words k end ys) (sym t) u
Cuts-append words at mid end (x ∷ xs) ys t u = (t.0, Cuts-append words (at + x.size) mid end xs ys t.1 u)

-- what stands in a row is what its chunks say
pub cell-at : (to : ℕ → Option ℕ) (words : List ℕ) (at end : ℕ) (cs : List Chunk) (c : Chunk) → InOrder words at end cs → In cs c → cell_in to words cs c.start ≡ read_cell to words c
unfolding cell_in
cell-at to words at end [] c t k = absurd k
cell-at to words at end (d ∷ cs) c t k = elim k [
  | inl e ↦ let s : d.start ≡ c.start = ap (λ (x : Chunk). x.start) e in rw (eq-eqb d.start c.start s) (ap (read_cell to words) e)
  | inr m ↦
      let f = head words at end d cs t in
      let r = stands words (d.at + d.size) end cs c t.1.1 m in
      let ne : d.start ≢ c.start = λ e. omega (arith, e, r.lies.after, r.lies.lead, f.room) in
      rw (ne_eqb d.start c.start ne) (cell-at to words (d.at + d.size) end cs c t.1.1 m)
]

pub start-in : (to : ℕ → Option ℕ) (words : List ℕ) (cs : List Chunk) (s : ℕ) → is_start (cell_in to words cs s) ≡ true → (c : Chunk) × In cs c × (c.start ≡ s)
unfolding cell_in
start-in to words [] s k = absurd (false≢true k)
start-in to words (c ∷ cs) s k = elim (cases_eq c.start s) [
  | inl e ↦ (c, inl refl, e)
  | inr n ↦ let r = start-in to words cs s (rw (ne_eqb c.start s n) at k) in (r.0, inr r.1, r.2)
]

-- nothing stands where no chunk has its start
pub cell-none : (to : ℕ → Option ℕ) (words : List ℕ) (cs : List Chunk) (s : ℕ) → ((c : Chunk) → In cs c → c.start ≢ s) → cell_in to words cs s ≡ Empty
unfolding cell_in
cell-none to words [] s none = refl
cell-none to words (c ∷ cs) s none = rw (ne_eqb c.start s (none c (inl refl))) (cell-none to words cs s (λ d m. none d (inr m)))

-- each chunk takes words, so that as many steps as words are enough
pub chunks_from-are : (words : List ℕ) (most at end : ℕ) (cs : List Chunk) → Cuts words at end cs → end - at ≤ most → chunks_from most words at end ≡ cs
unfolding chunks_from
chunks_from-are words zero at end [] t l = refl
chunks_from-are words zero at end (c ∷ cs) t l = let f = first words at c t.0 in let k = ends_after words (at + c.size) end cs (cuts-in_order words (at + c.size) end cs t.1) in absurd (omega (arith, f.0.room, f.0.lead, f.1))
chunks_from-are words (suc most) at end [] t l = rw (le-ltb at end (omega (arith, t))) refl
chunks_from-are words (suc most) at end (c ∷ cs) t l =
    let f = first words at c t.0 in
    let k = ends_after words (at + c.size) end cs (cuts-in_order words (at + c.size) end cs t.1) in
    let here : chunk_of at (get_or words at 0) ≡ c = sym t.0.is in
    let rest : chunks_from most words (at + c.size) end ≡ cs = chunks_from-are words most (at + c.size) end cs t.1 (omega (arith, f.0.room, f.0.lead, f.1)) in
    rw (lt-ltb at end (omega (arith, f.0.room, f.0.lead, f.1)))
    (ap (λ (x : Chunk). chunk_of at (get_or words at 0) ∷ chunks_from most words (at + x.size) end) here ∙ (ap (λ (x : Chunk). x ∷ chunks_from most words (at + c.size) end) here ∙ ap (λ xs. c ∷ xs) rest))

pub chunks-are : (words : List ℕ) (cs : List Chunk) → Cuts words 0 (length words) cs → chunks words ≡ cs
unfolding chunks
chunks-are words cs t = chunks_from-are words (length words) 0 (length words) cs t (omega arith)

-- the chunks of a range
pub row-is : (words : List ℕ) (from end : ℕ) (cs : List Chunk) → Cuts words from end cs → row words from end ≡ cs
row-is words from end cs t = chunks_from-are words (end - from) from end cs t (omega arith)

-- the chunks of all words stand in order
pub all-in_order : (words : List ℕ) → Cuts words 0 (length words) (chunks words) → InOrder words 0 (length words) (chunks words)
all-in_order words t = cuts-in_order words 0 (length words) (chunks words) t
