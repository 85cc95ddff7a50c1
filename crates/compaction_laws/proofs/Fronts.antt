-- The front of a row, and the first five chunks of a heap.
use Rattle.std.proofs.Common.{◌≡◌, ◌≢◌, ℕ, suc, zero, true, not, ◌&&◌, ◌+◌, ◌<◌, ◌≤◌, List, [], ◌∷◌, ◌++◌, take, drop, length, get_or, refl, sym, ap, ◌∙◌, subst, arith, inl, inr}
use Rattle.std.proofs.lemmas.Bool.{cases_lt, eq-eqb, ne_eqb, or_left, or_right}
use Rattle.std.proofs.lemmas.List.{length-map, length-take-le, get_or_default, take-append-drop}
use Rattle.std.proofs.lemmas.List.Elements.{Contains-get_or}
use Rattle.object_header.specs.Chunks.{Chunk, Cuts, InOrder, slots_at}
use Rattle.spur_graph.specs.Cells.{Store, is_there, first}
use Rattle.spur_graph.specs.Ordinary.{is_internal, roots_slots}
use Rattle.spur_graph.specs.Spaces.{old_row, young_row}
use Rattle.spur_graph.specs.Heaps.{IsWhole, View, is_marked, store_of, chunks_of}
use Rattle.heap_cells.specs.Rows.{starts_of}
use Rattle.heap_cells.proofs.Cutting.{first as first-lies, cuts-in_order, stands, shape}
use Rattle.heap_cells.proofs.Members.{In, in_list, listed, chunk_of_start, start_of_chunk, start-front}
use Rattle.heap_cells.proofs.Spaced.{rows-in_order}
use Rattle.heap_cells.proofs.Starts.{starts-rise}
use Rattle.heap_laws.proofs.ObjectWords.{Object, object-words}
use Rattle.compaction_laws.specs.Compacting.{IsTight, is_marked_object, is_mapped, behind_roots}

-- ---- rows

-- a row is cut where some of its chunks end
pub cuts-split : (n : ℕ) (words : List ℕ) (at end : ℕ) (cs : List Chunk) → Cuts words at end cs → n ≤ length cs → (mid : ℕ) × Cuts words at mid (take n cs) × Cuts words mid end (drop n cs)
cuts-split zero words at end cs t l = (at, refl, t)
cuts-split (suc n) words at end [] t l = absurd (omega (arith, l))
cuts-split (suc n) words at end (c ∷ cs) t l = let r = cuts-split n words (at + c.size) end cs t.1 (omega (arith, l)) in (r.0, (t.0, r.1), r.2)

-- where the last chunk ends
pub last-end : (n : ℕ) (words : List ℕ) (at mid : ℕ) (cs : List Chunk) → Cuts words at mid cs → length cs ≡ suc n → (c : Chunk) × In cs c × (c.start ≡ get_or (starts_of cs) n 0) × (c.at + c.size ≡ mid)
last-end n words at mid [] t e = absurd (omega (arith, e))
last-end zero words at mid (c ∷ []) t e = (c, inl refl, refl, ap (λ n. n + c.size) (first-lies words at c t.0).1 ∙ t.1)
last-end zero words at mid (c ∷ d ∷ cs) t e = absurd (omega (arith, e))
last-end (suc n) words at mid (c ∷ cs) t e = let r = last-end n words (at + c.size) mid cs t.1 (omega (arith, e)) in (r.0, inr r.1, r.2, r.3)

-- the number of a chunk
pub number-of : (cs : List Chunk) (c : Chunk) → In cs c → (j : ℕ) × (j < length cs) × (get_or (starts_of cs) j 0 ≡ c.start)
number-of cs c m =
    let r = listed (starts_of cs) c.start (start_of_chunk cs c m) in
    let l = r.1 in
    (r.0, omega (arith, l, length-map cs (λ (c : Chunk). c.start)), get_or_default (starts_of cs) r.0 0 c.start l ∙ r.2)

module _ {v : View} (k : IsWhole v) where
  abbrev old : Store
  old = store_of v

  pub order : InOrder v.words 0 (length v.words) (chunks_of v)
  order = rows-in_order v.words v.limits v.spaces k.spaces k.rows

  abbrev pub front : List Chunk
  front = take 5 (old_row v.words v.spaces)

  abbrev pub behind : List Chunk
  behind = drop 5 (old_row v.words v.spaces)

  pub front-behind : front ++ behind ≡ old_row v.words v.spaces
  front-behind = take-append-drop 5 (old_row v.words v.spaces)

  pub front-long : length front ≡ 5
  front-long = length-take-le 5 (old_row v.words v.spaces) k.rows.five

  -- the first five starts are those of the front
  pub front-start : (j : ℕ) → j < 5 → get_or (starts_of front) j 0 ≡ first old j
  front-start j l =
      sym (start-front front behind j (omega (arith, l, front-long)))
      ∙ ap (λ cs. get_or (starts_of cs) j 0) front-behind
      ∙ sym (start-front (old_row v.words v.spaces) (young_row v.words v.spaces) j (let five = k.rows.five in omega (arith, l, five)))

  pub front-chunk : (j : ℕ) → j < 5 → (c : Chunk) × In front c × (c.start ≡ first old j)
  front-chunk j l =
      let low : j < length (starts_of front) = omega (arith, l, front-long, length-map front (λ (c : Chunk). c.start)) in
      let r = chunk_of_start front (get_or (starts_of front) j 0) (in_list (starts_of front) (get_or (starts_of front) j 0) (Contains-get_or (starts_of front) j 0 low)) in
      (r.0, r.1, r.2 ∙ front-start j l)

  pub front-number : (c : Chunk) → In front c → (j : ℕ) × (j < 5) × (c.start ≡ first old j)
  front-number c m =
      let r = number-of front c m in
      let l = r.1 in
      let low : r.0 < 5 = omega (arith, l, front-long) in
      (r.0, low, sym r.2 ∙ front-start r.0 low)

  pub firsts-rise : (i j : ℕ) → i < j → j < 5 → first old i < first old j
  firsts-rise i j l m = (starts-rise v.words (length v.words) (chunks_of v) order).rising i j l (let five = k.sound.roots.five in omega (arith, m, five))

  -- an object in words
  pub object-at : (s : ℕ) → is_there (old.cell s) ≡ true → Object v.words (chunks_of v) s
  object-at s there = object-words v.words (chunks_of v) s order there (k.sound.formed s there)

  -- the front ends behind the hidden roots
  pub split : (Cuts v.words 0 (behind_roots v) front) × Cuts v.words (behind_roots v) v.spaces.old_end behind
  split =
      let r = cuts-split 5 v.words 0 v.spaces.old_end (old_row v.words v.spaces) k.rows.old k.rows.five in
      let e = last-end 4 v.words 0 r.0 front r.1 front-long in
      let h = shape v.words e.0 (stands v.words 0 r.0 front e.0 (cuts-in_order v.words 0 r.0 front r.1) e.1).chunk in
      let four : e.0.start ≡ first old 4 = e.2 ∙ front-start 4 (omega arith) in
      let slots : e.0.slots ≡ roots_slots = sym h.slots ∙ ap (slots_at v.words) four ∙ sym (object-at (first old 4) (k.sound.roots.objects 4 (omega arith))).long ∙ k.sound.roots.roots.1 in
      let size = h.size in
      let end = e.3 in
      let is : r.0 ≡ behind_roots v = omega (arith, size, end, four, slots) in
      (subst (λ m. Cuts v.words 0 m front) is r.1, subst (λ m. Cuts v.words m v.spaces.old_end behind) is r.2)

  module _ (t : IsTight v) where
    -- the free lists object and the hidden roots are internal
    pub internal_three : is_internal old (first old 3) ≡ true
    unfolding is_internal
    internal_three = or_left _ _ (or_left _ _ (eq-eqb (first old 3) (first old 3) refl))

    internal_four : is_internal old (first old 4) ≡ true
    unfolding is_internal
    internal_four = or_left _ _ (or_right _ _ (eq-eqb (first old 4) (first old 4) refl))

    pub first-marked : (j : ℕ) → j < 5 → is_marked_object v (first old j) ≡ true
    first-marked j l = λ x. k.sound.roots.objects j l x && marks j l x
      where
        marks : (j : ℕ) → j < 5 → is_marked v.words (first old j) ≡ true
        marks zero l = t.firsts 0 (omega arith)
        marks (suc zero) l = t.firsts 1 (omega arith)
        marks (suc (suc zero)) l = t.firsts 2 (omega arith)
        marks (suc (suc (suc zero))) l = t.internal (first old 3) internal_three
        marks (suc (suc (suc (suc zero)))) l = t.internal (first old 4) internal_four
        marks (suc (suc (suc (suc (suc j))))) l = absurd (omega (arith, l))

    pub first-mapped : (j : ℕ) → j < 5 → j ≢ 3 → is_mapped v (first old j) ≡ true
    first-mapped j l n = λ x. first-marked j l x && not (ne_eqb (first old j) (first old 3) other x)
      where
        other : first old j ≢ first old 3
        other e = elim (cases_lt j 3) [
          | inl low ↦ let r = firsts-rise j 3 low (omega arith) in omega (arith, r, e)
          | inr high ↦ let r = firsts-rise 3 j (omega (arith, high, n)) l in omega (arith, r, e)
        ]
