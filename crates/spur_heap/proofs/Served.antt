-- A free chunk of old space gives its low words away, and the rest of it stays a free chunk: what other words and chunks are then.
use Rattle.std.proofs.Common.{◌≡◌, ◌⊎◌, ℕ, Bool, true, false, cond, not, ◌+◌, ◌-◌, ◌<◌, ◌≤◌, eqb, ltb, List, [], ◌∷◌, ◌++◌, map, length, get_or, refl, sym, ap, ◌∙◌, subst, arith, inl, inr, append_assoc}
use Rattle.std.proofs.lemmas.Bool.{false≢true, cases_Bool, cases_eq, cases_lt, eq-eqb, ltb-true, ltb-false}
use Rattle.std.specs.List.{Contains}
use Rattle.std.specs.List.Sorted.{IsPermutation}
use Rattle.std.proofs.lemmas.List.Elements.{Contains-append_right, Contains-append_left, Contains-append_cases}
use Rattle.std.proofs.lemmas.List.Sorted.{IsPermutation-middle}
use Rattle.object_header.specs.Head.{class_of}
use Rattle.object_header.specs.Fields.{fields_of}
use Rattle.object_header.specs.Chunks.{Chunk, Cuts}
use Rattle.spur_graph.specs.Cells.{Empty, read_cell}
use Rattle.spur_graph.specs.Spaces.{old_row, young_row}
use Rattle.spur_graph.specs.Heaps.{View, IsWhole, HasBits, chunks_of, heap_to, is_remembered}
use Rattle.heap_cells.proofs.Appending.{read-free}
use Rattle.heap_cells.proofs.Members.{In, listed, in_either, in_left, in_right}
use Rattle.heap_cells.proofs.Cutting.{stands}
use Rattle.heap_cells.proofs.Splitting.{StandsAs, words_kept}
use Rattle.object_header.specs.Fields.{free_header}
use Rattle.free_lists.specs.Runs.{IsFree, covers, cover}
use Rattle.free_lists.specs.Rows.{free_runs, with_run, written}
use Rattle.free_lists.specs.Rows as lists
use Rattle.free_lists.specs.Lists.{Lists, IsOutside, Takes, rest_of}
use Rattle.free_lists.specs.declared.lists.FreeLists.{FreeLists}
use Rattle.free_lists.proofs.Covers.{covers-inside, covers-outside, cover-cons, cover-append}
use Rattle.free_lists.proofs.Given.{keeps_lists}
use Rattle.free_lists.proofs.Rebuilt.{free_runs-append}
use Rattle.free_lists.proofs.Written.{free_is_written}
use Rattle.spur_heap.specs.Fresh.{SameOutside}
use Rattle.spur_heap.proofs.Among.{IsAmong, find_among, runs-free, same_place, no_runs, free_kept}
use Rattle.spur_heap.proofs.FreeRuns.{covered_by}
use Rattle.spur_heap.proofs.Puts.{whole_sound}
use Rattle.spur_heap.proofs.Orders.{order}
use Rattle.spur_heap.proofs.Rebuilt.{free_bits, run_in, short_count}
use Rattle.spur_heap.proofs.RunSizes.{told_free}

-- ---- the low words of a chunk were taken, and these alone were written

pub record IsServed (v : View) (free free' : FreeLists) (mid new : List ℕ) (at n : ℕ) : Type 0 where
  pub whole : IsWhole v
  pub lists : Lists v.words free (free_runs v.words (old_row v.words v.spaces))
  pub takes : Takes mid free' (free_runs v.words (old_row v.words v.spaces)) n at
  pub others : (j : ℕ) → IsOutside (free_runs v.words (old_row v.words v.spaces)) j → get_or mid j 0 ≡ get_or v.words j 0
  pub mid_long : length mid ≡ length v.words
  pub outside : SameOutside mid new at n
  pub long : length new ≡ length mid

module _ {v : View} {free free' : FreeLists} {mid new : List ℕ} {at n : ℕ} (k : IsServed v free free' mid new at n) where
  abbrev O : List Chunk
  O = old_row v.words v.spaces

  abbrev Y : List Chunk
  Y = young_row v.words v.spaces

  abbrev runs : List (ℕ × ℕ)
  runs = free_runs v.words O

  abbrev pub size : ℕ
  size = k.takes.size

  pub among : IsAmong v.words O (at, size)
  among = find_among v.words O (at, size) k.takes.fitting.there

  abbrev pub xs : List Chunk
  xs = among.before

  abbrev pub ys : List Chunk
  ys = among.behind

  abbrev pub f : Chunk
  f = among.chunk

  pub f_at : f.at ≡ at
  f_at = ap (λ (x : ℕ × ℕ). x.0) among.run

  pub f_size : f.size ≡ size
  f_size = ap (λ (x : ℕ × ℕ). x.1) among.run

  abbrev FX : List (ℕ × ℕ)
  FX = free_runs v.words xs

  abbrev FY : List (ℕ × ℕ)
  FY = free_runs v.words ys

  abbrev R : List (ℕ × ℕ)
  R = rest_of at size n

  runs_split : runs ≡ FX ++ (at, size) ∷ FY
  runs_split =
      ap (free_runs v.words) among.is ∙ free_runs-append v.words xs (f ∷ ys)
      ∙ ap (λ rs. FX ++ rs) (runs-free v.words f ys among.free ∙ ap (λ (x : ℕ × ℕ). x ∷ FY) among.run)

  pub within : n ≤ size
  within = elim k.takes.fitting.fits [ inl e ↦ omega (arith, e) | inr l ↦ omega (arith, l) ]

  parts_cover : (j : ℕ) → cover runs j ≡ cover FX j + (covers j (at, size) + cover FY j)
  parts_cover j = ap (λ rs. cover rs j) runs_split ∙ cover-append FX ((at, size) ∷ FY) j ∙ ap (λ m. cover FX j + m) (cover-cons (at, size) FY j)

  lists_mid : Lists mid free' (R ++ (FX ++ FY))
  lists_mid = k.takes.lists (FX ++ FY) (subst (λ rs. IsPermutation rs ((at, size) ∷ (FX ++ FY))) (sym runs_split) (IsPermutation-middle FX (at, size) FY))

  rest_cover : (j : ℕ) → j < at + n → cover R j ≡ 0
  rest_cover j l = go (ltb n size)
    where
      go : (b : Bool) → cover (cond b ((at + n, size - n) ∷ []) []) j ≡ 0
      go true = omega (arith, cover-cons (at + n, size - n) [] j, covers-outside j (at + n) (size - n) (inl l))
      go false = refl

  -- the object's words are those of no free chunk
  clear : (j : ℕ) → at ≤ j → j < at + n → cover (R ++ (FX ++ FY)) j ≡ 0
  clear j low high =
      omega (arith, cover-append R (FX ++ FY) j, cover-append FX FY j, rest_cover j high, parts_cover j, k.lists.apart j, covers-inside j at size low (omega (arith, high, within)))

  place_of : (j : ℕ) → ((at ≤ j) × (j < at + n)) ⊎ ((j < at) ⊎ (at + n ≤ j))
  place_of j = elim (cases_lt j at) [
    | inl l ↦ inr (inl l)
    | inr low ↦ elim (cases_lt j (at + n)) [ inl high ↦ inl (low, high) | inr past ↦ inr (inr past) ]
  ]

  pub lists_new : Lists new free' (R ++ (FX ++ FY))
  lists_new = keeps_lists mid new free' (R ++ (FX ++ FY)) lists_mid k.long (λ j some. elim (place_of j) [
    | inl inside ↦ absurd (omega (arith, some, clear j inside.0 inside.1))
    | inr out ↦ k.outside j out
  ])

  -- the other words that no free chunk had are the same
  pub words_same : (j : ℕ) → cover runs j ≡ 0 → get_or new j 0 ≡ get_or v.words j 0
  words_same j none = elim (place_of j) [
    | inl inside ↦ absurd (omega (arith, none, parts_cover j, covers-inside j at size inside.0 (omega (arith, inside.1, within))))
    | inr out ↦ k.outside j out ∙ k.others j none
  ]

  in_rows : (d : Chunk) → In O d → In (chunks_of v) d
  in_rows d m = in_left O Y d m

  -- and an object has such words alone
  pub object_words : (d : Chunk) → In (chunks_of v) d → lists.is_free (get_or v.words d.start 0) ≡ false → (j : ℕ) → d.at ≤ j → j < d.at + d.size → cover runs j ≡ 0
  object_words d m off j low high = elim (cases_eq (cover runs j) 0) [
    | inl none ↦ none
    | inr some ↦
        let h = covered_by v.words O j (omega (arith, some)) in
        let same : d ≡ h.chunk = same_place v.words 0 (length v.words) (chunks_of v) d h.chunk j (order v (whole_sound v k.whole)) m (in_rows h.chunk h.inside) low high h.from h.to in
        absurd (false≢true (sym off ∙ ap (λ (x : Chunk). lists.is_free (get_or v.words x.start 0)) same ∙ h.free))
  ]

  rows_split : chunks_of v ≡ xs ++ f ∷ (ys ++ Y)
  rows_split = ap (λ cs. cs ++ Y) among.is ∙ append_assoc xs (f ∷ ys) Y

  was_in : (d : Chunk) → In (xs ++ (ys ++ Y)) d → In (chunks_of v) d
  was_in d m = subst (λ cs. In cs d) (sym rows_split) (elim (in_either xs (ys ++ Y) d m) [ inl a ↦ in_left xs (f ∷ (ys ++ Y)) d a | inr a ↦ in_right xs (f ∷ (ys ++ Y)) d (inr a) ])

  -- a free chunk that stays is among the runs before and after
  free_before : (d : Chunk) → Contains (FX ++ FY) (d.at, d.size) → IsFree v.words d.at d.size
  free_before d m = k.lists.chunks (d.at, d.size) (subst (λ rs. Contains rs (d.at, d.size)) (sym runs_split) (elim (Contains-append_cases FX FY (d.at, d.size) m) [
    | inl a ↦ Contains-append_left FX ((at, size) ∷ FY) (d.at, d.size) a
    | inr a ↦ Contains-append_right FX ((at, size) ∷ FY) (d.at, d.size) (Contains-append_right ((at, size) ∷ []) FY (d.at, d.size) a)
  ]))

  free_after : (d : Chunk) → Contains (FX ++ FY) (d.at, d.size) → IsFree new d.at d.size
  free_after d m = lists_new.chunks (d.at, d.size) (Contains-append_right R (FX ++ FY) (d.at, d.size) m)

  young_starts : (d : Chunk) → In Y d → lists.is_free (get_or v.words d.start 0) ≡ false
  young_starts d m = told_free v k.whole d (in_right O Y d m) ∙ ap not (k.whole.young d (listed Y d m)).start

  pub stands_as : (d : Chunk) → In (xs ++ (ys ++ Y)) d → StandsAs v.words new d
  stands_as d m =
      let s = stands v.words 0 (length v.words) (chunks_of v) d (order v (whole_sound v k.whole)) (was_in d m) in
      elim (cases_Bool (lists.is_free (get_or v.words d.start 0))) [
        | inr off ↦ words_kept v.words new d (k.long ∙ k.mid_long) s.chunk (λ j low high. words_same j (object_words d (was_in d m) off j low high))
        | inl on ↦
            let there : Contains (FX ++ FY) (d.at, d.size) = elim (in_either xs (ys ++ Y) d m) [
              | inl a ↦ Contains-append_left FX FY (d.at, d.size) (listed FX (d.at, d.size) (run_in v.words xs d a on))
              | inr a ↦ elim (in_either ys Y d a) [
                | inl b ↦ Contains-append_right FX FY (d.at, d.size) (listed FY (d.at, d.size) (run_in v.words ys d b on))
                | inr b ↦ absurd (false≢true (sym (young_starts d b) ∙ on))
              ]
            ] in
            free_kept v.words new d s.chunk (free_before d there) (free_after d there)
      ]

  -- ---- the rest of the free chunk

  abbrev pub rest : List Chunk
  rest = cond (ltb n size) (written (at + n) (size - n) ∷ []) []

  -- what is known of the rest
  pub record RestIs (ds : List Chunk) (rs : List (ℕ × ℕ)) (sizes : List ℕ) : Type 0 where
    pub cut : Cuts new (at + n) (at + size) ds
    pub empty : (d : Chunk) → In ds d → read_cell heap_to new d ≡ Empty
    pub bits : (d : Chunk) → In ds d → HasBits v.phase (get_or new d.start 0)
    pub forgotten : (d : Chunk) → In ds d → is_remembered new d.start ≡ false
    pub runs_are : free_runs new ds ≡ rs
    pub sizes_are : map (λ (d : Chunk). d.size) ds ≡ sizes

  pub rest_is : RestIs rest R (cond (ltb n size) ((size - n) ∷ []) [])
  rest_is = go (ltb n size) refl
    where
      go : (b : Bool) → ltb n size ≡ b → RestIs (cond b (written (at + n) (size - n) ∷ []) []) (cond b ((at + n, size - n) ∷ []) []) (cond b ((size - n) ∷ []) [])
      go true e =
          let l = ltb-true n size e in
          let x : ℕ × ℕ = (at + n, size - n) in
          let first : Contains (x ∷ []) x = (0, omega arith, refl) in
          let there : Contains (R ++ (FX ++ FY)) x = Contains-append_left R (FX ++ FY) x (subst (λ b. Contains (cond b (x ∷ []) []) x) (sym e) first) in
          let w = free_is_written new (at + n) (size - n) (lists_new.chunks (at + n, size - n) there) in
          let clear = free_bits (cond (ltb 255 (size - n)) 255 (size - n - 1)) (short_count (size - n)) in
          let here : (d : Chunk) → In (written (at + n) (size - n) ∷ []) d → get_or new d.start 0 ≡ free_header (cond (ltb 255 (size - n)) 255 (size - n - 1)) =
          λ d m. elim m [ inl same ↦ ap (λ (x : Chunk). get_or new x.start 0) (sym same) ∙ w.header | inr none ↦ absurd none ] in
          record {
            cut = (w.chunk, omega (arith, l));
            empty = λ d m. elim m [ inl same ↦ ap (read_cell heap_to new) (sym same) ∙ read-free heap_to new (written (at + n) (size - n)) w.class | inr none ↦ absurd none ];
            bits = λ d m. subst (λ x. HasBits v.phase x) (sym (here d m)) (clear.bits v.phase);
            forgotten = λ d m. ap (λ x. eqb (fields_of x).remembered 1) (here d m) ∙ ap (λ x. eqb x 1) clear.forgotten;
            runs_are = runs-free new (written (at + n) (size - n)) [] (eq-eqb (class_of (get_or new (written (at + n) (size - n)).start 0)) 0 w.class) ∙ ap (λ rs. x ∷ rs) (no_runs new);
            sizes_are = refl;
          }
      go false e =
          let l = ltb-false n size e in
          record {
            cut = omega (arith, l, within);
            empty = λ d m. absurd m;
            bits = λ d m. absurd m;
            forgotten = λ d m. absurd m;
            runs_are = no_runs new;
            sizes_are = refl;
          }

  pub inside : at + n ≤ length new
  inside = let free_here = k.lists.chunks (at, size) k.takes.fitting.there in omega (arith, free_here.inside, within, k.long, k.mid_long)
