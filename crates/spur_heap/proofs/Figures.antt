-- What is counted of a heap: its objects, and the words of its free chunks.
use Rattle.std.proofs.Common.{◌≡◌, ℕ, Bool, true, false, not, cond, max, nat_le, ◌+◌, ◌-◌, ◌≤◌, List, [], ◌∷◌, map, length, get_or, refl, sym, ap, ◌∙◌, arith, inl, inr, None}
use Rattle.std.proofs.lemmas.Bool.{cases_Bool, cases_lt}
use Rattle.std.proofs.lemmas.List.Sums.{sum_by-cons}
use Rattle.std.specs.Option.{is_some}
use Rattle.std.specs.List.{filter, sum}
use Rattle.std.specs.Ordering.{nat_cmp, eq_by_cmp}
use Rattle.std.specs.Cmp.{nat_cmp_total}
use Rattle.std.specs.FinMap.{FinMap, get, from_entries, find, get-from_entries, len, len-insert, len-empty}
use Rattle.object_header.specs.Chunks.{Chunk, InOrder}
use Rattle.spur_graph.specs.Cells.{Store, is_start}
use Rattle.spur_graph.specs.Ordinary.{is_ordinary, ordinary_starts, body_at}
use Rattle.spur_graph.specs.CellGraph.{node_of, nodes_of}
use Rattle.spur_graph.specs.CellRoom.{free_sizes}
use Rattle.spur_graph.specs.FreeSizes.{among, ascending, largest}
use Rattle.spur_graph.specs.HeapRoom.{room_in}
use Rattle.spur_graph.specs.Spaces.{old_row, young_row}
use Rattle.spur_graph.specs.Heaps.{View, IsWhole, store_of, chunks_of, heap_to, heap_graph, heap_room, own_name}
use Rattle.heap_cells.specs.Rows.{starts_of}
use Rattle.heap_cells.proofs.Cutting.{stands}
use Rattle.heap_cells.proofs.Finding.{key_same}
use Rattle.heap_cells.proofs.Members.{In, in_list, listed, in_left, filter_in, chunk_of_start}
use Rattle.free_lists.specs.Rows.{is_free, free_runs}
use Rattle.free_lists.specs.Lists.{total_of, IsGreatest}
use Rattle.spur_heap.proofs.Orders.{order}
use Rattle.spur_heap.proofs.FreeRuns.{free_told}
use Rattle.spur_heap.proofs.Puts.{whole_sound}

-- ---- objects

-- none of these stands twice
abbrev pub AreOnce : List ℕ → Type 0
AreOnce [] = Unit {0}
AreOnce (t ∷ ts) = (In ts t → ⊥) × AreOnce ts

pub starts_once : (words : List ℕ) (at end : ℕ) (cs : List Chunk) → InOrder words at end cs → AreOnce (starts_of cs)
starts_once words at end [] t = tt
starts_once words at end (c ∷ cs) t = (
  λ m.
      let d = chunk_of_start cs c.start m in
      let l = (stands words (c.at + c.size) end cs d.0 t.1.1 d.1).lies in
      let own = (stands words at end (c ∷ cs) c t (inl refl)).lies in
      omega (arith, l.after, l.lead, d.2, own.room),
  starts_once words (c.at + c.size) end cs t.1.1,
)

filter_once : (test : ℕ → Bool) (ts : List ℕ) → AreOnce ts → AreOnce (filter test ts)
filter_once test [] k = tt
filter_once test (t ∷ ts) k = elim (cases_Bool (test t)) [
  | inl on ↦ rw on (λ m. k.0 (filter_in test ts t m).0, filter_once test ts k.1)
  | inr off ↦ rw off (filter_once test ts k.1)
]

module _ {X : Type 0} (g : ℕ → X) where
  find_none : (ts : List ℕ) (k : ℕ) → (In ts k → ⊥) → find nat_cmp k (map (λ t. (t, g t)) ts) ≡ None
  find_none [] k n = refl
  find_none (t ∷ ts) k n = elim (cases_Bool (eq_by_cmp nat_cmp k t)) [
    | inl on ↦ absurd (n (inl (sym (key_same k t on))))
    | inr off ↦ rw off (find_none ts k (λ m. n (inr m)))
  ]

  -- a table has as many entries as distinct keys
  table_length : (ts : List ℕ) → AreOnce ts → len (from_entries {R = nat_cmp} (map (λ t. (t, g t)) ts)) ≡ length ts
  table_length [] k = len-empty nat_cmp X
  table_length (t ∷ ts) k =
      let m : FinMap nat_cmp X = from_entries {R = nat_cmp} (map (λ u. (u, g u)) ts) in
      let none : is_some (get m t) ≡ false = ap is_some (get-from_entries nat_cmp_total (map (λ u. (u, g u)) ts) t ∙ find_none ts t k.0) in
      let more : len m ≡ length ts = table_length ts k.1 in
      len-insert nat_cmp_total m t (g t) ∙ ap (λ b. cond b (len m) (len m + 1)) none ∙ omega (arith, more)

pub node_count : (v : View) → IsWhole v → len (heap_graph v).nodes ≡ length (ordinary_starts (store_of v))
unfolding nodes_of ordinary_starts
node_count v whole =
    table_length (λ s. node_of own_name (store_of v) (body_at (store_of v) s)) (ordinary_starts (store_of v))
    (filter_once (is_ordinary (store_of v)) (starts_of (chunks_of v)) (starts_once v.words 0 (length v.words) (chunks_of v) (order v (whole_sound v whole))))

-- ---- free chunks

sum-among : (n : ℕ) (sizes : List ℕ) → sum (among n sizes) ≡ n + sum sizes
unfolding among
sum-among n [] = omega arith
sum-among n (m ∷ sizes) = elim (cases_Bool (nat_le n m)) [
  | inl on ↦ rw on (sum_by-cons (λ k. k) n (m ∷ sizes))
  | inr off ↦ let more : sum (among n sizes) ≡ n + sum sizes = sum-among n sizes in rw off (omega (arith, more, sum_by-cons (λ k. k) m (among n sizes), sum_by-cons (λ k. k) m sizes))
]

sum-ascending : (sizes : List ℕ) → sum (ascending sizes) ≡ sum sizes
unfolding ascending
sum-ascending [] = refl
sum-ascending (n ∷ sizes) = sum-among n (ascending sizes) ∙ (let more : sum (ascending sizes) ≡ sum sizes = sum-ascending sizes in omega (arith, more, sum_by-cons (λ k. k) n sizes))

largest-among : (n : ℕ) (sizes : List ℕ) → largest (among n sizes) ≡ max n (largest sizes)
unfolding among largest
largest-among n [] = refl
largest-among n (m ∷ sizes) = elim (cases_Bool (nat_le n m)) [
  | inl on ↦ rw on refl
  | inr off ↦ let more = largest-among n sizes in rw off (omega (arith, more))
]

largest-ascending : (sizes : List ℕ) → largest (ascending sizes) ≡ largest sizes
unfolding ascending largest
largest-ascending [] = refl
largest-ascending (n ∷ sizes) = let more = largest-ascending sizes in largest-among n (ascending sizes) ∙ ap (max n) more

pub sizes_told : (h : Store) (words : List ℕ) (cs : List Chunk) → ((c : Chunk) → In cs c → is_free (get_or words c.start 0) ≡ not (is_start (h.cell c.start))) → map (λ (r : ℕ × ℕ). r.1) (free_runs words cs) ≡ free_sizes h cs
unfolding free_runs
sizes_told h words [] told = refl
sizes_told h words (c ∷ cs) told =
    let more : map (λ (r : ℕ × ℕ). r.1) (free_runs words cs) ≡ free_sizes h cs = sizes_told h words cs (λ d m. told d (inr m)) in
    elim (cases_Bool (is_free (get_or words c.start 0))) [
      | inl on ↦ let there : not (is_start (h.cell c.start)) ≡ true = sym (told c (inl refl)) ∙ on in rw (on, there) (ap (λ sizes. c.size ∷ sizes) more)
      | inr off ↦ let there : not (is_start (h.cell c.start)) ≡ false = sym (told c (inl refl)) ∙ off in rw (off, there) more
    ]

total_is : (runs : List (ℕ × ℕ)) → total_of runs ≡ sum (map (λ (r : ℕ × ℕ). r.1) runs)
total_is [] = refl
total_is (r ∷ runs) =
    let more : total_of runs ≡ sum (map (λ (x : ℕ × ℕ). x.1) runs) = total_is runs in
    omega (arith, more, sum_by-cons (λ (x : ℕ × ℕ). x.1) r runs, sum_by-cons (λ k. k) r.1 (map (λ (x : ℕ × ℕ). x.1) runs))

largest_below : (runs : List (ℕ × ℕ)) (n : ℕ) → ((x : ℕ × ℕ) → In runs x → x.1 ≤ n) → largest (map (λ (r : ℕ × ℕ). r.1) runs) ≤ n
unfolding largest
largest_below [] n k = omega arith
largest_below (r ∷ runs) n k = let more = largest_below runs n (λ x m. k x (inr m)) in omega (arith, more, k r (inl refl))

largest_above : (runs : List (ℕ × ℕ)) (x : ℕ × ℕ) → In runs x → x.1 ≤ largest (map (λ (r : ℕ × ℕ). r.1) runs)
unfolding largest
largest_above [] x m = absurd m
largest_above (r ∷ runs) x m = elim m [
  | inl e ↦ let same : r.1 ≡ x.1 = ap (λ (y : ℕ × ℕ). y.1) e in omega (arith, same)
  | inr n ↦ let more = largest_above runs x n in omega (arith, more)
]

greatest_is : (runs : List (ℕ × ℕ)) (size : ℕ) → IsGreatest runs size → size ≡ largest (map (λ (r : ℕ × ℕ). r.1) runs)
greatest_is runs size k =
    let top = largest_below runs size (λ x m. k.most x (listed runs x m)) in
    elim (cases_lt 0 size) [
      | inr none ↦ omega (arith, none, top)
      | inl some ↦ let there = k.there some in let low = largest_above runs (there.0, size) (in_list runs (there.0, size) there.1) in omega (arith, top, low)
    ]

module _ (v : View) (whole : IsWhole v) where
  told : (c : Chunk) → In (old_row v.words v.spaces) c → is_free (get_or v.words c.start 0) ≡ not (is_start ((store_of v).cell c.start))
  told c m = free_told heap_to v.words (length v.words) (chunks_of v) c (order v (whole_sound v whole)) (in_left (old_row v.words v.spaces) (young_row v.words v.spaces) c m)

  pub free_total : total_of (free_runs v.words (old_row v.words v.spaces)) ≡ sum (heap_room v).free
  unfolding room_in
  free_total =
      total_is (free_runs v.words (old_row v.words v.spaces)) ∙ ap sum (sizes_told (store_of v) v.words (old_row v.words v.spaces) told)
      ∙ sym (sum-ascending (free_sizes (store_of v) (old_row v.words v.spaces)))

  pub free_largest : (size : ℕ) → IsGreatest (free_runs v.words (old_row v.words v.spaces)) size → size ≡ largest (heap_room v).free
  unfolding room_in
  free_largest size k =
      greatest_is (free_runs v.words (old_row v.words v.spaces)) size k ∙ ap largest (sizes_told (store_of v) v.words (old_row v.words v.spaces) told)
      ∙ sym (largest-ascending (free_sizes (store_of v) (old_row v.words v.spaces)))

  pub eden_room : (heap_room v).eden_left ≡ v.limits.eden - v.spaces.eden_used
  unfolding room_in
  eden_room = refl

  pub past_room : (heap_room v).past_used ≡ v.spaces.past_used
  unfolding room_in
  past_room = refl
