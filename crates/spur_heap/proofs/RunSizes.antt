-- The sizes of the free chunks as the lists have them, and how a need is served by them.
use Rattle.std.proofs.Common.{◌≡◌, ℕ, true, false, ◌+◌, ◌≤◌, eqb, leb, List, [], ◌∷◌, map, length, get_or, sym, ap, ◌∙◌, subst, inl, inr, Some, None}
use Rattle.std.proofs.lemmas.Bool.{eqb-true, leb-true, eq-eqb, le-leb, or_cases, or_left, or_right, false_from_ne_true}
use Rattle.std.specs.List.{find}
use Rattle.std.specs.Option.{option_map}
use Rattle.object_header.specs.Chunks.{Chunk}
use Rattle.spur_graph.specs.FreeSizes.{fits, ascending, shortened}
use Rattle.spur_graph.specs.Room.{Old}
use Rattle.spur_graph.specs.Serve.{OldAlone, Served, serve}
use Rattle.spur_graph.specs.CellRoom.{is_free, free_sizes}
use Rattle.spur_graph.specs.HeapRoom.{room_in}
use Rattle.spur_graph.specs.Spaces.{old_row, young_row}
use Rattle.spur_graph.specs.Heaps.{View, IsWhole, store_of, chunks_of, heap_to, heap_room}
use Rattle.heap_cells.proofs.Members.{In, in_list, listed, in_left}
use Rattle.heap_cells.proofs.AddedRoom.{in_map}
use Rattle.heap_cells.proofs.FreeSizes.{least_found, no_size_found}
use Rattle.free_lists.specs.Rows.{free_runs, with_run}
use Rattle.free_lists.specs.Rows as lists
use Rattle.free_lists.specs.Lists.{Fits, NoneFits, IsFitting}
use Rattle.spur_heap.proofs.FreeRuns.{free_told}
use Rattle.spur_heap.proofs.Figures.{sizes_told}
use Rattle.spur_heap.proofs.Puts.{whole_sound}
use Rattle.spur_heap.proofs.Orders.{order}

pub map_in : {X Y : Type 0} (f : X → Y) (xs : List X) (x : X) → In xs x → In (map f xs) (f x)
map_in f [] x k = absurd k
map_in f (y ∷ ys) x k = elim k [ inl e ↦ inl (ap f e) | inr m ↦ inr (map_in f ys x m) ]

fits_true : (n size : ℕ) → Fits size n → fits n size ≡ true
fits_true n size k = elim k [ inl e ↦ or_left (eqb size n) (leb (n + 2) size) (eq-eqb size n e) | inr l ↦ or_right (eqb size n) (leb (n + 2) size) (le-leb (n + 2) size l) ]

fits_from : (n size : ℕ) → fits n size ≡ true → Fits size n
fits_from n size on = elim (or_cases (eqb size n) (leb (n + 2) size) on) [ inl e ↦ inl (eqb-true size n e) | inr l ↦ inr (leb-true (n + 2) size l) ]

module _ (v : View) (whole : IsWhole v) where
  abbrev runs : List (ℕ × ℕ)
  runs = free_runs v.words (old_row v.words v.spaces)

  pub told_free : (c : Chunk) → In (chunks_of v) c → lists.is_free (get_or v.words c.start 0) ≡ is_free (store_of v) c
  told_free c m = free_told heap_to v.words (length v.words) (chunks_of v) c (order v (whole_sound v whole)) m

  pub row_sizes : map (λ (r : ℕ × ℕ). r.1) runs ≡ free_sizes (store_of v) (old_row v.words v.spaces)
  row_sizes = sizes_told (store_of v) v.words (old_row v.words v.spaces) (λ c m. told_free c (in_left (old_row v.words v.spaces) (young_row v.words v.spaces) c m))

  free_is : (heap_room v).free ≡ ascending (map (λ (r : ℕ × ℕ). r.1) runs)
  unfolding room_in
  free_is = ap ascending (sym row_sizes)

  -- no free chunk serves
  pub nothing_serves : (n : ℕ) → NoneFits runs n → serve OldAlone (heap_room v) n ≡ None
  unfolding serve
  nothing_serves n none =
      let off : (x : ℕ) → In (map (λ (r : ℕ × ℕ). r.1) runs) x → fits n x ≡ false = λ x m. false_from_ne_true (fits n x) (λ on.
      let r = in_map (λ (r : ℕ × ℕ). r.1) runs x m in none r.0 (listed runs r.0 r.1) (subst (λ size. Fits size n) (sym r.2) (fits_from n x on))) in
      ap (option_map (λ size. let s : Served = record { space = Old; room = record (heap_room v) { free = shortened n size (heap_room v).free } } in s))
      (ap (find (fits n)) free_is ∙ no_size_found (fits n) (map (λ (r : ℕ × ℕ). r.1) runs) off)

  abbrev pub served_old : ℕ → ℕ → Served
  served_old n size = record { space = Old; room = record (heap_room v) { free = shortened n size (heap_room v).free } }

  -- the least that fits does
  pub least_serves : (n at size : ℕ) → IsFitting runs n (at, size) → serve OldAlone (heap_room v) n ≡ Some (served_old n size)
  unfolding serve
  least_serves n at size k =
      let least : (x : ℕ) → In (map (λ (r : ℕ × ℕ). r.1) runs) x → fits n x ≡ true → size ≤ x = λ x m on.
      let r = in_map (λ (r : ℕ × ℕ). r.1) runs x m in
      subst (λ y. size ≤ y) r.2 (k.least r.0 (listed runs r.0 r.1) (subst (λ y. Fits y n) (sym r.2) (fits_from n x on))) in
      ap (option_map (λ s. served_old n s))
      (ap (find (fits n)) free_is ∙ least_found (fits n) (map (λ (r : ℕ × ℕ). r.1) runs) size (map_in (λ (r : ℕ × ℕ). r.1) runs (at, size) (in_list runs (at, size) k.there)) (fits_true n size k.fits) least)
