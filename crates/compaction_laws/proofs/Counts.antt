-- A compacted heap has as many ordinary objects as were marked.
use Rattle.std.proofs.Common.{◌≡◌, ◌≢◌, ℕ, Bool, true, false, cond, ◌&&◌, ◌+◌, List, [], ◌∷◌, map, length, refl, sym, ap, ◌∙◌, subst, inl, inr}
use Rattle.std.proofs.lemmas.Bool.{cases_Bool, and_from, and_parts}
use Rattle.std.proofs.lemmas.List.Sums.{length-filter, sum_by-cons}
use Rattle.std.specs.List.{count_by, filter, sum_by}
use Rattle.object_header.specs.Chunks.{Chunk}
use Rattle.spur_graph.specs.Cells.{Store}
use Rattle.spur_graph.specs.Ordinary.{is_ordinary, ordinary_starts}
use Rattle.spur_graph.specs.CellRoom.{ordinary_chunks}
use Rattle.spur_graph.specs.Heaps.{IsWhole, View, is_marked, store_of, chunks_of}
use Rattle.heap_cells.specs.Rows.{starts_of}
use Rattle.heap_cells.proofs.AddedRoom.{count-members}
use Rattle.heap_cells.proofs.Members.{In, in_filter, in_list, filter_in, listed}
use Rattle.heap_cells.proofs.References.{ordinary_there}
use Rattle.heap_laws.proofs.Places.{ordinary-placed}
use Rattle.heap_laws.proofs.Rooms.{apart_rise}
use Rattle.heap_laws.proofs.Sums.{apart_filter, sum-placed}
use Rattle.compaction_laws.specs.Compacting.{IsTight, Compacts}
use Rattle.compaction_laws.proofs.After.{new, new-is}
use Rattle.compaction_laws.proofs.RoomParts.{in-left, is-left, left, left-apart, placed}
use Rattle.compaction_laws.proofs.Sums.{sum-filter}
use Rattle.compaction_laws.proofs.Swept.{keeps-marked}
use Rattle.compaction_laws.proofs.Zones.{all-placed, keep}

-- a filter of a filter
filter-both : {A : Type 0} (f g h : A → Bool) (xs : List A) → ((x : A) → In xs x → (g x && f x) ≡ h x) → filter f (filter g xs) ≡ filter h xs
filter-both f g h [] same = refl
filter-both f g h (x ∷ xs) same =
    let rest = filter-both f g h xs (λ y m. same y (inr m)) in
    let here = same x (inl refl) in
    elim (cases_Bool (g x)) [
      | inr off ↦
          let none : h x ≡ false = sym here ∙ ap (λ b. b && f x) off in
          ap (λ b. filter f (cond b (x ∷ filter g xs) (filter g xs))) off ∙ rest ∙ sym (ap (λ b. cond b (x ∷ filter h xs) (filter h xs)) none)
      | inl on ↦
          let both_same : f x ≡ h x = sym (ap (λ b. b && f x) on) ∙ here in
          ap (λ b. filter f (cond b (x ∷ filter g xs) (filter g xs))) on ∙ (λ i. cond (both_same i) (x ∷ rest i) (rest i))
    ]

count-map : {X Y : Type 0} (g : X → Y) (test : Y → Bool) (xs : List X) → count_by test (map g xs) ≡ count_by (λ x. test (g x)) xs
count-map g test [] = refl
count-map g test (x ∷ xs) =
    sum_by-cons (λ y. cond (test y) 1 0) (g x) (map g xs) ∙ ap (λ n. cond (test (g x)) 1 0 + n) (count-map g test xs) ∙ sym (sum_by-cons (λ z. cond (test (g z)) 1 0) x xs)

-- some of the ordinary objects of a store, counted by its chunks
pub count-ordinary : (h : Store) (cs : List Chunk) (test : ℕ → Bool) → h.starts ≡ starts_of cs → length (filter test (ordinary_starts h)) ≡ count_by (λ (c : Chunk). is_ordinary h c.start && test c.start) cs
unfolding ordinary_starts
count-ordinary h cs test are =
    ap (λ (ss : List ℕ). length ss) (filter-both test (is_ordinary h) (λ s. is_ordinary h s && test s) h.starts (λ s m. refl))
    ∙ ap (λ ss. length (filter (λ s. is_ordinary h s && test s) ss)) are
    ∙ length-filter (λ s. is_ordinary h s && test s) (starts_of cs) ∙ count-map (λ (c : Chunk). c.start) (λ s. is_ordinary h s && test s) cs

-- all of them
pub all-ordinary : (h : Store) (cs : List Chunk) → h.starts ≡ starts_of cs → length (ordinary_starts h) ≡ count_by (λ (c : Chunk). is_ordinary h c.start) cs
unfolding ordinary_starts
all-ordinary h cs are =
    ap (λ ss. length (filter (is_ordinary h) ss)) are ∙ length-filter (is_ordinary h) (starts_of cs) ∙ count-map (λ (c : Chunk). c.start) (is_ordinary h) cs

module _ {p : ℕ → ℕ} {v v' : View} (k : IsWhole v) (t : IsTight v) (c : Compacts p v v') where
  abbrev old : Store
  old = store_of v

  abbrev after : Store
  after = store_of (new k t c)

  abbrev cs : List Chunk
  cs = chunks_of v

  abbrev cs' : List Chunk
  cs' = chunks_of (new k t c)

  -- the ordinary objects go one to one
  one-each : sum_by (λ (d : Chunk). 1) (ordinary_chunks after cs') ≡ sum_by (λ (d : Chunk). 1) (left k t c cs)
  one-each = sum-placed p (λ (d : Chunk). d.start) (λ (d : Chunk). d.start) (λ (d : Chunk). 1) (λ (d : Chunk). 1) (left k t c cs) (ordinary_chunks after cs')
      (left-apart k t c)
      (apart_filter (λ (d : Chunk). d.start) (λ (d : Chunk). is_ordinary after d.start) cs' (apart_rise cs' (all-placed k t c).rise_new))
      (λ x z m n e. (placed k t c).placed.once x.start z.start (is-left k t c cs x m).kept (is-left k t c cs z n).kept e)
      (λ e m.
      let l = is-left k t c cs e m in
      let d = (all-placed k t c).to e (listed cs e l.inside) l.kept in
      let on : is_ordinary after d.0.start ≡ true = ap (is_ordinary after) d.2 ∙ ordinary-placed (placed k t c) e.start l.kept ∙ l.ordinary in
      (d.0, in_filter (λ (x : Chunk). is_ordinary after x.start) cs' d.0 (in_list cs' d.0 d.1) on, d.2, refl))
      (λ d m.
      let f = filter_in (λ (x : Chunk). is_ordinary after x.start) cs' d m in
      let e = (all-placed k t c).from d (listed cs' d f.0) (ordinary_there after d.start f.1) in
      let on : is_ordinary old e.0.start ≡ true = sym (ordinary-placed (placed k t c) e.0.start e.2) ∙ ap (is_ordinary after) e.3 ∙ f.1 in
      (e.0, in-left k t c cs e.0 (record { inside = in_list cs e.0 e.1; ordinary = on; kept = e.2 }), e.3))

  kept-is : (d : Chunk) → (is_ordinary old d.start && keep k t c d.start) ≡ (is_ordinary old d.start && is_marked v.words d.start)
  kept-is d = where-first (is_ordinary old d.start) (keep k t c d.start) (is_marked v.words d.start) (keeps-marked k t c d.start)
    where
      where-first : (a b b' : Bool) → (a ≡ true → b ≡ b') → (a && b) ≡ (a && b')
      where-first true b b' same = same refl
      where-first false b b' same = refl

  before : sum_by (λ (d : Chunk). 1) (left k t c cs) ≡ count_by (λ (d : Chunk). is_ordinary old d.start && is_marked v.words d.start) cs
  before =
      ap (sum_by (λ (d : Chunk). 1)) (filter-both (λ (d : Chunk). keep k t c d.start) (λ (d : Chunk). is_ordinary old d.start) (λ (d : Chunk). is_ordinary old d.start && keep k t c d.start) cs (λ d m. refl))
      ∙ sum-filter (λ (d : Chunk). 1) (λ (d : Chunk). is_ordinary old d.start && keep k t c d.start) cs
      ∙ count-members (λ (d : Chunk). is_ordinary old d.start && keep k t c d.start) (λ (d : Chunk). is_ordinary old d.start && is_marked v.words d.start) cs (λ d m. kept-is d)

  pub count-left : length (ordinary_starts (store_of v')) ≡ length (filter (is_marked v.words) (ordinary_starts (store_of v)))
  count-left =
      ap (λ u. length (ordinary_starts (store_of u))) (new-is k t c)
      ∙ all-ordinary after cs' refl ∙ sym (sum-filter (λ (d : Chunk). 1) (λ (d : Chunk). is_ordinary after d.start) cs')
      ∙ one-each ∙ before ∙ sym (count-ordinary old cs (is_marked v.words) refl)
