-- The parts of the room behind a compaction: spots, sums over names, and sums over old space.
use Rattle.std.proofs.Common.{◌≡◌, ℕ, Bool, true, false, cond, not, ◌&&◌, ◌+◌, List, [], ◌∷◌, ◌++◌, map, refl, sym, ap, ◌∙◌, arith, inl, inr, Some, None, Option}
use Rattle.std.proofs.lemmas.Bool.{cases_Bool, and_parts}
use Rattle.std.proofs.lemmas.List.Elements.{filter-append}
use Rattle.std.proofs.lemmas.List.Sums.{sum_by-cons, sum_by-append}
use Rattle.std.specs.Option.{is_some}
use Rattle.std.specs.List.{filter, sum_by}
use Rattle.std.specs.Ordering.{nat_cmp}
use Rattle.std.specs.FinMap.{get, entries, from_entries, get-retain_keys, nat_cmp-IsAntisymmetric}
use Rattle.object_header.specs.Chunks.{Chunk, Cuts, InOrder}
use Rattle.spur_graph.specs.Cells.{Store, is_there}
use Rattle.spur_graph.specs.Ordinary.{body_at, is_internal, is_ordinary, ordinary_starts}
use Rattle.spur_graph.specs.CellGraph.{node_of, nodes_of}
use Rattle.spur_graph.specs.CellRoom.{ordinary_chunks}
use Rattle.spur_graph.specs.Room.{Spot, Old, Eden, Past}
use Rattle.spur_graph.specs.HeapRoom.{spot_in, spots_of}
use Rattle.spur_graph.specs.Spaces.{old_row, eden_row, past_row, young_row}
use Rattle.spur_graph.specs.Heaps.{IsWhole, View, is_marked, own_name, store_of, chunks_of, marked_graph}
use Rattle.heap_cells.proofs.CellKinds.{there_starts}
use Rattle.heap_cells.proofs.Cutting.{cuts-in_order}
use Rattle.heap_cells.proofs.Finding.{get-at, get-member}
use Rattle.heap_cells.proofs.Members.{In, in_list, listed, in_right, in_filter, filter_in}
use Rattle.heap_cells.proofs.References.{ordinary_there}
use Rattle.heap_cells.proofs.Starts.{rises}
use Rattle.heap_laws.specs.Placed.{CanPlace, kept_spots}
use Rattle.heap_laws.proofs.HeapRooms.{zoned_spots}
use Rattle.heap_laws.proofs.Places.{ordinary-placed}
use Rattle.heap_laws.proofs.Readdressed.{readdressed_placed}
use Rattle.heap_laws.proofs.Rooms.{apart_rise}
use Rattle.heap_laws.proofs.Sums.{AreApart, apart_filter, sum-placed}
use Rattle.heap_laws.proofs.Wholes.{whole_is_ready}
use Rattle.compaction_laws.specs.Compacting.{IsTight, Compacts, is_marked_object}
use Rattle.compaction_laws.proofs.Spaces.{spaces', young_above}
use Rattle.compaction_laws.proofs.Parts.{IsPart, Comes}
use Rattle.compaction_laws.proofs.After.{new}
use Rattle.compaction_laws.proofs.Moves.{lives, readdressed}
use Rattle.compaction_laws.proofs.Shapes.{like}
use Rattle.compaction_laws.proofs.Sums.{get-kept, nothing, sum-entries, sum-members}
use Rattle.compaction_laws.proofs.Swept.{keeps-marked}
use Rattle.compaction_laws.proofs.Zones.{keep, zone, zone-of-old, zone-of-eden, zone-of-past, zones, all-placed, old-placed}

-- whatever has a value there, the choice between it and nothing is the same
chosen-where : {X : Type 0} (b b' : Bool) (o : Option X) → ((x : X) → o ≡ Some x → b' ≡ b) → cond b o None ≡ cond b' o None
chosen-where b b' None same = sym (nothing b) ∙ nothing b'
chosen-where b b' (Some x) same = ap (λ z. cond z (Some x) None) (sym (same x refl))

some-where : {X : Type 0} (b : Bool) (x : X) → is_some (cond b (Some x) None) ≡ b
some-where true x = refl
some-where false x = refl

-- the words of a range are those of its chunks
pub cuts-words : (words : List ℕ) (at end : ℕ) (cs : List Chunk) → Cuts words at end cs → at + sum_by (λ (c : Chunk). c.size) cs ≡ end
cuts-words words at end [] t = omega (arith, t)
cuts-words words at end (c ∷ cs) t = let r = cuts-words words (at + c.size) end cs t.1 in omega (arith, r, sum_by-cons (λ (d : Chunk). d.size) c cs)

module _ {p : ℕ → ℕ} {v v' : View} (k : IsWhole v) (t : IsTight v) (c : Compacts p v v') where
  abbrev old : Store
  old = store_of v

  abbrev after : Store
  after = store_of (new k t c)

  abbrev os : List Chunk
  os = old_row v.words v.spaces

  abbrev es : List Chunk
  es = eden_row v.words v.spaces

  abbrev ps : List Chunk
  ps = past_row v.words v.spaces

  abbrev os' : List Chunk
  os' = old_row v'.words (spaces' k t c)

  abbrev pub spot : Chunk → Spot
  spot d = spot_in (zone k t c d.start) d

  -- the marked ordinary objects of a row
  abbrev pub left : List Chunk → List Chunk
  left cs = filter (λ (d : Chunk). keep k t c d.start) (ordinary_chunks old cs)

  pub record IsLeft (cs : List Chunk) (d : Chunk) : Type 0 where
    pub inside : In cs d
    pub ordinary : is_ordinary old d.start ≡ true
    pub kept : keep k t c d.start ≡ true

  pub is-left : (cs : List Chunk) (d : Chunk) → In (left cs) d → IsLeft cs d
  is-left cs d m =
      let f = filter_in (λ (e : Chunk). keep k t c e.start) (ordinary_chunks old cs) d m in
      let g = filter_in (λ (e : Chunk). is_ordinary old e.start) cs d f.0 in
      record { inside = g.0; ordinary = g.1; kept = f.1 }

  pub in-left : (cs : List Chunk) (d : Chunk) → IsLeft cs d → In (left cs) d
  in-left cs d l = in_filter (λ (e : Chunk). keep k t c e.start) (ordinary_chunks old cs) d (in_filter (λ (e : Chunk). is_ordinary old e.start) cs d l.inside l.ordinary) l.kept

  pub left-apart : AreApart (λ (d : Chunk). d.start) (left (chunks_of v))
  left-apart = apart_filter (λ (d : Chunk). d.start) (λ (d : Chunk). keep k t c d.start) (ordinary_chunks old (chunks_of v))
      (apart_filter (λ (d : Chunk). d.start) (λ (d : Chunk). is_ordinary old d.start) (chunks_of v) (apart_rise (chunks_of v) (all-placed k t c).rise))

  -- ---- nodes

  node-there : (a : ℕ) → is_ordinary old a ≡ true → get (nodes_of own_name old) a ≡ Some (node_of own_name old (body_at old a))
  unfolding nodes_of ordinary_starts
  node-there a on = get-at own_name (λ s. node_of own_name old (body_at old s)) a (ordinary_starts old) (λ s m e. ap (λ u. node_of own_name old (body_at old u)) (sym e))
      (in_filter (is_ordinary old) old.starts a (in_list old.starts a ((whole_is_ready v k).0.reads.inside a (there_starts (old.cell a) (ordinary_there old a on)))) on)

  pub marked-node : (a : ℕ) → is_ordinary old a ≡ true → get (marked_graph v).nodes a ≡ cond (is_marked v.words a) (Some (node_of own_name old (body_at old a))) None
  marked-node a on =
      get-retain_keys (nodes_of own_name old) (is_marked v.words) a (λ x e. ap (is_marked v.words) (sym (nat_cmp-IsAntisymmetric a x e)))
      ∙ ap (λ o. cond (is_marked v.words a) o None) (node-there a on)

  -- ---- spots

  pub spots-left : (a : ℕ) → get (kept_spots own_name (keep k t c) spot old (chunks_of v)) a
      ≡ cond (is_some (get (marked_graph v).nodes a)) (get (from_entries {R = nat_cmp} (spots_of Old old os ++ (spots_of Eden old es ++ spots_of Past old ps))) a) None
  spots-left a =
      get-kept (λ (d : Chunk). d.start) spot (keep k t c) (ordinary_chunks old (chunks_of v)) a
      ∙ chosen-where (keep k t c a) (is_some (get (marked_graph v).nodes a)) (get (from_entries {R = nat_cmp} (map (λ (d : Chunk). (d.start, spot d)) (ordinary_chunks old (chunks_of v)))) a) (λ s e.
      let m = get-member (λ (d : Chunk). d.start) spot a (ordinary_chunks old (chunks_of v)) s e in
      let on : is_ordinary old a ≡ true = ap (is_ordinary old) (sym m.2) ∙ (filter_in (λ (d : Chunk). is_ordinary old d.start) (chunks_of v) m.0 m.1).1 in
      ap is_some (marked-node a on) ∙ some-where (is_marked v.words a) (node_of own_name old (body_at old a)) ∙ sym (keeps-marked k t c a on))
      ∙ ap (λ es. cond (is_some (get (marked_graph v).nodes a)) (get (from_entries {R = nat_cmp} es) a) None) (zoned_spots old (zone k t c) os es ps (zones k t c))

  -- ---- sums over the names that are left

  left-append : (xs ys : List Chunk) → left (xs ++ ys) ≡ left xs ++ left ys
  left-append xs ys = ap (filter (λ (d : Chunk). keep k t c d.start)) (filter-append (λ (d : Chunk). is_ordinary old d.start) xs ys) ∙ filter-append (λ (d : Chunk). keep k t c d.start) (ordinary_chunks old xs) (ordinary_chunks old ys)

  pub sum-left : (G : ℕ × Spot → ℕ) → sum_by G (entries (kept_spots own_name (keep k t c) spot old (chunks_of v)))
      ≡ sum_by (λ (d : Chunk). G (d.start, spot_in Old d)) (left os) + (sum_by (λ (d : Chunk). G (d.start, spot_in Eden d)) (left es) + sum_by (λ (d : Chunk). G (d.start, spot_in Past d)) (left ps))
  sum-left G =
      let F : Chunk → ℕ = λ d. G (d.start, spot d) in
      sum-entries (λ (d : Chunk). d.start) spot G (left (chunks_of v)) left-apart
      ∙ ap (sum_by F) (left-append os (es ++ ps) ∙ ap (λ cs. left os ++ cs) (left-append es ps))
      ∙ sum_by-append F (left os) (left es ++ left ps) ∙ ap (λ n. sum_by F (left os) + n) (sum_by-append F (left es) (left ps))
      ∙ (λ i. sum-members F (λ (d : Chunk). G (d.start, spot_in Old d)) (left os) (λ d m. ap (λ s. G (d.start, spot_in s d)) (zone-of-old k t c d (is-left os d m).inside)) i
      + (sum-members F (λ (d : Chunk). G (d.start, spot_in Eden d)) (left es) (λ d m. ap (λ s. G (d.start, spot_in s d)) (zone-of-eden k t c d (is-left es d m).inside)) i
      + sum-members F (λ (d : Chunk). G (d.start, spot_in Past d)) (left ps) (λ d m. ap (λ s. G (d.start, spot_in s d)) (zone-of-past k t c d (is-left ps d m).inside)) i))

  -- ---- old space

  pub placed : CanPlace p (keep k t c) old after
  placed = readdressed_placed (readdressed k t c)

  -- what is marked in new space is ordinary
  ordinary-young : (d : Chunk) → In (young_row v.words v.spaces) d → is_marked_object v d.start ≡ true → is_ordinary old d.start ≡ true
  ordinary-young d m on =
      let there = (and_parts (is_there (old.cell d.start)) (is_marked v.words d.start) on).0 in
      let outside : is_internal old d.start ≡ false = elim (cases_Bool (is_internal old d.start)) [
        | inr no_internal ↦ no_internal
        | inl internal ↦ let low = k.inner d.start internal in let high = young_above k t c d m in absurd (omega (arith, low, high))
      ] in
      λ i. there i && not (outside i)

  -- a sum over the ordinary objects of old space is one over those that were left of it
  pub sum-ordinary : (F G : Chunk → ℕ) → ((e d : Chunk) → In os e → In os' d → is_ordinary old e.start ≡ true → keep k t c e.start ≡ true → d.start ≡ p e.start → spot d ≡ spot e → G d ≡ F e) → sum_by G (ordinary_chunks after os') ≡ sum_by F (left os)
  sum-ordinary F G same = sum-placed p (λ (d : Chunk). d.start) (λ (d : Chunk). d.start) F G (left os) (ordinary_chunks after os')
      (apart_filter (λ (d : Chunk). d.start) (λ (d : Chunk). keep k t c d.start) (ordinary_chunks old os) (apart_filter (λ (d : Chunk). d.start) (λ (d : Chunk). is_ordinary old d.start) os (apart_rise os (old-placed k t c).rise)))
      (apart_filter (λ (d : Chunk). d.start) (λ (d : Chunk). is_ordinary after d.start) os' (apart_rise os' (old-placed k t c).rise_new))
      (λ x z m n e. placed.placed.once x.start z.start (is-left os x m).kept (is-left os z n).kept e)
      (λ e m.
      let l = is-left os e m in
      let d = (old-placed k t c).to e (listed os e l.inside) l.kept in
      let on : is_ordinary after d.0.start ≡ true = ap (is_ordinary after) d.2 ∙ ordinary-placed placed e.start l.kept ∙ l.ordinary in
      (d.0, in_filter (λ (x : Chunk). is_ordinary after x.start) os' d.0 (in_list os' d.0 d.1) on, d.2, same e d.0 l.inside (in_list os' d.0 d.1) l.ordinary l.kept d.2 d.3))
      (λ d m.
      let f = filter_in (λ (x : Chunk). is_ordinary after x.start) os' d m in
      let e = (old-placed k t c).from d (listed os' d f.0) (ordinary_there after d.start f.1) in
      let on : is_ordinary old e.0.start ≡ true = sym (ordinary-placed placed e.0.start e.2) ∙ ap (is_ordinary after) e.3 ∙ f.1 in
      (e.0, in-left os e.0 (record { inside = in_list os e.0 e.1; ordinary = on; kept = e.2 }), e.3))

  -- the words of a row of new space are those of the objects that were left of it
  pub row-words : (cs cs' : List Chunk) (part : IsPart p v v' cs cs') → ((d : Chunk) → In cs' d → Comes p v cs d) → ((d : Chunk) → In cs d → In (young_row v.words v.spaces) d) → ((d : Chunk) → In cs' d → In (chunks_of (new k t c)) d)
      → (from end end' : ℕ) → Cuts v.words from end cs → Cuts v'.words from end' cs' → from + sum_by (λ (d : Chunk). d.size) (left cs) ≡ end'
  row-words cs cs' part full inside inside' from end end' row row' =
      let order : InOrder v.words from end cs = cuts-in_order v.words from end cs row in
      let order' : InOrder v'.words from end' cs' = cuts-in_order v'.words from end' cs' row' in
      let same = sum-placed p (λ (d : Chunk). d.start) (λ (d : Chunk). d.start) (λ (d : Chunk). d.size) (λ (d : Chunk). d.size) (left cs) cs'
      (apart_filter (λ (d : Chunk). d.start) (λ (d : Chunk). keep k t c d.start) (ordinary_chunks old cs) (apart_filter (λ (d : Chunk). d.start) (λ (d : Chunk). is_ordinary old d.start) cs (apart_rise cs (λ i j l m. rises v.words from end cs i j order l m))))
      (apart_rise cs' (λ i j l m. rises v'.words from end' cs' i j order' l m))
      (λ x z m n e. placed.placed.once x.start z.start (is-left cs x m).kept (is-left cs z n).kept e)
      (λ e m.
      let l = is-left cs e m in
      let marked = sym (lives k t c e.start) ∙ l.kept in
      let d = part.to e l.inside marked in
      (d.0, d.1, d.2, (like k t c e d.0 (in_right os (young_row v.words v.spaces) e (inside e l.inside)) (inside' d.0 d.1) marked (sym d.2)).size))
      (λ d m.
      let e = full d m in
      (e.0, in-left cs e.0 (record { inside = e.1; ordinary = ordinary-young e.0 (inside e.0 e.1) e.2; kept = lives k t c e.0.start ∙ e.2 }), e.3)) in
      let all = cuts-words v'.words from end' cs' row' in
      omega (arith, same, all)
