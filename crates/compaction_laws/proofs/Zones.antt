-- The space of each object, before and after.
use Rattle.std.proofs.Common.{◌≡◌, ℕ, Bool, true, cond, ◌<◌, ◌≤◌, ltb, List, length, get_or, sym, ap, ◌∙◌, subst, arith, inl, inr}
use Rattle.std.proofs.lemmas.Bool.{lt-ltb, le-ltb}
use Rattle.std.proofs.lemmas.List.{get_or_default}
use Rattle.std.specs.List.{All}
use Rattle.object_header.specs.Chunks.{Chunk, InOrder}
use Rattle.spur_graph.specs.Cells.{Store}
use Rattle.spur_graph.specs.Room.{Space, Old, Eden, Past}
use Rattle.spur_graph.specs.HeapRoom.{spot_in}
use Rattle.spur_graph.specs.Spaces.{old_row, eden_row, past_row, young_row}
use Rattle.spur_graph.specs.Heaps.{IsWhole, View, heap_to, store_of, chunks_of}
use Rattle.heap_cells.proofs.CellKinds.{there_starts}
use Rattle.heap_cells.proofs.Cutting.{cuts-in_order}
use Rattle.heap_cells.proofs.Members.{In, in_list, listed, in_either, in_left}
use Rattle.heap_cells.proofs.Spaced.{eden_past}
use Rattle.heap_cells.proofs.Starts.{start-read, rises}
use Rattle.heap_laws.specs.Compaction.{with_lists}
use Rattle.heap_laws.specs.Instances.{live_objects}
use Rattle.heap_laws.specs.Placed.{ArePlacedChunks}
use Rattle.heap_laws.specs.Placing.{AreZones}
use Rattle.compaction_laws.specs.Compacting.{IsTight, Compacts, is_marked_object, is_mapped}
use Rattle.compaction_laws.proofs.Fronts.{order}
use Rattle.compaction_laws.proofs.Spaces.{spaces', eden', past', old-below, old'-below, eden-within, eden'-within, past-within, past'-above}
use Rattle.compaction_laws.proofs.Parts.{IsPart, eden-part, past-part}
use Rattle.compaction_laws.proofs.After.{new, order', rows-are, old-is, old-part', whole-part}
use Rattle.compaction_laws.proofs.Moves.{lives}
use Rattle.compaction_laws.proofs.Shapes.{like}

-- what holds of the members of a list
pub all-of : {X : Type 0} (P : X → Type 0) (xs : List X) → ((x : X) → In xs x → P x) → All P xs
all-of P xs each j d l = each (get_or xs j d) (in_list xs (get_or xs j d) (j, l, get_or_default xs j (get_or xs j d) d l))

module _ {p : ℕ → ℕ} {v v' : View} (k : IsWhole v) (t : IsTight v) (c : Compacts p v v') where
  abbrev old : Store
  old = store_of v

  abbrev after : Store
  after = store_of (new k t c)

  abbrev pub keep : ℕ → Bool
  keep = live_objects (with_lists (is_mapped v) old) old

  -- a place tells its space, and no space has moved
  abbrev pub zone : ℕ → Space
  zone s = cond (ltb s v.spaces.old_end) Old (cond (ltb s v.spaces.past_at) Eden Past)

  zone-old : (s : ℕ) → s < v.spaces.old_end → zone s ≡ Old
  zone-old s l = ap (λ b. cond b Old (cond (ltb s v.spaces.past_at) Eden Past)) (lt-ltb s v.spaces.old_end l)

  zone-eden : (s : ℕ) → v.spaces.eden_at ≤ s → s < v.spaces.past_at → zone s ≡ Eden
  zone-eden s l m =
      let e = k.spaces.eden_behind in
      ap (λ b. cond b Old (cond (ltb s v.spaces.past_at) Eden Past)) (le-ltb s v.spaces.old_end (omega (arith, e, l))) ∙ ap (λ b. cond b Eden Past) (lt-ltb s v.spaces.past_at m)

  zone-past : (s : ℕ) → v.spaces.past_at ≤ s → zone s ≡ Past
  zone-past s l =
      let e = k.spaces.eden_behind in
      let f = eden_past v.words v.limits v.spaces k.spaces in
      ap (λ b. cond b Old (cond (ltb s v.spaces.past_at) Eden Past)) (le-ltb s v.spaces.old_end (omega (arith, e, f, l))) ∙ ap (λ b. cond b Eden Past) (le-ltb s v.spaces.past_at l)

  pub zone-of-old : (d : Chunk) → In (old_row v.words v.spaces) d → zone d.start ≡ Old
  zone-of-old d m = zone-old d.start (old-below k t c d m)

  pub zone-of-eden : (d : Chunk) → In (eden_row v.words v.spaces) d → zone d.start ≡ Eden
  zone-of-eden d m = let w = eden-within k t c d m in let a = w.1 in let g = eden_past v.words v.limits v.spaces k.spaces in zone-eden d.start w.0 (omega (arith, a, g))

  pub zone-of-past : (d : Chunk) → In (past_row v.words v.spaces) d → zone d.start ≡ Past
  zone-of-past d m = zone-past d.start (past-within k t c d m).0

  pub zone-of-old' : (d : Chunk) → In (old_row v'.words (spaces' k t c)) d → zone d.start ≡ Old
  zone-of-old' d m = zone-old d.start (old'-below k t c d (subst (λ cs. In cs d) (old-is k t c) m))

  zone-of-eden' : (d : Chunk) → In (eden' k t c) d → zone d.start ≡ Eden
  zone-of-eden' d m = let w = eden'-within k t c d m in let a = w.1 in let g = eden_past v.words v.limits v.spaces k.spaces in zone-eden d.start w.0 (omega (arith, a, g))

  zone-of-past' : (d : Chunk) → In (past' k t c) d → zone d.start ≡ Past
  zone-of-past' d m = zone-past d.start (past'-above k t c d m)

  pub zones : AreZones zone (old_row v.words v.spaces) (eden_row v.words v.spaces) (past_row v.words v.spaces)
  zones = record {
    old = all-of (λ (d : Chunk). zone d.start ≡ Old) (old_row v.words v.spaces) zone-of-old;
    eden = all-of (λ (d : Chunk). zone d.start ≡ Eden) (eden_row v.words v.spaces) zone-of-eden;
    past = all-of (λ (d : Chunk). zone d.start ≡ Past) (past_row v.words v.spaces) zone-of-past;
  }

  pub zones' : AreZones zone (old_row v'.words (spaces' k t c)) (eden_row v'.words (spaces' k t c)) (past_row v'.words (spaces' k t c))
  zones' = record {
    old = all-of (λ (d : Chunk). zone d.start ≡ Old) (old_row v'.words (spaces' k t c)) zone-of-old';
    eden = all-of (λ (d : Chunk). zone d.start ≡ Eden) (eden_row v'.words (spaces' k t c)) zone-of-eden';
    past = all-of (λ (d : Chunk). zone d.start ≡ Past) (past_row v'.words (spaces' k t c)) zone-of-past';
  }

  -- ---- chunks that go to chunks

  -- a part whose chunks keep a space goes to its places, with the same spots
  placed-part : (cs cs' : List Chunk) → IsPart p v v' cs cs' → ((d : Chunk) → In cs d → In (chunks_of v) d) → ((d : Chunk) → In cs' d → In (chunks_of (new k t c)) d)
      → (from end : ℕ) → InOrder v.words from end cs → InOrder v'.words from end cs' → ((e d : Chunk) → In cs e → In cs' d → is_marked_object v e.start ≡ true → p e.start ≡ d.start → zone d.start ≡ zone e.start)
      → ArePlacedChunks p keep after (λ (d : Chunk). spot_in (zone d.start) d) (λ (d : Chunk). spot_in (zone d.start) d) cs cs'
  placed-part cs cs' part inside inside' from end row row' same = record {
    to = λ e m on.
        let marked = sym (lives k t c e.start) ∙ on in
        let d = part.to e (in_list cs e m) marked in
        let l = like k t c e d.0 (inside e (in_list cs e m)) (inside' d.0 d.1) marked (sym d.2) in
        let space = same e d.0 (in_list cs e m) d.1 marked (sym d.2) in
        (d.0, listed cs' d.0 d.1, d.2, λ i. record { space = space i; words = l.size i; overflow = l.lead i });
    from = λ d m there. elim (part.from d (in_list cs' d m)) [
      | inl r ↦ (r.0, listed cs r.0 r.1, lives k t c r.0.start ∙ r.2, r.3)
      | inr free ↦ absurd ((start-read heap_to v'.words (length v'.words) (chunks_of (new k t c)) d.start (order' k t c) (there_starts (after.cell d.start) there)).not_free free.free)
    ];
    rise = λ i j l m. rises v.words from end cs i j row l m;
    rise_new = λ i j l m. rises v'.words from end cs' i j row' l m;
  }

  pub old-placed : ArePlacedChunks p keep after (λ (d : Chunk). spot_in (zone d.start) d) (λ (d : Chunk). spot_in (zone d.start) d) (old_row v.words v.spaces) (old_row v'.words (spaces' k t c))
  old-placed = placed-part (old_row v.words v.spaces) (old_row v'.words (spaces' k t c)) (old-part' k t c) (λ d m. in_left (old_row v.words v.spaces) (young_row v.words v.spaces) d m)
      (λ d m. in_left (old_row v'.words (spaces' k t c)) (young_row v'.words (spaces' k t c)) d m) 0 v.spaces.old_end
      (cuts-in_order v.words 0 v.spaces.old_end (old_row v.words v.spaces) k.rows.old) (cuts-in_order v'.words 0 v.spaces.old_end (old_row v'.words (spaces' k t c)) (rows-are k t c).old)
      (λ e d m n on is. zone-of-old' d n ∙ sym (zone-of-old e m))

  -- an object keeps its space
  zone-kept : (e : Chunk) → In (chunks_of v) e → is_marked_object v e.start ≡ true → zone (p e.start) ≡ zone e.start
  zone-kept e m on = elim (in_either (old_row v.words v.spaces) (young_row v.words v.spaces) e m) [
    | inl o ↦ let d = (old-part' k t c).to e o on in ap zone (sym d.2) ∙ zone-of-old' d.0 d.1 ∙ sym (zone-of-old e o)
    | inr y ↦ elim (in_either (eden_row v.words v.spaces) (past_row v.words v.spaces) e y) [
      | inl f ↦ let d = (eden-part k t c).to e f on in ap zone (sym d.2) ∙ zone-of-eden' d.0 d.1 ∙ sym (zone-of-eden e f)
      | inr g ↦ let d = (past-part k t c).to e g on in ap zone (sym d.2) ∙ zone-of-past' d.0 d.1 ∙ sym (zone-of-past e g)
    ]
  ]

  pub all-placed : ArePlacedChunks p keep after (λ (d : Chunk). spot_in (zone d.start) d) (λ (d : Chunk). spot_in (zone d.start) d) (chunks_of v) (chunks_of (new k t c))
  all-placed = placed-part (chunks_of v) (chunks_of (new k t c)) (whole-part k t c) (λ d m. m) (λ d m. m) 0 (length v.words) (order k) (subst (λ n. InOrder v'.words 0 n (chunks_of (new k t c))) c.moved.same_words (order' k t c))
      (λ e d m n on is. ap zone (sym is) ∙ zone-kept e m on)
