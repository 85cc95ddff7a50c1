-- A marked object at its place: its head words, its chunk, its space.
use Rattle.std.proofs.Common.{◌≡◌, ℕ, Bool, true, false, cond, ◌+◌, ◌-◌, max, eqb, ltb, List, length, get_or, sym, ap, ◌∙◌, subst, arith, inl, inr}
use Rattle.std.proofs.lemmas.Bool.{and_parts, or_cases, eqb-true, lt-ltb, le-ltb}
use Rattle.object_header.specs.Chunks.{Chunk, leads, slots_at}
use Rattle.spur_graph.specs.Cells.{Store, is_start, is_there, first}
use Rattle.spur_graph.specs.Heaps.{IsWhole, View, store_of, chunks_of, is_marked}
use Rattle.heap_cells.proofs.Cutting.{Shape, shape, stands}
use Rattle.heap_cells.proofs.Members.{In}
use Rattle.compaction_laws.specs.Compacting.{IsTight, Compacts, is_marked_object, is_mapped}
use Rattle.compaction_laws.proofs.Fronts.{order}
use Rattle.compaction_laws.proofs.After.{new, order'}
use Rattle.compaction_laws.proofs.Moves.{lives-marked, marked-lives, readdressed, slots-kept}

behind-lead : (a : ℕ) (b : Bool) → ltb a (a + cond b 1 0) ≡ b
behind-lead a true = lt-ltb a (a + 1) (omega arith)
behind-lead a false = le-ltb a (a + 0) (omega arith)

-- a chunk has the size, the slots and the lead of another
pub record IsLike (c d : Chunk) : Type 0 where
  pub size : d.size ≡ c.size
  pub slots : d.slots ≡ c.slots
  pub behind : d.start ≡ d.at + (c.start - c.at)
  pub lead : ltb d.at d.start ≡ ltb c.at c.start

like-shapes : (words words' : List ℕ) (c d : Chunk) → Shape words c → Shape words' d → get_or words' d.start 0 ≡ get_or words c.start 0 → slots_at words' d.start ≡ slots_at words c.start → IsLike c d
like-shapes words words' c d a b header slots =
    let l : Bool = leads (get_or words c.start 0) in
    let lead : d.start ≡ d.at + cond l 1 0 = b.lead ∙ ap (λ w. d.at + cond (leads w) 1 0) header in
    let was : c.start ≡ c.at + cond l 1 0 = a.lead in
    let same : d.slots ≡ c.slots = sym b.slots ∙ slots ∙ a.slots in
    let long : max 1 d.slots ≡ max 1 c.slots = ap (max 1) same in
    let size = b.size in
    let was_size = a.size in
    record {
      size = omega (arith, lead, was, long, size, was_size);
      slots = same;
      behind = omega (arith, lead, was);
      lead = ap (ltb d.at) lead ∙ behind-lead d.at l ∙ sym (behind-lead c.at l) ∙ sym (ap (ltb c.at) was);
    }

module _ {p : ℕ → ℕ} {v v' : View} (k : IsWhole v) (t : IsTight v) (c : Compacts p v v') where
  abbrev old : Store
  old = store_of v

  pub record HasGone (s : ℕ) : Type 0 where
    pub header : get_or v'.words (p s) 0 ≡ get_or v.words s 0
    pub slots : slots_at v'.words (p s) ≡ slots_at v.words s

  pub gone : (s : ℕ) → is_marked_object v s ≡ true → HasGone s
  gone s on = elim (or_cases (is_mapped v s) (eqb s (first old 3)) (marked-lives k t c s on)) [
    | inl moves ↦ let m = c.moved.objects s moves in record { header = m.header; slots = m.slots }
    | inr lists ↦
        let is = eqb-true s (first old 3) lists in
        let stay = c.firsts 3 (omega arith) in
        subst HasGone (sym is) (record {
          header = ap (λ u. get_or v'.words u 0) stay ∙ c.lists.header;
          slots = ap (slots_at v'.words) stay ∙ slots-kept v.words v'.words (first old 3) c.lists;
        })
  ]

  pub like : (e d : Chunk) → In (chunks_of v) e → In (chunks_of (new k t c)) d → is_marked_object v e.start ≡ true → p e.start ≡ d.start → IsLike e d
  like e d m n on is =
      let g = gone e.start on in
      like-shapes v.words v'.words e d
      (shape v.words e (stands v.words 0 (length v.words) (chunks_of v) e (order k) m).chunk)
      (shape v'.words d (stands v'.words 0 (length v'.words) (chunks_of (new k t c)) d (order' k t c) n).chunk)
      (ap (λ u. get_or v'.words u 0) (sym is) ∙ g.header) (ap (slots_at v'.words) (sym is) ∙ g.slots)

  pub there-at : (s : ℕ) → is_marked_object v s ≡ true → is_there ((store_of (new k t c)).cell (p s)) ≡ true
  there-at s on = ((readdressed k t c).objects s (marked-lives k t c s on) (and_parts (is_there (old.cell s)) (is_marked v.words s) on).0).there

  -- no forwarder is left
  pub start-there : (s : ℕ) → is_start ((store_of (new k t c)).cell s) ≡ true → is_there ((store_of (new k t c)).cell s) ≡ true
  start-there s on =
      let b = (readdressed k t c).back s on in
      ap (λ u. is_there ((store_of (new k t c)).cell u)) (sym b.2) ∙ there-at b.0 (lives-marked k t c b.0 b.1)
