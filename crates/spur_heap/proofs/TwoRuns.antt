-- Where the words of two objects of as many words stand.
use Rattle.std.proofs.Common.{◌≡◌, ◌≢◌, ℕ, true, cond, ◌+◌, ◌-◌, ◌<◌, ◌≤◌, max, length, sym, ap, ◌∙◌, subst, arith, inl, inr}
use Rattle.std.proofs.lemmas.Bool.{cases_lt}
use Rattle.object_header.specs.Chunks.{Chunk, slots_at}
use Rattle.spur_graph.specs.Heaps.{View, chunks_of, heap_to, store_of}
use Rattle.heap_cells.proofs.CellKinds.{there_starts}
use Rattle.heap_cells.proofs.Cutting.{start-in, stands, shape}
use Rattle.heap_cells.proofs.Members.{In}
use Rattle.heap_cells.proofs.Starts.{in_order}
use Rattle.heap_walk.specs.Shapes.{lead_at, words_at}
use Rattle.spur_heap.specs.Swaps.{AreAlike}
use Rattle.spur_heap.specs.Words.{AreSound, is_object}
use Rattle.spur_heap.proofs.Orders.{order}
use Rattle.spur_heap.proofs.ExchangedWords.{AreRuns}

-- the places of a chunk, by its head words
pub record HasPlaces (v : View) (c : Chunk) : Type 0 where
  pub lead : c.start ≡ c.at + lead_at v.words c.start
  pub size : c.size ≡ words_at v.words c.start
  pub fits : c.at + c.size ≤ length v.words

pub has_places : (v : View) → AreSound v → (c : Chunk) → In (chunks_of v) c → HasPlaces v c
has_places v k c m =
    let s = stands v.words 0 (length v.words) (chunks_of v) c (order v k) m in
    let h = shape v.words c s.chunk in
    record { lead = h.lead; size = sized (lead_at v.words c.start) h.lead h.size h.slots; fits = s.lies.before }
  where
    sized : (l : ℕ) → c.start ≡ c.at + l → c.at + c.size ≡ c.start + 1 + max 1 c.slots → slots_at v.words c.start ≡ c.slots → c.size ≡ l + 1 + max 1 (slots_at v.words c.start)
    sized l lead size slots = omega (arith, lead, size, slots)

module _ (v : View) (k : AreSound v) (c d : Chunk) (m : In (chunks_of v) c) (n : In (chunks_of v) d) (other : c.start ≢ d.start) (alike : AreAlike v.words c.start d.start) where
  of_c : HasPlaces v c
  of_c = has_places v k c m

  of_d : HasPlaces v d
  of_d = has_places v k d n

  pub same_size : c.size ≡ d.size
  same_size = of_c.size ∙ alike.size ∙ sym of_d.size

  pub same_lead : lead_at v.words c.start ≡ lead_at v.words d.start
  same_lead = ap (λ b. cond b 1 0) alike.lead

  pub start_second : d.start ≡ d.at + lead_at v.words c.start
  start_second = of_d.lead ∙ ap (λ l. d.at + l) (sym same_lead)

  -- their words are two runs
  pub runs : AreRuns v.words c.at d.at c.size (lead_at v.words c.start)
  runs = record {
    order = elim (cases_lt c.start d.start) [
      | inl before ↦ inl (in_order v.words 0 (length v.words) (chunks_of v) c d (order v k) m n before)
      | inr after ↦ let e = same_size in let o = in_order v.words 0 (length v.words) (chunks_of v) d c (order v k) n m (omega (arith, after, other)) in inr (omega (arith, o, e))
    ];
    first_fits = of_c.fits;
    second_fits = let e = same_size in let f = of_d.fits in omega (arith, e, f);
    header = below (lead_at v.words c.start) of_c.size;
  }
    where
      below : (l : ℕ) → c.size ≡ l + 1 + max 1 (slots_at v.words c.start) → l < c.size
      below l e = omega (arith, e)

-- ---- the same of two starts

pub record AreTwoRuns (v : View) (a b : ℕ) : Type 0 where
  pub first : lead_at v.words a ≤ a
  pub second : lead_at v.words a ≤ b
  pub runs : AreRuns v.words (a - lead_at v.words a) (b - lead_at v.words a) (words_at v.words a) (lead_at v.words a)

pub two_runs : (v : View) → AreSound v → (a b : ℕ) → is_object v a ≡ true → is_object v b ≡ true → AreAlike v.words a b → a ≢ b → AreTwoRuns v a b
two_runs v k a b object_a object_b alike other =
    let c = start-in heap_to v.words (chunks_of v) a (there_starts ((store_of v).cell a) object_a) in
    let d = start-in heap_to v.words (chunks_of v) b (there_starts ((store_of v).cell b) object_b) in
    by c.0 d.0 c.1 d.1 a b c.2 d.2 alike other
  where
    at : (c d : Chunk) → In (chunks_of v) c → In (chunks_of v) d → AreAlike v.words c.start d.start → c.start ≢ d.start → AreTwoRuns v c.start d.start
    at c d m n alike other =
        let l : ℕ = lead_at v.words c.start in
        let of_c = has_places v k c m in
        let one : c.start - l ≡ c.at = let e = of_c.lead in omega (arith, e) in
        let two : d.start - l ≡ d.at = let e = start_second v k c d m n other alike in omega (arith, e) in
        record {
          first = let e = of_c.lead in omega (arith, e);
          second = let e = start_second v k c d m n other alike in omega (arith, e);
          runs = subst (λ s. AreRuns v.words (c.start - l) (d.start - l) s l) of_c.size (subst (λ x. AreRuns v.words x (d.start - l) c.size l) (sym one) (subst (λ y. AreRuns v.words c.at y c.size l) (sym two) (runs v k c d m n other alike)));
        }

    by : (c d : Chunk) → In (chunks_of v) c → In (chunks_of v) d → (a b : ℕ) → c.start ≡ a → d.start ≡ b → AreAlike v.words a b → a ≢ b → AreTwoRuns v a b
    by c d m n a b is is_too alike other =
        subst (λ t. AreTwoRuns v a t) is_too (subst (λ s. AreTwoRuns v s d.start) is (at c d m n
        (subst (λ t. AreAlike v.words c.start t) (sym is_too) (subst (λ s. AreAlike v.words s b) (sym is) alike))
        (λ e. other (sym is ∙ e ∙ is_too))))
