-- The chunks of a row lie apart, whichever are kept.
use Rattle.std.proofs.Common.{◌≡◌, ℕ, Bool, true, ◌+◌, ◌-◌, ◌<◌, ◌≤◌, List, [], ◌∷◌, ◌++◌, length, get_or, refl, sym, ap, ◌∙◌, subst, inl, inr, arith}
use Rattle.std.specs.List.{Contains}
use Rattle.object_header.specs.Chunks.{Chunk, leads, IsChunk, Cuts, InOrder, StandsAt}
use Rattle.heap_walk.specs.Shapes.{lead_at, place_at, words_at, end_at}
use Rattle.heap_cells.specs.Rows.{starts_of}
use Rattle.heap_cells.proofs.Members.{In, in_list, in_either, chunk_of_start}
use Rattle.heap_cells.proofs.Cutting.{first, stands, shape, ends_after, cuts-in_order, in_order-append}
use Rattle.heap_cells.proofs.Starts.{starts-rise}
use Rattle.planning_compactor.specs.Spans.{Gap}
use Rattle.planning_compactor.specs.Planning.{AreLaid}
use Rattle.planning_compactor.specs.Filled.{IsReady, RowIsReady}
use Rattle.planning_compactor.proofs.Spacing.{gap-same, gap-then, gap-more}
use Rattle.planning_compactor.proofs.Shapes.{lead-one}

-- ---- rows without a rest

two : (words : List ℕ) (at : ℕ) (c : Chunk) → IsChunk words at c → 2 ≤ c.size
two words at c k = let l = (first words at c k).0 in let a = l.lead in let b = l.room in omega (arith, a, b)

row-whole : (words : List ℕ) (at end : ℕ) (cs : List Chunk) → Cuts words at end cs → Gap at end
row-whole words at end [] t = subst (Gap at) t (gap-same at)
row-whole words at end (c ∷ cs) t = gap-then at (at + c.size) end (gap-more at c.size (two words at c t.0)) (row-whole words (at + c.size) end cs t.1)

record Within (at end : ℕ) (c : Chunk) : Type 0 where
  before : Gap at c.at
  after : Gap (c.at + c.size) end

row-within : (words : List ℕ) (at end : ℕ) (cs : List Chunk) → Cuts words at end cs → (c : Chunk) → In cs c → Within at end c
row-within words at end [] t c k = absurd k
row-within words at end (d ∷ cs) t c k =
    let place = (first words at d t.0).1 in
    elim k [
      | inl e ↦ subst (Within at end) e (record {
        before = subst (Gap at) (sym place) (gap-same at);
        after = subst (λ x. Gap (x + d.size) end) (sym place) (row-whole words (at + d.size) end cs t.1);
      })
      | inr m ↦
          let r = row-within words (at + d.size) end cs t.1 c m in
          record { before = gap-then at (at + d.size) c.at (gap-more at d.size (two words at d t.0)) r.before; after = r.after }
    ]

row-apart : (words : List ℕ) (at end : ℕ) (cs : List Chunk) → Cuts words at end cs → (c d : Chunk) → In cs c → In cs d → c.start < d.start → Gap (c.at + c.size) d.at
row-apart words at end [] t c d k m l = absurd k
row-apart words at end (x ∷ cs) t c d k m l =
    let f = first words at x t.0 in
    let place = f.1 in
    elim k [
      | inl e ↦ elim m [
        | inl g ↦ absurd (let z : c.start ≡ d.start = ap (λ (y : Chunk). y.start) (sym e ∙ g) in omega (arith, z, l))
        | inr g ↦
            let r = row-within words (at + x.size) end cs t.1 d g in
            subst (λ (y : Chunk). Gap (y.at + y.size) d.at) e (subst (λ y. Gap (y + x.size) d.at) (sym place) r.before)
      ]
      | inr e ↦ elim m [
        | inl g ↦ absurd (
            let s = stands words (at + x.size) end cs c (cuts-in_order words (at + x.size) end cs t.1) e in
            let z : d.start ≡ x.start = ap (λ (y : Chunk). y.start) (sym g) in
            let a = s.lies.after in
            let b = s.lies.lead in
            let r = f.0.room in
            omega (arith, a, b, r, z, l, place))
        | inr g ↦ row-apart words (at + x.size) end cs t.1 c d e g l
      ]
    ]

-- ---- the chunks that are kept

-- a start and its chunk
record IsAt (words : List ℕ) (end : ℕ) (cs : List Chunk) (s : ℕ) : Type 0 where
  chunk : Chunk
  inside : In cs chunk
  start : chunk.start ≡ s
  is : IsChunk words chunk.at chunk
  fits : chunk.at + chunk.size ≤ end
  lead : s ≡ chunk.at + lead_at words s
  size : chunk.size ≡ words_at words s

is-at : (words : List ℕ) (end : ℕ) (cs : List Chunk) (c : Chunk) → InOrder words 0 end cs → In cs c → IsAt words end cs c.start
is-at words end cs c t m =
    let s = stands words 0 end cs c t m in
    let h = shape words c s.chunk in
    let lead = h.lead in
    let size = h.size in
    let slots = h.slots in
    record { chunk = c; inside = m; start = refl; is = s.chunk; fits = s.lies.before; lead = lead; size = omega (arith, lead, size, slots) }

-- chunks before the range, in it and behind it, of which some are kept
record AreKept (has : ℕ → Bool) (words : List ℕ) (low end : ℕ) (front cs back : List Chunk) : Type 0 where
  before : InOrder words 0 low front
  row : Cuts words low end cs
  behind : InOrder words end (length words) back
  kept : (s : ℕ) → has s ≡ true → Contains (starts_of (front ++ (cs ++ back))) s

module _ {has : ℕ → Bool} {words : List ℕ} {low end : ℕ} {front cs back : List Chunk} (r : AreKept has words low end front cs back) where
  mid : InOrder words low end cs
  mid = cuts-in_order words low end cs r.row

  order : InOrder words 0 (length words) (front ++ (cs ++ back))
  order = in_order-append words 0 low low (length words) front (cs ++ back) r.before (omega arith) (in_order-append words low end end (length words) cs back mid (omega arith) r.behind)

  of : (s : ℕ) → has s ≡ true → IsAt words (length words) (front ++ (cs ++ back)) s
  of s g =
      let c = chunk_of_start (front ++ (cs ++ back)) s (in_list (starts_of (front ++ (cs ++ back))) s (r.kept s g)) in
      subst (IsAt words (length words) (front ++ (cs ++ back))) c.2 (is-at words (length words) (front ++ (cs ++ back)) c.0 order c.1)

  place-is : (s : ℕ) (g : has s ≡ true) → place_at words s ≡ (of s g).chunk.at
  place-is s g = let z = (of s g).lead in omega (arith, z)

  end-is : (s : ℕ) (g : has s ≡ true) → end_at words s ≡ (of s g).chunk.at + (of s g).chunk.size
  end-is s g = λ i. place-is s g i + sym (of s g).size i

  stands-at : (s : ℕ) → has s ≡ true → StandsAt words s
  stands-at s g =
      let h = of s g in
      let z = h.lead in
      let y = h.size in
      let x = h.fits in
      record { below = omega (arith, z, y, x); behind = λ on. omega (arith, z, lead-one words s on); fits = omega (arith, z, y, x) }

  -- the chunk is before the range, in it, or behind it
  record Sides (c : Chunk) : Type 0 where
    front_end : In front c → c.at + c.size ≤ low
    mid_low : In cs c → low ≤ c.at
    mid_end : In cs c → c.at + c.size ≤ end
    back_low : In back c → end ≤ c.at

  sides : (c : Chunk) → Sides c
  sides c = record {
    front_end = λ m. (stands words 0 low front c r.before m).lies.before;
    mid_low = λ m. (stands words low end cs c mid m).lies.after;
    mid_end = λ m. (stands words low end cs c mid m).lies.before;
    back_low = λ m. (stands words end (length words) back c r.behind m).lies.after;
  }

  ordered : low ≤ end
  ordered = ends_after words low end cs mid

  in-mid : (s : ℕ) (g : has s ≡ true) → low ≤ s → s < end → In cs (of s g).chunk
  in-mid s g l m =
      let h = of s g in
      let z = h.lead in
      let y = h.size in
      let k = sides h.chunk in
      elim (in_either front (cs ++ back) h.chunk h.inside) [
        | inl x ↦ absurd (let e = k.front_end x in omega (arith, e, z, y, l))
        | inr x ↦ elim (in_either cs back h.chunk x) [ inl w ↦ w | inr w ↦ absurd (let e = k.back_low w in omega (arith, e, z, m)) ]
      ]

  below : (s : ℕ) → has s ≡ true → s < low → end_at words s ≤ low
  below s g l =
      let h = of s g in
      let z = h.lead in
      let k = sides h.chunk in
      elim (in_either front (cs ++ back) h.chunk h.inside) [
        | inl x ↦ let e = k.front_end x in omega (arith, e, end-is s g)
        | inr x ↦ absurd (elim (in_either cs back h.chunk x) [ inl w ↦ (let e = k.mid_low w in omega (arith, e, z, l)) | inr w ↦ (let e = k.back_low w in omega (arith, e, z, l, ordered)) ])
      ]

  above : (s : ℕ) → has s ≡ true → end ≤ s → end ≤ place_at words s
  above s g l =
      let h = of s g in
      let z = h.lead in
      let y = h.size in
      let k = sides h.chunk in
      elim (in_either front (cs ++ back) h.chunk h.inside) [
        | inl x ↦ absurd (let e = k.front_end x in omega (arith, e, z, y, l, ordered))
        | inr x ↦ elim (in_either cs back h.chunk x) [ inl w ↦ absurd (let e = k.mid_end w in omega (arith, e, z, y, l)) | inr w ↦ let e = k.back_low w in omega (arith, e, place-is s g) ]
      ]

  laid : AreLaid has words low end
  laid = record {
    whole = row-whole words low end cs r.row;
    stands = stands-at;
    first = λ s i. subst (Gap low) (sym (place-is s i.0)) (row-within words low end cs r.row (of s i.0).chunk (in-mid s i.0 i.1 i.2)).before;
    apart = λ s t i j l.
        let x = of s i.0 in
        let y = of t j.0 in
        let xs = x.start in
        let ys = y.start in
        subst (λ n. Gap n (place_at words t)) (sym (end-is s i.0)) (subst (Gap (x.chunk.at + x.chunk.size)) (sym (place-is t j.0))
        (row-apart words low end cs r.row x.chunk y.chunk (in-mid s i.0 i.1 i.2) (in-mid t j.0 j.1 j.2) (omega (arith, xs, ys, l))));
    last = λ s i. subst (λ n. Gap n end) (sym (end-is s i.0)) (row-within words low end cs r.row (of s i.0).chunk (in-mid s i.0 i.1 i.2)).after;
    below = below;
    above = above;
  }

  ready : IsReady has words low end
  ready = record {
    laid = laid;
    live = record { stands = stands-at; apart = λ s t g k l. (starts-rise words (length words) (front ++ (cs ++ back)) order).apart s t (r.kept s g) (r.kept t k) l };
    twice = λ s g on.
        let h = of s g in
        let z = h.lead in
        let at : h.chunk.at ≡ s - 1 = omega (arith, z, lead-one words s on) in
        ap (λ j. leads (get_or words j 0)) (sym at) ∙ sym h.is.twice ∙ ap (λ j. leads (get_or words j 0)) h.start ∙ on;
  }

pub row_is_ready : RowIsReady
row_is_ready has words low end front cs back a b d ins = ready (record { before = a; row = b; behind = d; kept = ins })
