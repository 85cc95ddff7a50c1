-- Ranges one behind another, and the walk over all words.
use Rattle.std.proofs.Common.{◌≡◌, ℕ, suc, zero, ◌+◌, ◌-◌, ◌<◌, ◌≤◌, List, [], ◌∷◌, ◌++◌, length, get_or, refl, sym, ap, ◌∙◌, subst, inl, inr, arith, Ok, Err}
use Rattle.std.proofs.lemmas.Bool.{cases_lt}
use Rattle.object_header.specs.declared.head.Head.{Head}
use Rattle.object_header.specs.Chunks.{Chunk, IsChunk, Cuts, chunks_from, chunks}
use Rattle.spur_graph.specs.Places.{head_at, place}
use Rattle.heap_cells.specs.Rows.{starts_of, AllRead, CutsFormed, AllAreCut, IsPlace}
use Rattle.heap_cells.proofs.Members.{in_either}
use Rattle.heap_cells.proofs.Cutting.{first, Cuts-append, chunks-are}
use Rattle.heap_cells.proofs.HeadReads.{from-head}
use Rattle.heap_cells.proofs.Longer.{head_at-longer}
use Rattle.heap_cells.proofs.Ranges.{after-ok, after-end, next_place, first_place, AreRead, Walked, range, all-formed}

-- ---- the places of a row

-- the chunk `k` of a row that is walked from place `n` on
record PlacedAt (words : List ℕ) (from end : ℕ) (cs : List Chunk) (k n : ℕ) : Type 0 where
  head : Head
  inside : place words from end n < end
  read : head_at words end (place words from end n) ≡ Ok head
  at : (d : Chunk) → (get_or cs k d).at ≡ place words from end n
  start : get_or (starts_of cs) k 0 ≡ place words from end n + head.lead

module _ (words : List ℕ) (from end : ℕ) (within : end ≤ length words) where
  step : (at n : ℕ) (c : Chunk) (h : Head) → place words from end n ≡ at → at < end → IsChunk words at c → head_at words end at ≡ Ok h → place words from end (suc n) ≡ at + c.size
  step at n c h is l k ok =
      let g = from-head words end at h within l ok in
      next_place words from end n at is ∙ after-ok words end at h l ok ∙ ap (λ m. at + m) (sym g.size ∙ ap (λ (x : Chunk). x.size) (sym k.is))

  placed : (at : ℕ) (cs : List Chunk) (k n : ℕ) → Cuts words at end cs → AreRead words end cs → place words from end n ≡ at → k < length cs → PlacedAt words from end cs k (n + k)
  placed at [] k n t r is l = absurd (omega arith)
  placed at (c ∷ cs) zero n t r is l =
      let q = r c (inl refl) in
      let here : c.at ≡ at = (first words at c t.0).1 in
      let e : n + 0 ≡ n = omega arith in
      let low : at < end = let b = q.inside in omega (arith, b, here) in
      let ok : head_at words end at ≡ Ok q.head = ap (head_at words end) (sym here) ∙ q.read in
      let g = from-head words end at q.head within low ok in
      rw e (record {
        head = q.head;
        inside = omega (arith, is, low);
        read = ap (head_at words end) is ∙ ok;
        at = λ d. here ∙ sym is;
        start = ap (λ (x : Chunk). x.start) t.0.is ∙ g.start ∙ ap (λ m. m + q.head.lead) (sym is);
      })
  placed at (c ∷ cs) (suc k) n t r is l =
      let q = r c (inl refl) in
      let here : c.at ≡ at = (first words at c t.0).1 in
      let e : n + suc k ≡ suc n + k = omega arith in
      let next : place words from end (suc n) ≡ at + c.size = step at n c q.head is (let b = q.inside in omega (arith, b, here)) t.0 (ap (head_at words end) (sym here) ∙ q.read) in
      let p = placed (at + c.size) cs k (suc n) t.1 (λ d m. r d (inr m)) next (omega arith) in
      rw e (record { head = p.head; inside = p.inside; read = p.read; at = p.at; start = p.start })

  at-end : (n k : ℕ) → place words from end n ≡ end → place words from end (n + k) ≡ end
  at-end n zero is = let e : n + 0 ≡ n = omega arith in rw e is
  at-end n (suc k) is =
      let e : n + suc k ≡ suc (n + k) = omega arith in
      rw e (next_place words from end (n + k) end (at-end n k is) ∙ after-end words end end (omega arith))

  ended : (at : ℕ) (cs : List Chunk) (k n : ℕ) → Cuts words at end cs → AreRead words end cs → place words from end n ≡ at → length cs ≤ k → place words from end (n + k) ≡ end
  ended at [] k n t r is l = at-end n k (is ∙ t)
  ended at (c ∷ cs) zero n t r is l = absurd (omega arith)
  ended at (c ∷ cs) (suc k) n t r is l =
      let q = r c (inl refl) in
      let here : c.at ≡ at = (first words at c t.0).1 in
      let e : n + suc k ≡ suc n + k = omega arith in
      let next : place words from end (suc n) ≡ at + c.size = step at n c q.head is (let b = q.inside in omega (arith, b, here)) t.0 (ap (head_at words end) (sym here) ∙ q.read) in
      rw e (ended (at + c.size) cs k (suc n) t.1 (λ d m. r d (inr m)) next (omega arith))

  -- the walk over a row whose heads are read meets no refused chunk
  pub none-refused : (cs : List Chunk) → Cuts words from end cs → AreRead words end cs → AllRead words from end
  none-refused cs t r n b = elim (cases_lt b.k (length cs)) [
    | inl l ↦
        let p = placed from cs b.k 0 t r (first_place words from end) l in
        let z : 0 + b.k ≡ b.k = omega arith in
        let e : Err b.error ≡ Ok p.head = sym b.refused ∙ ap (head_at words end) (b.is ∙ ap (place words from end) (sym z)) ∙ p.read in
        absurd cc
    | inr l ↦
        let z : 0 + b.k ≡ b.k = omega arith in
        let e : n ≡ end = b.is ∙ ap (place words from end) (sym z) ∙ ended from cs b.k 0 t r (first_place words from end) l in
        omega (arith, e, b.inside)
  ]

-- ---- all words

whole : (words : List ℕ) → AllRead words 0 (length words) → Walked words 0 (length words) (chunks words)
unfolding chunks
whole words none = range words 0 (length words) (omega arith) none (length words) 0 0 (first_place words 0 (length words)) (omega arith) (omega arith)

pub place-is-start : (words : List ℕ) (k : ℕ) → AllRead words 0 (length words) → k < length (chunks words) → IsPlace words k
place-is-start words k none l =
    let w = whole words none in
    let p = placed words 0 (length words) (omega arith) 0 (chunks words) k 0 w.row w.read (first_place words 0 (length words)) l in
    let z : 0 + k ≡ k = omega arith in
    let q : PlacedAt words 0 (length words) (chunks words) k k = rw z at p in
    record { head = q.head; inside = q.inside; read = q.read; at = q.at; start = q.start }

pub place-is-end : (words : List ℕ) (k : ℕ) → AllRead words 0 (length words) → length (chunks words) ≤ k → place words 0 (length words) k ≡ length words
place-is-end words k none l =
    let w = whole words none in
    let z : 0 + k ≡ k = omega arith in
    ap (place words 0 (length words)) (sym z) ∙ ended words 0 (length words) (omega arith) 0 (chunks words) k 0 w.row w.read (first_place words 0 (length words)) l

record Joined (words : List ℕ) (end : ℕ) : Type 0 where
  cs : List Chunk
  row : Cuts words 0 end cs
  read : AreRead words (length words) cs

more : (words : List ℕ) (mid end : ℕ) → end ≤ length words → mid ≤ end → AllRead words mid end → Joined words mid → Joined words end
more words mid end within l none j =
    let w = range words mid end within none (end - mid) mid 0 (first_place words mid end) l (omega arith) in
    let ys = chunks_from (end - mid) words mid end in
    record {
      cs = j.cs ++ ys;
      row = Cuts-append words 0 mid end j.cs ys j.row w.row;
      read = λ c k. elim (in_either j.cs ys c k) [
        | inl a ↦ j.read c a
        | inr b ↦ let r = w.read c b in record { head = r.head; inside = let i = r.inside in omega (arith, i); read = head_at-longer words end (length words) c.at r.head within (omega arith) r.read }
      ];
    }

module _ (words : List ℕ) (bound : ℕ → ℕ) (n : ℕ) (from : bound 0 ≡ 0) (to : bound n ≡ length words)
    (rising : (i : ℕ) → i < n → bound i ≤ bound (i + 1)) (none : (i : ℕ) → i < n → AllRead words (bound i) (bound (i + 1))) where
  up : (i k : ℕ) → i + k ≤ n → bound i ≤ bound (i + k)
  up i zero l = let e : i + 0 ≡ i = omega arith in rw e (omega arith)
  up i (suc k) l = let e : i + suc k ≡ i + k + 1 = omega arith in rw e (omega (arith, up i k (omega arith), rising (i + k) (omega arith)))

  low : (i : ℕ) → i ≤ n → bound i ≤ length words
  low i l = let e : i + (n - i) ≡ n = omega arith in let k : bound i ≤ bound n = subst (λ m. bound i ≤ bound m) e (up i (n - i) (omega arith)) in omega (arith, k, to)

  joined : (i : ℕ) → i ≤ n → Joined words (bound i)
  joined zero l = record { cs = []; row = sym from; read = λ c k. absurd k }
  joined (suc i) l =
      let e : i + 1 ≡ suc i = omega arith in
      subst (λ k. Joined words (bound k)) e (more words (bound i) (bound (i + 1)) (low (i + 1) (omega arith)) (rising i (omega arith)) (none i (omega arith)) (joined i (omega arith)))

  pub all-cut : AllAreCut words
  all-cut =
      let j : Joined words (length words) = subst (Joined words) to (joined n (omega arith)) in
      let e : j.cs ≡ chunks words = sym (chunks-are words j.cs j.row) in
      record {
        cut = subst (λ cs. CutsFormed words 0 (length words) cs) e (all-formed words 0 (length words) (length words) j.cs (omega arith) j.row j.read);
        read = none-refused words 0 (length words) (omega arith) j.cs j.row j.read;
      }
