-- Each space of a compacted heap has the objects that it had.
use Rattle.std.proofs.Common.{◌≡◌, ◌⊎◌, ℕ, true, false, not, ◌+◌, ◌<◌, ◌≤◌, eqb, List, ◌++◌, get_or, sym, ap, ◌∙◌, subst, arith, inl, inr}
use Rattle.std.proofs.lemmas.Bool.{false≢true, cases_Bool, and_parts, eq-eqb, not_from_true}
use Rattle.object_header.specs.Chunks.{Chunk}
use Rattle.spur_graph.specs.Cells.{Store, is_there, first}
use Rattle.spur_graph.specs.Spaces.{old_row, eden_row, past_row, young_row}
use Rattle.spur_graph.specs.Heaps.{IsWhole, View, store_of, is_marked}
use Rattle.heap_cells.specs.Rows.{starts_of}
use Rattle.heap_cells.proofs.Members.{In, in_list, listed, chunk_of_start, in_either, in_left, in_right}
use Rattle.heap_cells.proofs.Spaced.{eden_past}
use Rattle.compaction_laws.specs.Compacting.{IsTight, Compacts, IsFreeHead, is_marked_object}
use Rattle.compaction_laws.proofs.Fronts.{front, behind, front-behind, front-number, firsts-rise, first-marked}
use Rattle.compaction_laws.proofs.Spaces.{located, marked-there, three_below, young-mapped, in_eden, in_past, eden-goes, past-goes, old-goes, young_above, old-below, old'-below, eden'-within, past'-above, rest', old', eden', past'}

-- a chunk comes from a marked object
abbrev pub Comes : (ℕ → ℕ) → View → List Chunk → Chunk → Type 0
Comes p v cs d = (e : Chunk) × In cs e × (is_marked_object v e.start ≡ true) × (p e.start ≡ d.start)

-- the marked objects of a space are those of it afterwards, and all else is free
pub record IsPart (p : ℕ → ℕ) (v v' : View) (cs cs' : List Chunk) : Type 0 where
  pub to : (e : Chunk) → In cs e → is_marked_object v e.start ≡ true → (d : Chunk) × In cs' d × (d.start ≡ p e.start)
  pub from : (d : Chunk) → In cs' d → Comes p v cs d ⊎ IsFreeHead (get_or v'.words d.start 0)

module _ {p : ℕ → ℕ} {v v' : View} (k : IsWhole v) (t : IsTight v) (c : Compacts p v v') where
  abbrev old : Store
  old = store_of v

  abbrev os : List Chunk
  os = old_row v.words v.spaces

  abbrev es : List Chunk
  es = eden_row v.words v.spaces

  abbrev ps : List Chunk
  ps = past_row v.words v.spaces

  -- what has come to a place, by the space in which it stood
  record HasCome (s : ℕ) : Type 0 where
    chunk : Chunk
    marked : is_marked_object v chunk.start ≡ true
    is : p chunk.start ≡ s
    where_from : (In os chunk) ⊎ ((In es chunk) ⊎ (In ps chunk))

  come : (s : ℕ) → c.starts s ≡ true → HasCome s
  come s on =
      let b = c.moved.back s on in
      let marked = marked-there k t c b.0 b.1 in
      let r = located k t c b.0 (and_parts (is_there (old.cell b.0)) (is_marked v.words b.0) marked).0 in
      record {
        chunk = r.0;
        marked = ap (is_marked_object v) r.2 ∙ marked;
        is = ap p r.2 ∙ b.2;
        where_from = elim (in_either os (young_row v.words v.spaces) r.0 r.1) [ inl o ↦ inl o | inr y ↦ inr (in_either es ps r.0 y) ];
      }

  from-old : (s : ℕ) → c.starts s ≡ true → s < v.spaces.old_end → (e : Chunk) × In os e × (is_marked_object v e.start ≡ true) × (p e.start ≡ s)
  from-old s on low =
      let h = come s on in
      let is = h.is in
      let b = k.spaces.eden_behind in
      elim h.where_from [
        | inl o ↦ (h.chunk, o, h.marked, h.is)
        | inr y ↦ elim y [
          | inl f ↦ let w = (eden-goes k t c h.chunk f h.marked).0 in absurd (omega (arith, is, low, w, b))
          | inr f ↦ let w = (past-goes k t c h.chunk f h.marked).0 in let a = eden_past v.words v.limits v.spaces k.spaces in absurd (omega (arith, is, low, w, a, b))
        ]
      ]

  from-eden : (s : ℕ) → c.starts s ≡ true → v.spaces.eden_at ≤ s → s < v.spaces.eden_at + v.spaces.eden_used → (e : Chunk) × In es e × (is_marked_object v e.start ≡ true) × (p e.start ≡ s)
  from-eden s on low high =
      let h = come s on in
      let is = h.is in
      let b = k.spaces.eden_behind in
      elim h.where_from [
        | inl o ↦ let w = (old-goes k t c h.chunk o h.marked).below in absurd (omega (arith, is, low, w, b))
        | inr y ↦ elim y [
          | inl f ↦ (h.chunk, f, h.marked, h.is)
          | inr f ↦ let w = (past-goes k t c h.chunk f h.marked).0 in let a = eden_past v.words v.limits v.spaces k.spaces in absurd (omega (arith, is, high, w, a))
        ]
      ]

  from-past : (s : ℕ) → c.starts s ≡ true → v.spaces.past_at ≤ s → (e : Chunk) × In ps e × (is_marked_object v e.start ≡ true) × (p e.start ≡ s)
  from-past s on low =
      let h = come s on in
      let is = h.is in
      let b = k.spaces.eden_behind in
      let a = eden_past v.words v.limits v.spaces k.spaces in
      elim h.where_from [
        | inl o ↦ let w = (old-goes k t c h.chunk o h.marked).below in absurd (omega (arith, is, low, w, a, b))
        | inr y ↦ elim y [
          | inl f ↦ let w = (eden-goes k t c h.chunk f h.marked).1 in absurd (omega (arith, is, low, w, a))
          | inr f ↦ (h.chunk, f, h.marked, h.is)
        ]
      ]

  pub old-part : IsPart p v v' os (old' k t c)
  old-part = record {
    to = λ e m on.
        let g = old-goes k t c e m on in
        elim g.either [
          | inl f ↦ (e, in_left (front k) (rest' k t c) e f.0, sym f.1)
          | inr f ↦
              let s = c.old.starts (p e.start) (c.moved.there e.start f.0) f.1 g.below in
              let r = chunk_of_start (rest' k t c) (p e.start) (in_list (starts_of (rest' k t c)) (p e.start) s) in
              (r.0, in_right (front k) (rest' k t c) r.0 r.1, r.2)
        ];
    from = λ d m. elim (in_either (front k) (rest' k t c) d m) [
      | inl f ↦
          let n = front-number k d f in
          inl (d, subst (λ cs. In cs d) (front-behind k) (in_left (front k) (behind k) d f), ap (is_marked_object v) n.2 ∙ first-marked k t n.0 n.1, ap p n.2 ∙ c.firsts n.0 n.1 ∙ sym n.2)
      | inr f ↦ elim (c.old.kinds d (listed (rest' k t c) d f)) [ inl on ↦ inl (from-old d.start on (old'-below k t c d m)) | inr free ↦ inr free ]
    ];
  }

  pub eden-from : (d : Chunk) → In (eden' k t c) d → Comes p v es d
  eden-from d m = let w = eden'-within k t c d m in from-eden d.start (c.eden.objects d (listed (eden' k t c) d m)) w.0 w.1

  pub past-from : (d : Chunk) → In (past' k t c) d → Comes p v ps d
  past-from d m = from-past d.start (c.past.objects d (listed (past' k t c) d m)) (past'-above k t c d m)

  pub eden-part : IsPart p v v' es (eden' k t c)
  eden-part = record {
    to = λ e m on.
        let w = eden-goes k t c e m on in
        let s = c.eden.starts (p e.start) (c.moved.there e.start (young-mapped k t c e (in_eden k t c e m) on)) w.0 w.1 in
        chunk_of_start (eden' k t c) (p e.start) (in_list (starts_of (eden' k t c)) (p e.start) s);
    from = λ d m. inl (eden-from d m);
  }

  pub past-part : IsPart p v v' ps (past' k t c)
  past-part = record {
    to = λ e m on.
        let w = past-goes k t c e m on in
        let s = c.past.starts (p e.start) (c.moved.there e.start (young-mapped k t c e (in_past k t c e m) on)) w.0 w.1 in
        chunk_of_start (past' k t c) (p e.start) (in_list (starts_of (past' k t c)) (p e.start) s);
    from = λ d m. inl (past-from d m);
  }

  -- all that stands in new space comes from there
  pub young-from : (d : Chunk) → In ((eden' k t c) ++ (past' k t c)) d → Comes p v (young_row v.words v.spaces) d
  young-from d m = elim (in_either (eden' k t c) (past' k t c) d m) [
    | inl f ↦ let r = eden-from d f in (r.0, in_eden k t c r.0 r.1, r.2, r.3)
    | inr f ↦ let r = past-from d f in (r.0, in_past k t c r.0 r.1, r.2, r.3)
  ]

  -- what stands in old space goes to old space, and the rest to new space
  pub goes-old : (s : ℕ) → is_marked_object v s ≡ true → s < v.spaces.old_end → p s < v.spaces.old_end
  goes-old s on low =
      let r = located k t c s (and_parts (is_there (old.cell s)) (is_marked v.words s) on).0 in
      let is = r.2 in
      elim (in_either os (young_row v.words v.spaces) r.0 r.1) [
        | inr y ↦ let a = young_above k t c r.0 y in absurd (omega (arith, a, is, low))
        | inl o ↦ let b = (old-goes k t c r.0 o (ap (is_marked_object v) r.2 ∙ on)).below in let e : p r.0.start ≡ p s = ap p r.2 in omega (arith, b, e)
      ]

  pub goes-new : (s : ℕ) → is_marked_object v s ≡ true → v.spaces.old_end ≤ s → v.spaces.old_end ≤ p s
  goes-new s on high =
      let r = located k t c s (and_parts (is_there (old.cell s)) (is_marked v.words s) on).0 in
      let is = r.2 in
      let marked : is_marked_object v r.0.start ≡ true = ap (is_marked_object v) r.2 ∙ on in
      let e : p r.0.start ≡ p s = ap p r.2 in
      let b = k.spaces.eden_behind in
      elim (in_either os (young_row v.words v.spaces) r.0 r.1) [
        | inl o ↦ let a = old-below k t c r.0 o in absurd (omega (arith, a, is, high))
        | inr y ↦ elim (in_either es ps r.0 y) [
          | inl f ↦ let w = (eden-goes k t c r.0 f marked).0 in omega (arith, w, e, b)
          | inr f ↦ let w = (past-goes k t c r.0 f marked).0 in let a = eden_past v.words v.limits v.spaces k.spaces in omega (arith, w, e, a, b)
        ]
      ]

  -- nothing goes to the place of the free lists object
  pub lists-apart : c.starts (first old 3) ≡ false
  lists-apart = elim (cases_Bool (c.starts (first old 3))) [
    | inr off ↦ off
    | inl on ↦
        let b = c.moved.back (first old 3) on in
        let marked = marked-there k t c b.0 b.1 in
        let r = located k t c b.0 (and_parts (is_there (old.cell b.0)) (is_marked v.words b.0) marked).0 in
        let there : is_marked_object v r.0.start ≡ true = ap (is_marked_object v) r.2 ∙ marked in
        let goes : p r.0.start ≡ first old 3 = ap p r.2 ∙ b.2 in
        let rise = firsts-rise k 3 4 (omega arith) (omega arith) in
        elim (in_either os (young_row v.words v.spaces) r.0 r.1) [
          | inr y ↦ let w = goes-new r.0.start there (young_above k t c r.0 y) in let low = three_below k t c in absurd (omega (arith, w, goes, low))
          | inl o ↦ elim (old-goes k t c r.0 o there).either [
            | inr f ↦ let low = f.1 in absurd (omega (arith, low, goes, rise))
            | inl f ↦
                let lists : b.0 ≡ first old 3 = sym r.2 ∙ sym f.1 ∙ goes in
                absurd (false≢true (sym (not_from_true (eqb b.0 (first old 3)) (eq-eqb b.0 (first old 3) lists)) ∙ (and_parts (is_marked_object v b.0) (not (eqb b.0 (first old 3))) b.1).1))
          ]
        ]
  ]
