-- The least bad pointer slot, found by a walk over the chunks.
use Rattle.std.proofs.Common.{◌≡◌, ℕ, Bool, true, false, cond, ◌+◌, ◌<◌, ◌≤◌, List, length, get_or, drop, sym, ap, arith, inl, inr, subst}
use Rattle.std.proofs.lemmas.Bool.{cases_lt}
use Rattle.std.proofs.lemmas.List.{length-take}
use Rattle.std.specs.List.{Contains}
use Rattle.image_words.specs.declared.image.ImageWords.{ImageWords}
use Rattle.object_header.specs.Chunks.{Chunk, chunk_of, leads, slots_at}
use Rattle.spur_graph.specs.Cells.{Body, Store, pointer_count}
use Rattle.spur_graph.specs.ImageCauses.{IsLeast}
use Rattle.spur_graph.specs.Ordinary.{body_at, is_ordinary}
use Rattle.heap_cells.specs.Rows.{starts_of}
use Rattle.heap_cells.proofs.Bodies.{pointers_fit}
use Rattle.heap_cells.proofs.CellKinds.{there_starts}
use Rattle.heap_cells.proofs.Cutting.{shape}
use Rattle.heap_cells.proofs.Members.{listed, start_of_chunk}
use Rattle.heap_cells.proofs.References.{ordinary_there}
use Rattle.image_words.specs.References.{IsBadPointer, IsBadPointerOf}
use Rattle.image_settle.specs.Settles.{IsReady}
use Rattle.image_settle.proofs.Walking.{Comes, Walking, comes}
use Rattle.image_settle.proofs.Steps.{Spans, spans_old}
use Rattle.image_settle.proofs.Ready.{h, cs, read, rise}
use Rattle.image_settle.proofs.Values.{bad_at}

-- no object that starts before a place has a bad slot
abbrev pub NoneBefore : Store → ℕ → Type 0
NoneBefore store at = (t : ℕ) → t < at → (n : ℕ) → IsBadPointerOf store t n → ⊥

one : (b : Bool) → cond b 1 0 ≤ 1
one true = omega arith
one false = omega arith

module _ (image : ImageWords) (old : List ℕ) (r : IsReady image old) where
  abbrev store : Store
  store = h image old r

  abbrev row : List Chunk
  row = cs image old r

  ordinary_reads : (s : ℕ) → is_ordinary store s ≡ true → Contains (starts_of row) s
  ordinary_reads s e = (read image old r s (there_starts (store.cell s) (ordinary_there store s e))).stands

  -- the pointers of an ordinary object are among its slots
  fits : (s : ℕ) → is_ordinary store s ≡ true → pointer_count (body_at store s) ≤ slots_at old s
  fits s e =
      let there = ordinary_there store s e in
      let body = (read image old r s (there_starts (store.cell s) there)).body there in
      omega (arith, pointers_fit (body_at store s) (r.formed s there), ap (λ (b : Body). length b.words) body, length-take (slots_at old s) (drop (s + 1) old))

  -- of the words of a chunk, the start of an ordinary object is its own
  alone : (at : ℕ) (c : Chunk) → Comes old row at c → (t : ℕ) → is_ordinary store t ≡ true → at ≤ t → t < at + c.size → t ≡ c.start
  alone at c k t e low high =
      let up = rise image old r in
      let sh = shape old c k.chunk in
      let here : Contains (starts_of row) c.start = listed (starts_of row) c.start (start_of_chunk row c k.inside) in
      elim (cases_lt t c.start) [
        | inl m ↦ let q = up.apart t c.start (ordinary_reads t e) here m in absurd (omega (arith, q.next, sh.lead, one (leads (get_or old c.start 0)), k.at, low))
        | inr m ↦ elim (cases_lt c.start t) [
          | inl o ↦ let q = up.apart c.start t here (ordinary_reads t e) o in absurd (omega (arith, q.next, q.slots, sh.slots, sh.size, k.at, high))
          | inr o ↦ omega (arith, m, o)
        ]
      ]

  pub none_next : (at : ℕ) (c : Chunk) → Comes old row at c → NoneBefore store at → ((n : ℕ) → IsBadPointerOf store c.start n → ⊥) → NoneBefore store (at + c.size)
  none_next at c k before none t l n bad = elim (cases_lt t at) [
    | inl low ↦ before t low n bad
    | inr high ↦
        let is = alone at c k t (bad_at store t bad.0 bad.3).ordinary high l in
        none n (subst (λ s. IsBadPointerOf store s n) is bad)
  ]

  -- the least bad slot of an object is the least of all, where the objects before it have none
  pub least_of_all : (at : ℕ) (c : Chunk) → Comes old row at c → NoneBefore store at → (n : ℕ) → IsLeast (IsBadPointerOf store c.start) n → IsLeast (IsBadPointer store) n
  least_of_all at c k before n least = record {
    is = (c.start, least.is.0, least.is.1, least.is.2, least.is.3);
    none = λ m l (t, j, is, format, bad).
        let b = bad_at store t j bad in
        let a = bad_at store c.start least.is.0 least.is.3 in
        elim (cases_lt t at) [
          | inl low ↦ before t low m (j, is, format, bad)
          | inr high ↦ elim (cases_lt c.start t) [
            | inl over ↦
                let room = (rise image old r).apart c.start t (ordinary_reads c.start a.ordinary) (ordinary_reads t b.ordinary) over in
                omega (arith, room.slots, is, least.is.1, l, a.inside, fits c.start a.ordinary)
            | inr under ↦
                let same = alone at c k t b.ordinary high (omega (arith, under, k.lies.room, k.at)) in
                least.none m l (subst (λ s. IsBadPointerOf store s m) same (j, is, format, bad))
          ]
        ];
  }

  pub none_at_all : (at : ℕ) → length old ≤ at → NoneBefore store at → (n : ℕ) → IsBadPointer store n → ⊥
  none_at_all at far before n (s, i, is, format, bad) =
      let there = ordinary_there store s (bad_at store s i bad).ordinary in
      let below = (read image old r s (there_starts (store.cell s) there)).below in
      before s (omega (arith, below, far)) n (i, is, format, bad)

  -- ---- the same by the span that was read

  module _ (named : Store) (is : named ≡ store) (R : Chunk → ℕ → ℕ → Type 0) (new : List ℕ) (at start slots end : ℕ) (w : Walking R old new row at) (l : at < length old) (spans : Spans new at start slots end) where
    abbrev here : Chunk
    here = chunk_of at (get_or old at 0)

    come : Comes old row at here
    come = comes R old row new at w l

    same : Spans old at start slots end
    same = spans_old old row new new at start slots end spans (w.same at (omega arith))

    pub passes : NoneBefore named at → ((n : ℕ) → IsBadPointerOf named start n → ⊥) → NoneBefore named end
    passes before none =
        let after : NoneBefore store (at + here.size) = none_next at here come (subst (λ x. NoneBefore x at) is before)
        (subst (λ s. (n : ℕ) → IsBadPointerOf store s n → ⊥) same.start_is (subst (λ x. (n : ℕ) → IsBadPointerOf x start n → ⊥) is none)) in
        subst (λ x. NoneBefore x end) (sym is) (subst (NoneBefore store) (sym same.end_is) after)

    pub finds : NoneBefore named at → (n : ℕ) → IsLeast (IsBadPointerOf named start) n → IsLeast (IsBadPointer named) n
    finds before n least =
        let all : IsLeast (IsBadPointer store) n = least_of_all at here come (subst (λ x. NoneBefore x at) is before) n
        (subst (λ s. IsLeast (IsBadPointerOf store s) n) same.start_is (subst (λ x. IsLeast (IsBadPointerOf x start) n) is least)) in
        subst (λ x. IsLeast (IsBadPointer x) n) (sym is) all

  pub ends : (named : Store) → named ≡ store → (at : ℕ) → length old ≤ at → NoneBefore named at → (n : ℕ) → IsBadPointer named n → ⊥
  ends named is at far before = subst (λ x. (n : ℕ) → IsBadPointer x n → ⊥) (sym is) (none_at_all at far (subst (λ x. NoneBefore x at) is before))
