-- A walk over the chunks of some words that writes each as it comes by.
use Rattle.std.proofs.Common.{◌≡◌, ◌⊎◌, ℕ, ◌+◌, ◌<◌, ◌≤◌, List, [], ◌∷◌, length, get_or, refl, sym, ap, ◌∙◌, subst, inl, inr, arith}
use Rattle.std.specs.List.{Contains}
use Rattle.object_header.specs.Chunks.{Chunk, chunk_of, IsChunk, Cuts}
use Rattle.heap_cells.proofs.Members.{In, in_list}
use Rattle.heap_cells.proofs.Cutting.{Lies, chunk_of-at, first, ends_after, cuts-in_order}

-- the chunk was passed, and its words were made what they are to be
pub record Passed (R : Chunk → ℕ → ℕ → Type 0) (new : List ℕ) (at : ℕ) (c : Chunk) : Type 0 where
  pub before : c.at + c.size ≤ at
  pub made : (j : ℕ) → c.at ≤ j → j < c.at + c.size → R c j (get_or new j 0)

-- the walk is at `at`: each chunk was passed or is one of the rest, whose words are as before
pub record Walking (R : Chunk → ℕ → ℕ → Type 0) (old new : List ℕ) (cs : List Chunk) (at : ℕ) : Type 0 where
  pub rest : List Chunk
  pub row : Cuts old at (length old) rest
  pub inside : (c : Chunk) → In rest c → In cs c
  pub passed : (c : Chunk) → In cs c → Passed R new at c ⊎ In rest c
  pub same : (j : ℕ) → at ≤ j → get_or new j 0 ≡ get_or old j 0
  pub long : length new ≡ length old

-- the first of the rest
record Front (old : List ℕ) (at : ℕ) (rest : List Chunk) : Type 0 where
  c : Chunk
  more : List Chunk
  is : rest ≡ c ∷ more
  chunk : IsChunk old at c
  row : Cuts old (at + c.size) (length old) more

front : (old : List ℕ) (at : ℕ) (rest : List Chunk) → Cuts old at (length old) rest → at < length old → Front old at rest
front old at [] t l = absurd (omega (arith, t))
front old at (c ∷ more) t l = record { c = c; more = more; is = refl; chunk = t.0; row = t.1 }

-- the chunk at `at`
pub record Comes (old : List ℕ) (cs : List Chunk) (from : ℕ) (c : Chunk) : Type 0 where
  pub chunk : IsChunk old c.at c
  pub at : c.at ≡ from
  pub inside : In cs c
  pub lies : Lies from (length old) c

module _ (R : Chunk → ℕ → ℕ → Type 0) (old : List ℕ) (cs : List Chunk) where
  pub walk_starts : Cuts old 0 (length old) cs → Walking R old old cs 0
  walk_starts t = record { rest = cs; row = t; inside = λ c m. m; passed = λ c m. inr m; same = λ j l. refl; long = refl }

  pub comes : (new : List ℕ) (at : ℕ) → Walking R old new cs at → at < length old → Comes old cs at (chunk_of at (get_or old at 0))
  comes new at w l =
      let f = front old at w.rest w.row l in
      let k = first old at f.c f.chunk in
      let e = ends_after old (at + f.c.size) (length old) f.more (cuts-in_order old (at + f.c.size) (length old) f.more f.row) in
      subst (Comes old cs at) f.chunk.is (record {
        chunk = subst (λ n. IsChunk old n f.c) (sym k.1) f.chunk;
        at = k.1;
        inside = w.inside f.c (subst (λ r. In r f.c) (sym f.is) (inl refl));
        lies = record { after = k.0.after; before = omega (arith, k.1, e); lead = k.0.lead; room = k.0.room; slots = k.0.slots };
      })

  pub walk_goes : (new next : List ℕ) (at : ℕ) → Walking R old new cs at → at < length old → length next ≡ length new
      → ((j : ℕ) → j < at → get_or next j 0 ≡ get_or new j 0) → ((j : ℕ) → at + (chunk_of at (get_or old at 0)).size ≤ j → get_or next j 0 ≡ get_or new j 0)
      → ((j : ℕ) → at ≤ j → j < at + (chunk_of at (get_or old at 0)).size → R (chunk_of at (get_or old at 0)) j (get_or next j 0))
      → Walking R old next cs (at + (chunk_of at (get_or old at 0)).size)
  walk_goes new next at w l len low high made =
      let f = front old at w.rest w.row l in
      let k = first old at f.c f.chunk in
      let here : chunk_of at (get_or old at 0) ≡ f.c = sym f.chunk.is in
      let place = chunk_of-at at (get_or old at 0) in
      let size : (chunk_of at (get_or old at 0)).size ≡ f.c.size = ap (λ (x : Chunk). x.size) here in
      record {
        rest = f.more;
        row = subst (λ n. Cuts old (at + n) (length old) f.more) (sym size) f.row;
        inside = λ c m. w.inside c (subst (λ r. In r c) (sym f.is) (inr m));
        passed = λ c m. elim (w.passed c m) [
          | inl p ↦ inl (record { before = omega (arith, p.before); made = λ j a b. subst (R c j) (sym (low j (omega (arith, b, p.before)))) (p.made j a b) })
          | inr r ↦ elim (subst (λ r. In r c) f.is r) [
            | inl e ↦ inl (subst (Passed R next (at + (chunk_of at (get_or old at 0)).size)) (here ∙ e) (record {
              before = omega (arith, place);
              made = λ j a b. made j (omega (arith, place)) (omega (arith, place));
            }))
            | inr n ↦ inr n
          ]
        ];
        same = λ j a. high j a ∙ w.same j (omega arith);
        long = len ∙ w.long;
      }

  pub walk_ends : (new : List ℕ) (at : ℕ) → Walking R old new cs at → length old ≤ at → (c : Chunk) → Contains cs c → (j : ℕ) → c.at ≤ j → j < c.at + c.size → R c j (get_or new j 0)
  walk_ends new at w l c m = elim (w.passed c (in_list cs c m)) [
    | inl p ↦ p.made
    | inr r ↦ absurd (none w.rest at w.row l c r)
  ]
    where
      none : (rest : List Chunk) (at : ℕ) → Cuts old at (length old) rest → length old ≤ at → (c : Chunk) → In rest c → ⊥
      none [] at t l c m = m
      none (d ∷ more) at t l c m = let k = first old at d t.0 in let e = ends_after old (at + d.size) (length old) more (cuts-in_order old (at + d.size) (length old) more t.1) in omega (arith, k.0.room, k.0.lead, k.1, e)
