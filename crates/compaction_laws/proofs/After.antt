-- A compacted heap as a view: its spaces, its rows, and what stands in them.
use Rattle.std.proofs.Common.{◌≡◌, ℕ, List, ◌++◌, length, sym, ap, ◌∙◌, subst, arith, inl, inr, length-append}
use Rattle.object_header.specs.Chunks.{Chunk, Cuts, InOrder}
use Rattle.spur_graph.specs.Spaces.{AreSpaces, AreRows, old_row, eden_row, past_row, young_row}
use Rattle.spur_graph.specs.Heaps.{IsWhole, View, chunks_of}
use Rattle.heap_cells.proofs.Cutting.{row-is}
use Rattle.heap_cells.proofs.Members.{in_either, in_left, in_right}
use Rattle.heap_cells.proofs.Spaced.{rows-in_order}
use Rattle.compaction_laws.specs.Compacting.{IsTight, Compacts}
use Rattle.compaction_laws.proofs.Fronts.{front, front-long}
use Rattle.compaction_laws.proofs.Spaces.{spaces', rest', old', old-cuts, eden', past'}
use Rattle.compaction_laws.proofs.Parts.{IsPart, old-part, eden-part, past-part}

part-append : (p : ℕ → ℕ) (v v' : View) (cs ds cs' ds' : List Chunk) → IsPart p v v' cs cs' → IsPart p v v' ds ds' → IsPart p v v' (cs ++ ds) (cs' ++ ds')
part-append p v v' cs ds cs' ds' a b = record {
  to = λ c m on. elim (in_either cs ds c m) [
    | inl f ↦ let r = a.to c f on in (r.0, in_left cs' ds' r.0 r.1, r.2)
    | inr g ↦ let r = b.to c g on in (r.0, in_right cs' ds' r.0 r.1, r.2)
  ];
  from = λ d m. elim (in_either cs' ds' d m) [
    | inl f ↦ elim (a.from d f) [ inl r ↦ inl (r.0, in_left cs ds r.0 r.1, r.2, r.3) | inr free ↦ inr free ]
    | inr g ↦ elim (b.from d g) [ inl r ↦ inl (r.0, in_right cs ds r.0 r.1, r.2, r.3) | inr free ↦ inr free ]
  ];
}

module _ {p : ℕ → ℕ} {v v' : View} (k : IsWhole v) (t : IsTight v) (c : Compacts p v v') where
  -- ---- the view

  abbrev pub new : View
  new = record v { words = v'.words; spaces = spaces' k t c; mourners = v'.mourners; handles = v'.handles; special = v'.special }

  pub new-is : v' ≡ new
  new-is = c.rest ∙ ap (λ sp. record v { words = v'.words; spaces = sp; mourners = v'.mourners; handles = v'.handles; special = v'.special }) c.spaces

  pub old-is : old_row v'.words (spaces' k t c) ≡ old' k t c
  old-is = row-is v'.words 0 v.spaces.old_end (old' k t c) (old-cuts k t c)

  pub rows-are : AreRows v'.words (spaces' k t c)
  rows-are = record {
    old = subst (λ cs. Cuts v'.words 0 v.spaces.old_end cs) (sym old-is) (old-cuts k t c);
    eden = c.eden.cuts;
    past = c.past.cuts;
    five =
        let is : length (old_row v'.words (spaces' k t c)) ≡ length (old' k t c) = ap (λ (cs : List Chunk). length cs) old-is in
        omega (arith, is, length-append (front k) (rest' k t c), front-long k);
  }

  pub spaces-are : AreSpaces (length v'.words) v.limits (spaces' k t c)
  spaces-are = record {
    eden_behind = k.spaces.eden_behind;
    first_behind = k.spaces.first_behind;
    second_behind = k.spaces.second_behind;
    last = k.spaces.last ∙ sym c.moved.same_words;
    past_is = k.spaces.past_is;
    eden_fits = let fits = k.spaces.eden_fits in let within = c.eden.within in omega (arith, fits, within);
    past_fits = let fits = k.spaces.past_fits in let within = c.past.within in omega (arith, fits, within);
  }

  pub order' : InOrder v'.words 0 (length v'.words) (chunks_of new)
  order' = rows-in_order v'.words v.limits (spaces' k t c) spaces-are rows-are

  pub old-part' : IsPart p v v' (old_row v.words v.spaces) (old_row v'.words (spaces' k t c))
  old-part' = subst (λ cs. IsPart p v v' (old_row v.words v.spaces) cs) (sym old-is) (old-part k t c)

  young-part : IsPart p v v' (young_row v.words v.spaces) (young_row v'.words (spaces' k t c))
  young-part = part-append p v v' (eden_row v.words v.spaces) (past_row v.words v.spaces) (eden' k t c) (past' k t c) (eden-part k t c) (past-part k t c)

  pub whole-part : IsPart p v v' (chunks_of v) (chunks_of new)
  whole-part = part-append p v v' (old_row v.words v.spaces) (young_row v.words v.spaces) (old_row v'.words (spaces' k t c)) (young_row v'.words (spaces' k t c)) old-part' young-part
