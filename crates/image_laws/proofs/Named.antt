-- Names of the words of a file.
use Rattle.std.proofs.Common.{◌≡◌, ℕ, cond, not, ◌&&◌, ◌+◌, ◌-◌, ◌*◌, ◌/◌, ◌%◌, ◌<◌, eqb, ltb, List, [], ◌∷◌, length, sym, ap, ◌∙◌, subst, inl, inr, Some, None}
use Rattle.std.proofs.lemmas.Bool.{cases_Bool, eqb-true, and_parts}
use Rattle.std.proofs.lemmas.Option.{same_Some}
use Rattle.std.specs.List.{Contains}
use Rattle.spur_graph.specs.Segments.{Segment, word_count, total_words, word_in, address_in}
use Rattle.object_header.specs.Chunks.{Cuts, chunks}
use Rattle.heap_segments.specs.Rising.{has_address}
use Rattle.heap_segments.proofs.Rising.{word-cons, word-none, has_its_word, has_its_address}
use Rattle.heap_cells.specs.Rows.{starts_of, AreStarts}
use Rattle.heap_cells.proofs.Cutting.{all-in_order}
use Rattle.heap_cells.proofs.Starts.{start-read, starts-rise}
use Rattle.image_checks.specs.Checks.{AreOf}
use Rattle.image_laws.specs.Named.{FileIsNamed, FileHasNames}

-- an address that has a word is a multiple of 8
aligned : (segs : List Segment) (at w s : ℕ) → word_in segs at w ≡ Some s → w % 8 ≡ 0
aligned [] at w s e = absurd (let k : None ≡ Some s = sym (word-none at w) ∙ e in let f : ⊥ = cc in f)
aligned (x ∷ rest) at w s e = elim (cases_Bool (has_address x w)) [
  | inl on ↦
      let parts = and_parts (eqb (w % 8) 0 && not (ltb w x.address)) (ltb w (x.address + 8 * word_count x)) on in
      eqb-true (w % 8) 0 (and_parts (eqb (w % 8) 0) (not (ltb w x.address)) parts.0).0
  | inr off ↦ aligned rest (at + word_count x) w s (sym (word-cons x rest at w ∙ ap (λ b. cond b (Some (at + (w - x.address) / 8)) (word_in rest (at + word_count x) w)) off) ∙ e)
]

pub file_is_named : FileIsNamed
file_is_named segs words rising of cut =
    let stand = starts-rise words (length words) (chunks words) (all-in_order words cut) in
    record {
      aligned = λ w s e. aligned segs 0 w s e;
      below = λ w s e. subst (λ n. s < n) (sym of) (has_its_address segs w s rising e).0;
      inside = λ s e. (start-read (word_in segs 0) words (length words) (chunks words) s (all-in_order words cut) e).stands;
      starts_below = stand.below;
      rising = stand.rising;
    }

start_below : (segs : List Segment) (words : List ℕ) (s : ℕ) → AreOf segs words → Cuts words 0 (length words) (chunks words) → Contains (starts_of (chunks words)) s → s < total_words segs
start_below segs words s of cut c =
    let stand : AreStarts words (length words) (chunks words) = starts-rise words (length words) (chunks words) (all-in_order words cut) in
    subst (λ n. s < n) of (subst (λ t. t < length words) c.2 (stand.below c.0 s c.1))

pub file_has_names : FileHasNames
file_has_names segs words rising of cut s t cs ct e =
    let a : word_in segs 0 (address_in segs s) ≡ Some s = has_its_word segs s rising (start_below segs words s of cut cs) in
    let b : word_in segs 0 (address_in segs t) ≡ Some t = has_its_word segs t rising (start_below segs words t of cut ct) in
    same_Some _ _ (sym a ∙ ap (word_in segs 0) e ∙ b)
