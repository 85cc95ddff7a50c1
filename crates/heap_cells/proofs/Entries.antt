-- Places and entries of the class table.
use Rattle.std.proofs.Common.{◌≡◌, ℕ, true, false, not, ◌&&◌, ◌||◌, ◌/◌, ◌<◌, eqb, sym, ap, ◌∙◌, arith, inl, inr}
use Rattle.std.proofs.lemmas.Bool.{eqb-true, or_cases, not-false, and_parts}
use Rattle.spur_graph.specs.Cells.{Store, first, lead}
use Rattle.spur_graph.specs.Ordinary.{passes, has_page, entry, is_bad_entry, page_places, page_entries, class_limit, body_at, is_ordinary, has_entry, is_no_index, is_entered}
use Rattle.heap_cells.proofs.Below.{Passes, passed}

pub place_below : (i : ℕ) → i < class_limit → i / page_entries < page_places
place_below i l = omega arith

-- an entered class is an ordinary object
pub entered_ordinary : (h : Store) (s : ℕ) → is_entered h s ≡ true → is_ordinary h s ≡ true
unfolding is_entered
entered_ordinary h s e = (and_parts (is_ordinary h s) (not (is_no_index (body_at h s).hash)) (and_parts (is_ordinary h s && not (is_no_index (body_at h s).hash)) (has_entry h (body_at h s).hash s) e).0).0

-- an entry that is not bad leads to nil or to an entered class, which are ordinary objects
pub entry_passes : (h : Store) (i : ℕ) → is_ordinary h (first h 0) ≡ true → has_page h i ≡ true → is_bad_entry h i ≡ false → Passes (is_ordinary h) (lead h (entry h i))
entry_passes h i nil e good =
    let test = λ (s : ℕ). eqb s (first h 0) || (not (eqb i 0) && is_entered h s) in
    let g = passed test (lead h (entry h i)) (not-false _ (sym (ap (λ b. b && not (passes test (lead h (entry h i)))) e) ∙ good)) in
    record {
      one = g.one;
      is = g.is;
      holds = elim (or_cases (eqb g.one (first h 0)) (not (eqb i 0) && is_entered h g.one) g.holds) [
        | inl same ↦ ap (is_ordinary h) (eqb-true g.one (first h 0) same) ∙ nil
        | inr class ↦ entered_ordinary h g.one (and_parts (not (eqb i 0)) (is_entered h g.one) class).1
      ];
    }
