-- Loading: words are settled, and nothing moves.
use Rattle.std.proofs.Common.{◌≡◌, ℕ, true, ◌≤◌, ◌+◌, drop, length, get_or, refl, sym, ap, ◌∙◌, subst, arith, inl, inr, Some, false}
use Rattle.std.proofs.lemmas.Bool.{cases_Bool, and_left, and_right, not_from_true}
use Rattle.std.proofs.lemmas.List.{length-append}
use Rattle.std.specs.List.{Contains}
use Rattle.spur_graph.specs.Cells.{Moved, Store, is_there, is_start, is_moved, target_of, first, final, lead, pointer_count}
use Rattle.spur_graph.specs.Ordinary.{body_at, is_ordinary, is_good_reference, is_bad_forwarder}
use Rattle.heap_cells.specs.Settled.{settled_word}
use Rattle.heap_cells.proofs.Below.{passed}
use Rattle.heap_cells.proofs.Bodies.{with_words, pointers_fit}
use Rattle.heap_cells.proofs.Both.{Both, moved-same, target-same, there-same, start-same, final-same, ends_there, target_starts, body-settled, words-settled, words-other, length-same, behind-same, first-five, immediate_stays}
use Rattle.heap_cells.proofs.Fronts.{front-in}
use Rattle.heap_cells.proofs.Internals.{place_there, root-named, outer, nil_ordinary, to-heap}
use Rattle.heap_cells.proofs.Members.{in_list, in_left, listed}
use Rattle.heap_cells.proofs.References.{ordinary_there, settled-good, settled-bad, heap-lead}
use Rattle.heap_laws.specs.Placed.{IsPlacedWord, IsPlacedObject, CanPlace}
use Rattle.heap_laws.specs.Instances.{all_objects, same_place}
use Rattle.heap_cells.proofs.WholeClosed.{heap_aligned}
use Rattle.heap_laws.proofs.Words.{goal-good, goal-bad}

module _ {old new : Store} (k : Both old new) where
  pub loaded_word : (w : ℕ) → IsPlacedWord same_place (all_objects old) old new w (settled_word old w)
  loaded_word w = record {
    same = immediate_stays old w;
    leads = λ off. elim (cases_Bool (is_good_reference old w)) [
      | inl good ↦ let g = passed (is_ordinary old) (lead old w) good in ap (lead new) (settled-good k w g.one g.is good) ∙ heap-lead k g.one g.holds ∙ ap (λ s. Some s) (sym (goal-good old w g.one good g.is))
      | inr bad ↦ ap (lead new) (settled-bad k w off bad) ∙ heap-lead k (first old 0) (nil_ordinary k.named k.loadable) ∙ ap (λ s. Some s) (sym (goal-bad old w bad))
    ];
    kept = λ off. elim (cases_Bool (is_good_reference old w)) [
      | inl good ↦ let g = passed (is_ordinary old) (lead old w) good in ap (all_objects old) (goal-good old w g.one good g.is) ∙ ordinary_there old g.one g.holds
      | inr bad ↦ ap (all_objects old) (goal-bad old w bad) ∙ k.loadable.objects 0 (omega arith)
    ];
  }

  object : (s : ℕ) → is_there (old.cell s) ≡ true → IsPlacedObject same_place (all_objects old) old new s
  object s e = record {
    there = there-same k s ∙ e;
    head = body-settled k s e ∙ ap (with_words (body_at old s)) (sym (words-settled k s e));
    long = length-same k s e;
    slots = λ three four i l.
        let fits : pointer_count (body_at old s) ≤ length (body_at old s).words = pointers_fit (body_at old s) (k.loadable.formed s e) in
        let is : get_or (body_at new s).words i 0 ≡ settled_word old (get_or (body_at old s).words i 0) =
        ap (λ ws. get_or ws i 0) (words-settled k s e ∙ words-other old s (body_at old s) four three) ∙ front-in (settled_word old) (pointer_count (body_at old s)) i (body_at old s).words l (omega (arith, l, fits)) in
        subst (IsPlacedWord same_place (all_objects old) old new (get_or (body_at old s).words i 0)) (sym is) (loaded_word (get_or (body_at old s).words i 0));
    units = λ three four. ap (λ ws. drop (pointer_count (body_at old s)) ws) (words-settled k s e) ∙ behind-same k s e four;
  }

  targets : (s t : ℕ) → new.cell s ≡ Moved t → is_start (new.cell t) ≡ true
  targets s t e =
      let on : is_moved (old.cell s) ≡ true = sym (moved-same k s) ∙ ap is_moved e in
      let to : target_of (old.cell s) ≡ t = sym (target-same k s) ∙ ap target_of e in
      start-same k t ∙ sym (ap (λ u. is_start (old.cell u)) to) ∙ target_starts k s on

  ends : (s : ℕ) → is_bad_forwarder new s ≡ false
  ends s = elim (cases_Bool (is_moved (new.cell s))) [
    | inr off ↦ and_left _ _ off
    | inl on ↦
        let there : is_there (new.cell (final new s)) ≡ true = ap (λ t. is_there (new.cell t)) (final-same k s) ∙ there-same k (final old s) ∙ ends_there k s (sym (moved-same k s) ∙ on) in
        and_right _ _ (not_from_true _ there)
  ]

  pub loaded_placed : CanPlace same_place (all_objects old) old new
  loaded_placed = record {
    reads = record { aligned = k.named.aligned; inside = k.named.inside };
    loadable = k.loadable;
    outer = outer k.named k.loadable;
    reads_new = record {
      aligned = λ w s e. heap_aligned w s (sym (to-heap k w) ∙ e);
      inside = λ s e. subst (λ ss. Contains ss s) (sym k.settled.starts) (listed _ s (in_left old.starts k.settled.more s (in_list old.starts s (k.named.inside s (sym (start-same k s) ∙ e)))));
    };
    placed = record {
      some = λ s e. e;
      objects = object;
      back = λ t e. (t, sym (there-same k t) ∙ e, refl);
      once = λ s t e f is. is;
      five = let e : length new.starts ≡ length old.starts + length k.settled.more = ap length k.settled.starts ∙ length-append old.starts k.settled.more in let five : 5 ≤ length old.starts = k.loadable.five in omega (arith, e, five);
      firsts = λ j l. (k.loadable.objects j l, first-five k j l);
      pages = λ i s l e. (place_there k.loadable i s l e, root-named k i l ∙ e);
      targets = targets;
      ends = ends;
    };
  }
