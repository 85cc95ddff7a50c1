-- Where words lead, by the words and the maps.
use Rattle.std.proofs.Common.{◌≡◌, ℕ, suc, Bool, true, false, cond, ◌&&◌, ◌+◌, ◌-◌, ◌<◌, ◌≤◌, List, length, get_or, refl, sym, ap, ◌∙◌, inl, inr, arith, nat_eq, Option, Some, None}
use Rattle.std.specs.Option.{unwrap_or, option_map}
use Rattle.std.proofs.lemmas.Bool.{cases_Bool, false≢true}
use Rattle.object_header.specs.Head.{class_of}
use Rattle.heap_walk.specs.Starts.{has_start}
use Rattle.spur_graph.specs.Segments.{word_in}
use Rattle.spur_graph.specs.Cells.{Store, is_start, is_moved, is_there, target_of, final, lead}
use Rattle.spur_graph.specs.Ordinary.{passes, is_ordinary, is_good_reference}
use Rattle.heap_cells.proofs.CellKinds.{there_starts, there_is_not_moved, moved_starts, moved_is, no_start_is_not_moved, moved_is_told}
use Rattle.heap_cells.proofs.Chains.{follow-end, follow-step, final-end}
use Rattle.heap_cells.proofs.References.{ordinary_there}
use Rattle.image_words.specs.declared.image.ImageWords.{ImageWords}
use Rattle.image_words.specs.References.{IsImage, Leads}

-- the ordinary object to which a word leads
abbrev pub ordinary_lead : Store → ℕ → Option ℕ
ordinary_lead h word = cond (is_good_reference h word) (lead h word) None

pub leads_good : (h : Store) (word s : ℕ) → lead h word ≡ Some s → is_ordinary h s ≡ true → ordinary_lead h word ≡ Some s
leads_good h word s e o = let good : is_good_reference h word ≡ true = ap (passes (is_ordinary h)) e ∙ o in rw good e

pub leads_bad : (h : Store) (word s : ℕ) → lead h word ≡ Some s → is_ordinary h s ≡ false → ordinary_lead h word ≡ None
leads_bad h word s e o = let bad : is_good_reference h word ≡ false = ap (passes (is_ordinary h)) e ∙ o in rw bad refl

pub leads_none : (h : Store) (word : ℕ) → lead h word ≡ None → ordinary_lead h word ≡ None
leads_none h word e = let bad : is_good_reference h word ≡ false = ap (passes (is_ordinary h)) e in rw bad refl

module _ {h : Store} {image : ImageWords} {words : List ℕ} (m : IsImage h image) (l : Leads h words) where
  -- a forwarder is told by the map and the header
  pub forwarder : (s : ℕ) (told : Bool) → told ≡ has_start image.starts.now s && nat_eq (class_of (get_or words s 0)) 8 → is_moved (h.cell s) ≡ told
  forwarder s told e = moved_is_told (h.cell s) (has_start image.starts.now s) (nat_eq (class_of (get_or words s 0)) 8) (m.has s) (l.moved s) ∙ sym e

  -- nothing starts behind the words
  behind_still : (s : ℕ) → h.names ≤ s → (is_moved (h.cell s) ≡ false) × (is_ordinary h s ≡ false)
  behind_still s far = elim (cases_Bool (is_start (h.cell s))) [
    | inl on ↦ absurd (omega (arith, m.inside s on, far))
    | inr off ↦ (
      no_start_is_not_moved (h.cell s) off,
      elim (cases_Bool (is_ordinary h s)) [
        | inl there ↦ absurd (false≢true (sym off ∙ there_starts (h.cell s) (ordinary_there h s there)))
        | inr none ↦ none
      ],
    )
  ]

  final-moved : (n s : ℕ) → h.names ≡ suc n → is_moved (h.cell s) ≡ true → is_moved (h.cell (target_of (h.cell s))) ≡ false → final h s ≡ target_of (h.cell s)
  unfolding final
  final-moved n s e moved k =
      rw e (follow-step (λ t. is_moved (h.cell t)) (λ t. target_of (h.cell t)) n s moved ∙ follow-end (λ t. is_moved (h.cell t)) (λ t. target_of (h.cell t)) n (target_of (h.cell s)) k)

  target_there : (s : ℕ) → is_moved (h.cell s) ≡ true → is_there (h.cell (target_of (h.cell s))) ≡ true
  target_there s moved = m.resolved s (target_of (h.cell s)) (moved_is (h.cell s) moved)

  -- a forwarder leads where it names
  one_hop : (s : ℕ) → is_moved (h.cell s) ≡ true → final h s ≡ target_of (h.cell s)
  one_hop s moved =
      let fits = m.inside s (moved_starts (h.cell s) moved) in
      let more : h.names ≡ suc (h.names - 1) = omega arith in
      final-moved (h.names - 1) s more moved (there_is_not_moved (h.cell (target_of (h.cell s))) (target_there s moved))

  -- the word of a forwarder names the start to which it leads
  target_word : (s : ℕ) (o : Option ℕ) → word_in image.map.now 0 (get_or words (s + 1) 0) ≡ o → is_moved (h.cell s) ≡ true → o ≡ Some (target_of (h.cell s))
  target_word s None e moved =
      let t = target_of (h.cell s) in
      let is : t ≡ length words = l.target s moved ∙ ap (λ o. unwrap_or o (length words)) (m.to (get_or words (s + 1) 0) ∙ e) in
      absurd (omega (arith, m.inside t (there_starts (h.cell t) (target_there s moved)), l.names, is))
  target_word s (Some t) e moved = ap (λ n. Some n) (sym (l.target s moved ∙ ap (λ o. unwrap_or o (length words)) (m.to (get_or words (s + 1) 0) ∙ e)))

  -- ---- the word names a start

  module _ (word s : ℕ) (named : word_in image.map.now 0 word ≡ Some s) where
    lead-still : is_moved (h.cell s) ≡ false → lead h word ≡ Some s
    lead-still still = ap (option_map (final h)) (m.to word ∙ named) ∙ ap (λ t. Some t) (final-end h s still)

    -- one behind the words
    pub leads_far : h.names ≤ s → ordinary_lead h word ≡ None
    leads_far far = let behind = behind_still s far in leads_bad h word s (lead-still behind.0) behind.1

    -- an ordinary object is where the word that names it leads
    pub leads_here : is_ordinary h s ≡ true → ordinary_lead h word ≡ Some s
    leads_here on = leads_good h word s (lead-still (there_is_not_moved (h.cell s) (ordinary_there h s on))) on

    -- one of neither an ordinary object nor a forwarder
    pub leads_nowhere : is_ordinary h s ≡ false → is_moved (h.cell s) ≡ false → ordinary_lead h word ≡ None
    leads_nowhere off still = leads_bad h word s (lead-still still) off

    -- that of a forwarder
    pub lead-moved : is_moved (h.cell s) ≡ true → (o : Option ℕ) → word_in image.map.now 0 (get_or words (s + 1) 0) ≡ o → lead h word ≡ o
    lead-moved moved o target = ap (option_map (final h)) (m.to word ∙ named) ∙ ap (λ t. Some t) (one_hop s moved) ∙ sym (target_word s o target moved)

  -- what the word of a forwarder names is among the words
  pub target_fits : (s t : ℕ) → is_moved (h.cell s) ≡ true → word_in image.map.now 0 (get_or words (s + 1) 0) ≡ Some t → t < h.names
  target_fits s t moved e =
      let is : t ≡ target_of (h.cell s) = sym (l.target s moved ∙ ap (λ o. unwrap_or o (length words)) (m.to (get_or words (s + 1) 0) ∙ e)) in
      omega (arith, is, m.inside (target_of (h.cell s)) (there_starts (h.cell (target_of (h.cell s))) (target_there s moved)))
