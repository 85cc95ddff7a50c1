-- A pointer slot of an ordinary object, and the word to which its word is followed.
use Rattle.std.proofs.Common.{◌≡◌, ◌≢◌, ℕ, true, ◌+◌, ◌%◌, ◌<◌, ◌≤◌, length, get_or, sym, ap, ◌∙◌, subst, arith, inl, inr}
use Rattle.std.proofs.lemmas.Bool.{cases_eq, ltb-true}
use Rattle.object_header.specs.Formats.{is_method}
use Rattle.spur_graph.specs.Cells.{lead}
use Rattle.spur_graph.specs.Heaps.{View, IsWhole, store_of, heap_value}
use Rattle.heap_cells.proofs.Bodies.{first_tag}
use Rattle.heap_cells.proofs.CellKinds.{there_is}
use Rattle.heap_cells.proofs.ObjectReads.{object-word}
use Rattle.heap_cells.proofs.References.{ordinary_apart}
use Rattle.spur_heap.specs.Words.{AreSound, body_in, is_good}
use Rattle.spur_heap.specs.Views.{IsOrdinary, node_in, follows}
use Rattle.spur_heap.specs.Following.{IsFollowed, IsFollowedSlot}
use Rattle.spur_heap.proofs.Orders.{order}
use Rattle.spur_heap.proofs.SlotCounts.{formed}
use Rattle.spur_heap.proofs.SlotAlike.{Another}
use Rattle.spur_heap.proofs.FollowedWords.{Settles, settles}
use Rattle.spur_heap.proofs.Puts.{whole_sound, object, fields_are, pointers_count, slot_inside, pointer_good}

module _ (v : View) (whole : IsWhole v) (s : ℕ) (there : IsOrdinary v s) (i : ℕ) (within : i < length (node_in v s).pointers) (word result : ℕ)
    (is_word : word ≡ get_or v.words (s + 1 + i) 0) (is : follows v word result) where
  sound : AreSound v
  sound = whole_sound v whole

  slot_word : word ≡ get_or (body_in v s).words i 0
  slot_word = is_word ∙ sym (object-word _ v.words _ (order v sound) s (object v whole s there) i (slot_inside v whole s there i within))

  word_settles : Settles v word result
  word_settles = settles v sound word result (ap (is_good v) is_word ∙ pointer_good v whole s there i within) is

  -- slot 0 of a method is no reference
  some_literals : result ≢ word → 24 ≤ (body_in v s).format → 0 < i
  some_literals other method = elim (cases_eq i 0) [
    | inl zero ↦
        let tag : get_or (body_in v s).words 0 0 % 8 ≡ 1 = first_tag (body_in v s) (formed v sound s (object v whole s there)) method in
        let same : word ≡ get_or (body_in v s).words 0 0 = slot_word ∙ ap (λ j. get_or (body_in v s).words j 0) zero in
        absurd (other (word_settles.loose (λ z. omega (arith, z, tag, same))))
    | inr some ↦ omega (arith, some)
  ]

  pub no_literals : result ≢ word → is_method (node_in v s).format ≡ true → 0 < i
  no_literals other method =
      let format = (fields_are v whole s there).format in
      some_literals other (let l = ltb-true 23 (node_in v s).format method in omega (arith, l, format))

  pub another : result ≢ word → Another (store_of v) s i result (body_in v s)
  another other = record {
    sound = sound.sound;
    there = there_is ((store_of v).cell s) (object v whole s there);
    roots = λ e. (ordinary_apart (store_of v) s there).0 (sym e);
    low = let count = pointers_count v whole s there in omega (arith, within, count);
    literals = some_literals other;
    good = word_settles.good;
    leads = word_settles.leads ∙ ap (lead (store_of v)) slot_word;
    value = word_settles.value ∙ ap (heap_value v) slot_word;
  }

  pub result_followed : IsFollowed v result
  result_followed = word_settles.followed

  -- the slot is followed already
  pub slot_stays : result ≡ word → IsFollowedSlot v s i
  slot_stays same = subst (IsFollowed v) (same ∙ slot_word) word_settles.followed
