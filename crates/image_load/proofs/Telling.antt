-- From what the passes find to the cause that is told.
use Rattle.std.proofs.Common.{◌≡◌, ℕ, ◌+◌, List, length, true, false, refl, sym, ap, ◌∙◌, arith, subst}
use Rattle.std.proofs.lemmas.Bool.{false≢true}
use Rattle.spur_graph.specs.declared.limits.Limits.{Limits}
use Rattle.spur_graph.specs.ImageFile.{special_word}
use Rattle.spur_graph.specs.Segments.{Segment, offset_in}
use Rattle.spur_graph.specs.Cells.{Store, first}
use Rattle.spur_graph.specs.Ordinary.{is_good_reference}
use Rattle.spur_graph.specs.Places.{IsBadRoot}
use Rattle.spur_graph.specs.ImageCauses.{Row, BadObject, BadRoot, BadForwarder, BadPage, BadEntry, BadSlot, BadSpecial, Object, Roots, Forwarder, Class, Slot, Special, number, told, entry_word, IsLeast, FirstCause, IsAccepted}
use Rattle.heap_walk.specs.declared.starts.StartMap.{StartMap}
use Rattle.image_checks.specs.Checks.{IsBadIn, IsLost, IsBadPlace, IsBadIndex}
use Rattle.image_words.specs.declared.image.Roots.{Roots as FirstFive}
use Rattle.image_words.specs.References.{IsBadPointer}
use Rattle.spur_graph.specs.FileStores.{file_store}
use Rattle.image_laws.specs.Causes.{AreKeys}
use Rattle.image_laws.proofs.Causes.{next_row, none_is_accepted, least_is_first}
use Rattle.image_laws.proofs.Rows.{file_has_causes, resolved_has_causes}
use Rattle.image_file.specs.declared.error.LoadError.TheVariants as errors
use Rattle.image_load.specs.Passes.{Reaches, TellsFrom, TellsOf, AreGoodChunks, AreForwarded, HasClasses, HasValues, AreTried}

-- ---- rows one after another

-- behind a row without a bad key
goes_on : {bytes : List ℕ} {limits : Limits} {segs : List Segment} {words : List ℕ} {h : Store} (row next : Row) (P : ℕ → Type 0) → number next ≡ number row + 1
    → AreKeys bytes limits row P → ((n : ℕ) → P n → ⊥) → Reaches bytes limits segs words h row → Reaches bytes limits segs words h next
goes_on {bytes} {limits} row next P e keys none r = record { causes = r.causes; before = next_row bytes limits row next e r.before (keys.none none) }

-- the least bad key of a row
tells : {bytes : List ℕ} {limits : Limits} {segs : List Segment} {words : List ℕ} {h : Store} (row : Row) (P : ℕ → Type 0) (n : ℕ) → AreKeys bytes limits row P → IsLeast P n
    → Reaches bytes limits segs words h row → FirstCause bytes limits (told bytes limits row n)
tells {bytes} {limits} row P n keys least r = least_is_first bytes limits row n r.before (keys.least n least)

module _ (segs : List Segment) (words : List ℕ) (h : Store) where
  pub told_object : (n p : ℕ) → p ≡ offset_in segs n → IsLeast (IsBadIn segs words) n → TellsFrom segs words h BadObject (errors.Object p)
  told_object n p is least bytes limits r =
      subst (FirstCause bytes limits) (r.causes.told_of.objects n ∙ ap Object (sym is)) (tells BadObject (IsBadIn segs words) n r.causes.rows.objects least r)

  past_objects : {bytes : List ℕ} {limits : Limits} → ((n : ℕ) → IsBadIn segs words n → ⊥) → Reaches bytes limits segs words h BadObject → Reaches bytes limits segs words h BadRoot
  past_objects none r = goes_on BadObject BadRoot (IsBadIn segs words) refl r.causes.rows.objects none r

  past_roots : {bytes : List ℕ} {limits : Limits} → ((n : ℕ) → IsBadRoot words 0 (length words) n → ⊥) → Reaches bytes limits segs words h BadRoot → Reaches bytes limits segs words h BadForwarder
  past_roots none r = goes_on BadRoot BadForwarder (IsBadRoot words 0 (length words)) refl r.causes.rows.roots none r

  past_forwarders : {bytes : List ℕ} {limits : Limits} → ((n : ℕ) → IsLost (file_store segs words) n → ⊥) → Reaches bytes limits segs words h BadForwarder → Reaches bytes limits segs words h BadPage
  past_forwarders none r = goes_on BadForwarder BadPage (IsLost (file_store segs words)) refl r.causes.rows.forwarders none r

  past_pages : {bytes : List ℕ} {limits : Limits} → ((n : ℕ) → IsBadPlace h n → ⊥) → Reaches bytes limits segs words h BadPage → Reaches bytes limits segs words h BadEntry
  past_pages none r = goes_on BadPage BadEntry (IsBadPlace h) refl r.causes.rows.pages none r

  past_entries : {bytes : List ℕ} {limits : Limits} → ((n : ℕ) → IsBadIndex h n → ⊥) → Reaches bytes limits segs words h BadEntry → Reaches bytes limits segs words h BadSlot
  past_entries none r = goes_on BadEntry BadSlot (IsBadIndex h) refl r.causes.rows.entries none r

  past_slots : {bytes : List ℕ} {limits : Limits} → ((n : ℕ) → IsBadPointer h n → ⊥) → Reaches bytes limits segs words h BadSlot → Reaches bytes limits segs words h BadSpecial
  past_slots none r = goes_on BadSlot BadSpecial (IsBadPointer h) refl r.causes.rows.slots none r

  pub told_root : (n p : ℕ) → p ≡ offset_in segs n → ((m : ℕ) → IsBadIn segs words m → ⊥) → IsLeast (IsBadRoot words 0 (length words)) n → TellsFrom segs words h BadObject (errors.Roots p)
  told_root n p is none least bytes limits r =
      let now = past_objects none r in
      subst (FirstCause bytes limits) (now.causes.told_of.roots n ∙ ap Roots (sym is)) (tells BadRoot (IsBadRoot words 0 (length words)) n now.causes.rows.roots least now)

  pub told_forwarder : (n p : ℕ) → p ≡ offset_in segs n → IsLeast (IsLost (file_store segs words)) n → TellsFrom segs words h BadForwarder (errors.Forwarder p)
  told_forwarder n p is least bytes limits r =
      subst (FirstCause bytes limits) (r.causes.told_of.forwarders n ∙ ap Forwarder (sym is)) (tells BadForwarder (IsLost (file_store segs words)) n r.causes.rows.forwarders least r)

  pub told_page : (i n p : ℕ) → p ≡ offset_in segs n → n ≡ first h 4 + 1 + i → IsLeast (IsBadPlace h) i → TellsFrom segs words h BadPage (errors.Class p)
  told_page i n p is at least bytes limits r =
      subst (FirstCause bytes limits) (r.causes.told_of.pages i ∙ ap (λ m. Class (offset_in segs m)) (sym at) ∙ ap Class (sym is)) (tells BadPage (IsBadPlace h) i r.causes.rows.pages least r)

  pub told_entry : (i n p : ℕ) → p ≡ offset_in segs n → n ≡ entry_word h i → ((m : ℕ) → IsBadPlace h m → ⊥) → IsLeast (IsBadIndex h) i → TellsFrom segs words h BadPage (errors.Class p)
  told_entry i n p is at none least bytes limits r =
      let now = past_pages none r in
      subst (FirstCause bytes limits) (now.causes.told_of.entries i ∙ ap (λ m. Class (offset_in segs m)) (sym at) ∙ ap Class (sym is)) (tells BadEntry (IsBadIndex h) i now.causes.rows.entries least now)

  pub told_slot : (special n p : ℕ) → p ≡ offset_in segs n → IsLeast (IsBadPointer h) n → TellsOf segs words h special (errors.Slot p)
  told_slot special n p is least bytes limits same r =
      subst (FirstCause bytes limits) (r.causes.told_of.slots n ∙ ap Slot (sym is)) (tells BadSlot (IsBadPointer h) n r.causes.rows.slots least r)

  pub told_special : (special : ℕ) → ((m : ℕ) → IsBadPointer h m → ⊥) → is_good_reference h special ≡ false → TellsOf segs words h special (errors.Special special)
  told_special special none bad bytes limits same r =
      let now = past_slots none r in
      let Bad : ℕ → Type 0 = λ n. is_good_reference h (special_word bytes) ≡ false in
      let least : IsLeast Bad 0 = record { is = ap (is_good_reference h) (sym same) ∙ bad; none = λ m low. absurd (omega (arith, low)) } in
      subst (FirstCause bytes limits) (now.causes.told_of.special 0 ∙ ap Special (sym same)) (tells BadSpecial Bad 0 now.causes.rows.special least now)

  accepted_here : {bytes : List ℕ} {limits : Limits} (special : ℕ) → special ≡ special_word bytes → ((m : ℕ) → IsBadPointer h m → ⊥) → is_good_reference h special ≡ true → Reaches bytes limits segs words h BadSlot
      → IsAccepted bytes limits
  accepted_here {bytes} {limits} special same none good r =
      let now = past_slots none r in
      none_is_accepted bytes limits now.before (now.causes.rows.special.none (λ m bad. false≢true (sym bad ∙ ap (is_good_reference h) (sym same) ∙ good)))

-- ---- all passes

module _ {bytes : List ℕ} {limits : Limits} {segs : List Segment} {old : List ℕ} {special : ℕ} (t : AreTried bytes limits segs old special) where
  pub reaches_objects : Reaches bytes limits segs old (file_store segs old) BadObject
  reaches_objects = record { causes = file_has_causes bytes limits segs old t.segments_are t.words_are; before = t.before }

  pub reaches_forwarders : {firsts : FirstFive} → AreGoodChunks segs old firsts → Reaches bytes limits segs old (file_store segs old) BadForwarder
  reaches_forwarders c = past_roots segs old (file_store segs old) c.roots (past_objects segs old (file_store segs old) c.objects reaches_objects)

  pub reaches_pages : {new : List ℕ} {firsts : FirstFive} {starts : StartMap} → AreGoodChunks segs old firsts → AreForwarded segs old new firsts starts → Reaches bytes limits segs old (file_store segs new) BadPage
  reaches_pages {new} c f = record {
    causes = resolved_has_causes bytes limits segs old (file_store segs new) t.segments_are t.words_are f.resolved f.lost;
    before = (past_forwarders segs old (file_store segs old) f.lost (reaches_forwarders c)).before;
  }

  pub reaches_slots : {new : List ℕ} {firsts : FirstFive} {starts ordinary : StartMap} → AreGoodChunks segs old firsts → AreForwarded segs old new firsts starts → HasClasses segs new ordinary
      → Reaches bytes limits segs old (file_store segs new) BadSlot
  reaches_slots {new} c f k = past_entries segs old (file_store segs new) k.indices (past_pages segs old (file_store segs new) k.places (reaches_pages c f))

  pub accepted : {new : List ℕ} {firsts : FirstFive} {starts ordinary : StartMap} → AreGoodChunks segs old firsts → AreForwarded segs old new firsts starts → HasClasses segs new ordinary → HasValues segs new special
      → IsAccepted bytes limits
  accepted {new} c f k v = accepted_here segs old (file_store segs new) special t.special_is v.pointers v.special_there (reaches_slots c f k)
