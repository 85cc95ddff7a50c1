-- An ordinary object gets another body of the same class and hash, whose words are good: the store is sound, and each word leads where it led.
use Rattle.std.proofs.Common.{◌≡◌, ◌≢◌, ℕ, Bool, true, false, not, ◌&&◌, ◌||◌, ◌*◌, ◌/◌, ◌%◌, ◌<◌, eqb, ltb, get_or, length, map, refl, sym, ap, ◌∙◌, subst, inl, inr, arith, Some, None, Option}
use Rattle.std.proofs.lemmas.Bool.{false≢true, cases_Bool, cases_eq, and_parts, and_left, and_right, not_from_true, not-true, not-false, ltb-true}
use Rattle.std.proofs.lemmas.Option.{same_Some}
use Rattle.std.specs.Option.{option_map, unwrap_or}
use Rattle.spur_graph.specs.Value.{is_immediate_word}
use Rattle.spur_graph.specs.Cells.{Body, There, Store, is_formed, is_moved, is_there, first, final, lead, pointer_count, any_below}
use Rattle.spur_graph.specs.Ordinary.{roots_slots, page_places, page_entries, class_limit, is_at, passes, body_at, root_slot, is_first, is_page_body, is_page, tells, is_nil_slot, is_internal, is_ordinary, is_good_reference, is_good_word, is_bad_forwarder, is_bad_page, is_bad_slot, has_page, page_of, entry, has_entry, is_no_index, is_entered, is_bad_entry}
use Rattle.spur_graph.specs.Graph.{AreApart}
use Rattle.spur_graph.specs.Heaps.{IsSound, HasFired, waiting_in}
use Rattle.heap_cells.proofs.Below.{passed, passes-same, any_below-same}
use Rattle.heap_cells.proofs.Chains.{good_forwarder_ends}
use Rattle.heap_cells.proofs.Entries.{place_below}
use Rattle.heap_cells.proofs.Internals.{a_page, place_cases}
use Rattle.heap_cells.proofs.References.{ordinary_there, ordinary_apart}
use Rattle.heap_cells.proofs.WholeClosed.{sound_loadable}
use Rattle.heap_laws.specs.Placed.{Outside}
use Rattle.heap_laws.specs.Instances.{IsGoodOutside}
use Rattle.scavenge_laws.specs.Copying.{IsHeapStore}
use Rattle.scavenge_laws.specs.Writing.{PutsCell}
use Rattle.scavenge_laws.proofs.Keeping.{tells-kept, internal-kept, ordinary-kept}
use Rattle.scavenge_laws.proofs.Outer.{page_internal}
use Rattle.scavenge_laws.proofs.Putting.{object-final, object-there, object-moves, object-starts, object-here, object-else, object-moved}

pub record Rebodies (a : ℕ) (b : Body) (old new : Store) : Type 0 where
  pub heap : IsHeapStore old
  pub put : PutsCell a (There b) old new
  pub ordinary : is_ordinary old a ≡ true
  pub class : b.class ≡ (body_at old a).class
  pub hash : b.hash ≡ (body_at old a).hash
  pub formed : is_formed b ≡ true
  pub good : (i : ℕ) → i < pointer_count b → is_good_word old (get_or b.words i 0) ≡ true
  pub fired : (body_at old a).format ≡ 1 → b.format ≡ 1

module _ {a : ℕ} {b : Body} {old new : Store} (k : Rebodies a b old new) where
  there : is_there (old.cell a) ≡ true
  there = ordinary_there old a k.ordinary

  sound : IsSound old
  sound = (k.heap).store.sound

  not_internal : (s : ℕ) → is_internal old s ≡ true → s ≢ a
  not_internal s on e = false≢true (sym (not-true _ (and_parts (is_there (old.cell a)) (not (is_internal old a)) k.ordinary).1) ∙ ap (is_internal old) (sym e) ∙ on)

  pub rebodied-final : (s : ℕ) → final new s ≡ final old s
  rebodied-final = object-final k.put there

  pub rebodied-root : (i : ℕ) → root_slot new i ≡ root_slot old i
  rebodied-root i =
      ap (λ s. get_or (body_at new s).words i 0) ((k.put).keeps.firsts 4 (omega arith))
      ∙ ap (λ (c : Body). get_or c.words i 0) (object-else k.put there (first old 4) (λ e. (ordinary_apart old a k.ordinary).0 (sym e)))

  pub rebodied-internal : (s : ℕ) → is_internal new s ≡ is_internal old s
  rebodied-internal = internal-kept (k.put).keeps rebodied-root

  pub rebodied-ordinary : (s : ℕ) → is_ordinary new s ≡ is_ordinary old s
  rebodied-ordinary s = ordinary-kept (k.put).keeps rebodied-root s (object-there k.put there s)

  mapped : (o : Option ℕ) → option_map (final new) o ≡ option_map (final old) o
  mapped None = refl
  mapped (Some t) = ap (λ u. Some u) (rebodied-final t)

  pub rebodied-lead : (w : ℕ) → lead new w ≡ lead old w
  rebodied-lead w = ap (option_map (final new)) ((k.put).keeps.to w) ∙ mapped (old.to w)

  pub rebodied-reference : (w : ℕ) → is_good_reference new w ≡ is_good_reference old w
  rebodied-reference w = ap (passes (is_ordinary new)) (rebodied-lead w) ∙ passes-same (is_ordinary new) (is_ordinary old) (lead old w) rebodied-ordinary

  pub rebodied-good : (w : ℕ) → is_good_word new w ≡ is_good_word old w
  rebodied-good w = λ x. is_immediate_word w || rebodied-reference w x

  -- what is said of all bodies
  all-bodies : (P : Body → Type 0) → P b → (s : ℕ) → P (body_at old s) → P (body_at new s)
  all-bodies P here s other = elim (cases_eq s a) [
    | inl e ↦ subst P (sym (ap (body_at new) e ∙ object-here k.put there)) here
    | inr n ↦ subst P (sym (object-else k.put there s n)) other
  ]

  same_hash : (s : ℕ) → (body_at new s).hash ≡ (body_at old s).hash
  same_hash s = elim (cases_eq s a) [
    | inl e ↦ ap (λ t. (body_at new t).hash) e ∙ ap (λ (c : Body). c.hash) (object-here k.put there) ∙ k.hash ∙ ap (λ t. (body_at old t).hash) (sym e)
    | inr n ↦ ap (λ (c : Body). c.hash) (object-else k.put there s n)
  ]

  -- ---- pages

  nil_slot-same : (i : ℕ) → is_nil_slot new i ≡ is_nil_slot old i
  nil_slot-same i = ap (tells new i) ((k.put).keeps.firsts 0 (omega arith)) ∙ tells-kept (k.put).keeps rebodied-root i (first old 0)

  pub rebodied-page : (i : ℕ) → has_page new i ≡ has_page old i
  rebodied-page i = λ x. ltb i class_limit && not (nil_slot-same (i / page_entries) x)

  first-same : (s : ℕ) → is_first new s ≡ is_first old s
  first-same s = any_below-same (λ j. eqb (first new j) s) (λ j. eqb (first old j) s) 5 (λ j l. ap (λ t. eqb t s) ((k.put).keeps.firsts j l))

  page-kept : (i : ℕ) → i < page_places → is_page old i ≡ true → is_page new i ≡ true
  unfolding is_page
  page-kept i l on =
      let test = λ (t : ℕ). is_there (old.cell t) && is_page_body (body_at old t) && not (is_first old t) && not (any_below (λ j. tells old j t) i) in
      let p = passed test (old.to (root_slot old i)) on in
      let named = a_page old i on in
      let one : named.0 ≡ p.one = same_Some named.0 p.one (sym named.1.named ∙ p.is) in
      let n : p.one ≢ a = λ e. not_internal named.0 (page_internal old i named.0 l named.1) (one ∙ e) in
      let now : (is_there (new.cell p.one) && is_page_body (body_at new p.one) && not (is_first new p.one) && not (any_below (λ j. tells new j p.one) i)) ≡ test p.one =
      λ x. object-there k.put there p.one x && is_page_body (object-else k.put there p.one n x) && not (first-same p.one x) && not (any_below (λ j. tells-kept (k.put).keeps rebodied-root j p.one x) i) in
      ap (passes (λ t. is_there (new.cell t) && is_page_body (body_at new t) && not (is_first new t) && not (any_below (λ j. tells new j t) i))) (ap new.to (rebodied-root i) ∙ (k.put).keeps.to (root_slot old i) ∙ p.is) ∙ now ∙ p.holds

  bad_page : (i : ℕ) → i < page_places → is_bad_page new i ≡ false
  bad_page i l = elim (place_cases (sound_loadable old sound) i l) [
    | inl nil ↦ and_left (not (is_nil_slot new i)) (not (is_page new i)) (not_from_true _ (nil_slot-same i ∙ nil))
    | inr page ↦ and_right (not (is_nil_slot new i)) (not (is_page new i)) (not_from_true _ (page-kept i l page))
  ]

  pub rebodied-entry : (i : ℕ) → has_page old i ≡ true → entry new i ≡ entry old i
  rebodied-entry i e =
      let parts = and_parts (ltb i class_limit) (not (is_nil_slot old (i / page_entries))) e in
      let l = place_below i (ltb-true i class_limit parts.0) in
      let page : is_page old (i / page_entries) ≡ true = not-false _ (sym (ap (λ x. not x && not (is_page old (i / page_entries))) (not-true _ parts.1)) ∙ sound.roots.pages (i / page_entries) l) in
      let p = a_page old (i / page_entries) page in
      let is : page_of old i ≡ p.0 = ap (λ o. unwrap_or o old.names) p.1.named in
      let other : page_of old i ≢ a = λ same. not_internal p.0 (page_internal old (i / page_entries) p.0 l p.1) (sym is ∙ same) in
      ap (λ o. get_or (body_at new (unwrap_or o new.names)).words (i % page_entries) 0) (ap new.to (rebodied-root (i / page_entries)) ∙ (k.put).keeps.to (root_slot old (i / page_entries)))
      ∙ ap (λ m. get_or (body_at new (unwrap_or (old.to (root_slot old (i / page_entries))) m)).words (i % page_entries) 0) (k.put).keeps.names
      ∙ ap (λ (c : Body). get_or c.words (i % page_entries) 0) (object-else k.put there (page_of old i) other)

  has_entry-same : (i s : ℕ) → has_entry new i s ≡ has_entry old i s
  has_entry-same i s = by (has_page old i) refl
    where
      by : (t : Bool) → has_page old i ≡ t → has_entry new i s ≡ has_entry old i s
      by true on = λ x. rebodied-page i x && is_at s ((ap (lead new) (rebodied-entry i on) ∙ rebodied-lead (entry old i)) x)
      by false off = ap (λ t. t && is_at s (lead new (entry new i))) (rebodied-page i ∙ off) ∙ sym (ap (λ t. t && is_at s (lead old (entry old i))) off)

  entered-same : (s : ℕ) → is_entered new s ≡ is_entered old s
  unfolding is_entered
  entered-same s = (λ x. rebodied-ordinary s x && not (is_no_index (same_hash s x)) && has_entry new (same_hash s x) s) ∙ (λ x. is_ordinary old s && not (is_no_index (body_at old s).hash) && has_entry-same (body_at old s).hash s x)

  bad_entry : (i : ℕ) → is_bad_entry new i ≡ false
  bad_entry i = by (has_page old i) refl
    where
      by : (t : Bool) → has_page old i ≡ t → is_bad_entry new i ≡ false
      by false off = and_left (has_page new i) _ (rebodied-page i ∙ off)
      by true on =
          (λ x. rebodied-page i x && not (passes (λ s. eqb s ((k.put).keeps.firsts 0 (omega arith) x) || (not (eqb i 0) && entered-same s x)) ((ap (lead new) (rebodied-entry i on) ∙ rebodied-lead (entry old i)) x)))
          ∙ sound.roots.entries i

  -- ---- the whole

  bad_slot : (s i : ℕ) → is_bad_slot new s i ≡ false
  bad_slot s i = elim (cases_eq s a) [
    | inr n ↦
        (λ x. (rebodied-ordinary s x && ltb i (pointer_count (object-else k.put there s n x))) && not (rebodied-good (get_or (object-else k.put there s n x).words i 0) x))
        ∙ sound.slots s i
    | inl e ↦ ap (λ t. is_bad_slot new t i) e ∙ (λ x. (is_ordinary new a && ltb i (pointer_count (object-here k.put there x))) && not (is_good_word new (get_or (object-here k.put there x).words i 0))) ∙ by (ltb i (pointer_count b)) refl
  ]
    where
      by : (t : Bool) → ltb i (pointer_count b) ≡ t → ((is_ordinary new a && ltb i (pointer_count b)) && not (is_good_word new (get_or b.words i 0))) ≡ false
      by true on = and_right _ _ (not_from_true _ (rebodied-good (get_or b.words i 0) ∙ k.good i (ltb-true i (pointer_count b) on)))
      by false off = and_left (is_ordinary new a && ltb i (pointer_count b)) _ (and_right (is_ordinary new a) _ off)

  bad_forwarder : (s : ℕ) → is_bad_forwarder new s ≡ false
  bad_forwarder s = elim (cases_Bool (is_moved (new.cell s))) [
    | inr off ↦ and_left _ _ off
    | inl on ↦
        let was : is_there (old.cell (final old s)) ≡ true = good_forwarder_ends old s (sound.ends s) (sym (object-moves k.put there s) ∙ on) in
        and_right _ _ (not_from_true _ (ap (λ t. is_there (new.cell t)) (rebodied-final s) ∙ object-there k.put there (final old s) ∙ was))
  ]

  lists-same : body_at new (first new 3) ≡ body_at old (first old 3)
  lists-same = ap (body_at new) ((k.put).keeps.firsts 3 (omega arith)) ∙ object-else k.put there (first old 3) (λ e. (ordinary_apart old a k.ordinary).1 (sym e))

  roots-same : body_at new (first new 4) ≡ body_at old (first old 4)
  roots-same = ap (body_at new) ((k.put).keeps.firsts 4 (omega arith)) ∙ object-else k.put there (first old 4) (λ e. (ordinary_apart old a k.ordinary).0 (sym e))

  pub rebodied-heap : IsHeapStore new
  rebodied-heap = record {
    store = record {
      reads = (k.put).keeps.reads;
      sound = record {
        formed = λ s e. all-bodies (λ c. is_formed c ≡ true) k.formed s (sound.formed s (sym (object-there k.put there s) ∙ e));
        targets = λ s t e. object-starts k.put there t ∙ sound.targets s t (object-moved k.put there s t e);
        ends = bad_forwarder;
        roots = record {
          five = (k.put).keeps.five;
          objects = λ j l. ap (λ t. is_there (new.cell t)) ((k.put).keeps.firsts j l) ∙ object-there k.put there (first old j) ∙ sound.roots.objects j l;
          outer = λ j l. ap (is_internal new) ((k.put).keeps.firsts j (omega (arith, l))) ∙ rebodied-internal (first old j) ∙ sound.roots.outer j l;
          lists = subst (λ (c : Body). c.format < 24) (sym lists-same) sound.roots.lists;
          roots = subst (λ (c : Body). (c.format ≡ 2) × (length c.words ≡ roots_slots)) (sym roots-same) sound.roots.roots;
          tops = λ i l m. rebodied-root i ∙ sound.roots.tops i l m ∙ ap (λ s. 8 * s) (sym ((k.put).keeps.firsts 0 (omega arith)));
          pages = bad_page;
          entries = bad_entry;
        };
        slots = bad_slot;
      };
    };
    to = λ w. (k.put).keeps.to w ∙ (k.heap).to w;
    below = λ s e. subst (λ n. s < n) (sym (k.put).keeps.names) ((k.heap).below s (sym (object-starts k.put there s) ∙ e));
  }

  pub rebodied-outside : (o : Outside) → IsGoodOutside old o → IsGoodOutside new o
  rebodied-outside o good = record {
    special = rebodied-reference o.special ∙ good.special;
    held = λ h w e. rebodied-good w ∙ good.held h w e;
    mourners = record {
      some = good.mourners.some;
      fired = λ i d l. fired (get_or (waiting_in o.groups) i d) (good.mourners.fired i d l);
      apart = subst (λ (f : ℕ → ℕ). AreApart (map f (waiting_in o.groups))) (sym finals) good.mourners.apart;
    };
  }
    where
      finals : ◌≡◌ {A = ℕ → ℕ} (final new) (final old)
      finals i s = rebodied-final s i

      format : (s : ℕ) → (body_at old s).format ≡ 1 → (body_at new s).format ≡ 1
      format s e = elim (cases_eq s a) [
        | inl same ↦ ap (λ t. (body_at new t).format) same ∙ ap (λ (c : Body). c.format) (object-here k.put there) ∙ k.fired (ap (λ t. (body_at old t).format) (sym same) ∙ e)
        | inr n ↦ ap (λ (c : Body). c.format) (object-else k.put there s n) ∙ e
      ]

      fired : (s : ℕ) → HasFired old s → HasFired new s
      fired s f = record {
        ordinary = ap (is_ordinary new) (rebodied-final s) ∙ rebodied-ordinary (final old s) ∙ f.ordinary;
        format = ap (λ t. (body_at new t).format) (rebodied-final s) ∙ format (final old s) f.format;
      }
