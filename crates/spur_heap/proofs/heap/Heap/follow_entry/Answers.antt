use Rattle.std.proofs.Common.{◌≡◌, ℕ, true, ◌+◌, ◌/◌, ◌%◌, ◌<◌, List, length, get_or, set, refl, sym, ap, ◌∙◌, subst, arith}
use Rattle.spur_graph.specs.Ordinary.{class_limit, root_slot, entry}
use Rattle.spur_graph.specs.Heaps.{View, store_of}
use Rattle.spur_heap.specs.declared.heap.HeapParts.{HeapParts}
use Rattle.spur_heap.specs.Parts.{view_of, ArePartsOfHeap}
use Rattle.spur_heap.specs.Words.{AreSound, starts_at, body_in, is_good}
use Rattle.spur_heap.specs.Views.{follows}
use Rattle.spur_heap.specs.Entering.{HasPage}
use Rattle.spur_heap.specs.Remembering.{CanNote, must_remember, noted, remembered_for, stored}
use Rattle.spur_heap.specs.Following.{Follows, IsFollowedEntry}
use Rattle.spur_heap.proofs.PageAt.{page_read}
use Rattle.spur_heap.proofs.EntryFollowed.{start, start_starts, entry_inside, entry_read, entry_good, page_there, another, entry_result, entry_stays}
use Rattle.spur_heap.proofs.Puts.{whole_sound}
use Rattle.spur_heap.proofs.SlotAlike.{Another}
use Rattle.spur_heap.proofs.SlotFollowed.{followed_whole, followed_tables, followed_notes, follows_slot, entry_followed}
use Rattle.spur_heap.proofs.Storing.{remembered_for_long, stored_seen}
use Rattle.spur_heap.proofs.Tables.{parts_noting, can_note_at}
use Rattle.spur_heap.proofs.heap.Heap.follow_entry.Goals as goal

-- what was read: slot `index / 1024` of the hidden roots
module _ (p : HeapParts) (k : ArePartsOfHeap p) (index : ℕ) (below : index < class_limit) (paged : HasPage (view_of p) index) (root : ℕ) (root_is : root ≡ root_slot (store_of (view_of p)) (index / 1024)) where
  abbrev v : View
  v = view_of p

  sound : AreSound v
  sound = whole_sound v k.whole

  abbrev s : ℕ
  s = start v sound index below paged

  at : root / 8 ≡ s
  at = ap (λ w. w / 8) root_is ∙ page_read v sound index below paged

  starts : starts_at v s ≡ true
  starts = start_starts v sound index below paged

  can : CanNote p (root / 8)
  can = can_note_at p k v refl (root / 8) (ap (starts_at v) at ∙ starts)

  inside : root / 8 + 1 + index % 1024 < length p.region
  inside = let far = entry_inside v sound index below paged in omega (arith, far, at)

  -- and the entry
  module _ (word : ℕ) (word_is : word ≡ get_or p.region (root / 8 + 1 + index % 1024) 0) where
    word_entry : word ≡ entry (store_of v) index
    word_entry = word_is ∙ ap (λ t. get_or p.region (t + 1 + index % 1024) 0) at ∙ sym (entry_read v sound index below paged)

    good : is_good v word ≡ true
    good = ap (is_good v) word_entry ∙ entry_good v sound index below paged

    module _ (to : ℕ) (to_is : follows v word to) where
      led : follows v (entry (store_of v) index) to
      led = subst (λ w. follows v w to) word_entry to_is

      stays : to ≡ word → IsFollowedEntry v index
      stays same = entry_stays v sound index below paged to led (same ∙ word_entry)

      other : Another (store_of v) s (index % 1024) to (body_in v s)
      other = another v sound index below paged to led

      -- the parts once the page that starts there is remembered where it has to be
      abbrev noting : ℕ → HeapParts
      noting t = record p { region = (remembered_for v t to).words; remembered = noted v (must_remember v t to) t p.remembered }

      module _ (q : HeapParts) (q_is : q ≡ record p { region = (remembered_for v (root / 8) to).words; remembered = noted v (must_remember v (root / 8) to) (root / 8) p.remembered }) (new : List ℕ) (new_is : new ≡ set q.region (root / 8 + 1 + index % 1024) to) where
        seen : view_of (record q { region = new }) ≡ stored v s (index % 1024) to
        seen =
            stored_seen p v refl s (index % 1024) to q _ (q_is ∙ ap noting at) new
            (new_is ∙ ap (λ t. set q.region (t + 1 + index % 1024) to) at)

        parts : ArePartsOfHeap (record q { region = new })
        parts =
            subst (λ (r : HeapParts). ArePartsOfHeap (record r { region = new })) (sym q_is)
            (subst (λ t. ArePartsOfHeap (record p { region = new; remembered = noted v (must_remember v t to) t p.remembered })) (sym at)
            (parts_noting p k v (stored v s (index % 1024) to) refl new (ap (λ (r : HeapParts). view_of (record r { region = new })) (sym q_is) ∙ seen)
            (followed_whole v k.whole s (index % 1024) to other) (followed_tables v k.whole s (index % 1024) to other)
            (λ (x : View). must_remember x s to) s starts (followed_notes v k.whole s (index % 1024) to other)))

        kept : Follows v (view_of (record q { region = new }))
        kept = subst (λ (u : View). Follows v u) (sym seen) (follows_slot v k.whole s (index % 1024) to other (entry_result v sound index below paged to led))

        followed : IsFollowedEntry (view_of (record q { region = new })) index
        followed =
            subst (λ (u : View). IsFollowedEntry u index) (sym seen)
            (entry_followed v k.whole s (index % 1024) to other (entry_result v sound index below paged to led) index (page_there v sound index below paged) refl)

page_seen : (v u : View) → v ≡ u → (index : ℕ) → HasPage u index → HasPage v index
page_seen v u same index paged = subst (λ (x : View). HasPage x index) (sym same) paged

pub get-word-requires : goal.get-word-requires
get-word-requires c = inside c.self.inside.parts c.self.invariant c.args.index c.requires.below (page_seen (view_of c.self.inside.parts) c.args.self.now c.self.view_is c.args.index c.requires.page) c.root_word.result c.root_word.ensures

pub follow_word-to-requires-clause-good : goal.follow_word-to-requires-clause-good
follow_word-to-requires-clause-good c =
    good c.self.inside.parts c.self.invariant c.args.index c.requires.below (page_seen (view_of c.self.inside.parts) c.args.self.now c.self.view_is c.args.index c.requires.page) c.root_word.result c.root_word.ensures
    c.get-word.result c.get-word.ensures

pub remember_for-requires : goal.remember_for-requires
remember_for-requires c =
    record { can = can c.self.inside.parts c.self.invariant c.args.index c.requires.below (page_seen (view_of c.self.inside.parts) c.args.self.now c.self.view_is c.args.index c.requires.page) c.root_word.result c.root_word.ensures }

pub put-requires : goal.put-requires
put-requires c =
    let far = inside c.self.inside.parts c.self.invariant c.args.index c.requires.below (page_seen (view_of c.self.inside.parts) c.args.self.now c.self.view_is c.args.index c.requires.page) c.root_word.result c.root_word.ensures in
    let long : length c.remember_for.new.parts.region ≡ length c.self.inside.parts.region =
    ap (λ (p : HeapParts). length p.region) c.remember_for.ensures ∙ remembered_for_long (view_of c.self.inside.parts) (c.root_word.result / 8) c.follow_word-to.result in
    omega (arith, far, long)

pub invariant_of-self : goal.invariant_of-self
invariant_of-self c =
    parts c.self.inside.parts c.self.invariant c.args.index c.requires.below (page_seen (view_of c.self.inside.parts) c.args.self.now c.self.view_is c.args.index c.requires.page) c.root_word.result c.root_word.ensures
    c.get-word.result c.get-word.ensures c.follow_word-to.result c.follow_word-to.ensures.followed c.remember_for.new.parts c.remember_for.ensures c.put.new.self c.put.ensures

pub returns-then-to-word-clause-follows : goal.returns-then-to-word-clause-follows
returns-then-to-word-clause-follows c =
    subst (λ (v : View). Follows v (view_of (record c.remember_for.new.parts { region = c.put.new.self }))) c.self.view_is
    (kept c.self.inside.parts c.self.invariant c.args.index c.requires.below (page_seen (view_of c.self.inside.parts) c.args.self.now c.self.view_is c.args.index c.requires.page) c.root_word.result c.root_word.ensures
    c.get-word.result c.get-word.ensures c.follow_word-to.result c.follow_word-to.ensures.followed c.remember_for.new.parts c.remember_for.ensures c.put.new.self c.put.ensures)

pub returns-then-to-word-clause-followed : goal.returns-then-to-word-clause-followed
returns-then-to-word-clause-followed c =
    followed c.self.inside.parts c.self.invariant c.args.index c.requires.below (page_seen (view_of c.self.inside.parts) c.args.self.now c.self.view_is c.args.index c.requires.page) c.root_word.result c.root_word.ensures
    c.get-word.result c.get-word.ensures c.follow_word-to.result c.follow_word-to.ensures.followed c.remember_for.new.parts c.remember_for.ensures c.put.new.self c.put.ensures

pub returns-else-to-word-clause-followed : goal.returns-else-to-word-clause-followed
returns-else-to-word-clause-followed c =
    subst (λ (v : View). IsFollowedEntry v c.args.index) c.self.view_is
    (stays c.self.inside.parts c.self.invariant c.args.index c.requires.below (page_seen (view_of c.self.inside.parts) c.args.self.now c.self.view_is c.args.index c.requires.page) c.root_word.result c.root_word.ensures
    c.get-word.result c.get-word.ensures c.follow_word-to.result c.follow_word-to.ensures.followed c.if-to-word.false)
