-- Words are followed one after another.
use Rattle.std.proofs.Common.{◌≡◌, ℕ, Bool, true, false, not, ◌&&◌, ◌+◌, ◌-◌, ◌*◌, ◌/◌, ◌<◌, ◌≤◌, length, refl, sym, ap, ◌∙◌, subst, inl, inr, arith}
use Rattle.std.proofs.lemmas.Bool.{false≢true, cases_eq, cases_lt, and_parts}
use Rattle.std.specs.FinSet.{contains}
use Rattle.spur_graph.specs.Node.{Node}
use Rattle.spur_graph.specs.Room.{Room}
use Rattle.spur_graph.specs.Cells.{Cell, Empty, Moved, There, is_moved, is_start, is_there}
use Rattle.spur_graph.specs.Ordinary.{page_entries, page_places, is_internal, is_ordinary}
use Rattle.spur_graph.specs.Heaps.{View, IsWhole, heap_room, is_marked}
use Rattle.heap_cells.proofs.CellKinds.{there_starts}
use Rattle.heap_cells.proofs.Internals.{internal_there}
use Rattle.heap_cells.proofs.References.{ordinary_there}
use Rattle.heap_cells.proofs.WholeClosed.{sound_loadable}
use Rattle.spur_heap.specs.Entering.{HasPage}
use Rattle.spur_graph.specs.Graph.{Handle}
use Rattle.spur_heap.specs.Following.{IsFollowed, IsFollowedEntry, IsFollowedHandle, IsFollowedMourner, Follows}
use Rattle.spur_heap.specs.MarkBits.{StartsAt, marks}
use Rattle.spur_heap.specs.Views.{IsOrdinary, store}
use Rattle.spur_heap.proofs.FollowedWords.{follows_same, follows_then}
use Rattle.marker.specs.Followed.{AreFollowed, FollowsBelow, FollowsPage, FollowsPages, HasFollowedSlots}
use Rattle.marker.specs.Marked.{AreInternalMarked}
use Rattle.marker.specs.Visits.{AreBare, Keeps}

-- ---- what stays

pub keeps_joined : {a b c : View} → Keeps a b → Keeps b c → Keeps a c
keeps_joined k l = record {
  graph = l.graph ∙ k.graph;
  room = l.room ∙ k.room;
  values = λ w. l.values w ∙ k.values w;
  goods = λ w. l.goods w ∙ k.goods w;
  ordinary = λ s. l.ordinary s ∙ k.ordinary s;
  objects = λ s. l.objects s ∙ k.objects s;
  forwarders = λ s. l.forwarders s ∙ k.forwarders s;
  nodes = λ s. l.nodes s ∙ k.nodes s;
  starts = l.starts ∙ k.starts;
  phase = l.phase ∙ k.phase;
  long = l.long ∙ k.long;
}

moved_starts : (c : Cell) → is_moved c ≡ true → is_start c ≡ true
moved_starts Empty on = on
moved_starts (Moved t) on = refl
moved_starts (There b) on = refl

marked_ordinary : (v : View) (s : ℕ) → marks v s ≡ true → IsOrdinary v s
marked_ordinary v s on = (and_parts (is_ordinary (store v) s) (is_marked v.words s) on).0

marked_starts : (v : View) (s : ℕ) → marks v s ≡ true → StartsAt v s
marked_starts v s on = there_starts ((store v).cell s) (ordinary_there (store v) s (marked_ordinary v s on))

module _ {a b : View} (f : Follows a b) where
  pub follows_keeps : Keeps a b
  follows_keeps = record {
    graph = f.graph;
    room = f.room;
    values = f.values;
    goods = f.goods;
    ordinary = f.ordinary;
    objects = f.objects;
    forwarders = f.forwarders;
    nodes = f.nodes;
    starts = f.starts;
    phase = ap (λ (v : View). v.phase) f.rest;
    long = f.long;
  }

  pub follows_marks : (s : ℕ) → marks b s ≡ marks a s
  follows_marks s = ap (λ o. o && is_marked b.words s) (f.ordinary s) ∙ bits (is_ordinary (store a) s) refl
    where
      bits : (o : Bool) → is_ordinary (store a) s ≡ o → (o && is_marked b.words s) ≡ (o && is_marked a.words s)
      bits false is = refl
      bits true is = f.marks s (there_starts ((store a).cell s) (ordinary_there (store a) s is))

  pub follows_bare : AreBare a → AreBare b
  follows_bare bare s moved =
      let was : is_moved ((store a).cell s) ≡ true = sym (f.forwarders s) ∙ moved in
      f.marks s (moved_starts ((store a).cell s) was) ∙ bare s was

  pub follows_slots : (s : ℕ) → HasFollowedSlots a s → HasFollowedSlots b s
  follows_slots s slots i l = f.slots s i (slots i (subst (λ (n : Node). i < length n.pointers) (f.nodes s) l))

  pub follows_page : (index : ℕ) → HasPage b index → HasPage a index
  follows_page index page = subst (λ (r : Room). contains r.pages (index / page_entries) ≡ true) f.room page

  pub page_follows : (index : ℕ) → HasPage a index → HasPage b index
  page_follows index page = subst (λ (r : Room). contains r.pages (index / page_entries) ≡ true) (sym f.room) page

  -- an object that is not ordinary is internal
  pub follows_internal : IsWhole b → AreInternalMarked a → AreInternalMarked b
  follows_internal whole marked s on =
      let there : is_there ((store b).cell s) ≡ true = internal_there (store b) (sound_loadable (store b) whole.sound) s on in
      let was : is_there ((store a).cell s) ≡ true = sym (f.objects s) ∙ there in
      let off : is_ordinary (store a) s ≡ false = sym (f.ordinary s) ∙ inner (is_there ((store b).cell s)) (is_internal (store b) s) on in
      f.marks s (there_starts ((store a).cell s) was) ∙ marked s (outer (is_there ((store a).cell s)) (is_internal (store a) s) was off)
    where
      inner : (x y : Bool) → y ≡ true → (x && not y) ≡ false
      inner true true e = refl
      inner false true e = refl
      inner x false e = absurd (false≢true e)

      outer : (x y : Bool) → x ≡ true → (x && not y) ≡ false → y ≡ true
      outer true true x off = refl
      outer true false x off = absurd (false≢true (sym off))
      outer false y x off = absurd (false≢true x)

-- ---- the objects that start below a place

pub below_none : (v : View) → FollowsBelow 0 v v
below_none v = record { follows = follows_same v; slots = λ s l m. absurd (omega (arith, l)) }

pub below_more : (i s : ℕ) (a b c : View) → FollowsBelow i a b → i ≤ s → ((t : ℕ) → i ≤ t → t < s → StartsAt b t → ⊥) → Follows b c → (marks b s ≡ true → HasFollowedSlots c s) → FollowsBelow (s + 1) a c
below_more i s a b c x below gap f here = record {
  follows = follows_then a b c x.follows f;
  slots = λ u l m.
      let now : marks b u ≡ true = follows_marks x.follows u ∙ m in
      elim (cases_lt u i) [
        | inl low ↦ follows_slots f u (x.slots u low m)
        | inr high ↦ elim (cases_eq u s) [
          | inl same ↦ subst (λ t. HasFollowedSlots c t) (sym same) (here (ap (marks b) (sym same) ∙ now))
          | inr other ↦ absurd (gap u high (omega (arith, l, other)) (marked_starts b u now))
        ]
      ];
}

pub below_all : (i j : ℕ) (a b : View) → FollowsBelow i a b → ((t : ℕ) → i ≤ t → StartsAt b t → ⊥) → FollowsBelow j a b
below_all i j a b x gap = record {
  follows = x.follows;
  slots = λ u l m. elim (cases_lt u i) [
    | inl low ↦ x.slots u low m
    | inr high ↦ absurd (gap u high (marked_starts b u (follows_marks x.follows u ∙ m)))
  ];
}

-- ---- entries

pub page_none : (v : View) (first : ℕ) → FollowsPage first 0 v v
page_none v first = record { follows = follows_same v; entries = λ i l p. absurd (omega (arith, l)) }

pub page_more : (a b c : View) (first k : ℕ) → FollowsPage first k a b → Follows b c → IsFollowedEntry c (first + k) → FollowsPage first (k + 1) a c
page_more a b c first k x f here = record {
  follows = follows_then a b c x.follows f;
  entries = λ i l p. elim (cases_eq i k) [
    | inl e ↦ subst (λ j. IsFollowedEntry c (first + j)) (sym e) here
    | inr n ↦ f.entries (first + i) (x.entries i (omega (arith, l, n)) p)
  ];
}

pub page_absent : (v : View) (first k : ℕ) → (HasPage v first → ⊥) → FollowsPage first k v v
page_absent v first k not = record { follows = follows_same v; entries = λ i l p. absurd (not p) }

pub pages_none : (v : View) → FollowsPages 0 v v
pages_none v = record { follows = follows_same v; entries = λ index l p. absurd (omega (arith, l)) }

pub pages_more : (a b c : View) (k : ℕ) → FollowsPages k a b → FollowsPage (1024 * k) page_entries b c → FollowsPages (k + 1) a c
pages_more a b c k x y = record {
  follows = follows_then a b c x.follows y.follows;
  entries = λ index l p. elim (cases_lt index (1024 * k)) [
    | inl low ↦ y.follows.entries index (x.entries index low p)
    | inr high ↦
        let i : ℕ = index - 1024 * k in
        let sum : 1024 * k + i ≡ index = omega (arith, high) in
        let place : 1024 * k / 1024 ≡ index / 1024 = omega (arith, high, l) in
        let page : HasPage a (1024 * k) = subst (λ n. contains (heap_room a).pages n ≡ true) (sym place) p in
        subst (λ j. IsFollowedEntry c j) sum (y.entries i (omega (arith, high, l)) (page_follows x.follows (1024 * k) page))
  ];
}

-- ---- all of it

pub all_followed : (a b c d e f : View) → ((i : ℕ) → FollowsBelow i a b) → FollowsPages page_places b c → Follows c d → IsFollowed d d.special → Follows d e → ((h : Handle) → IsFollowedHandle e h) → Follows e f
    → ((k : ℕ) → IsFollowedMourner f k) → AreFollowed f
all_followed a b c d e f objects pages cd special de held ef mourners =
    let cf : Follows c f = follows_then c e f (follows_then c d e cd de) ef in
    let bf : Follows b f = follows_then b c f pages.follows cf in
    let af : Follows a f = follows_then a b f (objects 0).follows bf in
    record {
      slots = λ s m. follows_slots bf s ((objects (s + 1)).slots s (omega arith) (sym (follows_marks af s) ∙ m));
      entries = λ index l p. cf.entries index (pages.entries index (omega (arith, l)) (follows_page bf index p));
      special = ef.special (de.special special);
      held = λ h. ef.held h (held h);
      mourners = mourners;
    }
