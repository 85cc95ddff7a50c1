-- A heap is marked, step by step.
use Rattle.std.proofs.Common.{◌≡◌, ◌≢◌, ◌⊎◌, ℕ, Bool, true, false, not, ◌&&◌, [], refl, sym, ap, ◌∙◌, subst, inl, inr, Option, Some, None}
use Rattle.std.proofs.lemmas.Bool.{false≢true, cases_Bool, cases_eq, eqb-true, eq-eqb, and_parts, not-true}
use Rattle.spur_graph.specs.Graph.{Graph}
use Rattle.spur_graph.specs.Live.{IsRoot, Reached, IsDerived, none}
use Rattle.spur_graph.specs.Cells.{Store, is_moved, is_there}
use Rattle.spur_graph.specs.Ordinary.{is_internal, is_ordinary}
use Rattle.spur_graph.specs.Heaps.{View, Whole, IsWhole, heap_graph, heap_room, is_marked}
use Rattle.spur_graph.proofs.Reaching.{live_by_rules}
use Rattle.heap_cells.proofs.Internals.{internal_there}
use Rattle.heap_cells.proofs.References.{ordinary_there}
use Rattle.heap_cells.proofs.WholeClosed.{sound_loadable}
use Rattle.spur_heap.specs.Following.{Follows}
use Rattle.spur_heap.specs.MarkBits.{begun, marked, marks}
use Rattle.spur_heap.specs.Views.{IsOrdinary, store}
use Rattle.marker.specs.Marked.{AreInternalMarked, IsFound, MarksOne, excepted}
use Rattle.marker.specs.Marks.{silent_of}
use Rattle.marker.specs.Waiting.{Progress}
use Rattle.marker.specs.Visits.{AreBare, Keeps, MarksOnly, Visits, Works}
use Rattle.marker.proofs.Keeping.{keeps_all, keeps_same, keeps_stacked, keeps_then, keeps_words, same_moved, same_ordinary}
use Rattle.marker.proofs.Visiting.{no_forwarder}
use Rattle.marker.proofs.Rooting.{NoneMarked, none_marked_first, rooted}
use Rattle.marker.proofs.FollowedHeaps.{follows_bare, follows_internal, follows_keeps, follows_marks, keeps_joined}

-- ---- the excepted object

pub marks_none : (v : View) → MarksOne None v v
marks_none v = record { keeps = keeps_same v; stack = refl; more = λ t e. e; here = λ t e. absurd (false≢true e); only = λ t e. inl e; bare = λ i. i }

pub marks_one : (a b : View) (s : ℕ) → IsOrdinary a s → store b ≡ store a → heap_graph b ≡ heap_graph a → heap_room b ≡ heap_room a → b ≡ marked a s → is_marked b.words s ≡ true → ((t : ℕ) → t ≢ s → is_marked b.words t ≡ is_marked a.words t)
    → MarksOne (Some s) a b
marks_one a b s there same graph room is on others =
    let keeps : MarksOnly a b = keeps_words a b (marked a s).words same graph room is in
    let now : marks b s ≡ true = λ x. (same_ordinary keeps s ∙ there) x && on x in
    let else : (t : ℕ) → t ≢ s → marks b t ≡ marks a t = λ t n x. same_ordinary keeps t x && others t n x in
    record {
      keeps = keeps;
      stack = ap (λ (v : View). v.stack) is;
      more = λ t e. elim (cases_eq t s) [ inl q ↦ ap (marks b) q ∙ now | inr q ↦ else t q ∙ e ];
      here = λ t e. ap (marks b) (eqb-true t s e) ∙ now;
      only = λ t e. elim (cases_eq t s) [ inl q ↦ inr (eq-eqb t s q) | inr q ↦ inl (sym (else t q) ∙ e) ];
      bare = λ i t moved. elim (cases_eq t s) [
        | inl q ↦ absurd (no_forwarder ((store a).cell s) (ordinary_there (store a) s there) (ap (λ u. is_moved ((store a).cell u)) (sym q) ∙ sym (same_moved keeps t) ∙ moved))
        | inr q ↦ others t q ∙ i t (sym (same_moved keeps t) ∙ moved)
      ];
    }

-- ---- the internal objects

module _ (a b : View) (keeps : MarksOnly a b) (whole : IsWhole a) (inner : (s : ℕ) → is_internal (store a) s ≡ true → is_marked b.words s ≡ true) (others : (s : ℕ) → is_internal (store a) s ≡ false → is_marked b.words s ≡ is_marked a.words s) where
  inner_marks : (t : ℕ) → marks b t ≡ marks a t
  inner_marks t = ap (λ o. o && is_marked b.words t) (same_ordinary keeps t) ∙ bits (is_ordinary (store a) t) refl
    where
      bits : (o : Bool) → is_ordinary (store a) t ≡ o → (o && is_marked b.words t) ≡ (o && is_marked a.words t)
      bits false is = refl
      bits true is = others t (not-true (is_internal (store a) t) (and_parts (is_there ((store a).cell t)) (not (is_internal (store a) t)) is).1)

  inner_bare : AreBare a → AreBare b
  inner_bare bare s moved =
      let was : is_moved ((store a).cell s) ≡ true = sym (same_moved keeps s) ∙ moved in
      elim (cases_Bool (is_internal (store a) s)) [
        | inl on ↦ absurd (no_forwarder ((store a).cell s) (internal_there (store a) (sound_loadable (store a) whole.sound) s on) was)
        | inr off ↦ others s off ∙ bare s was
      ]

  inner_marked : AreInternalMarked b
  inner_marked s on = inner s (sym (ap (λ (h : Store). is_internal h s) keeps.store) ∙ on)

-- ---- all of it

pub record IsMarkedFrom (v : View) (except : Option ℕ) (new : View) : Type 0 where
  pub keeps : Keeps (begun v) new
  pub sound : (t : ℕ) → IsOrdinary new t → is_marked new.words t ≡ true → IsFound v except t
  pub complete : (t : ℕ) → IsFound v except t → is_marked new.words t ≡ true
  pub inner : AreInternalMarked new
  pub bare : AreBare new
  pub empty : new.stack ≡ []

-- what `complete` makes of a marking
pub record IsCompleted (name : Option ℕ) (c d : View) : Type 0 where
  pub works : Works name c d
  pub all : Progress (heap_graph c) (silent_of name) (marks c) c.stack → (t : ℕ) → Reached (heap_graph c) none (silent_of name) t → marks d t ≡ true

-- what marking the internal objects does
pub record MarksInternal (a b : View) : Type 0 where
  pub rest : b ≡ record a { words = b.words }
  pub cells : store b ≡ store a
  pub graph : heap_graph b ≡ heap_graph a
  pub room : heap_room b ≡ heap_room a
  pub inner : (s : ℕ) → is_internal (store a) s ≡ true → is_marked b.words s ≡ true
  pub others : (s : ℕ) → is_internal (store a) s ≡ false → is_marked b.words s ≡ is_marked a.words s

module _ (v : View) (whole : IsWhole v) (phase : v.phase ≡ Whole) (except name : Option ℕ) (is : name ≡ excepted v except) (b c d d' e f g : View)
    (begins : b ≡ begun v) (roots : Visits (IsRoot (heap_graph b)) b c) (done : IsCompleted name c d) (cleared : d' ≡ record d { stack = [] }) (one : MarksOne name d' e) (whole_e : IsWhole e) (internal : MarksInternal e f) (whole_g : IsWhole g) (followed : Follows f g) where
  none_marked : NoneMarked b
  none_marked = subst (λ (u : View). NoneMarked u) (sym begins) (none_marked_first v whole phase)

  progress : Progress (heap_graph c) (silent_of name) (marks c) c.stack
  progress = rooted name b c (ap (λ (u : View). u.stack) begins) none_marked roots

  graph_c : heap_graph c ≡ heap_graph v
  graph_c = roots.keeps.graph ∙ ap heap_graph begins

  sound_d : (t : ℕ) → marks d t ≡ true → IsDerived (heap_graph v) none (silent_of name) t
  sound_d t on = (live_by_rules (heap_graph v) none (silent_of name) t).1 (subst (λ (u : Graph). Reached u none (silent_of name) t) graph_c ((done.works.progress progress).marking.sound t on))

  all_d : (t : ℕ) → IsDerived (heap_graph v) none (silent_of name) t → marks d t ≡ true
  all_d t live = done.all progress t (subst (λ (u : Graph). Reached u none (silent_of name) t) (sym graph_c) ((live_by_rules (heap_graph v) none (silent_of name) t).0 live))

  to_cleared : MarksOnly d d'
  to_cleared = keeps_stacked d d' [] cleared

  same_cleared : (t : ℕ) → marks d' t ≡ marks d t
  same_cleared t = ap (λ (u : View). marks u t) cleared

  to_f : MarksOnly e f
  to_f = keeps_words e f f.words internal.cells internal.graph internal.room internal.rest

  marks_g : (t : ℕ) → marks g t ≡ marks e t
  marks_g t = follows_marks followed t ∙ inner_marks e f to_f whole_e internal.inner internal.others t

  found : (t : ℕ) → marks e t ≡ true → IsFound v except t
  found t on = subst (λ n. IsDerived (heap_graph v) none (silent_of n) t ⊎ (silent_of n t ≡ true)) is (elim (one.only t on) [ inl was ↦ inl (sound_d t (sym (same_cleared t) ∙ was)) | inr here ↦ inr here ])

  finds : (t : ℕ) → IsFound v except t → marks e t ≡ true
  finds t live = elim (subst (λ n. IsDerived (heap_graph v) none (silent_of n) t ⊎ (silent_of n t ≡ true)) (sym is) live) [ inl derived ↦ one.more t (same_cleared t ∙ all_d t derived) | inr here ↦ one.here t here ]

  pub marked_from : IsMarkedFrom v except g
  marked_from = record {
    keeps = keeps_joined (subst (λ (u : View). Keeps u f) begins (keeps_all (keeps_then roots.keeps (keeps_then done.works.keeps (keeps_then to_cleared (keeps_then one.keeps to_f)))))) (follows_keeps followed);
    sound = λ t there on. found t (sym (marks_g t) ∙ (λ x. there x && on x));
    complete = λ t live. (and_parts (is_ordinary (store g) t) (is_marked g.words t) (marks_g t ∙ finds t live)).1;
    inner = follows_internal followed whole_g (inner_marked e f to_f whole_e internal.inner internal.others);
    bare = follows_bare followed (inner_bare e f to_f whole_e internal.inner internal.others (one.bare (subst (λ (u : View). AreBare u) (sym cleared) (done.works.bare (roots.bare none_marked.forwarders)))));
    empty = ap (λ (u : View). u.stack) followed.rest ∙ ap (λ (u : View). u.stack) internal.rest ∙ one.stack ∙ ap (λ (u : View). u.stack) cleared;
  }
