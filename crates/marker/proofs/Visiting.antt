-- Names are visited one after another: what is kept, what is marked, and that the stack has room.
use Rattle.std.proofs.Common.{◌≡◌, ◌≢◌, ◌⊎◌, ℕ, Bool, true, false, ◌&&◌, ◌+◌, List, [], ◌∷◌, ◌++◌, length, length-append, sym, ap, ◌∙◌, subst, inl, inr, arith, Some}
use Rattle.std.proofs.lemmas.Bool.{false≢true, cases_eq}
use Rattle.std.proofs.lemmas.Option.{none-some}
use Rattle.std.specs.Prelude.{slice_index_or}
use Rattle.std.specs.List.{Contains}
use Rattle.std.proofs.lemmas.List.Elements.{Contains-append_left, Contains-push, Contains-push_cases}
use Rattle.spur_graph.specs.declared.answer.Refusal.{Refusal}
use Rattle.spur_graph.specs.declared.answer.Refusal.TheVariants as refusals
use Rattle.spur_graph.specs.declared.answer.Value.{Value}
use Rattle.spur_graph.specs.declared.answer.Value.TheVariants.{Ref}
use Rattle.spur_graph.specs.Value.{is_immediate}
use Rattle.spur_graph.specs.Refusals.{test}
use Rattle.spur_graph.specs.Cells.{Cell, Empty, Moved, There, is_moved, is_there}
use Rattle.spur_graph.specs.Ordinary.{is_ordinary}
use Rattle.spur_graph.specs.Heaps.{View, IsWhole, heap_value, is_marked}
use Rattle.heap_cells.proofs.References.{ordinary_there}
use Rattle.spur_heap.specs.MarkBits.{marks}
use Rattle.spur_heap.specs.Views.{IsOrdinary, node_in, store}
use Rattle.marker.specs.Marks.{Scanned}
use Rattle.marker.specs.Roots.{MarkedOf}
use Rattle.marker.specs.Visits.{MarksOnly, Visits, Among, NamedBySlot, NamesBelow}
use Rattle.marker.proofs.Keeping.{keeps_same, keeps_then, keeps_stacked, same_ordinary, same_moved, same_node, same_value, same_starts, one_fewer}

-- ---- sets of names

pub scanned_none : (named : ℕ → Type 0) (m : ℕ → Bool) (stack : List ℕ) → ((t : ℕ) → named t → m t ≡ true) → Scanned named m m stack stack
scanned_none named m stack all = record {
  keeps = λ t e. e;
  only = λ t e. inl e;
  all = all;
  below = λ t c. c;
  new = λ t e. inl e;
  stacked = λ t c. inl c;
}

pub scanned_then : (P Q R : ℕ → Type 0) (m m' m'' : ℕ → Bool) (stack stack' stack'' : List ℕ) → Scanned P m m' stack stack' → Scanned Q m' m'' stack' stack''
    → ((t : ℕ) → R t → P t ⊎ Q t) → ((t : ℕ) → P t → R t) → ((t : ℕ) → Q t → R t) → Scanned R m m'' stack stack''
scanned_then P Q R m m' m'' stack stack' stack'' k l split one two = record {
  keeps = λ t e. l.keeps t (k.keeps t e);
  only = λ t e. elim (l.only t e) [ inl a ↦ elim (k.only t a) [ inl b ↦ inl b | inr b ↦ inr (one t b) ] | inr a ↦ inr (two t a) ];
  all = λ t r. elim (split t r) [ inl p ↦ l.keeps t (k.all t p) | inr q ↦ l.all t q ];
  below = λ t c. l.below t (k.below t c);
  new = λ t e. elim (l.new t e) [ inl a ↦ elim (k.new t a) [ inl b ↦ inl b | inr b ↦ inr (l.below t b) ] | inr a ↦ inr a ];
  stacked = λ t c. elim (l.stacked t c) [ inl a ↦ elim (k.stacked t a) [ inl b ↦ inl b | inr b ↦ inr (one t b) ] | inr a ↦ inr (two t a) ];
}

pub scanned_as : (P Q : ℕ → Type 0) (m m' : ℕ → Bool) (stack stack' : List ℕ) → ((t : ℕ) → P t → Q t) → ((t : ℕ) → Q t → P t) → Scanned P m m' stack stack' → Scanned Q m m' stack stack'
scanned_as P Q m m' stack stack' to back k = record {
  keeps = k.keeps;
  only = λ t e. elim (k.only t e) [ inl a ↦ inl a | inr a ↦ inr (to t a) ];
  all = λ t q. k.all t (back t q);
  below = k.below;
  new = k.new;
  stacked = λ t c. elim (k.stacked t c) [ inl a ↦ inl a | inr a ↦ inr (to t a) ];
}

scanned_one : (m m' : ℕ → Bool) (stack : List ℕ) (s : ℕ) → m' s ≡ true → ((t : ℕ) → t ≢ s → m' t ≡ m t) → Scanned (λ t. t ≡ s) m m' stack (stack ++ s ∷ [])
scanned_one m m' stack s there else = record {
  keeps = λ t e. elim (cases_eq t s) [ inl k ↦ ap m' k ∙ there | inr k ↦ else t k ∙ e ];
  only = λ t e. elim (cases_eq t s) [ inl k ↦ inr k | inr k ↦ inl (sym (else t k) ∙ e) ];
  all = λ t k. ap m' k ∙ there;
  below = λ t c. Contains-append_left stack (s ∷ []) t c;
  new = λ t e. elim (cases_eq t s) [ inl k ↦ inr (subst (Contains (stack ++ s ∷ [])) (sym k) (Contains-push stack s)) | inr k ↦ inl (sym (else t k) ∙ e) ];
  stacked = λ t c. elim (Contains-push_cases stack s t c) [ inl a ↦ inl a | inr a ↦ inr (sym a) ];
}

-- ---- visits

pub visits_none : (named : ℕ → Type 0) (v : View) → ((t : ℕ) → named t → marks v t ≡ true) → Visits named v v
visits_none named v all = record {
  keeps = keeps_same v;
  scanned = scanned_none named (marks v) v.stack all;
  low = omega arith;
  grown = omega arith;
  bare = λ i. i;
  ordinary = λ o. o;
}

-- two visits, as far as nothing is said of names
pub visits_joined : {P Q : ℕ → Type 0} (R : ℕ → Type 0) {a b c : View} → Visits P a b → Visits Q b c → Scanned R (marks a) (marks c) a.stack c.stack → Visits R a c
visits_joined R k l scanned = record {
  keeps = keeps_then k.keeps l.keeps;
  scanned = scanned;
  low = let x = k.low in let y = l.low in omega (arith, x, y);
  grown = let x = k.grown in let y = l.grown in omega (arith, x, y);
  bare = λ i. l.bare (k.bare i);
  ordinary = λ o. l.ordinary (k.ordinary o);
}

pub visits_then : (P Q R : ℕ → Type 0) (a b c : View) → Visits P a b → Visits Q b c → ((t : ℕ) → R t → P t ⊎ Q t) → ((t : ℕ) → P t → R t) → ((t : ℕ) → Q t → R t) → Visits R a c
visits_then P Q R a b c k l split one two = visits_joined R k l (scanned_then P Q R (marks a) (marks b) (marks c) a.stack b.stack c.stack k.scanned l.scanned split one two)

pub visits_as : (P Q : ℕ → Type 0) (a b : View) → ((t : ℕ) → P t → Q t) → ((t : ℕ) → Q t → P t) → Visits P a b → Visits Q a b
visits_as P Q a b to back k = record {
  keeps = k.keeps;
  scanned = scanned_as P Q (marks a) (marks b) a.stack b.stack to back k.scanned;
  low = k.low;
  grown = k.grown;
  bare = k.bare;
  ordinary = k.ordinary;
}

pub no_forwarder : (c : Cell) → is_there c ≡ true → is_moved c ≡ true → ⊥
no_forwarder Empty there moved = false≢true moved
no_forwarder (Moved t) there moved = false≢true there
no_forwarder (There b) there moved = false≢true moved

-- an object is marked and put on the stack
pub visits_one : (a b : View) → IsWhole a → (s : ℕ) → IsOrdinary a s → is_marked a.words s ≡ false → MarksOnly a b → is_marked b.words s ≡ true → ((t : ℕ) → t ≢ s → is_marked b.words t ≡ is_marked a.words t)
    → b.stack ≡ a.stack ++ s ∷ [] → Visits (λ t. t ≡ s) a b
visits_one a b whole s there off keeps on others pushed =
    let now : marks b s ≡ true = λ x. (same_ordinary keeps s ∙ there) x && on x in
    let else : (t : ℕ) → t ≢ s → marks b t ≡ marks a t = λ t n x. same_ordinary keeps t x && others t n x in
    let less = one_fewer a b whole (same_starts keeps) (λ t e. elim (cases_eq t s) [ inl q ↦ ap (marks b) q ∙ now | inr q ↦ else t q ∙ e ]) s there off now in
    let count : length b.stack ≡ length a.stack + 1 = ap (λ (ss : List ℕ). length ss) pushed ∙ length-append a.stack (s ∷ []) in
    record {
      keeps = keeps;
      scanned = subst (Scanned (λ t. t ≡ s) (marks a) (marks b) a.stack) (sym pushed) (scanned_one (marks a) (marks b) a.stack s now else);
      low = omega (arith, less, count);
      grown = omega (arith, count);
      bare = λ i t moved. elim (cases_eq t s) [
        | inl q ↦ absurd (no_forwarder ((store a).cell s) (ordinary_there (store a) s there) (ap (λ u. is_moved ((store a).cell u)) (sym q) ∙ sym (same_moved keeps t) ∙ moved))
        | inr q ↦ others t q ∙ i t (sym (same_moved keeps t) ∙ moved)
      ];
      ordinary = λ o t c. same_ordinary keeps t ∙ elim (Contains-push_cases a.stack s t (subst (λ (xs : List ℕ). Contains xs t) pushed c)) [ inl q ↦ o t q | inr q ↦ ap (is_ordinary (store a)) (sym q) ∙ there ];
    }

-- the same by its two steps
pub visits_pushed : (a m b : View) → IsWhole a → (s : ℕ) → IsOrdinary a s → is_marked a.words s ≡ false → MarksOnly a m → m.stack ≡ a.stack → is_marked m.words s ≡ true → ((t : ℕ) → t ≢ s → is_marked m.words t ≡ is_marked a.words t)
    → b ≡ record m { stack = m.stack ++ s ∷ [] } → Visits (λ t. t ≡ s) a b
visits_pushed a m b whole s there off keeps same on others is =
    let bits : (t : ℕ) → is_marked b.words t ≡ is_marked m.words t = λ t. ap (λ (v : View). is_marked v.words t) is in
    visits_one a b whole s there off (keeps_then keeps (keeps_stacked m b (m.stack ++ s ∷ []) is)) (bits s ∙ on) (λ t n. bits t ∙ others t n)
    (ap (λ (v : View). v.stack) is ∙ ap (λ (ss : List ℕ). ss ++ s ∷ []) same)

-- ---- the name that a word names

pub same_ref : {a b : ℕ} → Ref a ≡ Ref b → a ≡ b
same_ref {a} {b} e = cc

-- a value that is refused as an immediate names nothing
pub names_nothing : (x : Value) (why : Refusal) → test (is_immediate x) refusals.Immediate ≡ Some why → (t : ℕ) → x ≡ Ref t → ⊥
names_nothing x why refused t is = none-some why (sym (ap (λ y. test (is_immediate y) refusals.Immediate) is) ∙ refused)

pub visits_named : (a b : View) (x : Value) (start : ℕ) → x ≡ Ref start → Visits (λ t. t ≡ start) a b → Visits (λ t. x ≡ Ref t) a b
visits_named a b x start is v = visits_as (λ t. t ≡ start) (λ t. x ≡ Ref t) a b (λ t e. is ∙ ap (λ s. Ref s) (sym e)) (λ t e. same_ref (sym e ∙ is)) v

-- ---- one after another

module _ (named : ℕ → ℕ → Type 0) where
  pub visits_no_more : (a : View) → Visits (Among named 0) a a
  visits_no_more a = visits_none (Among named 0) a (λ t n. let l = n.1 in absurd (omega (arith, l)))

  pub visits_more : (a b c : View) (i : ℕ) (R : ℕ → Type 0) → Visits (Among named i) a b → Visits R b c → ((t : ℕ) → named i t → R t) → ((t : ℕ) → R t → named i t) → Visits (Among named (i + 1)) a c
  visits_more a b c i R v w to back =
      visits_then (Among named i) R (Among named (i + 1)) a b c v w
      (λ t n. elim (cases_eq n.0 i) [
        | inl e ↦ inr (to t (subst (λ j. named j t) e n.2))
        | inr o ↦ inl (n.0, (let l = n.1 in omega (arith, l, o)), n.2)
      ])
      (λ t n. (n.0, (let l = n.1 in omega (arith, l)), n.2))
      (λ t r. (i, omega arith, back t r))

  -- the name to which a word leads
  pub visits_word : (a b c : View) (i word : ℕ) → Visits (Among named i) a b → Visits (λ t. heap_value b word ≡ Ref t) b c → ((t : ℕ) → named i t → heap_value a word ≡ Ref t) → ((t : ℕ) → heap_value a word ≡ Ref t → named i t)
      → Visits (Among named (i + 1)) a c
  visits_word a b c i word v w to back =
      let same = same_value v.keeps word in
      visits_more a b c i (λ t. heap_value b word ≡ Ref t) v w (λ t n. same ∙ to t n) (λ t e. back t (sym same ∙ e))

-- a slot is passed
pub visits_slot : (a b c : View) (s i word : ℕ) → Visits (NamesBelow a s i) a b → heap_value b word ≡ slice_index_or (node_in b s).pointers i (heap_value b 0) → Visits (λ t. heap_value b word ≡ Ref t) b c
    → Visits (NamesBelow a s (i + 1)) a c
visits_slot a b c s i word v is w =
    let same : heap_value a word ≡ slice_index_or (node_in a s).pointers i (heap_value a 0) = sym (same_value v.keeps word) ∙ is ∙ (λ x. slice_index_or (same_node v.keeps s x).pointers i (same_value v.keeps 0 x)) in
    visits_word (NamedBySlot a s) a b c i word v w (λ t e. same ∙ e) (λ t e. sym same ∙ e)

-- ---- names of which some are marked

module _ (named : ℕ → Type 0) where
  pub visits_some_none : (a : View) → Visits (MarkedOf named a) a a
  visits_some_none a = visits_none (MarkedOf named a) a (λ t n. n.1)

  pub visits_some : (a b c : View) (R : ℕ → Type 0) → Visits (MarkedOf named b) a b → Visits R b c → ((t : ℕ) → R t → named t) → Visits (MarkedOf named c) a c
  visits_some a b c R v w within = visits_joined (MarkedOf named c) v w (record {
    keeps = λ t e. w.scanned.keeps t (v.scanned.keeps t e);
    only = λ t e. elim (w.scanned.only t e) [ inl was ↦ elim (v.scanned.only t was) [ inl o ↦ inl o | inr n ↦ inr (n.0, e) ] | inr r ↦ inr (within t r, e) ];
    all = λ t n. n.1;
    below = λ t c. w.scanned.below t (v.scanned.below t c);
    new = λ t e. elim (w.scanned.new t e) [ inl was ↦ elim (v.scanned.new t was) [ inl o ↦ inl o | inr o ↦ inr (w.scanned.below t o) ] | inr o ↦ inr o ];
    stacked = λ t c. elim (w.scanned.stacked t c) [ inl was ↦ elim (v.scanned.stacked t was) [ inl o ↦ inl o | inr n ↦ inr (n.0, w.scanned.keeps t n.1) ] | inr r ↦ inr (within t r, w.scanned.all t r) ];
  })

  pub visits_every : (a b : View) → Visits (MarkedOf named b) a b → ((t : ℕ) → named t → marks b t ≡ true) → Visits named a b
  visits_every a b v all = visits_as (MarkedOf named b) named a b (λ t n. n.0) (λ t n. (n, all t n)) v
