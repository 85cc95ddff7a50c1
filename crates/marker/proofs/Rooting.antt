-- Marking begins with the roots.
use Rattle.std.proofs.Common.{get_or, nat_eq, ◌≡◌, ℕ, Bool, true, false, ◌≤◌, List, [], ◌∷◌, length, refl, sym, ap, ◌∙◌, subst, inl, inr, arith, Option}
use Rattle.std.proofs.lemmas.Bool.{false≢true, cases_Bool, and_parts}
use Rattle.std.specs.List.{Contains}
use Rattle.spur_graph.specs.Live.{IsRoot, AtRoot}
use Rattle.spur_graph.specs.Ordinary.{is_ordinary, ordinary_starts}
use Rattle.spur_graph.specs.Heaps.{View, Whole, IsWhole, heap_to, store_of, chunks_of, heap_graph, is_marked}
use Rattle.spur_graph.specs.Cells.{Cell, Empty, Moved, There, is_moved, is_start}
use Rattle.object_header.specs.Fields.{fields_of}
use Rattle.heap_cells.proofs.CellKinds.{there_starts}
use Rattle.heap_cells.proofs.Cutting.{start-in}
use Rattle.heap_cells.proofs.Members.{listed}
use Rattle.heap_cells.proofs.References.{ordinary_there}
use Rattle.spur_heap.specs.Views.{store}
use Rattle.spur_heap.proofs.FewObjects.{half_ordinary}
use Rattle.spur_heap.proofs.Puts.{whole_sound}
use Rattle.spur_heap.specs.MarkBits.{IsObject, StartsAt, begun, marks}
use Rattle.marker.specs.Marks.{silent_of}
use Rattle.marker.specs.Waiting.{Progress}
use Rattle.marker.specs.Visits.{left, AreBare, HasRoom, IsStackOf, Visits}
use Rattle.marker.proofs.Steps.{none-in-nil}

left_most : (m : ℕ → Bool) (xs : List ℕ) → left m xs ≤ length xs
left_most m [] = omega arith
left_most m (x ∷ xs) =
    let r = left_most m xs in
    elim (cases_Bool (m x)) [ inl on ↦ rw on (omega (arith, r)) | inr off ↦ rw off (omega (arith, r)) ]

-- with nothing on the stack there is room for all
pub room_first : (v : View) → IsWhole v → HasRoom (begun v)
room_first v whole =
    let l = left_most (marks v) (ordinary_starts (store v)) in
    let room = half_ordinary v (whole_sound v whole) in
    omega (arith, l, room)

pub room_begun : (v b : View) → IsWhole v → b ≡ begun v → HasRoom b
room_begun v b whole is = subst (λ (u : View). HasRoom u) (sym is) (room_first v whole)

pub stack_first : (v : View) → v.stack ≡ [] → IsStackOf v
stack_first v empty t c = absurd (none-in-nil t (subst (λ (xs : List ℕ). Contains xs t) empty c))

-- nothing is marked
pub record NoneMarked (v : View) : Type 0 where
  pub objects : (s : ℕ) → IsObject v s → is_marked v.words s ≡ false
  pub forwarders : AreBare v

-- so it is where the heap was whole
pub none_marked_first : (v : View) → IsWhole v → v.phase ≡ Whole → NoneMarked (begun v)
none_marked_first v whole phase = record {
  objects = λ s object. clear s (there_starts ((store_of v).cell s) object);
  forwarders = λ s moved. clear s (moved_starts ((store_of v).cell s) moved);
}
  where
    moved_starts : (c : Cell) → is_moved c ≡ true → is_start c ≡ true
    moved_starts Empty moved = moved
    moved_starts (Moved t) moved = refl
    moved_starts (There b) moved = refl

    clear : (s : ℕ) → StartsAt v s → is_marked v.words s ≡ false
    clear s starts =
        let c = start-in heap_to v.words (chunks_of v) s starts in
        let zero : (fields_of (get_or v.words s 0)).marked ≡ 0 = ap (λ t. (fields_of (get_or v.words t 0)).marked) (sym c.2) ∙ (whole.bits c.0 (listed (chunks_of v) c.0 c.1)).marked phase in
        ap (λ n. nat_eq n 1) zero

none_first : (v : View) → NoneMarked v → (s : ℕ) → marks v s ≡ true → ⊥
none_first v n s on =
    let both = and_parts (is_ordinary (store v) s) (is_marked v.words s) on in
    false≢true (sym (n.objects s (ordinary_there (store v) s both.0)) ∙ both.1)

-- the roots were visited
pub rooted : (except : Option ℕ) (a b : View) → a.stack ≡ [] → NoneMarked a → Visits (IsRoot (heap_graph a)) a b → Progress (heap_graph b) (silent_of except) (marks b) b.stack
rooted except a b empty n v = subst (λ g. Progress g (silent_of except) (marks b) b.stack) (sym v.keeps.graph) (record {
  marking = record {
    rooted = v.scanned.all;
    sound = λ t o. elim (v.scanned.only t o) [ inl was ↦ absurd (none_first a n t was) | inr r ↦ AtRoot t r ];
    stacked = λ t c. elim (v.scanned.stacked t c) [ inl was ↦ absurd (none-in-nil t (subst (λ (xs : List ℕ). Contains xs t) empty was)) | inr r ↦ v.scanned.all t r ];
    done = λ s t m o q has c. inl (first s o);
  };
  keyed = λ s t m o q has is c. inl (first s o);
})
  where
    first : (s : ℕ) → marks b s ≡ true → Contains b.stack s
    first s o = elim (v.scanned.new s o) [ inl was ↦ absurd (none_first a n s was) | inr c ↦ c ]
