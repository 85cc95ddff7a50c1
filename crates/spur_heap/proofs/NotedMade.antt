-- What is made is not remembered, so that the remembered starts stay.
use Rattle.std.proofs.Common.{◌≡◌, ◌≢◌, ℕ, true, false, ◌+◌, ◌≤◌, List, length, get_or, sym, ap, ◌∙◌, subst, arith, inl, inr, not}
use Rattle.std.proofs.lemmas.Bool.{false≢true, cases_eq}
use Rattle.spur_graph.specs.Cells.{Body, Store, is_start}
use Rattle.spur_graph.specs.Room.{fresh_words}
use Rattle.spur_graph.specs.Spaces.{Spaces}
use Rattle.spur_graph.specs.Heaps.{View, store_of, chunks_of, heap_to, is_remembered}
use Rattle.free_lists.specs.declared.lists.FreeLists.{FreeLists}
use Rattle.heap_cells.proofs.Adding.{Adds, added-other}
use Rattle.heap_cells.proofs.Cutting.{start-in, stands}
use Rattle.heap_cells.proofs.Growing.{same_header}
use Rattle.spur_heap.specs.Fresh.{fill_word}
use Rattle.spur_heap.specs.Words.{starts_at}
use Rattle.spur_heap.proofs.EdenServed.{IsGrown, eden_adds, grows, u}
use Rattle.spur_heap.proofs.FreshRuns.{fresh_is_forgotten}
use Rattle.spur_heap.proofs.Orders.{order}
use Rattle.spur_heap.proofs.Paired.{AddsPair}
use Rattle.spur_heap.proofs.Puts.{whole_sound}
use Rattle.spur_heap.proofs.RunSizes.{told_free}
use Rattle.spur_heap.proofs.Served.{IsServed, words_same, object_words}
use Rattle.spur_heap.proofs.Tables.{SameNoted, noted_from}
use Rattle.spur_heap.proofs.Touched.{same_bit}

-- the headers of all starts are as before
abbrev pub SameStarts : View → List ℕ → Type 0
SameStarts v new = (t : ℕ) → starts_at v t ≡ true → get_or new t 0 ≡ get_or v.words t 0

-- a start is none where an object is made
made_apart : {h g : Store} {s : ℕ} {b : Body} → Adds h g s b → (t : ℕ) → is_start (h.cell t) ≡ true → t ≢ s
made_apart {h} adds t on e = false≢true (sym (ap is_start adds.empty) ∙ ap (λ u. is_start (h.cell u)) (sym e) ∙ on)

pub made_noted : (v u : View) {s : ℕ} {b : Body} → Adds (store_of v) (store_of u) s b → SameStarts v u.words → is_remembered u.words s ≡ false → SameNoted v u
made_noted v u {s} adds headers off = noted_from v u
    (λ t on. (ap is_start (added-other adds t (made_apart adds t on)) ∙ on, same_bit v.words u.words t (headers t on)))
    (λ t none on. elim (cases_eq t s) [
      | inl e ↦ ap (is_remembered u.words) e ∙ off
      | inr n ↦ absurd (false≢true (sym none ∙ sym (ap is_start (added-other adds t n)) ∙ on))
    ])

-- the same of two
pub pair_noted : {v : View} {new : List ℕ} {sp : Spaces} {first second s t : ℕ} → AddsPair v new sp first second s t → SameStarts v new → is_remembered new s ≡ false → is_remembered new t ≡ false → SameNoted v (record v { words = new; spaces = sp })
pair_noted {v} {new} {sp} {s} {t} k headers off_s off_t =
    let then : View = record v { words = new; spaces = sp } in
    let stays : (x : ℕ) → x ≢ s → x ≢ t → starts_at then x ≡ starts_at v x = λ x n m. ap is_start (added-other k.two x m) ∙ ap is_start (added-other k.one x n) in
    noted_from v then
    (λ x on.
    let n : x ≢ s = made_apart k.one x on in
    let m : x ≢ t = made_apart k.two x (ap is_start (added-other k.one x n) ∙ on) in
    (stays x n m ∙ on, same_bit v.words new x (headers x on)))
    (λ x none on. elim (cases_eq x s) [
      | inl e ↦ ap (is_remembered new) e ∙ off_s
      | inr n ↦ elim (cases_eq x t) [
        | inl e ↦ ap (is_remembered new) e ∙ off_t
        | inr m ↦ absurd (false≢true (sym none ∙ sym (stays x n m) ∙ on))
      ]
    ])

-- ---- in eden, and in old space

pub eden_noted : {v : View} {new : List ℕ} {class format slots : ℕ} (k : IsGrown v new class format slots) → SameNoted v (u k)
eden_noted {v} {new} {class} {format} {slots} k = made_noted v (u k) (eden_adds k)
    (λ t on. let d = start-in heap_to v.words (chunks_of v) t on in subst (λ x. get_or new x 0 ≡ get_or v.words x 0) d.2 (same_header (grows k) d.0 d.1))
    (fresh_is_forgotten new (v.spaces.eden_at + v.spaces.eden_used) class format slots (fill_word v format) k.run)

pub served_starts : {v : View} {free free' : FreeLists} {mid new : List ℕ} {at n : ℕ} → IsServed v free free' mid new at n → SameStarts v new
served_starts {v} {new} k t on =
    let d = start-in heap_to v.words (chunks_of v) t on in
    let l = (stands v.words 0 (length v.words) (chunks_of v) d.0 (order v (whole_sound v k.whole)) d.1).lies in
    let kept = told_free v k.whole d.0 d.1 ∙ ap not (ap (starts_at v) d.2 ∙ on) in
    subst (λ x. get_or new x 0 ≡ get_or v.words x 0) d.2 (words_same k d.0.start (object_words k d.0 d.1 kept d.0.start l.lead (omega (arith, l.room))))
