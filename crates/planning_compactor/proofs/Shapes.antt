-- Where the words of an object are, from its start.
use Rattle.std.proofs.Common.{◌≡◌, ℕ, true, cond, ◌+◌, ◌-◌, ◌≤◌, max, List, length, get_or, refl, sym, ap, ◌∙◌, inl, inr, arith}
use Rattle.std.specs.Prelude.{◌==◌}
use Rattle.std.proofs.lemmas.Bool.{cases_Bool}
use Rattle.object_header.specs.Fields.{fields_of}
use Rattle.object_header.specs.Head.{overflow_slots_of}
use Rattle.object_header.specs.Chunks.{leads, slots_at, StandsAt}
use Rattle.heap_walk.specs.Shapes.{lead_at, place_at, words_at, end_at}
use Rattle.heap_cells.specs.Rows.{EndsBefore}
use Rattle.heap_laws.specs.Compaction.{IsMovedBy}
use Rattle.compaction_laws.specs.Compacting.{is_pinned}

-- an overflow word is one word
pub lead-one : (words : List ℕ) (s : ℕ) → leads (get_or words s 0) ≡ true → lead_at words s ≡ 1
lead-one words s on = ap (λ b. cond b 1 0) on

pub lead-few : (words : List ℕ) (s : ℕ) → lead_at words s ≤ 1
lead-few words s = elim (cases_Bool (leads (get_or words s 0))) [
  | inl on ↦ omega (arith, lead-one words s on)
  | inr off ↦ (let e : lead_at words s ≡ 0 = ap (λ b. cond b 1 0) off in omega (arith, e))
]

pub lead-low : (words : List ℕ) (s : ℕ) → StandsAt words s → lead_at words s ≤ s
lead-low words s a = elim (cases_Bool (leads (get_or words s 0))) [
  | inl on ↦ let z = a.behind on in omega (arith, z, lead-one words s on)
  | inr off ↦ (let e : lead_at words s ≡ 0 = ap (λ b. cond b 1 0) off in omega (arith, e))
]

pub words-two : (words : List ℕ) (s : ℕ) → 2 ≤ words_at words s
words-two words s = omega arith

-- the number of slots is told by two words
pub slots_at-moved : (words words' : List ℕ) (t s : ℕ) → get_or words' s 0 ≡ get_or words t 0 → (leads (get_or words t 0) ≡ true → get_or words' (s - 1) 0 ≡ get_or words (t - 1) 0) → slots_at words' s ≡ slots_at words t
unfolding slots_at
slots_at-moved words words' t s e k = elim (cases_Bool (leads (get_or words t 0))) [
  | inl on ↦ rw (e, on) (ap overflow_slots_of (k on))
  | inr off ↦ rw (e, off) refl
]

-- ---- the same header, and as many slots

pub record SameHead (words words' : List ℕ) (t s : ℕ) : Type 0 where
  pub header : get_or words' s 0 ≡ get_or words t 0
  pub slots : slots_at words' s ≡ slots_at words t

pub head-moved : {p : ℕ → ℕ} {words words' : List ℕ} {t s : ℕ} → IsMovedBy p words words' t s → SameHead words words' t s
head-moved m = record { header = m.header; slots = m.slots }

pub lead-same : {words words' : List ℕ} {t s : ℕ} → SameHead words words' t s → lead_at words' s ≡ lead_at words t
lead-same h = ap (λ w. cond (leads w) 1 0) h.header

pub words-same : {words words' : List ℕ} {t s : ℕ} → SameHead words words' t s → words_at words' s ≡ words_at words t
words-same h = λ i. lead-same h i + 1 + max 1 (h.slots i)

pub pinned-same : {words words' : List ℕ} {t s : ℕ} → SameHead words words' t s → is_pinned words' s ≡ is_pinned words t
pinned-same h = ap (λ w. (fields_of w).pinned == 1) h.header

pub stands-same : {words words' : List ℕ} {t s : ℕ} → SameHead words words' t s → StandsAt words t → lead_at words t ≤ s → s ≤ t → length words' ≡ length words → StandsAt words' s
stands-same {words} {words'} {t} {s} h a room down len =
    let b = a.below in
    let f = a.fits in
    record {
      below = omega (arith, b, down, len);
      behind = λ on. omega (arith, lead-one words t (ap leads (sym h.header) ∙ on), room);
      fits = omega (arith, f, down, len, h.slots);
    }

-- where it stands at the same start
pub place-same : {words words' : List ℕ} {s : ℕ} → SameHead words words' s s → place_at words' s ≡ place_at words s
place-same {words} {words'} {s} h = ap (λ n. s - n) (lead-same h)

pub end-same : {words words' : List ℕ} {s : ℕ} → SameHead words words' s s → end_at words' s ≡ end_at words s
end-same h = λ i. place-same h i + words-same h i

-- ---- one object behind another

pub ends-before : (words : List ℕ) (s t : ℕ) → StandsAt words s → StandsAt words t → end_at words s ≤ place_at words t → EndsBefore words s t
ends-before words s t a b l = record {
  next = omega (arith, l, lead-low words s a);
  slots = omega (arith, l, lead-low words s a);
  behind = λ on. (let z = b.behind on in omega (arith, l, lead-low words s a, lead-one words t on, z));
}

pub ends-at : (words : List ℕ) (s t : ℕ) → lead_at words s ≤ s → EndsBefore words s t → end_at words s ≤ place_at words t
ends-at words s t room e = elim (cases_Bool (leads (get_or words t 0))) [
  | inl on ↦ let z = e.behind on in omega (arith, z, lead-one words t on, room)
  | inr off ↦ let z = e.slots in let y = e.next in (let k : lead_at words t ≡ 0 = ap (λ b. cond b 1 0) off in omega (arith, z, y, k, room))
]
