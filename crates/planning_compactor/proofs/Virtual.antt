-- Words with the first fields put back.
use Rattle.std.proofs.Common.{◌≡◌, ◌≢◌, ℕ, suc, zero, ◌+◌, ◌<◌, List, [], ◌∷◌, length, get_or, set, refl, sym, ap, ◌∙◌, inl, inr, arith}
use Rattle.std.proofs.lemmas.Bool.{cases_eq, ne_eqb, eq-eqb}
use Rattle.std.proofs.lemmas.List.{length-set, get_or-set_same, get_or-set_other}
use Rattle.heap_walk.specs.declared.saved.Saved.{Saved}
use Rattle.planning_compactor.specs.Entries.{entry, start_of, virtual, IsElsewhere}

-- distinct places
abbrev pub AreApart : List Saved → Type 0
AreApart es = (i j : ℕ) → i < j → j < length es → start_of es i < start_of es j

tail-apart : (e : Saved) (es : List Saved) → AreApart (e ∷ es) → AreApart es
tail-apart e es a = λ i j l b. a (suc i) (suc j) (omega (arith, l)) (omega (arith, b))

pub virtual-else : (es : List Saved) (words : List ℕ) (j : ℕ) → IsElsewhere es j → virtual es words j ≡ get_or words j 0
unfolding virtual
virtual-else [] words j h = refl
virtual-else (e ∷ es) words j h = rw (ne_eqb (e.start + 1) j (h 0 (omega arith))) (virtual-else es words j (λ k l. h (suc k) (omega (arith, l))))

pub virtual-at : (es : List Saved) (words : List ℕ) (k : ℕ) → AreApart es → k < length es → virtual es words (start_of es k + 1) ≡ (entry es k).first
unfolding virtual
virtual-at [] words k a l = absurd (omega arith)
virtual-at (e ∷ es) words zero a l = rw (eq-eqb (e.start + 1) (e.start + 1) refl) refl
virtual-at (e ∷ es) words (suc k) a l =
    let r = a 0 (suc k) (omega arith) l in
    rw (ne_eqb (e.start + 1) (start_of es k + 1) (λ q. omega (arith, q, r))) (virtual-at es words k (tail-apart e es a) (omega arith))

-- a word elsewhere is written through
pub virtual-set : (es : List Saved) (words : List ℕ) (at w : ℕ) → IsElsewhere es at → at < length words → virtual es (set words at w) at ≡ w
virtual-set es words at w h l = virtual-else es (set words at w) at h ∙ get_or-set_same words at w 0 l

pub virtual-set_else : (es : List Saved) (words : List ℕ) (at w j : ℕ) → j ≢ at → virtual es (set words at w) j ≡ virtual es words j
unfolding virtual
virtual-set_else [] words at w j n = get_or-set_other words at j w 0 n
virtual-set_else (e ∷ es) words at w j n = elim (cases_eq (e.start + 1) j) [
  | inl is ↦ rw (eq-eqb (e.start + 1) j is) refl
  | inr not ↦ rw (ne_eqb (e.start + 1) j not) (virtual-set_else es words at w j n)
]

-- an entry is rewritten
pub virtual-entry_else : (es : List Saved) (words : List ℕ) (k w j : ℕ) → start_of es k + 1 ≢ j → virtual (set es k (record { start = start_of es k; first = w })) words j ≡ virtual es words j
unfolding virtual
virtual-entry_else [] words k w j n = refl
virtual-entry_else (e ∷ es) words zero w j n = rw (ne_eqb (e.start + 1) j n) refl
virtual-entry_else (e ∷ es) words (suc k) w j n = elim (cases_eq (e.start + 1) j) [
  | inl is ↦ rw (eq-eqb (e.start + 1) j is) refl
  | inr not ↦ rw (ne_eqb (e.start + 1) j not) (virtual-entry_else es words k w j n)
]

pub starts-set : (es : List Saved) (k w i : ℕ) → k < length es → start_of (set es k (record { start = start_of es k; first = w })) i ≡ start_of es i
starts-set es k w i l = elim (cases_eq i k) [
  | inl e ↦ ap (λ j. start_of (set es k (record { start = start_of es k; first = w })) j) e ∙ ap (λ (x : Saved). x.start) (get_or-set_same es k (record { start = start_of es k; first = w }) (record { start = 0; first = 0 }) l) ∙ ap (start_of es) (sym e)
  | inr n ↦ ap (λ (x : Saved). x.start) (get_or-set_other es k i (record { start = start_of es k; first = w }) (record { start = 0; first = 0 }) n)
]

pub virtual-entry : (es : List Saved) (words : List ℕ) (k w : ℕ) → AreApart es → k < length es → virtual (set es k (record { start = start_of es k; first = w })) words (start_of es k + 1) ≡ w
virtual-entry es words k w a l =
    let new : List Saved = set es k (record { start = start_of es k; first = w }) in
    let n : length new ≡ length es = length-set es k (record { start = start_of es k; first = w }) in
    let b : AreApart new = λ i j u v. let r = a i j u (omega (arith, v, n)) in omega (arith, r, starts-set es k w i l, starts-set es k w j l) in
    ap (λ s. virtual new words (s + 1)) (sym (starts-set es k w k l)) ∙ virtual-at new words k b (omega (arith, l, n))
    ∙ ap (λ (x : Saved). x.first) (get_or-set_same es k (record { start = start_of es k; first = w }) (record { start = 0; first = 0 }) l)
