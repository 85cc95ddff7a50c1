-- What the parts of a front tell of the whole.
use Rattle.std.proofs.Common.{◌≡◌, ℕ, ◌+◌, ◌*◌, ◌/◌, ◌≤◌, ◌<◌, List, length, arith, refl, subst, sym, ap, inl, inr, Bool, true, false, if◌then◌else◌}
use Rattle.std.proofs.lemmas.Bool.{cases_lt}
use Rattle.spur_graph.specs.declared.limits.Limits.{Limits}
use Rattle.spur_graph.specs.ImageFile.{header_bytes, heap_bytes}
use Rattle.spur_graph.specs.ImageCauses.{NoHeader, TooLarge, NoHeap, BadSegment, Bad, Short, Large, Segment, End, needed, most_words, is_bad_segment, behind}
use Rattle.image_header.specs.declared.header.ImageHeader.{ImageHeader}
use Rattle.image_header.specs.Headers.{IsHeaderOf}
use Rattle.image_file.specs.Passed.{Passes, needed_words}
use Rattle.image_file.specs.Errors.{IsCauseOf, IsShort}
use Rattle.image_file.specs.Linked.{IsLinkError, IsBadAt}
use Rattle.image_file.specs.declared.error.LoadError.{LoadError}
use Rattle.image_file.specs.declared.error.LoadError.TheVariants as errors
use Rattle.image_file.proofs.Rows.{passes_next, first_cause, least_zero}

needed_is : (bytes : List ℕ) (limits : Limits) (h : ImageHeader) → IsHeaderOf bytes h → needed_words h limits ≡ needed bytes limits
needed_is bytes limits h is = ap (λ n. n / 8 + limits.room + limits.eden + 2 * limits.survivor) is.heap_is

pub passes_large : (bytes : List ℕ) (limits : Limits) (h : ImageHeader) → IsHeaderOf bytes h → Passes bytes limits 4 → needed_words h limits ≤ most_words → Passes bytes limits 5
passes_large bytes limits h is passes fits = passes_next bytes limits TooLarge 4 refl passes (λ n bad. absurd (omega (arith, bad, fits, needed_is bytes limits h is)))

pub passes_length : (bytes : List ℕ) (limits : Limits) → Passes bytes limits 5 → header_bytes + heap_bytes bytes ≤ length bytes → Passes bytes limits 6
passes_length bytes limits passes long = passes_next bytes limits NoHeap 5 refl passes (λ n bad. absurd (omega (arith, bad, long)))

pub passes_chain : (bytes : List ℕ) (limits : Limits) → Passes bytes limits 6 → ((i : ℕ) → IsBadAt bytes i → ⊥) → Passes bytes limits 7
passes_chain bytes limits passes good = passes_next bytes limits BadSegment 6 refl passes good

-- a file whose header passes has one
pub has_header : (bytes : List ℕ) (limits : Limits) → Passes bytes limits 4 → header_bytes ≤ length bytes
has_header bytes limits passes = elim (cases_lt (length bytes) header_bytes) [ inl short ↦ absurd (passes NoHeader 0 (omega arith) short) | inr long ↦ long ]

-- an image that is too large
pub large_refused : (bytes : List ℕ) (limits : Limits) (h : ImageHeader) (e : LoadError) → IsHeaderOf bytes h → Passes bytes limits 4 → e ≡ errors.Large (needed_words h limits) → most_words < needed_words h limits
    → IsCauseOf bytes limits e
large_refused bytes limits h e is passes error large =
    subst (λ (x : LoadError). IsCauseOf bytes limits x) (sym error)
    (first_cause bytes limits (Large (needed_words h limits)) TooLarge 0 4 refl passes (least_zero (Bad bytes limits TooLarge) (omega (arith, large, needed_is bytes limits h is))) (ap Large (needed_is bytes limits h is)))

-- a file that is shorter than its heap
pub short_refused : (bytes : List ℕ) (limits : Limits) (end : ℕ) (e : LoadError) → Passes bytes limits 5 → end ≡ header_bytes + heap_bytes bytes → IsShort bytes end e → IsCauseOf bytes limits e
short_refused bytes limits end (errors.Short n) passes is short =
    first_cause bytes limits (Short n) NoHeap 0 5 refl passes (least_zero (Bad bytes limits NoHeap) (omega (arith, is, short.1))) (ap Short short.0)
short_refused bytes limits end errors.ReadFault passes is short = tt
short_refused bytes limits end errors.Memory passes is short = tt
short_refused bytes limits end other passes is short = absurd short

cannot_stand : (bytes : List ℕ) (i : ℕ) (b : Bool) → b ≡ true → Segment i ≡ (if b then Segment i else End (behind bytes i))
cannot_stand bytes i true is = refl
cannot_stand bytes i false is = cc

ends_early : (bytes : List ℕ) (i n : ℕ) (b : Bool) → b ≡ false → n ≡ behind bytes i → End n ≡ (if b then Segment i else End (behind bytes i))
ends_early bytes i n true is left = cc
ends_early bytes i n false is left = ap End left

-- a chain that can't be
pub chain_refused : (bytes : List ℕ) (limits : Limits) (e : LoadError) → Passes bytes limits 6 → IsLinkError bytes e → IsCauseOf bytes limits e
chain_refused bytes limits (errors.Segment i) passes error =
    first_cause bytes limits (Segment i) BadSegment i 6 refl passes error.least (cannot_stand bytes i (is_bad_segment bytes i) error.bad)
chain_refused bytes limits (errors.End n) passes error =
    first_cause bytes limits (End n) BadSegment error.0 6 refl passes error.1.least (ends_early bytes error.0 n (is_bad_segment bytes error.0) error.1.stands error.1.left)
chain_refused bytes limits errors.ReadFault passes error = tt
chain_refused bytes limits errors.Memory passes error = tt
chain_refused bytes limits other passes error = absurd error

pub long_heap : (bytes : List ℕ) (h : ImageHeader) → IsHeaderOf bytes h → header_bytes + h.heap_bytes ≤ length bytes → header_bytes + heap_bytes bytes ≤ length bytes
long_heap bytes h is long = omega (arith, is.heap_is, long)
