-- The objects of a store: which are internal, and which words are good in a slot.
use Rattle.std.specs.Prelude.{ℕ, ◌/◌, ◌%◌, ◌^◌, List, length, slice_index, Bool, false, not, ◌&&◌, ◌||◌, nat_eq, nat_lt, Option, Some, None}
use Rattle.std.specs.Option.{unwrap_or}
use Rattle.std.specs.List.{filter}
use Rattle.spur_graph.specs.declared.layout.TheConstants.{HIDDEN_ROOTS_SLOTS, PAGE_PLACES, PAGE_ENTRIES}
use Rattle.spur_graph.specs.Value.{is_immediate_word}
use Rattle.spur_graph.specs.Cells.{Body, Store, is_moved, is_there, body_of, pointer_count, first, final, lead, any_below}

-- the slots of the hidden roots, and how many of the first of them are places of class table pages
abbrev pub roots_slots : ℕ
roots_slots = HIDDEN_ROOTS_SLOTS

abbrev pub page_places : ℕ
page_places = PAGE_PLACES

-- the entries of a class table page
abbrev pub page_entries : ℕ
page_entries = PAGE_ENTRIES

-- class indices are below this
abbrev pub class_limit : ℕ
class_limit = 2 ^ 22

-- it is this one
abbrev pub is_at : ℕ → Option ℕ → Bool
is_at s None = false
is_at s (Some t) = nat_eq t s

-- it is there, and passes the test
abbrev pub passes : (ℕ → Bool) → Option ℕ → Bool
passes test None = false
passes test (Some s) = test s

-- the object that stands at a start
abbrev pub body_at : Store → ℕ → Body
body_at h s = body_of (h.cell s)

-- slot `i` of the hidden roots, the fifth chunk
abbrev pub root_slot : Store → ℕ → ℕ
root_slot h i = slice_index (body_at h (first h 4)).words i

-- slot `i` of the hidden roots names this start
abbrev pub tells : Store → ℕ → ℕ → Bool
tells h i s = is_at s (h.to (root_slot h i))

-- slot `i` of the hidden roots names nil, the first chunk: there is no page
abbrev pub is_nil_slot : Store → ℕ → Bool
is_nil_slot h i = tells h i (first h 0)

-- one of the first five chunks starts there
abbrev pub is_first : Store → ℕ → Bool
is_first h s = any_below (λ k. nat_eq (first h k) s) 5

-- an object of format 2 with 1,024 slots
abbrev pub is_page_body : Body → Bool
is_page_body b = nat_eq b.format 2 && nat_eq (length b.words) page_entries

-- slot `i` of the hidden roots names a page: an object that can be one, is none of the first five, and that no slot before names
unfoldable pub is_page : Store → ℕ → Bool
is_page h i = passes (λ s. is_there (h.cell s) && is_page_body (body_at h s) && not (is_first h s) && not (any_below (λ j. tells h j s) i)) (h.to (root_slot h i))

-- the free lists object, the hidden roots, and what slots of the hidden roots name besides nil
unfoldable pub is_internal : Store → ℕ → Bool
is_internal h s = nat_eq s (first h 3) || nat_eq s (first h 4) || (not (nat_eq s (first h 0)) && any_below (λ i. tells h i s) page_places)

-- every other object is ordinary
abbrev pub is_ordinary : Store → ℕ → Bool
is_ordinary h s = is_there (h.cell s) && not (is_internal h s)

-- the starts of the ordinary objects, in order
unfoldable pub ordinary_starts : Store → List ℕ
ordinary_starts h = filter (is_ordinary h) h.starts

-- the word names an object or a forwarder that leads to an ordinary object
abbrev pub is_good_reference : Store → ℕ → Bool
is_good_reference h word = passes (is_ordinary h) (lead h word)

-- the word is that of a value
abbrev pub is_good_word : Store → ℕ → Bool
is_good_word h word = is_immediate_word word || is_good_reference h word

-- the chain of a forwarder does not end in an object
abbrev pub is_bad_forwarder : Store → ℕ → Bool
is_bad_forwarder h s = is_moved (h.cell s) && not (is_there (h.cell (final h s)))

-- slot `i` of the hidden roots names neither nil nor a page
abbrev pub is_bad_page : Store → ℕ → Bool
is_bad_page h i = not (is_nil_slot h i) && not (is_page h i)

-- pointer slot `i` of an ordinary object is that of no value
abbrev pub is_bad_slot : Store → ℕ → ℕ → Bool
is_bad_slot h s i = is_ordinary h s && nat_lt i (pointer_count (body_at h s)) && not (is_good_word h (slice_index (body_at h s).words i))

-- ---- the class table

-- index `i` has a page
abbrev pub has_page : Store → ℕ → Bool
has_page h i = nat_lt i class_limit && not (is_nil_slot h (i / page_entries))

-- the start of the page of index `i`
abbrev pub page_of : Store → ℕ → ℕ
page_of h i = unwrap_or (h.to (root_slot h (i / page_entries))) h.names

-- the word of entry `i`
abbrev pub entry : Store → ℕ → ℕ
entry h i = slice_index (body_at h (page_of h i)).words (i % page_entries)

-- entry `i` leads to this start
abbrev pub has_entry : Store → ℕ → ℕ → Bool
has_entry h i s = has_page h i && is_at s (lead h (entry h i))

-- a hash that a class can't have: 0 is no hash, and 3 and 8 are the class indices of bridges and forwarders
abbrev pub is_no_index : ℕ → Bool
is_no_index hash = nat_eq hash 0 || nat_eq hash 3 || nat_eq hash 8

-- the start is that of an entered class: an ordinary object that the class table has at its hash
unfoldable pub is_entered : Store → ℕ → Bool
is_entered h s = is_ordinary h s && not (is_no_index (body_at h s).hash) && has_entry h (body_at h s).hash s

-- entry `i` leads neither to nil nor to an entered class; entry 0 has to lead to nil
abbrev pub is_bad_entry : Store → ℕ → Bool
is_bad_entry h i = has_page h i && not (passes (λ s. nat_eq s (first h 0) || (not (nat_eq i 0) && is_entered h s)) (lead h (entry h i)))
