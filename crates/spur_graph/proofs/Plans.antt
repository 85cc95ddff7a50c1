-- Planned places, computed.
use Rattle.std.proofs.Common.{◌≡◌, ℕ, [], ◌∷◌, true, false, refl}
use Rattle.spur_graph.specs.Planned.{Marked, planned, plan, place}

abbrev mobile : ℕ → ℕ → Marked
mobile at size = record { at = at; start = at; size = size; pinned = false }

abbrev pin : ℕ → ℕ → Marked
pin at size = record { at = at; start = at; size = size; pinned = true }

-- two gaps of four words take two objects of four
two_gaps : planned 6284 (pin 6288 4 ∷ pin 6296 4 ∷ mobile 6300 4 ∷ mobile 6304 4 ∷ []) ≡ (6288, 6288) ∷ (6296, 6296) ∷ (6300, 6284) ∷ (6304, 6292) ∷ []
unfolding plan place
two_gaps = refl

-- a gap of three words takes no object of two, since one word is no chunk
three_words : planned 6284 (mobile 6284 4 ∷ pin 6291 3 ∷ mobile 6294 2 ∷ []) ≡ (6284, 6284) ∷ (6291, 6291) ∷ (6294, 6294) ∷ []
unfolding plan place
three_words = refl

-- without a pinned object there is no gap
no_pin : planned 6284 (mobile 6284 4 ∷ mobile 6291 3 ∷ []) ≡ (6284, 6284) ∷ (6291, 6288) ∷ []
unfolding plan place
no_pin = refl

-- an object that does not fill the gap before a pinned one leaves it to a later one, and one that the rest does not take goes behind the pinned one
around : planned 0 (pin 10 2 ∷ mobile 12 3 ∷ pin 15 2 ∷ mobile 17 5 ∷ mobile 22 3 ∷ []) ≡ (10, 10) ∷ (12, 0) ∷ (15, 15) ∷ (17, 3) ∷ (22, 12) ∷ []
unfolding plan place
around = refl

-- a gap of seven words takes no object of six
rest_of_one : planned 0 (mobile 0 3 ∷ pin 10 2 ∷ mobile 17 6 ∷ []) ≡ (0, 0) ∷ (10, 10) ∷ (17, 12) ∷ []
unfolding plan place
rest_of_one = refl
