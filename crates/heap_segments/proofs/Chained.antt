-- The chain of segments, link by link.
use Rattle.std.proofs.Common.{◌≡◌, ℕ, suc, ◌+◌, Bool, cond, List, [], ◌∷◌, refl, add-one}
use Rattle.spur_graph.specs.ImageFile.{header_bytes, base}
use Rattle.spur_graph.specs.Segments.{Segment, most_segments, is_good, is_last, next_of, first_size, segment, chain, segments}

-- a link of the chain, and what follows
abbrev pub linked : Bool → Bool → Segment → List Segment → List Segment
linked good last s rest = cond good (s ∷ cond last [] rest) []

pub chain-cut : (bytes : List ℕ) (i most : ℕ) → chain bytes i (suc most) ≡ linked (is_good bytes (segment bytes i)) (is_last bytes (segment bytes i)) (segment bytes i) (chain bytes (i + 1) most)
unfolding chain
chain-cut bytes i most = refl

pub segment-first : (bytes : List ℕ) → segment bytes 0 ≡ record { at = header_bytes; size = first_size bytes; address = base bytes }
unfolding segment
segment-first bytes = refl

pub segment-next : (bytes : List ℕ) (i : ℕ) → segment bytes (i + 1) ≡ next_of bytes (segment bytes i)
unfolding segment
segment-next bytes i = rw add-one refl

pub segments-chain : (bytes : List ℕ) → segments bytes ≡ chain bytes 0 most_segments
unfolding segments
segments-chain bytes = refl
