-- A file that is begun and then written in pieces: its header first, and then one piece behind another.
use Rattle.std.proofs.Common.{◌≡◌, ◌⊎◌, ◌≤◌, ◌+◌, ◌-◌, ℕ, List, [], ◌++◌, length, take, drop, sym, ◌∙◌, ap, arith, append_assoc, Option, Ok, Err, inr}
use Rattle.std.proofs.lemmas.List.{take-append-drop}
use Rattle.std.proofs.Math.Seq.{take-append_seam}
use Rattle.spur_io.specs.declared.files.FileFault.{FileFault}
use Rattle.spur_io.specs.Store.{FileMap, Changes, Begins, Appends}
use Rattle.spur_io.proofs.Changes.{both, told_as}

-- the fronts of a file: the first is its header, and each longer one has a piece more
pub record ArePieces (header : List ℕ) (front : ℕ → List ℕ) (piece : ℕ → ℕ → List ℕ) : Type 0 where
  pub none : front 0 ≡ header
  pub more : (at n : ℕ) → front (at + n) ≡ front at ++ piece at n

-- the file is this front
abbrev pub IsFront : (ℕ → List ℕ) → ℕ → List ℕ → List ℕ → Type 0
IsFront front n old new = new ≡ front n

-- the file is whole
abbrev pub IsAll : List ℕ → List ℕ → List ℕ → Type 0
IsAll whole old new = new ≡ whole

-- the file is as before or a prefix of the whole, so it may be empty
abbrev pub IsShort : List ℕ → List ℕ → List ℕ → Type 0
IsShort whole old new = (new ≡ old) ⊎ ((k : ℕ) × (new ≡ take k whole))

-- ---- prefixes

-- what is there of a piece that was cut
cut : (so_far piece rest : List ℕ) (k : ℕ) → (so_far ++ take k piece) ++ (drop k piece ++ rest) ≡ (so_far ++ piece) ++ rest
cut so_far piece rest k =
    append_assoc so_far (take k piece) (drop k piece ++ rest)
    ∙ ap (λ bytes. so_far ++ bytes) (sym (append_assoc (take k piece) (drop k piece) rest) ∙ ap (λ bytes. bytes ++ rest) (take-append-drop k piece))
    ∙ sym (append_assoc so_far piece rest)

prefix_of_cut : (so_far piece rest : List ℕ) (k : ℕ) → (j : ℕ) × (so_far ++ take k piece ≡ take j ((so_far ++ piece) ++ rest))
prefix_of_cut so_far piece rest k =
    let front : List ℕ = so_far ++ take k piece in
    (length front, sym (take-append_seam front (drop k piece ++ rest)) ∙ ap (take (length front)) (cut so_far piece rest k))

module _ {header : List ℕ} {front : ℕ → List ℕ} {piece : ℕ → ℕ → List ℕ} (pieces : ArePieces header front piece) where
  -- the header behind nothing
  pub begun_front : (before middle after : Option FileMap) (name bytes : List ℕ) (x y : Unit {0}) → bytes ≡ header
      → Changes before middle name (Begins (Ok x)) → Changes middle after name (Appends bytes (Ok y)) → Changes before after name (IsFront front 0)
  begun_front before middle after name bytes x y is one two =
      both before middle after name (Begins (Ok x)) (Appends bytes (Ok y)) (IsFront front 0)
      (λ a b d none added. added ∙ ap (λ start. start ++ bytes) none ∙ is ∙ sym pieces.none) one two

  -- a piece more
  pub front_more : (before middle after : Option FileMap) (name bytes : List ℕ) (at n : ℕ) (x : Unit {0}) → bytes ≡ piece at n
      → Changes before middle name (IsFront front at) → Changes middle after name (Appends bytes (Ok x)) → Changes before after name (IsFront front (at + n))
  front_more before middle after name bytes at n x is one two =
      both before middle after name (IsFront front at) (Appends bytes (Ok x)) (IsFront front (at + n))
      (λ a b d so_far added. added ∙ ap (λ start. start ++ bytes) so_far ∙ ap (λ more. front at ++ more) is ∙ sym (pieces.more at n)) one two

  -- the whole is the front of this end
  module _ {whole : List ℕ} (end : ℕ) (all : whole ≡ front end) where
    header_prefix : (k : ℕ) → (j : ℕ) × (take k header ≡ take j whole)
    header_prefix k =
        let same : header ++ piece 0 end ≡ whole = ap (λ bytes. bytes ++ piece 0 end) (sym pieces.none) ∙ sym (pieces.more 0 end) ∙ ap front (omega arith) ∙ sym all in
        let (j, part) = prefix_of_cut [] header (piece 0 end) k in
        (j, part ∙ ap (take j) same)

    piece_prefix : (at n k : ℕ) → at + n ≤ end → (j : ℕ) × (front at ++ take k (piece at n) ≡ take j whole)
    piece_prefix at n k within =
        let rest : List ℕ = piece (at + n) (end - (at + n)) in
        let same : (front at ++ piece at n) ++ rest ≡ whole = ap (λ bytes. bytes ++ rest) (sym (pieces.more at n)) ∙ sym (pieces.more (at + n) (end - (at + n))) ∙ ap front (omega arith) ∙ sym all in
        let (j, part) = prefix_of_cut (front at) (piece at n) rest k in
        (j, part ∙ ap (take j) same)

    -- a header that was cut behind nothing
    pub begun_short : (before middle after : Option FileMap) (name bytes : List ℕ) (x : Unit {0}) (e : FileFault) → bytes ≡ header
        → Changes before middle name (Begins (Ok x)) → Changes middle after name (Appends bytes (Err e)) → Changes before after name (IsShort whole)
    begun_short before middle after name bytes x e is one two =
        both before middle after name (Begins (Ok x)) (Appends bytes (Err e)) (IsShort whole)
        (λ a b d none (k, added). let (j, part) = header_prefix k in inr (j, added ∙ ap (λ start. start ++ take k bytes) none ∙ ap (take k) is ∙ part)) one two

    -- a piece that was cut behind a front
    pub front_short : (before middle after : Option FileMap) (name bytes : List ℕ) (at n : ℕ) (e : FileFault) → bytes ≡ piece at n → at + n ≤ end
        → Changes before middle name (IsFront front at) → Changes middle after name (Appends bytes (Err e)) → Changes before after name (IsShort whole)
    front_short before middle after name bytes at n e is within one two =
        both before middle after name (IsFront front at) (Appends bytes (Err e)) (IsShort whole)
        (λ a b d so_far (k, added). let (j, part) = piece_prefix at n k within in
        inr (j, added ∙ ap (λ start. start ++ take k bytes) so_far ∙ ap (λ more. front at ++ take k more) is ∙ part)) one two

    -- all pieces
    pub front_whole : (before after : Option FileMap) (name : List ℕ) (at : ℕ) → at ≡ end
        → Changes before after name (IsFront front at) → Changes before after name (IsAll whole)
    front_whole before after name at is one =
        told_as before after name (IsFront front at) (IsAll whole) (λ a b so_far. so_far ∙ ap front is ∙ sym all) one
