-- A field that is put among bytes.
use Rattle.std.proofs.Common.{◌≡◌, ℕ, ◌+◌, ◌-◌, ◌≤◌, List, ◌++◌, length, take, drop, arith, refl, sym, ap, ◌∙◌, length-take, length-drop, length-append}
use Rattle.std.proofs.lemmas.List.{take_at, drop_at, drop-drop, length-take-le, take-append-drop}
use Rattle.std.specs.Int.{Width, byte_len, from_le_bytes}
use Rattle.spur_graph.specs.Bytes.{number}
use Rattle.image_header.specs.Headers.{put}
use Rattle.image_header.proofs.Numbers.{front_same}

-- the field of a slice that was written from its place on
pub put_is : (at n : ℕ) (field bytes : List ℕ) → length field ≡ n → take at bytes ++ (field ++ drop n (drop at bytes)) ≡ put at field bytes
unfolding put
put_is at n field bytes long =
    ap (λ rest. take at bytes ++ (field ++ rest)) (drop-drop n at bytes ∙ ap (λ k. drop (at + k) bytes) (sym long))

pub length_put : (at : ℕ) (field bytes : List ℕ) → at + length field ≤ length bytes → length (put at field bytes) ≡ length bytes
unfolding put
length_put at field bytes within =
    omega (arith, length-append (take at bytes) (field ++ drop (at + length field) bytes), length-append field (drop (at + length field) bytes), length-take at bytes, length-drop (at + length field) bytes)

-- the bytes before it
pub take_put : (at : ℕ) (field bytes : List ℕ) → at ≤ length bytes → take at (put at field bytes) ≡ take at bytes
unfolding put
take_put at field bytes within = take_at (take at bytes) (field ++ drop (at + length field) bytes) at (length-take-le at bytes within)

-- the field, and the bytes behind it
pub drop_put : (at : ℕ) (field bytes : List ℕ) → at ≤ length bytes → drop at (put at field bytes) ≡ field ++ drop (at + length field) bytes
unfolding put
drop_put at field bytes within = drop_at (take at bytes) (field ++ drop (at + length field) bytes) at (length-take-le at bytes within)

pub part_before : (from n at : ℕ) (field bytes : List ℕ) → from + n ≤ at → at ≤ length bytes → take n (drop from (put at field bytes)) ≡ take n (drop from bytes)
part_before from n at field bytes before within =
    sym (front_same at n from (put at field bytes) before) ∙ (ap (λ bs. take n (drop from bs)) (take_put at field bytes within) ∙ front_same at n from bytes before)

pub behind : (at from : ℕ) (field bytes : List ℕ) → at + length field ≤ from → at ≤ length bytes → drop from (put at field bytes) ≡ drop from bytes
behind at from field bytes after within =
    let long : ℕ = length field in
    let more : ℕ = from - (at + long) in
    let parts : from ≡ at + (long + more) = omega arith in
    let same : from ≡ (at + long) + more = omega arith in
    ap (λ k. drop k (put at field bytes)) parts
    ∙ (sym (drop-drop (long + more) at (put at field bytes))
    ∙ (ap (drop (long + more)) (drop_put at field bytes within)
    ∙ (sym (drop-drop more long (field ++ drop (at + long) bytes))
    ∙ (ap (drop more) (drop_at field (drop (at + long) bytes) long refl)
    ∙ (drop-drop more (at + long) bytes ∙ ap (λ k. drop k bytes) (sym same))))))

-- a number before the field, the field as a number, and a number behind it
pub number_before : (w : Width) (from at : ℕ) (field bytes : List ℕ) → from + byte_len w ≤ at → at ≤ length bytes → number w from (put at field bytes) ≡ number w from bytes
number_before w from at field bytes before within = ap (from_le_bytes w) (part_before from (byte_len w) at field bytes before within)

pub number_behind : (w : Width) (from at : ℕ) (field bytes : List ℕ) → at + length field ≤ from → at ≤ length bytes → number w from (put at field bytes) ≡ number w from bytes
number_behind w from at field bytes after within = ap (λ bs. from_le_bytes w (take (byte_len w) bs)) (behind at from field bytes after within)

pub number_put : (w : Width) (at : ℕ) (field bytes : List ℕ) → length field ≡ byte_len w → at ≤ length bytes → number w at (put at field bytes) ≡ from_le_bytes w field
number_put w at field bytes long within =
    ap (from_le_bytes w) (ap (take (byte_len w)) (drop_put at field bytes within) ∙ take_at field (drop (at + length field) bytes) (byte_len w) long)

-- what stands in a place may be put there
pub put_same : (at n : ℕ) (bytes : List ℕ) → at + n ≤ length bytes → put at (take n (drop at bytes)) bytes ≡ bytes
unfolding put
put_same at n bytes within =
    let long : length (take n (drop at bytes)) ≡ n = length-take-le n (drop at bytes) (omega (arith, length-drop at bytes)) in
    ap (λ k. take at bytes ++ (take n (drop at bytes) ++ drop (at + k) bytes)) long
    ∙ (ap (λ rest. take at bytes ++ (take n (drop at bytes) ++ rest)) (sym (drop-drop n at bytes))
    ∙ (ap (λ rest. take at bytes ++ rest) (take-append-drop n (drop at bytes)) ∙ take-append-drop at bytes))
