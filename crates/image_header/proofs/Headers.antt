-- What is written of a header, and what is read of it again.
use Rattle.std.proofs.Common.{◌≡◌, ℕ, zero, suc, ◌+◌, ◌≤◌, ◌<◌, List, [], ◌∷◌, length, take, drop, Option, Some, None, false, nat_eq, arith, refl, sym, ap, subst, ◌∙◌, length-take, length-drop}
use Rattle.std.specs.Prelude.{if◌then◌else◌, not}
use Rattle.std.proofs.lemmas.List.{take_all, length-take-le, get_or-drop}
use Rattle.std.proofs.lemmas.Nat.{from_le_bytes-to_le_bytes_4, from_le_bytes-to_le_bytes_8, le_bytes_4, le_bytes_8}
use Rattle.std.specs.Int.{w32, w64, Width, byte_len, to_le_bytes}
use Rattle.spur_graph.specs.Bytes.{number}
use Rattle.spur_graph.specs.ImageFile.{format, header_size, base, header_bytes, spur_format}
use Rattle.image_header.specs.declared.header.ImageHeader.{ImageHeader}
use Rattle.image_header.specs.declared.header.HeaderError.{HeaderError}
use Rattle.image_header.specs.declared.header.HeaderError.TheVariants as errors
use Rattle.image_header.specs.Headers.{put, written, fault_of, is_bad_base, IsHeaderOf, AreBytes, ReadsBack, WritesBack, Carries, TellsOfFile}
use Rattle.image_header.proofs.Numbers.{front_number}
use Rattle.image_header.proofs.Puts.{length_put, part_before, behind, number_before, number_behind, number_put, put_same}

-- the bytes with the fields up to each of them
abbrev with_format : ImageHeader → List ℕ
with_format h = put 0 (to_le_bytes w32 h.format) h.carried

abbrev with_heap : ImageHeader → List ℕ
with_heap h = put 8 (to_le_bytes w64 h.heap_bytes) (with_format h)

abbrev with_base : ImageHeader → List ℕ
with_base h = put 16 (to_le_bytes w64 h.base) (with_heap h)

abbrev with_special : ImageHeader → List ℕ
with_special h = put 24 (to_le_bytes w64 h.special) (with_base h)

abbrev with_hash : ImageHeader → List ℕ
with_hash h = put 32 (to_le_bytes w64 h.last_hash) (with_special h)

abbrev with_segment : ImageHeader → List ℕ
with_segment h = put 72 (to_le_bytes w64 h.first_segment) (with_hash h)

abbrev with_zeros : ImageHeader → List ℕ
with_zeros h = put 80 (to_le_bytes w64 0) (with_segment h)

pub written_is : (h : ImageHeader) → with_zeros h ≡ written h
unfolding written
written_is h = refl

-- all of them are as long as a header
record AreLong (h : ImageHeader) : Type 0 where
  bare : length h.carried ≡ 128
  format : length (with_format h) ≡ 128
  heap : length (with_heap h) ≡ 128
  base : length (with_base h) ≡ 128
  special : length (with_special h) ≡ 128
  hash : length (with_hash h) ≡ 128
  segment : length (with_segment h) ≡ 128
  zeros : length (with_zeros h) ≡ 128

long : (h : ImageHeader) → length h.carried ≡ 128 → AreLong h
long h bare =
    let format : length (with_format h) ≡ 128 = length_put 0 (to_le_bytes w32 h.format) h.carried (omega arith) ∙ bare in
    let heap : length (with_heap h) ≡ 128 = length_put 8 (to_le_bytes w64 h.heap_bytes) (with_format h) (omega arith) ∙ format in
    let base : length (with_base h) ≡ 128 = length_put 16 (to_le_bytes w64 h.base) (with_heap h) (omega arith) ∙ heap in
    let special : length (with_special h) ≡ 128 = length_put 24 (to_le_bytes w64 h.special) (with_base h) (omega arith) ∙ base in
    let hash : length (with_hash h) ≡ 128 = length_put 32 (to_le_bytes w64 h.last_hash) (with_special h) (omega arith) ∙ special in
    let segment : length (with_segment h) ≡ 128 = length_put 72 (to_le_bytes w64 h.first_segment) (with_hash h) (omega arith) ∙ hash in
    let zeros : length (with_zeros h) ≡ 128 = length_put 80 (to_le_bytes w64 0) (with_segment h) (omega arith) ∙ segment in
    record { bare = bare; format = format; heap = heap; base = base; special = special; hash = hash; segment = segment; zeros = zeros }

-- a header that is written has as many bytes
pub written_long : (h : ImageHeader) → length h.carried ≡ 128 → length (written h) ≡ 128
written_long h l = ap length (sym (written_is h)) ∙ (long h l).zeros

-- a number before the later fields is as it was before these
before_zeros : (h : ImageHeader) (w : Width) (from : ℕ) → AreLong h → from + byte_len w ≤ 80 → number w from (with_zeros h) ≡ number w from (with_segment h)
before_zeros h w from l low = number_before w from 80 (to_le_bytes w64 0) (with_segment h) low (omega (arith, l.segment))

before_segment : (h : ImageHeader) (w : Width) (from : ℕ) → AreLong h → from + byte_len w ≤ 72 → number w from (with_zeros h) ≡ number w from (with_hash h)
before_segment h w from l low = before_zeros h w from l (omega arith) ∙ number_before w from 72 (to_le_bytes w64 h.first_segment) (with_hash h) low (omega (arith, l.hash))

before_hash : (h : ImageHeader) (w : Width) (from : ℕ) → AreLong h → from + byte_len w ≤ 32 → number w from (with_zeros h) ≡ number w from (with_special h)
before_hash h w from l low = before_segment h w from l (omega arith) ∙ number_before w from 32 (to_le_bytes w64 h.last_hash) (with_special h) low (omega (arith, l.special))

before_special : (h : ImageHeader) (w : Width) (from : ℕ) → AreLong h → from + byte_len w ≤ 24 → number w from (with_zeros h) ≡ number w from (with_base h)
before_special h w from l low = before_hash h w from l (omega arith) ∙ number_before w from 24 (to_le_bytes w64 h.special) (with_base h) low (omega (arith, l.base))

before_base : (h : ImageHeader) (w : Width) (from : ℕ) → AreLong h → from + byte_len w ≤ 16 → number w from (with_zeros h) ≡ number w from (with_heap h)
before_base h w from l low = before_special h w from l (omega arith) ∙ number_before w from 16 (to_le_bytes w64 h.base) (with_heap h) low (omega (arith, l.heap))

before_heap : (h : ImageHeader) (w : Width) (from : ℕ) → AreLong h → from + byte_len w ≤ 8 → number w from (with_zeros h) ≡ number w from (with_format h)
before_heap h w from l low = before_base h w from l (omega arith) ∙ number_before w from 8 (to_le_bytes w64 h.heap_bytes) (with_format h) low (omega (arith, l.format))

size_kept : (h : ImageHeader) → AreLong h → header_size (with_zeros h) ≡ header_size h.carried
size_kept h l = before_heap h w32 4 l (omega arith) ∙ number_behind w32 4 0 (to_le_bytes w32 h.format) h.carried (omega arith) (omega arith)

-- the fault of a header by its numbers
abbrev fault_by : ℕ → ℕ → ℕ → Option HeaderError
fault_by f s b =
    if not (nat_eq f spur_format) then Some (errors.Format f) else
    if not (nat_eq s header_bytes) then Some (errors.HeaderSize s) else
    if is_bad_base b then Some (errors.Base b) else None

same_fault : (f s b f' s' b' : ℕ) → f ≡ f' → s ≡ s' → b ≡ b' → fault_by f s b ≡ fault_by f' s' b'
same_fault f s b f' s' b' e e' e'' = ap (λ n. fault_by n s b) e ∙ (ap (λ n. fault_by f' n b) e' ∙ ap (λ n. fault_by f' s' n) e'')

no_fault : (f s b : ℕ) → f ≡ spur_format → s ≡ header_bytes → is_bad_base b ≡ false → fault_by f s b ≡ None
no_fault f s b e e' fine = same_fault f s b spur_format header_bytes b e e' refl ∙ ap (λ t. if t then Some (errors.Base b) else None) fine

pub reads_back : ReadsBack
reads_back h widths readable =
    let l : AreLong h = long h widths.whole in
    let bytes : List ℕ = with_zeros h in
    let format_is : number w32 0 bytes ≡ h.format = before_heap h w32 0 l (omega arith) ∙ (number_put w32 0 (to_le_bytes w32 h.format) h.carried refl (omega arith) ∙ from_le_bytes-to_le_bytes_4 h.format widths.format_fits) in
    let heap_is : number w64 8 bytes ≡ h.heap_bytes = before_base h w64 8 l (omega arith) ∙ (number_put w64 8 (to_le_bytes w64 h.heap_bytes) (with_format h) refl (omega (arith, l.format)) ∙ from_le_bytes-to_le_bytes_8 h.heap_bytes widths.heap_fits) in
    let base_is : number w64 16 bytes ≡ h.base = before_special h w64 16 l (omega arith) ∙ (number_put w64 16 (to_le_bytes w64 h.base) (with_heap h) refl (omega (arith, l.heap)) ∙ from_le_bytes-to_le_bytes_8 h.base widths.base_fits) in
    let special_is : number w64 24 bytes ≡ h.special = before_hash h w64 24 l (omega arith) ∙ (number_put w64 24 (to_le_bytes w64 h.special) (with_base h) refl (omega (arith, l.base)) ∙ from_le_bytes-to_le_bytes_8 h.special widths.special_fits) in
    let hash_is : number w64 32 bytes ≡ h.last_hash = before_segment h w64 32 l (omega arith) ∙ (number_put w64 32 (to_le_bytes w64 h.last_hash) (with_special h) refl (omega (arith, l.special)) ∙ from_le_bytes-to_le_bytes_8 h.last_hash widths.hash_fits) in
    let segment_is : number w64 72 bytes ≡ h.first_segment = before_zeros h w64 72 l (omega arith) ∙ (number_put w64 72 (to_le_bytes w64 h.first_segment) (with_hash h) refl (omega (arith, l.hash)) ∙ from_le_bytes-to_le_bytes_8 h.first_segment widths.segment_fits) in
    let same : bytes ≡ written h = written_is h in
    let of_bytes : (fault_of bytes ≡ None) × IsHeaderOf bytes (record h { carried = bytes }) = (
      no_fault (number w32 0 bytes) (header_size bytes) (number w64 16 bytes) (format_is ∙ readable.format_is) (size_kept h l ∙ readable.size_is) (ap is_bad_base base_is ∙ readable.base_is),
      record {
        format_is = sym format_is;
        heap_is = sym heap_is;
        base_is = sym base_is;
        special_is = sym special_is;
        hash_is = sym hash_is;
        segment_is = sym segment_is;
        carried_is = sym (take_all 128 bytes (omega (arith, l.zeros)));
      },
    ) in
    subst (λ (bs : List ℕ). (fault_of bs ≡ None) × IsHeaderOf bs (record h { carried = bs })) same of_bytes

pub carries : Carries
carries h whole =
    let l : AreLong h = long h whole in
    let same : with_zeros h ≡ written h = written_is h in
    let behind_format : (from : ℕ) → 40 ≤ from → drop from (with_hash h) ≡ drop from h.carried = λ from far.
    behind 32 from (to_le_bytes w64 h.last_hash) (with_special h) far (omega (arith, l.special))
    ∙ (behind 24 from (to_le_bytes w64 h.special) (with_base h) (omega arith) (omega (arith, l.base))
    ∙ (behind 16 from (to_le_bytes w64 h.base) (with_heap h) (omega arith) (omega (arith, l.heap))
    ∙ (behind 8 from (to_le_bytes w64 h.heap_bytes) (with_format h) (omega arith) (omega (arith, l.format))
    ∙ behind 0 from (to_le_bytes w32 h.format) h.carried (omega arith) (omega arith)))) in
    let unread : take 32 (drop 40 (with_zeros h)) ≡ take 32 (drop 40 h.carried) =
    part_before 40 32 80 (to_le_bytes w64 0) (with_segment h) (omega arith) (omega (arith, l.segment))
    ∙ (part_before 40 32 72 (to_le_bytes w64 h.first_segment) (with_hash h) (omega arith) (omega (arith, l.hash)) ∙ ap (take 32) (behind_format 40 (omega arith))) in
    let free : number w64 80 (with_zeros h) ≡ 0 = number_put w64 80 (to_le_bytes w64 0) (with_segment h) refl (omega (arith, l.segment)) ∙ from_le_bytes-to_le_bytes_8 0 (omega arith) in
    let last : drop 88 (with_zeros h) ≡ drop 88 h.carried =
    behind 80 88 (to_le_bytes w64 0) (with_segment h) (omega arith) (omega (arith, l.segment))
    ∙ (behind 72 88 (to_le_bytes w64 h.first_segment) (with_hash h) (omega arith) (omega (arith, l.hash)) ∙ behind_format 88 (omega arith)) in
    (ap header_size (sym same) ∙ size_kept h l, ap (λ bs. take 32 (drop 40 bs)) (sym same) ∙ unread, ap (number w64 80) (sym same) ∙ free, ap (drop 88) (sym same) ∙ last)

-- bytes of bytes
bytes_drop : (n : ℕ) (xs : List ℕ) → AreBytes xs → AreBytes (drop n xs)
bytes_drop n xs bytes i = subst (λ (k : ℕ). k < 256) (sym (get_or-drop n xs i 0)) (bytes (n + i))

bytes_take : (n : ℕ) (xs : List ℕ) → AreBytes xs → AreBytes (take n xs)
bytes_take zero xs bytes i = omega arith
bytes_take (suc n) [] bytes i = omega arith
bytes_take (suc n) (x ∷ xs) bytes zero = bytes 0
bytes_take (suc n) (x ∷ xs) bytes (suc i) = bytes_take n xs (λ j. bytes (suc j)) i

-- a number that was read is put where it stands
put_32 : (at n : ℕ) (bytes : List ℕ) → at + 4 ≤ length bytes → AreBytes bytes → n ≡ number w32 at bytes → put at (to_le_bytes w32 n) bytes ≡ bytes
put_32 at n bytes within are is =
    let field : to_le_bytes w32 n ≡ take 4 (drop at bytes) =
    le_bytes_4 (take 4 (drop at bytes)) n (length-take-le 4 (drop at bytes) (omega (arith, length-drop at bytes))) (bytes_take 4 (drop at bytes) (bytes_drop at bytes are)) is in
    ap (λ f. put at f bytes) field ∙ put_same at 4 bytes within

put_64 : (at n : ℕ) (bytes : List ℕ) → at + 8 ≤ length bytes → AreBytes bytes → n ≡ number w64 at bytes → put at (to_le_bytes w64 n) bytes ≡ bytes
put_64 at n bytes within are is =
    let field : to_le_bytes w64 n ≡ take 8 (drop at bytes) =
    le_bytes_8 (take 8 (drop at bytes)) n (length-take-le 8 (drop at bytes) (omega (arith, length-drop at bytes))) (bytes_take 8 (drop at bytes) (bytes_drop at bytes are)) is in
    ap (λ f. put at f bytes) field ∙ put_same at 8 bytes within

pub writes_back : WritesBack
writes_back bytes h whole are of =
    let bare : h.carried ≡ bytes = of.carried_is ∙ take_all 128 bytes (omega arith) in
    let format : with_format h ≡ bytes = ap (put 0 (to_le_bytes w32 h.format)) bare ∙ put_32 0 h.format bytes (omega arith) are of.format_is in
    let heap : with_heap h ≡ bytes = ap (put 8 (to_le_bytes w64 h.heap_bytes)) format ∙ put_64 8 h.heap_bytes bytes (omega arith) are of.heap_is in
    let base : with_base h ≡ bytes = ap (put 16 (to_le_bytes w64 h.base)) heap ∙ put_64 16 h.base bytes (omega arith) are of.base_is in
    let special : with_special h ≡ bytes = ap (put 24 (to_le_bytes w64 h.special)) base ∙ put_64 24 h.special bytes (omega arith) are of.special_is in
    let hash : with_hash h ≡ bytes = ap (put 32 (to_le_bytes w64 h.last_hash)) special ∙ put_64 32 h.last_hash bytes (omega arith) are of.hash_is in
    let segment : with_segment h ≡ bytes = ap (put 72 (to_le_bytes w64 h.first_segment)) hash ∙ put_64 72 h.first_segment bytes (omega arith) are of.segment_is in
    sym (written_is h) ∙ ap (put 80 (to_le_bytes w64 0)) segment

pub tells_of_file : TellsOfFile
tells_of_file file = (
  same_fault _ _ _ (format file) (header_size file) (base file) (front_number w32 0 file (omega arith)) (front_number w32 4 file (omega arith)) (front_number w64 16 file (omega arith)),
  λ h of. record {
    format_is = of.format_is ∙ front_number w32 0 file (omega arith);
    heap_is = of.heap_is ∙ front_number w64 8 file (omega arith);
    base_is = of.base_is ∙ front_number w64 16 file (omega arith);
    special_is = of.special_is ∙ front_number w64 24 file (omega arith);
    hash_is = of.hash_is ∙ front_number w64 32 file (omega arith);
    segment_is = of.segment_is ∙ front_number w64 72 file (omega arith);
    carried_is = of.carried_is ∙ take_all 128 (take 128 file) (omega (arith, length-take 128 file));
  },
)

-- the fields are put one after another
pub written_by : (h : ImageHeader) (one two three four five six seven : List ℕ) → one ≡ put 0 (to_le_bytes w32 h.format) h.carried → two ≡ put 8 (to_le_bytes w64 h.heap_bytes) one
    → three ≡ put 16 (to_le_bytes w64 h.base) two → four ≡ put 24 (to_le_bytes w64 h.special) three → five ≡ put 32 (to_le_bytes w64 h.last_hash) four
    → six ≡ put 72 (to_le_bytes w64 h.first_segment) five → seven ≡ put 80 (to_le_bytes w64 0) six → seven ≡ written h
written_by h one two three four five six seven format heap base special hash segment zeros =
    let to_heap : two ≡ with_heap h = heap ∙ ap (put 8 (to_le_bytes w64 h.heap_bytes)) format in
    let to_base : three ≡ with_base h = base ∙ ap (put 16 (to_le_bytes w64 h.base)) to_heap in
    let to_special : four ≡ with_special h = special ∙ ap (put 24 (to_le_bytes w64 h.special)) to_base in
    let to_hash : five ≡ with_hash h = hash ∙ ap (put 32 (to_le_bytes w64 h.last_hash)) to_special in
    let to_segment : six ≡ with_segment h = segment ∙ ap (put 72 (to_le_bytes w64 h.first_segment)) to_hash in
    zeros ∙ (ap (put 80 (to_le_bytes w64 0)) to_segment ∙ written_is h)
