-- The header of a file, and why it is refused.
use Rattle.std.proofs.Common.{◌≡◌, ◌≢◌, ◌⊎◌, inl, inr, ℕ, ◌%◌, ◌≤◌, ◌<◌, List, length, take, drop, arith, refl, subst, sym, ap, ◌∙◌, true, false, Bool, Option, Some, None, Result, Ok, Err, IfErr, IsErrAnd, nat_eq, not, length-take}
use Rattle.std.proofs.lemmas.Bool.{cases_eq}
use Rattle.std.proofs.lemmas.Bool.Decides.{nat_tests}
use Rattle.std.proofs.lemmas.List.{take_all}
use Rattle.std.proofs.lemmas.Option.{same_Some}
use Rattle.std.specs.Option.{IfSome, option_map}
use Rattle.std.specs.Prelude.{if◌then◌else◌}
use Rattle.spur_io.specs.Store.{FileMap}
use Rattle.spur_graph.specs.declared.limits.Limits.{Limits}
use Rattle.spur_graph.specs.ImageFile.{header_bytes, spur_format, format, header_size, base}
use Rattle.spur_graph.specs.ImageCauses.{NoHeader, OtherFormat, OtherHeader, BadBase, Bad, FirstCause, Short, Format, HeaderSize, Base, greatest_base}
use Rattle.image_header.specs.declared.header.ImageHeader.{ImageHeader}
use Rattle.image_header.specs.declared.header.HeaderError.{HeaderError}
use Rattle.image_header.specs.declared.header.HeaderError.TheVariants as header
use Rattle.image_header.specs.Headers.{IsHeaderOf, fault_of, is_bad_base}
use Rattle.image_header.proofs.Headers.{tells_of_file}
use Rattle.image_file.specs.Told.{Tells}
use Rattle.image_file.specs.Passed.{Passes}
use Rattle.image_file.specs.Errors.{IsCauseOf, IsSoundHeader, header_error}
use Rattle.image_file.proofs.Rows.{passes_none, passes_next, first_cause, least_zero}

-- what is told of a store is told of its file
pub told_file : (told : Option FileMap) (name file : List ℕ) (P : List ℕ → Type 0) → Tells told name file → IfSome told (λ store. P (store name)) → P file
told_file None name file P is holds = cc
told_file (Some store) name file P is holds = subst P (same_Some (store name) file is) holds

-- what holds of the file of a store holds of the store
pub file_told : (told : Option FileMap) (name : List ℕ) (P : List ℕ → Type 0) → ((file : List ℕ) → Tells told name file → P file) → IfSome told (λ store. P (store name))
file_told None name P holds = tt
file_told (Some store) name P holds = holds (store name) refl

-- a store that tells the same as before tells the same file
pub tells_same : (told later : Option FileMap) (name file : List ℕ) → later ≡ told → Tells told name file → Tells later name file
tells_same told later name file same tells = ap (option_map (λ (store : FileMap). store name)) same ∙ tells

flips : (b : Bool) → b ≡ true → not b ≡ true → ⊥
flips true on is = cc
flips false on is = cc

differs : (a b : ℕ) → not (nat_eq a b) ≡ true → a ≢ b
differs a b is same = let on : nat_eq a b ≡ true = grind (arith, nat_tests) in flips (nat_eq a b) on is

equals : (a b : ℕ) → not (nat_eq a b) ≡ false → a ≡ b
equals a b is = grind (arith, nat_tests)

bad_base : (b : ℕ) → is_bad_base b ≡ true → (b % 8 ≢ 0) ⊎ (greatest_base < b)
bad_base b is = elim (cases_eq (b % 8) 0) [ inl zero_ ↦ inr (grind (arith, nat_tests)) | inr other ↦ inl other ]

good_base : (b : ℕ) → is_bad_base b ≡ false → (b % 8 ≡ 0) × (b ≤ greatest_base)
good_base b is = (grind (arith, nat_tests), grind (arith, nat_tests))

-- three tests, one after another
abbrev three : {A : Type 0} → Bool → Bool → Bool → A → A → A → Option A
three a b c x y z = if a then Some x else if b then Some y else if c then Some z else None

three_some : {A : Type 0} (a b c : Bool) (x y z e : A) → three a b c x y z ≡ Some e
    → ((a ≡ true) × (e ≡ x)) ⊎ (((a ≡ false) × (b ≡ true) × (e ≡ y)) ⊎ ((a ≡ false) × (b ≡ false) × (c ≡ true) × (e ≡ z)))
three_some true b c x y z e is = inl (refl, cc)
three_some false true c x y z e is = inr (inl (refl, refl, cc))
three_some false false true x y z e is = inr (inr (refl, refl, refl, cc))
three_some false false false x y z e is = cc

three_none : {A : Type 0} (a b c : Bool) (x y z : A) → three a b c x y z ≡ None → (a ≡ false) × (b ≡ false) × (c ≡ false)
three_none true b c x y z is = cc
three_none false true c x y z is = cc
three_none false false true x y z is = cc
three_none false false false x y z is = (refl, refl, refl)

-- the first rows
passes_header : (file : List ℕ) (limits : Limits) → header_bytes ≤ length file → Passes file limits 1
passes_header file limits long = passes_next file limits NoHeader 0 refl (passes_none file limits) (λ n bad. absurd (omega (arith, long, bad)))

passes_format : (file : List ℕ) (limits : Limits) → header_bytes ≤ length file → not (nat_eq (format file) spur_format) ≡ false → Passes file limits 2
passes_format file limits long is = passes_next file limits OtherFormat 1 refl (passes_header file limits long) (λ n bad. bad (equals (format file) spur_format is))

passes_size : (file : List ℕ) (limits : Limits) → header_bytes ≤ length file → not (nat_eq (format file) spur_format) ≡ false → not (nat_eq (header_size file) header_bytes) ≡ false → Passes file limits 3
passes_size file limits long is sized = passes_next file limits OtherHeader 2 refl (passes_format file limits long is) (λ n bad. bad (equals (header_size file) header_bytes sized))

-- a file with no fault in its header
pub passes_front : (file : List ℕ) (limits : Limits) → header_bytes ≤ length file → fault_of file ≡ None → Passes file limits 4
passes_front file limits long none =
    let off = three_none (not (nat_eq (format file) spur_format)) (not (nat_eq (header_size file) header_bytes)) (is_bad_base (base file)) (header.Format (format file)) (header.HeaderSize (header_size file)) (header.Base (base file)) none in
    let good = good_base (base file) off.2 in
    passes_next file limits BadBase 3 refl (passes_size file limits long off.0 off.1) (λ n bad. elim bad [ inl unaligned ↦ unaligned good.0 | inr high ↦ absurd (omega (arith, good.1, high)) ])

-- a file with a fault in its header
pub front_refused : (file : List ℕ) (limits : Limits) (e : HeaderError) → header_bytes ≤ length file → fault_of file ≡ Some e → IsCauseOf file limits (header_error e)
front_refused file limits e long is =
    let a : Bool = not (nat_eq (format file) spur_format) in
    let b : Bool = not (nat_eq (header_size file) header_bytes) in
    let c : Bool = is_bad_base (base file) in
    let Is : HeaderError → Type 0 = λ x. IsCauseOf file limits (header_error x) in
    elim (three_some a b c (header.Format (format file)) (header.HeaderSize (header_size file)) (header.Base (base file)) e is) [
      | inl first ↦ subst Is (sym first.1) (first_cause file limits (Format (format file)) OtherFormat 0 1 refl (passes_header file limits long)
          (least_zero (Bad file limits OtherFormat) (differs (format file) spur_format first.0)) refl)
      | inr others ↦ elim others [
        | inl second ↦ subst Is (sym second.2) (first_cause file limits (HeaderSize (header_size file)) OtherHeader 0 2 refl (passes_format file limits long second.0)
            (least_zero (Bad file limits OtherHeader) (differs (header_size file) header_bytes second.1)) refl)
        | inr third ↦ subst Is (sym third.3) (first_cause file limits (Base (base file)) BadBase 0 3 refl (passes_size file limits long third.0 third.1)
            (least_zero (Bad file limits BadBase) (bad_base (base file) third.2)) refl)
      ]
    ]

-- bytes that were read whole are the first of the file
pub front_is : (file front : List ℕ) (count : ℕ) → length front ≡ 128 → 128 ≤ count → take count front ≡ take (length front) (drop 0 file) → (front ≡ take header_bytes file) × (header_bytes ≤ length file)
front_is file front count size whole read =
    let all : front ≡ take 128 file = sym (take_all count front (omega (arith, size, whole))) ∙ (read ∙ ap (λ n. take n file) size) in
    (all, omega (arith, size, ap length all, length-take 128 file))

-- a file that ends within its header
pub front_short : (file front : List ℕ) (limits : Limits) (count : ℕ) → length front ≡ 128 → count < 128 → take count front ≡ take (length front) (drop 0 file) → FirstCause file limits (Short count)
front_short file front limits count size short read =
    let cut : length file ≡ count = omega (arith, size, short, ap length read, length-take count front, length-take (length front) file) in
    first_cause file limits (Short count) NoHeader 0 0 refl (passes_none file limits) (least_zero (Bad file limits NoHeader) (omega (arith, cut, short))) (ap Short (sym cut))

-- what the bytes of a header tell, the file tells
pub header_of_file : (file front : List ℕ) (h : ImageHeader) → front ≡ take header_bytes file → IsHeaderOf front h → IsHeaderOf file h
header_of_file file front h is told = (tells_of_file file).1 h (subst (λ (bs : List ℕ). IsHeaderOf bs h) is told)

pub fault_of_file : (file front : List ℕ) (o : Option HeaderError) → front ≡ take header_bytes file → fault_of front ≡ o → fault_of file ≡ o
fault_of_file file front o is fault = sym (tells_of_file file).0 ∙ (sym (ap fault_of is) ∙ fault)

-- a header that was read is sound
pub sound_header : (front : List ℕ) (h : ImageHeader) → length front ≡ 128 → IsHeaderOf front h → fault_of front ≡ None → IsSoundHeader h
sound_header front h size told none =
    let off = three_none (not (nat_eq (format front) spur_format)) (not (nat_eq (header_size front) header_bytes)) (is_bad_base (base front)) (header.Format (format front)) (header.HeaderSize (header_size front)) (header.Base (base front)) none in
    let good = good_base (base front) off.2 in
    let all : h.carried ≡ front = told.carried_is ∙ take_all header_bytes front (omega (arith, size)) in
    record {
      carried = record {
        long = ap length all ∙ size;
        spur = ap format all ∙ equals (format front) spur_format off.0;
        size = ap header_size all ∙ equals (header_size front) header_bytes off.1;
        aligned = ap (λ bs. base bs % 8) all ∙ good.0;
        low = omega (arith, ap base all, good.1);
      };
      base_is = told.base_is ∙ sym (ap base all);
      aligned = ap (λ n. n % 8) told.base_is ∙ good.0;
      low = omega (arith, told.base_is, good.1);
    }

-- an answer that hands on an error
pub error_handed : {A E : Type 0} (result : Result A E) (error : E) (Q : E → Type 0) → IsErrAnd result (λ e. e ≡ error) → Q error → IfErr result Q
error_handed (Ok x) error Q handed holds = tt
error_handed (Err e) error Q handed holds = subst Q (sym handed) holds
