-- Where the file of a name stands, and what a change there does to the bytes of each name.
use Rattle.std.proofs.Common.{◌≡◌, ◌≢◌, ◌<◌, ◌≤◌, ◌+◌, ℕ, suc, zero, Bool, true, false, cond, Some, None, Err, List, [], ◌∷◌, ◌++◌, length, get_or, set, not, nat_eq, nat_lt, refl, sym, ◌∙◌, ap, subst, arith, length-append}
use Rattle.std.specs.List.{position, position_or_len}
use Rattle.std.specs.String.{string_bytes}
use Rattle.std.specs.Cmp.Lexicographic.{pointwise}
use Rattle.std.specs.Str.{bytes_eq}
use Rattle.std.proofs.lemmas.Bool.{lt-ltb, ltb-false, false≢true}
use Rattle.std.proofs.lemmas.Bool.Decides.{nat_tests}
use Rattle.std.proofs.lemmas.List.{append-nil}
use Rattle.std.proofs.lemmas.List.Folds.{position_or_len_push}
use Rattle.std.proofs.lemmas.List.Sums.{prefix_len-le-length}
use Rattle.std.proofs.lemmas.List.Quantifiers.{position-Some}
use Rattle.std.proofs.lemmas.Slice.Eq.{bytes_eq-Decides}
use Rattle.spur_io.specs.Stored.{is_named, stored}
use Rattle.spur_io.specs.Store.{FileMap, ChangesOnly, Appends}
use Rattle.spur_io.specs.declared.files.FileFault.{FileFault}
use Rattle.spur_io.specs.declared.stored_files.StoredFile.{StoredFile}

-- a file has no second name
other_name : (f : StoredFile) (name other : List ℕ) → is_named name f ≡ true → other ≢ name → is_named other f ≡ false
other_name f name other is ne = grind (arith, nat_tests, bytes_eq-Decides (string_bytes f.name) name, bytes_eq-Decides (string_bytes f.name) other)

-- a file in the place of one that has not this name either changes nothing for the name
stored_past : (files : List StoredFile) (i : ℕ) (d f : StoredFile) (name : List ℕ) → is_named name (get_or files i d) ≡ false → is_named name f ≡ false → stored (set files i f) name ≡ stored files name
stored_past [] i d f name was is = refl
stored_past (x ∷ files) zero d f name was is = rw (was, is) refl
stored_past (x ∷ files) (suc i) d f name was is = rw (stored_past files i d f name was is) refl

-- the bytes of the first file of the name
stored_at : (files : List StoredFile) (i : ℕ) (d : StoredFile) (name : List ℕ) → i < length files → ((k : ℕ) → k < i → is_named name (get_or files k d) ≡ false) → is_named name (get_or files i d) ≡ true
    → stored files name ≡ (get_or files i d).bytes.items
stored_at [] i d name lt before is = absurd (omega arith)
stored_at (x ∷ files) zero d name lt before is = rw is refl
stored_at (x ∷ files) (suc i) d name lt before is =
    let first : is_named name x ≡ false = before 0 (omega arith) in
    rw first (stored_at files i d name (omega arith) (λ k below. before (suc k) (omega arith)) is)

-- the bytes after a change of the first file of the name
stored_set : (files : List StoredFile) (i : ℕ) (d f : StoredFile) (name : List ℕ) → i < length files → ((k : ℕ) → k < i → is_named name (get_or files k d) ≡ false) → is_named name f ≡ true
    → stored (set files i f) name ≡ f.bytes.items
stored_set [] i d f name lt before is = absurd (omega arith)
stored_set (x ∷ files) zero d f name lt before is = rw is refl
stored_set (x ∷ files) (suc i) d f name lt before is =
    let first : is_named name x ≡ false = before 0 (omega arith) in
    rw first (stored_set files i d f name (omega arith) (λ k below. before (suc k) (omega arith)) is)

-- no file of the name
stored_none_by : (b : Bool) (n len : ℕ) (bytes rest : List ℕ) → cond (not b) (1 + n) 0 ≡ suc len → (n ≡ len → rest ≡ []) → cond b bytes rest ≡ []
stored_none_by true n len bytes rest none empty = absurd (omega arith)
stored_none_by false n len bytes rest none empty = empty (omega arith)

stored_none : (files : List StoredFile) (name : List ℕ) → position_or_len (is_named name) files ≡ length files → stored files name ≡ []
stored_none [] name none = refl
stored_none (x ∷ files) name none = stored_none_by (is_named name x) (position_or_len (is_named name) files) (length files) x.bytes.items (stored files name) none (stored_none files name)

-- an empty file at the end changes the bytes of no name
empty_either : (b : Bool) (bytes : List ℕ) → bytes ≡ [] → cond b bytes [] ≡ []
empty_either true bytes none = none
empty_either false bytes none = refl

pub stored_push : (files : List StoredFile) (f : StoredFile) (name : List ℕ) → f.bytes.items ≡ [] → stored (files ++ f ∷ []) name ≡ stored files name
stored_push [] f name none = empty_either (is_named name f) f.bytes.items none
stored_push (x ∷ files) f name none = rw (stored_push files f name none) refl

-- where nothing passes, the search came to the end
absent_by : (b : Bool) (n m : ℕ) → nat_lt n m ≡ b → n ≤ m → cond b (Some n) None ≡ None → n ≡ m
absent_by true n m less le none = cc
absent_by false n m less le none = omega (arith, ltb-false n m less)

absent : {X : Type 0} (p : X → Bool) (xs : List X) → position p xs ≡ None → position_or_len p xs ≡ length xs
absent p xs none = absent_by (nat_lt (position_or_len p xs) (length xs)) (position_or_len p xs) (length xs) refl (prefix_len-le-length (λ x. not (p x)) xs) none

-- what is pushed behind files without its name is the first of its name
found_by : (n m k : ℕ) → n ≡ k → k < m → cond (nat_lt n m) (Some n) None ≡ Some k
found_by n m k same less = rw same (rw (lt-ltb k m less) refl)

either_end : (b : Bool) (n m : ℕ) → n ≡ m → cond b (m + 0) n ≡ m
either_end true n m same = omega arith
either_end false n m same = same

pub position-push : {X : Type 0} (p : X → Bool) (xs : List X) (x : X) → position p xs ≡ None → p x ≡ true → position p (xs ++ x ∷ []) ≡ Some (length xs)
position-push p xs x none is =
    let end : position_or_len p (xs ++ x ∷ []) ≡ length xs =
    position_or_len_push p xs x ∙ rw is (either_end (nat_eq (position_or_len p xs) (length xs)) (position_or_len p xs) (length xs) (absent p xs none)) in
    let less : length xs < length (xs ++ x ∷ []) = omega (arith, length-append xs (x ∷ [])) in
    found_by (position_or_len p (xs ++ x ∷ [])) (length (xs ++ x ∷ [])) (length xs) end less

pub stored_missing : (files : List StoredFile) (name : List ℕ) → position (is_named name) files ≡ None → stored files name ≡ []
stored_missing files name none = stored_none files name (absent (is_named name) files none)

pub stored_found : (files : List StoredFile) (i : ℕ) (d : StoredFile) (name : List ℕ) → position (is_named name) files ≡ Some i → d ≡ get_or files i d → d.bytes.items ≡ stored files name
stored_found files i d name is here =
    let at = position-Some (is_named name) files i d is in
    ap (λ f. f.bytes.items) here ∙ sym (stored_at files i d name at.0 at.2 at.1)

-- the file of the name was changed, by a step, and has its name still
pub changes_only : (before files : List StoredFile) (i : ℕ) (d f : StoredFile) (name : List ℕ) (step : List ℕ → List ℕ → Type 0) → ((n : List ℕ) → stored files n ≡ stored before n) → position (is_named name) files ≡ Some i
    → d ≡ get_or files i d → string_bytes f.name ≡ string_bytes d.name → step d.bytes.items f.bytes.items → ChangesOnly (stored before) (stored (set files i f)) name step
changes_only before files i d f name step alike is here same done =
    let at = position-Some (is_named name) files i d is in
    let old_name : is_named name d ≡ true = ap (is_named name) here ∙ at.1 in
    let new_name : is_named name f ≡ true = ap (λ bytes. pointwise nat_eq bytes name) same ∙ old_name in
    let was : d.bytes.items ≡ stored before name = stored_found files i d name is here ∙ alike name in
    let now : f.bytes.items ≡ stored (set files i f) name = sym (stored_set files i d f name at.0 at.2 new_name) in
    let from_old : step (stored before name) f.bytes.items = subst (λ bytes. step bytes f.bytes.items) was done in
    record {
      changed = subst (λ bytes. step (stored before name) bytes) now from_old;
      others = λ other ne. stored_past files i d f other (other_name (get_or files i d) name other at.1 ne) (other_name f name other new_name ne) ∙ alike other;
    }

-- a step that keeps the bytes changes those of no name
kept_by : (b : Bool) (old new : FileMap) (name other : List ℕ) → bytes_eq other name ≡ b → ChangesOnly old new name (λ was now. now ≡ was) → new other ≡ old other
kept_by true old new name other is only =
    let same : other ≡ name = (bytes_eq-Decides other name).0 is in
    rw same only.changed
kept_by false old new name other is only = only.others other (λ same. false≢true (sym is ∙ (bytes_eq-Decides other name).1 same))

pub all_kept : (old new : FileMap) (name : List ℕ) → ChangesOnly old new name (λ was now. now ≡ was) → (other : List ℕ) → new other ≡ old other
all_kept old new name only other = kept_by (bytes_eq other name) old new name other refl only

-- where an append added nothing
pub adds_none : (old new : FileMap) (name bytes : List ℕ) (fault : FileFault) → ((n : List ℕ) → new n ≡ old n) → ChangesOnly old new name (Appends bytes (Err fault))
adds_none old new name bytes fault same = record { changed = (0, same name ∙ sym (append-nil (old name))); others = λ other ne. same other }
