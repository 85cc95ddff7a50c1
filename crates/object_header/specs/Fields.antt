use Rattle.std.specs.Prelude.{ℕ}
use Rattle.object_header.specs.Field.{field_of, with_field}
use Rattle.object_header.specs.declared.format.TheConstants.{SIXTY_FOUR_BIT_INDEXABLE_FORMAT}
use Rattle.object_header.specs.declared.header.TheConstants.{FREE_CLASS}

-- what a header word says, field by field; all but the two bits that are not used
pub record Fields : Type 0 where
  pub count : ℕ
  pub marked : ℕ
  pub hash : ℕ
  pub grey : ℕ
  pub pinned : ℕ
  pub remembered : ℕ
  pub format : ℕ
  pub readonly : ℕ
  pub class : ℕ

-- the places of the fields in the header word: the lowest bit and the number of bits
abbrev pub fields_of : ℕ → Fields
fields_of word = record {
  count = field_of 56 8 word;
  marked = field_of 55 1 word;
  hash = field_of 32 22 word;
  grey = field_of 31 1 word;
  pinned = field_of 30 1 word;
  remembered = field_of 29 1 word;
  format = field_of 24 5 word;
  readonly = field_of 23 1 word;
  class = field_of 0 22 word;
}

-- the fields of a free chunk's header
abbrev pub free_fields : ℕ → Fields
free_fields count = record {
  count = count;
  marked = 0;
  hash = 0;
  grey = 0;
  pinned = 0;
  remembered = 0;
  format = SIXTY_FOUR_BIT_INDEXABLE_FORMAT;
  readonly = 0;
  class = FREE_CLASS;
}

-- the header word of a free chunk with this slot count: the format is that of 64-bit units, and there is no other bit
unfoldable pub free_header : ℕ → ℕ
free_header count = with_field 0 22 (with_field 24 5 (with_field 56 8 0 count) 9) FREE_CLASS
