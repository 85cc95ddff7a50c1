-- What a class says of its instances. Slot 2 of a class is a SmallInteger: its low 16 bits are the number of fixed slots, and the next 5 the format.
use Rattle.std.specs.Prelude.{ℕ, ℤ, pos, ◌+◌, ◌-◌, ◌*◌, ◌/◌, ◌^◌, Bool, true, false, if◌then◌else◌, not, ◌&&◌, ◌||◌, nat_eq, nat_le, nat_lt, replicate, Option, Some, None}
use Rattle.std.specs.Option.{is_some, unwrap_or}
use Rattle.std.specs.List.{slice_index_or}
use Rattle.std.specs.FinMap.{get}
use Rattle.object_header.specs.Formats.{unit_bytes_of, unused_of, pointer_slots_of}
use Rattle.object_header.specs.Head.{whole_units}
use Rattle.spur_graph.specs.declared.answer.Value.{Value}
use Rattle.spur_graph.specs.declared.answer.Value.TheVariants.{Int, Char, Float, Ref}
use Rattle.spur_graph.specs.Value.{low_bits, same_value}
use Rattle.spur_graph.specs.Node.{Node}
use Rattle.spur_graph.specs.Graph.{Graph, node}

-- a fresh object of so many slots: the pointers name nil, and the units are 0
abbrev pub fresh_node : (nil class format slots : ℕ) → Node
fresh_node nil class format slots = record {
  class = class;
  hash = 0;
  format = format;
  pointers = replicate (pointer_slots_of format slots 0) (Ref nil);
  units = replicate (whole_units format slots (pointer_slots_of format slots 0) - unused_of format) 0;
  pinned = false;
  readonly = false;
}

-- the class table has this name there
abbrev pub is_entry : ℕ → Option Value → Bool
is_entry a None = false
is_entry a (Some v) = same_value v (Ref a)

-- the name is that of an entered class: it has a hash, and the class table has it there
abbrev pub has_entered : Graph → ℕ → Bool
has_entered g a = not (nat_eq (node g a).hash 0) && is_entry a (get g.classes (node g a).hash)

-- the number of a SmallInteger
abbrev pub number_of : Value → Option ℤ
number_of (Int n) = Some n
number_of (Char c) = None
number_of (Float w) = None
number_of (Ref a) = None

-- what slot 2 of a class says, if it is there and a SmallInteger
abbrev pub layout_of : Node → Option ℤ
layout_of c = number_of (slice_index_or c.pointers 2 (Ref 0))

-- the fixed slots, and the format of an instance without unused units
abbrev pub fixed_slots : ℤ → ℕ
fixed_slots layout = low_bits 16 layout

abbrev pub instance_format : ℤ → ℕ
instance_format layout = low_bits 21 layout / 2 ^ 16

-- the formats that instances can have
abbrev pub is_instance_format : ℕ → Bool
is_instance_format t = nat_lt t 6 || nat_eq t 9 || nat_eq t 10 || nat_eq t 12 || nat_eq t 16

-- instances have units
abbrev pub has_units : ℕ → Bool
has_units t = nat_le 9 t

-- instances have no fixed slots
abbrev pub is_unfixed : ℕ → Bool
is_unfixed t = nat_eq t 0 || has_units t

-- instances have fixed slots alone, or none, so that no size is asked
abbrev pub is_sizeless : ℕ → Bool
is_sizeless t = nat_eq t 0 || nat_eq t 1 || nat_eq t 5

abbrev pub is_layout : ℤ → Bool
is_layout layout = is_instance_format (instance_format layout) && (not (is_unfixed (instance_format layout)) || nat_eq (fixed_slots layout) 0)

-- what slot 2 of a class says, where it has instances
abbrev pub layout_in : Node → ℤ
layout_in c = unwrap_or (layout_of c) (pos 0)

-- an entered class whose slot 2 says what its instances are
abbrev pub has_instances : Graph → ℕ → Bool
has_instances g a = has_entered g a && is_some (layout_of (node g a)) && is_layout (layout_in (node g a))

-- the greatest size that can be asked
abbrev pub most_size : ℕ
most_size = 134217728

-- an instance can have this size
abbrev pub is_size : ℤ → ℕ → Bool
is_size layout n = nat_le n most_size && (not (is_sizeless (instance_format layout)) || nat_eq n 0)

-- the units of a slot
abbrev pub per_slot : ℕ → ℕ
per_slot t = 8 / unit_bytes_of t

-- the slots of an instance of a size: the fixed ones and as many more, or as many as have room for so many units
abbrev pub slots_for : ℤ → ℕ → ℕ
slots_for layout n =
    if has_units (instance_format layout)
    then (n + per_slot (instance_format layout) - 1) / per_slot (instance_format layout)
    else fixed_slots layout + n

-- the format of an instance of a size, which tells the unused units of the last slot
abbrev pub format_for : ℤ → ℕ → ℕ
format_for layout n =
    if has_units (instance_format layout)
    then instance_format layout + (per_slot (instance_format layout) * slots_for layout n - n)
    else instance_format layout

-- a fresh instance of a class, of this size
abbrev pub instance : Graph → Node → ℕ → Node
instance g c n = fresh_node g.nil c.hash (format_for (layout_in c) n) (slots_for (layout_in c) n)
