use Rattle.std.specs.Prelude.{ℕ, ◌+◌, ◌-◌, ◌*◌, ◌/◌, if◌then◌else◌, nat_lt, Bool}

-- the bytes of a unit: 64, 32 and 16 bits, or a byte, also in a method; 0 for the formats without units
abbrev pub unit_bytes_of : ℕ → ℕ
unit_bytes_of f =
    if nat_lt f 9 then 0 else
    if nat_lt f 10 then 8 else
    if nat_lt f 12 then 4 else
    if nat_lt f 16 then 2 else 1

-- the units at the end of the last slot that are not used: how far the format is above the first of its unit size
abbrev pub unused_of : ℕ → ℕ
unused_of f =
    if nat_lt f 10 then 0 else
    if nat_lt f 12 then f - 10 else
    if nat_lt f 16 then f - 12 else
    if nat_lt f 24 then f - 16 else f - 24

-- a compiled method, whose literals stand before its bytes
abbrev pub is_method : ℕ → Bool
is_method f = nat_lt 23 f

-- the least number of slots that has room for the unused units, and for a method's slot 0
abbrev pub slot_need_of : ℕ → ℕ
slot_need_of f = (unused_of f * unit_bytes_of f + 7) / 8 + (if is_method f then 1 else 0)

-- how many of `slots` slots are pointers: all, none, or in a method the `literals` literals and slot 0
abbrev pub pointer_slots_of : ℕ → ℕ → ℕ → ℕ
pointer_slots_of f slots literals =
    if nat_lt f 6 then slots else
    if nat_lt f 24 then 0 else literals + 1
