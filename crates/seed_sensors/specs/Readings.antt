-- What a simulated sensor reads.
use Rattle.std.specs.Prelude.{ℕ, min, ◌-◌, ◌%◌, ◌^◌, List, length, ℤ, pos, ◌-ℤ◌, slice_get, unwrap_or}
use Rattle.rand_pcg.specs.Lcg.{started, increment_of}
use Rattle.rand_pcg.specs.Pcg.{multiplier_64, pcg32}
use Rattle.hk_base.specs.declared.types.Form.{Form}
use Rattle.hk_base.specs.declared.types.Form.TheVariants.{Unsigned, Signed, Enumerated, Boolean}
use Rattle.hk_base.specs.declared.types.Param.{Param}

-- the first word of the generator that has the slot as its state and the parameter as its stream
unfoldable pub first_word : ℕ → ℕ → ℕ
first_word slot id = (pcg32 (started 64 multiplier_64 slot (increment_of 64 id))).0

-- at most 32 bits of a word are used
abbrev pub used_bits : ℕ → ℕ
used_bits bits = min bits 32

-- the value that a word picks of some values
abbrev pub picked : List ℤ → ℕ → ℤ
picked values w = unwrap_or (slice_get values (w % length values)) (pos 0)

-- the value of a form with so many bits that a word makes
abbrev pub value_of_word : Form → ℕ → ℕ → ℤ
value_of_word Unsigned bits w = pos (w % 2 ^ used_bits bits)
value_of_word Signed bits w = pos (w % 2 ^ used_bits bits) -ℤ pos (2 ^ (used_bits bits - 1))
value_of_word (Enumerated values) bits w = picked values w
value_of_word Boolean bits w = pos (w % 2)

-- what is read of a parameter at a slot
unfoldable pub reading : Param → ℕ → ℤ
reading p slot = value_of_word p.form p.bits (first_word slot p.id)
