-- Writing a payload from left to right.
use Rattle.std.specs.Prelude.{◌≡◌, ℕ, ◌^◌, ◌<◌, ◌≤◌, ⊤, List, [], ◌∷◌, ◌++◌, length, take, drop, ℤ, pos, negsuc, suc, true, false}
use Rattle.std.specs.Option.{option_map_or}
use Rattle.hk_base.specs.TailoringParts.{TailoringParts}
use Rattle.hk_base.specs.Fields.{digits}
use Rattle.hk_base.specs.Parameters.{parameter, fits}
use Rattle.hk_base.specs.Payload.{Group, bits_of, payload_bits}
use Rattle.sample_slots.specs.declared.packing.Pending.{Pending}

-- fewer bits wait than an octet has
pub record IsPending (p : Pending) : Type 0 where
  pub few : p.count < 8
  pub small : p.held < 2 ^ p.count

-- the bits that stand in octets, and those that wait
abbrev pub written : List ℕ → Pending → List ℕ
written octets p = bits_of octets ++ digits 2 p.count p.held

-- the old octets stand in front of the new ones
abbrev pub Keeps : List ℕ → List ℕ → Type 0
Keeps old new = (behind : List ℕ) × (new ≡ old ++ behind)

-- so many bits hold a value, in two's complement where it is below 0
abbrev pub IsHeld : ℕ → ℤ → Type 0
IsHeld bits (pos n) = n < 2 ^ bits
IsHeld bits (negsuc n) = suc n ≤ 2 ^ bits

-- each value fits the parameter with its ID
abbrev pub AreFitting : TailoringParts → List ℕ → List ℤ → Type 0
AreFitting t [] [] = ⊤
AreFitting t (id ∷ ids) (v ∷ vs) = (option_map_or (λ p. fits p v) (parameter t id) false ≡ true) × AreFitting t ids vs
AreFitting t [] (v ∷ vs) = ⊥
AreFitting t (id ∷ ids) [] = ⊥

-- the values at the front fit the parameters of groups
abbrev pub GroupsFit : TailoringParts → List Group → List ℤ → Type 0
GroupsFit t [] values = ⊤
GroupsFit t (g ∷ gs) values = AreFitting t g.params (take (length g.params) values) × GroupsFit t gs (drop (length g.params) values)

-- Writing took octets and values to later ones, and of all these groups some are left: whatever groups follow, the bits of
-- the whole stay the same, and values that fit the whole fit what is left of it.
pub record Writes (t : TailoringParts) (all left : List Group) (old : List ℕ) (values : List ℤ) (new : List ℕ) (rest : List ℤ) : Type 0 where
  pub bits : (more : List Group) → bits_of new ++ payload_bits t (left ++ more) rest ≡ bits_of old ++ payload_bits t (all ++ more) values
  pub fit : (more : List Group) → GroupsFit t (all ++ more) values → GroupsFit t (left ++ more) rest
