-- Sessions that have the same packets under some numbers: what happened in one of them may have happened in the other.
use Rattle.std.specs.Prelude.{◌≡◌, ◌<◌, ℕ, IfSome, slice_get}
use Rattle.hk_world.specs.Timelines.{Session, request_number}
use Rattle.hk_world.specs.declared.moment.Act.{Act}

-- a session goes by the same protocol and flags as another one, and begins in the same state
pub record IsAlike (s r : Session) : Type 0 where
  pub protocol : r.protocol ≡ s.protocol
  pub known : r.known ≡ s.known
  pub long : r.long ≡ s.long
  pub initial : r.initial ≡ s.initial

-- two sessions have the same packet under the number that an act names
abbrev pub AgreesOn : Session → Session → Act → Type 0
AgreesOn s r act = IfSome (request_number act) (λ k. slice_get r.requests k ≡ slice_get s.requests k)

-- two sessions have the same packet under each number below one
abbrev pub AgreeBelow : ℕ → Session → Session → Type 0
AgreeBelow n s r = (k : ℕ) → k < n → slice_get r.requests k ≡ slice_get s.requests k
