-- Moments whose numbers are in the ranges of their types.
use Rattle.std.specs.Prelude.{◌<◌, ◌^◌, ⊤}
use Rattle.std.specs.List.{AllByRecursion}
use Rattle.hk_base.specs.Fields.{FitsSignedOctets}
use Rattle.body_fields.specs.Spelling.{AreOctets}
use Rattle.hk_world.specs.declared.moment.Moment.{Moment}
use Rattle.hk_world.specs.declared.moment.Act.{Act}
use Rattle.hk_world.specs.declared.moment.Act.TheVariants.{Accepted, TurnedAway, Started, NotStarted, Executed, Completed, Emitted, Filed}

-- numbers of requests and slots have 64 bits, those of instructions and parameters 32, and a value 128
abbrev pub IsAct : Act → Type 0
IsAct (Accepted k) = k < 2 ^ 64
IsAct (TurnedAway k) = k < 2 ^ 64
IsAct (Started k) = k < 2 ^ 64
IsAct (NotStarted k) = k < 2 ^ 64
IsAct (Executed k number done) = (k < 2 ^ 64) × (number < 2 ^ 32)
IsAct (Completed k refused) = (k < 2 ^ 64) × AllByRecursion (λ n. n < 2 ^ 32) refused
IsAct Emitted = ⊤
IsAct (Filed param slot value) = (param < 2 ^ 32) × (slot < 2 ^ 64) × FitsSignedOctets 16 value

-- a tag has 64 bits, and a packet has octets
pub record IsMoment (m : Moment) : Type 0 where
  pub tag : m.tag < 2 ^ 64
  pub act : IsAct m.act
  pub packet : AreOctets m.packet
