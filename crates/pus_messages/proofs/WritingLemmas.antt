-- What the calls that write answer, from what joining answers.
use Rattle.std.proofs.Common.{◌≡◌, ℕ, List, subst, Result, Ok, Err}
use Rattle.pus_packet.specs.Joining.{Joins}
use Rattle.pus_packet.specs.declared.header.JoinFault.{JoinFault}
use Rattle.pus_packet.specs.declared.header.JoinFault.TheVariants.{TooLong, Memory}
use Rattle.pus_messages.specs.Outcomes.{Writes}

joined : (octets : List ℕ) (result : Result (List ℕ) JoinFault) → Joins octets result → Writes octets result
joined octets (Ok given) joins = joins
joined octets (Err (TooLong len)) joins = joins
joined octets (Err Memory) joins = tt

-- a message is written where the packet of its body is joined
pub written : (body octets : List ℕ) (packet : List ℕ → List ℕ) (result : Result (List ℕ) JoinFault) → octets ≡ body → Joins (packet octets) result → Writes (packet body) result
written body octets packet result same joins = subst (λ xs. Writes (packet xs) result) same (joined (packet octets) result joins)
