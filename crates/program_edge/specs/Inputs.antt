-- A whole input, up to a limit.
use Rattle.std.specs.Prelude.{◌≡◌, ⊤, ℕ, ◌≤◌, nat_lt, true, false, List, [], ◌++◌, length, Option, Some, None, Result, Ok, Err, IfSome, IsSome}
use Rattle.program_edge.specs.declared.fault.RunFault.{RunFault}

-- the most octets that a read is asked for
abbrev pub piece_octets : ℕ
piece_octets = 65536

-- the octets of an input came whole, or it is found to be longer than so many, or reading failed
abbrev pub IsWhole : ℕ → List ℕ → Result (Option (List ℕ)) RunFault → Type 0
IsWhole most octets (Ok (Some found)) = (found ≡ octets) × (nat_lt most (length octets) ≡ false)
IsWhole most octets (Ok None) = nat_lt most (length octets) ≡ true
IsWhole most octets (Err fault) = ⊤

-- where the shelf told what it had left: what it has now is an end of that, and it gave at most so many octets
abbrev pub TakesAtMost : ℕ → Option (List ℕ) → Option (List ℕ) → Type 0
TakesAtMost most before now = IfSome before (λ was. IfSome now (λ left. (given : List ℕ) × (was ≡ given ++ left) × (length given ≤ most)) × IsSome now)

-- where the shelf told what it had left: nothing is left
abbrev pub IsReadOut : Option (List ℕ) → Option (List ℕ) → Type 0
IsReadOut before now = IfSome before (λ was. now ≡ Some [])

-- an input that was found whole was read to its end
abbrev pub IsReadOutIfWhole : Result (Option (List ℕ)) RunFault → Option (List ℕ) → Option (List ℕ) → Type 0
IsReadOutIfWhole (Ok (Some found)) before now = IsReadOut before now
IsReadOutIfWhole result before now = ⊤

-- where a reader answered that nothing comes any more: its input was read to its end
abbrev pub IsReadOutAtEnd : {X : Type 0} {E : Type 0} → Result (Option X) E → Option (List ℕ) → Option (List ℕ) → Type 0
IsReadOutAtEnd (Ok None) before now = IsReadOut before now
IsReadOutAtEnd result before now = ⊤
