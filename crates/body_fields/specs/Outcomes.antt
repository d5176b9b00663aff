-- What a call on a body answers, against what a definition gives. Want of memory alone is free.
use Rattle.std.specs.Prelude.{◌≡◌, ℕ, Option, Some, None, Result, Ok, Err, List, ◌++◌, take, length}
use Rattle.body_fields.specs.declared.fault.BodyFault.{BodyFault}
use Rattle.body_fields.specs.declared.fault.BodyFault.TheVariants.{Memory}

-- a fault is the one that is given
abbrev pub Fails : {Y : Type 0} → BodyFault → Result Y BodyFault → Type 0
Fails fault given = ¬ (fault ≡ Memory) → given ≡ Err fault

-- a result, as a view shows it, is what is given
abbrev pub Gives : {X Y : Type 0} → (X → Y) → Result X BodyFault → Result Y BodyFault → Type 0
Gives view (Ok x) given = given ≡ Ok (view x)
Gives view (Err fault) given = Fails fault given

-- Ok puts the octets last, and a failure keeps what was there in front
abbrev pub Appends : {X E : Type 0} → List ℕ → Result X E → List ℕ → List ℕ → Type 0
Appends before (Ok x) after octets = after ≡ before ++ octets
Appends before (Err e) after octets = take (length before) after ≡ before

-- a test answers the fault that is there, and Ok where there is none
abbrev pub Finds : {X : Type 0} → Result X BodyFault → Option BodyFault → Type 0
Finds (Ok x) found = found ≡ None
Finds (Err fault) found = found ≡ Some fault
