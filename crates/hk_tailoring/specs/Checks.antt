-- Checks of a document in their order: its fault is that of the first check that isn't met.
use Rattle.std.specs.Prelude.{◌≡◌, List, [], ◌∷◌, Bool, Option, Some, None, Result, Ok, Err, if◌then◌else◌}
use Rattle.hk_tailoring.specs.declared.fault.TailoringFault.{TailoringFault}
use Rattle.hk_tailoring.specs.declared.fault.TailoringFault.TheVariants.{Memory}

-- a fault, and whether the document meets the condition that keeps it away
pub record Check : Type 0 where
  pub fault : TailoringFault
  pub met : Bool

-- a check
abbrev pub check : TailoringFault → Bool → Check
check fault met = record { fault = fault; met = met }

-- the fault of the first check that isn't met
abbrev pub first_fault : List Check → Option TailoringFault
first_fault [] = None
first_fault (c ∷ cs) = if c.met then first_fault cs else Some c.fault

-- a fault that was made, unless there was no memory for its text
abbrev pub IsUnlessMemory : TailoringFault → TailoringFault → Type 0
IsUnlessMemory made fault = ¬ (made ≡ Memory) → made ≡ fault

-- An answer is the value where all checks are met, else the first fault, or there was no memory.
abbrev pub Answers : {A V : Type 0} → (A → V) → List Check → V → Result A TailoringFault → Type 0
Answers view cs x (Ok a) = (first_fault cs ≡ None) × (view a ≡ x)
Answers view cs x (Err fault) = ¬ (fault ≡ Memory) → first_fault cs ≡ Some fault

-- An answer is Ok where all checks are met, else the first fault, or there was no memory.
abbrev pub Passes : {A : Type 0} → List Check → Result A TailoringFault → Type 0
Passes cs (Ok x) = first_fault cs ≡ None
Passes cs (Err fault) = ¬ (fault ≡ Memory) → first_fault cs ≡ Some fault
