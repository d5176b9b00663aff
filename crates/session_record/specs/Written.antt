-- What stands on a sink after a text was written.
use Rattle.std.specs.Prelude.{◌≡◌, ℕ, ◌≤◌, List, ◌++◌, Option, Some, IfSome, length}
use Rattle.session_record.specs.Writing.{HasWritten}

-- a first part of a text was written
abbrev pub IsPrefixWritten : Option (List ℕ) → List ℕ → Option (List ℕ) → Type 0
IsPrefixWritten before text after = (count : ℕ) × (count ≤ length text) × HasWritten before text count after

-- all of a text was written
abbrev pub IsWritten : Option (List ℕ) → List ℕ → Option (List ℕ) → Type 0
IsWritten before text after = IfSome before (λ taken. after ≡ Some (taken ++ text))
