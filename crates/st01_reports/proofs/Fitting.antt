-- What is of the grammar has room in its fields.
use Rattle.std.proofs.Common.{ℕ, ◌≤◌, List, [], ◌∷◌, length}
use Rattle.hk_base.specs.TailoringParts.{TailoringParts}
use Rattle.body_fields.specs.Spelling.{AllFit}
use Rattle.st01_reports.specs.Spelling.{AreRising, IsVerification, VerificationFits}
use Rattle.st01_reports.specs.declared.verification.Verification.{Verification}
use Rattle.st01_reports.specs.declared.verification.Verification.TheVariants.{Accepted, Refused, Started, NotStarted, Step, StepFailed, Completed, Incomplete, NotRouted}
use Rattle.st01_reports.proofs.SpellingLemmas.{count_fits}

steps_fit : (t : TailoringParts) (below : ℕ) (steps : List ℕ) → AreRising t below steps → AllFit t.widths.step_octets steps
steps_fit t below [] rising = tt
steps_fit t below (step ∷ steps) rising = (rising.1, steps_fit t step steps rising.2)

-- a report of the grammar has room in its fields
pub verification_fits : (t : TailoringParts) (v : Verification) → 1 ≤ t.widths.count_octets → IsVerification t v → VerificationFits t v
verification_fits t (Accepted id) room is = tt
verification_fits t (Refused id cause) room is = tt
verification_fits t (Started id) room is = tt
verification_fits t (NotStarted id cause) room is = tt
verification_fits t (Step id step) room is = is.1.1
verification_fits t (StepFailed id step cause) room is = is.1.1
verification_fits t (Completed id) room is = tt
verification_fits t (Incomplete id code steps) room is = (is.3, count_fits t.widths.count_octets (length steps) room is.3, steps_fit t 0 steps is.4)
verification_fits t (NotRouted id cause) room is = tt
