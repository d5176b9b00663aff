-- Reports that say of a request ID alone, or with a cause, how far the request came.
use Rattle.hk_base.specs.declared.types.RequestId.{RequestId}
use Rattle.st01_reports.specs.declared.stage.Success.{Success}
use Rattle.st01_reports.specs.declared.stage.Success.TheVariants as success
use Rattle.st01_reports.specs.declared.stage.Failure.{Failure}
use Rattle.st01_reports.specs.declared.stage.Failure.TheVariants as failure
use Rattle.st01_reports.specs.declared.verification.Cause.{Cause}
use Rattle.st01_reports.specs.declared.verification.Verification.{Verification}
use Rattle.st01_reports.specs.declared.verification.Verification.TheVariants.{Accepted, Refused, Started, NotStarted, Completed, NotRouted}

-- the report of a success
abbrev pub success_report : Success → RequestId → Verification
success_report success.Acceptance id = Accepted id
success_report success.Start id = Started id
success_report success.Completion id = Completed id

-- the report of a failure
abbrev pub failure_report : Failure → RequestId → Cause → Verification
failure_report failure.Acceptance id cause = Refused id cause
failure_report failure.Start id cause = NotStarted id cause
failure_report failure.Routing id cause = NotRouted id cause
