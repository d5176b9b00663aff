-- What the functions of the work take as known.
use Rattle.std.specs.Prelude.{◌≡◌, ℕ, ◌<◌, List, [], ◌∷◌, length, Bool, true, false, Option, Some, None, if◌then◌else◌}
use Rattle.st01_reports.specs.declared.verification.Verification.TheVariants as verify
use Rattle.pus_messages.specs.declared.message.ReportBody.{ReportBody}
use Rattle.pus_messages.specs.declared.message.ReportBody.TheVariants.{Verify}
use Rattle.hk_world.specs.Timelines.{instructions_at, last_act}
use Rattle.hk_world.specs.declared.moment.Act.{Act}
use Rattle.hk_world.specs.declared.moment.Act.TheVariants.{Accepted, Started, NotStarted, Executed, Completed}
use Rattle.pus_messages.specs.Instructions.{Instruction}
use Rattle.report_structures.specs.declared.refusal.Refusal.{Refusal}
use Rattle.hk_world.specs.States.{refusal}
use Rattle.hk_world.specs.Honest.{cause_of}
use Rattle.board_core.specs.Causes.{IsSmallRefusal}
use Rattle.board_steps.specs.Cores.{Core, session, state_of}
use Rattle.board_steps.specs.Plans.{worked_request, is_barred}
use Rattle.board_state.specs.Waiting.{asks, IsStage, AreWaiting}
use Rattle.board_state.specs.declared.running.Running.{Running}
use Rattle.board_state.specs.declared.running.Asked.TheVariants.{Start, Completion}

-- the request that is worked on was accepted, and isn't refused
pub record IsToStart (c : Core) : Type 0 where
  pub number : ℕ
  pub first : worked_request c ≡ Some number
  pub accepted : last_act number c.moments ≡ Some (Accepted number)
  pub stands : is_barred (session c) c.moments (instructions_at (session c) number) ≡ false

-- the start of a request, with its report if one is asked for
abbrev pub StartsWith : Running → Act × Option ReportBody → Type 0
StartsWith w told = (told.0 ≡ Started w.number) × (told.1 ≡ (if asks w.request Start then Some (Verify (verify.Started w.id)) else None))

-- the request that is worked on was accepted, and its one instruction is refused
pub record IsToRefuse (c : Core) (r : Refusal) : Type 0 where
  pub number : ℕ
  pub first : worked_request c ≡ Some number
  pub accepted : last_act number c.moments ≡ Some (Accepted number)
  pub instruction : Instruction
  pub alone : instructions_at (session c) number ≡ instruction ∷ []
  pub refused : refusal c.tailoring (state_of c) instruction ≡ Some r
  pub small : IsSmallRefusal r

-- the refusal of a request, with its report
abbrev pub IsRefusedWith : Running → Refusal → Act × Option ReportBody → Type 0
IsRefusedWith w r told = (told.0 ≡ NotStarted w.number) × (told.1 ≡ Some (Verify (verify.NotStarted w.id (cause_of r))))

-- each instruction of the request that is worked on was executed
pub record IsToComplete (c : Core) : Type 0 where
  pub number : ℕ
  pub first : worked_request c ≡ Some number
  pub flag : Bool
  pub executed : last_act number c.moments ≡ Some (Executed number (length (instructions_at (session c) number)) flag)

-- the report of a request that has ended, by the numbers that were refused, if one is due
abbrev pub completion : Running → List ℕ → Option ReportBody
completion w [] = if asks w.request Completion then Some (Verify (verify.Completed w.id)) else None
completion w (n ∷ ns) = Some (Verify (verify.Incomplete w.id 200 (n ∷ ns)))

-- the end of a request, with its report if one is due
abbrev pub CompletesWith : Running → Act × Option ReportBody → Type 0
CompletesWith w told = (told.0 ≡ Completed w.number w.refused) × (told.1 ≡ completion w w.refused)

-- instructions are left of the request that is worked on, which has started
pub record IsToExecute (c : Core) : Type 0 where
  pub number : ℕ
  pub executed : ℕ
  pub first : worked_request c ≡ Some number
  pub stage : IsStage number true executed (last_act number c.moments)
  pub left : executed < length (instructions_at (session c) number)

-- the request that is worked on begins: it is started, or refused for this
abbrev pub IsToBegin : Core → Option Refusal → Type 0
IsToBegin c None = IsToStart c
IsToBegin c (Some r) = IsToRefuse c r

-- this request waits before all others, and hasn't started
pub record IsUnbegun (c : Core) (w : Running) : Type 0 where
  pub others : List Running
  pub waits : AreWaiting (session c) c.moments (w ∷ others)
  pub unbegun : w.started ≡ false
