-- What the code holds of an instruction that is to be executed, and what it means.
use Rattle.std.specs.Prelude.{◌≡◌, ℕ, ◌+◌, ◌<◌, ◌^◌, ⊤, List, [], ◌∷◌, length, Bool, true, false, Option, Some, None, IfSome, Ok, slice_get, nat_lt, if◌then◌else◌}
use Rattle.hk_base.specs.Payload.{IsValid}
use Rattle.hk_base.specs.declared.types.Key.{Key}
use Rattle.hk_base.specs.declared.types.Structure.{Structure}
use Rattle.hk_base.specs.TailoringParts.{TailoringParts}
use Rattle.body_fields.specs.Spelling.{IsInterval}
use Rattle.st04_grammar.specs.Bodies.{numeric_fault}
use Rattle.st04_grammar.specs.Instructions as st04
use Rattle.st20_grammar.specs.Bodies.{settable_fault}
use Rattle.st20_grammar.specs.Spelling.{AreIds, AreSettings}
use Rattle.report_structures.specs.Changes.{IsGrammarChange}
use Rattle.st03_grammar.specs.Instructions.{StructureChange, create, append, set_interval, plain}
use Rattle.pus_messages.specs.Instructions.{Instruction, on_structure, on_statistics, report_values, set_values, instructions}
use Rattle.report_structures.specs.Effects.{effect}
use Rattle.report_structures.specs.declared.refusal.Refusal.{Refusal}
use Rattle.hk_world.specs.States.{refusal}
use Rattle.board_steps.specs.Cores.{Core, session, state_of}
use Rattle.board_steps.specs.Plans.{Topic, worked_request, structure_of, properties_of, statistics, definitions, values_of}
use Rattle.board_steps.specs.Slots.{begins_intervals}
use Rattle.board_state.specs.OneByOne.{statistics_change_of}
use Rattle.board_state.specs.Waiting.{AreWaiting, IsStage, asks}
use Rattle.board_state.specs.declared.running.Running.{Running}
use Rattle.board_state.specs.declared.instruction.StatisticsChange.{StatisticsChange}
use Rattle.board_state.specs.declared.instruction.StatisticsChange.TheVariants as change
use Rattle.pus_messages.specs.declared.message.ReportBody.{ReportBody}
use Rattle.pus_messages.specs.declared.message.ReportBody.TheVariants.{Verify}
use Rattle.st01_reports.specs.Spelling.{IsCause}
use Rattle.st01_reports.specs.declared.verification.Verification.TheVariants as verify
use Rattle.hk_world.specs.Honest.{cause_of}
use Rattle.board_state.specs.declared.running.Asked.TheVariants.{Progress}
use Rattle.hk_world.specs.Timelines.{instruction_at, last_act}
use Rattle.board_steps.specs.Steps.{IsAbout}
use Rattle.board_steps.specs.declared.event.Event.TheVariants.{Work}
use Rattle.board_core.specs.Causes.{IsSmallRefusal}
use Rattle.board_core.specs.Logs.{IsWritable}
use Rattle.board_core.specs.Planned.{IsPlanned}
use Rattle.board_core.specs.declared.log.Draft.{Draft}
use Rattle.board_core.specs.declared.effect.ChangeKind.{ChangeKind}
use Rattle.board_core.specs.declared.effect.ChangeKind.TheVariants as kind
use Rattle.board_core.specs.declared.effect.Effect.{Effect}
use Rattle.board_core.specs.declared.effect.Effect.TheVariants.{Refused, Create, Delete, Replace, OrderOneShot, ShowStructure, ShowProperties, ChangeStatistics, ReportValues, SetValues}
use Rattle.st03_grammar.specs.declared.bodies.Each.TheVariants as each

-- what a change of a structure is for
abbrev pub kind_of : StructureChange → ChangeKind
kind_of (create d) = kind.Creation
kind_of (append a) = kind.Redefinition
kind_of (set_interval n) = kind.Redefinition
kind_of (plain each.Enable) = kind.Redefinition
kind_of (plain each.Delete) = kind.Status
kind_of (plain each.Disable) = kind.Status
kind_of (plain each.OneShot) = kind.OneShot
kind_of (plain each.Show) = kind.Show
kind_of (plain each.ShowPeriodic) = kind.ShowPeriodic

-- the effect that leaves a structure, by what the change is for
abbrev pub effect_by : ChangeKind → Key → Structure → Effect
effect_by kind.Creation key x = Create key x
effect_by kind.Redefinition key x = Replace key x true
effect_by kind.Status key x = Replace key x false
effect_by kind.OneShot key x = OrderOneShot key
effect_by kind.Show key x = ShowStructure key x
effect_by kind.ShowPeriodic key x = ShowProperties key x

-- a change of the statistics of the grammar
abbrev pub IsStatisticsOfGrammar : TailoringParts → st04.StatisticsChange → Type 0
IsStatisticsOfGrammar t (st04.enable n) = IsInterval t n
IsStatisticsOfGrammar t (st04.add id) = numeric_fault t [] id ≡ None
IsStatisticsOfGrammar t _ = ⊤

-- an instruction of the grammar
abbrev pub IsOfGrammar : TailoringParts → Instruction → Type 0
IsOfGrammar t (on_structure key made) = IsGrammarChange t made × (key.id < 256 ^ t.widths.structure_octets)
IsOfGrammar t (on_statistics made) = IsStatisticsOfGrammar t made
IsOfGrammar t (report_values ids) = AreIds t ids
IsOfGrammar t (set_values settings) = AreSettings t (settable_fault t) settings

-- an instruction isn't refused, and leaves this of the structure with a key
pub record Leaves (c : Core) (x : Instruction) (key : Key) (change : StructureChange) (after : Option Structure) : Type 0 where
  pub is : x ≡ on_structure key change
  pub id : key.id < 256 ^ c.tailoring.widths.structure_octets
  pub leaves : effect c.tailoring change ((state_of c).structure key) ≡ Ok after
  pub valid : IfSome after (λ s. IsValid c.tailoring s.def)

-- a change that makes a structure
abbrev pub IsCreation : StructureChange → Type 0
IsCreation (create d) = ⊤
IsCreation _ = ⊥

-- a change that puts a structure in the place of another
abbrev pub IsReplacement : StructureChange → Type 0
IsReplacement (append a) = ⊤
IsReplacement (set_interval n) = ⊤
IsReplacement (plain each.Enable) = ⊤
IsReplacement (plain each.Disable) = ⊤
IsReplacement _ = ⊥

-- what an effect says of its instruction in the present state
abbrev pub IsEffectOf : Core → Instruction → Effect → Type 0
IsEffectOf c x (Refused r) = (refusal c.tailoring (state_of c) x ≡ Some r) × IsSmallRefusal r
IsEffectOf c x (Create key after) = (made : StructureChange) × Leaves c x key made (Some after) × IsCreation made
IsEffectOf c x (Delete key) = (made : StructureChange) × Leaves c x key made None × (made ≡ plain each.Delete)
IsEffectOf c x (Replace key after begins) = (made : StructureChange) × Leaves c x key made (Some after) × IsReplacement made × (begins ≡ begins_intervals made)
IsEffectOf c x (OrderOneShot key) = (after : Structure) × Leaves c x key (plain each.OneShot) (Some after)
IsEffectOf c x (ShowStructure key after) = Leaves c x key (plain each.Show) (Some after)
IsEffectOf c x (ShowProperties key after) = Leaves c x key (plain each.ShowPeriodic) (Some after)
IsEffectOf c x (ChangeStatistics made) =
    (x ≡ on_statistics (statistics_change_of made)) × (refusal c.tailoring (state_of c) x ≡ None) × IsStatisticsOfGrammar c.tailoring (statistics_change_of made)
IsEffectOf c x (ReportValues ids) = (x ≡ report_values ids) × (refusal c.tailoring (state_of c) x ≡ None) × AreIds c.tailoring ids
IsEffectOf c x (SetValues settings) = (x ≡ set_values settings) × AreSettings c.tailoring (settable_fault c.tailoring) settings

-- whether an effect is that of an instruction that is done
abbrev pub is_done : Effect → Bool
is_done (Refused r) = false
is_done _ = true

-- the reports that a change of the statistics orders
abbrev pub statistics_topics : StatisticsChange → List Topic
statistics_topics (change.Report resets) = statistics ∷ []
statistics_topics change.ShowDefinitions = definitions ∷ []
statistics_topics _ = []

-- the reports that an effect orders
abbrev pub effect_topics : Effect → List Topic
effect_topics (ShowStructure key after) = structure_of key ∷ []
effect_topics (ShowProperties key after) = properties_of key ∷ []
effect_topics (ChangeStatistics made) = statistics_topics made
effect_topics (ReportValues ids) = values_of ids ∷ []
effect_topics _ = []

-- the next instruction of the request that is worked on, and its effect
pub record IsExecuting (c : Core) (w : Running) (e : Effect) : Type 0 where
  pub others : List Running
  pub waits : AreWaiting (session c) c.moments (w ∷ others)
  pub begun : w.started ≡ true
  pub left : w.executed < length (instructions w.request)
  pub instruction : Instruction
  pub there : slice_get (instructions w.request) w.executed ≡ Some instruction
  pub is_effect : IsEffectOf c instruction e

-- the report that an effect orders at a tag, if it orders one, told of the present state
abbrev pub IsOrderedBody : Core → ℕ → List Topic → Option ReportBody → Type 0
IsOrderedBody c tag [] None = ⊤
IsOrderedBody c tag (topic ∷ topics) (Some body) = IsWritable c.tailoring body × IsAbout (session c) c.slot_now c.moments tag topic body
IsOrderedBody c tag _ _ = ⊥

-- the next instruction of the request that is worked on is to be carried out, and its moments are drafted
pub record IsToCarry (c : Core) (e : Effect) (d : Draft) : Type 0 where
  pub number : ℕ
  pub executed : ℕ
  pub first : worked_request c ≡ Some number
  pub stage : IsStage number true executed (last_act number c.moments)
  pub instruction : Instruction
  pub there : instruction_at (session c) number (executed + 1) ≡ Some instruction
  pub is_effect : IsEffectOf c instruction e
  pub plan : IsPlanned c Work d

-- an effect only orders a report
abbrev pub OnlyShows : Effect → Type 0
OnlyShows (ShowStructure key after) = ⊤
OnlyShows (ShowProperties key after) = ⊤
OnlyShows (ReportValues ids) = ⊤
OnlyShows _ = ⊥

-- the numbers of a refusal have room in a cause
abbrev pub IsSmallEffect : Effect → Type 0
IsSmallEffect (Refused r) = IsSmallRefusal r
IsSmallEffect _ = ⊤

-- the report on the execution of an instruction of a request that has several
abbrev pub progress_by : Running → ℕ → Effect → Option ReportBody
progress_by w number (Refused r) = Some (Verify (verify.StepFailed w.id number (cause_of r)))
progress_by w number _ = if asks w.request Progress then Some (Verify (verify.Step w.id number)) else None

-- the report on the execution of an instruction, where it is due
abbrev pub progress_of : Running → ℕ → Effect → Option ReportBody
progress_of w number e = if nat_lt 1 (length (instructions w.request)) then progress_by w number e else None

-- a report on an instruction that was refused has a cause that fits its fields
abbrev pub HasCause : ReportBody → Type 0
HasCause (Verify (verify.StepFailed id number cause)) = IsCause cause
HasCause _ = ⊤

-- why an instruction is refused, if it is
abbrev pub refusal_of : Effect → Option Refusal
refusal_of (Refused r) = Some r
refusal_of _ = None
