-- The report that an instruction orders tells the state, which the instruction leaves.
use Rattle.std.proofs.Common.{arith, ◌≡◌, ℕ, ◌+◌, ◌-◌, refl, sym, ◌∙◌, ap, subst, List, [], ◌∷◌, Bool, true, false, Option, Some, None, Ok, Result}
use Rattle.std.specs.Prelude.{IfSome, slice_get, option_map, option_and_then, if◌then◌else◌}
use Rattle.std.specs.List.{AllByRecursion, cons_option}
use Rattle.std.specs.Option.{option_or}
use Rattle.hk_base.specs.Fit.{IsFit}
use Rattle.hk_base.specs.Parameters.{key_eq}
use Rattle.hk_base.specs.TailoringParts.{TailoringParts}
use Rattle.hk_base.specs.declared.types.Key.{Key}
use Rattle.hk_base.specs.declared.types.Structure.{Structure}
use Rattle.st03_grammar.specs.Instructions.{StructureChange, plain, changes}
use Rattle.st03_grammar.specs.declared.bodies.Each.TheVariants as each
use Rattle.st03_grammar.specs.declared.bodies.Report03.TheVariants as hk
use Rattle.st20_grammar.specs.declared.bodies.Setting.{Setting}
use Rattle.pus_messages.specs.Instructions.{Instruction, on_structure, instructions}
use Rattle.pus_messages.specs.declared.message.ReportBody.{ReportBody}
use Rattle.pus_messages.specs.declared.message.ReportBody.TheVariants.{Hk}
use Rattle.report_structures.specs.Effects.{effect, left_by}
use Rattle.report_structures.proofs.EffectLemmas.{left_by-report, err_is_not_ok}
use Rattle.report_structures.specs.declared.refusal.Refusal.{Refusal}
use Rattle.hk_world.specs.States.{boot_state, structure_left}
use Rattle.hk_world.specs.Timelines.{Done, instruction_at, done_by, done_at, done_instructions, structure_after, state_after}
use Rattle.hk_world.specs.declared.moment.Moment.{Moment}
use Rattle.hk_world.specs.declared.moment.Act.TheVariants.{Executed}
use Rattle.board_steps.specs.Cores.{Core, session, state_of}
use Rattle.board_steps.specs.Plans.{structure_of, properties_of, values_of}
use Rattle.board_steps.specs.Steps.{row_of}
use Rattle.board_state.specs.declared.running.Running.{Running}
use Rattle.board_state.proofs.ChannelLemmas.{value-more, IsNoFiling, SetsNone, is-valueless}
use Rattle.board_state.proofs.StatisticsLemmas.{did}
use Rattle.board_core.specs.Effects.{IsExecuting, IsOrderedBody, is_done}
use Rattle.board_core.specs.Execution.{IsExecutedBy, IsToldAfter}
use Rattle.board_core.specs.Logs.{IsWritable}
use Rattle.board_core.specs.declared.effect.Effect.{Effect}
use Rattle.board_core.specs.declared.effect.Effect.TheVariants.{ShowStructure, ShowProperties, ReportValues}
use Rattle.board_core.proofs.ShortLemmas.{structure-writable, properties-writable}

-- the instruction that the first moment did
pub executed-done : (c : Core) (w : Running) (e : Effect) (h : IsExecuting c w e) (m : Moment) → IsExecutedBy c w e m → is_done e ≡ true
    → done_at (session c) m ≡ Some (did m w.number h.instruction)
executed-done c w e h m x q =
    ap (done_by (session c) m.tag) (x.act_is ∙ ap (Executed w.number (w.executed + 1)) q)
    ∙ ap (option_map (λ y. record { tag = m.tag; request = w.number; instruction = y })) there
  where
    there : instruction_at (session c) w.number (w.executed + 1) ≡ Some h.instruction
    there =
        let same : w.executed + 1 - 1 ≡ w.executed = omega arith in
        ap (λ o. option_and_then (λ r. slice_get (instructions r) (w.executed + 1 - 1)) o) h.waits.each.0.request ∙ ap (λ i. slice_get (instructions w.request) i) same ∙ h.there

-- a change that changes nothing leaves the structures
kept-structure : (c : Core) (m : Moment) (k : ℕ) (x : Instruction) (named : Key) (made : StructureChange) (key : Key) → done_at (session c) m ≡ Some (did m k x) → x ≡ on_structure named made
    → changes made ≡ false → (state_after (session c) (m ∷ c.moments)).structure key ≡ (state_of c).structure key
kept-structure c m k x named made key done is none =
    ap (λ o. structure_after c.tailoring (boot_state c.tailoring) (cons_option o (done_instructions (session c) c.moments)) key) done
    ∙ ap (λ y. structure_left c.tailoring y key ((state_of c).structure key)) is ∙ go (key_eq named key)
  where
    go : (b : Bool) → (if b then left_by c.tailoring made ((state_of c).structure key) else (state_of c).structure key) ≡ (state_of c).structure key
    go true = left_by-report c.tailoring made ((state_of c).structure key) none
    go false = refl

same-some : (a b : Structure) → ◌≡◌ {A = Result (Option Structure) Refusal} (Ok (Some a)) (Ok (Some b)) → a ≡ b
same-some a b e = cc

-- the structure that is shown is the one that is there
shown-there : (t : TailoringParts) (o : Option Structure) (after : Structure) → effect t (plain each.Show) o ≡ Ok (Some after) → o ≡ Some after
shown-there t None after e = absurd (err_is_not_ok e)
shown-there t (Some s) after e = ap Some (same-some s after e)

properties-there : (t : TailoringParts) (o : Option Structure) (after : Structure) → effect t (plain each.ShowPeriodic) o ≡ Ok (Some after) → o ≡ Some after
properties-there t None after e = absurd (err_is_not_ok e)
properties-there t (Some s) after e = ap Some (same-some s after e)

-- the report of a structure
pub structure-after : (c : Core) (w : Running) (key : Key) (after : Structure) (h : IsExecuting c w (ShowStructure key after)) (m : Moment) (tag : ℕ) (body : ReportBody) → IsFit c.tailoring
    → IsExecutedBy c w (ShowStructure key after) m → body ≡ Hk (hk.Structure key after) → IsToldAfter c m tag (structure_of key ∷ []) (Some body)
structure-after c w key after h m tag body fit x is = (
  subst (IsWritable c.tailoring) (sym is) (structure-writable c.tailoring key after fit h.is_effect.id h.is_effect.valid.formed),
  (
    after,
    is,
    kept-structure c m w.number h.instruction key (plain each.Show) key (executed-done c w (ShowStructure key after) h m x refl) h.is_effect.is refl
        ∙ shown-there c.tailoring ((state_of c).structure key) after h.is_effect.leaves,
  ),
)

-- the report of its properties
pub properties-after : (c : Core) (w : Running) (key : Key) (after : Structure) (h : IsExecuting c w (ShowProperties key after)) (m : Moment) (tag : ℕ) (body : ReportBody) → IsFit c.tailoring
    → IsExecutedBy c w (ShowProperties key after) m → body ≡ Hk (hk.Periodic key.kind (row_of key after ∷ [])) → IsToldAfter c m tag (properties_of key ∷ []) (Some body)
properties-after c w key after h m tag body fit x is = (
  subst (IsWritable c.tailoring) (sym is) (properties-writable c.tailoring key after fit h.is_effect.id h.is_effect.valid.formed),
  (
    after,
    is,
    kept-structure c m w.number h.instruction key (plain each.ShowPeriodic) key (executed-done c w (ShowProperties key after) h m x refl) h.is_effect.is refl
        ∙ properties-there c.tailoring ((state_of c).structure key) after h.is_effect.leaves,
  ),
)

-- the report of values
pub values-after : (c : Core) (w : Running) (ids : List ℕ) (h : IsExecuting c w (ReportValues ids)) (m : Moment) (tag : ℕ) (body : ReportBody)
    → IsExecutedBy c w (ReportValues ids) m → IsOrderedBody c 0 (values_of ids ∷ []) (Some body) → IsToldAfter c m tag (values_of ids ∷ []) (Some body)
values-after c w ids h m tag body x told = (told.0, (told.1.0, told.1.1, told.1.2, all told.1.0 told.1.3))
  where
    unfiled : IsNoFiling m.act
    unfiled = subst IsNoFiling (sym x.act_is) tt

    none : IfSome (done_at (session c) m) (λ (d : Done). SetsNone d.instruction)
    none = subst (λ (o : Option Done). IfSome o (λ d. SetsNone d.instruction)) (sym (executed-done c w (ReportValues ids) h m x refl)) (subst SetsNone (sym h.is_effect.0) tt)

    all : (pairs : List Setting) → AllByRecursion (λ y. (state_of c).value y.param ≡ Some y.value) pairs → AllByRecursion (λ y. (state_after (session c) (m ∷ c.moments)).value y.param ≡ Some y.value) pairs
    all [] k = tt
    all (y ∷ pairs) k = (
      value-more (session c) m c.moments y.param
          ∙ ap (λ o. option_or o ((state_of c).value y.param)) ((is-valueless (session c) m unfiled none).value y.param) ∙ k.0,
      all pairs k.1,
    )
