use Rattle.std.proofs.Common.{◌<◌, ◌^◌, ◌∙◌, sym, ap, subst, Ok, Err, Option}
use Rattle.hk_base.specs.declared.types.Structure.{Structure}
use Rattle.st03_grammar.specs.Instructions.{change_of}
use Rattle.pus_messages.specs.Instructions.{on_structure}
use Rattle.report_structures.specs.Changes.{IsGrammarChange, IsFormedState, Gives}
use Rattle.report_structures.specs.Effects.{effect}
use Rattle.report_structures.specs.declared.refusal.ApplyFault.{ApplyFault}
use Rattle.report_structures.specs.declared.refusal.Refusal.{Refusal}
use Rattle.std.specs.Option.{option_copied}
use Rattle.hk_world.specs.Timelines.{done_instructions}
use Rattle.board_steps.specs.Cores.{Core, session}
use Rattle.board_core.specs.Boards.{core_of}
use Rattle.board_core.specs.Effects.{IsEffectOf, effect_by}
use Rattle.board_core.specs.declared.effect.Effect.{Effect}
use Rattle.board_core.specs.declared.effect.Effect.TheVariants.{Refused}
use Rattle.board_core.proofs.FoundLemmas.{found-some, found-refused, valid-state}
use Rattle.board_core.proofs.board.BoardCore.structure_effect.Goals as goal

pub returns-in-Ok-Some : goal.returns-in-Ok-Some
returns-in-Ok-Some c =
    let b = c.self.inside in
    let core : Core = core_of b.clock b.slot_now b.requests b.structures b.log in
    let key = c.args.key in
    let change = change_of c.args.change in
    let there = c.structure-before.ensures ∙ c.self.invariant.structures.same key in
    let valid = valid-state b.log.tailoring (done_instructions (session core) core.moments) key b.structures c.self.invariant.structures in
    let id = subst (λ (x : Core). key.id < 256 ^ x.tailoring.widths.structure_octets) (sym c.self.view_is) c.requires.id in
    let formed = subst (λ (o : Option Structure). IsFormedState c.tailoring-tailoring.result.now o) c.in-Ok-Some.field-0-is c.in-Ok-Some.ensures.formed in
    subst (λ (x : Core). IsEffectOf x (on_structure key change) c.effect.result) c.self.view_is
    (subst (λ (f : Effect). IsEffectOf core (on_structure key change) f) (sym (c.effect.ensures ∙ ap (λ k. effect_by k key c.in-Ok-Some.after) c.of-kind.ensures))
    (found-some core key change c.tailoring-tailoring.result.now (option_copied c.structure-before.result) c.tailoring-tailoring.ensures there valid c.in-Ok-Some.after id formed (c.in-Ok-Some.ensures.effect ∙ ap Ok c.in-Ok-Some.field-0-is)))

pub returns-in-Err-Refused : goal.returns-in-Err-Refused
returns-in-Err-Refused c =
    let b = c.self.inside in
    let core : Core = core_of b.clock b.slot_now b.requests b.structures b.log in
    let key = c.args.key in
    let change = change_of c.args.change in
    let there = c.structure-before.ensures ∙ c.self.invariant.structures.same key in
    let valid = valid-state b.log.tailoring (done_instructions (session core) core.moments) key b.structures c.self.invariant.structures in
    let grammar = subst (λ (x : Core). IsGrammarChange x.tailoring change) (sym c.self.view_is) c.requires.grammar in
    let e = subst (λ (f : ApplyFault). Gives (Err f) (effect c.tailoring-tailoring.result.now change (option_copied c.structure-before.result))) c.in-Err-Refused.field-0-is c.in-Err-Refused.ensures.effect in
    subst (λ (r : Refusal). IsEffectOf c.args.self.now (on_structure key change) (Refused r)) (sym c.in-Err-Refused.refusal-is)
    (subst (λ (x : Core). IsEffectOf x (on_structure key change) (Refused c.in-Err-Refused.refusal)) c.self.view_is
    (found-refused core key change c.tailoring-tailoring.result.now (option_copied c.structure-before.result) c.tailoring-tailoring.ensures there valid c.in-Err-Refused.refusal c.widths-fit.ensures.fit grammar e))
