use Rattle.std.proofs.Common.{refl, sym, ◌∙◌, subst, Option}
use Rattle.std.specs.Prelude.{IfSome}
use Rattle.pus_messages.specs.Instructions.{on_statistics}
use Rattle.report_structures.specs.declared.refusal.Refusal.{Refusal}
use Rattle.board_steps.specs.Cores.{Core, session}
use Rattle.board_state.specs.OneByOne.{statistics_change_of}
use Rattle.board_core.specs.Boards.{core_of}
use Rattle.board_core.specs.Causes.{IsSmallRefusal}
use Rattle.board_core.specs.Effects.{IsEffectOf, IsStatisticsOfGrammar}
use Rattle.board_core.specs.declared.effect.Effect.TheVariants.{Refused, ChangeStatistics}
use Rattle.board_core.proofs.StatisticsWorkLemmas.{refusal-alike, held-small}
use Rattle.board_core.proofs.board.BoardCore.statistics_effect.Goals as goal

pub returns-in-Some : goal.returns-in-Some
returns-in-Some c =
    let b = c.self.inside in
    let made = statistics_change_of c.args.change in
    let core : Core = core_of b.clock b.slot_now b.requests b.structures b.log in
    let found = sym c.statistics_refusal.ensures ∙ c.in-Some.is in
    subst (λ (x : Core). IsEffectOf x (on_statistics made) (Refused c.in-Some.refusal)) c.self.view_is
    (refusal-alike (session core) b.log.moments b.members made c.self.invariant.statistics ∙ found, subst (λ (o : Option Refusal). IfSome o IsSmallRefusal) found (held-small b.members.members made))

pub returns-in-None : goal.returns-in-None
returns-in-None c =
    let b = c.self.inside in
    let made = statistics_change_of c.args.change in
    let core : Core = core_of b.clock b.slot_now b.requests b.structures b.log in
    let found = sym c.statistics_refusal.ensures ∙ c.in-None.is in
    subst (λ (x : Core). IsEffectOf x (on_statistics made) (ChangeStatistics c.args.change)) c.self.view_is
    (refl, refusal-alike (session core) b.log.moments b.members made c.self.invariant.statistics ∙ found, subst (λ (x : Core). IsStatisticsOfGrammar x.tailoring made) (sym c.self.view_is) c.requires)
