use Rattle.std.proofs.Common.{rules, FitsSigned, ◌<◌, ◌≡◌, ℕ, List, Ok, None, sym, ap, subst, ◌∙◌}
use Rattle.std.specs.Int.{w128}
use Rattle.std.proofs.lemmas.Int.{to_z-of_z}
use Rattle.std.proofs.lemmas.List.Elements.{All-from_recursion}
use Rattle.hk_base.specs.Fit.{IsFit}
use Rattle.body_fields.proofs.FitLemmas.{parameter-fit}
use Rattle.statistics.specs.Summaries.{sample, IsSampleValue}
use Rattle.hk_world.specs.declared.moment.Act.TheVariants.{Filed}
use Rattle.board_steps.specs.Cores.{Core, session}
use Rattle.board_steps.specs.Steps.{Answers, MayFile}
use Rattle.board_steps.specs.declared.event.Sample.{Sample}
use Rattle.board_steps.specs.declared.event.Event.TheVariants.{Filing}
use Rattle.board_state.specs.Statistics.{Files}
use Rattle.board_state.specs.Values.{change_channel, filed_channel}
use Rattle.board_state.specs.declared.channels.Channel.{Channel}
use Rattle.board_state.proofs.QuietLemmas.{later-held}
use Rattle.board_core.specs.Boards.{core_of, IsWhole}
use Rattle.board_core.specs.Logs.{AnswersOne}
use Rattle.board_core.proofs.BoundLemmas.{sample-value, counts-room}
use Rattle.board_core.proofs.FileLemmas.{filed, filing-holds, before-slot}
use Rattle.board_core.proofs.board.BoardCore.file.Goals as goal

pub file-requires : goal.file-requires
file-requires c =
    let b = c.self.inside in
    let before : Core = core_of b.clock b.slot_now b.requests b.structures b.log in
    let may = subst (λ (y : Core). MayFile y c.args.sample) (sym c.self.view_is) c.requires in
    later-held (session before) before.moments b.channels c.args.sample.param c.args.sample.slot
    (before-slot b.clock b.slot_now b.requests b.structures b.log (subst IsFit c.tailoring.ensures c.widths-fit.ensures.fit) (c.requests_are_spelled.ensures.only b.log.tailoring) c.self.invariant.board c.args.sample may)
    c.self.invariant.values

pub file-requires-2-clause-value : goal.file-requires-2-clause-value
file-requires-2-clause-value c =
    let b = c.self.inside in
    let x : Sample = c.args.sample in
    let fits : FitsSigned w128 x.value = search rules in
    let may = subst (λ (y : Core). MayFile y x) (sym c.self.view_is) c.requires in
    let shape = (parameter-fit b.log.tailoring x.param may.param (subst IsFit c.tailoring.ensures c.widths-fit.ensures.fit) may.known).0.shape in
    subst IsSampleValue (sym (to_z-of_z w128 x.value fits)) (sample-value may.param x.value shape may.fit)

pub file-requires-2-clause-room : goal.file-requires-2-clause-room
file-requires-2-clause-room c =
    let b = c.self.inside in
    let before : Core = core_of b.clock b.slot_now b.requests b.structures b.log in
    All-from_recursion (λ m. m.stat.count < 4294967295) b.members.members (counts-room (session before) before.moments b.members c.self.invariant.statistics c.self.invariant.board.room)

pub invariant_of-self-2 : goal.invariant_of-self-2
invariant_of-self-2 c =
    let b = c.self.inside in
    let x : Sample = c.args.sample in
    let fits : FitsSigned w128 x.value = search rules in
    let same = to_z-of_z w128 x.value fits in
    let may = subst (λ (y : Core). MayFile y x) (sym c.self.view_is) c.requires in
    let h = subst (λ v. AnswersOne b.log b.clock (Filed x.param x.slot v) None c.add_one.new.self (Ok c.in_ok-count.count)) same c.in_ok-count.ensures in
    let files = subst (λ v. Files x.param (sample x.slot v) b.members c.file-2.new.self) same c.file-2.ensures in
    let channels : c.file.new.self ≡ change_channel x.param (filed_channel x.slot x.value) b.channels =
    c.file.ensures ∙ ap (λ v. change_channel x.param (filed_channel x.slot v) b.channels) same in
    subst (λ (cs : List (ℕ × Channel)). IsWhole (core_of b.clock b.slot_now b.requests b.structures c.add_one.new.self) b.requests.waiting b.structures cs c.file-2.new.self) (sym channels)
    (filing-holds b.clock b.slot_now b.requests b.structures b.log (subst IsFit c.tailoring.ensures c.widths-fit.ensures.fit) (c.requests_are_spelled.ensures.only b.log.tailoring) c.self.invariant.board x may
    c.add_one.new.self c.in_ok-count.count b.channels b.members c.file-2.new.self h files c.self.invariant)

pub returns : goal.returns
returns c =
    let b = c.self.inside in
    let x : Sample = c.args.sample in
    let fits : FitsSigned w128 x.value = search rules in
    let same = to_z-of_z w128 x.value fits in
    let may = subst (λ (y : Core). MayFile y x) (sym c.self.view_is) c.requires in
    let h = subst (λ v. AnswersOne b.log b.clock (Filed x.param x.slot v) None c.add_one.new.self (Ok c.in_ok-count.count)) same c.in_ok-count.ensures in
    subst (λ (y : Core). Answers y (Filing x) (core_of b.clock b.slot_now b.requests b.structures c.add_one.new.self) (Ok c.in_ok-count.count)) c.self.view_is
    (filed b.clock b.slot_now b.requests b.structures b.log (subst IsFit c.tailoring.ensures c.widths-fit.ensures.fit) (c.requests_are_spelled.ensures.only b.log.tailoring) c.self.invariant.board x may
    c.add_one.new.self c.in_ok-count.count h).0
