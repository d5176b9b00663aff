use Rattle.std.proofs.Common.{arith, ◌≤◌, ◌+◌, List, length, Ok, sym, ◌∙◌, ap, subst}
use Rattle.std.specs.List.{All}
use Rattle.std.proofs.lemmas.List.Elements.{All-from_recursion}
use Rattle.hk_base.specs.Fit.{IsFit}
use Rattle.statistics.specs.Summaries.{IsSampleValue}
use Rattle.st20_grammar.specs.declared.bodies.Setting.{Setting}
use Rattle.board_steps.specs.Cores.{Core}
use Rattle.board_steps.specs.Steps.{Answers}
use Rattle.board_steps.specs.declared.event.Event.TheVariants.{CloseSlot}
use Rattle.board_state.specs.Holdings.{AreRisingKeys}
use Rattle.board_core.specs.Boards.{core_of}
use Rattle.board_core.specs.Closing.{end_clock, end_settings, with_filings, AreToFile, AreEndStatistics}
use Rattle.board_core.specs.Planned.{IsPlanned}
use Rattle.board_core.specs.Reporting.{FilesAll}
use Rattle.board_core.proofs.EndDueLemmas.{not-closed, planned-room}
use Rattle.board_core.proofs.EndHoldsLemmas.{settings-few, settings-sampled, settings-to-file, closing-done}
use Rattle.board_core.proofs.EndTimeLemmas.{slot-few}
use Rattle.board_core.proofs.SettingLemmas.{settings-are}
use Rattle.board_core.proofs.StatisticsClosingLemmas.{held-few}
use Rattle.board_core.proofs.board.BoardCore.close_slot.Goals as goal

pub closed_members-requires-clause-values : goal.closed_members-requires-clause-values
closed_members-requires-clause-values c =
    let b = c.self.inside in
    let before : Core = core_of b.clock b.slot_now b.requests b.structures b.log in
    let fit = subst IsFit c.tailoring.ensures c.widths-fit.ensures.fit in
    let only = c.requests_are_spelled.ensures.only b.log.tailoring in
    let stands = c.self.invariant.board.stands in
    let is = c.as_slice.ensures ∙ c.in_ok-settings.ensures ∙ settings-are before b.channels fit only stands.octets c.self.invariant.values in
    subst (λ (xs : List Setting). All (λ (x : Setting). IsSampleValue x.value) xs) (sym is)
    (All-from_recursion (λ (x : Setting). IsSampleValue x.value) (end_settings before) (settings-sampled before fit only stands.octets stands.good))

pub closed_members-requires-clause-few : goal.closed_members-requires-clause-few
closed_members-requires-clause-few c =
    let b = c.self.inside in
    let before : Core = core_of b.clock b.slot_now b.requests b.structures b.log in
    let fit = subst IsFit c.tailoring.ensures c.widths-fit.ensures.fit in
    let only = c.requests_are_spelled.ensures.only b.log.tailoring in
    let stands = c.self.invariant.board.stands in
    let is = c.as_slice.ensures ∙ c.in_ok-settings.ensures ∙ settings-are before b.channels fit only stands.octets c.self.invariant.values in
    subst (λ (xs : List Setting). length xs ≤ 512) (sym is) (settings-few before fit)

pub closed_members-requires-clause-room : goal.closed_members-requires-clause-room
closed_members-requires-clause-room c =
    let b = c.self.inside in
    let before : Core = core_of b.clock b.slot_now b.requests b.structures b.log in
    held-few before b.requests.waiting b.structures b.channels b.members c.self.invariant

pub closing_draft-requires-clause-settings : goal.closing_draft-requires-clause-settings
closing_draft-requires-clause-settings c =
    let b = c.self.inside in
    let before : Core = core_of b.clock b.slot_now b.requests b.structures b.log in
    let fit = subst IsFit c.tailoring.ensures c.widths-fit.ensures.fit in
    let only = c.requests_are_spelled.ensures.only b.log.tailoring in
    c.as_slice-2.ensures ∙ c.in_ok-settings.ensures ∙ settings-are before b.channels fit only c.self.invariant.board.stands.octets c.self.invariant.values ∙ ap end_settings c.self.view_is

pub closing_draft-requires-clause-members : goal.closing_draft-requires-clause-members
closing_draft-requires-clause-members c =
    let b = c.self.inside in
    let before : Core = core_of b.clock b.slot_now b.requests b.structures b.log in
    let fit = subst IsFit c.tailoring.ensures c.widths-fit.ensures.fit in
    let only = c.requests_are_spelled.ensures.only b.log.tailoring in
    let is = c.as_slice.ensures ∙ c.in_ok-settings.ensures ∙ settings-are before b.channels fit only c.self.invariant.board.stands.octets c.self.invariant.values in
    let k : AreEndStatistics before c.in_ok-members.members =
    record {
      old = b.members;
      held = c.self.invariant.statistics;
      settled = c.self.invariant.settled;
      files = subst (λ (xs : List Setting). FilesAll b.slot_now xs b.members c.in_ok-members.members) is c.in_ok-members.ensures;
    } in
    subst (λ (y : Core). AreEndStatistics y c.in_ok-members.members) c.self.view_is k

pub returns-in-Err : goal.returns-in-Err
returns-in-Err c = not-closed c.args.self.now c.in-Err.fault c.in-Err.ensures

pub commit-requires-clause-draft : goal.commit-requires-clause-draft
commit-requires-clause-draft c = (subst (λ (y : Core). IsPlanned y CloseSlot c.in-Ok.draft) (sym c.self.view_is) c.in-Ok.ensures).draft

pub commit-requires-clause-room : goal.commit-requires-clause-room
commit-requires-clause-room c =
    let b = c.self.inside in
    let before : Core = core_of b.clock b.slot_now b.requests b.structures b.log in
    planned-room before c.in-Ok.draft (subst (λ (y : Core). IsPlanned y CloseSlot c.in-Ok.draft) (sym c.self.view_is) c.in-Ok.ensures)

pub file_settings-requires : goal.file_settings-requires
file_settings-requires c =
    let b = c.self.inside in
    let before : Core = core_of b.clock b.slot_now b.requests b.structures b.log in
    let fit = subst IsFit c.tailoring.ensures c.widths-fit.ensures.fit in
    let only = c.requests_are_spelled.ensures.only b.log.tailoring in
    let stands = c.self.invariant.board.stands in
    let is = c.as_slice-3.ensures ∙ c.in_ok-settings.ensures ∙ settings-are before b.channels fit only stands.octets c.self.invariant.values in
    subst (AreToFile b.slot_now b.channels) (sym is) (settings-to-file before b.channels fit only stands.octets stands.good c.self.invariant.values)

pub overflow_add-self : goal.overflow_add-self
overflow_add-self c =
    let b = c.self.inside in
    let before : Core = core_of b.clock b.slot_now b.requests b.structures b.log in
    let few = slot-few before (subst IsFit c.tailoring.ensures c.widths-fit.ensures.fit) c.self.invariant.board.stands in
    omega (arith, few)

pub invariant_of-self-2 : goal.invariant_of-self-2
invariant_of-self-2 c =
    let b = c.self.inside in
    let before : Core = core_of b.clock b.slot_now b.requests b.structures b.log in
    let fit = subst IsFit c.tailoring.ensures c.widths-fit.ensures.fit in
    let only = c.requests_are_spelled.ensures.only b.log.tailoring in
    let own = settings-are before b.channels fit only c.self.invariant.board.stands.octets c.self.invariant.values in
    let is = c.as_slice.ensures ∙ c.in_ok-settings.ensures ∙ own in
    let is3 = c.as_slice-3.ensures ∙ c.in_ok-settings.ensures ∙ own in
    let files = subst (λ (xs : List Setting). FilesAll b.slot_now xs b.members c.in_ok-members.members) is c.in_ok-members.ensures in
    let plan = subst (λ (y : Core). IsPlanned y CloseSlot c.in-Ok.draft) (sym c.self.view_is) c.in-Ok.ensures in
    let rising = subst AreRisingKeys c.end_one_shots.ensures.ended c.end_one_shots.ensures.rising in
    (closing-done b.clock b.slot_now b.requests b.structures b.log b.channels b.members fit only c.self.invariant c.in-Ok.draft plan rising c.in_ok-members.members files
    c.end_clock-clock.result c.end_one_shots.new.self c.commit.new.self c.file_settings.new.channels c.in_ok-count.count
    (c.end_clock-clock.ensures ∙ ap end_clock (sym c.self.view_is)) c.end_one_shots.ensures.ended c.in_ok-count.ensures.ok (c.file_settings.ensures ∙ ap (λ (xs : List Setting). with_filings b.slot_now xs b.channels) is3)
    c.in_ok-count.ensures.count).1

pub returns : goal.returns
returns c =
    let b = c.self.inside in
    let before : Core = core_of b.clock b.slot_now b.requests b.structures b.log in
    let fit = subst IsFit c.tailoring.ensures c.widths-fit.ensures.fit in
    let only = c.requests_are_spelled.ensures.only b.log.tailoring in
    let own = settings-are before b.channels fit only c.self.invariant.board.stands.octets c.self.invariant.values in
    let is = c.as_slice.ensures ∙ c.in_ok-settings.ensures ∙ own in
    let is3 = c.as_slice-3.ensures ∙ c.in_ok-settings.ensures ∙ own in
    let files = subst (λ (xs : List Setting). FilesAll b.slot_now xs b.members c.in_ok-members.members) is c.in_ok-members.ensures in
    let plan = subst (λ (y : Core). IsPlanned y CloseSlot c.in-Ok.draft) (sym c.self.view_is) c.in-Ok.ensures in
    let rising = subst AreRisingKeys c.end_one_shots.ensures.ended c.end_one_shots.ensures.rising in
    subst (λ (y : Core). Answers y CloseSlot (core_of c.end_clock-clock.result (b.slot_now + 1) b.requests c.end_one_shots.new.self c.commit.new.self) (Ok c.in_ok-count.count)) c.self.view_is
    (closing-done b.clock b.slot_now b.requests b.structures b.log b.channels b.members fit only c.self.invariant c.in-Ok.draft plan rising c.in_ok-members.members files
    c.end_clock-clock.result c.end_one_shots.new.self c.commit.new.self c.file_settings.new.channels c.in_ok-count.count
    (c.end_clock-clock.ensures ∙ ap end_clock (sym c.self.view_is)) c.end_one_shots.ensures.ended c.in_ok-count.ensures.ok (c.file_settings.ensures ∙ ap (λ (xs : List Setting). with_filings b.slot_now xs b.channels) is3)
    c.in_ok-count.ensures.count).0
