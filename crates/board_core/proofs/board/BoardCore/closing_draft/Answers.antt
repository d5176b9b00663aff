use Rattle.std.proofs.Common.{arith, ◌+◌, List, map, length, sym, ◌∙◌, ap, subst}
use Rattle.hk_base.specs.Fit.{IsFit}
use Rattle.board_steps.specs.Cores.{Core}
use Rattle.hk_base.specs.declared.types.Key.{Key}
use Rattle.board_steps.specs.Plans.{samples_of, settables}
use Rattle.board_core.specs.Closing.{IsTelling, HasTime}
use Rattle.board_core.proofs.EndCallLemmas.{all-count, settings-time, keys-time, statistics-left, all-drafted}
use Rattle.board_core.proofs.EndDueLemmas.{opening-fails}
use Rattle.board_core.proofs.EndHoldsLemmas.{settings-few, settings-length}
use Rattle.board_core.proofs.board.BoardCore.closing_draft.Goals as goal

pub due-requires : goal.due-requires
due-requires c = ap length c.requires.settings ∙ settings-length c.args.self.now

pub overflow_add-filings : goal.overflow_add-filings
overflow_add-filings c =
    let fit = subst (λ (y : Core). IsFit y.tailoring) c.self.view_is (subst IsFit c.tailoring.ensures c.widths-fit.ensures.fit) in
    let few = settings-few c.args.self.now fit in
    let same = ap length c.requires.settings in
    let due = c.in_ok-due.ensures.few in
    let count = c.count.ensures in
    omega (arith, few, same, due, count)

pub opening-requires-clause-count : goal.opening-requires-clause-count
opening-requires-clause-count c =
    let all = all-count c.args.self.now c.in_ok-due.due c.args.settings.now c.requires.settings c.in_ok-due.ensures.told in
    ap (λ n. length c.args.settings.now + n) c.count.ensures ∙ all

pub opening-requires-clause-few : goal.opening-requires-clause-few
opening-requires-clause-few c =
    let fit = subst (λ (y : Core). IsFit y.tailoring) c.self.view_is (subst IsFit c.tailoring.ensures c.widths-fit.ensures.fit) in
    let few = settings-few c.args.self.now fit in
    let same = ap length c.requires.settings in
    let due = c.in_ok-due.ensures.few in
    let count = c.count.ensures in
    omega (arith, few, same, due, count)

pub returns-in-Err : goal.returns-in-Err
returns-in-Err c = opening-fails c.args.self.now c.in-Err.fault c.in-Err.ensures

pub add_filings-requires-clause-draft : goal.add_filings-requires-clause-draft
add_filings-requires-clause-draft c = c.in-Ok.ensures.2

pub add_filings-requires-clause-left : goal.add_filings-requires-clause-left
add_filings-requires-clause-left c =
    settings-time c.args.self.now c.in_ok-due.due c.args.settings.now c.requires.settings c.in_ok-due.ensures.told c.in-Ok.draft c.in-Ok.ensures

pub add_values-requires-clause-left : goal.add_values-requires-clause-left
add_values-requires-clause-left c =
    subst (λ (ks : List Key). HasTime c.args.self.now (length (settables c.args.self.now.tailoring) + length ks)) (sym c.as_slice.ensures.value)
    (keys-time c.args.self.now c.in_ok-due.due c.args.settings.now c.requires.settings c.in_ok-due.ensures.told c.in-Ok.draft c.in-Ok.ensures)

pub add_due_statistics-requires-clause-draft : goal.add_due_statistics-requires-clause-draft
add_due_statistics-requires-clause-draft c =
    let t = subst (λ (ks : List Key). IsTelling c.args.self.now (map samples_of ks) c.add_values.new.draft) c.as_slice.ensures.value c.in_ok-add_values.ensures in
    statistics-left c.args.self.now c.in_ok-due.due c.args.settings.now c.requires.settings c.in_ok-due.ensures.told c.in-Ok.draft c.in-Ok.ensures c.add_values.new.draft t

pub returns : goal.returns
returns c =
    let t = subst (λ (ks : List Key). IsTelling c.args.self.now (map samples_of ks) c.add_values.new.draft) c.as_slice.ensures.value c.in_ok-add_values.ensures in
    all-drafted c.args.self.now c.in_ok-due.due c.args.settings.now c.requires.settings c.in_ok-due.ensures.told c.in-Ok.draft c.in-Ok.ensures c.add_due_statistics.new.draft
    (c.in_ok-add_due_statistics.ensures (map samples_of c.in_ok-due.due.keys.items) t)
