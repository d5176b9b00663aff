use Rattle.std.proofs.Common.{Vec, Global, refl, ◌≡◌, ◌+◌, ◌≤◌, sym, ◌∙◌, ap, subst}
use Rattle.std.specs.Prelude.{IfSome, filter}
use Rattle.std.specs.List.{All}
use Rattle.hk_base.specs.declared.types.Key.{Key}
use Rattle.board_steps.specs.Cores.{Core, state_of}
use Rattle.board_steps.specs.Plans.{every_key, is_reported}
use Rattle.board_core.specs.Boards.{core_of}
use Rattle.board_core.specs.Closing.{is_whole}
use Rattle.board_core.proofs.EndLemmas.{if-ok}
use Rattle.board_core.proofs.EndKeyLemmas.{intervals-some, due-intervals}
use Rattle.board_core.proofs.ReportedLemmas.{reported-keys}
use Rattle.board_core.proofs.board.BoardCore.reported_keys.Goals as goal

pub due-requires : goal.due-requires
due-requires c =
    let b = c.self.inside in
    let before : Core = core_of b.clock b.slot_now b.requests b.structures b.log in
    intervals-some before b.structures c.self.invariant.structures

pub whole_keys-requires : goal.whole_keys-requires
whole_keys-requires c =
    let b = c.self.inside in
    let before : Core = core_of b.clock b.slot_now b.requests b.structures b.log in
    subst (λ (y : Core). All (λ (key : Key). IfSome ((state_of y).structure key) (λ x. x.def.interval ≤ y.slot_now + 1)) c.as_slice.result.now) c.self.view_is
    (subst (All (λ (key : Key). IfSome ((state_of before).structure key) (λ x. x.def.interval ≤ b.slot_now + 1))) (sym (c.as_slice.ensures.value ∙ c.in_ok-due.ensures)) (due-intervals before b.structures refl c.self.invariant.structures))

pub returns : goal.returns
returns c =
    let b = c.self.inside in
    let before : Core = core_of b.clock b.slot_now b.requests b.structures b.log in
    let here = ap (filter (is_whole before)) (c.as_slice.ensures.value ∙ c.in_ok-due.ensures) ∙ reported-keys before b.structures refl c.self.invariant.structures in
    let all = subst (λ (y : Core). filter (is_whole y) c.as_slice.result.now ≡ filter (is_reported y) (every_key y.tailoring)) c.self.view_is here in
    if-ok (λ (keys : Vec Key Global). keys.items ≡ filter (is_whole c.args.self.now) c.as_slice.result.now)
    (λ (keys : Vec Key Global). keys.items ≡ filter (is_reported c.args.self.now) (every_key c.args.self.now.tailoring)) (λ keys e. e ∙ all) c.whole_keys.result c.whole_keys.ensures
