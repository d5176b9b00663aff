use Rattle.std.proofs.Common.{◌≡◌, ℕ, List, sym, ◌∙◌, ap, subst, Ok}
use Rattle.hk_base.specs.Fit.{IsFit}
use Rattle.st20_grammar.specs.declared.bodies.Setting.{Setting}
use Rattle.board_steps.specs.Cores.{Core}
use Rattle.board_steps.specs.Steps.{Answers}
use Rattle.board_steps.specs.declared.event.Event.TheVariants.{Work}
use Rattle.board_state.specs.Values.{with_settings}
use Rattle.board_state.specs.declared.channels.Channel.{Channel}
use Rattle.board_core.specs.Boards.{core_of, IsWhole}
use Rattle.board_core.specs.Effects.{IsToCarry}
use Rattle.board_core.specs.declared.effect.Effect.TheVariants.{SetValues}
use Rattle.board_core.proofs.CarriedLemmas.{left-first}
use Rattle.board_core.proofs.SetLemmas.{set-finished}
use Rattle.board_core.proofs.board.BoardCore.set_values.Goals as goal

pub count_done-requires : goal.count_done-requires
count_done-requires c =
    let b = c.self.inside in
    left-first b.clock b.slot_now b.requests b.structures b.log (SetValues c.args.settings) c.args.draft (subst (λ (x : Core). IsToCarry x (SetValues c.args.settings) c.args.draft) (sym c.self.view_is) c.requires)
    b.requests.waiting c.self.invariant.board.waits

pub invariant_of-self-2 : goal.invariant_of-self-2
invariant_of-self-2 c =
    let b = c.self.inside in
    let t = subst (λ (x : Core). IsToCarry x (SetValues c.args.settings) c.args.draft) (sym c.self.view_is) c.requires in
    let is : c.set.new.self ≡ with_settings c.args.settings b.channels = c.set.ensures ∙ ap (λ (xs : List Setting). with_settings xs b.channels) c.as_slice.ensures in
    subst (λ (cs : List (ℕ × Channel)). IsWhole (core_of b.clock b.slot_now c.count_done.new.self b.structures c.commit.new.self) c.count_done.new.self.waiting b.structures cs b.members) (sym is)
    (set-finished b.clock b.slot_now b.requests b.structures b.log b.channels b.members c.args.draft (subst IsFit c.tailoring.ensures c.widths-fit.ensures.fit)
    (c.requests_are_spelled.ensures.only b.log.tailoring) c.self.invariant c.args.settings t c.count_done.new.self c.commit.new.self c.in_ok-count.count
    (record { requests = c.count_done.ensures; log = c.in_ok-count.ensures.ok; count_is = c.in_ok-count.ensures.count })).1

pub returns : goal.returns
returns c =
    let b = c.self.inside in
    let t = subst (λ (x : Core). IsToCarry x (SetValues c.args.settings) c.args.draft) (sym c.self.view_is) c.requires in
    subst (λ (x : Core). Answers x Work (core_of b.clock b.slot_now c.count_done.new.self b.structures c.commit.new.self) (Ok c.in_ok-count.count)) c.self.view_is
    (set-finished b.clock b.slot_now b.requests b.structures b.log b.channels b.members c.args.draft (subst IsFit c.tailoring.ensures c.widths-fit.ensures.fit)
    (c.requests_are_spelled.ensures.only b.log.tailoring) c.self.invariant c.args.settings t c.count_done.new.self c.commit.new.self c.in_ok-count.count
    (record { requests = c.count_done.ensures; log = c.in_ok-count.ensures.ok; count_is = c.in_ok-count.ensures.count })).0
