use Rattle.std.proofs.Common.{FitsSigned, rules, ◌≡◌, ℕ, ◌==◌, List, None, Some, sym, ap, ◌∙◌}
use Rattle.std.specs.Int.{w128}
use Rattle.std.specs.Map.{set_value}
use Rattle.std.specs.Option.{option_copied_mut}
use Rattle.std.proofs.lemmas.Int.{to_z-of_z}
use Rattle.board_state.specs.Values.{change_channel, set_channel, channel_at}
use Rattle.board_state.specs.declared.channels.Channel.{Channel}
use Rattle.board_state.proofs.ChangeLemmas.{changed-in-place, absent-same}
use Rattle.board_state.proofs.channels.Channels.set_one.Goals as goal

pub returns-in_default : goal.returns-in_default
returns-in_default c =
    let es : List (ℕ × Channel) = c.self.inside.by_id.entries in
    let none : channel_at es c.args.param ≡ None = sym c.get_mut.ensures.value ∙ ap option_copied_mut c.in_default.is in
    ap (λ m. m.entries) c.get_mut.follows.holds-at-none ∙ sym (absent-same c.args.param (set_channel c.args.value) es none) ∙ ap (change_channel c.args.param (set_channel c.args.value)) c.self.view_is

pub returns : goal.returns
returns c =
    let es : List (ℕ × Channel) = c.self.inside.by_id.entries in
    let some : channel_at es c.args.param ≡ Some c.in-Some.channel.now = sym c.get_mut.ensures.value ∙ ap option_copied_mut c.in-Some.is in
    let fits : FitsSigned w128 c.args.value = search rules in
    ap (λ v. (c.get_mut.follows.lender (set_channel v c.in-Some.channel.now)).entries) (to_z-of_z w128 c.args.value fits)
    ∙ (c.get_mut.follows.holds (set_channel c.args.value c.in-Some.channel.now)).0
    ∙ changed-in-place c.args.param (set_channel c.args.value) es c.in-Some.channel.now c.get_mut.ensures.unique some
    ∙ ap (change_channel c.args.param (set_channel c.args.value)) c.self.view_is
