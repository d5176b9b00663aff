use Rattle.std.proofs.Common.{FitsSigned, rules, ◌≡◌, ℕ, ◌<◌, List, Option, Some, None, IfSome, ◌==◌, sym, subst, ap, ◌∙◌}
use Rattle.std.specs.Map.{set_value}
use Rattle.std.specs.Int.{w128}
use Rattle.std.proofs.lemmas.Int.{to_z-of_z}
use Rattle.std.specs.Option.{option_copied_mut}
use Rattle.board_state.specs.Values.{IsLater, change_channel, filed_channel, channel_at}
use Rattle.board_state.specs.declared.channels.Channel.{Channel}
use Rattle.board_state.proofs.ChangeLemmas.{changed-in-place, absent-same}
use Rattle.board_state.proofs.channels.Channels.file.Goals as goal

pub returns-in_default : goal.returns-in_default
returns-in_default c =
    let es : List (ℕ × Channel) = c.self.inside.by_id.entries in
    let none : channel_at es c.args.param ≡ None = sym c.get_mut.ensures.value ∙ ap option_copied_mut c.in_default.is in
    ap (λ m. m.entries) c.get_mut.follows.holds-at-none ∙ sym (absent-same c.args.param (filed_channel c.args.slot c.args.value) es none) ∙ ap (change_channel c.args.param (filed_channel c.args.slot c.args.value)) c.self.view_is

pub file-requires : goal.file-requires
file-requires c =
    let es : List (ℕ × Channel) = c.self.inside.by_id.entries in
    let some : channel_at es c.args.param ≡ Some c.in-Some.channel.now = sym c.get_mut.ensures.value ∙ ap option_copied_mut c.in-Some.is in
    let known : IfSome (channel_at es c.args.param) (IsLater c.args.slot) = subst (λ (xs : List (ℕ × Channel)). IfSome (channel_at xs c.args.param) (IsLater c.args.slot)) (sym c.self.view_is) c.requires in
    subst (λ (o : Option Channel). IfSome o (IsLater c.args.slot)) some known

pub returns : goal.returns
returns c =
    let es : List (ℕ × Channel) = c.self.inside.by_id.entries in
    let some : channel_at es c.args.param ≡ Some c.in-Some.channel.now = sym c.get_mut.ensures.value ∙ ap option_copied_mut c.in-Some.is in
    let fits : FitsSigned w128 c.args.value = search rules in
    let new : c.file.new.self ≡ filed_channel c.args.slot c.args.value c.in-Some.channel.now =
    c.file.ensures ∙ ap (λ v. filed_channel c.args.slot v c.in-Some.channel.now) (to_z-of_z w128 c.args.value fits) in
    (c.get_mut.follows.holds c.file.new.self).0
    ∙ ap (set_value (λ k. c.args.param == k) es) new
    ∙ changed-in-place c.args.param (filed_channel c.args.slot c.args.value) es c.in-Some.channel.now c.get_mut.ensures.unique some
    ∙ ap (change_channel c.args.param (filed_channel c.args.slot c.args.value)) c.self.view_is
