use Rattle.std.proofs.Common.{◌≡◌, ℕ, [], Some, sym, ap, ◌∙◌}
use Rattle.std.specs.Prelude.{nat_eq, slice_get}
use Rattle.indexmap.specs.IndexMap.{insert_entry}
use Rattle.circular_buffer.specs.Buffer.{buffer}
use Rattle.hk_base.specs.Parameters.{is_settable}
use Rattle.hk_base.specs.declared.types.Widths.{Widths}
use Rattle.std.specs.Option.{option_copied}
use Rattle.board_state.specs.Values.{new_channel}
use Rattle.board_state.proofs.ChangeLemmas.{next-channel}
use Rattle.board_state.proofs.channels.Channels.new.Goals as goal

pub loop-number-preserved : goal.loop-number-preserved
loop-number-preserved c =
    let t = c.args.tailoring.now in
    let p = c.in-Some.param.now in
    let at : slice_get t.params c.loop-number.number ≡ Some p = sym c.param_at.ensures.param ∙ ap option_copied c.in-Some.is in
    c.in_ok-insert.ensures.entries ∙ ap (insert_entry nat_eq c.loop-number.by_id.entries p.id) c.in_ok-new.ensures
    ∙ ap (λ (w : Widths). insert_entry nat_eq c.loop-number.by_id.entries p.id (record { is_settable = is_settable p; value = p.initial; window = buffer [] w.max_interval })) c.widths.ensures.widths
    ∙ next-channel t c.loop-number.by_id c.loop-number.number p c.widths.ensures.fit.ids at c.loop-number.invariant
