use Rattle.std.proofs.Common.{arith, ◌<◌, ◌*◌, ◌^◌, subst, sym}
use Rattle.hk_base.specs.declared.types.Widths.{Widths}
use Rattle.board_state.proofs.RowLemmas.{greatest-among, least-among}
use Rattle.board_state.proofs.members.Member.row.Goals as goal

pub overflow_mul-result : goal.overflow_mul-result
overflow_mul-result c =
    let s = c.in-Ok.ensures.ok c.requires.samples c.requires.totals in
    let h = greatest-among (λ y. y.slot * c.args.tailoring.now.widths.slot < 2 ^ 63) c.requires.samples (record { slot = c.in-Ok.summary.max_slot; value = c.in-Ok.summary.max }) s.max c.requires.times in
    let k = subst (λ (w : Widths). c.in-Ok.summary.max_slot * w.slot < 2 ^ 63) (sym c.widths-widths.ensures.widths) h in
    omega (arith, k)

pub overflow_mul-result-in-Ok : goal.overflow_mul-result-in-Ok
overflow_mul-result-in-Ok c =
    let s = c.in-Ok.ensures.ok c.requires.samples c.requires.totals in
    let h = least-among (λ y. y.slot * c.args.tailoring.now.widths.slot < 2 ^ 63) c.requires.samples (record { slot = c.in-Ok.summary.min_slot; value = c.in-Ok.summary.min }) s.min c.requires.times in
    let k = subst (λ (w : Widths). c.in-Ok.summary.min_slot * w.slot < 2 ^ 63) (sym c.widths-widths.ensures.widths) h in
    omega (arith, k)
