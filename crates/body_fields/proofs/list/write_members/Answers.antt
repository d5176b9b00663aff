use Rattle.std.specs.Prelude.{flat_map}
use Rattle.std.proofs.Common.{take}
use Rattle.std.proofs.lemmas.Result.{err_from_is_err_and}
use Rattle.body_fields.proofs.WritingLemmas.{kept_before}
use Rattle.body_fields.proofs.list.write_members.Goals as goal

pub returns-in_err-write_member : goal.returns-in_err-write_member
returns-in_err-write_member g c =
    let p = err_from_is_err_and c.from_residual.result c.from_residual.ensures.1 in
    let written = flat_map (g.M.WriteMember.spelling c.args.writer.now) (take c.loop-member.member-index c.args.members.now) in
    rw p.1 (kept_before c.args.out.now.items written c.loop-member.out.items c.write_member.new.out.items c.loop-member.invariant c.in_err-write_member.ensures)
