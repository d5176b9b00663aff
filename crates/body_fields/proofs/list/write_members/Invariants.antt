use Rattle.std.proofs.Common.{◌≡◌, ◌++◌, take}
use Rattle.std.specs.Prelude.{flat_map}
use Rattle.body_fields.proofs.list.write_members.Given as goal

abbrev pub invariant-loop-member : goal.invariant-loop-member
invariant-loop-member g l = l.out.items ≡ l.fn.out.items ++ flat_map (g.M.WriteMember.spelling l.writer) (take l.member-index l.members)
