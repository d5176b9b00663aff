use Rattle.std.proofs.Common.{◌≡◌, ◌-◌, ◌≤◌, [], length}
use Rattle.std.specs.Prelude.{reverse}
use Rattle.body_fields.specs.Reading.{list_of}
use Rattle.body_fields.proofs.ListReading.{behind}
use Rattle.body_fields.proofs.list.read_members.Given as goal

abbrev pub invariant-loop-count : goal.invariant-loop-count
invariant-loop-count g l =
    let reader = g.M.ReadMember.reader l.member in
    record {
      read : behind l.members.items (list_of reader (l.count - l._count) (reverse l.members.items) l.rest) ≡ list_of reader l.count [] l.octets;
      left : length l.rest ≤ length l.octets;
    }
