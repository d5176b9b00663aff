use Rattle.std.proofs.Common.{arith, ◌∙◌, ◌-◌}
use Rattle.pus_packet.proofs.Parts.{command_parts}
use Rattle.pus_packet.proofs.join.command.Goals as goal

pub returns : goal.returns
returns c =
    c.from_vec.ensures
    ∙ command_parts c.args.checksum c.args.header.now c.args.body.now (c.args.size - 7) c.in_ok-out.out.items c.put_primary.new.out.items c.put_secondary.new.out.items c.put_word.new.out.items
    c.extend_from_slice.new.self.items c.put_checksum.new.out.items
    c.in_ok-out.ensures.items
    c.in_ok-put_primary.ensures
    c.in_ok-put_secondary.ensures
    c.in_ok-put_word.ensures
    c.in_ok-extend_from_slice.ensures.items
    c.in_ok-put_checksum.ensures
    (omega (arith, c.requires.size))
