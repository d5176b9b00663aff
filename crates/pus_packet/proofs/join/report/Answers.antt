use Rattle.std.proofs.Common.{arith, ap, ◌∙◌, ◌-◌, ◌++◌}
use Rattle.hk_base.specs.Fields.{octets_of}
use Rattle.pus_packet.proofs.Parts.{report_parts}
use Rattle.pus_packet.proofs.join.report.Goals as goal

pub returns : goal.returns
returns c =
    c.from_vec.ensures
    ∙ report_parts c.args.checksum c.args.time c.args.header.now c.args.body.now (c.args.size - 7) c.in_ok-out.out.items c.put_primary.new.out.items c.put_secondary.new.out.items c.put_word.new.out.items
    c.put_word-2.new.out.items c.put_uint.new.out.items c.extend_from_slice.new.self.items c.put_checksum.new.out.items
    c.in_ok-out.ensures.items
    c.in_ok-put_primary.ensures
    c.in_ok-put_secondary.ensures
    c.in_ok-put_word.ensures
    c.in_ok-put_word-2.ensures
    (c.in_ok-put_uint.ensures.ok ∙ ap (λ n. c.put_word-2.new.out.items ++ octets_of c.args.time n) c.from.ensures)
    c.in_ok-extend_from_slice.ensures.items
    c.in_ok-put_checksum.ensures
    (omega (arith, c.requires.size))
