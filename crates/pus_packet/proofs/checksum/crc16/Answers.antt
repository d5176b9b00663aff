use Rattle.std.proofs.Common.{◌≡◌, sym, ap, ◌∙◌, get_or, arith, drop, suc, ◌+◌, ◌%◌, ◌*◌, [], add-one}
use Rattle.std.specs.Prelude.{bit_xor}
use Rattle.std.proofs.Math.Seq.{drop-cons}
use Rattle.std.proofs.lemmas.List.{drop_all}
use Rattle.pus_packet.proofs.Registers.{left-start, left-end, left-more, left_by, next_register}
use Rattle.pus_packet.proofs.checksum.crc16.Goals as goal

pub loop-octet-init : goal.loop-octet-init
loop-octet-init c = left-start c.args.bytes.now

pub loop-octet-preserved : goal.loop-octet-preserved
loop-octet-preserved c =
    let bytes = c.args.bytes.now in
    let at = c.loop-octet.octet-index in
    let register = c.loop-octet.register in
    let octet = get_or bytes at 0 in
    ap (λ entry. left_by (bit_xor (register * 256 % 65536) entry) (drop (at + 1) bytes)) c.left_of.ensures
    ∙ (ap (λ i. left_by (next_register register octet) (drop i bytes)) (add-one at)
    ∙ (sym (left-more register octet (drop (suc at) bytes) (omega arith) (omega (arith, c.type_inv.bytes at)))
    ∙ (ap (left_by register) (sym (drop-cons bytes at 0 c.loop-octet-test.true)) ∙ c.loop-octet.invariant)))

pub returns : goal.returns
returns c =
    let none : drop c.loop-octet.octet-index c.args.bytes.now ≡ [] = drop_all c.loop-octet.octet-index c.args.bytes.now c.loop-octet-test.false in
    sym (left-end c.loop-octet.register (omega arith)) ∙ (ap (left_by c.loop-octet.register) (sym none) ∙ c.loop-octet.invariant)
