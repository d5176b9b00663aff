use Rattle.std.proofs.Common.{arith}
use Rattle.std.proofs.lemmas.Grind.{common_steps}
use Rattle.report_structures.proofs.FormedLemmas.{extended_formed}
use Rattle.report_structures.proofs.application.append.Goals as goal

pub check_narrow-requires : goal.check_narrow-requires
check_narrow-requires c =
    let d = c.args.before.now.def in
    let a = c.args.added.now in
    extended_formed c.args.tailoring.now d c.in_ok-longer.longer a c.in_ok-longer.ensures c.requires.formed c.requires.grammar
    (grind (arith, common_steps)) (grind (arith, common_steps)) (grind (arith, common_steps)) (grind (arith, common_steps))
