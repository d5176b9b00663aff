use Rattle.std.proofs.Common.{eqb, arith, sym}
use Rattle.hk_base.specs.Fit.{IsFitShape}
use Rattle.hk_base.specs.declared.types.Param.{Param}
use Rattle.hk_base.proofs.Finds.{find_each}
use Rattle.hk_base.proofs.payload.bits_of.Goals as goal

pub returns-in-Some-clause-most : goal.returns-in-Some-clause-most
returns-in-Some-clause-most g c =
    let shape = find_each IsFitShape (λ (p : Param). eqb p.id c.args.id) (g.P.ParamTable.params c.args.table.now) c.in-Some.param.now (sym c.in-Some.ensures) c.requires in
    omega (arith, shape.bits.1, c.from.ensures)
