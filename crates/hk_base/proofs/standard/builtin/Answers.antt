use Rattle.std.proofs.Common.{List, sym, subst}
use Rattle.hk_base.specs.declared.types.Param.{Param}
use Rattle.hk_base.specs.declared.types.Boot.{Boot}
use Rattle.hk_base.specs.Fit.{IsFit}
use Rattle.hk_base.specs.Builtin.{builtin_widths, builtin_params}
use Rattle.hk_base.proofs.BuiltinFit.{builtin_fit}
use Rattle.hk_base.proofs.standard.builtin.Goals as goal

pub new-requires : goal.new-requires
new-requires c =
    subst (λ (ps : List Param). IsFit (record { widths = builtin_widths; params = ps; boots = c.in_ok-boots.boots })) (sym c.in_ok-params.ensures)
    (subst (λ (bs : List Boot). IsFit (record { widths = builtin_widths; params = builtin_params; boots = bs })) (sym c.in_ok-boots.ensures) builtin_fit)
