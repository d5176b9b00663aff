use Rattle.std.proofs.Common.{subst, sym, ◌++◌, ◌∷◌, []}
use Rattle.std.proofs.lemmas.Int.{to_z-of_z}
use Rattle.statistics.specs.Summaries.{sample, AreTotals}
use Rattle.statistics.proofs.TotalsLemmas.{totals-more}
use Rattle.statistics.proofs.stat.Stat.add.Goals as goal

pub returns-clause-ok : goal.returns-clause-ok
returns-clause-ok c = λ samples held.
    let fits = c.ranges.value in
    let x = sample c.args.slot c.args.value in
    subst (AreTotals (samples ++ x ∷ [])) (sym (simp to_z-of_z at c.count.ensures))
    (totals-more samples c.args.self.now c.raise_max.new.self c.lower_min.new.self x held (simp to_z-of_z at c.raise_max.ensures) (simp to_z-of_z at c.lower_min.ensures))
