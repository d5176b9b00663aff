use Rattle.std.proofs.Common.{arith, ◌≤◌, ◌≡◌, ◌∙◌, ap, subst, sym, ◌*ℤ◌, FitsSigned, rules}
use Rattle.std.specs.Int.{w128}
use Rattle.std.specs.Prelude.{unsigned_abs}
use Rattle.std.proofs.lemmas.Int.{to_z-of_z, fits_signed_mul}
use Rattle.statistics.specs.Summaries.{floor_div}
use Rattle.statistics.proofs.TotalsLemmas.{sum-few}
use Rattle.statistics.proofs.stat.mean.Goals as goal

pub overflow_mul-sum : goal.overflow_mul-sum
overflow_mul-sum c =
    let sum_fits = c.ranges.sum in
    let scale_fits : FitsSigned w128 c.scale_of.result = search rules in
    let few : unsigned_abs c.scale_of.result ≤ 65536 = subst (λ z. unsigned_abs z ≤ 65536) (sym c.scale_of.ensures.value) c.scale_of.ensures.few in
    simp to_z-of_z
    (fits_signed_mul w128 c.args.sum c.scale_of.result 79228162514264337593543950336 65536
    (sum-few c.args.count c.args.sum c.ranges.count.fits c.requires.bounded) few (omega arith))

pub returns : goal.returns
returns c =
    let sum_fits = c.ranges.sum in
    let scale_fits : FitsSigned w128 c.scale_of.result = search rules in
    let mean_fits : FitsSigned w128 c.floor_div.result = search rules in
    let few : unsigned_abs c.scale_of.result ≤ 65536 = subst (λ z. unsigned_abs z ≤ 65536) (sym c.scale_of.ensures.value) c.scale_of.ensures.few in
    let product_fits = fits_signed_mul w128 c.args.sum c.scale_of.result 79228162514264337593543950336 65536
    (sum-few c.args.count c.args.sum c.ranges.count.fits c.requires.bounded) few (omega arith) in
    let quotient : c.floor_div.result ≡ floor_div (c.args.sum *ℤ c.scale_of.result) c.args.count = simp to_z-of_z at c.floor_div.ensures in
    simp to_z-of_z (quotient ∙ ap (λ s. floor_div (c.args.sum *ℤ s) c.args.count) c.scale_of.ensures.value)
