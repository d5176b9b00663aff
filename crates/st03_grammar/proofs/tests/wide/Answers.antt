use Rattle.std.proofs.Common.{◌≡◌, ◌∙◌, lit≤, lit<, refl, sym, subst, List, [], ◌∷◌, None}
use Rattle.std.specs.List.{IsDistinct}
use Rattle.hk_base.specs.Fit.{IsFit, IsFitWidths}
use Rattle.hk_base.specs.TailoringParts.{TailoringParts}
use Rattle.hk_base.specs.declared.types.Form.TheVariants.{Boolean}
use Rattle.hk_base.specs.declared.types.Param.{Param}
use Rattle.hk_base.specs.declared.types.Boot.{Boot}
use Rattle.st03_grammar.specs.declared.tests.TheConstants.{WIDE_COUNTS}
use Rattle.st03_grammar.proofs.tests.wide.Goals as goal

abbrev flag : Param
flag = record { id = 1; form = Boolean; octets = 1; bits = 8; initial = None }

abbrev parts : List Param → List Boot → TailoringParts
parts params boots = record { widths = WIDE_COUNTS; params = params; boots = boots }

widths_fit : IsFitWidths WIDE_COUNTS
widths_fit = record {
  apid = lit≤ tt;
  address = lit< tt;
  coarse = (lit≤ tt, lit≤ tt);
  fine = lit≤ tt;
  slot = (lit≤ tt, lit≤ tt);
  structure_octets = (lit≤ tt, lit≤ tt);
  parameter_octets = (lit≤ tt, lit≤ tt);
  interval_octets = (lit≤ tt, lit≤ tt);
  count_octets = (lit≤ tt, lit≤ tt);
  repetition_octets = (lit≤ tt, lit≤ tt);
  step_octets = (lit≤ tt, lit≤ tt);
  mean_fraction = lit≤ tt;
  max_interval = ((lit≤ tt, lit≤ tt), lit< tt);
  max_payload = (lit≤ tt, lit≤ tt);
}

fit : IsFit (parts (flag ∷ []) [])
unfolding IsDistinct
fit = record {
  widths = widths_fit;
  count = (lit≤ tt, lit≤ tt);
  params = (record { id = lit< tt; shape = record { bits = (lit≤ tt, lit≤ tt); octets = refl; form = tt }; whole = refl; initial = tt }, tt);
  ids = (tt, tt);
  boot_count = lit≤ tt;
  boots = tt;
  keys = tt;
}

pub new-requires-2 : goal.new-requires-2
new-requires-2 c =
    let params : c.from_vec-params.result ≡ flag ∷ [] = c.from_vec-params.ensures ∙ c.in_ok-from_array.ensures.items in
    let boots : c.from_vec-boots.result ≡ [] = c.from_vec-boots.ensures ∙ c.new.ensures.items in
    subst (λ (bs : List Boot). IsFit (parts c.from_vec-params.result bs)) (sym boots) (subst (λ (ps : List Param). IsFit (parts ps [])) (sym params) fit)
