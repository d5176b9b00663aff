use Rattle.std.proofs.Common.{◌≡◌, ◌∙◌, lit≤, lit<, refl, sym, subst, List, [], ◌∷◌, Some, pos}
use Rattle.std.specs.List.{IsDistinct}
use Rattle.hk_base.specs.Fit.{IsFit, IsFitWidths}
use Rattle.hk_base.specs.TailoringParts.{TailoringParts}
use Rattle.hk_base.specs.declared.types.Form.TheVariants.{Signed}
use Rattle.hk_base.specs.declared.types.Param.{Param}
use Rattle.hk_base.specs.declared.types.Boot.{Boot}
use Rattle.hk_base.specs.declared.types.TheConstants.{BUILTIN_WIDTHS}
use Rattle.message_words.proofs.tests.settable.Goals as goal

abbrev signed : Param
signed = record { id = 2; form = Signed; octets = 1; bits = 8; initial = Some (pos 0) }

abbrev parts : List Param → List Boot → TailoringParts
parts params boots = record { widths = BUILTIN_WIDTHS; params = params; boots = boots }

widths_fit : IsFitWidths BUILTIN_WIDTHS
widths_fit = record {
  apid = lit≤ tt;
  address = lit< tt;
  coarse = (lit≤ tt, lit≤ tt);
  fine = lit≤ tt;
  slot = (lit≤ tt, lit≤ tt);
  structure_octets = (lit≤ tt, lit≤ tt);
  parameter_octets = (lit≤ tt, lit≤ tt);
  interval_octets = (lit≤ tt, lit≤ tt);
  count_octets = (lit≤ tt, lit≤ tt);
  repetition_octets = (lit≤ tt, lit≤ tt);
  step_octets = (lit≤ tt, lit≤ tt);
  mean_fraction = lit≤ tt;
  max_interval = ((lit≤ tt, lit≤ tt), lit< tt);
  max_payload = (lit≤ tt, lit≤ tt);
}

fit : IsFit (parts (signed ∷ []) [])
unfolding IsDistinct
fit = record {
  widths = widths_fit;
  count = (lit≤ tt, lit≤ tt);
  params = (record { id = lit< tt; shape = record { bits = (lit≤ tt, lit≤ tt); octets = refl; form = tt }; whole = refl; initial = refl }, tt);
  ids = (tt, tt);
  boot_count = lit≤ tt;
  boots = tt;
  keys = tt;
}

pub new-requires-2 : goal.new-requires-2
new-requires-2 c =
    let params : c.from_vec-params.result ≡ signed ∷ [] = c.from_vec-params.ensures ∙ c.in_ok-from_array.ensures.items in
    let boots : c.from_vec-boots.result ≡ [] = c.from_vec-boots.ensures ∙ c.new.ensures.items in
    subst (λ (bs : List Boot). IsFit (parts c.from_vec-params.result bs)) (sym boots) (subst (λ (ps : List Param). IsFit (parts ps [])) (sym params) fit)
