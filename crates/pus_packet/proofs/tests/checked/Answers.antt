use Rattle.std.proofs.Common.{◌≡◌, ◌∙◌, ◌*◌, lit≤, lit<, refl, arith, Bool, true, List, [], ◌∷◌, None}
use Rattle.std.specs.List.{IsDistinct}
use Rattle.hk_base.specs.TailoringParts.{TailoringParts}
use Rattle.hk_base.specs.Builtin.{sensed}
use Rattle.hk_base.specs.Fit.{IsFit}
use Rattle.hk_base.specs.declared.types.Form.TheVariants.{Unsigned}
use Rattle.pus_packet.specs.declared.tests.TheConstants.{CHECKED_WIDTHS}
use Rattle.pus_packet.proofs.tests.checked.Goals as goal

parts : TailoringParts
parts = record { widths = CHECKED_WIDTHS; params = sensed 1 Unsigned 2 ∷ []; boots = [] }

fit : IsFit parts
unfolding parts IsDistinct
fit = record {
  widths = record {
    apid = lit≤ tt;
    address = lit< tt;
    coarse = (lit≤ tt, lit≤ tt);
    fine = lit≤ tt;
    slot = (lit≤ tt, lit≤ tt);
    structure_octets = (lit≤ tt, lit≤ tt);
    parameter_octets = (lit≤ tt, lit≤ tt);
    interval_octets = (lit≤ tt, lit≤ tt);
    count_octets = (lit≤ tt, lit≤ tt);
    repetition_octets = (lit≤ tt, lit≤ tt);
    step_octets = (lit≤ tt, lit≤ tt);
    mean_fraction = lit≤ tt;
    max_interval = ((lit≤ tt, lit≤ tt), lit< tt);
    max_payload = (lit≤ tt, lit≤ tt);
  };
  count = (lit≤ tt, lit≤ tt);
  params = (record { id = lit< tt; shape = record { bits = (lit≤ tt, lit≤ tt); octets = refl; form = tt }; whole = refl; initial = tt }, tt);
  ids = (tt, tt);
  boot_count = lit≤ tt;
  boots = tt;
  keys = tt;
}

pub new-requires-2 : goal.new-requires-2
unfolding parts
new-requires-2 c =
    let params = c.from_vec-params.ensures ∙ c.in_ok-from_array.ensures.items in
    let boots = c.from_vec-boots.ensures ∙ c.new.ensures.items in
    rw (params, boots) fit
