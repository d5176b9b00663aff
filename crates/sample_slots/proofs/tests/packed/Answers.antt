use Rattle.std.proofs.Common.{◌≡◌, ◌∙◌, ℕ, ap, get_or, lit≤, lit<, refl, sym, subst, List, [], ◌∷◌, None, true, rules}
use Rattle.std.specs.List.{IsDistinct}
use Rattle.hk_base.specs.Fit.{IsFit, IsFitWidths}
use Rattle.hk_base.specs.TailoringParts.{TailoringParts}
use Rattle.hk_base.specs.declared.types.Form.TheVariants.{Unsigned, Signed, Boolean}
use Rattle.hk_base.specs.declared.types.Kind.TheVariants.{Housekeeping}
use Rattle.hk_base.specs.declared.types.Param.{Param}
use Rattle.hk_base.specs.declared.types.Boot.{Boot}
use Rattle.hk_base.specs.declared.types.SuperList.{SuperList}
use Rattle.sample_slots.specs.declared.tests.TheConstants.{PACKED_WIDTHS}
use Rattle.sample_slots.proofs.tests.packed.Goals as goal

abbrev params : List Param
params =
    record { id = 1; form = Unsigned; octets = 1; bits = 3; initial = None }
    ∷ record { id = 2; form = Signed; octets = 1; bits = 5; initial = None }
    ∷ record { id = 3; form = Boolean; octets = 1; bits = 1; initial = None }
    ∷ record { id = 4; form = Unsigned; octets = 1; bits = 3; initial = None }
    ∷ []

abbrev boots : List Boot
boots =
    record {
      key = record { kind = Housekeeping; id = 1 };
      structure = record {
        def = record { interval = 2; simple = 1 ∷ 2 ∷ 3 ∷ []; arrays = record { repetition = 2; params = 4 ∷ [] } ∷ [] };
        enabled = true;
      };
    }
    ∷ []

abbrev parts : List Param → List Boot → TailoringParts
parts ps bs = record { widths = PACKED_WIDTHS; params = ps; boots = bs }

widths_fit : IsFitWidths PACKED_WIDTHS
widths_fit = record {
  apid = lit≤ tt;
  address = lit< tt;
  coarse = (lit≤ tt, lit≤ tt);
  fine = lit≤ tt;
  slot = (lit≤ tt, lit≤ tt);
  structure_octets = (lit≤ tt, lit≤ tt);
  parameter_octets = (lit≤ tt, lit≤ tt);
  interval_octets = (lit≤ tt, lit≤ tt);
  count_octets = (lit≤ tt, lit≤ tt);
  repetition_octets = (lit≤ tt, lit≤ tt);
  step_octets = (lit≤ tt, lit≤ tt);
  mean_fraction = lit≤ tt;
  max_interval = ((lit≤ tt, lit≤ tt), lit< tt);
  max_payload = (lit≤ tt, lit≤ tt);
}

fit : IsFit (parts params boots)
unfolding IsDistinct
fit = record {
  widths = widths_fit;
  count = (lit≤ tt, lit≤ tt);
  params = (
    record { id = lit< tt; shape = record { bits = (lit≤ tt, lit≤ tt); octets = refl; form = tt }; whole = tt; initial = tt },
    (
      record { id = lit< tt; shape = record { bits = (lit≤ tt, lit≤ tt); octets = refl; form = tt }; whole = tt; initial = tt },
      (
        record { id = lit< tt; shape = record { bits = (lit≤ tt, lit≤ tt); octets = refl; form = tt }; whole = tt; initial = tt },
        (record { id = lit< tt; shape = record { bits = (lit≤ tt, lit≤ tt); octets = refl; form = tt }; whole = tt; initial = tt }, tt),
      ),
    ),
  );
  ids = search rules;
  boot_count = lit≤ tt;
  boots = (
    record {
      id = lit< tt;
      valid = record {
        formed = record {
          interval = (lit≤ tt, lit≤ tt);
          some = lit≤ tt;
          known = (refl, (refl, (refl, (refl, tt))));
          once = refl;
          simple = lit≤ tt;
          few_arrays = lit≤ tt;
          arrays = (record { members = lit≤ tt; few = lit≤ tt; repeated = lit≤ tt; field = lit< tt; divides = refl }, tt);
        };
        narrow = lit≤ tt;
      };
    },
    tt,
  );
  keys = (tt, tt);
}

abbrev four : Param → Param → Param → Param → List Param
four a b c d = a ∷ b ∷ c ∷ d ∷ []

abbrev arrays_of : List ℕ → List SuperList
arrays_of ids = record { repetition = 2; params = ids } ∷ []

abbrev boots_of : List ℕ → List SuperList → List Boot
boots_of simple arrays =
    record {
      key = record { kind = Housekeeping; id = 1 };
      structure = record { def = record { interval = 2; simple = simple; arrays = arrays }; enabled = true };
    }
    ∷ []

pub new-requires : goal.new-requires
new-requires c =
    let given : c.from_vec-2.result ≡ params =
    c.from_vec-2.ensures
    ∙ (c.in_ok-params.ensures.items
    ∙ (ap (λ p. four p c.small-2.result c.small-3.result c.small-4.result) c.small.ensures
    ∙ (ap (λ p. four (get_or params 0 c.small.result) p c.small-3.result c.small-4.result) c.small-2.ensures
    ∙ (ap (λ p. four (get_or params 0 c.small.result) (get_or params 1 c.small.result) p c.small-4.result) c.small-3.ensures
    ∙ ap (λ p. four (get_or params 0 c.small.result) (get_or params 1 c.small.result) (get_or params 2 c.small.result) p) c.small-4.ensures)))) in
    let arrays : c.from_vec.result ≡ arrays_of (4 ∷ []) = c.from_vec.ensures ∙ (c.in_ok-from_array.ensures.items ∙ ap arrays_of c.in_ok-from_slice.ensures) in
    let there : c.from_vec-3.result ≡ boots =
    c.from_vec-3.ensures
    ∙ (c.in_ok-boots.ensures.items
    ∙ (ap (λ ids. boots_of ids c.from_vec.result) c.in_ok-from_slice-2.ensures ∙ ap (boots_of (1 ∷ 2 ∷ 3 ∷ [])) arrays)) in
    subst (λ (bs : List Boot). IsFit (parts c.from_vec-2.result bs)) (sym there) (subst (λ (ps : List Param). IsFit (parts ps boots)) (sym given) fit)
