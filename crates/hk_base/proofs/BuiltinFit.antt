-- The tailoring that is built in is fit.
use Rattle.std.proofs.Common.{◌≤◌, ◌<◌, ◌*◌, lit≤, lit<, eqb, map, pos, ℕ, [], ◌∷◌, Some, refl, arith}
use Rattle.std.specs.List.{IsDistinct, AllByRecursion}
use Rattle.std.specs.Int.Signed.{le_z_yes, lt_z_yes}
use Rattle.hk_base.specs.declared.types.Form.{Form}
use Rattle.hk_base.specs.declared.types.Form.TheVariants.{Unsigned, Signed, Enumerated, Boolean}
use Rattle.hk_base.specs.declared.types.Param.{Param}
use Rattle.hk_base.specs.declared.types.Boot.{Boot}
use Rattle.hk_base.specs.Fit.{IsFit, IsFitWidths, IsFitForm, IsFitParam}
use Rattle.hk_base.specs.Payload.{IsValid}
use Rattle.hk_base.specs.Parameters.{key_eq}
use Rattle.hk_base.specs.Builtin.{builtin, builtin_widths, builtin_params, builtin_boots, sensed}

widths_fit : IsFitWidths builtin_widths
widths_fit = record {
  apid = lit≤ tt;
  address = lit< tt;
  coarse = (lit≤ tt, lit≤ tt);
  fine = lit≤ tt;
  slot = (lit≤ tt, lit≤ tt);
  structure_octets = (lit≤ tt, lit≤ tt);
  parameter_octets = (lit≤ tt, lit≤ tt);
  interval_octets = (lit≤ tt, lit≤ tt);
  count_octets = (lit≤ tt, lit≤ tt);
  repetition_octets = (lit≤ tt, lit≤ tt);
  step_octets = (lit≤ tt, lit≤ tt);
  mean_fraction = lit≤ tt;
  max_interval = ((lit≤ tt, lit≤ tt), lit< tt);
  max_payload = (lit≤ tt, lit≤ tt);
}

-- a sensed parameter is fit where its ID and its octets are
plain_fit : (id octets : ℕ) (form : Form) → id < 65536 → 1 ≤ octets → octets ≤ 8 → IsFitForm form (8 * octets) → IsFitParam builtin_widths (sensed id form octets)
plain_fit id octets form small some most fit = record {
  id = small;
  shape = record { bits = (omega (arith, some), omega (arith, most)); octets = omega arith; form = fit };
  whole = refl;
  initial = tt;
}

settable_fit : IsFitParam builtin_widths (record (sensed 7 Unsigned 2) { initial = Some (pos 100) })
settable_fit = record { id = lit< tt; shape = record { bits = (lit≤ tt, lit≤ tt); octets = refl; form = tt }; whole = refl; initial = refl }

listed_fit : IsFitForm (Enumerated (pos 0 ∷ pos 1 ∷ pos 2 ∷ pos 7 ∷ [])) 8
listed_fit = ((lit≤ tt, lit≤ tt), ((le_z_yes tt, lt_z_yes tt), ((le_z_yes tt, lt_z_yes tt), ((le_z_yes tt, lt_z_yes tt), ((le_z_yes tt, lt_z_yes tt), tt)))))

each_fit : AllByRecursion (IsFitParam builtin_widths) builtin_params
each_fit = (
  plain_fit 1 2 Unsigned (lit< tt) (lit≤ tt) (lit≤ tt) tt,
  (
    plain_fit 2 1 Signed (lit< tt) (lit≤ tt) (lit≤ tt) tt,
    (
      plain_fit 3 1 Unsigned (lit< tt) (lit≤ tt) (lit≤ tt) tt,
      (
        plain_fit 4 1 Boolean (lit< tt) (lit≤ tt) (lit≤ tt) tt,
        (
          plain_fit 5 1 (Enumerated (pos 0 ∷ pos 1 ∷ pos 2 ∷ pos 7 ∷ [])) (lit< tt) (lit≤ tt) (lit≤ tt) listed_fit,
          (
            plain_fit 6 4 Unsigned (lit< tt) (lit≤ tt) (lit≤ tt) tt,
            (
              settable_fit,
              (
                plain_fit 10 1 Unsigned (lit< tt) (lit≤ tt) (lit≤ tt) tt,
                (
                  plain_fit 11 1 Unsigned (lit< tt) (lit≤ tt) (lit≤ tt) tt,
                  (
                    plain_fit 12 1 Unsigned (lit< tt) (lit≤ tt) (lit≤ tt) tt,
                    (
                      plain_fit 13 1 Unsigned (lit< tt) (lit≤ tt) (lit≤ tt) tt,
                      (
                        plain_fit 14 1 Unsigned (lit< tt) (lit≤ tt) (lit≤ tt) tt,
                        (
                          plain_fit 15 1 Unsigned (lit< tt) (lit≤ tt) (lit≤ tt) tt,
                          (
                            plain_fit 16 1 Unsigned (lit< tt) (lit≤ tt) (lit≤ tt) tt,
                            tt,
                          ),
                        ),
                      ),
                    ),
                  ),
                ),
              ),
            ),
          ),
        ),
      ),
    ),
  ),
)

ids_distinct : IsDistinct eqb (map (λ (param : Param). param.id) builtin_params)
unfolding IsDistinct
ids_distinct = ((refl, (refl, (refl, (refl, (refl, (refl, (refl, (refl, (refl, (refl, (refl, (refl, (refl, tt))))))))))))), ((refl, (refl, (refl, (refl, (refl, (refl, (refl, (refl, (refl, (refl, (refl, (refl, tt)))))))))))), ((refl, (refl, (refl, (refl, (refl, (refl, (refl, (refl, (refl, (refl, (refl, tt))))))))))), ((refl, (refl, (refl, (refl, (refl, (refl, (refl, (refl, (refl, (refl, tt)))))))))), ((refl, (refl, (refl, (refl, (refl, (refl, (refl, (refl, (refl, tt))))))))), ((refl, (refl, (refl, (refl, (refl, (refl, (refl, (refl, tt)))))))), ((refl, (refl, (refl, (refl, (refl, (refl, (refl, tt))))))), ((refl, (refl, (refl, (refl, (refl, (refl, tt)))))), ((refl, (refl, (refl, (refl, (refl, tt))))), ((refl, (refl, (refl, (refl, tt)))), ((refl, (refl, (refl, tt))), ((refl, (refl, tt)), ((refl, tt), (tt, tt))))))))))))))

keys_distinct : IsDistinct key_eq (map (λ (boot : Boot). boot.key) builtin_boots)
unfolding IsDistinct
keys_distinct = ((refl, (refl, (refl, tt))), ((refl, (refl, tt)), ((refl, tt), (tt, tt))))

first_fit : IsValid builtin (record { interval = 4; simple = 1 ∷ []; arrays = [] })
first_fit = record {
  formed = record {
    interval = (lit≤ tt, lit≤ tt);
    some = lit≤ tt;
    known = (refl, tt);
    once = refl;
    simple = lit≤ tt;
    few_arrays = lit≤ tt;
    arrays = tt;
  };
  narrow = lit≤ tt;
}

second_fit : IsValid builtin (record { interval = 8; simple = 1 ∷ []; arrays = record { repetition = 4; params = 3 ∷ [] } ∷ [] })
second_fit = record {
  formed = record {
    interval = (lit≤ tt, lit≤ tt);
    some = lit≤ tt;
    known = (refl, (refl, tt));
    once = refl;
    simple = lit≤ tt;
    few_arrays = lit≤ tt;
    arrays = (record { members = lit≤ tt; few = lit≤ tt; repeated = lit≤ tt; field = lit< tt; divides = refl }, tt);
  };
  narrow = lit≤ tt;
}

third_fit : IsValid builtin (record { interval = 2; simple = 6 ∷ []; arrays = [] })
third_fit = record {
  formed = record {
    interval = (lit≤ tt, lit≤ tt);
    some = lit≤ tt;
    known = (refl, tt);
    once = refl;
    simple = lit≤ tt;
    few_arrays = lit≤ tt;
    arrays = tt;
  };
  narrow = lit≤ tt;
}

fourth_fit : IsValid builtin (record { interval = 1; simple = 4 ∷ 5 ∷ []; arrays = [] })
fourth_fit = record {
  formed = record {
    interval = (lit≤ tt, lit≤ tt);
    some = lit≤ tt;
    known = (refl, (refl, tt));
    once = refl;
    simple = lit≤ tt;
    few_arrays = lit≤ tt;
    arrays = tt;
  };
  narrow = lit≤ tt;
}

pub builtin_fit : IsFit builtin
builtin_fit = record {
  widths = widths_fit;
  count = (lit≤ tt, lit≤ tt);
  params = each_fit;
  ids = ids_distinct;
  boot_count = lit≤ tt;
  boots = (record { id = lit< tt; valid = first_fit }, (record { id = lit< tt; valid = second_fit }, (record { id = lit< tt; valid = third_fit }, (record { id = lit< tt; valid = fourth_fit }, tt))));
  keys = keys_distinct;
}
