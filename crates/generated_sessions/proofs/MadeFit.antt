-- The tailoring of a session is fit.
use Rattle.std.proofs.Common.{◌≡◌, ◌+◌, ◌≤◌, ◌<◌, lit≤, lit<, eqb, map, ℕ, zero, suc, false, refl, arith}
use Rattle.std.specs.List.{IsDistinct, AllByRecursion}
use Rattle.std.proofs.lemmas.Bool.Decides.{nat_tests}
use Rattle.hk_base.specs.TailoringParts.{TailoringParts}
use Rattle.hk_base.specs.declared.types.Param.{Param}
use Rattle.hk_base.specs.declared.types.Boot.{Boot}
use Rattle.hk_base.specs.Fit.{IsFit, IsFitWidths, IsFitParam}
use Rattle.hk_base.specs.Payload.{IsValid}
use Rattle.hk_base.specs.Parameters.{key_eq}
use Rattle.hk_base.specs.Builtin.{builtin_widths}
use Rattle.generated_sessions.specs.Generated.{numbers_from, made_boot, made_tailoring}
use Rattle.generated_sessions.specs.Parts.{made_param, definition_with}

-- the parts of the tailoring, open
abbrev whole : TailoringParts
whole = record { widths = builtin_widths; params = map made_param (numbers_from 1 40); boots = map made_boot (numbers_from 1 6) }

widths_fit : IsFitWidths builtin_widths
widths_fit = record {
  apid = lit≤ tt;
  address = lit< tt;
  coarse = (lit≤ tt, lit≤ tt);
  fine = lit≤ tt;
  slot = (lit≤ tt, lit≤ tt);
  structure_octets = (lit≤ tt, lit≤ tt);
  parameter_octets = (lit≤ tt, lit≤ tt);
  interval_octets = (lit≤ tt, lit≤ tt);
  count_octets = (lit≤ tt, lit≤ tt);
  repetition_octets = (lit≤ tt, lit≤ tt);
  step_octets = (lit≤ tt, lit≤ tt);
  mean_fraction = lit≤ tt;
  max_interval = ((lit≤ tt, lit≤ tt), lit< tt);
  max_payload = (lit≤ tt, lit≤ tt);
}

param_fit : (id : ℕ) → id < 65536 → IsFitParam builtin_widths (made_param id)
param_fit id small = record {
  id = small;
  shape = record { bits = (lit≤ tt, lit≤ tt); octets = refl; form = tt };
  whole = refl;
  initial = tt;
}

params_fit : (first count : ℕ) → first + count ≤ 65536 → AllByRecursion (IsFitParam builtin_widths) (map made_param (numbers_from first count))
params_fit first zero h = tt
params_fit first (suc count) h = (param_fit first (omega arith), params_fit (suc first) count (omega arith))

differs : (x y : ℕ) → x < y → eqb x y ≡ false
differs x y h = grind (arith, nat_tests)

id_differs : (x first count : ℕ) → x < first
    → AllByRecursion (λ y. eqb x y ≡ false) (map (λ (param : Param). param.id) (map made_param (numbers_from first count)))
id_differs x first zero h = tt
id_differs x first (suc count) h = (differs x first h, id_differs x (suc first) count (omega arith))

ids_distinct : (first count : ℕ) → IsDistinct eqb (map (λ (param : Param). param.id) (map made_param (numbers_from first count)))
unfolding IsDistinct
ids_distinct first zero = tt
ids_distinct first (suc count) = (id_differs first (suc first) count (omega arith), ids_distinct (suc first) count)

keys_distinct : IsDistinct key_eq (map (λ (boot : Boot). boot.key) (map made_boot (numbers_from 1 6)))
unfolding IsDistinct
keys_distinct = (
  (refl, (refl, (refl, (refl, (refl, tt))))),
  ((refl, (refl, (refl, (refl, tt)))), ((refl, (refl, (refl, tt))), ((refl, (refl, tt)), ((refl, tt), (tt, tt))))),
)

structure_1_fit : IsValid whole (definition_with 1 4)
structure_1_fit = record {
  formed = record {
    interval = (lit≤ tt, lit≤ tt);
    some = lit≤ tt;
    known = (refl, (refl, (refl, (refl, (refl, (refl, (refl, tt)))))));
    once = refl;
    simple = lit≤ tt;
    few_arrays = lit≤ tt;
    arrays = (record { members = lit≤ tt; few = lit≤ tt; repeated = lit≤ tt; field = lit< tt; divides = refl }, tt);
  };
  narrow = lit≤ tt;
}

structure_2_fit : IsValid whole (definition_with 2 4)
structure_2_fit = record {
  formed = record {
    interval = (lit≤ tt, lit≤ tt);
    some = lit≤ tt;
    known = (refl, (refl, (refl, (refl, (refl, (refl, (refl, tt)))))));
    once = refl;
    simple = lit≤ tt;
    few_arrays = lit≤ tt;
    arrays = (record { members = lit≤ tt; few = lit≤ tt; repeated = lit≤ tt; field = lit< tt; divides = refl }, tt);
  };
  narrow = lit≤ tt;
}

structure_3_fit : IsValid whole (definition_with 3 4)
structure_3_fit = record {
  formed = record {
    interval = (lit≤ tt, lit≤ tt);
    some = lit≤ tt;
    known = (refl, (refl, (refl, (refl, (refl, (refl, (refl, tt)))))));
    once = refl;
    simple = lit≤ tt;
    few_arrays = lit≤ tt;
    arrays = (record { members = lit≤ tt; few = lit≤ tt; repeated = lit≤ tt; field = lit< tt; divides = refl }, tt);
  };
  narrow = lit≤ tt;
}

structure_4_fit : IsValid whole (definition_with 4 4)
structure_4_fit = record {
  formed = record {
    interval = (lit≤ tt, lit≤ tt);
    some = lit≤ tt;
    known = (refl, (refl, (refl, (refl, (refl, (refl, (refl, tt)))))));
    once = refl;
    simple = lit≤ tt;
    few_arrays = lit≤ tt;
    arrays = (record { members = lit≤ tt; few = lit≤ tt; repeated = lit≤ tt; field = lit< tt; divides = refl }, tt);
  };
  narrow = lit≤ tt;
}

structure_5_fit : IsValid whole (definition_with 5 4)
structure_5_fit = record {
  formed = record {
    interval = (lit≤ tt, lit≤ tt);
    some = lit≤ tt;
    known = (refl, (refl, (refl, (refl, (refl, (refl, tt))))));
    once = refl;
    simple = lit≤ tt;
    few_arrays = lit≤ tt;
    arrays = tt;
  };
  narrow = lit≤ tt;
}

structure_6_fit : IsValid whole (definition_with 6 4)
structure_6_fit = record {
  formed = record {
    interval = (lit≤ tt, lit≤ tt);
    some = lit≤ tt;
    known = (refl, (refl, (refl, (refl, (refl, (refl, tt))))));
    once = refl;
    simple = lit≤ tt;
    few_arrays = lit≤ tt;
    arrays = tt;
  };
  narrow = lit≤ tt;
}

whole_fit : IsFit whole
whole_fit = record {
  widths = widths_fit;
  count = (lit≤ tt, lit≤ tt);
  params = params_fit 1 40 (lit≤ tt);
  ids = ids_distinct 1 40;
  boot_count = lit≤ tt;
  boots = (
    record { id = lit< tt; valid = structure_1_fit },
    (
      record { id = lit< tt; valid = structure_2_fit },
      (
        record { id = lit< tt; valid = structure_3_fit },
        (
          record { id = lit< tt; valid = structure_4_fit },
          (record { id = lit< tt; valid = structure_5_fit }, (record { id = lit< tt; valid = structure_6_fit }, tt)),
        ),
      ),
    ),
  );
  keys = keys_distinct;
}

pub made_fit : IsFit made_tailoring
unfolding made_tailoring
made_fit = whole_fit

pub made_parts : made_tailoring ≡ whole
unfolding made_tailoring
made_parts = refl
