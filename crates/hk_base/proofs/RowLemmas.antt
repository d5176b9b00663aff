-- The first row of a table that fits.
use Rattle.std.proofs.Common.{◌≡◌, ℕ, ℤ, Bool, true, false, List, [], ◌∷◌, Option, Some, refl, subst}
use Rattle.std.specs.Prelude.{find, option_map, ◌==◌, if◌then◌else◌}
use Rattle.std.proofs.lemmas.Bool.{and_parts}
use Rattle.std.proofs.lemmas.Option.{none-some, same_Some}
use Rattle.hk_base.specs.Memory.{first_fitting, is_fitting}
use Rattle.hk_base.specs.Parameters.{fits}
use Rattle.hk_base.specs.declared.types.Param.{Param}

row_fits : (param : Param) (slot : ℕ) (row : ℕ × ℕ × ℤ) → is_fitting param slot row ≡ true → fits param row.2 ≡ true
row_fits param slot row passes =
    (and_parts (row.1 == slot) (fits param row.2) (and_parts (row.0 == param.id) _ passes).1).1

first_or_later : (param : Param) (slot : ℕ) (value : ℤ) (row : ℕ × ℕ × ℤ) (later : Option (ℕ × ℕ × ℤ)) (b : Bool) → is_fitting param slot row ≡ b → option_map (λ r. r.2) (if b then Some row else later) ≡ Some value → (option_map (λ r. r.2) later ≡ Some value → fits param value ≡ true) → fits param value ≡ true
first_or_later param slot value row later true passes e after = subst (λ v. fits param v ≡ true) (same_Some row.2 value e) (row_fits param slot row passes)
first_or_later param slot value row later false passes e after = after e

-- its value fits
pub first_fits : (rows : List (ℕ × ℕ × ℤ)) (param : Param) (slot : ℕ) (value : ℤ) → first_fitting rows param slot ≡ Some value → fits param value ≡ true
first_fits [] param slot value e = absurd (none-some value e)
first_fits (row ∷ rows) param slot value e =
    first_or_later param slot value row (find (is_fitting param slot) rows) (is_fitting param slot row) refl e (first_fits rows param slot value)
