-- The keys of a table, one after the other.
use Rattle.std.proofs.Common.{◌≡◌, refl, ap, ◌∙◌, sym, ℕ, List, [], ◌∷◌, map, true, false, not, cond, Some, String, Global, string_bytes}
use Rattle.std.specs.List.{list_any}
use Rattle.std.specs.Map.{keys_of as map_keys}
use Rattle.std.specs.Str.{bytes_eq}
use Rattle.toml.specs.View.{members_view}
use Rattle.toml.specs.declared.value.Value.{Value}
use Rattle.hk_tailoring.specs.Keys.{keys_of}
use Rattle.hk_tailoring.specs.Known.{first_other}

-- the keys of a table, as the map has them
pub keys_of-members_view : (es : List (String Global × Value)) → map string_bytes (map_keys es) ≡ keys_of (members_view es)
keys_of-members_view [] = refl
keys_of-members_view (e ∷ es) = ap (λ keys. string_bytes e.0 ∷ keys) (keys_of-members_view es)

-- a key that is one of these is passed by
pub first_other-passed : (known : List (List ℕ)) (keys : List (String Global)) (key : String Global) (rest : List (String Global))
    → keys ≡ key ∷ rest → list_any (bytes_eq (string_bytes key)) known ≡ true
    → first_other known (map string_bytes rest) ≡ first_other known (map string_bytes keys)
first_other-passed known keys key rest e is_known =
    sym (ap (λ ks. first_other known (map string_bytes ks)) e
    ∙ ap (λ b. cond (not b) (Some (string_bytes key)) (first_other known (map string_bytes rest))) is_known)

-- a key that isn't one of these is found
pub first_other-found : (known : List (List ℕ)) (keys : List (String Global)) (key : String Global) (rest : List (String Global))
    → keys ≡ key ∷ rest → list_any (bytes_eq (string_bytes key)) known ≡ false
    → first_other known (map string_bytes keys) ≡ Some (string_bytes key)
first_other-found known keys key rest e other =
    ap (λ ks. first_other known (map string_bytes ks)) e
    ∙ ap (λ b. cond (not b) (Some (string_bytes key)) (first_other known (map string_bytes rest))) other
