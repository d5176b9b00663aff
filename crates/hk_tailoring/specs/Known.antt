-- The keys that a table may have.
use Rattle.std.specs.Prelude.{ℕ, List, [], ◌∷◌, find, Bool, not, Option, is_none, unwrap_or, codes, if◌then◌else◌}
use Rattle.std.specs.List.{list_any}
use Rattle.std.specs.Str.{bytes_eq}
use Rattle.toml.specs.Data.{Members}
use Rattle.hk_tailoring.specs.Checks.{Check, check}
use Rattle.hk_tailoring.specs.Keys.{Section, keys_of, path_of}
use Rattle.hk_tailoring.specs.declared.section.TableKind.{TableKind}
use Rattle.hk_tailoring.specs.declared.section.TableKind.TheVariants.{Document, Parameter, Structure, Array}
use Rattle.hk_tailoring.specs.declared.fault.TailoringFault.TheVariants.{UnknownKey}

-- the key of a parameter's width: whole octets, or packed bits
abbrev pub width_key : Bool → List ℕ
width_key packed = if packed then codes "bits" else codes "octets"

-- the keys that a table of each kind may have
abbrev pub known_keys : TableKind → List (List ℕ)
known_keys Document =
    codes "version"
    ∷ codes "apid"
    ∷ codes "ground"
    ∷ codes "coarse"
    ∷ codes "fine"
    ∷ codes "slot"
    ∷ codes "tc_checksum"
    ∷ codes "tm_checksum"
    ∷ codes "structure_octets"
    ∷ codes "parameter_octets"
    ∷ codes "interval_octets"
    ∷ codes "count_octets"
    ∷ codes "repetition_octets"
    ∷ codes "step_octets"
    ∷ codes "mean_fraction"
    ∷ codes "max_interval"
    ∷ codes "max_payload"
    ∷ codes "parameter"
    ∷ codes "structure"
    ∷ []
known_keys (Parameter packed enumerated) =
    codes "id" ∷ codes "kind" ∷ width_key packed ∷ codes "initial" ∷ (if enumerated then codes "values" ∷ [] else [])
known_keys Structure = codes "kind" ∷ codes "id" ∷ codes "interval" ∷ codes "enabled" ∷ codes "simple" ∷ codes "array" ∷ []
known_keys Array = codes "repetition" ∷ codes "parameters" ∷ []

-- the first of some keys that isn't one of these
abbrev pub first_other : List (List ℕ) → List (List ℕ) → Option (List ℕ)
first_other known keys = find (λ key. not (list_any (bytes_eq key) known)) keys

-- the first key of a table that isn't one of these; the keys of a table ascend, so it is the least
abbrev pub unknown_key : List (List ℕ) → Members → Option (List ℕ)
unknown_key known ms = first_other known (keys_of ms)

-- each key is one of these
unfoldable pub known_check : Section → List (List ℕ) → Check
known_check s known =
    let unknown = unknown_key known s.members in check (UnknownKey (path_of s (unwrap_or unknown []))) (is_none unknown)
