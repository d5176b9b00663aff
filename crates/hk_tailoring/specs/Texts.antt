-- The texts of the faults of tailoring files.
use Rattle.std.specs.Prelude.{ℕ, List, ◌++◌, codes}
use Rattle.std.specs.Fmt.{decimal, signed_decimal}
use Rattle.hk_base.specs.declared.types.Kind.{Kind}
use Rattle.hk_base.specs.declared.types.Kind.TheVariants.{Housekeeping, Diagnostic}
use Rattle.hk_tailoring.specs.declared.fault.TailoringFault.{TailoringFault}
use Rattle.hk_tailoring.specs.declared.fault.TailoringFault.TheVariants.{NotToml, MissingKey, WrongKind, OutOfRange, RepeatedParam, UnknownParam, RepeatedStructure, BadRepetition, TooWide, Doubled, UnknownKey, TooLong, Memory}

-- the word for a kind of structures
abbrev pub kind_text : Kind → List ℕ
kind_text Housekeeping = codes "hk"
kind_text Diagnostic = codes "diag"

-- the text of a fault
abbrev pub fault_text : TailoringFault → List ℕ
fault_text NotToml = codes "not toml"
fault_text (MissingKey path) = codes "missing key " ++ path
fault_text (WrongKind path) = codes "wrong kind " ++ path
fault_text (OutOfRange path value) = codes "out of range " ++ (path ++ (codes " " ++ signed_decimal value))
fault_text (RepeatedParam id) = codes "repeated parameter " ++ decimal id
fault_text (UnknownParam id) = codes "unknown parameter " ++ decimal id
fault_text (RepeatedStructure key) = codes "repeated structure " ++ (kind_text key.kind ++ (codes " " ++ decimal key.id))
fault_text (BadRepetition repetition interval) = codes "repetition " ++ (decimal repetition ++ (codes " of interval " ++ decimal interval))
fault_text (TooWide octets) = codes "too wide " ++ decimal octets
fault_text (Doubled id) = codes "doubled parameter " ++ decimal id
fault_text (UnknownKey path) = codes "unknown key " ++ path
fault_text TooLong = codes "too long"
fault_text Memory = codes "no memory"
