-- What the name of a tailoring means, and what reading it takes of a shelf.
use Rattle.std.specs.Prelude.{◌≡◌, ◌⊎◌, ⊤, ℕ, ◌+◌, List, [], length, nat_lt, Option, Some, None, Result, Ok, Err, IfSome, IsSome, if◌then◌else◌}
use Rattle.std.specs.Option.{option_and_then}
use Rattle.hk_base.specs.Outside.{file_of}
use Rattle.hk_base.specs.TailoringParts.{TailoringParts}
use Rattle.hk_base.specs.Builtin.{builtin}
use Rattle.hk_tailoring.specs.Files.{file_fault, IsOf}
use Rattle.hk_tailoring.specs.declared.fault.TailoringFault.{TailoringFault}
use Rattle.hk_tailoring.specs.declared.fault.TailoringFault.TheVariants.{TooLong}
use Rattle.program_edge.specs.Inputs.{piece_octets, TakesAtMost}
use Rattle.program_edge.specs.Names.{TailoringName, standard, in_file}
use Rattle.program_edge.specs.declared.fault.RunFault.{RunFault}
use Rattle.program_edge.specs.declared.fault.RunFault.TheVariants.{Tailoring, ReadFault, NoMemory}

-- the most octets of a tailoring file
abbrev pub most_file_octets : ℕ
most_file_octets = 1048576

-- the octets of a name, where the shelf tells its files and has the name
abbrev pub octets_of : Option (List (List ℕ × List ℕ)) → List ℕ → Option (List ℕ)
octets_of files name = option_and_then (λ all. file_of all name) files

-- the shelf tells its files, and none has this name
abbrev pub IsAbsentFile : Option (List (List ℕ × List ℕ)) → List ℕ → Type 0
IsAbsentFile files name = IfSome files (λ all. file_of all name ≡ None) × IsSome files

-- the shelf tells its files, and a tailoring is named whose file isn't among them
abbrev pub IsAbsent : Option (List (List ℕ × List ℕ)) → TailoringName → Type 0
IsAbsent files standard = ⊥
IsAbsent files (in_file name) = IsAbsentFile files name

-- the fault of a tailoring file, if it has one: it is too long, or else the first fault of its document
abbrev pub fault_of_file : List ℕ → Option TailoringFault
fault_of_file octets = if nat_lt most_file_octets (length octets) then Some TooLong else file_fault octets

-- what a tailoring file means: the tailoring that it states, if it has no fault, or else the fault
abbrev pub IsMeaning : List ℕ → Result TailoringParts TailoringFault → Type 0
IsMeaning octets (Ok t) = (fault_of_file octets ≡ None) × IsOf octets t
IsMeaning octets (Err fault) = fault_of_file octets ≡ Some fault

-- what the name of a tailoring means: the built-in one, or what the file that the shelf has of this name means
abbrev pub StandsFor : Option (List (List ℕ × List ℕ)) → TailoringName → Result TailoringParts TailoringFault → Type 0
StandsFor files standard meant = meant ≡ Ok builtin
StandsFor files (in_file name) meant = IfSome (octets_of files name) (λ octets. IsMeaning octets meant) × IsSome (octets_of files name)

-- A run ended without the tailoring that was meant: by its fault, by a failing shelf or for want of memory.
abbrev pub EndsWithout : RunFault → Result TailoringParts TailoringFault → Type 0
EndsWithout ReadFault meant = ⊤
EndsWithout NoMemory meant = ⊤
EndsWithout (Tailoring fault) meant = meant ≡ Err fault
EndsWithout fault meant = ⊥

-- what was read is what was meant, or the run ends without it
abbrev pub IsMeant : Result TailoringParts RunFault → Result TailoringParts TailoringFault → Type 0
IsMeant (Ok t) meant = meant ≡ Ok t
IsMeant (Err fault) meant = EndsWithout fault meant

-- where the shelf tells its files: the one that was selected was read to its end
abbrev pub HasReadFile : Option (List (List ℕ × List ℕ)) → Option (List ℕ) → Type 0
HasReadFile files rest = IfSome files (λ all. rest ≡ Some [])

-- the same of the file of a tailoring; the built-in one has none
abbrev pub HasReadTailoring : TailoringName → Option (List (List ℕ × List ℕ)) → Option (List ℕ) → Type 0
HasReadTailoring standard files rest = ⊤
HasReadTailoring (in_file name) files rest = HasReadFile files rest

-- how many octets of a tailoring file are taken at most: those that it may have, and a piece
abbrev pub most_taken_of_tailoring : ℕ
most_taken_of_tailoring = most_file_octets + piece_octets

-- the shelf stands where it stood, or, where it has the file of this name, so many of its octets on
abbrev pub MovesInFile : Option (List (List ℕ × List ℕ)) → List ℕ → Option (List ℕ) → Option (List ℕ) → Type 0
MovesInFile files name before now = (now ≡ before) ⊎ TakesAtMost most_taken_of_tailoring (octets_of files name) now

-- the same of a tailoring; the built-in one takes nothing
abbrev pub MovesIn : Option (List (List ℕ × List ℕ)) → TailoringName → Option (List ℕ) → Option (List ℕ) → Type 0
MovesIn files standard before now = now ≡ before
MovesIn files (in_file name) before now = MovesInFile files name before now
