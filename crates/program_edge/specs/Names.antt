-- What a word stands for where a tailoring is named.
use Rattle.std.specs.Prelude.{ℕ, List, codes, if◌then◌else◌}
use Rattle.std.specs.Str.{bytes_eq}
use Rattle.program_edge.specs.declared.tailorings.TailoringName as written
use Rattle.program_edge.specs.declared.tailorings.TailoringName.TheVariants.{Builtin, File}

-- the built-in tailoring, or that of the file of this name
pub data TailoringName : Type 0 where
  standard : TailoringName
  in_file : List ℕ → TailoringName

-- what a word stands for where a tailoring is named
abbrev pub tailoring_of_word : List ℕ → TailoringName
tailoring_of_word word = if bytes_eq word (codes "builtin") then standard else in_file word

-- the same without where the word lies in memory
abbrev pub named : written.TailoringName → TailoringName
named Builtin = standard
named (File name) = in_file name.now
