-- The words of the command line.
use Rattle.std.specs.Prelude.{ℕ, Bool, List, [], ◌∷◌, Option, Some, None, codes, if◌then◌else◌}
use Rattle.std.specs.Str.{bytes_eq}
use Rattle.program_edge.specs.Decimals.{number_within}
use Rattle.program_edge.specs.Names.{TailoringName, tailoring_of_word}

-- what is done with a record under a tailoring: the text of its session is written when all of it was read, or what can be told for sure as it is read and the rest at the end, or a line for each entry as it is read
pub data RecordCommand : Type 0 where
  replay : RecordCommand
  follow : RecordCommand
  show : RecordCommand

-- what a run is asked to do: something with the record of this name under a tailoring, to make a record of the lines of this name, to check a tailoring, to trim the record of this name, or to tell the numbers of the session that a seed and a number of rounds make
pub data Command : Type 0 where
  on_record : RecordCommand → TailoringName → List ℕ → Command
  encode : TailoringName → List ℕ → Command
  check : TailoringName → Command
  trim : List ℕ → Command
  generate : ℕ → ℕ → Command

-- the words of the forms
abbrev pub is_word : List ℕ → List ℕ → Bool
is_word word given = bytes_eq given word

-- the command of a form with a tailoring and another input, if it is one of `replay`, `follow`, `show` and `encode`
abbrev pub command_with : List ℕ → TailoringName → List ℕ → Option Command
command_with form tailoring name =
    if is_word (codes "replay") form then Some (on_record replay tailoring name)
    else if is_word (codes "follow") form then Some (on_record follow tailoring name)
    else if is_word (codes "show") form then Some (on_record show tailoring name)
    else if is_word (codes "encode") form then Some (encode tailoring name)
    else None

-- the command of two numbers, if both are there
abbrev pub generate_with : Option ℕ → Option ℕ → Option Command
generate_with (Some seed) (Some rounds) = Some (generate seed rounds)
generate_with (Some seed) None = None
generate_with None rounds = None

-- the command of a form with two words
unfoldable pub command_of_two : List ℕ → List ℕ → List ℕ → Option Command
command_of_two form first second =
    if is_word (codes "generate") form then generate_with (number_within 0 4294967295 first) (number_within 1 100000 second)
    else command_with form (tailoring_of_word first) second

-- the command that words are, if they are one of the forms `replay TAILORING RECORD`, `follow TAILORING RECORD`, `show TAILORING RECORD`, `encode TAILORING LINES`, `generate SEED ROUNDS`, `check TAILORING` and `trim RECORD`: a seed is from 0 to 4294967295, and there are 1 to 100000 rounds
abbrev pub command_of : List (List ℕ) → Option Command
command_of (form ∷ first ∷ second ∷ []) = command_of_two form first second
command_of (form ∷ name ∷ []) = if is_word (codes "check") form then Some (check (tailoring_of_word name)) else if is_word (codes "trim") form then Some (trim name) else None
command_of words = None
