-- The words of the command line.
use Rattle.std.specs.Prelude.{ℕ, List, [], ◌∷◌, Option, Some, None, codes, if◌then◌else◌}
use Rattle.std.specs.Str.{bytes_eq}
use Rattle.program_edge.specs.Names.{TailoringName, tailoring_of_word, named}
use Rattle.hk_board.specs.declared.words.Command as written

-- a script that is to be run under a tailoring
pub record Command : Type 0 where
  pub tailoring : TailoringName
  pub script : List ℕ

-- the command that words are, if they are of the one form `run TAILORING SCRIPT`
abbrev pub command_of : List (List ℕ) → Option Command
command_of (form ∷ tailoring ∷ script ∷ []) =
    if bytes_eq (codes "run") form then Some (record { tailoring = tailoring_of_word tailoring; script = script }) else None
command_of words = None

-- a command without where its words lie in memory
abbrev pub asked : written.Command → Command
asked c = record { tailoring = named c.tailoring; script = c.script.now }
