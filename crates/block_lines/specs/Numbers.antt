-- The lines of numbers with their words.
use Rattle.std.specs.Prelude.{ℕ, List}
use Rattle.session_texts.specs.Tallies.{number_line}
use Rattle.block_lines.specs.declared.summary.Numbered.{Numbered}

-- a number with its word, as a line
abbrev pub numbered_line : Numbered → List ℕ
numbered_line x = number_line x.word.now x.number
