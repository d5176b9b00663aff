-- The octets of the parts of lines, and the first lines of blocks.
use Rattle.std.specs.Prelude.{ℕ, List, ◌++◌, codes}
use Rattle.std.specs.Fmt.{decimal, signed_decimal}
use Rattle.st04_grammar.specs.declared.bodies.StatReport.{StatReport}
use Rattle.session_texts.specs.Blocks.{line_end}
use Rattle.block_lines.specs.declared.parts.Part.{Part}
use Rattle.block_lines.specs.declared.parts.Part.TheVariants.{Text, Number, Value}

-- a text as it is, and a number in decimal digits
abbrev pub part_octets : Part → List ℕ
part_octets (Text text) = text.now
part_octets (Number number) = decimal number
part_octets (Value value) = signed_decimal value

-- the first line of the block of a statistics report
abbrev pub statistics_front : ℕ → StatReport → List ℕ
statistics_front tag r = codes "statistics tag " ++ (decimal tag ++ (codes " from " ++ (decimal r.start ++ (codes " to " ++ (decimal r.end ++ line_end)))))

-- the first line of the block of a report of values
abbrev pub current_front : ℕ → List ℕ
current_front tag = codes "values tag " ++ (decimal tag ++ line_end)

-- a word before a number, to the end of the line
abbrev pub numbered_end : List ℕ → ℕ → List ℕ
numbered_end word number = word ++ (decimal number ++ line_end)
