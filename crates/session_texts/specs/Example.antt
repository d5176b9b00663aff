-- The record of an example world, in which the board is told to report less often, and what is written of it.
use Rattle.std.specs.Prelude.{ℕ, List, [], ◌∷◌, ◌++◌, codes}
use Rattle.hk_world.specs.Examples.{every_second_slot, completed, second_report}
use Rattle.session_record.specs.declared.entry.Entry.{Entry}
use Rattle.session_record.specs.declared.entry.Entry.TheVariants.{Sent, Got}
use Rattle.session_texts.specs.Blocks.{line_end}

-- the request is sent, and its completion and the report come
abbrev pub commanded_entries : List Entry
commanded_entries = Sent every_second_slot ∷ Got completed.packet ∷ Got second_report.packet ∷ []

-- the report is decided under the new interval, and its value is written
abbrev pub commanded_text : List ℕ
commanded_text = codes "report hk 1 tag 8193 decided interval 2" ++ (line_end ++ (codes "value 7 slot 1 = 100" ++ line_end))
