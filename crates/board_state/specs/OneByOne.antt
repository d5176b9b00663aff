-- Instructions one by one, as plain data.
use Rattle.std.specs.Prelude.{ℕ, Option}
use Rattle.st03_grammar.specs.Instructions.{change_of}
use Rattle.st04_grammar.specs.Instructions as statistics
use Rattle.pus_messages.specs.Instructions as messages
use Rattle.board_state.specs.declared.instruction.Instruction.{Instruction}
use Rattle.board_state.specs.declared.instruction.Instruction.TheVariants.{Structure, Statistics, ReportValues, SetValues}
use Rattle.board_state.specs.declared.instruction.StatisticsChange.{StatisticsChange}
use Rattle.board_state.specs.declared.instruction.StatisticsChange.TheVariants.{Report, Reset, Enable, Disable, Add, Delete, DeleteAll, ShowDefinitions}

-- a change of the statistics
abbrev pub statistics_change_of : StatisticsChange → statistics.StatisticsChange
statistics_change_of (Report resets) = statistics.report resets
statistics_change_of Reset = statistics.reset
statistics_change_of (Enable n) = statistics.enable n
statistics_change_of Disable = statistics.disable
statistics_change_of (Add id) = statistics.add id
statistics_change_of (Delete id) = statistics.delete id
statistics_change_of DeleteAll = statistics.delete_all
statistics_change_of ShowDefinitions = statistics.show_definitions

-- an instruction without where its parts lie in memory
abbrev pub instruction_of : Instruction → messages.Instruction
instruction_of (Structure key change) = messages.on_structure key (change_of change)
instruction_of (Statistics change) = messages.on_statistics (statistics_change_of change)
instruction_of (ReportValues ids) = messages.report_values ids.now
instruction_of (SetValues settings) = messages.set_values settings.now
