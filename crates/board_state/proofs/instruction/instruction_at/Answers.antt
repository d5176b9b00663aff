use Rattle.st03_grammar.specs.Instructions.{change_of}
use Rattle.board_state.specs.OneByOne.{statistics_change_of}
use Rattle.board_state.proofs.InstructionLemmas.{structure-at, statistics-at}
use Rattle.board_state.proofs.instruction.instruction_at.Goals as goal

pub returns-in_ok-key-in-Hk : goal.returns-in_ok-key-in-Hk
returns-in_ok-key-in-Hk c =
    structure-at c.args.request.now c.in-Hk.request c.args.number c.in_ok-key-in-Hk.key (change_of c.in_ok-key-in-Hk.change) c.in-Hk.is c.requires c.in_ok-key-in-Hk.ensures

pub returns-in_ok-statistics_change-in-Stat : goal.returns-in_ok-statistics_change-in-Stat
returns-in_ok-statistics_change-in-Stat c =
    statistics-at c.args.request.now c.in-Stat.request c.args.number (statistics_change_of c.in_ok-statistics_change-in-Stat.field-0) c.in-Stat.is c.in_ok-statistics_change-in-Stat.ensures
