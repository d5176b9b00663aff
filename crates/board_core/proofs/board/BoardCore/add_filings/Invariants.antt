use Rattle.std.proofs.Common.{map, take}
use Rattle.board_core.specs.Closing.{filing_of, IsDraftedTo}
use Rattle.board_core.proofs.board.BoardCore.add_filings.Given as goal

abbrev pub invariant-loop-setting : goal.invariant-loop-setting
invariant-loop-setting l = IsDraftedTo l.self (map (filing_of l.self.slot_now) (take l.setting-index l.settings)) l.draft
