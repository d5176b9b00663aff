use Rattle.std.proofs.Common.{◌≡◌, drop}
use Rattle.board_core.specs.Closing.{with_filings, AreToFile}
use Rattle.board_core.proofs.closing.file_settings.Given as goal

abbrev pub invariant-loop-setting : goal.invariant-loop-setting
invariant-loop-setting l = record {
  left : with_filings l.slot (drop l.setting-index l.settings) l.channels ≡ with_filings l.slot l.settings l.fn.channels;
  to_file : AreToFile l.slot l.channels (drop l.setting-index l.settings);
}
