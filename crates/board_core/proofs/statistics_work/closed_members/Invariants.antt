use Rattle.std.proofs.Common.{◌+◌, take}
use Rattle.std.specs.List.{AllByRecursion}
use Rattle.board_core.specs.Reporting.{FilesAll, HasAtMost}
use Rattle.board_core.proofs.statistics_work.closed_members.Given as goal

abbrev pub invariant-loop-setting : goal.invariant-loop-setting
invariant-loop-setting l = record {
  files : FilesAll l.slot (take l.setting-index l.settings) l.initial.closed l.closed;
  room : AllByRecursion (HasAtMost (1048576 + l.setting-index)) l.closed.members;
}
