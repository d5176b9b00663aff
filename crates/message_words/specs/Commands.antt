-- What requests ask, by the words that they begin with.
use Rattle.std.specs.Prelude.{ℕ, List, Option, Some, None, codes, if◌then◌else◌}
use Rattle.std.specs.Str.{bytes_eq}
use Rattle.hk_base.specs.declared.types.Kind.{Kind}
use Rattle.hk_base.specs.declared.types.Kind.TheVariants.{Housekeeping, Diagnostic}
use Rattle.st03_grammar.specs.Spelling.{by_kind, each_subtype}
use Rattle.st03_grammar.specs.declared.bodies.Each.TheVariants as each
use Rattle.message_words.specs.declared.commands.StructureCommand.{StructureCommand}
use Rattle.message_words.specs.declared.commands.StructureCommand.TheVariants as structures
use Rattle.message_words.specs.declared.commands.StatisticsCommand.{StatisticsCommand}
use Rattle.message_words.specs.declared.commands.StatisticsCommand.TheVariants as statistics
use Rattle.message_words.specs.declared.commands.ValueCommand.{ValueCommand}
use Rattle.message_words.specs.declared.commands.ValueCommand.TheVariants as values
use Rattle.message_words.specs.declared.commands.Command.{Command}
use Rattle.message_words.specs.declared.commands.Command.TheVariants.{Hk, Stat, Par}

-- the words of requests on structures
abbrev pub structure_command : List ℕ → Option Command
structure_command word =
    if bytes_eq word (codes "create") then Some (Hk structures.Create)
    else if bytes_eq word (codes "append") then Some (Hk structures.Append)
    else if bytes_eq word (codes "delete") then Some (Hk (structures.OnEach each.Delete))
    else if bytes_eq word (codes "enable") then Some (Hk (structures.OnEach each.Enable))
    else if bytes_eq word (codes "disable") then Some (Hk (structures.OnEach each.Disable))
    else if bytes_eq word (codes "structures") then Some (Hk (structures.OnEach each.Show))
    else if bytes_eq word (codes "oneshot") then Some (Hk (structures.OnEach each.OneShot))
    else if bytes_eq word (codes "periodic") then Some (Hk (structures.OnEach each.ShowPeriodic))
    else if bytes_eq word (codes "interval") then Some (Hk structures.Intervals)
    else None

-- the words of the other requests
abbrev pub other_command : List ℕ → Option Command
other_command word =
    if bytes_eq word (codes "stat-report") then Some (Stat statistics.Report)
    else if bytes_eq word (codes "stat-reset") then Some (Stat statistics.Reset)
    else if bytes_eq word (codes "stat-enable") then Some (Stat statistics.Enable)
    else if bytes_eq word (codes "stat-disable") then Some (Stat statistics.Disable)
    else if bytes_eq word (codes "stat-add") then Some (Stat statistics.Add)
    else if bytes_eq word (codes "stat-delete") then Some (Stat statistics.Delete)
    else if bytes_eq word (codes "stat-definitions") then Some (Stat statistics.ShowDefinitions)
    else if bytes_eq word (codes "report-values") then Some (Par values.Report)
    else if bytes_eq word (codes "set") then Some (Par values.Set)
    else None

-- the first that is there
abbrev pub first_command : Option Command → Option Command → Option Command
first_command (Some command) other = Some command
first_command None other = other

-- what a word asks
abbrev pub command_in : List ℕ → Option Command
command_in word = first_command (structure_command word) (other_command word)

-- the kind of structures that a word stands for
abbrev pub kind_in : List ℕ → Kind
kind_in word = if bytes_eq word (codes "diag") then Diagnostic else Housekeeping

-- the subtype of a request on structures of a kind
abbrev pub structure_subtype : StructureCommand → Kind → ℕ
structure_subtype structures.Create kind = by_kind kind 1 2
structure_subtype structures.Append kind = by_kind kind 29 30
structure_subtype (structures.OnEach what) kind = each_subtype what kind
structure_subtype structures.Intervals kind = by_kind kind 31 32

-- the subtype of a statistics request
abbrev pub statistics_subtype : StatisticsCommand → ℕ
statistics_subtype statistics.Report = 1
statistics_subtype statistics.Reset = 3
statistics_subtype statistics.Enable = 4
statistics_subtype statistics.Disable = 5
statistics_subtype statistics.Add = 6
statistics_subtype statistics.Delete = 7
statistics_subtype statistics.ShowDefinitions = 8

-- the subtype of a request on parameter values
abbrev pub value_subtype : ValueCommand → ℕ
value_subtype values.Report = 1
value_subtype values.Set = 3
