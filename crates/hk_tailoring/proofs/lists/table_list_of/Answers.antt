use Rattle.std.proofs.Common.{sym, true, false}
use Rattle.std.specs.Prelude.{is_some}
use Rattle.std.proofs.lemmas.List.Sums.{AllPass-from_list_all}
use Rattle.toml.specs.Data.{as_table}
use Rattle.toml.specs.View.{view}
use Rattle.hk_tailoring.proofs.ListLemmas.{table_list_of-list}
use Rattle.hk_tailoring.proofs.lists.table_list_of.Goals as goal

pub returns-then-are_tables-clause-tables : goal.returns-then-are_tables-clause-tables
returns-then-are_tables-clause-tables c = sym (table_list_of-list (view c.args.value.now) _ true (sym c.in_ok-values.ensures) (sym c.if-are_tables.ensures))

pub returns-else-are_tables-clause-tables : goal.returns-else-are_tables-clause-tables
returns-else-are_tables-clause-tables c = sym (table_list_of-list (view c.args.value.now) _ false (sym c.in_ok-values.ensures) (sym c.if-are_tables.ensures))

pub returns-then-are_tables-clause-each : goal.returns-then-are_tables-clause-each
returns-then-are_tables-clause-each c = AllPass-from_list_all (λ v. is_some (as_table (view v))) _ (sym c.if-are_tables.ensures)
