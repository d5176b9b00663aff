use Rattle.decommutator.proofs.verdicts.Verdicts.on_report.Given as goal

abbrev pub ghosts-table_verdict : goal.ghosts-table_verdict
ghosts-table_verdict a = record { name = a.blank.name; parts = a.blank.parts }
