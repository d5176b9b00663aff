use Rattle.verdict_tables.proofs.tests.verdicts.Given as goal

abbrev pub ghosts-by_tables : goal.ghosts-by_tables
ghosts-by_tables a = record { name = a.blank.name; parts = a.blank.parts }
