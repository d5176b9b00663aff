use Rattle.verdict_tables.proofs.tests_on_made_sessions.play_and_ask.Given as goal

abbrev pub ghosts-follow : goal.ghosts-follow
ghosts-follow a = record { name = a.blank.name; parts = a.blank.parts }

abbrev pub ghosts-ask_all : goal.ghosts-ask_all
ghosts-ask_all a = record { name = a.blank.name; parts = a.blank.parts }
