use Rattle.function_tallies.proofs.parts.list_uncounted.Given as goal

abbrev pub ghosts-list_by : goal.ghosts-list_by
ghosts-list_by a = record { name = a.blank.name; parts = a.blank.parts }
