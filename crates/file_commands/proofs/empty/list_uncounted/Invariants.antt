use Rattle.file_commands.proofs.empty.list_uncounted.Given as goal

abbrev pub ghosts-list_by : goal.ghosts-list_by
ghosts-list_by a = record { name = a.blank.name; parts = a.blank.parts }
