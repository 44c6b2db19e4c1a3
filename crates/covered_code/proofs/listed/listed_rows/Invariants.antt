use Rattle.covered_code.proofs.listed.listed_rows.Given as goal

abbrev pub ghosts-list_by : goal.ghosts-list_by
ghosts-list_by a = record { name = a.blank.name; parts = a.blank.parts }
