use Rattle.tests_seq.proofs.deep.steps_go_as_deep_as_they_are_told.Given as goal

abbrev pub ghosts-counted : goal.ghosts-counted
ghosts-counted g a = record { name = a.blank.name; parts = a.blank.parts }
