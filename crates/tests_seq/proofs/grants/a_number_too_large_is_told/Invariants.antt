use Rattle.tests_seq.proofs.grants.a_number_too_large_is_told.Given as goal

abbrev pub ghosts-next_ones : goal.ghosts-next_ones
ghosts-next_ones g a = record { name = a.blank.name; parts = a.blank.parts }
