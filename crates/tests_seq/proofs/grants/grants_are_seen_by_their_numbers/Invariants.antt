use Rattle.tests_seq.proofs.grants.grants_are_seen_by_their_numbers.Given as goal

abbrev pub ghosts-counted : goal.ghosts-counted
ghosts-counted g a = record { name = a.blank.name; parts = a.blank.parts }
