use Rattle.tests_seq.proofs.work.items_are_taken.Given as goal

abbrev pub ghosts-short_of_one : goal.ghosts-short_of_one
ghosts-short_of_one g a = record { name = a.blank.name; parts = a.blank.parts }
