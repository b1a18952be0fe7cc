use Rattle.tests_seq.proofs.work.no_more_is_done_than_is_asked_for.Given as goal

abbrev pub ghosts-counted : goal.ghosts-counted
ghosts-counted g a = record { name = a.blank.name; parts = a.blank.parts }
