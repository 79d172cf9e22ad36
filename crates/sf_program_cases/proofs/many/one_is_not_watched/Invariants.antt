use Rattle.sf_program_cases.proofs.many.one_is_not_watched.Given as goal

abbrev pub ghosts-serve_all : goal.ghosts-serve_all
ghosts-serve_all g a = record { name = a.blank.name; parts = a.blank.parts }
