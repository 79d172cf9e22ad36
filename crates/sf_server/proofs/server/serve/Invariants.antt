use Rattle.sf_server.proofs.server.serve.Given as goal

abbrev pub ghosts-serve_core : goal.ghosts-serve_core
ghosts-serve_core g a = record { name = a.blank.name; parts = a.blank.parts }
