use Rattle.sf_workers.proofs.lines.serve_on_core.Given as goal

abbrev pub ghosts-serve_named-B-RollName : goal.ghosts-serve_named-B-RollName
ghosts-serve_named-B-RollName g a = record { table = a.tokens.0 }

abbrev pub ghosts-serve_named-B-Ledger : goal.ghosts-serve_named-B-Ledger
ghosts-serve_named-B-Ledger g a = record { name = a.tokens.1.name; parts = a.tokens.1.parts }
