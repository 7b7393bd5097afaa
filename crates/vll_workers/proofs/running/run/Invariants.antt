use Rattle.vll_workers.proofs.running.run.Given as goal

abbrev pub ghosts-run_named : goal.ghosts-run_named
ghosts-run_named g a = record { tokens = a.tokens.items; limit = g.N.Name.engine.config.limit }
