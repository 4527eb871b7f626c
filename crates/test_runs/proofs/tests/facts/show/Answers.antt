use Rattle.test_runs.proofs.tests.facts.show.Goals as goal

pub see-requires-clause-module : goal.see-requires-clause-module
see-requires-clause-module c = c.is_home.ensures c.if-not-is_home.false

pub see-requires-clause-procedure : goal.see-requires-clause-procedure
see-requires-clause-procedure c = c.requires.there

pub see-requires-clause-indicator : goal.see-requires-clause-indicator
see-requires-clause-indicator c = c.requires.its

pub see-requires-clause-unseen : goal.see-requires-clause-unseen
see-requires-clause-unseen c = c.is_unseen.ensures c.if-not-is_unseen.false
