use Rattle.s3_mirrored_rows.proofs.mirrored_rows.MirroredRowsStoredRows.commit.Goals as goal

pub invariant_of-self : goal.invariant_of-self
invariant_of-self g c = (c.commit.ensures c.self.inside.memory c.self.invariant).awaits

pub returns-clause-settled : goal.returns-clause-settled
returns-clause-settled g c = (c.commit.ensures c.self.inside.memory c.self.invariant).settled

pub returns-clause-survives : goal.returns-clause-survives
returns-clause-survives g c = rw (← c.self.view_is) (c.commit.ensures c.self.inside.memory c.self.invariant).survives
