use Rattle.s3_replies.proofs.lines.write_entry.Goals as goal

pub returns-clause-items : goal.returns-clause-items
returns-clause-items g c = rw (← c.name.ensures, ← c.value.ensures) c.write_pair.ensures.items
