use Rattle.std.proofs.Common.{to_z-of_z}
use Rattle.s3_table_records.proofs.completion.complete_whole.Goals as goal

pub returns-clause-changes : goal.returns-clause-changes
returns-clause-changes g c = rw (to_z-of_z c.ranges.next) at c.complete_listed.ensures.changes c.args.stored.body c.requires.joined
