use Rattle.std.proofs.Common.{ap, ◌∙◌}
use Rattle.s3_tables.specs.Keeping.{tables}
use Rattle.s3_stored_rows.specs.Changes.{after_all}
use Rattle.s3_mirrored_rows.proofs.MirrorLemmas.{left_is}
use Rattle.s3_mirrored_rows.proofs.mirrored_rows.MirroredRows.new.Goals as goal

pub invariant_of-result : goal.invariant_of-result
invariant_of-result g c = λ clean up. ap (λ l. after_all l (tables (g.F.LastingTables.state c.args.file))) c.new.ensures.items ∙ c.requires.same clean

pub returns-clause-durable : goal.returns-clause-durable
returns-clause-durable g c = left_is c.stored_tables_are_one.ensures.shown (g.F.LastingTables.state c.args.file) c.args.memory c.is_live-is_live.ensures.keeps c.requires.open c.requires.same
