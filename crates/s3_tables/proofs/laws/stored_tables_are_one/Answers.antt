use Rattle.std.proofs.Common.{sym, ◌∙◌}
use Rattle.s3_tables.proofs.StoredLemmas.{tables_are}
use Rattle.s3_tables.proofs.laws.stored_tables_are_one.Goals as goal

pub returns-clause-one : goal.returns-clause-one
returns-clause-one c db t u s v = sym (tables_are db t s) ∙ tables_are db u v

pub returns-clause-shown : goal.returns-clause-shown
returns-clause-shown c db t s = tables_are db t s
