use Rattle.std.proofs.Common.{inl}
use Rattle.s3_cli.proofs.kept.kept_after.Goals as goal

pub returns-in-Err-clause-refused : goal.returns-in-Err-clause-refused
returns-in-Err-clause-refused g c = inl (c.in-Err.error, c.uncommitted.ensures, c.in_ok-text.ensures.all)
