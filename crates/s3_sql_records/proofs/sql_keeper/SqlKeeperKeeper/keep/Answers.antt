use Rattle.std.proofs.Common.{ap}
use Rattle.s3_sql_records.proofs.sql_keeper.SqlKeeperKeeper.keep.Goals as goal

-- no number is named yet
pub new-records-requires-clause-bodies : goal.new-records-requires-clause-bodies
new-records-requires-clause-bodies c = λ number. ap (λ uses. uses number) c.new-2.ensures.uses

-- a crash leaves nothing
pub new-records-requires-clause-left : goal.new-records-requires-clause-left
new-records-requires-clause-left c = λ t never. absurd never
