use Rattle.std.proofs.Common.{rules, ◌+◌, length}
use Rattle.std.proofs.lemmas.List.{take_rest}
use Rattle.s3_http_heads.proofs.TargetLemmas.{path_parts}
use Rattle.s3_http_heads.proofs.target.cut_at_bucket.Goals as goal

pub returns-clause-whole : goal.returns-clause-whole
returns-clause-whole c =
    rw (take_rest c.args.path.now (1 + length c.before_first.result.now)) (path_parts c.args.path.now (1 + length c.before_first.result.now) c.requires (search rules)).whole

pub returns-clause-bucket : goal.returns-clause-bucket
returns-clause-bucket c =
    (path_parts c.args.path.now (1 + length c.before_first.result.now) c.requires (search rules)).bucket

pub returns-clause-key : goal.returns-clause-key
returns-clause-key c =
    rw (take_rest c.args.path.now (1 + length c.before_first.result.now)) (path_parts c.args.path.now (1 + length c.before_first.result.now) c.requires (search rules)).key
