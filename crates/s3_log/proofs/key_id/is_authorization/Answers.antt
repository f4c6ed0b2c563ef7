use Rattle.s3_log.proofs.KeyIdLemmas.{goes_on, may_end, too_short}
use Rattle.s3_log.proofs.key_id.is_authorization.Goals as goal

pub returns-then-ends_name : goal.returns-then-ends_name
returns-then-ends_name c =
    may_end c.args.line.now c.in-Some.name.now c.in-Some.rest.now c.is_named.result c.in-Some.ensures.cases c.if-ends_name.ensures
    c.is_named.ensures

pub returns-else-ends_name : goal.returns-else-ends_name
returns-else-ends_name c =
    goes_on c.args.line.now c.in-Some.name.now c.in-Some.rest.now c.ends_name.result c.in-Some.ensures.cases c.if-ends_name.ensures
    c.if-ends_name.false

pub returns-in-None : goal.returns-in-None
returns-in-None c = too_short c.args.line.now c.in-None.ensures.cases
