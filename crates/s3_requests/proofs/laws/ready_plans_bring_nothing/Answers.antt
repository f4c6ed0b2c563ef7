use Rattle.s3_requests.proofs.UnbrokenLemmas.{ready_plans_bring_nothing}
use Rattle.s3_requests.proofs.laws.ready_plans_bring_nothing.Goals as goal

pub returns : goal.returns
returns c = ready_plans_bring_nothing
