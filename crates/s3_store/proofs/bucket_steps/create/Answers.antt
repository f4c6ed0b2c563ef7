use Rattle.s3_store.proofs.CallLemmas.{on_err, bucket_made, bucket_unrefused, bucket_stands}
use Rattle.s3_store.proofs.bucket_steps.create.Goals as goal

pub returns-in-Some-clause-ok : goal.returns-in-Some-clause-ok
returns-in-Some-clause-ok g c =
    bucket_stands _ c.args.moment _ _ c.in_ok-bucket.ensures.there _ _ c.refused.result c.in-Some.is c.bucket.ensures.same c.refused.ensures

pub returns-in_ok-add_bucket-in-None-clause-ok : goal.returns-in_ok-add_bucket-in-None-clause-ok
returns-in_ok-add_bucket-in-None-clause-ok g c =
    bucket_made _ c.args.moment _ _ c.in_ok-bucket.ensures.there _ _ _ _ c.in-None.is c.bucket.ensures.same
    c.in_ok-kept-in-None.ensures.value c.in_ok-made-in-None.ensures.value c.in_ok-add_bucket-in-None.ensures.ok

pub returns-in_err-made-in-None-clause-memory : goal.returns-in_err-made-in-None-clause-memory
returns-in_err-made-in-None-clause-memory g c =
    on_err c.from_residual-in_err-made-in-None.result (λ _. bucket_unrefused _ c.args.moment _ _ c.in_ok-bucket.ensures.there c.in-None.is)

pub returns-in_err-kept-in-None-clause-memory : goal.returns-in_err-kept-in-None-clause-memory
returns-in_err-kept-in-None-clause-memory g c =
    on_err c.from_residual-in_err-kept-in-None.result (λ _. bucket_unrefused _ c.args.moment _ _ c.in_ok-bucket.ensures.there c.in-None.is)

pub returns-in_err-add_bucket-in-None-clause-memory : goal.returns-in_err-add_bucket-in-None-clause-memory
returns-in_err-add_bucket-in-None-clause-memory g c =
    on_err c.from_residual-in_err-add_bucket-in-None.result (λ _. bucket_unrefused _ c.args.moment _ _ c.in_ok-bucket.ensures.there c.in-None.is)

pub returns-in_err-add_bucket-in-None-clause-stays : goal.returns-in_err-add_bucket-in-None-clause-stays
returns-in_err-add_bucket-in-None-clause-stays g c = λ known is. c.add_bucket.ensures.stays known (c.bucket.ensures.stays known is)

pub returns-in_ok-add_bucket-in-None-clause-stays : goal.returns-in_ok-add_bucket-in-None-clause-stays
returns-in_ok-add_bucket-in-None-clause-stays g c = λ known is. c.add_bucket.ensures.stays known (c.bucket.ensures.stays known is)
