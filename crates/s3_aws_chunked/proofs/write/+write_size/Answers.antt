use Rattle.std.proofs.Common.{ap, ◌∙◌, ◌++◌, ◌∷◌, [], ◌%◌, ◌/◌, codes, get_or, append_assoc}
use Rattle.s3_aws_chunked.specs.Write.{written_size}
use Rattle.s3_aws_chunked.proofs.WritingLemmas.{size_more}
use Rattle.s3_aws_chunked.proofs.write.+write_size.Goals as goal

pub returns : goal.returns
returns t c =
    c.in_ok-push-2.ensures.items
    ∙ ap (λ x. x ++ get_or (codes "0123456789abcdef") (c.args.size % 16) 0 ∷ []) c.in_ok-write_size.ensures
    ∙ append_assoc c.args.body.now.items (written_size (c.args.size / 16)) (get_or (codes "0123456789abcdef") (c.args.size % 16) 0 ∷ [])
    ∙ ap (λ x. c.args.body.now.items ++ x) (size_more c.args.size c.if-size-lt16.false)
