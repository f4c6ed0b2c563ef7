use Rattle.s3_log.specs.Line.{lost_fields}
use Rattle.s3_log.proofs.LineLemmas.{whole_line}
use Rattle.s3_log.proofs.line.lost_line.Goals as goal

pub returns : goal.returns
returns c =
    whole_line (λ line. line.items) _ _ (lost_fields c.args.count) c.line_of.result c.in_ok-printer.ensures
    c.in_ok-fields.ensures.tokens c.line_of.ensures
