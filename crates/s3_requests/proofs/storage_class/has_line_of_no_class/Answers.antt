use Rattle.std.proofs.Common.{sym, ◌∙◌}
use Rattle.s3_requests.specs.StorageClass.{is_of_no_class}
use Rattle.s3_requests.proofs.LineLemmas.{line_found, none_so_far}
use Rattle.s3_requests.proofs.storage_class.has_line_of_no_class.Goals as goal

pub returns-then-is_of_no_class : goal.returns-then-is_of_no_class
returns-then-is_of_no_class c =
    sym (line_found (λ line. is_of_no_class line) c.args.head.now.headers c.loop-index.index _ _ c.header.ensures
    (sym c.is_of_no_class.ensures ∙ c.if-is_of_no_class.true))

pub loop-index-preserved : goal.loop-index-preserved
loop-index-preserved c =
    none_so_far (λ line. is_of_no_class line) c.args.head.now.headers c.loop-index.index _ _ c.header.ensures
    (sym c.is_of_no_class.ensures ∙ c.if-is_of_no_class.false) c.loop-index.invariant
