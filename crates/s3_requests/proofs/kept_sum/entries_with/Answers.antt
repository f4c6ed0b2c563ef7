use Rattle.std.proofs.Common.{◌∙◌, ap, sym, subst}
use Rattle.s3_integrity.specs.Algorithm.{header_of}
use Rattle.s3_versions.specs.Metadata.{AreInOrder}
use Rattle.s3_requests.specs.KeptSum.{sum_entry}
use Rattle.s3_requests.proofs.KeptSumLemmas.{in_order, line_between}
use Rattle.s3_requests.proofs.kept_sum.entries_with.Goals as goal

pub returns-clause-value : goal.returns-clause-value
returns-clause-value c =
    line_between _ _ _ _ c.args.entries.now _ _ (sum_entry c.args.sum.now) c.new-all.ensures.items c.in_ok-push_side.ensures c.in_ok-line_of.ensures
    c.in_ok-push.ensures.items c.in_ok-push_side-2.ensures (c.header-name.ensures.name ∙ ap header_of c.algorithm.ensures)

pub returns-clause-order : goal.returns-clause-order
returns-clause-order c =
    subst AreInOrder (sym (returns-clause-value c)) (in_order (sum_entry c.args.sum.now) c.args.entries.now c.requires)
