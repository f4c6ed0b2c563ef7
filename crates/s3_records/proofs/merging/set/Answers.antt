use Rattle.s3_records.proofs.MergingLemmas.{written_at}
use Rattle.s3_records.proofs.merging.set.Goals as goal

pub returns : goal.returns
returns c = λ q.
    written_at c.args.tree.now (c.get_mut.follows.lender c.args.versions) c.args.key.now c.in-Some.place.now c.args.versions c.in-Some.ensures.value (c.get_mut.follows.holds c.args.versions) q
