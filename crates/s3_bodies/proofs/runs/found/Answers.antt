use Rattle.std.proofs.Common.{arith, ◌<◌, length}
use Rattle.s3_bodies.proofs.RunLemmas.{ends_rise, index_inside, run_begins, run_piece}
use Rattle.s3_bodies.proofs.runs.found.Goals as goal

pub count_before-index-requires : goal.count_before-index-requires
count_before-index-requires c = ends_rise _ c.requires.ends

pub bounds-runs-index : goal.bounds-runs-index
bounds-runs-index c =
    let e = c.count_before-index.ensures in
    let inside : c.count_before-index.result < length c.args.runs.now = index_inside _ c.args.at c.count_before-index.result c.requires.ends c.requires.inside e.bound e.before e.behind in omega arith

pub overflow_sub-begin : goal.overflow_sub-begin
overflow_sub-begin c =
    let e = c.count_before-index.ensures in
    rw c.size.ensures (run_begins _ c.args.at c.count_before-index.result c.requires.ends c.requires.inside e.bound e.before e.behind c.index-runs-index.result c.index-runs-index.is).0

pub overflow_sub-result : goal.overflow_sub-result
overflow_sub-result c =
    let e = c.count_before-index.ensures in
    rw c.size.ensures (run_begins _ c.args.at c.count_before-index.result c.requires.ends c.requires.inside e.bound e.before e.behind c.index-runs-index.result c.index-runs-index.is).1

pub returns-clause-inside : goal.returns-clause-inside
returns-clause-inside c =
    let e = c.count_before-index.ensures in
    rw c.size.ensures (run_begins _ c.args.at c.count_before-index.result c.requires.ends c.requires.inside e.bound e.before e.behind c.index-runs-index.result c.index-runs-index.is).2

pub returns-clause-pieces : goal.returns-clause-pieces
returns-clause-pieces c =
    let e = c.count_before-index.ensures in
    rw c.size.ensures (λ piece is. run_piece _ c.args.at c.count_before-index.result c.requires.ends c.requires.inside e.bound e.before e.behind c.index-runs-index.result piece c.index-runs-index.is is)
