use Rattle.std.proofs.Common.{ap, subst, ◌∙◌, ◌<◌, ◌++◌, take}
use Rattle.s3_records.specs.Rows.{rows_of, rows_under}
use Rattle.s3_records.proofs.ListLemmas.{next_added, next_some, cut_fits}
use Rattle.s3_records.proofs.listing.add_keys.Goals as goal

pub loop-key-preserved : goal.loop-key-preserved
loop-key-preserved c =
    let adds = c.in-Ok.ensures.ok ∙ ap (λ vs. take c.args.most (c.loop-key.rows.items ++ rows_under c.in-Some.key.now vs)) c.as_slice.ensures.value in
    record {
      rows = next_added rows_of c.args.most c.loop-key.rows.items c.add_key.new.rows.items _ (c.in-Some.key.now, c.in-Some.versions.now) c.loop-key.key-iterator c.next.new.self c.loop-key.invariant.rows c.in-Some.ensures.steps adds;
      few = cut_fits c.args.most _ c.add_key.new.rows.items adds;
    }

pub returns-in-Err-clause-memory : goal.returns-in-Err-clause-memory
returns-in-Err-clause-memory c =
    next_some rows_of c.args.most c.loop-key.rows.items _ (c.in-Some.key.now, c.in-Some.versions.now) c.loop-key.key-iterator c.next.new.self c.loop-key.invariant.rows c.in-Some.ensures.steps
    (subst (λ k. k < c.args.most) (c.len-in-loop-key.ensures ∙ c.loop-key.rows.ok.0) c.if-len-most.false)
    (λ none. c.in-Err.ensures.memory (ap (rows_under c.in-Some.key.now) c.as_slice.ensures.value ∙ none))
