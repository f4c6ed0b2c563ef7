use Rattle.s3_outbox.proofs.PartLemmas.{in_one_write}
use Rattle.s3_outbox.proofs.parts.with_body.Goals as goal

pub returns-clause-beginning : goal.returns-clause-beginning
returns-clause-beginning c = λ more.
    let first = c.next_of-at.ensures in
    let second = c.next_of-at-2.ensures in
    in_one_write c.args.text.now c.args.body.now more _ _ _ _ _ _ _ c.args.from _ _ c.new.ensures c.new-2.ensures c.new-3.ensures c.new-4.ensures
    first.stands first.place second.stands second.place c.next_of.ensures.stands
