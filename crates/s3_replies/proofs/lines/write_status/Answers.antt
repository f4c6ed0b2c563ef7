use Rattle.std.proofs.Common.{ap, ◌∙◌, ◌++◌, decimal}
use Rattle.s3_replies.proofs.LineLemmas.{status_parts}
use Rattle.s3_replies.proofs.lines.write_status.Goals as goal

pub returns-clause-items : goal.returns-clause-items
returns-clause-items g c =
    let digits = c.as_bytes.ensures.value ∙ c.format.ensures.text ∙ ap decimal c.number.ensures in
    let reason = c.as_bytes-2.ensures.value ∙ c.reason.ensures.text in
    status_parts _ _ _ _ _ _ c.args.status c.write.ensures.written (c.write-2.ensures.written ∙ ap (λ t. g.R.Room.written c.write.new.self ++ t) digits)
    c.write-3.ensures.written (c.write-4.ensures.written ∙ ap (λ t. g.R.Room.written c.write-3.new.self ++ t) reason) c.write-5.ensures.written
