use Rattle.std.proofs.Common.{◌≡◌, ◌++◌, ap, subst, sym}
use Rattle.s3_outbox.specs.Outbox.{Sending}
use Rattle.s3_replies.specs.Replies.{Prints}
use Rattle.s3_session.specs.Session.{Connection, added, unsent_of}
use Rattle.s3_session.proofs.ReceivingLemmas.{added_text}
use Rattle.s3_session.proofs.session.Session.reply.Goals as goal

pub returns-clause-printed : goal.returns-clause-printed
returns-clause-printed c =
    let before = c.self.inside.outbox.unsent in
    let after = c.print.new.self.unsent in
    let printed = c.print.ensures.printed in
    let grown : after ≡ before ++ printed.0 = ap (λ (o : Sending). o.unsent) printed.2 in
    let same = subst (λ text. Prints c.args.answer c.args.context.now text) (sym (added_text before after printed.0 grown)) printed.1 in
    subst (λ (s : Connection). Prints c.args.answer c.args.context.now (added (unsent_of s) after)) c.self.view_is same
