use Rattle.std.proofs.Common.{◌≡◌, ◌∙◌, ◌+◌, min, ap, refl, subst, sym, Result}
use Rattle.s3_terms.specs.declared.memory.NoMemory.{NoMemory}
use Rattle.s3_machine.specs.declared.command.Answer.{Answer}
use Rattle.s3_outbox.specs.Outbox.{Sending}
use Rattle.s3_replies.specs.Replies.{Prints}
use Rattle.s3_session.specs.Session.{Connection, IsLonger, added, answered, unsent_of}
use Rattle.s3_session.specs.Fault.{most_counted}
use Rattle.s3_session.specs.Stands.{Stands}
use Rattle.s3_session.proofs.StandsLemmas.{stands_replied, stands_died}
use Rattle.s3_session.proofs.session.Session.answer.Goals as goal

pub returns-in-Ok-clause-stands : goal.returns-in-Ok-clause-stands
returns-in-Ok-clause-stands c settings past sent h =
    let old = c.args.self.now in
    let at = sym (ap (λ (s : Connection). s.stage) c.self.view_is) ∙ c.in-Waiting.is in
    let same : unsent_of c.make_ready.new.self ≡ unsent_of old = ap (λ (o : Sending). o.unsent) c.make_ready.ensures.outbox ∙ ap (λ (s : Connection). unsent_of s) c.self.view_is in
    let stands = stands_replied settings old c.reply.new.self past sent c.in-Waiting.context h at (c.reply.ensures.end ∙ c.make_ready.ensures.end ∙ ap (λ (s : Connection). s.is_ended) c.self.view_is) c.in-Ok.answer
    (subst (λ u. Prints c.in-Ok.answer c.in-Waiting.context (added u (unsent_of c.reply.new.self))) same c.reply.ensures.printed)
    (subst (λ u. IsLonger u (unsent_of c.reply.new.self)) same c.reply.ensures.longer) c.in-Waiting.context.closes refl c.reply.ensures.ready
    (c.reply.ensures.head.1 ∙ c.make_ready.ensures.noted)
    (c.reply.ensures.count ∙ c.make_ready.ensures.count ∙ c.saturating_add-self-inside.ensures ∙ ap (λ (s : Connection). min (s.answered + 1) most_counted) c.self.view_is) in
    subst (λ (a : Result Answer NoMemory). Stands c.reply.new.self settings (answered past a) sent) (sym c.in-Ok.is) stands

pub returns-in-Err-clause-stands : goal.returns-in-Err-clause-stands
returns-in-Err-clause-stands c settings past sent h =
    let old = c.args.self.now in
    let at = sym (ap (λ (s : Connection). s.stage) c.self.view_is) ∙ c.in-Waiting.is in
    let stands = stands_died settings old c.die.new.self past sent c.in-Waiting.context h at c.die.ensures.end c.die.ensures.stage c.die.ensures.written c.die.ensures.count c.die.ensures.head in
    subst (λ (a : Result Answer NoMemory). Stands c.die.new.self settings (answered past a) sent) (sym c.in-Err.is) stands
