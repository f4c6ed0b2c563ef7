use Rattle.std.proofs.Common.{ℕ, List, Option, sym, subst}
use Rattle.std.specs.Borrow.{Bor}
use Rattle.std.specs.Option.{option_copied}
use Rattle.s3_http_heads.specs.Head.{HeadParts}
use Rattle.s3_session.specs.Verified.{RefusedTakes, TextTakes, VerifiesIn}
use Rattle.s3_session.proofs.NotedLemmas.{verified_now}
use Rattle.s3_session.proofs.opening.open_text.Goals as goal

pub returns-in-Ok-clause-noted : goal.returns-in-Ok-clause-noted
returns-in-Ok-clause-noted c is =
    let verified = verified_now c.args.config.now c.args.moment c.in-Ok.head _ c.begins.ensures (c.open_head.ensures.noted is) in
    subst (λ (text : Option (Bor (List ℕ))). VerifiesIn c.args.config.now c.args.moment (option_copied text)) (sym c.in-Some.is)
    (c.in-Ok.head, c.in-Ok.ensures.says, verified)

pub returns-in-Ok-clause-spared : goal.returns-in-Ok-clause-spared
returns-in-Ok-clause-spared c goes_on noted =
    let spared = c.open_head.ensures.spared goes_on c.begins.ensures noted in
    subst (λ (text : Option (Bor (List ℕ))). TextTakes c.args.config.now c.args.moment (option_copied text)) (sym c.in-Some.is)
    (λ head says. subst (λ (h : HeadParts). RefusedTakes c.args.config.now h c.args.moment)
    (c.texts_say_one_thing.ensures c.in-Some.text.now c.in-Ok.head head c.in-Ok.ensures.says says) spared)
