use Rattle.std.proofs.Common.{◌++◌, ◌∙◌, false, ap, refl, subst, sym, take}
use Rattle.s3_http_heads.specs.Search.{Holds, IsSearched, Stands}
use Rattle.s3_http_heads.specs.declared.search.HeadSearch.{HeadSearch}
use Rattle.s3_http_heads.specs.declared.find.Found.{Found}
use Rattle.s3_replies.specs.Replies.{PrintsRefusal}
use Rattle.s3_terms.specs.declared.code.Code.TheVariants.{HeadTooLarge}
use Rattle.s3_terms.specs.declared.dialect.Dialect.{Dialect}
use Rattle.s3_session.specs.Session.{Connection, added, moment_at, refused_at, unsent_of}
use Rattle.s3_session.specs.Verified.{is_admitted}
use Rattle.s3_session.proofs.HeldLemmas.{held_large}
use Rattle.s3_session.proofs.NotedLemmas.{none_noted, reads_unnoted, without_head, without_moment}
use Rattle.s3_session.proofs.ReceivingLemmas.{held_found, reads_found, reads_large, reads_none}
use Rattle.s3_session.proofs.session.Session.read_head.Goals as goal

pub returns-in-TooLarge-clause-fed : goal.returns-in-TooLarge-clause-fed
returns-in-TooLarge-clause-fed c rest h =
    let searched = c.feed-len.ensures.fed rest (subst (λ (s : Connection). Stands s.search rest) (sym c.self.view_is) h) in
    let seen = subst (λ (s : Connection). PrintsRefusal c.dialect.result HeadTooLarge c.args.now false (added (unsent_of s) (unsent_of c.refuse.new.self))) c.self.view_is c.refuse.ensures.printed in
    reads_large c.args.config.now rest c.args.piece.now c.args.self.now _ c.feed-len.result.0 _ c.args.now (sym c.in-TooLarge.is ∙ searched.found) c.refuse.ensures.stage
    (subst (λ (d : Dialect). PrintsRefusal d HeadTooLarge c.args.now false (added (unsent_of c.args.self.now) (unsent_of c.refuse.new.self))) c.dialect.ensures.value seen) refl searched.at_once

pub returns-in-Head-clause-fed : goal.returns-in-Head-clause-fed
returns-in-Head-clause-fed c rest h =
    let searched = c.feed-len.ensures.fed rest (subst (λ (s : Connection). Stands s.search rest) (sym c.self.view_is) h) in
    reads_found c.args.config.now rest c.args.piece.now c.args.self.now _ _ c.feed-len.result.0 c.begin-behind.result.0 c.begin-behind.result.1 c.feed-len.ensures.within searched.at_once (ap (λ (s : Connection). unsent_of s) c.self.view_is)
    (c.begin-behind.ensures.fed (rest ++ take c.feed-len.result.0 c.args.piece.now) searched.held (record { size = c.in-Head.len; found = sym searched.found ∙ c.in-Head.is }))

pub returns-in-NeedMore-clause-fed : goal.returns-in-NeedMore-clause-fed
returns-in-NeedMore-clause-fed c rest h =
    let searched = c.feed-len.ensures.fed rest (subst (λ (s : Connection). Stands s.search rest) (sym c.self.view_is) h) in
    reads_none c.args.config.now rest c.args.piece.now c.args.self.now _ c.feed-len.result.0 _
    (subst (λ (f : Found). IsSearched rest c.args.piece.now (c.feed-len.result.0, f) c.feed-len.new.self) c.in-NeedMore.is searched)
    (ap (λ (s : Connection). s.stage) c.self.view_is ∙ c.requires.stage) (ap (λ (s : Connection). unsent_of s) c.self.view_is) refl

pub returns-in-NeedMore-clause-noted : goal.returns-in-NeedMore-clause-noted
returns-in-NeedMore-clause-noted c rest h noted =
    none_noted c.args.config.now _ (ap (λ (s : Connection). s.is_verified) c.self.view_is ∙ reads_unnoted c.args.config.now c.args.self.now c.requires.stage noted)
    (ap (λ (s : Connection). is_admitted s.stage) c.self.view_is ∙ ap is_admitted c.requires.stage)
    (without_moment c.args.config.now _ (ap (λ (s : Connection). moment_at s.stage) c.self.view_is ∙ ap moment_at c.requires.stage))

pub returns-in-TooLarge-clause-noted : goal.returns-in-TooLarge-clause-noted
returns-in-TooLarge-clause-noted c rest h noted =
    let searched = c.feed-len.ensures.fed rest (subst (λ (s : Connection). Stands s.search rest) (sym c.self.view_is) h) in
    none_noted c.args.config.now _
    (c.refuse.ensures.head.1 ∙ ap (λ (s : Connection). s.is_verified) c.self.view_is ∙ reads_unnoted c.args.config.now c.args.self.now c.requires.stage noted)
    (ap is_admitted c.refuse.ensures.stage)
    (without_head c.args.config.now _ (rest ++ take c.feed-len.result.0 c.args.piece.now)
    (subst (λ (s : HeadSearch). Holds s (rest ++ take c.feed-len.result.0 c.args.piece.now)) (sym c.refuse.ensures.head.0) searched.held)
    (sym searched.found ∙ c.in-TooLarge.is))

pub returns-in-Head-clause-noted : goal.returns-in-Head-clause-noted
returns-in-Head-clause-noted c rest h noted =
    let searched = c.feed-len.ensures.fed rest (subst (λ (s : Connection). Stands s.search rest) (sym c.self.view_is) h) in
    c.begin-behind.ensures.noted (rest ++ take c.feed-len.result.0 c.args.piece.now) searched.held (record { size = c.in-Head.len; found = sym searched.found ∙ c.in-Head.is })

pub returns-in-NeedMore-clause-held : goal.returns-in-NeedMore-clause-held
returns-in-NeedMore-clause-held c rest h given =
    absurd (given (ap (λ (s : Connection). moment_at s.stage) c.self.view_is ∙ ap moment_at c.requires.stage))

pub returns-in-TooLarge-clause-held : goal.returns-in-TooLarge-clause-held
returns-in-TooLarge-clause-held c rest h given =
    let searched = c.feed-len.ensures.fed rest (subst (λ (s : Connection). Stands s.search rest) (sym c.self.view_is) h) in
    held_large _ (rest ++ take c.feed-len.result.0 c.args.piece.now)
    (subst (λ (s : HeadSearch). Holds s (rest ++ take c.feed-len.result.0 c.args.piece.now)) (sym c.refuse.ensures.head.0) searched.held)
    (sym searched.found ∙ c.in-TooLarge.is) HeadTooLarge (ap refused_at c.refuse.ensures.stage)

pub returns-in-Head-clause-held : goal.returns-in-Head-clause-held
returns-in-Head-clause-held c rest h given =
    let searched = c.feed-len.ensures.fed rest (subst (λ (s : Connection). Stands s.search rest) (sym c.self.view_is) h) in
    held_found _ rest c.args.piece.now c.feed-len.result.0 c.begin-behind.result.0
    (c.begin-behind.ensures.held (rest ++ take c.feed-len.result.0 c.args.piece.now) searched.held (record { size = c.in-Head.len; found = sym searched.found ∙ c.in-Head.is }))
