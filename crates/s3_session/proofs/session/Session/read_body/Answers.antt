use Rattle.std.proofs.Common.{subst}
use Rattle.s3_replies.specs.declared.context.Context.{Context}
use Rattle.s3_session.specs.Stands.{GoesOn}
use Rattle.s3_session.proofs.ReceivingLemmas.{body_fed, more_taken}
use Rattle.s3_session.proofs.UndecidedLemmas.{body_undecided}
use Rattle.s3_session.proofs.session.Session.read_body.Goals as goal

pub returns-clause-fed : goal.returns-clause-fed
returns-clause-fed c settings rest last h invites =
    let on = subst (λ (it : Context). GoesOn it c.read-len.result.1 c.args.self.now c.go_on.new.self c.go_on.result) c.context-context.ensures c.go_on.ensures.goes_on in
    record {
      here = body_fed c.verdicts_stay.ensures.head c.invitations_are_final.ensures.stay settings c.args.incoming rest last c.args.piece.now c.args.self.now _
          c.read-len.result.0 c.read-len.result.1 c.go_on.result h invites (c.read-len.ensures.read settings rest h) on;
      all = more_taken c.args.incoming.context c.args.self.now _ c.read-len.result.1 c.go_on.result on (c.read-len.ensures.all settings rest h);
      at_once = body_undecided c.verdicts_stay.ensures.head c.invitations_are_final.ensures.stay settings c.args.incoming rest last c.args.piece.now c.args.self.now _
          c.read-len.result.0 c.read-len.result.1 c.go_on.result h invites (c.read-len.ensures.at_once settings rest h) on c.read-len.ensures.kept;
    }
