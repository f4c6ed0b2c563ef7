use Rattle.s3_settings.specs.declared.mode.ReplayMode.TheVariants.{AtMoment, Events}
use Rattle.s3_cli.proofs.KeptLemmas.{connection_refused, connection_unread, events_refused, events_unread, found_answered}
use Rattle.s3_cli.proofs.kept.kept_answer.Goals as goal

pub returns-in-AtMoment-clause-value : goal.returns-in-AtMoment-clause-value
returns-in-AtMoment-clause-value g c =
    rw c.in-AtMoment.is
    (found_answered c.args.path c.args.config.now c.in_ok-store.store.standing (AtMoment c.in-AtMoment.moment) _ _ c.connection_kept.result
    c.in_ok-store.ensures.found c.connection_kept.ensures.value)

pub returns-in-AtMoment-clause-refused : goal.returns-in-AtMoment-clause-refused
returns-in-AtMoment-clause-refused g c =
    connection_refused c.args.path c.args.mode _ _ c.connection_kept.result c.connection_kept.ensures.refused

pub returns-in-AtMoment-clause-unread : goal.returns-in-AtMoment-clause-unread
returns-in-AtMoment-clause-unread g c =
    connection_unread _ c.args.path c.args.mode _ _ c.connection_kept.result c.connection_kept.ensures.refused

pub returns-in-Events-clause-value : goal.returns-in-Events-clause-value
returns-in-Events-clause-value g c =
    rw c.in-Events.is
    (found_answered c.args.path c.args.config.now c.in_ok-store.store.standing (Events c.in-Events.faults) _ _ c.events_kept.result
    c.in_ok-store.ensures.found c.events_kept.ensures.value)

pub returns-in-Events-clause-refused : goal.returns-in-Events-clause-refused
returns-in-Events-clause-refused g c =
    rw c.in-Events.is (events_refused c.args.path (Events c.in-Events.faults) _ _ c.events_kept.result c.events_kept.ensures.refused)

pub returns-in-Events-clause-unread : goal.returns-in-Events-clause-unread
returns-in-Events-clause-unread g c =
    events_unread _ c.args.path (Events c.in-Events.faults) _ _ c.events_kept.result c.events_kept.ensures.refused
