use Rattle.std.proofs.Common.{ap, IsTrue}
use Rattle.s3_machine.specs.declared.command.Command.{Command}
use Rattle.s3_machine.specs.Effects.{takes_room}
use Rattle.s3_machine.specs.Step.{step}
use Rattle.s3_store.proofs.CallLemmas.{on_err}
use Rattle.s3_store.proofs.DispatchLemmas.{is_accepted, lacks_as, takes_step}
use Rattle.s3_store.proofs.take.take.Goals as goal

pub returns-in-ListBuckets-clause-ok : goal.returns-in-ListBuckets-clause-ok
returns-in-ListBuckets-clause-ok g c =
    takes_step c.tell_buckets.result (λ (command : Command). step c.args.rules.now (g.R.Records.catalogue c.args.records.now) c.args.number c.args.moment command) c.in-ListBuckets.is (λ _ taken. taken c.args.rules.now c.args.number c.args.moment) c.tell_buckets.ensures.ok

pub returns-in-ListBuckets-clause-room : goal.returns-in-ListBuckets-clause-room
returns-in-ListBuckets-clause-room g c =
    on_err c.tell_buckets.result (λ _. ap (takes_room (g.R.Records.catalogue c.args.records.now)) c.in-ListBuckets.is)

pub returns-in-Key-clause-ok : goal.returns-in-Key-clause-ok
returns-in-Key-clause-ok g c =
    takes_step c.take_on_key.result (λ (command : Command). step c.args.rules.now (g.R.Records.catalogue c.args.records.now) c.args.number c.args.moment command) c.in-Key.is (λ _ taken. taken c.args.rules.now) c.take_on_key.ensures.ok

pub returns-in-Key-clause-memory : goal.returns-in-Key-clause-memory
returns-in-Key-clause-memory g c =
    is_accepted _ c.take_on_key.result (λ (command : Command). step c.args.rules.now (g.R.Records.catalogue c.args.records.now) c.args.number c.args.moment command) c.in-Key.is (λ accepts. accepts c.args.rules.now) c.take_on_key.ensures.memory

pub returns-in-Key-clause-room : goal.returns-in-Key-clause-room
returns-in-Key-clause-room g c =
    lacks_as _ c.take_on_key.result (λ (command : Command). IsTrue (takes_room (g.R.Records.catalogue c.args.records.now) command)) c.in-Key.is c.take_on_key.ensures.room

pub returns-in-Upload-clause-ok : goal.returns-in-Upload-clause-ok
returns-in-Upload-clause-ok g c =
    takes_step c.take_on_upload.result (λ (command : Command). step c.args.rules.now (g.R.Records.catalogue c.args.records.now) c.args.number c.args.moment command) c.in-Upload.is (λ _ taken. taken) c.take_on_upload.ensures.ok

pub returns-in-Upload-clause-memory : goal.returns-in-Upload-clause-memory
returns-in-Upload-clause-memory g c =
    is_accepted _ c.take_on_upload.result (λ (command : Command). step c.args.rules.now (g.R.Records.catalogue c.args.records.now) c.args.number c.args.moment command) c.in-Upload.is (λ accepts. accepts) c.take_on_upload.ensures.memory

pub returns-in-Upload-clause-room : goal.returns-in-Upload-clause-room
returns-in-Upload-clause-room g c =
    lacks_as _ c.take_on_upload.result (λ (command : Command). IsTrue (takes_room (g.R.Records.catalogue c.args.records.now) command)) c.in-Upload.is c.take_on_upload.ensures.room

pub returns-in-DeleteObjects-clause-ok : goal.returns-in-DeleteObjects-clause-ok
returns-in-DeleteObjects-clause-ok g c =
    takes_step c.delete_objects.result (λ (command : Command). step c.args.rules.now (g.R.Records.catalogue c.args.records.now) c.args.number c.args.moment command) c.in-DeleteObjects.is (λ _ taken. taken c.args.rules.now) c.delete_objects.ensures.ok

pub returns-in-DeleteObjects-clause-memory : goal.returns-in-DeleteObjects-clause-memory
returns-in-DeleteObjects-clause-memory g c =
    is_accepted _ c.delete_objects.result (λ (command : Command). step c.args.rules.now (g.R.Records.catalogue c.args.records.now) c.args.number c.args.moment command) c.in-DeleteObjects.is (λ accepts. accepts c.args.rules.now) c.delete_objects.ensures.memory

pub returns-in-DeleteObjects-clause-room : goal.returns-in-DeleteObjects-clause-room
returns-in-DeleteObjects-clause-room g c =
    on_err c.delete_objects.result (λ _. ap (takes_room (g.R.Records.catalogue c.args.records.now)) c.in-DeleteObjects.is)
