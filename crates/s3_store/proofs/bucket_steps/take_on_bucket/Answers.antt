use Rattle.std.proofs.Common.{ap}
use Rattle.s3_machine.specs.declared.command.BucketCommand.{BucketCommand}
use Rattle.s3_machine.specs.Effects.{takes_room_in_bucket}
use Rattle.s3_store.specs.Steps.{bucket_step}
use Rattle.s3_store.proofs.CallLemmas.{on_err}
use Rattle.s3_store.proofs.DispatchLemmas.{is_accepted, never_lacks, takes_step}
use Rattle.s3_store.proofs.bucket_steps.take_on_bucket.Goals as goal

pub returns-in-Create-clause-ok : goal.returns-in-Create-clause-ok
returns-in-Create-clause-ok g c =
    takes_step c.create.result (λ (asked : BucketCommand). bucket_step c.args.rules.now (g.R.Records.catalogue c.args.records.now) c.args.moment c.args.name.now asked) c.in-Create.is (λ _ taken. taken c.args.rules.now) c.create.ensures.ok

pub returns-in-Create-clause-memory : goal.returns-in-Create-clause-memory
returns-in-Create-clause-memory g c =
    is_accepted _ c.create.result (λ (asked : BucketCommand). bucket_step c.args.rules.now (g.R.Records.catalogue c.args.records.now) c.args.moment c.args.name.now asked) c.in-Create.is (λ accepts. accepts c.args.rules.now) c.create.ensures.memory

pub returns-in-Create-clause-room : goal.returns-in-Create-clause-room
returns-in-Create-clause-room g c = on_err c.create.result (λ _. ap takes_room_in_bucket c.in-Create.is)

pub returns-in-Head-clause-ok : goal.returns-in-Head-clause-ok
returns-in-Head-clause-ok g c =
    takes_step c.head.result (λ (asked : BucketCommand). bucket_step c.args.rules.now (g.R.Records.catalogue c.args.records.now) c.args.moment c.args.name.now asked) c.in-Head.is (λ _ taken. taken c.args.moment) c.head.ensures.ok

pub returns-in-Head-clause-memory : goal.returns-in-Head-clause-memory
returns-in-Head-clause-memory g c = never_lacks _ _ c.head.result c.head.ensures.memory

pub returns-in-Head-clause-room : goal.returns-in-Head-clause-room
returns-in-Head-clause-room g c = never_lacks _ _ c.head.result c.head.ensures.memory

pub returns-in-Delete-clause-ok : goal.returns-in-Delete-clause-ok
returns-in-Delete-clause-ok g c =
    takes_step c.delete.result (λ (asked : BucketCommand). bucket_step c.args.rules.now (g.R.Records.catalogue c.args.records.now) c.args.moment c.args.name.now asked) c.in-Delete.is (λ _ taken. taken c.args.rules.now c.args.moment) c.delete.ensures.ok

pub returns-in-Delete-clause-memory : goal.returns-in-Delete-clause-memory
returns-in-Delete-clause-memory g c = never_lacks _ _ c.delete.result c.delete.ensures.memory

pub returns-in-Delete-clause-room : goal.returns-in-Delete-clause-room
returns-in-Delete-clause-room g c = never_lacks _ _ c.delete.result c.delete.ensures.memory

pub returns-in-PutVersioning-clause-ok : goal.returns-in-PutVersioning-clause-ok
returns-in-PutVersioning-clause-ok g c =
    takes_step c.put_versioning.result (λ (asked : BucketCommand). bucket_step c.args.rules.now (g.R.Records.catalogue c.args.records.now) c.args.moment c.args.name.now asked) c.in-PutVersioning.is (λ _ taken. taken c.args.rules.now c.args.moment) c.put_versioning.ensures.ok

pub returns-in-PutVersioning-clause-memory : goal.returns-in-PutVersioning-clause-memory
returns-in-PutVersioning-clause-memory g c = never_lacks _ _ c.put_versioning.result c.put_versioning.ensures.memory

pub returns-in-PutVersioning-clause-room : goal.returns-in-PutVersioning-clause-room
returns-in-PutVersioning-clause-room g c = never_lacks _ _ c.put_versioning.result c.put_versioning.ensures.memory

pub returns-in-GetVersioning-clause-ok : goal.returns-in-GetVersioning-clause-ok
returns-in-GetVersioning-clause-ok g c =
    takes_step c.get_versioning.result (λ (asked : BucketCommand). bucket_step c.args.rules.now (g.R.Records.catalogue c.args.records.now) c.args.moment c.args.name.now asked) c.in-GetVersioning.is (λ _ taken. taken c.args.rules.now c.args.moment) c.get_versioning.ensures.ok

pub returns-in-GetVersioning-clause-memory : goal.returns-in-GetVersioning-clause-memory
returns-in-GetVersioning-clause-memory g c = never_lacks _ _ c.get_versioning.result c.get_versioning.ensures.memory

pub returns-in-GetVersioning-clause-room : goal.returns-in-GetVersioning-clause-room
returns-in-GetVersioning-clause-room g c = never_lacks _ _ c.get_versioning.result c.get_versioning.ensures.memory

pub returns-in-GetLocation-clause-ok : goal.returns-in-GetLocation-clause-ok
returns-in-GetLocation-clause-ok g c =
    takes_step c.tell_location.result (λ (asked : BucketCommand). bucket_step c.args.rules.now (g.R.Records.catalogue c.args.records.now) c.args.moment c.args.name.now asked) c.in-GetLocation.is (λ _ taken. taken c.args.moment) c.tell_location.ensures.ok

pub returns-in-GetLocation-clause-memory : goal.returns-in-GetLocation-clause-memory
returns-in-GetLocation-clause-memory g c =
    is_accepted _ c.tell_location.result (λ (asked : BucketCommand). bucket_step c.args.rules.now (g.R.Records.catalogue c.args.records.now) c.args.moment c.args.name.now asked) c.in-GetLocation.is (λ accepts. accepts c.args.moment) c.tell_location.ensures.memory

pub returns-in-GetLocation-clause-room : goal.returns-in-GetLocation-clause-room
returns-in-GetLocation-clause-room g c = on_err c.tell_location.result (λ _. ap takes_room_in_bucket c.in-GetLocation.is)

pub returns-in-GetConfiguration-clause-ok : goal.returns-in-GetConfiguration-clause-ok
returns-in-GetConfiguration-clause-ok g c =
    takes_step c.get_configuration.result (λ (asked : BucketCommand). bucket_step c.args.rules.now (g.R.Records.catalogue c.args.records.now) c.args.moment c.args.name.now asked) c.in-GetConfiguration.is (λ _ taken. taken c.args.rules.now c.args.moment) c.get_configuration.ensures.ok

pub returns-in-GetConfiguration-clause-memory : goal.returns-in-GetConfiguration-clause-memory
returns-in-GetConfiguration-clause-memory g c = never_lacks _ _ c.get_configuration.result c.get_configuration.ensures.memory

pub returns-in-GetConfiguration-clause-room : goal.returns-in-GetConfiguration-clause-room
returns-in-GetConfiguration-clause-room g c = never_lacks _ _ c.get_configuration.result c.get_configuration.ensures.memory

pub returns-in-ListObjects-clause-ok : goal.returns-in-ListObjects-clause-ok
returns-in-ListObjects-clause-ok g c =
    takes_step c.tell_objects.result (λ (asked : BucketCommand). bucket_step c.args.rules.now (g.R.Records.catalogue c.args.records.now) c.args.moment c.args.name.now asked) c.in-ListObjects.is (λ _ taken. taken c.args.rules.now c.args.moment) c.tell_objects.ensures.ok

pub returns-in-ListObjects-clause-memory : goal.returns-in-ListObjects-clause-memory
returns-in-ListObjects-clause-memory g c =
    is_accepted _ c.tell_objects.result (λ (asked : BucketCommand). bucket_step c.args.rules.now (g.R.Records.catalogue c.args.records.now) c.args.moment c.args.name.now asked) c.in-ListObjects.is (λ accepts. accepts c.args.rules.now c.args.moment) c.tell_objects.ensures.memory

pub returns-in-ListObjects-clause-room : goal.returns-in-ListObjects-clause-room
returns-in-ListObjects-clause-room g c = on_err c.tell_objects.result (λ _. ap takes_room_in_bucket c.in-ListObjects.is)

pub returns-in-ListVersions-clause-ok : goal.returns-in-ListVersions-clause-ok
returns-in-ListVersions-clause-ok g c =
    takes_step c.tell_versions.result (λ (asked : BucketCommand). bucket_step c.args.rules.now (g.R.Records.catalogue c.args.records.now) c.args.moment c.args.name.now asked) c.in-ListVersions.is (λ _ taken. taken c.args.rules.now c.args.moment) c.tell_versions.ensures.ok

pub returns-in-ListVersions-clause-memory : goal.returns-in-ListVersions-clause-memory
returns-in-ListVersions-clause-memory g c =
    is_accepted _ c.tell_versions.result (λ (asked : BucketCommand). bucket_step c.args.rules.now (g.R.Records.catalogue c.args.records.now) c.args.moment c.args.name.now asked) c.in-ListVersions.is (λ accepts. accepts c.args.rules.now c.args.moment) c.tell_versions.ensures.memory

pub returns-in-ListVersions-clause-room : goal.returns-in-ListVersions-clause-room
returns-in-ListVersions-clause-room g c = on_err c.tell_versions.result (λ _. ap takes_room_in_bucket c.in-ListVersions.is)

pub returns-in-ListUploads-clause-ok : goal.returns-in-ListUploads-clause-ok
returns-in-ListUploads-clause-ok g c =
    takes_step c.tell_uploads.result (λ (asked : BucketCommand). bucket_step c.args.rules.now (g.R.Records.catalogue c.args.records.now) c.args.moment c.args.name.now asked) c.in-ListUploads.is (λ _ taken. taken c.args.rules.now c.args.moment) c.tell_uploads.ensures.ok

pub returns-in-ListUploads-clause-memory : goal.returns-in-ListUploads-clause-memory
returns-in-ListUploads-clause-memory g c =
    is_accepted _ c.tell_uploads.result (λ (asked : BucketCommand). bucket_step c.args.rules.now (g.R.Records.catalogue c.args.records.now) c.args.moment c.args.name.now asked) c.in-ListUploads.is (λ accepts. accepts c.args.rules.now c.args.moment) c.tell_uploads.ensures.memory

pub returns-in-ListUploads-clause-room : goal.returns-in-ListUploads-clause-room
returns-in-ListUploads-clause-room g c = on_err c.tell_uploads.result (λ _. ap takes_room_in_bucket c.in-ListUploads.is)
