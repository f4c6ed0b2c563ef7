use Rattle.std.proofs.Common.{ap}
use Rattle.s3_machine.specs.declared.command.UploadCommand.{UploadCommand}
use Rattle.s3_machine.specs.Effects.{takes_room_in_upload}
use Rattle.s3_store.specs.Steps.{upload_step}
use Rattle.s3_store.proofs.CallLemmas.{on_err}
use Rattle.s3_store.proofs.DispatchLemmas.{is_accepted, never_lacks, takes_step}
use Rattle.s3_store.proofs.upload_steps.take_in_bucket.Goals as goal

pub returns-in-PutPart-clause-ok : goal.returns-in-PutPart-clause-ok
returns-in-PutPart-clause-ok g c =
    takes_step c.put_part.result (λ (asked : UploadCommand). upload_step c.args.rules.now (g.R.Records.catalogue c.args.records.now) c.args.number c.args.moment c.args.bucket.now c.args.key c.args.id asked) c.in-PutPart.is (λ _ taken. taken c.args.rules.now c.args.number) c.put_part.ensures.ok

pub returns-in-PutPart-clause-memory : goal.returns-in-PutPart-clause-memory
returns-in-PutPart-clause-memory g c =
    is_accepted _ c.put_part.result (λ (asked : UploadCommand). upload_step c.args.rules.now (g.R.Records.catalogue c.args.records.now) c.args.number c.args.moment c.args.bucket.now c.args.key c.args.id asked) c.in-PutPart.is (λ accepts. accepts c.args.rules.now c.args.number) c.put_part.ensures.memory

pub returns-in-PutPart-clause-room : goal.returns-in-PutPart-clause-room
returns-in-PutPart-clause-room g c = on_err c.put_part.result (λ _. ap takes_room_in_upload c.in-PutPart.is)

pub returns-in-CopyPart-clause-ok : goal.returns-in-CopyPart-clause-ok
returns-in-CopyPart-clause-ok g c =
    takes_step c.copy_part.result (λ (asked : UploadCommand). upload_step c.args.rules.now (g.R.Records.catalogue c.args.records.now) c.args.number c.args.moment c.args.bucket.now c.args.key c.args.id asked) c.in-CopyPart.is (λ _ taken. taken c.args.rules.now c.args.number) c.copy_part.ensures.ok

pub returns-in-CopyPart-clause-memory : goal.returns-in-CopyPart-clause-memory
returns-in-CopyPart-clause-memory g c =
    is_accepted _ c.copy_part.result (λ (asked : UploadCommand). upload_step c.args.rules.now (g.R.Records.catalogue c.args.records.now) c.args.number c.args.moment c.args.bucket.now c.args.key c.args.id asked) c.in-CopyPart.is (λ accepts. accepts c.args.rules.now c.args.number) c.copy_part.ensures.memory

pub returns-in-CopyPart-clause-room : goal.returns-in-CopyPart-clause-room
returns-in-CopyPart-clause-room g c = on_err c.copy_part.result (λ _. ap takes_room_in_upload c.in-CopyPart.is)

pub returns-in-Complete-clause-ok : goal.returns-in-Complete-clause-ok
returns-in-Complete-clause-ok g c =
    takes_step c.complete.result (λ (asked : UploadCommand). upload_step c.args.rules.now (g.R.Records.catalogue c.args.records.now) c.args.number c.args.moment c.args.bucket.now c.args.key c.args.id asked) c.in-Complete.is (λ _ taken. taken) c.complete.ensures.ok

pub returns-in-Complete-clause-memory : goal.returns-in-Complete-clause-memory
returns-in-Complete-clause-memory g c =
    is_accepted _ c.complete.result (λ (asked : UploadCommand). upload_step c.args.rules.now (g.R.Records.catalogue c.args.records.now) c.args.number c.args.moment c.args.bucket.now c.args.key c.args.id asked) c.in-Complete.is (λ accepts. accepts) c.complete.ensures.memory

pub returns-in-Complete-clause-room : goal.returns-in-Complete-clause-room
returns-in-Complete-clause-room g c = on_err c.complete.result (λ _. ap takes_room_in_upload c.in-Complete.is)

pub returns-in-Abort-clause-ok : goal.returns-in-Abort-clause-ok
returns-in-Abort-clause-ok g c =
    takes_step c.abort.result (λ (asked : UploadCommand). upload_step c.args.rules.now (g.R.Records.catalogue c.args.records.now) c.args.number c.args.moment c.args.bucket.now c.args.key c.args.id asked) c.in-Abort.is (λ _ taken. taken c.args.rules.now c.args.number c.args.moment) c.abort.ensures.ok

pub returns-in-Abort-clause-memory : goal.returns-in-Abort-clause-memory
returns-in-Abort-clause-memory g c = never_lacks _ _ c.abort.result c.abort.ensures.memory

pub returns-in-Abort-clause-room : goal.returns-in-Abort-clause-room
returns-in-Abort-clause-room g c = never_lacks _ _ c.abort.result c.abort.ensures.memory

pub returns-in-ListParts-clause-ok : goal.returns-in-ListParts-clause-ok
returns-in-ListParts-clause-ok g c =
    takes_step c.tell_parts.result (λ (asked : UploadCommand). upload_step c.args.rules.now (g.R.Records.catalogue c.args.records.now) c.args.number c.args.moment c.args.bucket.now c.args.key c.args.id asked) c.in-ListParts.is (λ _ taken. taken c.args.rules.now c.args.number c.args.moment) c.tell_parts.ensures.ok

pub returns-in-ListParts-clause-memory : goal.returns-in-ListParts-clause-memory
returns-in-ListParts-clause-memory g c =
    is_accepted _ c.tell_parts.result (λ (asked : UploadCommand). upload_step c.args.rules.now (g.R.Records.catalogue c.args.records.now) c.args.number c.args.moment c.args.bucket.now c.args.key c.args.id asked) c.in-ListParts.is (λ accepts. accepts c.args.rules.now c.args.number c.args.moment) c.tell_parts.ensures.memory

pub returns-in-ListParts-clause-room : goal.returns-in-ListParts-clause-room
returns-in-ListParts-clause-room g c = on_err c.tell_parts.result (λ _. ap takes_room_in_upload c.in-ListParts.is)
