use Rattle.std.proofs.Common.{ap, IsTrue}
use Rattle.s3_machine.specs.declared.command.KeyCommand.{KeyCommand}
use Rattle.s3_machine.specs.Effects.{takes_room_at_key}
use Rattle.s3_store.specs.Steps.{key_step}
use Rattle.s3_store.proofs.CallLemmas.{on_err}
use Rattle.s3_store.proofs.DispatchLemmas.{is_accepted, lacks_as, takes_step}
use Rattle.s3_store.proofs.key_steps.take_in_bucket.Goals as goal

pub returns-in-Put-clause-ok : goal.returns-in-Put-clause-ok
returns-in-Put-clause-ok g c =
    takes_step c.put.result (λ (asked : KeyCommand). key_step (g.R.Records.catalogue c.args.records.now) c.args.number c.args.moment c.args.bucket.now c.args.key asked) c.in-Put.is (λ _ taken. taken) c.put.ensures.ok

pub returns-in-Put-clause-memory : goal.returns-in-Put-clause-memory
returns-in-Put-clause-memory g c =
    is_accepted _ c.put.result (λ (asked : KeyCommand). key_step (g.R.Records.catalogue c.args.records.now) c.args.number c.args.moment c.args.bucket.now c.args.key asked) c.in-Put.is (λ accepts. accepts) c.put.ensures.memory

pub returns-in-Put-clause-room : goal.returns-in-Put-clause-room
returns-in-Put-clause-room g c = on_err c.put.result (λ _. ap (takes_room_at_key c.args.versioning) c.in-Put.is)

pub returns-in-Copy-clause-ok : goal.returns-in-Copy-clause-ok
returns-in-Copy-clause-ok g c =
    takes_step c.copy.result (λ (asked : KeyCommand). key_step (g.R.Records.catalogue c.args.records.now) c.args.number c.args.moment c.args.bucket.now c.args.key asked) c.in-Copy.is (λ _ taken. taken) c.copy.ensures.ok

pub returns-in-Copy-clause-memory : goal.returns-in-Copy-clause-memory
returns-in-Copy-clause-memory g c =
    is_accepted _ c.copy.result (λ (asked : KeyCommand). key_step (g.R.Records.catalogue c.args.records.now) c.args.number c.args.moment c.args.bucket.now c.args.key asked) c.in-Copy.is (λ accepts. accepts) c.copy.ensures.memory

pub returns-in-Copy-clause-room : goal.returns-in-Copy-clause-room
returns-in-Copy-clause-room g c = on_err c.copy.result (λ _. ap (takes_room_at_key c.args.versioning) c.in-Copy.is)

pub returns-in-Read-clause-ok : goal.returns-in-Read-clause-ok
returns-in-Read-clause-ok g c =
    takes_step c.read.result (λ (asked : KeyCommand). key_step (g.R.Records.catalogue c.args.records.now) c.args.number c.args.moment c.args.bucket.now c.args.key asked) c.in-Read.is (λ _ taken. taken c.args.number c.args.moment) c.read.ensures.ok

pub returns-in-Read-clause-memory : goal.returns-in-Read-clause-memory
returns-in-Read-clause-memory g c =
    is_accepted _ c.read.result (λ (asked : KeyCommand). key_step (g.R.Records.catalogue c.args.records.now) c.args.number c.args.moment c.args.bucket.now c.args.key asked) c.in-Read.is (λ accepts. accepts c.args.number c.args.moment) c.read.ensures.memory

pub returns-in-Read-clause-room : goal.returns-in-Read-clause-room
returns-in-Read-clause-room g c = on_err c.read.result (λ _. ap (takes_room_at_key c.args.versioning) c.in-Read.is)

pub returns-in-ReadTags-clause-ok : goal.returns-in-ReadTags-clause-ok
returns-in-ReadTags-clause-ok g c =
    takes_step c.read_tags.result (λ (asked : KeyCommand). key_step (g.R.Records.catalogue c.args.records.now) c.args.number c.args.moment c.args.bucket.now c.args.key asked) c.in-ReadTags.is (λ _ taken. taken c.args.number c.args.moment) c.read_tags.ensures.ok

pub returns-in-ReadTags-clause-memory : goal.returns-in-ReadTags-clause-memory
returns-in-ReadTags-clause-memory g c =
    is_accepted _ c.read_tags.result (λ (asked : KeyCommand). key_step (g.R.Records.catalogue c.args.records.now) c.args.number c.args.moment c.args.bucket.now c.args.key asked) c.in-ReadTags.is (λ accepts. accepts c.args.number c.args.moment) c.read_tags.ensures.memory

pub returns-in-ReadTags-clause-room : goal.returns-in-ReadTags-clause-room
returns-in-ReadTags-clause-room g c = on_err c.read_tags.result (λ _. ap (takes_room_at_key c.args.versioning) c.in-ReadTags.is)

pub returns-in-Delete-clause-ok : goal.returns-in-Delete-clause-ok
returns-in-Delete-clause-ok g c =
    takes_step c.delete.result (λ (asked : KeyCommand). key_step (g.R.Records.catalogue c.args.records.now) c.args.number c.args.moment c.args.bucket.now c.args.key asked) c.in-Delete.is (λ _ taken. taken) c.delete.ensures.ok

pub returns-in-Delete-clause-memory : goal.returns-in-Delete-clause-memory
returns-in-Delete-clause-memory g c =
    is_accepted _ c.delete.result (λ (asked : KeyCommand). key_step (g.R.Records.catalogue c.args.records.now) c.args.number c.args.moment c.args.bucket.now c.args.key asked) c.in-Delete.is (λ accepts. accepts) c.delete.ensures.memory

pub returns-in-Delete-clause-room : goal.returns-in-Delete-clause-room
returns-in-Delete-clause-room g c =
    lacks_as _ c.delete.result (λ (asked : KeyCommand). IsTrue (takes_room_at_key c.args.versioning asked)) c.in-Delete.is c.delete.ensures.room

pub returns-in-DeleteMatching-clause-ok : goal.returns-in-DeleteMatching-clause-ok
returns-in-DeleteMatching-clause-ok g c =
    takes_step c.delete_matching.result (λ (asked : KeyCommand). key_step (g.R.Records.catalogue c.args.records.now) c.args.number c.args.moment c.args.bucket.now c.args.key asked) c.in-DeleteMatching.is (λ _ taken. taken) c.delete_matching.ensures.ok

pub returns-in-DeleteMatching-clause-memory : goal.returns-in-DeleteMatching-clause-memory
returns-in-DeleteMatching-clause-memory g c =
    is_accepted _ c.delete_matching.result (λ (asked : KeyCommand). key_step (g.R.Records.catalogue c.args.records.now) c.args.number c.args.moment c.args.bucket.now c.args.key asked) c.in-DeleteMatching.is (λ accepts. accepts) c.delete_matching.ensures.memory

pub returns-in-Begin-clause-ok : goal.returns-in-Begin-clause-ok
returns-in-Begin-clause-ok g c =
    takes_step c.begin.result (λ (asked : KeyCommand). key_step (g.R.Records.catalogue c.args.records.now) c.args.number c.args.moment c.args.bucket.now c.args.key asked) c.in-Begin.is (λ _ taken. taken) c.begin.ensures.ok

pub returns-in-Begin-clause-memory : goal.returns-in-Begin-clause-memory
returns-in-Begin-clause-memory g c =
    is_accepted _ c.begin.result (λ (asked : KeyCommand). key_step (g.R.Records.catalogue c.args.records.now) c.args.number c.args.moment c.args.bucket.now c.args.key asked) c.in-Begin.is (λ accepts. accepts) c.begin.ensures.memory

pub returns-in-Begin-clause-room : goal.returns-in-Begin-clause-room
returns-in-Begin-clause-room g c = on_err c.begin.result (λ _. ap (takes_room_at_key c.args.versioning) c.in-Begin.is)
