use Rattle.std.proofs.Common.{ap, length, arith}
use Rattle.s3_documents.proofs.XmlRoomLemmas.{bucket_events_room}
use Rattle.s3_documents.proofs.buckets.ListedBucketBounded.room.Goals as goal

pub returns-clause-xml : goal.returns-clause-xml
returns-clause-xml c = λ manner. omega (arith, bucket_events_room manner c.args.self.now, c.room_of_bucket.ensures, ap length c.as_bytes.ensures.value)
