use Rattle.std.proofs.Common.{rules}
use Rattle.s3_replies.specs.Lines.{entries_by}
use Rattle.s3_replies.proofs.LineLemmas.{size-told, count-told, type_fits}
use Rattle.s3_replies.proofs.objects.object_head.Goals as goal

pub print-requires-clause-fits : goal.print-requires-clause-fits
print-requires-clause-fits g c =
    let kept = c.entries-2.ensures in
    let set = c.entries-3.ensures in
    record {
      date = search rules;
      version_id = search rules;
      source_version_id = search rules;
      region = search rules;
      location = search rules;
      tag = search rules;
      modified = search rules;
      content_range = search rules;
      content_type = rw c.type_left.ensures (type_fits c.entries.result.now c.as_bytes-2.result.now (search rules));
      metadata = rw c.shown.ensures (size-told (entries_by c.args.tells_checksums) c.entries-3.result.now c.entries-2.result.now (rw kept.value kept.size) (rw set.value set.size));
      metadata_count = rw c.shown.ensures (count-told (entries_by c.args.tells_checksums) c.entries-3.result.now c.entries-2.result.now (rw kept.value kept.count) (rw set.value set.count));
    }
