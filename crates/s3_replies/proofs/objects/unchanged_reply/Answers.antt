use Rattle.std.proofs.Common.{rules}
use Rattle.s3_replies.specs.declared.lines.Entries.TheVariants.{Freshness}
use Rattle.s3_replies.proofs.LineLemmas.{size-told, count-told}
use Rattle.s3_replies.proofs.objects.unchanged_reply.Goals as goal

pub print-requires-clause-fits : goal.print-requires-clause-fits
print-requires-clause-fits g c =
    let kept = c.entries.ensures in
    let set = c.entries-2.ensures in
    record {
      date = search rules;
      version_id = search rules;
      source_version_id = search rules;
      region = search rules;
      location = search rules;
      tag = search rules;
      modified = search rules;
      content_range = search rules;
      content_type = search rules;
      metadata = size-told Freshness c.entries-2.result.now c.entries.result.now (rw kept.value kept.size) (rw set.value set.size);
      metadata_count = count-told Freshness c.entries-2.result.now c.entries.result.now (rw kept.value kept.count) (rw set.value set.count);
    }
