use Rattle.std.proofs.Common.{SFits, w64, rules}
use Rattle.s3_table_records.proofs.DroppingLemmas.{small_version, small_upload, small_other}
use Rattle.s3_table_records.proofs.dropping.id_stays_small.Goals as goal

pub returns-in-AddVersion : goal.returns-in-AddVersion
returns-in-AddVersion c = λ t small.
    let fits : SFits w64 c.in-AddVersion.row.id = search rules in
    rw c.in-AddVersion.is (small_version t small c.in-AddVersion.row fits)

pub returns-in-AddUpload : goal.returns-in-AddUpload
returns-in-AddUpload c = λ t small.
    let fits : SFits w64 c.in-AddUpload.row.id = search rules in
    rw c.in-AddUpload.is (small_upload t small c.in-AddUpload.row fits)

pub returns-in_default : goal.returns-in_default
returns-in_default c = λ t small. small_other t small c.args.change.now c.in_default.not-AddVersion c.in_default.not-AddUpload
