use Rattle.s3_keepers.proofs.SoundLemmas.{new_buckets_stay_sound}
use Rattle.s3_keepers.proofs.laws.new_buckets_stay_sound.Goals as goal

pub returns : goal.returns
returns g c =
    new_buckets_stay_sound c.numbers_stay_below.ensures.stay c.versions_stay_in_order.ensures.stay c.changes_are_by_upload.ensures c.empty_has_nothing.ensures.filled
