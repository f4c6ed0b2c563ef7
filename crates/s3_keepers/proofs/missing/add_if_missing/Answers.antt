use Rattle.std.proofs.Common.{sym, ap, ◌∙◌, is_some}
use Rattle.s3_keepers.proofs.MissingLemmas.{made_value, made_there, made_others, made_sound}
use Rattle.s3_keepers.proofs.missing.add_if_missing.Goals as goal

pub returns-in_ok-first_moment-in-None-clause-value : goal.returns-in_ok-first_moment-in-None-clause-value
returns-in_ok-first_moment-in-None-clause-value g c =
    made_value (g.K.Records.catalogue c.args.records.now) (g.K.Records.catalogue c.bucket.new.self) (g.K.Records.catalogue c.add_bucket-in-None.new.self) c.args.name.now c.in_ok-name-in-None.name _
    c.in_ok-bucket.ensures.same c.in_ok-name-in-None.ensures.value c.add_bucket-in-None.result c.add_bucket-in-None.ensures.ok c.add_bucket-in-None.ensures.err
    (sym c.in_ok-bucket.ensures.there ∙ ap is_some c.in-None.is) c.in_ok-first_moment-in-None.ensures

pub returns-in_ok-first_moment-in-None-clause-there : goal.returns-in_ok-first_moment-in-None-clause-there
returns-in_ok-first_moment-in-None-clause-there g c =
    made_there (g.K.Records.catalogue c.args.records.now) (g.K.Records.catalogue c.bucket.new.self) (g.K.Records.catalogue c.add_bucket-in-None.new.self) c.args.name.now c.in_ok-name-in-None.name _
    c.in_ok-bucket.ensures.same c.in_ok-name-in-None.ensures.value c.add_bucket-in-None.result c.add_bucket-in-None.ensures.ok c.add_bucket-in-None.ensures.err

pub returns-in_ok-first_moment-in-None-clause-others : goal.returns-in_ok-first_moment-in-None-clause-others
returns-in_ok-first_moment-in-None-clause-others g c =
    made_others (g.K.Records.catalogue c.args.records.now) (g.K.Records.catalogue c.bucket.new.self) (g.K.Records.catalogue c.add_bucket-in-None.new.self) c.args.name.now c.in_ok-name-in-None.name _
    c.in_ok-bucket.ensures.same c.in_ok-name-in-None.ensures.value c.add_bucket-in-None.result c.add_bucket-in-None.ensures.ok c.add_bucket-in-None.ensures.err

pub returns-in_ok-first_moment-in-None-clause-sound : goal.returns-in_ok-first_moment-in-None-clause-sound
returns-in_ok-first_moment-in-None-clause-sound g c =
    made_sound (g.K.Records.catalogue c.args.records.now) (g.K.Records.catalogue c.bucket.new.self) (g.K.Records.catalogue c.add_bucket-in-None.new.self) c.args.name.now c.in_ok-name-in-None.name _
    c.in_ok-bucket.ensures.same c.in_ok-name-in-None.ensures.value c.add_bucket-in-None.result c.add_bucket-in-None.ensures.ok c.add_bucket-in-None.ensures.err c.new_buckets_stay_sound.ensures
    (sym c.in_ok-bucket.ensures.there ∙ ap is_some c.in-None.is)
