use Rattle.std.proofs.Common.{◌≡◌, refl, sym, ap, subst, ◌∙◌, true, [], ◌∷◌, ◌++◌, take}
use Rattle.std.proofs.lemmas.List.{take_more}
use Rattle.s3_records.specs.Catalogue.{has_bucket}
use Rattle.s3_keepers.specs.Begun.{HasBuckets, with_bucket, with_buckets}
use Rattle.s3_keepers.proofs.MissingLemmas.{one_more, one_bucket_more}
use Rattle.s3_keepers.proofs.missing.add_missing.Goals as goal

pub loop-name-init : goal.loop-name-init
loop-name-init g c = record { value = refl; there = tt; sound = λ number sound. sound }

pub loop-name-preserved : goal.loop-name-preserved
loop-name-preserved g c =
    let catalogue = g.K.Records.catalogue in
    let names = c.args.names.now in
    let i = c.loop-name.name-index in
    let name = c.name-item.result in
    let now = catalogue c.loop-name.records in
    let new = catalogue c.add_if_missing.new.records in
    let more : take i names ++ name ∷ [] ≡ take _ names = ap (λ k. take i names ++ k ∷ []) c.name-item.is ∙ sym (take_more names i name c.loop-name-test.true) in
    record {
      value = c.in_ok-add_if_missing.ensures.value ∙ ap (λ m. with_bucket m name) c.loop-name.invariant.value ∙ sym (one_bucket_more (take i names) name (catalogue c.args.records.now))
          ∙ ap (λ all. with_buckets all (catalogue c.args.records.now)) more;
      there = subst (λ all. HasBuckets all new) more
          (one_more (λ n. has_bucket now n ≡ true) (λ n. has_bucket new n ≡ true) c.in_ok-add_if_missing.ensures.others (take i names) name c.loop-name.invariant.there
          c.in_ok-add_if_missing.ensures.there);
      sound = λ number sound. c.in_ok-add_if_missing.ensures.sound number (c.loop-name.invariant.sound number sound);
    }

pub returns-in_err-add_if_missing-clause-sound : goal.returns-in_err-add_if_missing-clause-sound
returns-in_err-add_if_missing-clause-sound g c = λ number sound. c.in_err-add_if_missing.ensures.sound number (c.loop-name.invariant.sound number sound)
