use Rattle.std.proofs.Common.{rules, ◌∙◌, ◌<◌, ap, length, arith, refl}
use Rattle.std.specs.Prelude.{count_by, IsErrOf}
use Rattle.std.proofs.lemmas.List.{take_all}
use Rattle.std.proofs.lemmas.List.Elements.{All-more}
use Rattle.s3_storage.specs.declared.storage_fault.StorageFault.TheVariants.{Damaged}
use Rattle.s3_block_file.specs.declared.extent.Extent.{Extent}
use Rattle.s3_block_file.specs.Extent.{lies_in, IsAddressable, EndsWithin}
use Rattle.s3_block_file.proofs.CountLemmas.{counts_next, still_single, next_free, are_disjoint}
use Rattle.s3_block_file.proofs.granules.Granules.counted.Goals as goal

abbrev nowhere : Extent
nowhere = record { first = 0; size = 0 }

pub loop-extent-preserved : goal.loop-extent-preserved
loop-extent-preserved c =
    let live = c.args.live.now in
    let i = c.loop-extent.extent-index in
    let inside : i < length live = omega arith in
    record {
      counts = counts_next _ _ live i _ nowhere inside refl c.in_ok-place.ensures.takes c.loop-extent.invariant.counts;
      most = still_single _ _ _ _ c.in_ok-place.ensures.free c.in_ok-place.ensures.takes c.loop-extent.invariant.most;
      addressable = All-more IsAddressable live i nowhere inside c.loop-extent.invariant.addressable c.in_ok-place.ensures.addressable;
      within = All-more (EndsWithin c.args.size) live i nowhere inside c.loop-extent.invariant.within c.in_ok-place.ensures.within;
    }

pub returns-in_err-place-clause-damaged : goal.returns-in_err-place-clause-damaged
returns-in_err-place-clause-damaged c = λ err addressable within disjoint.
    let live = c.args.live.now in
    let i = c.loop-extent.extent-index in
    let inside : i < length live = omega arith in
    let same : IsErrOf c.place.result Damaged = search rules in
    c.place.ensures.damaged same (addressable i nowhere inside) (within i nowhere inside) (next_free _ live i _ nowhere inside refl c.loop-extent.invariant.counts disjoint)

pub returns-clause-disjoint : goal.returns-clause-disjoint
returns-clause-disjoint c =
    let live = c.args.live.now in
    let all = take_all c.loop-extent.extent-index live c.loop-extent-test.false in
    are_disjoint _ live (λ k. c.loop-extent.invariant.counts k ∙ ap (count_by (lies_in k)) all) c.loop-extent.invariant.most

pub returns-clause-addressable : goal.returns-clause-addressable
returns-clause-addressable c =
    rw (take_all c.loop-extent.extent-index c.args.live.now c.loop-extent-test.false) at c.loop-extent.invariant.addressable

pub returns-clause-within : goal.returns-clause-within
returns-clause-within c =
    rw (take_all c.loop-extent.extent-index c.args.live.now c.loop-extent-test.false) at c.loop-extent.invariant.within
