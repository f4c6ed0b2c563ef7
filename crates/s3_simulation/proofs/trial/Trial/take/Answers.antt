use Rattle.std.proofs.Common.{[], ◌++◌, append-nil, refl, subst, sym, take}
use Rattle.s3_simulation.specs.Trying.{Tries}
use Rattle.s3_simulation.proofs.StepLemmas.{behind_taken, more_taken, on_behind, settled_taken, split_on}
use Rattle.s3_simulation.proofs.trial.Trial.take.Goals as goal

pub loop-init : goal.loop-init
loop-init c = ([], refl, c.requires.reads, λ moments bytes h. subst (Tries c.args.self.now c.args.config.now moments) (sym (append-nil bytes)) h)

pub step-requires : goal.step-requires
step-requires c = let (done, split, reads, tries) = c.loop.invariant in record { reads = reads }

pub returns-in-More-clause-takes : goal.returns-in-More-clause-takes
returns-in-More-clause-takes c moments bytes h =
    let (done, split, reads, tries) = c.loop.invariant in
    more_taken _ c.args.config.now moments bytes done c.loop.rest.now c.args.piece.now split _ (c.in_ok-step.ensures.steps moments (bytes ++ done) (tries moments bytes h)) c.in-More.is

pub returns-in-Settled-clause-takes : goal.returns-in-Settled-clause-takes
returns-in-Settled-clause-takes c moments bytes h =
    let (done, split, reads, tries) = c.loop.invariant in
    settled_taken _ c.args.config.now moments bytes done c.loop.rest.now c.args.piece.now split _ c.in-Settled.kept (c.in_ok-step.ensures.steps moments (bytes ++ done) (tries moments bytes h)) c.in-Settled.is

pub loop-preserved : goal.loop-preserved
loop-preserved c =
    let (done, split, reads, tries) = c.loop.invariant in
    let len = c.in-Behind.len in (
      done ++ take len c.loop.rest.now,
      split_on c.args.piece.now done c.loop.rest.now _ len split c.split_at.ensures.back,
      (on_behind _ _ len _ c.in_ok-step.ensures.on c.in-Behind.is).0,
      λ moments bytes h.
          behind_taken _ c.args.config.now moments bytes done c.loop.rest.now c.args.piece.now split _ len
          (c.in_ok-step.ensures.steps moments (bytes ++ done) (tries moments bytes h)) c.in-Behind.is,
    )
