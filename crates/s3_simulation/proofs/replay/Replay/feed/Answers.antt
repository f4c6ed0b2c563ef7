use Rattle.std.proofs.Common.{◌≡◌, [], ◌++◌, take, append-nil, append_assoc, ap, arith, length, refl, subst, sym, ◌∙◌}
use Rattle.std.proofs.lemmas.List.{nil_from_length, take-append-drop}
use Rattle.s3_simulation.specs.Replaying.{HasTaken}
use Rattle.s3_simulation.proofs.replay.Replay.feed.Goals as goal

pub loop-rest-init : goal.loop-rest-init
loop-rest-init g c = ([], refl, λ base settings moment before h. subst (HasTaken c.args.self.now base settings moment) (sym (append-nil before)) h)

pub loop-rest-preserved : goal.loop-rest-preserved
loop-rest-preserved g c =
    let (done, split, taken) = c.loop-rest.invariant in
    let rest = c.loop-rest.rest.now in
    let (piece, behind) = c.split_at.result in
    let n = c.min.result in
    let parts : rest ≡ piece.now ++ behind.now =
    sym (ap (λ front. front ++ behind.now) c.split_at.ensures.front ∙ ap (λ back. take n rest ++ back) c.split_at.ensures.back ∙ take-append-drop n rest) in (
      done ++ piece.now,
      split ∙ ap (λ r. done ++ r) parts ∙ sym (append_assoc done piece.now behind.now),
      λ base settings moment before h.
          subst (HasTaken c.take.new.self base settings moment) (append_assoc before done piece.now)
          (c.in_ok-take.ensures.taken base settings moment (before ++ done) (taken base settings moment before h)),
    )

pub returns-clause-taken : goal.returns-clause-taken
returns-clause-taken g c base settings moment before h =
    let (done, split, taken) = c.loop-rest.invariant in
    let count : length c.loop-rest.rest.now ≡ 0 = grind (arith, c.is_empty.ensures, c.loop-rest-test.false) in
    let none : c.loop-rest.rest.now ≡ [] = nil_from_length c.loop-rest.rest.now count in
    subst (λ bytes. HasTaken c.loop-rest.self base settings moment (before ++ bytes))
    (sym (split ∙ ap (λ rest. done ++ rest) none ∙ append-nil done)) (taken base settings moment before h)
