use Rattle.std.proofs.Common.{◌++◌, ℕ, false, Result, subst, sym}
use Rattle.std.specs.Prelude.{⊤}
use Rattle.s3_terms.specs.declared.code.Code.{Code}
use Rattle.s3_payloads.specs.Outcome.{FedTo}
use Rattle.s3_framed_bodies.specs.Coded.{CodedFailed, CodedStands, coded_part}
use Rattle.s3_framed_bodies.proofs.CodedLemmas.{answered_with, fed_err, fed_settled, settled_failed}
use Rattle.s3_framed_bodies.proofs.coded.CodedReader.read.Goals as goal

pub returns-in-Err-settle-clause-stands : goal.returns-in-Err-settle-clause-stands
returns-in-Err-settle-clause-stands c body limit decoded bytes h coming =
    let new = c.settle.new.self in
    let piece = c.args.piece.now in
    subst (λ (r : Result ⊤ Code). FedTo piece (coded_part limit bytes piece) (CodedStands new body limit decoded (bytes ++ piece) false) (CodedFailed new) (answered_with c.in-Ok.len r)) c.in-Err-settle.is
    (fed_settled c.bodies_are_accepted.ensures.accepted c.bodies_are_accepted.ensures.bodies c.decoders_judge.ensures.verdict c.open_bodies_take_all.ensures.taken c.refusals_stand.ensures.stand c.verdicts_are_final.ensures.stay
    c.args.self.now c.decode.new.self new piece c.decode.ensures.keeps c.decode.result c.decode.ensures.stands c.decode.ensures.fits body limit decoded bytes h coming
    c.in-Ok.len c.in-Ok.is c.in-Ok.ensures.ok c.in-Ok.ensures.size c.in-Ok.ensures.within c.settle.ensures.keeps c.settle.result c.settle.ensures.coming c.settle.ensures.over)

pub returns-in-Err-settle-clause-err : goal.returns-in-Err-settle-clause-err
returns-in-Err-settle-clause-err c =
    settled_failed c.decode.new.self c.settle.new.self c.settle.result c.in-Err-settle.code c.settle.ensures.coming c.settle.ensures.over c.in-Err-settle.is

pub returns-in-Err-clause-stands : goal.returns-in-Err-clause-stands
returns-in-Err-clause-stands c body limit decoded bytes h coming =
    let new = c.fail.new.self in
    let piece = c.args.piece.now in
    subst (λ (r : Result ℕ Code). FedTo piece (coded_part limit bytes piece) (CodedStands new body limit decoded (bytes ++ piece) false) (CodedFailed new) r) (sym c.fail.ensures.answer)
    (fed_err c.bodies_are_accepted.ensures.accepted c.bodies_are_accepted.ensures.bodies c.decoders_judge.ensures.verdict c.open_bodies_take_all.ensures.taken c.refusals_stand.ensures.stand c.verdicts_are_final.ensures.stay
    c.args.self.now c.decode.new.self c.fail.new.self c.args.piece.now c.decode.ensures.keeps c.decode.result c.decode.ensures.stands c.decode.ensures.fits body limit decoded bytes h coming
    c.in-Err.code c.in-Err.is c.in-Err.ensures.err c.decode.ensures.memory c.fail.ensures.stage)
