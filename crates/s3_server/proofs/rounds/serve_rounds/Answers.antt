use Rattle.std.proofs.Common.{arith}
use Rattle.s3_server.proofs.RoundLemmas.{first_begun, first_has, next_begun, next_has}
use Rattle.s3_server.proofs.rounds.serve_rounds.Goals as goal

pub returns-in_err-left-clause-begun : goal.returns-in_err-left-clause-begun
returns-in_err-left-clause-begun g c =
    first_begun c.from_residual.result c.args.first c.args.start.base.store.number c.args.mode.now.rounds (g.W.Write.contents c.args.output.now)
    (g.W.Write.contents c.serve_round.new.output) c.requires.rounds c.in_err-left.ensures.begun

pub loop-init : goal.loop-init
loop-init g c =
    first_has c.histories_are_cut_anywhere.ensures.joined c.histories_are_cut_anywhere.ensures.leaves c.args.config.now c.args.start.base.store c.args.mode.now.workers c.args.first
    c.args.network.now c.serve_round.new.network c.args.report.now c.serve_round.new.report (g.W.Write.contents c.args.output.now) (g.W.Write.contents c.serve_round.new.output)
    c.in_ok-left.left c.requires.first c.in_ok-left.ensures.worked c.in_ok-left.ensures.told

pub returns-in_err-left-2-clause-begun : goal.returns-in_err-left-2-clause-begun
returns-in_err-left-2-clause-begun g c =
    let more = c.loop-test.true in
    next_begun c.from_residual-in_err-left-2.result c.args.config.now c.args.start.base.store c.args.mode.now.workers c.args.first c.loop.counter c.args.mode.now.rounds
    c.args.network.now c.loop.network c.args.report.now c.loop.report (g.W.Write.contents c.args.output.now) (g.W.Write.contents c.loop.output)
    (g.W.Write.contents c.serve_next.new.output) c.loop.left c.requires.first (omega (arith, more)) c.loop.invariant c.in_err-left-2.ensures.begun

pub loop-preserved : goal.loop-preserved
loop-preserved g c =
    next_has c.histories_are_cut_anywhere.ensures.joined c.histories_are_cut_anywhere.ensures.leaves c.args.config.now c.args.start.base.store c.args.mode.now.workers c.args.first
    c.loop.counter c.args.network.now c.loop.network c.serve_next.new.network c.args.report.now c.loop.report c.serve_next.new.report (g.W.Write.contents c.args.output.now)
    (g.W.Write.contents c.loop.output) (g.W.Write.contents c.serve_next.new.output) c.loop.left c.in_ok-left-2.left c.requires.first c.loop.invariant
    c.in_ok-left-2.ensures.worked c.in_ok-left-2.ensures.told

pub returns-clause-worked : goal.returns-clause-worked
returns-clause-worked g c =
    let have = c.loop.invariant in
    let len = have.1 in
    let last = c.loop-test.false in
    let bound = c.loop.auto.counter-end c.requires.rounds in
    (c.loop.left, (have.0, omega (arith, len, last, bound), have.2, have.3, have.4))
