use Rattle.std.proofs.Common.{IfSome, subst, ◌∙◌}
use Rattle.s3_connection.specs.Connection.{Connected}
use Rattle.s3_driver.specs.ServedConnection.{IsAsked}
use Rattle.s3_driver.proofs.ServedConnectionLemmas.{hears_so}
use Rattle.s3_driver.proofs.served_connection.ServedConnection.submit.Goals as goal

pub invariant_of-result : goal.invariant_of-result
invariant_of-result g c =
    let p = c.self.inside.parts in
    let base = g.J.Ground.base in
    let ask = c.ask-answered in
    let in_memory = g.R.Records.is_in_memory in
    hears_so p.driver.value ask.new.driver (g.S.Device.traffic p.stream) p.moments.entries p.seat ask.new.seat p.waits.state in_memory base
    c.args.turns.now ask.new.turns ask.result
    c.self.invariant
    (subst (λ (d : Connected). IfSome ask.result (IsAsked in_memory base d ask.new.driver p.seat ask.new.seat c.args.turns.now ask.new.turns)) c.deref_mut.ensures.value ask.ensures.asked)
    ask.ensures.waits
    (λ none. let same = ask.ensures.none none in (same.0 ∙ c.deref_mut.ensures.value, same.1))
