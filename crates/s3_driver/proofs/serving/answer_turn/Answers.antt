use Rattle.std.proofs.Common.{IfSome, Option, subst, sym, ◌∙◌}
use Rattle.s3_machine.specs.declared.turn.Turn.{Turn}
use Rattle.s3_driver.specs.Served.{HasAsked, HasCalled}
use Rattle.s3_driver.proofs.ServedLemmas.{answered_turn, called_turn}
use Rattle.s3_driver.proofs.serving.answer_turn.Goals as goal

pub returns-in-Some : goal.returns-in-Some
returns-in-Some g c =
    let old = c.args.driver.now in
    let before = g.N.StoreHandle.entries c.args.handle.now in
    let call = c.call-answered in
    let after = g.N.StoreHandle.entries call.new.self in
    let may_lack = g.N.StoreHandle.may_lack call.new.self in
    let asked = subst (λ (o : Option Turn). IfSome o (HasAsked old c.take_turn.new.self)) c.in-Some.is c.take_turn.ensures.asked in
    record {
      answered = λ settings traffic moments served.
          answered_turn settings old c.take_turn.new.self c.answer.new.self traffic moments before after c.in-Some.turn call.result
          asked call.ensures.entry call.ensures.same c.answer.ensures.served served;
      called = subst (λ (o : Option Turn). IfSome o (HasCalled may_lack before after old c.answer.new.self)) (sym c.in-Some.is ∙ c.take_turn.ensures.value)
          (called_turn may_lack old c.take_turn.new.self c.answer.new.self before after c.in-Some.turn call.result
          asked call.ensures.entry call.ensures.same call.ensures.memory c.answer.ensures.served);
    }
