use Rattle.std.proofs.Common.{List, Option, Result, subst, ℕ}
use Rattle.s3_config.specs.Settings.{Settings}
use Rattle.s3_terms.specs.declared.memory.NoMemory.{NoMemory}
use Rattle.s3_machine.specs.History.{Entry}
use Rattle.s3_machine.specs.declared.command.Answer.{Answer}
use Rattle.s3_machine.specs.declared.turn.Turn.{Turn}
use Rattle.s3_connection.specs.Connection.{Connected, entries_with}
use Rattle.s3_devices.specs.Device.{Traffic}
use Rattle.s3_driver.specs.Served.{IsAsking, IsServed}
use Rattle.s3_driver.specs.ServedConnection.{HearsOf, Served}
use Rattle.s3_driver.proofs.ServedConnectionLemmas.{fits_so, untold_fits}
use Rattle.s3_driver.proofs.served_connection.AnsweredConnection.leave.Goals as goal

pub leave-requires-clause-fits : goal.leave-requires-clause-fits
leave-requires-clause-fits g c =
    let p = c.self.inside.parts in
    let base = g.J.Ground.base in
    let traffic = g.S.Device.traffic p.stream in
    let served : Served = record { connection = p.driver.value; traffic = traffic; moments = p.moments.entries; seat = p.seat; state = p.waits.state } in
    let answered = c.in-Some.answered in
    let hears = subst (λ (d : Connected). (s : Settings) (t : Traffic) (ms : List ℕ) (entries : List Entry) (turn : Turn) → IsAsking s d t ms entries turn
    → IsServed s c.answer.new.self t ms (entries_with entries turn answered)) c.deref_mut.ensures.value c.answer.ensures.served in
    untold_fits c.connections_have_written.ensures base p.driver.value c.answer.new.self traffic p.moments.entries p.seat p.waits.state answered
    (subst (λ (a : Option (Result Answer NoMemory)). HearsOf base served a) c.in-Some.is c.self.invariant) hears

pub leave-requires-in-None-clause-fits : goal.leave-requires-in-None-clause-fits
leave-requires-in-None-clause-fits g c =
    let p = c.self.inside.parts in
    let base = g.J.Ground.base in
    let served : Served = record { connection = p.driver.value; traffic = g.S.Device.traffic p.stream; moments = p.moments.entries; seat = p.seat; state = p.waits.state } in
    fits_so c.connections_have_written.ensures base.settings served (subst (λ (a : Option (Result Answer NoMemory)). HearsOf base served a) c.in-None.is c.self.invariant)
