use Rattle.std.proofs.Common.{◌≡◌, List, Option, Result, ap, subst, sym, ◌∙◌, ℕ}
use Rattle.s3_config.specs.Settings.{Settings}
use Rattle.s3_terms.specs.declared.memory.NoMemory.{NoMemory}
use Rattle.s3_machine.specs.History.{Entry}
use Rattle.s3_machine.specs.declared.command.Answer.{Answer}
use Rattle.s3_machine.specs.declared.turn.Turn.{Turn}
use Rattle.s3_connection.specs.Connection.{Connected, entries_with}
use Rattle.s3_devices.specs.Device.{Traffic}
use Rattle.s3_driver.specs.declared.state.Moved.{Moved}
use Rattle.s3_driver.specs.Served.{IsAsking, IsServed}
use Rattle.s3_driver.specs.ServedConnection.{Heard, HearsOf, Served}
use Rattle.s3_driver.proofs.ServedConnectionLemmas.{hear_stands}
use Rattle.s3_driver.proofs.served_connection.AnsweredConnection.hear.Goals as goal

pub invariant_of-result-2 : goal.invariant_of-result-2
invariant_of-result-2 g c =
    let p = c.self.inside.parts in
    let base = g.J.Ground.base in
    let traffic = g.S.Device.traffic p.stream in
    let served : Served = record { connection = p.driver.value; traffic = traffic; moments = p.moments.entries; seat = p.seat; state = p.waits.state } in
    let answered = c.in-Some.answered in
    let hears = subst (λ (d : Connected). (s : Settings) (t : Traffic) (ms : List ℕ) (entries : List Entry) (turn : Turn) → IsAsking s d t ms entries turn
    → IsServed s c.answer.new.self t ms (entries_with entries turn answered)) c.deref_mut.ensures.value c.answer.ensures.served in
    hear_stands base p.driver.value c.answer.new.self traffic p.moments.entries p.seat p.waits.state c.note.new.self.state answered
    (subst (λ (a : Option (Result Answer NoMemory)). HearsOf base served a) c.in-Some.is c.self.invariant) hears
    (subst (λ (h : Heard). h.served.seat.committed ≡ h.served.seat.mine) (sym c.self.view_is) c.requires.committed)
    (c.note.ensures ∙ ap (λ (m : Moved). m.state) c.stopped.ensures)
