use Rattle.std.proofs.Common.{ap, ◌∙◌}
use Rattle.s3_driver.specs.declared.state.Moved.{Moved}
use Rattle.s3_driver.specs.Served.{ending_of}
use Rattle.s3_driver.specs.ServedConnection.{Served}
use Rattle.s3_driver.proofs.ServedConnectionLemmas.{shut_stands}
use Rattle.s3_driver.proofs.served_connection.ServedConnection.shut.Goals as goal

pub invariant_of-self : goal.invariant_of-self
invariant_of-self g c =
    let p = c.self.inside.parts in
    shut_stands g.J.Ground.base.settings p.driver.value (g.S.Device.traffic p.stream) (g.S.Device.traffic c.shut-is_shut.new.self) p.moments.entries p.seat p.waits.state c.note.new.self.state
    c.self.invariant (ap (λ (s : Served). ending_of s.state) c.self.view_is ∙ ap ending_of c.requires.closed) (ap ending_of (c.note.ensures ∙ ap (λ (m : Moved). m.state) c.stopped.ensures)) c.shut-is_shut.ensures

pub invariant_of-self-else-is_shut : goal.invariant_of-self-else-is_shut
invariant_of-self-else-is_shut g c =
    let p = c.self.inside.parts in
    let closed = ap (λ (s : Served). ending_of s.state) c.self.view_is ∙ ap ending_of c.requires.closed in
    shut_stands g.J.Ground.base.settings p.driver.value (g.S.Device.traffic p.stream) (g.S.Device.traffic c.shut-is_shut.new.self) p.moments.entries p.seat p.waits.state p.waits.state
    c.self.invariant closed closed c.shut-is_shut.ensures
