use Rattle.std.proofs.Common.{◌++◌, ◌∷◌, [], ℕ, Option, ap, subst, sym, ◌∙◌}
use Rattle.s3_sockets.specs.Door.{IsDoor, Passed}
use Rattle.s3_sockets.proofs.DoorLemmas.{door_aside, door_handed}
use Rattle.s3_sockets.proofs.door.Door.accept.Goals as goal

pub invariant_of-self-in-Ok : goal.invariant_of-self-in-Ok
invariant_of-self-in-Ok g c =
    let old = c.self.inside in
    let roster = c.set_aside.new.roster in
    let number = c.in-Some.vacancy in
    let passed : Passed = record { handed = old.handed.entries; back = old.back.entries } in
    let is : IsDoor passed old.roster c.take-aside.result = subst (IsDoor passed old.roster) (sym c.take-aside.ensures.value) c.self.invariant in
    let set = door_aside passed old.roster roster c.take-aside.result number is c.in-Some.ensures.aside in
    let later = c.record.ensures.entry ∙ ap (λ (n : ℕ). old.handed.entries ++ n ∷ []) c.number-in-Ok.ensures in
    subst (λ (o : Option ℕ). IsDoor (record { handed = c.record.new.self.entries; back = old.back.entries }) roster o) (sym c.take-aside.ensures.after)
    (door_handed old.handed.entries c.record.new.self.entries old.back.entries roster number set later)
