-- What the call ensures that a command is handed to, of the command as it was asked.
use Rattle.std.proofs.Common.{◌≡◌, sym, ap, subst, ◌∙◌, Bool, true, false, Result, Ok, Err, IfOk, OnErr}
use Rattle.std.proofs.lemmas.Bool.{false≢true}
use Rattle.s3_machine.specs.declared.command.Outcome.{Outcome}
use Rattle.s3_machine.specs.Effects.{is_refused}
use Rattle.s3_machine.specs.Step.{State, Stepped}

-- the call takes the step of the command
pub takes_step : {C E : Type 0} {P : Outcome → Type 0} (r : Result Outcome E) (step : C → Stepped) {asked handed : C} {after : State} → asked ≡ handed
    → ((o : Outcome) → P o → step handed ≡ (after, o)) → IfOk r P → IfOk r (λ o. step asked ≡ (after, o))
takes_step (Ok o) step is at ok = ap step is ∙ at o ok
takes_step (Err e) step is at ok = tt

-- it lacks memory only for a command that isn't refused
pub is_accepted : {A C E P : Type 0} (M : Type 0) (r : Result A E) (step : C → Stepped) {asked handed : C} → asked ≡ handed
    → (P → is_refused (step handed).1 ≡ false) → OnErr r (M → P) → OnErr r (M → is_refused (step asked).1 ≡ false)
is_accepted M (Ok a) step is at accepts = tt
is_accepted M (Err e) step is at accepts = λ m. ap (λ c. is_refused (step c).1) is ∙ at (accepts m)

-- it never lacks memory
pub never_lacks : {A E : Type 0} (X : Type 0) (m : Bool) (r : Result A E) → OnErr r (m ≡ false) → OnErr r (m ≡ true → X)
never_lacks X m (Ok a) never = tt
never_lacks X m (Err e) never = λ is. absurd (false≢true (sym never ∙ is))

-- what is known of the command that was handed on, where it lacks memory
pub lacks_as : {A C E : Type 0} (M : Type 0) (r : Result A E) (Q : C → Type 0) {asked handed : C} → asked ≡ handed → OnErr r (M → Q handed) → OnErr r (M → Q asked)
lacks_as M (Ok a) Q is known = tt
lacks_as M (Err e) Q is known = λ m. subst Q (sym is) (known m)
