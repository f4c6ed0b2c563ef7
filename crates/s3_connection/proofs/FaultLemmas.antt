-- The first fault of a connection, by all that it received.
use Rattle.std.proofs.Common.{◌≡◌, ◌≢◌, ℕ, Bool, List, [], ◌++◌, refl, sym, ap, subst, ◌∙◌, append-nil, inl, inr}
use Rattle.std.proofs.lemmas.Bool.{cases_Bool}
use Rattle.s3_config.specs.Settings.{Settings}
use Rattle.s3_terms.specs.declared.code.Code.{Code}
use Rattle.s3_machine.specs.History.{Entry}
use Rattle.s3_session.specs.Fault.{FaultsStay, IsFault}
use Rattle.s3_session.specs.Output.{is_closed}
use Rattle.s3_session.specs.Session.{IsUnheard}
use Rattle.s3_connection.specs.declared.stage.Stage.{Stage}
use Rattle.s3_connection.specs.declared.stage.Stage.TheVariants as stages
use Rattle.s3_connection.specs.declared.stage.Wants.TheVariants as wants
use Rattle.s3_connection.specs.Connection.{Connected, IsFit, standing_of, wants_at}
use Rattle.s3_connection.specs.Holds.{Holds, IsBehind}
use Rattle.s3_connection.specs.Output.{Input, past_of}
use Rattle.s3_connection.proofs.HoldsLemmas.{told_all, told_end}
use Rattle.s3_session.specs.declared.fault.Fault as faults
use Rattle.std.proofs.Common.{Option, Some, None, IfSome}

module _ (c : Connected) (settings : Settings) (input : Input) (moments : List ℕ) (entries : List Entry) (sent : List ℕ)
    (h : Holds c settings input moments entries sent) where
  told_is : h.told ≡ c.session.is_ended
  told_is = told_end c settings input moments entries sent h

  taken_all : h.behind ≡ [] → input.bytes ≡ h.taken
  taken_all none = h.came ∙ ap (λ (b : List ℕ). h.taken ++ b) none ∙ append-nil h.taken

  -- all that came was taken, or its session hears of the rest no more
  unheard_at : (stage : Stage) → IsFit stage c.session c.kept c.is_ended → IsBehind stage h.told c.kept h.behind input.ended → wants_at stage ≢ wants.ToGoOn
      → IsUnheard (standing_of c) (past_of h.taken h.told moments entries h.waiting) h.behind input.ended
  unheard_at stages.Reading fit left other = inl (left, h.ended ∙ fit.3 ∙ sym (told_is ∙ fit.1))
  unheard_at (stages.Waiting turn) fit left other = inr (told_is ∙ fit.1, λ reads. (let never = sym fit.0 ∙ reads in cc))
  unheard_at (stages.HandedOut turn) fit left other = inr (told_is ∙ fit.1, λ reads. (let never = sym fit.0 ∙ reads in cc))
  unheard_at stages.Answered fit left other = absurd (other refl)
  unheard_at stages.Done fit left other = elim (cases_Bool h.told) [
    | inl told ↦ inl ((left told).0, (left told).1 ∙ sym told)
    | inr unended ↦ inr (unended, λ reads. (let over = fit.1 (ap is_closed reads) in let never = sym unended ∙ told_is ∙ over in cc))
  ]

  pub unheard : wants_at c.stage ≢ wants.ToGoOn → IsUnheard (standing_of c) (past_of h.taken h.told moments entries h.waiting) h.behind input.ended
  unheard other = unheard_at c.stage h.fit h.left other

  -- what was refused of what was taken is, of all that came
  pub fault_received : FaultsStay → (number : ℕ) (code : Code) → IsFault settings h.taken h.told moments number code
      → IsFault settings input.bytes input.ended moments number code
  fault_received stay number code f =
      let all = told_all c settings input moments entries sent h in
      elim (cases_Bool h.told) [
        | inl told ↦
            subst (λ (b : List ℕ). IsFault settings b input.ended moments number code) (sym (taken_all (all told).0))
            (subst (λ (e : Bool). IsFault settings h.taken e moments number code) (told ∙ sym (all told).1) f)
        | inr unended ↦
            subst (λ (b : List ℕ). IsFault settings b input.ended moments number code) (sym h.came)
            (stay settings h.taken h.behind input.ended moments number code (subst (λ (e : Bool). IsFault settings h.taken e moments number code) unended f))
      ]

  -- so of what its session tells
  pub told_received : FaultsStay → (told : Option faults.Fault) → IfSome told (λ fault. IsFault settings h.taken h.told moments fault.message fault.code)
      → IfSome told (λ fault. IsFault settings input.bytes input.ended moments fault.message fault.code)
  told_received stay (Some fault) f = fault_received stay fault.message fault.code f
  told_received stay None f = tt
