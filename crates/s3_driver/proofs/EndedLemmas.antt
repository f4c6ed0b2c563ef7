-- What a connection that is served has written.
use Rattle.std.proofs.Common.{◌≡◌, ℕ, false, List, [], ◌++◌, refl, ap, subst, ◌∙◌, append-nil, inl, inr}
use Rattle.std.proofs.lemmas.Bool.{cases_Bool}
use Rattle.s3_config.specs.Settings.{Settings}
use Rattle.s3_machine.specs.History.{Entry}
use Rattle.s3_machine.specs.declared.turn.Turn.{Turn}
use Rattle.s3_session.specs.Output.{Standing, Reading, is_closed}
use Rattle.s3_connection.specs.declared.stage.Stage.{Stage}
use Rattle.s3_connection.specs.declared.stage.Stage.TheVariants as stages
use Rattle.s3_connection.specs.declared.stage.Wants.TheVariants as wanted
use Rattle.s3_connection.specs.Connection.{Connected, IsFit, is_answered_at, standing_of, unsent_of, wants_at}
use Rattle.s3_connection.specs.Holds.{ConnectionsWrite, IsBehind}
use Rattle.s3_connection.specs.Output.{Outputs}
use Rattle.s3_devices.specs.Device.{Traffic}
use Rattle.s3_driver.specs.declared.state.Ending.TheVariants as endings
use Rattle.s3_driver.specs.Ended.{HasClosed, HasFailedToRead, input_of}
use Rattle.s3_driver.specs.Served.{ConnectionsAreServed, ConnectionsEnd, ConnectionsHaveWritten, IsServed}

pub are_served : ConnectionsAreServed
are_served settings c name new = record { holds = new.begins settings; idle = new.idle }

pub have_written : ConnectionsWrite → ConnectionsHaveWritten
have_written write settings c traffic moments entries holds =
    let w = (write c settings (input_of traffic) moments entries traffic.sent holds).0 in
    record {
      standing = standing_of c;
      waiting = w.waiting;
      taken = w.taken;
      behind = w.behind;
      told = w.told;
      unsent = unsent_of c;
      read = w.came;
      ended = w.ended;
      output = w.output;
    }

-- what a connection does next that wants nothing, or bytes
done_is : (stage : Stage) → wants_at stage ≡ wanted.Nothing → stage ≡ stages.Done
done_is stages.Done is = refl
done_is _ is = absurd (cc)

reading_is : (stage : Stage) → wants_at stage ≡ wanted.Input → stage ≡ stages.Reading
reading_is stages.Reading is = refl
reading_is _ is = absurd (cc)

module _ (write : ConnectionsWrite) (settings : Settings) (c : Connected) (traffic : Traffic) (moments : List ℕ) (entries : List Entry)
    (s : IsServed settings c traffic moments entries) (none : unsent_of c ≡ []) where
  -- all of it is written, where nothing is behind an answer
  whole_output : is_answered_at c.stage ≡ false
      → (waiting : List Turn) × Outputs (standing_of c) settings (input_of traffic) moments entries waiting traffic.sent
  whole_output went =
      let w = (write c settings (input_of traffic) moments entries traffic.sent s.holds).0 in (
        w.waiting,
        subst (λ (out : List ℕ). Outputs (standing_of c) settings (input_of traffic) moments entries w.waiting out)
            (ap (λ (b : List ℕ). traffic.sent ++ b) none ∙ append-nil traffic.sent) (w.whole went),
      )

  pub has_closed : wants_at c.stage ≡ wanted.Nothing → HasClosed settings traffic moments entries
  has_closed is =
      let at = done_is c.stage is in
      let fit = subst (λ (stage : Stage). IsFit stage c.session c.kept c.is_ended) at s.holds.fit in
      let left = subst (λ (stage : Stage). IsBehind stage s.holds.told c.kept s.holds.behind traffic.is_ended) at s.holds.left in
      let out = whole_output (ap is_answered_at at) in
      record {
        standing = standing_of c;
        waiting = out.0;
        output = out.1;
        idle = fit.0;
        over = elim (cases_Bool (is_closed (standing_of c))) [
          | inl closed ↦ inr closed
          | inr opened ↦ inl (left (s.holds.stands.end ∙ fit.1 opened)).1
        ];
      }

  pub has_failed_to_read : wants_at c.stage ≡ wanted.Input → HasFailedToRead settings traffic moments entries
  has_failed_to_read is =
      let at = reading_is c.stage is in
      let fit = subst (λ (stage : Stage). IsFit stage c.session c.kept c.is_ended) at s.holds.fit in
      let out = whole_output (ap is_answered_at at) in
      let reads = subst (λ (standing : Standing). Outputs standing settings (input_of traffic) moments entries out.0 traffic.sent) fit.0 out.1 in
      record {
        unended = s.holds.ended ∙ fit.3;
        output = subst (λ (ts : List Turn). Outputs Reading settings (input_of traffic) moments entries ts traffic.sent) reads.waits reads;
      }

pub end_so : ConnectionsWrite → ConnectionsEnd
end_so write settings c traffic moments entries endings.Closed s stops = has_closed write settings c traffic moments entries s stops.1 stops.0
end_so write settings c traffic moments entries endings.ReadFailed s stops = has_failed_to_read write settings c traffic moments entries s stops.1 stops.0
end_so write settings c traffic moments entries endings.WriteFailed s stops = have_written write settings c traffic moments entries s.holds
