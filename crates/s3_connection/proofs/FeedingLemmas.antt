-- What a session made of some bytes.
use Rattle.std.proofs.Common.{◌≡◌, ℕ, Bool, true, false, List, [], ◌++◌, map, take, drop, length, refl, sym, subst, ◌∙◌, arith, append-nil}
use Rattle.std.proofs.lemmas.List.{drop_all, take-append-drop}
use Rattle.s3_config.specs.Settings.{Settings}
use Rattle.s3_machine.specs.History.{Entry}
use Rattle.s3_machine.specs.declared.turn.Turn.{Turn}
use Rattle.s3_session.specs.Output.{Past, Standing, Reading, Waiting, Over, Dead, is_waiting, is_closed}
use Rattle.s3_session.specs.declared.session.Need.{Need}
use Rattle.s3_session.specs.declared.session.Need.TheVariants as needs
use Rattle.s3_session.specs.Session as sessions
use Rattle.s3_session.specs.Session.{Connection, Needs, fed, turns_of}
use Rattle.s3_session.specs.Stands.{Stands}
use Rattle.s3_connection.specs.declared.stage.Stage.{Stage}
use Rattle.s3_connection.specs.declared.stage.Stage.TheVariants as stages
use Rattle.s3_connection.specs.Connection.{IsFit, is_reading_at}
use Rattle.s3_connection.specs.Holds.{IsBehind, IsTurn, Took}
use Rattle.s3_connection.specs.Output.{HasWaiting, answered_turn, past_of}

-- more went through it
pub fed_is : (taken bytes moments more : List ℕ) (entries : List Entry) (turns : List Turn)
    → fed (past_of taken false moments entries []) bytes more turns ≡ past_of (taken ++ bytes) false (moments ++ more) entries turns
fed_is taken bytes moments more entries turns = rw (append-nil (map answered_turn entries)) refl

-- the turn that a session needs answered waits
pub needed : (need : Need) (standing : Standing) → Needs need standing → HasWaiting standing (turns_of need)
needed needs.More Reading is = refl
needed (needs.Turn turn) Waiting is = (turn, refl)
needed needs.Close Over is = refl
needed needs.Close Dead is = tt
needed _ _ is = absurd is

pub none_waits : (standing : Standing) → is_waiting standing ≡ false → HasWaiting standing []
none_waits Waiting is = absurd (cc)
none_waits Dead is = tt
none_waits _ is = refl

-- what fits a stage where no more is read
pub fit_done : (session : Connection) (kept : List ℕ) (ended : Bool) → is_waiting (sessions.standing_of session) ≡ false → is_closed (sessions.standing_of session) ≡ true → kept ≡ []
    → IsFit stages.Done session kept ended
fit_done session kept ended waits closed none = (waits, λ opened. (let never = sym closed ∙ opened in absurd (cc)), none)

module _ (session : Connection) (kept : List ℕ) (stage : Stage) (settings : Settings) (taken offered moments : List ℕ) (entries : List Entry) (sent : List ℕ) where
  pub took_next : (n : ℕ) (more : List ℕ) (turns : List Turn)
      → Stands session settings (fed (past_of taken false moments entries []) (take n offered) more turns) sent
      → HasWaiting (sessions.standing_of session) turns → IsTurn stage turns → IsBehind stage false kept (drop n offered) false
      → Took session kept stage settings taken offered (moments ++ more) entries sent
  took_next n more turns stands waits turn left = record {
    more = take n offered;
    behind = drop n offered;
    waiting = turns;
    stands = subst (λ (p : Past). Stands session settings p sent) (fed_is taken (take n offered) moments more entries turns) stands;
    waits = waits;
    turn = turn;
    offers = sym (take-append-drop n offered);
    left = left;
  }

-- what is left of a piece of which all was taken
pub none_left : (need : Need) (len : ℕ) (piece : List ℕ) → (need ≡ needs.More → len ≡ length piece) → need ≡ needs.More → drop len piece ≡ []
none_left need len piece all is = drop_all len piece (omega (arith, all is))

pub reading_at : (stage : Stage) → is_reading_at stage ≡ true → stage ≡ stages.Reading
reading_at stages.Reading is = refl
reading_at _ is = absurd (cc)

pub fit_reading : (stage : Stage) (session : Connection) (kept : List ℕ) (ended : Bool) → stage ≡ stages.Reading → IsFit stage session kept ended
    → IsFit stages.Reading session kept ended
fit_reading stage session kept ended at fit = subst (λ (s : Stage). IsFit s session kept ended) at fit

pub fit_answered : (stage : Stage) (session : Connection) (kept : List ℕ) (ended : Bool) → stage ≡ stages.Answered → IsFit stage session kept ended
    → (sessions.standing_of session ≡ Reading) × (session.is_ended ≡ false)
fit_answered stage session kept ended at fit = subst (λ (s : Stage). IsFit s session kept ended) at fit
