-- What a connection has written.
use Rattle.std.proofs.Common.{◌≡◌, ◌≢◌, ℕ, Bool, false, List, [], ◌∷◌, ◌++◌, map, refl, sym, ap, subst, ◌∙◌, append-nil, inl, inr}
use Rattle.std.proofs.lemmas.Bool.{cases_Bool}
use Rattle.s3_config.specs.Settings.{Settings}
use Rattle.s3_machine.specs.History.{Entry}
use Rattle.s3_machine.specs.declared.turn.Turn.{Turn}
use Rattle.s3_session.specs.Output.{Writes, Reading, is_closed}
use Rattle.s3_session.specs.Stands.{SessionsWrite}
use Rattle.s3_session.specs.Laws.{OneWriting, OutputsStay}
use Rattle.s3_connection.specs.declared.stage.Stage.{Stage}
use Rattle.s3_connection.specs.declared.stage.Stage.TheVariants as stages
use Rattle.s3_connection.specs.Connection.{Connected, IsFit, is_answered_at, standing_of, unsent_of}
use Rattle.s3_connection.specs.Holds.{ConnectionsWrite, Holds, IsBehind}
use Rattle.s3_connection.specs.Output.{Input, OneOutput, answered_turn, past_of}
use Rattle.s3_connection.proofs.HoldsLemmas.{told_all, told_end}

module _ (write : SessionsWrite) (stay : OutputsStay) (c : Connected) (settings : Settings) (input : Input) (moments : List ℕ) (entries : List Entry) (sent : List ℕ)
    (h : Holds c settings input moments entries sent) where
  told_is : h.told ≡ c.session.is_ended
  told_is = told_end c settings input moments entries sent h

  writes_taken : Writes (standing_of c) settings (past_of h.taken h.told moments entries h.waiting) (sent ++ unsent_of c)
  writes_taken = write c.session settings (past_of h.taken h.told moments entries h.waiting) sent h.stands

  -- what is behind changes nothing
  writes_over : standing_of c ≢ Reading → h.told ≡ false → Writes (standing_of c) settings (past_of input.bytes input.ended moments entries h.waiting) (sent ++ unsent_of c)
  writes_over other unended =
      subst (λ (b : List ℕ). Writes (standing_of c) settings (past_of b input.ended moments entries h.waiting) (sent ++ unsent_of c)) (sym h.came)
      (stay settings (standing_of c) (past_of h.taken h.told moments entries h.waiting) (sent ++ unsent_of c) h.behind input.ended other unended writes_taken)

  -- nothing is behind
  writes_same : h.behind ≡ [] → input.ended ≡ h.told → Writes (standing_of c) settings (past_of input.bytes input.ended moments entries h.waiting) (sent ++ unsent_of c)
  writes_same none same =
      let all : input.bytes ≡ h.taken = h.came ∙ ap (λ (b : List ℕ). h.taken ++ b) none ∙ append-nil h.taken in
      subst (λ (b : List ℕ). Writes (standing_of c) settings (past_of b input.ended moments entries h.waiting) (sent ++ unsent_of c)) (sym all)
      (subst (λ (e : Bool). Writes (standing_of c) settings (past_of h.taken e moments entries h.waiting) (sent ++ unsent_of c)) (sym same) writes_taken)

  writes_at : (stage : Stage) → IsFit stage c.session c.kept c.is_ended → IsBehind stage h.told c.kept h.behind input.ended → is_answered_at stage ≡ false
      → Writes (standing_of c) settings (past_of input.bytes input.ended moments entries h.waiting) (sent ++ unsent_of c)
  writes_at stages.Reading fit left whole = writes_same left (h.ended ∙ fit.3 ∙ sym (told_is ∙ fit.1))
  writes_at stages.Answered fit left whole = absurd (cc)
  writes_at stages.Done fit left whole = elim (cases_Bool h.told) [
    | inl told ↦ writes_same (left told).0 ((left told).1 ∙ sym told)
    | inr unended ↦ writes_over (λ reads. (let over = fit.1 (ap is_closed reads) in let never = sym unended ∙ told_is ∙ over in absurd (cc))) unended
  ]
  writes_at _ fit left whole = writes_over (λ reads. (let never = sym fit.0 ∙ reads in absurd (cc))) (told_is ∙ fit.1)

pub written : SessionsWrite → OutputsStay → ConnectionsWrite
written write stay c settings input moments entries sent h = (
  record {
    taken = h.taken;
    behind = h.behind;
    told = h.told;
    waiting = h.waiting;
    came = h.came;
    ended = told_all c settings input moments entries sent h;
    output = record { waits = h.waits; writes = writes_taken write stay c settings input moments entries sent h };
    whole = λ went. record { waits = h.waits; writes = writes_at write stay c settings input moments entries sent h c.stage h.fit h.left went };
  },
  h.turn,
)

-- what is behind the same entries is the same
same_behind : (entries : List Entry) (w v : List Turn) → map answered_turn entries ++ w ≡ map answered_turn entries ++ v → w ≡ v
same_behind [] w v is = is
same_behind (e ∷ entries) w v is = same_behind entries w v (cc)

pub one_output : OneWriting → OneOutput
one_output one settings input moments ms ns entries p q w v x y live also front other a b =
    let same = one settings p q (past_of input.bytes input.ended ms entries w) (past_of input.bytes input.ended ns entries v) moments x y live also
    refl refl front other refl a.writes b.writes in
    (same.0, same_behind entries w v same.1, same.2, same.3)
