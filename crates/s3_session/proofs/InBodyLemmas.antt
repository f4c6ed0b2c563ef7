-- Which connections read a body.
use Rattle.std.proofs.Common.{◌≡◌, ℕ, ◌+◌, true, false, List, ◌++◌, map, take, drop, length, refl, sym, ap, subst, ◌∙◌, arith, append-nil, length-append, [], Option}
use Rattle.std.proofs.lemmas.List.{drop_at, length-map, take_at}
use Rattle.s3_config.specs.Settings.{Settings}
use Rattle.s3_http_heads.specs.Head.{Says}
use Rattle.s3_aws_chunked.specs.Verdict as bodies
use Rattle.s3_framed_bodies.specs.Laws.{ReadersJudge}
use Rattle.s3_framed_bodies.specs.Verdict as framed
use Rattle.s3_session.specs.Decision.{AwaitsBody, behind_text, text_at}
use Rattle.s3_session.specs.Output.{Behind, Exchange, Past, Reading, ReadsBody, Serves, Standing, is_dead}
use Rattle.s3_session.specs.Laws.{OneWriting}
use Rattle.s3_session.specs.Stands.{SessionsWrite, Stands, is_in_body}
use Rattle.s3_session.specs.declared.incoming.Incoming.{Incoming}
use Rattle.s3_session.specs.declared.session.Stage.{Stage}
use Rattle.s3_session.specs.declared.session.Stage.TheVariants as stages
use Rattle.s3_session.specs.declared.session.Closing.TheVariants as closings
use Rattle.s3_machine.specs.declared.turn.Turn.{Turn}
use Rattle.s3_session.specs.Incoming.{IsInBody}
use Rattle.s3_session.specs.Session.{Connection, moment_at, standing_at, standing_of, unsent_of}
use Rattle.s3_session.proofs.StandsLemmas.{body_in, receiving_at, stands_behind}

-- the verdict on the body of a message that is open
awaits : ReadersJudge → (settings : Settings) (incoming : Incoming) (rest : List ℕ) → IsInBody settings incoming rest → AwaitsBody settings incoming.context.moment false rest
awaits judge settings incoming rest h =
    let b = h.begun in
    let here : text_at (length b.text) rest ≡ b.text = ap (take (length b.text)) b.joined ∙ take_at b.text b.behind (length b.text) refl in
    let there : behind_text (length b.text) rest ≡ b.behind = ap (drop (length b.text)) b.joined ∙ drop_at b.text b.behind (length b.text) refl in
    let judged = subst (λ (v : bodies.Verdict). framed.Judges b.asked.announced b.behind false v) h.undecided (judge incoming.admission.reader b.asked.announced b.behind false b.stands) in
    record {
      size = length b.text;
      found = b.found;
      head = b.head;
      says = subst (λ (t : List ℕ). Says t b.head) (sym here) b.says;
      asked = b.asked;
      admitted = b.admitted;
      held = h.held;
      undecided = subst (λ (t : List ℕ). framed.Judges b.asked.announced t false (bodies.Open h.held)) (sym there) judged;
    }

module _ (settings : Settings) (session : Connection) (past : Past) (sent : List ℕ) (h : Stands session settings past sent) where
  reads_at : ReadersJudge → (incoming : Incoming) → session.stage ≡ stages.Body incoming → ReadsBody settings past
  reads_at judge incoming at =
      let a = receiving_at settings session past.ended incoming h.left h.waiting h.last at h.here in
      record {
        out = sent ++ unsent_of session;
        writes = record {
          left = h.left;
          late = moment_at session.stage;
          waiting = h.waiting;
          last = h.last;
          serves = h.serves;
          behind = subst (λ (s : Standing). Behind s settings past.ended h.left (moment_at session.stage) h.waiting h.last) (ap standing_at at)
              (stands_behind judge settings session past.ended h.waiting h.last h.left h.here);
        };
        moment = incoming.context.moment;
        late = ap moment_at at;
        rest = a.0;
        left = a.1;
        awaits = subst (λ e. AwaitsBody settings incoming.context.moment e a.0) (sym a.2.goes_on) (awaits judge settings incoming a.0 a.2.body);
      }

  -- one that reads a body does
  pub reads_body : ReadersJudge → is_in_body session.stage ≡ true → ReadsBody settings past
  reads_body judge is = let body = body_in session.stage is in reads_at judge body.0 body.1

  -- as many answers as moments are no more moments than answers
  none_late : (out : List ℕ) (left : Option (List ℕ)) (late : List ℕ) (waiting : List Turn) (last : List ℕ)
      → Serves settings past out left late waiting last → length past.moments ≡ length past.answers + length late
  none_late out left late waiting last s =
      let moments = ap length s.moments ∙ length-append (map (λ (x : Exchange). x.context.moment) s.exchanges) late in
      omega (arith, moments, length-map s.exchanges (λ (x : Exchange). x.context.moment), ap length s.answers, length-map s.exchanges (λ (x : Exchange). x.answer))

  reads_only : (stage : Stage) → session.stage ≡ stage → standing_at stage ≡ Reading → ReadsBody settings past → is_in_body stage ≡ true
  reads_only stages.Reading at is r =
      let mine = none_late (sent ++ unsent_of session) h.left (moment_at session.stage) h.waiting h.last h.serves in
      let its = none_late r.out r.writes.left r.writes.late r.writes.waiting r.writes.last r.writes.serves in
      absurd (omega (arith, mine, its, ap length r.late, ap (λ (s : Stage). length (moment_at s)) at))
  reads_only (stages.Body incoming) at is r = refl
  reads_only (stages.Waiting context) at is r = let never = is in absurd (cc)
  reads_only (stages.Closed closings.Replied) at is r = let never = is in absurd (cc)
  reads_only (stages.Closed (closings.Refused moment code)) at is r = let never = is in absurd (cc)
  reads_only (stages.Closed (closings.Died moment)) at is r = let never = is in absurd (cc)

  -- and where memory did not run out, no other
  pub only_in_body : SessionsWrite → OneWriting → is_dead (standing_of session) ≡ false → ReadsBody settings past → is_in_body session.stage ≡ true
  only_in_body write one lives r =
      let same = one settings (standing_of session) Reading past past past.moments (sent ++ unsent_of session) r.out lives refl refl refl
      ([], append-nil past.moments) ([], append-nil past.moments) refl (write session settings past sent h) r.writes in
      reads_only session.stage refl same.3 r
