-- One connection on trial.
use Rattle.std.proofs.Common.{◌≡◌, ◌≢◌, ◌<◌, ◌+◌, ◌-◌, ◌||◌, ℕ, Bool, true, false, is_some, Option, Some, None, IfSome, List, [], ◌∷◌, ◌++◌, length, take, drop, refl, sym, ap, subst, ◌∙◌, arith, append-nil, append_assoc, inl, inr}
use mathlib.Core.List.{IsPrefix}
use Rattle.std.proofs.lemmas.Bool.{cases_lt}
use Rattle.std.proofs.lemmas.List.{length-append, take-append-drop, take-append-le}
use Rattle.std.proofs.Math.Seq.{take-append-add}
use Rattle.s3_config.specs.Settings.{Settings}
use Rattle.s3_terms.specs.declared.code.Code.{Code}
use Rattle.s3_machine.specs.declared.command.Answer.{Answer}
use Rattle.s3_machine.specs.declared.turn.Turn.{Turn}
use Rattle.s3_session.specs.Fault.{FaultsEnd, FaultsStay, HasNoFault, IsFault}
use Rattle.s3_session.specs.Laws.{OneWriting, OutputsStay}
use Rattle.s3_session.specs.Output.{Past, Reading, Standing, Waiting, Over, Dead, Writes, is_dead, is_waiting}
use Rattle.s3_session.specs.Session.{Connection, Needs, StaysOpen, fed, moment_if, standing_of, turns_of, unsent_of}
use Rattle.s3_session.specs.Stands.{SessionsWrite, Stands}
use Rattle.s3_session.specs.declared.fault.Fault.{Fault}
use Rattle.s3_session.specs.declared.session.Need.{Need}
use Rattle.s3_session.specs.declared.session.Need.TheVariants as needs
use Rattle.s3_connection.specs.Output.{HasWaiting, Input, past_of}
use Rattle.s3_simulation.specs.Faults.{FaultOf, HasNoFaultOf}
use Rattle.s3_simulation.specs.Moments.{HasHanded, behind_if, handed, next_of}
use Rattle.s3_simulation.specs.Timed.{TimedOutputs}
use Rattle.s3_simulation.specs.Trimmed.{HasSound, IsRefusedWithin}
use Rattle.s3_simulation.specs.Trying.{HasNoneBefore, HasTried, IsRefusedIn, Knows, Trying, asks, past_with, unended}
use Rattle.s3_simulation.proofs.FaultLemmas.{more_moments}
use Rattle.s3_simulation.proofs.MomentsLemmas.{begins, begins_too}
use Rattle.s3_simulation.proofs.PlayedLemmas.{OneTimedOutput, handed_if}

-- ---- sound messages

-- a sound message stays that, whatever follows
pub sound_more : OutputsStay → (settings : Settings) (moments bytes more : List ℕ) (ended : Bool) → HasSound settings moments (unended bytes)
    → HasSound settings moments (record { bytes = bytes ++ more; ended = ended })
sound_more stay settings moments bytes more ended (turn, (out, timed)) = (
  turn,
  (
    out,
    record {
      count = timed.count;
      output = record {
        waits = timed.output.waits;
        writes = stay settings Waiting (past_of bytes false (handed moments timed.count) [] (turn ∷ [])) out more ended (λ is. cc) refl timed.output.writes;
      };
    },
  ),
)

none_asked : (standing : Standing) → is_dead standing ≡ false → is_waiting standing ≡ false → HasWaiting standing []
none_asked Reading lives idle = refl
none_asked Waiting lives idle = absurd (cc)
none_asked Over lives idle = refl
none_asked Dead lives idle = absurd (cc)

-- where no command waited and none waits, no message is sound
pub not_sound : OneTimedOutput → (settings : Settings) (moments : List ℕ) (input : Input) (count : ℕ) (standing : Standing) (out : List ℕ)
    → is_dead standing ≡ false → is_waiting standing ≡ false
    → Writes standing settings (past_of input.bytes input.ended (handed moments count) [] []) out
    → ¬ (HasSound settings moments input)
not_sound one settings moments input count standing out lives idle writes (turn, (other, timed)) =
    let mine : TimedOutputs standing settings moments input [] [] out = record {
      count = count;
      output = record { waits = none_asked standing lives idle; writes = writes };
    } in
    let same = one settings moments input [] standing Waiting [] (turn ∷ []) out other lives refl mine timed in
    let never = sym idle ∙ ap is_waiting same.2 in
    absurd (cc)

-- a command waits that is the first
pub asked_first : SessionsWrite → (session : Connection) (settings : Settings) (moments bytes : List ℕ) (count : ℕ) (turn : Turn) (sent : List ℕ)
    → standing_of session ≡ Waiting → Stands session settings (past_with bytes (handed moments count) (turn ∷ []) []) sent
    → HasSound settings moments (unended bytes)
asked_first write session settings moments bytes count turn sent waits stands = (
  turn,
  (
    sent ++ unsent_of session,
    record {
      count = count;
      output = record {
        waits = (turn, refl);
        writes = subst (λ (s : Standing). Writes s settings (past_with bytes (handed moments count) (turn ∷ []) []) (sent ++ unsent_of session)) waits
            (write session settings (past_with bytes (handed moments count) (turn ∷ []) []) sent stands);
      };
    },
  ),
)

-- ---- faults

-- a fault within fewer bytes is one within more
pub fault_more : FaultsStay → (settings : Settings) (moments bytes more : List ℕ) (number : ℕ) (code : Code)
    → FaultOf settings moments (unended bytes) number code → FaultOf settings moments (unended (bytes ++ more)) number code
fault_more stay settings moments bytes more number code (count, fault) =
    (count, stay settings bytes more false (handed moments count) number code fault)

-- so none within more is none within fewer
pub never_within : FaultsStay → (settings : Settings) (moments : List ℕ) (input : Input) → HasNoFaultOf settings moments (unended input.bytes) → (n : ℕ)
    → ¬ (IsRefusedWithin settings moments input n)
never_within stay settings moments input none n (number, code, fault) =
    none number code
    (subst (λ (b : List ℕ). FaultOf settings moments (unended b) number code) (take-append-drop n input.bytes)
    (fault_more stay settings moments (take n input.bytes) (drop n input.bytes) number code fault))

-- a connection that is over has no fault within fewer bytes, with which it would still be reading
pub open_before : OneWriting → FaultsEnd → (settings : Settings) (moments : List ℕ) (past : Past) (piece more out : List ℕ) (count : ℕ) (turns : List Turn) (m : ℕ)
    → past.ended ≡ false → past.moments ++ more ≡ handed moments count → Writes Over settings (fed past piece more turns) out
    → ((k : ℕ) × (text : List ℕ) × Writes Reading settings (fed past (take m piece) (take k more) []) text)
    → (number : ℕ) (code : Code) → ¬ (FaultOf settings moments (unended (past.bytes ++ take m piece)) number code)
open_before one end settings moments past piece more out count turns m goes_on hands over reads number code fault =
    let bytes = past.bytes ++ take m piece in
    let all = handed moments (count + fault.0) in
    let many = more_moments settings (unended bytes) (handed moments fault.0) all number code (begins_too count fault.0 moments) fault.1 in
    let front : IsPrefix (past.moments ++ more) all = subst (λ (ms : List ℕ). IsPrefix ms all) (sym hands) (begins count fault.0 moments) in
    let split : past.bytes ++ piece ≡ bytes ++ drop m piece =
    ap (λ (b : List ℕ). past.bytes ++ b) (sym (take-append-drop m piece)) ∙ sym (append_assoc past.bytes (take m piece) (drop m piece)) in
    let a = end settings Over (fed past piece more turns) out bytes (drop m piece) all number code many refl split front over in
    let k = reads.0 in
    let few : IsPrefix (past.moments ++ take k more) (past.moments ++ more) = (
      drop k more,
      append_assoc past.moments (take k more) (drop k more) ∙ ap (λ (ms : List ℕ). past.moments ++ ms) (take-append-drop k more),
    ) in
    let same = one settings Over Reading (record (fed past piece more turns) { bytes = bytes; ended = false }) (fed past (take m piece) (take k more) []) (past.moments ++ more) out reads.1
    refl refl refl (sym goes_on) ([], append-nil (past.moments ++ more)) few refl a reads.2 in
    let never = same.3 in
    absurd (cc)

-- so none within fewer bytes than were taken, where there was none before
pub none_before : OneWriting → FaultsEnd → FaultsStay → (settings : Settings) (moments bytes piece more out : List ℕ) (past : Past) (count : ℕ) (turns : List Turn)
    → past.bytes ≡ bytes → past.ended ≡ false → past.moments ++ more ≡ handed moments count → Writes Over settings (fed past piece more turns) out
    → StaysOpen settings past piece more → HasNoFaultOf settings moments (unended bytes) → HasNoneBefore settings moments (bytes ++ piece)
none_before one end stay settings moments bytes piece more out past count turns same goes_on hands over opens clean n less (number, code, fault) =
    elim (cases_lt (length bytes) n) [
      | inr within ↦
          never_within stay settings moments (unended bytes) clean n
          (number, code, subst (λ (b : List ℕ). FaultOf settings moments (unended b) number code) (take-append-le n bytes piece within) fault)
      | inl behind ↦
          (let m = n - length bytes in
          let place : n ≡ length bytes + m = omega (arith, behind) in
          let short : m < length piece = omega (arith, place, behind, less, length-append bytes piece) in
          open_before one end settings moments past piece more out count turns m goes_on hands over (opens m short) number code
          (subst (λ (b : List ℕ). FaultOf settings moments (unended b) number code)
          (ap (λ (k : ℕ). take k (bytes ++ piece)) place ∙ take-append-add bytes piece m ∙ ap (λ (b : List ℕ). b ++ take m piece) (sym same)) fault))
    ]

-- ---- what it took

waits_with : (turn : Turn) (standing : Standing) → Needs (needs.Turn turn) standing → standing ≡ Waiting
waits_with turn Waiting is = refl
waits_with turn Reading is = absurd is
waits_with turn Over is = absurd is
waits_with turn Dead is = absurd is

-- what is known behind more bytes
knows_fed : SessionsWrite → OutputsStay → (session : Connection) (settings : Settings) (moments bytes piece : List ℕ) (count : ℕ) (turns : List Turn) (answers : List Answer) (sent : List ℕ)
    (need : Need) (b : Bool) → Needs need (standing_of session)
    → Stands session settings (past_with (bytes ++ piece) (handed moments count) (turns ++ turns_of need) answers) sent
    → Knows b settings moments bytes turns answers → Knows (asks need || b) settings moments (bytes ++ piece) (turns ++ turns_of need) answers
knows_fed write stay session settings moments bytes piece count turns answers sent needs.More true needed stands sound =
    sound_more stay settings moments bytes piece false sound
knows_fed write stay session settings moments bytes piece count turns answers sent needs.More false needed stands none =
    (append-nil turns ∙ none.0, none.1)
knows_fed write stay session settings moments bytes piece count turns answers sent needs.Close true needed stands sound =
    sound_more stay settings moments bytes piece false sound
knows_fed write stay session settings moments bytes piece count turns answers sent needs.Close false needed stands none =
    (append-nil turns ∙ none.0, none.1)
knows_fed write stay session settings moments bytes piece count turns answers sent (needs.Turn turn) true needed stands sound =
    sound_more stay settings moments bytes piece false sound
knows_fed write stay session settings moments bytes piece count turns answers sent (needs.Turn turn) false needed stands none =
    asked_first write session settings moments (bytes ++ piece) count turn sent (waits_with turn (standing_of session) needed)
    (subst (λ (ts : List Turn). Stands session settings (past_with (bytes ++ piece) (handed moments count) ts []) sent) (ap (λ (ts : List Turn). ts ++ turn ∷ []) none.0)
    (subst (λ (es : List Answer). Stands session settings (past_with (bytes ++ piece) (handed moments count) (turns ++ turn ∷ []) es) sent) none.1 stands))

-- its session took more bytes
pub tried_fed : SessionsWrite → OutputsStay → (t : Trying) (session : Connection) (settings : Settings) (moments bytes piece left : List ℕ) (has : Bool) (now : ℕ) (need : Need) (asked : Bool)
    (h : HasTried t settings moments bytes) → asked ≡ asks need → left ≡ behind_if has t.moments → now ≡ next_of t.moments → Needs need (standing_of session)
    → Stands session settings (fed (past_with bytes (handed moments h.count) h.turns h.answers) piece (moment_if has now) (turns_of need)) h.sent
    → HasTried (record { session = session; moments = left; is_sound = asked || t.is_sound; taken = t.taken }) settings moments (bytes ++ piece)
tried_fed write stay t session settings moments bytes piece left has now need asked h is behind next needed stands =
    let n = handed_if moments h.count has t.moments h.hands in
    let all : handed moments h.count ++ moment_if has now ≡ handed moments n.0 =
    ap (λ (m : ℕ). handed moments h.count ++ moment_if has m) next ∙ sym n.2 in
    let stood : Stands session settings (past_with (bytes ++ piece) (handed moments n.0) (h.turns ++ turns_of need) h.answers) h.sent =
    subst (λ (ms : List ℕ). Stands session settings (past_with (bytes ++ piece) ms (h.turns ++ turns_of need) h.answers) h.sent) all stands in
    record {
      count = n.0;
      hands = subst (HasHanded moments n.0) (sym behind) n.1;
      turns = h.turns ++ turns_of need;
      answers = h.answers;
      sent = h.sent;
      stands = stood;
      knows = subst (λ (a : Bool). Knows (a || t.is_sound) settings moments (bytes ++ piece) (h.turns ++ turns_of need) h.answers) (sym is)
          (knows_fed write stay session settings moments bytes piece n.0 h.turns h.answers h.sent need t.is_sound needed stood h.knows);
    }

-- of what it took no message is refused before the last byte, where it is over by that
pub none_before_last : SessionsWrite → OneWriting → FaultsEnd → FaultsStay → (t : Trying) (session : Connection) (settings : Settings) (moments bytes piece : List ℕ) (has : Bool) (now : ℕ) (turns : List Turn)
    (h : HasTried t settings moments bytes) → now ≡ next_of t.moments
    → Stands session settings (fed (past_with bytes (handed moments h.count) h.turns h.answers) piece (moment_if has now) turns) h.sent
    → StaysOpen settings (past_with bytes (handed moments h.count) h.turns h.answers) piece (moment_if has now)
    → HasNoFaultOf settings moments (unended bytes) → standing_of session ≡ Over → HasNoneBefore settings moments (bytes ++ piece)
none_before_last write one end stay t session settings moments bytes piece has now turns h next stands opens clean over =
    let n = handed_if moments h.count has t.moments h.hands in
    let past = past_with bytes (handed moments h.count) h.turns h.answers in
    let all : handed moments h.count ++ moment_if has now ≡ handed moments n.0 =
    ap (λ (m : ℕ). handed moments h.count ++ moment_if has m) next ∙ sym n.2 in
    none_before one end stay settings moments bytes piece (moment_if has now) (h.sent ++ unsent_of session) past n.0 turns refl refl all
    (subst (λ (s : Standing). Writes s settings (fed past piece (moment_if has now) turns) (h.sent ++ unsent_of session)) over
    (write session settings (fed past piece (moment_if has now) turns) h.sent stands)) opens clean

knows_any : (b : Bool) (settings : Settings) (moments bytes : List ℕ) (turns : List Turn) (answers others : List Answer) → b ≡ true
    → Knows b settings moments bytes turns answers → Knows b settings moments bytes turns others
knows_any true settings moments bytes turns answers others is sound = sound
knows_any false settings moments bytes turns answers others is none = absurd (cc)

-- its command was answered, and some was sent
pub tried_answered : (t : Trying) (session : Connection) (settings : Settings) (moments bytes sent : List ℕ) (answers : List Answer) (h : HasTried t settings moments bytes)
    → t.is_sound ≡ true → Stands session settings (past_with bytes (handed moments h.count) h.turns answers) sent
    → HasTried (record { session = session; moments = t.moments; is_sound = t.is_sound; taken = t.taken }) settings moments bytes
tried_answered t session settings moments bytes sent answers h sound stands = record {
  count = h.count;
  hands = h.hands;
  turns = h.turns;
  answers = answers;
  sent = sent;
  stands = stands;
  knows = knows_any t.is_sound settings moments bytes h.turns h.answers answers sound h.knows;
}

-- more were counted
pub tried_counted : (t : Trying) (taken : ℕ) (settings : Settings) (moments bytes : List ℕ) → HasTried t settings moments bytes
    → HasTried (record { session = t.session; moments = t.moments; is_sound = t.is_sound; taken = taken }) settings moments bytes
tried_counted t taken settings moments bytes h = record {
  count = h.count;
  hands = h.hands;
  turns = h.turns;
  answers = h.answers;
  sent = h.sent;
  stands = h.stands;
  knows = h.knows;
}

-- ---- whether a message is refused

pub refused_told : (settings : Settings) (moments bytes : List ℕ) (count : ℕ) (told : Option Fault)
    → IfSome told (λ fault. IsFault settings bytes false (handed moments count) fault.message fault.code) → is_some told ≡ true
    → IsRefusedIn settings moments bytes
refused_told settings moments bytes count (Some fault) is some = (fault.message, fault.code, (count, is))
refused_told settings moments bytes count None is some = absurd (cc)

pub some_told : (told : Option Fault) → is_some told ≡ true → told ≢ None
some_told (Some fault) is none = cc
some_told None is none = cc

pub none_told : (told : Option Fault) → is_some told ≡ false → told ≡ None
none_told (Some fault) is = absurd (cc)
none_told None is = refl

-- none is, with bytes that it doesn't hear
pub unrefused : (t : Trying) (settings : Settings) (moments bytes more : List ℕ) (h : HasTried t settings moments bytes)
    → ((given : List ℕ) → IsPrefix (handed moments h.count) given → HasNoFault settings (bytes ++ more) false given)
    → HasNoFaultOf settings moments (unended (bytes ++ more))
unrefused t settings moments bytes more h none number code (count, fault) =
    none (handed moments (h.count + count)) (begins h.count count moments) number code
    (more_moments settings (unended (bytes ++ more)) (handed moments count) (handed moments (h.count + count)) number code (begins_too h.count count moments) fault)
