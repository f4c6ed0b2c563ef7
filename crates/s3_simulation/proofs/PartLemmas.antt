-- What a connection wrote and waits for, with a part of what it received.
use Rattle.std.proofs.Common.{◌≡◌, ◌≢◌, ◌≤◌, ◌<◌, ◌+◌, ◌⊎◌, ℕ, zero, suc, Bool, true, false, List, [], ◌∷◌, ◌++◌, length, map, take, drop, Some, refl, sym, ap, subst, ◌∙◌, append-nil, append_assoc, arith, inl, inr}
use Rattle.std.proofs.lemmas.Bool.{cases_Bool}
use Rattle.std.proofs.lemmas.Bool.Decides.{leb_tells}
use Rattle.std.proofs.lemmas.List.{take-append-drop, take-append-le, take_all}
use Rattle.s3_config.specs.Settings.{Settings}
use Rattle.s3_terms.specs.declared.code.Code.{Code}
use Rattle.s3_machine.specs.History.{Entry}
use Rattle.s3_machine.specs.declared.turn.Turn.{Turn}
use mathlib.Core.List.{IsPrefix}
use Rattle.s3_session.specs.Fault.{FaultsEnd, IsRefusedBehind, RefusedIsNothing}
use Rattle.s3_session.specs.Laws.{OutputsStay}
use Rattle.s3_session.specs.Output.{Exchange, Standing, Writes, is_dead, message_of}
use Rattle.s3_session.specs.Output as standings
use Rattle.s3_session.specs.Walk.{Walks}
use Rattle.s3_connection.specs.Connection.{nothing_received}
use Rattle.s3_connection.specs.Output.{HasWaiting, Input, past_of}
use Rattle.s3_simulation.specs.Faults.{FaultOf}
use Rattle.s3_simulation.specs.Moments.{handed}
use Rattle.s3_simulation.specs.Timed.{TimedOutputs, Waits}
use Rattle.s3_simulation.specs.Trimmed.{All, HasSound, IsRefusedAt, IsRefusedWithin, KeepsOutput, MayBe, Nothing, Share, UpTo}
use Rattle.s3_simulation.proofs.FaultLemmas.{more_moments}
use Rattle.s3_simulation.proofs.MomentsLemmas.{begins, begins_too, handed_front, handed_next}
use Rattle.s3_simulation.proofs.PlayedLemmas.{OneTimedOutput}

-- what a connection has received in its own events
abbrev pub kept_input : Share → Input → Input
kept_input Nothing input = nothing_received
kept_input All input = input
kept_input (UpTo place) input = record { bytes = take place input.bytes; ended = false }

-- ---- a connection that has an answer, or waits for a turn, has a sound message

-- the first of the moments that a list hands out
first_handed : (moments : List ℕ) (count moment : ℕ) (more : List ℕ) → handed moments count ≡ moment ∷ more → handed moments 1 ≡ moment ∷ []
first_handed moments zero moment more is = absurd (cc)
first_handed moments (suc n) moment more is =
    let both = sym (handed_next moments n) ∙ is in
    handed_next moments zero ∙ ap (λ (m : ℕ). m ∷ []) (cc)

-- it waited for the turn of the first that was answered
answered_sound : (settings : Settings) (moments : List ℕ) (input : Input) (count : ℕ) (e : Entry) (es : List Entry) (waiting : List Turn) (out : List ℕ) (q : Standing)
    → (w : Writes q settings (past_of input.bytes input.ended (handed moments count) (e ∷ es) waiting) out)
    → (xs : List Exchange) → w.serves.exchanges ≡ xs → HasSound settings moments input
answered_sound settings moments input count e es waiting out q w [] is =
    let none = w.serves.answers ∙ ap (map (λ (x : Exchange). x.answer)) is in absurd (cc)
answered_sound settings moments input count e es waiting out q w (x ∷ xs) is =
    let walk = subst (λ (ys : List Exchange). Walks settings input.ended input.bytes (map message_of ys) w.left) is w.serves.walk in
    let given = w.serves.moments ∙ ap (λ (ys : List Exchange). map (λ (y : Exchange). y.context.moment) ys ++ w.late) is in
    let turn : Turn = record { command = x.command; moment = x.context.moment } in (
      turn,
      (
        x.invitation,
        record {
          count = 1;
          output = record {
            waits = (turn, refl);
            writes = record {
              left = Some input.bytes;
              late = x.context.moment ∷ [];
              waiting = turn ∷ [];
              last = x.invitation;
              serves = record {
                exchanges = [];
                walk = refl;
                replied = tt;
                moments = first_handed moments count x.context.moment (map (λ (y : Exchange). y.context.moment) xs ++ w.late) given;
                turns = refl;
                answers = refl;
                joined = refl;
              };
              behind = record {
                context = x.context;
                command = x.command;
                after = walk.0;
                asked = refl;
                one = refl;
                judged = walk.1;
                invites = walk.2;
              };
            };
          };
        },
      ),
    )

pub entries_sound : (settings : Settings) (moments : List ℕ) (input : Input) (e : Entry) (es : List Entry) (waiting : List Turn) (out : List ℕ) (q : Standing)
    → TimedOutputs q settings moments input (e ∷ es) waiting out → HasSound settings moments input
entries_sound settings moments input e es waiting out q t =
    answered_sound settings moments input t.count e es waiting out q t.output.writes t.output.writes.serves.exchanges refl

pub waits_sound : (settings : Settings) (moments : List ℕ) (input : Input) (es : List Entry) (turn : Turn) → Waits settings moments input es turn → HasSound settings moments input
waits_sound settings moments input [] turn w = (turn, w)
waits_sound settings moments input (e ∷ es) turn w = entries_sound settings moments input e es (turn ∷ []) w.0 standings.Waiting w.1

-- ---- more or fewer bytes, and their end

module _ (stay : OutputsStay) (settings : Settings) (moments : List ℕ) where
  pub waits_on : (bytes more : List ℕ) (ended : Bool) (entries : List Entry) (turn : Turn)
      → Waits settings moments (record { bytes = bytes; ended = false }) entries turn → Waits settings moments (record { bytes = bytes ++ more; ended = ended }) entries turn
  waits_on bytes more ended entries turn w = (
    w.0,
    record {
      count = w.1.count;
      output = record {
        waits = w.1.output.waits;
        writes = stay settings standings.Waiting (past_of bytes false (handed moments w.1.count) entries (turn ∷ [])) w.0 more ended (λ is. absurd (cc)) refl w.1.output.writes;
      };
    },
  )

  -- so with all that it will have received
  pub waits_later : (more : List ℕ) (input whole : Input) → whole.bytes ≡ input.bytes ++ more → (input.ended ≡ true → (more ≡ []) × (whole.ended ≡ true))
      → (entries : List Entry) (turn : Turn) → Waits settings moments input entries turn → Waits settings moments whole entries turn
  waits_later more input whole bytes end entries turn w = elim (cases_Bool input.ended) [
    | inl ended ↦
        (let closed = end ended in
        subst (λ (b : List ℕ). Waits settings moments (record { bytes = b; ended = whole.ended }) entries turn)
        (sym (bytes ∙ ap (λ (m : List ℕ). input.bytes ++ m) closed.0 ∙ append-nil input.bytes))
        (subst (λ (e : Bool). Waits settings moments (record { bytes = input.bytes; ended = e }) entries turn) (ended ∙ sym closed.1) w))
    | inr on ↦
        subst (λ (b : List ℕ). Waits settings moments (record { bytes = b; ended = whole.ended }) entries turn) (sym bytes)
        (waits_on input.bytes more whole.ended entries turn (subst (λ (e : Bool). Waits settings moments (record { bytes = input.bytes; ended = e }) entries turn) on w))
  ]

  -- a command that waits with a part of what a connection received waits with all of it
  pub waits_whole : (share : Share) (input : Input) (entries : List Entry) (turn : Turn) → share ≢ Nothing
      → Waits settings moments (kept_input share input) entries turn → Waits settings moments input entries turn
  waits_whole Nothing input entries turn some w = absurd (some refl)
  waits_whole All input entries turn some w = w
  waits_whole (UpTo place) input entries turn some w =
      subst (λ (b : List ℕ). Waits settings moments (record { bytes = b; ended = input.ended }) entries turn) (take-append-drop place input.bytes)
      (waits_on (take place input.bytes) (drop place input.bytes) input.ended entries turn w)

-- a message that is refused has the first of more moments
behind_more : (settings : Settings) (ended : Bool) (bytes more few many : List ℕ) → IsPrefix few many → IsRefusedBehind settings ended bytes more few
    → IsRefusedBehind settings ended bytes more many
behind_more settings ended bytes more few many front r = record {
  messages = r.messages;
  moment = r.moment;
  code = r.code;
  head_only = r.head_only;
  sound = r.sound;
  refused = r.refused;
  given = (
    r.given.0 ++ front.0,
    sym (append_assoc _ r.given.0 front.0) ∙ ap (λ (ms : List ℕ). ms ++ front.0) r.given.1 ∙ front.1,
  );
}

-- what a connection wrote and waits for, that is alive
pub record Wrote (settings : Settings) (moments : List ℕ) (input : Input) (entries : List Entry) (waiting : List Turn) : Type 0 where
  pub standing : Standing
  pub out : List ℕ
  pub lives : is_dead standing ≡ false
  pub wrote : TimedOutputs standing settings moments input entries waiting out

module _ (ends : FaultsEnd) (alone : RefusedIsNothing) (stay : OutputsStay) (settings : Settings) (moments : List ℕ) where
  -- behind a message that is refused nothing counts
  outputs_before : (bytes more : List ℕ) (ended : Bool) (number : ℕ) (code : Code) → FaultOf settings moments (record { bytes = bytes; ended = false }) number code
      → (q : Standing) (entries : List Entry) (waiting : List Turn) (out : List ℕ) → is_dead q ≡ false
      → TimedOutputs q settings moments (record { bytes = bytes ++ more; ended = ended }) entries waiting out
      → TimedOutputs q settings moments (record { bytes = bytes; ended = false }) entries waiting out
  outputs_before bytes more ended number code fault q entries waiting out lives t =
      let all = handed moments (fault.0 + t.count) in
      let f = more_moments settings (record { bytes = bytes; ended = false }) (handed moments fault.0) all number code (begins fault.0 t.count moments) fault.1 in
      record {
        count = t.count;
        output = record {
          waits = t.output.waits;
          writes = ends settings q (past_of (bytes ++ more) ended (handed moments t.count) entries waiting) out bytes more all number code f lives refl
              (begins_too fault.0 t.count moments) t.output.writes;
        };
      }

  -- nor does that message
  module _ (bytes more : List ℕ) (ended : Bool) (count : ℕ) (refused : IsRefusedBehind settings ended bytes more (handed moments count)) where
    without : (q : Standing) (entries : List Entry) (waiting : List Turn) (out : List ℕ) → is_dead q ≡ false
        → (t : TimedOutputs q settings moments (record { bytes = bytes ++ more; ended = ended }) entries waiting out)
        → ((q ≡ standings.Waiting) × standings.Writes standings.Waiting settings (past_of bytes false (handed moments t.count) entries waiting) out)
        ⊎ ((q ≡ standings.Over)
        × (fewer : List ℕ)
        × (written : List ℕ)
        × IsPrefix fewer (handed moments t.count)
        × standings.Writes standings.Reading settings (past_of bytes false fewer entries waiting) written)
    without q entries waiting out lives t =
        let all = handed moments (count + t.count) in
        alone settings q (past_of (bytes ++ more) ended (handed moments t.count) entries waiting) out bytes more all
        (behind_more settings ended bytes more (handed moments count) all (begins count t.count moments) refused) lives refl (begins_too count t.count moments) t.output.writes

    waits_without : (entries : List Entry) (turn : Turn) → Waits settings moments (record { bytes = bytes ++ more; ended = ended }) entries turn
        → Waits settings moments (record { bytes = bytes; ended = false }) entries turn
    waits_without entries turn w = elim (without standings.Waiting entries (turn ∷ []) w.0 refl w.1) [
      | inl waits ↦ (w.0, record { count = w.1.count; output = record { waits = w.1.output.waits; writes = waits.1 } })
      | inr over ↦ absurd (let never = over.0 in cc)
    ]

    wrote_without : (q : Standing) (entries : List Entry) (waiting : List Turn) (out : List ℕ) → is_dead q ≡ false
        → TimedOutputs q settings moments (record { bytes = bytes ++ more; ended = ended }) entries waiting out
        → Wrote settings moments (record { bytes = bytes; ended = false }) entries waiting
    wrote_without q entries waiting out lives t = elim (without q entries waiting out lives t) [
      | inl waits ↦ record {
        standing = standings.Waiting;
        out = out;
        lives = refl;
        wrote = record { count = t.count; output = record { waits = subst (λ (s : Standing). HasWaiting s waiting) waits.0 t.output.waits; writes = waits.1 } };
      }
      | inr over ↦
          (let fewer = over.1 in
          let front = over.3 in
          record {
            standing = standings.Reading;
            out = over.2;
            lives = refl;
            wrote = record {
              count = length fewer;
              output = record {
                waits = subst (λ (s : Standing). HasWaiting s waiting) over.0 t.output.waits;
                writes = subst (λ (ms : List ℕ). standings.Writes standings.Reading settings (past_of bytes false ms entries waiting) over.2)
                    (handed_front moments t.count fewer front.0 front.1) over.4;
              };
            };
          })
    ]

  -- of what a connection received, of all that it will have received, a part is kept
  module _ (whole input : Input) (rest : List ℕ) (front : whole.bytes ≡ input.bytes ++ rest) (end : input.ended ≡ true → (rest ≡ []) × (whole.ended ≡ true)) where
    -- up to a place that isn't beyond it
    within_place : (place : ℕ) → place ≤ length input.bytes → take place whole.bytes ≡ take place input.bytes
    within_place place less = ap (take place) front ∙ take-append-le place input.bytes rest less

    -- it has no end before such a place
    unended : (place : ℕ) → place ≤ length whole.bytes → length input.bytes < place → input.ended ≡ false
    unended place within beyond = elim (cases_Bool input.ended) [
      | inl ended ↦
          (let all = ap length (front ∙ ap (λ (m : List ℕ). input.bytes ++ m) (end ended).0 ∙ append-nil input.bytes) in
          absurd (omega (arith, all, within, beyond)))
      | inr on ↦ on
    ]

    all_before : (place : ℕ) → place ≤ length whole.bytes → length input.bytes < place → input ≡ kept_input (UpTo place) input
    all_before place within beyond =
        ap (λ (e : Bool). record { bytes = input.bytes; ended = e }) (unended place within beyond)
        ∙ ap (λ (b : List ℕ). record { bytes = b; ended = false }) (sym (take_all place input.bytes (omega (arith, beyond))))

    outputs_up_to : (q : Standing) (entries : List Entry) (waiting : List Turn) (out : List ℕ) → is_dead q ≡ false → (place : ℕ) → place ≤ length whole.bytes
        → IsRefusedWithin settings moments whole place → TimedOutputs q settings moments input entries waiting out
        → TimedOutputs q settings moments (kept_input (UpTo place) input) entries waiting out
    outputs_up_to q entries waiting out lives place within fault t = elim (leb_tells place (length input.bytes)) [
      | inl reached ↦
          (let here = subst (λ (b : List ℕ). FaultOf settings moments (record { bytes = b; ended = false }) fault.0 fault.1) (within_place place reached.1) fault.2 in
          outputs_before (take place input.bytes) (drop place input.bytes) input.ended fault.0 fault.1 here q entries waiting out lives
          (subst (λ (b : List ℕ). TimedOutputs q settings moments (record { bytes = b; ended = input.ended }) entries waiting out) (sym (take-append-drop place input.bytes)) t))
      | inr beyond ↦ subst (λ (i : Input). TimedOutputs q settings moments i entries waiting out) (all_before place within beyond.1) t
    ]

    waits_up_to : (entries : List Entry) (turn : Turn) (place : ℕ) → place ≤ length whole.bytes → IsRefusedAt settings moments whole place
        → Waits settings moments input entries turn → Waits settings moments (kept_input (UpTo place) input) entries turn
    waits_up_to entries turn place within refused w = elim (leb_tells place (length input.bytes)) [
      | inl reached ↦
          (let later = waits_later stay settings moments rest input whole front end entries turn w in
          subst (λ (b : List ℕ). Waits settings moments (record { bytes = b; ended = false }) entries turn) (within_place place reached.1)
          (waits_without (take place whole.bytes) (drop place whole.bytes) whole.ended refused.0 refused.1 entries turn
          (subst (λ (b : List ℕ). Waits settings moments (record { bytes = b; ended = whole.ended }) entries turn) (sym (take-append-drop place whole.bytes)) later)))
      | inr beyond ↦ subst (λ (i : Input). Waits settings moments i entries turn) (all_before place within beyond.1) w
    ]

    -- what waits waits with that part
    pub waits_kept : (share : Share) → share ≢ Nothing → MayBe settings moments whole share → (entries : List Entry) (turn : Turn)
        → Waits settings moments input entries turn → Waits settings moments (kept_input share input) entries turn
    waits_kept Nothing some may entries turn w = absurd (some refl)
    waits_kept All some may entries turn w = w
    waits_kept (UpTo place) some may entries turn w = elim may.1 [
      | inl fault ↦ (w.0, outputs_up_to standings.Waiting entries (turn ∷ []) w.0 refl place may.0 fault w.1)
      | inr refused ↦ waits_up_to entries turn place may.0 refused w
    ]

  -- what is written with a part of all
  module _ (one : OneTimedOutput) (whole : Input) (q : Standing) (entries : List Entry) (waiting : List Turn) (out : List ℕ) (lives : is_dead q ≡ false)
      (t : TimedOutputs q settings moments whole entries waiting out) where
    up_to_fault : (place : ℕ) → place ≤ length whole.bytes → IsRefusedWithin settings moments whole place
        → TimedOutputs q settings moments (kept_input (UpTo place) whole) entries waiting out
    up_to_fault place within fault =
        outputs_up_to whole whole [] (sym (append-nil whole.bytes)) (λ ended. (refl, ended)) q entries waiting out lives place within fault t

    wrote_up_to : (place : ℕ) → place ≤ length whole.bytes → (IsRefusedWithin settings moments whole place ⊎ IsRefusedAt settings moments whole place)
        → Wrote settings moments (kept_input (UpTo place) whole) entries waiting
    wrote_up_to place within (inl fault) = record { standing = q; out = out; lives = lives; wrote = up_to_fault place within fault }
    wrote_up_to place within (inr refused) =
        wrote_without (take place whole.bytes) (drop place whole.bytes) whole.ended refused.0 refused.1 q entries waiting out lives
        (subst (λ (b : List ℕ). TimedOutputs q settings moments (record { bytes = b; ended = whole.ended }) entries waiting out) (sym (take-append-drop place whole.bytes)) t)

    -- it is the same, where all is kept for which something was written
    abbrev pub KeptOutput : Share → Type 0
    KeptOutput share = (w : Wrote settings moments (kept_input share whole) entries waiting) × (KeepsOutput settings moments whole share → out ≡ w.out)

    pub output_kept : (share : Share) → MayBe settings moments whole share → share ≢ Nothing → KeptOutput share
    output_kept Nothing may some = absurd (some refl)
    output_kept All may some = (record { standing = q; out = out; lives = lives; wrote = t }, λ keeps. refl)
    output_kept (UpTo place) may some =
        let w = wrote_up_to place may.0 may.1 in (
          w,
          λ keeps. (one settings moments (kept_input (UpTo place) whole) entries q w.standing waiting waiting out w.out lives w.lives (up_to_fault place may.0 keeps) w.wrote).0,
        )
