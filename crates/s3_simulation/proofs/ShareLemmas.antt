-- How much is kept of the events of a connection on trial.
use Rattle.std.proofs.Common.{◌≡◌, ◌<◌, ◌≤◌, ℕ, Bool, true, false, List, [], ◌++◌, length, take, refl, sym, ap, subst, ◌∙◌, arith, append-nil, append_assoc}
use Rattle.std.proofs.lemmas.List.{length-append, take-append-le}
use Rattle.std.proofs.Math.Seq.{take-append_seam}
use Rattle.s3_config.specs.Settings.{Settings}
use Rattle.s3_machine.specs.declared.command.Answer.{Answer}
use Rattle.s3_machine.specs.declared.turn.Turn.{Turn}
use Rattle.s3_session.specs.Fault.{FaultsStay}
use Rattle.s3_session.specs.Laws.{OutputsStay}
use Rattle.s3_session.specs.Output.{Past, Reading, Standing, Over, Writes, is_dead, is_waiting, nothing_yet}
use Rattle.s3_session.specs.Session.{Connection, standing_of, unsent_of}
use Rattle.s3_session.specs.Stands.{SessionsWrite, Stands}
use Rattle.s3_simulation.specs.Faults.{FaultOf, HasNoFaultOf}
use Rattle.s3_simulation.specs.Moments.{handed}
use Rattle.s3_simulation.specs.Trimmed.{All, HasSound, IsShare, Share}
use Rattle.s3_simulation.specs.Trying.{HasNoneBefore, HasTried, IsRefusedIn, Knows, Settles, Tries, Trying, all_if, past_with, unended, up_to_if}
use Rattle.s3_simulation.proofs.PlayedLemmas.{OneTimedOutput}
use Rattle.s3_simulation.proofs.TrialLemmas.{never_within, not_sound, sound_more}

-- ---- its share

-- what is settled stays so
pub settles_more : (settings : Settings) (moments bytes more : List ℕ) (share : Share) → Settles settings moments bytes share → Settles settings moments (bytes ++ more) share
settles_more settings moments bytes more share settles later ended =
    subst (λ (b : List ℕ). IsShare settings moments (record { bytes = b; ended = ended }) share) (sym (append_assoc bytes more later)) (settles (more ++ later) ended)

-- a message was refused with the last of these bytes
pub settles_refused : SessionsWrite → OutputsStay → OneTimedOutput → (t : Trying) (settings : Settings) (moments bytes : List ℕ) (place : ℕ) → HasTried t settings moments bytes
    → standing_of t.session ≡ Over → IsRefusedIn settings moments bytes → HasNoneBefore settings moments bytes → place ≡ length bytes
    → (b : Bool) → b ≡ t.is_sound → Settles settings moments bytes (up_to_if b place)
settles_refused write stay one t settings moments bytes place h over (number, code, fault) none counted true is more ended =
    let whole : take place (bytes ++ more) ≡ bytes = ap (λ (n : ℕ). take n (bytes ++ more)) counted ∙ take-append_seam bytes more in (
      sound_more stay settings moments bytes more ended (subst (λ (b : Bool). Knows b settings moments bytes h.turns h.answers) (sym is) h.knows),
      omega (arith, counted, length-append bytes more),
      (number, code, subst (λ (b : List ℕ). FaultOf settings moments (unended b) number code) (sym whole) fault),
      λ n less within.
          (let few : n < length bytes = omega (arith, less, counted) in
          let short : n ≤ length bytes = omega (arith, few) in
          let (m, d, f) = within in
          none n few (m, d, subst (λ (b : List ℕ). FaultOf settings moments (unended b) m d) (take-append-le n bytes more short) f)),
    )
settles_refused write stay one t settings moments bytes place h over refused none counted false is more ended =
    let known : (h.turns ≡ []) × (h.answers ≡ []) = subst (λ (b : Bool). Knows b settings moments bytes h.turns h.answers) (sym is) h.knows in
    let wrote : Writes Over settings (past_with bytes (handed moments h.count) [] []) (h.sent ++ unsent_of t.session) =
    subst (λ (s : Standing). Writes s settings (past_with bytes (handed moments h.count) [] []) (h.sent ++ unsent_of t.session)) over
    (subst (λ (ts : List Turn). Writes (standing_of t.session) settings (past_with bytes (handed moments h.count) ts []) (h.sent ++ unsent_of t.session)) known.0
    (subst (λ (es : List Answer). Writes (standing_of t.session) settings (past_with bytes (handed moments h.count) h.turns es) (h.sent ++ unsent_of t.session)) known.1
    (write t.session settings _ h.sent h.stands))) in
    not_sound one settings moments (record { bytes = bytes ++ more; ended = ended }) h.count Over (h.sent ++ unsent_of t.session) refl refl
    (stay settings Over (past_with bytes (handed moments h.count) [] []) (h.sent ++ unsent_of t.session) more ended (λ reads. cc) refl wrote)

-- a reply closed the connection
pub settles_replied : OutputsStay → FaultsStay → (t : Trying) (settings : Settings) (moments bytes : List ℕ) → HasTried t settings moments bytes → t.is_sound ≡ true
    → ((more : List ℕ) → HasNoFaultOf settings moments (unended (bytes ++ more))) → Settles settings moments bytes All
settles_replied stay faults t settings moments bytes h sound clean more ended = (
  sound_more stay settings moments bytes more ended (subst (λ (b : Bool). Knows b settings moments bytes h.turns h.answers) sound h.knows),
  λ n. never_within faults settings moments (record { bytes = bytes ++ more; ended = ended }) (clean more) n,
)

-- these bytes are all, and it reads on
pub share_kept : SessionsWrite → FaultsStay → OneTimedOutput → (t : Trying) (settings : Settings) (moments bytes : List ℕ) → Tries t settings moments bytes
    → standing_of t.session ≡ Reading → (b : Bool) → b ≡ t.is_sound → IsShare settings moments (unended bytes) (all_if b)
share_kept write stay one t settings moments bytes tries reads true is = (
  subst (λ (b : Bool). Knows b settings moments bytes tries.tried.turns tries.tried.answers) (sym is) tries.tried.knows,
  λ n. never_within stay settings moments (unended bytes) tries.clean n,
)
share_kept write stay one t settings moments bytes tries reads false is =
    let h = tries.tried in
    let known : (h.turns ≡ []) × (h.answers ≡ []) = subst (λ (b : Bool). Knows b settings moments bytes h.turns h.answers) (sym is) h.knows in
    not_sound one settings moments (unended bytes) h.count (standing_of t.session) (h.sent ++ unsent_of t.session) (ap is_dead reads) (ap is_waiting reads)
    (subst (λ (ts : List Turn). Writes (standing_of t.session) settings (past_with bytes (handed moments h.count) ts []) (h.sent ++ unsent_of t.session)) known.0
    (subst (λ (es : List Answer). Writes (standing_of t.session) settings (past_with bytes (handed moments h.count) h.turns es) (h.sent ++ unsent_of t.session)) known.1
    (write t.session settings _ h.sent h.stands)))

-- what went through a session whose bytes have ended
abbrev ended_past : List ℕ → List ℕ → List Turn → List Answer → Past
ended_past bytes moments turns answers = record { bytes = bytes; ended = true; moments = moments; turns = turns; answers = answers }

-- they have ended
pub share_ended : SessionsWrite → OutputsStay → FaultsStay → OneTimedOutput → (t : Trying) (session : Connection) (settings : Settings) (moments bytes : List ℕ)
    (tries : Tries t settings moments bytes)
    → Stands session settings (ended_past bytes (handed moments tries.tried.count) tries.tried.turns tries.tried.answers) tries.tried.sent
    → is_dead (standing_of session) ≡ false → is_waiting (standing_of session) ≡ false
    → (b : Bool) → b ≡ t.is_sound → IsShare settings moments (record { bytes = bytes; ended = true }) (all_if b)
share_ended write stay faults one t session settings moments bytes tries stands lives idle true is = (
  subst (λ (b : List ℕ). HasSound settings moments (record { bytes = b; ended = true })) (append-nil bytes)
      (sound_more stay settings moments bytes [] true (subst (λ (b : Bool). Knows b settings moments bytes tries.tried.turns tries.tried.answers) (sym is) tries.tried.knows)),
  λ n. never_within faults settings moments (record { bytes = bytes; ended = true }) tries.clean n,
)
share_ended write stay faults one t session settings moments bytes tries stands lives idle false is =
    let h = tries.tried in
    let known : (h.turns ≡ []) × (h.answers ≡ []) = subst (λ (b : Bool). Knows b settings moments bytes h.turns h.answers) (sym is) h.knows in
    not_sound one settings moments (record { bytes = bytes; ended = true }) h.count (standing_of session) (h.sent ++ unsent_of session) lives idle
    (subst (λ (ts : List Turn). Writes (standing_of session) settings (ended_past bytes (handed moments h.count) ts []) (h.sent ++ unsent_of session)) known.0
    (subst (λ (es : List Answer). Writes (standing_of session) settings (ended_past bytes (handed moments h.count) h.turns es) (h.sent ++ unsent_of session)) known.1
    (write session settings _ h.sent stands)))

-- so no message is sound where nothing came
pub nothing_sound : SessionsWrite → OneTimedOutput → (session : Connection) → ((settings : Settings) → Stands session settings nothing_yet []) → standing_of session ≡ Reading
    → (settings : Settings) (moments : List ℕ) → ¬ (HasSound settings moments (unended []))
nothing_sound write one session stands reads settings moments =
    not_sound one settings moments (unended []) 0 (standing_of session) (unsent_of session) (ap is_dead reads) (ap is_waiting reads)
    (write session settings nothing_yet [] (stands settings))
