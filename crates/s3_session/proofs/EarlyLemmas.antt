-- Where a whole head text stands: at a sound message, and, once no more bytes come, only where something is decided.
use Rattle.std.proofs.Common.{◌≡◌, ◌≢◌, ℕ, Bool, true, List, Result, Ok, Err, drop, refl, ap, inl, inr, Option}
use Rattle.s3_config.specs.Settings.{Settings}
use Rattle.s3_terms.specs.declared.code.Code.{Code}
use Rattle.s3_terms.specs.declared.dialect.Dialect.{Dialect}
use Rattle.s3_http_heads.specs.Find.{found_in}
use Rattle.s3_http_heads.specs.declared.find.Found.{Found}
use Rattle.s3_http_heads.specs.declared.find.Found.TheVariants as found
use Rattle.s3_http_heads.specs.Head.{HeadParts}
use Rattle.s3_machine.specs.declared.command.Command.{Command}
use Rattle.s3_integrity.specs.declared.checksum.Checksum.{Checksum}
use Rattle.s3_payloads.specs.FoundSum.{found_sum}
use Rattle.s3_requests.specs.Commands.{command_of}
use Rattle.s3_replies.specs.declared.context.Context.{Context}
use Rattle.s3_session.specs.Verdict as verdicts
use Rattle.s3_aws_chunked.specs.Verdict as bodies
use Rattle.s3_framed_bodies.specs.Framed.{size_in}
use Rattle.s3_framed_bodies.specs.Laws.{EndsDecide}
use Rattle.s3_session.specs.Admission.{Asked, admission_of}
use Rattle.s3_session.specs.Decision.{Decision, Judges, AskedJudged, TextJudged, FoundJudged, commanded, text_at, behind_text, open_yet}
use Rattle.s3_session.specs.Output.{HasText}
use Rattle.s3_session.specs.Laws.{HeadsAreDecided}

-- where a head text stands and no more bytes come, something is decided
commanded_decided : (dialect : Dialect) (head : HeadParts) (moment : ℕ) (sum : Option Checksum) (behind : List ℕ) (rule : Result Command Code) → ¬ (open_yet ≡ commanded dialect head moment sum behind rule)
commanded_decided dialect head moment sum behind (Ok command) is = let same = ap (λ (d : Decision). d.0) is in absurd (cc)
commanded_decided dialect head moment sum behind (Err code) is = let same = ap (λ (d : Decision). d.0) is in absurd (cc)

module _ (decide : EndsDecide) (settings : Settings) (moment : ℕ) (bytes : List ℕ) where
  asked_decided : (head : HeadParts) (behind : List ℕ) (rule : Result Asked Code) → ¬ (AskedJudged settings.dialect head moment true behind rule open_yet)
  asked_decided head behind (Err code) is = let same = ap (λ (d : Decision). d.0) is in absurd (cc)
  asked_decided head behind (Ok asked) (bodies.Open held, judged, is) = decide asked.announced behind (bodies.Open held) judged
  asked_decided head behind (Ok asked) (bodies.Accepted payload, judged, is) =
      commanded_decided settings.dialect head moment (found_sum asked.announced.form payload) (drop (size_in asked.announced.framing behind) behind) (command_of asked.plan (found_sum asked.announced.form payload) payload) is
  asked_decided head behind (Ok asked) (bodies.Refused place code, judged, is) = let same = ap (λ (d : Decision). d.0) is in absurd (cc)

  text_decided : (text behind : List ℕ) → ¬ (TextJudged settings moment true text behind open_yet)
  text_decided text behind (inl unreadable) = let same = ap (λ (d : Decision). d.0) unreadable.1 in absurd (cc)
  text_decided text behind (inr said) = asked_decided said.0 behind (admission_of settings said.0 moment) said.2

  found_decided : (f : Found) → f ≢ found.NeedMore → ¬ (FoundJudged settings moment true bytes f open_yet)
  found_decided found.NeedMore some is = some refl
  found_decided found.TooLarge some is = let same = ap (λ (d : Decision). d.0) is in absurd (cc)
  found_decided (found.Head n) some is = text_decided (text_at n bytes) (behind_text n bytes) is

pub heads_are_decided : EndsDecide → HeadsAreDecided
unfolding Judges
heads_are_decided decide settings moment bytes some is = found_decided decide settings moment bytes (found_in bytes) some is

module _ (settings : Settings) (moment : ℕ) (ended : Bool) (bytes : List ℕ) (context : Context) (command : Command) (rest : List ℕ) where
  found_text : (f : Found) → found_in bytes ≡ f → FoundJudged settings moment ended bytes f (verdicts.Sound context command, rest) → HasText bytes
  found_text found.NeedMore at is = let same = ap (λ (d : Decision). d.0) is in absurd (cc)
  found_text found.TooLarge at is = let same = ap (λ (d : Decision). d.0) is in absurd (cc)
  found_text (found.Head n) at is = record { size = n; found = at }

  -- a sound message has a head text
  pub sound_text : Judges settings moment ended bytes (verdicts.Sound context command, rest) → HasText bytes
  unfolding Judges
  sound_text judges = found_text (found_in bytes) refl judges
