-- The signature of the head that a session holds (AWS Signature Version 4).
use Rattle.std.specs.Prelude.{◌≡◌, ◌≢◌, ℕ, Bool, true, false, List, [], ◌∷◌, length, Option, Some, None, Err, IsOk}
use Rattle.s3_config.specs.Settings.{Settings}
use Rattle.s3_http_heads.specs.BodyLength.{framing_of}
use Rattle.s3_http_heads.specs.Find.{found_in, skip_pairs}
use Rattle.s3_http_heads.specs.declared.find.Found.TheVariants as found
use Rattle.s3_http_heads.specs.Head.{HeadParts, Says}
use Rattle.s3_http_heads.specs.Search as search
use Rattle.s3_signing.specs.Verdict.{head_verdict}
use Rattle.s3_terms.specs.declared.code.Code.{Code}
use Rattle.s3_terms.specs.declared.code.Code.TheVariants.{InternalError}
use Rattle.s3_requests.specs.Memory.{RouteTakes}
use Rattle.s3_session.specs.Admission.{admission_of}
use Rattle.s3_session.specs.Decision.{text_at}
use Rattle.s3_session.specs.Output.{is_dead}
use Rattle.s3_session.specs.Session.{Connection, moment_at, refused_at, standing_of}
use Rattle.s3_session.specs.declared.opening.Opening.{Opening}
use Rattle.s3_session.specs.declared.opening.Opening.TheVariants as opening
use Rattle.s3_session.specs.declared.session.Stage.{Stage}
use Rattle.s3_session.specs.declared.session.Stage.TheVariants as stages

-- nothing refuses a head up to its signature, which verifies at a moment: its framing is judged first
abbrev pub IsSigned : Settings → HeadParts → ℕ → Type 0
IsSigned settings head moment = IsOk (framing_of settings.dialect head settings.body_limit) × IsOk (head_verdict settings head moment)

-- where a rule refuses a head, its routing takes memory
abbrev pub RefusedTakes : Settings → HeadParts → ℕ → Type 0
RefusedTakes settings head moment =
    (code : Code) → code ≢ InternalError → admission_of settings head moment ≡ Err code → RouteTakes settings.dialect head

-- this is the text of a head that is signed
abbrev pub Verifies : Settings → ℕ → List ℕ → Type 0
Verifies settings moment text = (head : HeadParts) × Says text head × IsSigned settings head moment

-- a session holds a whole head, of which memory lost nothing, and its signature verifies at the moment of the message that the
-- session is at
pub record HoldsVerified (settings : Settings) (session : Connection) : Type 0 where
  pub bytes : List ℕ
  pub held : search.Holds session.search bytes
  pub whole : search.is_lost session.search ≡ false
  pub found : found_in bytes ≡ found.Head (length (skip_pairs bytes))
  pub moment : ℕ
  pub given : moment_at session.stage ≡ moment ∷ []
  pub verifies : Verifies settings moment (skip_pairs bytes)

-- of the bytes that are left, the head text at their front verifies, at the moment that the message has
pub record HeadVerifies (settings : Settings) (left : Option (List ℕ)) (late : List ℕ) : Type 0 where
  pub rest : List ℕ
  pub left_is : left ≡ Some rest
  pub moment : ℕ
  pub late_is : late ≡ moment ∷ []
  pub size : ℕ
  pub found : found_in rest ≡ found.Head size
  pub verifies : Verifies settings moment (text_at size rest)

-- The others serve `Stands` and the clauses of private functions alone.

-- the head of the message at hand was admitted
abbrev pub is_admitted : Stage → Bool
is_admitted stages.Reading = false
is_admitted (stages.Body incoming) = true
is_admitted (stages.Waiting context) = true
is_admitted (stages.Closed closing) = false

-- what is noted of its signature is so, and where memory didn't run out, it is noted wherever it verifies; where it is noted and no
-- refusal is told, none was due, or the head's routing takes memory
pub record IsNoted (settings : Settings) (session : Connection) : Type 0 where
  pub only : session.is_verified ≡ true → HoldsVerified settings session
  pub told : is_dead (standing_of session) ≡ false → HoldsVerified settings session → session.is_verified ≡ true
  pub admitted : is_admitted session.stage ≡ true → session.is_verified ≡ true
  pub spared : refused_at session.stage ≡ None → session.is_verified ≡ true → (h : HoldsVerified settings session) → RefusedTakes settings h.verifies.0 h.moment

-- the text wasn't lost, and verifies
abbrev pub VerifiesIn : Settings → ℕ → Option (List ℕ) → Type 0
VerifiesIn settings moment None = ⊥
VerifiesIn settings moment (Some text) = Verifies settings moment text

-- where a rule refuses the head of this text, its routing takes memory
abbrev pub TextTakes : Settings → ℕ → Option (List ℕ) → Type 0
TextTakes settings moment None = Unit {0}
TextTakes settings moment (Some text) = (head : HeadParts) → Says text head → RefusedTakes settings head moment

-- a head was refused
abbrev pub is_refused : Opening → Bool
is_refused (opening.Admitted incoming invited) = false
is_refused (opening.Refused code head_only) = true
is_refused opening.Died = false

-- a head was admitted
abbrev pub opens_body : Opening → Bool
opens_body (opening.Admitted incoming invited) = true
opens_body (opening.Refused code head_only) = false
opens_body opening.Died = false
