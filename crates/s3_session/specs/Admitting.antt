-- What the call that admits heads answers. Only its clause and those of private functions cite these: nobody has to
-- believe them.
use Rattle.std.specs.Prelude.{◌≡◌, ◌⊎◌, ℕ, false, [], Result, Ok, Err, IsOk}
use Rattle.s3_terms.specs.Fault.{◌>>=◌}
use Rattle.s3_config.specs.Settings.{Settings}
use Rattle.s3_terms.specs.declared.code.Code.{Code}
use Rattle.s3_terms.specs.declared.code.Code.TheVariants.{InternalError}
use Rattle.s3_http_heads.specs.Head.{HeadParts}
use Rattle.s3_http_heads.specs.BodyLength.{framing_of}
use Rattle.s3_signing.specs.Verdict.{Checked, checked_head}
use Rattle.s3_framed_bodies.specs.Reader.{Stands}
use Rattle.s3_session.specs.declared.admission.Admission.{Admission}
use Rattle.s3_session.specs.Admission.{Asked}

-- what is judged of a head without memory: its framing, and what shows before its signature
unfoldable pub early_admission : Settings → HeadParts → ℕ → Result Checked Code
early_admission settings head moment = do
  framing ← framing_of settings.dialect head settings.body_limit
  checked_head settings head moment

-- this is what the head asks for: the reader stands before all bytes of its body
abbrev pub IsAsked : Asked → Admission → Type 0
IsAsked asked admission =
    Stands admission.reader asked.announced [] false
    × (admission.plan ≡ asked.plan)
    × (admission.framing ≡ asked.announced.framing)

-- what a rule says that refuses nothing
abbrev pub IsRuled : Result Asked Code → Admission → Type 0
IsRuled (Ok asked) admission = IsAsked asked admission
IsRuled (Err code) admission = ⊥

-- what is answered is what the rule says; memory ran out only past what is judged without it
abbrev pub Admits : Result Checked Code → Result Admission Code → Result Asked Code → Type 0
Admits early (Ok admission) rule = IsOk early × IsRuled rule admission
Admits early (Err code) rule = ((code ≡ InternalError) × IsOk early) ⊎ (rule ≡ Err code)
