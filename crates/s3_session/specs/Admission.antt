-- What a head has to pass before its body is looked at (AWS Signature Version 4; Amazon S3 API Reference,
-- "Error responses").
use Rattle.std.specs.Prelude.{ℕ, Result, Ok}
use Rattle.s3_terms.specs.Fault.{◌>>=◌}
use Rattle.s3_config.specs.Settings.{Settings}
use Rattle.s3_terms.specs.declared.code.Code.{Code}
use Rattle.s3_http_heads.specs.Head.{HeadParts}
use Rattle.s3_http_heads.specs.BodyLength.{framing_of}
use Rattle.s3_signing.specs.Verdict.{head_verdict}
use Rattle.s3_framed_bodies.specs.Framed.{FramedBody, framed_body}
use Rattle.s3_requests.specs.declared.routing.Plan.{Plan}
use Rattle.s3_requests.specs.Routing.{route_of}

-- what a head that nothing refuses asks for: what it announces of its body, and the operation
pub record Asked : Type 0 where
  pub announced : FramedBody
  pub plan : Plan

-- a head is judged in this order: its framing, its signature, what it announces of its body, its routing
unfoldable pub admission_of : Settings → HeadParts → ℕ → Result Asked Code
admission_of settings head moment = do
  framing ← framing_of settings.dialect head settings.body_limit
  proved ← head_verdict settings head moment
  announced ← framed_body settings head framing proved
  plan ← route_of settings head
  Ok (record { announced = announced; plan = plan })
