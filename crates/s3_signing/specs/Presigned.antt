-- What the query of a presigned request says (Amazon S3 API Reference, "Authenticating requests: using query parameters
-- (AWS Signature Version 4)").
use Rattle.std.specs.Prelude.{ℕ, Bool, not, List, codes, ok_or, Result, Ok, ⊤}
use Rattle.std.specs.Str.{bytes_eq}
use Rattle.s3_terms.specs.Fault.{refuse, ◌>>◌, ◌>>=◌}
use Rattle.s3_terms.specs.declared.code.Code.{Code}
use Rattle.s3_terms.specs.declared.code.Code.TheVariants.{AuthorizationQueryParametersError}
use Rattle.s3_calendar.specs.Moment.{is_stamp}
use Rattle.s3_http_heads.specs.Head.{only}
use Rattle.s3_http_heads.specs.Target.{TargetParts, has_parameter, values_under}
use Rattle.s3_authorization.specs.Authorization.{parts_with}
use Rattle.s3_authorization.specs.Authorization as authorization
use Rattle.s3_authorization.specs.Expires.{expires_of}

-- the query has a signature: the request is presigned
abbrev pub is_presigned : TargetParts → Bool
is_presigned target = has_parameter (codes "X-Amz-Signature") target

-- the value of the one parameter of this name
unfoldable pub sent_once : List ℕ → TargetParts → Result (List ℕ) Code
sent_once name target = ok_or (only (values_under name target)) AuthorizationQueryParametersError

-- what such a query says: the parts that an authorization has, the stamp, and for how many seconds from that it holds
pub record Presigned : Type 0 where
  pub sent : authorization.Parts
  pub stamp : List ℕ
  pub expires : ℕ

-- the parts that an authorization has
unfoldable pub presigned_parts : TargetParts → Result authorization.Parts Code
presigned_parts target = do
  credential ← sent_once (codes "X-Amz-Credential") target
  signed ← sent_once (codes "X-Amz-SignedHeaders") target
  signature ← sent_once (codes "X-Amz-Signature") target
  ok_or (parts_with credential signed signature) AuthorizationQueryParametersError

-- the stamp
unfoldable pub presigned_stamp : TargetParts → Result (List ℕ) Code
presigned_stamp target = do
  stamp ← sent_once (codes "X-Amz-Date") target
  refuse (not (is_stamp stamp)) AuthorizationQueryParametersError
  Ok stamp

-- for how many seconds it holds
unfoldable pub presigned_expires : TargetParts → Result ℕ Code
presigned_expires target = do
  text ← sent_once (codes "X-Amz-Expires") target
  ok_or (expires_of text) AuthorizationQueryParametersError

-- the query names the one algorithm that there is
unfoldable pub check_algorithm : TargetParts → Result ⊤ Code
check_algorithm target = do
  name ← sent_once (codes "X-Amz-Algorithm") target
  refuse (not (bytes_eq name (codes "AWS4-HMAC-SHA256"))) AuthorizationQueryParametersError

-- what the query says: each of its six parameters is there just once, and has its form
unfoldable pub presigned_at : TargetParts → Result Presigned Code
presigned_at target = do
  check_algorithm target
  sent ← presigned_parts target
  stamp ← presigned_stamp target
  expires ← presigned_expires target
  Ok (record { sent = sent; stamp = stamp; expires = expires })
