-- What a head addresses: the service, a bucket or a key (addresses are path-style: Amazon S3 User Guide, "Path-style
-- requests"), or a sub-resource of these that isn't there.
use Rattle.std.specs.Prelude.{Bool, true, false, not, ◌&&◌, ◌||◌, ◌==◌, List, ℕ, length, codes, Result, Ok}
use Rattle.std.specs.List.{list_any}
use Rattle.std.specs.Str.{bytes_eq}
use Rattle.s3_text.specs.Characters.{space}
use Rattle.s3_text.specs.Cut.{parts_at}
use Rattle.s3_terms.specs.Fault.{refuse, ◌>>◌, ◌>>=◌}
use Rattle.s3_terms.specs.declared.code.Code.{Code}
use Rattle.s3_terms.specs.declared.code.Code.TheVariants.{NotImplemented}
use Rattle.s3_terms.specs.declared.dialect.Dialect.{Dialect}
use Rattle.s3_http_heads.specs.Head.{HeadParts}
use Rattle.s3_http_heads.specs.Method.{method_of}
use Rattle.s3_http_heads.specs.declared.method.Method.{Method}
use Rattle.s3_http_heads.specs.declared.method.Method.TheVariants.{Get, Post}
use Rattle.s3_http_heads.specs.Target.{TargetParts, target_of, has_parameter}
use Rattle.s3_requests.specs.Operations.{is_xml}

-- the sub-resources of S3 that this server doesn't have
abbrev pub lacking : List (List ℕ)
lacking =
    parts_at space (codes "accelerate acl analytics attributes intelligent-tiering inventory legal-hold logging metrics notification policyStatus requestPayment restore retention select torrent")

-- those that it answers where a bucket is read in XML: where the bucket is, and its configurations but for `tagging`, which a key
-- has too
abbrev pub answered : List (List ℕ)
answered =
    parts_at space (codes "cors encryption lifecycle location object-lock ownershipControls policy publicAccessBlock replication website")

-- the query names one of these
abbrev pub names_one_of : List (List ℕ) → TargetParts → Bool
names_one_of names target = list_any (λ name. has_parameter name target) names

-- the path `/` is the service
abbrev pub is_service : TargetParts → Bool
is_service target = bytes_eq target.path (codes "/")

-- a bucket is meant: the key is empty
abbrev pub is_bucket : TargetParts → Bool
is_bucket target = not (is_service target) && length target.key == 0

-- it is GET
abbrev pub is_get : Method → Bool
is_get Get = true
is_get _ = false

-- it is POST
abbrev pub is_post : Method → Bool
is_post Post = true
is_post _ = false

-- a bucket or a key in it is read, and documents are XML
abbrev pub reads_named : Dialect → HeadParts → TargetParts → Bool
reads_named dialect head target = is_xml dialect && is_get (method_of head.method) && not (is_service target)

-- a bucket is read, and documents are XML
abbrev pub reads_bucket : Dialect → HeadParts → TargetParts → Bool
reads_bucket dialect head target = reads_named dialect head target && is_bucket target

-- a bucket is posted to, and documents are XML
abbrev pub posts_to_bucket : Dialect → HeadParts → TargetParts → Bool
posts_to_bucket dialect head target = is_xml dialect && is_post (method_of head.method) && is_bucket target

-- the query names a sub-resource that isn't there; `tagging` is there where a bucket or a key is read in XML, and `delete` where
-- a bucket is posted to in XML
abbrev pub names_lacking : Dialect → HeadParts → TargetParts → Bool
names_lacking dialect head target =
    names_one_of lacking target
    || (names_one_of answered target && not (reads_bucket dialect head target))
    || (has_parameter (codes "tagging") target && not (reads_named dialect head target))
    || (has_parameter (codes "delete") target && not (posts_to_bucket dialect head target))

-- the target of a head, which names no sub-resource that isn't there
unfoldable pub address_at : Dialect → HeadParts → Result TargetParts Code
address_at dialect head = do
  target ← target_of head.target
  refuse (names_lacking dialect head target) NotImplemented
  Ok target
