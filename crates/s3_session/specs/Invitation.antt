-- What is written before the body of a message is read (RFC 9110, section 10.1.1).
use Rattle.std.specs.Prelude.{◌≡◌, ◌⊎◌, ℕ, Bool, true, false, ◌&&◌, nat_lt, if◌then◌else◌, List, [], Result, Ok, Err}
use Rattle.s3_config.specs.Settings.{Settings}
use Rattle.s3_terms.specs.declared.code.Code.{Code}
use Rattle.s3_terms.specs.declared.dialect.Dialect.{Dialect}
use Rattle.s3_terms.specs.declared.dialect.Dialect.TheVariants.{Json, S3}
use Rattle.s3_http_heads.specs.Find.{found_in}
use Rattle.s3_http_heads.specs.declared.find.Found.{Found}
use Rattle.s3_http_heads.specs.declared.find.Found.TheVariants as found
use Rattle.s3_http_heads.specs.Head.{HeadParts, Says, HasNoHead, expects_continue}
use Rattle.s3_http_heads.specs.declared.body_length.BodyFraming.{BodyFraming}
use Rattle.s3_http_heads.specs.declared.body_length.BodyFraming.TheVariants.{Sized, Coded}
use Rattle.s3_replies.specs.Replies.{continue_line}
use Rattle.s3_session.specs.Admission.{Asked, admission_of}
use Rattle.s3_session.specs.Decision.{text_at}

-- a body whose end is told so may have bytes
abbrev pub may_have_bytes : BodyFraming → Bool
may_have_bytes (Sized size) = nat_lt 0 size
may_have_bytes (Coded limit decoded) = true

-- the client waits to be told to go on, with a body whose end is told so; where documents are JSON, only with one that isn't empty
abbrev pub may_be_invited : Dialect → HeadParts → BodyFraming → Bool
may_be_invited Json head framing = expects_continue head && may_have_bytes framing
may_be_invited S3 head framing = expects_continue head

-- it is told so where nothing refuses the head
abbrev pub is_invited : Dialect → HeadParts → Result Asked Code → Bool
is_invited dialect head (Err code) = false
is_invited dialect head (Ok asked) = may_be_invited dialect head asked.announced.framing

abbrev pub invitation : Dialect → HeadParts → Result Asked Code → List ℕ
invitation dialect head rule = if is_invited dialect head rule then continue_line else []

abbrev pub FoundInvites : Settings → ℕ → List ℕ → Found → List ℕ → Type 0
FoundInvites settings moment bytes found.NeedMore text = text ≡ []
FoundInvites settings moment bytes found.TooLarge text = text ≡ []
FoundInvites settings moment bytes (found.Head n) text =
    (HasNoHead (text_at n bytes) × (text ≡ []))
    ⊎ ((head : HeadParts) × Says (text_at n bytes) head × (text ≡ invitation settings.dialect head (admission_of settings head moment)))

-- this is written before the body of the message at the front of the bytes is read: a line, or nothing
unfoldable pub Invites : Settings → ℕ → List ℕ → List ℕ → Type 0
Invites settings moment bytes text = FoundInvites settings moment bytes (found_in bytes) text
