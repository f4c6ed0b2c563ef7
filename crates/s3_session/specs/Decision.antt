-- The message at the front of a connection's bytes, and what is decided about it (RFC 9112, sections
-- 2.2, 6.3 and 9.3; AWS Signature Version 4; Amazon S3 API Reference, "Error responses").
use Rattle.std.specs.Prelude.{◌≡◌, ℕ, ◌⊎◌, Bool, false, List, [], take, drop, Option, None, Result, Ok, Err}
use Rattle.s3_config.specs.Settings.{Settings}
use Rattle.s3_terms.specs.declared.code.Code.{Code}
use Rattle.s3_terms.specs.declared.dialect.Dialect.{Dialect}
use Rattle.s3_terms.specs.declared.code.Code.TheVariants.{HeadTooLarge, MalformedHead}
use Rattle.s3_http_heads.specs.Find.{found_in, skip_pairs}
use Rattle.s3_http_heads.specs.declared.find.Found.{Found}
use Rattle.s3_http_heads.specs.declared.find.Found.TheVariants as found
use Rattle.s3_http_heads.specs.Head.{HeadParts, Says, HasNoHead, closes, asks_head_only}
use Rattle.s3_aws_chunked.specs.Verdict as bodies
use Rattle.s3_integrity.specs.declared.checksum.Checksum.{Checksum}
use Rattle.s3_payloads.specs.FoundSum.{found_sum}
use Rattle.s3_framed_bodies.specs.Framed.{size_in}
use Rattle.s3_framed_bodies.specs.Verdict as framed
use Rattle.s3_machine.specs.declared.command.Command.{Command}
use Rattle.s3_requests.specs.ChecksumMode.{asks_for_checksums}
use Rattle.s3_requests.specs.Commands.{command_of}
use Rattle.s3_replies.specs.declared.context.Context.{Context}
use Rattle.s3_session.specs.Verdict.{Verdict}
use Rattle.s3_session.specs.Verdict as verdicts
use Rattle.s3_session.specs.Admission.{Asked, admission_of}

-- what a reply takes from its message, in the dialect of its connection
abbrev pub context_of : Dialect → HeadParts → ℕ → Context
context_of dialect head moment = record {
  moment = moment;
  head_only = asks_head_only head;
  closes = closes head;
  dialect = dialect;
  tells_checksums = asks_for_checksums dialect head;
  checksum = None;
}

-- the same, with the checksum that was found of its body
abbrev pub with_found : Option Checksum → Context → Context
with_found sum context = record context { checksum = sum }

-- the verdict on a message, and the bytes that come after it where it is sound
abbrev pub Decision : Type 0
Decision = Verdict × List ℕ

-- nothing is decided yet
abbrev pub open_yet : Decision
open_yet = (verdicts.Open, [])

-- refused with this code; nothing after it is read
abbrev pub refused_message : Code → Bool → Decision
refused_message code head_only = (verdicts.Refused code head_only, [])

-- what comes of a message whose body is whole and right and has this checksum, by its command or by what that refuses, and what
-- stands behind it
abbrev pub commanded : Dialect → HeadParts → ℕ → Option Checksum → List ℕ → Result Command Code → Decision
commanded dialect head moment sum behind (Ok command) = (verdicts.Sound (with_found sum (context_of dialect head moment)) command, behind)
commanded dialect head moment sum behind (Err code) = refused_message code (asks_head_only head)

-- what comes of a message whose head asks for this, by what is known of its body
abbrev pub concluded : Dialect → HeadParts → ℕ → Asked → List ℕ → bodies.Verdict → Decision
concluded dialect head moment asked bytes (bodies.Open held) = open_yet
concluded dialect head moment asked bytes (bodies.Accepted payload) =
    let sum = found_sum asked.announced.form payload in
    commanded dialect head moment sum (drop (size_in asked.announced.framing bytes) bytes) (command_of asked.plan sum payload)
concluded dialect head moment asked bytes (bodies.Refused place code) = refused_message code (asks_head_only head)

-- the verdict by what the head asks for and the bytes behind it, or by the first fault of the head
abbrev pub AskedJudged : Dialect → HeadParts → ℕ → Bool → List ℕ → Result Asked Code → Decision → Type 0
AskedJudged dialect head moment ended bytes (Err code) decision = decision ≡ refused_message code (asks_head_only head)
AskedJudged dialect head moment ended bytes (Ok asked) decision =
    (verdict : bodies.Verdict) × framed.Judges asked.announced bytes ended verdict × (decision ≡ concluded dialect head moment asked bytes verdict)

-- the verdict on a message whose head has been read, by the bytes that follow the head
abbrev pub HeadJudged : Settings → ℕ → Bool → HeadParts → List ℕ → Decision → Type 0
HeadJudged settings moment ended head bytes decision =
    AskedJudged settings.dialect head moment ended bytes (admission_of settings head moment) decision

-- the text at the front of the bytes, after the pairs that are skipped, and what follows it
abbrev pub text_at : ℕ → List ℕ → List ℕ
text_at n bytes = take n (skip_pairs bytes)

abbrev pub behind_text : ℕ → List ℕ → List ℕ
behind_text n bytes = drop n (skip_pairs bytes)

-- the verdict once the head text has been cut: malformed, or that on the head that it says
abbrev pub TextJudged : Settings → ℕ → Bool → List ℕ → List ℕ → Decision → Type 0
TextJudged settings moment ended text bytes decision =
    (HasNoHead text × (decision ≡ refused_message MalformedHead false))
    ⊎ ((head : HeadParts) × Says text head × HeadJudged settings moment ended head bytes decision)

-- the verdict by what was found at the front
abbrev pub FoundJudged : Settings → ℕ → Bool → List ℕ → Found → Decision → Type 0
FoundJudged settings moment ended bytes found.NeedMore decision = decision ≡ open_yet
FoundJudged settings moment ended bytes found.TooLarge decision = decision ≡ refused_message HeadTooLarge false
FoundJudged settings moment ended bytes (found.Head n) decision =
    TextJudged settings moment ended (text_at n bytes) (behind_text n bytes) decision

-- the verdict on the message at the front of the bytes: ended says that no more bytes come
unfoldable pub Judges : Settings → ℕ → Bool → List ℕ → Decision → Type 0
Judges settings moment ended bytes decision =
    FoundJudged settings moment ended bytes (found_in bytes) decision

-- the head of the message at the front of the bytes was admitted, and of its body nothing is decided yet: so the body
-- isn't empty, since an empty one is decided with its head
pub record AwaitsBody (settings : Settings) (moment : ℕ) (ended : Bool) (bytes : List ℕ) : Type 0 where
  pub size : ℕ
  pub found : found_in bytes ≡ found.Head size
  pub head : HeadParts
  pub says : Says (text_at size bytes) head
  pub asked : Asked
  pub admitted : admission_of settings head moment ≡ Ok asked
  pub held : List ℕ
  pub undecided : framed.Judges asked.announced (behind_text size bytes) ended (bodies.Open held)
