-- What a head announces of its body, and which bytes behind the head are the body's (RFC 9112, 6.2 and 7.1).
use Rattle.std.specs.Prelude.{◌≡◌, ℕ, ◌≤◌, List, length, Result, Ok}
use Rattle.s3_terms.specs.Fault.{◌>>=◌}
use Rattle.s3_terms.specs.declared.code.Code.{Code}
use Rattle.s3_config.specs.Settings.{Settings}
use Rattle.s3_http_heads.specs.Head.{HeadParts}
use Rattle.s3_http_heads.specs.declared.body_length.BodyFraming.{BodyFraming}
use Rattle.s3_http_heads.specs.declared.body_length.BodyFraming.TheVariants.{Sized, Coded}
use Rattle.s3_signing.specs.Verdict.{Proved}
use Rattle.s3_payloads.specs.Form.{Announced, form_of}
use Rattle.s3_payloads.specs.declared.form.Form.{Form}
use Rattle.s3_transfer_chunks.specs.Body.{IsTransferBody}
use Rattle.s3_transfer_chunks.specs.Reading.{taken_in}

-- how the end of a body is told, how it is sent, and what its head has proved
pub record FramedBody : Type 0 where
  pub framing : BodyFraming
  pub form : Form
  pub proved : Proved

-- what a head announces of its body, whose end is told so, once it has proved this, or what is wrong with it
unfoldable pub framed_body : Settings → HeadParts → BodyFraming → Proved → Result FramedBody Code
framed_body settings head framing proved = do
  form ← form_of settings head proved.word
  Ok (record { framing = framing; form = form; proved = proved })

-- how many bytes are the body's: as many as its length says; or, in the transfer coding, of those that have come the ones up to
-- its end, or to the byte at which it is misspelled or too large
abbrev pub size_in : BodyFraming → List ℕ → ℕ
size_in (Sized size) bytes = size
size_in (Coded limit decoded) bytes = taken_in limit bytes

-- the bytes are those of a body whose end is told so, and this is the data that is sent in them: they themselves, as many as its
-- length says; or what they hold in the transfer coding, no more than it may have
abbrev pub IsDataOf : BodyFraming → List ℕ → List ℕ → Type 0
IsDataOf (Sized size) bytes held = (held ≡ bytes) × (length bytes ≡ size)
IsDataOf (Coded limit decoded) bytes held = IsTransferBody bytes held × (length held ≤ limit)

-- the bytes end just where their body does
abbrev pub Ends : BodyFraming → List ℕ → Type 0
Ends framing bytes = (held : List ℕ) × IsDataOf framing bytes held

-- the same body, as one that is sent with its length
abbrev pub announced_with : Form → Proved → ℕ → Announced
announced_with form proved size = record { length = size; form = form; proved = proved }
