-- What is known of all replies: they are fixed by what they answer, and a client sees in them what came of
-- its request (RFC 9112, sections 4 to 6; RFC 9110, sections 8.6 and 15.3).
use Rattle.std.specs.Prelude.{◌≡◌, IsTrue, ℕ, ◌==◌, Bool, true, false, not, ◌&&◌, List, ◌++◌, map, take, length, codes, Option}
use Rattle.std.specs.Fmt.{decimal}
use Rattle.std.specs.List.{Contains, list_all}
use Rattle.std.specs.Str.{bytes_eq}
use Rattle.s3_text.specs.Characters.{crlf, carriage_return}
use Rattle.s3_terms.specs.declared.code.Code.{Code}
use Rattle.s3_terms.specs.declared.dialect.Dialect.{Dialect}
use Rattle.s3_terms.specs.declared.dialect.Dialect.TheVariants.{S3}
use Rattle.s3_names.specs.Tags.{tag_text}
use Rattle.s3_conditions.specs.declared.conditions.Selection.TheVariants.{Whole, Part}
use Rattle.s3_versions.specs.declared.version.Data.{Data}
use Rattle.s3_versions.specs.Metadata.{Entry}
use Rattle.s3_machine.specs.Effects.{succeeds}
use Rattle.s3_machine.specs.declared.command.Answer.{Answer}
use Rattle.s3_machine.specs.declared.command.Found.{Found}
use Rattle.s3_machine.specs.declared.command.Outcome.TheVariants.{BucketFound, Got}
use Rattle.s3_replies.specs.declared.context.Context.{Context}
use Rattle.s3_replies.specs.Lines.{Line, print_line, print_lines, metadata_line}
use Rattle.s3_replies.specs.Replies.{Prints, PrintsRefusal, content_range, part}

-- an answer has one printed reply to a message
abbrev pub RepliesAreUnique : Type 0
RepliesAreUnique =
    (answer : Answer) (context : Context) (t u : List ℕ) → Prints answer context t
    → Prints answer context u → t ≡ u

-- a code has one printed refusal of a message, in a dialect
abbrev pub RefusalsAreUnique : Type 0
RefusalsAreUnique =
    (dialect : Dialect) (code : Code) (moment : ℕ) (head_only : Bool) (t u : List ℕ) → PrintsRefusal dialect code moment head_only t
    → PrintsRefusal dialect code moment head_only u → t ≡ u

-- the bytes begin with these
abbrev pub begins : List ℕ → List ℕ → Bool
begins bytes front = bytes_eq (take (length front) bytes) front

-- the status is one of those that tell of success, 200 to 299
abbrev pub tells_success : List ℕ → Bool
tells_success reply = begins reply (codes "HTTP/1.1 2")

-- no carriage return is in the text, so that no line ends in it
abbrev pub is_unbroken : List ℕ → Bool
is_unbroken text = list_all (λ b. not (b == carriage_return)) text

abbrev pub is_whole_line : Line → Bool
is_whole_line line = is_unbroken line.0 && is_unbroken line.1

-- the reply has the status 200; its last header line tells the size of the body, and behind the first
-- empty line come the bytes of the body, and no more
pub record Carries (body reply : List ℕ) : Type 0 where
  pub lines : List Line
  pub whole : IsTrue (list_all is_whole_line lines)
  pub printed : reply
      ≡ codes "HTTP/1.1 200 OK" ++ crlf
      ++ print_lines lines
      ++ print_line (codes "Content-Length", decimal (length body))
      ++ crlf
      ++ body

-- the reply has the status 206; a line tells which part of the bytes it has, from the first position to the last, and of how many; its
-- last header line tells the size of the part, and behind the first empty line come the bytes of the part, and no more
pub record CarriesPart (first last : ℕ) (body reply : List ℕ) : Type 0 where
  pub lines : List Line
  pub whole : IsTrue (list_all is_whole_line lines)
  pub told : Contains lines (codes "Content-Range", content_range first last (length body))
  pub printed : reply
      ≡ codes "HTTP/1.1 206 Partial Content" ++ crlf
      ++ print_lines lines
      ++ print_line (codes "Content-Length", decimal (length (part first last body)))
      ++ crlf
      ++ part first last body

-- the reply has the status 200; a line tells the region of a bucket, and nothing stands behind the first empty line
pub record TellsRegion (region reply : List ℕ) : Type 0 where
  pub lines : List Line
  pub whole : IsTrue (list_all is_whole_line lines)
  pub told : Contains lines (codes "x-amz-bucket-region", region)
  pub printed : reply ≡ codes "HTTP/1.1 200 OK" ++ crlf ++ print_lines lines ++ crlf

-- a tag has no carriage return, whether of bytes that were put whole or of so many parts that were joined
abbrev pub TagsAreUnbroken : Type 0
TagsAreUnbroken = (digest : List ℕ) (parts : Option ℕ) → is_unbroken (tag_text digest parts) ≡ true

-- no carriage return is in what a head tells of an object
pub record IsUnbroken (stored : Data (List ℕ)) : Type 0 where
  pub tag : is_unbroken stored.tag ≡ true
  pub content_type : is_unbroken stored.content_type ≡ true
  pub metadata : list_all is_whole_line (map metadata_line stored.metadata) ≡ true

-- nor in what stands in the place of some of that
abbrev pub AreUnbroken : List Entry → Type 0
AreUnbroken overrides = list_all is_whole_line (map metadata_line overrides) ≡ true

-- a reply tells of success exactly where the command succeeds
abbrev pub SuccessIsShown : Type 0
SuccessIsShown =
    (answer : Answer) (context : Context) (text : List ℕ) → Prints answer context text
    → tells_success text ≡ succeeds answer.outcome

-- the bytes of a version that was asked for are carried, unless by the reply to a HEAD
abbrev pub ObjectsAreCarried : Type 0
ObjectsAreCarried =
    (answer : Answer) (context : Context) (text : List ℕ) (found : Found (List ℕ)) (overrides : List Entry) → Prints answer context text
    → answer.outcome ≡ Got found Whole overrides → IsUnbroken found.stored → AreUnbroken overrides → context.head_only ≡ false
    → Carries found.stored.body text

-- so is a part of them, where one was asked for
abbrev pub PartsAreCarried : Type 0
PartsAreCarried =
    (answer : Answer) (context : Context) (text : List ℕ) (found : Found (List ℕ)) (overrides : List Entry) (first last : ℕ)
    → Prints answer context text
    → answer.outcome ≡ Got found (Part first last) overrides → IsUnbroken found.stored → AreUnbroken overrides → context.head_only ≡ false
    → CarriesPart first last found.stored.body text

-- in the dialect of S3 the region of a bucket that is there is told
abbrev pub RegionsAreTold : Type 0
RegionsAreTold =
    (answer : Answer) (context : Context) (text region : List ℕ) → Prints answer context text
    → answer.outcome ≡ BucketFound region → is_unbroken region ≡ true → context.dialect ≡ S3 → TellsRegion region text

-- the reply to a HEAD is the one that any other request would get, without its body (RFC 9110, section 9.3.2)
abbrev pub HeadsTellOfReplies : Type 0
HeadsTellOfReplies =
    (answer : Answer) (context : Context) (text : List ℕ) → Prints answer context text → context.head_only ≡ false
    → (head : List ℕ) × (body : List ℕ) × Prints answer (record context { head_only = true }) head × (text ≡ head ++ body)
