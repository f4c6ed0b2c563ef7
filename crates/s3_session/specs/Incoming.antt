-- How a message stands whose head has come, and what its body brings.
-- Only clauses of private functions and `Stands` cite these, and nobody has to believe them.
use Rattle.std.specs.Prelude.{◌≡◌, ◌≢◌, ◌⊎◌, ℕ, ◌≤◌, Bool, true, false, List, [], ◌++◌, length, Option, Some, None, Result, Ok, Err, IsOk, ⊤}
use Rattle.s3_config.specs.Settings.{Settings}
use Rattle.s3_terms.specs.declared.code.Code.{Code}
use Rattle.s3_terms.specs.declared.dialect.Dialect.{Dialect}
use Rattle.s3_terms.specs.declared.code.Code.TheVariants.{MalformedHead, InternalError}
use Rattle.s3_http_heads.specs.Find.{found_in, skip_pairs}
use Rattle.s3_http_heads.specs.declared.find.Found.TheVariants as found
use Rattle.s3_http_heads.specs.Head.{HeadParts, Says, HasNoHead, asks_head_only}
use Rattle.s3_aws_chunked.specs.Verdict as bodies
use Rattle.s3_integrity.specs.declared.checksum.Checksum.{Checksum}
use Rattle.s3_payloads.specs.FoundSum.{found_sum}
use Rattle.s3_framed_bodies.specs.Framed.{size_in}
use Rattle.s3_framed_bodies.specs.Reader as framed
use Rattle.s3_payloads.specs.declared.form.Form.{Form}
use Rattle.s3_machine.specs.declared.command.Command.{Command}
use Rattle.s3_requests.specs.declared.routing.Plan.{Plan}
use Rattle.s3_requests.specs.Commands.{CommandTakes, command_of}
use Rattle.s3_replies.specs.declared.context.Context.{Context}
use Rattle.s3_session.specs.Verdict as verdicts
use Rattle.s3_session.specs.Admission.{Asked, admission_of}
use Rattle.s3_signing.specs.Verdict.{Checked}
use Rattle.s3_session.specs.Admitting.{IsRuled, early_admission}
use Rattle.s3_session.specs.Decision.{Judges, context_of, with_found}
use Rattle.s3_session.specs.Invitation.{may_be_invited}
use Rattle.s3_session.specs.declared.incoming.Incoming.{Incoming}
use Rattle.s3_session.specs.declared.incoming.Progress.{Progress}
use Rattle.s3_session.specs.declared.incoming.Progress.TheVariants as progress
use Rattle.s3_session.specs.declared.opening.Opening.{Opening}
use Rattle.s3_session.specs.declared.opening.Opening.TheVariants as opening

-- what came of a head, in the dialect of its connection: it is admitted, and its client may be told to go on; it is refused; or memory
-- ran out, and nothing that is judged without memory refuses it
abbrev pub HeadOpens : Dialect → HeadParts → ℕ → Result Checked Code → Result Asked Code → Opening → Type 0
HeadOpens dialect head moment early rule (opening.Admitted incoming invited) =
    IsRuled rule incoming.admission
    × (incoming.context ≡ context_of dialect head moment)
    × (invited ≡ may_be_invited dialect head incoming.admission.framing)
HeadOpens dialect head moment early rule (opening.Refused code head_only) = (rule ≡ Err code) × (head_only ≡ asks_head_only head)
HeadOpens dialect head moment early rule opening.Died = IsOk early

-- what came of a head text: memory ran out for its copy, and it isn't malformed; it is malformed; or what came of the head that it says
abbrev pub TextOpens : Settings → ℕ → List ℕ → Opening → Type 0
TextOpens settings moment text opened =
    ((opened ≡ opening.Died) × ¬ (HasNoHead text))
    ⊎ (HasNoHead text × (opened ≡ opening.Refused MalformedHead false))
    ⊎ ((head : HeadParts)
    × Says text head
    × HeadOpens settings.dialect head moment (early_admission settings head moment) (admission_of settings head moment) opened)

-- the same, where the text may have been lost
abbrev pub Opens : Settings → ℕ → Option (List ℕ) → Opening → Type 0
Opens settings moment None opened = opened ≡ opening.Died
Opens settings moment (Some text) opened = TextOpens settings moment text opened

-- the head at the front of these bytes was admitted, and the reader of its body stands behind all of them
pub record IsIncoming (settings : Settings) (incoming : Incoming) (rest : List ℕ) : Type 0 where
  pub head : HeadParts
  pub asked : Asked
  pub text : List ℕ
  pub behind : List ℕ
  pub found : found_in rest ≡ found.Head (length text)
  pub joined : skip_pairs rest ≡ text ++ behind
  pub says : Says text head
  pub admitted : admission_of settings head incoming.context.moment ≡ Ok asked
  pub context : incoming.context ≡ context_of settings.dialect head incoming.context.moment
  pub plan : incoming.admission.plan ≡ asked.plan
  pub stands : framed.Stands incoming.admission.reader asked.announced behind false
  pub taken : framed.taken_of incoming.admission.reader ≡ length behind
  pub within : (more : List ℕ) → length behind ≤ size_in asked.announced.framing (behind ++ more)

-- and nothing is decided about it yet
pub record IsInBody (settings : Settings) (incoming : Incoming) (rest : List ℕ) : Type 0 where
  pub begun : IsIncoming settings incoming rest
  pub held : List ℕ
  pub undecided : framed.verdict_of incoming.admission.reader ≡ bodies.Open held

-- what became of it with these bytes, where its reply takes this from it
abbrev pub Progresses : Settings → Context → List ℕ → Progress → Type 0
Progresses settings context rest (progress.Open incoming) = (incoming.context ≡ context) × IsInBody settings incoming rest
Progresses settings context rest (progress.Whole command sum) =
    Judges settings context.moment false rest (verdicts.Sound (with_found sum context) command, [])
Progresses settings context rest (progress.Refused code) = Judges settings context.moment false rest (verdicts.Refused code context.head_only, [])
Progresses settings context rest progress.Died = Unit {0}

-- the end of input refuses it
abbrev pub IsCut : Settings → Context → List ℕ → Result ⊤ Code → Type 0
IsCut settings context rest (Ok done) = ⊥
IsCut settings context rest (Err code) = Judges settings context.moment true rest (verdicts.Refused code context.head_only, [])

-- bytes of the body are still to come
abbrev pub is_open : Progress → Bool
is_open (progress.Open incoming) = true
is_open (progress.Whole command sum) = false
is_open (progress.Refused code) = false
is_open progress.Died = false

-- what becomes of a message with its command and the checksum that was found of its body, or with what the command refuses
abbrev pub settled_as : Option Checksum → Result Command Code → Progress
settled_as sum (Ok command) = progress.Whole command sum
settled_as sum (Err code) = progress.Refused code

-- what becomes of a message with its whole body, and the checksum that was found of it: memory may run out where its command
-- takes some
abbrev pub IsCommanded : Plan → Option Checksum → List ℕ → Progress → Type 0
IsCommanded plan sum payload settled =
    ((settled ≡ progress.Died) × CommandTakes plan sum payload) ⊎ (settled ≡ settled_as sum (command_of plan sum payload))

-- what becomes of a message by what its reader says, where its body was announced in this form
abbrev pub Settles : Form → Incoming → bodies.Verdict → Progress → Type 0
Settles form incoming (bodies.Open held) settled = settled ≡ progress.Open incoming
Settles form incoming (bodies.Accepted payload) settled = IsCommanded incoming.admission.plan (found_sum form payload) payload settled
Settles form incoming (bodies.Refused place code) settled = Unit {0}

-- a refusal by the reader or by the operation: want of memory is none of the message
abbrev pub IsRefusedBy : Code → Progress → Type 0
IsRefusedBy code settled = ((code ≡ InternalError) × (settled ≡ progress.Died)) ⊎ ((code ≢ InternalError) × (settled ≡ progress.Refused code))

-- what its reply takes from it, where it has one still
abbrev pub context_in : Context → Progress → Context
context_in context (progress.Open incoming) = incoming.context
context_in context (progress.Whole command sum) = context
context_in context (progress.Refused code) = context
context_in context progress.Died = context
