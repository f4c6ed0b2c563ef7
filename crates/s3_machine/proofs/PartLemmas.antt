-- What a part is of that an entry puts: of bytes that it sends, or of a version that it copies.
use Rattle.std.proofs.Common.{◌≡◌, refl, sym, ap, subst, ◌∙◌, ℕ, true, List, length, Option, Some, option_map, Result, Ok, Err}
use Rattle.std.proofs.lemmas.Option.{same_Some}
use Rattle.std.specs.Result.{result_ok}
use Rattle.s3_versions.specs.declared.picking.Refusal.{Refusal}
use Rattle.s3_versions.specs.declared.version.Data.{Data}
use Rattle.s3_uploads.specs.Parts.{part_sent}
use Rattle.s3_uploads.specs.declared.part.Part.{Part}
use Rattle.s3_machine.specs.declared.command.Command.{Command}
use Rattle.s3_machine.specs.declared.command.Command.TheVariants as commands
use Rattle.s3_machine.specs.declared.command.CopyRange.{CopyRange}
use Rattle.s3_machine.specs.declared.command.Found.{Found}
use Rattle.s3_machine.specs.declared.command.PartCopy.{PartCopy}
use Rattle.s3_machine.specs.declared.command.UploadCommand.TheVariants as upload_commands
use Rattle.s3_machine.specs.Effects.{PartPlace, Read, sends, sent, copied_part, puts_part, source_read, copies_part, succeeds}
use Rattle.s3_machine.specs.History.{Entry}
use Rattle.s3_machine.specs.Kept.{WouldGive}
use Rattle.s3_machine.specs.Step.{State, source_found, part_copied}
use Rattle.s3_machine.specs.UploadsKept.{PartSource, Sent, Copied, PartsHaveTheirBytes, CopiedPartsAreOfTheirSource, PartsHaveASource}
use Rattle.s3_machine.proofs.AnswerLemmas.{would_give}

copied_sized : (t : ℕ) (copy : PartCopy) (source : Result (Found (List ℕ)) Refusal) (what : Part (List ℕ))
    → option_map (copied_part t copy) (result_ok source) ≡ Some what → what.size ≡ length what.body
copied_sized t copy (Ok found) what is =
    subst (λ (p : Part (List ℕ)). p.size ≡ length p.body) (same_Some (copied_part t copy found) what is) refl
copied_sized t copy (Err refusal) what is = absurd (cc)

-- the size of a part that is put is how many bytes it has
pub part_sized : (s : State) (t : ℕ) (command : Command) (what : Part (List ℕ)) → puts_part s t command ≡ Some what → what.size ≡ length what.body
part_sized s t (commands.Upload name key id (upload_commands.PutPart number payload)) what is =
    subst (λ (p : Part (List ℕ)). p.size ≡ length p.body) (same_Some (part_sent t payload) what is) refl
part_sized s t (commands.Upload name key id (upload_commands.CopyPart number copy)) what is =
    copied_sized t copy (source_found s copy.source) what is
part_sized s t _ what is = absurd (cc)

bytes_sent : (s : State) (t : ℕ) (command : Command) (what : Part (List ℕ)) (bytes : List ℕ) → puts_part s t command ≡ Some what
    → sent command ≡ Some bytes → what ≡ part_sent t bytes
bytes_sent s t (commands.Upload name key id (upload_commands.PutPart number payload)) what bytes puts brings =
    sym (same_Some (part_sent t payload) what puts) ∙ ap (part_sent t) (same_Some payload bytes brings)
bytes_sent s t _ what bytes puts brings = absurd (cc)

pub parts_have_their_bytes : PartsHaveTheirBytes
parts_have_their_bytes s e part what bytes sends brings = bytes_sent s e.moment e.command what bytes sends.puts brings

-- what a part is of that is copied
abbrev IsOfSource : State → ℕ → Part (List ℕ) → Read → Option CopyRange → Type 0
IsOfSource s t what asked range = (source : Data (List ℕ)) × WouldGive s asked source × (what ≡ part_copied t range source)

source_part : (s : State) (t : ℕ) (copy : PartCopy) (source : Result (Found (List ℕ)) Refusal) (what : Part (List ℕ))
    → source_found s copy.source ≡ source → option_map (copied_part t copy) (result_ok source) ≡ Some what
    → IsOfSource s t what (source_read copy.source) copy.range
source_part s t copy (Ok found) what is puts =
    (found.stored, would_give s copy.source found is, sym (same_Some (copied_part t copy found) what puts))
source_part s t copy (Err refusal) what is puts = absurd (cc)

part_from : (s : State) (t : ℕ) (command : Command) (what : Part (List ℕ)) (asked : Read) (range : Option CopyRange)
    → puts_part s t command ≡ Some what → copies_part command ≡ Some (asked, range) → IsOfSource s t what asked range
part_from s t (commands.Upload name key id (upload_commands.CopyPart number copy)) what asked range puts from =
    let same = same_Some (source_read copy.source, copy.range) (asked, range) from in
    subst (λ (p : Read × Option CopyRange). IsOfSource s t what p.0 p.1) same
    (source_part s t copy (source_found s copy.source) what refl puts)
part_from s t _ what asked range puts from = absurd (cc)

pub copied_parts_are_of_their_source : CopiedPartsAreOfTheirSource
copied_parts_are_of_their_source s e part what asked range sends from =
    part_from s e.moment e.command what asked range sends.puts from

-- a part that is put is sent or copied
put_from : (s : State) (e : Entry) (part : PartPlace) (what : Part (List ℕ)) (command : Command) → e.command ≡ command
    → sends command ≡ Some part → puts_part s e.moment command ≡ Some what → succeeds e.answer.outcome ≡ true → PartSource s e part what
put_from s e part what (commands.Upload name key id (upload_commands.PutPart number payload)) same at puts accepted =
    Sent payload (record { at = ap sends same ∙ at; brings = ap sent same; accepted = accepted })
    (sym (same_Some (part_sent e.moment payload) what puts))
put_from s e part what (commands.Upload name key id (upload_commands.CopyPart number copy)) same at puts accepted =
    let from = source_part s e.moment copy (source_found s copy.source) what refl puts in
    Copied (source_read copy.source) copy.range from.0
    (record { at = ap sends same ∙ at; from = ap copies_part same; accepted = accepted }) from.1 from.2
put_from s e part what _ same at puts accepted = absurd (cc)

pub parts_have_a_source : PartsHaveASource
parts_have_a_source s e part what sends = put_from s e part what e.command refl sends.at sends.puts sends.accepted
