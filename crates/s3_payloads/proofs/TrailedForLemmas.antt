-- What the calls of a reader of a body with a checksum behind its chunks bring, by what was announced.
use Rattle.std.proofs.Common.{◌≡◌, ℕ, Bool, true, false, List, [], ◌++◌, subst, sym, Result}
use Rattle.std.specs.Prelude.{⊤}
use Rattle.s3_terms.specs.declared.code.Code.{Code}
use Rattle.s3_integrity.specs.declared.algorithm.ChecksumAlgorithm.{ChecksumAlgorithm}
use Rattle.s3_payloads.specs.declared.form.Form.{Form}
use Rattle.s3_payloads.specs.declared.form.Form.TheVariants as forms
use Rattle.s3_payloads.specs.declared.trailed.TrailedReader.{TrailedReader}
use Rattle.s3_payloads.specs.Form.{Announced}
use Rattle.s3_payloads.specs.Outcome.{FedTo, EndedTo, part_of}
use Rattle.s3_payloads.specs.Reader.{TrailedFor}
use Rattle.s3_payloads.specs.Trailed.{TrailedDone, TrailedFailed, TrailedStands}
use Rattle.s3_payloads.specs.Verdict.{TrailerTerms, trailed_terms}

-- a piece
pub trailed_fed_for : (form : Form) (announced : Announced) (old new : TrailedReader) (bytes piece : List ℕ) (result : Result ℕ Code)
    → TrailedFor form old announced bytes false
    → ((algorithm : ChecksumAlgorithm) (terms : TrailerTerms) → TrailedStands old algorithm terms bytes false
    → FedTo piece (part_of terms.encoded bytes piece) (TrailedStands new algorithm terms (bytes ++ piece) false) (TrailedFailed new) result)
    → FedTo piece (part_of announced.length bytes piece) (TrailedFor form new announced (bytes ++ piece) false) (TrailedFailed new) result
trailed_fed_for (forms.Whole hash digests) announced old new bytes piece result stands fed = absurd stands
trailed_fed_for (forms.Chunks decoded) announced old new bytes piece result stands fed = absurd stands
trailed_fed_for (forms.TrailedChunks decoded algorithm signed) announced old new bytes piece result stands fed =
    fed algorithm (trailed_terms announced decoded algorithm signed) stands

-- the end of input
pub trailed_ended_for : (form : Form) (announced : Announced) (old new : TrailedReader) (bytes : List ℕ) (result : Result ⊤ Code)
    → TrailedFor form old announced bytes false
    → ((algorithm : ChecksumAlgorithm) (terms : TrailerTerms) → TrailedStands old algorithm terms bytes false
    → EndedTo (TrailedStands new algorithm terms bytes true) (TrailedFailed new) (TrailedDone new) result)
    → EndedTo (TrailedFor form new announced bytes true) (TrailedFailed new) (TrailedDone new) result
trailed_ended_for (forms.Whole hash digests) announced old new bytes result stands ended = absurd stands
trailed_ended_for (forms.Chunks decoded) announced old new bytes result stands ended = absurd stands
trailed_ended_for (forms.TrailedChunks decoded algorithm signed) announced old new bytes result stands ended =
    ended algorithm (trailed_terms announced decoded algorithm signed) stands

-- before any byte
pub trailed_begun : (form : Form) (announced : Announced) (trailed : TrailedReader) (decoded : ℕ) (algorithm : ChecksumAlgorithm) (signed : Bool) → form ≡ forms.TrailedChunks decoded algorithm signed
    → TrailedStands trailed algorithm (trailed_terms announced decoded algorithm signed) [] false → TrailedFor form trailed announced [] false
trailed_begun form announced trailed decoded algorithm signed is stands =
    subst (λ (f : Form). TrailedFor f trailed announced [] false) (sym is) stands
