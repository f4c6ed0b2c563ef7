-- Where memory is taken for a copy, and for a put.
use Rattle.std.proofs.Common.{◌≡◌, List, ℕ, Option, Some, None, Result, Ok, IsOk, ok_or, refl}
use Rattle.std.specs.Option.{IsSomeAnd}
use Rattle.s3_terms.specs.Fault.{◌>>=◌}
use Rattle.s3_terms.specs.declared.code.Code.{Code}
use Rattle.s3_terms.specs.declared.code.Code.TheVariants.{InvalidArgument, NotImplemented}
use Rattle.s3_terms.specs.declared.dialect.Dialect.{Dialect}
use Rattle.s3_terms.proofs.FaultLemmas.{stage_ok, test_ok}
use Rattle.s3_http_heads.specs.Head.{HeadParts, first_value}
use Rattle.s3_http_heads.specs.Target.{TargetParts, has_bad_escape}
use Rattle.s3_conditions.specs.declared.conditions.Conditions.{Conditions}
use Rattle.s3_machine.specs.declared.command.Description.{Description}
use Rattle.s3_machine.specs.declared.command.Source.{Source}
use Rattle.s3_requests.specs.declared.copies.Directive.{Directive}
use Rattle.s3_requests.specs.Copies.{source_for}
use Rattle.s3_requests.specs.CopySource.{conditions_for_source, path_in, source_in, source_of, version_in}
use Rattle.s3_requests.specs.Description.{content_type_of, description_of}
use Rattle.s3_requests.specs.Memory.{DescriptionTakes, SourceInTakes, SourceTakes}

given_ok : {A : Type 0} (rule : Result A Code) (value : A) → rule ≡ Ok value → IsOk rule
given_ok rule value is = rw is refl

-- a source that is right takes it
source_in_takes : (conditions : Conditions) (value : List ℕ) (source : Source) → source_in conditions value ≡ Ok source → SourceInTakes value
unfolding source_in
source_in_takes conditions value source is =
    let version = stage_ok (version_in value) _ source is in
    (given_ok _ version.0 version.1, (test_ok (has_bad_escape (path_in value)) InvalidArgument _ source version.2).0)

named_takes : (conditions : Conditions) (named : Option (List ℕ)) (source : Source)
    → ok_or named InvalidArgument >>= (λ value. source_in conditions value) ≡ Ok source → IsSomeAnd named SourceInTakes
named_takes conditions None source is = absurd (cc)
named_takes conditions (Some value) source is = source_in_takes conditions value source is

source_takes : (dialect : Dialect) (head : HeadParts) (source : Source) → source_of dialect head ≡ Ok source → SourceTakes dialect head
unfolding source_of
source_takes dialect head source is =
    let tested = test_ok _ NotImplemented _ source is in
    (tested.0, named_takes (conditions_for_source dialect head) (first_value _ head) source tested.1)

pub copied_takes : (dialect : Dialect) (directive : Directive) (head : HeadParts) (target : TargetParts) (source : Source)
    → source_for dialect directive head target ≡ Ok source → SourceTakes dialect head
unfolding source_for
copied_takes dialect directive head target source is =
    let stage = stage_ok (source_of dialect head) _ source is in
    source_takes dialect head stage.0 stage.1

-- what is said of an object takes it where that is right
pub described_takes : (dialect : Dialect) (head : HeadParts) (said : Description) → description_of dialect head ≡ Ok said → DescriptionTakes head
unfolding description_of
described_takes dialect head said is =
    let stage = stage_ok (content_type_of head) _ said is in
    given_ok _ stage.0 stage.1
