-- What a read asks its reply to say: how it is gathered, and that it doesn't end a line.
use Rattle.std.proofs.Common.{◌≡◌, ℕ, Bool, true, false, not, ◌&&◌, List, [], ◌∷◌, ◌++◌, Option, Some, None, option_and_then, Result, Ok, refl, ◌∙◌, arith, append_assoc, append-nil, subst}
use Rattle.std.specs.Prelude.{◌==◌, nat_lt, if◌then◌else◌, length, option_to_list}
use Rattle.std.specs.List.{flat_map, list_all}
use Rattle.std.proofs.lemmas.Bool.Decides.{nat_tests}
use Rattle.std.proofs.lemmas.List.Folds.{list_all-append}
use Rattle.s3_terms.specs.Fault.{refuse, ◌>>◌}
use Rattle.s3_terms.specs.declared.code.Code.{Code}
use Rattle.s3_terms.specs.declared.code.Code.TheVariants.{InvalidArgument}
use Rattle.s3_terms.specs.declared.dialect.Dialect.{Dialect}
use Rattle.s3_terms.specs.declared.dialect.Dialect.TheVariants.{Json, S3}
use Rattle.s3_terms.proofs.FaultLemmas.{test_ok}
use Rattle.s3_http_heads.specs.Head.{is_unbroken}
use Rattle.s3_http_heads.specs.Target.{TargetParts, first_parameter}
use Rattle.s3_versions.specs.Metadata.{Entry, is_printed, metadata_size}
use Rattle.s3_machine.specs.Overrides.{has_printed_value, overrides, overrides_limit}
use Rattle.s3_requests.specs.Laws.{is_unbroken_entry}
use Rattle.s3_requests.specs.Overrides.{line_set, override_in, override_parameters, overrides_sent, overrides_asked}

both : (a b : Bool) → (a && b) ≡ true → (a ≡ true) × (b ≡ true)
both true b is = (refl, is)
both false b is = absurd (cc)

-- ---- no line is ended

byte_unbroken : (b : ℕ) → is_printed b ≡ true → not (b == 13) ≡ true
byte_unbroken b printed = grind (arith, nat_tests, printed)

value_unbroken : (value : List ℕ) → list_all is_printed value ≡ true → is_unbroken value ≡ true
value_unbroken [] all = refl
value_unbroken (b ∷ value) all =
    let parts = both (is_printed b) (list_all is_printed value) all in
    rw (byte_unbroken b parts.0) (value_unbroken value parts.1)

-- the name of an entry
abbrev has_unbroken_name : Entry → Bool
has_unbroken_name entry = is_unbroken entry.name

set_named : (name value : List ℕ) (none : Bool) → is_unbroken name ≡ true
    → list_all has_unbroken_name (option_to_list (if none then None else Some (record { name = name; value = value }))) ≡ true
set_named name value true are = refl
set_named name value false are = rw are refl

sent_named : (name : List ℕ) (found : Option (List ℕ)) → is_unbroken name ≡ true
    → list_all has_unbroken_name (option_to_list (option_and_then (line_set name) found)) ≡ true
sent_named name None are = refl
sent_named name (Some value) are = set_named name value (length value == 0) are

-- the lines that parameters set have the names that these have
table_named : (target : TargetParts) (parameters : List (List ℕ × List ℕ))
    → list_all (λ (parameter : List ℕ × List ℕ). is_unbroken parameter.1) parameters ≡ true
    → list_all has_unbroken_name (flat_map (λ parameter. option_to_list (override_in target parameter)) parameters) ≡ true
table_named target [] all = refl
table_named target (parameter ∷ parameters) all =
    let parts = both (is_unbroken parameter.1) (list_all (λ (other : List ℕ × List ℕ). is_unbroken other.1) parameters) all in
    let one = option_to_list (override_in target parameter) in
    let more = flat_map (λ (other : List ℕ × List ℕ). option_to_list (override_in target other)) parameters in
    list_all-append has_unbroken_name one more
    ∙ rw (sent_named parameter.1 (first_parameter parameter.0 target) parts.0, table_named target parameters parts.1) refl

both_unbroken : (entries : List Entry) → list_all has_unbroken_name entries ≡ true → list_all has_printed_value entries ≡ true
    → list_all is_unbroken_entry entries ≡ true
both_unbroken [] names values = refl
both_unbroken (entry ∷ entries) names values =
    let named = both (is_unbroken entry.name) (list_all has_unbroken_name entries) names in
    let valued = both (has_printed_value entry) (list_all has_printed_value entries) values in
    rw (named.0, value_unbroken entry.value valued.0) (both_unbroken entries named.1 valued.1)

passed : (fault : Bool) (code : Code) (x y : List Entry) → ◌≡◌ {A = Result (List Entry) Code} (refuse fault code >> Ok x) (Ok y) → x ≡ y
passed true code x y is = absurd (cc)
passed false code x y is = cc

not_false : (b : Bool) → not b ≡ false → b ≡ true
not_false true is = refl
not_false false is = absurd (cc)

-- what may be said is what was sent, and has no control byte
said_printed : (entries said : List Entry) → overrides entries ≡ Ok said → (entries ≡ said) × (list_all has_printed_value entries ≡ true)
unfolding overrides
said_printed entries said is =
    let printed = test_ok (not (list_all has_printed_value entries)) InvalidArgument _ said is in (
      passed (nat_lt overrides_limit (metadata_size entries)) InvalidArgument entries said printed.1,
      not_false (list_all has_printed_value entries) printed.0,
    )

pub overrides_unbroken : (dialect : Dialect) (target : TargetParts) (said : List Entry) → overrides_asked dialect target ≡ Ok said
    → list_all is_unbroken_entry said ≡ true
overrides_unbroken Json target said is =
    let none : [] ≡ said = cc in
    subst (λ (entries : List Entry). list_all is_unbroken_entry entries ≡ true) none refl
overrides_unbroken S3 target said is =
    let sent = said_printed (overrides_sent target) said is in
    subst (λ (entries : List Entry). list_all is_unbroken_entry entries ≡ true) sent.0
    (both_unbroken (overrides_sent target) (table_named target override_parameters refl) sent.1)

-- ---- how they are gathered

-- what six parameters set, one behind another
pub gathered : (a b c d e f : List Entry) → [] ++ a ++ b ++ c ++ d ++ e ++ f ≡ a ++ (b ++ (c ++ (d ++ (e ++ (f ++ [])))))
gathered a b c d e f = simp (append_assoc, append-nil)
