-- The texts of the document that tells of a code: no byte in it is one for which JSON or XML writes another.
use Rattle.std.proofs.Common.{◌≡◌, ℕ, zero, suc, ◌/◌, ◌%◌, ◌<◌, ◌&&◌, ◌||◌, Bool, true, false, not, List, [], ◌∷◌, ◌++◌, refl, ◌∙◌, ap, ap₂, arith, codes, length, append_assoc, append-nil, slice_index_or}
use Rattle.std.specs.Prelude.{◌==◌, cond, nat_lt}
use Rattle.std.specs.Int.{w64, to_be_bytes}
use Rattle.std.proofs.lemmas.Bool.Decides.{nat_tests}
use Rattle.std.specs.List.{list_all}
use Rattle.std.proofs.lemmas.List.Concat.{flat_map-append}
use Rattle.hex.specs.Hex.{encode_lower, encode_with, lower_digits}
use Rattle.s3_text.specs.Digits.{number_digits}
use Rattle.s3_terms.specs.Code.{name_of, message_of}
use Rattle.s3_terms.specs.declared.code.Code.{Code}
use Rattle.s3_terms.specs.declared.code.Code.TheVariants.{MalformedHead}
use Rattle.s3_terms.specs.declared.dialect.Dialect.TheVariants.{Json, S3}
use Rattle.s3_xml.specs.Characters.{is_control, is_noncharacter}
use Rattle.s3_documents.specs.Document as documents
use Rattle.s3_documents.specs.Spelling.{document_text}
use Rattle.s3_documents.specs.Tree.{text_of_literals}
use Rattle.s3_xml.specs.Events.{leaf}
use Rattle.s3_xml.specs.Printed.{escaped, escaped_byte, event_text, markup}
use Rattle.s3_xml.specs.Printed as xml
use Rattle.s3_replies.proofs.UnbrokenLemmas.{both_true}

-- XML writes such a byte as it is
abbrev is_mild : ℕ → Bool
is_mild b = not (b == 239) && not (b == 38) && not (b == 60) && not (b == 62) && not (b == 34) && not (b == 13 || is_control b)

none_is : (p q r s t : Bool) (a b c d e y : List ℕ) → (not p && not q && not r && not s && not t) ≡ true → cond p a (cond q b (cond r c (cond s d (cond t e y)))) ≡ y
none_is false false false false false a b c d e y all = refl
none_is true q r s t a b c d e y all = absurd (cc)
none_is false true r s t a b c d e y all = absurd (cc)
none_is false false true s t a b c d e y all = absurd (cc)
none_is false false false true t a b c d e y all = absurd (cc)
none_is false false false false true a b c d e y all = absurd (cc)

mild_byte : (b : ℕ) → is_mild b ≡ true → escaped_byte b ≡ b ∷ []
unfolding escaped_byte
mild_byte b mild = none_is (b == 38) (b == 60) (b == 62) (b == 34) (b == 13 || is_control b) _ _ _ _ _ _ (mild_rest (b == 239) (b == 38) (b == 60) (b == 62) (b == 34) (b == 13 || is_control b) mild)
  where
    mild_rest : (o p q r s t : Bool) → (not o && not p && not q && not r && not s && not t) ≡ true → (not p && not q && not r && not s && not t) ≡ true
    mild_rest false p q r s t all = all
    mild_rest true p q r s t all = absurd (cc)

mild_begins : (b c d : ℕ) → is_mild b ≡ true → is_noncharacter b c d ≡ false
mild_begins b c d mild = by (b == 239) (b == 38) (b == 60) (b == 62) (b == 34) (b == 13 || is_control b) (c == 191) (d == 190 || d == 191) mild
  where
    by : (o p q r s t u v : Bool) → (not o && not p && not q && not r && not s && not t) ≡ true → (o && u && v) ≡ false
    by false p q r s t u v all = refl
    by true p q r s t u v all = absurd (cc)

pub mild_escaped : (xs : List ℕ) → list_all is_mild xs ≡ true → escaped xs ≡ xs
unfolding escaped
mild_escaped [] all = refl
mild_escaped (a ∷ []) all = mild_byte a (both_true (is_mild a) true all).0
mild_escaped (a ∷ b ∷ []) all =
    let both = both_true (is_mild a) (list_all is_mild (b ∷ [])) all in
    rw (mild_byte a both.0, mild_escaped (b ∷ []) both.1) refl
mild_escaped (a ∷ b ∷ c ∷ rest) all =
    let both = both_true (is_mild a) (list_all is_mild (b ∷ c ∷ rest)) all in
    rw (mild_begins a b c both.0, mild_byte a both.0, mild_escaped (b ∷ c ∷ rest) both.1) refl

name_mild : (code : Code) → list_all is_mild (name_of code) ≡ true
name_mild MalformedHead = refl
name_mild _ = refl

message_mild : (code : Code) → list_all is_mild (message_of code) ≡ true
message_mild MalformedHead = refl
message_mild _ = refl

one_mild : (digits : List ℕ) (i : ℕ) → list_all is_mild digits ≡ true → i < length digits → is_mild (slice_index_or digits i 0) ≡ true
one_mild [] i all within = absurd (omega (arith, within))
one_mild (d ∷ digits) zero all within = (both_true (is_mild d) (list_all is_mild digits) all).0
one_mild (d ∷ digits) (suc i) all within = one_mild digits i (both_true (is_mild d) (list_all is_mild digits) all).1 (omega (arith, within))

mild_digits : (bytes : List ℕ) → list_all (λ b. nat_lt b 256) bytes ≡ true → list_all is_mild (encode_lower bytes) ≡ true
unfolding encode_with
mild_digits [] all = refl
mild_digits (b ∷ bytes) all =
    let both = both_true (nat_lt b 256) (list_all (λ b. nat_lt b 256) bytes) all in
    let small : b < 256 = grind (arith, nat_tests, both.0) in
    rw (one_mild lower_digits (b / 16) refl (omega (arith, small)), one_mild lower_digits (b % 16) refl (omega arith)) (mild_digits bytes both.1)

number_mild : (n : ℕ) → list_all is_mild (number_digits n) ≡ true
unfolding number_digits
number_mild n = mild_digits (to_be_bytes w64 n) (grind (arith, nat_tests))

joined_leaf : (begin content end : List ℕ) → begin ++ (content ++ (end ++ [])) ≡ begin ++ content ++ end
joined_leaf begin content end = simp (append_assoc, append-nil)

-- an element in which a mild text stands alone
leaf_text : (name content : List ℕ) → list_all is_mild content ≡ true
    → markup (leaf name content) ≡ (codes "<" ++ name ++ codes ">") ++ content ++ (codes "</" ++ name ++ codes ">")
leaf_text name [] mild = joined_leaf (codes "<" ++ name ++ codes ">") [] (codes "</" ++ name ++ codes ">")
leaf_text name (b ∷ content) mild = rw (mild_escaped (b ∷ content) mild) (joined_leaf (codes "<" ++ name ++ codes ">") (b ∷ content) (codes "</" ++ name ++ codes ">"))

three_joined : (d a n b c m e f i g h : List ℕ)
    → d ++ ((a ++ n ++ b) ++ (c ++ m ++ e) ++ (f ++ i ++ g)) ++ h ≡ (d ++ a) ++ n ++ (b ++ c) ++ m ++ (e ++ f) ++ i ++ (g ++ h)
three_joined d a n b c m e f i g h = simp append_assoc

pub error_element_is : (code : Code) (number : ℕ)
    → document_text S3 (documents.error code number)
    ≡ codes "<?xml version=\"1.0\" encoding=\"UTF-8\"?>\n<Error><Code>"
    ++ name_of code
    ++ codes "</Code><Message>"
    ++ message_of code
    ++ codes "</Message><RequestId>"
    ++ number_digits number
    ++ codes "</RequestId></Error>"
unfolding xml.document_text
error_element_is code number =
    let told = leaf (codes "Code") (name_of code) in
    let why = leaf (codes "Message") (message_of code) in
    let id = leaf (codes "RequestId") (number_digits number) in
    let row : told ++ (why ++ (id ++ [])) ≡ told ++ why ++ id = simp (append_assoc, append-nil) in
    let apart = ap markup row ∙ flat_map-append event_text (told ++ why) id ∙ ap (λ t. t ++ markup id) (flat_map-append event_text told why) in
    let first = leaf_text (codes "Code") (name_of code) (name_mild code) in
    let second = leaf_text (codes "Message") (message_of code) (message_mild code) in
    let third = leaf_text (codes "RequestId") (number_digits number) (number_mild number) in
    ap (λ t. codes "<?xml version=\"1.0\" encoding=\"UTF-8\"?>\n<Error>" ++ t ++ codes "</Error>")
    (apart ∙ ap₂ (λ x y. x ++ y) (ap₂ (λ x y. x ++ y) first second) third)
    ∙ three_joined (codes "<?xml version=\"1.0\" encoding=\"UTF-8\"?>\n<Error>") (codes "<Code>") (name_of code) (codes "</Code>") (codes "<Message>") (message_of code) (codes "</Message>")
    (codes "<RequestId>") (number_digits number) (codes "</RequestId>") (codes "</Error>")

pub error_object_is : (code : Code) (number : ℕ)
    → document_text Json (documents.error code number)
    ≡ codes "{\"Code\":\""
    ++ name_of code
    ++ codes "\",\"Message\":\""
    ++ message_of code
    ++ codes "\"}"
unfolding text_of_literals
error_object_is MalformedHead number = refl
error_object_is _ number = refl
