-- Lines.
use Rattle.std.proofs.Common.{◌≡◌, ℕ, ◌-◌, List, [], ◌∷◌, ◌++◌, length, take, map, Bool, true, false, Result, Ok, Err, IfOk, Option, Some, None, codes, ap, ap₂, refl, sym, ◌∙◌, arith, append_assoc, append-nil, if◌then◌else◌}
use Rattle.std.specs.List.{flat_map}
use Rattle.std.specs.Fmt.{digits}
use Rattle.std.specs.Str.{IsUtf8, is_utf8}
use Rattle.std.proofs.lemmas.Grind.{flat_map-append}
use Rattle.std.proofs.lemmas.List.{length_push, take_at}
use Rattle.std.proofs.lemmas.Str.{IsUtf8-from_is_utf8, is_utf8-from_IsUtf8}
use Rattle.json.specs.Print.{escape_byte, quoted}
use Rattle.json.specs.Token.{Token}
use Rattle.s3_text.specs.Characters.{line_feed}
use Rattle.s3_documents.specs.Printed.{begun, told}
use Rattle.s3_documents.specs.Timestamp.{timestamp}
use Rattle.s3_documents.specs.Tree.{Branch, Fields, Tree, Value, branch_text, leaves, moment, number, tree_text, value_text, with_commas}
use Rattle.s3_log.specs.Line.{Begun, behind, begun_document, beginning, lead_of, led, member_behind, some_text, text_told, texts_told, told_fields}
use Rattle.s3_driver.specs.Told.{answered}

-- bytes that are a text are told as one
pub told_text : (bytes : List ℕ) → IsUtf8 bytes → text_told bytes ≡ some_text bytes
told_text bytes text = ap (λ b. if b then some_text bytes else None) (is_utf8-from_IsUtf8 bytes text)

-- and others aren't
chosen : (b : Bool) (value : Option Value) → ¬ (b ≡ true) → (if b then value else None) ≡ None
chosen true value untrue = absurd (untrue refl)
chosen false value untrue = refl

pub told_nothing : (bytes : List ℕ) → ¬ (IsUtf8 bytes) → text_told bytes ≡ None
told_nothing bytes none = chosen (is_utf8 bytes) (some_text bytes) (λ is. none (IsUtf8-from_is_utf8 bytes is))

-- a line that is printed whole
pub whole_line : {V E : Type 0} (items : V → List ℕ) (old new : List Token) (more : Fields) (r : Result V E)
    → old ≡ begun []
    → ((tree : Tree) → old ≡ begun tree → new ≡ begun (tree ++ leaves more))
    → IfOk r (λ line. (fields : Fields) → new ≡ begun (leaves fields) → items line ≡ tree_text (leaves fields) ++ line_feed ∷ [])
    → IfOk r (λ line. items line ≡ tree_text (leaves more) ++ line_feed ∷ [])
whole_line items old new more (Ok line) anew prints ends = ends more (prints [] anew)
whole_line items old new more (Err e) anew prints ends = tt

-- ---- the text of a document whose fields stand one behind another

texts_behind : (text : List ℕ) (texts : List (List ℕ)) → with_commas (text ∷ texts) ≡ text ++ flat_map (λ (t : List ℕ). 44 ∷ t) texts
texts_behind text [] = sym (append-nil text)
texts_behind text (next ∷ texts) = ap (λ (t : List ℕ). text ++ (44 ∷ t)) (texts_behind next texts)

abbrev member_text : List ℕ × Branch → List ℕ
member_text member = quoted member.0 ++ (58 ∷ branch_text member.1)

members_behind : (fields : Fields) → flat_map (λ (t : List ℕ). 44 ∷ t) (map member_text (leaves fields)) ≡ behind fields
members_behind [] = refl
members_behind (field ∷ fields) =
    ap₂ (λ (a b : List ℕ). 44 ∷ (a ++ b)) (sym (append_assoc (quoted field.0) (58 ∷ []) (value_text field.1))) (members_behind fields)

document : (name : List ℕ) (value : Value) (rest : Fields)
    → tree_text (leaves ((name, value) ∷ rest)) ≡ 123 ∷ ((quoted name ++ (58 ∷ value_text value)) ++ (behind rest ++ 125 ∷ []))
unfolding tree_text
document name value rest =
    let first = quoted name ++ (58 ∷ value_text value) in
    ap (λ (t : List ℕ). 123 ∷ (t ++ 125 ∷ [])) (texts_behind first (map member_text (leaves rest)) ∙ ap (λ (t : List ℕ). first ++ t) (members_behind rest))
    ∙ ap (λ (t : List ℕ). 123 ∷ t) (append_assoc first (behind rest) (125 ∷ []))

behind_append : (a b : Fields) → behind (a ++ b) ≡ behind a ++ behind b
behind_append a b = flat_map-append member_behind a b

-- ---- how a line begins

without : (text old new : List ℕ) (n : ℕ) → old ≡ text ++ 125 ∷ [] → n ≡ length old - 1 → new ≡ take n old → new ≡ text
without text old new n is count taken =
    let size : n ≡ length text = omega (arith, count, ap length is, length_push text 125) in
    taken ∙ ap₂ (λ (k : ℕ) (l : List ℕ). take k l) size is ∙ take_at text (125 ∷ []) (length text) refl

regroup_beginning : (name value member : List ℕ) → 123 ∷ ((name ++ value) ++ ((member ++ []) ++ 125 ∷ [])) ≡ (123 ∷ ((name ++ value) ++ member)) ++ 125 ∷ []
regroup_beginning name value member = simp (append_assoc, append-nil)

begun_with_brace : (time connection : ℕ) → begun_document time connection ≡ beginning time connection ++ 125 ∷ []
begun_with_brace time connection =
    document (codes "time") (moment time) ((codes "connection", number connection) ∷ [])
    ∙ regroup_beginning (quoted (codes "time")) (58 ∷ quoted (timestamp time)) (member_behind (codes "connection", number connection))

pub without_brace : (time connection : ℕ) (old new : List ℕ) (n : ℕ) → old ≡ begun_document time connection → n ≡ length old - 1 → new ≡ take n old
    → new ≡ beginning time connection
without_brace time connection old new n is count taken = without (beginning time connection) old new n (is ∙ begun_with_brace time connection) count taken

-- ---- members

pub led_behind : (lead name : List ℕ) (value : Option Value) → lead ≡ lead_of name → led lead value ≡ behind (told name value)
led_behind lead name None same = refl
led_behind lead name (Some value) same = ap (λ (l : List ℕ). l ++ value_text value) same ∙ sym (append-nil (lead_of name ++ value_text value))

-- members one behind another
pub both_behind : (a b : List ℕ) (x y : Fields) → a ≡ behind x → b ≡ behind y → a ++ b ≡ behind (x ++ y)
both_behind a b x y first second = ap₂ (λ (k l : List ℕ). k ++ l) first second ∙ sym (behind_append x y)

pub three_behind : (x y z : Fields) → (behind x ++ behind y) ++ behind z ≡ behind ((x ++ y) ++ z)
three_behind x y z = ap (λ (l : List ℕ). l ++ behind z) (sym (behind_append x y)) ∙ sym (behind_append (x ++ y) z)

-- two texts one behind the other
pub texts_behind_leads : (lead name other_lead other_name one other : List ℕ) → lead ≡ lead_of name → other_lead ≡ lead_of other_name
    → led lead (text_told one) ++ led other_lead (text_told other) ≡ behind (texts_told name one other_name other)
texts_behind_leads lead name other_lead other_name one other is other_is =
    both_behind (led lead (text_told one)) (led other_lead (text_told other)) (told name (text_told one)) (told other_name (text_told other))
    (led_behind lead name (text_told one) is) (led_behind other_lead other_name (text_told other) other_is)

-- the commas, names and colons, as they are spelled
pub peer_lead : codes ",\"peer\":" ≡ lead_of (codes "peer")
unfolding escape_byte
peer_lead = refl

pub request_id_lead : codes ",\"request_id\":" ≡ lead_of (codes "request_id")
unfolding escape_byte
request_id_lead = refl

pub operation_lead : codes ",\"operation\":" ≡ lead_of (codes "operation")
unfolding escape_byte
operation_lead = refl

pub query_lead : codes ",\"query\":" ≡ lead_of (codes "query")
unfolding escape_byte
query_lead = refl

pub method_lead : codes ",\"method\":" ≡ lead_of (codes "method")
unfolding escape_byte
method_lead = refl

pub bucket_lead : codes ",\"bucket\":" ≡ lead_of (codes "bucket")
unfolding escape_byte
bucket_lead = refl

pub key_lead : codes ",\"key\":" ≡ lead_of (codes "key")
unfolding escape_byte
key_lead = refl

pub access_key_lead : codes ",\"access_key\":" ≡ lead_of (codes "access_key")
unfolding escape_byte
access_key_lead = refl

pub status_lead : codes ",\"status\":" ≡ lead_of (codes "status")
unfolding escape_byte
status_lead = refl

-- what is told of a message that is answered with what was asked for
pub status_told : (n : Option ℕ) → codes ",\"status\":200" ≡ behind (told_fields (answered n))
unfolding escape_byte digits
status_told n = refl

pub code_lead : codes ",\"code\":" ≡ lead_of (codes "code")
unfolding escape_byte
code_lead = refl

pub bytes_lead : codes ",\"bytes\":" ≡ lead_of (codes "bytes")
unfolding escape_byte
bytes_lead = refl

pub microseconds_lead : codes ",\"microseconds\":" ≡ lead_of (codes "microseconds")
unfolding escape_byte
microseconds_lead = refl

-- ---- the whole line of a message

regroup_line : (name value member f h t e : List ℕ)
    → (123 ∷ ((name ++ value) ++ ((member ++ (((f ++ h) ++ t) ++ e)) ++ 125 ∷ []))) ++ 10 ∷ []
    ≡ (((((123 ∷ ((name ++ value) ++ member)) ++ f) ++ h) ++ t) ++ e) ++ 125 ∷ 10 ∷ []
regroup_line name value member f h t e = simp append_assoc

pub line_told : (begun : Begun) (f h t e : Fields)
    → ((((beginning begun.moment begun.connection ++ behind f) ++ behind h) ++ behind t) ++ behind e) ++ 125 ∷ 10 ∷ []
    ≡ tree_text (leaves (((((told (codes "time") (Some (moment begun.moment)) ++ told (codes "connection") (Some (number begun.connection))) ++ f) ++ h) ++ t) ++ e)) ++ 10 ∷ []
line_told begun f h t e =
    let name = quoted (codes "time") in
    let value = 58 ∷ quoted (timestamp begun.moment) in
    let member = member_behind (codes "connection", number begun.connection) in
    let all = behind_append ((f ++ h) ++ t) e ∙ ap (λ (l : List ℕ). l ++ behind e) (behind_append (f ++ h) t ∙ ap (λ (l : List ℕ). l ++ behind t) (behind_append f h)) in
    sym (ap (λ (l : List ℕ). l ++ 10 ∷ []) (document (codes "time") (moment begun.moment) ((codes "connection", number begun.connection) ∷ (((f ++ h) ++ t) ++ e))
    ∙ ap (λ (l : List ℕ). 123 ∷ ((name ++ value) ++ ((member ++ l) ++ 125 ∷ []))) all)
    ∙ regroup_line name value member (behind f) (behind h) (behind t) (behind e))
