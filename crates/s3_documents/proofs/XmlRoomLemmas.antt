-- How much room is taken in XML.
use Rattle.std.proofs.Common.{◌≡◌, refl, sym, ap, ◌∙◌, ◌≤◌, ◌<◌, ◌+◌, ◌*◌, ◌^◌, ◌/◌, ◌%◌, ◌==◌, ◌||◌, nat_lt, ℕ, List, [], ◌∷◌, ◌++◌, Bool, true, false, cond, if◌then◌else◌, length, codes, decimal, length-append, arith, Option, Some, None, drop, get_or, subst}
use Rattle.std.specs.Char.{digit_char}
use Rattle.std.specs.List.{flat_map}
use Rattle.std.proofs.lemmas.Fmt.{length-decimal-le}
use Rattle.std.specs.Int.{w64, to_be_bytes}
use Rattle.hex.specs.Hex.{lower_digits}
use Rattle.hex.proofs.HexLemmas.{length-encode_with}
use Rattle.s3_text.specs.Digits.{number_digits}
use Rattle.s3_names.specs.Ids.{numbered_id, upload_id_text, version_id_text}
use Rattle.s3_names.specs.declared.ids.VersionId.{VersionId}
use Rattle.s3_names.specs.declared.ids.VersionId.TheVariants.{Null, Numbered}
use Rattle.s3_versions.specs.declared.picking.Facts.{Facts}
use Rattle.s3_records.specs.declared.records.ListedBucket.{ListedBucket}
use Rattle.s3_records.specs.declared.rows.UploadRow.{UploadRow}
use Rattle.s3_records.specs.declared.rows.VersionRow.{VersionRow}
use Rattle.s3_uploads.specs.declared.part.PartRow.{PartRow}
use Rattle.s3_listings.specs.declared.object_page.ListedObject.{ListedObject}
use Rattle.s3_xml.specs.Characters.{is_control, is_noncharacter}
use Rattle.s3_xml.specs.Events.{Event, begin, end, leaf, text_in, element}
use Rattle.s3_xml.specs.Printed.{event_text, markup, escaped, escaped_byte, escaped_noncharacter}
use Rattle.s3_documents.specs.Tree.{Value, text, encodable, number, truth, moment, Fields}
use Rattle.s3_documents.specs.Buckets.{bucket_row}
use Rattle.s3_documents.specs.Copied.{tag_told}
use Rattle.s3_documents.specs.ObjectList.{prefix_row}
use Rattle.s3_documents.specs.PartList.{part_fields}
use Rattle.s3_documents.specs.Printed.{field_of, fields_of}
use Rattle.s3_documents.specs.declared.printer.Field.{Field}
use Rattle.s3_documents.specs.Timestamp.{timestamp, stamp_of}
use Rattle.s3_documents.specs.Xml.{plain, key_told, content_of, standard, fields_events, owner, owner_in, owned, listed, listed_owned, bucket_events, prefix_events, object_before, object_behind, object_events, part_events, begun_before, begun_behind, upload_events, version_before, version_behind, version_events}
use Rattle.s3_documents.specs.declared.xml.Manner.{Manner}
use Rattle.s3_documents.proofs.EncodedLemmas.{encoded_as_it_is, encoded_room}
use Rattle.s3_documents.proofs.XmlLemmas.{markup_append, entries_from, fields_from}

byte_room : (b : ℕ) → length (escaped_byte b) ≤ 6
unfolding escaped_byte
byte_room b = one (b == 38) (b == 60) (b == 62) (b == 34) (b == 13 || is_control b) (nat_lt b 16) (digit_char b) (digit_char (b / 16)) (digit_char (b % 16)) b
  where
    one : (amp lt gt quot other small : Bool) (digit high low x : ℕ)
        → length (
        cond amp (codes "&amp;")
        (cond lt (codes "&lt;")
        (cond gt (codes "&gt;")
        (cond quot (codes "&quot;")
        (if other then codes "&#x" ++ (if small then digit ∷ [] else high ∷ low ∷ []) ++ codes ";" else x ∷ []))))
        ) ≤ 6
    one true lt gt quot other small digit high low x = omega arith
    one false true gt quot other small digit high low x = omega arith
    one false false true quot other small digit high low x = omega arith
    one false false false true other small digit high low x = omega arith
    one false false false false true true digit high low x = omega arith
    one false false false false true false digit high low x = omega arith
    one false false false false false small digit high low x = omega arith

noncharacter_room : (c : ℕ) → length (escaped_noncharacter c) ≤ 8
noncharacter_room c = one (c == 190)
  where
    one : (first : Bool) → length (if first then codes "&#xfffe;" else codes "&#xffff;") ≤ 8
    one true = omega arith
    one false = omega arith

-- an escaped text
pub escaped_room : (s : List ℕ) → length (escaped s) ≤ 6 * length s
unfolding escaped
escaped_room [] = omega arith
escaped_room (a ∷ []) = omega (arith, byte_room a)
escaped_room (a ∷ b ∷ []) = omega (arith, byte_room a, escaped_room (b ∷ []), length-append (escaped_byte a) (escaped (b ∷ [])))
escaped_room (a ∷ b ∷ c ∷ rest) =
    either (is_noncharacter a b c) _ _ _
    (omega (arith, noncharacter_room c, escaped_room rest, length-append (escaped_noncharacter c) (escaped rest)))
    (omega (arith, byte_room a, escaped_room (b ∷ c ∷ rest), length-append (escaped_byte a) (escaped (b ∷ c ∷ rest))))
  where
    either : (is : Bool) (x y : List ℕ) (n : ℕ) → length x ≤ n → length y ≤ n → length (if is then x else y) ≤ n
    either true x y n p q = p
    either false x y n p q = q

text_in_markup : (s : List ℕ) → length (markup (text_in s)) ≡ length (escaped s)
unfolding escaped
text_in_markup [] = refl
text_in_markup (b ∷ s) = omega (arith, length-append (escaped (b ∷ s)) [])

-- an element
pub element_room : (name : List ℕ) (inner : List Event) → length (markup (element name inner)) ≡ 2 * length name + 5 + length (markup inner)
element_room name inner =
    omega (
      arith,
      ap length (markup_append inner (end name ∷ [])),
      length-append (markup inner) (markup (end name ∷ [])),
      length-append (event_text (begin name)) (markup (inner ++ end name ∷ [])),
      length-append name (codes ">"),
      length-append (event_text (end name)) [],
    )

pub leaf_room : (name s : List ℕ) → length (markup (leaf name s)) ≡ 2 * length name + 5 + length (escaped s)
leaf_room name s = omega (arith, element_room name (text_in s), text_in_markup s)

-- a field in front of others
pub fields_room : (manner : Manner) (name : List ℕ) (value : Value) (fields : Fields)
    → length (markup (fields_events manner ((name, value) ∷ fields)))
    ≡ 2 * length name + 5 + length (escaped (content_of manner value)) + length (markup (fields_events manner fields))
fields_room manner name value fields =
    omega (
      arith,
      ap length (markup_append (leaf name (content_of manner value)) (fields_events manner fields)),
      length-append (markup (leaf name (content_of manner value))) (markup (fields_events manner fields)),
      leaf_room name (content_of manner value),
    )

-- a text alone takes no more than in an element
pub text_alone : (manner : Manner) (name s : List ℕ) → length (markup (text_in s)) ≤ length (markup (fields_events manner ((name, text s) ∷ [])))
text_alone manner name s = omega (arith, text_in_markup s, fields_room manner name (text s) [])

-- contents
pub key_content : (is_url_encoded : Bool) (key : List ℕ) → length (escaped (key_told is_url_encoded key)) ≤ 6 * length key
key_content true key = omega (arith, ap length (encoded_as_it_is key), encoded_room key)
key_content false key = escaped_room key

pub number_content : (manner : Manner) (n : ℕ) → n < 2 ^ 64 → length (escaped (content_of manner (number n))) ≤ 120
number_content manner n small = omega (arith, escaped_room (decimal n), length-decimal-le 20 n (omega arith) (omega arith) small)

pub truth_content : (manner : Manner) (b : Bool) → length (escaped (content_of manner (truth b))) ≤ 30
truth_content manner true = omega (arith, escaped_room (codes "true"))
truth_content manner false = escaped_room (codes "false")

timestamp_length : (m : ℕ) → length (timestamp m) ≡ 24
unfolding timestamp stamp_of
timestamp_length m = refl

pub moment_content : (manner : Manner) (m : ℕ) → length (escaped (content_of manner (moment m))) ≤ 144
moment_content manner m = omega (arith, escaped_room (timestamp m), timestamp_length m)

-- ---- fields, one at a time

pub text_field : (manner : Manner) (name s : List ℕ) → length (markup (fields_events manner ((name, text s) ∷ []))) ≤ 2 * length name + 5 + 6 * length s
text_field manner name s = omega (arith, fields_room manner name (text s) [], escaped_room s)

pub key_field : (manner : Manner) (name s : List ℕ) → length (markup (fields_events manner ((name, encodable s) ∷ []))) ≤ 2 * length name + 5 + 6 * length s
key_field manner name s = omega (arith, fields_room manner name (encodable s) [], key_content manner.is_url_encoded s)

pub number_field : (manner : Manner) (name : List ℕ) (n : ℕ) → n < 2 ^ 64 → length (markup (fields_events manner ((name, number n) ∷ []))) ≤ 2 * length name + 125
number_field manner name n small = omega (arith, fields_room manner name (number n) [], number_content manner n small)

pub truth_field : (manner : Manner) (name : List ℕ) (b : Bool) → length (markup (fields_events manner ((name, truth b) ∷ []))) ≤ 2 * length name + 35
truth_field manner name b = omega (arith, fields_room manner name (truth b) [], truth_content manner b)

pub moment_field : (manner : Manner) (name : List ℕ) (m : ℕ) → length (markup (fields_events manner ((name, moment m) ∷ []))) ≤ 2 * length name + 149
moment_field manner name m = omega (arith, fields_room manner name (moment m) [], moment_content manner m)

pub ruleset field_rooms = (text_field, key_field, number_field, truth_field, moment_field)

-- ---- a list from a place on

pub entries_room : {A : Type 0} (events : A → List Event) (xs : List A) (i : ℕ) (x : A) → i < length xs → x ≡ get_or xs i x
    → length (markup (flat_map events (drop i xs))) ≡ length (markup (events x)) + length (markup (flat_map events (drop (i + 1) xs)))
entries_room events xs i x lt is =
    ap (λ es. length (markup es)) (entries_from events xs i x lt is)
    ∙ ap length (markup_append (events x) (flat_map events (drop (i + 1) xs)))
    ∙ length-append (markup (events x)) (markup (flat_map events (drop (i + 1) xs)))

pub some_fields_room : (manner : Manner) (xs : List Field) (i : ℕ) (x : Field) → i < length xs → x ≡ get_or xs i x
    → length (markup (fields_events manner (fields_of (drop i xs))))
    ≡ length (markup (fields_events manner (field_of x))) + length (markup (fields_events manner (fields_of (drop (i + 1) xs))))
some_fields_room manner xs i x lt is =
    ap (λ es. length (markup es)) (fields_from manner xs i x lt is)
    ∙ ap length (markup_append (fields_events manner (field_of x)) (fields_events manner (fields_of (drop (i + 1) xs))))
    ∙ length-append (markup (fields_events manner (field_of x))) (markup (fields_events manner (fields_of (drop (i + 1) xs))))

pub appended_room : (a b c : List Event) → length (markup (a ++ b ++ c)) ≡ length (markup a) + length (markup b) + length (markup c)
appended_room a b c =
    let two = ap length (markup_append a b) ∙ length-append (markup a) (markup b) in
    ap length (markup_append (a ++ b) c) ∙ length-append (markup (a ++ b)) (markup c) ∙ ap (λ n. n + length (markup c)) two

-- ---- rows

owner_room : length (markup owner) ≤ 42
owner_room =
    omega (arith, element_room (codes "Owner") (fields_events plain ((codes "ID", text (codes "s3d")) ∷ [])), text_field plain (codes "ID") (codes "s3d"))

-- the owner, where it is told
owner_in_room : (tells_owner : Bool) → length (markup (if tells_owner then owner else [])) ≤ 42
owner_in_room true = owner_room
owner_in_room false = omega arith

pub bucket_events_room : (manner : Manner) (bucket : ListedBucket) → length (markup (bucket_events manner bucket)) ≤ 6 * length bucket.name + 203
bucket_events_room manner bucket =
    omega (
      arith,
      element_room (codes "Bucket") (fields_events manner (bucket_row bucket)),
      fields_room manner (codes "CreationDate") (moment bucket.made) ((codes "Name", text bucket.name) ∷ []),
      text_field manner (codes "Name") bucket.name,
      moment_content manner bucket.made,
    )

pub prefix_events_room : (manner : Manner) (prefix : List ℕ) → length (markup (prefix_events manner prefix)) ≤ 6 * length prefix + 50
prefix_events_room manner prefix =
    omega (arith, element_room (codes "CommonPrefixes") (fields_events manner (prefix_row prefix)), key_field manner (codes "Prefix") prefix)

-- a tag in its quotes
tag_content : (tag : List ℕ) → length tag ≤ 38 → length (escaped (tag_told tag)) ≤ 240
tag_content tag short = omega (arith, short, escaped_room (tag_told tag), length-append tag (34 ∷ []))

class_field : (manner : Manner) → length (markup (fields_events manner ((codes "StorageClass", standard) ∷ []))) ≤ 77
class_field manner = text_field manner (codes "StorageClass") (codes "STANDARD")

pub part_events_room : (manner : Manner) (row : PartRow) → length row.tag ≤ 38 → row.size < 2 ^ 64 → row.number < 2 ^ 64
    → length (markup (part_events manner row)) ≤ 717
part_events_room manner row short small few =
    let size : Fields = (codes "Size", number row.size) ∷ [] in
    let part : Fields = (codes "PartNumber", number row.number) ∷ size in
    let made : Fields = (codes "LastModified", moment row.moment) ∷ part in
    omega (
      arith,
      element_room (codes "Part") (fields_events manner (part_fields row)),
      fields_room manner (codes "ETag") (text (tag_told row.tag)) made,
      tag_content row.tag short,
      fields_room manner (codes "LastModified") (moment row.moment) part,
      moment_content manner row.moment,
      fields_room manner (codes "PartNumber") (number row.number) size,
      number_content manner row.number few,
      number_field manner (codes "Size") row.size small,
    )

-- an element of fields between which the owner may stand
three_room : (name : List ℕ) (a b c : List Event)
    → length (markup (element name (a ++ b ++ c))) ≡ 2 * length name + 5 + (length (markup a) + length (markup b) + length (markup c))
three_room name a b c = element_room name (a ++ b ++ c) ∙ ap (λ n. 2 * length name + 5 + n) (appended_room a b c)

owned_room : (manner : Manner) (name : List ℕ) (before behind : Fields)
    → length (markup (owned manner name before behind))
    ≤ 2 * length name + 47 + length (markup (fields_events manner before)) + length (markup (fields_events manner behind))
owned_room manner name before behind =
    within (length (markup (owned manner name before behind))) (length (markup (fields_events manner before))) (length (markup (owner_in manner)))
    (length (markup (fields_events manner behind))) (length name)
    (three_room name (fields_events manner before) (owner_in manner) (fields_events manner behind)) (owner_in_room manner.tells_owner)
  where
    within : (whole a o c n : ℕ) → whole ≡ 2 * n + 5 + (a + o + c) → o ≤ 42 → whole ≤ 2 * n + 47 + a + c
    within whole a o c n is few = omega (arith, is, few)

pub object_events_room : (manner : Manner) (object : ListedObject) → length object.facts.tag ≤ 38 → object.facts.size < 2 ^ 64
    → length (markup (object_events manner object)) ≤ 6 * length object.key + 710
object_events_room manner object short small =
    let made : Fields = (codes "LastModified", moment object.facts.moment) ∷ [] in
    let key : Fields = (codes "Key", encodable object.key) ∷ made in
    let class : Fields = (codes "StorageClass", standard) ∷ [] in
    omega (
      arith,
      owned_room manner (codes "Contents") (object_before object) (object_behind object),
      fields_room manner (codes "ETag") (text (tag_told object.facts.tag)) key,
      tag_content object.facts.tag short,
      fields_room manner (codes "Key") (encodable object.key) made,
      key_content manner.is_url_encoded object.key,
      moment_field manner (codes "LastModified") object.facts.moment,
      fields_room manner (codes "Size") (number object.facts.size) class,
      number_content manner object.facts.size small,
      class_field manner,
    )

pub id_length : (id : VersionId) → length (version_id_text id) ≤ 17
unfolding numbered_id number_digits
id_length Null = omega arith
id_length (Numbered n) = omega (arith, length-encode_with lower_digits (to_be_bytes w64 n))

upload_id_length : (id : ℕ) → length (upload_id_text id) ≤ 17
unfolding numbered_id number_digits
upload_id_length id = omega (arith, length-encode_with lower_digits (to_be_bytes w64 id))

pub upload_events_room : (manner : Manner) (row : UploadRow) → length (markup (upload_events manner row)) ≤ 6 * length row.key + 437
upload_events_room manner row =
    let id : Fields = (codes "UploadId", text (upload_id_text row.id)) ∷ [] in
    omega (
      arith,
      owned_room manner (codes "Upload") (begun_before row) (begun_behind row),
      fields_room manner (codes "Initiated") (moment row.moment) ((codes "Key", encodable row.key) ∷ []),
      moment_content manner row.moment,
      key_field manner (codes "Key") row.key,
      fields_room manner (codes "StorageClass") standard id,
      escaped_room (codes "STANDARD"),
      text_field manner (codes "UploadId") (upload_id_text row.id),
      upload_id_length row.id,
    )

-- a version's row, and a delete marker's
abbrev IsWithin : Manner → VersionRow → Option Facts → Type 0
IsWithin manner row facts =
    length (markup (version_events manner (record { key = row.key; id = row.id; is_latest = row.is_latest; moment = row.moment; facts = facts }))) ≤ 6 * length row.key + 894

told_room : (manner : Manner) (key : List ℕ) (id : VersionId) (latest : Bool) (made : ℕ) (facts : Facts) → length facts.tag ≤ 38 → facts.size < 2 ^ 64
    → IsWithin manner (record { key = key; id = id; is_latest = latest; moment = made; facts = Some facts }) (Some facts)
told_room manner key id latest made facts short small =
    let row : VersionRow = record { key = key; id = id; is_latest = latest; moment = made; facts = Some facts } in
    let modified : Fields = (codes "LastModified", moment made) ∷ [] in
    let named : Fields = (codes "Key", encodable key) ∷ modified in
    let last : Fields = (codes "IsLatest", truth latest) ∷ named in
    let version : Fields = (codes "VersionId", text (version_id_text id)) ∷ [] in
    let class : Fields = (codes "StorageClass", standard) ∷ version in
    omega (
      arith,
      owned_room manner (codes "Version") (version_before row) (version_behind row),
      fields_room manner (codes "ETag") (text (tag_told facts.tag)) last,
      tag_content facts.tag short,
      fields_room manner (codes "IsLatest") (truth latest) named,
      truth_content manner latest,
      fields_room manner (codes "Key") (encodable key) modified,
      key_content manner.is_url_encoded key,
      moment_field manner (codes "LastModified") made,
      fields_room manner (codes "Size") (number facts.size) class,
      number_content manner facts.size small,
      fields_room manner (codes "StorageClass") standard version,
      escaped_room (codes "STANDARD"),
      text_field manner (codes "VersionId") (version_id_text id),
      id_length id,
    )

marked_room : (manner : Manner) (key : List ℕ) (id : VersionId) (latest : Bool) (made : ℕ)
    → IsWithin manner (record { key = key; id = id; is_latest = latest; moment = made; facts = None }) None
marked_room manner key id latest made =
    let row : VersionRow = record { key = key; id = id; is_latest = latest; moment = made; facts = None } in
    let modified : Fields = (codes "LastModified", moment made) ∷ [] in
    let named : Fields = (codes "Key", encodable key) ∷ modified in
    omega (
      arith,
      owned_room manner (codes "DeleteMarker") (version_before row) (version_behind row),
      fields_room manner (codes "IsLatest") (truth latest) named,
      truth_content manner latest,
      fields_room manner (codes "Key") (encodable key) modified,
      key_content manner.is_url_encoded key,
      moment_field manner (codes "LastModified") made,
      text_field manner (codes "VersionId") (version_id_text id),
      id_length id,
    )

pub version_events_room : (manner : Manner) (row : VersionRow) (facts : Facts) → row.facts ≡ Some facts → length facts.tag ≤ 38 → facts.size < 2 ^ 64
    → length (markup (version_events manner row)) ≤ 6 * length row.key + 894
version_events_room manner row facts some short small =
    subst (IsWithin manner row) (sym some) (told_room manner row.key row.id row.is_latest row.moment facts short small)

pub marker_events_room : (manner : Manner) (row : VersionRow) → row.facts ≡ None → length (markup (version_events manner row)) ≤ 6 * length row.key + 894
marker_events_room manner row none = subst (IsWithin manner row) (sym none) (marked_room manner row.key row.id row.is_latest row.moment)

-- ---- lists

pub listed_room : (manner : Manner) (before behind : Fields) (list : List Event)
    → length (markup (listed manner before list behind))
    ≡ length (markup (fields_events manner before)) + length (markup list) + length (markup (fields_events manner behind))
listed_room manner before behind list = appended_room (fields_events manner before) list (fields_events manner behind)

pub within_room : (name : List ℕ) (list : List Event) → length (markup (element name list ++ owner)) ≤ 2 * length name + 47 + length (markup list)
within_room name list =
    within (length (markup (element name list ++ owner))) (length (markup (element name list))) (length (markup owner)) (length name) (length (markup list))
    (ap length (markup_append (element name list) owner) ∙ length-append (markup (element name list)) (markup owner))
    (element_room name list) owner_room
  where
    within : (whole a o n l : ℕ) → whole ≡ a + o → a ≡ 2 * n + 5 + l → o ≤ 42 → whole ≤ 2 * n + 47 + l
    within whole a o n l is one few = omega (arith, is, one, few)

-- an owner behind the rows
with_owner : (before list behind : List Event) → length (markup (before ++ list ++ owner ++ behind)) ≤ length (markup (before ++ list ++ behind)) + 42
with_owner before list behind =
    omega (
      arith,
      ap length (markup_append (before ++ list ++ owner) behind),
      length-append (markup (before ++ list ++ owner)) (markup behind),
      appended_room before list owner,
      owner_room,
      appended_room before list behind,
    )

pub listed_owned_room : (manner : Manner) (before behind : Fields) (list : List Event)
    → length (markup (listed_owned manner before list behind)) ≤ length (markup (listed manner before list behind)) + 42
listed_owned_room manner before behind list = with_owner (fields_events manner before) list (fields_events manner behind)
