-- The document of a copy, as it is printed.
use Rattle.std.proofs.Common.{◌≡◌, ap, ap₂, ◌∙◌, ◌<◌, true, ℕ, zero, suc, List, [], ◌∷◌, ◌++◌, append_assoc, append-nil, codes, IsAscii, arith, lit<}
use Rattle.std.specs.List.{list_all}
use Rattle.std.specs.Str.{IsUtf8}
use Rattle.std.proofs.lemmas.Bool.{and_parts}
use Rattle.std.proofs.lemmas.Bool.Decides.{nat_tests}
use Rattle.std.proofs.lemmas.List.Concat.{flat_map-append}
use Rattle.std.proofs.lemmas.Str.{IsAscii-append, IsUtf8-from_ascii}
use Rattle.json.specs.Print.{escape, escape_byte}
use Rattle.s3_names.specs.Tags.{is_tag_character}
use Rattle.s3_documents.specs.Timestamp.{timestamp}
use Rattle.s3_documents.specs.Tree.{leaves, tree_text}
use Rattle.s3_xml.specs.Events.{begin, end, leaf}
use Rattle.s3_xml.specs.Printed.{event_text, escaped, markup, declaration, namespace_text, document_text as xml_text}
use Rattle.s3_documents.specs.Xml.{is_plain}
use Rattle.s3_documents.specs.declared.copied.TheConstants.{XML_FRONT, XML_TO_TAG}
use Rattle.s3_documents.specs.Xml.{namespace, plain, fields_events}
use Rattle.s3_documents.specs.Copied.{tag_told, copied_fields}
use Rattle.s3_documents.proofs.XmlLemmas.{markup_append}
use Rattle.s3_documents.proofs.XmlPlainLemmas.{tag_is_plain, quoted_escaped, plain_alone}
use Rattle.s3_documents.proofs.PlainLemmas.{tag_plain}

-- of a tag and the quote behind it the quote alone is escaped
pub quote_escaped : (tag : List ℕ) → escape tag ≡ tag → escape (tag ++ 34 ∷ []) ≡ tag ++ 92 ∷ 34 ∷ []
unfolding escape_byte
quote_escaped tag plain = flat_map-append escape_byte tag (34 ∷ []) ∙ ap (λ t. t ++ 92 ∷ 34 ∷ []) plain

-- what stands behind the first quote of the tag
from_tag : (tag stamp x y : List ℕ) → x ≡ tag ++ 92 ∷ 34 ∷ [] → y ≡ stamp
    → ((x ++ 34 ∷ []) ++ (44 ∷ 34 ∷ 76 ∷ 97 ∷ 115 ∷ 116 ∷ 77 ∷ 111 ∷ 100 ∷ 105 ∷ 102 ∷ 105 ∷ 101 ∷ 100 ∷ 34 ∷ 58 ∷ 34 ∷ (y ++ 34 ∷ []))) ++ 125 ∷ []
    ≡ ((tag ++ 92 ∷ 34 ∷ 34 ∷ 44 ∷ 34 ∷ 76 ∷ 97 ∷ 115 ∷ 116 ∷ 77 ∷ 111 ∷ 100 ∷ 105 ∷ 102 ∷ 105 ∷ 101 ∷ 100 ∷ 34 ∷ 58 ∷ 34 ∷ []) ++ stamp) ++ 34 ∷ 125 ∷ []
from_tag tag stamp x y a b = rw (a, b) (simp append_assoc)

pub copied_spelled : (tag : List ℕ) (made : ℕ) → list_all is_tag_character tag ≡ true → escape (timestamp made) ≡ timestamp made
    → tree_text (leaves (copied_fields tag made)) ≡ (((([] ++ codes "{\"ETag\":\"\\\"") ++ tag) ++ codes "\\\"\",\"LastModified\":\"") ++ timestamp made) ++ codes "\"}"
unfolding tree_text escape_byte
copied_spelled tag made digits plain =
    ap (λ t. codes "{\"ETag\":\"\\\"" ++ t)
    (from_tag tag (timestamp made) (escape (tag ++ 34 ∷ [])) (escape (timestamp made)) (quote_escaped tag (tag_plain tag digits)) plain)

-- ---- the same in XML

-- an element in which a text stands alone
leaf_text : (name s : List ℕ) → markup (leaf name s) ≡ event_text (begin name) ++ (escaped s ++ event_text (end name))
unfolding escaped
leaf_text name [] = ap (λ e. event_text (begin name) ++ e) (append-nil (event_text (end name)))
leaf_text name (b ∷ bs) = ap (λ e. event_text (begin name) ++ (escaped (b ∷ bs) ++ e)) (append-nil (event_text (end name)))

abbrev within_leaf : (name text : List ℕ) → List ℕ
within_leaf name text = event_text (begin name) ++ (text ++ event_text (end name))

elements_text : (tag : List ℕ) (made : ℕ) → list_all is_tag_character tag ≡ true → list_all is_plain (timestamp made) ≡ true
    → markup (fields_events plain (copied_fields tag made))
    ≡ within_leaf (codes "ETag") (codes "&quot;" ++ (tag ++ codes "&quot;")) ++ within_leaf (codes "LastModified") (timestamp made)
elements_text tag made characters plain =
    markup_append (leaf (codes "ETag") (tag_told tag)) (leaf (codes "LastModified") (timestamp made) ++ [])
    ∙ ap₂ (λ (a b : List ℕ). a ++ b)
    (leaf_text (codes "ETag") (tag_told tag) ∙ ap (within_leaf (codes "ETag")) (quoted_escaped tag (tag_is_plain tag characters)))
    (ap markup (append-nil (leaf (codes "LastModified") (timestamp made)))
    ∙ leaf_text (codes "LastModified") (timestamp made)
    ∙ ap (within_leaf (codes "LastModified")) (plain_alone (timestamp made) plain))

regroup_written : (root tag made a b c d e f g h i j k : List ℕ)
    → ((((a ++ root) ++ b) ++ c) ++ ((d ++ ((e ++ (tag ++ f)) ++ g)) ++ (h ++ (made ++ i)))) ++ ((j ++ root) ++ k)
    ≡ (((((((a ++ root) ++ (b ++ (c ++ (d ++ e)))) ++ tag) ++ (f ++ (g ++ h))) ++ made) ++ (i ++ j)) ++ root) ++ k
regroup_written root tag made a b c d e f g h i j k = simp append_assoc

abbrev framed : List ℕ → List ℕ → List ℕ
framed root inner = declaration ++ codes "<" ++ root ++ namespace_text namespace ++ codes ">" ++ inner ++ event_text (end root)

pub copied_written : (root tag : List ℕ) (made : ℕ) → list_all is_tag_character tag ≡ true → list_all is_plain (timestamp made) ≡ true
    → xml_text root namespace (fields_events plain (copied_fields tag made))
    ≡ (((((((([] ++ XML_FRONT.now) ++ root) ++ XML_TO_TAG.now) ++ tag) ++ codes "&quot;</ETag><LastModified>") ++ timestamp made)
    ++ codes "</LastModified></") ++ root) ++ codes ">"
unfolding xml_text
copied_written root tag made characters plain =
    ap (framed root) (elements_text tag made characters plain)
    ∙ regroup_written root tag (timestamp made)
    XML_FRONT.now (namespace_text namespace) (codes ">") (codes "<ETag>") (codes "&quot;") (codes "&quot;") (codes "</ETag>")
    (codes "<LastModified>") (codes "</LastModified>") (codes "</") (codes ">")

-- ---- a tag is a text

character_ascii : (b : ℕ) → is_tag_character b ≡ true → b < 128
character_ascii b h = grind (arith, nat_tests)

pub tag_is_ascii : (tag : List ℕ) → list_all is_tag_character tag ≡ true → IsAscii tag
tag_is_ascii [] h zero = lit< tt
tag_is_ascii [] h (suc i) = lit< tt
tag_is_ascii (b ∷ bs) h zero = character_ascii b (and_parts (is_tag_character b) (list_all is_tag_character bs) h).0
tag_is_ascii (b ∷ bs) h (suc i) = tag_is_ascii bs (and_parts (is_tag_character b) (list_all is_tag_character bs) h).1 i

quote_ascii : IsAscii (codes "\"")
quote_ascii zero = lit< tt
quote_ascii (suc i) = lit< tt

pub tag_utf8 : (tag : List ℕ) → list_all is_tag_character tag ≡ true → IsUtf8 (tag_told tag)
tag_utf8 tag h = IsUtf8-from_ascii (tag_told tag) (IsAscii-append (codes "\"") (tag ++ codes "\"") quote_ascii (IsAscii-append tag (codes "\"") (tag_is_ascii tag h) quote_ascii))
