-- What is printed in XML, and the room that it takes.
use Rattle.std.proofs.Common.{◌≡◌, sym, ap, ◌∙◌, ℕ, List, [], ◌∷◌, ◌++◌, append-nil, length, drop, get_or, ◌<◌, ◌+◌}
use Rattle.std.specs.List.{flat_map}
use Rattle.std.proofs.lemmas.List.{drop_more}
use Rattle.std.proofs.lemmas.List.Concat.{flat_map-append}
use Rattle.s3_xml.specs.Events.{Event, leaf}
use Rattle.s3_xml.specs.Printed.{event_text, markup}
use Rattle.s3_documents.specs.Tree.{Value}
use Rattle.s3_documents.specs.declared.printer.Field.{Field}
use Rattle.s3_documents.specs.Printed.{field_of, fields_of}
use Rattle.s3_documents.specs.Xml.{content_of, fields_events}
use Rattle.s3_documents.specs.declared.xml.Manner.{Manner}

pub markup_append : (xs ys : List Event) → markup (xs ++ ys) ≡ markup xs ++ markup ys
markup_append xs ys = flat_map-append event_text xs ys

-- a field that tells something
pub one_field : (manner : Manner) (name : List ℕ) (value : Value) → fields_events manner ((name, value) ∷ []) ≡ leaf name (content_of manner value)
one_field manner name value = append-nil (leaf name (content_of manner value))

-- entries from a place on
pub entries_from : {A : Type 0} (events : A → List Event) (xs : List A) (i : ℕ) (x : A) → i < length xs → x ≡ get_or xs i x
    → flat_map events (drop i xs) ≡ events x ++ flat_map events (drop (i + 1) xs)
entries_from events xs i x lt is =
    ap (λ ys. flat_map events ys) (drop_more xs i x lt) ∙ ap (λ y. events y ++ flat_map events (drop (i + 1) xs)) (sym is)

-- fields from a place on
pub fields_from : (manner : Manner) (xs : List Field) (i : ℕ) (x : Field) → i < length xs → x ≡ get_or xs i x
    → fields_events manner (fields_of (drop i xs)) ≡ fields_events manner (field_of x) ++ fields_events manner (fields_of (drop (i + 1) xs))
fields_from manner xs i x lt is =
    ap (λ ys. fields_events manner (fields_of ys)) (drop_more xs i x lt)
    ∙ flat_map-append (λ (f : List ℕ × Value). leaf f.0 (content_of manner f.1)) (field_of (get_or xs i x)) (fields_of (drop (i + 1) xs))
    ∙ ap (λ y. fields_events manner (field_of y) ++ fields_events manner (fields_of (drop (i + 1) xs))) (sym is)

pub entries_text_from : {A : Type 0} (events : A → List Event) (xs : List A) (i : ℕ) (x : A) → i < length xs → x ≡ get_or xs i x
    → markup (flat_map events (drop i xs)) ≡ markup (events x) ++ markup (flat_map events (drop (i + 1) xs))
entries_text_from events xs i x lt is =
    ap markup (entries_from events xs i x lt is) ∙ markup_append (events x) (flat_map events (drop (i + 1) xs))

pub fields_text_from : (manner : Manner) (xs : List Field) (i : ℕ) (x : Field) → i < length xs → x ≡ get_or xs i x
    → markup (fields_events manner (fields_of (drop i xs))) ≡ markup (fields_events manner (field_of x)) ++ markup (fields_events manner (fields_of (drop (i + 1) xs)))
fields_text_from manner xs i x lt is =
    ap markup (fields_from manner xs i x lt is) ∙ markup_append (fields_events manner (field_of x)) (fields_events manner (fields_of (drop (i + 1) xs)))
