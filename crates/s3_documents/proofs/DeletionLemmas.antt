-- The rows of a DeleteObjects, and the room that they take.
use Rattle.std.proofs.Common.{◌≡◌, refl, sym, ap, ◌∙◌, subst, ◌≤◌, ◌<◌, ◌+◌, ◌*◌, ◌⊎◌, inl, inr, ℕ, Bool, true, false, List, [], ◌∷◌, ◌++◌, length, length-append, codes, drop, get_or, Option, Some, None, option_map, arith}
use Rattle.std.specs.List.{flat_map}
use Rattle.std.proofs.lemmas.List.{drop_more, drop_all, drop-drop}
use Rattle.s3_names.specs.Ids.{version_id_text}
use Rattle.s3_names.specs.declared.ids.VersionId.{VersionId}
use Rattle.s3_deletions.specs.Deletions.{row_told, rows_told}
use Rattle.s3_deletions.specs.declared.named.NamedObject.{NamedObject}
use Rattle.s3_deletions.specs.declared.told.DeletionRow.TheVariants as rows
use Rattle.s3_documents.specs.Deleted.{id_value, deleted_fields}
use Rattle.s3_documents.specs.Printed.{told, IsRoomFor}
use Rattle.s3_documents.specs.Tree.{text, truth, Fields}
use Rattle.s3_documents.specs.Xml.{plain, fields_events, element_of, deletion_events}
use Rattle.s3_documents.proofs.XmlLemmas.{markup_append}
use Rattle.s3_documents.proofs.XmlRoomLemmas.{element_room, escaped_room, fields_room, text_field, truth_content, id_length}
use Rattle.s3_xml.specs.Printed.{markup}

-- what is printed of the rows of these objects
abbrev pub rows_text : Bool → List NamedObject → List (Option VersionId) → List ℕ
rows_text is_quiet objects markers = markup (flat_map (deletion_events is_quiet) (rows_told objects markers))

-- ---- one of them in front of others

pub first_text : (is_quiet : Bool) (object : NamedObject) (objects : List NamedObject) (marker : Option VersionId) (markers : List (Option VersionId))
    → rows_text is_quiet (object ∷ objects) (marker ∷ markers) ≡ markup (deletion_events is_quiet (row_told object marker)) ++ rows_text is_quiet objects markers
first_text is_quiet object objects marker markers =
    markup_append (deletion_events is_quiet (row_told object marker)) (flat_map (deletion_events is_quiet) (rows_told objects markers))

pub first_length : (is_quiet : Bool) (object : NamedObject) (objects : List NamedObject) (marker : Option VersionId) (markers : List (Option VersionId))
    → length (rows_text is_quiet (object ∷ objects) (marker ∷ markers))
    ≡ length (markup (deletion_events is_quiet (row_told object marker))) + length (rows_text is_quiet objects markers)
first_length is_quiet object objects marker markers =
    ap length (first_text is_quiet object objects marker markers)
    ∙ length-append (markup (deletion_events is_quiet (row_told object marker))) (rows_text is_quiet objects markers)

-- none is left where one of the lists is empty
pub none_left : (is_quiet : Bool) (objects : List NamedObject) (markers : List (Option VersionId)) → (objects ≡ []) ⊎ (markers ≡ [])
    → rows_text is_quiet objects markers ≡ []
none_left is_quiet objects markers (inl none) = ap (λ left. rows_text is_quiet left markers) none
none_left is_quiet [] markers (inr none) = refl
none_left is_quiet (object ∷ objects) markers (inr none) = ap (rows_text is_quiet (object ∷ objects)) none

pub no_object_left : (is_quiet : Bool) (objects : List NamedObject) (markers : List (Option VersionId)) (i : ℕ) → length objects ≤ i
    → length (rows_text is_quiet (drop i objects) (drop i markers)) ≡ 0
no_object_left is_quiet objects markers i end = ap (λ left. length (rows_text is_quiet left (drop i markers))) (drop_all i objects end)

-- ---- room, whatever is told of markers

-- the row of an object and those of others
first_room : (is_quiet : Bool) (object : NamedObject) (objects : List NamedObject) (markers : List (Option VersionId)) (room : ℕ)
    → ((marker : Option VersionId) → IsRoomFor room (length (markup (deletion_events is_quiet (row_told object marker)))))
    → IsRoomFor (room + length (rows_text is_quiet objects (drop 1 markers))) (length (rows_text is_quiet (object ∷ objects) markers))
first_room is_quiet object objects [] room fits = omega arith
first_room is_quiet object objects (marker ∷ markers) room fits =
    omega (arith, fits marker, first_length is_quiet object objects marker markers)

pub rows_room : (is_quiet : Bool) (objects : List NamedObject) (markers : List (Option VersionId)) (i : ℕ) (object : NamedObject) (room : ℕ)
    → i < length objects → object ≡ get_or objects i object
    → ((marker : Option VersionId) → IsRoomFor room (length (markup (deletion_events is_quiet (row_told object marker)))))
    → IsRoomFor (room + length (rows_text is_quiet (drop (i + 1) objects) (drop (i + 1) markers))) (length (rows_text is_quiet (drop i objects) (drop i markers)))
rows_room is_quiet objects markers i object room few is fits =
    let first : drop i objects ≡ object ∷ drop (i + 1) objects = drop_more objects i object few ∙ ap (λ o. o ∷ drop (i + 1) objects) (sym is) in
    let here : drop 1 (drop i markers) ≡ drop (i + 1) markers = drop-drop 1 i markers in
    subst (λ left. IsRoomFor (room + length (rows_text is_quiet (drop (i + 1) objects) (drop (i + 1) markers))) (length (rows_text is_quiet left (drop i markers))))
    (sym first)
    (subst (λ others. IsRoomFor (room + length (rows_text is_quiet (drop (i + 1) objects) others)) (length (rows_text is_quiet (object ∷ drop (i + 1) objects) (drop i markers))))
    here (first_room is_quiet object (drop (i + 1) objects) (drop i markers) room fits))

-- a row of what is gone
version_field : (version : Option VersionId) → length (markup (fields_events plain (told (codes "VersionId") (option_map id_value version)))) ≤ 125
version_field None = omega arith
version_field (Some id) = omega (arith, text_field plain (codes "VersionId") (version_id_text id), id_length id)

deleted_room : (key : List ℕ) (version marker : Option VersionId)
    → length (markup (element_of plain (codes "Deleted") (deleted_fields key version marker))) ≤ 6 * length key + 363
deleted_room key version None =
    omega (
      arith,
      element_room (codes "Deleted") (fields_events plain (deleted_fields key version None)),
      fields_room plain (codes "Key") (text key) (told (codes "VersionId") (option_map id_value version)),
      escaped_room key,
      version_field version,
    )
deleted_room key version (Some marker) =
    let keyed : Fields = (codes "Key", text key) ∷ told (codes "VersionId") (option_map id_value version) in
    let marked : Fields = (codes "DeleteMarkerVersionId", id_value marker) ∷ keyed in
    omega (
      arith,
      element_room (codes "Deleted") (fields_events plain (deleted_fields key version (Some marker))),
      fields_room plain (codes "DeleteMarker") (truth true) marked,
      truth_content plain true,
      fields_room plain (codes "DeleteMarkerVersionId") (id_value marker) keyed,
      escaped_room (version_id_text marker),
      id_length marker,
      fields_room plain (codes "Key") (text key) (told (codes "VersionId") (option_map id_value version)),
      escaped_room key,
      version_field version,
    )

pub deletion_room : (is_quiet : Bool) (key : List ℕ) (version marker : Option VersionId)
    → length (markup (deletion_events is_quiet (rows.Deleted key version marker))) ≤ 6 * length key + 363
deletion_room true key version marker = omega arith
deletion_room false key version marker = deleted_room key version marker

-- room for an element of fields
pub element_fits : (name : List ℕ) (fields : Fields) (room : ℕ) → IsRoomFor room (2 * length name + 5 + length (markup (fields_events plain fields)))
    → IsRoomFor room (length (markup (element_of plain name fields)))
element_fits name fields room fits = subst (IsRoomFor room) (sym (element_room name (fields_events plain fields))) fits
