-- How much room a print takes.
use Rattle.std.proofs.Common.{◌≡◌, refl, sym, ap, ◌∙◌, ◌≤◌, ◌<◌, ◌+◌, ◌*◌, ◌^◌, ◌/◌, ◌%◌, nat_lt, ℕ, List, [], ◌∷◌, ◌++◌, Bool, true, false, cond, length, map, drop, get_or, decimal, append-nil, length-append, arith}
use Rattle.std.specs.Char.{digit_char}
use Rattle.std.proofs.lemmas.Fmt.{length-decimal-le}
use Rattle.std.proofs.lemmas.List.{drop_more}
use Rattle.std.proofs.lemmas.List.Concat.{flat_map-append}
use Rattle.json.specs.Token.{Token, end_array, end_object, key, string, number, boolean}
use Rattle.json.specs.Print.{token_text, escape, escape_byte, escape_letter, quoted}
use Rattle.s3_documents.specs.Timestamp.{timestamp, stamp_of}
use Rattle.s3_documents.specs.Tree.{Fields, Tree, rows, leaves}
use Rattle.s3_documents.specs.declared.printer.Field.{Field}
use Rattle.s3_documents.specs.Printed.{value_tokens, field_of, fields_of, fields_tokens, all_tokens, row_tokens, branch_tokens, branches_tokens, room_of}
use Rattle.s3_documents.proofs.PrinterLemmas.{leaves_tokens}

pub room_of-append : (xs ys : List Token) → room_of (xs ++ ys) ≡ room_of xs + room_of ys
room_of-append [] ys = omega arith
room_of-append (x ∷ xs) ys = omega (arith, room_of-append xs ys)

-- rows from a place on
pub rows_from : {A : Type 0} (told : A → Fields) (xs : List A) (i : ℕ) (x : A) → i < length xs → x ≡ get_or xs i x
    → room_of (all_tokens (map told (drop i xs))) ≡ room_of (row_tokens (told x)) + room_of (all_tokens (map told (drop (i + 1) xs)))
rows_from told xs i x lt is =
    ap (λ ys. room_of (all_tokens (map told ys))) (drop_more xs i x lt)
    ∙ room_of-append (row_tokens (told (get_or xs i x))) (all_tokens (map told (drop (i + 1) xs)))
    ∙ ap (λ y. room_of (row_tokens (told y)) + room_of (all_tokens (map told (drop (i + 1) xs)))) (sym is)

-- fields from a place on
pub fields_from : (xs : List Field) (i : ℕ) (x : Field) → i < length xs → x ≡ get_or xs i x
    → room_of (fields_tokens (fields_of (drop i xs))) ≡ room_of (fields_tokens (field_of x)) + room_of (fields_tokens (fields_of (drop (i + 1) xs)))
fields_from xs i x lt is =
    let first = get_or xs i x in
    let rest = fields_of (drop (i + 1) xs) in
    ap (λ ys. room_of (fields_tokens (fields_of ys))) (drop_more xs i x lt)
    ∙ ap room_of (flat_map-append (λ m. key m.0 ∷ value_tokens m.1) (field_of first) rest)
    ∙ room_of-append (fields_tokens (field_of first)) (fields_tokens rest)
    ∙ ap (λ y. room_of (fields_tokens (field_of y)) + room_of (fields_tokens rest)) (sym is)

-- a row
pub row_room : (fields : Fields) → room_of (row_tokens fields) ≡ 2 + room_of (fields_tokens fields) + 2
unfolding row_tokens
row_room fields = omega (arith, room_of-append (fields_tokens fields) (end_object ∷ []))

-- rows under a name
pub rows_room : (name : List ℕ) (list : List Fields)
    → room_of (branches_tokens ((name, rows list) ∷ [])) ≡ (length (token_text (key name)) + 1) + 2 + room_of (all_tokens list) + 2
rows_room name list =
    let last = ap room_of (append-nil (all_tokens list ++ end_array ∷ [])) in
    omega (arith, last, room_of-append (all_tokens list) (end_array ∷ []))

-- fields behind what was told
pub leaves_room : (fields : Fields) → room_of (branches_tokens (leaves fields)) ≡ room_of (fields_tokens fields)
leaves_room fields = ap room_of (leaves_tokens fields)

-- branches behind others
pub branches_room : (front rest : Tree) → room_of (branches_tokens (front ++ rest)) ≡ room_of (branches_tokens front) + room_of (branches_tokens rest)
branches_room front rest =
    ap room_of (flat_map-append (λ m. key m.0 ∷ branch_tokens m.1) front rest) ∙ room_of-append (branches_tokens front) (branches_tokens rest)

-- ---- bounds

byte_room : (b : ℕ) → length (escape_byte b) ≤ 6
unfolding escape_byte
byte_room b = one (nat_lt 0 (escape_letter b)) (nat_lt b 32) (escape_letter b) (digit_char (b / 16)) (digit_char (b % 16)) b
  where
    one : (short control : Bool) (letter high low x : ℕ)
        → length (cond short (92 ∷ letter ∷ []) (cond control (92 ∷ 117 ∷ 48 ∷ 48 ∷ high ∷ low ∷ []) (x ∷ []))) ≤ 6
    one true control letter high low x = omega arith
    one false true letter high low x = omega arith
    one false false letter high low x = omega arith

-- an escaped text
pub escape_room : (s : List ℕ) → length (escape s) ≤ 6 * length s
escape_room [] = omega arith
escape_room (b ∷ bs) = omega (arith, byte_room b, escape_room bs, length-append (escape_byte b) (escape bs))

-- tokens
pub key_room : (s : List ℕ) → length (token_text (key s)) + 1 ≤ 6 * length s + 4
key_room s = omega (arith, escape_room s, length-append (escape s) (34 ∷ []), length-append (quoted s) (58 ∷ []))

pub string_room : (s : List ℕ) → length (token_text (string s)) + 1 ≤ 6 * length s + 3
string_room s = omega (arith, escape_room s, length-append (escape s) (34 ∷ []))

pub number_room : (n : ℕ) → n < 2 ^ 64 → length (token_text (number (decimal n))) + 1 ≤ 21
number_room n small = omega (arith, length-decimal-le 20 n (omega arith) (omega arith) small)

pub truth_room : (b : Bool) → length (token_text (boolean b)) + 1 ≤ 6
truth_room true = omega arith
truth_room false = omega arith

timestamp_length : (m : ℕ) → length (timestamp m) ≡ 24
unfolding timestamp stamp_of
timestamp_length m = refl

pub moment_room : (m : ℕ) → length (token_text (string (timestamp m))) + 1 ≤ 147
moment_room m = omega (arith, timestamp_length m, string_room (timestamp m))

-- ---- for attributes to name

pub ruleset token_rooms = (key_room, string_room, number_room, truth_room, moment_room)
