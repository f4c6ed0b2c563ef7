-- Targets and queries, as they are spelled.
use Rattle.std.proofs.Common.{◌≡◌, ◌≢◌, refl, sym, ap, ap₂, ◌∙◌, ℕ, suc, ◌+◌, ◌*◌, ◌<◌, Bool, true, false, not, cond, ◌&&◌, ◌||◌, List, [], ◌∷◌, ◌++◌, map, filter, take, drop, length, Option, Some, None, Ok, append_assoc, append-nil, arith, nat_lt}
use Rattle.std.specs.Prelude.{◌==◌}
use Rattle.std.specs.Char.{digit_value, is_digit, is_ascii_hexdigit}
use Rattle.std.specs.List.{All, list_all, position_or_len, before_first, after_first}
use Rattle.std.proofs.lemmas.Bool.{false≢true, and_parts, and_from, not-true, ne_eqb, eq-eqb}
use Rattle.std.proofs.lemmas.Bool.Decides.{nat_tests}
use Rattle.std.proofs.lemmas.List.Elements.{All-head, All-tail}
use Rattle.std.proofs.lemmas.List.Folds.{list_all-append}
use Rattle.percent_encoding.specs.Percent.{percent_decode}
use Rattle.percent_encoding.proofs.PercentLemmas.{percent_decode-nil, percent_decode_escape, percent_decode_not_percent}
use Rattle.s3_text.proofs.JoinLemmas.{lacks, split_joined}
use Rattle.s3_terms.specs.Fault.{refuse, ◌>>◌}
use Rattle.s3_terms.specs.declared.code.Code.TheVariants.{InvalidURI}
use Rattle.s3_http_heads.specs.Target.{begins_with_digits, has_bad_escape, is_unreadable, pieces_of, pair_of, target_of, target_parts}
use Rattle.s3_rule_laws.specs.Queries.{Letter, Plain, Escaped, letters_text, letters_bytes, is_letter, is_path_letter, is_name_letter, Written, value_text, value_bytes, parameter_text, parameter_of, AreValueLetters, IsWritten, query_text, SpelledTargetsAreRead}

-- ---- what is written of letters

is_below : (c : ℕ) → is_digit c 16 ≡ true → digit_value c < 16
is_below c is = grind (arith, nat_tests)

no_percent : (means : ℕ → Bool) (b : ℕ) → is_letter means (Plain b) ≡ true → (b == 37) ≡ false
no_percent means b is = not-true (b == 37) (and_parts (not (b == 37)) (not (means b)) is).0

not_percent : (b : ℕ) → (b == 37) ≡ false → b ≢ 37
not_percent b other = grind (arith, nat_tests)

decoded : (means : ℕ → Bool) (letters : List Letter) → list_all (is_letter means) letters ≡ true → percent_decode (letters_text letters) ≡ letters_bytes letters
decoded means [] all = percent_decode-nil
decoded means (Plain b ∷ letters) all =
    let both = and_parts (is_letter means (Plain b)) (list_all (is_letter means) letters) all in
    percent_decode_not_percent b (letters_text letters) (not_percent b (no_percent means b both.0))
    ∙ ap (λ rest. b ∷ rest) (decoded means letters both.1)
decoded means (Escaped high low ∷ letters) all =
    let both = and_parts (is_letter means (Escaped high low)) (list_all (is_letter means) letters) all in
    let digits = and_parts (is_digit high 16) (is_digit low 16) both.0 in
    percent_decode_escape 37 high low (letters_text letters) refl (is_below high digits.0) (is_below low digits.1)
    ∙ ap (λ rest. (16 * digit_value high + digit_value low) ∷ rest) (decoded means letters both.1)

-- a byte that isn't a digit, nor stands for itself in a letter, is not in their text
other_digit : (c b : ℕ) → is_digit c 16 ≡ false → is_digit b 16 ≡ true → not (b == c) ≡ true
other_digit c b none is = ap not (ne_eqb b c (λ same. false≢true (sym none ∙ ap (λ k. is_digit k 16) (sym same) ∙ is)))

other_plain : (means : ℕ → Bool) (c b : ℕ) → means c ≡ true → is_letter means (Plain b) ≡ true → not (b == c) ≡ true
other_plain means c b meant is =
    ap not (ne_eqb b c (λ same. false≢true (sym (not-true (means b) (and_parts (not (b == 37)) (not (means b)) is).1) ∙ ap means same ∙ meant)))

text_lacks : (means : ℕ → Bool) (c : ℕ) → means c ≡ true → is_digit c 16 ≡ false → not (37 == c) ≡ true → (letters : List Letter) → list_all (is_letter means) letters ≡ true → lacks c (letters_text letters) ≡ true
text_lacks means c meant none sign [] all = refl
text_lacks means c meant none sign (Plain b ∷ letters) all =
    let both = and_parts (is_letter means (Plain b)) (list_all (is_letter means) letters) all in
    and_from (not (b == c)) (lacks c (letters_text letters)) (other_plain means c b meant both.0) (text_lacks means c meant none sign letters both.1)
text_lacks means c meant none sign (Escaped high low ∷ letters) all =
    let both = and_parts (is_letter means (Escaped high low)) (list_all (is_letter means) letters) all in
    let digits = and_parts (is_digit high 16) (is_digit low 16) both.0 in
    and_from (not (37 == c)) (not (high == c) && (not (low == c) && lacks c (letters_text letters))) sign
    (and_from (not (high == c)) (not (low == c) && lacks c (letters_text letters)) (other_digit c high none digits.0)
    (and_from (not (low == c)) (lacks c (letters_text letters)) (other_digit c low none digits.1) (text_lacks means c meant none sign letters both.1)))

-- ---- texts that are cut at a byte

take_next : (n x : ℕ) (xs : List ℕ) → take (1 + n) (x ∷ xs) ≡ x ∷ take n xs
take_next n x xs = let is : 1 + n ≡ suc n = omega arith in ap (λ k. take k (x ∷ xs)) is

drop_next : (n x : ℕ) (xs : List ℕ) → drop (1 + n + 1) (x ∷ xs) ≡ drop (n + 1) xs
drop_next n x xs = let is : 1 + n + 1 ≡ suc (n + 1) = omega arith in ap (λ k. drop k (x ∷ xs)) is

own : (c : ℕ) → (c == c) ≡ true
own c = eq-eqb c c refl

pub before_at : (c : ℕ) (xs ys : List ℕ) → lacks c xs ≡ true → before_first (λ b. b == c) (xs ++ c ∷ ys) ≡ xs
before_at c [] ys none = ap (λ here. take (cond (not here) (1 + position_or_len (λ b. b == c) ys) 0) (c ∷ ys)) (own c)
before_at c (x ∷ xs) ys none =
    let both = and_parts (not (x == c)) (lacks c xs) none in
    ap (λ on. take (cond on (1 + position_or_len (λ b. b == c) (xs ++ c ∷ ys)) 0) (x ∷ xs ++ c ∷ ys)) both.0
    ∙ take_next (position_or_len (λ b. b == c) (xs ++ c ∷ ys)) x (xs ++ c ∷ ys)
    ∙ ap (λ rest. x ∷ rest) (before_at c xs ys both.1)

pub after_at : (c : ℕ) (xs ys : List ℕ) → lacks c xs ≡ true → after_first (λ b. b == c) (xs ++ c ∷ ys) ≡ ys
after_at c [] ys none = ap (λ here. drop (cond (not here) (1 + position_or_len (λ b. b == c) ys) 0 + 1) (c ∷ ys)) (own c)
after_at c (x ∷ xs) ys none =
    let both = and_parts (not (x == c)) (lacks c xs) none in
    ap (λ on. drop (cond on (1 + position_or_len (λ b. b == c) (xs ++ c ∷ ys)) 0 + 1) (x ∷ xs ++ c ∷ ys)) both.0
    ∙ drop_next (position_or_len (λ b. b == c) (xs ++ c ∷ ys)) x (xs ++ c ∷ ys)
    ∙ after_at c xs ys both.1

before_none : (c : ℕ) (xs : List ℕ) → lacks c xs ≡ true → before_first (λ b. b == c) xs ≡ xs
before_none c [] none = refl
before_none c (x ∷ xs) none =
    let both = and_parts (not (x == c)) (lacks c xs) none in
    ap (λ on. take (cond on (1 + position_or_len (λ b. b == c) xs) 0) (x ∷ xs)) both.0
    ∙ take_next (position_or_len (λ b. b == c) xs) x xs
    ∙ ap (λ rest. x ∷ rest) (before_none c xs both.1)

after_none : (c : ℕ) (xs : List ℕ) → lacks c xs ≡ true → after_first (λ b. b == c) xs ≡ []
after_none c [] none = refl
after_none c (x ∷ xs) none =
    let both = and_parts (not (x == c)) (lacks c xs) none in
    ap (λ on. drop (cond on (1 + position_or_len (λ b. b == c) xs) 0 + 1) (x ∷ xs)) both.0
    ∙ drop_next (position_or_len (λ b. b == c) xs) x xs
    ∙ after_none c xs both.1

-- ---- parameters

name_decoded : (name : List Letter) → list_all is_name_letter name ≡ true → percent_decode (letters_text name) ≡ letters_bytes name
name_decoded name all = decoded (λ b. b == 61 || b == 38) name all

name_uncut : (name : List Letter) → list_all is_name_letter name ≡ true → lacks 61 (letters_text name) ≡ true
name_uncut name all = text_lacks (λ b. b == 61 || b == 38) 61 refl refl refl name all

parameter_read : (name : List Letter) (value : Option (List Letter)) → list_all is_name_letter name ≡ true → AreValueLetters name value
    → pair_of (letters_text name ++ value_text value) ≡ (letters_bytes name, value_bytes value)
parameter_read name None all right =
    ap pair_of (append-nil (letters_text name))
    ∙ ap₂ (λ n v. (n, v))
    (ap percent_decode (before_none 61 (letters_text name) (name_uncut name all)) ∙ name_decoded name all)
    (ap percent_decode (after_none 61 (letters_text name) (name_uncut name all)) ∙ percent_decode-nil)
parameter_read name (Some letters) all right =
    ap₂ (λ n v. (n, v))
    (ap percent_decode (before_at 61 (letters_text name) (letters_text letters) (name_uncut name all)) ∙ name_decoded name all)
    (ap percent_decode (after_at 61 (letters_text name) (letters_text letters) (name_uncut name all)) ∙ decoded (λ b. b == 38) letters right)

value_whole : (name : List Letter) (value : Option (List Letter)) → AreValueLetters name value → lacks 38 (value_text value) ≡ true
value_whole name None right = refl
value_whole name (Some letters) right = text_lacks (λ b. b == 38) 38 refl refl refl letters right

parameter_whole : (w : Written) → IsWritten w → lacks 38 (parameter_text w) ≡ true
parameter_whole w right =
    list_all-append (λ b. not (b == 38)) (letters_text w.name) (value_text w.value)
    ∙ and_from (lacks 38 (letters_text w.name)) (lacks 38 (value_text w.value))
    (text_lacks (λ b. b == 61 || b == 38) 38 refl refl refl w.name right.name) (value_whole w.name w.value right.value)

-- none is empty
pub more : (n : ℕ) → nat_lt 0 (suc n) ≡ true
more n = grind (arith, nat_tests)

some_text : (name : List Letter) (value : Option (List Letter)) → AreValueLetters name value → nat_lt 0 (length (letters_text name ++ value_text value)) ≡ true
some_text [] None right = absurd (right refl)
some_text [] (Some letters) right = more (length (letters_text letters))
some_text (Plain b ∷ name) value right = more (length (letters_text name ++ value_text value))
some_text (Escaped high low ∷ name) value right = more (length (high ∷ low ∷ letters_text name ++ value_text value))

all_whole : (ws : List Written) → All IsWritten ws → list_all (lacks 38) (map parameter_text ws) ≡ true
all_whole [] right = refl
all_whole (w ∷ ws) right =
    and_from (lacks 38 (parameter_text w)) (list_all (lacks 38) (map parameter_text ws))
    (parameter_whole w (All-head IsWritten w ws right)) (all_whole ws (All-tail IsWritten w ws right))

abbrev pub kept : List (List ℕ) → List (List ℕ)
kept pieces = filter (λ piece. nat_lt 0 (length piece)) pieces

all_read : (ws : List Written) → All IsWritten ws → map pair_of (kept (map parameter_text ws)) ≡ map parameter_of ws
all_read [] right = refl
all_read (w ∷ ws) right =
    let first = All-head IsWritten w ws right in
    ap (λ some. map pair_of (cond some (parameter_text w ∷ kept (map parameter_text ws)) (kept (map parameter_text ws)))) (some_text w.name w.value first.value)
    ∙ ap₂ (λ pair pairs. pair ∷ pairs) (parameter_read w.name w.value first.name first.value) (all_read ws (All-tail IsWritten w ws right))

query_read : (ws : List Written) → All IsWritten ws → map pair_of (pieces_of (query_text ws)) ≡ map parameter_of ws
query_read [] right = refl
query_read (w ∷ ws) right =
    ap (λ pieces. map pair_of (kept pieces)) (split_joined 38 (parameter_text w) (map parameter_text ws) (all_whole (w ∷ ws) right))
    ∙ all_read (w ∷ ws) right

-- ---- escapes

hex_of : (c : ℕ) → is_digit c 16 ≡ true → is_ascii_hexdigit c ≡ true
hex_of c is = grind (arith, nat_tests)

digit_not_percent : (c : ℕ) → is_digit c 16 ≡ true → (c == 37) ≡ false
digit_not_percent c is = not-true (c == 37) (other_digit 37 c refl is)

past_other : (b : ℕ) (rest : List ℕ) → (b == 37) ≡ false → has_bad_escape (b ∷ rest) ≡ has_bad_escape rest
unfolding has_bad_escape
past_other b rest other = ap (λ same. (same && not (begins_with_digits rest)) || has_bad_escape rest) other

past_digits : (high low : ℕ) (rest : List ℕ) → is_digit high 16 ≡ true → is_digit low 16 ≡ true → has_bad_escape (37 ∷ high ∷ low ∷ rest) ≡ has_bad_escape rest
unfolding has_bad_escape
past_digits high low rest first second =
    ap (λ digits. not digits || has_bad_escape (high ∷ low ∷ rest)) (and_from (is_ascii_hexdigit high) (is_ascii_hexdigit low) (hex_of high first) (hex_of low second))
    ∙ past_other high (low ∷ rest) (digit_not_percent high first)
    ∙ past_other low rest (digit_not_percent low second)

past_letters : (means : ℕ → Bool) (letters : List Letter) (rest : List ℕ) → list_all (is_letter means) letters ≡ true → has_bad_escape (letters_text letters ++ rest) ≡ has_bad_escape rest
past_letters means [] rest all = refl
past_letters means (Plain b ∷ letters) rest all =
    let both = and_parts (is_letter means (Plain b)) (list_all (is_letter means) letters) all in
    past_other b (letters_text letters ++ rest) (no_percent means b both.0) ∙ past_letters means letters rest both.1
past_letters means (Escaped high low ∷ letters) rest all =
    let both = and_parts (is_letter means (Escaped high low)) (list_all (is_letter means) letters) all in
    let digits = and_parts (is_digit high 16) (is_digit low 16) both.0 in
    past_digits high low (letters_text letters ++ rest) digits.0 digits.1 ∙ past_letters means letters rest both.1

past_value : (name : List Letter) (value : Option (List Letter)) (rest : List ℕ) → AreValueLetters name value → has_bad_escape (value_text value ++ rest) ≡ has_bad_escape rest
past_value name None rest right = refl
past_value name (Some letters) rest right =
    past_other 61 (letters_text letters ++ rest) refl ∙ past_letters (λ b. b == 38) letters rest right

past_parameter : (w : Written) (rest : List ℕ) → IsWritten w → has_bad_escape (parameter_text w ++ rest) ≡ has_bad_escape rest
past_parameter w rest right =
    ap has_bad_escape (append_assoc (letters_text w.name) (value_text w.value) rest)
    ∙ past_letters (λ b. b == 61 || b == 38) w.name (value_text w.value ++ rest) right.name
    ∙ past_value w.name w.value rest right.value

none_bad : has_bad_escape [] ≡ false
unfolding has_bad_escape
none_bad = refl

query_right : (ws : List Written) → All IsWritten ws → has_bad_escape (query_text ws) ≡ false
query_right [] right = none_bad
query_right (w ∷ []) right =
    ap has_bad_escape (sym (append-nil (parameter_text w))) ∙ past_parameter w [] (All-head IsWritten w [] right) ∙ none_bad
query_right (w ∷ v ∷ ws) right =
    past_parameter w (38 ∷ query_text (v ∷ ws)) (All-head IsWritten w (v ∷ ws) right)
    ∙ past_other 38 (query_text (v ∷ ws)) refl
    ∙ query_right (v ∷ ws) (All-tail IsWritten w (v ∷ ws) right)

-- ---- targets

abbrev target_text : List Letter → List Written → List ℕ
target_text letters query = 47 ∷ letters_text letters ++ 63 ∷ query_text query

target_right : (letters : List Letter) (query : List Written) → list_all is_path_letter letters ≡ true → All IsWritten query → is_unreadable (target_text letters query) ≡ false
target_right letters query plain right =
    past_other 47 (letters_text letters ++ 63 ∷ query_text query) refl
    ∙ past_letters (λ b. b == 63) letters (63 ∷ query_text query) plain
    ∙ past_other 63 (query_text query) refl
    ∙ query_right query right

read_right : (text : List ℕ) → is_unreadable text ≡ false → target_of text ≡ Ok (target_parts text)
unfolding target_of
read_right text right = ap (λ bad. refuse bad InvalidURI >> Ok (target_parts text)) right

path_whole : (letters : List Letter) → list_all is_path_letter letters ≡ true → lacks 63 (47 ∷ letters_text letters) ≡ true
path_whole letters plain = text_lacks (λ b. b == 63) 63 refl refl refl letters plain

path_read : (letters : List Letter) (query : List Written) → list_all is_path_letter letters ≡ true → (target_parts (target_text letters query)).path ≡ 47 ∷ letters_bytes letters
unfolding target_parts
path_read letters query plain =
    ap percent_decode (before_at 63 (47 ∷ letters_text letters) (query_text query) (path_whole letters plain))
    ∙ percent_decode_not_percent 47 (letters_text letters) (not_percent 47 refl)
    ∙ ap (λ rest. 47 ∷ rest) (decoded (λ b. b == 63) letters plain)

parameters_read : (letters : List Letter) (query : List Written) → list_all is_path_letter letters ≡ true → All IsWritten query → (target_parts (target_text letters query)).parameters ≡ map parameter_of query
unfolding target_parts
parameters_read letters query plain right =
    ap (λ text. map pair_of (pieces_of text)) (after_at 63 (47 ∷ letters_text letters) (query_text query) (path_whole letters plain))
    ∙ query_read query right

pub spelled_targets_are_read : SpelledTargetsAreRead
spelled_targets_are_read text path parameters spells = record {
  target = target_parts text;
  read = read_right text (ap is_unreadable spells.written ∙ target_right spells.letters spells.query spells.plain spells.right);
  path_read = ap (λ t. (target_parts t).path) spells.written ∙ path_read spells.letters spells.query spells.plain ∙ sym spells.means;
  parameters_read = ap (λ t. (target_parts t).parameters) spells.written ∙ parameters_read spells.letters spells.query spells.plain spells.right ∙ sym spells.are;
}
