-- What a head says is of the grammar, and so is a head of the first of its lines.
use Rattle.std.proofs.Common.{◌≡◌, ℕ, zero, suc, ◌<◌, ◌≤◌, Bool, true, not, ◌||◌, List, [], ◌∷◌, ◌++◌, map, length, reverse, append-nil, length-append, refl, sym, ap, ap₂, ◌∙◌, subst, arith, ⊎_elim}
use Rattle.std.specs.Prelude.{◌&&◌, ◌==◌, All, IsAscii, IsUtf8, nat_lt}
use Rattle.std.specs.Char.{to_ascii_lowercase}
use Rattle.std.specs.List.{list_all}
use Rattle.std.proofs.Math.Bool.{and_comm, and-true}
use Rattle.std.proofs.lemmas.Bool.{agree_below_at, and_parts, and_from, cases_Bool, cases_lt, cond-true, cond-false, eqb-true, lt-ltb, ltb-true, or_cases}
use Rattle.std.proofs.lemmas.List.{length-map, map-append, reverse-append}
use Rattle.std.proofs.lemmas.List.Elements.{All-weaker}
use Rattle.std.proofs.lemmas.List.Folds.{list_all-append, list_all-map}
use Rattle.std.proofs.lemmas.List.Sums.{AllPass-from_list_all, list_all-from_AllPass}
use Rattle.std.proofs.lemmas.Str.{IsUtf8-from_ascii}
use Rattle.std.proofs.lemmas.Str.Ascii.{lowercase_is}
use Rattle.httparse.specs.Grammar.{Field, IsField, IsRequestHead, IsToken, RequestHead, is_ows, is_token, is_token_byte, is_uri_byte, is_value_byte, print_request, skip_ows, trim_ows}
use Rattle.httparse.specs.Spans.{name_and_value}
use Rattle.s3_text.specs.Characters.{slash}
use Rattle.s3_http_heads.specs.Head.{HeadParts, Says, parts_of}
use Rattle.s3_signing.specs.Cover.{lower_name, sent_names}
use Rattle.s3_text.proofs.SortingLemmas.{length-sorted_by}
use Rattle.s3_text.proofs.ListLemmas.{all_weaker}
use Rattle.s3_signer.specs.Request.{CanBeSent, HeaderLine, ReadsBack, Told, added_lines, authorization_line, field_of, head_of, line_cmp, lower_line, unsigned_head, unsigned_lines}

-- ---- values: the white space around one is of the grammar's bytes

white_value : (b : ℕ) → is_ows b ≡ true → is_value_byte b ≡ true
white_value b white =
    ⊎_elim
    (λ space. ap is_value_byte (eqb-true b 32 space))
    (λ tab. ap is_value_byte (eqb-true b 9 tab))
    (or_cases (b == 32) (b == 9) white)

skipped_value : (value : List ℕ) → list_all is_value_byte (skip_ows value) ≡ list_all is_value_byte value
skipped_value [] = refl
skipped_value (b ∷ value) =
    ⊎_elim
    (λ white. ap (list_all is_value_byte) (cond-true (is_ows b) (skip_ows value) (b ∷ value) white) ∙ skipped_value value ∙ sym (ap (λ t. t && list_all is_value_byte value) (white_value b white)))
    (λ other. ap (list_all is_value_byte) (cond-false (is_ows b) (skip_ows value) (b ∷ value) other))
    (cases_Bool (is_ows b))

reversed_value : (value : List ℕ) → list_all is_value_byte (reverse value) ≡ list_all is_value_byte value
reversed_value [] = refl
reversed_value (b ∷ value) =
    ap (list_all is_value_byte) (reverse-append (b ∷ []) value) ∙ list_all-append is_value_byte (reverse value) (b ∷ [])
    ∙ and_comm (list_all is_value_byte (reverse value)) (list_all is_value_byte (b ∷ []))
    ∙ ap₂ (λ t u. t && u) (and-true (is_value_byte b)) (reversed_value value)

trimmed_value : (value : List ℕ) → list_all is_value_byte (trim_ows value) ≡ list_all is_value_byte value
unfolding trim_ows
trimmed_value value =
    reversed_value (skip_ows (reverse (skip_ows value))) ∙ skipped_value (reverse (skip_ows value))
    ∙ reversed_value (skip_ows value) ∙ skipped_value value

-- ---- header lines

-- a name and a value of the grammar
abbrev pub is_line : List ℕ × List ℕ → Bool
is_line line = is_token line.0 && list_all is_value_byte line.1

line_of_field : (f : Field) → IsField f → is_line (name_and_value f) ≡ true
line_of_field f is =
    and_from _ _ (and_from _ _ (lt-ltb 0 (length f.name) is.name.0) (list_all-from_AllPass is_token_byte f.name is.name.1))
    (trimmed_value f.raw ∙ list_all-from_AllPass is_value_byte f.raw is.raw)

field_of_line : (f : Field) → is_line (name_and_value f) ≡ true → IsField f
field_of_line f is =
    let both = and_parts (is_token f.name) (list_all is_value_byte (trim_ows f.raw)) is in
    let token = and_parts (nat_lt 0 (length f.name)) (list_all is_token_byte f.name) both.0 in
    record {
      name = (ltb-true 0 (length f.name) token.0, AllPass-from_list_all is_token_byte f.name token.1);
      raw = AllPass-from_list_all is_value_byte f.raw (sym (trimmed_value f.raw) ∙ both.1);
    }

lines_of_fields : (fs : List Field) → All IsField fs → list_all is_line (map name_and_value fs) ≡ true
lines_of_fields fs all =
    list_all-map is_line name_and_value fs
    ∙ list_all-from_AllPass (λ f. is_line (name_and_value f)) fs (All-weaker IsField (λ f. is_line (name_and_value f) ≡ true) line_of_field fs all)

fields_of_lines : (fs : List Field) → list_all is_line (map name_and_value fs) ≡ true → All IsField fs
fields_of_lines fs all =
    All-weaker (λ f. is_line (name_and_value f) ≡ true) IsField field_of_line fs
    (AllPass-from_list_all (λ f. is_line (name_and_value f)) fs (sym (list_all-map is_line name_and_value fs) ∙ all))

-- the lines of what a text says
pub said_lines : (text : List ℕ) (parts : HeadParts) → Says text parts → list_all is_line parts.headers ≡ true
said_lines text parts (h, is, same) =
    ap (λ (p : HeadParts). list_all is_line p.headers) same ∙ lines_of_fields h.fields is.0.0.fields

-- what a text says has at most 64 lines
pub few_lines : (method target : List ℕ) (lines : List HeaderLine) (text : List ℕ) → Says text (parts_of (head_of method target lines)) → length lines ≤ 64
few_lines method target lines text (h, is, same) =
    let many : length (map name_and_value (map field_of lines)) ≡ length (map name_and_value h.fields) = ap (λ (p : HeadParts). length p.headers) same in
    omega (arith, many, is.1, length-map lines field_of, length-map (map field_of lines) name_and_value, length-map h.fields name_and_value)

-- so that no more are given, beside those that are added
pub not_more : (id secret region method target : List ℕ) (given : List HeaderLine) (told : Told) (stamp body : List ℕ) → 64 < length given → ¬ (CanBeSent id secret region method target given told stamp body)
unfolding unsigned_lines
not_more id secret region method target given told stamp body more sent =
    let own = unsigned_lines given told stamp in
    let line = authorization_line id secret region (unsigned_head method target given told stamp) stamp in
    let few = few_lines method target (own ++ line ∷ []) sent.message.text sent.message.says in
    omega (arith, few, more, length-append own (line ∷ []), length-sorted_by line_cmp (map lower_line (given ++ added_lines told stamp)), length-append given (added_lines told stamp), length-map (given ++ added_lines told stamp) lower_line)

-- ---- a head of the first lines of another

module _ (method target : List ℕ) (lines more : List HeaderLine) where
  abbrev whole : RequestHead
  whole = head_of method target (lines ++ more)

  abbrev first : RequestHead
  first = head_of method target lines

  pub headers_more : (parts_of whole).headers ≡ (parts_of first).headers ++ map name_and_value (map field_of more)
  headers_more = ap (map name_and_value) (map-append field_of lines more) ∙ map-append name_and_value (map field_of lines) (map field_of more)

  -- where the text of the other says it, its own does
  pub says_first : (text : List ℕ) → Says text (parts_of whole) → ReadsBack first
  says_first text says =
      let h = says.0 in
      let is = says.1.0.0 in
      let same = says.2 in
      let all = sym (ap (list_all is_line) headers_more ∙ list_all-append is_line (parts_of first).headers (map name_and_value (map field_of more))) ∙ said_lines text (parts_of whole) says in
      let both = and_parts (list_all is_line (parts_of first).headers) (list_all is_line (map name_and_value (map field_of more))) all in
      let head : IsRequestHead first = record {
        method = subst IsToken (sym (ap (λ (p : HeadParts). p.method) same)) is.method;
        target = subst (λ t. (0 < length t) × All (λ b. is_uri_byte b ≡ true) t) (sym (ap (λ (p : HeadParts). p.target) same)) is.target;
        target_text = subst IsUtf8 (sym (ap (λ (p : HeadParts). p.target) same)) is.target_text;
        minor = omega arith;
        fields = fields_of_lines (map field_of lines) both.0;
      } in
      (first, ((head, sym (append-nil (print_request first))), omega (arith, few_lines method target (lines ++ more) text says, length-map lines field_of, length-append lines more)), refl)

-- ---- a head of the same lines at the root

slash_ascii : IsAscii (slash ∷ [])
slash_ascii zero = omega arith
slash_ascii (suc i) = omega arith

-- where the text of one says it, that of the other does
pub says_at_root : (method target : List ℕ) (lines : List HeaderLine) (text : List ℕ) → Says text (parts_of (head_of method target lines)) → ReadsBack (head_of method (slash ∷ []) lines)
says_at_root method target lines text says =
    let root = head_of method (slash ∷ []) lines in
    let head : IsRequestHead root = record {
      method = subst IsToken (sym (ap (λ (p : HeadParts). p.method) says.2)) says.1.0.0.method;
      target = (omega arith, AllPass-from_list_all is_uri_byte (slash ∷ []) refl);
      target_text = IsUtf8-from_ascii (slash ∷ []) slash_ascii;
      minor = omega arith;
      fields = fields_of_lines (map field_of lines) (said_lines text (parts_of (head_of method target lines)) says);
    } in
    (root, ((head, sym (append-nil (print_request root))), omega (arith, few_lines method target lines text says, length-map lines field_of)), refl)

-- ---- names

lower_byte : (b : ℕ) → is_token_byte b ≡ true → is_token_byte (to_ascii_lowercase b) ≡ true
unfolding is_token_byte
lower_byte b token =
    ⊎_elim
    (λ below. sym (ap (λ t. not t || is_token_byte (to_ascii_lowercase b)) token) ∙ agree_below_at (λ c. not (is_token_byte c) || is_token_byte (to_ascii_lowercase c)) (λ c. true) 128 b refl below)
    (λ above. ap is_token_byte ((lowercase_is b).2 (omega arith)) ∙ token)
    (cases_lt b 128)

-- a token in lower case is one
lower_token : (line : List ℕ × List ℕ) → is_line line ≡ true → is_token (lower_name line) ≡ true
lower_token line is =
    let name = and_parts (nat_lt 0 (length line.0)) (list_all is_token_byte line.0) (and_parts (is_token line.0) (list_all is_value_byte line.1) is).0 in
    and_from _ _ (ap (nat_lt 0) (length-map line.0 to_ascii_lowercase) ∙ name.0)
    (list_all-map is_token_byte to_ascii_lowercase line.0 ∙ all_weaker is_token_byte (λ b. is_token_byte (to_ascii_lowercase b)) lower_byte line.0 name.1)

-- the names of what a text says are tokens
pub said_names : (text : List ℕ) (parts : HeadParts) → Says text parts → list_all is_token (sent_names parts) ≡ true
said_names text parts says =
    list_all-map is_token lower_name parts.headers
    ∙ all_weaker is_line (λ line. is_token (lower_name line)) lower_token parts.headers (said_lines text parts says)
