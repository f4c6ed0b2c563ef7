-- What is signed of a target, read back.
use Rattle.std.proofs.Common.{◌≡◌, refl, sym, ap, ap₂, subst, ◌∙◌, Bool, true, false, not, cond, ◌&&◌, ℕ, ◌/◌, ◌%◌, ◌<◌, List, [], ◌∷◌, ◌++◌, map, length, IsPermutation, ⊎_elim, arith, nat_lt}
use Rattle.std.specs.Prelude.{◌==◌}
use Rattle.std.specs.Fmt.{digit_glyph}
use Rattle.std.specs.List.{All, list_all}
use Rattle.std.proofs.lemmas.Bool.{cases_Bool, cond-true, cond-false, false≢true, and_from, ne_eqb}
use Rattle.std.proofs.lemmas.Bool.Decides.{nat_tests}
use Rattle.std.proofs.lemmas.List.Elements.{All-nil, All-cons, All-head, All-tail, All-filter}
use Rattle.std.proofs.lemmas.List.Folds.{list_all-append}
use Rattle.std.proofs.lemmas.List.Sorted.{IsPermutation-map, IsPermutation-trans, IsPermutation-sym, All-permutation}
use Rattle.percent_encoding.specs.Percent.{percent_decode, percent_encode_byte}
use Rattle.percent_encoding.proofs.PercentLemmas.{IsByte, percent_decode-nil, percent_decode_not_percent, percent_decode-percent_encode_byte}
use Rattle.s3_text.proofs.JoinLemmas.{lacks, split_joined}
use Rattle.s3_http_heads.specs.Target.{TargetParts, pieces_of, pair_of}
use Rattle.s3_canonical.specs.CanonicalTarget.{encoded_pair, pair_cmp, sorted_pairs, print_pair, is_signed_parameter, canonical_uri, canonical_query}
use Rattle.s3_canonical.specs.Encoding.{is_unreserved, encode_but, encode_path, encode_query}
use Rattle.s3_rule_laws.specs.SignedQueries.{IsOfBytes, HasBytes, signed_of, SignedTargetsHaveTheSameParameters}
use Rattle.s3_rule_laws.proofs.QueryLemmas.{before_at, after_at, more, kept}
use Rattle.s3_rule_laws.proofs.SignedQueryLemmas.{signed_in, query_of}
use Rattle.s3_rule_laws.proofs.SortingLemmas.{sorted_elements}

-- ---- texts

decoded : (keeps : ℕ → Bool) → keeps 37 ≡ false → (bytes : List ℕ) → IsOfBytes bytes → percent_decode (encode_but keeps bytes) ≡ bytes
decoded keeps sign [] small = percent_decode-nil
decoded keeps sign (b ∷ bytes) small =
    let rest = ap (λ r. b ∷ r) (decoded keeps sign bytes (All-tail IsByte b bytes small)) in
    ⊎_elim
    (λ plain. ap (λ t. percent_decode (t ++ encode_but keeps bytes)) (cond-true _ (b ∷ []) (percent_encode_byte b) plain)
    ∙ percent_decode_not_percent b (encode_but keeps bytes) (λ is. false≢true (sym sign ∙ ap keeps (sym is) ∙ plain)) ∙ rest)
    (λ escaped. ap (λ t. percent_decode (t ++ encode_but keeps bytes)) (cond-false _ (b ∷ []) (percent_encode_byte b) escaped)
    ∙ percent_decode-percent_encode_byte b (encode_but keeps bytes) (All-head IsByte b bytes small) ∙ rest)
    (cases_Bool (keeps b))

path_back : (target : TargetParts) → IsOfBytes target.path → percent_decode (canonical_uri target) ≡ target.path
unfolding canonical_uri encode_path
path_back target small = decoded _ refl target.path small

text_back : (text : List ℕ) → IsOfBytes text → percent_decode (encode_query text) ≡ text
unfolding encode_query
text_back text small = decoded is_unreserved refl text small

-- a byte that is encoded is not in an encoded text
other_kept : (c b : ℕ) → is_unreserved c ≡ false → is_unreserved b ≡ true → not (b == c) ≡ true
other_kept c b goes stays = ap not (ne_eqb b c (λ is. false≢true (sym goes ∙ ap is_unreserved (sym is) ∙ stays)))

high_below : (b : ℕ) → b / 16 % 16 < 16
high_below b = omega arith

low_below : (b : ℕ) → b % 16 < 16
low_below b = omega arith

text_lacks : (c : ℕ) → is_unreserved c ≡ false → not (37 == c) ≡ true → ((d : ℕ) → d < 16 → not (digit_glyph true d == c) ≡ true) → (text : List ℕ) → lacks c (encode_query text) ≡ true
unfolding encode_query percent_encode_byte
text_lacks c goes sign digit [] = refl
text_lacks c goes sign digit (b ∷ text) =
    let rest : lacks c (encode_but is_unreserved text) ≡ true = text_lacks c goes sign digit text in
    ⊎_elim
    (λ plain. ap (λ t. lacks c (t ++ encode_but is_unreserved text)) (cond-true _ (b ∷ []) (percent_encode_byte b) plain)
    ∙ and_from (not (b == c)) (lacks c (encode_but is_unreserved text)) (other_kept c b goes plain) rest)
    (λ escaped. ap (λ t. lacks c (t ++ encode_but is_unreserved text)) (cond-false _ (b ∷ []) (percent_encode_byte b) escaped)
    ∙ and_from (not (37 == c)) (not (digit_glyph true (b / 16 % 16) == c) && (not (digit_glyph true (b % 16) == c) && lacks c (encode_but is_unreserved text))) sign
    (and_from (not (digit_glyph true (b / 16 % 16) == c)) (not (digit_glyph true (b % 16) == c) && lacks c (encode_but is_unreserved text)) (digit (b / 16 % 16) (high_below b))
    (and_from (not (digit_glyph true (b % 16) == c)) (lacks c (encode_but is_unreserved text)) (digit (b % 16) (low_below b)) rest)))
    (cases_Bool (is_unreserved b))

no_ampersand : (d : ℕ) → d < 16 → not (digit_glyph true d == 38) ≡ true
no_ampersand d small = grind (arith, nat_tests)

no_equals : (d : ℕ) → d < 16 → not (digit_glyph true d == 61) ≡ true
no_equals d small = grind (arith, nat_tests)

-- ---- parameters

-- of an encoded one the parts can be told apart
record IsEncoded (e : List ℕ × List ℕ) : Type 0 where
  name : lacks 61 e.0 ≡ true
  whole : lacks 38 (print_pair e) ≡ true

encoded : (p : List ℕ × List ℕ) → IsEncoded (encoded_pair p)
encoded p = record {
  name = text_lacks 61 refl refl no_equals p.0;
  whole =
      list_all-append (λ b. not (b == 38)) (encode_query p.0) (61 ∷ encode_query p.1)
      ∙ and_from (lacks 38 (encode_query p.0)) (lacks 38 (61 ∷ encode_query p.1)) (text_lacks 38 refl refl no_ampersand p.0) (text_lacks 38 refl refl no_ampersand p.1);
}

all_encoded : (ps : List (List ℕ × List ℕ)) → All IsEncoded (map encoded_pair ps)
all_encoded [] = All-nil IsEncoded
all_encoded (p ∷ ps) = All-cons IsEncoded (encoded_pair p) (map encoded_pair ps) (encoded p) (all_encoded ps)

abbrev decoded_pair : List ℕ × List ℕ → List ℕ × List ℕ
decoded_pair e = (percent_decode e.0, percent_decode e.1)

pair_read : (e : List ℕ × List ℕ) → IsEncoded e → pair_of (print_pair e) ≡ decoded_pair e
pair_read e is = ap₂ (λ n v. (percent_decode n, percent_decode v)) (before_at 61 e.0 e.1 is.name) (after_at 61 e.0 e.1 is.name)

some_print : (name value : List ℕ) → nat_lt 0 (length (name ++ 61 ∷ value)) ≡ true
some_print [] value = more (length value)
some_print (b ∷ name) value = more (length (name ++ 61 ∷ value))

all_whole : (es : List (List ℕ × List ℕ)) → All IsEncoded es → list_all (lacks 38) (map print_pair es) ≡ true
all_whole [] all = refl
all_whole (e ∷ es) all =
    and_from (lacks 38 (print_pair e)) (list_all (lacks 38) (map print_pair es)) (All-head IsEncoded e es all).whole (all_whole es (All-tail IsEncoded e es all))

all_read : (es : List (List ℕ × List ℕ)) → All IsEncoded es → map pair_of (kept (map print_pair es)) ≡ map decoded_pair es
all_read [] all = refl
all_read (e ∷ es) all =
    ap (λ some. map pair_of (cond some (print_pair e ∷ kept (map print_pair es)) (kept (map print_pair es)))) (some_print e.0 e.1)
    ∙ ap₂ (λ pair pairs. pair ∷ pairs) (pair_read e (All-head IsEncoded e es all)) (all_read es (All-tail IsEncoded e es all))

query_read : (es : List (List ℕ × List ℕ)) → All IsEncoded es → map pair_of (pieces_of (query_of es)) ≡ map decoded_pair es
query_read [] all = refl
query_read (e ∷ es) all =
    ap (λ pieces. map pair_of (kept pieces)) (split_joined 38 (print_pair e) (map print_pair es) (all_whole (e ∷ es) all)) ∙ all_read (e ∷ es) all

-- ---- canonical queries

abbrev NameIsOfBytes : List ℕ × List ℕ → Type 0
NameIsOfBytes p = IsOfBytes p.0

abbrev ValueIsOfBytes : List ℕ × List ℕ → Type 0
ValueIsOfBytes p = IsOfBytes p.1

all_back : (ps : List (List ℕ × List ℕ)) → All NameIsOfBytes ps → All ValueIsOfBytes ps → map decoded_pair (map encoded_pair ps) ≡ ps
all_back [] names values = refl
all_back (p ∷ ps) names values =
    ap₂ (λ q qs. q ∷ qs)
    (ap₂ (λ n v. (n, v)) (text_back p.0 (All-head NameIsOfBytes p ps names)) (text_back p.1 (All-head ValueIsOfBytes p ps values)))
    (all_back ps (All-tail NameIsOfBytes p ps names) (All-tail ValueIsOfBytes p ps values))

abbrev sorted_of : TargetParts → List (List ℕ × List ℕ)
sorted_of target = sorted_pairs (signed_in target.parameters)

canonical_read : (target : TargetParts) → map pair_of (pieces_of (canonical_query target)) ≡ map decoded_pair (sorted_of target)
unfolding canonical_query
canonical_read target =
    query_read (sorted_of target)
    (All-permutation IsEncoded (signed_in target.parameters) (sorted_of target) (sorted_elements pair_cmp (signed_in target.parameters)) (all_encoded (signed_of target)))

same_signed : (target : TargetParts) → HasBytes target → IsPermutation (signed_of target) (map decoded_pair (sorted_of target))
same_signed target has =
    subst (λ ps. IsPermutation ps (map decoded_pair (sorted_of target)))
    (all_back (signed_of target)
    (All-filter is_signed_parameter NameIsOfBytes target.parameters has.names)
    (All-filter is_signed_parameter ValueIsOfBytes target.parameters has.values))
    (IsPermutation-map decoded_pair (signed_in target.parameters) (sorted_of target) (sorted_elements pair_cmp (signed_in target.parameters)))

pub signed_targets_have_the_same_parameters : SignedTargetsHaveTheSameParameters
signed_targets_have_the_same_parameters target other has has_too = record {
  path = λ same. sym (path_back target has.path) ∙ ap percent_decode same ∙ path_back other has_too.path;
  parameters = λ same.
      let read : map decoded_pair (sorted_of other) ≡ map decoded_pair (sorted_of target) =
      sym (canonical_read other) ∙ ap (λ query. map pair_of (pieces_of query)) (sym same) ∙ canonical_read target in
      IsPermutation-trans (signed_of target) (map decoded_pair (sorted_of target)) (signed_of other)
      (same_signed target has)
      (subst (λ ps. IsPermutation ps (signed_of other)) read (IsPermutation-sym (signed_of other) (map decoded_pair (sorted_of other)) (same_signed other has_too)));
}
