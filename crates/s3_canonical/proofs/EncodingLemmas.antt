-- UriEncode is percent-encoding by the sets of the code.
use Rattle.std.proofs.Common.{◌≡◌, ℕ, ◌≤◌, Bool, true, false, not, ◌||◌, ◌==◌, List, [], ◌∷◌, refl, arith, ⊎_elim, cond}
use Rattle.std.proofs.lemmas.Bool.{agree_below, agree_below_at, cases_lt}
use Rattle.std.proofs.lemmas.Bool.Decides.{nat_tests}
use Rattle.percent_encoding.specs.declared.ascii_set.AsciiSet.{AsciiSet}
use Rattle.percent_encoding.specs.AsciiSet.{contains, should_percent_encode}
use Rattle.percent_encoding.specs.Percent.{percent_encode, percent_encode_byte}
use Rattle.s3_canonical.specs.declared.encoding.TheConstants.{PATH_ESCAPES, QUERY_ESCAPES}
use Rattle.s3_canonical.specs.Encoding.{is_unreserved, encode_but, encode_path, encode_query}

-- the set escapes each byte that does not pass the test
abbrev pub Escapes : AsciiSet → (ℕ → Bool) → Type 0
Escapes set keeps = (b : ℕ) → should_percent_encode set b ≡ not (keeps b)

if_not : {X : Type 0} (b : Bool) (x y : X) → cond (not b) x y ≡ cond b y x
if_not true x y = refl
if_not false x y = refl

-- percent-encoding by that set is encoding all but what passes
pub percent_encode-is : (set : AsciiSet) (keeps : ℕ → Bool) → Escapes set keeps → (bytes : List ℕ) → percent_encode set bytes ≡ encode_but keeps bytes
unfolding percent_encode
percent_encode-is set keeps escapes [] = refl
percent_encode-is set keeps escapes (b ∷ bytes) =
    rw (escapes b, if_not (keeps b) (percent_encode_byte b) (b ∷ []), percent_encode-is set keeps escapes bytes) refl

-- a set that agrees with the test below 128, where the test passes nothing above
Escapes-from_table : (set : AsciiSet) (keeps : ℕ → Bool) → agree_below (contains set) (λ b. not (keeps b)) 128 ≡ true → ((b : ℕ) → 128 ≤ b → keeps b ≡ false) → Escapes set keeps
unfolding should_percent_encode
Escapes-from_table set keeps table above b =
    ⊎_elim
    (λ below. let same = agree_below_at (contains set) (λ k. not (keeps k)) 128 b table below in grind (arith, nat_tests))
    (λ past. let none = above b past in grind (arith, nat_tests))
    (cases_lt b 128)

-- no byte outside ASCII is unreserved
reserved_above : (b : ℕ) → 128 ≤ b → is_unreserved b ≡ false
reserved_above b past = grind (arith, nat_tests)

reserved_or_slash_above : (b : ℕ) → 128 ≤ b → (is_unreserved b || b == 47) ≡ false
reserved_or_slash_above b past = grind (arith, nat_tests)

-- the two encodings of the code
pub percent_encode-query : (bytes : List ℕ) → percent_encode QUERY_ESCAPES bytes ≡ encode_query bytes
unfolding encode_query
percent_encode-query = percent_encode-is QUERY_ESCAPES is_unreserved (Escapes-from_table QUERY_ESCAPES is_unreserved refl reserved_above)

pub percent_encode-path : (bytes : List ℕ) → percent_encode PATH_ESCAPES bytes ≡ encode_path bytes
unfolding encode_path
percent_encode-path = percent_encode-is PATH_ESCAPES (λ b. is_unreserved b || b == 47) (Escapes-from_table PATH_ESCAPES (λ b. is_unreserved b || b == 47) refl reserved_or_slash_above)
