-- The values that are read as the parts of an authorization are those that spell them.
use Rattle.std.proofs.Common.{◌≡◌, ◌≢◌, ℕ, zero, suc, true, false, not, ◌&&◌, ◌||◌, ◌==◌, nat_lt, List, [], ◌∷◌, ◌++◌, length, drop, refl, sym, ap, ◌∙◌, subst, codes, Some, None, inl, inr}
use Rattle.std.specs.Prelude.{nat_eq}
use Rattle.std.specs.List.{list_all, starts_with, join_with_byte}
use Rattle.std.specs.Str.{bytes_eq}
use Rattle.std.proofs.lemmas.Bool.{cases_Bool, cond-true, cond-false, and_parts, and_from, eqb-true, not-true, or_from, or_parts}
use Rattle.std.proofs.lemmas.Bool.Decides.{Decides-eqb}
use Rattle.std.proofs.lemmas.Option.{option_and_then_some, same_Some}
use Rattle.std.proofs.lemmas.List.Splits.{join_with_byte-slice_split}
use Rattle.std.proofs.lemmas.Slice.Eq.{bytes_eq-Decides, starts_is}
use Rattle.httparse.specs.Grammar.{is_token, is_token_byte}
use Rattle.s3_text.specs.Characters.{comma, is_lower_hex, semicolon, slash, space}
use Rattle.s3_text.specs.Cut.{parts_at}
use Rattle.s3_text.specs.Digest.{is_hex_digest}
use Rattle.s3_text.proofs.JoinLemmas.{joined_all, lacks, lacks_failing, split_all, split_joined, split_lacks}
use Rattle.s3_text.proofs.ListLemmas.{all_weaker}
use Rattle.s3_text.proofs.OptionLemmas.{some_kept}
use Rattle.s3_authorization.specs.Authorization.{Parts, are_parts, are_signed_names, authorization_of, behind, checked_parts, credential_at, is_signed_name, scheme, signature_at, signed_at, skip_spaces, three_parts, with_credential}
use Rattle.s3_authorization.specs.Spelling.{Spaces, Spells, credential_of, is_plain, spaced, spelling}

-- another count of parts says nothing
pub not_three : (parts : List (List ℕ)) → length parts ≢ 3 → three_parts parts ≡ None
not_three (a ∷ b ∷ c ∷ []) other = absurd (other refl)
not_three [] other = refl
not_three (a ∷ []) other = refl
not_three (a ∷ b ∷ []) other = refl
not_three (a ∷ b ∷ c ∷ d ∷ rest) other = refl

-- ---- signed names

-- they have the bytes of tokens alone
name_lacks : (c : ℕ) → is_token_byte c ≡ false → (name : List ℕ) → is_signed_name name ≡ true → lacks c name ≡ true
name_lacks c other name is =
    lacks_failing is_token_byte c other name (and_parts (nat_lt 0 (length name)) (list_all is_token_byte name) (and_parts (is_token name) _ is).0).1

-- so they are cut again where they were joined
pub names_cut : (names : List (List ℕ)) → names ≢ [] → list_all is_signed_name names ≡ true → parts_at semicolon (join_with_byte semicolon names) ≡ names
unfolding is_token_byte
names_cut [] some are = absurd (some refl)
names_cut (name ∷ names) some are =
    split_joined semicolon name names (all_weaker is_signed_name (lacks semicolon) (name_lacks semicolon refl) (name ∷ names) are)

-- and have no comma
names_lack : (signed : List ℕ) → are_signed_names signed ≡ true → lacks comma signed ≡ true
unfolding is_token_byte
names_lack signed are =
    ap (lacks comma) (sym (join_with_byte-slice_split semicolon signed))
    ∙ joined_all (λ b. not (b == comma)) semicolon refl (parts_at semicolon signed)
    (all_weaker is_signed_name (lacks comma) (name_lacks comma refl) (parts_at semicolon signed) (and_parts (list_all is_signed_name (parts_at semicolon signed)) _ are).0)

-- ---- spaces

-- they are skipped
skip_more : (n : ℕ) (text : List ℕ) → skip_spaces (spaced n text) ≡ skip_spaces text
skip_more zero text = refl
skip_more (suc n) text = skip_more n text

-- and are no commas
lacks-spaced : (n : ℕ) (text : List ℕ) → lacks comma (spaced n text) ≡ lacks comma text
lacks-spaced zero text = refl
lacks-spaced (suc n) text = lacks-spaced n text

-- what was skipped is spaces
skipped : (text : List ℕ) → (n : ℕ) × (text ≡ spaced n (skip_spaces text))
skipped [] = (0, refl)
skipped (b ∷ text) = elim (cases_Bool (b == space)) [
  | inl is ↦
      let rest = skipped text in
      (suc rest.0, ap (λ c. c ∷ text) (eqb-true b space is) ∙ ap (λ l. space ∷ l) (rest.1) ∙ sym (ap (spaced (suc rest.0)) (cond-true (b == space) (skip_spaces text) (b ∷ text) is)))
  | inr other ↦ (0, sym (cond-false (b == space) (skip_spaces text) (b ∷ text) other))
]

-- ---- plain texts

plain_lacks : (text : List ℕ) → is_plain text ≡ true → (lacks slash text ≡ true) × (lacks comma text ≡ true)
plain_lacks text plain =
    let neither = λ (b : ℕ) (is : not (b == slash || b == comma) ≡ true). or_parts (b == slash) (b == comma) (not-true (b == slash || b == comma) is) in (
      all_weaker (λ b. not (b == slash || b == comma)) (λ b. not (b == slash)) (λ b is. ap not (neither b is).0) text plain,
      all_weaker (λ b. not (b == slash || b == comma)) (λ b. not (b == comma)) (λ b is. ap not (neither b is).1) text plain,
    )

-- the parts of a text without a comma, cut at its slashes, are plain
cut_is_plain : (text : List ℕ) → lacks comma text ≡ true → list_all is_plain (parts_at slash text) ≡ true
cut_is_plain =
    split_all (λ b. b == slash) (λ b. not (b == comma)) (λ b. not (b == slash || b == comma))
    (λ b uncut other. ap not (or_from _ _ uncut (not-true (b == comma) other)))

-- ---- a spelling is read as its parts

-- a part is found behind spaces and its name
behind_spaces : (name : List ℕ) (n : ℕ) (value : List ℕ) → skip_spaces (name ++ value) ≡ name ++ value → behind name (name ++ value) ≡ Some value → behind name (skip_spaces (spaced n (name ++ value))) ≡ Some value
behind_spaces name n value begins found = ap (behind name) (skip_more n (name ++ value) ∙ begins) ∙ found

module _ (p : Parts) (form : are_parts p ≡ true) (plain : list_all is_plain (p.id ∷ p.date ∷ p.region ∷ p.service ∷ []) ≡ true) where
  abbrev credential_parts : List (List ℕ)
  credential_parts = p.id ∷ p.date ∷ p.region ∷ p.service ∷ codes "aws4_request" ∷ []

  -- the credential is cut at its four slashes
  cut_credential : parts_at slash (credential_of p) ≡ credential_parts
  cut_credential =
      split_joined slash p.id (p.date ∷ p.region ∷ p.service ∷ codes "aws4_request" ∷ [])
      (all_weaker is_plain (lacks slash) (λ t is. (plain_lacks t is).0) (p.id ∷ p.date ∷ p.region ∷ p.service ∷ []) plain)

  -- no part has a comma
  credential_lacks : lacks comma (credential_of p) ≡ true
  credential_lacks =
      joined_all (λ b. not (b == comma)) slash refl credential_parts
      (all_weaker is_plain (lacks comma) (λ t is. (plain_lacks t is).1) (p.id ∷ p.date ∷ p.region ∷ p.service ∷ []) plain)

  -- so that the spelling is cut at its two
  pub read_spelling : (spaces : Spaces) → authorization_of (spelling p spaces) ≡ Some p
  unfolding authorization_of
  read_spelling spaces =
      let two = and_parts (nat_lt 0 (length p.id) && are_signed_names p.signed) (is_hex_digest p.signature) form in
      let names = (and_parts (nat_lt 0 (length p.id)) (are_signed_names p.signed) two.0).1 in
      let digits = (and_parts (length p.signature == 64) (list_all is_lower_hex p.signature) two.1).1 in
      ap three_parts
      (split_joined comma
      (scheme ++ spaced spaces.credential (codes "Credential=" ++ credential_of p))
      (spaced spaces.signed (codes "SignedHeaders=" ++ p.signed) ∷ spaced spaces.signature (codes "Signature=" ++ p.signature) ∷ [])
      (and_from _ _ (lacks-spaced spaces.credential (codes "Credential=" ++ credential_of p) ∙ credential_lacks)
      (and_from _ _ (lacks-spaced spaces.signed (codes "SignedHeaders=" ++ p.signed) ∙ names_lack p.signed names)
      (and_from _ _ (lacks-spaced spaces.signature (codes "Signature=" ++ p.signature) ∙ lacks_failing is_lower_hex comma refl p.signature digits) refl))))
      ∙ rw (
        behind_spaces (codes "Credential=") spaces.credential (credential_of p) refl refl,
        behind_spaces (codes "SignedHeaders=") spaces.signed p.signed refl refl,
        behind_spaces (codes "Signature=") spaces.signature p.signature refl refl,
      )
      (ap (with_credential p.signed p.signature) cut_credential ∙ cond-true (are_parts p) (Some p) None form)

pub read_spelled : (text : List ℕ) (p : Parts) → Spells text p → authorization_of text ≡ Some p
read_spelled text p is = ap authorization_of is.written ∙ read_spelling p is.form is.plain is.spaces

-- ---- what is read as parts spells them

behind_is : (front text rest : List ℕ) → behind front text ≡ Some rest → text ≡ front ++ rest
behind_is front text rest is =
    let begins = some_kept (starts_with nat_eq text front) (Some (drop (length front) text)) rest is in
    (starts_is Decides-eqb text front (starts_with nat_eq text front) refl).0 begins.0 ∙ ap (λ r. front ++ r) (same_Some _ _ begins.1)

spaced_is : (name text value : List ℕ) → behind name (skip_spaces text) ≡ Some value → (n : ℕ) × (text ≡ spaced n (name ++ value))
spaced_is name text value is =
    let some = skipped text in
    (some.0, some.1 ∙ ap (spaced some.0) (behind_is name (skip_spaces text) value is))

credential_is : (text credential : List ℕ) → credential_at text ≡ Some credential → (n : ℕ) × (text ≡ scheme ++ spaced n (codes "Credential=" ++ credential))
credential_is text credential is =
    option_and_then_some (λ rest. behind (codes "Credential=") (skip_spaces rest)) (behind scheme text) credential is
    (λ rest begins named.
    let some = spaced_is (codes "Credential=") rest credential named in
    (some.0, behind_is scheme text rest begins ∙ ap (λ r. scheme ++ r) some.1))

-- three texts that say parts are those of a spelling
three_spell : (first second third : List ℕ) (p : Parts) (credential signed signature : List ℕ) → lacks comma first ≡ true → credential_at first ≡ Some credential → signed_at second ≡ Some signed → signature_at third ≡ Some signature → (cut : List (List ℕ)) → parts_at slash credential ≡ cut → with_credential signed signature cut ≡ Some p → Spells (join_with_byte comma (first ∷ second ∷ third ∷ [])) p
three_spell first second third p credential signed signature none at_first at_second at_third (id ∷ date ∷ region ∷ service ∷ last ∷ []) cut is =
    let q : Parts = record { id = id; date = date; region = region; service = service; signed = signed; signature = signature } in
    let ends = some_kept (bytes_eq last (codes "aws4_request")) (checked_parts q) p is in
    let made = some_kept (are_parts q) (Some q) p ends.1 in
    let parts : parts_at slash credential ≡ id ∷ date ∷ region ∷ service ∷ codes "aws4_request" ∷ [] =
    cut ∙ ap (λ l. id ∷ date ∷ region ∷ service ∷ l ∷ []) ((bytes_eq-Decides last (codes "aws4_request")).0 ends.0) in
    let whole : credential ≡ credential_of q = sym (join_with_byte-slice_split slash credential) ∙ ap (join_with_byte slash) parts in
    let one = credential_is first credential at_first in
    let two = spaced_is (codes "SignedHeaders=") second signed at_second in
    let three = spaced_is (codes "Signature=") third signature at_third in
    let no_comma : lacks comma credential ≡ true =
    sym (ap (lacks comma) one.1 ∙ lacks-spaced one.0 (codes "Credential=" ++ credential)) ∙ none in
    let first_is = one.1 ∙ ap (λ c. scheme ++ spaced one.0 (codes "Credential=" ++ c)) whole in
    subst (Spells (join_with_byte comma (first ∷ second ∷ third ∷ []))) (same_Some q p made.1)
    (record {
      form = made.0;
      plain = ap (list_all is_plain) (sym parts) ∙ cut_is_plain credential no_comma;
      spaces = record { credential = one.0; signed = two.0; signature = three.0 };
      written = λ i. join_with_byte comma (first_is i ∷ two.1 i ∷ three.1 i ∷ []);
    })
three_spell first second third p credential signed signature none at_first at_second at_third other cut is = absurd (cc)

parts_spell : (parts : List (List ℕ)) (p : Parts) → list_all (lacks comma) parts ≡ true → three_parts parts ≡ Some p → Spells (join_with_byte comma parts) p
parts_spell (first ∷ second ∷ third ∷ []) p none is =
    option_and_then_some _ (credential_at first) p is (λ credential at_first named.
    option_and_then_some _ (signed_at second) p named (λ signed at_second known.
    option_and_then_some _ (signature_at third) p known (λ signature at_third held.
    three_spell first second third p credential signed signature (and_parts (lacks comma first) (list_all (lacks comma) (second ∷ third ∷ [])) none).0
    at_first at_second at_third (parts_at slash credential) refl held)))
parts_spell other p none is = absurd (cc)

pub spells : (text : List ℕ) (p : Parts) → authorization_of text ≡ Some p → Spells text p
unfolding authorization_of
spells text p is =
    subst (λ t. Spells t p) (join_with_byte-slice_split comma text)
    (parts_spell (parts_at comma text) p (split_lacks comma text) is)
