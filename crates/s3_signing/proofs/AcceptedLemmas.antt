-- A head that carries its signer's authorization is verified by a server that knows the signer.
use Rattle.std.proofs.Common.{◌≡◌, ℕ, Bool, true, false, not, arith, ◌&&◌, ◌||◌, ◌==◌, nat_le, List, [], ◌∷◌, ◌++◌, length, append_assoc, refl, sym, ap, ◌∙◌, inl, inr, Some, Ok, slice_get}
use Rattle.std.specs.Prelude.{codes, is_some, ok_or, option_and_then}
use Rattle.std.specs.Char.{is_ascii_digit}
use Rattle.std.specs.List.{list_all, join_with_byte}
use Rattle.std.specs.Str.{bytes_eq}
use Rattle.std.proofs.lemmas.Bool.{cases_Bool, and_parts, and_from, or_from}
use Rattle.std.proofs.lemmas.Cmp.{nat_list_eq_equiv}
use Rattle.std.proofs.lemmas.Option.{option_and_then_some, same_Some}
use Rattle.std.proofs.lemmas.Slice.Eq.{bytes_eq-Decides}
use Rattle.s3_text.specs.Characters.{comma, slash}
use Rattle.s3_text.specs.Digest.{is_hex_digest}
use Rattle.s3_text.proofs.JoinLemmas.{other_than}
use Rattle.s3_text.proofs.ListLemmas.{all_weaker, is_some-first_kept}
use Rattle.s3_text.proofs.OptionLemmas.{some_kept}
use Rattle.s3_terms.specs.declared.dialect.Dialect.{Dialect}
use Rattle.s3_terms.specs.declared.code.Code.TheVariants.{AccessDenied}
use Rattle.s3_calendar.specs.Moment.{is_stamp, is_stamp_date, is_stamp_form, is_stamp_time, stamp_seconds, stamp_date}
use Rattle.s3_config.specs.Settings.{Settings, Credentials, are_settings, are_access_keys, are_credentials, is_access_key_id, is_secret, is_region, is_id_byte, is_region_byte, secret_of}
use Rattle.s3_http_heads.specs.Head.{HeadParts, is_named, is_sent, only, values_of}
use Rattle.s3_authorization.specs.Authorization.{Parts, are_signed_names, authorization_of}
use Rattle.s3_authorization.specs.Spelling.{Spells, is_plain}
use Rattle.s3_http_heads.specs.Target.{is_unreadable, target_of, target_parts}
use Rattle.s3_signing.specs.Accepted.{Knows, IsReady, Carries, IsVerifiedWith, proved_by}
use Rattle.s3_signing.specs.Authorize.{authorization_text, credential_text, signature_to_write}
use Rattle.s3_signing.specs.Key.{signing_key}
use Rattle.s3_signing.specs.Names.{IsOrdered, cover_of, names_to_cover}
use Rattle.s3_signing.specs.Signature.{signature_of}
use Rattle.s3_signing.specs.Verdict.{Checked, authorization_at, checked_head, checked_lines, checked_stamp, head_verdict, is_near, is_word, key_proved, secret_at, sent_authorization, sent_stamp, sent_word, stamp_at, word_at, word_line, word_lines, word_of}
use Rattle.s3_signing.proofs.CoverLemmas.{AreCut, cover_enough, cover_form, cover_others}
use Rattle.s3_signing.proofs.OtherLineLemmas.{signature_same, values_of_other}
use Rattle.s3_signing.proofs.WordFormLemmas.{word_in}

-- ---- what is known of a signer and of a stamp

-- an id whose secret is there is one of the keys'
id_of_secret : (keys : List Credentials) (id secret : List ℕ) → list_all are_credentials keys ≡ true → secret_of keys id ≡ Some secret → is_access_key_id id ≡ true
unfolding are_credentials
id_of_secret [] id secret are is = absurd (cc)
id_of_secret (c ∷ keys) id secret are is =
    let parts = and_parts (is_access_key_id c.id && is_secret c.secret) (list_all are_credentials keys) are in
    elim (cases_Bool (bytes_eq c.id id)) [
      | inl same ↦ ap is_access_key_id (sym ((bytes_eq-Decides c.id id).0 same)) ∙ (and_parts (is_access_key_id c.id) _ parts.0).0
      | inr other ↦ id_of_secret keys id secret parts.1 (rw other at is)
    ]

module _ (settings : Settings) (id secret region : List ℕ) (knows : Knows settings id secret region) where
  -- a server's access key has an id of the form
  id_known : is_access_key_id id ≡ true
  unfolding are_settings are_access_keys
  id_known =
      let keys : are_access_keys settings.keys ≡ true = (and_parts _ _ (and_parts _ _ (and_parts _ _ knows.limits).0).0).1 in
      id_of_secret settings.keys id secret (and_parts _ _ (and_parts _ _ keys).0).1 knows.key

  -- and so has its region
  region_known : is_region region ≡ true
  unfolding are_settings
  region_known =
      ap is_region (sym knows.place) ∙ (and_parts _ _ (and_parts _ _ (and_parts _ _ knows.limits).0).0).0

-- the stamp that was sent is one
stamp_sent : (head : HeadParts) (stamp : List ℕ) → sent_stamp head ≡ Some stamp → is_stamp stamp ≡ true
stamp_sent head stamp is =
    option_and_then_some checked_stamp (only (values_of (codes "x-amz-date") head)) stamp is (λ text there kept.
    let sound = some_kept (is_stamp text) (Some text) stamp kept in
    ap is_stamp (sym (same_Some text stamp sound.1)) ∙ sound.0)

-- one line has a value
get_within : (words : List (List ℕ)) → length words ≡ 1 → (word : List ℕ) × (slice_get words 0 ≡ Some word)
get_within [] one = absurd (omega arith)
get_within (word ∷ words) one = (word, refl)

-- ---- what a signer writes is read as the parts that it was written of

-- what it says
abbrev signer_parts : List ℕ → List ℕ → List ℕ → HeadParts → List ℕ → Parts
signer_parts id secret region head stamp = record {
  id = id;
  date = stamp_date stamp;
  region = region;
  service = codes "s3";
  signed = cover_of head;
  signature = signature_to_write secret region head stamp;
}

joined_parts : (credential signed signature : List ℕ) → codes "AWS4-HMAC-SHA256 Credential=" ++ credential ++ codes ", SignedHeaders=" ++ signed ++ codes ", Signature=" ++ signature ≡ join_with_byte comma ((codes "AWS4-HMAC-SHA256 Credential=" ++ credential) ∷ (codes " SignedHeaders=" ++ signed) ∷ (codes " Signature=" ++ signature) ∷ [])
joined_parts credential signed signature = simp append_assoc

-- bytes that pass a test which slashes and commas fail are plain
plain_bytes : (p : ℕ → Bool) → p slash ≡ false → p comma ≡ false → (text : List ℕ) → list_all p text ≡ true → is_plain text ≡ true
plain_bytes p no_slash no_comma =
    all_weaker p (λ b. not (b == slash || b == comma))
    (λ b passes. ap not (or_from _ _ (other_than p slash no_slash b passes) (other_than p comma no_comma b passes)))

-- so its value spells them: one space stands behind the scheme and behind each comma
spells_own : (id secret region : List ℕ) (head : HeadParts) (stamp : List ℕ) → is_access_key_id id ≡ true → is_region region ≡ true → is_stamp stamp ≡ true → are_signed_names (cover_of head) ≡ true → is_hex_digest (signature_to_write secret region head stamp) ≡ true → Spells (authorization_text id secret region head stamp) (signer_parts id secret region head stamp)
unfolding authorization_text is_access_key_id is_region is_stamp
spells_own id secret region head stamp of_id of_region of_stamp names digits =
    let of_id_bytes = and_parts (nat_le 1 (length id) && nat_le (length id) 128) (list_all is_id_byte id) of_id in
    let some = (and_parts (nat_le 1 (length id)) (nat_le (length id) 128) of_id_bytes.0).0 in
    let of_region_bytes = and_parts (nat_le 1 (length region) && nat_le (length region) 64) (list_all is_region_byte region) of_region in
    let of_form : is_stamp_form stamp ≡ true = (and_parts (is_stamp_form stamp) (is_stamp_date stamp) (and_parts (is_stamp_form stamp && is_stamp_date stamp) (is_stamp_time stamp) of_stamp).0).0 in
    let of_date : list_all is_ascii_digit (stamp_date stamp) ≡ true = (and_parts _ _ (and_parts _ _ (and_parts _ _ (and_parts _ _ of_form).0).0).0).1 in
    record {
      form = and_from _ _ (and_from _ _ some names) digits;
      plain = and_from _ _ (plain_bytes is_id_byte refl refl id of_id_bytes.1)
          (and_from _ _ (plain_bytes is_ascii_digit refl refl (stamp_date stamp) of_date)
          (and_from _ _ (plain_bytes is_region_byte refl refl region of_region_bytes.1) refl));
      spaces = record { credential = 0; signed = 1; signature = 1 };
      written = joined_parts (credential_text id stamp region) (cover_of head) (signature_to_write secret region head stamp);
    }

-- ---- the lines of the signed head

module _ (head signed : HeadParts) (value : List ℕ) (carries : Carries head value signed) where
  stamp_same : sent_stamp signed ≡ sent_stamp head
  stamp_same =
      ap (λ values. option_and_then checked_stamp (only values))
      (values_of_other head signed carries.lines (codes "x-amz-date") refl)

  words_same : word_lines signed ≡ word_lines head
  words_same = values_of_other head signed carries.lines (codes "x-amz-content-sha256") refl

  own_sent : is_sent (codes "authorization") signed ≡ true
  unfolding values_of
  own_sent =
      sym (is_some-first_kept (is_named (codes "authorization")) (λ (line : List ℕ × List ℕ). line.1) signed.headers)
      ∙ ap (λ values. is_some (slice_get values 0)) carries.own

  own_parts : (parts : Parts) → authorization_of value ≡ Some parts → sent_authorization signed ≡ Some parts
  own_parts parts is = ap (λ values. option_and_then authorization_of (only values)) carries.own ∙ is

  -- ---- each stage of the verdict gives what the signer meant

  target_passes : is_unreadable head.target ≡ false → target_of signed.target ≡ Ok (target_parts head.target)
  unfolding target_of
  target_passes readable = rw (carries.target, readable) refl

  own_authorization : (parts : Parts) → authorization_of value ≡ Some parts → authorization_at signed ≡ Ok parts
  unfolding authorization_at
  own_authorization parts is = rw (own_sent, own_parts parts is) refl

  own_stamp : (stamp : List ℕ) → sent_stamp head ≡ Some stamp → stamp_at signed ≡ Ok stamp
  unfolding stamp_at
  own_stamp stamp is = ap (λ sent. ok_or sent AccessDenied) (stamp_same ∙ is)

  own_line : length (word_lines head) ≡ 1 → word_line signed ≡ Ok (sent_word head)
  unfolding word_line
  own_line one =
      let first = get_within (word_lines head) one in
      rw (words_same, first.1, one) refl

  own_word : (dialect : Dialect) → length (word_lines head) ≡ 1 → is_word (sent_word head) ≡ true → word_at dialect signed ≡ Ok (sent_word head)
  unfolding word_at word_of
  own_word dialect one sound = rw (own_line one, word_in dialect (sent_word head) sound) refl

  module _ (settings : Settings) (id secret region stamp : List ℕ) (knows : Knows settings id secret region) (ready : IsReady head stamp) (ordered : IsOrdered (names_to_cover head)) (cut : AreCut) where
    -- what the signer wrote
    abbrev meant : Parts
    meant = signer_parts id secret region head stamp

    -- the signature is the same over either head
    same_signature : signature_of secret stamp region signed (cover_of head) (sent_word head) ≡ signature_to_write secret region head stamp
    same_signature =
        signature_same head signed carries.lines carries.method carries.target secret stamp region (cover_of head) (sent_word head)
        (cover_others head ready.names ready.host ordered cut)

    -- the scope is the server's
    own_secret : (moment : ℕ) → is_near (stamp_seconds stamp) moment ≡ true → secret_at settings moment meant stamp ≡ Ok secret
    unfolding secret_at
    own_secret moment near =
        rw (knows.place, nat_list_eq_equiv.refl region, nat_list_eq_equiv.refl (stamp_date stamp), knows.key, near) refl

    -- what is found in the head, of which enough is covered
    abbrev found : Checked
    found = record { sent = meant; stamp = stamp; secret = secret; word = sent_word head }

    own_checked : (moment : ℕ) → is_near (stamp_seconds stamp) moment ≡ true → authorization_of value ≡ Some meant → checked_head settings signed moment ≡ Ok found
    unfolding checked_head checked_lines
    own_checked moment near is =
        rw (target_passes ready.readable, ready.unsigned_query, own_authorization meant is, own_stamp stamp ready.stamped, own_secret moment near, own_word settings.dialect ready.one_word ready.word, cover_enough head ready.names ready.host ordered cut signed carries.lines) refl

    -- and the signature is the formula
    own_key : key_proved settings signed found ≡ Ok (signing_key secret (stamp_date stamp) region)
    unfolding key_proved
    own_key =
        rw (knows.place, same_signature, nat_list_eq_equiv.refl (signature_to_write secret region head stamp)) refl

    -- where the authorization reads back as what its signer meant, the head is verified
    accepted : (moment : ℕ) → is_near (stamp_seconds stamp) moment ≡ true → authorization_of value ≡ Some meant → head_verdict settings signed moment ≡ Ok (proved_by secret region head stamp)
    unfolding head_verdict
    accepted moment near is = rw (own_checked moment near is, own_key, knows.place) refl

-- so the value that a signer writes is one with which a head is verified
pub IsVerifiedWith-written : (id secret region : List ℕ) (head : HeadParts) (stamp value : List ℕ) → value ≡ authorization_text id secret region head stamp → is_hex_digest (signature_to_write secret region head stamp) ≡ true → IsOrdered (names_to_cover head) → AreCut → ((text : List ℕ) (p : Parts) → Spells text p → authorization_of text ≡ Some p) → IsVerifiedWith id secret region head stamp value
IsVerifiedWith-written id secret region head stamp value written digits ordered cut read settings moment signed knows ready near carries =
    accepted head signed value carries settings id secret region stamp knows ready ordered cut moment near
    (ap authorization_of written
    ∙ read (authorization_text id secret region head stamp) (signer_parts id secret region head stamp)
    (spells_own id secret region head stamp (id_known settings id secret region knows) (region_known settings id secret region knows) (stamp_sent head stamp ready.stamped)
    (cover_form head ready.names ready.host ordered cut) digits))
