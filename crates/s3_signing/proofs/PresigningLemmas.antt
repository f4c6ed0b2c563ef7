-- A head that uses a presigned one is verified while it is current, by a server that knows the signer.
use Rattle.std.proofs.Common.{◌≡◌, ◌↔◌, ℕ, Bool, true, false, List, Ok, Err, refl, sym, ap, ◌∙◌, subst, inl, inr}
use Rattle.std.proofs.lemmas.Bool.{cases_Bool, cond-true, cond-false}
use Rattle.std.proofs.lemmas.Cmp.{nat_list_eq_equiv}
use Rattle.s3_terms.specs.declared.code.Code.{Code}
use Rattle.s3_terms.specs.declared.code.Code.TheVariants.{AccessDenied, InvalidURI}
use Rattle.s3_terms.proofs.FaultLemmas.{test_ok}
use Rattle.s3_calendar.specs.Moment.{stamp_seconds, stamp_date}
use Rattle.s3_config.specs.Settings.{Settings}
use Rattle.s3_http_heads.specs.Head.{HeadParts}
use Rattle.s3_http_heads.specs.Target.{TargetParts, is_unreadable, target_of, target_parts}
use Rattle.s3_canonical.specs.Request.{canonical_request}
use Rattle.s3_signing.specs.Accepted.{Knows}
use Rattle.s3_signing.specs.Key.{signing_key}
use Rattle.s3_signing.specs.Names.{cover_of}
use Rattle.s3_signing.specs.Presigned.{Presigned, is_presigned, presigned_at}
use Rattle.s3_signing.specs.Presigning.{IsSound, PresignedIsVerified, SaysPresigned, Uses, presigned_by, presigned_proof, presigned_signature, written_by}
use Rattle.s3_signing.specs.Signature.{signature_of}
use Rattle.s3_signing.specs.Verdict.{Checked, checked_head, checked_query, head_verdict, is_current, key_proved, presigned_secret_at}
use Rattle.s3_signing.specs.Word.{unsigned_payload}

module _ (id secret region : List ℕ) (presigned : HeadParts) (stamp : List ℕ) (expires : ℕ) (says : SaysPresigned id secret region presigned stamp expires) (head : HeadParts) (uses : Uses presigned head) (settings : Settings) (knows : Knows settings id secret region) (moment : ℕ) where
  -- what the query says
  abbrev asked : Presigned
  asked = presigned_by id secret region presigned stamp expires

  -- what is found in the head
  abbrev found : Checked
  found = record { sent = asked.sent; stamp = stamp; secret = secret; word = unsigned_payload }

  same_target : target_of head.target ≡ Ok (target_parts presigned.target)
  unfolding target_of
  same_target = rw (uses.target, says.readable) refl

  -- the signature is the same over either head
  same_signature : signature_of secret stamp region head (cover_of presigned) unsigned_payload ≡ presigned_signature secret region presigned stamp
  unfolding signature_of canonical_request
  same_signature = rw (uses.lines, uses.method, uses.target) refl

  module _ (current : is_current (stamp_seconds stamp) expires moment ≡ true) where
    own_secret : presigned_secret_at settings moment asked ≡ Ok secret
    unfolding presigned_secret_at
    own_secret =
        rw (knows.place, nat_list_eq_equiv.refl region, nat_list_eq_equiv.refl (stamp_date stamp), knows.key, current) refl

    own_checked : checked_head settings head moment ≡ Ok found
    unfolding checked_head checked_query
    own_checked =
        rw (same_target, says.presigned, uses.sound.no_authorization, says.says, own_secret, uses.sound.word, uses.sound.covered) refl

    -- and the signature is the formula
    own_key : key_proved settings head found ≡ Ok (signing_key secret (stamp_date stamp) region)
    unfolding key_proved
    own_key =
        rw (knows.place, same_signature, nat_list_eq_equiv.refl (presigned_signature secret region presigned stamp)) refl

    verified : head_verdict settings head moment ≡ Ok (presigned_proof secret region presigned stamp)
    unfolding head_verdict
    verified = rw (own_checked, own_key, knows.place) refl

  module _ (past : is_current (stamp_seconds stamp) expires moment ≡ false) where
    late_secret : presigned_secret_at settings moment asked ≡ Err AccessDenied
    unfolding presigned_secret_at
    late_secret =
        rw (knows.place, nat_list_eq_equiv.refl region, nat_list_eq_equiv.refl (stamp_date stamp), knows.key, past) refl

    late_checked : checked_head settings head moment ≡ Err AccessDenied
    unfolding checked_head checked_query
    late_checked = rw (same_target, says.presigned, uses.sound.no_authorization, says.says, late_secret) refl

    refused : head_verdict settings head moment ≡ Err AccessDenied
    unfolding head_verdict
    refused = rw late_checked refl

pub presigned_is_verified : PresignedIsVerified
presigned_is_verified id secret region presigned stamp expires says head uses settings moment knows =
    let now = is_current (stamp_seconds stamp) expires moment in
    elim (cases_Bool now) [
      | inl current ↦ verified id secret region presigned stamp expires says head uses settings knows moment current ∙ sym (cond-true now _ _ current)
      | inr past ↦ refused id secret region presigned stamp expires says head uses settings knows moment past ∙ sym (cond-false now _ _ past)
    ]

-- ---- whether a head says so

-- a target that is read can be
readable_of : (text : List ℕ) (target : TargetParts) → target_of text ≡ Ok target → is_unreadable text ≡ false
unfolding target_of
readable_of text target is = (test_ok (is_unreadable text) InvalidURI _ target is).0

-- and one that isn't can't
pub not_readable : (text : List ℕ) (code : Code) → target_of text ≡ Err code → is_unreadable text ≡ false → ⊥
unfolding target_of
not_readable text code is readable = let read = rw readable at is in absurd (cc)

-- by its query, its names and their signature
pub says_by_parts : (id secret region : List ℕ) (head : HeadParts) (stamp : List ℕ) (expires : ℕ) (target : TargetParts) (signed digits : List ℕ) (b : Bool)
    → target_of head.target ≡ Ok target → target ≡ target_parts head.target → signed ≡ cover_of head → digits ≡ signature_of secret stamp region head signed unsigned_payload → IsSound head signed
    → ((b ≡ true) ↔ ((is_presigned target ≡ true) × (presigned_at target ≡ Ok (written_by id region stamp expires signed digits)))) → (b ≡ true) ↔ SaysPresigned id secret region head stamp expires
says_by_parts id secret region head stamp expires target signed digits b read said covers signs sound asked =
    let same : written_by id region stamp expires signed digits ≡ presigned_by id secret region head stamp expires =
    ap (written_by id region stamp expires signed) signs
    ∙ ap (λ (s : List ℕ). written_by id region stamp expires s (signature_of secret stamp region head s unsigned_payload)) covers in (
      λ yes.
          let both = asked.0 yes in
          record {
            readable = readable_of head.target target read;
            presigned = subst (λ t. is_presigned t ≡ true) said both.0;
            says = ap presigned_at (sym said) ∙ both.1 ∙ ap Ok same;
            sound = subst (IsSound head) covers sound;
          },
      λ says. asked.1 (subst (λ t. is_presigned t ≡ true) (sym said) says.presigned, ap presigned_at said ∙ says.says ∙ ap Ok (sym same)),
    )
