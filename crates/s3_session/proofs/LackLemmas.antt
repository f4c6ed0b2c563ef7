-- Nothing that is judged of a head without memory says that memory ran out.
use Rattle.std.proofs.Common.{◌≡◌, ℕ, Bool, true, false, List, Option, Some, None, Result, Ok, Err, IsOk, ◌⊎◌, inl, inr, refl, sym, ap, ◌∙◌}
use Rattle.std.specs.Prelude.{⊤, if◌then◌else◌, ok_or, not, ◌&&◌, ◌==◌, nat_lt, length, codes}
use Rattle.s3_config.specs.Settings.{Settings, secret_of}
use Rattle.s3_terms.specs.Fault.{refuse, ◌>>◌, ◌>>=◌}
use Rattle.s3_terms.specs.declared.dialect.Dialect.{Dialect}
use Rattle.s3_terms.specs.declared.dialect.Dialect.TheVariants.{Json, S3}
use Rattle.s3_terms.specs.declared.code.Code.{Code}
use Rattle.s3_terms.specs.declared.code.Code.TheVariants.{AccessDenied, AuthorizationHeaderMalformed, AuthorizationQueryParametersError, EntityTooLarge, InternalError, InvalidAccessKeyId, InvalidArgument, InvalidRequest, InvalidURI, MissingContentLength, NotImplemented, RequestTimeTooSkewed}
use Rattle.s3_calendar.specs.Moment.{stamp_seconds}
use Rattle.s3_http_heads.specs.BodyLength.{announced, coded_framing, decoded_length, framing_of, framing_with_coding, length_lines, may_be_coded, needs_length, sized_framing}
use Rattle.s3_http_heads.specs.declared.body_length.BodyFraming.{BodyFraming}
use Rattle.s3_http_heads.specs.declared.body_length.BodyFraming.TheVariants.{Sized, Coded}
use Rattle.s3_http_heads.specs.Head.{HeadParts, first_value, is_sent}
use Rattle.s3_http_heads.specs.Target.{TargetParts, target_of}
use Rattle.s3_signing.specs.Presigned.{Presigned, check_algorithm, is_presigned, presigned_at, presigned_expires, presigned_parts, presigned_stamp, sent_once}
use Rattle.s3_signing.specs.Verdict.{authorization_at, checked_head, checked_lines, checked_query, head_verdict, is_current, is_near, is_other_scope, presigned_secret_at, secret_at, stamp_at, word_at, word_line, word_lines, word_of}
use Rattle.s3_session.specs.Admission.{admission_of}
use Rattle.s3_session.specs.Admitting.{Admits, early_admission}

-- ---- of pipelines

-- it doesn't say that memory ran out
abbrev Never : {A : Type 0} → Result A Code → Type 0
Never result = ¬ (result ≡ Err InternalError)

abbrev is_other : Code → Bool
is_other InternalError = false
is_other other = true

never_ok : {A : Type 0} (value : A) → Never (Ok value)
never_ok value is = absurd (cc)

never_err : {A : Type 0} (code : Code) → is_other code ≡ true → Never {A = A} (Err code)
never_err code other is = let same : code ≡ InternalError = cc in let clash = sym other ∙ ap is_other same in absurd (cc)

never_then : {A B : Type 0} (first : Result A Code) (next : A → Result B Code) → Never first → ((value : A) → Never (next value)) → Never (first >>= next)
never_then (Ok value) next here there = there value
never_then (Err code) next here there = λ is. (let same : code ≡ InternalError = cc in here (ap Err same))

never_on : {B : Type 0} (first : Result ⊤ Code) (next : Result B Code) → Never first → Never next → Never (first >> next)
never_on (Ok done) next here there = there
never_on (Err code) next here there = λ is. (let same : code ≡ InternalError = cc in here (ap Err same))

never_test : (test : Bool) (code : Code) → is_other code ≡ true → Never (refuse test code)
never_test true code other = never_err code other
never_test false code other = never_ok tt

never_refuse : {B : Type 0} (test : Bool) (code : Code) → is_other code ≡ true → (next : Result B Code) → Never next → Never (refuse test code >> next)
never_refuse test code other next there = never_on (refuse test code) next (never_test test code other) there

never_some : {A : Type 0} (found : Option A) (code : Code) → is_other code ≡ true → Never (ok_or found code)
never_some (Some value) code other = never_ok value
never_some None code other = never_err code other

-- ---- of the lines of a head

never_sized : (head : HeadParts) (limit : ℕ) → Never (sized_framing head limit)
unfolding sized_framing
never_sized head limit =
    never_then _ _ (never_some (announced (length_lines head)) InvalidRequest refl)
    (λ length. never_refuse (needs_length head && not (is_sent (codes "content-length") head)) MissingContentLength refl _
    (never_refuse (nat_lt limit length) EntityTooLarge refl _ (never_ok (Sized length))))

never_coded : (head : HeadParts) (limit : ℕ) → Never (coded_framing head limit)
unfolding coded_framing
never_coded head limit =
    never_refuse (not (may_be_coded head)) InvalidRequest refl _ (never_refuse (not (is_sent (codes "x-amz-decoded-content-length") head)) NotImplemented refl _
    (never_then _ _ (never_some (decoded_length head) InvalidRequest refl)
    (λ decoded. never_refuse (nat_lt limit decoded) EntityTooLarge refl _ (never_ok (Coded limit decoded)))))

never_with_coding : (dialect : Dialect) (head : HeadParts) (limit : ℕ) → Never (framing_with_coding dialect head limit)
never_with_coding Json head limit = never_err NotImplemented refl
never_with_coding S3 head limit = never_coded head limit

never_if : {A : Type 0} (test : Bool) (one other : Result A Code) → Never one → Never other → Never (if test then one else other)
never_if true one other first second = first
never_if false one other first second = second

never_framed : (dialect : Dialect) (head : HeadParts) (limit : ℕ) → Never (framing_of dialect head limit)
unfolding framing_of
never_framed dialect head limit =
    never_if (is_sent (codes "transfer-encoding") head) (framing_with_coding dialect head limit) (sized_framing head limit)
    (never_with_coding dialect head limit) (never_sized head limit)

never_addressed : (target : List ℕ) → Never (target_of target)
unfolding target_of
never_addressed target = never_refuse _ InvalidURI refl _ (never_ok _)

never_authorized : (head : HeadParts) → Never (authorization_at head)
unfolding authorization_at
never_authorized head = never_refuse _ AccessDenied refl _ (never_some _ AuthorizationHeaderMalformed refl)

never_stamped : (head : HeadParts) → Never (stamp_at head)
unfolding stamp_at
never_stamped head = never_some _ AccessDenied refl

never_line : (head : HeadParts) → Never (word_line head)
unfolding word_line
never_line head =
    never_then _ _ (never_some (first_value (codes "x-amz-content-sha256") head) InvalidRequest refl)
    (λ text. never_refuse (not (length (word_lines head) == 1)) InvalidArgument refl _ (never_ok text))

never_word_of : (dialect : Dialect) (text : List ℕ) → Never (word_of dialect text)
unfolding word_of
never_word_of dialect text = never_refuse _ NotImplemented refl _ (never_refuse _ InvalidArgument refl _ (never_ok text))

never_word : (dialect : Dialect) (head : HeadParts) → Never (word_at dialect head)
unfolding word_at
never_word dialect head = never_then _ _ (never_line head) (never_word_of dialect)

never_lines : (settings : Settings) (head : HeadParts) (moment : ℕ) → Never (checked_lines settings head moment)
unfolding checked_lines secret_at
never_lines settings head moment =
    never_then _ _ (never_authorized head) (λ sent. never_then _ _ (never_stamped head) (λ stamp. never_then _ _
    (never_refuse (is_other_scope settings sent stamp) AuthorizationHeaderMalformed refl _
    (never_then _ _ (never_some (secret_of settings.keys sent.id) InvalidAccessKeyId refl)
    (λ secret. never_refuse (not (is_near (stamp_seconds stamp) moment)) RequestTimeTooSkewed refl _ (never_ok secret))))
    (λ secret. never_then _ _ (never_word settings.dialect head) (λ word. never_refuse _ AccessDenied refl _ (never_ok _)))))

-- ---- of a query

never_once : (name : List ℕ) (target : TargetParts) → Never (sent_once name target)
unfolding sent_once
never_once name target = never_some _ AuthorizationQueryParametersError refl

never_parts : (target : TargetParts) → Never (presigned_parts target)
unfolding presigned_parts
never_parts target =
    never_then _ _ (never_once _ target) (λ credential. never_then _ _ (never_once _ target) (λ signed. never_then _ _ (never_once _ target)
    (λ signature. never_some _ AuthorizationQueryParametersError refl)))

never_presigned_stamp : (target : TargetParts) → Never (presigned_stamp target)
unfolding presigned_stamp
never_presigned_stamp target = never_then _ _ (never_once _ target) (λ stamp. never_refuse _ AuthorizationQueryParametersError refl _ (never_ok stamp))

never_expires : (target : TargetParts) → Never (presigned_expires target)
unfolding presigned_expires
never_expires target = never_then _ _ (never_once _ target) (λ text. never_some _ AuthorizationQueryParametersError refl)

never_algorithm : (target : TargetParts) → Never (check_algorithm target)
unfolding check_algorithm
never_algorithm target = never_then _ _ (never_once _ target) (λ name. never_test _ AuthorizationQueryParametersError refl)

never_presigned : (target : TargetParts) → Never (presigned_at target)
unfolding presigned_at
never_presigned target =
    never_on _ _ (never_algorithm target) (never_then _ _ (never_parts target) (λ sent. never_then _ _ (never_presigned_stamp target)
    (λ stamp. never_then _ _ (never_expires target) (λ expires. never_ok _))))

never_presigned_secret : (settings : Settings) (moment : ℕ) (asked : Presigned) → Never (presigned_secret_at settings moment asked)
unfolding presigned_secret_at
never_presigned_secret settings moment asked =
    never_refuse (is_other_scope settings asked.sent asked.stamp) AuthorizationQueryParametersError refl _
    (never_then _ _ (never_some (secret_of settings.keys asked.sent.id) InvalidAccessKeyId refl)
    (λ secret. never_refuse (not (is_current (stamp_seconds asked.stamp) asked.expires moment)) AccessDenied refl _ (never_ok secret)))

never_query : (settings : Settings) (head : HeadParts) (target : TargetParts) (moment : ℕ) → Never (checked_query settings head target moment)
unfolding checked_query
never_query settings head target moment =
    never_refuse _ InvalidArgument refl _ (never_then _ _ (never_presigned target) (λ asked. never_then _ _ (never_presigned_secret settings moment asked)
    (λ secret. never_refuse _ NotImplemented refl _ (never_refuse _ AccessDenied refl _ (never_ok _)))))

-- ---- of a head

never_either : (presigned : Bool) (settings : Settings) (head : HeadParts) (target : TargetParts) (moment : ℕ)
    → Never (if presigned then checked_query settings head target moment else checked_lines settings head moment)
never_either true settings head target moment = never_query settings head target moment
never_either false settings head target moment = never_lines settings head moment

never_checked : (settings : Settings) (head : HeadParts) (moment : ℕ) → Never (checked_head settings head moment)
unfolding checked_head
never_checked settings head moment = never_then _ _ (never_addressed head.target) (λ target. never_either (is_presigned target) settings head target moment)

never_early : (settings : Settings) (head : HeadParts) (moment : ℕ) → Never (early_admission settings head moment)
unfolding early_admission
never_early settings head moment = never_then _ _ (never_framed settings.dialect head settings.body_limit) (λ framing. never_checked settings head moment)

-- ---- where memory lacks

ok_where : {A : Type 0} (result : Result A Code) → ((code : Code) → ¬ (result ≡ Err code)) → IsOk result
ok_where (Ok value) never = refl
ok_where (Err code) never = absurd (never code refl)

-- what is judged without memory is judged first
refused_at : {A B : Type 0} (first : Result A Code) (next : A → Result B Code) (code : Code) → first >>= next ≡ Err code
    → (first ≡ Err code) ⊎ ((value : A) × (first ≡ Ok value) × (next value ≡ Err code))
refused_at (Ok value) next code is = inr (value, refl, is)
refused_at (Err other) next code is = let same : other ≡ code = cc in inl (ap Err same)

early_by : (settings : Settings) (head : HeadParts) (moment : ℕ) (code : Code)
    → (framing_of settings.dialect head settings.body_limit ≡ Err code) ⊎ ((framing : BodyFraming) × (framing_of settings.dialect head settings.body_limit ≡ Ok framing) × (checked_head settings head moment ≡ Err code))
    → admission_of settings head moment ≡ Err code
unfolding admission_of head_verdict
early_by settings head moment code (inl framed) = rw framed refl
early_by settings head moment code (inr (framing, framed, checked)) = rw (framed, checked) refl

early_first : (settings : Settings) (head : HeadParts) (moment : ℕ) (code : Code) → early_admission settings head moment ≡ Err code
    → admission_of settings head moment ≡ Err code
unfolding early_admission
early_first settings head moment code is = early_by settings head moment code (refused_at (framing_of settings.dialect head settings.body_limit) _ code is)

-- memory lacks for a head only past that
pub lacks_past : (settings : Settings) (head : HeadParts) (moment : ℕ)
    → Admits (early_admission settings head moment) (Err InternalError) (admission_of settings head moment) → IsOk (early_admission settings head moment)
lacks_past settings head moment (inl lost) = lost.1
lacks_past settings head moment (inr refused) =
    ok_where (early_admission settings head moment) (λ code is. (
    let same : code ≡ InternalError = let told = sym (early_first settings head moment code is) ∙ refused in cc in
    never_early settings head moment (is ∙ ap Err same)))
