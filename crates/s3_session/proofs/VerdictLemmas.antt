-- The same bytes have one verdict, and can't have none.
use Rattle.std.proofs.Common.{◌≡◌, ℕ, Bool, false, List, refl, sym, subst, ◌∙◌, inl, inr, Result, Ok, Err}
use Rattle.s3_config.specs.Settings.{Settings}
use Rattle.s3_http_heads.specs.Find.{found_in}
use Rattle.s3_http_heads.specs.declared.find.Found.{Found}
use Rattle.s3_http_heads.specs.declared.find.Found.TheVariants as found
use Rattle.s3_http_heads.specs.Head.{HeadParts, Says, asks_head_only, parts_of}
use Rattle.s3_terms.specs.declared.code.Code.TheVariants.{HeadTooLarge, MalformedHead}
use Rattle.s3_terms.specs.declared.code.Code.{Code}
use Rattle.s3_terms.specs.declared.dialect.Dialect.{Dialect}
use Rattle.s3_aws_chunked.specs.Verdict as bodies
use Rattle.s3_aws_chunked.specs.Finality.{DecidesAs}
use Rattle.s3_framed_bodies.specs.Laws.{VerdictsAreOne as OneBodyVerdict, VerdictsExist as BodiesHaveVerdicts}
use Rattle.s3_session.specs.Admission.{Asked, admission_of}
use Rattle.s3_session.specs.Decision.{Decision, Judges, AskedJudged, FoundJudged, HeadJudged, TextJudged, open_yet, refused_message, concluded, text_at, behind_text}
use Rattle.s3_session.specs.Laws.{OneVerdict, VerdictsExist}

-- what the layer of heads says of texts
abbrev pub SaysOneThing : Type 0
SaysOneThing = (text : List ℕ) (a b : HeadParts) → Says text a → Says text b → a ≡ b

same_conclusion : (dialect : Dialect) (head : HeadParts) (moment : ℕ) (asked : Asked) (bytes : List ℕ) (one other : bodies.Verdict) → DecidesAs one other
    → concluded dialect head moment asked bytes one ≡ concluded dialect head moment asked bytes other
same_conclusion dialect head moment asked bytes (bodies.Refused place code) (bodies.Refused at same) is = rw is.1 refl
same_conclusion dialect head moment asked bytes (bodies.Accepted payload) (bodies.Accepted same) is = rw is refl
same_conclusion dialect head moment asked bytes (bodies.Open held) (bodies.Open same) is = refl
same_conclusion dialect head moment asked bytes (bodies.Refused place code) (bodies.Accepted same) is = absurd is
same_conclusion dialect head moment asked bytes (bodies.Refused place code) (bodies.Open same) is = absurd is
same_conclusion dialect head moment asked bytes (bodies.Accepted payload) (bodies.Refused at same) is = absurd is
same_conclusion dialect head moment asked bytes (bodies.Accepted payload) (bodies.Open same) is = absurd is
same_conclusion dialect head moment asked bytes (bodies.Open held) (bodies.Refused at same) is = absurd is
same_conclusion dialect head moment asked bytes (bodies.Open held) (bodies.Accepted same) is = absurd is

asked_has_one : OneBodyVerdict → (dialect : Dialect) (head : HeadParts) (moment : ℕ) (ended : Bool) (bytes : List ℕ) (rule : Result Asked Code) (d e : Decision)
    → AskedJudged dialect head moment ended bytes rule d → AskedJudged dialect head moment ended bytes rule e → d ≡ e
asked_has_one law dialect head moment ended bytes (Err code) d e x y = x ∙ sym y
asked_has_one law dialect head moment ended bytes (Ok asked) d e (one, x, is) (other, y, also) =
    is ∙ same_conclusion dialect head moment asked bytes one other (law asked.announced bytes ended one other x y) ∙ sym also

text_has_one : SaysOneThing → OneBodyVerdict → (settings : Settings) (moment : ℕ) (ended : Bool) (text bytes : List ℕ) (d e : Decision)
    → TextJudged settings moment ended text bytes d → TextJudged settings moment ended text bytes e → d ≡ e
text_has_one one law settings moment ended text bytes d e (inl x) (inl y) = x.1 ∙ sym y.1
text_has_one one law settings moment ended text bytes d e (inl x) (inr y) = absurd (x.0 y.1.0 y.1.1)
text_has_one one law settings moment ended text bytes d e (inr x) (inl y) = absurd (y.0 x.1.0 x.1.1)
text_has_one one law settings moment ended text bytes d e (inr x) (inr y) =
    let same = subst (λ (head : HeadParts). HeadJudged settings moment ended head bytes e) (sym (one text x.0 y.0 x.1 y.1)) y.2 in
    asked_has_one law settings.dialect x.0 moment ended bytes (admission_of settings x.0 moment) d e x.2 same

found_has_one : SaysOneThing → OneBodyVerdict → (settings : Settings) (moment : ℕ) (ended : Bool) (bytes : List ℕ) (f : Found) (d e : Decision)
    → FoundJudged settings moment ended bytes f d → FoundJudged settings moment ended bytes f e → d ≡ e
found_has_one one law settings moment ended bytes found.NeedMore d e x y = x ∙ sym y
found_has_one one law settings moment ended bytes found.TooLarge d e x y = x ∙ sym y
found_has_one one law settings moment ended bytes (found.Head n) d e x y =
    text_has_one one law settings moment ended (text_at n bytes) (behind_text n bytes) d e x y

pub one_verdict : SaysOneThing → OneBodyVerdict → OneVerdict
unfolding Judges
one_verdict one law settings moment ended bytes d e x y =
    found_has_one one law settings moment ended bytes (found_in bytes) d e x y

asked_has_some : BodiesHaveVerdicts → (dialect : Dialect) (head : HeadParts) (moment : ℕ) (ended : Bool) (bytes : List ℕ) (rule : Result Asked Code)
    → (d : Decision) × AskedJudged dialect head moment ended bytes rule d
asked_has_some exist dialect head moment ended bytes (Err code) = (refused_message code (asks_head_only head), refl)
asked_has_some exist dialect head moment ended bytes (Ok asked) =
    let found = exist asked.announced bytes ended in
    (concluded dialect head moment asked bytes found.0, (found.0, found.1, refl))

found_has_some : BodiesHaveVerdicts → (settings : Settings) (moment : ℕ) (ended : Bool) (bytes : List ℕ) (f : Found)
    → ¬ ((d : Decision) → ¬ (FoundJudged settings moment ended bytes f d))
found_has_some exist settings moment ended bytes found.NeedMore none = none open_yet refl
found_has_some exist settings moment ended bytes found.TooLarge none = none (refused_message HeadTooLarge false) refl
found_has_some exist settings moment ended bytes (found.Head n) none =
    let judged = λ (h : HeadParts). asked_has_some exist settings.dialect h moment ended (behind_text n bytes) (admission_of settings h moment) in
    none (refused_message MalformedHead false)
    (inl ((λ h is. none (judged (parts_of h)).0 (inr (parts_of h, (h, is, refl), (judged (parts_of h)).1))), refl))

pub verdict_exists : BodiesHaveVerdicts → VerdictsExist
unfolding Judges
verdict_exists exist settings moment ended bytes none = found_has_some exist settings moment ended bytes (found_in bytes) none
