-- What was decided about a message stays decided.
use Rattle.std.proofs.Common.{◌≡◌, ◌≢◌, ℕ, Bool, false, List, ◌++◌, take, drop, refl, sym, ap, subst, ◌∙◌, inl, inr, Result, Ok, Err, ◌↔◌, Option}
use Rattle.std.proofs.lemmas.List.{take-append-le, drop-append-le}
use Rattle.s3_config.specs.Settings.{Settings}
use Rattle.s3_terms.specs.declared.code.Code.{Code}
use Rattle.s3_terms.specs.declared.dialect.Dialect.{Dialect}
use Rattle.s3_terms.specs.declared.code.Code.TheVariants.{HeadTooLarge, MalformedHead}
use Rattle.s3_http_heads.specs.Find.{found_in, skip_pairs, IsHeadText}
use Rattle.s3_http_heads.specs.declared.find.Found.{Found}
use Rattle.s3_http_heads.specs.declared.find.Found.TheVariants as found
use Rattle.s3_http_heads.specs.Head.{HeadParts, asks_head_only}
use Rattle.s3_machine.specs.declared.command.Command.{Command}
use Rattle.s3_integrity.specs.declared.checksum.Checksum.{Checksum}
use Rattle.s3_payloads.specs.FoundSum.{found_sum}
use Rattle.s3_requests.specs.Commands.{command_of}
use Rattle.s3_session.specs.Verdict as verdicts
use Rattle.s3_aws_chunked.specs.Verdict as bodies
use Rattle.s3_aws_chunked.specs.Finality.{IsDecided}
use Rattle.s3_framed_bodies.specs.Framed.{size_in}
use Rattle.s3_framed_bodies.specs.Verdict as framed
use Rattle.s3_framed_bodies.specs.Laws.{AcceptedAreWhole}
use Rattle.s3_framed_bodies.specs.Laws.{VerdictsStay as BodiesStay}
use Rattle.s3_session.specs.Admission.{Asked, admission_of}
use Rattle.s3_session.specs.Decision.{Decision, Judges, AskedJudged, FoundJudged, TextJudged, open_yet, refused_message, commanded, concluded, text_at, behind_text}
use Rattle.s3_session.specs.Laws.{rest_with, VerdictsStay}

-- the decision where more bytes follow
abbrev pub with_more : List ℕ → Decision → Decision
with_more more d = (d.0, rest_with d.0 d.1 more)

-- a refusal is the same where more bytes follow
refusal_stays : (more : List ℕ) (code : Code) (head_only : Bool) (d : Decision)
    → d ≡ refused_message code head_only → with_more more d ≡ refused_message code head_only
refusal_stays more code head_only d is = ap (with_more more) is

-- nothing is open where something is decided
not_open : (d : Decision) (P : Type 0) → d ≡ open_yet → d.0 ≢ verdicts.Open → P
not_open d P is decided = absurd (decided (ap (λ (e : Decision). e.0) is))

-- what stands behind a sound message stands in front of what follows
commanded_stays : (dialect : Dialect) (head : HeadParts) (moment : ℕ) (sum : Option Checksum) (behind more : List ℕ) (rule : Result Command Code)
    → with_more more (commanded dialect head moment sum behind rule) ≡ commanded dialect head moment sum (behind ++ more) rule
commanded_stays dialect head moment sum behind more (Ok command) = refl
commanded_stays dialect head moment sum behind more (Err code) = refl

-- what a body was accepted with stands in front of what follows
concluded_stays : AcceptedAreWhole → (dialect : Dialect) (head : HeadParts) (moment : ℕ) (bytes more : List ℕ) (asked : Asked) (verdict : bodies.Verdict)
    → framed.Judges asked.announced bytes false verdict → (concluded dialect head moment asked bytes verdict).0 ≢ verdicts.Open
    → IsDecided verdict × (with_more more (concluded dialect head moment asked bytes verdict) ≡ concluded dialect head moment asked (bytes ++ more) verdict)
concluded_stays whole dialect head moment bytes more asked (bodies.Open held) judged decided = absurd (decided refl)
concluded_stays whole dialect head moment bytes more asked (bodies.Refused place code) judged decided = (tt, refl)
concluded_stays whole dialect head moment bytes more asked (bodies.Accepted payload) judged decided =
    let size = size_in asked.announced.framing bytes in
    let known = whole asked.announced bytes false payload judged in
    let back : drop (size_in asked.announced.framing (bytes ++ more)) (bytes ++ more) ≡ drop size bytes ++ more =
    ap (λ (n : ℕ). drop n (bytes ++ more)) (known.stays more) ∙ drop-append-le size bytes more known.come in
    let sum = found_sum asked.announced.form payload in
    let rule = command_of asked.plan sum payload in
    (tt, commanded_stays dialect head moment sum (drop size bytes) more rule ∙ ap (λ (behind : List ℕ). commanded dialect head moment sum behind rule) (sym back))

asked_stays : BodiesStay → AcceptedAreWhole → (dialect : Dialect) (head : HeadParts) (moment : ℕ) (ended : Bool) (bytes more : List ℕ) (rule : Result Asked Code) (d : Decision)
    → AskedJudged dialect head moment false bytes rule d → d.0 ≢ verdicts.Open
    → AskedJudged dialect head moment ended (bytes ++ more) rule (with_more more d)
asked_stays stay whole dialect head moment ended bytes more (Err code) d is decided = refusal_stays more code (asks_head_only head) d is
asked_stays stay whole dialect head moment ended bytes more (Ok asked) d (verdict, judged, is) decided =
    let known : (concluded dialect head moment asked bytes verdict).0 ≢ verdicts.Open = λ open_still. decided (ap (λ (e : Decision). e.0) is ∙ open_still) in
    let stays = concluded_stays whole dialect head moment bytes more asked verdict judged known in
    (verdict, stay asked.announced bytes more ended verdict judged stays.0, ap (with_more more) is ∙ stays.1)

text_stays : BodiesStay → AcceptedAreWhole → (settings : Settings) (moment : ℕ) (ended : Bool) (text bytes more : List ℕ) (d : Decision)
    → TextJudged settings moment false text bytes d → d.0 ≢ verdicts.Open
    → TextJudged settings moment ended text (bytes ++ more) (with_more more d)
text_stays stay whole settings moment ended text bytes more d (inl unreadable) decided =
    inl (unreadable.0, refusal_stays more MalformedHead false d unreadable.1)
text_stays stay whole settings moment ended text bytes more d (inr said) decided =
    inr (said.0, said.1, asked_stays stay whole settings.dialect said.0 moment ended bytes more (admission_of settings said.0 moment) d said.2 decided)

-- what the layer of heads says of head texts that were found
abbrev pub HeadsStay : Type 0
HeadsStay = (bytes more : List ℕ) (n : ℕ) → found_in bytes ≡ found.Head n → found_in (bytes ++ more) ≡ found.Head n

abbrev pub LargeStays : Type 0
LargeStays = (bytes more : List ℕ) → found_in bytes ≡ found.TooLarge → found_in (bytes ++ more) ≡ found.TooLarge

abbrev pub PairsStay : Type 0
PairsStay = (bytes more : List ℕ) (n : ℕ) → found_in bytes ≡ found.Head n → skip_pairs (bytes ++ more) ≡ skip_pairs bytes ++ more

abbrev pub IsExact : Type 0
IsExact = (bytes : List ℕ) (n : ℕ) → (found_in bytes ≡ found.Head n) ↔ IsHeadText bytes n

-- the head text is the same where more bytes follow
pub same_text : PairsStay → IsExact → (bytes more : List ℕ) (n : ℕ) → found_in bytes ≡ found.Head n → text_at n (bytes ++ more) ≡ text_at n bytes
same_text pairs exact bytes more n at =
    ap (take n) (pairs bytes more n at) ∙ take-append-le n (skip_pairs bytes) more ((exact bytes n).0 at).within

found_stays : HeadsStay → LargeStays → PairsStay → IsExact → BodiesStay → AcceptedAreWhole
    → (settings : Settings) (moment : ℕ) (ended : Bool) (bytes more : List ℕ) (d : Decision) (f : Found)
    → found_in bytes ≡ f → FoundJudged settings moment false bytes f d → d.0 ≢ verdicts.Open
    → FoundJudged settings moment ended (bytes ++ more) (found_in (bytes ++ more)) (with_more more d)
found_stays heads large pairs exact stay whole settings moment ended bytes more d found.NeedMore at judges decided =
    not_open d _ judges decided
found_stays heads large pairs exact stay whole settings moment ended bytes more d found.TooLarge at judges decided =
    subst (λ (f : Found). FoundJudged settings moment ended (bytes ++ more) f (with_more more d)) (sym (large bytes more at))
    (refusal_stays more HeadTooLarge false d judges)
found_stays heads large pairs exact stay whole settings moment ended bytes more d (found.Head n) at judges decided =
    let within = ((exact bytes n).0 at).within in
    let appends = pairs bytes more n at in
    let front = same_text pairs exact bytes more n at in
    let back : behind_text n (bytes ++ more) ≡ behind_text n bytes ++ more = ap (drop n) appends ∙ drop-append-le n (skip_pairs bytes) more within in
    let stays = text_stays stay whole settings moment ended (text_at n bytes) (behind_text n bytes) more d judges decided in
    subst (λ (f : Found). FoundJudged settings moment ended (bytes ++ more) f (with_more more d)) (sym (heads bytes more n at))
    (subst (λ (t : List ℕ). TextJudged settings moment ended t (behind_text n (bytes ++ more)) (with_more more d)) (sym front)
    (subst (λ (b : List ℕ). TextJudged settings moment ended (text_at n bytes) b (with_more more d)) (sym back) stays))

pub judges_stay : HeadsStay → LargeStays → PairsStay → IsExact → BodiesStay → AcceptedAreWhole → VerdictsStay
unfolding Judges
judges_stay heads large pairs exact stay whole settings moment ended bytes more verdict rest judges decided =
    found_stays heads large pairs exact stay whole settings moment ended bytes more (verdict, rest) (found_in bytes) refl judges decided
