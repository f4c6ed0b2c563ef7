-- A sound verdict is about a sound message at the front of the bytes, and each of those has one.
use Rattle.std.proofs.Common.{◌≡◌, ℕ, ◌≤◌, ◌&&◌, Bool, true, false, List, ◌++◌, take, drop, length, refl, sym, ap, subst, ◌∙◌, inl, inr, Option, Some, None, Result, Ok, Err}
use Rattle.std.proofs.lemmas.List.{take-append-drop, length-take-le, take_at, drop_at}
use Rattle.s3_config.specs.Settings.{Settings}
use Rattle.s3_terms.specs.Fault.{◌>>=◌}
use Rattle.s3_terms.specs.declared.code.Code.{Code}
use Rattle.s3_http_heads.specs.Find.{found_in, skip_pairs}
use Rattle.s3_http_heads.specs.declared.find.Found.{Found}
use Rattle.s3_http_heads.specs.declared.find.Found.TheVariants as found
use Rattle.s3_http_heads.specs.Head.{HeadParts, Says, is_sent}
use Rattle.s3_http_heads.specs.BodyLength.{announced, coded_framing, decoded_length, framing_of, framing_with_coding, length_lines, may_be_coded, needs_length, sized_framing}
use Rattle.s3_http_heads.specs.Message.{IsMessageBy}
use Rattle.s3_http_heads.specs.declared.body_length.BodyFraming.{BodyFraming}
use Rattle.s3_http_heads.specs.declared.body_length.BodyFraming.TheVariants.{Sized, Coded}
use Rattle.s3_terms.specs.declared.dialect.Dialect.{Dialect}
use Rattle.s3_terms.specs.declared.dialect.Dialect.TheVariants.{Json, S3}
use Rattle.s3_terms.specs.declared.code.Code.TheVariants.{EntityTooLarge, InvalidRequest, MissingContentLength, NotImplemented}
use Rattle.std.specs.Prelude.{codes, if◌then◌else◌, not, nat_lt, ok_or}
use Rattle.s3_signing.specs.Verdict.{Proved, head_verdict}
use Rattle.s3_machine.specs.declared.command.Command.{Command}
use Rattle.s3_integrity.specs.declared.checksum.Checksum.{Checksum}
use Rattle.s3_payloads.specs.FoundSum.{found_sum}
use Rattle.s3_requests.specs.Commands.{command_of}
use Rattle.s3_requests.specs.Routing.{route_of}
use Rattle.s3_replies.specs.declared.context.Context.{Context}
use Rattle.s3_session.specs.Verdict as verdicts
use Rattle.s3_aws_chunked.specs.Verdict as bodies
use Rattle.s3_framed_bodies.specs.Framed.{Ends, FramedBody, framed_body, size_in}
use Rattle.s3_payloads.specs.Form.{form_of}
use Rattle.s3_framed_bodies.specs.Verdict as framed
use Rattle.s3_framed_bodies.specs.Laws.{AcceptedAreWhole, EndsAreSizes, IsWhole}
use Rattle.s3_framed_bodies.specs.Laws.{VerdictsStay as BodiesStay}
use Rattle.s3_session.specs.Admission.{Asked, admission_of}
use Rattle.s3_session.specs.Decision.{Decision, Judges, AskedJudged, FoundJudged, HeadJudged, TextJudged, commanded, text_at, behind_text, context_of, with_found}
use Rattle.s3_session.specs.Laws.{EndsAreTold, IsSound, SoundMessages, SoundIsJudged, TellsEnd}
use Rattle.s3_terms.proofs.FaultLemmas.{one_value, stage_ok, test_ok}
use Rattle.s3_session.proofs.StayLemmas.{IsExact}

-- ---- what a head that is admitted tells

-- what is announced of its body has the end that its framing tells
pub announced_framing : (settings : Settings) (head : HeadParts) (framing : BodyFraming) (proved : Proved) (announces : FramedBody)
    → framed_body settings head framing proved ≡ Ok announces → announces.framing ≡ framing
unfolding framed_body
announced_framing settings head framing proved announces is =
    let form = stage_ok (form_of settings head proved.word) _ announces is in
    sym (ap (λ (a : FramedBody). a.framing) (one_value _ announces form.2))

-- which is that of its head
admitted_framing : (settings : Settings) (head : HeadParts) (moment : ℕ) (asked : Asked)
    → admission_of settings head moment ≡ Ok asked → framing_of settings.dialect head settings.body_limit ≡ Ok asked.announced.framing
unfolding admission_of
admitted_framing settings head moment asked is =
    let framing = stage_ok (framing_of settings.dialect head settings.body_limit) _ asked is in
    let proved = stage_ok (head_verdict settings head moment) _ asked framing.2 in
    let announces = stage_ok (framed_body settings head framing.0 proved.0) _ asked proved.2 in
    let plan = stage_ok (route_of settings head) _ asked announces.2 in
    let same : announces.0 ≡ asked.announced = ap (λ (a : Asked). a.announced) (one_value _ asked plan.2) in
    let told = announced_framing settings head framing.0 proved.0 announces.0 announces.1 in
    framing.1 ∙ ap Ok (sym told ∙ ap (λ (a : FramedBody). a.framing) same)

-- what a framing that refuses nothing says of the head
abbrev FramedBy : HeadParts → ℕ → BodyFraming → Type 0
FramedBy head limit (Sized size) = (is_sent (codes "transfer-encoding") head ≡ false) × (announced (length_lines head) ≡ Some size)
FramedBy head limit (Coded most decoded) = (may_be_coded head ≡ true) × (decoded_length head ≡ Some decoded) × (most ≡ limit)

given_count : (count : Option ℕ) (code : Code) (next : ℕ → Result BodyFraming Code) (framing : BodyFraming) → (ok_or count code >>= next) ≡ Ok framing
    → (n : ℕ) × (count ≡ Some n) × (next n ≡ Ok framing)
given_count (Some n) code next framing e = (n, refl, e)
given_count None code next framing e = absurd (cc)

not_false : (b : Bool) → not b ≡ false → b ≡ true
not_false true is = refl
not_false false is = absurd (cc)

sized_told : (head : HeadParts) (limit : ℕ) (framing : BodyFraming) → is_sent (codes "transfer-encoding") head ≡ false → sized_framing head limit ≡ Ok framing
    → FramedBy head limit framing
unfolding sized_framing
sized_told head limit framing none is =
    let count = given_count (announced (length_lines head)) _ _ framing is in
    let lacks = needs_length head && not (is_sent (codes "content-length") head) in
    let counted = test_ok lacks MissingContentLength _ framing count.2 in
    let made = one_value (Sized count.0) framing (test_ok (nat_lt limit count.0) EntityTooLarge _ framing counted.1).1 in
    subst (FramedBy head limit) made (none, count.1)

coded_told : (head : HeadParts) (limit : ℕ) (framing : BodyFraming) → coded_framing head limit ≡ Ok framing → FramedBy head limit framing
unfolding coded_framing
coded_told head limit framing is =
    let may = test_ok (not (may_be_coded head)) InvalidRequest _ framing is in
    let says = test_ok (not (is_sent (codes "x-amz-decoded-content-length") head)) NotImplemented _ framing may.1 in
    let count = given_count (decoded_length head) _ _ framing says.1 in
    let made = one_value (Coded limit count.0) framing (test_ok (nat_lt limit count.0) EntityTooLarge _ framing count.2).1 in
    subst (FramedBy head limit) made (not_false (may_be_coded head) may.0, count.1, refl)

coding_told : (dialect : Dialect) (head : HeadParts) (limit : ℕ) (framing : BodyFraming) → framing_with_coding dialect head limit ≡ Ok framing
    → FramedBy head limit framing
coding_told Json head limit framing is = absurd (cc)
coding_told S3 head limit framing is = coded_told head limit framing is

framing_told : (dialect : Dialect) (head : HeadParts) (limit : ℕ) (framing : BodyFraming) → framing_of dialect head limit ≡ Ok framing
    → FramedBy head limit framing
unfolding framing_of
framing_told dialect head limit framing is = by (is_sent (codes "transfer-encoding") head) refl is
  where
    by : (named : Bool) → is_sent (codes "transfer-encoding") head ≡ named
        → (if named then framing_with_coding dialect head limit else sized_framing head limit) ≡ Ok framing → FramedBy head limit framing
    by true at told = coding_told dialect head limit framing told
    by false at told = sized_told head limit framing at told

told_by : (head : HeadParts) (limit : ℕ) (framing : BodyFraming) (body : List ℕ) → FramedBy head limit framing → Ends framing body → TellsEnd head limit framing body
told_by head limit (Sized size) body known (held, (same, is)) = (known.0, known.1 ∙ ap Some (sym is))
told_by head limit (Coded most decoded) body known ends = known

-- so the body of a sound message ends where its head tells
pub ends_are_told : EndsAreTold
ends_are_told settings moment bytes rest context command sound =
    let framing = sound.asks.announced.framing in
    told_by sound.head settings.body_limit framing sound.body
    (framing_told settings.dialect sound.head settings.body_limit framing (admitted_framing settings sound.head moment sound.asks sound.admitted)) sound.message.whole

-- it asks for what routing plans
pub admitted_route : (settings : Settings) (head : HeadParts) (moment : ℕ) (asked : Asked)
    → admission_of settings head moment ≡ Ok asked → route_of settings head ≡ Ok asked.plan
unfolding admission_of
admitted_route settings head moment asked is =
    let framing = stage_ok (framing_of settings.dialect head settings.body_limit) _ asked is in
    let proved = stage_ok (head_verdict settings head moment) _ asked framing.2 in
    let announces = stage_ok (framed_body settings head framing.0 proved.0) _ asked proved.2 in
    let plan = stage_ok (route_of settings head) _ asked announces.2 in
    plan.1 ∙ ap Ok (ap (λ (a : Asked). a.plan) (one_value _ asked plan.2))

-- ---- what a sound verdict says

abbrev pub sound : Context → Command → List ℕ → Decision
sound context command rest = (verdicts.Sound context command, rest)

-- the head is admitted, and behind it its body is accepted and followed by the rest
record IsSoundHead (settings : Settings) (moment : ℕ) (head : HeadParts) (ended : Bool) (bytes : List ℕ) (context : Context) (command : Command) (rest : List ℕ) : Type 0 where
  asks : Asked
  payload : List ℕ
  admitted : admission_of settings head moment ≡ Ok asks
  accepted : framed.Judges asks.announced bytes ended (bodies.Accepted payload)
  replied : context ≡ with_found (found_sum asks.announced.form payload) (context_of settings.dialect head moment)
  asked : command_of asks.plan (found_sum asks.announced.form payload) payload ≡ Ok command
  left : rest ≡ drop (size_in asks.announced.framing bytes) bytes

module _ (settings : Settings) (moment : ℕ) (ended : Bool) (head : HeadParts) (bytes : List ℕ) (context : Context) (command : Command) (rest : List ℕ) where
  -- a command that is sound is the one that the message makes
  commanded_sound : (sum : Option Checksum) (behind : List ℕ) (rule : Result Command Code) → sound context command rest ≡ commanded settings.dialect head moment sum behind rule
      → (context ≡ with_found sum (context_of settings.dialect head moment)) × (rule ≡ Ok command) × (rest ≡ behind)
  commanded_sound sum behind (Ok made) is =
      let same = ap (λ (d : Decision). d.0) is in (cc, cc, ap (λ (d : Decision). d.1) is)
  commanded_sound sum behind (Err code) is = let same = ap (λ (d : Decision). d.0) is in absurd (cc)

  rule_sound : (rule : Result Asked Code) → admission_of settings head moment ≡ rule
      → AskedJudged settings.dialect head moment ended bytes rule (sound context command rest) → IsSoundHead settings moment head ended bytes context command rest
  rule_sound (Err code) at is = let same = ap (λ (d : Decision). d.0) is in absurd (cc)
  rule_sound (Ok asks) at (bodies.Open held, judged, is) = let same = ap (λ (d : Decision). d.0) is in absurd (cc)
  rule_sound (Ok asks) at (bodies.Refused place code, judged, is) = let same = ap (λ (d : Decision). d.0) is in absurd (cc)
  rule_sound (Ok asks) at (bodies.Accepted payload, judged, is) =
      let told = commanded_sound (found_sum asks.announced.form payload) (drop (size_in asks.announced.framing bytes) bytes) (command_of asks.plan (found_sum asks.announced.form payload) payload) is in
      record {
        asks = asks;
        payload = payload;
        admitted = at;
        accepted = judged;
        replied = told.0;
        asked = told.1;
        left = told.2;
      }

  head_sound : HeadJudged settings moment ended head bytes (sound context command rest) → IsSoundHead settings moment head ended bytes context command rest
  head_sound is = rule_sound (admission_of settings head moment) refl is

-- the message that stands where a head's text was found
message_at : (settings : Settings) (moment n : ℕ) (bytes : List ℕ) (head : HeadParts) (context : Context) (command : Command) (rest : List ℕ)
    → found_in bytes ≡ found.Head n → n ≤ length (skip_pairs bytes) → Says (text_at n bytes) head
    → (ended : Bool) → (h : IsSoundHead settings moment head ended (behind_text n bytes) context command rest)
    → IsWhole h.asks.announced (behind_text n bytes) h.payload
    → IsMessageBy (Ends h.asks.announced.framing) bytes head (take (size_in h.asks.announced.framing (behind_text n bytes)) (behind_text n bytes)) rest
message_at settings moment n bytes head context command rest at within says ended h whole =
    let behind = behind_text n bytes in
    let size = size_in h.asks.announced.framing behind in
    let tail : take size behind ++ rest ≡ behind = ap (λ r. take size behind ++ r) h.left ∙ take-append-drop size behind in
    record {
      text = text_at n bytes;
      found = at ∙ ap found.Head (sym (length-take-le n (skip_pairs bytes) within));
      joined = sym (ap (λ r. text_at n bytes ++ r) tail ∙ take-append-drop n (skip_pairs bytes));
      says = says;
      whole = whole.ends;
    }

sound_at : IsExact → AcceptedAreWhole → (settings : Settings) (moment : ℕ) (ended : Bool) (bytes rest : List ℕ) (context : Context) (command : Command) (f : Found)
    → found_in bytes ≡ f → FoundJudged settings moment ended bytes f (sound context command rest)
    → IsSound settings moment bytes context command rest
sound_at exact whole settings moment ended bytes rest context command found.NeedMore at is = let same = ap (λ (d : Decision). d.0) is in absurd (cc)
sound_at exact whole settings moment ended bytes rest context command found.TooLarge at is = let same = ap (λ (d : Decision). d.0) is in absurd (cc)
sound_at exact whole settings moment ended bytes rest context command (found.Head n) at (inl unreadable) =
    let same = ap (λ (d : Decision). d.0) unreadable.1 in absurd (cc)
sound_at exact whole settings moment ended bytes rest context command (found.Head n) at (inr said) =
    let h = head_sound settings moment ended said.0 (behind_text n bytes) context command rest said.2 in
    let front = whole h.asks.announced (behind_text n bytes) ended h.payload h.accepted in
    record {
      head = said.0;
      body = take (size_in h.asks.announced.framing (behind_text n bytes)) (behind_text n bytes);
      asks = h.asks;
      payload = h.payload;
      message = message_at settings moment n bytes said.0 context command rest at ((exact bytes n).0 at).within said.1 ended h front;
      admitted = h.admitted;
      accepted = front.alone;
      replied = h.replied;
      asked = h.asked;
    }

pub sound_is_message : IsExact → AcceptedAreWhole → SoundMessages
unfolding Judges
sound_is_message exact whole settings moment ended bytes rest context command is =
    sound_at exact whole settings moment ended bytes rest context command (found_in bytes) refl is

-- ---- what a sound message is judged

-- a body that is accepted is sound, whatever follows
head_judged : BodiesStay → EndsAreSizes → (settings : Settings) (moment : ℕ) (ended : Bool) (head : HeadParts) (body rest payload : List ℕ) (asks : Asked) (command : Command)
    → admission_of settings head moment ≡ Ok asks → Ends asks.announced.framing body → framed.Judges asks.announced body false (bodies.Accepted payload)
    → command_of asks.plan (found_sum asks.announced.form payload) payload ≡ Ok command
    → HeadJudged settings moment ended head (body ++ rest)
    (sound (with_found (found_sum asks.announced.form payload) (context_of settings.dialect head moment)) command rest)
head_judged stay sizes settings moment ended head body rest payload asks command admitted ends accepted asked =
    let judged = stay asks.announced body rest ended (bodies.Accepted payload) accepted tt in
    let size = size_in asks.announced.framing (body ++ rest) in
    let behind : rest ≡ drop size (body ++ rest) = sym (drop_at body rest size (sym (sizes asks.announced.framing body rest ends))) in
    let sum = found_sum asks.announced.form payload in
    let told = with_found sum (context_of settings.dialect head moment) in
    let end : sound told command rest ≡ commanded settings.dialect head moment sum (drop size (body ++ rest)) (command_of asks.plan sum payload) =
    rw asked (ap (sound told command) behind) in
    rw admitted (bodies.Accepted payload, judged, end)

text_judged : BodiesStay → EndsAreSizes → (settings : Settings) (moment : ℕ) (ended : Bool) (bytes rest : List ℕ) (context : Context) (command : Command)
    → (s : IsSound settings moment bytes context command rest)
    → TextJudged settings moment ended s.message.text (s.body ++ rest) (sound context command rest)
text_judged stay sizes settings moment ended bytes rest context command s =
    let one = head_judged stay sizes settings moment ended s.head s.body rest s.payload s.asks command s.admitted s.message.whole s.accepted s.asked in
    let told = with_found (found_sum s.asks.announced.form s.payload) (context_of settings.dialect s.head moment) in
    let asks : sound context command rest ≡ sound told command rest = rw s.replied refl in
    inr (s.head, s.message.says, subst (HeadJudged settings moment ended s.head (s.body ++ rest)) (sym asks) one)

pub message_is_sound : BodiesStay → EndsAreSizes → SoundIsJudged
unfolding Judges
message_is_sound stay sizes settings moment ended bytes rest context command s =
    let text = s.message.text in
    let front : text_at (length text) bytes ≡ text = ap (take (length text)) s.message.joined ∙ take_at text (s.body ++ rest) (length text) refl in
    let back : behind_text (length text) bytes ≡ s.body ++ rest = ap (drop (length text)) s.message.joined ∙ drop_at text (s.body ++ rest) (length text) refl in
    subst (λ (f : Found). FoundJudged settings moment ended bytes f (sound context command rest)) (sym s.message.found)
    (subst (λ (t : List ℕ). TextJudged settings moment ended t (behind_text (length text) bytes) (sound context command rest)) (sym front)
    (subst (λ (b : List ℕ). TextJudged settings moment ended text b (sound context command rest)) (sym back)
    (text_judged stay sizes settings moment ended bytes rest context command s)))
