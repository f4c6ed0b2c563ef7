-- The head of the message at hand is held as long as that has its moment.
use Rattle.std.proofs.Common.{◌≡◌, ◌≢◌, ℕ, Bool, true, false, List, [], ◌++◌, length, is_none, Option, Some, None, IfSome, inl, inr, refl, sym, ap, subst, ◌∙◌, arith, append-nil, append_assoc}
use Rattle.std.specs.Borrow.{Bor}
use Rattle.std.specs.Option.{option_copied}
use Rattle.std.proofs.lemmas.List.{take_all}
use Rattle.s3_config.specs.Settings.{Settings}
use Rattle.s3_terms.specs.declared.code.Code.{Code}
use Rattle.s3_terms.specs.declared.code.Code.TheVariants.{MalformedHead}
use Rattle.s3_http_heads.specs.Find.{found_in, skip_pairs}
use Rattle.s3_http_heads.specs.declared.find.Found.{Found}
use Rattle.s3_http_heads.specs.declared.find.Found.TheVariants as found
use Rattle.s3_http_heads.specs.Head.{HasNoHead}
use Rattle.s3_http_heads.specs.Search as search
use Rattle.s3_http_heads.specs.declared.search.HeadSearch.{HeadSearch}
use Rattle.s3_session.specs.Decision.{text_at}
use Rattle.s3_session.specs.Incoming.{Opens, TextOpens}
use Rattle.s3_machine.specs.declared.turn.Turn.{Turn}
use Rattle.s3_session.specs.Output.{HasText, Past, is_dead}
use Rattle.s3_session.specs.Session.{Connection, moment_at, refused_at, standing_at, standing_of}
use Rattle.s3_session.specs.Stands.{HereOr, HoldsHead, Stands}
use Rattle.s3_session.specs.Verified.{HeadVerifies, HoldsVerified, Verifies}
use Rattle.s3_session.specs.declared.opening.Opening.{Opening}
use Rattle.s3_session.specs.declared.opening.Opening.TheVariants as opening
use Rattle.s3_session.specs.declared.session.Stage.{Stage}
use Rattle.s3_session.specs.declared.session.Stage.TheVariants as stages
use Rattle.s3_session.specs.declared.session.Closing.TheVariants as closings
use Rattle.s3_session.proofs.StayLemmas.{HeadsStay, IsExact, LargeStays, PairsStay, same_text}

-- ---- the calls keep it

module _ (old new : Connection) (same : new.search ≡ old.search) (lives : is_dead (standing_of new) ≡ false → is_dead (standing_of old) ≡ false)
    (stays : refused_at new.stage ≡ None → refused_at old.stage ≡ None) where
  held_still : (rest : List ℕ) → HoldsHead old rest → HoldsHead new rest
  held_still rest h = record {
    front = h.front;
    behind = h.behind;
    joined = h.joined;
    held = subst (λ (s : HeadSearch). search.Holds s h.front) (sym same) h.held;
    decided = h.decided;
    whole = λ text alive. ap search.is_lost same ∙ h.whole text (lives alive);
    says = λ none kept. h.says (stays none) (sym (ap search.is_lost same) ∙ kept);
  }

  -- with more bytes
  pub held_on : (rest more : List ℕ) → HoldsHead old rest → HoldsHead new (rest ++ more)
  held_on rest more h = record {
    front = h.front;
    behind = h.behind ++ more;
    joined = ap (λ (r : List ℕ). r ++ more) h.joined ∙ append_assoc h.front h.behind more;
    held = subst (λ (s : HeadSearch). search.Holds s h.front) (sym same) h.held;
    decided = h.decided;
    whole = λ text alive. ap search.is_lost same ∙ h.whole text (lives alive);
    says = λ none kept. h.says (stays none) (sym (ap search.is_lost same) ∙ kept);
  }

  -- of the message at hand
  pub left_still : (left : Option (List ℕ)) → moment_at new.stage ≡ moment_at old.stage
      → ((rest : List ℕ) → left ≡ Some rest → moment_at old.stage ≢ [] → HoldsHead old rest)
      → (rest : List ℕ) → left ≡ Some rest → moment_at new.stage ≢ [] → HoldsHead new rest
  left_still left moments holds rest is given = held_still rest (holds rest is (λ none. given (moments ∙ none)))

-- ---- a head that comes

-- whole
pub held_begun : (old new : Connection) (rest more : List ℕ) → search.Holds old.search rest → HasText rest → new.search ≡ old.search
    → (is_dead (standing_of new) ≡ false → search.is_lost old.search ≡ false)
    → (refused_at new.stage ≡ None → search.is_lost old.search ≡ false → ¬ (HasNoHead (skip_pairs rest))) → HoldsHead new (rest ++ more)
held_begun old new rest more held text same kept says = record {
  front = rest;
  behind = more;
  joined = refl;
  held = subst (λ (s : HeadSearch). search.Holds s rest) (sym same) held;
  decided = λ none. (let clash = sym text.found ∙ none in absurd (cc));
  whole = λ _ lives. ap search.is_lost same ∙ kept lives;
  says = λ none whole. says none (sym (ap search.is_lost same) ∙ whole);
}

-- of which something comes but that memory ran out: its text isn't lost
pub text_kept : (settings : Settings) (moment : ℕ) (text : Option (Bor (List ℕ))) (lost : Bool) (opened : Opening) → is_none text ≡ lost
    → Opens settings moment (option_copied text) opened → opened ≢ opening.Died → lost ≡ false
text_kept settings moment None lost opened none opens lives = absurd (lives opens)
text_kept settings moment (Some text) lost opened none opens lives = sym none

-- that something came of, or that memory ran out for, is no malformed one
text_said : (settings : Settings) (moment : ℕ) (text : List ℕ) (opened : Opening) → ((code : Code) (head_only : Bool) → opened ≢ opening.Refused code head_only)
    → TextOpens settings moment text opened → ¬ (HasNoHead text)
text_said settings moment text opened goes_on (inl (died, readable)) = readable
text_said settings moment text opened goes_on (inr (inl (none, is))) = absurd (goes_on MalformedHead false is)
text_said settings moment text opened goes_on (inr (inr (head, says, opens))) = λ none. none says.0 says.1

pub head_said : (settings : Settings) (moment : ℕ) (rest : List ℕ) (text : Option (Bor (List ℕ))) (lost : Bool) (opened : Opening) → is_none text ≡ lost
    → IfSome text (λ (t : Bor (List ℕ)). t.now ≡ skip_pairs rest) → ((code : Code) (head_only : Bool) → opened ≢ opening.Refused code head_only)
    → Opens settings moment (option_copied text) opened → lost ≡ false → ¬ (HasNoHead (skip_pairs rest))
head_said settings moment rest None lost opened none is goes_on opens kept = let clash = none ∙ kept in absurd (cc)
head_said settings moment rest (Some text) lost opened none is goes_on opens kept =
    subst (λ (t : List ℕ). ¬ (HasNoHead t)) is (text_said settings moment text.now opened goes_on opens)

-- too large
pub held_large : (session : Connection) (rest : List ℕ) → search.Holds session.search rest → found_in rest ≡ found.TooLarge
    → (code : Code) → refused_at session.stage ≡ Some code → HoldsHead session rest
held_large session rest held large code refused = record {
  front = rest;
  behind = [];
  joined = sym (append-nil rest);
  held = held;
  decided = λ none. (let clash = sym large ∙ none in absurd (cc));
  whole = λ text _. (let clash = sym text.found ∙ large in absurd (cc));
  says = λ none _. (let clash = sym none ∙ refused in absurd (cc));
}

-- so far
pub held_here : (session : Connection) (bytes : List ℕ) → (moment_at session.stage ≢ [] → HoldsHead session bytes)
    → (rest : List ℕ) → ◌≡◌ {A = Option (List ℕ)} (Some bytes) (Some rest) → moment_at session.stage ≢ [] → HoldsHead session rest
held_here session bytes holds rest is given = let same : bytes ≡ rest = cc in subst (λ (b : List ℕ). HoldsHead session b) same (holds given)

-- ---- what is told of it

-- what is found in front of more bytes is what is found in all
found_front : HeadsStay → LargeStays → (front behind : List ℕ) (size : ℕ) (f : Found) → found_in front ≡ f → f ≢ found.NeedMore
    → found_in (front ++ behind) ≡ found.Head size → found_in front ≡ found.Head size
found_front heads large front behind size found.NeedMore at decided all = absurd (decided refl)
found_front heads large front behind size found.TooLarge at decided all = let clash = sym (large front behind at) ∙ all in absurd (cc)
found_front heads large front behind size (found.Head n) at decided all = at ∙ sym (heads front behind n at) ∙ all

-- where the head at the front of the bytes that are left verifies, a session that lives holds it
holds_verified : HeadsStay → LargeStays → PairsStay → IsExact
    → ((s : HeadSearch) (bytes : List ℕ) (size : ℕ) → search.Holds s bytes → found_in bytes ≡ found.Head size → size ≡ length (skip_pairs bytes))
    → (settings : Settings) (session : Connection) (past : Past) (sent : List ℕ) (h : Stands session settings past sent)
    → is_dead (standing_of session) ≡ false → HeadVerifies settings h.left (moment_at session.stage) → HoldsVerified settings session
holds_verified heads large pairs exact ends settings session past sent h lives v =
    let head = h.head v.rest v.left_is (λ none. (let clash = sym v.late_is ∙ none in absurd (cc))) in
    let all = ap found_in (sym head.joined) ∙ v.found in
    let found_here = found_front heads large head.front head.behind v.size (found_in head.front) refl head.decided all in
    let size = ends session.search head.front v.size head.held found_here in
    let text : text_at v.size v.rest ≡ skip_pairs head.front =
    ap (text_at v.size) head.joined ∙ same_text pairs exact head.front head.behind v.size found_here
    ∙ take_all v.size (skip_pairs head.front) (omega (arith, size)) in
    record {
      bytes = head.front;
      held = head.held;
      whole = head.whole (record { size = v.size; found = found_here }) lives;
      found = found_here ∙ ap found.Head size;
      moment = v.moment;
      given = v.late_is;
      verifies = subst (λ (t : List ℕ). Verifies settings v.moment t) text v.verifies;
    }

-- and tells it
pub told_at_hand : HeadsStay → LargeStays → PairsStay → IsExact
    → ((s : HeadSearch) (bytes : List ℕ) (size : ℕ) → search.Holds s bytes → found_in bytes ≡ found.Head size → size ≡ length (skip_pairs bytes))
    → (settings : Settings) (session : Connection) (past : Past) (sent : List ℕ) (h : Stands session settings past sent)
    → is_dead (standing_of session) ≡ false → HeadVerifies settings h.left (moment_at session.stage) → session.is_verified ≡ true
told_at_hand heads large pairs exact ends settings session past sent h lives v =
    h.noted.told lives (holds_verified heads large pairs exact ends settings session past sent h lives v)

-- ---- a message for which memory ran out

-- it has a moment, and isn't refused
dead_given : (stage : Stage) → is_dead (standing_at stage) ≡ true → moment_at stage ≢ []
dead_given stages.Reading dead = let never = dead in absurd (cc)
dead_given (stages.Body incoming) dead = let never = dead in absurd (cc)
dead_given (stages.Waiting context) dead = let never = dead in absurd (cc)
dead_given (stages.Closed closings.Replied) dead = let never = dead in absurd (cc)
dead_given (stages.Closed (closings.Refused moment code)) dead = let never = dead in absurd (cc)
dead_given (stages.Closed (closings.Died moment)) dead = λ none. absurd (cc)

pub dead_unrefused : (stage : Stage) → is_dead (standing_at stage) ≡ true → refused_at stage ≡ None
dead_unrefused stages.Reading dead = refl
dead_unrefused (stages.Body incoming) dead = refl
dead_unrefused (stages.Waiting context) dead = refl
dead_unrefused (stages.Closed closings.Replied) dead = refl
dead_unrefused (stages.Closed (closings.Refused moment code)) dead = let never = dead in absurd (cc)
dead_unrefused (stages.Closed (closings.Died moment)) dead = refl

-- its bytes are left
dead_left : (settings : Settings) (session : Connection) (ended : Bool) (left : Option (List ℕ)) (waiting : List Turn) (last : List ℕ)
    → is_dead (standing_of session) ≡ true → HereOr settings session ended left waiting last → (rest : List ℕ) × (left ≡ Some rest)
dead_left settings session ended (Some rest) waiting last dead here = (rest, refl)
dead_left settings session ended None waiting last dead here = let clash = sym (ap (λ (stage : Stage). is_dead (standing_at stage)) here.0) ∙ dead in absurd (cc)

-- and its text, where that isn't lost, is no malformed one
pub dead_said : (settings : Settings) (session : Connection) (past : Past) (sent : List ℕ) (h : Stands session settings past sent)
    → is_dead (standing_of session) ≡ true → (text : Option (Bor (List ℕ))) → is_none text ≡ search.is_lost session.search
    → ((bytes : List ℕ) → search.Holds session.search bytes → IfSome text (λ (t : Bor (List ℕ)). t.now ≡ skip_pairs bytes))
    → IfSome text (λ (t : Bor (List ℕ)). ¬ (HasNoHead t.now))
dead_said settings session past sent h dead None lost is = tt
dead_said settings session past sent h dead (Some text) lost is =
    let left = dead_left settings session past.ended h.left h.waiting h.last dead h.here in
    let head = h.head left.0 left.1 (dead_given session.stage dead) in
    subst (λ (t : List ℕ). ¬ (HasNoHead t)) (sym (is head.front head.held)) (head.says (dead_unrefused session.stage dead) (sym lost))
