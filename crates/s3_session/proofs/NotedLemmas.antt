-- What is noted of the signature of the head at hand.
use Rattle.std.proofs.Common.{◌≡◌, ◌⊎◌, ℕ, Bool, true, false, List, [], ◌∷◌, length, take, is_none, Option, Some, None, IfSome, refl, sym, ap, subst, ◌∙◌, inl, inr}
use Rattle.std.specs.Borrow.{Bor}
use Rattle.std.specs.Option.{option_copied}
use Rattle.s3_config.specs.Settings.{Settings}
use Rattle.s3_http_heads.specs.Find.{found_by, found_in, head_limit, skip_pairs, text_length}
use Rattle.s3_http_heads.specs.declared.find.Found.TheVariants as found
use Rattle.s3_http_heads.specs.Head.{HeadParts, Says}
use Rattle.s3_http_heads.specs.Search as search
use Rattle.s3_http_heads.specs.declared.search.HeadSearch.{HeadSearch}
use Rattle.s3_replies.specs.declared.context.Context.{Context}
use Rattle.s3_session.specs.declared.incoming.Incoming.{Incoming}
use Rattle.s3_session.specs.declared.opening.Opening.TheVariants as opening
use Rattle.s3_session.specs.declared.session.Stage.{Stage}
use Rattle.s3_session.specs.declared.session.Stage.TheVariants as stages
use Rattle.s3_session.specs.declared.session.Closing.{Closing}
use Rattle.s3_session.specs.declared.session.Closing.TheVariants as closings
use Rattle.s3_session.specs.Incoming.{Opens}
use Rattle.s3_session.specs.Output.{HasText, is_dead, is_waiting}
use Rattle.s3_session.specs.Session.{Connection, KeepsHead, moment_at, refused_at, standing_at, standing_of}
use Rattle.s3_session.specs.Verified.{HoldsVerified, IsNoted, IsSigned, RefusedTakes, TextTakes, Verifies, VerifiesIn, is_admitted}

-- nothing is noted where no head is held that verifies
pub none_noted : (settings : Settings) (session : Connection) → session.is_verified ≡ false → is_admitted session.stage ≡ false
    → ¬ (HoldsVerified settings session) → IsNoted settings session
none_noted settings session none other never = record {
  only = λ is. (let same = sym none ∙ is in absurd (cc));
  told = λ lives holds. absurd (never holds);
  admitted = λ is. (let same = sym other ∙ is in absurd (cc));
  spared = λ _ is. (let same = sym none ∙ is in absurd (cc));
}

-- none is where no message has a moment
pub without_moment : (settings : Settings) (session : Connection) → moment_at session.stage ≡ [] → ¬ (HoldsVerified settings session)
without_moment settings session none holds = let same = sym none ∙ holds.given in absurd (cc)

-- a search that lost nothing holds one text
one_text : (s : HeadSearch) (a b : List ℕ) → search.is_lost s ≡ false → search.Holds s a → search.Holds s b → skip_pairs a ≡ skip_pairs b
one_text s a b whole first second =
    sym (subst (λ (lost : Bool). s.text.items ≡ search.kept lost (skip_pairs a)) whole first.text)
    ∙ subst (λ (lost : Bool). s.text.items ≡ search.kept lost (skip_pairs b)) whole second.text

-- nor is one where more came than a head may have
pub without_head : (settings : Settings) (session : Connection) (rest : List ℕ) → search.Holds session.search rest → found_in rest ≡ found.TooLarge
    → ¬ (HoldsVerified settings session)
unfolding found_in
without_head settings session rest held large holds =
    let texts = one_text session.search holds.bytes rest holds.whole holds.held held in
    let same : found_in holds.bytes ≡ found_in rest = ap (λ (text : List ℕ). found_by (text_length (take head_limit text)) (length text)) texts in
    let clash = sym holds.found ∙ same ∙ large in absurd (cc)

false_where : (b : Bool) → ¬ (b ≡ true) → b ≡ false
false_where true never = absurd (never refl)
false_where false never = refl

-- a session that reads a head has noted nothing
pub reads_unnoted : (settings : Settings) (session : Connection) → session.stage ≡ stages.Reading → IsNoted settings session → session.is_verified ≡ false
reads_unnoted settings session at noted =
    false_where session.is_verified (λ is. (let given = (noted.only is).given in let same = sym given ∙ ap moment_at at in absurd (cc)))

-- a head that verifies does so as long as it is held, where the message at hand keeps its moment
holds_on : (settings : Settings) (old new : Connection) → new.search ≡ old.search → moment_at new.stage ≡ moment_at old.stage
    → HoldsVerified settings old → HoldsVerified settings new
holds_on settings old new same moments h = record {
  bytes = h.bytes;
  held = subst (λ (s : HeadSearch). search.Holds s h.bytes) (sym same) h.held;
  whole = ap search.is_lost same ∙ h.whole;
  found = h.found;
  moment = h.moment;
  given = moments ∙ h.given;
  verifies = h.verifies;
}

module _ (settings : Settings) (old new : Connection) where
  -- the note stays with the head, where the message at hand keeps its moment
  pub noted_on : KeepsHead old new → moment_at new.stage ≡ moment_at old.stage → (is_admitted new.stage ≡ true → is_admitted old.stage ≡ true)
      → (is_dead (standing_of new) ≡ false → is_dead (standing_of old) ≡ false) → (refused_at new.stage ≡ None → refused_at old.stage ≡ None)
      → IsNoted settings old → IsNoted settings new
  unfolding holds_on
  noted_on keeps moments admitted lives stays noted = record {
    only = λ is. holds_on settings old new keeps.0 moments (noted.only (sym keeps.1 ∙ is));
    told = λ alive h. keeps.1 ∙ noted.told (lives alive) (holds_on settings new old (sym keeps.0) (sym moments) h);
    admitted = λ is. keeps.1 ∙ noted.admitted (admitted is);
    spared = λ none is h. noted.spared (stays none) (sym keeps.1 ∙ is) (holds_on settings new old (sym keeps.0) (sym moments) h);
  }

  -- what is noted of a head that came whole
  module _ (moment : ℕ) (rest : List ℕ) (held : search.Holds old.search rest) (whole : HasText rest)
      (ends : (s : HeadSearch) (bytes : List ℕ) (size : ℕ) → search.Holds s bytes → found_in bytes ≡ found.Head size → size ≡ length (skip_pairs bytes)) where
    text_verifies : (text : Option (Bor (List ℕ))) → IfSome text (λ (t : Bor (List ℕ)). t.now ≡ skip_pairs rest)
        → VerifiesIn settings moment (option_copied text) → Verifies settings moment (skip_pairs rest)
    text_verifies None is verifies = absurd verifies
    text_verifies (Some text) is verifies = subst (λ (t : List ℕ). Verifies settings moment t) is verifies

    -- a text that verifies isn't lost
    text_whole : (text : Option (Bor (List ℕ))) → is_none text ≡ search.is_lost old.search
        → VerifiesIn settings moment (option_copied text) → search.is_lost old.search ≡ false
    text_whole None lost verifies = absurd verifies
    text_whole (Some text) lost verifies = sym lost

    -- and a head that is held is a text that verifies
    verifies_text : (text : Option (Bor (List ℕ))) → IfSome text (λ (t : Bor (List ℕ)). t.now ≡ skip_pairs rest)
        → is_none text ≡ search.is_lost old.search → search.is_lost old.search ≡ false
        → Verifies settings moment (skip_pairs rest) → VerifiesIn settings moment (option_copied text)
    verifies_text None is lost whole verifies = let clash = lost ∙ whole in absurd (cc)
    verifies_text (Some text) is lost whole verifies = subst (λ (t : List ℕ). Verifies settings moment t) (sym is) verifies

    held_text : new.search ≡ old.search → (h : HoldsVerified settings new) → skip_pairs h.bytes ≡ skip_pairs rest
    held_text same h =
        one_text old.search h.bytes rest (sym (ap search.is_lost same) ∙ h.whole)
        (subst (λ (s : HeadSearch). search.Holds s h.bytes) same h.held) held

    held_moment : moment_at new.stage ≡ moment ∷ [] → (h : HoldsVerified settings new) → h.moment ≡ moment
    held_moment given h = let one = sym h.given ∙ given in cc

    held_verifies : new.search ≡ old.search → moment_at new.stage ≡ moment ∷ [] → HoldsVerified settings new
        → Verifies settings moment (skip_pairs rest)
    held_verifies same given h =
        subst (λ (m : ℕ). Verifies settings m (skip_pairs rest)) (held_moment given h)
        (subst (λ (t : List ℕ). Verifies settings h.moment t) (held_text same h) h.verifies)

    -- where a rule refuses the head of a text that isn't lost, its routing takes memory
    takes_head : (text : Option (Bor (List ℕ))) → IfSome text (λ (t : Bor (List ℕ)). t.now ≡ skip_pairs rest)
        → is_none text ≡ search.is_lost old.search → search.is_lost old.search ≡ false
        → TextTakes settings moment (option_copied text) → (head : HeadParts) → Says (skip_pairs rest) head → RefusedTakes settings head moment
    takes_head None is lost whole takes head says = let clash = lost ∙ whole in absurd (cc)
    takes_head (Some text) is lost whole takes head says = takes head (subst (λ (t : List ℕ). Says t head) (sym is) says)

    held_spared : (text : Option (Bor (List ℕ))) → IfSome text (λ (t : Bor (List ℕ)). t.now ≡ skip_pairs rest)
        → is_none text ≡ search.is_lost old.search → new.search ≡ old.search → moment_at new.stage ≡ moment ∷ []
        → TextTakes settings moment (option_copied text) → (h : HoldsVerified settings new) → RefusedTakes settings h.verifies.0 h.moment
    held_spared text is lost same given takes h =
        subst (λ (m : ℕ). RefusedTakes settings h.verifies.0 m) (sym (held_moment given h))
        (takes_head text is lost (sym (ap search.is_lost same) ∙ h.whole) takes h.verifies.0
        (subst (λ (t : List ℕ). Says t h.verifies.0) (held_text same h) h.verifies.1))

    pub noted_begun : (text : Option (Bor (List ℕ))) → IfSome text (λ (t : Bor (List ℕ)). t.now ≡ skip_pairs rest)
        → is_none text ≡ search.is_lost old.search → new.search ≡ old.search → moment_at new.stage ≡ moment ∷ []
        → (new.is_verified ≡ true → VerifiesIn settings moment (option_copied text))
        → (is_dead (standing_of new) ≡ false → VerifiesIn settings moment (option_copied text) → new.is_verified ≡ true)
        → (is_admitted new.stage ≡ true → new.is_verified ≡ true)
        → (refused_at new.stage ≡ None → new.is_verified ≡ true → TextTakes settings moment (option_copied text)) → IsNoted settings new
    noted_begun text is lost same given verifies told admitted spares = record {
      told = λ lives h. told lives (verifies_text text is lost (sym (ap search.is_lost same) ∙ h.whole) (held_verifies same given h));
      only = λ noted. record {
        bytes = rest;
        held = subst (λ (s : HeadSearch). search.Holds s rest) (sym same) held;
        whole = ap search.is_lost same ∙ text_whole text lost (verifies noted);
        found = whole.found ∙ ap found.Head (ends old.search rest whole.size held whole.found);
        moment = moment;
        given = given;
        verifies = text_verifies text is (verifies noted);
      };
      admitted = admitted;
      spared = λ none noted h. held_spared text is lost same given (spares none noted) h;
    }

-- memory ran out there
abbrev pub dies_at : Stage → Bool
dies_at stage = is_dead (standing_at stage)

-- and then it doesn't live
pub dead_lives_not : {A : Type 0} (stage : Stage) (moment : ℕ) → stage ≡ stages.Closed (closings.Died moment) → is_dead (standing_at stage) ≡ false → A
dead_lives_not stage moment at lives = let same = sym lives ∙ ap dies_at at in absurd (cc)

-- one that is closed has no head that is admitted
pub closed_noted : (stage : Stage) (closing : Closing) (noted : Bool) → stage ≡ stages.Closed closing → is_admitted stage ≡ true → noted ≡ true
closed_noted stage closing noted at is = let same = sym is ∙ ap is_admitted at in absurd (cc)

waits_admitted : (stage : Stage) → is_waiting (standing_at stage) ≡ true → is_admitted stage ≡ true
waits_admitted stages.Reading is = let never = is in absurd (cc)
waits_admitted (stages.Body incoming) is = let never = is in absurd (cc)
waits_admitted (stages.Waiting context) is = refl
waits_admitted (stages.Closed closings.Replied) is = let never = is in absurd (cc)
waits_admitted (stages.Closed (closings.Refused moment code)) is = let never = is in absurd (cc)
waits_admitted (stages.Closed (closings.Died moment)) is = let never = is in absurd (cc)

-- what is noted now wasn't noted before
pub verified_now : (settings : Settings) (moment : ℕ) (head : HeadParts) (before : Bool) → before ≡ false
    → (before ≡ true) ⊎ IsSigned settings head moment → IsSigned settings head moment
verified_now settings moment head before none (inl was) = let same = sym none ∙ was in absurd (cc)
verified_now settings moment head before none (inr verified) = verified

-- the message of an admitted head has the moment of that
pub admitted_moment : (settings : Settings) (moment : ℕ) (text : Option (List ℕ)) (incoming : Incoming) (invited : Bool)
    → Opens settings moment text (opening.Admitted incoming invited) → incoming.context.moment ≡ moment
admitted_moment settings moment None incoming invited died = let same = died in absurd (cc)
admitted_moment settings moment (Some text) incoming invited (inl (died, readable)) = let same = died in absurd (cc)
admitted_moment settings moment (Some text) incoming invited (inr (inl (none, is))) = let same = is in absurd (cc)
admitted_moment settings moment (Some text) incoming invited (inr (inr (head, says, opens))) = ap (λ (c : Context). c.moment) opens.1

-- and so it was where the session tells it, unless memory ran out
pub told_verified : (settings : Settings) (session : Connection) → IsNoted settings session → is_dead (standing_of session) ≡ false
    → HoldsVerified settings session → session.is_verified ≡ true
told_verified settings session noted = noted.told

-- where a command waits its head was verified
pub waits_verified : (settings : Settings) (session : Connection) → IsNoted settings session → is_waiting (standing_of session) ≡ true → session.is_verified ≡ true
waits_verified settings session noted waits = noted.admitted (waits_admitted session.stage waits)
