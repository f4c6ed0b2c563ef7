-- The messages at the front of a connection's bytes, where more bytes follow, and where more messages do.
use Rattle.std.proofs.Common.{◌≡◌, ◌≢◌, ℕ, Bool, false, List, [], ◌∷◌, ◌++◌, Option, Some, option_map, sym, ap, subst, ◌∙◌, inl, inr}
use Rattle.std.proofs.lemmas.Bool.{cases_Bool, MatchBool-at_true, MatchBool-at_false}
use Rattle.s3_config.specs.Settings.{Settings}
use Rattle.s3_http_heads.specs.Find.{found_in}
use Rattle.s3_http_heads.specs.declared.find.Found.TheVariants as found
use Rattle.s3_session.specs.Verdict as verdicts
use Rattle.s3_session.specs.Walk.{Message, Walks}
use Rattle.s3_session.specs.Output.{HasText}
use Rattle.s3_session.specs.Laws.{VerdictsStay, InvitationsStay}
use Rattle.s3_session.proofs.EarlyLemmas.{sound_text}

-- something was found where a head text stands
pub text_found : (bytes : List ℕ) → HasText bytes → found_in bytes ≢ found.NeedMore
text_found bytes whole none = let same = sym whole.found ∙ none in absurd (cc)

-- the messages at the front of the first part of the bytes are those at the front of all of them
pub walks_on : VerdictsStay → InvitationsStay → (settings : Settings) (ended : Bool) (bytes more : List ℕ) (messages : List Message) (left : Option (List ℕ))
    → Walks settings false bytes messages left
    → Walks settings ended (bytes ++ more) messages (option_map (λ (rest : List ℕ). rest ++ more) left)
walks_on stay invited settings ended bytes more [] left walk = ap (option_map (λ (rest : List ℕ). rest ++ more)) walk
walks_on stay invited settings ended bytes more (m ∷ messages) left walk = (
  walk.0 ++ more,
  stay settings m.context.moment ended bytes more (verdicts.Sound m.context m.command) walk.0 walk.1 (λ is. absurd (cc)),
  invited settings m.context.moment bytes more m.invitation
      (text_found bytes (sound_text settings m.context.moment false bytes m.context m.command walk.0 walk.1)) walk.2,
  elim (cases_Bool m.context.closes) [
    | inl closing ↦
        let shut = MatchBool-at_true _ _ closing walk.3 in
        rw closing (shut.0, ap (option_map (λ (rest : List ℕ). rest ++ more)) shut.1)
    | inr open_still ↦ rw open_still
        (walks_on stay invited settings ended walk.0 more messages left (MatchBool-at_false _ _ open_still walk.3))
  ],
)

-- more messages behind those that leave some bytes
pub walks_push : (settings : Settings) (ended : Bool) (bytes rest : List ℕ) (messages more : List Message) (left : Option (List ℕ))
    → Walks settings ended bytes messages (Some rest) → Walks settings ended rest more left
    → Walks settings ended bytes (messages ++ more) left
walks_push settings ended bytes rest [] more left walk next =
    let same : rest ≡ bytes = cc in subst (λ b. Walks settings ended b more left) same next
walks_push settings ended bytes rest (m ∷ messages) more left walk next = (
  walk.0,
  walk.1,
  walk.2,
  elim (cases_Bool m.context.closes) [
    | inl closing ↦ let shut = (MatchBool-at_true _ _ closing walk.3).1 in absurd (cc)
    | inr open_still ↦ rw open_still
        (walks_push settings ended walk.0 rest messages more left (MatchBool-at_false _ _ open_still walk.3) next)
  ],
)
