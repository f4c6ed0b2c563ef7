-- What is written before the body of a message is read stays, and is one.
use Rattle.std.proofs.Common.{◌≡◌, ◌≢◌, ◌⊎◌, ℕ, List, [], ◌++◌, refl, sym, subst, ◌∙◌, inl, inr}
use Rattle.s3_config.specs.Settings.{Settings}
use Rattle.s3_http_heads.specs.Find.{found_in}
use Rattle.s3_http_heads.specs.declared.find.Found.{Found}
use Rattle.s3_http_heads.specs.declared.find.Found.TheVariants as found
use Rattle.s3_http_heads.specs.Head.{HeadParts, Says, HasNoHead}
use Rattle.s3_session.specs.Admission.{admission_of}
use Rattle.s3_session.specs.Decision.{text_at}
use Rattle.s3_session.specs.Invitation.{Invites, FoundInvites, invitation}
use Rattle.s3_session.specs.Laws.{InvitationsStay, OneInvitation}
use Rattle.s3_session.proofs.StayLemmas.{HeadsStay, LargeStays, PairsStay, IsExact, same_text}
use Rattle.s3_session.proofs.VerdictLemmas.{SaysOneThing}

-- what is written once the head text has been cut
abbrev TextInvites : Settings → ℕ → List ℕ → List ℕ → Type 0
TextInvites settings moment text written =
    (HasNoHead text × (written ≡ []))
    ⊎ ((head : HeadParts) × Says text head × (written ≡ invitation settings.dialect head (admission_of settings head moment)))

found_invites_stays : HeadsStay → LargeStays → PairsStay → IsExact → (settings : Settings) (moment : ℕ) (bytes more text : List ℕ) (f : Found)
    → found_in bytes ≡ f → f ≢ found.NeedMore → FoundInvites settings moment bytes f text
    → FoundInvites settings moment (bytes ++ more) (found_in (bytes ++ more)) text
found_invites_stays heads large pairs exact settings moment bytes more text found.NeedMore at decided invites = absurd (decided refl)
found_invites_stays heads large pairs exact settings moment bytes more text found.TooLarge at decided invites =
    subst (λ (f : Found). FoundInvites settings moment (bytes ++ more) f text) (sym (large bytes more at)) invites
found_invites_stays heads large pairs exact settings moment bytes more text (found.Head n) at decided invites =
    subst (λ (f : Found). FoundInvites settings moment (bytes ++ more) f text) (sym (heads bytes more n at))
    (subst (λ (t : List ℕ). TextInvites settings moment t text) (sym (same_text pairs exact bytes more n at)) invites)

pub invites_stays : HeadsStay → LargeStays → PairsStay → IsExact → InvitationsStay
unfolding Invites
invites_stays heads large pairs exact settings moment bytes more text decided invites =
    found_invites_stays heads large pairs exact settings moment bytes more text (found_in bytes) refl decided invites

text_invites_once : SaysOneThing → (settings : Settings) (moment : ℕ) (text a b : List ℕ)
    → TextInvites settings moment text a → TextInvites settings moment text b → a ≡ b
text_invites_once one settings moment text a b (inl x) (inl y) = x.1 ∙ sym y.1
text_invites_once one settings moment text a b (inl x) (inr y) = absurd (x.0 y.1.0 y.1.1)
text_invites_once one settings moment text a b (inr x) (inl y) = absurd (y.0 x.1.0 x.1.1)
text_invites_once one settings moment text a b (inr x) (inr y) =
    let same = subst (λ (head : HeadParts). b ≡ invitation settings.dialect head (admission_of settings head moment)) (sym (one text x.0 y.0 x.1 y.1)) y.2 in
    x.2 ∙ sym same

found_invites_once : SaysOneThing → (settings : Settings) (moment : ℕ) (bytes a b : List ℕ) (f : Found)
    → FoundInvites settings moment bytes f a → FoundInvites settings moment bytes f b → a ≡ b
found_invites_once one settings moment bytes a b found.NeedMore x y = x ∙ sym y
found_invites_once one settings moment bytes a b found.TooLarge x y = x ∙ sym y
found_invites_once one settings moment bytes a b (found.Head n) x y = text_invites_once one settings moment (text_at n bytes) a b x y

pub one_invitation : SaysOneThing → OneInvitation
unfolding Invites
one_invitation one settings moment bytes a b x y = found_invites_once one settings moment bytes a b (found_in bytes) x y
