-- A sound message is sound by its own bytes alone.
use Rattle.std.proofs.Common.{◌≡◌, ◌≤◌, ℕ, Bool, true, false, ◌==◌, ◌&&◌, cond, List, [], ◌∷◌, ◌++◌, length, take, Some, refl, sym, ap, subst, ◌∙◌, append-nil, append_assoc, arith, inl, inr}
use Rattle.std.proofs.lemmas.Bool.{cases_Bool, MatchBool-at_true, MatchBool-at_false}
use Rattle.std.proofs.lemmas.List.{length-append, take-append-le, take_at}
use Rattle.s3_http_heads.specs.Find.{found_in, skip_pairs, head_end, EndsHead}
use Rattle.s3_http_heads.specs.declared.find.Found.TheVariants as found
use Rattle.s3_http_heads.specs.Head.{HeadParts}
use Rattle.s3_http_heads.specs.Message.{IsMessageBy}
use Rattle.s3_framed_bodies.specs.Framed.{Ends}
use Rattle.s3_session.specs.Invitation.{Invites}
use Rattle.s3_session.specs.Laws.{InvitationsStay, OneInvitation, SoundAlone, SoundIsJudged, SoundMessages, SoundWalksAlone, VerdictsStay}
use Rattle.s3_session.specs.Walk.{Walks}
use Rattle.s3_session.proofs.FrontLemmas.{IsFront, said_invites}
use Rattle.s3_session.proofs.StayLemmas.{IsExact}
use Rattle.s3_session.proofs.WalkLemmas.{walks_on, walks_push}

-- ---- the bytes of a message

-- a front of bytes that begin with no pair begins with none
no_pairs : (b c : ℕ) (rest front behind : List ℕ) → (b == 13 && c == 10) ≡ false → 2 ≤ length front → b ∷ c ∷ rest ≡ front ++ behind → skip_pairs front ≡ front
unfolding skip_pairs
no_pairs b c rest [] behind none two is = absurd (omega (arith, two))
no_pairs b c rest (x ∷ []) behind none two is = absurd (omega (arith, two))
no_pairs b c rest (x ∷ y ∷ front) behind none two is =
    let first : b ≡ x = cc in
    let second : c ≡ y = cc in
    let other : (x == 13 && y == 10) ≡ false = subst (λ (z : ℕ). (x == 13 && z == 10) ≡ false) second (subst (λ (z : ℕ). (z == 13 && c == 10) ≡ false) first none) in
    rw other refl

-- a front of what is left behind the skipped pairs is left of a front of the bytes
front_of : (bytes front behind : List ℕ) → 2 ≤ length front → skip_pairs bytes ≡ front ++ behind
    → (whole : List ℕ) × (bytes ≡ whole ++ behind) × (skip_pairs whole ≡ front)
unfolding skip_pairs
front_of [] front behind two is = absurd (omega (arith, two, ap length is, length-append front behind))
front_of (b ∷ []) front behind two is = absurd (omega (arith, two, ap length is, length-append front behind))
front_of (b ∷ c ∷ rest) front behind two is = by (front_of rest front behind two) (b == 13 && c == 10) refl is
  where
    by : (skip_pairs rest ≡ front ++ behind → (w : List ℕ) × (rest ≡ w ++ behind) × (skip_pairs w ≡ front)) → (t : Bool) → (b == 13 && c == 10) ≡ t
        → cond t (skip_pairs rest) (b ∷ c ∷ rest) ≡ front ++ behind → (w : List ℕ) × (b ∷ c ∷ rest ≡ w ++ behind) × (skip_pairs w ≡ front)
    by further true at is = let w = further is in (b ∷ c ∷ w.0, ap (λ l. b ∷ c ∷ l) w.1, rw at w.2)
    by further false at is = (front, is, no_pairs b c rest front behind at two is)

-- a head text within that front is found there
head_found : IsExact → (bytes whole front behind : List ℕ) (n : ℕ) → skip_pairs bytes ≡ front ++ behind → skip_pairs whole ≡ front → n ≤ length front
    → found_in bytes ≡ found.Head n → found_in whole ≡ found.Head n
head_found exact bytes whole front behind n before after within at =
    let text = (exact bytes n).0 at in
    let same : (k : ℕ) → k ≤ n → take k (skip_pairs whole) ≡ take k (skip_pairs bytes) =
    λ k few. ap (take k) after ∙ sym (take-append-le k front behind (omega (arith, within))) ∙ ap (take k) (sym before) in
    (exact whole n).1 (record {
      within = omega (arith, within, ap length after);
      small = text.small;
      ends = subst EndsHead (sym (same n (omega arith))) text.ends;
      shortest = λ k less ends. text.shortest k less (subst EndsHead (same k (omega arith)) ends);
    })

-- so some first bytes are a whole message, with nothing behind it
message_front : IsExact → (ends_there : List ℕ → Type 0) (bytes body rest : List ℕ) (head : HeadParts) → (m : IsMessageBy ends_there bytes head body rest)
    → (whole : List ℕ) × (bytes ≡ whole ++ rest) × IsFront whole m.text body
message_front exact ends_there bytes body rest head m =
    let size = length m.text in
    let joined : skip_pairs bytes ≡ (m.text ++ body) ++ rest = m.joined ∙ sym (append_assoc m.text body rest) in
    let ends = ((exact bytes size).0 m.found).ends in
    let text : m.text ≡ ends.0 ++ head_end = sym (take_at m.text (body ++ rest) size refl) ∙ ap (take size) (sym m.joined) ∙ ends.1 in
    let long = length-append m.text body in
    let w = front_of bytes (m.text ++ body) rest (omega (arith, ap length text, length-append ends.0 head_end, long)) joined in
    (w.0, w.1, record { found = head_found exact bytes w.0 (m.text ++ body) rest size joined w.2 (omega (arith, long)) m.found; joined = w.2 })

-- ---- the laws

pub sound_alone : IsExact → SoundMessages → SoundIsJudged → OneInvitation → SoundAlone
sound_alone exact messages judged one settings moment ended bytes rest context command is =
    let s = messages settings moment ended bytes rest context command is in
    let m = s.message in
    let w = message_front exact (Ends s.asks.announced.framing) bytes s.body rest s.head m in
    let told = said_invites settings moment ended bytes m.text (s.body ++ rest) s.head (record { found = m.found; joined = m.joined }) m.says in
    let tells = said_invites settings moment false w.0 m.text s.body s.head w.2 m.says in (
      w.0,
      w.1,
      judged settings moment false w.0 [] context command (record {
        head = s.head;
        body = s.body;
        asks = s.asks;
        payload = s.payload;
        message = record {
          text = m.text;
          found = w.2.found;
          joined = w.2.joined ∙ ap (λ l. m.text ++ l) (sym (append-nil s.body));
          says = m.says;
          whole = m.whole;
        };
        admitted = s.admitted;
        accepted = s.accepted;
        replied = s.replied;
        asked = s.asked;
      }),
      λ text invites. subst (Invites settings moment w.0) (one settings moment bytes _ text told invites) tells,
    )

pub sound_walks_alone : SoundAlone → VerdictsStay → InvitationsStay → SoundWalksAlone
sound_walks_alone alone stay invited settings ended bytes rest [] walk = let same : rest ≡ bytes = cc in ([], sym same, refl)
sound_walks_alone alone stay invited settings ended bytes rest (m ∷ messages) walk = elim (cases_Bool m.context.closes) [
  | inl closing ↦ let shut = (MatchBool-at_true _ _ closing walk.3).1 in absurd (cc)
  | inr open_still ↦
      let first = alone settings m.context.moment ended bytes walk.0 m.context m.command walk.1 in
      let later = sound_walks_alone alone stay invited settings ended walk.0 rest messages (MatchBool-at_false _ _ open_still walk.3) in
      let one : Walks settings false first.0 (m ∷ []) (Some []) = ([], first.2, first.3 m.invitation walk.2, rw open_still refl) in (
        first.0 ++ later.0,
        first.1 ∙ ap (λ l. first.0 ++ l) later.1 ∙ sym (append_assoc first.0 later.0 rest),
        walks_push settings false (first.0 ++ later.0) later.0 (m ∷ []) messages (Some [])
            (walks_on stay invited settings false first.0 later.0 (m ∷ []) (Some []) one) later.2,
      )
]
