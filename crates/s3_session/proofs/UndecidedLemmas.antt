-- A connection stops at the first byte with which something is decided about a message.
use Rattle.std.proofs.Common.{◌≡◌, ◌≢◌, ℕ, suc, zero, ◌+◌, ◌-◌, ◌<◌, true, false, List, [], ◌∷◌, ◌++◌, map, take, drop, length, refl, sym, ap, subst, ◌∙◌, arith, inl, inr, append-nil, append_assoc, Option, Some, option_map}
use Rattle.std.specs.List.{flat_map}
use Rattle.std.proofs.lemmas.Bool.{cases_lt}
use Rattle.std.proofs.lemmas.List.{drop-take, length-take, take-append-drop, take-take}
use Rattle.s3_config.specs.Settings.{Settings}
use Rattle.s3_http_heads.specs.Find.{found_in}
use Rattle.s3_http_heads.specs.declared.find.Found.{Found}
use Rattle.s3_http_heads.specs.declared.find.Found.TheVariants as found
use Rattle.s3_http_heads.specs.Search as search
use Rattle.s3_replies.specs.declared.context.Context.{Context}
use Rattle.s3_session.specs.Decision.{Judges, open_yet}
use Rattle.s3_session.specs.Invitation.{Invites}
use Rattle.s3_session.specs.Walk.{Walks}
use Rattle.s3_session.specs.Output.{Exchange, IsOpen, Past, Reading, Writes, moment_once_found, message_of, turn_of, written_for, is_dead}
use Rattle.s3_session.specs.Laws.{InvitationsStay, VerdictsStay}
use Rattle.s3_machine.specs.declared.turn.Turn.{Turn}
use Rattle.s3_session.specs.declared.incoming.Incoming.{Incoming}
use Rattle.s3_session.specs.declared.incoming.Progress.{Progress}
use Rattle.s3_session.specs.declared.incoming.Progress.TheVariants as progress
use Rattle.s3_session.specs.declared.session.Need.{Need}
use Rattle.s3_session.specs.declared.session.Stage.TheVariants as stages
use Rattle.s3_session.specs.Incoming.{IsInBody, IsIncoming, context_in}
use Rattle.s3_session.specs.Session.{Connection, StaysOpen, fed, moment_at, standing_of}
use Rattle.s3_session.specs.Stands.{GoesOn, IsFed, IsUndecided, Stands}
use Rattle.s3_session.proofs.StayLemmas.{HeadsStay}
use Rattle.s3_session.proofs.StandsLemmas.{gave_between, nothing_found, reading_at, receiving_at, walk_more}

-- first so many, and then so many of those behind
pub take_on : (n m : ℕ) (xs : List ℕ) → take n xs ++ take m (drop n xs) ≡ take (n + m) xs
take_on n m xs =
    let front : take n (take (n + m) xs) ≡ take n xs = take-take n (n + m) xs (omega arith) in
    ap (λ l. l ++ take m (drop n xs)) (sym front) ∙ ap (λ l. take n (take (n + m) xs) ++ l) (sym (drop-take n m xs)) ∙ take-append-drop n (take (n + m) xs)

-- ---- what a piece makes of a connection

-- before a whole head, nothing is decided
pub searching : (settings : Settings) (moments rest piece : List ℕ) (n : ℕ) → found_in (rest ++ take n piece) ≡ found.NeedMore
    → (k : ℕ) × (text : List ℕ) × IsOpen settings false (rest ++ take n piece) (take k moments) [] text
searching settings moments rest piece n at =
    let told = nothing_found settings 0 false (rest ++ take n piece) [] at refl in
    (0, [], record { moment = 0; asked = rw at refl; none = refl; judged = told.0; invites = told.1 })

-- nor in a piece of which nothing was taken
pub nothing_taken : (settings : Settings) (moments rest piece : List ℕ) → IsUndecided settings moments rest piece 0
nothing_taken settings moments rest piece n less = absurd (omega (arith, less))

-- memory did not run out
went_on : (context : Context) (old new : Connection) (p : Progress) (need : Need) → GoesOn context p old new need → is_dead (standing_of new) ≡ false → p ≢ progress.Died
went_on context old new p need goes_on lives is =
    let dying = subst (λ (q : Progress). GoesOn context q old new need) is goes_on in
    let dead : is_dead (standing_of new) ≡ true = rw dying.1 refl in
    let never : true ≡ false = sym dead ∙ lives in
    absurd (cc)

-- the message has its moment
gave_its : (context : Context) (old new : Connection) (p : Progress) (need : Need) → context_in context p ≡ context → GoesOn context p old new need → moment_at new.stage ≡ context.moment ∷ []
gave_its context old new (progress.Open incoming) need kept goes_on = rw goes_on.1 (ap (λ (c : Context). c.moment ∷ []) kept)
gave_its context old new (progress.Whole command sum) need kept (inl asks) = rw asks.1 refl
gave_its context old new (progress.Whole command sum) need kept (inr (dying, lacks)) = rw dying.1 refl
gave_its context old new (progress.Refused code) need kept goes_on = rw goes_on.1 refl
gave_its context old new progress.Died need kept dying = rw dying.1 refl

-- a piece of a body
pub body_undecided : HeadsStay → InvitationsStay → (settings : Settings) (incoming : Incoming) (rest last piece : List ℕ) (old new : Connection) (n : ℕ) (p : Progress) (need : Need)
    → IsIncoming settings incoming rest → Invites settings incoming.context.moment rest last
    → (p ≢ progress.Died → (m : ℕ) → m < n → Judges settings incoming.context.moment false (rest ++ take m piece) open_yet)
    → GoesOn incoming.context p old new need → context_in incoming.context p ≡ incoming.context → is_dead (standing_of new) ≡ false
    → IsUndecided settings (moment_at new.stage) rest piece n
body_undecided heads stay settings incoming rest last piece old new n p need h invites judges goes_on kept lives m less =
    let some : found_in rest ≢ found.NeedMore = λ none. (let same = sym h.found ∙ none in absurd (cc)) in
    let there = heads rest (take m piece) (length h.text) h.found in (
      1,
      last,
      record {
        moment = incoming.context.moment;
        asked = rw (gave_its incoming.context old new p need kept goes_on, there) refl;
        none = refl;
        judged = judges (went_on incoming.context old new p need goes_on lives) m less;
        invites = stay settings incoming.context.moment rest (take m piece) last some invites;
      },
    )

-- a head, and more behind it
pub found_undecided : (settings : Settings) (moments rest piece : List ℕ) (len behind : ℕ)
    → ((m : ℕ) → m < len → found_in (rest ++ take m piece) ≡ found.NeedMore)
    → IsUndecided settings moments (rest ++ take len piece) (drop len piece) behind → IsUndecided settings moments rest piece (len + behind)
found_undecided settings moments rest piece len behind before undecided m less =
    elim (cases_lt m len) [
      | inl early ↦ searching settings moments rest piece m (before m early)
      | inr late ↦
          let open_there = undecided (m - len) (omega (arith, less, late)) in
          let joined : (rest ++ take len piece) ++ take (m - len) (drop len piece) ≡ rest ++ take m piece =
          append_assoc rest (take len piece) (take (m - len) (drop len piece)) ∙ ap (λ l. rest ++ l) (take_on len (m - len) piece ∙ ap (λ j. take j piece) (omega (arith, late))) in
          (open_there.0, open_there.1, subst (λ (b : List ℕ). IsOpen settings false b (take open_there.0 moments) [] open_there.1) joined open_there.2)
    ]

-- ---- what would have been written

-- the moment was given where one was asked for
one_given : (k m given : ℕ) → take k (m ∷ []) ≡ given ∷ [] → take k (m ∷ []) ≡ m ∷ take k []
one_given zero m given is = absurd (cc)
one_given (suc zero) m given is = refl
one_given (suc (suc k)) m given is = refl

gave_first : (old new : Connection) (k : ℕ) → old.stage ≡ stages.Reading → take k (moment_at new.stage) ≡ moment_at old.stage ++ take k (gave_between old new)
gave_first old new k at = rw at refl

gave_before : (old new : Connection) (incoming : Incoming) (k given : ℕ) → old.stage ≡ stages.Body incoming → moment_at new.stage ≡ incoming.context.moment ∷ []
    → take k (incoming.context.moment ∷ []) ≡ given ∷ [] → take k (moment_at new.stage) ≡ moment_at old.stage ++ take k (gave_between old new)
gave_before old new incoming k given at moment asked = rw (at, moment) (one_given k incoming.context.moment given asked)

module _ (stay : VerdictsStay) (invited : InvitationsStay) (settings : Settings) (old new : Connection) (past : Past) (sent piece : List ℕ) (taken : ℕ) (need : Need)
    (h : Stands old settings past sent) (goes_on : old.is_ended ≡ false) (lives : is_dead (standing_of new) ≡ false) where
  writes_open : (rest : List ℕ) → h.left ≡ Some rest → h.waiting ≡ [] → (bytes given late text : List ℕ) → late ≡ moment_at old.stage ++ given
      → IsOpen settings false (rest ++ bytes) late [] text → (out : List ℕ) × Writes Reading settings (fed past bytes given []) out
  writes_open rest is none bytes given late text gave open_there =
      let s = h.serves in
      let unended : past.ended ≡ false = h.end ∙ goes_on in
      let xs = s.exchanges in
      let moved = walk_more stay invited settings false bytes past (map message_of xs) h.left unended s.walk in
      let walk = subst (λ (l : Option (List ℕ)). Walks settings false (past.bytes ++ bytes) (map message_of xs) l) (ap (option_map (λ (r : List ℕ). r ++ bytes)) is) moved in (
        flat_map written_for xs ++ text,
        record {
          left = Some (rest ++ bytes);
          late = late;
          waiting = [];
          last = text;
          serves = record {
            exchanges = xs;
            walk = subst (λ e. Walks settings e (past.bytes ++ bytes) (map message_of xs) (Some (rest ++ bytes))) (sym unended) walk;
            replied = s.replied;
            moments = ap (λ (ms : List ℕ). ms ++ given) s.moments
                ∙ append_assoc (map (λ (x : Exchange). x.context.moment) xs) (moment_at old.stage) given
                ∙ ap (λ (ms : List ℕ). map (λ (x : Exchange). x.context.moment) xs ++ ms) (sym gave);
            turns = append-nil past.turns ∙ s.turns ∙ ap (λ (ts : List Turn). map turn_of xs ++ ts) none;
            answers = s.answers;
            joined = refl;
          };
          behind = subst (λ e. IsOpen settings e (rest ++ bytes) late [] text) (sym unended) open_there;
        },
      )

  -- fewer of the bytes that were taken
  fewer : (n : ℕ) → n < length (take taken piece) → (n < taken) × (take n (take taken piece) ≡ take n piece)
  fewer n less = (omega (arith, less, length-take taken piece), take-take n taken piece (omega (arith, less, length-take taken piece)))

  pub reading_open : old.stage ≡ stages.Reading → ((rest : List ℕ) → search.Stands old.search rest → IsFed settings old new rest [] piece taken need)
      → StaysOpen settings past (take taken piece) (gave_between old new)
  reading_open at feeds n less =
      let a = reading_at settings old past.ended h.left h.waiting h.last at h.here in
      let few = fewer n less in
      let open_there = (feeds a.0 (a.2.searched (h.end ∙ goes_on))).at_once lives n few.0 in
      let k = open_there.0 in
      let out = writes_open a.0 a.1 a.2.none (take n piece) (take k (gave_between old new)) (take k (moment_at new.stage)) open_there.1 (gave_first old new k at) open_there.2 in
      (k, out.0, rw few.1 out.1)

  pub receiving_open : (incoming : Incoming) → old.stage ≡ stages.Body incoming → moment_at new.stage ≡ incoming.context.moment ∷ []
      → HeadsStay → ((rest last : List ℕ) → IsInBody settings incoming rest → Invites settings incoming.context.moment rest last → IsFed settings old new rest last piece taken need)
      → StaysOpen settings past (take taken piece) (gave_between old new)
  receiving_open incoming at moment heads feeds n less =
      let a = receiving_at settings old past.ended incoming h.left h.waiting h.last at h.here in
      let few = fewer n less in
      let open_there = (feeds a.0 h.last a.2.body a.2.invites).at_once lives n few.0 in
      let k = open_there.0 in
      let m = incoming.context.moment in
      let there = heads a.0 (take n piece) (length a.2.body.begun.text) a.2.body.begun.found in
      let asked : take k (m ∷ []) ≡ open_there.2.moment ∷ [] = ap (take k) (sym moment) ∙ open_there.2.asked ∙ ap (λ (f : Found). moment_once_found f open_there.2.moment) there in
      let out = writes_open a.0 a.1 a.2.none (take n piece) (take k (gave_between old new)) (take k (moment_at new.stage)) open_there.1 (gave_before old new incoming k open_there.2.moment at moment asked) open_there.2 in
      (k, out.0, rw few.1 out.1)
