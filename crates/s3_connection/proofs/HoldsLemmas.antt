-- How a connection stands after each call.
use Rattle.std.proofs.Common.{◌≡◌, ◌⊎◌, inl, inr, ℕ, Bool, true, false, List, [], ◌∷◌, ◌++◌, map, refl, sym, ap, subst, ◌∙◌, append-nil, append_assoc, Some, Result, Ok, Err}
use Rattle.std.proofs.lemmas.Bool.{cases_Bool}
use Rattle.std.proofs.lemmas.List.{map_push}
use Rattle.s3_config.specs.Settings.{Settings}
use Rattle.s3_terms.specs.declared.memory.NoMemory.{NoMemory}
use Rattle.s3_machine.specs.History.{Entry}
use Rattle.s3_machine.specs.declared.command.Answer.{Answer}
use Rattle.s3_machine.specs.declared.turn.Turn.{Turn}
use Rattle.s3_session.specs.Output.{Past, Standing, Reading, Over, Dead, is_waiting, is_closed, nothing_yet}
use Rattle.s3_session.specs.Session as sessions
use Rattle.s3_session.specs.Session.{Connection, IsAnsweredTo, NeedsNext, answered}
use Rattle.s3_session.specs.declared.session.Next.{Next}
use Rattle.s3_session.specs.declared.session.Next.TheVariants as nexts
use Rattle.s3_session.specs.Stands.{Stands}
use Rattle.s3_connection.specs.declared.stage.Stage.{Stage}
use Rattle.s3_connection.specs.declared.stage.Stage.TheVariants as stages
use Rattle.s3_connection.specs.declared.stage.Wants.TheVariants as wants
use Rattle.s3_connection.specs.Connection.{Connected, IsFit, entries_with, is_reading_at, nothing_received, received, taken_at, wants_at}
use Rattle.s3_connection.specs.Holds.{Holds, IsBehind, IsTurn, Took}
use Rattle.s3_connection.specs.Output.{HasWaiting, Input, answer_of, answered_turn, past_of}
use Rattle.s3_connection.proofs.FeedingLemmas.{fit_answered, fit_done, fit_reading, none_waits}

pub holds_new : (settings : Settings) (session : Connection) → Stands session settings nothing_yet [] → sessions.standing_of session ≡ Reading → session.is_ended ≡ false
    → Holds (record { session = session; kept = []; stage = stages.Reading; is_ended = false }) settings nothing_received [] [] []
holds_new settings session stands reads goes_on = record {
  taken = [];
  behind = [];
  told = false;
  waiting = [];
  stands = stands;
  fit = (reads, goes_on, refl, refl);
  waits = rw reads refl;
  turn = tt;
  came = refl;
  ended = refl;
  left = refl;
}

-- what fits a session fits another that stands alike
same_fit : (stage : Stage) (old new : Connection) (kept : List ℕ) (ended : Bool) → sessions.standing_of new ≡ sessions.standing_of old → new.is_ended ≡ old.is_ended
    → IsFit stage old kept ended → IsFit stage new kept ended
same_fit stages.Reading old new kept ended same end fit = (same ∙ fit.0, end ∙ fit.1, fit.2, fit.3)
same_fit stages.Done old new kept ended same end fit = (ap is_waiting same ∙ fit.0, λ opened. end ∙ fit.1 (sym (ap is_closed same) ∙ opened), fit.2)
same_fit _ old new kept ended same end fit = (same ∙ fit.0, end ∙ fit.1)

-- a turn that is taken is the one that waited
put_at : (turn : Turn) (taken : Stage) (waiting : List Turn) (told : Bool) (session : Connection) (kept behind : List ℕ) (ended came : Bool) → taken_at taken ≡ Some turn
    → waiting ≡ turn ∷ [] → IsFit (stages.Waiting turn) session kept ended → behind ≡ kept
    → IsTurn taken waiting × IsFit taken session kept ended × IsBehind taken told kept behind came
put_at turn (stages.HandedOut out) waiting told session kept behind ended came is one fit left = (one ∙ ap (λ (t : Turn). t ∷ []) (sym (cc)), fit, left)
put_at turn _ waiting told session kept behind ended came is one fit left = absurd (cc)

-- where a turn was taken
taken_is : (stage : Stage) (turn : Turn) (waiting : List Turn) (told : Bool) (session : Connection) (kept behind : List ℕ) (ended came : Bool) → taken_at stage ≡ Some turn
    → IsTurn stage waiting → IsFit stage session kept ended → IsBehind stage told kept behind came
    → (waiting ≡ turn ∷ []) × (session.is_ended ≡ false) × (behind ≡ kept)
taken_is (stages.HandedOut out) turn waiting told session kept behind ended came is one fit left = (one ∙ ap (λ (t : Turn). t ∷ []) (cc), fit.1, left)
taken_is _ turn waiting told session kept behind ended came is one fit left = absurd (cc)

module _ (c : Connected) (settings : Settings) (input : Input) (moments : List ℕ) (entries : List Entry) (sent : List ℕ)
    (h : Holds c settings input moments entries sent) where
  -- its session heard of the end only behind all that came
  pub told_end : h.told ≡ c.session.is_ended
  told_end = h.stands.end

  told_in : (stage : Stage) → IsFit stage c.session c.kept c.is_ended → IsBehind stage h.told c.kept h.behind input.ended → h.told ≡ true
      → (h.behind ≡ []) × (input.ended ≡ true)
  told_in stages.Done fit left told = left told
  told_in _ fit left told = let never = sym told ∙ told_end ∙ fit.1 in absurd (cc)

  pub told_all : h.told ≡ true → (h.behind ≡ []) × (input.ended ≡ true)
  told_all = told_in c.stage h.fit h.left

  -- no message has a moment
  pub holds_none : Holds c settings input (moments ++ []) entries sent
  holds_none = subst (λ (ms : List ℕ). Holds c settings input ms entries sent) (sym (append-nil moments)) h

  stands_none : Stands c.session settings (past_of h.taken h.told (moments ++ []) entries h.waiting) sent
  stands_none = subst (λ (ms : List ℕ). Stands c.session settings (past_of h.taken h.told ms entries h.waiting) sent) (sym (append-nil moments)) h.stands

  -- the end has not come: the piece is received
  piece_received : (piece : List ℕ) → c.is_ended ≡ false → received input piece ≡ record input { bytes = input.bytes ++ piece }
  piece_received piece is = rw (h.ended ∙ is) refl

  -- the end has come, or the piece is empty
  pub holds_dropped : (piece : List ℕ) → (c.is_ended ≡ true) ⊎ (piece ≡ []) → Holds c settings (received input piece) (moments ++ []) entries sent
  holds_dropped piece (inl is) =
      let same : received input piece ≡ input = rw (h.ended ∙ is) refl in
      subst (λ (i : Input). Holds c settings i (moments ++ []) entries sent) (sym same) holds_none
  holds_dropped piece (inr none) =
      let same : received input piece ≡ input = elim (cases_Bool input.ended) [
        | inl over ↦ rw over refl
        | inr goes_on ↦ rw (goes_on, none, append-nil input.bytes) refl
      ] in
      subst (λ (i : Input). Holds c settings i (moments ++ []) entries sent) (sym same) holds_none

  longer : (piece : List ℕ) → input.bytes ++ piece ≡ h.taken ++ (h.behind ++ piece)
  longer piece = ap (λ (b : List ℕ). b ++ piece) h.came ∙ append_assoc h.taken h.behind piece

  -- no more is read
  closed_left : (stage : Stage) (piece : List ℕ) → wants_at stage ≡ wants.Nothing → c.is_ended ≡ false → IsBehind stage h.told c.kept h.behind input.ended
      → IsBehind stage h.told c.kept (h.behind ++ piece) input.ended
  closed_left stages.Done piece nothing is left = λ told. (let never = sym (left told).1 ∙ h.ended ∙ is in absurd (cc))
  closed_left _ piece nothing is left = absurd (cc)

  pub holds_closed : (piece : List ℕ) → wants_at c.stage ≡ wants.Nothing → c.is_ended ≡ false → Holds c settings (received input piece) (moments ++ []) entries sent
  holds_closed piece nothing is =
      subst (λ (i : Input). Holds c settings i (moments ++ []) entries sent) (sym (piece_received piece is))
      (record {
        taken = h.taken;
        behind = h.behind ++ piece;
        told = h.told;
        waiting = h.waiting;
        stands = stands_none;
        fit = h.fit;
        waits = h.waits;
        turn = h.turn;
        came = longer piece;
        ended = h.ended;
        left = closed_left c.stage piece nothing is h.left;
      })

  -- the piece is kept
  kept_at : (stage : Stage) (piece kept : List ℕ) → (wants_at stage ≡ wants.Answer) ⊎ (wants_at stage ≡ wants.ToGoOn) → kept ≡ c.kept ++ piece
      → IsFit stage c.session c.kept c.is_ended → IsBehind stage h.told c.kept h.behind input.ended
      → IsFit stage c.session kept c.is_ended × IsBehind stage h.told kept (h.behind ++ piece) input.ended
  kept_at stages.Reading piece kept (inl keeps) added fit left = absurd (cc)
  kept_at stages.Reading piece kept (inr keeps) added fit left = absurd (cc)
  kept_at stages.Done piece kept (inl keeps) added fit left = absurd (cc)
  kept_at stages.Done piece kept (inr keeps) added fit left = absurd (cc)
  kept_at _ piece kept keeps added fit left = (fit, ap (λ (b : List ℕ). b ++ piece) left ∙ sym added)

  pub holds_kept : (piece kept : List ℕ) → (wants_at c.stage ≡ wants.Answer) ⊎ (wants_at c.stage ≡ wants.ToGoOn) → c.is_ended ≡ false → kept ≡ c.kept ++ piece
      → Holds (record c { kept = kept }) settings (received input piece) (moments ++ []) entries sent
  holds_kept piece kept keeps is added =
      let at = kept_at c.stage piece kept keeps added h.fit h.left in
      subst (λ (i : Input). Holds (record c { kept = kept }) settings i (moments ++ []) entries sent) (sym (piece_received piece is))
      (record {
        taken = h.taken;
        behind = h.behind ++ piece;
        told = h.told;
        waiting = h.waiting;
        stands = stands_none;
        fit = at.0;
        waits = h.waits;
        turn = h.turn;
        came = longer piece;
        ended = h.ended;
        left = at.1;
      })

  -- where its session reads, and has not heard of the end, no turn waits
  pub idle_stands : sessions.standing_of c.session ≡ Reading → c.session.is_ended ≡ false → Stands c.session settings (past_of h.taken false moments entries []) sent
  idle_stands reads goes_on =
      let none : h.waiting ≡ [] = subst (λ (s : Standing). HasWaiting s h.waiting) reads h.waits in
      let told : h.told ≡ false = h.stands.end ∙ goes_on in
      subst (λ (ts : List Turn). Stands c.session settings (past_of h.taken false moments entries ts) sent) none
      (subst (λ (t : Bool). Stands c.session settings (past_of h.taken t moments entries h.waiting) sent) told h.stands)

  -- a session took what was offered behind what it had taken
  holds_took : (later : Input) (offered : List ℕ) (session : Connection) (kept : List ℕ) (stage : Stage) (more : List ℕ) → later.bytes ≡ h.taken ++ offered
      → later.ended ≡ c.is_ended → c.is_ended ≡ false → Took session kept stage settings h.taken offered (moments ++ more) entries sent → IsFit stage session kept false
      → Holds (record { session = session; kept = kept; stage = stage; is_ended = c.is_ended }) settings later (moments ++ more) entries sent
  holds_took later offered session kept stage more came ended is t fit = record {
    taken = h.taken ++ t.more;
    behind = t.behind;
    told = false;
    waiting = t.waiting;
    stands = t.stands;
    fit = subst (IsFit stage session kept) (sym is) fit;
    waits = t.waits;
    turn = t.turn;
    came = came ∙ ap (λ (b : List ℕ). h.taken ++ b) t.offers ∙ sym (append_assoc h.taken t.more t.behind);
    ended = ended;
    left = subst (IsBehind stage false kept t.behind) (sym (ended ∙ is)) t.left;
  }

  -- it read, and took the piece
  pub holds_read : (piece : List ℕ) (session : Connection) (kept : List ℕ) (stage : Stage) (more : List ℕ) → c.stage ≡ stages.Reading
      → Took session kept stage settings h.taken piece (moments ++ more) entries sent → IsFit stage session kept false
      → Holds (record { session = session; kept = kept; stage = stage; is_ended = c.is_ended }) settings (received input piece) (moments ++ more) entries sent
  holds_read piece session kept stage more at =
      let is : c.is_ended ≡ false = (fit_reading c.stage c.session c.kept c.is_ended at h.fit).3 in
      let behind : h.behind ≡ [] = subst (λ (s : Stage). IsBehind s h.told c.kept h.behind input.ended) at h.left in
      let same = piece_received piece is in
      holds_took (received input piece) piece session kept stage more (ap (λ (i : Input). i.bytes) same ∙ longer piece ∙ ap (λ (b : List ℕ). h.taken ++ (b ++ piece)) behind)
      (ap (λ (i : Input). i.ended) same ∙ h.ended) is

  -- it goes on behind an answer: what is behind is kept, and of the end it hears later
  answered_left : c.stage ≡ stages.Answered → h.behind ≡ c.kept
  answered_left at = subst (λ (s : Stage). IsBehind s h.told c.kept h.behind input.ended) at h.left

  pub holds_on : (session : Connection) (kept : List ℕ) (stage : Stage) (more : List ℕ) → c.stage ≡ stages.Answered → c.is_ended ≡ false
      → Took session kept stage settings h.taken c.kept (moments ++ more) entries sent → IsFit stage session kept false
      → Holds (record { session = session; kept = kept; stage = stage; is_ended = c.is_ended }) settings input (moments ++ more) entries sent
  holds_on session kept stage more at =
      holds_took input c.kept session kept stage more (h.came ∙ ap (λ (b : List ℕ). h.taken ++ b) (answered_left at)) h.ended

  pub holds_reopened : c.stage ≡ stages.Answered → Holds (record c { is_ended = false }) settings (record input { ended = false }) moments entries sent
  holds_reopened at = record {
    taken = h.taken;
    behind = h.behind;
    told = h.told;
    waiting = h.waiting;
    stands = h.stands;
    fit = subst (λ (s : Stage). IsFit s c.session c.kept false) (sym at) (fit_answered c.stage c.session c.kept c.is_ended at h.fit);
    waits = h.waits;
    turn = h.turn;
    came = h.came;
    ended = refl;
    left = subst (λ (s : Stage). IsBehind s h.told c.kept h.behind false) (sym at) (answered_left at);
  }

  -- it had heard of the end, or not
  pub holds_again : (d : Connected) (later : List ℕ) (told : Bool) → c.is_ended ≡ told
      → Holds d settings (record input { ended = told }) later entries sent → Holds d settings input later entries sent
  holds_again d later told is = subst (λ (e : Bool). Holds d settings (record input { ended = e }) later entries sent) (sym (h.ended ∙ is))

  -- it read, and hears of the end
  pub holds_over : (session : Connection) → c.stage ≡ stages.Reading
      → ((past : Past) → Stands c.session settings past sent → Stands session settings (record past { ended = true }) sent)
      → is_waiting (sessions.standing_of session) ≡ is_waiting (sessions.standing_of c.session) → session.is_ended ≡ true
      → Holds (record { session = session; kept = c.kept; stage = stages.Done; is_ended = true }) settings (record input { ended = true }) moments entries sent
  holds_over session at stands waits end =
      let f = fit_reading c.stage c.session c.kept c.is_ended at h.fit in
      let behind : h.behind ≡ [] = subst (λ (s : Stage). IsBehind s h.told c.kept h.behind input.ended) at h.left in
      record {
        taken = h.taken;
        behind = h.behind;
        told = true;
        waiting = [];
        stands = stands (past_of h.taken false moments entries []) (idle_stands f.0 f.1);
        fit = (waits ∙ ap is_waiting f.0, λ opened. end, f.2);
        waits = none_waits (sessions.standing_of session) (waits ∙ ap is_waiting f.0);
        turn = tt;
        came = h.came;
        ended = refl;
        left = λ told. (behind, refl);
      }

  -- it doesn't read, and keeps the end in mind
  told_at : (stage : Stage) → is_reading_at stage ≡ false → IsFit stage c.session c.kept c.is_ended → IsBehind stage h.told c.kept h.behind input.ended
      → IsFit stage c.session c.kept true × IsBehind stage h.told c.kept h.behind true
  told_at stages.Reading other fit left = absurd (cc)
  told_at stages.Done other fit left = (fit, λ told. ((left told).0, refl))
  told_at _ other fit left = (fit, left)

  pub holds_told : is_reading_at c.stage ≡ false → Holds (record c { is_ended = true }) settings (record input { ended = true }) moments entries sent
  holds_told other = record {
    taken = h.taken;
    behind = h.behind;
    told = h.told;
    waiting = h.waiting;
    stands = h.stands;
    fit = (told_at c.stage other h.fit h.left).0;
    waits = h.waits;
    turn = h.turn;
    came = h.came;
    ended = refl;
    left = (told_at c.stage other h.fit h.left).1;
  }

  -- its turn is taken
  pub holds_taken : (turn : Turn) (taken : Stage) → c.stage ≡ stages.Waiting turn → taken_at taken ≡ Some turn → Holds (record c { stage = taken }) settings input moments entries sent
  holds_taken turn taken at is =
      let put = put_at turn taken h.waiting h.told c.session c.kept h.behind c.is_ended input.ended is (subst (λ (s : Stage). IsTurn s h.waiting) at h.turn)
      (subst (λ (s : Stage). IsFit s c.session c.kept c.is_ended) at h.fit) (subst (λ (s : Stage). IsBehind s h.told c.kept h.behind input.ended) at h.left) in
      record {
        taken = h.taken;
        behind = h.behind;
        told = h.told;
        waiting = h.waiting;
        stands = h.stands;
        fit = put.1;
        waits = h.waits;
        turn = put.0;
        came = h.came;
        ended = h.ended;
        left = put.2;
      }

  -- so much was sent
  pub holds_sent : (session : Connection) (more : List ℕ)
      → ((past : Past) → Stands c.session settings past sent → Stands session settings past more)
      → sessions.standing_of session ≡ sessions.standing_of c.session → session.is_ended ≡ c.session.is_ended
      → Holds (record c { session = session }) settings input moments entries more
  holds_sent session more stands same end = record {
    taken = h.taken;
    behind = h.behind;
    told = h.told;
    waiting = h.waiting;
    stands = stands (past_of h.taken h.told moments entries h.waiting) h.stands;
    fit = same_fit c.stage c.session session c.kept c.is_ended same end h.fit;
    waits = subst (λ (s : Standing). HasWaiting s h.waiting) (sym same) h.waits;
    turn = h.turn;
    came = h.came;
    ended = h.ended;
    left = h.left;
  }

-- ---- a turn is answered

module _ (c : Connected) (settings : Settings) (input : Input) (moments : List ℕ) (entries : List Entry) (turn : Turn) (sent : List ℕ)
    (h : Holds c settings input moments entries sent) (is : taken_at c.stage ≡ Some turn) where
  was : (h.waiting ≡ turn ∷ []) × (c.session.is_ended ≡ false) × (h.behind ≡ c.kept)
  was = taken_is c.stage turn h.waiting h.told c.session c.kept h.behind c.is_ended input.ended is h.turn h.fit h.left

  told_is : h.told ≡ false
  told_is = h.stands.end ∙ was.1

  answered_ok : (answer : Answer) → answered (past_of h.taken h.told moments entries (turn ∷ [])) (Ok answer) ≡ past_of h.taken h.told moments (entries_with entries turn (Ok answer)) []
  answered_ok answer =
      let e : Entry = record { command = turn.command; moment = turn.moment; answer = answer } in
      rw (append-nil (map answered_turn (entries ++ e ∷ [])), map_push answered_turn entries e, map_push answer_of entries e) refl

  -- and it goes on, or is closed
  pub holds_replied : (session : Connection) (answer : Answer) (kept : List ℕ) (stage : Stage)
      → ((past : Past) → Stands c.session settings past sent → Stands session settings (answered past (Ok answer)) sent)
      → HasWaiting (sessions.standing_of session) [] → IsTurn stage [] → IsBehind stage false kept c.kept input.ended → IsFit stage session kept c.is_ended
      → Holds (record { session = session; kept = kept; stage = stage; is_ended = c.is_ended }) settings input moments (entries_with entries turn (Ok answer)) sent
  holds_replied session answer kept stage stands waits one left fit = record {
    taken = h.taken;
    behind = h.behind;
    told = h.told;
    waiting = [];
    stands = subst (λ (p : Past). Stands session settings p sent) (answered_ok answer)
        (subst (λ (ts : List Turn). Stands session settings (answered (past_of h.taken h.told moments entries ts) (Ok answer)) sent) was.0
        (stands (past_of h.taken h.told moments entries h.waiting) h.stands));
    fit = fit;
    waits = waits;
    turn = one;
    came = h.came;
    ended = h.ended;
    left = subst (λ (t : Bool). IsBehind stage t kept h.behind input.ended) (sym told_is)
        (subst (λ (b : List ℕ). IsBehind stage false kept b input.ended) (sym was.2) left);
  }

  -- memory ran out at it
  pub holds_died : (session : Connection) (kept : List ℕ)
      → ((past : Past) → Stands c.session settings past sent → Stands session settings past sent)
      → sessions.standing_of session ≡ Dead → kept ≡ []
      → Holds (record { session = session; kept = kept; stage = stages.Done; is_ended = c.is_ended }) settings input moments entries sent
  holds_died session kept stands dead none = record {
    taken = h.taken;
    behind = h.behind;
    told = h.told;
    waiting = h.waiting;
    stands = stands (past_of h.taken h.told moments entries h.waiting) h.stands;
    fit = fit_done session kept c.is_ended (ap is_waiting dead) (ap is_closed dead) none;
    waits = rw dead tt;
    turn = tt;
    came = h.came;
    ended = h.ended;
    left = λ told. (let never = sym told_is ∙ told in absurd (cc));
  }

  died_is : (e : NoMemory) (standing : Standing) → IsAnsweredTo (Err e) standing → standing ≡ Dead
  died_is e Dead to = refl
  died_is e _ to = absurd to

  none_replied : (answer : Answer) (standing : Standing) → IsAnsweredTo (Ok answer) standing → HasWaiting standing []
  none_replied answer Reading to = refl
  none_replied answer Over to = refl
  none_replied answer _ to = absurd to

  more_replied : (result : Result Answer NoMemory) (standing : Standing) → IsAnsweredTo result standing → NeedsNext nexts.More standing → standing ≡ Reading
  more_replied result Reading to needs = refl
  more_replied result _ to needs = absurd needs

  close_replied : (standing : Standing) → NeedsNext nexts.Close standing → (is_waiting standing ≡ false) × (is_closed standing ≡ true)
  close_replied Over needs = (refl, refl)
  close_replied Dead needs = (refl, refl)
  close_replied _ needs = absurd needs

  never_more : (e : NoMemory) (standing : Standing) → IsAnsweredTo (Err e) standing → standing ≡ Reading → ⊥
  never_more e Dead to reads = absurd (cc)
  never_more e _ to reads = absurd to

  -- what needs more behind an answer goes on
  pub holds_answered_more : (session : Connection) (result : Result Answer NoMemory) (next : Next)
      → ((past : Past) → Stands c.session settings past sent → Stands session settings (answered past result) sent)
      → IsAnsweredTo result (sessions.standing_of session) → NeedsNext next (sessions.standing_of session) → next ≡ nexts.More → session.is_ended ≡ c.session.is_ended
      → Holds (record { session = session; kept = c.kept; stage = stages.Answered; is_ended = c.is_ended }) settings input moments (entries_with entries turn result) sent
  holds_answered_more session (Ok answer) next stands to needs is_more end =
      let reads = more_replied (Ok answer) (sessions.standing_of session) to (subst (λ (n : Next). NeedsNext n (sessions.standing_of session)) is_more needs) in
      holds_replied session answer c.kept stages.Answered stands (none_replied answer (sessions.standing_of session) to) tt refl
      (reads, end ∙ was.1)
  holds_answered_more session (Err e) next stands to needs is_more end =
      let reads = more_replied (Err e) (sessions.standing_of session) to (subst (λ (n : Next). NeedsNext n (sessions.standing_of session)) is_more needs) in
      absurd (never_more e (sessions.standing_of session) to reads)

  -- and what needs to be closed is over
  pub holds_answered_close : (session : Connection) (result : Result Answer NoMemory) (next : Next)
      → ((past : Past) → Stands c.session settings past sent → Stands session settings (answered past result) sent)
      → IsAnsweredTo result (sessions.standing_of session) → NeedsNext next (sessions.standing_of session) → next ≡ nexts.Close
      → Holds (record { session = session; kept = []; stage = stages.Done; is_ended = c.is_ended }) settings input moments (entries_with entries turn result) sent
  holds_answered_close session (Ok answer) next stands to needs is_close =
      let over = close_replied (sessions.standing_of session) (subst (λ (n : Next). NeedsNext n (sessions.standing_of session)) is_close needs) in
      holds_replied session answer [] stages.Done stands (none_replied answer (sessions.standing_of session) to) tt (λ told. absurd (cc))
      (fit_done session [] c.is_ended over.0 over.1 refl)
  holds_answered_close session (Err e) next stands to needs is_close =
      holds_died session [] stands (died_is e (sessions.standing_of session) to) refl
