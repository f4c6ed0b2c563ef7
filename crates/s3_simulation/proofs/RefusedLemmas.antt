-- Events without what is refused have the run that the events have.
use Rattle.std.proofs.Common.{◌≡◌, ◌≢◌, ◌≤◌, ◌<◌, ◌+◌, ℕ, zero, suc, Bool, true, false, eqb, ◌||◌, if◌then◌else◌, List, [], ◌∷◌, ◌++◌, length, map, slice_index_or, Some, refl, sym, ap, subst, ◌∙◌, append_assoc, arith, inl, inr}
use Rattle.std.specs.List.{list_any}
use Rattle.std.proofs.lemmas.Bool.{true≢false}
use Rattle.std.proofs.lemmas.List.Folds.{list_any-append}
use Rattle.std.proofs.lemmas.Bool.Decides.{eqb_tells, leb_tells}
use Rattle.s3_config.specs.Settings.{Settings}
use Rattle.s3_machine.specs.History.{Entry}
use Rattle.s3_machine.specs.declared.turn.Turn.{Turn}
use Rattle.s3_http_heads.specs.Find.{found_in, skip_pairs, text_length}
use Rattle.s3_http_heads.specs.declared.find.Found.{Found}
use Rattle.s3_http_heads.specs.declared.find.Found.TheVariants as found
use Rattle.s3_journal.specs.Recorded.{Recorded, entries_of_seat}
use Rattle.s3_session.specs.Decision.{FoundJudged, Judges, open_yet}
use Rattle.s3_session.specs.Fault.{FaultsEnd, RefusedIsNothing}
use Rattle.s3_session.specs.Invitation.{FoundInvites, Invites}
use Rattle.s3_session.specs.Laws.{OutputsStay}
use Rattle.s3_session.specs.Output.{Standing, is_dead, moment_once_found}
use Rattle.s3_session.specs.Output as standings
use Rattle.s3_events.specs.declared.event.Event.{Event}
use Rattle.s3_events.specs.declared.event.Event.TheVariants as events
use Rattle.s3_events.specs.Lines.{ATurn, MoreBytes, Said, TheEnd, connection}
use Rattle.s3_events.specs.Script.{connection_of_event, said_of_event}
use Rattle.s3_connection.specs.Connection.{nothing_received}
use Rattle.s3_connection.specs.Output.{Input, OneOutput, answered_turn}
use Rattle.s3_simulation.specs.Events.{TurnAt, received, turn_given, turns_given_after}
use Rattle.s3_simulation.specs.Laws.{IsWhole}
use Rattle.s3_simulation.specs.Run.{AreTaken, HasNoEntry, Runs, WaitsAt, moments_of, output_of}
use Rattle.s3_simulation.specs.Timed.{TimedOutputs, Waits}
use Rattle.s3_simulation.specs.Trimmed.{All, AreKept, AreShares, IsShare, KeepsOutput, KeptRuns, MayBe, MayBeShares, Nothing, OneTrim, OneTrimOneRun, RefusedLeavesNothing, Share, UpTo, has_event, keeps_end, keeps_turns, kept_after, kept_of, part_kept, piece_of}
use Rattle.s3_simulation.proofs.KeptLemmas.{beside_all, beside_first, beside_next, got, received_grows, received_said, turns_of_said, turns_said, turns_said_parted}
use Rattle.s3_simulation.proofs.OneRunLemmas.{one_run}
use Rattle.s3_simulation.proofs.PlayedLemmas.{OneTimedOutput, timed_one}
use Rattle.s3_simulation.proofs.PartLemmas.{entries_sound, kept_input, output_kept, waits_kept, waits_later, waits_sound, waits_whole}

-- ---- outputs by their numbers

-- what a function gives, from a number on, for so many numbers
abbrev tabulated : (ℕ → List ℕ) → ℕ → ℕ → List (List ℕ)
tabulated f c zero = []
tabulated f c (suc count) = f c ∷ tabulated f (suc c) count

tabulated_each : (f : ℕ → List ℕ) (c count : ℕ) → length (tabulated f c count) ≡ count
tabulated_each f c zero = refl
tabulated_each f c (suc count) = ap suc (tabulated_each f (suc c) count)

tabulated_from : (f : ℕ → List ℕ) (c k count : ℕ) → k < count → slice_index_or (tabulated f c count) k [] ≡ f (c + k)
tabulated_from f c k zero less = absurd (omega arith)
tabulated_from f c zero (suc count) less = ap f (omega arith)
tabulated_from f c (suc k) (suc count) less = tabulated_from f (suc c) k count (omega (arith, less)) ∙ ap f (omega arith)

tabulated_at : (f : ℕ → List ℕ) (c count : ℕ) → c < count → output_of c (tabulated f 0 count) ≡ f c
tabulated_at f c count less = let same : 0 + c ≡ c = omega arith in tabulated_from f 0 c count less ∙ ap f same

-- of nothing nothing comes
nothing_found : found_in [] ≡ found.NeedMore
unfolding found_in skip_pairs text_length
nothing_found = refl

nothing_judged : (settings : Settings) → Judges settings 0 false [] open_yet
unfolding Judges
nothing_judged settings = subst (λ (f : Found). FoundJudged settings 0 false [] f open_yet) (sym nothing_found) refl

nothing_invites : (settings : Settings) → Invites settings 0 [] []
unfolding Invites
nothing_invites settings = subst (λ (f : Found). FoundInvites settings 0 [] f []) (sym nothing_found) refl

nothing_written : (settings : Settings) (moments : List ℕ) → TimedOutputs standings.Reading settings moments nothing_received [] [] []
nothing_written settings moments = record {
  count = 0;
  output = record {
    waits = refl;
    writes = record {
      left = Some [];
      late = [];
      waiting = [];
      last = [];
      serves = record { exchanges = []; walk = refl; replied = tt; moments = refl; turns = refl; answers = refl; joined = refl };
      behind = record { moment = 0; asked = sym (ap (λ (f : Found). moment_once_found f 0) nothing_found); none = refl; judged = nothing_judged settings; invites = nothing_invites settings };
    };
  };
}

-- ---- the run of what is kept

module _ (one : OneTimedOutput) (stay : OutputsStay) (ends : FaultsEnd) (alone : RefusedIsNothing) (settings : Settings) (moments : List (List ℕ)) (happened : List Event) (share : ℕ → Share)
    (may : MayBeShares settings moments happened share) where
  full_at : (c : ℕ) (s : Share) (place : ℕ) → s ≡ UpTo place → MayBe settings (moments_of c moments) (received c happened) s → place ≤ length (received c happened).bytes
  full_at c Nothing place is m = absurd (cc)
  full_at c All place is m = absurd (cc)
  full_at c (UpTo n) place is m = let same : n ≡ place = cc in subst (λ (k : ℕ). k ≤ length (received c happened).bytes) same m.0

  -- a connection of which something is kept is there
  is_there : (c : ℕ) → share c ≢ Nothing → c < length moments
  is_there c some = elim (leb_tells (length moments) c) [
    | inl beyond ↦ absurd (some (may.nowhere c beyond.1))
    | inr less ↦ less.1
  ]

  up_to_some : (s : Share) (place : ℕ) → s ≡ UpTo place → s ≢ Nothing
  up_to_some s place is none = let never = sym is ∙ none in cc

  full : (c place : ℕ) → share c ≡ UpTo place → place ≤ length (received c happened).bytes
  full c place is = full_at c (share c) place is (may.there c (is_there c (up_to_some (share c) place is)))

  -- where nothing is kept no command waits
  none_waits : (c : ℕ) (s : Share) → s ≡ Nothing → MayBe settings (moments_of c moments) (received c happened) s → (before later : List Event) → happened ≡ before ++ later
      → (es : List Entry) (turn : Turn) → ¬ (Waits settings (moments_of c moments) (received c before) es turn)
  none_waits c All none m before later is es turn waits = absurd (cc)
  none_waits c (UpTo place) none m before later is es turn waits = absurd (cc)
  none_waits c Nothing none m before later is es turn waits =
      let grows = received_grows c before later in
      let sound = waits_sound settings (moments_of c moments) (received c before) es turn waits in
      m (
        sound.0,
        waits_later stay settings (moments_of c moments) grows.0 (received c before) (received c happened)
            (ap (λ (b : List Event). (received c b).bytes) is ∙ grows.1)
            (λ ended. ((grows.2 ended).0, ap (λ (b : List Event). (received c b).ended) is ∙ (grows.2 ended).1)) [] sound.0 sound.1,
      )

  -- ---- turns

  piece_silent : (kept : List Said) (c : ℕ) (part : List ℕ) → turns_said kept (piece_of c part) ≡ []
  piece_silent kept c [] = refl
  piece_silent kept c (byte ∷ part) = refl

  end_silent : (kept : List Said) (c : ℕ) (keeps : Bool) → turns_said kept (if keeps then TheEnd c ∷ [] else []) ≡ []
  end_silent kept c true = refl
  end_silent kept c false = refl

  module _ (lost lost' : ℕ → Bool) (alive : (c : ℕ) → c < length moments → lost c ≡ false) where
    abbrev Taken : (ℕ → Bool) → List Recorded → List TurnAt → List Recorded → Type 0
    Taken mine done turns later = AreTaken settings moments mine done turns later

    module _ (k : ℕ) (before es : List Event) (is : happened ≡ before ++ events.Turn k ∷ es) (kept : List Said)
        (beside : got k kept ≡ kept_input (share k) (received k before)) (turns rest : List TurnAt)
        (next : (done later : List Recorded) → Taken lost done turns later → Taken lost' done rest later) where
      abbrev At : TurnAt
      At = record { connection = k; input = received k before }

      abbrev KeptAt : TurnAt
      KeptAt = record { connection = k; input = got k kept }

      -- a turn of a connection of which nothing is kept
      turn_dropped : share k ≡ Nothing → (done later : List Recorded) → Taken lost done (At ∷ turns) later → Taken lost' done rest later
      turn_dropped none done later (inl idle) = next done later idle.1
      turn_dropped none done later (inr some) =
          absurd (none_waits k (share k) none (may.there k some.3.1.0) before (events.Turn k ∷ es) is (entries_of_seat k done) (answered_turn some.0.entry) some.3.1.1)

      module _ (some : share k ≢ Nothing) where
        -- what waits with what is kept waits with all, and the other way about
        waits_all : (done : List Recorded) (turn : Turn) → WaitsAt settings moments done KeptAt turn → WaitsAt settings moments done At turn
        waits_all done turn waits = (
          waits.0,
          waits_whole stay settings (moments_of k moments) (share k) (received k before) (entries_of_seat k done) turn some
              (subst (λ (i : Input). Waits settings (moments_of k moments) i (entries_of_seat k done) turn) beside waits.1),
        )

        waits_part : (done : List Recorded) (turn : Turn) → WaitsAt settings moments done At turn → WaitsAt settings moments done KeptAt turn
        waits_part done turn waits =
            let grows = received_grows k before (events.Turn k ∷ es) in (
              waits.0,
              subst (λ (i : Input). Waits settings (moments_of k moments) i (entries_of_seat k done) turn) (sym beside)
                  (waits_kept ends alone stay settings (moments_of k moments) (received k happened) (received k before) grows.0
                  (ap (λ (b : List Event). (received k b).bytes) is ∙ grows.1)
                  (λ ended. ((grows.2 ended).0, ap (λ (b : List Event). (received k b).ended) is ∙ (grows.2 ended).1))
                  (share k) some (may.there k waits.0) (entries_of_seat k done) turn waits.1),
            )

        no_entry : (done later : List Recorded) → HasNoEntry settings moments lost done At later → HasNoEntry settings moments lost' done KeptAt later
        no_entry done later (inl none) = inl (λ turn waits. none turn (waits_all done turn waits))
        no_entry done later (inr dead) = absurd (true≢false (sym dead.0 ∙ alive k (is_there k some)))

        turn_taken : (done later : List Recorded) → Taken lost done (At ∷ turns) later → Taken lost' done (KeptAt ∷ rest) later
        turn_taken done later (inl idle) = inl (no_entry done later idle.0, next done later idle.1)
        turn_taken done later (inr entry) =
            inr (
              entry.0,
              entry.1,
              entry.2,
              (entry.3.0, waits_part done (answered_turn entry.0.entry) entry.3.1),
              next (done ++ entry.0 ∷ []) entry.1 entry.4,
            )

      turn_kept : (s : Share) → share k ≡ s → (done later : List Recorded) → Taken lost done (At ∷ turns) later
          → Taken lost' done (turns_said kept (if keeps_turns s then ATurn k ∷ [] else []) ++ rest) later
      turn_kept Nothing is_share done later taken = turn_dropped is_share done later taken
      turn_kept All is_share done later taken = turn_taken (λ none. (let never = sym is_share ∙ none in cc)) done later taken
      turn_kept (UpTo place) is_share done later taken = turn_taken (λ none. (let never = sym is_share ∙ none in cc)) done later taken

    -- the turns behind an event, by those behind it that are kept
    taken_one : (before es : List Event) (e : Event) (kept : List Said) → happened ≡ before ++ e ∷ es → ((c : ℕ) → got c kept ≡ kept_input (share c) (received c before))
        → (turns rest : List TurnAt) → ((done later : List Recorded) → Taken lost done turns later → Taken lost' done rest later)
        → (done later : List Recorded) → Taken lost done (turn_given before e ++ turns) later → Taken lost' done (turns_said kept (kept_of share before e) ++ rest) later
    taken_one before es (events.Piece k v) kept is beside turns rest next done later taken =
        subst (λ (ts : List TurnAt). Taken lost' done (ts ++ rest) later) (sym (piece_silent kept k (part_kept (share k) (length (received k before).bytes) v.items))) (next done later taken)
    taken_one before es (events.End k) kept is beside turns rest next done later taken =
        subst (λ (ts : List TurnAt). Taken lost' done (ts ++ rest) later) (sym (end_silent kept k (keeps_end (share k)))) (next done later taken)
    taken_one before es (events.Turn k) kept is beside turns rest next done later taken =
        turn_kept k before es is kept (beside k) turns rest next (share k) refl done later taken

    taken_kept : (before es : List Event) (kept : List Said) → happened ≡ before ++ es → ((c : ℕ) → got c kept ≡ kept_input (share c) (received c before))
        → (done later : List Recorded) → Taken lost done (turns_given_after before es) later → Taken lost' done (turns_said kept (kept_after share before es)) later
    taken_kept before [] kept is beside done later taken = taken
    taken_kept before (e ∷ es) kept is beside done later taken =
        let now = kept_of share before e in
        let more = kept_after share (before ++ e ∷ []) es in
        subst (λ (ts : List TurnAt). Taken lost' done ts later) (sym (turns_said_parted kept now more))
        (taken_one before es e kept is beside (turns_given_after (before ++ e ∷ []) es) (turns_said (kept ++ now) more)
        (taken_kept (before ++ e ∷ []) es (kept ++ now) (is ∙ sym (append_assoc before (e ∷ []) es)) (beside_next share happened full before es e kept is beside))
        done later taken)

  -- ---- outputs

  -- what a connection wrote of which something is kept, or nothing
  module _ (outs : List (List ℕ)) (entries : List Recorded) (run : Runs settings moments happened outs entries)
      (whole : IsWhole settings moments happened outs entries run) where
    abbrev Made : ℕ → Share → Type 0
    Made c s =
        (standing : Standing) × (waiting : List Turn) × (out : List ℕ)
        × (c < length moments → is_dead standing ≡ false)
        × (c < length moments → TimedOutputs standing settings (moments_of c moments) (kept_input s (received c happened)) (entries_of_seat c entries) waiting out)
        × (c < length moments → KeepsOutput settings (moments_of c moments) (received c happened) s → output_of c outs ≡ out)

    made_nothing : (c : ℕ) (es : List Entry) → entries_of_seat c entries ≡ es → (c < length moments → MayBe settings (moments_of c moments) (received c happened) Nothing)
        → c < length moments → TimedOutputs standings.Reading settings (moments_of c moments) nothing_received (entries_of_seat c entries) [] []
    made_nothing c [] are m less =
        subst (λ (es : List Entry). TimedOutputs standings.Reading settings (moments_of c moments) nothing_received es [] []) (sym are) (nothing_written settings (moments_of c moments))
    made_nothing c (e ∷ es) are m less =
        absurd (m less (entries_sound settings (moments_of c moments) (received c happened) e es (run.waiting c) (output_of c outs) (run.standing c)
        (subst (λ (xs : List Entry). TimedOutputs (run.standing c) settings (moments_of c moments) (received c happened) xs (run.waiting c) (output_of c outs)) are (run.outputs c less))))

    made_kept : (c : ℕ) (s : Share) → s ≢ Nothing → c < length moments → MayBe settings (moments_of c moments) (received c happened) s → Made c s
    made_kept c s some less m =
        let o = output_kept ends alone stay settings (moments_of c moments) one (received c happened) (run.standing c) (entries_of_seat c entries) (run.waiting c) (output_of c outs)
        (whole c less) (run.outputs c less) s m some in
        (o.0.standing, run.waiting c, o.0.out, λ here. o.0.lives, λ here. o.0.wrote, λ here keeps. o.1 keeps)

    made_of : (c : ℕ) (s : Share) → (s ≢ Nothing → c < length moments) → (c < length moments → MayBe settings (moments_of c moments) (received c happened) s) → Made c s
    made_of c Nothing here m =
        (standings.Reading, [], [], λ less. refl, made_nothing c (entries_of_seat c entries) refl m, λ less keeps. absurd keeps)
    made_of c All here m = let less = here (λ is. absurd (cc)) in made_kept c All (λ is. absurd (cc)) less (m less)
    made_of c (UpTo place) here m = let less = here (λ is. absurd (cc)) in made_kept c (UpTo place) (λ is. absurd (cc)) less (m less)

    made : (c : ℕ) → Made c (share c)
    made c = made_of c (share c) (is_there c) (may.there c)

    kept_outs : List (List ℕ)
    kept_outs = tabulated (λ c. (made c).2) 0 (length moments)

    out_at : (c : ℕ) → c < length moments → output_of c kept_outs ≡ (made c).2
    unfolding kept_outs
    out_at c less = tabulated_at (λ k. (made k).2) c (length moments) less

    module _ (kept : List Event) (are : AreKept share happened kept) where
      received_kept : (c : ℕ) → received c kept ≡ kept_input (share c) (received c happened)
      received_kept c = received_said c kept ∙ ap (got c) are ∙ beside_all share happened full [] happened [] refl (beside_first share) c

      kept_run : Runs settings moments kept kept_outs entries
      unfolding kept_outs
      kept_run = record {
        standing = λ c. (made c).0;
        waiting = λ c. (made c).1;
        legal = run.legal;
        taken = subst (λ (ts : List TurnAt). AreTaken settings moments (λ c. is_dead (made c).0) [] ts entries)
            (sym (turns_of_said kept ∙ ap (turns_said []) are))
            (taken_kept (λ c. is_dead (run.standing c)) (λ c. is_dead (made c).0) whole [] happened [] refl (beside_first share) [] entries run.taken);
        outputs = λ c less.
            (subst (λ (i : Input). TimedOutputs (made c).0 settings (moments_of c moments) i (entries_of_seat c entries) (made c).1 (output_of c kept_outs)) (sym (received_kept c))
            (subst (TimedOutputs (made c).0 settings (moments_of c moments) (kept_input (share c) (received c happened)) (entries_of_seat c entries) (made c).1) (sym (out_at c less))
            ((made c).4 less)));
        each = tabulated_each (λ c. (made c).2) 0 (length moments);
      }

      kept_whole : IsWhole settings moments kept kept_outs entries kept_run
      unfolding kept_run
      kept_whole c less = (made c).3 less

      kept_output : (c : ℕ) → c < length moments → KeepsOutput settings (moments_of c moments) (received c happened) (share c) → output_of c outs ≡ output_of c kept_outs
      kept_output c less keeps = (made c).5 less keeps ∙ sym (out_at c less)

-- ---- the laws

pub kept_runs : OneOutput → OutputsStay → FaultsEnd → RefusedIsNothing → KeptRuns
kept_runs one stay ends alone settings moments happened kept outs entries share run whole may are =
    let timed = timed_one one in (
      kept_outs timed stay ends alone settings moments happened share may outs entries run whole,
      kept_run timed stay ends alone settings moments happened share may outs entries run whole kept are,
      kept_whole timed stay ends alone settings moments happened share may outs entries run whole kept are,
      kept_output timed stay ends alone settings moments happened share may outs entries run whole kept are,
    )

pub refused_leaves_nothing : OneOutput → OutputsStay → FaultsEnd → RefusedIsNothing → RefusedLeavesNothing
refused_leaves_nothing one stay ends alone settings moments happened kept outs outs' entries entries' share run run' whole whole' may are =
    let mine = kept_runs one stay ends alone settings moments happened kept outs entries share run whole may are in
    let same = one_run one settings moments kept kept mine.0 outs' entries entries' mine.1 run' mine.2 whole' (record { turns = refl; inputs = λ c. refl }) in
    (same.0, λ c less keeps. mine.3 c less keeps ∙ ap (output_of c) same.1)

-- ---- trimmed events

share_may_be : (settings : Settings) (moments : List ℕ) (input : Input) (s : Share) → IsShare settings moments input s → MayBe settings moments input s
share_may_be settings moments input Nothing is = is
share_may_be settings moments input All is = tt
share_may_be settings moments input (UpTo place) is = (is.1, inl is.2)

share_keeps : (settings : Settings) (moments : List ℕ) (input : Input) (s : Share) → IsShare settings moments input s → s ≢ Nothing → KeepsOutput settings moments input s
share_keeps settings moments input Nothing is some = absurd (some refl)
share_keeps settings moments input All is some = tt
share_keeps settings moments input (UpTo place) is some = is.2

shares_may_be : (settings : Settings) (moments : List (List ℕ)) (happened : List Event) (share : ℕ → Share) → AreShares settings moments happened share
    → MayBeShares settings moments happened share
shares_may_be settings moments happened share are = record {
  there = λ c less. share_may_be settings (moments_of c moments) (received c happened) (share c) (are.there c less);
  nowhere = are.nowhere;
}

-- a connection has one share
one_share : (settings : Settings) (moments : List ℕ) (input : Input) (s t : Share) → IsShare settings moments input s → IsShare settings moments input t → s ≡ t
one_share settings moments input Nothing Nothing is also = refl
one_share settings moments input Nothing All is also = absurd (is also.0)
one_share settings moments input Nothing (UpTo q) is also = absurd (is also.0)
one_share settings moments input All Nothing is also = absurd (also is.0)
one_share settings moments input All All is also = refl
one_share settings moments input All (UpTo q) is also = absurd (is.1 q also.2)
one_share settings moments input (UpTo p) Nothing is also = absurd (also is.0)
one_share settings moments input (UpTo p) All is also = absurd (also.1 p is.2)
one_share settings moments input (UpTo p) (UpTo q) is also = elim (leb_tells p q) [
  | inr beyond ↦ absurd (is.3 q beyond.1 also.2)
  | inl within ↦ elim (leb_tells q p) [
    | inr more ↦ absurd (also.3 p more.1 is.2)
    | inl too ↦ (let less = within.1 in let greater = too.1 in let same : p ≡ q = omega (arith, less, greater) in ap UpTo same)
  ]
]

one_at : (settings : Settings) (moments : List (List ℕ)) (happened : List Event) (share share' : ℕ → Share) → AreShares settings moments happened share
    → AreShares settings moments happened share' → (c : ℕ) → share c ≡ share' c
one_at settings moments happened share share' are are' c = elim (leb_tells (length moments) c) [
  | inl beyond ↦ are.nowhere c beyond.1 ∙ sym (are'.nowhere c beyond.1)
  | inr less ↦ one_share settings (moments_of c moments) (received c happened) (share c) (share' c) (are.there c less.1) (are'.there c less.1)
]

kept_once : (share share' : ℕ → Share) → ((c : ℕ) → share c ≡ share' c) → (before : List Event) (e : Event) → kept_of share before e ≡ kept_of share' before e
kept_once share share' same before (events.Piece k v) = ap (λ (s : Share). piece_of k (part_kept s (length (received k before).bytes) v.items)) (same k)
kept_once share share' same before (events.End k) = ap (λ (s : Share). if keeps_end s then TheEnd k ∷ [] else []) (same k)
kept_once share share' same before (events.Turn k) = ap (λ (s : Share). if keeps_turns s then ATurn k ∷ [] else []) (same k)

all_once : (share share' : ℕ → Share) → ((c : ℕ) → share c ≡ share' c) → (before es : List Event) → kept_after share before es ≡ kept_after share' before es
all_once share share' same before [] = refl
all_once share share' same before (e ∷ es) =
    ap (λ (xs : List Said). xs ++ kept_after share (before ++ e ∷ []) es) (kept_once share share' same before e)
    ∙ ap (λ (ys : List Said). kept_of share' before e ++ ys) (all_once share share' same (before ++ e ∷ []) es)

pub trim_once : OneTrim
trim_once settings moments happened trimmed other (share, are, kept) (share', are', kept') =
    kept ∙ all_once share share' (one_at settings moments happened share share' are are') [] happened ∙ sym kept'

-- of a connection of which nothing is kept no event is left
abbrev names : ℕ → Said → Bool
names c said = eqb (connection said) c

events_named : (c : ℕ) (es : List Event) → has_event c es ≡ list_any (names c) (map said_of_event es)
events_named c [] = refl
events_named c (e ∷ es) = ap (λ (b : Bool). eqb (connection_of_event e) c || b) (events_named c es)

or_false : (a b : Bool) → a ≡ false → b ≡ false → (a || b) ≡ false
or_false true b is also = is
or_false false b is also = also

one_named : (c k : ℕ) (said : Said) → connection said ≡ k → k ≢ c → list_any (names c) (said ∷ []) ≡ false
one_named c k said is other = elim (eqb_tells (connection said) c) [
  | inl same ↦ absurd (other (sym is ∙ same.1))
  | inr differs ↦ or_false (eqb (connection said) c) false differs.0 refl
]

piece_named : (c k : ℕ) (part : List ℕ) → k ≢ c → list_any (names c) (piece_of k part) ≡ false
piece_named c k [] other = refl
piece_named c k (byte ∷ part) other = one_named c k (MoreBytes k (byte ∷ part)) refl other

if_named : (c k : ℕ) (keeps : Bool) (said : Said) → connection said ≡ k → k ≢ c → list_any (names c) (if keeps then said ∷ [] else []) ≡ false
if_named c k true said is other = one_named c k said is other
if_named c k false said is other = refl

module _ (share : ℕ → Share) (c : ℕ) (none : share c ≡ Nothing) where
  one_dropped : (before : List Event) (e : Event) → list_any (names c) (kept_of share before e) ≡ false
  one_dropped before (events.Piece k v) = elim (eqb_tells k c) [
    | inl same ↦
        ap (λ (s : Share). list_any (names c) (piece_of k (part_kept s (length (received k before).bytes) v.items))) (ap share same.1 ∙ none)
    | inr other ↦ piece_named c k (part_kept (share k) (length (received k before).bytes) v.items) other.1
  ]
  one_dropped before (events.End k) = elim (eqb_tells k c) [
    | inl same ↦ ap (λ (s : Share). list_any (names c) (if keeps_end s then TheEnd k ∷ [] else [])) (ap share same.1 ∙ none)
    | inr other ↦ if_named c k (keeps_end (share k)) (TheEnd k) refl other.1
  ]
  one_dropped before (events.Turn k) = elim (eqb_tells k c) [
    | inl same ↦ ap (λ (s : Share). list_any (names c) (if keeps_turns s then ATurn k ∷ [] else [])) (ap share same.1 ∙ none)
    | inr other ↦ if_named c k (keeps_turns (share k)) (ATurn k) refl other.1
  ]

  all_dropped : (before es : List Event) → list_any (names c) (kept_after share before es) ≡ false
  all_dropped before [] = refl
  all_dropped before (e ∷ es) =
      list_any-append (names c) (kept_of share before e) (kept_after share (before ++ e ∷ []) es)
      ∙ or_false (list_any (names c) (kept_of share before e)) (list_any (names c) (kept_after share (before ++ e ∷ []) es)) (one_dropped before e) (all_dropped (before ++ e ∷ []) es)

left_kept : (share : ℕ → Share) (happened trimmed : List Event) → AreKept share happened trimmed → (c : ℕ) → has_event c trimmed ≡ true → share c ≢ Nothing
left_kept share happened trimmed are c left none =
    true≢false (sym left ∙ events_named c trimmed ∙ ap (list_any (names c)) are ∙ all_dropped share c none [] happened)

pub one_trim : OneOutput → OutputsStay → FaultsEnd → RefusedIsNothing → OneTrimOneRun
one_trim one stay ends alone settings moments happened other trimmed outs outs' entries entries' run run' whole whole' (share, are, kept) (share', are', kept') =
    let mine = kept_runs one stay ends alone settings moments happened trimmed outs entries share run whole (shares_may_be settings moments happened share are) kept in
    let its = kept_runs one stay ends alone settings moments other trimmed outs' entries' share' run' whole' (shares_may_be settings moments other share' are') kept' in
    let same = one_run one settings moments trimmed trimmed mine.0 its.0 entries entries' mine.1 its.1 mine.2 its.2 (record { turns = refl; inputs = λ c. refl }) in (
      same.0,
      λ c less left.
          mine.3 c less (share_keeps settings (moments_of c moments) (received c happened) (share c) (are.there c less) (left_kept share happened trimmed kept c left))
          ∙ ap (output_of c) same.1
          ∙ sym (its.3 c less (share_keeps settings (moments_of c moments) (received c other) (share' c) (are'.there c less) (left_kept share' other trimmed kept' c left))),
    )
