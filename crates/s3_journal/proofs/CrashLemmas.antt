-- What a crash leaves of a history, as it goes on and is committed.
use Rattle.std.proofs.Common.{◌≡◌, ◌≢◌, ℕ, Bool, true, false, List, [], ◌∷◌, ◌++◌, append_assoc, append-nil, Option, Some, None, refl, ap, sym, subst, ◌∙◌, inl, inr, arith}
use Rattle.std.proofs.lemmas.List.{map-append}
use Rattle.std.specs.Prelude.{IfSome}
use Rattle.s3_history.specs.Log.{Origin}
use Rattle.s3_records.specs.Leaving.{IsOneOf, StaysKnown}
use Rattle.s3_machine.specs.History.{Entry, after, after_entry}
use Rattle.s3_machine.specs.Step.{State}
use Rattle.s3_machine.specs.declared.rules.Rules.{Rules}
use Rattle.s3_store.specs.Steps.{Standing}
use Rattle.s3_store.specs.Stored.{Stored}
use Rattle.s3_journal.specs.RecordedStore.{HasEntries, Journal, KeepsHistory, LastsFrom, states_from, told_or}
use Rattle.s3_journal.specs.Recorded.{Recorded, history_of}
use Rattle.s3_journal.specs.Noted.{begun_with, committed_in, ends_with_commit, entries_in}
use Rattle.s3_journal.specs.declared.entry.Note.{Note}
use Rattle.s3_journal.specs.declared.entry.Note.TheVariants as notes
use Rattle.s3_journal.proofs.HistoryLemmas.{told_stays}
use Rattle.s3_journal.proofs.NoteLemmas.{all_settled, committed_push, ends_committed, entries_still, settled_so}

history_joined : (es fs : List Recorded) → history_of (es ++ fs) ≡ history_of es ++ history_of fs
history_joined es fs = map-append (λ (r : Recorded). r.entry) es fs

after_joined : (rules : Rules) (s : State) (es fs : List Entry) → after rules s (es ++ fs) ≡ after rules (after rules s es) fs
after_joined rules s [] fs = refl
after_joined rules s (e ∷ es) fs = after_joined rules (after_entry rules s e) es fs

-- entries that are added take none of the states away
states_more : (rules : Rules) (s : State) (es more : List Entry) (c : State) → IsOneOf c (states_from rules s es) → IsOneOf c (states_from rules s (es ++ more))
states_more rules s [] [] c one = one
states_more rules s [] (e ∷ more) c (inl is) = inl is
states_more rules s [] (e ∷ more) c (inr none) = absurd none
states_more rules s (e ∷ es) more c (inl is) = inl is
states_more rules s (e ∷ es) more c (inr one) = inr (states_more rules (after_entry rules s e) es more c one)

-- one of them is that which all entries leave
last_state : (rules : Rules) (s : State) (es : List Entry) → IsOneOf (after rules s es) (states_from rules s es)
last_state rules s [] = inl refl
last_state rules s (e ∷ es) = inr (last_state rules (after_entry rules s e) es)

known_before : (state : State) (known : List State) → IsOneOf state known → (c : State) → IsOneOf c (state ∷ known) → IsOneOf c known
known_before state known is c (inl same) = subst (λ (s : State). IsOneOf s known) (sym same) is
known_before state known is c (inr one) = one

-- each of them is left by some of the entries
record LeftBy (rules : Rules) (s : State) (rest : List Recorded) (left : State) : Type 0 where
  some : List Recorded
  behind : List Recorded
  parts : some ++ behind ≡ rest
  leaves : left ≡ after rules s (history_of some)

left_by : (rules : Rules) (s : State) (rest : List Recorded) (left : State) → IsOneOf left (states_from rules s (history_of rest)) → LeftBy rules s rest left
left_by rules s [] left (inl is) = record { some = []; behind = []; parts = refl; leaves = is }
left_by rules s [] left (inr none) = absurd none
left_by rules s (r ∷ rest) left (inl is) = record { some = []; behind = r ∷ rest; parts = refl; leaves = is }
left_by rules s (r ∷ rest) left (inr one) =
    let found = left_by rules (after_entry rules s r.entry) rest left one in
    record { some = r ∷ found.some; behind = found.behind; parts = ap (λ (rs : List Recorded). r ∷ rs) found.parts; leaves = found.leaves }

-- all entries were committed
pub lasts_all : (leaves : List State → Type 0) (rules : Rules) (opening : State) (entries : List Recorded) (state : State)
    → after rules opening (history_of entries) ≡ state → leaves (state ∷ []) → LastsFrom leaves rules opening entries entries
lasts_all leaves rules opening entries state is settled = record {
  rest = [];
  begins = sym (append-nil entries);
  lasts = subst (λ (s : State). leaves (s ∷ [])) (sym is) settled;
}

module _ {R : Type 0} (leaves : R → List State → Type 0)
    (or_of_more : (records : R) (known more : List State) → ((c : State) → IsOneOf c known → IsOneOf c more) → leaves records known → leaves records more)
    (old new : R) (rules : Rules) (opening : State) (entries : List Recorded) where
  lasts_kept : (front : List Recorded) → StaysKnown leaves old new → LastsFrom (leaves old) rules opening entries front → LastsFrom (leaves new) rules opening entries front
  lasts_kept front stays lasts = record { rest = lasts.rest; begins = lasts.begins; lasts = stays (states_from rules (after rules opening (history_of front)) (history_of lasts.rest)) lasts.lasts }

  -- nothing was added
  pub all_kept : (committed : Option (List Recorded)) → StaysKnown leaves old new → IfSome committed (LastsFrom (leaves old) rules opening entries)
      → IfSome committed (LastsFrom (leaves new) rules opening entries)
  all_kept None stays lasts = tt
  all_kept (Some front) stays lasts = lasts_kept front stays lasts

  lasts_push : (front : List Recorded) (entry : Recorded) (longer : List Recorded) → longer ≡ entries ++ entry ∷ [] → StaysKnown leaves old new
      → LastsFrom (leaves old) rules opening entries front → LastsFrom (leaves new) rules opening longer front
  lasts_push front entry longer added stays lasts =
      let from : State = after rules opening (history_of front) in
      let es : List Entry = history_of lasts.rest in
      record {
        rest = lasts.rest ++ entry ∷ [];
        begins = added ∙ ap (λ (rs : List Recorded). rs ++ entry ∷ []) lasts.begins ∙ append_assoc front lasts.rest (entry ∷ []);
        lasts = subst (λ (h : List Entry). leaves new (states_from rules from h)) (sym (history_joined lasts.rest (entry ∷ [])))
            (or_of_more new (states_from rules from es) (states_from rules from (es ++ entry.entry ∷ [])) (states_more rules from es (entry.entry ∷ []))
            (stays (states_from rules from es) lasts.lasts));
      }

  -- one entry was added
  pub all_push : (committed : Option (List Recorded)) (entry : Recorded) (longer : List Recorded) → longer ≡ entries ++ entry ∷ [] → StaysKnown leaves old new
      → IfSome committed (LastsFrom (leaves old) rules opening entries)
      → IfSome committed (LastsFrom (leaves new) rules opening longer)
  all_push None entry longer added stays lasts = tt
  all_push (Some front) entry longer added stays lasts = lasts_push front entry longer added stays lasts

  lasts_still : (front : List Recorded) (state : State) → after rules opening (history_of entries) ≡ state
      → ((known : List State) → leaves old known → leaves new (state ∷ known))
      → LastsFrom (leaves old) rules opening entries front → LastsFrom (leaves new) rules opening entries front
  lasts_still front state is in_doubt lasts =
      let from : State = after rules opening (history_of front) in
      let es : List Entry = history_of lasts.rest in
      let known : List State = states_from rules from es in
      let last : after rules from es ≡ state =
      sym (after_joined rules opening (history_of front) es)
      ∙ ap (after rules opening) (sym (history_joined front lasts.rest) ∙ ap history_of (sym lasts.begins)) ∙ is in
      record {
        rest = lasts.rest;
        begins = lasts.begins;
        lasts = or_of_more new (state ∷ known) known (known_before state known (subst (λ (s : State). IsOneOf s known) last (last_state rules from es)))
            (in_doubt known lasts.lasts);
      }

  -- a commit didn't answer Ok
  pub all_still : (committed : Option (List Recorded)) (state : State) → after rules opening (history_of entries) ≡ state
      → ((known : List State) → leaves old known → leaves new (state ∷ known))
      → IfSome committed (LastsFrom (leaves old) rules opening entries)
      → IfSome committed (LastsFrom (leaves new) rules opening entries)
  all_still None state is in_doubt lasts = tt
  all_still (Some front) state is in_doubt lasts = lasts_still front state is in_doubt lasts

crash_leaves : (leaves : List State → Type 0) (was : Journal) (front : List Recorded) (left : State) → LastsFrom leaves was.rules was.opening.state was.entries front
    → ((known : List State) → leaves known → IsOneOf left known) → HasEntries was front left
crash_leaves leaves was front left lasts among =
    let from : State = after was.rules was.opening.state (history_of front) in
    let found = left_by was.rules from lasts.rest left (among (states_from was.rules from (history_of lasts.rest)) lasts.lasts) in
    record {
      more = found.some;
      begins = (found.behind, append_assoc front found.some found.behind ∙ ap (λ (rs : List Recorded). front ++ rs) found.parts ∙ sym lasts.begins);
      leaves = found.leaves ∙ sym (after_joined was.rules was.opening.state (history_of front) (history_of found.some))
          ∙ ap (after was.rules was.opening.state) (sym (history_joined front found.some));
    }

-- what a crash leaves has all entries that were committed
pub has_entries : (leaves : List State → Type 0) (was : Journal) (front : List Recorded) (left : State)
    → IfSome was.committed (LastsFrom leaves was.rules was.opening.state was.entries)
    → was.committed ≡ Some front
    → ((known : List State) → leaves known → IsOneOf left known) → HasEntries was front left
has_entries leaves was front left lasts is among =
    crash_leaves leaves was front left
    (subst (λ (c : Option (List Recorded)). IfSome c (LastsFrom leaves was.rules was.opening.state was.entries)) is lasts) among

-- what the type of a recorded store keeps
abbrev KeepsAs : {R : Type 0} → (R → List State → Type 0) → Origin → Rules → List (Stored R) → Stored R → List Recorded → Option (List Recorded) → ℕ → Type 0 → Stored R → Type 0
KeepsAs leaves origin rules opening told entries committed first ends store =
    (opening ≡ told ∷ [])
    × KeepsHistory (record {
      origin = origin;
      rules = rules;
      opening = told.standing;
      entries = entries;
      store = store.standing;
      committed = committed;
    })
    × (first ≡ told.standing.number)
    × IfSome committed (LastsFrom (leaves store.records) rules told.standing.state entries)
    × ends

abbrev pub IsKept : {R : Type 0} → (R → List State → Type 0) → Origin → Rules → List (Stored R) → List Note → ℕ → Bool → Stored R → Type 0
IsKept leaves origin rules opening all first settled store =
    KeepsAs leaves origin rules opening (told_or opening store) (entries_in all) (committed_in all) first (settled ≡ ends_with_commit false all) store

module _ {R : Type 0} (leaves : R → List State → Type 0) (origin : Origin) (rules : Rules) (opening : List (Stored R)) (all : List Note) (first : ℕ) (was : Bool)
    (old new : Stored R) (kept : IsKept leaves origin rules opening all first was old) where
  -- it keeps this too where its store stands where it stood, and no entry was noted
  kept_so : (entries : List Recorded) (committed : Option (List Recorded)) (ends : Type 0) (later : Origin) → entries ≡ entries_in all → new.standing ≡ old.standing
      → IfSome committed (LastsFrom (leaves new.records) rules (told_or opening old).standing.state (entries_in all)) → ends
      → KeepsAs leaves later rules opening (told_or opening new) entries committed first ends new
  kept_so entries committed ends later same still lasts ended =
      let keeps = kept.1 in
      subst (λ (es : List Recorded). KeepsAs leaves later rules opening (told_or opening new) es committed first ends new) (sym same)
      (subst (λ (told : Stored R). KeepsAs leaves later rules opening told (entries_in all) committed first ends new)
      (sym (told_stays opening old new kept.0)) (
        kept.0,
        record {
          legal = keeps.legal;
          leaves = keeps.leaves ∙ ap (λ (s : Standing). s.state) (sym still);
          counts = ap (λ (s : Standing). s.number) still ∙ keeps.counts;
        },
        kept.2,
        lasts,
        ended,
      ))

  pub kept_still : new.standing ≡ old.standing
      → IfSome (committed_in all) (LastsFrom (leaves new.records) rules (told_or opening old).standing.state (entries_in all))
      → IsKept leaves origin rules opening all first was new
  kept_still still lasts = kept_so (entries_in all) (committed_in all) (was ≡ ends_with_commit false all) origin refl still lasts kept.4

  -- and where all was committed
  pub kept_committed : (noted : List Note) (later : Origin) → noted ≡ all ++ notes.Commit ∷ [] → new.standing ≡ old.standing → leaves new.records (new.standing.state ∷ [])
      → IsKept leaves later rules opening noted first true new
  kept_committed noted later added still settled =
      let front : committed_in noted ≡ Some (entries_in all) = ap committed_in added ∙ committed_push all in
      let opened = (told_or opening old).standing.state in
      let stands = kept.1.leaves ∙ sym (ap (λ (s : Standing). s.state) still) in
      kept_so (entries_in noted) (committed_in noted) (true ≡ ends_with_commit false noted) later (ap entries_in added ∙ entries_still all) still
      (subst (λ (c : Option (List Recorded)). IfSome c (LastsFrom (leaves new.records) rules opened (entries_in all))) (sym front)
      (lasts_all (leaves new.records) rules opened (entries_in all) new.standing.state stands settled))
      (sym (ap (ends_with_commit false) added ∙ ends_committed false all))

-- where all entries were committed, a crash leaves the state to which they lead
none_behind : {A : Type 0} → (xs rest : List A) → xs ≡ xs ++ rest → rest ≡ []
none_behind [] rest is = sym is
none_behind (x ∷ xs) rest is = none_behind xs rest (cc)

last_alone : (leaves : List State → Type 0) (rules : Rules) (opening : State) (entries : List Recorded) (state : State)
    → after rules opening (history_of entries) ≡ state → LastsFrom leaves rules opening entries entries → leaves (state ∷ [])
last_alone leaves rules opening entries state is lasts =
    let none = none_behind entries lasts.rest lasts.begins in
    subst (λ (s : State). leaves (s ∷ [])) is
    (subst (λ (rest : List Recorded). leaves (states_from rules (after rules opening (history_of entries)) (history_of rest))) none lasts.lasts)

-- a new history at the store as it is
begun_kept : {R : Type 0} (leaves : R → List State → Type 0) (origin : Origin) (rules : Rules) (first : ℕ) (settled : Bool) (store : Stored R)
    → first ≡ store.standing.number → (settled ≡ true → leaves store.records (store.standing.state ∷ []))
    → IsKept leaves origin rules (store ∷ []) (begun_with settled) first settled store
begun_kept leaves origin rules first true store number known = (
  refl,
  record { legal = tt; leaves = refl; counts = omega arith },
  number,
  record { rest = []; begins = refl; lasts = known refl },
  refl,
)
begun_kept leaves origin rules first false store number known = (
  refl,
  record { legal = tt; leaves = refl; counts = omega arith },
  number,
  tt,
  refl,
)

pub folded_kept : {R : Type 0} (leaves : R → List State → Type 0) (origin later : Origin) (rules : Rules) (opening reopening : List (Stored R)) (all begun : List Note)
    (first number : ℕ) (settled : Bool) (store : Stored R) → IsKept leaves origin rules opening all first settled store
    → reopening ≡ store ∷ [] → begun ≡ begun_with settled → number ≡ store.standing.number
    → IsKept leaves later rules reopening begun number settled store
folded_kept {R} leaves origin later rules opening reopening all begun first number settled store kept told is next =
    let state = (told_or opening store).standing.state in
    subst (λ (os : List (Stored R)). IsKept leaves later rules os begun number settled store) (sym told)
    (subst (λ (ns : List Note). IsKept leaves later rules (store ∷ []) ns number settled store) (sym is)
    (begun_kept leaves later rules number settled store next
    (λ (all_is : settled ≡ true). last_alone (leaves store.records) rules state (entries_in all) store.standing.state kept.1.leaves
    (subst (λ (c : Option (List Recorded)). IfSome c (LastsFrom (leaves store.records) rules state (entries_in all)))
    (all_settled all (sym all_is ∙ kept.4)) kept.3))))

-- what is known of commits then
begun_settled : (settled : Bool) → settled ≡ true → committed_in (begun_with settled) ≡ Some []
begun_settled true is = refl
begun_settled false is = absurd (cc)

begun_unsettled : (settled : Bool) → settled ≡ false → committed_in (begun_with settled) ≡ None
begun_unsettled true is = absurd (cc)
begun_unsettled false is = refl

pub folded_settled : (settled : Bool) (all begun : List Note) → settled ≡ ends_with_commit false all → begun ≡ begun_with settled
    → committed_in all ≡ Some (entries_in all) → committed_in begun ≡ Some []
folded_settled settled all begun ends is whole = ap committed_in is ∙ begun_settled settled (settled_so settled all ends whole)

not_all : (settled : Bool) (all : List Note) → settled ≡ ends_with_commit false all → committed_in all ≢ Some (entries_in all) → settled ≡ false
not_all true all ends not = absurd (not (all_settled all ends))
not_all false all ends not = refl

pub folded_unsettled : (settled : Bool) (all begun : List Note) → settled ≡ ends_with_commit false all → begun ≡ begun_with settled
    → committed_in all ≢ Some (entries_in all) → committed_in begun ≡ None
folded_unsettled settled all begun ends is not = ap committed_in is ∙ begun_unsettled settled (not_all settled all ends not)

-- what contracts see once all entries are committed
abbrev pub journal_of : Origin → Rules → Standing → List Recorded → Standing → Option (List Recorded) → Journal
journal_of origin rules opening entries store committed = record { origin = origin; rules = rules; opening = opening; entries = entries; store = store; committed = committed }

pub committed_view : (was origin : Origin) (rules : Rules) (opened opening stood store : Standing) (before entries : List Recorded) (committed : Option (List Recorded))
    → origin ≡ was → opening ≡ opened → entries ≡ before → store ≡ stood → committed ≡ Some before
    → journal_of origin rules opening entries store committed ≡ journal_of was rules opened before stood (Some before)
committed_view was origin rules opened opening stood store before entries committed same told still stands all = cc
