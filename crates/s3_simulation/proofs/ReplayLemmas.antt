-- A connection over a store of its own: what it takes, and that what it has written is what a replay writes.
use Rattle.std.proofs.Common.{◌≡◌, ◌≢◌, ◌<◌, ℕ, zero, suc, true, false, List, [], ◌∷◌, ◌++◌, length, map, Some, Result, Ok, Err, IfOk, OnOk, OnErr, refl, sym, ap, subst, ◌∙◌}
use Rattle.std.specs.List.{AllByRecursion}
use Rattle.s3_config.specs.Settings.{Settings}
use Rattle.s3_http_heads.specs.Find.{found_in, skip_pairs, text_length}
use Rattle.s3_http_heads.specs.declared.find.Found.TheVariants as found
use Rattle.s3_store.specs.Steps as stores
use Rattle.s3_machine.specs.History.{Entry, Legal}
use Rattle.s3_machine.specs.declared.turn.Turn.{Turn}
use Rattle.s3_machine.specs.Rules.{rules_of}
use Rattle.s3_machine.specs.declared.rules.Rules.{Rules}
use Rattle.s3_journal.specs.RecordedStore.{Journal, KeepsHistory}
use Rattle.s3_journal.specs.Recorded.{history_of}
use Rattle.s3_session.specs.Replay.{entries_of}
use Rattle.s3_connection.specs.Holds.{ConnectionsWrite}
use Rattle.s3_connection.specs.Output.{Input, answer_of, answered_turn, past_of}
use Rattle.s3_simulation.specs.Moments.{handed}
use Rattle.s3_simulation.specs.Played.{Playing, Plays, standing_of, turn_of, written_by}
use Rattle.s3_simulation.specs.Replaying.{HasCome, HasTaken, OpenedReplays, Replaying, ReplaysFrom}
use Rattle.s3_simulation.proofs.PlayedLemmas.{plays_write, waits_for}

abbrev input_of : List ℕ → Input
input_of bytes = record { bytes = bytes; ended = false }

-- nothing has come
pub begun : (settings : Settings) (moment : ℕ) (played : Playing) (recorded_store : Journal) (moments : List ℕ) (rules : Rules) (store : stores.Standing)
    → moments ≡ moment ∷ [] → ((s : Settings) → Plays played s moments (input_of []) [])
    → recorded_store ≡ record { origin = recorded_store.origin; rules = rules; opening = store; entries = []; store = store; committed = Some [] }
    → rules ≡ rules_of settings
    → HasCome (record { settings = settings; played = played; recorded_store = recorded_store }) store settings moment []
begun settings moment played recorded_store moments rules store one plays is rules_is = record {
  under = refl;
  plays = subst (λ (ms : List ℕ). Plays played settings ms (input_of []) (history_of recorded_store.entries)) one
      (subst (λ (es : List Entry). Plays played settings moments (input_of []) es) (sym (ap (λ (j : Journal). history_of j.entries) is)) (plays settings));
  rules = ap (λ (j : Journal). j.rules) is ∙ rules_is;
  opens = ap (λ (j : Journal). j.opening) is;
}

-- the same replay, of which the connection and the recorded store went on so
pub goes_on : (r : Replaying) (base : stores.Standing) (settings : Settings) (moment : ℕ) (bytes more : List ℕ) (played : Playing) (recorded_store : Journal) → HasCome r base settings moment bytes
    → (Plays r.played r.settings (moment ∷ []) (input_of bytes) (history_of r.recorded_store.entries)
    → Plays played r.settings (moment ∷ []) (input_of more) (history_of recorded_store.entries))
    → recorded_store.rules ≡ r.recorded_store.rules → recorded_store.opening ≡ r.recorded_store.opening
    → HasCome (record { settings = r.settings; played = played; recorded_store = recorded_store }) base settings moment more
goes_on r base settings moment bytes more played recorded_store h on rules opens = record {
  under = h.under;
  plays = subst (λ (s : Settings). Plays played s (moment ∷ []) (input_of more) (history_of recorded_store.entries)) h.under
      (on (subst (λ (s : Settings). Plays r.played s (moment ∷ []) (input_of bytes) (history_of r.recorded_store.entries)) (sym h.under) h.plays));
  rules = rules ∙ h.rules;
  opens = opens ∙ h.opens;
}

-- or only the connection, with a piece that there may be no memory for
pub came_on : {T E : Type 0} (r : Replaying) (base : stores.Standing) (settings : Settings) (moment : ℕ) (bytes more : List ℕ) (played : Playing) (result : Result T E) → HasCome r base settings moment bytes
    → (Plays r.played r.settings (moment ∷ []) (input_of bytes) (history_of r.recorded_store.entries)
    → OnOk result (Plays played r.settings (moment ∷ []) (input_of more) (history_of r.recorded_store.entries)))
    → OnOk result (HasCome (record { settings = r.settings; played = played; recorded_store = r.recorded_store }) base settings moment more)
came_on r base settings moment bytes more played (Ok x) h on = goes_on r base settings moment bytes more played r.recorded_store h on refl refl
came_on r base settings moment bytes more played (Err e) h on = tt

-- ---- what it wrote

-- a list of one moment hands out that
all_handed : (moment n : ℕ) → AllByRecursion (λ (m : ℕ). m ≡ moment) (handed (moment ∷ []) n)
all_handed moment zero = tt
all_handed moment (suc n) = (refl, all_handed moment n)

-- the turns that were answered, with their answers, are the entries, whichever turns wait
answered_entries : (entries : List Entry) (waiting : List Turn) → entries_of (map answered_turn entries ++ waiting) (map answer_of entries) ≡ entries
answered_entries [] [] = refl
answered_entries [] (turn ∷ turns) = refl
answered_entries (e ∷ entries) waiting = ap (λ (es : List Entry). e ∷ es) (answered_entries entries waiting)

-- it received these bytes and their end, and is idle: it has written what a replay writes
pub written_replays : ConnectionsWrite → (r : Replaying) (base : stores.Standing) (settings : Settings) (moment : ℕ) (bytes : List ℕ) → HasTaken r base settings moment bytes
    → (p : Playing)
    → ((s : Settings) (moments : List ℕ) (input : Input) (entries : List Entry) → Plays r.played s moments input entries
    → Plays p s moments (record { bytes = input.bytes; ended = true }) entries)
    → turn_of p ≡ turn_of r.played → KeepsHistory r.recorded_store
    → ReplaysFrom base settings moment bytes (written_by p)
written_replays write r base settings moment bytes taken p ends turn keeps =
    let h = taken.0 in
    let entries = history_of r.recorded_store.entries in
    let plays = ends settings (moment ∷ []) (input_of bytes) entries h.plays in
    let wrote = plays_write write p settings (moment ∷ []) (record { bytes = bytes; ended = true }) entries plays in
    let legal : Legal (rules_of settings) base.state base.number entries =
    subst (λ (rules : Rules). Legal rules base.state base.number entries) h.rules
    (subst (λ (t : stores.Standing). Legal r.recorded_store.rules t.state t.number entries) h.opens keeps.legal) in record {
      standing = standing_of p;
      answered = (waits_for p settings (moment ∷ []) (record { bytes = bytes; ended = true }) entries plays).1 (turn ∙ taken.1);
      past = past_of bytes true (handed (moment ∷ []) wrote.1.count) entries wrote.0;
      came = refl;
      ended = refl;
      moments = all_handed moment wrote.1.count;
      writes = wrote.1.output.writes;
      legal = subst (Legal (rules_of settings) base.state base.number) (sym (answered_entries entries wrote.0)) legal;
    }

-- over a store with the opening buckets it is one
pub opened_replays : OpenedReplays
opened_replays settings moment bytes out r = (
  r.standing,
  r.answered,
  record { past = r.past; came = r.came; ended = r.ended; moments = r.moments; writes = r.writes; legal = r.legal },
)

-- a copy of what was written is the output as well, and where there was no memory for one, something was written
module _ {X E : Type 0} (base : stores.Standing) (settings : Settings) (moment : ℕ) (bytes out : List ℕ) (replays : ReplaysFrom base settings moment bytes out) where
  pub copied : (items : X → List ℕ) (result : Result X E) → IfOk result (λ x. items x ≡ out) → IfOk result (λ x. ReplaysFrom base settings moment bytes (items x))
  copied items (Ok x) is = subst (ReplaysFrom base settings moment bytes) (sym is) replays
  copied items (Err e) is = tt

  pub uncopied : (result : Result X E) → OnErr result (0 < length out) → OnErr result ((o : List ℕ) × ReplaysFrom base settings moment bytes o × (0 < length o))
  uncopied (Ok x) memory = tt
  uncopied (Err e) memory = (out, replays, memory)

-- ---- bytes without a head

empty_found : found_in [] ≡ found.NeedMore
unfolding found_in skip_pairs text_length
empty_found = refl

-- where a replay is asked for, there are bytes
pub some_found : {X E : Type 0} (bytes : List ℕ) (result : Result X E) → found_in bytes ≢ found.NeedMore → OnErr result (bytes ≢ [])
some_found bytes (Ok x) some = tt
some_found bytes (Err e) some = λ none. some (subst (λ (bs : List ℕ). found_in bs ≡ found.NeedMore) (sym none) empty_found)
