-- How a world begins, and that what it comes to is a run.
use Rattle.std.proofs.Common.{◌≡◌, ◌≢◌, ◌<◌, ◌≤◌, ℕ, zero, suc, Option, Some, None, List, [], ◌∷◌, length, get_or, refl, sym, ap, subst, ◌∙◌, arith, add-zero}
use Rattle.std.specs.Global.{Vec}
use Rattle.std.specs.List.{slice_get}
use Rattle.std.proofs.lemmas.List.{length-map}
use Rattle.s3_config.specs.Settings.{Settings}
use Rattle.s3_store.specs.Steps as stores
use Rattle.s3_machine.specs.History.{Entry, Legal}
use Rattle.s3_machine.specs.declared.turn.Turn.{Turn}
use Rattle.s3_machine.specs.Rules.{rules_of}
use Rattle.s3_machine.specs.declared.rules.Rules.{Rules}
use Rattle.s3_journal.specs.RecordedStore.{Journal}
use Rattle.s3_journal.specs.Recorded.{entries_of_seat, history_of}
use Rattle.s3_connection.specs.Output.{Input}
use Rattle.s3_connection.specs.Holds.{ConnectionsWrite}
use Rattle.s3_simulation.specs.Played.{Playing, Plays, standing_of, written_by}
use Rattle.s3_simulation.specs.Timed.{TimedOutputs}
use Rattle.s3_simulation.proofs.PlayedLemmas.{plays_write}
use Rattle.s3_simulation.specs.Events.{received}
use Rattle.s3_simulation.specs.Run.{moments_of, output_of, each_moments}
use Rattle.s3_simulation.specs.Shown.{standing_at, standing_in, written_by_all}
use Rattle.s3_simulation.specs.StandsAfter.{AreFresh, StandsAfter, WorldsRun}
use Rattle.s3_simulation.proofs.WorldLemmas.{same_some, there}

-- ---- the beginning

-- connections of which nothing came
pub begins : (settings : Settings) (connections : List Playing) (recorded_store : Journal) (given : List (Vec ℕ))
    → AreFresh connections (each_moments given) (length given)
    → (store : stores.Standing)
    → recorded_store ≡ record { origin = recorded_store.origin; rules = rules_of settings; opening = store; entries = []; store = store; committed = Some [] }
    → StandsAfter (record { settings = settings; connections = connections; recorded_store = recorded_store }) (each_moments given) []
begins settings connections recorded_store given fresh store is =
    subst (λ (j : Journal). StandsAfter (record { settings = settings; connections = connections; recorded_store = j }) (each_moments given) []) (sym is)
    (record {
      each = fresh.count ∙ sym (length-map given (λ (v : Vec ℕ). v.items));
      plays = λ c b at. fresh.fresh c b at settings;
      rules = refl;
      keeps = record { legal = tt; leaves = refl; counts = sym (add-zero store.number) };
      taken = refl;
    })

-- ---- the run

written_one : (connections : List Playing) (c : ℕ) (b : Playing) → slice_get connections c ≡ Some b → written_by b ≡ output_of c (written_by_all connections)
written_one [] c b is = absurd (cc)
written_one (x ∷ connections) zero b is = ap written_by (sym (same_some (slice_get (x ∷ connections) zero) x b refl is))
written_one (x ∷ connections) (suc c) b is = written_one connections c b is

module _ (write : ConnectionsWrite) (settings : Settings) (moments : List ℕ) (input : Input) (entries : List Entry) where
  -- a connection, and what it writes
  HavePlayed : Option Playing → Type 0
  HavePlayed x = (b : Playing) → x ≡ Some b → Plays b settings moments input entries

  -- the turns of a connection that have no answer
  waiting_in : (x : Option Playing) → HavePlayed x → List Turn
  unfolding HavePlayed
  waiting_in None played = []
  waiting_in (Some b) played = (plays_write write b settings moments input entries (played b refl)).0

  outputs_in : (x : Option Playing) (played : HavePlayed x) (out : List ℕ) → ((b : Playing) → x ≡ Some b → written_by b ≡ out) → x ≢ None
      → TimedOutputs (standing_in x) settings moments input entries (waiting_in x played) out
  unfolding waiting_in
  outputs_in None played out wrote some = absurd (some refl)
  outputs_in (Some b) played out wrote some =
      let w = plays_write write b settings moments input entries (played b refl) in
      subst (TimedOutputs (standing_of b) settings moments input entries w.0) (wrote b refl) w.1

pub worlds_run : ConnectionsWrite → WorldsRun
unfolding HavePlayed
worlds_run write world moments happened s =
    let settings = world.settings in (
      record {
        standing = λ c. standing_at world.connections c;
        waiting = λ c. waiting_in write settings (moments_of c moments) (received c happened) (entries_of_seat c world.recorded_store.entries) (slice_get world.connections c) (s.plays c);
        legal = subst (λ (r : Rules). Legal r world.recorded_store.opening.state world.recorded_store.opening.number (history_of world.recorded_store.entries)) s.rules s.keeps.legal;
        taken = s.taken;
        outputs = λ c less.
            (let count : c < length world.connections = subst (λ (n : ℕ). c < n) (sym s.each) less in
            outputs_in write settings (moments_of c moments) (received c happened) (entries_of_seat c world.recorded_store.entries) (slice_get world.connections c) (s.plays c)
            (output_of c (written_by_all world.connections)) (written_one world.connections c) (λ none. there world.connections c count none));
        each = length-map world.connections written_by ∙ s.each;
      },
      λ c. refl,
    )

-- ---- what one wrote

pub written_there : (connections : List Playing) (c : ℕ) (d : Playing) → c < length connections
    → written_by (get_or connections c d) ≡ output_of c (written_by_all connections)
written_there [] c d less = absurd (omega arith)
written_there (b ∷ connections) zero d less = refl
written_there (b ∷ connections) (suc c) d less = written_there connections c d (omega arith)

pub written_nowhere : (connections : List Playing) (c : ℕ) → length connections ≤ c → output_of c (written_by_all connections) ≡ []
written_nowhere [] c past = refl
written_nowhere (b ∷ connections) zero past = absurd (omega arith)
written_nowhere (b ∷ connections) (suc c) past = written_nowhere connections c (omega arith)
