-- What is known of a replay, and that one without a head writes nothing.
use Rattle.std.proofs.Common.{◌≡◌, ℕ, true, List, [], map, Some, refl, subst}
use Rattle.std.specs.List.{AllByRecursion}
use Rattle.s3_config.specs.Settings.{Settings}
use Rattle.s3_records.specs.Catalogue.{opening}
use Rattle.s3_machine.specs.History.{Legal}
use Rattle.s3_machine.specs.Rules.{rules_of}
use Rattle.s3_session.specs.Walk.{Walks}
use Rattle.s3_session.specs.Output.{message_of, Standing, Reading, Behind}
use Rattle.s3_session.specs.ReadBack.{entries_from}
use Rattle.s3_session.specs.Replay.{ReplaysAs}
use Rattle.s3_session.specs.Laws.{HeadlessAreSilent}
use Rattle.s3_session.proofs.ServesLemmas.{moments_of, serves_entries, all_of_two}
use Rattle.s3_session.proofs.StandsLemmas.{nothing_found}

-- what a replay says of its exchanges and of what stands behind them
module _ (standing : Standing) (settings : Settings) (moment : ℕ) (bytes out : List ℕ) (r : ReplaysAs standing settings moment bytes out) where
  pub replayed_moments : AllByRecursion (λ (m : ℕ). m ≡ moment) (moments_of r.writes.serves.exchanges)
      × AllByRecursion (λ (m : ℕ). m ≡ moment) r.writes.late
  replayed_moments =
      all_of_two (λ (m : ℕ). m ≡ moment) (moments_of r.writes.serves.exchanges) r.writes.late
      (subst (AllByRecursion (λ (m : ℕ). m ≡ moment)) r.writes.serves.moments r.moments)

  pub replayed_legal : Legal (rules_of settings) (opening settings.buckets) 0 (entries_from r.writes.serves.exchanges)
  replayed_legal =
      let w = r.writes in
      subst (Legal (rules_of settings) (opening settings.buckets) 0)
      (serves_entries settings r.past out w.left w.late w.waiting w.last w.serves) r.legal

  pub replayed_walk : Walks settings true bytes (map message_of r.writes.serves.exchanges) r.writes.left
  replayed_walk =
      let messages = map message_of r.writes.serves.exchanges in
      subst (λ bs. Walks settings true bs messages r.writes.left) r.came
      (subst (λ e. Walks settings e r.past.bytes messages r.writes.left) r.ended r.writes.serves.walk)

  pub replayed_behind : Behind standing settings true r.writes.left r.writes.late r.writes.waiting r.writes.last
  replayed_behind = subst (λ e. Behind standing settings e r.writes.left r.writes.late r.writes.waiting r.writes.last) r.ended r.writes.behind

-- where neither a head text nor too many bytes have come, nothing is written
pub headless_are_silent : HeadlessAreSilent
headless_are_silent settings moment bytes headless =
    let told = nothing_found settings 0 true bytes [] headless refl in (
      Reading,
      refl,
      record {
        past = record { bytes = bytes; ended = true; moments = []; turns = []; answers = [] };
        came = refl;
        ended = refl;
        moments = tt;
        writes = record {
          left = Some bytes;
          late = [];
          waiting = [];
          last = [];
          serves = record { exchanges = []; walk = refl; replied = tt; moments = refl; turns = refl; answers = refl; joined = refl };
          behind = record { moment = 0; asked = rw headless refl; none = refl; judged = told.0; invites = told.1 };
        };
        legal = tt;
      },
    )
