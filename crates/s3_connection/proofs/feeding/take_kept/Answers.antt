use Rattle.std.proofs.Common.{◌≡◌, ℕ, List, [], false, drop, subst, take}
use Rattle.s3_session.specs.Session.{fed, moment_if, turns_of}
use Rattle.s3_session.specs.Stands.{Stands}
use Rattle.s3_session.specs.declared.session.Need.TheVariants as needs
use Rattle.s3_connection.specs.Output.{past_of}
use Rattle.s3_connection.proofs.FeedingLemmas.{needed, none_left, took_next}
use Rattle.s3_connection.proofs.feeding.take_kept.Goals as goal

pub returns-clause-took : goal.returns-clause-took
returns-clause-took c taken moments entries sent stands =
    let f = c.feed-len in
    let s = c.stage_behind in
    let offered = c.as_slice.result.now in
    let past = past_of taken false moments entries [] in
    let none : f.result.need ≡ needs.More → drop f.result.len c.args.kept.now ≡ [] =
    subst (λ (o : List ℕ). f.result.need ≡ needs.More → drop f.result.len o ≡ []) c.as_slice.ensures (none_left f.result.need f.result.len offered (f.ensures.all past sent stands)) in
    took_next f.new.self s.new.kept s.result c.args.config.now taken c.args.kept.now moments entries sent f.result.len (moment_if f.result.has_moment c.args.now) (turns_of f.result.need)
    (subst (λ (o : List ℕ). Stands f.new.self c.args.config.now (fed past (take f.result.len o) (moment_if f.result.has_moment c.args.now) (turns_of f.result.need)) sent) c.as_slice.ensures
    (f.ensures.stands past sent stands)) (needed f.result.need _ f.ensures.needs) s.ensures.turn (s.ensures.left none)
