use Rattle.std.proofs.Common.{ℕ, List, []}
use Rattle.std.specs.Global.{Vec}
use Rattle.s3_simulation.specs.Replaying.{ReplaysFrom}
use Rattle.s3_cli.specs.Reading.{IsFed}
use Rattle.s3_cli.proofs.ReadingLemmas.{gives_memory, gives_ok, given_all}
use Rattle.s3_cli.proofs.run.written_after.Goals as goal

pub returns-clause-value : goal.returns-clause-value
returns-clause-value g c base settings moment h =
    gives_ok (IsFed c.args.replay.now c.feed_input.new.replay) (λ (text : Vec ℕ) (bytes : List ℕ). ReplaysFrom base settings moment bytes text.items) _ _
    c.written.result (λ bytes fed. c.written.ensures.value base settings moment bytes (fed base settings moment [] h)) c.in_ok-feed_input.ensures.fed

pub returns-clause-all : goal.returns-clause-all
returns-clause-all g c = given_all (IsFed c.args.replay.now c.feed_input.new.replay) _ _ c.written.result c.in_ok-feed_input.ensures.fed

pub returns-clause-refused : goal.returns-clause-refused
returns-clause-refused g c = gives_memory (IsFed c.args.replay.now c.feed_input.new.replay) _ _ c.written.result c.written.ensures.refused c.in_ok-feed_input.ensures.fed
