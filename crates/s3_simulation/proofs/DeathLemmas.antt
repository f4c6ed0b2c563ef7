-- What a connection shows in which memory ran out.
use Rattle.std.proofs.Common.{◌≡◌, ℕ, Bool, true, List, ◌++◌, sym, ap, ◌∙◌, append_assoc, Option, Some, None}
use Rattle.std.specs.List.{flat_map}
use Rattle.s3_config.specs.Settings.{Settings}
use Rattle.s3_machine.specs.declared.turn.Turn.{Turn}
use Rattle.s3_replies.specs.Replies.{internal_error}
use Rattle.s3_session.specs.Output.{Past, Standing, Writes, Behind, is_dead, written_for}
use Rattle.s3_session.specs.Output as standings
use Rattle.s3_simulation.specs.Run.{output_of}
use Rattle.s3_simulation.specs.Alike.{DeathsShow}

-- what stands behind the answered messages ends so
dead_behind : (settings : Settings) (ended : Bool) (left : Option (List ℕ)) (late : List ℕ) (waiting : List Turn) (last : List ℕ)
    → Behind standings.Dead settings ended left late waiting last → (before : List ℕ) × (last ≡ before ++ internal_error)
dead_behind settings ended (Some rest) late waiting last dead = (dead.before, dead.joined)
dead_behind settings ended None late waiting last dead = absurd dead

dead_writes : (standing : Standing) (settings : Settings) (past : Past) (out : List ℕ) → is_dead standing ≡ true → Writes standing settings past out
    → (before : List ℕ) × (out ≡ before ++ internal_error)
dead_writes standings.Dead settings past out dead writes =
    let behind = dead_behind settings past.ended writes.left writes.late writes.waiting writes.last writes.behind in
    let answered = flat_map written_for writes.serves.exchanges in (
      answered ++ behind.0,
      writes.serves.joined ∙ ap (λ (text : List ℕ). answered ++ text) behind.1 ∙ sym (append_assoc answered behind.0 internal_error),
    )
dead_writes _ settings past out dead writes = absurd cc

pub deaths_show : DeathsShow
deaths_show settings moments happened outs entries run c there dead =
    let wrote = run.outputs c there in
    dead_writes (run.standing c) settings _ (output_of c outs) dead wrote.output.writes
