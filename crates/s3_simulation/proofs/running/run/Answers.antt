use Rattle.std.proofs.Common.{◌∙◌, subst}
use Rattle.s3_config.specs.Settings.{Settings}
use Rattle.s3_store.specs.Steps.{Standing}
use Rattle.s3_simulation.specs.Run.{RunsFrom, each_moments}
use Rattle.s3_simulation.specs.Shown.{written_by_all}
use Rattle.s3_simulation.proofs.running.run.Goals as goal

pub returns : goal.returns
returns g c =
    let world = c.step_all.new.world in
    let moments = each_moments c.args.moments.now in
    let opens = c.in_ok-step_all.ensures.opens ∙ c.in_ok-world.ensures.opens in
    record {
      runs = subst (λ (base : Standing). RunsFrom base c.args.config.now moments c.args.events.now (written_by_all world.connections) world.recorded_store.entries) opens
          (subst (λ (settings : Settings). RunsFrom world.recorded_store.opening settings moments c.args.events.now (written_by_all world.connections) world.recorded_store.entries)
          (c.in_ok-step_all.ensures.settings ∙ c.in_ok-world.ensures.settings)
          (c.worlds_run.ensures world moments c.args.events.now (c.in_ok-step_all.ensures.stands moments c.in_ok-world.ensures.begins)).0);
      stands = c.in_ok-step_all.ensures.stands moments c.in_ok-world.ensures.begins;
      settings = c.in_ok-step_all.ensures.settings ∙ c.in_ok-world.ensures.settings;
      opens = opens;
      entered = (
        c.in_ok-world.world,
        c.in_ok-world.ensures.begins,
        c.in_ok-world.ensures.settings,
        c.in_ok-world.ensures.opens,
        c.in_ok-step_all.ensures.entered moments c.in_ok-world.ensures.begins,
      );
    }
