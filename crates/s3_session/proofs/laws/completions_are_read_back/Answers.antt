use Rattle.s3_session.proofs.ReadBackLemmas.{LawsBelow, completions_are_read_back, completion_versions_are_read_back, payloads_are_sent}
use Rattle.s3_session.proofs.laws.completions_are_read_back.Goals as goal

pub returns : goal.returns
returns c =
    let shown = c.replies_show_what_came.ensures in
    let below : LawsBelow = record {
      plans = c.plans_are_unbroken.ensures.plans;
      sums = c.plans_are_unbroken.ensures.sums;
      messages = c.sound_verdicts_are_exact.ensures.message;
      tags = shown.tags;
      success = shown.success;
      objects = shown.objects;
      parts = shown.parts;
      sound = c.histories_leave_sound_bases.ensures.opening;
      nothing = c.histories_leave_sound_bases.ensures.nothing;
      given = c.only_stored_is_given.ensures.given;
      said = c.only_stored_is_given.ensures.said;
      origins = c.only_stored_is_given.ensures.brought;
    } in
    record {
      back = completions_are_read_back below c.parts_have_a_source.ensures.sources c.completions_are_kept.ensures.by_key;
      versions = completion_versions_are_read_back below c.parts_have_a_source.ensures.sources c.completions_are_kept.ensures.by_version;
      payloads = payloads_are_sent c.ready_plans_bring_nothing.ensures c.accepted_bodies_are_whole.ensures.payload;
    }
