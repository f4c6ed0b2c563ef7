use Rattle.s3_session.proofs.ReadBackLemmas.{LawsBelow, stored_is_read_back, versions_are_read_back, only_stored_is_read_back, only_stored_is_shown}
use Rattle.s3_session.proofs.laws.stored_is_read_back.Goals as goal

pub returns : goal.returns
returns c =
    let shown = c.replies_show_what_came.ensures in
    let below : LawsBelow = record {
      plans = c.plans_are_unbroken.ensures.plans;
      sums = c.plans_are_unbroken.ensures.sums;
      messages = c.sound_verdicts_are_exact.ensures.message;
      tags = shown.tags;
      success = shown.success;
      objects = shown.objects;
      parts = shown.parts;
      sound = c.histories_leave_sound_bases.ensures.opening;
      nothing = c.histories_leave_sound_bases.ensures.nothing;
      given = c.only_stored_is_given.ensures.given;
      said = c.only_stored_is_given.ensures.said;
      origins = c.only_stored_is_given.ensures.brought;
    } in
    record {
      back = stored_is_read_back below c.stored_is_kept.ensures.by_key;
      versions = versions_are_read_back below c.stored_is_kept.ensures.by_version;
      only = only_stored_is_read_back below c.only_stored_is_given.ensures.or_fails;
      shown = only_stored_is_shown below c.only_stored_is_given.ensures.judged;
    }
