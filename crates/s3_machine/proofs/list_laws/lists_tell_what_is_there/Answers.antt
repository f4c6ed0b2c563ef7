use Rattle.s3_machine.proofs.EffectLemmas.{FollowRules}
use Rattle.s3_machine.proofs.ListLemmas.{listed_is_current}
use Rattle.s3_machine.proofs.ToldListLemmas.{LawsOfItems, objects_are_told_as_read, uploads_are_told_while_open, parts_are_told_while_standing}
use Rattle.s3_machine.proofs.ToldVersionLemmas.{LawsOfVersions, versions_are_told_as_read}
use Rattle.s3_machine.proofs.list_laws.lists_tell_what_is_there.Goals as goal

pub returns : goal.returns
returns c =
    let laws : LawsOfItems =
    record {
      current = listed_is_current c.listed_keys_are_read.ensures.read;
      keys = c.listed_keys_are_read.ensures.rows;
      items = c.items_are_distinct.ensures.keys;
      join = c.pages_join.ensures;
      rise = c.keys_rise.ensures;
    } in
    let versions : LawsOfVersions =
    record {
      one = c.ids_differ.ensures.one;
      ids = c.ids_differ.ensures.told;
      held = c.held_is_got.ensures;
      leaves = c.histories_leave_sound_bases.ensures.left;
      plain = c.plain_lists_are_rows.ensures.versions;
    } in
    let follow : FollowRules =
    record { keys = c.changes_follow_rules.ensures.rules; completions = c.changes_follow_rules.ensures.completions } in
    record {
      objects = objects_are_told_as_read laws c.changes_are_by_place.ensures.places follow;
      versions = versions_are_told_as_read versions c.changes_are_by_place.ensures.places follow;
      uploads = uploads_are_told_while_open c.plain_lists_are_rows.ensures.uploads c.uploads_are_open_until_ended.ensures.listed;
      parts = parts_are_told_while_standing c.parts_are_kept.ensures.listed;
    }
