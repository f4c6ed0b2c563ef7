use Rattle.s3_listings.specs.Drafts.{last_text}
use Rattle.s3_listings.proofs.DraftLemmas.{object_added}
use Rattle.s3_listings.proofs.draft.Draft.push_object.Goals as goal

pub returns : goal.returns
returns c =
    let draft = c.args.self.now in
    object_added draft.contents.items c.push.new.self.items draft.prefixes.items (last_text draft.ends_in_prefix draft.contents.items draft.prefixes.items) draft.room draft.is_truncated (record { key = c.args.key; facts = c.args.facts }) c.in_ok-push.ensures.items
