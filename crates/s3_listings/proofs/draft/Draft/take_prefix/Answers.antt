use Rattle.s3_prefixes.specs.Items.{CommonPrefix}
use Rattle.s3_listings.specs.Drafts.{drafted}
use Rattle.s3_listings.proofs.DraftLemmas.{item_taken}
use Rattle.s3_listings.proofs.draft.Draft.take_prefix.Goals as goal

pub returns-then-make_way : goal.returns-then-make_way
returns-then-make_way c =
    item_taken c.push_prefix.result (drafted c.args.self.now) (drafted c.make_way.new.self) (drafted c.push_prefix.new.self) (CommonPrefix c.args.prefix.now) c.if-make_way.ensures c.push_prefix.ensures
