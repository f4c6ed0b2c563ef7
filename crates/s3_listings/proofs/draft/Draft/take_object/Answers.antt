use Rattle.std.proofs.Common.{sym}
use Rattle.s3_prefixes.specs.Items.{Object}
use Rattle.s3_listings.specs.Drafts.{drafted}
use Rattle.s3_listings.proofs.DraftLemmas.{item_taken}
use Rattle.s3_listings.proofs.draft.Draft.take_object.Goals as goal

pub returns-then-make_way : goal.returns-then-make_way
returns-then-make_way c =
    item_taken c.push_object.result (drafted c.args.self.now) (drafted c.make_way.new.self) (drafted c.push_object.new.self) (Object c.args.key c.args.facts) (rw (sym c.as_bytes.ensures.value) c.if-make_way.ensures) c.push_object.ensures
