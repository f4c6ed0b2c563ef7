use Rattle.std.proofs.Common.{sym, subst}
use Rattle.s3_stored_bodies.specs.Held.{contents_of, uses_of}
use Rattle.s3_block_bodies.specs.Stored.{AreStored}
use Rattle.s3_block_bodies.specs.Loading.{AreListed}
use Rattle.s3_block_bodies.proofs.MapLemmas.{unnamed_if}
use Rattle.s3_block_bodies.proofs.SoundLemmas.{listed_more, stored_more}
use Rattle.s3_block_bodies.proofs.loading.load.Goals as goal

-- it was read already
pub returns-then-is_named-clause-listed : goal.returns-then-is_named-clause-listed
returns-then-is_named-clause-listed g c = λ listed. subst (λ contents. AreListed contents c.args.loaded.now.extents.items) (sym c.share.ensures.contents) listed

pub returns-then-is_named-clause-stored : goal.returns-then-is_named-clause-stored
returns-then-is_named-clause-stored g c = λ clean stored. subst (λ contents. AreStored contents (g.D.Disk.seen c.args.disk.now)) (sym c.share.ensures.contents) stored

pub keep_under-requires-clause-unnamed : goal.keep_under-requires-clause-unnamed
keep_under-requires-clause-unnamed g c = unnamed_if c.is_named.result (uses_of c.args.loaded.now.memory c.args.number) c.is_named.ensures c.if-is_named.false

pub returns-clause-listed : goal.returns-clause-listed
returns-clause-listed g c = λ listed.
    subst (λ contents. AreListed contents c.push.new.self.items) (sym c.in_ok-keep_under.ensures.contents)
    (listed_more (contents_of c.args.loaded.now.memory) c.args.loaded.now.extents.items c.push.new.self.items c.args.number c.size.result c.in_ok-body.body c.size.ensures c.in_ok-push.ensures.items listed)

pub returns-clause-stored : goal.returns-clause-stored
returns-clause-stored g c = λ clean stored.
    subst (λ contents. AreStored contents (g.D.Disk.seen c.args.disk.now)) (sym c.in_ok-keep_under.ensures.contents)
    (stored_more (contents_of c.args.loaded.now.memory) (g.D.Disk.seen c.args.disk.now) c.args.number c.in_ok-body.body (c.in_ok-body.ensures.stored clean) stored)
