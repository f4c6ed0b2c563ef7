use Rattle.std.proofs.Common.{ap, ◌∙◌, cond}
use Rattle.std.specs.FinMap as map
use Rattle.s3_records.specs.Deletions.{is_key_of_any}
use Rattle.s3_records.proofs.DeletionLemmas.{copies_new, taken_over, same_told}
use Rattle.s3_records.proofs.keys.KeyMap.delete_apart.Goals as goal

pub delete_each-requires : goal.delete_each-requires
delete_each-requires c = copies_new c.args.number c.args.self.now c.in_ok-apart.apart c.args.objects.now c.requires c.in_ok-apart.ensures

pub returns-in-Ok-take_over-clause-ok : goal.returns-in-Ok-take_over-clause-ok
returns-in-Ok-take_over-clause-ok c =
    let keys = c.args.self.now in
    let objects = c.args.objects.now in
    taken_over c.args.versioning c.args.number c.args.moment keys c.in_ok-apart.apart c.take_over.new.self objects c.in_ok-apart.ensures (λ q.
    c.in-Ok-take_over.ensures.ok q ∙ ap (λ changed. cond (is_key_of_any q objects) (map.get changed q) (map.get keys q)) c.in-Ok.ensures.ok)

pub returns-in-Ok-take_over-clause-markers : goal.returns-in-Ok-take_over-clause-markers
returns-in-Ok-take_over-clause-markers c =
    c.in-Ok.ensures.markers ∙ same_told c.args.versioning c.args.number c.args.moment c.args.self.now c.in_ok-apart.apart c.args.objects.now c.in_ok-apart.ensures
