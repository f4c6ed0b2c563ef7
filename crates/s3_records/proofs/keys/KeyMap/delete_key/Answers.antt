use Rattle.std.proofs.Common.{sym, ap, ◌∙◌, None}
use Rattle.s3_deletions.specs.Deletions.{acts}
use Rattle.s3_records.specs.Catalogue.{versions_at}
use Rattle.s3_records.proofs.DeletionLemmas.{new_unless_made}
use Rattle.s3_records.proofs.keys.KeyMap.delete_key.Goals as goal

-- the entry has made nothing under the key
pub delete-requires : goal.delete-requires
delete-requires c =
    let n = c.args.number in
    let key = c.args.key.now in
    let acting = sym (c.acts.ensures ∙ ap (λ version. acts n version c.under-versions.result.now) c.in-None.is ∙ ap (acts n None) c.under-versions.ensures)
    ∙ c.if-not-acts.false in
    new_unless_made n (versions_at c.args.self.now key) (c.requires key) acting
