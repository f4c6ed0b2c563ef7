use Rattle.std.proofs.Common.{sym, ◌∙◌}
use Rattle.s3_file_records.proofs.opening.read_folder.Goals as goal

pub returns-in-Ok-clause-held : goal.returns-in-Ok-clause-held
returns-in-Ok-clause-held g c =
    let stays = c.in-Ok.ensures.stays in
    (λ clean up db there held stores. let was = stays clean up in sym (c.in-Ok.ensures.same clean up) ∙ was.2 ∙ c.in_ok-file.ensures.found was.0 db there held stores)
