use Rattle.std.proofs.Common.{◌∙◌, ap, List, ℕ, ◌++◌, ◌∷◌, []}
use Rattle.s3_listings.specs.Drafts.{last_text}
use Rattle.s3_listings.proofs.DraftLemmas.{prefix_added}
use Rattle.s3_listings.proofs.draft.Draft.push_prefix.Goals as goal

pub returns : goal.returns
returns c =
    let draft = c.args.self.now in
    prefix_added draft.contents.items draft.prefixes.items c.push.new.self.items (last_text draft.ends_in_prefix draft.contents.items draft.prefixes.items) draft.room draft.is_truncated c.args.prefix.now
    (◌∙◌ {A = List (List ℕ)} c.in_ok-push.ensures.items (ap (λ x. draft.prefixes.items ++ x ∷ []) c.in_ok-of.ensures.value))
