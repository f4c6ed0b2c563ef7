use Rattle.std.proofs.Common.{sym, ap, ◌∙◌, ◌∷◌, refl, true}
use Rattle.s3_prefixes.specs.Tellings.{is_last}
use Rattle.s3_listings.specs.Drafts.{drafted}
use Rattle.s3_listings.proofs.DraftLemmas.{full, once_more, overfull}
use Rattle.s3_listings.proofs.draft.Draft.make_way.Goals as goal
use Rattle.s3_listings.proofs.draft.Draft.make_way.Goals.{then-self-via-then-self, then-self-via-else-self+then-ends_with}

-- a page that is truncated, or the last item again
pub returns-then-self : goal.returns-then-self
returns-then-self c = λ item items is.
    let d = drafted c.args.self.now in
    elim c.then-self.branch [
      | then-self-via-then-self w ↦ full d items w.if-self.true ∙ sym (full d (item ∷ items) w.if-self.true)
      | then-self-via-else-self+then-ends_with w ↦ once_more d item items (ap (is_last d.last) is ∙ sym w.if-ends_with.ensures)
    ]

-- there is no room
pub returns-then-self-eq0 : goal.returns-then-self-eq0
returns-then-self-eq0 c = λ item items is.
    let d = drafted c.args.self.now in
    full (record d { is_truncated = true }) items refl
    ∙ sym (overfull d item items c.if-self.false (ap (is_last d.last) is ∙ sym c.if-ends_with.ensures) c.if-self-eq0.true)
