use Rattle.std.proofs.Common.{◌⊎◌, inl, inr, subst, ⊎_elim}
use mathlib.Core.List.{IsPrefix}
use Rattle.s3_journal.specs.Noted.{Known, entries_in}
use Rattle.s3_journal.proofs.NoteLemmas.{entries_begin}
use Rattle.s3_journal.proofs.prefix.Prefix.meet.Goals as goal

pub returns : goal.returns
returns c =
    let mine = c.self.inside.notes.entries in
    let theirs = c.other.inside.notes.entries in
    subst (λ (k : Known). IsPrefix k.entries c.args.other.now.entries ⊎ IsPrefix c.args.other.now.entries k.entries) c.self.view_is
    (subst (λ (k : Known). IsPrefix (entries_in mine) k.entries ⊎ IsPrefix k.entries (entries_in mine)) c.other.view_is
    (⊎_elim (λ begins. inl (entries_begin mine theirs begins)) (λ begins. inr (entries_begin theirs mine begins)) c.meet.ensures))
