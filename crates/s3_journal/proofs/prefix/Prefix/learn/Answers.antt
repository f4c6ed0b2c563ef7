use Rattle.std.proofs.Common.{subst}
use mathlib.Core.List.{IsPrefix}
use Rattle.s3_journal.specs.Noted.{Known, committed_in, entries_in, front_of}
use Rattle.s3_journal.proofs.NoteLemmas.{entries_begin, front_begins}
use Rattle.s3_journal.proofs.prefix.Prefix.learn.Goals as goal

pub returns-clause-kept : goal.returns-clause-kept
returns-clause-kept c =
    let new = c.learn.new.self.entries in
    subst (λ (k : Known). IsPrefix k.entries (entries_in new)) c.self.view_is (entries_begin c.self.inside.notes.entries new c.learn.ensures.kept)

pub returns-clause-learned : goal.returns-clause-learned
returns-clause-learned c =
    let new = c.learn.new.self.entries in
    subst (λ (k : Known). IsPrefix k.entries (entries_in new)) c.other.view_is (entries_begin c.other.inside.notes.entries new c.learn.ensures.learned)

pub returns-clause-committed : goal.returns-clause-committed
returns-clause-committed c =
    let new = c.learn.new.self.entries in
    subst (λ (k : Known). IsPrefix k.committed (front_of (committed_in new))) c.self.view_is (front_begins c.self.inside.notes.entries new c.learn.ensures.kept)

pub returns-clause-more_committed : goal.returns-clause-more_committed
returns-clause-more_committed c =
    let new = c.learn.new.self.entries in
    subst (λ (k : Known). IsPrefix k.committed (front_of (committed_in new))) c.other.view_is (front_begins c.other.inside.notes.entries new c.learn.ensures.learned)
