use Rattle.std.proofs.Common.{refl}
use Rattle.s3_http_heads.specs.Find.{skip_pairs}
use Rattle.s3_http_heads.proofs.SearchLemmas.{searched_from}
use Rattle.s3_http_heads.proofs.search.HeadSearch.feed.Goals as goal

pub returns-clause-fed : goal.returns-clause-fed
returns-clause-fed c = λ bytes st.
    let step = c.advance-step in
    searched_from bytes c.args.piece.now step.result c.found_at.result c.args.self.now _ st
    step.ensures.within (λ o. step.ensures.steps (skip_pairs bytes) o) c.found_at.ensures refl
    (c.hold-self.ensures.text (skip_pairs bytes) st.held.text)
