use Rattle.std.proofs.Common.{ℕ, List, ◌∙◌, subst}
use Rattle.s3_framed_bodies.specs.Data.{DataTold}
use Rattle.s3_framed_bodies.proofs.coded.CodedReader.judged.Goals as goal

pub returns-clause-told : goal.returns-clause-told
returns-clause-told c place =
    let old = c.args.self.now in
    subst (λ (held : List ℕ). DataTold old.form old.verified old.decoded place held c.judge_data.result) (c.in_ok-held.ensures.value ∙ c.replace.ensures.value) (c.judge_data.ensures place)
