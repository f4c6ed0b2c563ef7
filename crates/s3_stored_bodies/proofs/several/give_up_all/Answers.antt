use Rattle.std.proofs.Common.{refl, sym, ap, ◌∙◌, ◌∷◌, [], take, get_or}
use Rattle.std.proofs.lemmas.List.{take_more}
use Rattle.s3_stored_bodies.specs.Numbers.{named_less}
use Rattle.s3_stored_bodies.proofs.NumberLemmas.{named_less-none, named_less-append, still_named}
use Rattle.s3_stored_bodies.proofs.several.give_up_all.Goals as goal

pub loop-number-init : goal.loop-number-init
loop-number-init g c = record {
  uses = sym (named_less-none (g.B.StoredBodies.uses c.args.bodies.now));
  contents = λ number named. refl;
  outlives = λ number bytes did. did;
}

pub loop-number-preserved : goal.loop-number-preserved
loop-number-preserved g c =
    let start = g.B.StoredBodies.uses c.args.bodies.now in
    let i = c.loop-number.number-index in
    let xs = c.args.numbers.now in
    let number = get_or xs i 0 in
    record {
      uses = c.give_up.ensures.uses ∙ ap (named_less (number ∷ [])) c.loop-number.invariant.uses
          ∙ named_less-append (take i xs) (number ∷ []) start
          ∙ ap (λ front. named_less front start) (sym (take_more xs i 0 c.loop-number-test.true));
      contents = λ q named. c.give_up.ensures.contents q named
          ∙ c.loop-number.invariant.contents q (still_named (number ∷ []) (g.B.StoredBodies.uses c.give_up.new.self) (g.B.StoredBodies.uses c.loop-number.bodies) c.give_up.ensures.uses q named);
      outlives = λ q bytes did. c.give_up.ensures.outlives q bytes (c.loop-number.invariant.outlives q bytes did);
    }
