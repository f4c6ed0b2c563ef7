use Rattle.std.proofs.Common.{append_assoc, ◌∙◌}
use Rattle.s3_canonical.specs.Request.{canonical_request}
use Rattle.s3_canonical.proofs.request.request_hash.Goals as goal

pub returns-clause-value : goal.returns-clause-value
unfolding canonical_request
returns-clause-value c =
    let fed = c.update.ensures _ (c.add_part-5.ensures _ (c.add_part-4.ensures _ (c.add_part-3.ensures _ (c.add_part-2.ensures _ (c.add_part.ensures _ c.new-hasher.ensures))))) in
    c.finalize.ensures _ fed
    ∙ rw (
      c.method_name.ensures,
      c.deref.ensures.value,
      c.deref-2.ensures.value,
      c.deref-3.ensures.value,
      c.in_ok-path.ensures.value,
      c.in_ok-parameters.ensures.value,
      c.in_ok-fields.ensures.value,
      ← c.in_ok-target.ensures.parts,
    )
    (simp append_assoc)
