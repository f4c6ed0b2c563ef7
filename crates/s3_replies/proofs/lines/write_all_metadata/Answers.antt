use Rattle.std.proofs.Common.{◌++◌, ap, ◌∙◌, arith}
use Rattle.s3_replies.specs.Lines.{print_lines}
use Rattle.s3_replies.proofs.LineLemmas.{more_lines, shown_lines, shown_room}
use Rattle.s3_replies.proofs.lines.write_all_metadata.Goals as goal

pub write_metadata-requires : goal.write_metadata-requires
write_metadata-requires g c =
    omega (arith, c.requires, shown_room c.args.tells c.args.overrides.now c.args.metadata.now)

pub write_metadata-requires-2 : goal.write_metadata-requires-2
write_metadata-requires-2 g c =
    omega (
      arith,
      c.requires,
      c.write_metadata.ensures.bound,
      c.write_metadata.ensures.capacity,
      shown_room c.args.tells c.args.overrides.now c.args.metadata.now,
    )

pub returns-clause-items : goal.returns-clause-items
returns-clause-items g c =
    rw (c.write_metadata-2.ensures.items, c.write_metadata.ensures.items)
    (more_lines (g.R.Room.written c.args.out.now) _ _
    ∙ ap (λ lines. g.R.Room.written c.args.out.now ++ print_lines lines) (shown_lines c.args.tells c.args.overrides.now c.args.metadata.now))

pub returns-clause-bound : goal.returns-clause-bound
returns-clause-bound g c =
    omega (
      arith,
      c.write_metadata.ensures.bound,
      c.write_metadata-2.ensures.bound,
      shown_room c.args.tells c.args.overrides.now c.args.metadata.now,
    )
