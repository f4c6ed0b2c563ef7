use Rattle.std.proofs.Common.{ap, length, arith}
use Rattle.s3_replies.proofs.LineLemmas.{no_entries, first_entry, told_lines, told_room}
use Rattle.s3_replies.proofs.lines.+write_metadata.Goals as goal

pub returns-in_default-clause-items : goal.returns-in_default-clause-items
returns-in_default-clause-items g n c = no_entries (g.R.Room.written c.args.out.now) c.args.tells c.args.overrides.now c.args.metadata.now c.in_default.len_below

pub write_told-requires : goal.write_told-requires
write_told-requires g n c =
    let split = first_entry c.args.metadata.now c.entry-item.result c.in-len1-up.len_at_least c.entry-item.is in
    omega (arith, c.requires, told_room c.args.tells c.args.overrides.now _ _ _ split)

pub write_metadata-requires : goal.write_metadata-requires
write_metadata-requires g n c =
    let split = first_entry c.args.metadata.now c.entry-item.result c.in-len1-up.len_at_least c.entry-item.is in
    let room = told_room c.args.tells c.args.overrides.now _ _ _ split in
    λ κs lives. (omega (arith, c.decreases, ap length split), (lives, omega (arith, c.requires, c.write_told.ensures.bound, c.write_told.ensures.capacity, room)))

pub returns-in-len1-up-clause-items : goal.returns-in-len1-up-clause-items
returns-in-len1-up-clause-items g n c =
    let split = first_entry c.args.metadata.now c.entry-item.result c.in-len1-up.len_at_least c.entry-item.is in
    rw (c.write_metadata.ensures.items, c.write_told.ensures.items) (told_lines (g.R.Room.written c.args.out.now) c.args.tells c.args.overrides.now _ _ _ split)

pub returns-in-len1-up-clause-bound : goal.returns-in-len1-up-clause-bound
returns-in-len1-up-clause-bound g n c =
    let split = first_entry c.args.metadata.now c.entry-item.result c.in-len1-up.len_at_least c.entry-item.is in
    omega (arith, c.write_metadata.ensures.bound, c.write_told.ensures.bound, told_room c.args.tells c.args.overrides.now _ _ _ split)
