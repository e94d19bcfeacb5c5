use mathlib.Core.Path.{◌≡◌}
use native.Mathlib.Omega.{arith}
use lib.ListN.{length, set, length-set}
use Rattle.loading.proofs.Loads.{fresh-length, fresh-refused, fresh-room, fresh-good}
use Rattle.loading.proofs.lay.new_formatted.Goals as goal

pub returns-then-table-ne-TABLE : goal.returns-then-table-ne-TABLE
returns-then-table-ne-TABLE c = fresh-length _ _ c.if-table-ne-TABLE.true

pub returns-then-room_of-lt184320 : goal.returns-then-room_of-lt184320
returns-then-room_of-lt184320 c = fresh-refused c.args.table.now _ c.if-table-ne-TABLE.false _ c.room_of.ensures.0 c.if-room_of-lt184320.true

pub lay_fresh-requires : goal.lay_fresh-requires
lay_fresh-requires c =
    let l : length (set c.args.table.now 0 40) ≡ length c.args.table.now = length-set c.args.table.now 0 40 in
    (omega (arith, c.if-table-ne-TABLE.false), fresh-room c.args.table.now _ c.if-table-ne-TABLE.false _ c.room_of.ensures.0 c.if-room_of-lt184320.false)

pub returns : goal.returns
returns c = fresh-good c.args.table.now _ c.if-table-ne-TABLE.false _ c.room_of.ensures.0 c.if-room_of-lt184320.false _ _ c.lay_fresh.ensures.0 c.lay_fresh.ensures.1
