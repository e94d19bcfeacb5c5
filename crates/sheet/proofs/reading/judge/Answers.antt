use Rattle.std.proofs.Common.{rules}
use Rattle.sheet.proofs.Judges.{judge-form, judge-range, judge-boxes, judge-room, judge-good}
use Rattle.sheet.proofs.reading.judge.Goals as goal
use Rattle.sheet.proofs.reading.judge.Goals.{then-not-is_framed-via-then-not-is_framed, then-not-is_framed-via-else-not-is_framed+then-not-in_range, then-not-is_framed-via-else-not-is_framed+else-not-in_range+then-wrong_boxes}

pub returns-then-not-is_framed : goal.returns-then-not-is_framed
returns-then-not-is_framed c = elim c.then-not-is_framed.branch [
  | then-not-is_framed-via-then-not-is_framed w ↦ search (rules, judge-form)
  | then-not-is_framed-via-else-not-is_framed+then-not-in_range w ↦ search (rules, judge-range)
  | then-not-is_framed-via-else-not-is_framed+else-not-in_range+then-wrong_boxes w ↦ search (rules, judge-boxes)
]

pub returns-then-transfer_room-box_at : goal.returns-then-transfer_room-box_at
returns-then-transfer_room-box_at c = search (rules, judge-room)

pub returns : goal.returns
returns c = search (rules, judge-good)
