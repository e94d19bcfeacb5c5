use Rattle.std.proofs.Common.{rules}
use Rattle.sheet.proofs.Judges.{box-part}
use Rattle.sheet.proofs.reading.box_at.Goals as goal

pub returns : goal.returns
returns c = search (rules, box-part)
