use Rattle.std.proofs.Common.{◌≡◌, ◌<◌, ◌^◌}
use Rattle.sheet.specs.Sheets.{high_at}
use Rattle.sheet.proofs.reading.high_at.Given as goal

abbrev pub invariant-loop-k : goal.invariant-loop-k
invariant-loop-k l = (l.n ≡ high_at l.k l.s l.at) × (l.n < 256 ^ l.k)
