use Rattle.std.proofs.Common.{rules}
use Rattle.registers.specs.Calls.{current_track}
use Rattle.host.specs.Calls.{track_on}
use Rattle.host.proofs.floppy_current_track.Goals as goal

pub returns : goal.returns
unfolding track_on
returns c = c.ask.ensures current_track (λ r a p. search rules)
