use Rattle.loading.proofs.Lays.{fresh-again, fresh-done}
use Rattle.loading.proofs.lay.lay_fresh.Goals as goal

pub loop-cylinder-preserved : goal.loop-cylinder-preserved
loop-cylinder-preserved c = fresh-again _ _ c.requires.0 c.requires.1 _ _ _ c.loop-cylinder.invariant c.loop-cylinder-test.true _ _ c.lay_fresh_track.ensures.0 c.lay_fresh_track.ensures.1

pub returns : goal.returns
returns c = fresh-done _ _ c.requires.0 c.requires.1 _ _ _ c.loop-cylinder.invariant c.loop-cylinder-test.false
