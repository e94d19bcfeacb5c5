use Rattle.tracks.specs.Block.{row_at}
use Rattle.tracks.proofs.track.row_at.Goals as goal

pub returns : goal.returns
unfolding row_at
returns c =
    λ i. record {
      id = c.id_at.ensures i;
      st1 = record { bits = c.byte.ensures.0 i };
      st2 = record { bits = c.byte-2.ensures.0 i };
      stored = c.word.ensures.0 i;
    }
