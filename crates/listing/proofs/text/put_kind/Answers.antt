use Rattle.tracks.specs.declared.track.Kind.TheVariants.{Normal, Extended}
use Rattle.listing.proofs.Lines.{kind-room, kind-laid}
use Rattle.listing.proofs.text.put_kind.Goals as goal

pub put_word-requires : goal.put_word-requires
put_word-requires c = kind-room _ Normal c.in-Normal.is _ _ c.requires

pub put_word-requires-in-Extended : goal.put_word-requires-in-Extended
put_word-requires-in-Extended c = kind-room _ Extended c.in-Extended.is _ _ c.requires

pub returns-in-Normal : goal.returns-in-Normal
returns-in-Normal c = kind-laid _ Normal c.in-Normal.is _ c.put_word.ensures

pub returns-in-Extended : goal.returns-in-Extended
returns-in-Extended c = kind-laid _ Extended c.in-Extended.is _ c.put_word-in-Extended.ensures
