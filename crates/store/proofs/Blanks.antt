-- What a formatted track stores: each sector as long as the track's n says, whatever the n of its ID is.
use mathlib.Core.Path.{◌≡◌}
use Prim.Native.Nat.{ℕ}
use mathlib.Core.List.{List, [], ◌∷◌}
use lib.ListN.{length, length-replicate}
use Rattle.fields.specs.Model.{size_of, Sector, Each}
use Rattle.fields.specs.declared.id.SectorId.{SectorId}
use Rattle.store.specs.Fresh.{blanks}

pub blanks-long : (n filler : ℕ) (ids : List SectorId) → Each (λ (s : Sector). length s.content ≡ size_of n) (blanks n filler ids)
unfolding blanks Each
blanks-long n filler [] = tt
blanks-long n filler (id ∷ ids) = (length-replicate (size_of n) filler, blanks-long n filler ids)
