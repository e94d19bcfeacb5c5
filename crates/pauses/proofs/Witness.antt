-- That the hypotheses can be met: a sheet with something in every box, and a save that is paused after any of its bytes.
use mathlib.Core.Path.{◌≡◌, refl}
use Prim.Native.Nat.{ℕ, ◌<◌}
use native.Mathlib.Omega.{arith}
use mathlib.Core.List.{List, [], ◌∷◌}
use lib.ListN.{take, drop}
use Rattle.fields.specs.Bytes.{byte_at}
use Rattle.store.specs.Store.{transfer_room}
use Rattle.sheet.specs.Sheets.{boxes_of, boxes_for, paper_of, sheet_of}
use Rattle.sheet.proofs.Examples.{busy, busy-back}
use Rattle.saves.specs.Events.{run}
use Rattle.saves.proofs.Witness.{E}
use Rattle.runs.specs.Hosts.{Host, called, seen, Sound}
use Rattle.runs.specs.Alike.{Alike}
use Rattle.runs.proofs.Any.{calls-sound}
use Rattle.runs.proofs.Witness.{host, host-sound}
use Rattle.lending.proofs.Witness.{small, small_at}
use Rattle.pauses.specs.Resumed.{host_from, disk_back}
use Rattle.pauses.proofs.Paused.{sheet-sound, goes-on-same}

busy-bytes : (k : ℕ) → byte_at (sheet_of busy) k < 256
unfolding small busy paper_of boxes_of boxes_for
busy-bytes = small_at (sheet_of busy) refl

-- what is read from it over a transfer buffer of three bytes is a controller that is one
pub busy-sound : (t b : List ℕ) → Sound (host_from busy t b (0 ∷ 0 ∷ 0 ∷ []))
unfolding busy transfer_room
busy-sound t b = sheet-sound (sheet_of busy) busy t b (0 ∷ 0 ∷ 0 ∷ []) busy-bytes busy-back (omega arith)

-- The example's save on a fresh disk, on either machine, paused after any number of its bytes and taken up, with anything lent beside it: the rest
-- answers the same, and the same store is left.
pub save-paused : (setting n : ℕ) (t b : List ℕ)
    → let k : Host = (run called (take n E) (host setting)).end in let j : Host = disk_back k (host_from (seen k) t b k.transfer) in
    ((run called (drop n E) k).answers ≡ (run called (drop n E) j).answers) × Alike (run called (drop n E) k).end (run called (drop n E) j).end
save-paused setting n t b =
    let k : Host = (run called (take n E) (host setting)).end in
    goes-on-same k t b k.transfer (calls-sound (take n E) (host setting) (host-sound setting)) refl (drop n E)
