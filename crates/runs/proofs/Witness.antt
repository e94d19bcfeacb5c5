-- The same saves and the same Read Data by calls, from a new controller of either machine, into which a fresh disk is put; none of them is refused.
use mathlib.Core.Path.{◌≡◌, sym, ap, subst, ◌∙◌}
use Prim.Native.Nat.{ℕ, ◌≤◌, min}
use native.Mathlib.Omega.{arith}
use mathlib.Core.Bool.{true}
use mathlib.Core.List.{List, [], ◌∷◌}
use lib.ListN.{length, take, replicate, length-replicate}
use Rattle.fields.specs.Capacities.{most_tracks, most_sectors, most_data, most_transfer}
use Rattle.fields.specs.Model.{Disk, Each, sector_count, byte_count}
use Rattle.buffer.specs.Over.{over}
use Rattle.store.specs.Store.{table_length, room_of, transfer_room, table_of, data_of, disk_of}
use Rattle.store.proofs.Rounds.{laid-back}
use Rattle.store.specs.Fresh.{fresh}
use Rattle.loading.proofs.Lays.{fresh-tracks, fresh-sectors, fresh-bytes}
use Rattle.registers.specs.Boxes.{setting_of, Holds, new_world}
use Rattle.registers.specs.Ports.{change_disk}
use Rattle.saves.specs.Events.{swap, Answer, Run, run}
use Rattle.saves.specs.Stages.{Stage, acted, Unbroken, PutsUnbroken}
use Rattle.runs.specs.Hosts.{Host, called, seen, stage_of, new_host, store_of, Sound}
use Rattle.runs.proofs.Any.{calls-sound, new-sound, new-run}
use Rattle.runs.proofs.Effects.{laid_kept}
use Rattle.saves.specs.Words.{Ready, bytes_of, saved_by, Sends, read_bytes, given_in}
use Rattle.runs.proofs.Gets.{end_is, made-back, save-calls, second-calls, order-calls, back-calls}
use Rattle.saves.proofs.Witness.{start, example, again, other, E, A, O, B, L, grants, sending, ends, example-is, again-is, other-is, back_is, same, differ, reads, reads-lose-none, start-ready, Told, few, told_is}
use Rattle.std.specs.Prelude.{Result, Ok}
use Rattle.fields.specs.declared.refusal.Refusal.{Refusal}

-- a fresh disk is what a store holds in which it is laid
fresh-long : (length fresh ≤ most_tracks) × ((sector_count fresh ≤ most_sectors) × (byte_count fresh ≤ most_data))
unfolding fresh
fresh-long = (omega (arith, fresh-tracks 0 40), (omega (arith, fresh-sectors 0 40), omega (arith, fresh-bytes 0 40)))

unfoldable pub fresh_table : List ℕ
fresh_table = over (replicate table_length 0) 0 (table_of fresh)

unfoldable pub fresh_bytes : List ℕ
fresh_bytes = over (replicate most_data 0) 0 (data_of fresh)

room-is : room_of (replicate most_data 0) ≡ most_data
unfolding room_of
room-is = ap (λ (n : ℕ). min n most_data) (length-replicate {A = ℕ} most_data 0)

fresh-laid : disk_of fresh_table fresh_bytes ≡ Ok fresh
unfolding fresh_table fresh_bytes
fresh-laid =
    laid-back (replicate table_length 0) (replicate most_data 0) fresh (length-replicate {A = ℕ} table_length 0) fresh-long.0 fresh-long.1.0
    (subst (λ (n : ℕ). byte_count fresh ≤ n) (sym room-is) fresh-long.1.1)

fresh-room : room_of fresh_bytes ≡ most_data
unfolding fresh_bytes
fresh-room = laid_kept (replicate most_data 0) fresh (subst (λ (n : ℕ). byte_count fresh ≤ n) (sym room-is) fresh-long.1.1) ∙ room-is

transfer-is : transfer_room (replicate most_transfer 0) ≡ most_transfer
unfolding transfer_room
transfer-is = ap (λ (n : ℕ). min n most_transfer) (length-replicate {A = ℕ} most_transfer 0)

-- a new controller of either machine, into which a fresh disk was put
unfoldable pub host : ℕ → Host
host n = (run called (swap true fresh_table fresh_bytes ∷ []) (new_host n [] [] (replicate most_transfer 0))).end

pub host-sound : (n : ℕ) → Sound (host n)
unfolding host
host-sound n = calls-sound (swap true fresh_table fresh_bytes ∷ []) (new_host n [] [] (replicate most_transfer 0)) (new-sound n [] [] (replicate most_transfer 0))

pub host-stage : (n : ℕ) → start (setting_of n) ≡ stage_of (host n)
unfolding host run acted
host-stage n =
    (λ i. record { rooms = record { room = sym fresh-room i; transfer = sym transfer-is i }; world = change_disk (Holds (sym fresh-laid i)) (new_world (setting_of n)) })
    ∙ ap (λ (r : Run Answer Stage). r.end) (new-run n [] [] (replicate most_transfer 0) (swap true fresh_table fresh_bytes ∷ []))

pub host-ready : (n : ℕ) → Ready (seen (host n)) fresh
host-ready n = subst (λ (g : Stage). Ready g.world fresh) (host-stage n) (start-ready (setting_of n))

-- the disk that is put in is one that its store holds: refusal 2 never comes
pub host-unbroken : Each PutsUnbroken (swap true fresh_table fresh_bytes ∷ [])
unfolding Each PutsUnbroken
host-unbroken = (subst (λ (y : Result Disk Refusal). Unbroken (Holds y)) (sym fresh-laid) tt, tt)

-- where the calls stand
abbrev E' : ℕ → Host
E' n = (run called E (host n)).end

abbrev O' : ℕ → Host
O' n = (run called O (host n)).end

abbrev B' : ℕ → Host
B' n = (run called B (E' n)).end

e-sound : (n : ℕ) → Sound (E' n)
e-sound n = calls-sound E (host n) (host-sound n)

e-stage : (n : ℕ) → (run acted E (start (setting_of n))).end ≡ stage_of (E' n)
e-stage n = end_is E (host n) (host-sound n) (start (setting_of n)) (host-stage n)

o-stage : (n : ℕ) → (run acted O (start (setting_of n))).end ≡ stage_of (O' n)
o-stage n = end_is O (host n) (host-sound n) (start (setting_of n)) (host-stage n)

b-stage : (n : ℕ) → (run acted B (run acted E (start (setting_of n))).end).end ≡ stage_of (B' n)
b-stage n = end_is B (E' n) (e-sound n) (run acted E (start (setting_of n))).end (e-stage n)

made-first : (n : ℕ) → Sends E (bytes_of example) (run called E (host n)).answers
made-first n = made-back E (host n) (host-sound n) (start (setting_of n)) (host-stage n) (bytes_of example) (sending (bytes_of example) _ (grants (setting_of n)).first)

-- the store then holds the disk on which sector 3 of cylinder 7 has the bytes
pub host-saves : (n : ℕ) → store_of (run called E (host n)).end ≡ Ok (saved_by example fresh)
host-saves n = (save-calls example fresh (host n) E (host-sound n) (host-ready n) example-is (made-first n)).0

-- the second to sector 3 alone counts
pub host-second : (n : ℕ) → store_of (run called A (run called E (host n)).end).end ≡ store_of (run called A (host n)).end
host-second n =
    second-calls example again fresh (host n) E A A (host-sound n) (host-ready n) example-is again-is same (made-first n)
    (made-back A (E' n) (e-sound n) (run acted E (start (setting_of n))).end (e-stage n) (bytes_of again) (sending (bytes_of again) _ (grants (setting_of n)).second))
    (made-back A (host n) (host-sound n) (start (setting_of n)) (host-stage n) (bytes_of again) (sending (bytes_of again) _ (grants (setting_of n)).alone))

-- sectors 3 and 4 come in either order
pub host-order : (n : ℕ) → store_of (run called O (run called E (host n)).end).end ≡ store_of (run called E (run called O (host n)).end).end
host-order n =
    order-calls example other fresh (host n) E O O E (host-sound n) (host-ready n) example-is other-is differ (made-first n)
    (made-back O (E' n) (e-sound n) (run acted E (start (setting_of n))).end (e-stage n) (bytes_of other) (sending (bytes_of other) _ (grants (setting_of n)).behind))
    (made-back O (host n) (host-sound n) (start (setting_of n)) (host-stage n) (bytes_of other) (sending (bytes_of other) _ (grants (setting_of n)).other))
    (made-back E (O' n) (calls-sound O (host n) (host-sound n)) (run acted O (start (setting_of n))).end (o-stage n) (bytes_of example) (sending (bytes_of example) _ (grants (setting_of n)).before))

-- and so many data-port reads give so many of the bytes and the reply
pub host-reads : (n m : ℕ) → m ≤ 519 → given_in (run called (reads m) (run called L (run called B (run called E (host n)).end).end).end).answers ≡ take m Told
host-reads n m h =
    told_is m _
    (back-calls example fresh 0x46 0 3 0x2A 0xFF (host n) E B (reads m) (host-sound n) (host-ready n) example-is (made-first n) back_is
    (made-back B (E' n) (e-sound n) (run acted E (start (setting_of n))).end (e-stage n) (read_bytes example 0x46 0 3 0x2A) (sending (read_bytes example 0x46 0 3 0x2A) _ (grants (setting_of n)).begun))
    (made-back L (B' n) (calls-sound B (E' n) (e-sound n)) (run acted B (run acted E (start (setting_of n))).end).end (b-stage n) (0xFF ∷ []) (ends (setting_of n)))
    (reads-lose-none m _) (few m h))
