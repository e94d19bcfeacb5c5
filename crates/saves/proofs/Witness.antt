-- The theorems used: saves to a fresh disk and a Read Data, none of them refused. The same bytes are sent in the sessions `example-save-..` of
-- `crates/ports`.
use mathlib.Core.Path.{◌≡◌, refl, sym, ap, ◌∙◌}
use Prim.Native.Nat.{ℕ, zero, suc, ◌+◌, ◌≤◌}
use native.Mathlib.Omega.{arith}
use mathlib.Core.Bool.{true}
use mathlib.Core.List.{List, [], ◌∷◌, ◌++◌}
use mathlib.Core.Option.{some}
use lib.ListN.{length, take, replicate, length-replicate}
use Rattle.fields.specs.Bytes.{with_bit}
use Rattle.fields.specs.Capacities.{most_data, most_transfer}
use Rattle.fields.specs.Model.{size_of, total}
use Rattle.fields.proofs.Sizes.{size-2}
use Rattle.tracks.specs.Rows.{ids_from}
use Rattle.store.specs.Find.{found, find_from}
use Rattle.store.specs.Search.{sector_at, run_from, read_at}
use Rattle.store.specs.Store.{contents}
use Rattle.store.specs.Fresh.{blank, blanks, formatted, fresh_from, fresh}
use Rattle.disk.specs.Change.{change, saved}
use Rattle.registers.specs.Boxes.{Setting}
use Rattle.registers.specs.Boxes.{Holds, World, new_world, named, taken, changed, all_changed, put_in, responded}
use Rattle.codes.specs.Table.{mask_rows, rows, command_by, command_of}
use Rattle.registers.specs.Ports.{after_read, change_disk}
use Rattle.commands.specs.Commands.{seek_if, served_as, read_data, start_at, write_data, write_reply, save_at, written_sector, written_into, obeyed}
use Rattle.sending.specs.Machine.{command_if, command_byte, data_if, data_byte, byte_for, sent, done, write_port, report_of}
use Rattle.saves.specs.Events.{Event, read, send, Answer, run, granted}
use Rattle.saves.specs.Stages.{Stage, acted}
use Rattle.saves.specs.Words.{in_drive, Ready, Address, Save, bytes_of, address_of, IsSave, saved_by, first_of, sent_in, Sends, Only, ReadsBack, read_bytes, reply_to, LosesNone, data_reads, given_in}
use Rattle.saves.proofs.Demand.{save-touches, second-alone, either_order}
use Rattle.saves.proofs.ReadBack.{read_back}
use Rattle.std.specs.Prelude.{Ok}

-- a new controller of either machine with a fresh disk in, and all the room that there can be
abbrev pub start : Setting → Stage
start σ = record { rooms = record { room = most_data; transfer = most_transfer }; world = change_disk (Holds (Ok fresh)) (new_world σ) }

-- a save to cylinder 7: 512 bytes to a sector
abbrev with : ℕ → ℕ → Save
with r b = record {
  seek_c1 = 0;
  cylinder = 7;
  code = 0x45;
  c1 = 0;
  id = record { c = 7; h = 0; r = r; n = 2 };
  eot = r;
  gap = 0x2A;
  dtl = 0xFF;
  content = replicate 512 b;
}

-- AA to sector 3, 55 to the same sector, 55 to the sector behind it
unfoldable pub example : Save
example = with 3 0xAA

unfoldable pub again : Save
again = with 3 0x55

unfoldable pub other : Save
other = with 4 0x55

-- bytes, sent one after another
unfoldable pub send_all : List ℕ → List Event
send_all [] = []
send_all (b ∷ bs) = send b ∷ send_all bs

pub sent-all : (l : List ℕ) → sent_in (send_all l) ≡ some l
unfolding sent_in send_all
sent-all [] = refl
sent-all (b ∷ l) = ap (first_of b) (sent-all l)

-- the bytes of the three saves, of a Read Data of sector 3, and its last byte
abbrev pub E : List Event
E = send_all (bytes_of example)

abbrev pub A : List Event
A = send_all (bytes_of again)

abbrev pub O : List Event
O = send_all (bytes_of other)

abbrev pub B : List Event
B = send_all (read_bytes example 0x46 0 3 0x2A)

abbrev pub L : List Event
L = send 0xFF ∷ []

-- what is granted: the save, another to the same sector behind it and alone, another to the next sector behind it and before it, and the Read Data
pub record Grants (σ : Setting) : Type 0 where
  pub first : granted (run acted E (start σ)).answers ≡ true
  pub second : granted (run acted A (run acted E (start σ)).end).answers ≡ true
  pub alone : granted (run acted A (start σ)).answers ≡ true
  pub behind : granted (run acted O (run acted E (start σ)).end).answers ≡ true
  pub other : granted (run acted O (start σ)).answers ≡ true
  pub before : granted (run acted E (run acted O (start σ)).end).answers ≡ true
  pub begun : granted (run acted B (run acted E (start σ)).end).answers ≡ true
  pub last : granted (run acted L (run acted B (run acted E (start σ)).end).end).answers ≡ true

-- nothing is refused
pub grants : (σ : Setting) → Grants σ
unfolding granted run acted send_all bytes_of example again other change_disk new_world named taken changed all_changed put_in responded mask_rows rows command_by command_of seek_if start_at write_data write_reply save_at written_sector written_into obeyed command_if command_byte data_if data_byte byte_for sent done write_port report_of fresh fresh_from formatted ids_from blanks size_of sector_at find_from change saved total read_bytes read_at run_from contents served_as read_data
grants σ = record { first = refl; second = refl; alone = refl; behind = refl; other = refl; before = refl; begun = refl; last = refl }

-- ---- they are saves, and the Read Data reads the first one back

-- such a save, where its sector is there
with-is : (r b place : ℕ) → sector_at fresh 0 7 (with r b).id ≡ found place (blank 2 0xE5 (with r b).id) → IsSave (with r b) fresh
unfolding command_of command_by rows mask_rows
with-is r b place e = record {
  writes = refl;
  seeks-drive-0 = refl;
  writes-drive-0 = refl;
  as_many = length-replicate {A = ℕ} 512 b ∙ sym size-2;
  place = place;
  sector = blank 2 0xE5 (with r b).id;
  there = e;
}

pub example-is : IsSave example fresh
unfolding example fresh fresh_from formatted ids_from blanks sector_at find_from
example-is = with-is 3 0xAA 2 refl

pub again-is : IsSave again fresh
unfolding again fresh fresh_from formatted ids_from blanks sector_at find_from
again-is = with-is 3 0x55 2 refl

pub other-is : IsSave other fresh
unfolding other fresh fresh_from formatted ids_from blanks sector_at find_from
other-is = with-is 4 0x55 3 refl

pub back_is : ReadsBack example 0x46 0 3
unfolding example command_of command_by rows mask_rows
back_is = record { reads = refl; drive-0 = refl; same_head = refl; alone = omega arith }

-- the addresses of example and again are one, those of example and other two
pub same : address_of example ≡ address_of again
unfolding example again address_of
same = refl

numbers : address_of example ≡ address_of other → ◌≡◌ {A = ℕ} 3 4
unfolding example other address_of
numbers e = ap (λ (a : Address). a.id.r) e

pub differ : address_of example ≡ address_of other → ⊥
differ e = let z : ◌≡◌ {A = ℕ} 3 4 = numbers e in absurd (omega arith)

-- so many data-port reads, and nothing else: they lose no byte
unfoldable pub reads : ℕ → List Event
reads zero = []
reads (suc n) = read ∷ reads n

pub reads-lose-none : (n : ℕ) (w : World) → LosesNone (reads n) w
unfolding LosesNone reads
reads-lose-none zero w = tt
reads-lose-none (suc n) w = reads-lose-none n (after_read w)

reads-count : (n : ℕ) → data_reads (reads n) ≡ n
unfolding data_reads reads
reads-count zero = refl
reads-count (suc n) = ap suc (reads-count n)

-- ---- the machine

pub start-ready : (σ : Setting) → Ready (start σ).world fresh
unfolding change_disk new_world
start-ready σ = record { disk-in = refl; nothing-sent = refl; no_write = refl }

-- bytes sent one after another, if none is refused
pub sending : (l : List ℕ) (answers : List Answer) → granted answers ≡ true → Sends (send_all l) l answers
sending l answers ok = record { sends = sent-all l; grants = ok }

pub ends : (σ : Setting) → Sends L (0xFF ∷ []) (run acted L (run acted B (run acted E (start σ)).end).end).answers
unfolding sent_in
ends σ = record { sends = refl; grants = (grants σ).last }

-- the save changes sector 3 of cylinder 7 and nothing else
pub example-touches : (σ : Setting) → Ready (run acted E (start σ)).end.world (saved_by example fresh)
    × Only (address_of example) example.content (blank 2 0xE5 (record { c = 7; h = 0; r = 3; n = 2 })) fresh (saved_by example fresh)
unfolding example-is with-is
example-touches σ = save-touches example fresh (start σ) E (start-ready σ) example-is (sending (bytes_of example) _ (grants σ).first)

-- of two to sector 3 the second alone counts
pub example-second : (σ : Setting) → in_drive (run acted A (run acted E (start σ)).end).end.world ≡ in_drive (run acted A (start σ)).end.world
example-second σ =
    second-alone example again fresh (start σ) E A A (start-ready σ) example-is again-is same
    (sending (bytes_of example) _ (grants σ).first) (sending (bytes_of again) _ (grants σ).second) (sending (bytes_of again) _ (grants σ).alone)

-- sectors 3 and 4 in either order
pub example-order : (σ : Setting) → in_drive (run acted O (run acted E (start σ)).end).end.world ≡ in_drive (run acted E (run acted O (start σ)).end).end.world
example-order σ =
    either_order example other fresh (start σ) E O O E (start-ready σ) example-is other-is differ
    (sending (bytes_of example) _ (grants σ).first) (sending (bytes_of other) _ (grants σ).behind) (sending (bytes_of other) _ (grants σ).other) (sending (bytes_of example) _ (grants σ).before)

-- 512 bytes AA and the reply 40 80 00 07 00 03 02
abbrev pub Told : List ℕ
Told = replicate 512 0xAA ++ (0x40 ∷ 0x80 ∷ 0x00 ∷ 0x07 ∷ 0x00 ∷ 0x03 ∷ 0x02 ∷ [])

pub few : (n : ℕ) → n ≤ 519 → data_reads (reads n) ≤ length example.content + 7
unfolding example
few n h = omega (arith, reads-count n, length-replicate {A = ℕ} 512 0xAA)

pub told_is : (n : ℕ) (l : List ℕ) → l ≡ take (data_reads (reads n)) (example.content ++ reply_to example 0 3 example-is.sector) → l ≡ take n Told
unfolding example example-is with-is reply_to with_bit
told_is n l e = e ∙ ap (λ (m : ℕ). take m Told) (reads-count n)

-- so many reads give so many of them
pub example-back : (σ : Setting) (n : ℕ) → n ≤ 519 → given_in (run acted (reads n) (run acted L (run acted B (run acted E (start σ)).end).end).end).answers ≡ take n Told
example-back σ n h =
    told_is n _
    (read_back example fresh 0x46 0 3 0x2A 0xFF (start σ) E B (reads n) (start-ready σ) example-is (sending (bytes_of example) _ (grants σ).first) back_is
    (sending (read_bytes example 0x46 0 3 0x2A) _ (grants σ).begun) (ends σ) (reads-lose-none n _) (few n h))
