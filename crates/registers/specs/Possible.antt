-- Numbers that a controller can have, box by box, and what keeps them so.
use Rattle.std.specs.Prelude.{◌≡◌, ℕ, ◌<◌, ◌≤◌, false, List, [], ◌∷◌, length, slice_index}
use Rattle.codes.specs.Table.{command_of, bytes_for}
use Rattle.registers.specs.declared.regs.Regs.{Regs}
use Rattle.registers.specs.Boxes.{Setting, setting_of, Change, Clear, MoveTo, Turn, Start, Finish, Response, Stay, Reply, ReplyIfNone, Seeking, Interrupt, Serve}
use Rattle.registers.specs.View.{wrong_work, wrong_write}

-- numbers that refusal 1 does not name
pub record Possible (r : Regs) : Type 0 where
  pub place_in : r.place ≤ r.fill
  pub from_in : r.from ≤ r.until
  pub fill-in : r.fill ≤ 7
  pub count-in : r.count < bytes_for (command_of (slice_index r.command 0))
  pub lost-in : r.lost ≤ 2
  pub write-in : wrong_write (setting_of r.setting) r.write ≡ false

-- ---- The same box by box, with the lengths and the rooms

-- a command that is partly sent, an unread reply, unread data with the lost count
pub record Partly (command : List ℕ) (count : ℕ) : Type 0 where
  pub nine : length command ≡ 9
  pub below : count < bytes_for (command_of (slice_index command 0))

pub record Replying (reply : List ℕ) (place fill : ℕ) : Type 0 where
  pub seven : length reply ≡ 7
  pub read : place ≤ fill
  pub few : fill ≤ 7

pub record Unread (from until lost room : ℕ) : Type 0 where
  pub read : from ≤ until
  pub inside : until ≤ room
  pub few : lost ≤ 2

-- the index and the fill of a write, as small as their types say, and a setting that has a meaning
pub record Small (index taken setting : ℕ) : Type 0 where
  pub index-fits : index < 65536
  pub taken-fits : taken < 65536
  pub setting-fits : setting ≤ 1

-- arrays and numbers as their types say, numbers that are possible, and unread data inside the transfer room
pub record Lawful (r : Regs) (room : ℕ) : Type 0 where
  pub command : Partly r.command r.count
  pub reply : Replying r.reply r.place r.fill
  pub unread : Unread r.from r.until r.lost room
  pub write : wrong_write (setting_of r.setting) r.write ≡ false
  pub small : Small r.index r.write.taken r.setting

-- ---- What changes and responses must be

-- a write starts that refusal 1 does not name
abbrev pub Fair : Setting → Change → Type 0
Fair s Clear = Unit {0}
Fair s (MoveTo c) = Unit {0}
Fair s Turn = Unit {0}
Fair s (Start c1 goal) = wrong_work s c1 goal 0 ≡ false
Fair s Finish = Unit {0}

abbrev pub AllFair : Setting → List Change → Type 0
AllFair s [] = Unit {0}
AllFair s (x ∷ xs) = Fair s x × AllFair s xs

-- a reply is of seven bytes at most, and data fit the transfer room
abbrev pub Short : ℕ → Response → Type 0
Short room Stay = Unit {0}
Short room (Reply y) = length y ≤ 7
Short room (ReplyIfNone y) = length y ≤ 7
Short room Seeking = Unit {0}
Short room (Interrupt c y) = length y ≤ 7
Short room (Serve bytes y) = (length bytes ≤ room) × (length y ≤ 7)
