-- Sheets, byte by byte.
use mathlib.Core.Path.{◌≡◌, refl}
use mathlib.Core.Bool.{true}
use mathlib.Core.List.{[], ◌∷◌}
use mathlib.Core.Option.{some}
use Rattle.codes.specs.Table.{command_of, command_by, rows, mask_rows}
use Rattle.registers.specs.declared.regs.Goal.TheVariants.{IntoTrack}
use Rattle.registers.specs.Boxes.{rust_machine, sheet_machine, Empty, World, new_world}
use Rattle.registers.specs.View.{wrong_work}
use Rattle.registers.specs.declared.regs.Seek.TheVariants.{Done}
use Rattle.sheet.specs.Sheets.{high_at, boxes_of, boxes_for, paper_of, sheet_of, behind, box_at, places_of, sheet_at, framed, in_range, world_from, wrong_boxes, world_in}
use Rattle.std.specs.Prelude.{Ok}

-- a new controller
pub new-sheet : sheet_of (new_world rust_machine)
    ≡ 2 ∷ 0 ∷ 0 ∷ 0 ∷ 31
    ∷ 0 ∷ 1 ∷ 0
    ∷ 0 ∷ 1 ∷ 0
    ∷ 0 ∷ 1 ∷ 0
    ∷ 0 ∷ 2 ∷ 0 ∷ 0
    ∷ 0 ∷ 0
    ∷ 0 ∷ 0
    ∷ 0 ∷ 0 ∷ 0 ∷ 0
    ∷ 0 ∷ 1 ∷ 0
    ∷ 0 ∷ 0
    ∷ 0 ∷ 1 ∷ 0
    ∷ 0 ∷ 0
    ∷ []
unfolding new_world paper_of boxes_of boxes_for
new-sheet = refl

-- a controller of the data-sheet machine with something in every box but that of a write: a Format of nine sectors, of which five ID bytes are sent
unfoldable pub busy : World
busy = record {
  inside = record {
    setting = sheet_machine;
    motor = true;
    index = 258;
    command = 6 ∷ 1 ∷ [];
    write = some record { c1 = 4; goal = IntoTrack (record { size = 2; sectors = 9; gap = 42; filler = 229 }); held = 39 ∷ 1 ∷ 193 ∷ 2 ∷ 39 ∷ [] };
    drives = record { first = record { cylinder = 39; slot = Empty } };
  };
  front = record { seek = Done; reply = 64 ∷ []; unread = 10 ∷ 20 ∷ 30 ∷ []; lost = 2 };
}

pub busy-sheet : sheet_of busy
    ≡ 2 ∷ 0 ∷ 0 ∷ 0 ∷ 47
    ∷ 0 ∷ 1 ∷ 1
    ∷ 0 ∷ 1 ∷ 39
    ∷ 0 ∷ 1 ∷ 2
    ∷ 0 ∷ 2 ∷ 1 ∷ 2
    ∷ 0 ∷ 2 ∷ 6 ∷ 1
    ∷ 0 ∷ 1 ∷ 64
    ∷ 0 ∷ 0 ∷ 0 ∷ 3 ∷ 10 ∷ 20 ∷ 30
    ∷ 0 ∷ 1 ∷ 2
    ∷ 0 ∷ 0
    ∷ 0 ∷ 1 ∷ 1
    ∷ 0 ∷ 10 ∷ 4 ∷ 2 ∷ 9 ∷ 42 ∷ 229 ∷ 39 ∷ 1 ∷ 193 ∷ 2 ∷ 39
    ∷ []
unfolding paper_of boxes_of boxes_for busy
busy-sheet = refl

-- each is read back
pub new-back : world_in (sheet_of (new_world rust_machine)) ≡ Ok (new_world rust_machine)
unfolding new_world paper_of boxes_of boxes_for world_in framed places_of behind high_at sheet_at box_at in_range world_from wrong_boxes wrong_work command_of command_by rows mask_rows
new-back = refl

pub busy-back : world_in (sheet_of busy) ≡ Ok busy
unfolding busy paper_of boxes_of boxes_for world_in framed places_of behind high_at sheet_at box_at in_range world_from wrong_boxes wrong_work command_of command_by rows mask_rows
busy-back = refl

-- a new controller, as version 1 has it
pub old-back : world_in
    (1 ∷ 0 ∷ 0 ∷ 0 ∷ 26
    ∷ 0 ∷ 1 ∷ 0
    ∷ 0 ∷ 1 ∷ 0
    ∷ 0 ∷ 1 ∷ 0
    ∷ 0 ∷ 2 ∷ 0 ∷ 0
    ∷ 0 ∷ 0
    ∷ 0 ∷ 0
    ∷ 0 ∷ 0 ∷ 0 ∷ 0
    ∷ 0 ∷ 1 ∷ 0
    ∷ 0 ∷ 0
    ∷ [])
    ≡ Ok (new_world rust_machine)
unfolding new_world world_in framed places_of behind high_at sheet_at box_at in_range world_from wrong_boxes wrong_work command_of command_by rows mask_rows
old-back = refl
