-- Two hosts beside each other: when they are alike (02, request 2026-01).
use Rattle.std.specs.Prelude.{◌≡◌, List, [], ◌∷◌}
use Rattle.store.specs.Store.{transfer_room}
use Rattle.runs.specs.Hosts.{Host, seen, Sound}

-- of the elements of two lists, one by one, and of as many
unfoldable pub Both : {A B : Type 0} → (A → B → Type 0) → List A → List B → Type 0
Both P [] [] = Unit {0}
Both P [] (y ∷ ys) = ⊥
Both P (x ∷ xs) [] = ⊥
Both P (x ∷ xs) (y ∷ ys) = P x y × Both P xs ys

-- each has a controller that is one; they show equal boxes, and lend the same store and as much transfer room
pub record Alike (k j : Host) : Type 0 where
  pub one : Sound k
  pub other : Sound j
  pub boxes : seen k ≡ seen j
  pub table : k.table ≡ j.table
  pub bytes : k.bytes ≡ j.bytes
  pub room : transfer_room k.transfer ≡ transfer_room j.transfer
