-- The lines of a track block and of the tracks that a walk hands out, and the loops that lay them.
use mathlib.Core.Path.{◌≡◌, refl, sym, ap, ◌∙◌}
use Prim.Native.Nat.{ℕ, ◌+◌, ◌-◌, ◌≤◌, ◌<◌}
use native.Mathlib.Omega.{arith}
use mathlib.Core.List.{List, [], ◌∷◌, ◌++◌, append_assoc}
use lib.ListN.{length, take, drop}
use Rattle.fields.specs.Bytes.{byte_at}
use Rattle.fields.specs.Model.{Track, Disk}
use Rattle.tracks.specs.Block.{row_of, sector_of, sectors_from, stored_from, track_in, track_of, track_head}
use Rattle.image.specs.Calls.{tracks_left, tracks_in, to_come, Says}
use Rattle.fields.specs.declared.refusal.Refusal.{Refusal}
use Rattle.fields.proofs.Tests.{never}
use Rattle.tracks.specs.declared.track.Kind.{Kind}
use Rattle.image.specs.declared.walk.Walk.{Walk}
use Rattle.tracks.specs.declared.track.Head.{Head}
use Rattle.tracks.specs.declared.track.Row.{Row}
use Rattle.image.specs.declared.walk.Step.TheVariants as step
use Rattle.tracks.proofs.Tracks.{down, by_entries, track-good, track-count}
use Rattle.image.proofs.Steps.{come-split}
use Rattle.listing.specs.Text.{sector_line, track_line, sector_lines, track_lines, sector_fields}
use Rattle.listing.specs.Lines.{Laid, row_line, head_line, row_lines, block_lines, Listable}
use Rattle.listing.proofs.Lines.{Left, left-start, left-done, left-room, left-again}
use Rattle.std.specs.Prelude.{Result, Ok, Err}

-- ---- a track block

-- a sector whose data are whole has the line of its entry
row-line : (row : Row) (b : List ℕ) → length (take row.stored b) ≡ row.stored → row_line row ≡ sector_line (sector_of row b)
row-line row b e = ap (sector_fields row.id row.st1.bits row.st2.bits) (sym e)

head-line : (t : Track) → head_line (track_head t) ≡ track_line t
head-line t = refl

module _ (kind : Kind) (b : List ℕ) where
  rows_step : (k left : ℕ) → 0 < left → row_lines kind b k left ≡ row_line (row_of kind b k) ++ row_lines kind b (k + 1) (left - 1)
  unfolding row_lines
  rows_step k = down (λ left l. row_lines kind b k left ≡ row_line (row_of kind b k) ++ row_lines kind b (k + 1) l) (λ left. refl)

  -- the lines of the sectors that a block holds
  rows-lines : (k place left : ℕ) → (0 < stored_from kind b k left → place + stored_from kind b k left ≤ length b)
      → row_lines kind b k left ≡ sector_lines (sectors_from kind b k place left)
  unfolding row_lines sector_lines
  rows-lines =
      by_entries kind b (λ k left ss. row_lines kind b k left ≡ sector_lines ss) (λ k. refl)
      (λ k place left ss e f i. row-line (row_of kind b k) (drop place b) e i ++ f i)

  -- what is laid of a block is its track's line with its sectors under it
  pub block-lines : (t : Track) → track_of kind b ≡ Ok t → (h : Head) → h ≡ track_head t → block_lines kind b h ≡ track_line t ++ sector_lines t.sectors
  unfolding track_in
  block-lines t e h f =
      let same : track_in kind b ≡ t = (track-good kind b t e).0 in
      let lines : row_lines kind b 0 (length t.sectors) ≡ sector_lines t.sectors =
      ap (row_lines kind b 0) (track-count kind b t e) ∙ rows-lines 0 0x100 (byte_at b 0x15) (track-good kind b t e).1 ∙ ap (λ (x : Track). sector_lines x.sectors) same in
      ap (block_lines kind b) f ∙ (λ i. head-line t i ++ lines i)

  -- what is left of a block's lines: at the start, after a row, at the end
  module _ (count : ℕ) where
    pub rows-first : row_lines kind b 0 (count - 0) ≡ row_lines kind b 0 count
    rows-first = ap (row_lines kind b 0) (omega arith)

    rows-rest : (k : ℕ) (row : Row) → k < count → row ≡ row_of kind b k
        → row_lines kind b k (count - k) ≡ row_line row ++ row_lines kind b (k + 1) (count - (k + 1))
    rows-rest k row h e =
        let p : 0 < count - k = omega arith in
        let q : count - k - 1 ≡ count - (k + 1) = omega arith in
        rw (e, ← q) (rows_step k (count - k) p)

    pub rows_none : (k : ℕ) → count ≤ k → row_lines kind b k (count - k) ≡ []
    unfolding row_lines
    rows_none k h = let e : count - k ≡ 0 = omega arith in rw e

    -- a turn of the loop that lays them
    module _ (d₀ : List ℕ) (start : ℕ) (room : start + length (row_lines kind b 0 count) ≤ length d₀) (d : List ℕ) (at k : ℕ)
        (l : Left d₀ start (row_lines kind b 0 count) d at (row_lines kind b k (count - k))) (h : k < count) (row : Row) (e : row ≡ row_of kind b k) where
      pub rows-room : at + length (row_line row) ≤ length d
      rows-room = left-room d₀ start _ d at _ l room (row_line row) (row_lines kind b (k + 1) (count - (k + 1))) (rows-rest k row h e)

      pub rows-again : (d' : List ℕ) (r : ℕ) → Laid d at (row_line row) d' r
          → Left d₀ start (row_lines kind b 0 count) d' r (row_lines kind b (k + 1) (count - (k + 1)))
      rows-again d' r x = left-again d₀ start _ d at _ l room (row_line row) (row_lines kind b (k + 1) (count - (k + 1))) (rows-rest k row h e) d' r x

-- ---- the loop over the tracks of a walk

-- what it knows at its head
pub record Walking (img d₀ : List ℕ) (place : ℕ) (start : Walk) (kind : Kind) (d : List ℕ) (w : Walk) (at : ℕ) : Type 0 where
  pub same_kind : w.kind ≡ kind
  pub whole : tracks_left img w ≡ Ok (to_come img w)
  pub left : Left d₀ place (track_lines (to_come img start)) d at (track_lines (to_come img w))

module _ (img d₀ : List ℕ) (place : ℕ) (start : Walk) (kind : Kind) where
  pub walking_start : start.kind ≡ kind → Listable img start place (length d₀) → Walking img d₀ place start kind d₀ start place
  walking_start e l = record { same_kind = e; whole = l.whole; left = left-start d₀ place _ _ refl }

  module _ (d : List ℕ) (w : Walk) (at : ℕ) (l : Walking img d₀ place start kind d w at) where
    -- an image that was read as good is not refused now
    pub walking-never : (why : Refusal) → Says img w (Err why) → ⊥
    walking-never why e = let x : tracks_left img w ≡ Ok (to_come img w) = l.whole in never (cc)

    pub walking-end : Says img w (Ok step.End) → Laid d₀ place (track_lines (to_come img start)) d at
    unfolding track_lines
    walking-end e = left-done d₀ place _ d at (track_lines (to_come img w)) l.left (ap (λ (x : Result Disk Refusal). track_lines (tracks_in x)) e)

    pub walking-absent : (r : Walk) → Says img w (Ok (step.Absent r)) → Walking img d₀ place start kind d r at
    walking-absent r e =
        let q : to_come img r ≡ to_come img w = ap tracks_in (sym e.1) in
        record { same_kind = e.0.kind ∙ l.same_kind; whole = sym e.1 ∙ l.whole ∙ ap Ok (sym q); left = rw q l.left }

    module _ (room : place + length (track_lines (to_come img start)) ≤ length d₀) (h : Head) (r : Walk) (e : Says img w (Ok (step.Track h r))) (p : List ℕ) (ep : p ≡ drop w.at img) where
      rest : (tracks_left img r ≡ Ok (to_come img r)) × (to_come img w ≡ e.track ∷ to_come img r)
      rest = come-split img w r e.track e.left l.whole

      -- the track's lines come first
      first : track_lines (to_come img w) ≡ block_lines kind p h ++ track_lines (to_come img r)
      unfolding track_lines
      first =
          let read : track_of kind p ≡ Ok e.track = (λ i. track_of (sym l.same_kind i) (ep i)) ∙ e.read in
          ap track_lines rest.1
          ∙ sym (append_assoc (track_line e.track) (sector_lines e.track.sectors) (track_lines (to_come img r)))
          ∙ ap (λ (x : List ℕ). x ++ track_lines (to_come img r)) (sym (block-lines kind p e.track read h e.head))

      pub walking-room : at + length (block_lines kind p h) ≤ length d
      walking-room = left-room d₀ place _ d at (track_lines (to_come img w)) l.left room (block_lines kind p h) (track_lines (to_come img r)) first

      pub walking-track : (d' : List ℕ) (a : ℕ) → Laid d at (block_lines kind p h) d' a → Walking img d₀ place start kind d' r a
      walking-track d' a x = record {
        same_kind = e.moved.kind ∙ l.same_kind;
        whole = rest.0;
        left = left-again d₀ place _ d at (track_lines (to_come img w)) l.left room (block_lines kind p h) (track_lines (to_come img r)) first d' a x;
      }
