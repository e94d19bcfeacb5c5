-- Gathering sectors into a transfer buffer.
use mathlib.Core.Path.{◌≡◌, refl, sym, ap, ◌∙◌}
use Prim.Native.Nat.{ℕ, suc, ◌+◌, ◌-◌, ◌≤◌, ◌<◌}
use native.Mathlib.Omega.{arith}
use mathlib.Core.List.{List, [], ◌++◌, append-nil}
use lib.ListN.{length, take, drop, length-append, length-drop}
use lib.Seq.{take_all, drop-drop, drop-length}
use borrow.Rule.Slice.PartMut.{put_mid}
use Rattle.buffer.specs.Over.{over}
use Rattle.buffer.proofs.Overs.{over-length, over-front}
use Rattle.fields.specs.Model.{Sector}
use Rattle.tracks.specs.Block.{row_at, sector_of}
use Rattle.fields.specs.declared.id.SectorId.{SectorId}
use Rattle.tracks.proofs.Tracks.{down, whole_part}
use Rattle.store.specs.Find.{find}
use Rattle.store.specs.Search.{is_sector, numbered, joined, run_from}
use Rattle.store.specs.Store.{contents, sectors_at}
use Rattle.store.specs.Spots.{sector_spot, spot}
use Rattle.disk.specs.Serving.{run_of, Rows, Gathered}
use Rattle.store.proofs.Founds.{row_at_spot, find-row, row_in}
use Rattle.loading.proofs.Lays.{lay-on, lay-none}
use Rattle.std.specs.Prelude.{Option, None}
use Rattle.store.specs.declared.find.Spot.{Spot}

run_step : (id : SectorId) (ss : List Sector) (r k : ℕ) → 0 < k
    → run_from id ss r k ≡ joined (find (is_sector (numbered id r)) ss) (run_from id ss (r + 1) (k - 1))
unfolding run_from
run_step id ss r = down (λ k j. run_from id ss r k ≡ joined (find (is_sector (numbered id r)) ss) (run_from id ss (r + 1) j)) (λ k. refl)

-- what the loop knows at its head
pub record Gathering (t b x₀ : List ℕ) (start first count : ℕ) (id : SectorId) (sectors : ℕ) (x : List ℕ) (filled k : ℕ) : Type 0 where
  pub same : length x ≡ length x₀
  pub all : length (run_of t b start first count id (id.r + k) (sectors - k)) ≡ sectors - k
  pub fits : filled + length (contents (run_of t b start first count id (id.r + k) (sectors - k))) ≤ length x₀
  pub pending : over x filled (contents (run_of t b start first count id (id.r + k) (sectors - k)))
      ≡ over x₀ 0 (contents (run_of t b start first count id id.r sectors))

module _ (t b x₀ : List ℕ) (start first count : ℕ) (id : SectorId) (sectors : ℕ) (g : Gathered t b start first count id sectors (length x₀)) where
  module _ (x : List ℕ) (filled k : ℕ) (s : Gathering t b x₀ start first count id sectors x filled k) where
    pub gather-done : sectors ≤ k → x ≡ over x₀ 0 (contents (run_of t b start first count id id.r sectors))
    unfolding run_from contents
    gather-done h =
        let q : sectors - k ≡ 0 = omega arith in
        lay-none x filled (contents (run_of t b start first count id (id.r + k) (sectors - k))) _ s.pending
        (ap (λ (n : ℕ). contents (run_of t b start first count id (id.r + k) n)) q)

    module _ (h : k < sectors) (w : SectorId) (ew : w ≡ numbered id (id.r + k)) (r : Option Spot) (er : r ≡ sector_spot t w 0 start first count) where
      -- what is left, by where the search for its first number ended
      left_is : (y : Option Spot) → r ≡ y
          → run_of t b start first count id (id.r + k) (sectors - k)
          ≡ joined (row_at_spot t b y) (run_of t b start first count id (id.r + (k + 1)) (sectors - (k + 1)))
      left_is y ey =
          let p : 0 < sectors - k = omega arith in
          let q : sectors - k - 1 ≡ sectors - (k + 1) = omega arith in
          let n : id.r + k + 1 ≡ id.r + (k + 1) = omega arith in
          let f : find (is_sector (numbered id (id.r + k))) (sectors_at t b start first count) ≡ row_at_spot t b y =
          ap (λ (v : SectorId). find (is_sector v) (sectors_at t b start first count)) (sym ew)
          ∙ find-row t b w 0 start first count ∙ ap (row_at_spot t b) (sym er ∙ ey) in
          run_step id (sectors_at t b start first count) (id.r + k) (sectors - k) p
          ∙ (λ i. joined (f i) (run_from id (sectors_at t b start first count) (n i) (q i)))

      pub gather-never : r ≡ None → ⊥
      gather-never e =
          let l : length (run_of t b start first count id (id.r + k) (sectors - k)) ≡ 0 = ap length (left_is None e) in
          omega (arith, s.all)

      module _ (i at place : ℕ) (e : r ≡ spot i at place) (v : ℕ) (ev : v ≡ (row_at t at).stored) (c : List ℕ) (ec : c ≡ take v (drop place b)) where
        content-is : c ≡ (sector_of (row_at t at) (drop place b)).content
        content-is = ec ∙ ap (λ (n : ℕ). take n (drop place b)) ev

        rest : List Sector
        rest = run_of t b start first count id (id.r + (k + 1)) (sectors - (k + 1))

        parts : contents (run_of t b start first count id (id.r + k) (sectors - k)) ≡ c ++ contents rest
        unfolding contents rest
        parts = ap contents (left_is (spot i at place) e) ∙ ap (λ (l : List ℕ). l ++ contents (run_of t b start first count id (id.r + (k + 1)) (sectors - (k + 1)))) (sym content-is)

        -- the sector finds room behind what is there
        pub gather-fits : filled + length c ≤ length x
        gather-fits =
            let l : length (contents (run_of t b start first count id (id.r + k) (sectors - k))) ≡ length c + length (contents rest) = ap length parts ∙ length-append c (contents rest) in
            omega (arith, s.fits, s.same)

        pub gather-again : length c ≡ v → (x' : List ℕ) → x' ≡ over x filled c → Gathering t b x₀ start first count id sectors x' (filled + v) (k + 1)
        unfolding rest
        gather-again lc x' ex =
            let l : length (contents (run_of t b start first count id (id.r + k) (sectors - k))) ≡ length c + length (contents rest) = ap length parts ∙ length-append c (contents rest) in
            let n : length (run_of t b start first count id (id.r + k) (sectors - k)) ≡ suc (length rest) = ap length (left_is (spot i at place) e) in
            record {
              same = ap length ex ∙ over-length x filled c gather-fits ∙ s.same;
              all = omega (arith, s.all);
              fits = omega (arith, s.fits);
              pending =
                  ap (λ (y : List ℕ). over y (filled + v) (contents rest)) ex
                  ∙ lay-on x filled c (contents rest) _ (filled + v) (ap (over x filled) (sym parts) ∙ s.pending) (omega arith) (omega (arith, gather-fits));
            }

-- a part of a slice from a place on, lent and laid over at its start, is the slice laid over at the place
pub lent-over : (x : List ℕ) (at : ℕ) (c y : List ℕ) → at ≤ length x → y ≡ over (take (length x - at) (drop at x)) 0 c
    → put_mid at (length x - at) x y ≡ over x at c
unfolding over
lent-over x at c y h e =
    let n : at + (length x - at) ≡ length x = omega arith in
    let w : take (length x - at) (drop at x) ≡ drop at x = take_all (length x - at) (drop at x) (simp length-drop (omega arith)) in
    let f : y ≡ c ++ drop (at + length c) x =
    e ∙ ap (λ (l : List ℕ). over l 0 c) w ∙ over-front (drop at x) c ∙ ap (λ (l : List ℕ). c ++ l) (drop-drop (length c) at x) in
    let z : drop (at + (length x - at)) x ≡ [] = ap (λ (k : ℕ). drop k x) n ∙ drop-length x in
    (λ i. take at x ++ (f i ++ (drop-drop (length x - at) at x ∙ z) i)) ∙ ap (λ (l : List ℕ). take at x ++ l) (append-nil (c ++ drop (at + length c) x))

-- a found row lies in the table, and its bytes in the data buffer
module _ (t b : List ℕ) (start first count : ℕ) (rows : Rows t b start first count) (w : SectorId) (r : Option Spot) (er : r ≡ sector_spot t w 0 start first count)
    (i at place : ℕ) (e : r ≡ spot i at place) where
  pub row_inside : at + 8 ≤ 17609
  row_inside = omega (arith, row_in t w 0 start first count i at place (sym er ∙ e), rows.inside)

  pub bytes_whole : (v : ℕ) → v ≡ (row_at t at).stored → (c : List ℕ) → c ≡ take v (drop place b) → length c ≡ v
  bytes_whole v ev c ec =
      let l : place + v ≤ length b = omega (arith, row_in t w 0 start first count i at place (sym er ∙ e), rows.held) in
      ap length ec ∙ whole_part b place v (λ p. l)
