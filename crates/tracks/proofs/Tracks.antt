-- What a track block holds: the sums of its sector list, and that its data are whole.
use mathlib.Core.Path.{◌≡◌, refl, sym, ap, ◌∙◌}
use Prim.Native.Nat.{ℕ, zero, suc, ◌+◌, ◌-◌, ◌*◌, ◌≤◌, ◌<◌}
use native.Mathlib.Omega.{arith}
use mathlib.Core.List.{List, [], ◌∷◌}
use mathlib.Core.Bool.{Bool, true, false}
use lib.ListN.{length, take, drop, length-take, length-drop}
use lib.Dec.{leb}
use borrow.Author.Tests.{lt-leb, le-leb, leb-true}
use Rattle.fields.specs.Refusals.{need}
use Rattle.fields.specs.Bytes.{byte_at, text_at, read_string}
use Rattle.fields.specs.Model.{Sector, Track, total, track_bytes}
use Rattle.tracks.specs.Block.{row_place, row_of, sector_of, sectors_from, stored_from, data_end, track_in, track_text, body_of, track_of, track_head, block_of}
use Rattle.fields.specs.declared.refusal.Refusal.{Refusal}
use Rattle.fields.specs.declared.refusal.Refusal.TheVariants.{ShortImage, NotATrack}
use Rattle.tracks.specs.declared.track.Kind.{Kind}
use Rattle.tracks.specs.declared.track.Head.{Head}
use Rattle.fields.proofs.Readers.{told}
use Rattle.fields.proofs.Tests.{never, need-good}
use Rattle.std.specs.Prelude.{Result, Ok, Err}

-- a step of a definition that counts down, said of k above 0 and k - 1
pub down : (P : ℕ → ℕ → Type 0) → ((k : ℕ) → P (suc k) k) → (k : ℕ) → 0 < k → P k (k - 1)
down P f zero h = absurd (omega arith)
down P f (suc k) h = let e : suc k - 1 ≡ k = omega arith in rw e (f k)

-- ---- the sum of the stored lengths

pub stored-step : (kind : Kind) (b : List ℕ) (k left : ℕ) → 0 < left
    → stored_from kind b k left ≡ (row_of kind b k).stored + stored_from kind b (k + 1) (left - 1)
unfolding stored_from
stored-step kind b k = down (λ left l. stored_from kind b k left ≡ (row_of kind b k).stored + stored_from kind b (k + 1) l) (λ left. refl)

-- what the sum's loop knows at its head
pub record Summed (kind : Kind) (b : List ℕ) (count k sum : ℕ) : Type 0 where
  pub within : k ≤ count
  pub small : sum ≤ 65535 * k
  pub rest : sum + stored_from kind b k (count - k) ≡ stored_from kind b 0 count

module _ (kind : Kind) (b : List ℕ) (count : ℕ) where
  pub sum-start : Summed kind b count 0 0
  sum-start =
      let e : count - 0 ≡ count = omega arith in
      record { within = omega arith; small = omega arith; rest = rw e (omega arith) }

  module _ (k sum : ℕ) (s : Summed kind b count k sum) where
    pub sum-again : (v : ℕ) → k < count → v ≡ (row_of kind b k).stored → v < 65536 → Summed kind b count (k + 1) (sum + v)
    sum-again v h e l =
        let p : 0 < count - k = omega arith in
        let q : count - k - 1 ≡ count - (k + 1) = omega arith in
        let r : stored_from kind b k (count - k) ≡ v + stored_from kind b (k + 1) (count - (k + 1)) = rw (e, ← q) (stored-step kind b k (count - k) p) in
        record { within = omega arith; small = omega (arith, s.small); rest = omega (arith, s.rest) }

    pub sum_done : count ≤ k → sum ≡ stored_from kind b 0 count
    unfolding stored_from
    sum_done h = let e : count - k ≡ 0 = omega arith in let r : sum + stored_from kind b k 0 ≡ stored_from kind b 0 count = rw e at s.rest in omega arith

-- ---- the sectors

pub sectors-length : (kind : Kind) (b : List ℕ) (k place left : ℕ) → length (sectors_from kind b k place left) ≡ left
unfolding sectors_from
sectors-length kind b k place zero = refl
sectors-length kind b k place (suc left) = ap suc (sectors-length kind b (k + 1) (place + (row_of kind b k).stored) left)

-- a part is whole where it ends inside, or is empty
pub whole_part : (b : List ℕ) (place n : ℕ) → (0 < n → place + n ≤ length b) → length (take n (drop place b)) ≡ n
whole_part b place zero h = simp length-take (omega arith)
whole_part b place (suc n) h = let l : place + suc n ≤ length b = h (omega arith) in simp (length-take, length-drop) (omega arith)

-- what holds of a sector list entry by entry holds of its sectors, where their data end inside: each is then as long as its entry says
pub by_entries : (kind : Kind) (b : List ℕ) (P : ℕ → ℕ → List Sector → Type 0)
    → ((k : ℕ) → P k 0 [])
    → ((k place left : ℕ) (ss : List Sector) → length (take (row_of kind b k).stored (drop place b)) ≡ (row_of kind b k).stored → P (k + 1) left ss
    → P k (suc left) (sector_of (row_of kind b k) (drop place b) ∷ ss))
    → (k place left : ℕ) → (0 < stored_from kind b k left → place + stored_from kind b k left ≤ length b) → P k left (sectors_from kind b k place left)
unfolding sectors_from stored_from
by_entries kind b P none one k place zero h = none k
by_entries kind b P none one k place (suc left) h =
    let n : ℕ = (row_of kind b k).stored in
    let m : ℕ = stored_from kind b (k + 1) left in
    let here : 0 < n → place + n ≤ length b = λ p. omega (arith, h (omega arith)) in
    let after : 0 < m → place + n + m ≤ length b = λ p. omega (arith, h (omega arith)) in
    one k place left (sectors_from kind b (k + 1) (place + n) left) (whole_part b place n here) (by_entries kind b P none one (k + 1) (place + n) left after)

-- data that end inside are as long as the sector list says
pub contents-whole : (kind : Kind) (b : List ℕ) (k place left : ℕ)
    → (0 < stored_from kind b k left → place + stored_from kind b k left ≤ length b)
    → total (λ (s : Sector). length s.content) (sectors_from kind b k place left) ≡ stored_from kind b k left
unfolding stored_from total
contents-whole kind b =
    by_entries kind b (λ k left ss. total (λ (s : Sector). length s.content) ss ≡ stored_from kind b k left) (λ k. refl) (λ k place left ss e f i. ◌+◌ (e i) (f i))

-- data that end inside the block
pub data-inside : (n : ℕ) (b : List ℕ) → data_end n ≤ length b → 0 < n → 0x100 + n ≤ length b
data-inside zero b h p = absurd (omega arith)
data-inside (suc n) b h p = h

-- ---- reading a block

module _ (kind : Kind) (b : List ℕ) where
  pub body-short : (n : ℕ) → n ≡ byte_at b 0x15 → length b < 0x18 + 8 * n → Err ShortImage ≡ block_of (body_of kind b)
  unfolding body_of
  body-short n e h = let l : length b < row_place (byte_at b 0x15) = rw e at h in simp (lt-leb _ _ l)

  module _ (inside : row_place (byte_at b 0x15) ≤ length b) (st end : ℕ) (es : st ≡ stored_from kind b 0 (byte_at b 0x15)) (ee : end ≡ data_end st) where
    -- where the data end, as the definition has it
    ends : data_end (stored_from kind b 0 (byte_at b 0x15)) ≡ end
    ends = cc

    pub body-cut : length b < end → Err ShortImage ≡ block_of (body_of kind b)
    unfolding body_of
    body-cut h = simp (le-leb _ _ inside, ends, lt-leb _ _ h)

    -- the head that is handed out is that of the track
    head-is : end ≤ length b → (record
        { cylinder = byte_at b 0x10; side = byte_at b 0x11; size = byte_at b 0x14; sectors = byte_at b 0x15; gap = byte_at b 0x16; filler = byte_at b 0x17; stored = st })
        ≡ track_head (track_in kind b)
    unfolding track_in
    head-is h =
        let d : data_end (stored_from kind b 0 (byte_at b 0x15)) ≤ length b = rw ends h in
        let n : length (sectors_from kind b 0 0x100 (byte_at b 0x15)) ≡ byte_at b 0x15 = sectors-length kind b 0 0x100 (byte_at b 0x15) in
        let m : track_bytes (track_in kind b) ≡ stored_from kind b 0 (byte_at b 0x15) =
        contents-whole kind b 0 0x100 (byte_at b 0x15) (data-inside (stored_from kind b 0 (byte_at b 0x15)) b d) in
        cc

    pub body-good : end ≤ length b → Ok (record
        { cylinder = byte_at b 0x10; side = byte_at b 0x11; size = byte_at b 0x14; sectors = byte_at b 0x15; gap = byte_at b 0x16; filler = byte_at b 0x17; stored = st })
        ≡ block_of (body_of kind b)
    unfolding body_of
    body-good h = simp (le-leb _ _ inside, ends, le-leb _ _ h) (ap Ok (head-is h))

  pub track-short : (why : Refusal) → read_string track_text b 0 ≡ Err why → Err why ≡ block_of (track_of kind b)
  unfolding track_of
  track-short why e = let f = told track_text b 0 (Err why) e in simp (f.0, f.1)

  pub track-other : read_string track_text b 0 ≡ Ok false → Err NotATrack ≡ block_of (track_of kind b)
  unfolding track_of
  track-other e = let f = told track_text b 0 (Ok false) e in simp (f.0, f.1)

  pub track-body : (r : Result Head Refusal) → read_string track_text b 0 ≡ Ok true → r ≡ block_of (body_of kind b) → r ≡ block_of (track_of kind b)
  unfolding track_of
  track-body r e q = let f = told track_text b 0 (Ok true) e in simp (f.0, f.1) q

  -- a track that was read has its first twelve bytes
  pub track-there : (h : Head) → Ok h ≡ block_of (track_of kind b) → 12 ≤ length b
  unfolding track_of
  track-there h e = there (need (text_at track_text b 0) NotATrack (body_of kind b)) (leb 12 (length b)) refl e
    where
      there : (next : Result Track Refusal) (l : Bool) → leb 12 (length b) ≡ l → Ok h ≡ block_of (need l ShortImage next) → 12 ≤ length b
      there next true q e = leb-true 12 (length b) q
      there next false q e = never (cc)

-- ---- a track that was read as good

-- it is the one that stands in the block, and its data end inside
pub track-good : (kind : Kind) (b : List ℕ) (t : Track) → track_of kind b ≡ Ok t
    → (track_in kind b ≡ t) × (0 < stored_from kind b 0 (byte_at b 0x15) → 0x100 + stored_from kind b 0 (byte_at b 0x15) ≤ length b)
unfolding track_of body_of
track-good kind b t e =
    let x = need-good (leb 12 (length b)) ShortImage (need (text_at track_text b 0) NotATrack (body_of kind b)) t e in
    let y = need-good (text_at track_text b 0) NotATrack (body_of kind b) t x.1 in
    let z = need-good (leb (row_place (byte_at b 0x15)) (length b)) ShortImage
    (need (leb (data_end (stored_from kind b 0 (byte_at b 0x15))) (length b)) ShortImage (Ok (track_in kind b))) t y.1 in
    let w = need-good (leb (data_end (stored_from kind b 0 (byte_at b 0x15))) (length b)) ShortImage (Ok (track_in kind b)) t z.1 in
    let v : Ok (track_in kind b) ≡ Ok t = w.1 in
    (cc, data-inside (stored_from kind b 0 (byte_at b 0x15)) b (leb-true _ _ w.0))

-- and has as many sectors as its header says
pub track-count : (kind : Kind) (b : List ℕ) (t : Track) → track_of kind b ≡ Ok t → length t.sectors ≡ byte_at b 0x15
unfolding track_in
track-count kind b t e = ap (λ (x : Track). length x.sectors) (sym (track-good kind b t e).0) ∙ sectors-length kind b 0 0x100 (byte_at b 0x15)
