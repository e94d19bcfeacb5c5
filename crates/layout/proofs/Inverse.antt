-- The bytes and the controller are each other's inverse.
use mathlib.Core.Path.{◌≡◌, refl, sym, ap, ◌∙◌}
use Prim.Native.Nat.{ℕ, zero, suc, ◌+◌, ◌/◌, ◌%◌, ◌*◌, ◌<◌, ◌≤◌}
use native.Mathlib.Omega.{arith}
use mathlib.Core.Bool.{Bool, true, false}
use mathlib.Core.List.{List, [], ◌∷◌}
use lib.ListN.{length, drop, drop_of_length-le}
use lib.Seq.{drop-cons}
use lib.Dec.{eqb, leb}
use borrow.Author.Tests.{leb-true}
use Rattle.fields.specs.Bytes.{byte_at, number_at}
use Rattle.fields.proofs.Tests.{and-fst, and-snd}
use Rattle.registers.specs.declared.regs.Regs.{Regs}
use Rattle.registers.specs.declared.regs.Seek.{Seek}
use Rattle.registers.specs.declared.regs.Seek.TheVariants.{Idle, Running, Done}
use Rattle.layout.specs.Layout.{controller_length, flag_byte, seek_byte, part_for, numbers_for, flag_at, seek_at, regs_at, held_at, formed, Fitting}
use Rattle.layout.proofs.Images.{formed-long}

-- ---- one by one

pub flag-back : (f : Bool) → flag_at (flag_byte f) ≡ f
flag-back true = refl
flag-back false = refl

pub seek-back : (s : Seek) → seek_at (seek_byte s) ≡ s
seek-back Idle = refl
seek-back Running = refl
seek-back Done = refl

word_back : (n : ℕ) → n < 65536 → n % 256 + 256 * (n / 256 % 256 + 256 * 0) ≡ n
word_back n h = omega arith

long-back : (n : ℕ) → n < 4294967296 → n % 256 + 256 * (n / 256 % 256 + 256 * (n / 256 / 256 % 256 + 256 * (n / 256 / 256 / 256 % 256 + 256 * 0))) ≡ n
long-back n h = omega arith

-- so many bytes from a place on, one by one, are the list from there on
bytes-are : (n k : ℕ) (x : List ℕ) → length x ≡ k + n → part_for n x k [] ≡ drop k x
bytes-are zero k x h = sym (drop_of_length-le x {i = k} (omega (arith, h)))
bytes-are (suc n) k x h =
    let e : k + 1 ≡ suc k = omega arith in
    rw e (ap (λ (z : List ℕ). byte_at x k ∷ z) (bytes-are n (suc k) x (omega (arith, h)))) ∙ sym (drop-cons x k 0 (omega (arith, h)))

-- ---- the registers, written and read

pub regs-back : (r : Regs) (rest : List ℕ) → Fitting r → regs_at (numbers_for r rest) ≡ r
unfolding regs_at numbers_for number_at
regs-back r rest f = λ i. record {
  command = bytes-are 9 0 r.command f.nine i;
  count = r.count;
  reply = bytes-are 7 0 r.reply f.seven i;
  place = r.place;
  fill = r.fill;
  from = long-back r.from f.from-fits i;
  until = long-back r.until f.until-fits i;
  lost = r.lost;
  motor = flag-back r.motor i;
  index = word_back r.index f.index-fits i;
  write = record {
    on = flag-back r.write.on i;
    c1 = r.write.c1;
    track = flag-back r.write.track i;
    target = r.write.target;
    taken = word_back r.write.taken f.taken-fits i;
  };
  drive = record { cylinder = r.drive.cylinder; seek = seek-back r.drive.seek i; disk = flag-back r.drive.disk i };
  setting = r.setting;
}

-- and the bytes behind them are the held bytes
pub held_back : (r : Regs) (held : List ℕ) → held_at (numbers_for r held) ≡ held
unfolding numbers_for
held_back r held = refl

-- ---- bytes, read and written

pub flag-kept : (b : ℕ) → b ≤ 1 → flag_byte (flag_at b) ≡ b
flag-kept zero h = refl
flag-kept (suc zero) h = refl
flag-kept (suc (suc b)) h = absurd (omega (arith, h))

pub seek-kept : (b : ℕ) → b ≤ 2 → seek_byte (seek_at b) ≡ b
seek-kept zero h = refl
seek-kept (suc zero) h = refl
seek-kept (suc (suc zero)) h = refl
seek-kept (suc (suc (suc b))) h = absurd (omega (arith, h))

-- a list of so many numbers at least is its first ones, one by one, and the rest
front-is : (n k : ℕ) (x : List ℕ) → k + n ≤ length x → part_for n x k (drop (k + n) x) ≡ drop k x
front-is zero k x h = let e : k + 0 ≡ k = omega arith in rw e
front-is (suc n) k x h =
    let e : k + 1 ≡ suc k = omega arith in
    let q : k + suc n ≡ suc k + n = omega arith in
    rw (e, q) (ap (λ (z : List ℕ). byte_at x k ∷ z) (front-is n (suc k) x (omega (arith, h)))) ∙ sym (drop-cons x k 0 (omega (arith, h)))

-- what the flags and the seek state of formed bytes are
record Flags (l : List ℕ) : Type 0 where
  pub motor : byte_at l 28 ≤ 1
  pub on : byte_at l 31 ≤ 1
  pub seek : byte_at l 40 ≤ 2
  pub disk : byte_at l 41 ≤ 1
  pub setting : byte_at l 42 ≤ 1
  pub track : byte_at l 43 ≤ 1

flags : (l : List ℕ) → formed l ≡ true → Flags l
unfolding formed
flags l e =
    let at : ℕ → ℕ → Bool = λ k most. leb (byte_at l k) most in
    let p1 = and-snd (eqb (length l) controller_length) _ e in
    let p2 = and-snd (at 28 1) _ p1 in
    let p3 = and-snd (at 31 1) _ p2 in
    let p4 = and-snd (at 40 2) _ p3 in
    let p5 = and-snd (at 41 1) _ p4 in
    record {
      motor = leb-true _ _ (and-fst (at 28 1) _ p1);
      on = leb-true _ _ (and-fst (at 31 1) _ p2);
      seek = leb-true _ _ (and-fst (at 40 2) _ p3);
      disk = leb-true _ _ (and-fst (at 41 1) _ p4);
      setting = leb-true _ _ (and-fst (at 42 1) _ p5);
      track = leb-true _ _ (and-snd (at 42 1) _ p5);
    }

-- the setting of formed bytes is one of the two machines
pub formed-setting : (l : List ℕ) → formed l ≡ true → byte_at l 42 ≤ 1
formed-setting l e = (flags l e).setting

-- bytes that a controller has are those of the registers that are read from them
module _ (l : List ℕ) (b : (k : ℕ) → byte_at l k < 256) where
  -- the digits of a number of two bytes, and of four
  two0 : (k : ℕ) → number_at 2 l k % 256 ≡ byte_at l k
  unfolding number_at
  two0 k = omega (arith, b k)

  two1 : (k : ℕ) → number_at 2 l k / 256 % 256 ≡ byte_at l (k + 1)
  unfolding number_at
  two1 k = omega (arith, b k, b (k + 1))

  four0 : (k : ℕ) → number_at 4 l k % 256 ≡ byte_at l k
  unfolding number_at
  four0 k = omega (arith, b k)

  four1 : (k : ℕ) → number_at 4 l k / 256 % 256 ≡ byte_at l (k + 1)
  unfolding number_at
  four1 k = omega (arith, b k, b (k + 1))

  four2 : (k : ℕ) → number_at 4 l k / 256 / 256 % 256 ≡ byte_at l (k + 1 + 1)
  unfolding number_at
  four2 k = omega (arith, b k, b (k + 1), b (k + 1 + 1))

  four3 : (k : ℕ) → number_at 4 l k / 256 / 256 / 256 % 256 ≡ byte_at l (k + 1 + 1 + 1)
  unfolding number_at
  four3 k = omega (arith, b k, b (k + 1), b (k + 1 + 1), b (k + 1 + 1 + 1))

  pub written_back : formed l ≡ true → numbers_for (regs_at l) (held_at l) ≡ l
  unfolding regs_at numbers_for
  written_back e =
      let f = flags l e in
      (λ i.
      part_for 9 l 0 (byte_at l 9 ∷ part_for 7 l 10 (byte_at l 17 ∷ byte_at l 18
      ∷ four0 19 i ∷ four1 19 i ∷ four2 19 i ∷ four3 19 i
      ∷ four0 23 i ∷ four1 23 i ∷ four2 23 i ∷ four3 23 i
      ∷ byte_at l 27 ∷ flag-kept (byte_at l 28) f.motor i ∷ two0 29 i ∷ two1 29 i
      ∷ flag-kept (byte_at l 31) f.on i ∷ byte_at l 32 ∷ byte_at l 33 ∷ byte_at l 34 ∷ byte_at l 35 ∷ byte_at l 36 ∷ two0 37 i ∷ two1 37 i
      ∷ byte_at l 39 ∷ seek-kept (byte_at l 40) f.seek i ∷ flag-kept (byte_at l 41) f.disk i ∷ byte_at l 42 ∷ flag-kept (byte_at l 43) f.track i ∷ held_at l)))
      ∙ front-is 44 0 l (omega (arith, formed-long l e))
