-- The conversions are each other's inverse: a controller of ours comes back from its numbers, and numbers of ours from their controller;
-- and so do hearings. Part by part, flags and stages by their few values. Assumes nothing.
use Rattle.std.proofs.Common.{ℕ, ◌≡◌, ◌&&◌, ◌||◌, Bool, zero, suc, refl, true, false, arith, eqb, leb, ltb, eqb-true, leb-true}
use Rattle.std.proofs.Math.Bool.{and-eq-true_iff}
use Rattle.interrupts.specs.declared.Group.{Group}
use Rattle.interrupts.specs.Names.{used0, used1}
use Rattle.frames.specs.declared.Kind.{Kind}
use Rattle.frames.specs.declared.Kind.TheVariants.{Silence, Noise, Master, Slave}
use Rattle.frames.specs.declared.Hearing.{Hearing}
use Rattle.model.specs.declared.Exchange.{Exchange}
use Rattle.model.specs.declared.Exchange.TheVariants.{Idle, Waiting, Done}
use Rattle.model.specs.declared.Lines.{Lines}
use Rattle.model.specs.declared.Controller.{Controller}
use Rattle.model.specs.Quiet.{millisecond}
use Rattle.firmware_layout.specs.declared.FlatLines.{FlatLines}
use Rattle.firmware_layout.specs.declared.FlatGroup.{FlatGroup}
use Rattle.firmware_layout.specs.declared.FlatDevice.{FlatDevice}
use Rattle.firmware_layout.specs.declared.FlatController.{FlatController}
use Rattle.firmware_layout.specs.declared.FlatHearing.{FlatHearing}
use Rattle.firmware_layout.specs.Flags.{bit_of, is_bit, is_set}
use Rattle.firmware_layout.specs.Controller.{flat_exchange, exchange_of, exchange_ours, times_ours, flat_lines, lines_of, lines_ours, flat_group}
use Rattle.firmware_layout.specs.Controller.{group_of, inside, group_ours, flat_device, device_of, device_ours, flat, controller_of, ours}
use Rattle.firmware_layout.specs.Hearing.{kind_number, kind_of, flat_hearing, hearing_of, formed}

-- ---- flags

-- a flag comes back from its number
set_bit : (b : Bool) → is_set (bit_of b) ≡ b
set_bit true = refl
set_bit false = refl

-- the number of a flag is 0 or 1
pub bit_bit : (b : Bool) → is_bit (bit_of b) ≡ true
bit_bit true = refl
bit_bit false = refl

bit_set : (x : ℕ) → is_bit x ≡ true → bit_of (is_set x) ≡ x
bit_set zero e = refl
bit_set (suc zero) e = refl
bit_set (suc (suc x)) e = absurd (omega (arith, leb-true (suc (suc x)) 1 e))

-- ---- the parts of numbers of ours

-- each part of the numbers passes its own test
pub record Parts (f : FlatController) : Type 0 where
  pub exchange : exchange_ours f.exchange ≡ true
  pub times : times_ours f.times ≡ true
  pub lines : lines_ours f.lines ≡ true
  pub group0 : group_ours used0 f.group0 ≡ true
  pub group1 : group_ours used1 f.group1 ≡ true
  pub device : device_ours f.device ≡ true
  pub phase : ltb f.phase millisecond ≡ true

-- numbers of ours pass the test of each part
pub parts : (f : FlatController) → ours f ≡ true → Parts f
unfolding ours
parts f e =
    let p = (and-eq-true_iff _ _).0 e in
    let d = (and-eq-true_iff _ _).0 p.0 in
    let g1 = (and-eq-true_iff _ _).0 d.0 in
    let g0 = (and-eq-true_iff _ _).0 g1.0 in
    let l = (and-eq-true_iff _ _).0 g0.0 in
    let t = (and-eq-true_iff _ _).0 l.0 in
    record { exchange = t.0; times = t.1; lines = l.1; group0 = g0.1; group1 = g1.1; device = d.1; phase = p.1 }

-- ---- from the numbers and back

exchange_numbers : (s w : ℕ) → (leb s 2 && (eqb s 1 || eqb w 0)) ≡ true
    → flat_exchange (exchange_of (record { stage = s; word = w })) ≡ record { stage = s; word = w }
exchange_numbers zero w e = rw (eqb-true w 0 e)
exchange_numbers (suc zero) w e = refl
exchange_numbers (suc (suc zero)) w e = rw (eqb-true w 0 e)
exchange_numbers (suc (suc (suc s))) w e = absurd (omega (arith, leb-true (suc (suc (suc s))) 2 ((and-eq-true_iff _ _).0 e).0))

lines_numbers : (f : FlatLines) → lines_ours f ≡ true → flat_lines (lines_of f) ≡ f
lines_numbers f e =
    let s = (and-eq-true_iff _ _).0 e in
    let l = (and-eq-true_iff _ _).0 s.0 in
    let r = (and-eq-true_iff _ _).0 l.0 in
    rw (bit_set f.laa r.0, bit_set f.rld r.1, bit_set f.ls l.1, bit_set f.slm s.1)

group_numbers : (u : ℕ) (f : FlatGroup) → group_ours u f ≡ true → flat_group (group_of u f) ≡ f
group_numbers u f e =
    let settled = (and-eq-true_iff _ (is_set f.frozen || eqb f.pending 0)).0 e in
    let flag = (and-eq-true_iff (inside u f.pending && inside u f.mask && inside u f.status) (is_bit f.frozen)).0 settled.0 in
    rw (bit_set f.frozen flag.1)

device_numbers : (f : FlatDevice) → device_ours f ≡ true → flat_device (device_of f) ≡ f
device_numbers f e =
    let told = (and-eq-true_iff _ (is_set f.set || eqb f.status 0)).0 e in
    let flag = (and-eq-true_iff (leb f.address 4095) (is_bit f.set)).0 told.0 in
    rw (bit_set f.set flag.1)

-- Numbers of ours come back from their controller.
pub same_numbers : (f : FlatController) → ours f ≡ true → flat (controller_of f) ≡ f
unfolding flat controller_of
same_numbers f e =
    let p = parts f e in
    rw (
      exchange_numbers f.exchange.stage f.exchange.word p.exchange,
      lines_numbers f.lines p.lines,
      group_numbers used0 f.group0 p.group0,
      group_numbers used1 f.group1 p.group1,
      device_numbers f.device p.device,
    )

-- ---- from the controller and back

exchange_back : (x : Exchange) → exchange_of (flat_exchange x) ≡ x
exchange_back Idle = refl
exchange_back (Waiting w) = refl
exchange_back Done = refl

lines_back : (l : Lines) → lines_of (flat_lines l) ≡ l
lines_back l = rw (set_bit l.laa, set_bit l.rld, set_bit l.ls, set_bit l.slm)

group_back : (u : ℕ) (g : Group) → g.used ≡ u → group_of u (flat_group g) ≡ g
group_back u g e = rw (set_bit g.frozen, ← e)

-- A controller whose groups are group 0 and group 1 comes back from its numbers.
pub same_controller : (c : Controller) → c.group0.used ≡ used0 → c.group1.used ≡ used1 → controller_of (flat c) ≡ c
unfolding flat controller_of
same_controller c e0 e1 =
    rw (
      exchange_back c.exchange,
      lines_back c.lines,
      group_back used0 c.group0 e0,
      group_back used1 c.group1 e1,
      set_bit c.device.set,
    )

-- ---- hearings

kind_back : (k : Kind) → kind_of (kind_number k) ≡ k
kind_back Silence = refl
kind_back Noise = refl
kind_back Master = refl
kind_back Slave = refl

kind_number_lem : (k : ℕ) → leb k 3 ≡ true → kind_number (kind_of k) ≡ k
kind_number_lem zero e = refl
kind_number_lem (suc zero) e = refl
kind_number_lem (suc (suc zero)) e = refl
kind_number_lem (suc (suc (suc zero))) e = refl
kind_number_lem (suc (suc (suc (suc k)))) e = absurd (omega (arith, leb-true (suc (suc (suc (suc k)))) 3 e))

-- A hearing comes back from its numbers.
pub same_hearing : (h : Hearing) → hearing_of (flat_hearing h) ≡ h
unfolding hearing_of flat_hearing
same_hearing h = rw (kind_back h.kind, set_bit h.sqe, set_bit h.violation, set_bit h.alo)

-- Numbers that are formed come back from their hearing.
pub same_heard : (f : FlatHearing) → formed f ≡ true → flat_hearing (hearing_of f) ≡ f
unfolding hearing_of flat_hearing formed
same_heard f e =
    let a = (and-eq-true_iff _ _).0 e in
    let v = (and-eq-true_iff _ _).0 a.0 in
    let s = (and-eq-true_iff _ _).0 v.0 in
    rw (kind_number_lem f.kind s.0, bit_set f.sqe s.1, bit_set f.violation v.1, bit_set f.alo a.1)
