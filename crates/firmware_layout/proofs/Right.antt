-- What it is to stand for numbers of ours, part by part: the tests on numbers as facts about the controller, both ways. Assumes nothing.
use Rattle.std.proofs.Common.{ℕ, ◌≤◌, ◌<◌, ◌≡◌, ◌&&◌, ◌||◌, Bool, refl, true, false, true≢false, eqb, eq-eqb, eqb-true, le-leb, leb-true}
use Rattle.std.proofs.Common.{lt-ltb, ltb-true}
use Rattle.std.proofs.Math.Bool.{and-eq-true_iff}
use Rattle.interrupts.specs.declared.Group.{Group}
use Rattle.interrupts.specs.Names.{used0, used1}
use Rattle.interrupts.specs.Shape.{Shaped}
use Rattle.model.specs.declared.Controller.{Controller}
use Rattle.model.specs.declared.Device.{Device}
use Rattle.model.specs.declared.Exchange.{Exchange}
use Rattle.model.specs.declared.Exchange.TheVariants.{Idle, Waiting, Done}
use Rattle.model.specs.declared.Times.{Times}
use Rattle.model.specs.Quiet.{bus_timeout, line_timeout, millisecond}
use Rattle.model.specs.Host.{is_reply_time}
use Rattle.firmware_layout.specs.Flags.{bit_of, is_set}
use Rattle.firmware_layout.specs.Controller.{flat_exchange, exchange_ours, flat_times, times_ours, flat_group}
use Rattle.firmware_layout.specs.Controller.{group_ours, flat_device, device_ours, flat, ours}
use Rattle.firmware_layout.specs.Kept.{Ours}
use Rattle.firmware_layout.proofs.Inverse.{bit_bit, parts}
use Rattle.firmware_layout.proofs.Inside.{inside_within, within_inside}

-- both times are within their timeouts, and both reply times are among the four
pub record RightTimes (t : Times) : Type 0 where
  pub since : t.since ≤ bus_timeout
  pub line : t.line < line_timeout
  pub chosen : is_reply_time t.chosen ≡ true
  pub adopted : is_reply_time t.adopted ≡ true

-- the device address is at most 4095, and the status word is 0 while it is not set
pub record RightDevice (d : Device) : Type 0 where
  pub address : d.address ≤ 4095
  pub unset : d.set ≡ false → d.status ≡ 0

-- times, both groups, the device and the phase are right; of the other parts nothing is asked
pub record Right (c : Controller) : Type 0 where
  pub times : RightTimes c.times
  pub group0 : Shaped used0 c.group0
  pub group1 : Shaped used1 c.group1
  pub device : RightDevice c.device
  pub phase : c.phase < millisecond

-- ---- tests joined

joined : {a b : Bool} → a ≡ true → b ≡ true → (a && b) ≡ true
joined e f = rw (e, f)

-- a number that is 0 unless a flag is set
unless : (b : Bool) (x : ℕ) → (b ≡ false → x ≡ 0) → (is_set (bit_of b) || eqb x 0) ≡ true
unless true x h = refl
unless false x h = eq-eqb x 0 (h refl)

-- where the flag is not set such a number is 0
unless_set : (b : Bool) (x : ℕ) → (is_set (bit_of b) || eqb x 0) ≡ true → b ≡ false → x ≡ 0
unless_set true x e f = absurd (true≢false f)
unless_set false x e f = eqb-true x 0 e

-- ---- from the tests

times_right : (t : Times) → times_ours (flat_times t) ≡ true → RightTimes t
times_right t e =
    let a = (and-eq-true_iff _ _).0 e in
    let k = (and-eq-true_iff _ _).0 a.0 in
    let s = (and-eq-true_iff _ _).0 k.0 in
    record { since = leb-true t.since bus_timeout s.0; line = ltb-true t.line line_timeout s.1; chosen = k.1; adopted = a.1 }

group_right : (u : ℕ) (g : Group) → g.used ≡ u → group_ours u (flat_group g) ≡ true → Shaped u g
group_right u g used e =
    let settled = (and-eq-true_iff _ _).0 e in
    let flag = (and-eq-true_iff _ _).0 settled.0 in
    let status = (and-eq-true_iff _ _).0 flag.0 in
    let words = (and-eq-true_iff _ _).0 status.0 in
    record {
      used = used;
      empty = unless_set g.frozen g.pending settled.1;
      pending = inside_within u g.pending words.0;
      mask = inside_within u g.mask words.1;
      status = inside_within u g.status status.1;
    }

device_right : (d : Device) → device_ours (flat_device d) ≡ true → RightDevice d
device_right d e =
    let told = (and-eq-true_iff _ _).0 e in
    let flag = (and-eq-true_iff _ _).0 told.0 in
    record { address = leb-true d.address 4095 flag.0; unset = unless_set d.set d.status told.1 }

-- a controller of ours is right, part by part
pub right : (c : Controller) → Ours c → Right c
unfolding flat
right c o =
    let p = parts (flat c) o.numbers in
    record {
      times = times_right c.times p.times;
      group0 = group_right used0 c.group0 o.first p.group0;
      group1 = group_right used1 c.group1 o.second p.group1;
      device = device_right c.device p.device;
      phase = ltb-true c.phase millisecond p.phase;
    }

-- ---- to the tests

exchange_ours_lem : (x : Exchange) → exchange_ours (flat_exchange x) ≡ true
exchange_ours_lem Idle = refl
exchange_ours_lem (Waiting w) = refl
exchange_ours_lem Done = refl

times_ours_lem : (t : Times) → RightTimes t → times_ours (flat_times t) ≡ true
times_ours_lem t r =
    rw (le-leb t.since bus_timeout r.since, lt-ltb t.line line_timeout r.line, r.chosen, r.adopted)

group_ours_lem : (u : ℕ) (g : Group) → Shaped u g → group_ours u (flat_group g) ≡ true
group_ours_lem u g s =
    rw (
      within_inside u g.pending s.pending,
      within_inside u g.mask s.mask,
      within_inside u g.status s.status,
      bit_bit g.frozen,
      unless g.frozen g.pending s.empty,
    )

device_ours_lem : (d : Device) → RightDevice d → device_ours (flat_device d) ≡ true
device_ours_lem d r = rw (le-leb d.address 4095 r.address, bit_bit d.set, unless d.set d.status r.unset)

-- a controller that is right part by part is one of ours
pub ours_right : (c : Controller) → Right c → Ours c
unfolding flat ours
ours_right c r =
    record {
      first = r.group0.used;
      second = r.group1.used;
      numbers =
          rw (
            exchange_ours_lem c.exchange,
            times_ours_lem c.times r.times,
            bit_bit c.lines.laa,
            bit_bit c.lines.rld,
            bit_bit c.lines.ls,
            bit_bit c.lines.slm,
            group_ours_lem used0 c.group0 r.group0,
            group_ours_lem used1 c.group1 r.group1,
            device_ours_lem c.device r.device,
            lt-ltb c.phase millisecond r.phase,
          );
    }
