-- The invariant through quiet time and the host's calls. Assumes nothing.
use Prim.Native.Nat.{ℕ, ◌%◌, ◌≤◌, ◌<◌, min}
use mathlib.Core.Path.{◌≡◌, refl, sym, ◌∙◌, ap, ap₂, subst, subst₂}
use mathlib.Core.Bool.{Bool, true, false, cond, ◌||◌, true≢false, false≢true}
use mathlib.Core.List.{List, [], ◌∷◌}
use Rattle.std.specs.Prelude.{Option, None, Some}
use native.Mathlib.Omega.{arith}
use lib.Dec.{eqb, lit<, lit≤}
use lib.ListN.{length}
use borrow.Author.Tests.{eqb-true, eqb-false, eq-eqb, ne_eqb, not-false}
use Rattle.model.specs.declared.Exchange.{Exchange}
use Rattle.model.specs.declared.Exchange.TheVariants.{Idle, Waiting, Done}
use Rattle.model.specs.declared.Times.{Times}
use Rattle.model.specs.declared.Counts.{Counts}
use Rattle.model.specs.declared.Device.{Device}
use Rattle.model.specs.declared.Controller.{Controller}
use Rattle.model.specs.Layout.{Areas, entry}
use Rattle.model.specs.Ports.{Standing, standing_of, standing, Effect, untouched, fill, opened, closed, apply}
use Rattle.model.specs.Quiet.{times}
use Rattle.model.specs.Host.{fresh_controller, is_reply_time, setting_out, Setting, address, status, reply_time, slm, ls, ec_clear, reset}
use Rattle.model.specs.Host.{group0, group1, tell}
use Rattle.model.specs.Calls.{Call, quiet, open_port, close_port, write_port, read_port, setting, refusal, effect, step}
use Rattle.model.specs.Past.{fresh_settings, Change, keeps, opens, closes, writes, changes, happening, leaves, after, is_reset, settings_by, awaited}
use Rattle.model.specs.Past.{Opening, opening, opening_of, answers_since, last_settings, writes_since, last_of, count_since, frames_judged}
use Rattle.model.specs.Past.{frames_unsound}
use Rattle.model.proofs.ToldPort.{standing_with, told_standing}
use Rattle.model.proofs.Shape.{Shape, Valid, nothing, refill, refill_if, just_opened, standing_after}
use Rattle.model.proofs.Standings.{distinct}
use Rattle.model.proofs.ShapeKept.{shape_apply, standing_apply}
use Rattle.model.proofs.Accepted.{valid_open, valid_close, found_write, write_source, valid_write}
use Rattle.model.proofs.Waits.{wait_now, Live}
use Rattle.model.proofs.Holds.{ticks_lasting, ticks_hold}
use Rattle.model.proofs.Invariant.{Told, ToldBy}
use Rattle.model.proofs.Replies.{status_now}

-- ---- calls that fill no port

told_same : (past more : List Call) (a : ℕ) (o : Option Opening) → ((w : ℕ) → answers_since more a w ≡ answers_since past a w)
    → writes_since more a ≡ writes_since past a
    → told_standing past a o ≡ told_standing more a o
told_same past more a None f g = refl
told_same past more a (Some o) f g = rw (f o.word, g)

-- the invariant holds after quiet time
pub quiet_told : (past : List Call) (n : ℕ) → ToldBy past (after past) → ToldBy (quiet n ∷ past) (step (quiet n) (after past))
unfolding step awaited frames_judged frames_unsound opening_of answers_since writes_since count_since last_settings
quiet_told past n h =
    let r = ticks_hold n (awaited past) (λ a. told_standing past a (opening_of past a)) (after past) h.holds in
    let k = ticks_lasting n (after past) h.holds.shape.fits in
    record {
      holds =
          record {
            shape = r.shape;
            stands = λ a. r.stands a ∙ told_same past (quiet n ∷ past) a (opening_of past a) (λ w. refl) refl;
            waits = r.waits;
            live = r.live;
            short = r.short;
          };
      chosen = k.chosen ∙ h.chosen;
      some_time = h.some_time;
      short_time = h.short_time;
      status = ap status_now k.device ∙ h.status;
      address = ap (λ (d : Device). d.address) k.device ∙ h.address;
      fc = ap (λ (c : Counts). c.fc) k.counts ∙ h.fc;
      ec = ap (λ (c : Counts). c.ec) k.counts ∙ h.ec;
    }

-- ---- the host's calls on ports: they leave the controller as it is, and what they do to the areas is seen as the past tells it

-- a change of an address, as what stands there has it
abbrev standing_by : Change → Option Standing → Option Standing
standing_by keeps v = v
standing_by (opens o) v = Some (standing_with o None 0)
standing_by closes v = None
standing_by (writes ws) None = None
standing_by (writes ws) (Some v) = Some (refill ws v)

-- words are written to a source
abbrev ToSource : Change → Option Standing → Type 0
ToSource keeps v = Unit
ToSource (opens o) v = Unit
ToSource closes v = Unit
ToSource (writes ws) None = Unit
ToSource (writes ws) (Some v) = v.sink ≡ false

module _ (past : List Call) (c : Call) (f : ℕ → Change) (h : happening c ≡ changes f) where
  standing_told : (a : ℕ) → ToSource (f a) (told_standing past a (opening_of past a))
      → standing_by (f a) (told_standing past a (opening_of past a)) ≡ told_standing (c ∷ past) a (opening_of (c ∷ past) a)
  unfolding opening_of answers_since writes_since
  standing_told a = rw h (go (f a) refl (opening_of past a))
    where
      either : (b : Bool) → cond {A = List (List ℕ)} b [] [] ≡ []
      either true = refl
      either false = refl

      go : (x : Change) → f a ≡ x → (o : Option Opening) → ToSource x (told_standing past a o)
          → standing_by x (told_standing past a o) ≡ told_standing (c ∷ past) a (leaves x o)
      go keeps e None t = refl
      go keeps e (Some o) t = rw (h, e)
      go (opens o) e p t = rw (h, e, either o.sink)
      go closes e o t = refl
      go (writes ws) e None t = refl
      go (writes ws) e (Some o) t = rw (h, e) (by o.sink t)
        where
          ss : List (List ℕ)
          ss = answers_since past a o.word

          wr : List (List ℕ)
          wr = writes_since past a

          by : (k : Bool) → k ≡ false
              → ◌≡◌ {A = Option Standing} (Some (refill ws (standing_with o (last_of (cond k ss wr)) (length (cond k ss wr) % 65536))))
              (Some (standing_with o (last_of (cond k ss (ws ∷ wr))) (length (cond k ss (ws ∷ wr)) % 65536)))
          by true q = absurd (true≢false q)
          by false q = ap (λ (n : ℕ). Some (standing_with o (Some ws) n)) (omega arith)

  area_told : (e : Effect) → Valid (after past).areas e
      → ((a : ℕ) (v : Option Standing) → standing (after past).areas a ≡ v → ToSource (f a) v × (standing_after e a v ≡ standing_by (f a) v))
      → ToldBy past (after past) → Told (c ∷ past) (after past).controller (apply e (after past).areas)
  unfolding awaited frames_judged frames_unsound count_since last_settings
  area_told e ok seen told =
      let m = (after past).areas in
      let H = told.holds in
      record {
        holds = record {
          shape = shape_apply e m H.shape ok;
          stands = λ a. let s = seen a (told_standing past a (opening_of past a)) (H.stands a) in
              standing_apply e m a H.shape ok ∙ ap (standing_after e a) (H.stands a) ∙ s.1 ∙ standing_told a s.0;
          waits = λ q. rw h (H.waits q);
          live = H.live;
          short = H.short;
        };
        chosen = rw h told.chosen;
        some_time = rw h told.some_time;
        short_time = rw h told.short_time;
        status = rw h told.status;
        address = rw h told.address;
        fc = rw h told.fc;
        ec = rw h told.ec;
      }

-- the invariant holds after an accepted opening
pub open_told : (past : List Call) (b p code : ℕ) (sink : Bool) (i limit : ℕ) → refusal (open_port b p code sink i limit) (after past) ≡ 0
    → ToldBy past (after past)
    → ToldBy (open_port b p code sink i limit ∷ past) (step (open_port b p code sink i limit) (after past))
unfolding step effect
open_told past b p code sink i limit r =
    area_told past (open_port b p code sink i limit) _ refl (opened b p code sink i limit) (valid_open b p code sink i limit (after past) r)
    (λ a v e. go (eqb b a) v)
  where
    go : (k : Bool) (v : Option Standing)
        → ToSource (cond k (opens (opening b p code sink i limit)) keeps) v
        × (cond k (Some (just_opened b p code sink i limit)) v ≡ standing_by (cond k (opens (opening b p code sink i limit)) keeps) v)
    go true v = (tt, refl)
    go false v = (tt, refl)

-- the invariant holds after an accepted closing
pub close_told : (past : List Call) (b : ℕ) → refusal (close_port b) (after past) ≡ 0 → ToldBy past (after past)
    → ToldBy (close_port b ∷ past) (step (close_port b) (after past))
unfolding step effect
close_told past b r =
    area_told past (close_port b) _ refl (closed b (entry (after past).areas b)) (valid_close b (after past) r) (λ a v e. go (eqb b a) v)
  where
    go : (k : Bool) (v : Option Standing) → ToSource (cond k closes keeps) v × (cond k None v ≡ standing_by (cond k closes keeps) v)
    go true v = (tt, refl)
    go false v = (tt, refl)

-- the port of address b is that of address a exactly if they are one
one_address : (m : Areas) (b a : ℕ) (u v : Standing) → standing m b ≡ Some u → standing m a ≡ Some v → eqb v.port u.port ≡ eqb b a
one_address m b a u v eu ev = go (eqb b a) refl
  where
    go : (c : Bool) → eqb b a ≡ c → eqb v.port u.port ≡ c
    go true e =
        let same : Some u ≡ Some v = sym eu ∙ ap (standing m) (eqb-true b a e) ∙ ev in
        let w : u ≡ v = cc in
        eq-eqb _ _ (sym (ap (λ (x : Standing). x.port) w))
    go false e = ne_eqb _ _ (λ p. eqb-false b a e (sym (distinct m a b v u ev eu p)))

module _ (past : List Call) (b : ℕ) (ws : List ℕ) (r : refusal (write_port b ws) (after past) ≡ 0) where
  abbrev M : Areas
  M = (after past).areas

  abbrev there : Standing
  there = standing_of M (entry M b)

  written_seen : (a : ℕ) (v : Option Standing) → standing M a ≡ v
      → ToSource (cond (eqb b a) (writes ws) keeps) v × (refill_if (entry M b) ws v ≡ standing_by (cond (eqb b a) (writes ws) keeps) v)
  unfolding standing_of
  written_seen a None e = go (eqb b a)
    where
      go : (k : Bool) → ToSource (cond k (writes ws) keeps) None × (None ≡ standing_by (cond k (writes ws) keeps) None)
      go true = (tt, refl)
      go false = (tt, refl)
  written_seen a (Some v) e = rw (one_address M b a there v (found_write b ws (after past) r) e) (go (eqb b a) refl)
    where
      go : (k : Bool) → eqb b a ≡ k
          → ToSource (cond k (writes ws) keeps) (Some v)
          × (Some (cond k (refill ws v) v) ≡ standing_by (cond k (writes ws) keeps) (Some v))
      go true z =
          let same : Some there ≡ Some v = sym (found_write b ws (after past) r) ∙ ap (standing M) (eqb-true b a z) ∙ e in
          let w : there ≡ v = cc in
          (sym (ap (λ (x : Standing). x.sink) w) ∙ write_source b ws (after past) r, refl)
      go false z = (tt, refl)

  -- the invariant holds after an accepted write
  pub write_told : ToldBy past (after past) → ToldBy (write_port b ws ∷ past) (step (write_port b ws) (after past))
  unfolding step effect
  write_told = area_told past (write_port b ws) _ refl (fill (entry M b) ws) (valid_write b ws (after past) r) written_seen

-- the invariant holds after a reading, which changes nothing
pub read_told : (past : List Call) (b : ℕ) → ToldBy past (after past) → ToldBy (read_port b ∷ past) (step (read_port b) (after past))
unfolding step apply
read_told past b = area_told past (read_port b) _ refl untouched nothing (λ a v e. (tt, refl))

-- ---- the host's settings

-- settings change nothing that stands open
set_stands : (past : List Call) (t : Setting) (m : Areas) → ((a : ℕ) → standing m a ≡ told_standing past a (opening_of past a))
    → (a : ℕ) → standing m a ≡ told_standing (setting t ∷ past) a (opening_of (setting t ∷ past) a)
unfolding opening_of answers_since writes_since
set_stands past t m v a = v a ∙ told_same past (setting t ∷ past) a (opening_of past a) (λ w. refl) refl

-- a fresh controller, where the past tells that nothing is waited for or set or was counted
pub fresh_told : (past : List Call) (m : Areas) → Shape m → ((a : ℕ) → standing m a ≡ told_standing past a (opening_of past a))
    → ((q : ℕ) → awaited past q ≡ None) → last_settings past ≡ fresh_settings → frames_judged past ≡ 0 → frames_unsound past ≡ 0
    → Told past fresh_controller m
unfolding fresh_controller
fresh_told past m shape stands waits set judged unsound =
    record {
      holds = record { shape = shape; stands = stands; waits = λ q. sym (waits q); live = tt; short = lit≤ tt };
      chosen = rw set;
      some_time = rw set (lit< tt);
      short_time = rw set (lit≤ tt);
      status = rw set;
      address = rw set;
      fc = rw judged;
      ec = rw unsound;
    }

-- a setting that leaves exchange and times as they are
kept_told : (past : List Call) (t : Setting) (c e : Controller) (m : Areas)
    → e.exchange ≡ c.exchange → e.times ≡ c.times → is_reset t ≡ false → (settings_by t (last_settings past)).reply_time ≡ (last_settings past).reply_time
    → status_now e.device ≡ (last_settings (setting t ∷ past)).status
    → e.device.address ≡ (last_settings (setting t ∷ past)).address
    → e.counts.fc ≡ frames_judged (setting t ∷ past) % 65536 → e.counts.ec ≡ min (frames_unsound (setting t ∷ past)) 65535
    → Told past c m → Told (setting t ∷ past) e m
unfolding awaited last_settings
kept_told past t c e m ex et er ch st ad fc ec h =
    let H = h.holds in
    record {
      holds = record {
        shape = H.shape;
        stands = set_stands past t m H.stands;
        waits = λ q. ap₂ (λ (x : Exchange) (y : Times). wait_now x y q) ex et ∙ H.waits q ∙ rw er;
        live = subst₂ Live (sym ex) (sym et) H.live;
        short = subst (λ (y : Times). y.adopted ≤ 128) (sym et) H.short;
      };
      chosen = ap (λ (y : Times). y.chosen) et ∙ h.chosen ∙ sym ch;
      some_time = rw ch h.some_time;
      short_time = rw ch h.short_time;
      status = st;
      address = ad;
      fc = fc;
      ec = ec;
    }

-- another reply time is chosen: the wait that goes on keeps the one that was adopted
wait_kept : (x : Exchange) (t : Times) (u q : ℕ) → wait_now x (times t.since t.line u t.adopted) q ≡ wait_now x t q
wait_kept Idle t u q = refl
wait_kept (Waiting w) t u q = refl
wait_kept Done t u q = refl

live_kept : (x : Exchange) (t : Times) (u : ℕ) → Live x t → Live x (times t.since t.line u t.adopted)
live_kept Idle t u l = tt
live_kept (Waiting w) t u l = l
live_kept Done t u l = tt

reply_time_lem : (t : ℕ) → is_reply_time t ≡ true → (0 < t) × (t ≤ 128)
reply_time_lem t e = go (eqb t 32) (eqb t 64) (eqb t 96) (eqb t 128) refl refl refl refl e
  where
    go : (a b c d : Bool) → eqb t 32 ≡ a → eqb t 64 ≡ b → eqb t 96 ≡ c → eqb t 128 ≡ d → (a || b || c || d) ≡ true → (0 < t) × (t ≤ 128)
    go true b c d ea eb ec ed e = omega (arith, eqb-true t 32 ea)
    go false true c d ea eb ec ed e = omega (arith, eqb-true t 64 eb)
    go false false true d ea eb ec ed e = omega (arith, eqb-true t 96 ec)
    go false false false true ea eb ec ed e = omega (arith, eqb-true t 128 ed)
    go false false false false ea eb ec ed e = absurd (false≢true e)

module _ (past : List Call) (c : Controller) (m : Areas) (h : Told past c m) where
  time_told : (t : ℕ) → is_reply_time t ≡ true → Told (setting (reply_time t) ∷ past) (tell (reply_time t) c) m
  unfolding tell awaited frames_judged frames_unsound count_since last_settings
  time_told t e =
      let H = h.holds in
      let r = reply_time_lem t e in
      record {
        holds = record {
          shape = H.shape;
          stands = set_stands past (reply_time t) m H.stands;
          waits = λ q. wait_kept c.exchange c.times t q ∙ H.waits q;
          live = live_kept c.exchange c.times t H.live;
          short = H.short;
        };
        chosen = refl;
        some_time = r.0;
        short_time = r.1;
        status = h.status;
        address = h.address;
        fc = h.fc;
        ec = h.ec;
      }

  reset_told : Told (setting reset ∷ past) (tell reset c) m
  unfolding tell awaited frames_judged frames_unsound count_since last_settings
  reset_told = fresh_told (setting reset ∷ past) m h.holds.shape (set_stands past reset m h.holds.stands) (λ q. refl) refl refl refl

  -- the invariant holds after a setting that is in range
  pub set_told : (t : Setting) → setting_out t ≡ false → Told (setting t ∷ past) (tell t c) m
  unfolding tell frames_judged frames_unsound count_since last_settings
  set_told (address a) e = kept_told past (address a) c (tell (address a) c) m refl refl refl refl h.status refl h.fc h.ec h
  set_told (status w) e = kept_told past (status w) c (tell (status w) c) m refl refl refl refl refl h.address h.fc h.ec h
  set_told (reply_time t) e = time_told t (not-false _ e)
  set_told (slm b) e = kept_told past (slm b) c (tell (slm b) c) m refl refl refl refl h.status h.address h.fc h.ec h
  set_told (ls b) e = kept_told past (ls b) c (tell (ls b) c) m refl refl refl refl h.status h.address h.fc h.ec h
  set_told ec_clear e = kept_told past ec_clear c (tell ec_clear c) m refl refl refl refl h.status h.address h.fc refl h
  set_told reset e = reset_told
  set_told (group0 g) e = kept_told past (group0 g) c (tell (group0 g) c) m refl refl refl refl h.status h.address h.fc h.ec h
  set_told (group1 g) e = kept_told past (group1 g) c (tell (group1 g) c) m refl refl refl refl h.status h.address h.fc h.ec h
