-- The ages of a run, from the past alone: an open sink's age is the milliseconds that ended since its last taken frame or its opening, and
-- asking answers stale exactly when document 02 says so. Assumes nothing.
use Prim.Native.Nat.{ℕ, ◌%◌, ◌≤◌, min}
use mathlib.Core.Path.{◌≡◌, refl, sym, ◌∙◌, ap}
use mathlib.Core.Logic.{◌↔◌}
use mathlib.Core.Bool.{Bool, true, false, cond, not, ◌&&◌, true≢false, false≢true}
use mathlib.Core.List.{List, [], ◌∷◌}
use Rattle.std.specs.Prelude.{None, Some}
use Rattle.std.proofs.lemmas.Option.{none-some}
use native.Mathlib.Omega.{arith}
use lib.Dec.{eqb, leb}
use borrow.Author.Tests.{eqb-true, eqb-false, leb-true, le-leb}
use Rattle.model.specs.Answer.{Stale}
use Rattle.model.specs.Layout.{Areas, entry, flags_of}
use Rattle.model.specs.Ports.{Standing, standing_of, standing, is_held, too_old, state_of, oldest}
use Rattle.model.specs.Quiet.{millisecond}
use Rattle.model.specs.Calls.{Call, refusal, effect, step, asked, start}
use Rattle.model.specs.Host.{fresh_controller, Setting, address, status, reply_time, slm, ls, ec_clear, reset, group0, group1, tell}
use Rattle.model.specs.Past.{Happening, hears, passes, sets, changes, happening, change_of, anew, is_reset, Accepted, after, Typed}
use Rattle.model.specs.Past.{Opening, opening_of, last_of, fillings}
use Rattle.model.specs.Differ.{ByHost, Hosts}
use Rattle.model.specs.StatusBits.{faults_told}
use Rattle.model.specs.Age.{quiet_by, quiet_since, age_by, age_since, age_told, words_now, is_filled, asked_told, IsStale}
use Rattle.model.proofs.Standings.{standing_at_lem}
use Rattle.model.proofs.Invariant.{ToldBy}
use Rattle.model.proofs.Reading.{whole, readable, stale_exactly}
use Rattle.model.proofs.Told.{past_told}
use Rattle.model.proofs.HostCalls.{Sort, event, pause, host, sort, hosted, host_step, host_valid}
use Rattle.model.proofs.Renewed.{open_standing, host_renews, renewed}
use Rattle.model.proofs.StatusKept.{past_faults}
use Rattle.model.proofs.AgesKept.{age_apply, AgesTold, hear_ages, quiet_ages}

-- ---- the host's calls

module _ (past : List Call) (h : ToldBy past (after past)) (told : AgesTold past (after past).controller (after past).areas) where
  -- a reset restarts the phase, and nothing else does
  set_phase : (t : Setting) → (tell t (after past).controller).phase ≡ cond (is_reset t) 0 (quiet_since past) % millisecond
  unfolding tell fresh_controller
  set_phase (address a) = told.phase
  set_phase (status w) = told.phase
  set_phase (reply_time n) = told.phase
  set_phase (slm b) = told.phase
  set_phase (ls b) = told.phase
  set_phase ec_clear = told.phase
  set_phase reset = refl
  set_phase (group0 g) = told.phase
  set_phase (group1 g) = told.phase

  host_phase : (x : Happening) → ByHost x → (hosted x (after past).controller).phase ≡ quiet_by x (quiet_since past) % millisecond
  host_phase (hears a b) hosts = absurd hosts
  host_phase (passes n) hosts = absurd hosts
  host_phase (sets t) hosts = set_phase t
  host_phase (changes f) hosts = told.phase

  host_age : (x : Happening) → ByHost x → (a w : ℕ) → age_by past a w x (age_since past a w) ≡ anew 0 (change_of x a) (age_since past a w)
  host_age (hears x y) hosts a w = absurd hosts
  host_age (passes n) hosts a w = absurd hosts
  host_age (sets t) hosts a w = refl
  host_age (changes f) hosts a w = refl

  host_ages : (c : Call) → Hosts c → refusal c (after past) ≡ 0
      → AgesTold (c ∷ past) (step c (after past)).controller (step c (after past)).areas
  unfolding age_since quiet_since
  host_ages c hosts r =
      rw (host_step c hosts (after past))
      (record {
        phase = host_phase (happening c) hosts;
        ages =
            λ a o e.
            age_apply (after past).areas h.holds.shape.fits (effect c (after past)) (host_valid c hosts (after past) r) o.port
            ∙ renewed 0 (min oldest) refl past c a o (host_renews past h c hosts r a o e) _ (age_since past a o.word) (told.ages a o)
            ∙ ap (λ (n : ℕ). cond o.sink (min oldest n) 0) (sym (host_age (happening c) hosts a o.word));
      })

-- ---- any run

start_ages : AgesTold [] start.controller start.areas
unfolding start fresh_controller quiet_since opening_of
start_ages = record { phase = refl; ages = λ a o e. let z : ◌≡◌ {A = ℕ} 0 1 = cc in absurd (omega arith) }

step_ages : (past : List Call) (c : Call) → Sort c → Typed c → refusal c (after past) ≡ 0 → ToldBy past (after past)
    → AgesTold past (after past).controller (after past).areas
    → AgesTold (c ∷ past) (step c (after past)).controller (step c (after past)).areas
step_ages past c (event {a} {b}) ty r h told = hear_ages past a b ty h told
step_ages past c (pause {n}) ty r h told = quiet_ages past n h told
step_ages past c (host hosts) ty r h told = host_ages past h told c hosts r

-- After every past of accepted calls the phase and every open port's age are what the past tells.
pub past_ages : (past : List Call) → Accepted past → AgesTold past (after past).controller (after past).areas
unfolding after
past_ages [] acc = start_ages
past_ages (c ∷ past) acc = step_ages past c (sort c) acc.0 acc.1 (past_told past acc.2) (past_ages past acc.2)

-- ---- the tests of a state

filled_some : (l : List (List ℕ)) → (is_filled l ≡ true) ↔ (l ≡ [] → ⊥)
filled_some [] = (λ p. absurd (false≢true p), λ n. absurd (n refl))
filled_some (ws ∷ l) = (λ p e. true≢false (ap is_filled e), λ n. refl)

old_exactly : (limit age : ℕ) → (too_old limit age ≡ true) ↔ ((limit ≡ 0 → ⊥) × (limit ≤ age))
old_exactly limit age = by (eqb limit 0) refl
  where
    by : (b : Bool) → eqb limit 0 ≡ b → ((not b && leb limit age) ≡ true) ↔ ((limit ≡ 0 → ⊥) × (limit ≤ age))
    by true e = (λ p. absurd (false≢true p), λ p. absurd (p.0 (eqb-true _ _ e)))
    by false e = (λ p. (eqb-false _ _ e, leb-true _ _ p), λ p. le-leb _ _ p.1)

-- ---- what the past tells of an open port

module _ (past : List Call) (run : Accepted past) (a : ℕ) (o : Opening) (stands : opening_of past a ≡ Some o) where
  told_age : (words_now past o).age ≡ age_told past a o
  told_age = (past_ages past run).ages a o stands

  -- The age of an open sink is the milliseconds that ended since its last taken frame, or since its opening, at most 65,535.
  pub age_told_lem : o.sink ≡ true → (words_now past o).age ≡ min oldest (age_since past a o.word)
  age_told_lem side = told_age ∙ rw side

  -- The age of a source is 0.
  pub source_young : o.sink ≡ false → (words_now past o).age ≡ 0
  source_young side = told_age ∙ rw side

  -- The status bits of an open sink are what the last exchange of its master word left since it was opened; a source has none.
  pub faults_told_lem : (flags_of (words_now past o).flags).faults ≡ faults_told past a o
  faults_told_lem = past_faults past run a o stands

  abbrev now : Areas
  now = (after past).areas

  there : standing now a ≡ Some (open_standing past a o)
  there = (past_told past run).holds.stands a ∙ rw stands

  port_here : entry now a ≡ o.port
  port_here = sym (standing_at_lem now a (open_standing past a o) there).port

  limit_here : (words_now past o).limit ≡ o.limit
  unfolding standing_of
  limit_here = sym (ap (λ (v : Standing). v.limit) (standing_at_lem now a (open_standing past a o) there).whole)

  -- ever filled exactly if something filled it
  ever_filled : (flags_of (words_now past o).flags).ever ≡ is_filled (fillings past a o)
  ever_filled =
      go (flags_of (words_now past o).flags).ever _ (fillings past a o)
      (rw port_here at (whole now (past_told past run).holds.shape a (open_standing past a o) there))
    where
      go : (e : Bool) (ws : List ℕ) (l : List (List ℕ)) → last_of l ≡ cond e (Some ws) None → e ≡ is_filled l
      go true ws [] i = absurd (none-some ws i)
      go true ws (v ∷ l) i = refl
      go false ws [] i = refl
      go false ws (v ∷ l) i = absurd (none-some v (sym i))

  -- What asking answers of an open port is what the past tells: never if nothing filled it; held if its last exchange failed; stale if its limit
  -- is nonzero and its age at or above it; else good.
  pub asked_told_lem : asked now a ≡ asked_told past a o
  unfolding asked state_of
  asked_told_lem =
      rw (readable now (past_told past run).holds.shape a (open_standing past a o) there, port_here, ever_filled, faults_told_lem, limit_here, told_age)

  -- Asking answers stale exactly if the port was filled, STO and TERR are clear, its limit is nonzero, and its age is at or above it.
  pub ask_stale : (asked now a ≡ Stale) ↔ IsStale past a o
  ask_stale =
      let tests = stale_exactly (is_filled (fillings past a o)) (is_held (faults_told past a o)) (too_old o.limit (age_told past a o)) in
      let some-fill = filled_some (fillings past a o) in
      let old = old_exactly o.limit (age_told past a o) in
      rw asked_told_lem (
        λ e.
            let t = tests.0 e in
            record { filled = some-fill.0 t.0; faultless = t.1; supervised = (old.0 t.2).0; old = (old.0 t.2).1 },
        λ s. tests.1 (some-fill.1 s.filled, s.faultless, old.1 (s.supervised, s.old)),
      )

  -- A source is never stale.
  pub source_fresh : o.sink ≡ false → asked now a ≡ Stale → ⊥
  source_fresh side e =
      let s = ask_stale.0 e in
      let young : age_told past a o ≡ 0 = rw side in
      s.supervised (omega (arith, s.old))
