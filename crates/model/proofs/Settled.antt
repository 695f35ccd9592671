-- What follows from `MayDiffer`: with no port in doubt the areas are equal word for word, ages aside; asking answers the same, good against
-- stale aside, at every address but the doubtful port's; every call is answered with the same number, and every master frame with the same
-- reply. Assumes nothing.
use Prim.Native.Nat.{ℕ}
use mathlib.Core.Path.{◌≡◌, refl, sym, ◌∙◌, ap, ap₂}
use mathlib.Core.Logic.{◌⊎◌, inl, inr}
use mathlib.Core.Bool.{Bool, true, false, cond, true≢false}
use mathlib.Core.List.{List, [], ◌∷◌, ◌++◌}
use Rattle.std.specs.Prelude.{Option, None, Some}
use native.Mathlib.Omega.{arith}
use lib.Dec.{eqb}
use borrow.Author.Tests.{eqb-true, eq-eqb}
use Rattle.frames.specs.declared.Hearing.{Hearing}
use Rattle.model.specs.Answer.{Answer}
use Rattle.model.specs.Answer.{Refused}
use Rattle.model.specs.declared.Flags.{Flags}
use Rattle.model.specs.declared.Words.{Words}
use Rattle.model.specs.Layout.{Areas, entry, port_at, flags_of}
use Rattle.model.specs.Ports.{code_of, is_held, too_old, state_by, state_of, Standing, standing}
use Rattle.model.specs.Event.{World}
use Rattle.model.specs.Calls.{Call, hear, read_port, no_port, fresh_over, port_refusal, refusal, answer, asked, fetched}
use Rattle.model.specs.Past.{after, Accepted, first_word}
use Rattle.model.specs.Taken.{ageless, ButAges}
use Rattle.model.specs.Damage.{Damage, SoundMaster}
use Rattle.model.specs.Differ.{AllHosts, Follows, ended, then, waiting_address, finishes, remains, doubtful, stale_aside}
use Rattle.model.proofs.PortDoubt.{port_at_address}
use Rattle.model.proofs.ButPort.{ButPort}
use Rattle.model.proofs.Formed.{lengths}
use Rattle.model.proofs.Refused.{accepted}
use Rattle.model.proofs.Standings.{none_entry}
use Rattle.model.proofs.Reading.{fetches}
use Rattle.model.proofs.Empty.{empty_exactly}
use Rattle.model.proofs.Same.{Alike, same_entry}
use Rattle.model.proofs.Alike.{refuses_same}
use Rattle.model.proofs.Told.{past_told}
use Rattle.model.proofs.ByAddress.{here_alone, waiting_address_lem}
use Rattle.model.proofs.MayDiffer.{near_between, Joined, joined}
use Rattle.model.proofs.Damage.{same_reply}

-- ---- no port in doubt

areas_but_ages : (m n : Areas) → Alike n m → ButPort None m n → ButAges m n
areas_but_ages m n k b =
    record {
      index = b.only.index;
      long = (lengths n k.shape.fits).ports ∙ sym (lengths m k.shape'.fits).ports;
      ports = λ p. b.same p (λ e. let z : ◌≡◌ {A = ℕ} 0 1 = cc in omega arith);
      page0 = b.only.page0;
      page1 = b.only.page1;
    }

-- ---- asking

-- the state of a port but for its age: by its flags
abbrev flags_state : Flags → Answer
flags_state f = state_by f.ever (is_held f.faults) false

state_aside : (w : Words) → stale_aside (state_of w) ≡ flags_state (flags_of w.flags)
unfolding state_of
state_aside w = go (flags_of w.flags).ever (is_held (flags_of w.flags).faults) (too_old w.limit w.age)
  where
    go : (e h s : Bool) → stale_aside (state_by e h s) ≡ state_by e h false
    go true true s = refl
    go true false true = refl
    go true false false = refl
    go false h s = refl

asked_aside : (m : Areas) (a : ℕ)
    → stale_aside (asked m a)
    ≡ cond (eqb (port_refusal (read_port a) m) 0) (flags_state (flags_of (port_at m (entry m a)).flags)) (Refused (port_refusal (read_port a) m))
unfolding asked
asked_aside m a = go (eqb (port_refusal (read_port a) m) 0)
  where
    go : (b : Bool)
        → stale_aside (cond b (state_of (port_at m (entry m a))) (Refused (port_refusal (read_port a) m)))
        ≡ cond b (flags_state (flags_of (port_at m (entry m a)).flags)) (Refused (port_refusal (read_port a) m))
    go true = state_aside (port_at m (entry m a))
    go false = refl

asked_but : (m n : Areas) → Alike n m → (o : Option ℕ) → ButPort o m n → (a : ℕ) → (o ≡ Some (entry m a) → ⊥)
    → stale_aside (asked n a) ≡ stale_aside (asked m a)
unfolding port_refusal
asked_but m n k o b a x =
    let r : refusal (read_port a) (fresh_over n) ≡ refusal (read_port a) (fresh_over m) = refuses_same (fresh_over n) (fresh_over m) k (read_port a) in
    let w : ageless (port_at n (entry n a)) ≡ ageless (port_at m (entry m a)) =
    ap (λ (p : ℕ). ageless (port_at n p)) (same_entry n m k a) ∙ b.same (entry m a) x in
    asked_aside n a
    ∙ ap₂ (λ (f : ℕ) (q : ℕ). cond (eqb q 0) (flags_state (flags_of f)) (Refused q)) (ap (λ (v : Words). v.flags) w) r
    ∙ sym (asked_aside m a)

-- ---- fetching

-- asking refuses where no port stands
closed_refused : (m : Areas) (a : ℕ) → entry m a ≡ 0 → (n : ℕ) × (asked m a ≡ Refused n)
unfolding asked port_refusal
closed_refused m a z = go (eqb (refusal (read_port a) (fresh_over m)) 0) refl
  where
    go : (b : Bool) → eqb (refusal (read_port a) (fresh_over m)) 0 ≡ b
        → (n : ℕ) × (cond b (state_of (port_at m (entry m a))) (Refused (refusal (read_port a) (fresh_over m))) ≡ Refused n)
    go true e = absurd (true≢false (sym (eq-eqb _ 0 z) ∙ accepted (read_port a) (fresh_over m) (eqb-true _ _ e) no_port))
    go false e = (refusal (read_port a) (fresh_over m), refl)

-- so nothing is fetched there
closed_empty : (m : Areas) (a : ℕ) → entry m a ≡ 0 → fetched m a ≡ []
closed_empty m a z = (empty_exactly m a).1 (inl (inr (closed_refused m a z)))

fetched_alike : (m n : Areas) → Alike n m → (a : ℕ) → fetched n a ≡ fetched m a
fetched_alike m n k a = go (standing m a) refl
  where
    go : (o : Option Standing) → standing m a ≡ o → fetched n a ≡ fetched m a
    go None e =
        let z = none_entry m a k.shape' e in
        closed_empty n a (same_entry n m k a ∙ z) ∙ sym (closed_empty m a z)
    go (Some v) e = fetches n k.shape a v (k.stands a ∙ e) ∙ sym (fetches m k.shape' a v e)

-- ---- after a stretch of damage, any host calls, a sound master frame, and any calls heard alike

module _ (before stretch calls : List Call) (d : Damage before stretch) (f : Follows calls) (acc : Accepted (calls ++ (stretch ++ before))) where
  abbrev damaged : World
  damaged = after (calls ++ (stretch ++ before))

  abbrev clean : World
  clean = after (calls ++ before)

  -- the address in doubt
  abbrev doubt : Option ℕ
  doubt = doubtful before (waiting_address before) calls

  shorter : Accepted (calls ++ before)
  shorter = (joined before stretch d calls f acc).0

  both : Joined (port_at_address (calls ++ before) doubt) clean damaged
  both = rw (waiting_address_lem before calls shorter) (joined before stretch d calls f acc).1

  -- Once the port that waited has finished an exchange, or if none waited, the four areas are equal word for word, ages aside.
  pub areas_same : doubt ≡ None → ButAges clean.areas damaged.areas
  areas_same e =
      areas_but_ages clean.areas damaged.areas both.same.areas (rw e at both.but)

  -- Asking answers the same, good against stale aside, at every address but the one in doubt: good against held there alone.
  pub asked_same : (a : ℕ) → (doubt ≡ Some a → ⊥) → stale_aside (asked damaged.areas a) ≡ stale_aside (asked clean.areas a)
  asked_same a n =
      asked_but clean.areas damaged.areas both.same.areas _ both.but a
      (λ e. n (here_alone (calls ++ before) (past_told (calls ++ before) shorter) doubt a e))

  -- Fetching hands back the same at every address, the doubtful port's too.
  pub fetched_same : (a : ℕ) → fetched damaged.areas a ≡ fetched clean.areas a
  fetched_same a = fetched_alike clean.areas damaged.areas both.same.areas a

  -- Every call is answered with the same number.
  pub numbers_same : (c : Call) → refusal c damaged ≡ refusal c clean
  numbers_same c = refuses_same damaged clean both.same.areas c

-- The master frame that ends the stretch gets the same reply, after any host calls; a status poll is not spoken of.
pub first_reply : (before stretch between : List Call) (x : Hearing) → SoundMaster x → (code_of (first_word x) ≡ 15 → ⊥)
    → AllHosts between → Damage before stretch
    → Accepted (between ++ (stretch ++ before))
    → answer (hear x x) (after (between ++ (stretch ++ before))) ≡ answer (hear x x) (after (between ++ before))
first_reply before stretch between x m poll hs d acc =
    same_reply (after (between ++ (stretch ++ before))) (after (between ++ before)) (near_between before stretch between d hs acc).1.areas x poll

-- And every host call among them is answered with the same number: it is refused in both runs, or in neither.
pub host_numbers_same : (before stretch between : List Call) → AllHosts between → Damage before stretch
    → Accepted (between ++ (stretch ++ before)) → (c : Call)
    → refusal c (after (between ++ (stretch ++ before))) ≡ refusal c (after (between ++ before))
host_numbers_same before stretch between hs d acc c =
    refuses_same (after (between ++ (stretch ++ before))) (after (between ++ before))
    (near_between before stretch between d hs acc).1.areas c

-- ---- accepted in one run, accepted in the other

between_back : (before stretch between : List Call) → Damage before stretch → AllHosts between → Accepted (stretch ++ before)
    → Accepted (between ++ before) → Accepted (between ++ (stretch ++ before))
between_back before stretch [] d hs long short = long
between_back before stretch (c ∷ between) d hs long short =
    let r = between_back before stretch between d hs.1 long short.2 in
    (short.0, host_numbers_same before stretch between hs.1 d r c ∙ short.1, r)

-- If the stretch was accepted, then the calls after it are accepted exactly where they are without it.
pub accepted_back : (before stretch : List Call) → Damage before stretch → Accepted (stretch ++ before) → (calls : List Call)
    → Follows calls → Accepted (calls ++ before) → Accepted (calls ++ (stretch ++ before))
accepted_back before stretch d long calls (ended {x} {between} m hs) short =
    let r = between_back before stretch between d hs long short.2 in
    (short.0, host_numbers_same before stretch between hs d r (hear x x) ∙ short.1, r)
accepted_back before stretch d long calls (then {c} {calls = later} al f) short =
    let r = accepted_back before stretch d long later f short.2 in
    (short.0, numbers_same before stretch later d f r c ∙ short.1, r)

-- ---- the address in doubt is the one that waited, and a finished exchange there ends the doubt for good

-- The address in doubt after any calls is the one that was at first, or there is none.
pub one_doubt : (past : List Call) (o : Option ℕ) (calls : List Call) → (doubtful past o calls ≡ o) ⊎ (doubtful past o calls ≡ None)
unfolding doubtful
one_doubt past o [] = inl refl
one_doubt past o (c ∷ calls) = go (doubtful past o calls) (one_doubt past o calls)
  where
    go : (x : Option ℕ) → (x ≡ o) ⊎ (x ≡ None)
        → (remains (finishes (calls ++ past) c) x ≡ o) ⊎ (remains (finishes (calls ++ past) c) x ≡ None)
    go None r = inr refl
    go (Some a) r = by (finishes (calls ++ past) c a)
      where
        by : (b : Bool) → (cond b None (Some a) ≡ o) ⊎ (cond b None (Some a) ≡ None)
        by true = inr refl
        by false = r

no_more : (past : List Call) (o : Option ℕ) (later calls : List Call) → doubtful past o calls ≡ None → doubtful past o (later ++ calls) ≡ None
unfolding doubtful
no_more past o [] calls e = e
no_more past o (c ∷ later) calls e = rw (no_more past o later calls e)

-- After a call that finishes the exchange at that address none is in doubt, whatever calls follow.
pub doubt_ends : (past : List Call) (a : ℕ) (later calls : List Call) (c : Call) → finishes (calls ++ past) c a ≡ true
    → doubtful past (Some a) (later ++ (c ∷ calls)) ≡ None
unfolding doubtful
doubt_ends past a later calls c e = no_more past (Some a) later (c ∷ calls) (go (one_doubt past (Some a) calls))
  where
    go : (doubtful past (Some a) calls ≡ Some a) ⊎ (doubtful past (Some a) calls ≡ None)
        → remains (finishes (calls ++ past) c) (doubtful past (Some a) calls) ≡ None
    go (inl i) = rw (i, e)
    go (inr i) = rw i
