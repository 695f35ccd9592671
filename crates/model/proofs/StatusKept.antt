-- The status bits of a run, from the past alone: those of an open sink are what the last exchange of its master word left since it was opened.
-- Assumes nothing.
use Prim.Native.Nat.{ℕ, zero, suc, ◌+◌, ◌≤◌, ◌<◌}
use mathlib.Core.Path.{◌≡◌, refl, sym, ◌∙◌, ap}
use mathlib.Core.Bool.{Bool, true, false, cond, not, ◌&&◌, false≢true, and-true, and-false, and-not_self}
use mathlib.Core.List.{List, [], ◌∷◌}
use Rattle.std.specs.Prelude.{Option, None, Some}
use Rattle.std.proofs.lemmas.Option.{none-some}
use native.Mathlib.Omega.{arith}
use lib.Dec.{eqb, leb, ltb}
use lib.ListN.{length}
use borrow.Author.Tests.{eqb-true, leb-false, ltb-true, lt-ltb}
use Rattle.frames.specs.declared.Kind.{Kind}
use Rattle.frames.specs.declared.Kind.TheVariants.{Silence, Noise, Master as MasterFrame, Slave as SlaveFrame}
use Rattle.frames.specs.declared.Hearing.{Hearing}
use Rattle.frames.specs.declared.Judgement.{Judgement}
use Rattle.frames.specs.declared.Judgement.TheVariants.{Sound, Unsound as Bad}
use Rattle.frames.specs.Judge.{judged_master, judged_slave}
use Rattle.model.specs.declared.Exchange.{Exchange}
use Rattle.model.specs.declared.Exchange.TheVariants.{Idle, Waiting, Done}
use Rattle.model.specs.declared.Times.{Times}
use Rattle.model.specs.declared.Words.{Words}
use Rattle.model.specs.declared.Faults.{Faults}
use Rattle.model.specs.Layout.{Areas, areas_fit, port_at, bit_at, flags_of}
use Rattle.model.specs.Ports.{code_of, Standing, standing, no_faults, reply_missing, turned, filled_words, faulty, marked_words, open_words}
use Rattle.model.specs.Ports.{Effect, untouched, fill, mark, opened, closed, filled, apply}
use Rattle.model.specs.Event.{World, as_master, as_heard, heard, heard_by, sink_for, taken}
use Rattle.model.specs.Quiet.{since_later, expired, exchange_later, times_later, missed, effect_later, due, pulse, pulse_effect, pulses}
use Rattle.model.specs.Calls.{Call, hear, quiet, open_port, close_port, write_port, read_port, setting, refusal, effect, step}
use Rattle.model.specs.Past.{change_of, Happening, hears, passes, sets, changes, happening, anew, after, Typed, Accepted}
use Rattle.model.specs.Past.{on_trusted, is_slave, awaited, is_word, Opening, opening_of}
use Rattle.model.specs.Differ.{ByHost, Hosts}
use Rattle.model.specs.StatusBits.{faults_judged, faults_by, faults_since, faults_told}
use Rattle.model.proofs.Shape.{Valid, nothing, filling, marking, opening, closing}
use Rattle.model.proofs.PortWords.{read_with}
use Rattle.model.proofs.Bits.{flags_of_word}
use Rattle.model.proofs.Formed.{room, open_flags}
use Rattle.model.proofs.ShapeKept.{at_here}
use Rattle.model.proofs.Tables.{effect_of, hear_effect_lem}
use Rattle.model.proofs.Waits.{wait_now, Live, waits_now, waits_later}
use Rattle.model.proofs.Taken.{none_found, found_port, valid_heard}
use Rattle.model.proofs.Grown.{pulses_fits, ticks_grown, grown_ages}
use Rattle.model.proofs.Holds.{HoldsAt, later_valid, pulse_holds}
use Rattle.model.proofs.Invariant.{one_of, ToldBy}
use Rattle.model.proofs.Told.{past_told}
use Rattle.model.proofs.ToldPort.{told_standing}
use Rattle.model.proofs.HostCalls.{Sort, event, pause, host, sort, host_step, host_valid}
use Rattle.model.proofs.Renewed.{renews, open_standing, host_renews, renewed}

-- ---- the status bits of a port after an effect

-- the status bits in port words
abbrev faults_in : Words → Faults
faults_in w = (flags_of w.flags).faults

-- the status bits of port p
abbrev pub faults_at : Areas → ℕ → Faults
faults_at m p = faults_in (port_at m p)

-- a mark leaves its own, and what sets a port anew leaves none
abbrev faults_after : Effect → ℕ → Faults → Faults
faults_after untouched q f = f
faults_after (fill p ws) q f = cond (eqb q p) no_faults f
faults_after (mark p x) q f = cond (eqb q p) x f
faults_after (opened a p code sink i limit) q f = cond (eqb q p) no_faults f
faults_after (closed a p) q f = cond (eqb q p) no_faults f

module _ (m : Areas) (fits : areas_fit m ≡ true) where
  faults_apply : (e : Effect) → Valid m e → (q : ℕ) → faults_at (apply e m) q ≡ faults_after e q (faults_at m q)
  unfolding apply filled filled_words marked_words open_words flags_of bit_at
  faults_apply e nothing q = refl
  faults_apply e (filling {p = p} at size) q =
      read_with faults_in m.ports p (filled_words (port_at m p)) (room m fits p (at_here at).small) q
      ∙ ap (λ (f : Faults). cond (eqb q p) f (faults_at m q)) (ap (λ x. x.faults) (flags_of_word (turned (flags_of (port_at m p).flags))))
  faults_apply e (marking {p = p} {x = x} at) q =
      read_with faults_in m.ports p (marked_words (port_at m p) x) (room m fits p (at_here at).small) q
      ∙ ap (λ (f : Faults). cond (eqb q p) f (faults_at m q)) (ap (λ x. x.faults) (flags_of_word (faulty (flags_of (port_at m p).flags) x)))
  faults_apply e (opening {a} {p} {code} {sink} {i} {limit} ha pos hp hc hi free unused) q =
      read_with faults_in m.ports p (open_words a code sink i limit) (room m fits p hp) q
      ∙ ap (λ (f : Faults). cond (eqb q p) f (faults_at m q)) (ap (λ x. x.faults) (flags_of_word (open_flags sink)))
  faults_apply e (closing {p = p} at) q = read_with faults_in m.ports p _ (room m fits p (at_here at).small) q

-- ---- a bus event

-- a slave frame is judged for the sink whose word is waited for; no other frame concerns the status bits of any port
heard_faults : (m : Areas) (h : Hearing) (k : Kind) (x : Exchange) (t : Times) → Live x t → (a : ℕ) (v : Standing) → standing m a ≡ Some v
    → (f : Faults)
    → faults_after (effect_of m (as_heard k x h) h) v.port f
    ≡ cond (v.sink && (is_slave k && is_word (wait_now x t 0) v.word)) (faults_judged (judged_slave (code_of v.word) h) h) f
heard_faults m h Silence x t l a v e f = rw (and-false v.sink)
heard_faults m h Noise x t l a v e f = rw (and-false v.sink)
heard_faults m h MasterFrame x t l a v e f = go (judged_master h) ∙ rw (and-false v.sink)
  where
    go : (j : Judgement) → faults_after (effect_of m (as_master j h) h) v.port f ≡ f
    go Sound = refl
    go (Bad wrong) = refl
heard_faults m h SlaveFrame Idle t l a v e f = rw (and-false v.sink)
heard_faults m h SlaveFrame Done t l a v e f = rw (and-false v.sink)
heard_faults m h SlaveFrame (Waiting w) t l a v e f = rw (waits_now w t l) (go (sink_for m w) refl)
  where
    judged : (j : Judgement) → judged_slave (code_of w) h ≡ j → (s b : Bool) → eqb w v.word ≡ b
        → cond (s && b) (faults_judged j h) f ≡ cond (s && b) (faults_judged (judged_slave (code_of v.word) h) h) f
    judged j ej true true eb =
        let same : judged_slave (code_of v.word) h ≡ j = ap (λ (x : ℕ). judged_slave (code_of x) h) (sym (eqb-true w v.word eb)) ∙ ej in
        ap (λ (x : Judgement). faults_judged x h) (sym same)
    judged j ej true false eb = refl
    judged j ej false b eb = refl

    found : (u : Standing) → sink_for m w ≡ Some u → (j : Judgement) → judged_slave (code_of w) h ≡ j
        → faults_after (taken (Some u) j h) v.port f
        ≡ cond (v.sink && eqb w v.word) (faults_judged (judged_slave (code_of v.word) h) h) f
    found u eu Sound ej = rw (found_port m w u eu a v e) (judged Sound ej v.sink (eqb w v.word) refl)
    found u eu (Bad wrong) ej = rw (found_port m w u eu a v e) (judged (Bad wrong) ej v.sink (eqb w v.word) refl)

    go : (o : Option Standing) → sink_for m w ≡ o
        → faults_after (taken o (judged_slave (code_of w) h) h) v.port f
        ≡ cond (v.sink && eqb w v.word) (faults_judged (judged_slave (code_of v.word) h) h) f
    go None eo = rw (none_found m w eo a v e)
    go (Some u) eo = found u eo (judged_slave (code_of w) h) refl

-- ---- quiet time

-- the wait for w ends between q and r bit times
abbrev ends_between : (ℕ → Option ℕ) → ℕ → ℕ → ℕ → Bool
ends_between W w q r = is_word (W q) w && not (is_word (W r) w)

-- the rules of a bit time: a sink whose wait ends is told that the reply is missing
late_faults : (m : Areas) (x : Exchange) (t : Times) → Live x t → t.adopted ≤ 128 → (a : ℕ) (v : Standing) → standing m a ≡ Some v → (f : Faults)
    → faults_after (effect_later m (expired x t)) v.port f ≡ cond (v.sink && ends_between (wait_now x t) v.word 0 1) reply_missing f
late_faults m Idle t l short a v e f = rw (and-false v.sink)
late_faults m Done t l short a v e f = rw (and-false v.sink)
late_faults m (Waiting w) t l short a v e f =
    rw (waits_now w t l, ← (waits_later (Waiting w) t l short 0)) (go (leb t.adopted (since_later t)) refl)
  where
    go : (b : Bool) → leb t.adopted (since_later t) ≡ b
        → faults_after (effect_later m (cond b (Some w) None)) v.port f
        ≡ cond (v.sink
        && (eqb w v.word && not (is_word (wait_now (exchange_later (Waiting w) (cond b (Some w) None)) (times_later t) 0) v.word))) reply_missing f
    go true late = rw (and-true (eqb w v.word)) (by (sink_for m w) refl)
      where
        by : (o : Option Standing) → sink_for m w ≡ o
            → faults_after (missed o) v.port f ≡ cond (v.sink && eqb w v.word) reply_missing f
        by None eo = rw (none_found m w eo a v e)
        by (Some u) eo = rw (found_port m w u eo a v e)
    go false late = rw (waits_now w (times_later t) (leb-false _ _ late), and-not_self (eqb w v.word), and-false v.sink)

-- what is waited for after more bit times is waited for before them
sooner : (x : Exchange) (t : Times) (n q w : ℕ) → is_word (wait_now x t (n + q)) w ≡ true → is_word (wait_now x t q) w ≡ true
sooner Idle t n q w e = e
sooner Done t n q w e = e
sooner (Waiting v) t n q w e = go (ltb (t.since + (n + q)) t.adopted) refl e
  where
    go : (b : Bool) → ltb (t.since + (n + q)) t.adopted ≡ b → is_word (cond b (Some v) None) w ≡ true
        → is_word (wait_now (Waiting v) t q) w ≡ true
    go true eb ew =
        let l : t.since + (n + q) < t.adopted = ltb-true _ _ eb in
        rw (lt-ltb (t.since + q) t.adopted (omega arith)) ew
    go false eb ew = absurd (false≢true ew)

-- a wait that ends in the first bit time or in those after it
in_turn : (s b c d : Bool) → (c ≡ true → b ≡ true) → (d ≡ true → c ≡ true) → (f : Faults)
    → cond (s && (c && not d)) reply_missing (cond (s && (b && not c)) reply_missing f) ≡ cond (s && (b && not d)) reply_missing f
in_turn false b c d p q f = refl
in_turn true true true d p q f = refl
in_turn true true false true p q f = absurd (false≢true (q refl))
in_turn true true false false p q f = refl
in_turn true false true d p q f = absurd (false≢true (p refl))
in_turn true false false true p q f = absurd (false≢true (q refl))
in_turn true false false false p q f = refl

-- the rules of n bit times
pulses_faults : (n : ℕ) (W : ℕ → Option ℕ) (S : ℕ → Option Standing) (s : World) → HoldsAt W S s → (a : ℕ) (v : Standing) → S a ≡ Some v
    → faults_at (pulses n s).areas v.port ≡ cond (v.sink && ends_between W v.word 0 n) reply_missing (faults_at s.areas v.port)
unfolding pulses pulse pulse_effect
pulses_faults zero W S s h a v e = rw (and-not_self (is_word (W 0) v.word), and-false v.sink)
pulses_faults (suc n) W S s h a v e =
    let x = s.controller.exchange in
    let t = s.controller.times in
    let m = s.areas in
    let w = v.word in
    let later = pulses_faults n (λ q. W (1 + q)) S (pulse s) (pulse_holds W S s h) a v e in
    let first : faults_at (pulse s).areas v.port ≡ cond (v.sink && ends_between W w 0 1) reply_missing (faults_at m v.port) =
    faults_apply m h.shape.fits (effect_later m (due s)) (later_valid m (due s)) v.port
    ∙ late_faults m x t h.live h.short a v (h.stands a ∙ e) (faults_at m v.port)
    ∙ rw (h.waits 0, h.waits 1) in
    let more : 1 + n ≡ suc n = omega arith in
    later ∙ rw (first, more)
    (in_turn v.sink (is_word (W 0) w) (is_word (W 1) w) (is_word (W (suc n)) w)
    (λ p. ap (λ (o : Option ℕ). is_word o w) (sym (h.waits 0)) ∙ sooner x t 1 0 w (ap (λ (o : Option ℕ). is_word o w) (h.waits 1) ∙ p))
    (λ p. ap (λ (o : Option ℕ). is_word o w) (sym (h.waits 1))
    ∙ sooner x t n 1 w (ap (λ (o : Option ℕ). is_word o w) (ap (wait_now x t) (omega arith) ∙ h.waits (suc n)) ∙ p))
    (faults_at m v.port))

-- ---- the invariant: the status bits of every open port are what the past tells

abbrev pub FaultsTold : List Call → Areas → Type 0
FaultsTold past m = (a : ℕ) (o : Opening) → opening_of past a ≡ Some o → faults_at m o.port ≡ faults_told past a o

-- a sink's go by its word, and a source has none
sink_told : (s b : Bool) (x f old : Faults) → old ≡ cond s f no_faults → cond (s && b) x old ≡ cond s (cond b x f) no_faults
sink_told true true x f old e = refl
sink_told true false x f old e = e
sink_told false b x f old e = e

module _ (past : List Call) (h : ToldBy past (after past)) (told : FaultsTold past (after past).areas) where
  hear_faults : (x y : Hearing) → Typed (hear x y) → FaultsTold (hear x y ∷ past) (step (hear x y) (after past)).areas
  unfolding step effect heard_by heard faults_since opening_of
  hear_faults x y ty a o e =
      let s = after past in
      let c = s.controller in
      let m = s.areas in
      let k = on_trusted past x y in
      let l : length k.words ≡ 16 = one_of c.lines.laa (λ (z : Hearing). length z.words ≡ 16) ty.0 ty.1 in
      rw (hear_effect_lem s x y)
      (faults_apply m h.holds.shape.fits _ (valid_heard m k l k.kind c.exchange) o.port
      ∙ heard_faults m k k.kind c.exchange c.times h.holds.live a (open_standing past a o) (h.holds.stands a ∙ rw e) _
      ∙ rw (h.holds.waits 0) (sink_told o.sink _ _ (faults_since past a o.word) _ (told a o e)))

  quiet_faults : (n : ℕ) → FaultsTold (quiet n ∷ past) (step (quiet n) (after past)).areas
  unfolding step faults_since opening_of
  quiet_faults n a o e =
      let s = after past in
      let fits = h.holds.shape.fits in
      rw (ticks_grown n s fits)
      (ap faults_in ((grown_ages n (pulses n s) (pulses_fits n s fits)).ports o.port)
      ∙ pulses_faults n (awaited past) (λ b. told_standing past b (opening_of past b)) s h.holds a (open_standing past a o) (rw e)
      ∙ sink_told o.sink _ _ (faults_since past a o.word) _ (told a o e))

  host_faults : (c : Call) → Hosts c → refusal c (after past) ≡ 0 → FaultsTold (c ∷ past) (step c (after past)).areas
  unfolding faults_since effect
  host_faults c hosts r a o e =
      ap (λ (s : World). faults_at s.areas o.port) (host_step c hosts (after past))
      ∙ faults_apply (after past).areas h.holds.shape.fits (effect c (after past)) (host_valid c hosts (after past) r) o.port
      ∙ unmarked c hosts o.port _
      ∙ renewed no_faults (λ f. f) refl past c a o (host_renews past h c hosts r a o e) _ (faults_since past a o.word) (told a o)
      ∙ ap (λ (f : Faults). cond o.sink f no_faults) (sym (by (happening c) hosts))
    where
      -- no host call marks a port
      unmarked : (c : Call) → Hosts c → (q : ℕ) (f : Faults)
          → faults_after (effect c (after past)) q f ≡ cond (renews (effect c (after past)) q) no_faults f
      unmarked (hear x y) hosts q f = absurd hosts
      unmarked (quiet n) hosts q f = absurd hosts
      unmarked (open_port b p code sink i limit) hosts q f = refl
      unmarked (close_port b) hosts q f = refl
      unmarked (write_port b ws) hosts q f = refl
      unmarked (read_port b) hosts q f = refl
      unmarked (setting t) hosts q f = refl

      by : (x : Happening) → ByHost x
          → faults_by past a o.word x (faults_since past a o.word) ≡ anew no_faults (change_of x a) (faults_since past a o.word)
      by (hears x y) hosts = absurd hosts
      by (passes n) hosts = absurd hosts
      by (sets t) hosts = refl
      by (changes g) hosts = refl

-- ---- any run

step_faults : (past : List Call) (c : Call) → Sort c → Typed c → refusal c (after past) ≡ 0 → ToldBy past (after past) → FaultsTold past (after past).areas
    → FaultsTold (c ∷ past) (step c (after past)).areas
step_faults past c (event {a} {b}) ty r h told = hear_faults past h told a b ty
step_faults past c (pause {n}) ty r h told = quiet_faults past h told n
step_faults past c (host hosts) ty r h told = host_faults past h told c hosts r

-- After every past of accepted calls the status bits of every open port are what the past tells.
pub past_faults : (past : List Call) → Accepted past → FaultsTold past (after past).areas
unfolding after opening_of
past_faults [] acc = λ a o e. absurd (none-some o e)
past_faults (c ∷ past) acc = step_faults past c (sort c) acc.0 acc.1 (past_told past acc.2) (past_faults past acc.2)
