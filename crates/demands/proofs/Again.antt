-- A call of the code is made again in any other world that accepts it; so a run of the definitions whose calls are the code's is a run of the
-- code. Assumes nothing.
use Prim.Native.Nat.{ℕ}
use mathlib.Core.Path.{◌≡◌, refl, ◌∙◌, subst}
use mathlib.Core.List.{List, [], ◌∷◌, ◌++◌}
use Rattle.frames.specs.declared.Hearing.{Hearing}
use Rattle.model.specs.Event.{World}
use Rattle.model.specs.Host.{address, status, reply_time, slm, ls, ec_clear, fresh_controller, tell}
use Rattle.model.specs.Calls.{Call, hear, quiet, open_port, close_port, write_port, refusal, outcome, asked}
use Rattle.model.specs.Past.{after, Accepted}
use Rattle.host_ports.specs.Host.{host_call}
use Rattle.host_controller.specs.Groups.{reading0, reading1}
use Rattle.host_controller.specs.Settings.{told_for}
use Rattle.demands.specs.Made.{Made, by_hear, by_quiet, by_open, by_close, by_write, by_ask, by_set_address, by_set_reply_time}
use Rattle.demands.specs.Made.{by_set_status, by_set_slm, by_set_ls, by_clear_ec, by_reset, by_on_group0, by_on_group1}
use Rattle.demands.specs.Made.{Ran, begun, accepted, refused}
use Rattle.demands.proofs.OfCall.{number_exactly}
use Rattle.demands.proofs.OfCode.{ran}

-- the code answers this call wherever it is accepted
abbrev Callable : Call → Type 0
Callable c = (u : World) → refusal c u ≡ 0 → (q : Hearing) × ((v : World) × Made u c 0 q v)

zeroed : {u v : World} {c : Call} {n : ℕ} {q : Hearing} → refusal c u ≡ 0 → Made u c n q v → (q : Hearing) × ((v : World) × Made u c 0 q v)
zeroed {u} {v} {c} {q = q} e m = (q, (v, subst (λ (k : ℕ). Made u c k q v) (number_exactly m ∙ e) m))

-- a call that the code made once it makes wherever the definitions accept it
again : {s t : World} {c : Call} {n : ℕ} {r : Hearing} → Made s c n r t → Callable c
again (by_hear {a} {b} p) u e = zeroed e (by_hear {o = outcome (hear a b) u} refl)
again (by_quiet {n} p) u e = zeroed e (by_quiet {o = outcome (quiet n) u} refl)
again (by_open {a} {p} {code} {sink} {i} {limit} eq) u e =
    let o = host_call (open_port a p code sink i limit) u.areas in
    zeroed e (by_open {m = o.after} {n = o.number} refl)
again (by_close {a} p) u e = let o = host_call (close_port a) u.areas in zeroed e (by_close {m = o.after} {n = o.number} refl)
again (by_write {a} {ws} p) u e = let o = host_call (write_port a ws) u.areas in zeroed e (by_write {m = o.after} {n = o.number} refl)
again (by_ask {a} p) u e = zeroed e (by_ask {x = asked u.areas a} refl)
again (by_set_address {a} p) u e = zeroed e (by_set_address {r = told_for (address a) u.controller} refl)
again (by_set_reply_time {t} p) u e = zeroed e (by_set_reply_time {r = told_for (reply_time t) u.controller} refl)
again (by_set_status {w} p) u e = zeroed e (by_set_status {c = tell (status w) u.controller} refl)
again (by_set_slm {b} p) u e = zeroed e (by_set_slm {c = tell (slm b) u.controller} refl)
again (by_set_ls {b} p) u e = zeroed e (by_set_ls {c = tell (ls b) u.controller} refl)
again (by_clear_ec p) u e = zeroed e (by_clear_ec {c = tell ec_clear u.controller} refl)
again (by_reset p) u e = zeroed e (by_reset {c = fresh_controller} refl)
again (by_on_group0 k p) u e = zeroed e (by_on_group0 k {r = reading0 k u.controller} refl)
again (by_on_group1 k p) u e = zeroed e (by_on_group1 k {r = reading1 k u.controller} refl)

-- every call of a list is the code's
abbrev AllCallable : List Call → Type 0
AllCallable [] = Unit
AllCallable (c ∷ past) = Callable c × AllCallable past

ran_callable : {past : List Call} {s : World} → Ran past s → AllCallable past
ran_callable begun = tt
ran_callable (accepted before typed made) = (again made, ran_callable before)
ran_callable (refused before z made) = ran_callable before

-- without a stretch in its midst
cut : (calls stretch before : List Call) → AllCallable (calls ++ (stretch ++ before)) → AllCallable (calls ++ before)
cut [] [] before x = x
cut [] (c ∷ stretch) before x = cut [] stretch before x.1
cut (c ∷ calls) stretch before x = (x.0, cut calls stretch before x.1)

made_run : (past : List Call) → AllCallable past → Accepted past → (u : World) × Ran past u
unfolding after
made_run [] all acc = (_, begun)
made_run (c ∷ past) all acc =
    let before = made_run past all.1 acc.2 in
    let m = all.0 before.0 (subst (λ (u : World). refusal c u ≡ 0) (ran before.1).same acc.1) in
    (m.1.0, accepted before.1 acc.0 m.1.1)

-- If the definitions accept a run of the code without a stretch of it, the code runs it.
pub runs_without : (calls stretch before : List Call) {s : World} → Ran (calls ++ (stretch ++ before)) s → Accepted (calls ++ before)
    → (u : World) × Ran (calls ++ before) u
runs_without calls stretch before long acc = made_run (calls ++ before) (cut calls stretch before (ran_callable long)) acc
