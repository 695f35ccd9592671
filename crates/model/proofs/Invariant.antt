-- The invariant of runs, and a bus event: every address shows what the past tells of it, and the controller waits, counts and reports as
-- the past tells. Assumes nothing.
use Prim.Native.Nat.{ℕ, suc, ◌+◌, ◌%◌, ◌≤◌, ◌<◌, min}
use mathlib.Core.Path.{◌≡◌, refl, sym, ◌∙◌, ap}
use mathlib.Core.Bool.{Bool, true, false, cond, not, ◌&&◌}
use mathlib.Core.List.{List, ◌∷◌}
use Rattle.std.specs.Prelude.{Option, None, Some}
use native.Mathlib.Omega.{arith}
use lib.Dec.{ltb}
use lib.ListN.{length}
use borrow.Author.Tests.{ltb-true, ltb-false}
use Rattle.frames.specs.declared.Kind.{Kind}
use Rattle.frames.specs.declared.Kind.TheVariants.{Silence, Noise, Master as MasterFrame, Slave as SlaveFrame}
use Rattle.frames.specs.declared.Hearing.{Hearing}
use Rattle.frames.specs.declared.Judgement.{Judgement}
use Rattle.frames.specs.declared.Judgement.TheVariants.{Sound, Unsound as Bad}
use Rattle.frames.specs.Hearing.{words_of}
use Rattle.frames.specs.Size.{expected_of}
use Rattle.frames.specs.Judge.{judged_master, judged_slave, is_sound}
use Rattle.model.specs.declared.Exchange.{Exchange}
use Rattle.model.specs.declared.Exchange.TheVariants.{Idle, Waiting, Done}
use Rattle.model.specs.declared.Times.{Times}
use Rattle.model.specs.declared.Counts.{Counts}
use Rattle.model.specs.declared.Controller.{Controller}
use Rattle.model.specs.Layout.{Areas}
use Rattle.model.specs.Ports.{code_of, Standing}
use Rattle.model.specs.Event.{World, as_master, as_slave, as_heard, heard, heard_by, judged_one}
use Rattle.model.specs.Calls.{Call, hear, effect, step}
use Rattle.model.specs.Past.{after, Typed, on_trusted, first_word, awaited, answers, Opening, opening_of, answers_since, last_settings}
use Rattle.model.specs.Past.{writes_since, last_of, lines_polled, asks_others, judged_as, judgement, add_judged, add_unsound, count_since}
use Rattle.model.specs.Past.{frames_judged, frames_unsound}
use Rattle.model.proofs.ToldPort.{standing_with, told_standing}
use Rattle.model.proofs.Shape.{refill}
use Rattle.model.proofs.Tables.{counts_after, times_after, hear_controller_lem, hear_effect_lem}
use Rattle.model.proofs.StatusReply.{asks_unmoved}
use Rattle.model.proofs.ShapeKept.{shape_apply}
use Rattle.model.proofs.Waits.{wait_now, Live, waits_now, waits_heard, live_heard}
use Rattle.model.proofs.Taken.{taken_by, taken_exactly, valid_heard}
use Rattle.model.proofs.Holds.{Holds}
use Rattle.model.proofs.Replies.{status_now, exact_told}

-- ---- the invariant

-- what the past tells of an address stands there, what it tells is waited for, and settings and counts are those of the past
pub record Told (past : List Call) (c : Controller) (m : Areas) : Type 0 where
  pub holds : Holds (awaited past) (λ a. told_standing past a (opening_of past a)) c.exchange c.times m
  pub chosen : c.times.chosen ≡ (last_settings past).reply_time
  -- the chosen reply time is some time, and at most 128
  pub some_time : 0 < (last_settings past).reply_time
  pub short_time : (last_settings past).reply_time ≤ 128
  pub status : status_now c.device ≡ (last_settings past).status
  pub address : c.device.address ≡ (last_settings past).address
  pub fc : c.counts.fc ≡ frames_judged past % 65536
  pub ec : c.counts.ec ≡ min (frames_unsound past) 65535

-- ---- a bus event

-- one more of the frames that fill a sink
hear_standing : (past : List Call) (x y : Hearing) (a : ℕ) (o : Option Opening)
    → taken_by (answers past x y) (words_of (on_trusted past x y)) (told_standing past a o) ≡ told_standing (hear x y ∷ past) a o
unfolding answers_since writes_since
hear_standing past x y a None = refl
hear_standing past x y a (Some o) = go o.sink (answers past x y o.word)
  where
    ws : List ℕ
    ws = words_of (on_trusted past x y)

    ss : List (List ℕ)
    ss = answers_since past a o.word

    wr : List (List ℕ)
    wr = writes_since past a

    go : (b c : Bool)
        → ◌≡◌ {A = Option Standing}
        (Some (cond (b && c) (refill ws (standing_with o (last_of (cond b ss wr)) (length (cond b ss wr) % 65536)))
        (standing_with o (last_of (cond b ss wr)) (length (cond b ss wr) % 65536))))
        (Some (standing_with o (last_of (cond b (cond c (ws ∷ ss) ss) wr)) (length (cond b (cond c (ws ∷ ss) ss) wr) % 65536)))
    go true true = ap (λ (n : ℕ). Some (standing_with o (Some ws) n)) (omega arith)
    go true false = refl
    go false c = refl

-- the counts: one more frame judged, or one more unsound
counted_one : (n : Counts) (f u : ℕ) (j : Judgement) → n.fc ≡ f % 65536 → n.ec ≡ min u 65535
    → ((judged_one (not (is_sound j)) n).fc ≡ suc f % 65536) × ((judged_one (not (is_sound j)) n).ec ≡ min (add_unsound (Some j) u) 65535)
counted_one n f u Sound ef eu = (omega arith, eu)
counted_one n f u (Bad wrong) ef eu = (omega arith, go (ltb n.ec 65535) refl)
  where
    go : (b : Bool) → ltb n.ec 65535 ≡ b → cond b (n.ec + 1) n.ec ≡ min (suc u) 65535
    go true e = let l : n.ec < 65535 = ltb-true _ _ e in omega arith
    go false e = let l : 65535 ≤ n.ec = ltb-false _ _ e in omega arith

module _ (n : Counts) (f u : ℕ) (ef : n.fc ≡ f % 65536) (eu : n.ec ≡ min u 65535) (h : Hearing) (t : Times) where
  abbrev Counted : Counts → Option Judgement → Type 0
  Counted e j = (e.fc ≡ add_judged j f % 65536) × (e.ec ≡ min (add_unsound j u) 65535)

  by_master : (j : Judgement) → Counted (counts_after n (as_master j h)) (Some j)
  by_master Sound = counted_one n f u Sound ef eu
  by_master (Bad wrong) = counted_one n f u (Bad wrong) ef eu

  by_slave : (x : Exchange) → Live x t → Counted (counts_after n (as_slave x h)) (judged_as SlaveFrame (wait_now x t 0) h)
  by_slave Idle l = (ef, eu)
  by_slave Done l = (ef, eu)
  by_slave (Waiting w) l = rw (waits_now w t l) (counted_one n f u (judged_slave (code_of w) h) ef eu)

  counts_heard : (k : Kind) (x : Exchange) → Live x t → Counted (counts_after n (as_heard k x h)) (judged_as k (wait_now x t 0) h)
  counts_heard Silence x l = (ef, eu)
  counts_heard Noise x l = (ef, eu)
  counts_heard MasterFrame x l = by_master (judged_master h)
  counts_heard SlaveFrame x l = by_slave x l

-- the reply time that is adopted is the old one or the one chosen
short_heard : (t : Times) (h : Hearing) (k : Kind) (x : Exchange) → t.adopted ≤ 128 → t.chosen ≤ 128
    → (times_after t (as_heard k x h)).adopted ≤ 128
short_heard t h Silence x a c = a
short_heard t h Noise x a c = a
short_heard t h MasterFrame x a c = go (judged_master h)
  where
    go : (j : Judgement) → (times_after t (as_master j h)).adopted ≤ 128
    go Sound = c
    go (Bad wrong) = a
short_heard t h SlaveFrame Idle a c = a
short_heard t h SlaveFrame (Waiting w) a c = a
short_heard t h SlaveFrame Done a c = a

-- no bus event changes the reply time that the host chose
pub chosen_heard : (t : Times) (h : Hearing) (k : Kind) (x : Exchange) → (times_after t (as_heard k x h)).chosen ≡ t.chosen
chosen_heard t h Silence x = refl
chosen_heard t h Noise x = refl
chosen_heard t h MasterFrame x = go (judged_master h)
  where
    go : (j : Judgement) → (times_after t (as_master j h)).chosen ≡ t.chosen
    go Sound = refl
    go (Bad wrong) = refl
chosen_heard t h SlaveFrame Idle = refl
chosen_heard t h SlaveFrame (Waiting w) = refl
chosen_heard t h SlaveFrame Done = refl

-- what holds of both hearings holds of the one that is trusted
pub one_of : (b : Bool) (P : Hearing → Type 0) {x y : Hearing} → P x → P y → P (cond b x y)
one_of true P p q = p
one_of false P p q = q

-- the invariant of a world, after a past
abbrev pub ToldBy : List Call → World → Type 0
ToldBy past s = Told past s.controller s.areas

-- The invariant holds after a bus event.
pub hear_told : (past : List Call) (a b : Hearing) → Typed (hear a b) → ToldBy past (after past)
    → ToldBy (hear a b ∷ past) (step (hear a b) (after past))
unfolding step effect heard_by heard awaited answers judgement frames_judged frames_unsound opening_of count_since last_settings
hear_told past a b ty h =
    let s = after past in
    let c = s.controller in
    let k = on_trusted past a b in
    let l : length k.words ≡ 16 = one_of c.lines.laa (λ (y : Hearing). length y.words ≡ 16) ty.0 ty.1 in
    let x = c.exchange in
    let t = c.times in
    let H = h.holds in
    let n = counts_heard c.counts (frames_judged past) (frames_unsound past) h.fc h.ec k t k.kind x H.live in
    let p : 0 < t.chosen = rw h.chosen h.some_time in
    let q : t.chosen ≤ 128 = rw h.chosen h.short_time in
    let asks =
    sym (asks_unmoved (lines_polled past a b) c.device s.areas (first_word k) (expected_of (code_of (first_word k))))
    ∙ ap (asks_others (expected_of (code_of (first_word k))))
    (exact_told past c.device s.areas H.stands (lines_polled past a b) (first_word k) h.status h.address) in
    rw (hear_controller_lem s a b, hear_effect_lem s a b)
    (record {
      holds = record {
        shape = shape_apply _ s.areas H.shape (valid_heard s.areas k l k.kind x);
        stands =
            λ e. taken_exactly s.areas H.shape k l k.kind x t H.live e
            ∙ rw (H.waits 0, H.stands e) (hear_standing past a b e (opening_of past e));
        waits = λ e. waits_heard c.device s.areas t k k.kind x e ∙ rw (asks, H.waits e, h.chosen);
        live = live_heard c.device s.areas t k k.kind x p H.live;
        short = short_heard t k k.kind x H.short q;
      };
      chosen = chosen_heard t k k.kind x ∙ h.chosen;
      some_time = h.some_time;
      short_time = h.short_time;
      status = h.status;
      address = h.address;
      fc = rw (H.waits 0) at n.0;
      ec = rw (H.waits 0) at n.1;
    })
