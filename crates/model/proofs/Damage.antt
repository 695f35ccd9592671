-- Demand 3, damage: a stretch of damage that an accepted sound master frame ends leaves no trace in any port's words or fill count, nor
-- in any data reply, as long as both lines hear alike afterwards; and during the stretch only status bits and ages change. Assumes nothing.
use Prim.Native.Nat.{ℕ, zero, suc}
use mathlib.Core.Path.{◌≡◌, refl, sym, ◌∙◌, ap}
use mathlib.Core.Bool.{true}
use mathlib.Core.List.{List, [], ◌∷◌, ◌++◌}
use Rattle.std.specs.Prelude.{None}
use native.Mathlib.Omega.{arith}
use lib.ListN.{length}
use borrow.Author.Tests.{leb-true}
use Rattle.frames.specs.declared.Kind.{Kind}
use Rattle.frames.specs.declared.Kind.TheVariants.{Silence, Noise, Master as MasterFrame, Slave as SlaveFrame}
use Rattle.frames.specs.declared.Hearing.{Hearing}
use Rattle.frames.specs.declared.Judgement.{Judgement}
use Rattle.frames.specs.declared.Judgement.TheVariants.{Sound, Unsound as Bad}
use Rattle.frames.specs.Judge.{judged_master}
use Rattle.model.specs.declared.Exchange.{Exchange}
use Rattle.model.specs.declared.Exchange.TheVariants.{Idle, Waiting, Done}
use Rattle.model.specs.declared.Device.{Device}
use Rattle.model.specs.declared.Heard.TheVariants.{Master}
use Rattle.model.specs.Layout.{Areas}
use Rattle.model.specs.Ports.{code_of, viewed, view, apply}
use Rattle.model.specs.Event.{World, as_heard, as_master, as_slave, heard, heard_by}
use Rattle.model.specs.Quiet.{times, effect_later, due, pulse_effect, pulse_controller, pulse, pulses, ticks}
use Rattle.model.specs.Calls.{Call, hear, out_of_range, word_of_heard, refusal, effect, step, answer}
use Rattle.model.specs.Past.{after, Typed, Accepted, on_trusted, first_word, awaited}
use Rattle.model.specs.Taken.{StatusAndAges}
use Rattle.model.specs.Damage.{harmless, Damaged, Damage, SoundMaster}
use Rattle.model.specs.Differ.{Unseen}
use Rattle.model.proofs.Shape.{Shape}
use Rattle.model.proofs.Tables.{answer_of, exchange_after, hear_controller_lem, hear_effect_lem, hear_answer_lem}
use Rattle.model.proofs.StatusReply.{data_unmoved}
use Rattle.model.proofs.Refused.{accepted, accepts}
use Rattle.model.proofs.Taken.{valid_heard}
use Rattle.model.proofs.Holds.{later_valid}
use Rattle.model.proofs.Ageing.{standing_ages, shape_ages}
use Rattle.model.specs.Grown.{grown_by}
use Rattle.model.proofs.Grown.{ticks_grown, grown_ages}
use Rattle.model.proofs.Invariant.{one_of, ToldBy, chosen_heard}
use Rattle.model.proofs.Told.{past_told}
use Rattle.model.proofs.Alike.{bus_in}
use Rattle.model.proofs.HostCalls.{Sort, event, pause, host, sort, host_undamaged}
use Rattle.model.proofs.Same.{Alike, same_answer, same_exchange, Same, either_line}
use Rattle.model.proofs.Gentle.{gentle_late, gentle_heard, forget_ages, ages_only, only_same, only_trans, gentle_only, gentle_alike}

-- ---- what a stretch of damage leaves: every address shows the same, only status bits and ages differ, the host's choices stay

pub record Unharmed (u s : World) : Type 0 where
  pub areas : Alike s.areas u.areas
  pub only : StatusAndAges u.areas s.areas
  pub chosen : s.controller.times.chosen ≡ u.controller.times.chosen
  pub device : s.controller.device ≡ u.controller.device

-- two parts of a stretch that each leave a world unharmed do so together
pub kept_trans : (u s r : World) → Unharmed u s → Unharmed s r → Unharmed u r
kept_trans u s r f g =
    record {
      areas = record { shape = g.areas.shape; shape' = f.areas.shape'; stands = λ a. g.areas.stands a ∙ f.areas.stands a };
      only = only_trans u.areas s.areas r.areas f.only g.only;
      chosen = g.chosen ∙ f.chosen;
      device = g.device ∙ f.device;
    }

-- the rules of a quiet bit time leave a world unharmed
pub kept_pulse : (s : World) → Shape s.areas → Unharmed s (pulse s)
unfolding pulse pulse_controller pulse_effect
kept_pulse s h =
    let m = s.areas in
    let e = effect_later m (due s) in
    let v = later_valid m (due s) in
    let g = gentle_late m (due s) in
    record { areas = gentle_alike e m h v g; only = forget_ages (gentle_only e m h.fits v g); chosen = refl; device = refl }

kept_pulses : (n : ℕ) (s : World) → Shape s.areas → Unharmed s (pulses n s)
unfolding pulses
kept_pulses zero s h =
    record { areas = record { shape = h; shape' = h; stands = λ a. refl }; only = only_same s.areas; chosen = refl; device = refl }
kept_pulses (suc n) s h =
    let k = kept_pulse s h in
    kept_trans s (pulse s) (pulses n (pulse s)) k (kept_pulses n (pulse s) k.areas.shape)

-- so do their ends
pub kept_grown : (n : ℕ) (s : World) → Shape s.areas → Unharmed s (grown_by n s)
unfolding grown_by
kept_grown n s h =
    let b = grown_ages n s h.fits in
    record {
      areas = record { shape = shape_ages b h; shape' = h; stands = standing_ages b };
      only = ages_only b;
      chosen = refl;
      device = refl;
    }

-- n quiet bit times leave a world unharmed
kept_ticks : (n : ℕ) (s : World) → Shape s.areas → Unharmed s (ticks n s)
kept_ticks n s h =
    let k = kept_pulses n s h in
    rw (ticks_grown n s h.fits) (kept_trans s (pulses n s) (grown_by n (pulses n s)) k (kept_grown n (pulses n s) k.areas.shape))

-- a bus event that is damage leaves the world unharmed, if the invariant holds before it
pub kept_hear : (past : List Call) (a b : Hearing) → Typed (hear a b) → ToldBy past (after past) → Damaged past (hear a b)
    → Unharmed (after past) (step (hear a b) (after past))
unfolding step effect heard_by heard
kept_hear past a b ty h d =
    let s = after past in
    let c = s.controller in
    let k = on_trusted past a b in
    let l : length k.words ≡ 16 = one_of c.lines.laa (λ (y : Hearing). length y.words ≡ 16) ty.0 ty.1 in
    let f : harmless k.kind (awaited past 0) k ≡ true =
    one_of c.lines.laa (λ (y : Hearing). harmless y.kind (awaited past 0) y ≡ true) d.0 d.1 in
    let v = valid_heard s.areas k l k.kind c.exchange in
    let g = gentle_heard s.areas c.times k k.kind c.exchange h.holds.live (rw (h.holds.waits 0) f) in
    rw (hear_controller_lem s a b, hear_effect_lem s a b)
    (record {
      areas = gentle_alike _ s.areas h.holds.shape v g;
      only = forget_ages (gentle_only _ s.areas h.holds.shape.fits v g);
      chosen = chosen_heard c.times k k.kind c.exchange;
      device = refl;
    })

kept_call : (past : List Call) (c : Call) → Sort c → Typed c → ToldBy past (after past) → Damaged past c
    → Unharmed (after past) (step c (after past))
unfolding step
kept_call past c (event {a} {b}) ty h d = kept_hear past a b ty h d
kept_call past c (pause {n}) ty h d = kept_ticks n (after past) h.holds.shape
kept_call past c (host x) ty h d = absurd (host_undamaged past c x d)

-- During a stretch of damage only status bits and ages change in the areas, and no address shows anything else.
pub kept_stretch : (before stretch : List Call) → Accepted (stretch ++ before) → Damage before stretch
    → Unharmed (after before) (after (stretch ++ before))
unfolding after
kept_stretch before [] acc d = let s = (past_told before acc).holds.shape in
    record { areas = record { shape = s; shape' = s; stands = λ a. refl }; only = only_same _; chosen = refl; device = refl }
kept_stretch before (c ∷ more) acc d =
    kept_trans _ _ _ (kept_stretch before more acc.2 d.1)
    (kept_call (more ++ before) c (sort c) acc.0 (past_told (more ++ before) acc.2) d.0)

-- ---- the master frame that ends the stretch, and what follows

-- a sound master frame is heard as its master word, whatever the exchange
pub heard_master : (x : Hearing) → SoundMaster x → (e : Exchange) → as_heard x.kind e x ≡ Master (first_word x)
heard_master x m e = ap (λ (k : Kind). as_heard k e x) m.kind ∙ ap (λ (j : Judgement). as_master j x) m.sound

-- a sound master frame forgets exchange and times
pub same_master : (u s : World) → Unharmed u s → (x : Hearing) → SoundMaster x → Same (step (hear x x) s) (step (hear x x) u)
unfolding step effect heard_by heard apply
same_master u s k x m =
    rw (
      hear_controller_lem s x x,
      hear_controller_lem u x x,
      hear_effect_lem s x x,
      hear_effect_lem u x x,
      either_line s.controller.lines x,
      either_line u.controller.lines x,
      heard_master x m s.controller.exchange,
      heard_master x m u.controller.exchange,
    )
    (record {
      areas = k.areas;
      exchange =
          same_exchange s.areas u.areas k.areas s.controller.device Idle (Master (first_word x))
          ∙ ap (λ (d : Device). exchange_after d u.areas Idle (Master (first_word x))) k.device;
      times = ap (λ (n : ℕ). times 0 0 n n) k.chosen;
      device = k.device;
    })

-- an accepted call is accepted before a stretch of damage too, if it is a bus event
pub master_accepted : (u s : World) → Unharmed u s → (x : Hearing) → refusal (hear x x) s ≡ 0 → refusal (hear x x) u ≡ 0
master_accepted u s k x e =
    accepts (hear x x) u
    (bus_in u.areas k.areas.shape' _ (word_of_heard (heard_by u.controller x x)) (accepted (hear x x) s e out_of_range))

-- a tail of a run was accepted too
pub earlier : (later p : List Call) → Accepted (later ++ p) → Accepted p
earlier [] p acc = acc
earlier (c ∷ later) p acc = earlier later p acc.2

-- a slave frame is not answered
pub slave_unanswered : (d : Device) (m : Areas) (y : Hearing) (x : Exchange) → answer_of d m (as_slave x y) ≡ None
slave_unanswered d m y Idle = refl
slave_unanswered d m y (Waiting w) = refl
slave_unanswered d m y Done = refl

-- areas that show the same answer alike whatever is heard, a status poll aside, for any device and lines
answer_same : (d e : Device) (m n : Areas) → Alike m n → (x z : Exchange) (y : Hearing) → (code_of (first_word y) ≡ 15 → ⊥) → (k : Kind)
    → answer_of d m (as_heard k x y) ≡ answer_of e n (as_heard k z y)
answer_same d e m n a x z y poll Silence = refl
answer_same d e m n a x z y poll Noise = refl
answer_same d e m n a x z y poll MasterFrame = go (judged_master y)
  where
    go : (j : Judgement) → answer_of d m (as_master j y) ≡ answer_of e n (as_master j y)
    go Sound = same_answer m n a d (first_word y) ∙ data_unmoved d e n (first_word y) poll
    go (Bad wrong) = refl
answer_same d e m n a x z y poll SlaveFrame = slave_unanswered d m y x ∙ sym (slave_unanswered e n y z)

-- a frame that both lines hear gets the same reply in both, whatever its code, a status poll aside
pub same_reply : (s u : World) → Alike s.areas u.areas → (y : Hearing) → (code_of (first_word y) ≡ 15 → ⊥)
    → answer (hear y y) s ≡ answer (hear y y) u
unfolding answer heard_by heard
same_reply s u k y poll =
    rw (hear_answer_lem s y y, hear_answer_lem u y y, either_line s.controller.lines y, either_line u.controller.lines y)
    (answer_same _ _ _ _ k s.controller.exchange u.controller.exchange y poll y.kind)

-- During a stretch of damage only status bits and ages change in the areas.
pub stretch_marks : (before stretch : List Call) → Accepted (stretch ++ before) → Damage before stretch
    → StatusAndAges (after before).areas (after (stretch ++ before)).areas
stretch_marks before stretch acc d = (kept_stretch before stretch acc d).only

-- And after it every address shows what it showed before.
pub stretch_unseen : (before stretch : List Call) → Accepted (stretch ++ before) → Damage before stretch
    → (a : ℕ) → view (after (stretch ++ before)).areas a ≡ view (after before).areas a
unfolding view
stretch_unseen before stretch acc d a = ap viewed ((kept_stretch before stretch acc d).areas.stands a)

-- so what is the same in what every address shows is not seen
pub unseen_same : (s u : World) → Same s u → Unseen s u
unfolding view
unseen_same s u k =
    record {
      views = λ a. ap viewed (k.areas.stands a);
      replies = λ y p. same_reply s u k.areas y (λ e. omega (arith, leb-true (code_of (first_word y)) 4 p));
    }
