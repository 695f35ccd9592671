-- DEMANDS 2 AND 3, OF WHAT A HOST READS, in the numbers that it sees: counters, interrupts, the state and the words of a port after every
-- sequence of the exported calls; and of the check bytes that it is given for a frame. Assumes nothing.
use Prim.Native.Nat.{ℕ, ◌%◌, ◌<◌, min}
use mathlib.Core.Path.{◌≡◌, refl, sym, ◌∙◌, ap}
use mathlib.Core.Logic.{◌↔◌, ◌⊎◌, inl, inr}
use mathlib.Core.Bool.{Bool, true, false, cond, true≢false}
use mathlib.Core.List.{List, [], ◌∷◌}
use Rattle.std.specs.Prelude.{None, Some}
use native.Mathlib.Omega.{arith}
use lib.ListN.{length}
use Rattle.frames.specs.declared.Judgement.TheVariants.{Sound}
use Rattle.frames.specs.Hearing.{words_of}
use Rattle.frames.specs.Size.{sizes, expected_of}
use Rattle.frames.specs.Judge.{counts_right, judged, judged_master, judged_slave}
use Rattle.interrupts.specs.Group.{active}
use Rattle.model.specs.Answer.{Answer}
use Rattle.model.specs.Answer.{Never, Good, Held, Stale, Refused}
use Rattle.model.specs.declared.Controller.{Controller}
use Rattle.model.specs.Layout.{Areas, pages_fit, entry, port_at, flags_of}
use Rattle.model.specs.Ports.{is_held, too_old, state_by, state_of}
use Rattle.model.specs.Event.{padded, sent}
use Rattle.model.specs.Calls.{Call, asked, refusal_of, ShowsNone, fetched}
use Rattle.model.specs.Past.{after, Opening, opening_of, last_of, fillings, shown_words, frames_judged, frames_unsound}
use Rattle.model.specs.Age.{asked_told, IsStale}
use Rattle.model.specs.Damage.{SoundMaster}
use Rattle.model.proofs.Formed.{pages_fit_lem}
use Rattle.model.proofs.Reading.{asked_number}
use Rattle.model.proofs.Replies.{sent_sound}
use Rattle.areas.specs.Lent.{shown}
use Rattle.host_controller.specs.declared.GroupCall.{GroupCall}
use Rattle.host_controller.specs.Groups.{value_of, reading0, reading1}
use Rattle.demands.proofs.OfCode as demand
use Rattle.firmware_layout.specs.declared.FlatController.{FlatController}
use Rattle.firmware_layout.specs.Flags.{bit_of, is_bit, is_set}
use Rattle.firmware_layout.specs.Controller.{controller_of}
use Rattle.firmware_layout.specs.Hearing.{hearing_of}
use Rattle.firmware.specs.declared.FlatReading.{FlatReading}
use Rattle.firmware.specs.declared.Number.{Number}
use Rattle.firmware.specs.declared.Fetched.{Fetched}
use Rattle.firmware.specs.declared.FlatChecks.{FlatChecks}
use Rattle.firmware.specs.Promise.{flat_checks, number_with, answer_number, fetching, group_at, read_through, asks}
use Rattle.firmware_demands.specs.Clauses.{OnGroup, Asks, Fetches, ReadsFC, ReadsEC, ReadsLine, Checks}
use Rattle.firmware_demands.specs.Called.{frame_with}
use Rattle.firmware_demands.specs.Exported.{Exported}
use Rattle.firmware_demands.proofs.Promised.{checks_promised, asks_promised, fetches_promised, group_promised, fc_promised, ec_promised}
use Rattle.firmware_demands.proofs.Promised.{line_promised}
use Rattle.firmware_demands.proofs.Inside.{answer_refusal}
use Rattle.firmware_demands.proofs.Stands.{stands, ran, same, fits}

-- ---- what asking says, as numbers

-- an answer that shows words is neither never nor a refusal
shows_neither : (x : Answer) → shown x ≡ true → ShowsNone x → ⊥
shows_neither x s (inl p) = true≢false (sym s ∙ ap shown p)
shows_neither x s (inr (n, p)) = true≢false (sym s ∙ ap shown p)

-- the state is 0 exactly for never and for a refusal
value_zero : (x : Answer) → ((answer_number x).value ≡ 0) ↔ ShowsNone x
value_zero Never = (λ e. inl refl, λ e. refl)
value_zero Good = (λ e. absurd (omega arith), λ e. absurd (shows_neither Good refl e))
value_zero Held = (λ e. absurd (omega arith), λ e. absurd (shows_neither Held refl e))
value_zero Stale = (λ e. absurd (omega arith), λ e. absurd (shows_neither Stale refl e))
value_zero (Refused n) = (λ e. inr (n, refl), λ e. refl)

-- it is 3 exactly for stale
value_stale : (x : Answer) → ((answer_number x).value ≡ 3) ↔ (x ≡ Stale)
value_stale Never = (λ e. absurd (omega arith), λ e. let z : ◌≡◌ {A = ℕ} 0 1 = cc in absurd (omega arith))
value_stale Good = (λ e. absurd (omega arith), λ e. let z : ◌≡◌ {A = ℕ} 0 1 = cc in absurd (omega arith))
value_stale Held = (λ e. absurd (omega arith), λ e. let z : ◌≡◌ {A = ℕ} 0 1 = cc in absurd (omega arith))
value_stale Stale = (λ e. refl, λ e. refl)
value_stale (Refused n) = (λ e. absurd (omega arith), λ e. let z : ◌≡◌ {A = ℕ} 0 1 = cc in absurd (omega arith))

-- where the number is 0 there is no refusal
not_refused : (m : Areas) (a : ℕ) → refusal_of (asked m a) ≡ 0 → (n : ℕ) → asked m a ≡ Refused n → ⊥
unfolding asked state_of
not_refused m a e n =
    let w = port_at m (entry m a) in
    let flags = flags_of w.flags in
    rw (sym (asked_number m a) ∙ e) (go flags.ever (is_held flags.faults) (too_old w.limit w.age))
  where
    go : (ever held stale : Bool) → state_by ever held stale ≡ Refused n → ⊥
    go true true stale p = let z : ◌≡◌ {A = ℕ} 0 1 = cc in omega arith
    go true false true p = let z : ◌≡◌ {A = ℕ} 0 1 = cc in omega arith
    go true false false p = let z : ◌≡◌ {A = ℕ} 0 1 = cc in omega arith
    go false held stale p = let z : ◌≡◌ {A = ℕ} 0 1 = cc in omega arith

-- ---- after every sequence

module _ {past : List Call} {f : FlatController} {m : Areas} (calls : Exported past f m) where
  -- FC counts judged frames.
  pub fc_counted : {r : Number} → ReadsFC f r → r ≡ number_with 0 (frames_judged past % 65536)
  fc_counted s = fc_promised s ∙ rw ((stands calls).taken, demand.fc_counted (ran calls))

  -- EC counts unsound ones.
  pub ec_counted : {r : Number} → ReadsEC f r → r ≡ number_with 0 (min (frames_unsound past) 65535)
  ec_counted s = ec_promised s ∙ rw ((stands calls).taken, demand.ec_counted (ran calls))

  -- The outgoing line of a group is that which the accepted calls leave; of no group the answer is 2.
  pub line_told : {n : ℕ} {r : Number} → ReadsLine f n r
      → r ≡ asks (is_bit n) (bit_of (active (group_at n (after past).controller)))
  line_told s = line_promised s ∙ rw ((stands calls).taken, same calls)

  -- A call on a group reads the status or the vector that the accepted calls leave; a write reads 0.
  pub group_read_lem : {n : ℕ} {k : GroupCall} {r : FlatReading} → OnGroup f n k r → is_bit n ≡ true
      → r.value ≡ value_of k (group_at n (after past).controller)
  unfolding read_through reading0 reading1
  group_read_lem {n} {k} s bit = rw (group_promised s, (stands calls).taken, bit, same calls) (go (is_set n))
    where
      c : Controller
      c = controller_of f

      go : (one : Bool) → (cond one (reading1 k c) (reading0 k c)).value ≡ value_of k (cond one c.group1 c.group0)
      go true = refl
      go false = refl

  -- Where no port was opened, asking answers 3.
  pub ask_closed : {a : ℕ} {r : Number} → Asks m a r → a < 4096 → opening_of past a ≡ None → r ≡ number_with 3 0
  ask_closed {a} s low e = asks_promised s ∙ ap answer_number (demand.ask_closed (ran calls) a (asked m a) refl low e)

  module _ (a : ℕ) (o : Opening) (opened : opening_of past a ≡ Some o) where
    accepts : refusal_of (asked m a) ≡ 0
    accepts = demand.ask_open (ran calls) a o opened (asked m a) refl

    -- Asking an open port is not refused, and its state is 0, never, exactly where nothing filled it since it was opened: an empty port
    -- says that it is empty.
    pub ask_never : {r : Number} → Asks m a r → (r.refusal ≡ 0) × ((r.value ≡ 0) ↔ (fillings past a o ≡ []))
    ask_never s =
        let never = demand.ask_never (ran calls) a o opened (asked m a) refl in
        let zeros = value_zero (asked m a) in
        rw (asks_promised s) (
          sym (answer_refusal (asked m a)) ∙ accepts,
          (λ e. never.0 (only (zeros.0 e)), λ e. zeros.1 (inl (never.1 e))),
        )
      where
        only : ShowsNone (asked m a) → asked m a ≡ Never
        only (inl p) = p
        only (inr (n, p)) = absurd (not_refused m a accepts n p)

    -- What asking answers is what the past tells: 0 never, 1 good, 2 held, 3 stale.
    pub ask_told : {r : Number} → Asks m a r → r ≡ answer_number (asked_told past a o)
    ask_told s = asks_promised s ∙ ap answer_number (demand.ask_told (ran calls) a o opened (asked m a) refl)

    -- Its state is 3, stale, exactly where it was filled, is not held, is supervised, and its age is at or above its limit.
    pub ask_stale : {r : Number} → Asks m a r → (r.value ≡ 3) ↔ IsStale past a o
    ask_stale s =
        let stale = demand.ask_stale (ran calls) a o opened (asked m a) refl in
        let three = value_stale (asked m a) in
        rw (asks_promised s) (λ e. stale.0 (three.0 e), λ x. three.1 (stale.1 x))

    -- Fetching hands back the words that filled the port last, then zeros, and none where nothing filled it.
    pub fetch_shows : {r : Fetched} → Fetches m a r
        → let ws = shown_words (last_of (fillings past a o)) in
        (r.refusal ≡ 0) × (r.size ≡ length ws) × (r.words ≡ padded ws)
    unfolding fetching
    fetch_shows s =
        rw (fetches_promised s, pages_fit_lem m (fits calls), demand.fetch_shows (ran calls) a o opened (fetched m a) refl) (accepts, refl, refl)

-- ---- in any memory

-- Whatever the areas hold, fetching hands back no word exactly when asking is refused or answers never, or a page has another length.
pub empty_exactly : {m : Areas} {a : ℕ} {r : Fetched} {q : Number} → Fetches m a r → Asks m a q
    → (r.size ≡ 0) ↔ ((q.value ≡ 0) ⊎ (pages_fit m ≡ false))
unfolding fetching
empty_exactly {m} {a} s t =
    let empty = demand.empty_exactly m a (fetched m a) (asked m a) refl refl in
    rw (fetches_promised s, asks_promised t) (
      λ e. told (empty.0 (no_size (fetched m a) e)),
      λ e. ap (λ (ws : List ℕ). length ws) (empty.1 (back e)),
    )
  where
    no_size : (ws : List ℕ) → length ws ≡ 0 → ws ≡ []
    no_size [] e = refl
    no_size (w ∷ ws) e = absurd (omega arith)

    told : ShowsNone (asked m a) ⊎ (pages_fit m ≡ false)
        → ((answer_number (asked m a)).value ≡ 0) ⊎ (pages_fit m ≡ false)
    told (inl e) = inl ((value_zero (asked m a)).1 e)
    told (inr e) = inr e

    back : ((answer_number (asked m a)).value ≡ 0) ⊎ (pages_fit m ≡ false)
        → ShowsNone (asked m a) ⊎ (pages_fit m ≡ false)
    back (inl e) = inl ((value_zero (asked m a)).0 e)
    back (inr e) = inr e

-- It answers 1 where a page has another length, and else the number that asking answers.
pub fetch_number : {m : Areas} {a : ℕ} {r : Fetched} {q : Number} → Fetches m a r → Asks m a q
    → r.refusal ≡ cond (pages_fit m) q.refusal 1
unfolding fetching
fetch_number {m} {a} s t = rw (fetches_promised s, asks_promised t, answer_refusal (asked m a))

-- ---- the check bytes of a frame

-- A slave frame of the expected size that a host sends with these check bytes is judged sound,
pub slave_checked : {ws : List ℕ} {r : FlatChecks} → Checks ws r → (code n : ℕ) → expected_of code ≡ Some n → length ws ≡ n
    → judged_slave code (hearing_of (frame_with 3 ws r)) ≡ Sound
unfolding flat_checks hearing_of sent
slave_checked {ws} s code n e l = rw (checks_promised s) (sent_sound code n ws e l)

-- and a master frame of one word is a sound master frame.
pub master_checked : {ws : List ℕ} {r : FlatChecks} → Checks ws r → length ws ≡ 1 → SoundMaster (hearing_of (frame_with 2 ws r))
unfolding flat_checks hearing_of sent judged_master judged_slave judged counts_right words_of expected_of sizes
master_checked {ws} s l = rw (checks_promised s) (record { kind = refl; sound = sent_sound 0 1 ws refl l })
