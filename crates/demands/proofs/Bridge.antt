-- What each public function promises, as its contract says it, is a `Made`: the contract's own reading is cited, so that a promise that says
-- less no longer gives the call. Assumes nothing.
use Prim.Native.Nat.{ℕ}
use mathlib.Core.Path.{◌≡◌, sym, ap, ◌∙◌}
use mathlib.Core.Bool.{true}
use mathlib.Core.List.{List}
use lib.ListN.{get_or}
use Rattle.constants.specs.Refusal.{told}
use Rattle.constants.proofs.Numbers.{told_one}
use Rattle.model.specs.Answer.{answer_of}
use Rattle.model.specs.declared.Controller.{Controller}
use Rattle.model.specs.Layout.{Areas, areas, words_at, flags_of}
use Rattle.model.specs.Event.{world, silent}
use Rattle.model.specs.Host.{address, status, reply_time, slm, ls, ec_clear, reset, group0, group1}
use Rattle.model.specs.Calls.{hear, quiet, open_port, close_port, write_port, read_port, setting, port_refusal, fetched, refusal_of}
use Rattle.model.proofs.Asking.{asks_alone, number_alone, one_answer_of}
use Rattle.areas.specs.Lent.{valid_lent, Lies}
use Rattle.areas.proofs.One.{OnePlace, one_place}
use Rattle.host_ports.specs.Host.{Out, hands_back}
use Rattle.host_controller.specs.Groups.{call_of}
use Rattle.host_controller.specs.Settings.{after_told}
use Rattle.bus.specs.Promise.{as_outcome}
use Rattle.bus.specs.One.{One}
use Rattle.demands.specs.Made.{Made, by_hear, by_quiet, by_open, by_close, by_write, by_ask, by_set_address, by_set_reply_time}
use Rattle.demands.specs.Made.{by_set_status, by_set_slm, by_set_ls, by_clear_ec, by_reset, by_on_group0, by_on_group1}
use Rattle.bus.proofs.calls.hear.Reads as hear-reads
use Rattle.bus.proofs.calls.quiet.Reads as quiet-reads
use Rattle.host_ports.proofs.calls.«open».Reads as open-reads
use Rattle.host_ports.proofs.calls.close.Reads as close-reads
use Rattle.host_ports.proofs.calls.write.Reads as write-reads
use Rattle.host_ports.proofs.calls.ask.Reads as ask-reads
use Rattle.host_ports.proofs.calls.fetch.Reads as fetch-reads
use Rattle.host_controller.proofs.settings.set_address.Reads as set-address-reads
use Rattle.host_controller.proofs.settings.set_status.Reads as set-status-reads
use Rattle.host_controller.proofs.settings.set_reply_time.Reads as set-reply-time-reads
use Rattle.host_controller.proofs.settings.set_slm.Reads as set-slm-reads
use Rattle.host_controller.proofs.settings.set_ls.Reads as set-ls-reads
use Rattle.host_controller.proofs.settings.clear_ec.Reads as clear-ec-reads
use Rattle.host_controller.proofs.settings.reset.Reads as reset-reads
use Rattle.host_controller.proofs.groups.on_group0.Reads as on-group0-reads
use Rattle.host_controller.proofs.groups.on_group1.Reads as on-group1-reads

-- a call on the bus: index table, port words, page 0 and page 1, the controller, and what was heard on line A and on line B
pub made_hear : (κs : _) (a : _) (r : _) (e : _) → hear-reads.Learnt κs a r e
    → let o = as_outcome a.1.1.1.1.0 (areas a.0.now e.1.0.now e.1.1.0.now e.1.1.1.0.now) r in
    Made (world a.1.1.1.1.0 (areas a.0.now a.1.0.now a.1.1.0.now a.1.1.1.0.now)) (hear a.1.1.1.1.1.0 a.1.1.1.1.1.1.0) o.refusal o.reply o.world
made_hear κs a r e p = by_hear p

-- quiet time gives `by_quiet`
pub made_quiet : (κs : _) (a : _) (r : _) (e : _) → quiet-reads.Learnt κs a r e
    → let o = as_outcome a.1.1.1.1.0 (areas a.0.now e.1.0.now a.1.1.0.now a.1.1.1.0.now) r in
    Made (world a.1.1.1.1.0 (areas a.0.now a.1.0.now a.1.1.0.now a.1.1.1.0.now)) (quiet a.1.1.1.1.1.0) o.refusal o.reply o.world
made_quiet κs a r e p = by_quiet p

-- the host's calls on ports, beside whatever controller there is
module _ (c : Controller) where
  -- asking gives `by_ask`, beside whatever pages there are
  pub made_ask : (page0 page1 : List ℕ) (κs : _) (a : _) (r : _) (e : _) → ask-reads.Learnt κs a r e
      → let m = areas a.0.now a.1.0.now page0 page1 in
      Made (world c m) (read_port a.1.1.0) (refusal_of (answer_of r)) silent (world c m)
  made_ask page0 page1 κs a r e p = by_ask (p.0 ∙ sym (asks_alone a.0.now a.1.0.now page0 page1 a.1.1.0))

  -- opening gives `by_open`
  pub made_open : (κs : _) (a : _) (r : _) (e : _) → open-reads.Learnt κs a r e
      → Made (world c (areas a.0.now a.1.0.now a.1.1.0.now a.1.1.1.0.now))
      (open_port a.1.1.1.1.0 a.1.1.1.1.1.0 a.1.1.1.1.1.1.0 a.1.1.1.1.1.1.1.0 a.1.1.1.1.1.1.1.1.0
      a.1.1.1.1.1.1.1.1.1.0)
      (told r) silent (world c (areas e.0.now e.1.0.now a.1.1.0.now a.1.1.1.0.now))
  made_open κs a r e p = by_open p

  -- closing gives `by_close`
  pub made_close : (κs : _) (a : _) (r : _) (e : _) → close-reads.Learnt κs a r e
      → Made (world c (areas a.0.now a.1.0.now a.1.1.0.now a.1.1.1.0.now)) (close_port a.1.1.1.1.0) (told r) silent
      (world c (areas e.0.now e.1.0.now a.1.1.0.now a.1.1.1.0.now))
  made_close κs a r e p = by_close p

  -- writing gives `by_write`
  pub made_write : (κs : _) (a : _) (r : _) (e : _) → write-reads.Learnt κs a r e
      → Made (world c (areas a.0.now a.1.0.now a.1.1.0.now a.1.1.1.0.now)) (write_port a.1.1.1.1.0 a.1.1.1.1.1.0.now) (told r) silent
      (world c (areas a.0.now e.1.0.now e.1.1.0.now e.1.1.1.0.now))
  made_write κs a r e p = by_write p

-- So opening answers one result,
pub one_open : (κs : _) (a : _) (r s : _) (e f : _) → open-reads.Learnt κs a r e → open-reads.Learnt κs a s f → r ≡ s
one_open κs a r s e f p q = told_one r s (ap (λ (x : Out). x.number) (p ∙ sym q))

-- closing one,
pub one_close : (κs : _) (a : _) (r s : _) (e f : _) → close-reads.Learnt κs a r e → close-reads.Learnt κs a s f → r ≡ s
one_close κs a r s e f p q = told_one r s (ap (λ (x : Out). x.number) (p ∙ sym q))

-- writing one,
pub one_write : (κs : _) (a : _) (r s : _) (e f : _) → write-reads.Learnt κs a r e → write-reads.Learnt κs a s f → r ≡ s
one_write κs a r s e f p q = told_one r s (ap (λ (x : Out). x.number) (p ∙ sym q))

-- and asking one.
pub one_ask : (κs : _) (a : _) (r s : _) (e f : _) → ask-reads.Learnt κs a r e → ask-reads.Learnt κs a s f → r ≡ s
one_ask κs a r s e f p q = one_answer_of r s (p.0 ∙ sym q.0)

-- fetching hands back the words that `fetched` defines
pub fetch_promised : (κs : _) (a : _) (r : _) (e : _) → fetch-reads.Learnt κs a r e → r.now ≡ fetched (areas a.0.now a.1.0.now a.1.1.0.now a.1.1.1.0.now) a.1.1.1.1.0
fetch_promised κs a r e p = p.0

-- where words are handed back, they lie in the valid page, in the port's place
pub fetch_lies : (κs : _) (a : _) (r : _) (e : _) → fetch-reads.Learnt κs a r e
    → let p = get_or a.0.now a.1.1.1.1.0 0 in
    hands_back (areas a.0.now a.1.0.now a.1.1.0.now a.1.1.1.0.now) a.1.1.1.1.0 ≡ true
    → Lies r (valid_lent a.1.1.0 a.1.1.1.0 (flags_of (words_at a.1.0.now p).flags)) p
fetch_lies κs a r e p = p.1

-- so two results hold the same words, and where words are handed back they lie in one place
pub one_fetch : (κs : _) (a : _) (r s : _) (e f : _) → fetch-reads.Learnt κs a r e → fetch-reads.Learnt κs a s f
    → let p = get_or a.0.now a.1.1.1.1.0 0 in
    (r.now ≡ s.now)
    × (hands_back (areas a.0.now a.1.0.now a.1.1.0.now a.1.1.1.0.now) a.1.1.1.1.0 ≡ true
    → OnePlace r s (valid_lent a.1.1.0 a.1.1.1.0 (flags_of (words_at a.1.0.now p).flags)) p)
one_fetch κs a r s e f p q =
    let port = get_or a.0.now a.1.1.1.1.0 0 in
    let page = valid_lent a.1.1.0 a.1.1.1.0 (flags_of (words_at a.1.0.now port).flags) in
    (fetch_promised κs a r e p ∙ sym (fetch_promised κs a s f q), λ h. one_place r s page port (fetch_lies κs a r e p h) (fetch_lies κs a s f q h))

-- asking answers document 01's number, beside whatever pages there are
pub ask_number : (page0 page1 : List ℕ) (κs : _) (a : _) (r : _) (e : _) → ask-reads.Learnt κs a r e
    → refusal_of (answer_of r) ≡ port_refusal (read_port a.1.1.0) (areas a.0.now a.1.0.now page0 page1)
ask_number page0 page1 κs a r e p = p.1 ∙ sym (number_alone a.0.now a.1.0.now page0 page1 a.1.1.0)

-- the host's settings, beside whatever areas there are
module _ (m : Areas) where
  -- setting the device address gives `by_set_address`
  pub made_set_address : (κs : _) (a : _) (r : _) (e : _) → set-address-reads.Learnt κs a r e → Made (world a.0 m) (setting (address a.1.0)) (told r) silent (world (after_told a.0 r) m)
  made_set_address κs a r e p = by_set_address p

  -- setting the reply time gives `by_set_reply_time`
  pub made_set_reply_time : (κs : _) (a : _) (r : _) (e : _) → set-reply-time-reads.Learnt κs a r e → Made (world a.0 m) (setting (reply_time a.1.0)) (told r) silent (world (after_told a.0 r) m)
  made_set_reply_time κs a r e p = by_set_reply_time p

  -- setting the status word gives `by_set_status`
  pub made_set_status : (κs : _) (a : _) (r : _) (e : _) → set-status-reads.Learnt κs a r e → Made (world a.0 m) (setting (status a.1.0)) 0 silent (world r m)
  made_set_status κs a r e p = by_set_status p

  -- setting SLM gives `by_set_slm`
  pub made_set_slm : (κs : _) (a : _) (r : _) (e : _) → set-slm-reads.Learnt κs a r e → Made (world a.0 m) (setting (slm a.1.0)) 0 silent (world r m)
  made_set_slm κs a r e p = by_set_slm p

  -- filing LS gives `by_set_ls`
  pub made_set_ls : (κs : _) (a : _) (r : _) (e : _) → set-ls-reads.Learnt κs a r e → Made (world a.0 m) (setting (ls a.1.0)) 0 silent (world r m)
  made_set_ls κs a r e p = by_set_ls p

  -- clearing EC gives `by_clear_ec`
  pub made_clear_ec : (κs : _) (a : _) (r : _) (e : _) → clear-ec-reads.Learnt κs a r e → Made (world a.0 m) (setting ec_clear) 0 silent (world r m)
  made_clear_ec κs a r e p = by_clear_ec p

  -- a reset gives `by_reset`, whatever controller there was
  pub made_reset : (c : Controller) (κs : _) (a : _) (r : _) (e : _) → reset-reads.Learnt κs a r e → Made (world c m) (setting reset) 0 silent (world r m)
  made_reset c κs a r e p = by_reset p

  -- a call on group 0 gives `by_on_group0`
  pub made_on_group0 : (κs : _) (a : _) (r : _) (e : _) → on-group0-reads.Learnt κs a r e
      → Made (world a.0 m) (setting (group0 (call_of a.1.0))) 0 silent (world r.controller m)
  made_on_group0 κs a r e p = by_on_group0 a.1.0 p

  -- a call on group 1 gives `by_on_group1`
  pub made_on_group1 : (κs : _) (a : _) (r : _) (e : _) → on-group1-reads.Learnt κs a r e
      → Made (world a.0 m) (setting (group1 (call_of a.1.0))) 0 silent (world r.controller m)
  made_on_group1 κs a r e p = by_on_group1 a.1.0 p

-- The promise of a call on a group allows one result alone: what was read is equal too, which `Made` leaves out.
pub one_reading0 : One on-group0-reads.Learnt
one_reading0 κs a r q e d x y = x ∙ sym y

-- The same holds of group 1.
pub one_reading1 : One on-group1-reads.Learnt
one_reading1 κs a r q e d x y = x ∙ sym y
