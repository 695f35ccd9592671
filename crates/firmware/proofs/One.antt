-- A promise of an exported call allows one result alone: two that the contract's own reading allows, of the same arguments, are equal, with
-- what they leave in the areas. So a promise that says less is refused here. Assumes nothing.
use Prim.Native.Nat.{ℕ}
use mathlib.Core.Path.{◌≡◌, sym, ◌∙◌, ap}
use Rattle.model.specs.Layout.{areas, Areas}
use Rattle.host_ports.specs.Host.{Out, out}
use Rattle.bus.specs.One.{One}
use Rattle.firmware.specs.declared.FlatAnswered.{FlatAnswered}
use Rattle.firmware.specs.Promise.{FlatOutcome, leaves}
use Rattle.firmware.proofs.bus_calls.tolvendrum_hear.Reads as hear-reads
use Rattle.firmware.proofs.bus_calls.tolvendrum_quiet.Reads as quiet-reads
use Rattle.firmware.proofs.port_calls.tolvendrum_open.Reads as open-reads
use Rattle.firmware.proofs.port_calls.tolvendrum_close.Reads as close-reads
use Rattle.firmware.proofs.port_calls.tolvendrum_write.Reads as write-reads
use Rattle.firmware.proofs.bus_calls.tolvendrum_checks.Reads as checks-reads
use Rattle.firmware.proofs.port_calls.tolvendrum_ask.Reads as ask-reads
use Rattle.firmware.proofs.port_calls.tolvendrum_fetch.Reads as fetch-reads
use Rattle.firmware.proofs.setting_calls.tolvendrum_reset.Reads as reset-reads
use Rattle.firmware.proofs.setting_calls.tolvendrum_set_address.Reads as set-address-reads
use Rattle.firmware.proofs.setting_calls.tolvendrum_set_status.Reads as set-status-reads
use Rattle.firmware.proofs.setting_calls.tolvendrum_set_reply_time.Reads as set-reply-time-reads
use Rattle.firmware.proofs.setting_calls.tolvendrum_set_slm.Reads as set-slm-reads
use Rattle.firmware.proofs.setting_calls.tolvendrum_set_ls.Reads as set-ls-reads
use Rattle.firmware.proofs.setting_calls.tolvendrum_clear_ec.Reads as clear-ec-reads
use Rattle.firmware.proofs.group_calls.tolvendrum_read_status.Reads as read-status-reads
use Rattle.firmware.proofs.group_calls.tolvendrum_read_vector.Reads as read-vector-reads
use Rattle.firmware.proofs.group_calls.tolvendrum_write_status.Reads as write-status-reads
use Rattle.firmware.proofs.group_calls.tolvendrum_write_vector.Reads as write-vector-reads
use Rattle.firmware.proofs.group_calls.tolvendrum_write_pending.Reads as write-pending-reads
use Rattle.firmware.proofs.group_calls.tolvendrum_write_mask.Reads as write-mask-reads
use Rattle.firmware.proofs.group_calls.tolvendrum_line.Reads as line-reads
use Rattle.firmware.proofs.group_calls.tolvendrum_fc.Reads as fc-reads
use Rattle.firmware.proofs.group_calls.tolvendrum_ec.Reads as ec-reads

-- ---- the areas and the answer, as one record: where it is the same, so is each

one_leaving : {m k : Areas} {r s : FlatAnswered} {x : FlatOutcome} → leaves m r ≡ x → leaves k s ≡ x → (m ≡ k) × (r ≡ s)
one_leaving p q = (ap (λ (x : FlatOutcome). x.areas) (p ∙ sym q), ap (λ (x : FlatOutcome). x.answered) (p ∙ sym q))

one_out : {m k : Areas} {r s : ℕ} {x : Out} → out m r ≡ x → out k s ≡ x → (m ≡ k) × (r ≡ s)
one_out p q = (ap (λ (x : Out). x.after) (p ∙ sym q), ap (λ (x : Out). x.number) (p ∙ sym q))

-- ---- each function that is lent areas to change

-- `tolvendrum_hear` leaves the same areas and answers the same.
pub one_hear : (κs : _) (a : _) (r s : _) (e f : _) → hear-reads.Learnt κs a r e → hear-reads.Learnt κs a s f
    → (areas a.0.now e.1.0.now e.1.1.0.now e.1.1.1.0.now ≡ areas a.0.now f.1.0.now f.1.1.0.now f.1.1.1.0.now) × (r ≡ s)
one_hear κs a r s e f p q = one_leaving p q

-- So does `tolvendrum_quiet`.
pub one_quiet : (κs : _) (a : _) (r s : _) (e f : _) → quiet-reads.Learnt κs a r e → quiet-reads.Learnt κs a s f
    → (areas a.0.now e.1.0.now a.1.1.0.now a.1.1.1.0.now ≡ areas a.0.now f.1.0.now a.1.1.0.now a.1.1.1.0.now) × (r ≡ s)
one_quiet κs a r s e f p q = one_leaving p q

-- So does `tolvendrum_open`.
pub one_open : (κs : _) (a : _) (r s : _) (e f : _) → open-reads.Learnt κs a r e → open-reads.Learnt κs a s f
    → (areas e.0.now e.1.0.now a.1.1.0.now a.1.1.1.0.now ≡ areas f.0.now f.1.0.now a.1.1.0.now a.1.1.1.0.now) × (r ≡ s)
one_open κs a r s e f p q = one_out p q

-- So does `tolvendrum_close`.
pub one_close : (κs : _) (a : _) (r s : _) (e f : _) → close-reads.Learnt κs a r e → close-reads.Learnt κs a s f
    → (areas e.0.now e.1.0.now a.1.1.0.now a.1.1.1.0.now ≡ areas f.0.now f.1.0.now a.1.1.0.now a.1.1.1.0.now) × (r ≡ s)
one_close κs a r s e f p q = one_out p q

-- So does `tolvendrum_write`.
pub one_write : (κs : _) (a : _) (r s : _) (e f : _) → write-reads.Learnt κs a r e → write-reads.Learnt κs a s f
    → (areas a.0.now e.1.0.now e.1.1.0.now e.1.1.1.0.now ≡ areas a.0.now f.1.0.now f.1.1.0.now f.1.1.1.0.now) × (r ≡ s)
one_write κs a r s e f p q = one_out p q

-- ---- the others: the check bytes, what is asked and fetched, settings, and the interrupt groups

-- `tolvendrum_checks` answers one count with its check bytes.
pub one_checks : One checks-reads.Learnt
one_checks κs a r q e d x y = x ∙ sym y

-- `tolvendrum_ask` answers one refusal number and one state.
pub one_ask : One ask-reads.Learnt
one_ask κs a r q e d x y = x ∙ sym y

-- `tolvendrum_fetch` hands back one refusal number, one size and the same words.
pub one_fetch : One fetch-reads.Learnt
one_fetch κs a r q e d x y = x ∙ sym y

-- `tolvendrum_reset` hands out one controller.
pub one_reset : One reset-reads.Learnt
one_reset κs a r q e d x y = x ∙ sym y

-- `tolvendrum_set_address` answers one refusal number and one controller.
pub one_set_address : One set-address-reads.Learnt
one_set_address κs a r q e d x y = x ∙ sym y

-- So does `tolvendrum_set_status`.
pub one_set_status : One set-status-reads.Learnt
one_set_status κs a r q e d x y = x ∙ sym y

-- So does `tolvendrum_set_reply_time`.
pub one_set_reply_time : One set-reply-time-reads.Learnt
one_set_reply_time κs a r q e d x y = x ∙ sym y

-- So does `tolvendrum_set_slm`.
pub one_set_slm : One set-slm-reads.Learnt
one_set_slm κs a r q e d x y = x ∙ sym y

-- So does `tolvendrum_set_ls`.
pub one_set_ls : One set-ls-reads.Learnt
one_set_ls κs a r q e d x y = x ∙ sym y

-- So does `tolvendrum_clear_ec`.
pub one_clear_ec : One clear-ec-reads.Learnt
one_clear_ec κs a r q e d x y = x ∙ sym y

-- `tolvendrum_read_status` answers one refusal number, one value and one controller.
pub one_read_status : One read-status-reads.Learnt
one_read_status κs a r q e d x y = x ∙ sym y

-- So does `tolvendrum_read_vector`.
pub one_read_vector : One read-vector-reads.Learnt
one_read_vector κs a r q e d x y = x ∙ sym y

-- So does `tolvendrum_write_status`.
pub one_write_status : One write-status-reads.Learnt
one_write_status κs a r q e d x y = x ∙ sym y

-- So does `tolvendrum_write_vector`.
pub one_write_vector : One write-vector-reads.Learnt
one_write_vector κs a r q e d x y = x ∙ sym y

-- So does `tolvendrum_write_pending`.
pub one_write_pending : One write-pending-reads.Learnt
one_write_pending κs a r q e d x y = x ∙ sym y

-- So does `tolvendrum_write_mask`.
pub one_write_mask : One write-mask-reads.Learnt
one_write_mask κs a r q e d x y = x ∙ sym y

-- `tolvendrum_line` answers one refusal number and one value of the outgoing line.
pub one_line : One line-reads.Learnt
one_line κs a r q e d x y = x ∙ sym y

-- `tolvendrum_fc` answers one refusal number and one FC.
pub one_fc : One fc-reads.Learnt
one_fc κs a r q e d x y = x ∙ sym y

-- `tolvendrum_ec` answers one refusal number and one EC.
pub one_ec : One ec-reads.Learnt
one_ec κs a r q e d x y = x ∙ sym y
