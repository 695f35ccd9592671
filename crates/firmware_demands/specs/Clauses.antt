-- What each function of the crate `firmware` that is exported promises of one call, by the contract's own reading, with names for its arguments.
-- `Learnt` is what a caller learns, of the lifetimes κs, the arguments in their order, the result r, and what the call left of the
-- arguments: so a line says what the promise says, and no more. Assumes nothing.
use Rattle.std.specs.Prelude.{ℕ, Bool, ◌&&◌, List}
use Rattle.model.specs.Layout.{Areas, areas}
use Rattle.model.specs.Host.{Setting, address, status, reply_time, slm, ls, ec_clear}
use Rattle.areas.specs.Lent.{Slice, MutSlice, ◌&◌}
use Rattle.host_controller.specs.declared.GroupCall.{GroupCall}
use Rattle.host_controller.specs.declared.GroupCall.TheVariants.{ReadStatus, ReadVector, WriteStatus, WriteVector, WritePending, WriteMask}
use Rattle.firmware_layout.specs.declared.FlatController.{FlatController}
use Rattle.firmware_layout.specs.declared.FlatHearing.{FlatHearing}
use Rattle.firmware_layout.specs.Flags.{is_bit, is_set}
use Rattle.firmware_layout.specs.Controller.{ours}
use Rattle.firmware.specs.declared.FlatAnswered.{FlatAnswered}
use Rattle.firmware.specs.declared.FlatTold.{FlatTold}
use Rattle.firmware.specs.declared.FlatReading.{FlatReading}
use Rattle.firmware.specs.declared.Number.{Number}
use Rattle.firmware.specs.declared.Fetched.{Fetched}
use Rattle.firmware.specs.declared.FlatChecks.{FlatChecks}
use Rattle.firmware.proofs.bus_calls.tolvendrum_hear.Reads as hear-reads
use Rattle.firmware.proofs.bus_calls.tolvendrum_quiet.Reads as quiet-reads
use Rattle.firmware.proofs.bus_calls.tolvendrum_checks.Reads as checks-reads
use Rattle.firmware.proofs.port_calls.tolvendrum_open.Reads as open-reads
use Rattle.firmware.proofs.port_calls.tolvendrum_close.Reads as close-reads
use Rattle.firmware.proofs.port_calls.tolvendrum_write.Reads as write-reads
use Rattle.firmware.proofs.port_calls.tolvendrum_ask.Reads as ask-reads
use Rattle.firmware.proofs.port_calls.tolvendrum_fetch.Reads as fetch-reads
use Rattle.firmware.proofs.setting_calls.tolvendrum_reset.Reads as reset-reads
use Rattle.firmware.proofs.setting_calls.tolvendrum_set_address.Reads as set-address-reads
use Rattle.firmware.proofs.setting_calls.tolvendrum_set_status.Reads as set-status-reads
use Rattle.firmware.proofs.setting_calls.tolvendrum_set_reply_time.Reads as set-reply-time-reads
use Rattle.firmware.proofs.setting_calls.tolvendrum_set_slm.Reads as set-slm-reads
use Rattle.firmware.proofs.setting_calls.tolvendrum_set_ls.Reads as set-ls-reads
use Rattle.firmware.proofs.setting_calls.tolvendrum_clear_ec.Reads as clear-ec-reads
use Rattle.firmware.proofs.group_calls.tolvendrum_read_status.Reads as read-status-reads
use Rattle.firmware.proofs.group_calls.tolvendrum_read_vector.Reads as read-vector-reads
use Rattle.firmware.proofs.group_calls.tolvendrum_write_status.Reads as write-status-reads
use Rattle.firmware.proofs.group_calls.tolvendrum_write_vector.Reads as write-vector-reads
use Rattle.firmware.proofs.group_calls.tolvendrum_write_pending.Reads as write-pending-reads
use Rattle.firmware.proofs.group_calls.tolvendrum_write_mask.Reads as write-mask-reads
use Rattle.firmware.proofs.group_calls.tolvendrum_line.Reads as line-reads
use Rattle.firmware.proofs.group_calls.tolvendrum_fc.Reads as fc-reads
use Rattle.firmware.proofs.group_calls.tolvendrum_ec.Reads as ec-reads

-- ---- bus_calls

-- over the areas m and the controller f lines A and B heard x and y; the areas m' are left
pub data Hears : Areas → FlatController → FlatHearing → FlatHearing → FlatAnswered → Areas → Type 0 where
  hears : (κs : _) (index : Slice) (ports page0 page1 : MutSlice) {f : FlatController} {x y : FlatHearing} {r : FlatAnswered}
      (index' : Slice) (ports' page0' page1' : MutSlice) (left : _)
      → hear-reads.Learnt κs (index & ports & page0 & page1 & f & x & y & tt) r (index' & ports' & page0' & page1' & left)
      → Hears (areas index.now ports.now page0.now page1.now) f x y r (areas index.now ports'.now page0'.now page1'.now)

-- n quiet bit times passed
pub data Quiets : Areas → FlatController → ℕ → FlatAnswered → Areas → Type 0 where
  quiets : (κs : _) (index : Slice) (ports : MutSlice) (page0 page1 : Slice) {f : FlatController} {n : ℕ} {r : FlatAnswered}
      (index' : Slice) (ports' : MutSlice) (left : _)
      → quiet-reads.Learnt κs (index & ports & page0 & page1 & f & n & tt) r (index' & ports' & left)
      → Quiets (areas index.now ports.now page0.now page1.now) f n r (areas index.now ports'.now page0.now page1.now)

-- the check bytes of a frame of these words
pub data Checks : List ℕ → FlatChecks → Type 0 where
  checks : (κs : _) (words : Slice) {r : FlatChecks} (left : _) → checks-reads.Learnt κs (words & tt) r left → Checks words.now r

-- ---- port_calls; asking and fetching change nothing

-- port p was opened at address a, with this F-code, side, interrupt and limit; the number r was answered
pub data Opens : Areas → ℕ → ℕ → ℕ → ℕ → ℕ → ℕ → ℕ → Areas → Type 0 where
  opens : (κs : _) (index ports : MutSlice) (page0 page1 : Slice) {a p code side interrupt limit r : ℕ} (index' ports' : MutSlice) (left : _)
      → open-reads.Learnt κs (index & ports & page0 & page1 & a & p & code & side & interrupt & limit & tt) r (index' & ports' & left)
      → Opens (areas index.now ports.now page0.now page1.now) a p code side interrupt limit r (areas index'.now ports'.now page0.now page1.now)

-- the port at address a was closed
pub data Closes : Areas → ℕ → ℕ → Areas → Type 0 where
  closes : (κs : _) (index ports : MutSlice) (page0 page1 : Slice) {a r : ℕ} (index' ports' : MutSlice) (left : _)
      → close-reads.Learnt κs (index & ports & page0 & page1 & a & tt) r (index' & ports' & left)
      → Closes (areas index.now ports.now page0.now page1.now) a r (areas index'.now ports'.now page0.now page1.now)

-- these words were written to the source at address a
pub data Writes : Areas → ℕ → List ℕ → ℕ → Areas → Type 0 where
  writes : (κs : _) (index : Slice) (ports page0 page1 : MutSlice) {a : ℕ} (words : Slice) {r : ℕ} (index' : Slice)
      (ports' page0' page1' : MutSlice) (left : _)
      → write-reads.Learnt κs (index & ports & page0 & page1 & a & words & tt) r (index' & ports' & page0' & page1' & left)
      → Writes (areas index.now ports.now page0.now page1.now) a words.now r (areas index.now ports'.now page0'.now page1'.now)

-- the state of the port at address a was asked for, beside whatever pages there are
pub data Asks : Areas → ℕ → Number → Type 0 where
  asks : (κs : _) (index ports : Slice) (page0 page1 : List ℕ) {a : ℕ} {r : Number} (left : _)
      → ask-reads.Learnt κs (index & ports & a & tt) r left → Asks (areas index.now ports.now page0 page1) a r

-- and its words
pub data Fetches : Areas → ℕ → Fetched → Type 0 where
  fetches : (κs : _) (index ports page0 page1 : Slice) {a : ℕ} {r : Fetched} (left : _)
      → fetch-reads.Learnt κs (index & ports & page0 & page1 & a & tt) r left → Fetches (areas index.now ports.now page0.now page1.now) a r

-- ---- setting_calls

-- a fresh controller
pub data Resets : FlatController → Type 0 where
  resets : (κs : _) {r : FlatController} (left : _) → reset-reads.Learnt κs tt r left → Resets r

-- a setting of the controller f, and whether its arguments are a controller of ours and, where it takes one, a flag
pub data Set (f : FlatController) : Bool → Setting → FlatTold → Type 0 where
  set_address : (κs : _) {a : ℕ} {r : FlatTold} (left : _) → set-address-reads.Learnt κs (f & a & tt) r left → Set f (ours f) (address a) r
  set_status : (κs : _) {w : ℕ} {r : FlatTold} (left : _) → set-status-reads.Learnt κs (f & w & tt) r left → Set f (ours f) (status w) r
  set_reply_time : (κs : _) {t : ℕ} {r : FlatTold} (left : _) → set-reply-time-reads.Learnt κs (f & t & tt) r left
      → Set f (ours f) (reply_time t) r
  set_slm : (κs : _) (on : ℕ) {r : FlatTold} (left : _) → set-slm-reads.Learnt κs (f & on & tt) r left
      → Set f (ours f && is_bit on) (slm (is_set on)) r
  set_ls : (κs : _) (on : ℕ) {r : FlatTold} (left : _) → set-ls-reads.Learnt κs (f & on & tt) r left
      → Set f (ours f && is_bit on) (ls (is_set on)) r
  clear_ec : (κs : _) {r : FlatTold} (left : _) → clear-ec-reads.Learnt κs (f & tt) r left → Set f (ours f) ec_clear r

-- ---- group_calls

-- a call on the interrupt group n of the controller f
pub data OnGroup (f : FlatController) (n : ℕ) : GroupCall → FlatReading → Type 0 where
  read_status : (κs : _) {r : FlatReading} (left : _) → read-status-reads.Learnt κs (f & n & tt) r left → OnGroup f n ReadStatus r
  read_vector : (κs : _) {r : FlatReading} (left : _) → read-vector-reads.Learnt κs (f & n & tt) r left → OnGroup f n ReadVector r
  write_status : (κs : _) {v : ℕ} {r : FlatReading} (left : _) → write-status-reads.Learnt κs (f & n & v & tt) r left
      → OnGroup f n (WriteStatus v) r
  write_vector : (κs : _) {r : FlatReading} (left : _) → write-vector-reads.Learnt κs (f & n & tt) r left → OnGroup f n WriteVector r
  write_pending : (κs : _) {v : ℕ} {r : FlatReading} (left : _) → write-pending-reads.Learnt κs (f & n & v & tt) r left
      → OnGroup f n (WritePending v) r
  write_mask : (κs : _) {v : ℕ} {r : FlatReading} (left : _) → write-mask-reads.Learnt κs (f & n & v & tt) r left
      → OnGroup f n (WriteMask v) r

-- FC was read
pub data ReadsFC (f : FlatController) : Number → Type 0 where
  fc : (κs : _) {r : Number} (left : _) → fc-reads.Learnt κs (f & tt) r left → ReadsFC f r

-- EC was read
pub data ReadsEC (f : FlatController) : Number → Type 0 where
  ec : (κs : _) {r : Number} (left : _) → ec-reads.Learnt κs (f & tt) r left → ReadsEC f r

-- the outgoing line of group n was read
pub data ReadsLine (f : FlatController) (n : ℕ) : Number → Type 0 where
  line : (κs : _) {r : Number} (left : _) → line-reads.Learnt κs (f & n & tt) r left → ReadsLine f n r
