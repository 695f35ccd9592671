-- A reply is itself a sound slave frame: the frame that is sent for some words of the expected size is judged sound, and the words that a
-- source shows have that size. Assumes nothing.
use Prim.Native.Nat.{ℕ, zero, suc, ◌*◌, ◌%◌, ◌≤◌}
use mathlib.Core.Path.{◌≡◌, refl, sym, ◌∙◌, ap}
use mathlib.Core.Bool.{Bool, true, false, cond, not, ◌&&◌, and-eq-true_iff}
use mathlib.Core.List.{List, [], ◌∷◌}
use Rattle.std.specs.Prelude.{Option, None, Some}
use native.Mathlib.Omega.{arith}
use lib.Dec.{eqb}
use lib.ListN.{length, drop, replicate, length-drop, length-replicate}
use lib.Seq.{length-take-le}
use borrow.Author.Tests.{eq-eqb, eqb-true, ne_eqb, leb-true}
use Rattle.sequence.specs.Frame.{blocks, frame_checks}
use Rattle.frames.specs.declared.Judgement.TheVariants.{Sound}
use Rattle.frames.specs.Hearing.{words_of}
use Rattle.frames.specs.Size.{sizes, expected_of}
use Rattle.frames.specs.Judge.{counts_right, wrong_at, wrong_of, judged, judged_slave}
use Rattle.frames.proofs.Judged.{computed_right}
use Rattle.frames.proofs.Sizes.{longest}
use Rattle.model.specs.Layout.{Areas, areas_fit, port_at, flags_of, part_of}
use Rattle.model.specs.Ports.{code_of, address_of, has_ports, size_of, valid_page, Standing, standing_of, standing}
use Rattle.model.specs.declared.Device.{Device}
use Rattle.model.specs.declared.Lines.{Lines}
use Rattle.model.specs.Lines.{status_with}
use Rattle.model.specs.Event.{open_for, port_for, if_source, source_for, polls_us, device_with, own_words, if_expected, answer_to, sent}
use Rattle.model.specs.Calls.{Call}
use Rattle.model.specs.Past.{Opening, opening_of, writes_since, last_of, fillings, source_told, last_settings, status_told, reply_told}
use Rattle.model.proofs.ToldPort.{standing_with, told_standing}
use Rattle.model.proofs.Accepted.{port_open}
use Rattle.model.proofs.Stored.{stored_part}
use Rattle.model.proofs.Formed.{lengths, size_small}
use Rattle.model.proofs.Standings.{standing_at_lem}

silent : {ws : List ℕ} → None ≡ Some ws → ⊥
silent e = let z : ◌≡◌ {A = ℕ} 0 1 = cc in omega arith

-- what a line hears of it are the words
sent_words : (ws : List ℕ) → length ws ≤ 16 → words_of (sent ws) ≡ ws
unfolding words_of sent
sent_words ws h = stored_part (replicate 16 0) 0 ws (omega (arith, length-replicate {A = ℕ} 16 0))

-- The frame that is sent for words of the expected size is a sound slave frame.
pub sent_sound : (code n : ℕ) (ws : List ℕ) → expected_of code ≡ Some n → length ws ≡ n → judged_slave code (sent ws) ≡ Sound
unfolding judged_slave judged counts_right sent wrong_of wrong_at frame_checks
sent_sound code n ws e l =
    let short : length ws ≤ 16 = omega (arith, longest code n e) in
    rw (
      e,
      sent_words ws short,
      eq-eqb (length ws) n l,
      ap blocks l,
      eq-eqb (blocks n) (blocks n) refl,
      computed_right ws (frame_checks ws).bytes 0 refl,
      computed_right ws (frame_checks ws).bytes 1 refl,
      computed_right ws (frame_checks ws).bytes 2 refl,
      computed_right ws (frame_checks ws).bytes 3 refl,
    )

-- ---- the words of a port have its size

-- the first n words of a port in a page are n words, if n is at most sixteen
pub part_size : (page : List ℕ) (p n : ℕ) → length page ≡ 4096 → p ≤ 255 → n ≤ 16 → length (part_of page p n) ≡ n
unfolding part_of
part_size page p n l h k = length-take-le n (drop (16 * p) page) (omega (arith, length-drop (16 * p) page))

-- The words that an address shows have the size of its F-code.
shown_size : (m : Areas) (a : ℕ) (v : Standing) → areas_fit m ≡ true → standing m a ≡ Some v → (ws : List ℕ) → v.shows ≡ Some ws
    → length ws ≡ size_of (code_of v.word)
unfolding standing_of
shown_size m a v s e ws q =
    let at = standing_at_lem m a v e in
    let p = v.port in
    let f = flags_of (port_at m p).flags in
    go f.ever (ap (λ (x : Standing). x.word) at.whole) (sym (ap (λ (x : Standing). x.shows) at.whole) ∙ q) (either f.vp)
  where
    either : (b : Bool) → length (cond b m.page1 m.page0) ≡ 4096
    either true = (lengths m s).page1
    either false = (lengths m s).page0

    go : (b : Bool) → v.word ≡ (port_at m v.port).master
        → cond b
        (Some (part_of (valid_page m (flags_of (port_at m v.port).flags)) v.port (size_of (code_of (port_at m v.port).master)))) None ≡ Some ws
        → length (valid_page m (flags_of (port_at m v.port).flags)) ≡ 4096 → length ws ≡ size_of (code_of v.word)
    go true ew es l =
        let r : part_of (valid_page m (flags_of (port_at m v.port).flags)) v.port (size_of (code_of (port_at m v.port).master)) ≡ ws =
        cc in
        ap length (sym r) ∙ part_size _ v.port _ l (standing_at_lem m a v e).small (size_small (code_of (port_at m v.port).master))
        ∙ ap (λ (w : ℕ). size_of (code_of w)) (sym ew)
    go false ew es l = absurd (silent es)

-- ---- what is answered to a sound master frame

-- F-codes 0 to 4 expect a reply
expected_port : (code : ℕ) → code ≤ 4 → (n : ℕ) × (expected_of code ≡ Some n)
unfolding expected_of sizes
expected_port zero h = (1, refl)
expected_port (suc zero) h = (2, refl)
expected_port (suc (suc zero)) h = (4, refl)
expected_port (suc (suc (suc zero))) h = (8, refl)
expected_port (suc (suc (suc (suc zero)))) h = (16, refl)
expected_port (suc (suc (suc (suc (suc c))))) h = absurd (omega arith)

-- and so does a status poll
poll_expects : expected_of 15 ≡ Some 1
unfolding expected_of sizes
poll_expects = refl

-- the words of the source for w have the size of its code
source_size : (m : Areas) (w : ℕ) → areas_fit m ≡ true → (ws : List ℕ) → source_for m w ≡ Some ws → length ws ≡ size_of (code_of w)
source_size m w s ws e = go (port_for m w) refl e
  where
    go : (o : Option Standing) → port_for m w ≡ o → if_source o ≡ Some ws → length ws ≡ size_of (code_of w)
    go None eo ei = absurd (silent ei)
    go (Some v) eo ei = by v.sink ei
      where
        by : (b : Bool) → cond b None v.shows ≡ Some ws → length ws ≡ size_of (code_of w)
        by true q = absurd (silent q)
        by false q =
            let at = port_open m w v eo in
            shown_size m (address_of w) v s at.0 ws q ∙ ap (λ (x : ℕ). size_of (code_of x)) at.1

-- What is answered to a sound master frame is a sound slave frame for its code.
pub answer_sound : (d : Device) (m : Areas) (w : ℕ) → areas_fit m ≡ true → (ws : List ℕ) → answer_to d m w ≡ Some ws
    → judged_slave (code_of w) (sent ws) ≡ Sound
unfolding answer_to size_of
answer_sound d m w s ws e = go (expected_of (code_of w)) refl (source_for m w) refl e
  where
    sized : (n : ℕ) → expected_of (code_of w) ≡ Some n → size_of (code_of w) ≡ n
    sized n ex = rw ex

    go : (x : Option ℕ) → expected_of (code_of w) ≡ x → (o : Option (List ℕ)) → source_for m w ≡ o → if_expected x (own_words d w o) ≡ Some ws
        → judged_slave (code_of w) (sent ws) ≡ Sound
    go None ex o eo ei = absurd (silent ei)
    go (Some n) ex (Some r) eo ei =
        let q : r ≡ ws = cc in
        sent_sound (code_of w) n ws ex (source_size m w s ws (eo ∙ ei) ∙ sized n ex)
    go (Some n) ex None eo ei = status (eqb (code_of w) 15) refl (eqb (address_of w) d.address) d.set ei
      where
        status : (b : Bool) → eqb (code_of w) 15 ≡ b → (c k : Bool) → cond (b && c && k) (Some (d.status ∷ [])) None ≡ Some ws
            → judged_slave (code_of w) (sent ws) ≡ Sound
        status true eb true true q =
            let r : d.status ∷ [] ≡ ws = cc in
            sent_sound (code_of w) 1 ws (ap expected_of (eqb-true _ _ eb) ∙ poll_expects) (ap length (sym r))
        status true eb true false q = absurd (silent q)
        status true eb false k q = absurd (silent q)
        status false eb c k q = absurd (silent q)

-- ---- the answer, from the past

-- the status word that the host set, if it set one
abbrev pub status_now : Device → Option ℕ
status_now d = cond d.set (Some d.status) None

module _ (past : List Call) (d : Device) (m : Areas) (stands : (a : ℕ) → standing m a ≡ told_standing past a (opening_of past a)) where
  source_told_lem : (w : ℕ) → has_ports (code_of w) ≡ true → source_for m w ≡ source_told past w (opening_of past (address_of w))
  unfolding port_for
  source_told_lem w p = rw (p, stands (address_of w)) (go (opening_of past (address_of w)))
    where
      go : (o : Option Opening) → if_source (open_for w (told_standing past (address_of w) o)) ≡ source_told past w o
      go None = refl
      go (Some o) = by (eqb o.word w) o.sink refl
        where
          wr : List (List ℕ)
          wr = writes_since past (address_of w)

          by : (b c : Bool) → o.sink ≡ c
              → if_source (cond b (Some (standing_with o (last_of (fillings past (address_of w) o)) (length (fillings past (address_of w) o) % 65536))) None)
              ≡ cond (b && not c) (last_of wr) None
          by true true e = rw e
          by true false e = rw e
          by false c e = refl

  -- A master frame of a port is answered with what its open source was last written, or not at all.
  pub data_told_lem : (w : ℕ) → has_ports (code_of w) ≡ true → answer_to d m w ≡ source_told past w (opening_of past (address_of w))
  unfolding answer_to
  data_told_lem w p =
      let small : code_of w ≤ 4 = leb-true _ _ p in
      let x = expected_port (code_of w) small in
      rw x.1 (own (source_for m w) ∙ source_told_lem w p)
    where
      own : (o : Option (List ℕ)) → own_words d w o ≡ o
      own None = let n : code_of w ≡ 15 → ⊥ = λ e. omega (arith, leb-true (code_of w) 4 p) in rw (ne_eqb (code_of w) 15 n)
      own (Some ws) = refl

  -- no port, no poll to our address: no answer
  unpolled : (w : ℕ) → has_ports (code_of w) ≡ false → polls_us d w ≡ false → answer_to d m w ≡ None
  unfolding answer_to port_for
  unpolled w n p = rw (n, p) (quiet (expected_of (code_of w)))
    where
      quiet : (x : Option ℕ) → if_expected x None ≡ None
      quiet (Some k) = refl
      quiet None = refl

-- the same with these lines in the status word
module _ (past : List Call) (d : Device) (m : Areas) (stands : (a : ℕ) → standing m a ≡ told_standing past a (opening_of past a)) (l : Lines) where
  -- A status poll to our address is answered with the status word last set, or not at all.
  status_told_lem : (w : ℕ) → polls_us d w ≡ true → status_now d ≡ (last_settings past).status
      → answer_to (device_with l d) m w ≡ status_told l (last_settings past).status
  unfolding answer_to port_for
  status_told_lem w p e =
      let q = (and-eq-true_iff _ _).0 p in
      let c : code_of w ≡ 15 = eqb-true _ _ q.0 in
      rw (c, poll_expects, q.0, q.1) (go d.set ∙ ap (status_told l) e)
    where
      go : (b : Bool) → cond b (Some (status_with l d.status ∷ [])) None ≡ status_told l (cond b (Some d.status) None)
      go true = refl
      go false = refl

  -- A sound master frame of any code is answered as the past tells, and not otherwise.
  pub exact_told : (w : ℕ) → status_now d ≡ (last_settings past).status → d.address ≡ (last_settings past).address
      → answer_to (device_with l d) m w ≡ reply_told past l w
  unfolding reply_told
  exact_told w e here = go (has_ports (code_of w)) refl
    where
      polled : (b : Bool) → polls_us d w ≡ b → has_ports (code_of w) ≡ false
          → answer_to (device_with l d) m w ≡ cond b (status_told l (last_settings past).status) None
      polled true p n = status_told_lem w p e
      polled false p n = unpolled past (device_with l d) m stands w n p

      go : (b : Bool) → has_ports (code_of w) ≡ b
          → answer_to (device_with l d) m w ≡ cond b (source_told past w (opening_of past (address_of w)))
          (cond (eqb (code_of w) 15 && eqb (address_of w) (last_settings past).address) (status_told l (last_settings past).status) None)
      go true p = data_told_lem past (device_with l d) m stands w p
      go false p = polled (eqb (code_of w) 15 && eqb (address_of w) (last_settings past).address) (rw here) p
