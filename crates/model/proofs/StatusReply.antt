-- The reply to a status poll (document 02, W-201): which bit of it is what, which lines it tells, and that neither the exchange nor any
-- other reply depends on them. Assumes nothing.
use Prim.Native.Nat.{ℕ, suc, ◌+◌, ◌-◌, ◌*◌, ◌/◌, ◌%◌, ◌^◌}
use mathlib.Core.Path.{◌≡◌, refl, sym, ◌∙◌, ap}
use mathlib.Core.Bool.{Bool, true, false, cond, not, ◌&&◌, ◌||◌}
use mathlib.Core.List.{List, [], ◌∷◌}
use Rattle.std.specs.Prelude.{Option, None, Some}
use native.Mathlib.Nat.{mod-lt, add-mul, mul_assoc, pow-succ'}
use native.Mathlib.Numerals.{add-one}
use native.Mathlib.Omega.{arith}
use lib.Dec.{eqb, ltb}
use lib.Pow.{pow_pos, shr-shr, high, low, field, mod-mod-pow}
use borrow.Author.Tests.{eq-eqb, ne_eqb, ltb-true, ltb-false}
use Rattle.frames.specs.declared.Hearing.{Hearing}
use Rattle.frames.specs.declared.Kind.{Kind}
use Rattle.frames.specs.declared.Kind.TheVariants.{Master as MasterFrame}
use Rattle.frames.specs.Size.{expected_of}
use Rattle.model.specs.declared.Device.{Device}
use Rattle.model.specs.declared.Lines.{Lines}
use Rattle.model.specs.Layout.{Areas, bit_at, worth}
use Rattle.model.specs.Ports.{code_of}
use Rattle.model.specs.Lines.{lines, with_rld, unless_slm, rule1, rule4, is_frame, is_poor, before_rule3, laa_bit, rld_bit, with_bit, status_with}
use Rattle.model.specs.Lines.{LineBits}
use Rattle.model.specs.Past.{asks_others}
use Rattle.model.specs.Event.{source_for, polls_us, device_with, own_words, if_expected, answer_to, awaits, exchange_for}

-- ---- one bit of a word replaced

-- a digit below those of q, at the place p
digit_placed : (b : Bool) (q p : ℕ) → q * (2 * p) + worth b p ≡ (q * 2 + worth b 1) * p
digit_placed b q p = rw (add-mul (q * 2) (worth b 1) p, mul_assoc q 2 p) (ap (λ (n : ℕ). q * (2 * p) + n) (by b))
  where
    by : (b : Bool) → worth b p ≡ worth b 1 * p
    by true = omega arith
    by false = omega arith

module _ (i : ℕ) (b : Bool) (s : ℕ) where
  -- the bits above, with the bit as the lowest, and the bits below
  with_split : with_bit i b s ≡ (s / 2 ^ suc i * 2 + worth b 1) * 2 ^ i + s % 2 ^ i
  with_split =
      ap (λ (p : ℕ). s / 2 ^ suc i * p + worth b (2 ^ i) + s % 2 ^ i) (pow-succ' 2 i)
      ∙ ap (λ (n : ℕ). n + s % 2 ^ i) (digit_placed b (s / 2 ^ suc i) (2 ^ i))

  from_bit_lem : with_bit i b s / 2 ^ i ≡ s / 2 ^ suc i * 2 + worth b 1
  from_bit_lem = ap (λ (n : ℕ). n / 2 ^ i) with_split ∙ high (s / 2 ^ suc i * 2 + worth b 1) i (mod-lt s (pow_pos i))

  bits_below : with_bit i b s % 2 ^ i ≡ s % 2 ^ i
  bits_below = ap (λ (n : ℕ). n % 2 ^ i) with_split ∙ low (s / 2 ^ suc i * 2 + worth b 1) i (mod-lt s (pow_pos i))

  bits_above : with_bit i b s / 2 ^ suc i ≡ s / 2 ^ suc i
  bits_above =
      ap (λ (k : ℕ). with_bit i b s / 2 ^ k) (sym (add-one i)) ∙ sym (shr-shr (with_bit i b s) i 1)
      ∙ ap (λ (n : ℕ). n / 2) from_bit_lem ∙ half b
    where
      half : (b : Bool) → (s / 2 ^ suc i * 2 + worth b 1) / 2 ≡ s / 2 ^ suc i
      half true = omega arith
      half false = omega arith

  -- the bit is as b says
  bit_put : bit_at (with_bit i b s) (2 ^ i) ≡ b
  unfolding bit_at
  bit_put = rw from_bit_lem (by b)
    where
      by : (b : Bool) → eqb ((s / 2 ^ suc i * 2 + worth b 1) % 2) 1 ≡ b
      by true = eq-eqb ((s / 2 ^ suc i * 2 + 1) % 2) 1 (omega arith)
      by false = ne_eqb ((s / 2 ^ suc i * 2 + 0) % 2) 1 (omega arith)

  -- and every other as it was
  bit_kept : (j : ℕ) → (j ≡ i → ⊥) → bit_at (with_bit i b s) (2 ^ j) ≡ bit_at s (2 ^ j)
  unfolding bit_at
  bit_kept j n = ap (λ (x : ℕ). eqb x 1) (go (ltb j i) refl)
    where
      go : (c : Bool) → ltb j i ≡ c → with_bit i b s / 2 ^ j % 2 ≡ s / 2 ^ j % 2
      go true e = lower (i - suc j) (omega (arith, ltb-true j i e))
        where
          lower : (k : ℕ) → i ≡ k + (1 + j) → with_bit i b s / 2 ^ j % 2 ≡ s / 2 ^ j % 2
          lower k p = under (with_bit i b s) k p ∙ ap (λ (n : ℕ). n % 2 ^ (1 + j) / 2 ^ j) bits_below ∙ sym (under s k p)
            where
              -- a bit below bit i is one of those below it
              under : (x k : ℕ) → i ≡ k + (1 + j) → x / 2 ^ j % 2 ≡ x % 2 ^ i % 2 ^ (1 + j) / 2 ^ j
              under x k p = rw (p, mod-mod-pow x k (1 + j)) (sym (field x 1 j))
      go false e = higher (j - suc i) (omega (arith, n, ltb-false j i e))
        where
          higher : (k : ℕ) → j ≡ suc i + k → with_bit i b s / 2 ^ j % 2 ≡ s / 2 ^ j % 2
          higher k p = rw (p, ← (shr-shr (with_bit i b s) (suc i) k), ← (shr-shr s (suc i) k), bits_above)

-- ---- the reply bit by bit

-- LAA and RLD are at their places, and each other bit is the host's.
pub line_bits : (l : Lines) (s : ℕ) → LineBits l s (status_with l s)
unfolding status_with
line_bits l s =
    let under = with_bit laa_bit l.laa s in
    record {
      laa = bit_kept rld_bit l.rld under laa_bit (omega arith) ∙ bit_put laa_bit l.laa s;
      rld = bit_put rld_bit l.rld under;
      others = λ j p q. bit_kept rld_bit l.rld under j q ∙ bit_kept laa_bit l.laa s j p;
    }

-- ---- the lines that it tells

-- rule 4 leaves LAA, and sets RLD where the observed line is the poorer one and SLM is clear
pub rule4_sets : (p : Bool) (l : Lines) → rule4 p l ≡ with_rld (l.rld || (p && not l.slm)) l
unfolding rule4
rule4_sets p l = go p l.laa l.rld l.ls l.slm
  where
    go : (p a r s m : Bool)
        → cond p (unless_slm (with_rld true (lines a r s m)) (lines a r s m)) (lines a r s m) ≡ lines a (r || (p && not m)) s m
    go true a true s true = refl
    go true a true s false = refl
    go true a false s true = refl
    go true a false s false = refl
    go false a true s m = refl
    go false a false s m = refl

-- A sound master frame finds LAA as it was at the start of the event, and RLD set exactly if it was, or rule 4 sets it in this event.
pub poll_finds : (l : Lines) (t o : Hearing) → t.kind ≡ MasterFrame
    → before_rule3 false l t o ≡ with_rld (l.rld || (is_poor o && not l.slm)) l
unfolding rule1
poll_finds l t o e = ap (λ (k : Kind). rule4 (is_frame k && is_poor o) l) e ∙ rule4_sets (is_poor o) l

-- ---- what does not depend on it

module _ (l : Lines) (d : Device) (m : Areas) (w : ℕ) where
  -- whatever asks of our answer only whether there is one
  answer_unmoved : {A : Type 0} (f : Option (List ℕ) → A) → ((u v : List ℕ) → f (Some u) ≡ f (Some v))
      → f (answer_to (device_with l d) m w) ≡ f (answer_to d m w)
  unfolding answer_to
  answer_unmoved f same = go (expected_of (code_of w)) (source_for m w)
    where
      go : (x : Option ℕ) (o : Option (List ℕ)) → f (if_expected x (own_words (device_with l d) w o)) ≡ f (if_expected x (own_words d w o))
      go None o = refl
      go (Some n) (Some ws) = refl
      go (Some n) None = by (polls_us d w && d.set)
        where
          by : (b : Bool) → f (cond b (Some (status_with l d.status ∷ [])) None) ≡ f (cond b (Some (d.status ∷ [])) None)
          by true = same _ _
          by false = refl

  -- The exchange after a sound master frame: done if we reply, whatever the reply tells.
  pub exchange_unmoved : exchange_for (device_with l d) m w ≡ exchange_for d m w
  unfolding exchange_for
  exchange_unmoved = answer_unmoved (awaits (expected_of (code_of w)) w) (by (expected_of (code_of w)))
    where
      by : (x : Option ℕ) (u v : List ℕ) → awaits x w (Some u) ≡ awaits x w (Some v)
      by None u v = refl
      by (Some n) u v = refl

  -- Whether a sound master frame asks somebody else.
  pub asks_unmoved : (x : Option ℕ) → asks_others x (answer_to (device_with l d) m w) ≡ asks_others x (answer_to d m w)
  asks_unmoved x = answer_unmoved (asks_others x) (by x)
    where
      by : (x : Option ℕ) (u v : List ℕ) → asks_others x (Some u) ≡ asks_others x (Some v)
      by None u v = refl
      by (Some n) u v = refl

-- The answer to any other master frame than a status poll, whatever the device.
pub data_unmoved : (d e : Device) (m : Areas) (w : ℕ) → (code_of w ≡ 15 → ⊥) → answer_to d m w ≡ answer_to e m w
unfolding answer_to
data_unmoved d e m w n = ap (if_expected (expected_of (code_of w))) (own (source_for m w))
  where
    own : (o : Option (List ℕ)) → own_words d w o ≡ own_words e w o
    own None = rw (ne_eqb (code_of w) 15 n)
    own (Some ws) = refl
