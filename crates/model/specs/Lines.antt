-- Document 01, "Two lines": the trusted and the observed line, and the five rules. Document 02, W-201: LAA and RLD in the status word.
-- Assumes nothing.
use Rattle.std.specs.Prelude.{ℕ, suc, ◌+◌, ◌*◌, ◌/◌, ◌%◌, ◌^◌, ◌≡◌, Bool, true, false, cond, not, ◌&&◌, ◌||◌, eqb}
use Rattle.frames.specs.declared.Kind.{Kind}
use Rattle.frames.specs.declared.Kind.TheVariants.{Silence, Noise, Master, Slave}
use Rattle.frames.specs.declared.Hearing.{Hearing}
use Rattle.model.specs.declared.Lines.{Lines}
use Rattle.model.specs.Layout.{bit_at, worth}

abbrev pub lines : Bool → Bool → Bool → Bool → Lines
lines laa rld ls slm = record { laa = laa; rld = rld; ls = ls; slm = slm }

-- LAA starts at 1, RLD, LS and SLM at 0
abbrev pub fresh_lines : Lines
fresh_lines = lines true false false false

-- LAA says that line A is the trusted one
abbrev pub trusted : Lines → Hearing → Hearing → Hearing
trusted l a b = cond l.laa a b

abbrev pub observed : Lines → Hearing → Hearing → Hearing
observed l a b = cond l.laa b a

-- switching turns LAA
abbrev pub switched : Lines → Lines
switched l = lines (not l.laa) l.rld l.ls l.slm

abbrev pub with_rld : Bool → Lines → Lines
with_rld b l = lines l.laa b l.ls l.slm

-- with SLM no rule switches or sets RLD
abbrev pub unless_slm : Lines → Lines → Lines
unless_slm new l = cond l.slm l new

-- F-codes 9, 13 and 14
abbrev pub exempt : ℕ → Bool
exempt code = eqb code 9 || eqb code 13 || eqb code 14

-- rule 1 acts on a judged unsound frame or a reply timeout with RLD clear and SLM clear
abbrev pub acts1 : Bool → Lines → Bool
acts1 occasion l = occasion && not l.rld && not l.slm

unfoldable pub rule1 : Bool → Lines → Lines
rule1 occasion l = cond (occasion && not l.rld) (unless_slm (with_rld true (switched l)) l) l

-- rule 2: line timeout
unfoldable pub rule2 : Bool → Lines → Lines
rule2 timeout l = cond timeout (unless_slm (with_rld true (switched l)) l) l

-- rule 3: a sound status poll to our address switches if RLD is clear, and clears RLD
unfoldable pub rule3 : Bool → Lines → Lines
rule3 polled l = cond polled (with_rld false (cond l.rld l (unless_slm (switched l) l))) l

-- a frame, whatever its kind and quality
abbrev pub is_frame : Kind → Bool
is_frame Silence = false
is_frame Noise = false
is_frame Master = true
is_frame Slave = true

-- silence, noise, SQE or a violation
abbrev pub is_poor : Hearing → Bool
is_poor h = not (is_frame h.kind) || h.sqe || h.violation

-- rule 4: the trusted line heard a frame, and the observed line has silence, noise, SQE or a violation
unfoldable pub rule4 : Bool → Lines → Lines
rule4 poorer l = cond poorer (unless_slm (with_rld true l) l) l

-- rule 5: LS filed by the host acts with RLD and SLM clear, then clears
abbrev pub acts5 : Lines → Bool
acts5 l = l.ls && not l.rld && not l.slm

unfoldable pub rule5 : Lines → Lines
rule5 l = cond (acts5 l) (lines (not l.laa) l.rld false l.slm) l

-- ---- the rules in one bus event; l are the lines at its start, t is what the trusted line heard, o what the observed one did

-- rules 1 and 4, in this order: the lines as rule 3 finds them
abbrev pub before_rule3 : Bool → Lines → Hearing → Hearing → Lines
before_rule3 disturbed l t o = rule4 (not (acts1 disturbed l) && is_frame t.kind && is_poor o) (rule1 disturbed l)

-- and then rule 3
abbrev pub ruled : Bool → Bool → Lines → Hearing → Hearing → Lines
ruled disturbed polled l t o = rule3 polled (before_rule3 disturbed l t o)

-- ---- LAA and RLD in the status word that a poll is answered with

-- their places, by IEC 61375-3-1 and 001, 2.9.14.2
abbrev pub laa_bit : ℕ
laa_bit = 7

abbrev pub rld_bit : ℕ
rld_bit = 6

-- the word s with b as its bit i, over what was written there: the bits above it, the bit itself, the bits below it
abbrev pub with_bit : ℕ → Bool → ℕ → ℕ
with_bit i b s = s / 2 ^ suc i * 2 ^ suc i + worth b (2 ^ i) + s % 2 ^ i

-- the host's status word with LAA and RLD of these lines at their places; each other bit is the host's
unfoldable pub status_with : Lines → ℕ → ℕ
status_with l s = with_bit rld_bit l.rld (with_bit laa_bit l.laa s)

-- r is the word s with LAA and RLD of these lines at their places: said bit by bit
pub record LineBits (l : Lines) (s r : ℕ) : Type 0 where
  pub laa : bit_at r (2 ^ laa_bit) ≡ l.laa
  pub rld : bit_at r (2 ^ rld_bit) ≡ l.rld
  pub others : (j : ℕ) → (j ≡ laa_bit → ⊥) → (j ≡ rld_bit → ⊥) → bit_at r (2 ^ j) ≡ bit_at s (2 ^ j)
