-- `sequence::table::push_byte` pushes the eight bits of a byte: they are one step, and its number is that of an entry. Assumes nothing.
use Rattle.std.proofs.Common.{ℕ, ◌*◌, ◌<◌, ◌∙◌, sym, subst, rules}
use lib.Bits.{xor_lt}
use Rattle.sequence.proofs.Linear.{pushes_lt}
use Rattle.sequence.proofs.Steps.{byte_step}
use Rattle.sequence.proofs.table.push_byte.Goals as goal

pub step-requires : goal.step-requires
step-requires c = xor_lt 8 (c.args.r * 2) c.args.b (search rules) (search rules)

pub returns : goal.returns
returns c =
    let a = c.args in
    let pushed = c.step.ensures ∙ sym (byte_step a.r a.b c.requires) in
    record { pushed = pushed; small = subst (λ (n : ℕ). n < 128) (sym pushed) (pushes_lt 8 a.r a.b c.requires) }
