-- What the theorem on handed out controllers speaks of: a controller that stands for numbers of ours. Assumes nothing.
use Rattle.std.specs.Prelude.{◌≡◌, true}
use Rattle.interrupts.specs.Names.{used0, used1}
use Rattle.model.specs.declared.Controller.{Controller}
use Rattle.firmware_layout.specs.Controller.{flat, ours}

-- its groups are group 0 and group 1, and its numbers are ours
pub record Ours (c : Controller) : Type 0 where
  pub first : c.group0.used ≡ used0
  pub second : c.group1.used ≡ used1
  pub numbers : ours (flat c) ≡ true
