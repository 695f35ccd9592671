-- Document 01, "What callers are told": what a setting answers. Its number is `told` of the crate constants: 2 for Range, 0 for a setting
-- that is made. Assumes nothing.
use Rattle.std.specs.Prelude.{cond, Result, Ok, Err}
use Rattle.constants.specs.declared.refusals.Refusal.{Refusal}
use Rattle.constants.specs.declared.refusals.Refusal.TheVariants.{Range}
use Rattle.model.specs.declared.Controller.{Controller}
use Rattle.model.specs.Host.{Setting, setting_out, tell}

-- out of range: 2, RANGE; else the setting is made
unfoldable pub told_for : Setting → Controller → Result Controller Refusal
told_for s c = cond (setting_out s) (Err Range) (Ok (tell s c))

-- the controller afterwards: c as it was where the setting is refused
abbrev pub after_told : Controller → Result Controller Refusal → Controller
after_told c (Ok d) = d
after_told c (Err e) = c
