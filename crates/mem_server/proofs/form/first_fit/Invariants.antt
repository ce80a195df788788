use Rattle.std.proofs.Common.{◌≡◌, drop}
use Rattle.mem_rule.specs.Forms.{first_fit}
use Rattle.mem_server.proofs.form.first_fit.Given as goal

-- the forms that are left decide
abbrev pub invariant-loop-form : goal.invariant-loop-form
invariant-loop-form l = first_fit l.text (drop l.form-index l.forms) ≡ first_fit l.text l.forms
