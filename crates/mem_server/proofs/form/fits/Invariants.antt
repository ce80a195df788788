use Rattle.std.proofs.Common.{◌≡◌, [], ◌∷◌, option_copied}
use Rattle.mx_base.specs.Pieces.{pieces_left}
use Rattle.mem_rule.specs.Forms.{fits, fits_from}
use Rattle.mem_server.proofs.form.fits.Given as goal

-- the tokens that are left fit the pieces that are left just where all fit
abbrev pub invariant-loop-token : goal.invariant-loop-token
invariant-loop-token l = fits_from l.text l.token-iterator (pieces_left (32 ∷ []) (option_copied l.left)) l.values.items ≡ fits l.text l.pattern
