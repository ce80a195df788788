-- Statements that are due.
use Rattle.std.specs.Prelude.{Bool, false, not, ◌&&◌, is_some, Option}
use Rattle.std.specs.Option.{option_map_or}
use Rattle.private_model.specs.Names.{SessionName}
use Rattle.private_model.specs.Story.{Due, message_of}
use Rattle.log_story.specs.Plan.{own_at}
use Rattle.log_story.specs.Tale.{Tale, view_of}
use Rattle.router_promises.specs.Terms.{Terms, plan_in, setup_in}

-- one that is due was neither sent nor given up
abbrev pub is_kept_due : Terms → Tale → SessionName → Option Due → Bool
is_kept_due terms tale n due = option_map_or (λ (d : Due). not (is_some (own_at (plan_in terms) tale.moment (message_of n d)))) due false

abbrev pub is_due : Terms → Tale → SessionName → Bool
is_due terms tale n = is_kept_due terms tale n ((view_of (setup_in terms) tale).dues n)

-- and no link carries its session: no byte of it was written, nor of a preparation for it
abbrev pub is_unsent : Terms → Tale → SessionName → Bool
is_unsent terms tale n = is_due terms tale n && not (is_some ((view_of (setup_in terms) tale).held n).home)
