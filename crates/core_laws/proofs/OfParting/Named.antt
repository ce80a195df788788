-- A row carries whom its link carries.
use Rattle.std.specs.Prelude.{◌≡◌, Bool, true, false}
use Rattle.std.proofs.Common.{refl, sym, ap, ◌∙◌, inl, inr}
use Rattle.private_model.specs.Names.{LinkId}
use Rattle.private_model.specs.View.{Link, Setup, View, session_in}
use Rattle.log_story.specs.Plan.{Plan}
use Rattle.log_story.specs.Tale.{Tale, Wire, view_of}
use Rattle.server_rule.specs.Classes.{Reads}
use Rattle.server_side.specs.Account.{Account as Login}
use Rattle.link_laws.specs.Stands.{Codes, carried_of}
use Rattle.link_state.specs.Asks.{joined_for}
use Rattle.link_state.specs.States.{ran, ran_in}
use Rattle.link_state.specs.declared.asking.Purpose.{Purpose}
use Rattle.link_state.specs.declared.asking.Purpose.TheVariants as purposes
use Rattle.link_state.specs.declared.state.Carried.{Carried}
use Rattle.link_state.specs.declared.state.Carried.TheVariants.{Nobody, Lent, Joined}
use Rattle.link_state.specs.declared.state.LinkState.{LinkState}
use Rattle.link_state.specs.declared.state.Stage.{Stage}
use Rattle.link_state.specs.declared.state.Stage.TheVariants.{Quiet, Asked, Answered}
use Rattle.served_link.specs.declared.row.Row.{Row}
use Rattle.row_laws.specs.Rows.{IsRowBy, IsRowIn, IsSeen}
use Rattle.row_laws.specs.Whose.{IsFor, IsOwn, name_in}

carried_name : (carries : Carried) → session_in (carried_of carries) ≡ name_in carries
carried_name Nobody = refl
carried_name (Lent n) = refl
carried_name (Joined n) = refl

-- running joins whom it was lent to

joined_name : (purpose : Purpose) (carries : Carried) → IsFor purpose carries → name_in (joined_for purpose carries) ≡ name_in carries
joined_name (purposes.Statement n ordinal key) carries for = sym (for n refl)
joined_name (purposes.Prep n ordinal key) carries for = refl
joined_name (purposes.Sync n) carries for = refl
joined_name purposes.Own carries for = refl
joined_name (purposes.End n) carries for = refl
joined_name (purposes.Capture n) carries for = refl

ran_name : (state : LinkState) (stage : Stage) → IsOwn stage state.carries → name_in (ran_in stage state).carries ≡ name_in state.carries
ran_name state Quiet own = refl
ran_name state (Asked asking) own = joined_name asking.purpose state.carries own
ran_name state (Answered asking) own = refl

seen_name : (reads : Reads) (codes : Codes) (state : LinkState) (link : Link) → IsOwn state.stage state.carries → IsSeen reads codes state link
    → session_in link.carries ≡ name_in state.carries
seen_name reads codes state link own (inl is) = ap session_in is.carries ∙ carried_name state.carries
seen_name reads codes state link own (inr is) = ap session_in is.carries ∙ carried_name (ran state).carries ∙ ran_name state state.stage own

name_by : (entered : Bool) (reads : Reads) (codes : Codes) (login : Login) (seen : View) (row : Row) (wire : Wire) (link : Link)
    → IsRowBy entered reads codes login seen row wire link → session_in link.carries ≡ name_in row.link.state.carries
name_by true reads codes login seen row wire link is = seen_name reads codes row.link.state link is.own is.state
name_by false reads codes login seen row wire link is =
    ap (λ (x : Link). session_in x.carries) is.unborn ∙ sym (ap (λ (x : LinkState). name_in x.carries) is.state)

pub row_carries : (setup : Setup) (codes : Codes) (plan : Plan) (tale : Tale) (l : LinkId) (row : Row) → IsRowIn setup codes plan tale l row
    → session_in ((view_of setup tale).links l).carries ≡ name_in row.link.state.carries
row_carries setup codes plan tale l row is =
    name_by (tale.wires l).entered setup.reads codes (plan.logins l) (view_of setup tale) row (tale.wires l) ((view_of setup tale).links l) is.is
