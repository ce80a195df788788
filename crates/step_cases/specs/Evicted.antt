-- A log of two users and a server with room for one link: the link of the first, which nobody uses, is closed to make room for the second's.
use Rattle.std.specs.Prelude.{ℕ, false, List, ◌∷◌, ◌++◌, codes, nat_eq, if◌then◌else◌, Some, None, []}
use Rattle.client_session.specs.Errors.{own_ok}
use Rattle.client_side.specs.Login.{greeting_said}
use Rattle.handshake.specs.Response.{response_bytes}
use Rattle.handshake.specs.Switch.{native_password}
use Rattle.mx_base.specs.declared.names.ClientNo.{ClientNo}
use Rattle.mx_base.specs.declared.names.LinkId.{LinkId}
use Rattle.mx_base.specs.declared.names.Port.TheVariants.{Traffic}
use Rattle.mx_base.specs.declared.tag.Tag.TheVariants.{Own as OwnTag, Reply as ReplyTag}
use Rattle.mx_wire.specs.Log.{Log}
use Rattle.mx_wire.specs.declared.entry.Entry.TheVariants.{Accepted, Closed, Got, Wrote}
use Rattle.packet_frame.specs.Packets.{spelling}
use Rattle.private_model.specs.Commands.{Account, Quit}
use Rattle.server_side.specs.Account.{Account as Login}
use Rattle.log_story.specs.Plan.{Plan, text_payload}
use Rattle.router_promises.specs.Router.{Router}
use Rattle.router_promises.specs.Terms.{Decided, Terms}
use Rattle.router_cases.specs.Pieces.{asks, does, done, goes, opens_as, plan_of, runs, starts_with, stays, terms_of, told_on}
use Rattle.router_cases.specs.Worked.{anybody, group, link, login, nothing, router as first_router, salt}

abbrev pub other : List ℕ
other = codes "bob"

abbrev pub router : Router
router = record first_router {
  users =
      record { name = codes "app"; password = []; default_hostgroup = group; whitelist = false }
      ∷ record { name = other; password = []; default_hostgroup = group; whitelist = false } ∷ [];
}

abbrev pub other_login : Login
other_login = record { user = other; password = []; found_rows = false }

abbrev pub plan : Plan
plan = record (plan_of router (λ m. goes does) [] stays) {
  logins = λ (l : LinkId). if nat_eq l.0 4 then other_login else login;
}

abbrev pub account_of : (c : ℕ) → Account
account_of c = if nat_eq c 2 then record anybody { user = other } else anybody

abbrev pub decided : Decided
decided = record (terms_of router plan).decided { accounts = λ (c : ClientNo). account_of c.0 }

abbrev pub terms : Terms
terms = record { router = router; decided = decided; stored = nothing }

abbrev pub response : List ℕ
response =
    spelling 1 (response_bytes (record {
      capabilities = 958981;
      max_packet = 16777216;
      collation = 45;
      user = other;
      answer = [];
      schema = None;
      plugin = Some native_password;
    }))

abbrev pub log : Log
log =
    starts_with asks ++ runs 3 1 1 1 asks done
    ++ (Accepted Traffic (link 2) salt ∷ Wrote (link 2) ReplyTag (greeting_said 2 salt (codes "8"))
    ∷ Got (link 2) response
    ∷ Wrote (link 2) ReplyTag (spelling 2 own_ok) ∷ Got (link 2) asks
    ∷ Wrote (link 3) OwnTag (spelling 0 (text_payload Quit)) ∷ Closed (link 3) ∷ [])
    ++ opens_as other_login 4 ++ told_on 4 ++ runs 4 2 2 1 asks done
