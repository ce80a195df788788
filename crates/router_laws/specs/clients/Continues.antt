-- A client of a tale stands behind any entry as itself.
use Rattle.std.specs.Prelude.{◌≡◌, ◌≤◌, ◌+◌, ◌++◌, ℕ, suc, Bool, true, false, length, List}
use Rattle.mx_base.specs.declared.names.LinkId.{LinkId}
use Rattle.mx_wire.specs.declared.entry.Entry.{Entry}
use Rattle.mx_wire.specs.declared.entry.Entry.TheVariants.{Accepted, Got}
use Rattle.private_model.specs.Story.{is_link_id}
use Rattle.log_story.specs.Plan.{Plan, is_before}
use Rattle.log_story.specs.Tale.{Client, Tale, is_to_server, new_client}
use Rattle.step_laws.specs.Seats.{IsSeated}
use Rattle.core_laws.specs.entry.Dues.{written_by}

-- bytes are read on this link
abbrev pub is_read_on : Entry → LinkId → Bool
is_read_on (Got link bytes) l = is_link_id l link
is_read_on _ l = false

-- More may be read of it and taken up, but of one that the plan ended before nothing is taken up; and what the entry writes on its link is written.
pub record IsContinued (plan : Plan) (tale : Tale) (e : Entry) (was now : Client) : Type 0 where
  pub number : now.number ≡ was.number
  pub link : now.link ≡ was.link
  pub port : now.port ≡ was.port
  pub salt : now.salt ≡ was.salt
  pub more : List ℕ
  pub read : now.read ≡ was.read ++ more
  pub kept : is_read_on e was.link ≡ false → now.read ≡ was.read
  pub taken : was.taken ≤ now.taken
  pub over : is_before (suc tale.moment) (plan.ends was.number) ≡ true → now.taken ≡ was.taken
  pub written : is_to_server tale was.link ≡ false → now.written ≡ was.written + length (written_by was.link e)

-- it is there behind the entry
pub record IsThere (plan : Plan) (old : Tale) (e : Entry) (new : Tale) (was : Client) : Type 0 where
  pub now : Client
  pub seated : IsSeated new now
  pub continued : IsContinued plan old e was now

-- it was there before the entry
pub record WasThere (plan : Plan) (old : Tale) (e : Entry) (now : Client) : Type 0 where
  pub was : Client
  pub seated : IsSeated old was
  pub continued : IsContinued plan old e was now

-- the same, but for what was taken up
pub record IsLike (was now : Client) : Type 0 where
  pub number : now.number ≡ was.number
  pub link : now.link ≡ was.link
  pub written : now.written ≡ was.written

-- it came by the entry
abbrev pub HasCome : Tale → Entry → Client → Type 0
HasCome tale (Accepted port link salt) now = IsLike (new_client (length tale.clients + 1) port link salt) now
HasCome tale _ now = ⊥
