-- What the clients of a load say: each statement is said by a client that is drawn, and is of a kind that is drawn.
use Rattle.std.specs.Prelude.{◌≡◌, ℕ, zero, suc, Bool, false, if◌then◌else◌, List, [], ◌∷◌, ◌++◌, codes, length, map, replicate, slice_index_or, slice_set}
use Rattle.scripted_wire.specs.declared.script.Script.{Script}
use Rattle.generated_load.specs.Draws.{below, next}
use Rattle.generated_load.specs.Kinds.{is_begun_behind, kind_of, query, takes_id, text_of}
use Rattle.generated_load.specs.declared.ask.LoadAsk.{LoadAsk}
use Rattle.generated_load.specs.declared.kind.Kind.{Kind}

-- a client's commands so far, and whether it has begun a transaction
pub record Talking : Type 0 where
  pub commands : List (List ℕ)
  pub begun : Bool

-- the clients, and the number that was drawn last
pub record Loading : Type 0 where
  pub drawn : ℕ
  pub talks : List Talking

abbrev pub no_talk : Talking
no_talk = record { commands = []; begun = false }

abbrev pub first_load : LoadAsk → Loading
first_load ask = record { drawn = ask.start; talks = replicate ask.clients no_talk }

abbrev pub drawn_again : Loading → Loading
drawn_again load = record load { drawn = next load.drawn }

-- a row is drawn where the statement names one
abbrev pub drawn_for : Kind → Loading → Loading
drawn_for kind load = if takes_id kind then drawn_again load else load

abbrev pub said : Kind → (statement id : ℕ) → Talking → Talking
said kind statement id talk = record { commands = talk.commands ++ query (text_of kind statement id talk.begun) ∷ []; begun = is_begun_behind kind talk.begun }

abbrev pub said_at : (client : ℕ) → Kind → (statement id : ℕ) → List Talking → List Talking
said_at client kind statement id talks = slice_set talks client (said kind statement id (slice_index_or talks client no_talk))

abbrev pub says_by : (client : ℕ) → Kind → (statement : ℕ) → Loading → Loading
says_by client kind statement load = record load { talks = said_at client kind statement (below load.drawn 100) load.talks }

abbrev pub says_as : (client : ℕ) → (statement : ℕ) → Loading → Loading
says_as client statement load = let kind = kind_of (below load.drawn 8) in says_by client kind statement (drawn_for kind load)

-- the client is drawn first, then the kind, then the row
abbrev pub says : (statement : ℕ) → Loading → Loading
says statement load =
    let first = drawn_again load in says_as (below first.drawn (length load.talks)) statement (drawn_again first)

-- behind so many statements, which are counted from 0
abbrev pub load_after : (statements : ℕ) → Loading → Loading
load_after zero load = load
load_after (suc statements) load = says statements (load_after statements load)

abbrev pub load_of : LoadAsk → Loading
load_of ask = load_after ask.statements (first_load ask)

-- who a script's client is, and its commands
pub record Scripted : Type 0 where
  pub user : List ℕ
  pub password : List ℕ
  pub commands : List (List ℕ)

abbrev pub written_out : Script → Scripted
written_out script = record { user = script.user; password = script.password; commands = script.commands.items }

-- the user u, who has no password, says it, and COM_QUIT
abbrev pub scripted : Talking → Scripted
scripted talk = record { user = codes "u"; password = []; commands = talk.commands ++ (1 ∷ []) ∷ [] }

abbrev pub AreScripts : List Talking → List Script → Type 0
AreScripts talks scripts = map written_out scripts ≡ map scripted talks
