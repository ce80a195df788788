-- What an administrator is told, by the row of its client.
use Rattle.std.specs.Prelude.{◌≡◌, ◌≤◌, ◌++◌, ◌⊎◌, ℕ, Bool, true, false, nat_eq, slice_get, slice_index_or, List, [], ◌∷◌, Option, Some, None, OnOk}
use Rattle.std.proofs.Common.{arith, inl, inr, refl, subst, sym, ◌∙◌}
use Rattle.mx_base.specs.declared.names.ClientNo.{ClientNo}
use Rattle.mx_base.specs.declared.names.Port.{Port}
use Rattle.mx_base.specs.declared.names.Port.TheVariants.{Admin}
use Rattle.packet_frame.specs.Packets.{Framed, spellings}
use Rattle.query_rules.specs.declared.rule.Rule.{Rule}
use Rattle.admin_port.specs.Answers.{IsAnswered, Reply}
use Rattle.admin_port.specs.Answers.Reply.{Done, Loads, Refused, Rows, ShutsDown}
use Rattle.admin_port.specs.Staged.{StagedRows}
use Rattle.admin_port.specs.declared.running.Running.{Running}
use Rattle.admin_port.specs.declared.statement.StagedTable.TheVariants.{Rules, Servers}
use Rattle.admin_port.specs.declared.command.AdminCommand.{AdminCommand}
use Rattle.admin_port.specs.declared.command.AdminCommand.TheVariants.{Query, Ping, Quit, Malformed, Unknown}
use Rattle.client_session.specs.Answers.{is_quit}
use Rattle.own_words.specs.Own as own
use Rattle.own_words.specs.Own.{IsOwnAnswer}
use Rattle.core_laws.specs.taking.Takes.{is_reset}
use Rattle.core_tables.specs.Tables.{IsSame, Tabled}
use Rattle.core_tables.specs.Taking.{found_of}
use Rattle.core_tables.specs.declared.client.Client.{Client}
use Rattle.core_promises.specs.Administers.{Administered, Forces, IsAdminAnswer, IsCommandAnswer, IsStatementAnswer, Makes}
use Rattle.core_promises.specs.Judges.{IsToldAt, IsToldFor, Rulebook}
use Rattle.core_promises.specs.Ruled.{Ruling, situation_at}
use Rattle.core_turns.proofs.Turning.{still-same}
use Rattle.core_turns.proofs.Ups.{on-up}
use Rattle.core_turns.specs.Administering.{CarriesOut, IsWrittenAs, administered}
use Rattle.core_turns.specs.declared.administrator.Administrator.{Administrator}
use Rattle.core_turns.specs.Taken.{IsAnswered as IsTold, IsQuit, Keys, OnUp}

-- A statement is answered by what is staged, and what it wants is carried out.

forces-from : (reply : Reply) (was then is : Administered) → then.rules ≡ was.rules → Forces reply then is → Forces reply was is
forces-from Done was then is same forces = forces ∙ same
forces-from (Rows s) was then is same forces = forces ∙ same
forces-from (Refused refusal) was then is same forces = forces ∙ same
forces-from (Loads Rules) was then is same forces = forces
forces-from (Loads Servers) was then is same forces = forces ∙ same
forces-from ShutsDown was then is same forces = forces ∙ same

pub statement-so : (force : List Rule) (text : List ℕ) (running : Running) (wanted reply : Reply) (old : Administrator) (staged : StagedRows)
    (new : Administrator) → IsAnswered text old.staged running (staged, wanted) → CarriesOut wanted reply force (record old { staged = staged }) new
    → IsStatementAnswer text (administered force old) (administered force new) reply
statement-so force text running wanted reply old staged new answered carries = record {
  running = running;
  wanted = wanted;
  answered = subst (λ (rows : StagedRows). IsAnswered text old.staged running (rows, wanted)) (sym carries.staged) answered;
  done = carries.done;
  forces = forces-from reply (administered force old) (administered force (record old { staged = staged })) (administered force new) refl carries.forces;
}

-- it is in the router's own words
command-own : (rules : List Rule) (c : ClientNo) (was is : Administered) (payloads : List (List ℕ)) (command : AdminCommand)
    → IsCommandAnswer command was is payloads → IsOwnAnswer rules c payloads
command-own rules c was is payloads (Query text) so = inr (so.0, so.1.1)
command-own rules c was is payloads Ping so = inl (subst (own.IsAnswer rules c) (sym so.0) (own.Okay 2 (omega arith)))
command-own rules c was is payloads Malformed so = inl (subst (own.IsAnswer rules c) (sym so.0) (own.Refuses _ own.MalformedCommand))
command-own rules c was is payloads Unknown so = inl (subst (own.IsAnswer rules c) (sym so.0) (own.Refuses _ own.UnknownCommand))
command-own rules c was is payloads Quit so = absurd so

pub admin-own : (rules : List Rule) (c : ClientNo) (payload : List ℕ) (was is : Administered) (payloads : List (List ℕ))
    → IsAdminAnswer payload was is payloads → IsOwnAnswer rules c payloads
admin-own rules c payload was is payloads so = command-own rules c was is payloads so.0 so.1.1

-- A QUIT isn't what begins a client anew.

byte-of : (payload : List ℕ) → slice_get payload 0 ≡ Some 1 → slice_index_or payload 0 0 ≡ 1
byte-of [] is = absurd (let e = is in cc)
byte-of (byte ∷ payload) is = let e : Some byte ≡ Some 1 = is in cc

quits-only : (message : Framed) → slice_get message.payload 0 ≡ Some 1 → is_reset message ≡ false
quits-only message is = subst (λ (byte : ℕ). nat_eq byte 31 ≡ false) (sym (byte-of message.payload is)) refl

says-quit : (payload : List ℕ) → slice_get payload 0 ≡ Some 1 → is_quit payload ≡ true
says-quit [] is = absurd (let e = is in cc)
says-quit (byte ∷ payload) is = subst (λ (b : ℕ). is_quit (b ∷ payload) ≡ true) (sym (byte-of (byte ∷ payload) is)) refl

pub quits-at : (message : Framed) (t : Tabled) → slice_get message.payload 0 ≡ Some 1 → IsQuit message t t
quits-at message t is = record { quits_only = quits-only message is; says = says-quit message.payload is; same = still-same t }

-- It is told what was written.

abbrev pub by : Rulebook → (since : ℕ) → Keys → (was is : Administered) → Ruling
by book since keys was is = record { book = book; since = since; keys = keys; was = was; is = is }

module _ (ruling : Ruling) (c : ClientNo) (old new : Tabled) (packets : List ℕ)
    (port : OnUp c old (λ row message. row.desk.seat.port ≡ Admin))
    (written : OnUp c old (λ row message. IsWrittenAs (IsAdminAnswer message.payload ruling.was ruling.is) row.desk.seat.first [] packets))
    (tells : (payloads : List (List ℕ)) → IsOwnAnswer ruling.book.rules c payloads
    → OnUp c old (λ row message. packets ≡ spellings row.desk.seat.first payloads)
    → OnUp c old (λ row message. IsToldFor ruling.book (situation_at ruling.keys row.desk) c message.payload payloads
    → Makes row.desk.seat.port message.payload (Some payloads) ruling.was ruling.is → IsTold ruling c row message old new)) where
  told-there : (row : Client) → old.clients c ≡ Some row → (message : Framed) → found_of row ≡ Some message → IsTold ruling c row message old new
  told-there row there message found =
      let said = written row there message found in
      tells said.payloads (admin-own ruling.book.rules c message.payload ruling.was ruling.is said.payloads said.answer)
      (on-up old c row (λ other at. packets ≡ spellings other.desk.seat.first said.payloads) there (λ at up. said.spelt))
      row there message found
      (subst (λ (at : Port). IsToldAt at ruling.book (situation_at ruling.keys row.desk) c message.payload said.payloads)
      (sym (port row there message found)) tt)
      (subst (λ (at : Port). Makes at message.payload (Some said.payloads) ruling.was ruling.is) (sym (port row there message found)) said.answer)

  pub told-up : OnUp c old (λ row message. IsTold ruling c row message old new)
  told-up = told-there
