-- What was heard on a link, where the tables are the same.
use Rattle.std.specs.Prelude.{◌≡◌, ℕ, Bool, true, false, nat_eq, is_some, if◌then◌else◌, List, length, Option, Some, Ok}
use Rattle.std.specs.HashMap.{get}
use Rattle.std.specs.Option.{option_map}
use Rattle.std.proofs.Common.{sym, ap, ◌∙◌, subst}
use Rattle.mx_base.specs.declared.names.ClientNo.{ClientNo}
use Rattle.mx_base.specs.declared.names.LinkId.{LinkId}
use Rattle.link_state.specs.declared.asking.Purpose.{Purpose}
use Rattle.link_state.specs.declared.asking.Purpose.TheVariants.{Statement, Prep, Sync, Own, End, Capture}
use Rattle.served_link.specs.Reads.{ReadsTo}
use Rattle.served_link.specs.declared.news.News.{News}
use Rattle.served_link.specs.declared.news.News.TheVariants.{Whole, Part}
use Rattle.core_tables.specs.Hearing.{Answer, IsHeard, IsHeardBy, answered_for, said_by, told_by, with_row}
use Rattle.core_tables.specs.Tables.{IsSame, Tabled, client_changed, link_changed, tables_of}
use Rattle.core_tables.specs.declared.client.Client.{Client}
use Rattle.core_tables.specs.declared.said.Said.{Said}
use Rattle.core_tables.specs.declared.server.Server.{Server}
use Rattle.core_tables.specs.declared.tables.Tables.{Tables}

client_same : (c : ClientNo) (by : Client → Client) (a b : Tabled)
    → IsSame a b → IsSame (client_changed c by a) (client_changed c by b)
client_same c by a b same = record {
  clients = λ x i. if nat_eq c.0 x.0 then option_map by (same.clients c i) else same.clients x i;
  numbers = same.numbers;
  links = same.links;
}

answered_same : (for : Purpose) (answer : Answer) (made : List ℕ) (a b : Tabled)
    → IsSame a b → IsSame (answered_for for answer made a) (answered_for for answer made b)
answered_same (Statement n ordinal key) answer made a b same = client_same n.client _ a b same
answered_same (Prep n ordinal key) answer made a b same = client_same n.client _ a b same
answered_same (Sync n) answer made a b same = client_same n.client _ a b same
answered_same Own answer made a b same = same
answered_same (End n) answer made a b same = client_same n.client _ a b same
answered_same (Capture n) answer made a b same = client_same n.client _ a b same

told_same : (news : News) (multiplex : Option Bool) (made : List ℕ) (a b : Tabled)
    → IsSame a b → IsSame (told_by news multiplex made a) (told_by news multiplex made b)
told_same (Part n) multiplex made a b same = client_same n.client _ a b same
told_same (Whole asking end number used) multiplex made a b same = answered_same asking.purpose _ _ a b same
told_same _ multiplex made a b same = same

-- what is told unless the session was left
abbrev pub told_unless : Bool → News → (multiplex : Option Bool) → (made : List ℕ) → Tabled → Tabled
told_unless is_left news multiplex made t = if is_left then t else told_by news multiplex made t

unless_same : (is_left : Bool) (news : News) (multiplex : Option Bool) (made : List ℕ) (a b : Tabled)
    → IsSame a b → IsSame (told_unless is_left news multiplex made a) (told_unless is_left news multiplex made b)
unless_same true news multiplex made a b same = same
unless_same false news multiplex made a b same = told_same news multiplex made a b same

both_same : {a b c : Tabled} → IsSame a b → IsSame b c → IsSame a c
both_same first second = record {
  clients = λ x. first.clients x ∙ second.clients x;
  numbers = λ x. first.numbers x ∙ second.numbers x;
  links = λ x. first.links x ∙ second.links x;
}

-- the link's row is put back, and then its client is told
pub heard_so : (old read new : Tables) (link : LinkId) (server after : Server) (bytes : List ℕ) (now : ℕ)
    (news : News) (made : List ℕ) (is_left : Bool) (said : Said)
    → get nat_eq old.links link.0 ≡ Some server → after ≡ with_row after.row server
    → ReadsTo (Ok news) after.row made server.row bytes now
    → ((k : ℕ) → get nat_eq read.clients k ≡ get nat_eq old.clients k)
    → ((k : ℕ) → get nat_eq read.numbers k ≡ get nat_eq old.numbers k)
    → ((k : ℕ) → get nat_eq read.links k ≡ (if nat_eq link.0 k then Some after else get nat_eq old.links k))
    → is_left ≡ is_some after.row.left
    → IsSame (tables_of new) (told_unless is_left news after.row.multiplex made (tables_of read))
    → said ≡ said_by news (length bytes)
    → IsHeard link bytes now said (tables_of new) (tables_of old)
unfolding tables_of
heard_so old read new link server after bytes now news made is_left said there row reads clients numbers links left told tells =
    let by : Bool → Tabled → Tabled = λ flag. told_unless flag news after.row.multiplex made in
    let changed : Tabled = link_changed link (with_row after.row) (tables_of old) in
    let entered : IsSame (tables_of read) changed = record {
      clients = λ x. clients x.0;
      numbers = λ x. numbers x.0;
      links = λ x. links x.0
          ∙ ap (λ (found : Option Server). if nat_eq link.0 x.0 then found else get nat_eq old.links x.0)
          (ap (λ (s : Server). Some s) row ∙ sym (ap (option_map (with_row after.row)) there));
    } in
    let told_then : IsSame (by is_left (tables_of read)) (by is_left changed) =
    unless_same is_left news after.row.multiplex made _ _ entered in
    let same : IsSame (tables_of new) (by is_left changed) = both_same told told_then in
    subst (λ (found : Option Server). IsHeardBy found link bytes now said (tables_of new) (tables_of old)) (sym there)
    (record {
      reading = record { row = after.row; news = news; made = made; reads = reads };
      tables = subst (λ (flag : Bool). IsSame (tables_of new) (by flag changed)) left same;
      tells = tells;
    })
