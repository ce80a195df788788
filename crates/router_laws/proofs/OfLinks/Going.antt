-- A core goes on with an entry of a link to a server.
use Rattle.std.specs.Prelude.{◌≡◌, ℕ, suc, Bool, true, false, ◌||◌, slice_index_or, List, [], None}
use Rattle.std.proofs.Common.{refl, sym, ap, ◌∙◌, subst, inl}
use Rattle.std.proofs.lemmas.Bool.{false≢true}
use Rattle.mx_wire.specs.Log.{Log, wrote_bytes}
use Rattle.mx_wire.specs.declared.entry.Entry.{Entry}
use Rattle.client_session.specs.Setups.{Setup as Service}
use Rattle.private_model.specs.Names.{ClientNo, LinkId}
use Rattle.private_model.specs.View.{Setup}
use Rattle.link_laws.specs.Stands.{Codes}
use Rattle.log_story.specs.Plan.{Plan, word_at}
use Rattle.log_story.specs.Tale.{Client, Tale}
use Rattle.tale_world.specs.Decided.{Decided}
use Rattle.core_tables.specs.Tables.{Tabled}
use Rattle.core_stands.specs.Grounds.{Ground}
use Rattle.core_stands.specs.Stands.{Rests, Stands}
use Rattle.core_laws.proofs.OfEntry.Safely.{log_goes_on}
use Rattle.core_laws.specs.entry.Cores.{GoesOn, IsSafely, with_entry}
use Rattle.core_laws.specs.entry.Dues.{AreSilent, AreWrittenTo}
use Rattle.core_laws.specs.entry.Entries.{behind}
use Rattle.core_laws.specs.entry.Kinds.{IsUneventful}
use Rattle.core_laws.specs.entry.Safe.{IsSafe}
use Rattle.core_laws.specs.entry.Tells.{ground}
use Rattle.router_laws.proofs.OfClients.Duing.{moment_more, written_behind}
use Rattle.router_laws.proofs.OfClients.Entering.{heard_always, with_is}
use Rattle.router_laws.proofs.OfClients.Linking.{unwritten}
use Rattle.router_laws.specs.clients.Behind.{IsDueBehind}
use Rattle.router_laws.specs.clients.Continues.{HasCome, is_read_on}
use Rattle.router_laws.specs.clients.Plans.{IsDecided, nobody, over_by}

or_false : (a : Bool) → a ≡ (a || false)
or_false true = refl
or_false false = refl

-- nobody is ended
pub same_over : (g : Ground) (over : ClientNo → Bool) → IsDecided g nobody over → over ≡ g.over
same_over g over decided = λ i. λ c. (decided.overs c ∙ sym (or_false (g.over c))) i

pub uneventful : (g : Ground) (over : ClientNo → Bool) → IsDecided g nobody over → IsUneventful g
uneventful g over decided = record { still = decided.still; endless = decided.ends }

module _ (service : Service) (setup : Setup) (codes : Codes) (plan : Plan) (log : Log) (e : Entry) (old new : Decided) (t now : Tabled)
    (roomy room whose : ClientNo → Bool) where
  abbrev g : Ground
  g = ground setup codes plan old log

  abbrev with : Ground
  with = ground setup codes plan new (with_entry log e)

  module _ (decided : IsDecided g whose (over_by new)) (rested : Rests service g t roomy → Rests service (behind g e (over_by new)) now room)
      (due : Rests service g t roomy → IsDueBehind g log e whose (over_by new) now)
      (safely : Rests service g t roomy → Stands service (behind g e (over_by new)) now → IsSafely setup plan log e now) where
    wordless : (client : Client) → over_by new client.number ≡ false → word_at plan with.tale.moment client.number ≡ None
    wordless client going =
        ap (λ (n : ℕ). word_at plan n client.number)
        (ap (λ (x : Ground). x.tale.moment) (with_is service setup codes plan log e old new t now roomy room whose) ∙ moment_more setup plan g.tale e)
        ∙ decided.wordless client.number going

    silent : AreSilent with
    silent = λ k d within. wordless (slice_index_or with.tale.clients k d)

    pub goes_on : GoesOn service setup codes plan log e old new t now roomy room
    goes_on =
        let same : with ≡ behind g e (over_by new) = with_is service setup codes plan log e old new t now roomy room whose in
        record {
          heard = heard_always setup plan log e;
          rests = λ rests. subst (λ (x : Ground). Rests service x now room) (sym same) (rested rests);
          written = λ rests behind_it to.
              subst (λ (x : Ground). AreWrittenTo x (with_entry log e)) (sym same)
              (written_behind service g t now roomy log e whose (over_by new) rests (rested rests).stands decided (due rests) to);
          safe = λ rests behind_it to safe.
              log_goes_on service setup codes plan new log e now safe (safely rests (rested rests).stands) behind_it.stands silent to;
        }

-- It neither reads nor writes, nobody comes, and nobody is ended.

pub record IsPlain (tale : Tale) (e : Entry) : Type 0 where
  pub writes : wrote_bytes e ≡ []
  pub reads : (l : LinkId) → is_read_on e l ≡ false
  pub comes : (client : Client) → HasCome tale e client → ⊥

pub plain_due : (g : Ground) (log : Log) (e : Entry) (over : ClientNo → Bool) (now : Tabled) → IsPlain g.tale e → IsDueBehind g log e nobody over now
plain_due g log e over now plain = record {
  writes = λ x seated. inl (unwritten e plain.writes x.link);
  unread = λ x seated ended. plain.reads x.link;
  says = λ was x seated on its going. absurd (false≢true its);
  there = λ x seated its. absurd (false≢true its);
  comes = λ x seated come. absurd (plain.comes x come);
}
