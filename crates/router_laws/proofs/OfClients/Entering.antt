-- A core goes on with an entry of no link to a server.
use Rattle.std.specs.Prelude.{◌≡◌, ℕ, suc, Bool, true, false, All, slice_index_or, List, [], ◌∷◌, ◌++◌, None}
use Rattle.std.specs.List.{list_any}
use Rattle.std.proofs.Common.{refl, sym, ap, ◌∙◌, subst, append-nil, inl}
use Rattle.std.proofs.lemmas.Bool.{false≢true, true≢false}
use Rattle.std.proofs.lemmas.List.Elements.{All-weaker}
use Rattle.mx_base.specs.declared.names.LinkId.{LinkId}
use Rattle.mx_wire.specs.Log.{Log, opened_links}
use Rattle.mx_wire.specs.declared.entry.Entry.{Entry}
use Rattle.mx_wire.specs.declared.entry.Entry.TheVariants as entry
use Rattle.client_session.specs.Setups.{Setup as Service}
use Rattle.private_model.proofs.Maps.{link_of}
use Rattle.private_model.specs.Names.{ClientNo}
use Rattle.private_model.specs.Story.{is_link_id}
use Rattle.private_model.specs.View.{Setup}
use Rattle.link_laws.specs.Stands.{Codes}
use Rattle.log_story.specs.Headline.{tale_of}
use Rattle.log_story.specs.Plan.{Plan, word_at}
use Rattle.log_story.specs.Said.{ClosesFirst}
use Rattle.log_story.specs.Tale.{Client, Tale, first_tale, is_to_server}
use Rattle.log_story.specs.Telling.{tale_step}
use Rattle.step_laws.proofs.Seating.{log_counted}
use Rattle.step_laws.specs.Seats.{AreCounted, IsSeated, numbers}
use Rattle.tale_world.proofs.Links.{log_links}
use Rattle.tale_world.specs.Decided.{Decided}
use Rattle.tale_world.specs.Tested.{Passes}
use Rattle.core_tables.specs.Tables.{Tabled}
use Rattle.core_stands.specs.Grounds.{Ground}
use Rattle.core_stands.specs.Stands.{Rests, Stands}
use Rattle.run_laws.specs.Tells.{GetsBytes}
use Rattle.core_laws.proofs.OfEntry.Going.{tale_more}
use Rattle.core_laws.proofs.OfEntry.Safely.{log_goes_on}
use Rattle.core_laws.specs.entry.Cores.{GoesOn, IsSafely, with_entry}
use Rattle.core_laws.specs.entry.Dues.{AreSilent, AreWrittenTo}
use Rattle.core_laws.specs.entry.Entries.{behind}
use Rattle.core_laws.specs.entry.Grows.{IsHeardMore}
use Rattle.core_laws.specs.entry.Safe.{IsSafe}
use Rattle.core_laws.specs.entry.Speaks.{IsSilent, IsSilentOrSpoken}
use Rattle.core_laws.specs.entry.Tells.{ground}
use Rattle.router_laws.proofs.OfClients.Continuing.{all_there}
use Rattle.router_laws.proofs.OfClients.Duing.{moment_more, written_behind}
use Rattle.router_laws.specs.clients.Behind.{IsEntered, IsOffServers}
use Rattle.router_laws.specs.clients.Continues.{IsThere}
use Rattle.router_laws.specs.clients.Plans.{IsDecided, over_by}

-- Entries of no link to a server.

-- nothing is read of a server at an entry that is of no link to one
pub off_gets : (tale : Tale) (e : Entry) → IsOffServers tale e → GetsBytes tale e
off_gets tale (entry.Got link bytes) off = λ there. absurd (true≢false (sym there ∙ off))
off_gets tale _ off = tt

module _ (setup : Setup) (plan : Plan) (tale : Tale) where
  off_passes : (e : Entry) → IsOffServers tale e → Passes setup plan tale e
  off_passes (entry.Opened server address link) off = absurd off
  off_passes (entry.Wrote link tag bytes) off = λ server. absurd (true≢false (sym server ∙ off))
  off_passes _ off = tt

  off_closes : (e : Entry) → IsOffServers tale e → ClosesFirst setup tale e
  off_closes (entry.Wrote link tag bytes) off = λ server. absurd (true≢false (sym server ∙ off))
  off_closes _ off = tt

  opens_none : (e : Entry) → IsOffServers tale e → opened_links (e ∷ []) ≡ []
  opens_none (entry.Opened server address link) off = absurd off
  opens_none _ off = refl

  pub off_links : (e : Entry) → IsOffServers tale e → (tale_step setup plan tale e).links ≡ tale.links
  off_links e off = log_links setup plan (e ∷ []) tale ∙ ap (λ (more : List LinkId). tale.links ++ more) (opens_none e off) ∙ append-nil tale.links

  -- a link to a server isn't the one of the entry
  other_link : (l link : LinkId) → is_to_server tale l ≡ true → is_to_server tale link ≡ false → is_link_id l link ≡ false
  other_link l link server off = by (is_link_id l link) refl where
    by : (b : Bool) → is_link_id l link ≡ b → b ≡ false
    by false is = refl
    by true is = absurd (true≢false (sym server ∙ ap (is_to_server tale) (link_of l link is) ∙ off))

  off_silent : (e : Entry) (l : LinkId) → IsOffServers tale e → is_to_server tale l ≡ true → IsSilent setup plan tale e l
  off_silent (entry.Got link bytes) l off server = λ same. absurd (true≢false (sym same ∙ other_link l link server off))
  off_silent (entry.Wrote link tag bytes) l off server = other_link l link server off
  off_silent (entry.Opened opened address link) l off server = absurd off
  off_silent _ l off server = tt

  pub off_spoken : (e : Entry) (t : Tabled) → IsOffServers tale e → (l : LinkId) → is_to_server (tale_step setup plan tale e) l ≡ true
      → IsSilentOrSpoken setup plan tale e (tale_step setup plan tale e) t l
  off_spoken e t off l server =
      let before : is_to_server tale l ≡ true = ap (λ (links : List LinkId). list_any (is_link_id l) links) (sym (off_links e off)) ∙ server in
      inl (before, off_silent e l off before)

-- each client is heard, whatever the entry

pub log_numbers : (setup : Setup) (plan : Plan) (log : Log) → AreCounted 1 (numbers (tale_of setup plan log))
log_numbers setup plan log = log_counted setup plan log first_tale tt

heard_by : (setup : Setup) (plan : Plan) (log : Log) (e : Entry) (client : Client)
    → IsThere plan (tale_of setup plan log) e (tale_step setup plan (tale_of setup plan log) e) client
    → IsHeardMore (tale_of setup plan (with_entry log e)) client
heard_by setup plan log e client there = record {
  now = there.now;
  seated = subst (λ (tale : Tale). IsSeated tale there.now) (sym (tale_more setup plan log e)) there.seated;
  number = there.continued.number;
  port = there.continued.port;
  salt = there.continued.salt;
  more = there.continued.more;
  read = there.continued.read;
}

pub heard_always : (setup : Setup) (plan : Plan) (log : Log) (e : Entry)
    → All (λ (client : Client). IsHeardMore (tale_of setup plan (with_entry log e)) client) (tale_of setup plan log).clients
heard_always setup plan log e =
    All-weaker (IsThere plan (tale_of setup plan log) e (tale_step setup plan (tale_of setup plan log) e))
    (λ (client : Client). IsHeardMore (tale_of setup plan (with_entry log e)) client) (heard_by setup plan log e) (tale_of setup plan log).clients
    (all_there setup plan (tale_of setup plan log) e (log_numbers setup plan log))

module _ (service : Service) (setup : Setup) (codes : Codes) (plan : Plan) (log : Log) (e : Entry) (old new : Decided) (t now : Tabled)
    (roomy room whose : ClientNo → Bool) where
  abbrev g : Ground
  g = ground setup codes plan old log

  abbrev with : Ground
  with = ground setup codes plan new (with_entry log e)

  pub with_is : with ≡ behind g e (over_by new)
  with_is = λ i. record {
    setup = setup;
    codes = codes;
    plan = plan;
    tale = tale_more setup plan log e i;
    over = over_by new;
    fresh = λ c. false;
  }

  module _ (decided : IsDecided g whose (over_by new)) (is : IsEntered service g log e whose (over_by new) t now roomy room) where
    wordless : (client : Client) → over_by new client.number ≡ false → word_at plan with.tale.moment client.number ≡ None
    wordless client going =
        ap (λ (n : ℕ). word_at plan n client.number) (ap (λ (x : Ground). x.tale.moment) with_is ∙ moment_more setup plan g.tale e)
        ∙ decided.wordless client.number going

    silent : AreSilent with
    silent = λ k d within. wordless (slice_index_or with.tale.clients k d)

    safely : IsOffServers g.tale e → IsSafely setup plan log e now
    safely off = record {
      passes = off_passes setup plan g.tale e off;
      gets = off_gets g.tale e off;
      closes = off_closes setup plan g.tale e off;
      spoken = subst (λ (tale : Tale). (l : LinkId) → is_to_server tale l ≡ true → IsSilentOrSpoken setup plan g.tale e tale now l)
          (sym (tale_more setup plan log e)) (off_spoken setup plan g.tale e now off);
    }

    pub entered_goes_on : GoesOn service setup codes plan log e old new t now roomy room
    entered_goes_on = record {
      heard = heard_always setup plan log e;
      rests = λ rests. subst (λ (x : Ground). Rests service x now room) (sym with_is) (is.rests rests);
      written = λ rests behind_it to.
          subst (λ (x : Ground). AreWrittenTo x (with_entry log e)) (sym with_is)
          (written_behind service g t now roomy log e whose (over_by new) rests (is.rests rests).stands decided (is.due rests) to);
      safe = λ rests behind_it to safe.
          log_goes_on service setup codes plan new log e now safe (safely (is.off rests)) behind_it.stands silent to;
    }
