-- A link to a server is opened.
use Rattle.std.specs.Prelude.{◌≡◌, ℕ, Bool, true, false, All, nat_eq, if◌then◌else◌, List, Some, None}
use Rattle.std.specs.List.{list_any}
use Rattle.std.proofs.Common.{refl, sym, ap, ◌∙◌, subst, inl, inr}
use Rattle.std.proofs.lemmas.Bool.{false≢true}
use Rattle.mx_base.specs.declared.names.Address.{Address}
use Rattle.mx_wire.specs.Log.{Log}
use Rattle.mx_wire.specs.Tells.{IsNew}
use Rattle.mx_wire.specs.declared.entry.Entry.{Entry}
use Rattle.mx_wire.specs.declared.entry.Entry.TheVariants as entry
use Rattle.server_side.specs.Account.{Account as Login}
use Rattle.client_session.specs.Setups.{Setup as Service}
use Rattle.private_model.proofs.Maps.{link_of, same_number}
use Rattle.private_model.specs.Names.{ClientNo, LinkId, ServerId}
use Rattle.private_model.specs.Story.{is_link_id}
use Rattle.private_model.specs.View.{Setup, no_link}
use Rattle.link_laws.specs.Stands.{Codes}
use Rattle.log_story.specs.Headline.{tale_of}
use Rattle.log_story.specs.Plan.{Plan}
use Rattle.log_story.specs.Tale as tales
use Rattle.log_story.specs.Tale.{Tale, is_to_server, link_in}
use Rattle.log_story.specs.Telling.{tale_step, told}
use Rattle.tale_world.specs.Decided.{Decided}
use Rattle.served_link.specs.Rows.{new_row}
use Rattle.step_laws.specs.Steps.{told_then}
use Rattle.core_tables.specs.Tables.{IsSame, Tabled}
use Rattle.core_tables.specs.Writing.{opened}
use Rattle.core_tables.specs.declared.server.Server.{Server}
use Rattle.core_stands.specs.Grounds.{Ground, on}
use Rattle.core_stands.specs.Stands.{Rests, Stands}
use Rattle.core_laws.proofs.OfEntry.Going.{tale_more}
use Rattle.core_laws.proofs.OfEntry.Uneventful.{Counting, Testing}
use Rattle.core_laws.specs.entry.Cores.{IsSafely, with_entry}
use Rattle.core_laws.specs.entry.Entries.{behind}
use Rattle.core_laws.specs.entry.Kinds.{IsUneventful}
use Rattle.core_laws.specs.entry.Safe.{IsSafe}
use Rattle.core_laws.specs.entry.Speaks.{IsSilentOrSpoken, IsSpoken}
use Rattle.core_laws.specs.entry.Tells.{ground}
use Rattle.router_laws.proofs.OfClients.Linking.{unwritten}
use Rattle.router_laws.specs.clients.Behind.{IsDueBehind}
use Rattle.router_laws.specs.clients.Plans.{IsDecided, nobody, over_by}
use Rattle.core_laws.proofs.OfLinks.Opens.{any_last, opened_rests, opened_steps}
use Rattle.core_laws.proofs.OfLinks.Uncalled.{Sames}
use Rattle.router_laws.proofs.OfLinks.Going.{same_over, uneventful}
use Rattle.router_laws.specs.links.Opens.{OpensSo}

module _ (service : Service) (setup : Setup) (codes : Codes) (plan : Plan) (log : Log) (old new : Decided) (t now : Tabled) (roomy : ClientNo → Bool)
    (server : ServerId) (address : Address) (l : LinkId) (login : Login) (counting : Counting service) (testing : Testing service)
    (sames : Sames service) (decided : IsDecided (ground setup codes plan old log) nobody (over_by new)) (so : OpensSo l server login t now)
    (rests : Rests service (ground setup codes plan old log) t roomy) (none : is_to_server (tale_of setup plan log) l ≡ false)
    (stands : Stands service (on (ground setup codes plan old log) (told setup plan (tale_of setup plan log) (entry.Opened server address l))) now) where
  abbrev g : Ground
  g = ground setup codes plan old log

  abbrev e : Entry
  e = entry.Opened server address l

  calm : IsUneventful g
  calm = uneventful g (over_by new) decided

  pub rested : Rests service (behind g e (over_by new)) now roomy
  rested =
      subst (λ (over : ClientNo → Bool). Rests service (behind g e over) now roomy) (sym (same_over g (over_by new) decided))
      (opened_rests service counting testing sames g t roomy rests calm server address l so.slot so.opening login so.moment now so.same stands)

  pub due : IsDueBehind g log e nobody (over_by new) now
  due = record {
    writes = λ x seated. inl (unwritten e refl x.link);
    unread = λ x seated ended. refl;
    says = λ was x seated on its going. absurd (false≢true its);
    there = λ x seated its. absurd (false≢true its);
    comes = λ x seated come. absurd come;
  }

  steps : tale_step setup plan g.tale e ≡ told_then setup plan g.tale e
  steps =
      opened_steps service counting testing sames g t roomy rests calm server address l so.slot so.opening login so.moment now so.same stands

  pub step_clients : (tale_step setup plan g.tale e).clients ≡ g.tale.clients
  step_clients = ap (λ (tale : Tale). tale.clients) steps

  step_is : tale_of setup plan (with_entry log e) ≡ told_then setup plan g.tale e
  step_is = tale_more setup plan log e ∙ steps

  there_by : (b : Bool) → b ≡ true → (if b then Some (record { row = new_row so.opening login so.moment; slot = so.slot; spot = None }) else t.links l)
      ≡ Some (record { row = new_row so.opening login so.moment; slot = so.slot; spot = None })
  there_by true is = refl
  there_by false is = absurd (false≢true is)

  pub opened_there : now.links l ≡ Some (record { row = new_row so.opening login so.moment; slot = so.slot; spot = None })
  opened_there = so.same.links l ∙ there_by (nat_eq l.0 l.0) (same_number l.0)

  opened_spoken : IsSpoken now (tale_of setup plan (with_entry log e)) l
  opened_spoken = record {
    server = record { row = new_row so.opening login so.moment; slot = so.slot; spot = None };
    there = opened_there;
    well = λ outside. refl;
  }

  spoken : (other : LinkId) → is_to_server (tale_of setup plan (with_entry log e)) other ≡ true
      → IsSilentOrSpoken setup plan g.tale e (tale_of setup plan (with_entry log e)) now other
  spoken other known = by (is_link_id other l) refl where
    by : (b : Bool) → is_link_id other l ≡ b → IsSilentOrSpoken setup plan g.tale e (tale_of setup plan (with_entry log e)) now other
    by true here = inr (subst (IsSpoken now (tale_of setup plan (with_entry log e))) (sym (link_of other l here)) opened_spoken)
    by false apart =
        inl (sym (any_last l other g.tale.links apart) ∙ ap (λ (tale : Tale). is_to_server tale other) (sym step_is) ∙ known, apart)

  pub safely : IsSafely setup plan log e now
  safely = record {
    passes = none;
    gets = tt;
    closes = tt;
    spoken = spoken;
  }
