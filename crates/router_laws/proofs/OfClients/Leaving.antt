-- A client's link is lost, and it leaves.
use Rattle.std.specs.Prelude.{◌≡◌, ◌⊎◌, ◌<◌, ◌^◌, ◌&&◌, ◌||◌, ◌+◌, ℕ, suc, nat_eq, not, Bool, true, false, All, if◌then◌else◌, is_some, slice_get, slice_index_or, List, [], ◌∷◌, Option, Some, None}
use Rattle.std.specs.List.{list_any}
use Rattle.std.specs.Option.{option_map_or}
use Rattle.std.proofs.Common.{refl, sym, ap, ◌∙◌, subst, arith, inl, inr}
use Rattle.std.proofs.lemmas.Bool.{eqb-true, false≢true, true≢false}
use Rattle.std.proofs.lemmas.List.Elements.{All-cons, All-nil, All-weaker}
use Rattle.std.proofs.lemmas.Option.{none-some}
use Rattle.mx_base.specs.declared.names.Hostgroup.{Hostgroup}
use Rattle.mx_base.specs.declared.names.LinkId.{LinkId}
use Rattle.mx_wire.specs.Log.{Log, opened_links, wrote_bytes}
use Rattle.mx_wire.specs.declared.entry.Entry.{Entry}
use Rattle.mx_wire.specs.declared.entry.Entry.TheVariants as entry
use Rattle.client_session.specs.Setups.{Setup as Service}
use Rattle.private_model.proofs.Maps.{client_of, same_link, same_number}
use Rattle.private_model.specs.Names.{ClientNo, SessionName}
use Rattle.private_model.specs.Story.{Left, is_client, is_link_id}
use Rattle.private_model.specs.View.{Carried, Held, Nobody, Setup, View, present, session_in}
use Rattle.log_story.specs.Clients.{concerns, is_event_of}
use Rattle.log_story.specs.Owed.{name_of}
use Rattle.log_story.specs.Plan.{Plan, gives_up, is_before, is_by_now}
use Rattle.log_story.specs.Servers.{links_are_freed}
use Rattle.log_story.specs.Tale as tales
use Rattle.log_story.specs.Tale.{Tale, counted, is_to_server, link_in, tell, view_of}
use Rattle.log_story.specs.Telling.{is_lost_or_left, tale_step, told}
use Rattle.client_desk.specs.Desks.{session_of}
use Rattle.client_seat.specs.Seats.{is_ended}
use Rattle.desk_laws.specs.Stands.{held_of, name_at}
use Rattle.step_laws.proofs.Orderly.{freed_in_order}
use Rattle.step_laws.proofs.Sparing.{done_as_before, stays_spared, tell_spares}
use Rattle.step_laws.specs.Freed.{AreAll, Ascend, NoneDone, NoneDoneBut, freed_in, is_among, is_done_at}
use Rattle.step_laws.specs.Seats.{IsSeated, is_its}
use Rattle.step_laws.specs.Spared.{carries_of, is_newest, touched_link, touched_session}
use Rattle.step_laws.specs.Steps.{ends_now, told_then}
use Rattle.step_laws.specs.Taken.{ArePassedBut, IsPassed, is_called}
use Rattle.core_tables.specs.Tables.{IsSame, Tabled}
use Rattle.core_tables.specs.declared.client.Client.{Client}
use Rattle.core_tables.specs.declared.server.Server.{Server}
use Rattle.core_stands.specs.Clients.{IsClient}
use Rattle.core_stands.specs.Grounds.{Ground, view_on}
use Rattle.core_stands.specs.Servers.{IsServerBy}
use Rattle.core_stands.specs.Stands.{Rests, Stands}
use Rattle.core_laws.specs.parting.Frames.{AreHomed}
use Rattle.core_laws.proofs.OfArrival.Finding.{client-same, client-true}
use Rattle.core_laws.proofs.OfEntry.Lists.{seated_of}
use Rattle.core_laws.proofs.OfEntry.Uneventful.{Testing, not_called}
use Rattle.core_laws.specs.entry.Calms.{IsAside, IsLostOf}
use Rattle.core_laws.specs.entry.Entries as entries
use Rattle.core_laws.specs.entry.Entries.{AreSpared, TellsOf}
use Rattle.core_laws.specs.entry.Kinds.{IsStill}
use Rattle.core_laws.proofs.OfClients.Homing.{among_of, each_of, server_by}
use Rattle.core_laws.specs.clients.Follows.{AreHomesOf}
use Rattle.router_laws.proofs.OfClients.Linking.{alone_there, client_there, is_client_row, known, leaves_there, link_is, off_server}
use Rattle.router_laws.specs.clients.Behind.{IsOffServers}
use Rattle.router_laws.specs.clients.Continues.{HasCome, is_read_on}
use Rattle.router_laws.specs.clients.Leaves.{IsLossOf}
use Rattle.router_laws.specs.clients.Speaks.{IsLinkOf}

-- What is the same of the three entries by which a link is lost.
pub record IsLoss (link : LinkId) (e : Entry) : Type 0 where
  pub tells_so : (setup : Setup) (plan : Plan) (tale : Tale) → told setup plan tale e ≡ is_lost_or_left link tale
  pub event : (view : View) (x : tales.Client) → is_event_of view x e ≡ concerns view x link
  pub aside : (setup : Setup) (tale : Tale) (c : ClientNo) → IsLostOf setup tale link c → IsAside setup tale e c
  pub of_all : (whose : ClientNo → Bool) (tale : Tale) → TellsOf whose tale e
  pub silent : wrote_bytes e ≡ []
  pub unread : (l : LinkId) → is_read_on e l ≡ false
  pub off : (tale : Tale) → IsOffServers tale e
  pub none_comes : (tale : Tale) (x : tales.Client) → HasCome tale e x → ⊥

ended_loss : (link : LinkId) → IsLoss link (entry.Ended link)
ended_loss link = record {
  tells_so = λ setup plan tale. refl;
  event = λ view x. refl;
  aside = λ setup tale c is. is;
  of_all = λ whose tale. tt;
  silent = refl;
  unread = λ l. refl;
  off = λ tale. tt;
  none_comes = λ tale x come. come;
}

read_loss : (link : LinkId) → IsLoss link (entry.ReadFailed link)
read_loss link = record {
  tells_so = λ setup plan tale. refl;
  event = λ view x. refl;
  aside = λ setup tale c is. is;
  of_all = λ whose tale. tt;
  silent = refl;
  unread = λ l. refl;
  off = λ tale. tt;
  none_comes = λ tale x come. come;
}

write_loss : (link : LinkId) → IsLoss link (entry.WriteFailed link)
write_loss link = record {
  tells_so = λ setup plan tale. refl;
  event = λ view x. refl;
  aside = λ setup tale c is. is;
  of_all = λ whose tale. tt;
  silent = refl;
  unread = λ l. refl;
  off = λ tale. tt;
  none_comes = λ tale x come. come;
}

pub loss_of : (link : LinkId) (e : Entry) → IsLossOf link e → IsLoss link e
loss_of link e (inl same) = subst (IsLoss link) (sym same) (ended_loss link)
loss_of link e (inr (inl same)) = subst (IsLoss link) (sym same) (read_loss link)
loss_of link e (inr (inr same)) = subst (IsLoss link) (sym same) (write_loss link)

-- Links that carry its present sessions are all that may be given back as it leaves.

module _ (service : Service) (g : Ground) (t : Tabled) (link : LinkId) (c : ClientNo) (row : Client) (stands : Stands service g t)
    (its : IsLinkOf link c row t) (links : List LinkId) (homes : AreHomesOf c links t) (homed : AreHomed (view_on g).links (view_on g).held)
    (rested : NoneDone g.setup g.plan g.tale) where
  abbrev client : tales.Client
  client = client_there service g t link c row stands its

  own : IsClient g client row
  own = is_client_row service g t link c row stands its

  number : client.number ≡ c
  number = (known service g t link c row stands its).number

  abbrev left : Tale
  left = tell (Left c) g.tale

  same_row : homes.row ≡ row
  same_row = let both : Some homes.row ≡ Some row = sym homes.there ∙ its.there in cc

  home_now : (h : Hostgroup) → ((view_on g).held (present (view_on g) c h)).home ≡ (session_of row.desk h).home
  home_now h =
      ap (λ (n : ClientNo). ((view_on g).held (present (view_on g) n h)).home) (sym number)
      ∙ ap (λ (life : ℕ). ((view_on g).held (name_at client.number h life)).home) (own.desk.sessions.each h).life
      ∙ ap (λ (held : Held). held.home) (own.desk.sessions.each h).held

  home_next : (h : Hostgroup) → ((view_on g).held (name_at c h (suc ((view_on g).lives c h)))).home ≡ None
  home_next h =
      let same : (view_on g).lives client.number h ≡ (session_of row.desk h).life = (own.desk.sessions.each h).life in
      let later : (session_of row.desk h).life < suc ((view_on g).lives client.number h) = omega (arith, same) in
      ap (λ (n : ClientNo). ((view_on g).held (name_at n h (suc ((view_on g).lives n h)))).home) (sym number)
      ∙ ap (λ (held : Held). held.home) ((own.desk.sessions.each h).unborn (suc ((view_on g).lives client.number h)) later).held

  named_so : (n : SessionName) (life : ℕ) → is_client n.client c ≡ true → n.life ≡ life → n ≡ name_at c n.hostgroup life
  named_so n life its_own same = λ i. record { client = client_of n.client c its_own i; hostgroup = n.hostgroup; life = same i }

  lives_so : (n : SessionName) → is_client n.client c ≡ true → (view_on g).lives n.client n.hostgroup ≡ (view_on g).lives c n.hostgroup
  lives_so n its_own = ap (λ (k : ClientNo). (view_on g).lives k n.hostgroup) (client_of n.client c its_own)

  home_of : (l : LinkId) (n : SessionName) → session_in (link_in g.setup g.tale l).carries ≡ Some n → is_client n.client c ≡ true → (life : ℕ) → n.life ≡ life
      → ((view_on g).held (name_at c n.hostgroup life)).home ≡ Some l
  home_of l n carried its_own life same = ap (λ (m : SessionName). ((view_on g).held m).home) (sym (named_so n life its_own same)) ∙ homed.home l n carried

  not_newest : (l : LinkId) (n : SessionName) → is_among links l ≡ false → session_in (link_in g.setup g.tale l).carries ≡ Some n
      → is_client n.client c ≡ true → is_newest (view_on g) n ≡ false
  not_newest l n out carried its_own =
      by (nat_eq n.life ((view_on g).lives n.client n.hostgroup)) refl (nat_eq n.life (suc ((view_on g).lives n.client n.hostgroup))) refl where
        by : (a : Bool) → nat_eq n.life ((view_on g).lives n.client n.hostgroup) ≡ a → (b : Bool)
            → nat_eq n.life (suc ((view_on g).lives n.client n.hostgroup)) ≡ b → is_newest (view_on g) n ≡ false
        by true now b next =
            let home : (session_of row.desk n.hostgroup).home ≡ Some l =
            sym (home_now n.hostgroup)
            ∙ home_of l n carried its_own ((view_on g).lives c n.hostgroup)
            (eqb-true n.life ((view_on g).lives n.client n.hostgroup) now ∙ lives_so n its_own) in
            let here : (session_of homes.row.desk n.hostgroup).home ≡ Some l =
            ap (λ (r : Client). (session_of r.desk n.hostgroup).home) same_row ∙ home in
            absurd (false≢true (sym out ∙ homes.homes n.hostgroup l here
            (ap is_some (stands.homes.carried c homes.row n.hostgroup l homes.there here).1.there)))
        by false now true next =
            absurd (none-some l (sym (home_next n.hostgroup)
            ∙ home_of l n carried its_own (suc ((view_on g).lives c n.hostgroup))
            (eqb-true n.life (suc ((view_on g).lives n.client n.hostgroup)) next ∙ ap suc (lives_so n its_own))))
        by false now false next = λ i. now i || next i

  untouched : (l : LinkId) → is_among links l ≡ false → carries_of (touched_session (view_on g) (Left c)) (link_in g.setup g.tale l).carries ≡ false
  untouched l out = by (session_in (link_in g.setup g.tale l).carries) refl where
    by : (found : Option SessionName) → session_in (link_in g.setup g.tale l).carries ≡ found
        → option_map_or (touched_session (view_on g) (Left c)) found false ≡ false
    by None carried = refl
    by (Some n) carried = of_it (is_client n.client c) refl where
      of_it : (b : Bool) → is_client n.client c ≡ b → (b && is_newest (view_on g) n) ≡ false
      of_it false other = refl
      of_it true here = not_newest l n out carried here

  pub left_but : NoneDoneBut g.setup g.plan (is_among links) left
  left_but l there out =
      done_as_before g.setup g.plan g.tale left l
      (stays_spared g.setup g.plan g.tale left (touched_link (Left c)) (touched_session (view_on g) (Left c))
      (tell_spares g.setup (Left c) g.tale) l refl (untouched l out))
      ∙ rested l there

  pub theirs : (l : LinkId) → is_among links l ≡ true → is_to_server g.tale l ≡ true
  theirs l there =
      server_by g t l (is_to_server g.tale l) (t.links l) (stands.servers l)
      (among_of (λ (k : LinkId). is_some (t.links k) ≡ true) l links homes.known there)

  pub all_theirs : All (λ (l : LinkId). is_to_server g.tale l ≡ true) links
  all_theirs = each_of links (λ (l : LinkId). is_to_server g.tale l ≡ true) theirs

  -- so they are given back as they are named, by tables that stand before and behind the moment
  module _ (testing : Testing service) (over : ClientNo → Bool) (gone : Tabled) (first : Stands service (record g { tale = left; over = over }) gone)
      (then_on : Stands service (record g { tale = counted left; over = over }) gone) where
    counted_but : NoneDoneBut g.setup g.plan (is_among links) (counted left)
    counted_but l there out =
        testing (record g { tale = counted left; over = over }) gone l then_on there ∙ sym (testing (record g { tale = left; over = over }) gone l first there)
        ∙ left_but l there out

    pub freed_is : Ascend (λ l. l.0) g.tale.links → links_are_freed g.setup g.plan (counted left) ≡ freed_in g.setup g.plan links (counted left)
    freed_is rising =
        freed_in_order g.setup g.plan (λ l. l.0) links (counted left) (record { theirs = theirs; all = counted_but }) rising homes.rising

-- The entry of a link that is lost.

module _ (service : Service) (g : Ground) (t : Tabled) (link : LinkId) (c : ClientNo) (row : Client) (stands : Stands service g t)
    (its : IsLinkOf link c row t) (e : Entry) (loss : IsLoss link e) (nobody : (link_in g.setup g.tale link).carries ≡ Nobody)
    (still : All (IsStill g) g.tale.clients) where
  abbrev it : tales.Client
  it = client_there service g t link c row stands its

  it_number : it.number ≡ c
  it_number = (known service g t link c row stands its).number

  pub told_left : told g.setup g.plan g.tale e ≡ tell (Left c) g.tale
  told_left = loss.tells_so g.setup g.plan g.tale ∙ leaves_there service g t link c row stands its

  -- others

  not_its : (x other : tales.Client) → is_client c x.number ≡ false → (is_link_id other.link link ≡ true → other.number ≡ c)
      → is_link_id other.link link ≡ true → is_client x.number other.number ≡ false
  not_its x other apart alone here = by (is_client x.number other.number) refl where
    by : (b : Bool) → is_client x.number other.number ≡ b → is_client x.number other.number ≡ false
    by false is = is
    by true is =
        absurd (true≢false (sym (client-same c x.number (sym (client_of x.number other.number is ∙ alone here))) ∙ apart))

  lost_of : (x : tales.Client) → is_client c x.number ≡ false → IsLostOf g.setup g.tale link x.number
  lost_of x apart = record {
    carried = λ server. absurd (true≢false (sym server ∙ off_server service g t link c row stands its));
    theirs = All-weaker (λ (other : tales.Client). is_link_id other.link link ≡ true → other.number ≡ c)
        (λ (other : tales.Client). is_link_id other.link link ≡ true → is_client x.number other.number ≡ false)
        (λ other alone. not_its x other apart alone) g.tale.clients (alone_there service g t link c row stands its);
  }

  pub spared_by : (whose : ClientNo → Bool) → ((n : ClientNo) → whose n ≡ false → is_client c n ≡ false) → AreSpared whose g e
  spared_by whose only =
      All-weaker (IsStill g) (λ (x : tales.Client). whose x.number ≡ false → entries.IsSpared g e x)
      (λ x is apart. record { aside = loss.aside g.setup g.tale x.number (lost_of x (only x.number apart)); keeps = is.keeps }) g.tale.clients still

  abbrev carried : tales.Client → Bool
  carried x = option_map_or (λ (n : SessionName). is_client n.client x.number) (session_in (link_in g.setup g.tale link).carries) false

  not_carried : (x : tales.Client) → carried x ≡ false
  not_carried x = ap (λ (k : Carried). option_map_or (λ (n : SessionName). is_client n.client x.number) (session_in k) false) nobody

  pub its_event : is_event_of (view_on g) it e ≡ true
  its_event =
      loss.event (view_on g) it
      ∙ ap (λ (l : LinkId). is_link_id l link || carried it) (link_is service g t link c row stands its)
      ∙ ap (λ (b : Bool). b || carried it) (same_link link)

  aside_link : (x : tales.Client) → (is_link_id x.link link ≡ true → x.number ≡ c) → is_client x.number c ≡ false → is_link_id x.link link ≡ false
  aside_link x alone apart = by (is_link_id x.link link) refl where
    by : (b : Bool) → is_link_id x.link link ≡ b → is_link_id x.link link ≡ false
    by false is = is
    by true is = absurd (true≢false (sym (client-same x.number c (alone is)) ∙ apart))

  -- who isn't the client, or ended, isn't called
  pub uncalled : (x : tales.Client) → IsStill g x → (is_link_id x.link link ≡ true → x.number ≡ c) → is_client x.number c ≡ false
      → is_called g.plan (suc g.tale.moment) (view_on g) e x ≡ false
  uncalled x is alone apart =
      not_called g.plan (suc g.tale.moment) (view_on g) e x
      (loss.event (view_on g) x ∙ (λ i. aside_link x alone apart i || not_carried x i)) (is.keeps x.taken (omega arith))

  pub all_uncalled : All (λ (x : tales.Client). is_client x.number c ≡ false → is_called g.plan (suc g.tale.moment) (view_on g) e x ≡ false) g.tale.clients
  all_uncalled = λ k d within apart.
      uncalled (slice_index_or g.tale.clients k d) (still k d within) (alone_there service g t link c row stands its k d within) apart
