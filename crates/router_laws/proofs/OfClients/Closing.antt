-- The link of a client that ended is closed, and its row goes away.
use Rattle.std.specs.Prelude.{◌≡◌, ◌<◌, ◌&&◌, ◌||◌, ℕ, suc, nat_eq, Bool, true, false, All, if◌then◌else◌, List, [], ◌∷◌, Option, Some, None}
use Rattle.std.specs.Option.{option_map_or}
use Rattle.std.proofs.Common.{refl, sym, ap, ◌∙◌, subst, arith, inl}
use Rattle.std.proofs.lemmas.Bool.{eqb-true, false≢true, true≢false}
use Rattle.std.proofs.lemmas.List.Elements.{All-weaker}
use Rattle.std.proofs.lemmas.Option.{none-some}
use Rattle.mx_base.specs.declared.names.Hostgroup.{Hostgroup}
use Rattle.mx_base.specs.declared.names.LinkId.{LinkId}
use Rattle.mx_wire.specs.Log.{Log}
use Rattle.mx_wire.specs.declared.entry.Entry.{Entry}
use Rattle.mx_wire.specs.declared.entry.Entry.TheVariants.{Closed}
use Rattle.client_session.specs.Setups.{Setup as Service}
use Rattle.private_model.proofs.Maps.{client_of}
use Rattle.private_model.specs.Names.{ClientNo, SessionName}
use Rattle.private_model.specs.Story.{Left, is_client, is_link_id}
use Rattle.private_model.specs.View.{Carried, Held, present, session_in}
use Rattle.log_story.specs.Tale as tales
use Rattle.log_story.specs.Tale.{Tale, counted, is_to_server, link_in, tell}
use Rattle.log_story.specs.Telling.{tale_step, told}
use Rattle.lent_link.specs.declared.link.Begins.{Begins}
use Rattle.lent_link.specs.declared.link.Begins.TheVariants as begins
use Rattle.link_state.specs.declared.asking.Purpose.{Purpose}
use Rattle.link_state.specs.declared.asking.Purpose.TheVariants as purposes
use Rattle.client_seat.specs.Seats.{is_ended}
use Rattle.client_desk.specs.Desks.{session_of}
use Rattle.served_link.specs.declared.row.LeftSession.{LeftSession}
use Rattle.desk_laws.specs.Stands.{name_at}
use Rattle.served_link.specs.declared.row.Row.{Row}
use Rattle.step_laws.proofs.Sparing.{done_as_before, stays_spared, tell_spares}
use Rattle.step_laws.specs.Freed.{NoneDone}
use Rattle.step_laws.specs.Seats.{IsSeated}
use Rattle.step_laws.specs.Spared.{carries_of, is_newest, touched_link, touched_session}
use Rattle.step_laws.specs.Steps.{ends_now, told_then}
use Rattle.core_tables.specs.Arrivals.{forgotten, without}
use Rattle.core_tables.specs.Tables.{IsSame, Tabled}
use Rattle.core_tables.specs.declared.client.Client.{Client}
use Rattle.core_tables.specs.declared.server.Server.{Server}
use Rattle.core_stands.specs.Clients.{IsClient, IsClientOr, IsForgotten, IsPhase}
use Rattle.core_stands.specs.Grounds.{Ground, on, view_on}
use Rattle.core_stands.specs.Servers.{IsServerOr}
use Rattle.core_stands.specs.Stands.{AreHomes, Rests, Stands}
use Rattle.core_laws.proofs.OfParting.Moving.{stands_moved}
use Rattle.core_laws.specs.parting.Frames.{AreHomed, SparesNext, SparesNextFor, SparesRowOr}
use Rattle.row_laws.specs.Apart.{IsElsewhere, IsSpared}
use Rattle.row_laws.specs.Whose.{name_in}
use Rattle.core_laws.proofs.OfArrival.Changing.{put-same}
use Rattle.core_laws.proofs.OfArrival.Finding.{client-same, client-true}
use Rattle.core_laws.proofs.OfArrival.Forgetting.{forgotten-so}
use Rattle.core_laws.proofs.OfEntry.Composing.{rest_of_nobody, told_alone}
use Rattle.core_laws.proofs.OfEntry.Uneventful.{Counting, Makes, Testing, counted_rests, of_nobody, stands_then}
use Rattle.core_laws.specs.entry.Calms.{IsLostOf}
use Rattle.core_laws.specs.entry.Entries as entries
use Rattle.core_laws.specs.entry.Entries.{AreSpared, behind}
use Rattle.core_laws.specs.entry.Kinds.{IsStill}
use Rattle.router_laws.proofs.OfClients.Linking.{alone_there, client_there, is_client_row, known, leaves_there, off_server, unwritten}
use Rattle.router_laws.specs.clients.Behind.{IsDueBehind, IsEntered}
use Rattle.router_laws.specs.clients.Parts.{PartsSo}
use Rattle.router_laws.specs.clients.Plans.{IsDecided, nobody}
use Rattle.router_laws.specs.clients.Speaks.{IsLinkOf}
use Rattle.core_laws.proofs.OfPrepared.Rows.{are_prepared, owns_stay, rows_same}

abbrev pub Homing : Type 0
Homing = (g : Ground) (t : Tabled) (service : Service) → Stands service g t → AreHomed (view_on g).links (view_on g).held

-- One that ended, by its row: as it leaves again, no link that carries a session is concerned.

module _ (service : Service) (g : Ground) (t : Tabled) (link : LinkId) (c : ClientNo) (row : Client) (stands : Stands service g t)
    (its : IsLinkOf link c row t) (ended : is_ended row.desk.seat.phase ≡ true) where
  abbrev client : tales.Client
  client = client_there service g t link c row stands its

  own : IsClient g client row
  own = is_client_row service g t link c row stands its

  number : client.number ≡ c
  number = (known service g t link c row stands its).number

  over_by : (b : Bool) → b ≡ true → IsPhase b g client row → g.over client.number ≡ true
  over_by true is phase = phase.over
  over_by false is phase = absurd (false≢true is)

  pub over_there : g.over c ≡ true
  over_there = ap g.over (sym number) ∙ over_by (is_ended row.desk.seat.phase) ended own.phase

  is_forgotten : IsForgotten g client
  is_forgotten = forgotten-so g client row (ap g.over number ∙ over_there) own

  -- neither its present session nor the one to come has a home

  home_now : (h : Hostgroup) → ((view_on g).held (present (view_on g) c h)).home ≡ None
  home_now h = ap (λ (n : ClientNo). ((view_on g).held (present (view_on g) n h)).home) (sym number) ∙ is_forgotten.homeless h

  home_next : (h : Hostgroup) → ((view_on g).held (name_at c h (suc ((view_on g).lives c h)))).home ≡ None
  home_next h =
      let same : (view_on g).lives client.number h ≡ (session_of row.desk h).life = (own.desk.sessions.each h).life in
      let later : (session_of row.desk h).life < suc ((view_on g).lives client.number h) = omega (arith, same) in
      ap (λ (n : ClientNo). ((view_on g).held (name_at n h (suc ((view_on g).lives n h)))).home) (sym number)
      ∙ ap (λ (held : Held). held.home) ((own.desk.sessions.each h).unborn (suc ((view_on g).lives client.number h)) later).held

  -- so no link carries one of them

  module _ (homed : AreHomed (view_on g).links (view_on g).held) where
    named_so : (n : SessionName) (life : ℕ) → is_client n.client c ≡ true → n.life ≡ life → n ≡ name_at c n.hostgroup life
    named_so n life its same = λ i. record { client = client_of n.client c its i; hostgroup = n.hostgroup; life = same i }

    lives_so : (n : SessionName) → is_client n.client c ≡ true → (view_on g).lives n.client n.hostgroup ≡ (view_on g).lives c n.hostgroup
    lives_so n its = ap (λ (k : ClientNo). (view_on g).lives k n.hostgroup) (client_of n.client c its)

    no_home : (l : LinkId) (n : SessionName) → session_in (link_in g.setup g.tale l).carries ≡ Some n → is_client n.client c ≡ true
        → (life : ℕ) → ((view_on g).held (name_at c n.hostgroup life)).home ≡ None → n.life ≡ life → {A : Type 0} → A
    no_home l n carried its life none same =
        absurd (none-some l (sym none ∙ ap (λ (m : SessionName). ((view_on g).held m).home) (sym (named_so n life its same)) ∙ homed.home l n carried))

    not_newest : (l : LinkId) (n : SessionName) → session_in (link_in g.setup g.tale l).carries ≡ Some n → is_client n.client c ≡ true
        → is_newest (view_on g) n ≡ false
    not_newest l n carried its =
        by (nat_eq n.life ((view_on g).lives n.client n.hostgroup)) refl (nat_eq n.life (suc ((view_on g).lives n.client n.hostgroup))) refl where
          by : (a : Bool) → nat_eq n.life ((view_on g).lives n.client n.hostgroup) ≡ a → (b : Bool)
              → nat_eq n.life (suc ((view_on g).lives n.client n.hostgroup)) ≡ b → is_newest (view_on g) n ≡ false
          by true now b next =
              no_home l n carried its ((view_on g).lives c n.hostgroup) (home_now n.hostgroup)
              (eqb-true n.life ((view_on g).lives n.client n.hostgroup) now ∙ lives_so n its)
          by false now true next =
              no_home l n carried its (suc ((view_on g).lives c n.hostgroup)) (home_next n.hostgroup)
              (eqb-true n.life (suc ((view_on g).lives n.client n.hostgroup)) next ∙ ap suc (lives_so n its))
          by false now false next = λ i. now i || next i

    pub untouched : (l : LinkId) → carries_of (touched_session (view_on g) (Left c)) (link_in g.setup g.tale l).carries ≡ false
    untouched l = by (session_in (link_in g.setup g.tale l).carries) refl where
      by : (found : Option SessionName) → session_in (link_in g.setup g.tale l).carries ≡ found
          → option_map_or (touched_session (view_on g) (Left c)) found false ≡ false
      by None carried = refl
      by (Some n) carried = of_it (is_client n.client c) refl where
        of_it : (b : Bool) → is_client n.client c ≡ b → (b && is_newest (view_on g) n) ≡ false
        of_it false other = refl
        of_it true here = not_newest l n carried here

    pub left_undone : NoneDone g.setup g.plan g.tale → NoneDone g.setup g.plan (tell (Left c) g.tale)
    left_undone rested l there =
        done_as_before g.setup g.plan g.tale (tell (Left c) g.tale) l
        (stays_spared g.setup g.plan g.tale (tell (Left c) g.tale) (touched_link (Left c)) (touched_session (view_on g) (Left c))
        (tell_spares g.setup (Left c) g.tale) l refl (untouched l))
        ∙ rested l there

-- Its row is gone, and it leaves.

module _ (service : Service) (g : Ground) (t now : Tabled) (link : LinkId) (c : ClientNo) (row : Client) (stands : Stands service g t)
    (its : IsLinkOf link c row t) (ended : is_ended row.desk.seat.phase ≡ true) (same : IsSame now (forgotten c t)) (gone : Stands service g now) where
  abbrev left : Tale
  left = tell (Left c) g.tale

  none_now : now.clients c ≡ None
  none_now = same.clients c ∙ ap (λ (found : Option Client). (without c found t).clients c) its.there ∙ put-same c None t

  abbrev Stay : Type 0
  Stay = (x : tales.Client) (found : Option Client) → IsClientOr g x found → is_client x.number c ≡ false → IsClientOr (on g left) x found

  next_there : (h : Hostgroup) → ((view_on (on g left)).held (present (view_on (on g left)) c h)).home ≡ None
  next_there h =
      ap (λ (b : Bool). ((view_on g).held (name_at c h (if b then suc ((view_on g).lives c h) else (view_on g).lives c h))).home) (client-same c c refl)
      ∙ home_next service g t link c row stands its ended h

  rows_so : Stay → (x : tales.Client) → IsSeated g.tale x → IsClientOr g x (now.clients x.number) → IsClientOr (on g left) x (now.clients x.number)
  rows_so stay x seated was = by (is_client x.number c) refl where
    by : (b : Bool) → is_client x.number c ≡ b → IsClientOr (on g left) x (now.clients x.number)
    by false other = stay x (now.clients x.number) was other
    by true here =
        let number_is : x.number ≡ c = client_of x.number c here in
        subst (λ (found : Option Client). IsClientOr (on g left) x found) (sym (ap now.clients number_is ∙ none_now))
        (record {
          over = ap g.over number_is ∙ over_there service g t link c row stands its ended;
          homeless = λ h.
              ap (λ (n : ClientNo). ((view_on (on g left)).held (present (view_on (on g left)) n h)).home) number_is ∙ next_there h;
        })

  spares_next : (next : Option Begins) → SparesNext next (Left c)
  spares_next None = tt
  spares_next (Some (begins.Asks asking)) = by asking.purpose where
    by : (purpose : Purpose) → SparesNextFor purpose (Left c)
    by (purposes.Statement n ordinal key) = tt
    by (purposes.Prep n ordinal key) = tt
    by (purposes.Sync n) = tt
    by purposes.Own = tt
    by (purposes.End n) = tt
    by (purposes.Capture n) = tt
  spares_next (Some (begins.Closes k)) = tt
  spares_next (Some (begins.Resets k)) = tt
  spares_next (Some begins.Quits) = tt

  spares_row : (l : LinkId) (found : Option Server) → now.links l ≡ found → SparesRowOr (view_on g) (Left c) found
  spares_row l None there = tt
  spares_row l (Some server) there =
      record { session = λ whole n carries. by server.row.left refl whole n carries; next = spares_next server.row.link.next } where
        by : (left : Option LeftSession) → server.row.left ≡ left → server.row.lost ≡ false → (n : SessionName)
            → name_in server.row.link.state.carries ≡ Some n → IsSpared (view_on g) (Left c) n left
        by (Some kept) is whole n carries = tt
        by None is whole n carries = other (is_client n.client c) refl where
          other : (b : Bool) → is_client n.client c ≡ b → is_client n.client c ≡ false
          other false apart = apart
          other true here =
              let home = gone.homes.home l server n there carries is whole in
              absurd (none-some home.0 (sym (ap now.clients (client_of n.client c here) ∙ none_now) ∙ home.1))

  abbrev Servers : Type 0
  Servers = (l : LinkId) (found : Option Server) → IsServerOr g now l found → IsElsewhere l (Left c) → SparesRowOr (view_on g) (Left c) found
      → IsServerOr (on g left) now l found

  pub stands_gone : Stay → Servers → Stands service (on g left) now
  stands_gone stay servers = stands_moved g left.story left.moment g.over now now service gone (record {
    rows = rows_so stay;
    there = λ n. refl;
    numbers = λ l. refl;
    servers = λ l. servers l (now.links l) (gone.servers l) (λ other named. absurd (none-some other named)) (spares_row l (now.links l) refl);
    homes = record { carried = gone.homes.carried; home = gone.homes.home };
    lawful = (gone.lawful, tt);
    prepared = are_prepared g left g.over g.fresh now now gone.clients (λ m. refl) (owns_stay {g = g} {tale = left} refl) gone.prepared (λ client seated. seated) (rows_same now now (λ n. refl));
    duly = gone.duly;
  })

-- The entry.

module _ (service : Service) (g : Ground) (t now : Tabled) (roomy : ClientNo → Bool) (log : Log) (over : ClientNo → Bool) (link : LinkId) (c : ClientNo)
    (so : PartsSo link c t now) (decided : IsDecided g nobody over) (rests : Rests service g t roomy) where
  abbrev e : Entry
  e = Closed link

  abbrev made : Tale
  made = tell (Left c) g.tale

  or_nobody : (a : Bool) → a ≡ (a || false)
  or_nobody true = refl
  or_nobody false = refl

  pub same_over : over ≡ g.over
  same_over = λ i. λ n. (decided.overs n ∙ sym (or_nobody (g.over n))) i

  told_as : told g.setup g.plan g.tale e ≡ made
  told_as = leaves_there service g t link c so.row rests.stands so.its

  still_so : (x : tales.Client) → IsStill g x → IsStill (on g made) x
  still_so x still = record { keeps = still.keeps; word = still.word }

  makes : NoneDone g.setup g.plan made → Makes g e made
  makes undone = record {
    told_as = told_as;
    moment = refl;
    rested = undone;
    still = All-weaker (IsStill g) (IsStill (on g made)) still_so g.tale.clients decided.still;
    uncalled = λ client. refl;
  }

  not_its : (x other : tales.Client) → is_client c x.number ≡ false → (is_link_id other.link link ≡ true → other.number ≡ c)
      → is_link_id other.link link ≡ true → is_client x.number other.number ≡ false
  not_its x other apart alone here = by (is_client x.number other.number) refl where
    by : (b : Bool) → is_client x.number other.number ≡ b → is_client x.number other.number ≡ false
    by false is = is
    by true is =
        absurd (true≢false (sym (client-same c x.number (sym (client_of x.number other.number is ∙ alone here))) ∙ apart))

  aside : (x : tales.Client) → is_client c x.number ≡ false → IsLostOf g.setup g.tale link x.number
  aside x apart = record {
    carried = λ server. absurd (true≢false (sym server ∙ off_server service g t link c so.row rests.stands so.its));
    theirs = All-weaker (λ (other : tales.Client). is_link_id other.link link ≡ true → other.number ≡ c)
        (λ (other : tales.Client). is_link_id other.link link ≡ true → is_client x.number other.number ≡ false)
        (λ other alone. not_its x other apart alone) g.tale.clients (alone_there service g t link c so.row rests.stands so.its);
  }

  spared : AreSpared (is_client c) g e
  spared =
      All-weaker (IsStill g) (λ (x : tales.Client). is_client c x.number ≡ false → entries.IsSpared g e x)
      (λ x still apart. record { aside = aside x apart; keeps = still.keeps }) g.tale.clients decided.still

  module _ (counting : Counting service) (testing : Testing service) (undone : NoneDone g.setup g.plan made) (stands : Stands service (on g made) now) where
    undone_then : NoneDone g.setup g.plan (counted made)
    undone_then = counted_rests service testing (on g made) now stands (counting (on g made) now stands (makes undone).still) undone

    step_is : tale_step g.setup g.plan g.tale e ≡ counted made
    step_is =
        told_alone service g t now roomy roomy e rests (of_nobody g e made (makes undone) decided.ends undone_then)
        ∙ ap counted told_as

    closed_rests : Rests service (behind g e g.over) now roomy
    closed_rests =
        rest_of_nobody service g t now roomy roomy e rests (of_nobody g e made (makes undone) decided.ends undone_then) (is_client c) tt spared
        (stands_then g e made (makes undone) decided.ends service now (counting (on g made) now) stands) (λ n other full. full)
        (λ x seated its going full.
        absurd (true≢false (sym (ap g.over (sym (client-true c x.number its))
        ∙ over_there service g t link c so.row rests.stands so.its so.over) ∙ going)))

    due_so : IsDueBehind g log e nobody over now
    due_so = record {
      writes = λ x seated. inl (unwritten e refl x.link);
      unread = λ x seated ended. refl;
      says = λ was x seated on its going. absurd (false≢true its);
      there = λ x seated its. absurd (false≢true its);
      comes = λ x seated come. absurd come;
    }

    pub closed_entered : Rests service (behind g e over) now roomy
    closed_entered = subst (λ (x : ClientNo → Bool). Rests service (behind g e x) now roomy) (sym same_over) closed_rests

    pub closed_due : IsDueBehind g log e nobody over now
    closed_due = due_so
