-- As bytes are read on a link to a server, what clients have prepared stands so: one more, where its preparation was answered and is kept.
use Rattle.std.specs.Prelude.{◌≡◌, ◌⊎◌, ◌<◌, ◌≤◌, ◌+◌, ◌-◌, ℕ, zero, suc, Bool, true, false, not, ◌&&◌, is_some, nat_eq, nat_lt, if◌then◌else◌, length, slice_get, slice_index_or, take, List, [], ◌∷◌, ◌++◌, Option, Some, None}
use Rattle.std.specs.Option.{option_map}
use Rattle.std.proofs.Common.{refl, sym, ap, ◌∙◌, subst, append-nil, arith, inl, inr}
use Rattle.std.proofs.lemmas.Bool.{false≢true, lt-ltb, ne_eqb, true≢false}
use Rattle.std.proofs.lemmas.Option.{none-some, same_Some}
use Rattle.packet_frame.specs.Packets.{Framed}
use Rattle.client_session.specs.Setups.{Setup as Service}
use Rattle.private_model.proofs.Maps.{message_is, number_of as number_same, same_message}
use Rattle.private_model.specs.Commands as commands
use Rattle.private_model.specs.Commands.{Command, Reply, is_made, is_prepare}
use Rattle.private_model.specs.Lawful.{IsLawful}
use Rattle.private_model.specs.Names.{ClientNo, LinkId, MessageName, SessionName}
use Rattle.private_model.specs.Story.{Due, Statement, is_message, message_of}
use Rattle.private_model.specs.View as view
use Rattle.log_story.specs.Clients.{is_answered}
use Rattle.log_story.specs.Executes.{prepared_by, prepared_in}
use Rattle.log_story.specs.Owed.{messages, name_of, number_of}
use Rattle.log_story.specs.Plan.{Route, com_prepare, own_at}
use Rattle.log_story.specs.Servers.{with_run}
use Rattle.log_story.specs.Tale as tales
use Rattle.log_story.specs.Tale.{Tale, is_to_server, link_in, view_of}
use Rattle.step_laws.specs.Seats.{IsSeated}
use Rattle.stmt_map.specs.Client.{Changes, fresh, statement_at}
use Rattle.stmt_map.specs.declared.client.ClientStatements.{ClientStatements}
use Rattle.stmt_map.specs.declared.statement.Statement as stmts
use Rattle.stmt_map.specs.declared.statement.Prepared.{Prepared}
use Rattle.link_state.specs.declared.asking.Purpose.{Purpose}
use Rattle.link_state.specs.declared.asking.Purpose.TheVariants as purposes
use Rattle.link_state.specs.declared.wish.Command.TheVariants as wishes
use Rattle.link_laws.specs.Stands.{Codes, IsKeyOf, IsPurpose}
use Rattle.served_link.specs.declared.news.News.{News}
use Rattle.served_link.specs.declared.row.LeftSession.{LeftSession}
use Rattle.served_link.specs.declared.row.Row.{Row}
use Rattle.run_laws.proofs.Becoming.{all_asked}
use Rattle.run_laws.specs.Becoming.{OfStage}
use Rattle.client_desk.specs.declared.work.Work.{Work}
use Rattle.client_seat.proofs.Numbering.{makes}
use Rattle.client_seat.specs.Numbers.{Numbered, number_in, numbered}
use Rattle.client_seat.specs.Seats.{is_ended}
use Rattle.client_seat.specs.Stands.{IsNumbered}
use Rattle.core_tables.specs.Preparing.{IsKeptBy, IsKeptIn}
use Rattle.core_tables.specs.Tables.{Tabled}
use Rattle.core_tables.specs.declared.client.Client.{Client}
use Rattle.core_tables.specs.declared.server.Server.{Server}
use Rattle.core_stands.specs.Clients.{IsClient, IsGoing, IsNumberedNext, IsWorking, IsWorkingOr}
use Rattle.core_stands.specs.Grounds.{Ground, known_on, on, view_on}
use Rattle.core_stands.specs.Servers.{IsReplying, IsServer}
use Rattle.core_stands.specs.Stands.{IsDuly, IsKeyedFor, IsPrepared, KnowsFirst, Stands}
use Rattle.core_laws.proofs.OfHearing.Answered.{IsReplied, IsUnreplied}
use Rattle.core_laws.proofs.OfHearing.Elsewhere.{CarriedLaw, HomedLaw}
use Rattle.core_laws.proofs.OfHearing.Laws.{DeskLaws, OthersStay}
use Rattle.core_laws.proofs.OfHearing.Parted.{over_by, parted_at}
use Rattle.core_laws.proofs.OfHearing.Preparing.{HeardOf, run_duly, run_lawful}
use Rattle.core_laws.proofs.OfHearing.Standing.{replying_so, server_is}
use Rattle.core_laws.proofs.OfPrepared.Keeping.{MakesNone, going_within, prepared_as}
use Rattle.core_laws.proofs.OfPrepared.Knowing.{none_behind, none_more, none_replied, size_of}
use Rattle.core_laws.proofs.OfPrepared.Rows.{unanswered_row, unowned, unreplied}
use Rattle.core_laws.proofs.OfWriting.Numbering.{number_routed}

-- Commands that prepare.

pub record IsPrepareOf (command : Command) : Type 0 where
  pub text : List ℕ
  pub is : command ≡ commands.Prepare text

pub prepare_of : (command : Command) → is_prepare command ≡ true → IsPrepareOf command
prepare_of (commands.Prepare text) is = record { text = text; is = refl }
prepare_of (commands.Query text) is = absurd (false≢true is)
prepare_of (commands.Run text schema settings args) is = absurd (false≢true is)
prepare_of (commands.InitDb schema) is = absurd (false≢true is)
prepare_of (commands.FieldList rest) is = absurd (false≢true is)
prepare_of (commands.SetId n) is = absurd (false≢true is)
prepare_of commands.ReadId is = absurd (false≢true is)
prepare_of commands.Reset is = absurd (false≢true is)
prepare_of commands.Quit is = absurd (false≢true is)

plain_number : (setup : view.Setup) (route : Route) (due : Due) (command : Command) → IsKeyedFor setup route due command → is_prepare command ≡ false
    → route.number ≡ 0
plain_number setup route due (commands.Prepare text) keyed plain = absurd (true≢false plain)
plain_number setup route due (commands.Run text schema settings args) keyed plain = keyed.0
plain_number setup route due (commands.Query text) keyed plain = keyed
plain_number setup route due (commands.InitDb schema) keyed plain = keyed
plain_number setup route due (commands.FieldList rest) keyed plain = keyed
plain_number setup route due (commands.SetId n) keyed plain = keyed
plain_number setup route due commands.ReadId keyed plain = keyed
plain_number setup route due commands.Reset keyed plain = keyed
plain_number setup route due commands.Quit keyed plain = keyed

-- What prepares nothing under a number.

either_none : {A : Type 0} (b : Bool) (p : A) → b ≡ false → (if b then Some p else None) ≡ None
either_none b p isnt = ap (λ (x : Bool). if x then Some p else None) isnt

and_false : (a b : Bool) → b ≡ false → (a && b) ≡ false
and_false true b isnt = isnt
and_false false b isnt = refl

none_if : (number ordinal : ℕ) (payload : List ℕ) (route : Route) (reply : Reply) → (nat_eq route.number number && is_made reply) ≡ false
    → prepared_in number ordinal payload (Some route) (Some reply) ≡ None
none_if number ordinal payload route reply isnt =
    either_none (nat_eq (slice_index_or payload 0 0) com_prepare && (nat_eq route.number number && is_made reply))
    (record { key = route.key; params = (commands.end_of reply).params; ordinal = ordinal })
    (and_false (nat_eq (slice_index_or payload 0 0) com_prepare) (nat_eq route.number number && is_made reply) isnt)

none_at : (number ordinal : ℕ) (payload : List ℕ) (at : Option Route) (replied : Option Reply) (route : Route) (reply : Reply) → at ≡ Some route
    → replied ≡ Some reply → (nat_eq route.number number && is_made reply) ≡ false → prepared_in number ordinal payload at replied ≡ None
none_at number ordinal payload at replied route reply routed is isnt =
    (λ i. prepared_in number ordinal payload (routed i) (is i)) ∙ none_if number ordinal payload route reply isnt

-- The last of so many messages.
pub record IsParted (n : ℕ) (ms : List Framed) : Type 0 where
  pub message : Framed
  pub behind : List Framed
  pub all : ms ≡ take n ms ++ (message ∷ behind)
  pub front : take (suc n) ms ≡ take n ms ++ (message ∷ [])
  pub at : slice_get ms n ≡ Some message

pub part_of : (n : ℕ) (ms : List Framed) → suc n ≤ length ms → IsParted n ms
part_of n [] within = absurd (omega (arith, within))
part_of zero (m ∷ ms) within = record { message = m; behind = ms; all = refl; front = refl; at = refl }
part_of (suc n) (m ∷ ms) within =
    let rest = part_of n ms (omega (arith, within)) in
    record {
      message = rest.message;
      behind = rest.behind;
      all = ap (λ (xs : List Framed). m ∷ xs) rest.all;
      front = ap (λ (xs : List Framed). m ∷ xs) rest.front;
      at = rest.at;
    }

-- for whom a statement is, and of which message
pub record IsStating (codes : Codes) (purpose : Purpose) (n : SessionName) (due : Due) : Type 0 where
  pub name : SessionName
  pub ordinal : ℕ
  pub key : ℕ
  pub is : purpose ≡ purposes.Statement name ordinal key
  pub names : name ≡ n
  pub counts : ordinal ≡ due.ordinal
  pub code : (text : List ℕ) → due.command ≡ commands.Prepare text → codes due.key ≡ Some key

pub stating_of : (codes : Codes) (purpose : Purpose) (n : SessionName) (due : Due) → IsPurpose codes purpose (Statement n due)
    → IsStating codes purpose n due
stating_of codes (purposes.Statement name ordinal key) n due is = record {
  name = name;
  ordinal = ordinal;
  key = key;
  is = refl;
  names = is.name;
  counts = is.ordinal;
  code = λ text same. subst (λ (command : Command). IsKeyOf codes key command due.key) same is.key;
}
stating_of codes (purposes.Prep name ordinal key) n due is = absurd is
stating_of codes (purposes.Sync name) n due is = absurd is
stating_of codes purposes.Own n due is = absurd is
stating_of codes (purposes.End name) n due is = absurd is
stating_of codes (purposes.Capture name) n due is = absurd is

module _ (laws : DeskLaws) (stay : OthersStay) (carried_law : CarriedLaw) (homed_law : HomedLaw)
    (service : Service) (g : Ground) (t : Tabled) (stands : Stands service g t) (l : LinkId) (server : Server) (there : t.links l ≡ Some server)
    (to_server : is_to_server g.tale l ≡ true) (kept : server.row.lost ≡ false) (fine : server.row.link.spoilt ≡ false)
    (T : Tale) (moment : T.moment ≡ g.tale.moment) where
  abbrev after : Ground
  after = on g T

  own_then : (m : MessageName) → is_some (own_at g.plan T.moment m) ≡ true → is_some (own_at g.plan g.tale.moment m) ≡ true
  own_then m own = ap (λ (n : ℕ). is_some (own_at g.plan n m)) (sym moment) ∙ own

  abbrev its_server : IsServer g t l server.row
  its_server = server_is laws stay carried_law homed_law service g t stands l server there to_server kept fine

  -- where no reply was read, all stands as it did
  pub unreplied_prepared : (told_news : News) → IsUnreplied g T told_news → (client : tales.Client) → IsSeated g.tale client → (row : Client)
      → (of : HeardOf (t.clients client.number) row) → is_ended of.old.desk.seat.phase ≡ false → IsClient g client of.old → IsGoing g client of.old
      → IsPrepared after client row
  unreplied_prepared told_news says client sits row of on was goes =
      prepared_as g T g.over g.fresh client client of.old row (record {
        number = refl;
        taken = refl;
        more = [];
        all = sym (append-nil (messages g.plan client));
        earlier = λ k below. says.replies (name_of client k);
        stays = λ k reply within replied. says.replies (name_of client k) ∙ replied;
        statements = of.statements;
        answered = λ answers. by of.old.desk.seat.answered refl;
        unserved = λ k some below own.
            says.replies (name_of client k)
            ∙ (stands.prepared client sits of.old of.there on).unserved k some below (own_then (name_of client k) own);
      }) (going_within g client of.old was on) (stands.prepared client sits of.old of.there on) where
        by : (answered : Bool) → of.old.desk.seat.answered ≡ answered
            → ((of.old.desk.seat.answered ≡ true) × ((view_of g.setup T).replies (name_of client client.taken) ≡ (view_on g).replies (name_of client client.taken)))
            ⊎ MakesNone (view_of g.setup T) g.plan client
        by true at = inl (at, says.replies (name_of client client.taken))
        by false at =
            inr (λ number payload some.
            none_replied number client.taken payload (g.plan.routes (name_of client client.taken)) ((view_of g.setup T).replies (name_of client client.taken))
            (says.replies (name_of client client.taken) ∙ unanswered_row g client of.old goes at))

  module _ (new : Row) (told_news : News) (is : IsReplied g l server.row.link.state.stage server.row.left T new told_news) where
    duly : IsDuly g.setup g.plan is.n is.due
    duly =
        subst (OfStage (IsDuly g.setup g.plan)) is.stood
        (all_asked g.setup (IsDuly g.setup g.plan) (with_run g.setup l g.tale).story (run_lawful g l (link_in g.setup g.tale l).stage stands.lawful)
        (run_duly g l (link_in g.setup g.tale l).stage stands.duly) l)

    pub stating : IsStating g.codes is.asking.purpose is.n is.due
    stating = stating_of g.codes is.asking.purpose is.n is.due is.is.purpose

    same_or : (m : MessageName) → ((view_of g.setup T).replies m ≡ (view_on g).replies m) ⊎ (m ≡ message_of is.n is.due)
    same_or m = by (is_message m (message_of is.n is.due)) refl where
      by : (b : Bool) → is_message m (message_of is.n is.due) ≡ b → ((view_of g.setup T).replies m ≡ (view_on g).replies m) ⊎ (m ≡ message_of is.n is.due)
      by true at = inr (message_is m (message_of is.n is.due) at)
      by false at = inl (is.replies m ∙ ap (λ (b : Bool). if b then Some is.reply else (view_on g).replies m) at)

    replied_now : (view_of g.setup T).replies (message_of is.n is.due) ≡ Some is.reply
    replied_now =
        is.replies (message_of is.n is.due)
        ∙ ap (λ (b : Bool). if b then Some is.reply else (view_on g).replies (message_of is.n is.due)) (same_message (message_of is.n is.due))

    -- It is the last message of a client that goes on, its statement in work.
    pub record IsLast (client : tales.Client) (row : Client) (k : ℕ) : Type 0 where
      pub last : k ≡ client.taken
      pub mine : server.row.left ≡ None
      pub unreplied : (view_on g).replies (name_of client client.taken) ≡ None
      pub named : name_of client client.taken ≡ message_of is.n is.due
      pub work : Work
      pub in_work : row.desk.work ≡ Some work
      pub working : IsWorking g client row work

    module _ (client : tales.Client) (row : Client) (at : t.clients client.number ≡ Some row) (goes : IsGoing g client row) (k : ℕ)
        (named : name_of client k ≡ message_of is.n is.due) where
      client_is : client.number ≡ is.n.client
      client_is = ap (λ (m : MessageName). m.client) named

      counted : k ≡ is.due.ordinal
      counted = ap (λ (m : MessageName). m.ordinal) named

      mine_so : server.row.left ≡ None → IsLast client row k
      mine_so none =
          let replying : IsReplying g t l server.row is.asking stating.name stating.ordinal =
          replying_so laws stay carried_law homed_law service g t stands l server there to_server kept fine none is.asking stating.name stating.ordinal
          stating.key is.asks stating.is in
          let one : row ≡ replying.client =
          same_Some row replying.client (sym at ∙ ap t.clients (client_is ∙ ap (λ (x : SessionName). x.client) (sym stating.names)) ∙ replying.there) in
          let in_work : row.desk.work ≡ Some replying.work = ap (λ (r : Client). r.desk.work) one ∙ replying.in_work in
          let working = subst (IsWorkingOr g client row) in_work goes.working in
          let last : k ≡ client.taken = counted ∙ sym stating.counts ∙ sym replying.last ∙ working.last in
          record {
            last = last;
            mine = none;
            unreplied = unreplied g client row goes (ap is_some in_work);
            named = ap (λ (i : ℕ). name_of client i) (sym last) ∙ named;
            work = replying.work;
            in_work = in_work;
            working = working;
          }

      theirs : (left : LeftSession) → server.row.left ≡ Some left → IsLast client row k
      theirs left some =
          let parted = parted_at g server.row.link.state.stage is.asking is.asks (its_server.parted fine kept (ap is_some some)) in
          let over : g.over is.n.client ≡ true = over_by g is.asking.purpose (Statement is.n is.due) is.is.purpose parted is.n is.due refl in
          absurd (true≢false (sym over ∙ ap g.over (sym client_is) ∙ goes.going))

      pub last_so : IsLast client row k
      last_so = by server.row.left refl where
        by : (left : Option LeftSession) → server.row.left ≡ left → IsLast client row k
        by None none = mine_so none
        by (Some left) some = theirs left some

    module _ (client : tales.Client) (sits : IsSeated g.tale client) (row : Client) (of : HeardOf (t.clients client.number) row)
        (on : is_ended of.old.desk.seat.phase ≡ false) (was : IsClient g client of.old) (goes : IsGoing g client of.old) where
      abbrev seen_now : view.View
      seen_now = view_of g.setup T

      last_at : (k : ℕ) → name_of client k ≡ message_of is.n is.due → IsLast client of.old k
      last_at k named = last_so client of.old of.there goes k named

      earlier : (k : ℕ) → k < client.taken → seen_now.replies (name_of client k) ≡ (view_on g).replies (name_of client k)
      earlier k below = elim (same_or (name_of client k)) [
        | inl same ↦ same
        | inr named ↦ absurd (let last = last_at k named in omega (arith, below, last.last))
      ]

      stays : (k : ℕ) (reply : Reply) → k ≤ client.taken → (view_on g).replies (name_of client k) ≡ Some reply
          → seen_now.replies (name_of client k) ≡ Some reply
      stays k reply within replied = elim (same_or (name_of client k)) [
        | inl same ↦ same ∙ replied
        | inr named ↦ (let last = last_at k named in
            absurd (none-some reply (sym last.unreplied ∙ ap (λ (i : ℕ). (view_on g).replies (name_of client i)) (sym last.last) ∙ replied)))
      ]

      unserved : (k : ℕ) → 0 < k → k ≤ client.taken → is_some (own_at g.plan T.moment (name_of client k)) ≡ true
          → seen_now.replies (name_of client k) ≡ None
      unserved k some below own = elim (same_or (name_of client k)) [
        | inl same ↦ same ∙ (stands.prepared client sits of.old of.there on).unserved k some below (own_then (name_of client k) own)
        | inr named ↦ absurd (let last = last_at k named in
            true≢false (sym (own_then (name_of client k) own) ∙ ap (λ (i : ℕ). is_some (own_at g.plan g.tale.moment (name_of client i))) last.last
            ∙ unowned g client of.old goes (ap is_some last.in_work)))
      ]

      -- It prepared nothing, or it isn't this client's.

      abbrev Answers : Type 0
      Answers =
          ((of.old.desk.seat.answered ≡ true) × (seen_now.replies (name_of client client.taken) ≡ (view_on g).replies (name_of client client.taken)))
          ⊎ MakesNone seen_now g.plan client

      by_old : seen_now.replies (name_of client client.taken) ≡ (view_on g).replies (name_of client client.taken)
          → (answered : Bool) → of.old.desk.seat.answered ≡ answered → Answers
      by_old same true at = inl (at, same)
      by_old same false at =
          inr (λ number payload some.
          none_replied number client.taken payload (g.plan.routes (name_of client client.taken)) (seen_now.replies (name_of client client.taken))
          (same ∙ unanswered_row g client of.old goes at))

      unnumbered_or : (prepares : Bool) → is_prepare is.due.command ≡ prepares → (prepares && is_made is.reply) ≡ false → (number : ℕ) → 0 < number
          → (nat_eq duly.route.number number && is_made is.reply) ≡ false
      unnumbered_or true at none number some = and_false (nat_eq duly.route.number number) (is_made is.reply) none
      unnumbered_or false at none number some =
          let zero_is : duly.route.number ≡ 0 = plain_number g.setup duly.route is.due is.due.command duly.keyed at in
          ap (λ (b : Bool). b && is_made is.reply) (ne_eqb duly.route.number number (λ same. omega (arith, same, zero_is, some)))

      none_made : name_of client client.taken ≡ message_of is.n is.due → (is_prepare is.due.command && is_made is.reply) ≡ false
          → MakesNone seen_now g.plan client
      none_made named none number payload some =
          none_at number client.taken payload (g.plan.routes (name_of client client.taken)) (seen_now.replies (name_of client client.taken)) duly.route is.reply
          (ap g.plan.routes named ∙ duly.routed) (ap seen_now.replies named ∙ replied_now)
          (unnumbered_or (is_prepare is.due.command) refl none number some)

      pub unmade_prepared : (name_of client client.taken ≡ message_of is.n is.due → (is_prepare is.due.command && is_made is.reply) ≡ false)
          → IsPrepared after client row
      unmade_prepared none =
          prepared_as g T g.over g.fresh client client of.old row (record {
            number = refl;
            taken = refl;
            more = [];
            all = sym (append-nil (messages g.plan client));
            earlier = earlier;
            stays = stays;
            statements = of.statements;
            answered = λ answers. elim (same_or (name_of client client.taken)) [
              | inl same ↦ by_old same of.old.desk.seat.answered refl
              | inr named ↦ inr (none_made named (none named))
            ];
            unserved = unserved;
          }) (going_within g client of.old was on) (stands.prepared client sits of.old of.there on)

      -- It prepared its text, which is kept under the next number.

      module _ (named : name_of client client.taken ≡ message_of is.n is.due) (text : List ℕ) (command : is.due.command ≡ commands.Prepare text)
          (made : is_made is.reply ≡ true) (prepared : Prepared) (key : prepared.key ≡ is.due.key)
          (params : (commands.end_of is.reply).params ≡ prepared.params) (hostgroup : is.n.hostgroup ≡ prepared.hostgroup)
          (multiplex : is.due.multiplex ≡ prepared.multiplex)
          (s : ClientStatements) (keeps : IsKeptIn prepared of.old.desk.seat.statements s) where
        abbrev old : ClientStatements
        old = of.old.desk.seat.statements

        last : IsLast client of.old client.taken
        last = last_at client.taken named

        keyed : IsKeyedFor g.setup duly.route is.due (commands.Prepare text)
        keyed = subst (IsKeyedFor g.setup duly.route is.due) command duly.keyed

        routed : g.plan.routes (name_of client client.taken) ≡ Some duly.route
        routed = ap g.plan.routes named ∙ duly.routed

        number_is : number_of g.plan (name_of client last.work.ordinal) ≡ duly.route.number
        number_is =
            ap (λ (i : ℕ). number_of g.plan (name_of client i)) last.working.last
            ∙ number_routed g.plan (name_of client client.taken) duly.route routed

        numbered_some : 0 < number_of g.plan (name_of client last.work.ordinal)
        numbered_some = (let some : 0 < duly.route.number = keyed.1.1 in omega (arith, some, number_is))

        prepares : last.work.command ≡ wishes.Prepare
        prepares = last.working.only numbered_some

        next : IsNumberedNext g client of.old last.work
        next = last.working.number prepares

        number_next : duly.route.number ≡ old.last + 1
        number_next = sym number_is ∙ next.0

        kept_so : (s.last ≡ old.last + 1) × Changes old s (old.last + 1) (Some (fresh prepared))
        kept_so = subst (λ (b : Bool). IsKeptBy b prepared old s) (lt-ltb old.last 4294967295 next.1) keeps

        within : client.taken ≤ length (messages g.plan client)
        within = going_within g client of.old was on

        -- what stood before

        abbrev unanswered : Client
        unanswered = record of.old { desk = record of.old.desk { seat = record of.old.desk.seat { answered = false } } }

        before : IsPrepared after client unanswered
        before =
            prepared_as g T g.over g.fresh client client of.old unanswered (record {
              number = refl;
              taken = refl;
              more = [];
              all = sym (append-nil (messages g.plan client));
              earlier = earlier;
              stays = stays;
              statements = refl;
              answered = λ answers. absurd (false≢true answers);
              unserved = unserved;
            }) within (stands.prepared client sits of.old of.there on)

        unused : (number : ℕ) → old.last < number → prepared_by seen_now g.plan client number 1 (take (client.taken - 1) (messages g.plan client)) ≡ None
        unused = before.unused

        -- the message that prepared it

        record IsMore : Type 0 where
          k : ℕ
          count : client.taken ≡ suc k

        not_answered : of.old.desk.seat.answered ≡ false
        not_answered = by of.old.desk.seat.answered (ap is_some (sym last.in_work) ∙ goes.busy) where
          by : (answered : Bool) → true ≡ not answered → answered ≡ false
          by true busy = absurd (true≢false busy)
          by false busy = refl

        more : (taken : ℕ) → client.taken ≡ taken → IsMore
        more zero same =
            absurd (true≢false (ap (is_answered g.plan g.tale (view_on g) client) (sym same) ∙ sym goes.answered ∙ not_answered))
        more (suc k) same = record { k = k; count = same }

        some_more : IsMore
        some_more = more client.taken refl

        part : IsParted some_more.k (messages g.plan client)
        part = part_of some_more.k (messages g.plan client) (let count = some_more.count in omega (arith, count, within))

        before_is : client.taken - 1 ≡ some_more.k
        before_is = (let count = some_more.count in omega (arith, count))

        size : length (take some_more.k (messages g.plan client)) ≡ some_more.k
        size = size_of some_more.k (messages g.plan client) (let count = some_more.count in omega (arith, count, within))

        place : 1 + length (take some_more.k (messages g.plan client)) ≡ client.taken
        place = (let count = some_more.count in omega (arith, count, size))

        unused_front : (number : ℕ) → old.last < number → prepared_by seen_now g.plan client number 1 (take some_more.k (messages g.plan client)) ≡ None
        unused_front number greater =
            subst (λ (n : ℕ). prepared_by seen_now g.plan client number 1 (take n (messages g.plan client)) ≡ None) before_is (unused number greater)

        -- it prepared nothing under another number
        other_number : (number : ℕ) → old.last + 1 < number → (nat_eq duly.route.number number && is_made is.reply) ≡ false
        other_number number greater =
            ap (λ (b : Bool). b && is_made is.reply) (ne_eqb duly.route.number number (λ same. omega (arith, same, number_next, greater)))

        kept_none : (number : ℕ) → old.last + 1 < number
            → prepared_by seen_now g.plan client number 1 (take client.taken (messages g.plan client)) ≡ None
        kept_none number greater =
            (λ i. prepared_by seen_now g.plan client number 1 (take (some_more.count i) (messages g.plan client)))
            ∙ ap (prepared_by seen_now g.plan client number 1) part.front
            ∙ none_more seen_now g.plan client number 1 (take some_more.k (messages g.plan client)) part.message (unused_front number (omega (arith, greater)))
            (subst (λ (k : ℕ). prepared_in number k part.message.payload (g.plan.routes (name_of client k)) (seen_now.replies (name_of client k)) ≡ None)
            (sym place)
            (none_at number client.taken part.message.payload (g.plan.routes (name_of client client.taken)) (seen_now.replies (name_of client client.taken))
            duly.route is.reply routed (ap seen_now.replies named ∙ replied_now) (other_number number greater)))

        own : (number : ℕ) → nat_eq (old.last + 1) number ≡ true → IsNumbered (known_on after) client (λ (k : ℕ). k) number (numbered (fresh prepared))
        own number here = makes (known_on after) client (λ (k : ℕ). k) number (numbered (fresh prepared)) (record {
          before = take some_more.k (messages g.plan client);
          message = part.message;
          behind = part.behind;
          all = part.all;
          place = place;
          within = within;
          first = unused_front number (let same = number_same (old.last + 1) number here in omega (arith, same));
          route = duly.route;
          routed = routed;
          reply = is.reply;
          replied = ap seen_now.replies named ∙ replied_now;
          prepares = last.working.prepares prepares part.message
              (ap (slice_get (messages g.plan client)) before_is ∙ part.at);
          under = ap (λ (n : ℕ). nat_eq n number) number_next ∙ here;
          made = made;
          key = keyed.0 ∙ sym key;
          params = params;
          hostgroup = duly.hostgroup ∙ hostgroup;
          multiplex = duly.multiplex ∙ multiplex;
          unbound = refl;
        })

        own_there : (number : ℕ) → nat_eq (old.last + 1) number ≡ true → is_some (number_in s number) ≡ true
        own_there number here =
            ap (λ (o : Option stmts.Statement). is_some (option_map numbered o))
            (ap (statement_at s) (sym (number_same (old.last + 1) number here)) ∙ kept_so.1.same)

        each : (number : ℕ) (one : Numbered) → number_in s number ≡ Some one → IsNumbered (known_on after) client (λ (k : ℕ). k) number one
        each number one at = by (nat_eq (old.last + 1) number) refl where
          by : (b : Bool) → nat_eq (old.last + 1) number ≡ b → IsNumbered (known_on after) client (λ (k : ℕ). k) number one
          by true here =
              let it : Some (numbered (fresh prepared)) ≡ Some one =
              ap (option_map numbered) (sym (ap (statement_at s) (sym (number_same (old.last + 1) number here)) ∙ kept_so.1.same)) ∙ at in
              subst (λ (x : Numbered). IsNumbered (known_on after) client (λ (k : ℕ). k) number x)
              (same_Some (numbered (fresh prepared)) one it) (own number here)
          by false other = before.each number one (ap (option_map numbered) (sym (kept_so.1.others number other)) ∙ at)

        -- what the client knows stands there, and what it prepared now does too

        stays_kept : (number : ℕ) → is_some (number_in old number) ≡ true → is_some (number_in s number) ≡ true
        stays_kept number was = by (nat_eq (old.last + 1) number) refl where
          by : (b : Bool) → nat_eq (old.last + 1) number ≡ b → is_some (number_in s number) ≡ true
          by true here = own_there number here
          by false other = ap (λ (o : Option stmts.Statement). is_some (option_map numbered o)) (kept_so.1.others number other) ∙ was

        known_now : KnowsFirst seen_now g.plan client s (client.taken - 1)
        known_now number p some has kept = stays_kept number (before.known number p some has kept)

        stands_now : KnowsFirst seen_now g.plan client s client.taken
        stands_now number p some has kept = by (nat_eq (old.last + 1) number) refl where
          unnumbered : nat_eq (old.last + 1) number ≡ false → (nat_eq duly.route.number number && is_made is.reply) ≡ false
          unnumbered other = ap (λ (b : Bool). b && is_made is.reply) (ap (λ (n : ℕ). nat_eq n number) number_next ∙ other)

          front : nat_eq (old.last + 1) number ≡ false
              → prepared_by seen_now g.plan client number 1 (take client.taken (messages g.plan client))
              ≡ prepared_by seen_now g.plan client number 1 (take (client.taken - 1) (messages g.plan client))
          front other =
              (λ i. prepared_by seen_now g.plan client number 1 (take (some_more.count i) (messages g.plan client)))
              ∙ ap (prepared_by seen_now g.plan client number 1) part.front
              ∙ none_behind seen_now g.plan client number 1 (take some_more.k (messages g.plan client)) part.message
              (subst (λ (k : ℕ). prepared_in number k part.message.payload (g.plan.routes (name_of client k)) (seen_now.replies (name_of client k)) ≡ None)
              (sym place)
              (none_at number client.taken part.message.payload (g.plan.routes (name_of client client.taken)) (seen_now.replies (name_of client client.taken))
              duly.route is.reply routed (ap seen_now.replies named ∙ replied_now) (unnumbered other)))
              ∙ ap (λ (n : ℕ). prepared_by seen_now g.plan client number 1 (take n (messages g.plan client))) (sym before_is)

          by : (b : Bool) → nat_eq (old.last + 1) number ≡ b → is_some (number_in s number) ≡ true
          by true here = own_there number here
          by false other = known_now number p some (sym (front other) ∙ has) kept

        pub made_prepared : (now : Client) → now.desk.seat.statements ≡ s → IsPrepared after client now
        made_prepared now same = record {
          each = λ number one at. each number one (ap (λ (x : ClientStatements). number_in x number) (sym same) ∙ at);
          unused = λ number greater. unused number (let past = over number greater in omega (arith, past));
          kept = λ answered number greater. kept_none number (over number greater);
          known = subst (λ (x : ClientStatements). KnowsFirst seen_now g.plan client x (client.taken - 1)) (sym same) known_now;
          stands = λ answered. subst (λ (x : ClientStatements). KnowsFirst seen_now g.plan client x client.taken) (sym same) stands_now;
          unserved = unserved;
        } where
          over : (number : ℕ) → now.desk.seat.statements.last < number → old.last + 1 < number
          over number greater = (let count = ap (λ (x : ClientStatements). x.last) same ∙ kept_so.0 in omega (arith, count, greater))
