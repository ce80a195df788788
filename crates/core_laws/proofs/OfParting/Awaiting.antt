-- Whether the router answered itself what a link was lent for is seen at its client's desk.
use Rattle.std.specs.Prelude.{◌≡◌, ◌⊎◌, ◌<◌, ℕ, zero, suc, Bool, true, false, not, ◌&&◌, ◌||◌, is_some, Option, Some, None}
use Rattle.std.specs.Option.{option_map_or}
use Rattle.std.proofs.Common.{refl, sym, ap, ◌∙◌, subst, arith, inl, inr}
use Rattle.std.proofs.lemmas.Bool.{false≢true, true≢false}
use Rattle.std.proofs.lemmas.Option.{none-some, same_Some}
use Rattle.mx_base.specs.declared.names.LinkId.{LinkId}
use Rattle.client_session.specs.Setups.{Setup as Service}
use Rattle.private_model.proofs.Maps.{name_of as name_is, same_name}
use Rattle.private_model.specs.Names.{MessageName, SessionName}
use Rattle.private_model.specs.Story.{Due, is_name, message_of}
use Rattle.private_model.specs.View.{View, present}
use Rattle.log_story.specs.Clients.{is_answered}
use Rattle.log_story.specs.Owed.{name_of as message_named}
use Rattle.log_story.specs.Plan.{own_at}
use Rattle.log_story.specs.Servers.{is_given_up}
use Rattle.log_story.specs.Tale as tales
use Rattle.client_desk.specs.Desks.{name_of, session_of}
use Rattle.client_desk.specs.declared.work.Work.{Work}
use Rattle.client_seat.specs.Seats.{is_ended}
use Rattle.desk_laws.specs.Stands.{IsDueEarlier, IsOut, IsSentOrNot, IsUnsent, IsWork, IsWorkOr, message_at}
use Rattle.row_laws.specs.Whose.{name_in}
use Rattle.core_tables.specs.Parting.{is_given_up as is_given_up_at, waits_in}
use Rattle.core_tables.specs.Tables.{Tabled}
use Rattle.core_tables.specs.declared.client.Client.{Client}
use Rattle.core_tables.specs.declared.server.Server.{Server}
use Rattle.core_stands.specs.Clients.{IsClient, IsGoing, IsPhase, IsWorking, IsWorkingOr}
use Rattle.core_stands.specs.Grounds.{Ground, view_on}
use Rattle.core_stands.specs.Servers.{IsAhead}
use Rattle.core_stands.specs.Stands.{Stands}
use Rattle.core_laws.proofs.OfEntry.Replies.{story_once}
use Rattle.core_laws.proofs.OfParting.Same.{known_so}

-- an ordinal is the last one, or an earlier
order : (a b : ℕ) → a < suc b → (a ≡ b) ⊎ (a < b)
order zero zero below = inl refl
order zero (suc b) below = inr (omega arith)
order (suc a) zero below = absurd (omega (arith, below))
order (suc a) (suc b) below = by (order a b (omega (arith, below))) where
  by : (a ≡ b) ⊎ (a < b) → (suc a ≡ suc b) ⊎ (suc a < suc b)
  by (inl is) = inl (ap suc is)
  by (inr is) = inr (omega (arith, is))

left_none : (a b : Bool) → b ≡ false → (a || b) ≡ true → a ≡ true
left_none true b none is = refl
left_none false b none is = absurd (false≢true (sym none ∙ is))

module _ (g : Ground) (client : tales.Client) (row : Client) (is : IsClient g client row) (goes : IsGoing g client row)
    (once : (m : MessageName) → (view_on g).carriers m ≡ None → (view_on g).replies m ≡ None) (n : SessionName) (its : n.client ≡ client.number) (due : Due)
    (there : (view_on g).dues n ≡ Some due) where
  abbrev view : View
  view = view_on g

  earlier : IsDueEarlier view.dues view.carriers (suc client.taken) n due
  earlier = is.coming.due n due its there

  message_is : message_of n due ≡ message_named client due.ordinal
  message_is = λ i. record { client = its i; ordinal = due.ordinal }

  unreplied : view.replies (message_named client due.ordinal) ≡ None
  unreplied = ap view.replies (sym message_is) ∙ once (message_of n due) earlier.unsent

  own_by : (ordinal : ℕ) → 0 < ordinal → is_answered g.plan g.tale view client ordinal ≡ true → view.replies (message_named client ordinal) ≡ None
      → is_some (own_at g.plan g.tale.moment (message_named client ordinal)) ≡ true
  own_by zero some answered none = absurd (omega (arith, some))
  own_by (suc ordinal) some answered none =
      left_none (is_some (own_at g.plan g.tale.moment (message_named client (suc ordinal)))) (is_some (view.replies (message_named client (suc ordinal))))
      (ap is_some none) answered

  abbrev GivenUp : Type 0
  GivenUp = is_some (own_at g.plan g.tale.moment (message_of n due)) ≡ true

  own_so : is_answered g.plan g.tale view client due.ordinal ≡ true → GivenUp
  own_so answered =
      ap (λ (m : MessageName). is_some (own_at g.plan g.tale.moment m)) message_is ∙ own_by due.ordinal earlier.some answered unreplied

  -- an earlier one is answered
  before : due.ordinal < client.taken → GivenUp
  before less = own_so (goes.earlier due.ordinal less)

  -- nothing is in work
  idle : row.desk.work ≡ None → GivenUp
  idle none = by (order due.ordinal client.taken earlier.earlier) where
    answered : is_answered g.plan g.tale view client client.taken ≡ true
    answered = sym goes.answered ∙ not_false row.desk.seat.answered (sym goes.busy ∙ ap is_some none) where
      not_false : (b : Bool) → not b ≡ false → b ≡ true
      not_false true is = refl
      not_false false is = absurd (true≢false is)

    by : (due.ordinal ≡ client.taken) ⊎ (due.ordinal < client.taken) → GivenUp
    by (inr less) = before less
    by (inl same) = own_so (ap (is_answered g.plan g.tale view client) same ∙ answered)

  module _ (work : Work) (in_work : row.desk.work ≡ Some work) where
    working : IsWorking g client row work
    working = subst (λ (w : Option Work). IsWorkingOr g client row w) in_work goes.working

    works : IsWork g.setup.reads view client.number row.desk.seat.place work
    works = subst (λ (w : Option Work). IsWorkOr g.setup.reads view client.number row.desk.seat.place w) in_work is.desk.work

    at_work : due.ordinal ≡ client.taken → message_of n due ≡ message_at client.number work.ordinal
    at_work same = message_is ∙ ap (message_named client) (same ∙ sym working.last)

    -- it was sent, so what is due isn't it
    was_sent : work.sent ≡ true → GivenUp
    was_sent sent = by (order due.ordinal client.taken earlier.earlier) where
      out : IsOut view client.number work
      out = subst (λ (b : Bool). IsSentOrNot b g.setup.reads view client.number row.desk.seat.place work) sent works.sent_or_not

      by : (due.ordinal ≡ client.taken) ⊎ (due.ordinal < client.taken) → GivenUp
      by (inr less) = before less
      by (inl same) = absurd (none-some out.link (sym earlier.unsent ∙ ap view.carriers (at_work same) ∙ out.carrier))

    module _ (unsent : work.sent ≡ false) where
      waits : IsUnsent g.setup.reads view client.number row.desk.seat.place work
      waits = subst (λ (b : Bool). IsSentOrNot b g.setup.reads view client.number row.desk.seat.place work) unsent works.sent_or_not

      present_is : present view client.number work.hostgroup ≡ name_of row.desk work.hostgroup
      present_is = λ i. record {
        client = sym is.desk.number i;
        hostgroup = work.hostgroup;
        life = (is.desk.sessions.each work.hostgroup).life i;
      }

      last : waits.due.ordinal ≡ client.taken
      last = waits.as_due.request.ordinal_is ∙ working.last

      -- of another session
      not_its : is_name n (name_of row.desk work.hostgroup) ≡ false → GivenUp
      not_its apart = by (order due.ordinal client.taken earlier.earlier) where
        by : (due.ordinal ≡ client.taken) ⊎ (due.ordinal < client.taken) → GivenUp
        by (inr less) = before less
        by (inl same) =
            let one : present view client.number work.hostgroup ≡ n =
            earlier.alone (present view client.number work.hostgroup) waits.due (sym its) waits.is_due (last ∙ sym same) in
            absurd (true≢false (sym (same_name n) ∙ ap (is_name n) (sym one ∙ present_is) ∙ apart))

      -- it is what is due
      its_own : is_name n (name_of row.desk work.hostgroup) ≡ true → is_some (own_at g.plan g.tale.moment (message_of n due)) ≡ false
      its_own same =
          let one : n ≡ present view client.number work.hostgroup = name_is n (name_of row.desk work.hostgroup) same ∙ sym present_is in
          let here : due ≡ waits.due = same_Some due waits.due (sym there ∙ ap view.dues one ∙ waits.is_due) in
          let ordinal : due.ordinal ≡ client.taken = ap (λ (d : Due). d.ordinal) here ∙ last in
          ap (λ (m : MessageName). is_some (own_at g.plan g.tale.moment m)) (message_is ∙ ap (message_named client) ordinal)
          ∙ unanswered client.taken (sym goes.answered ∙ not_true row.desk.seat.answered (sym goes.busy ∙ ap is_some in_work)) where
            not_true : (b : Bool) → not b ≡ true → b ≡ false
            not_true true is = absurd (false≢true is)
            not_true false is = refl

            or_none : (a b : Bool) → (a || b) ≡ false → a ≡ false
            or_none true b is = absurd (true≢false is)
            or_none false b is = refl

            unanswered : (ordinal : ℕ) → is_answered g.plan g.tale view client ordinal ≡ false
                → is_some (own_at g.plan g.tale.moment (message_named client ordinal)) ≡ false
            unanswered zero open_yet = absurd (true≢false open_yet)
            unanswered (suc k) open_yet = or_none (is_some (own_at g.plan g.tale.moment (message_named client (suc k)))) _ open_yet

      by_name : (b : Bool) → is_name n (name_of row.desk work.hostgroup) ≡ b → is_some (own_at g.plan g.tale.moment (message_of n due)) ≡ not b
      by_name true same = its_own same
      by_name false apart = not_its apart

    by_sent : (sent : Bool) → work.sent ≡ sent
        → is_some (own_at g.plan g.tale.moment (message_of n due)) ≡ not (not sent && is_name n (name_of row.desk work.hostgroup))
    by_sent true sent = was_sent sent
    by_sent false unsent = by_name unsent (is_name n (name_of row.desk work.hostgroup)) refl

    in_it : is_some (own_at g.plan g.tale.moment (message_of n due)) ≡ not (waits_in n row.desk work)
    in_it = by_sent work.sent refl

  pub given_as : is_some (own_at g.plan g.tale.moment (message_of n due)) ≡ is_given_up_at n (Some row)
  given_as = by row.desk.work refl where
    by : (work : Option Work) → row.desk.work ≡ work
        → is_some (own_at g.plan g.tale.moment (message_of n due)) ≡ not (option_map_or (waits_in n row.desk) work false)
    by None none = idle none
    by (Some work) some = in_it work some

module _ (service : Service) (g : Ground) (t : Tabled) (l : LinkId) (is : Stands service g t) (server : Server) (there : t.links l ≡ Some server) (n : SessionName)
    (carries : name_in server.row.link.state.carries ≡ Some n) (whole : server.row.lost ≡ false) (mine : server.row.left ≡ None) where
  going_by : (ended : Bool) (client : tales.Client) (row : Client) → (session_of row.desk n.hostgroup).home ≡ Some l → IsPhase ended g client row
      → IsGoing g client row
  going_by true client row home over = absurd (none-some l (sym (over.homeless n.hostgroup) ∙ home))
  going_by false client row home goes = goes

  pub given_up_so : IsAhead (view_on g) n → is_given_up g.plan g.tale.moment n ((view_on g).dues n) ≡ is_given_up_at n (t.clients n.client)
  given_up_so ahead = by ((view_on g).dues n) refl ahead where
    by : (found : Option Due) → (view_on g).dues n ≡ found → is_some found ≡ true
        → is_given_up g.plan g.tale.moment n found ≡ is_given_up_at n (t.clients n.client)
    by None none some = absurd (false≢true some)
    by (Some due) at some =
        let homes = is.homes.home l server n there carries mine whole in
        let known = known_so service g t n.client homes.0 is homes.1 in
        given_as g known.0 homes.0 known.2 (going_by (is_ended homes.0.desk.seat.phase) known.0 homes.0 homes.2 known.2.phase)
        (story_once g.setup g.tale.story is.lawful).unsent n (sym known.1.number) due at
        ∙ ap (is_given_up_at n) (sym homes.1)
