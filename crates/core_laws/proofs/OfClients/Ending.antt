-- A client that goes on is ended with no last word; and bytes of one that ended are as good as looked at.
use Rattle.std.specs.Prelude.{◌≡◌, ◌≤◌, ◌++◌, ℕ, Bool, true, false, not, ◌&&◌, All, is_some, List, [], Option, Some, None}
use Rattle.std.proofs.Common.{refl, sym, ap, ◌∙◌, subst, arith, append-nil}
use Rattle.std.proofs.lemmas.Bool.{true≢false}
use Rattle.std.proofs.lemmas.List.Elements.{All-weaker}
use Rattle.std.proofs.lemmas.Option.{none-some}
use Rattle.client_session.specs.Setups.{Setup as Service}
use Rattle.private_model.specs.Names.{ClientNo}
use Rattle.private_model.specs.Story.{Left, is_client}
use Rattle.log_story.specs.Plan.{LastWord, word_at}
use Rattle.log_story.specs.Honest.{IsFront}
use Rattle.log_story.specs.Owed.{due_bytes}
use Rattle.log_story.specs.Tale as tales
use Rattle.log_story.specs.Tale.{tell}
use Rattle.client_seat.specs.Seats.{ended, is_ended}
use Rattle.client_seat.specs.Stands.{IsWrittenOf, Known, due_so_far}
use Rattle.client_seat.specs.declared.phase.Phase.{Phase}
use Rattle.client_seat.specs.declared.phase.Phase.TheVariants as phase
use Rattle.step_laws.specs.Seats.{IsSeated}
use Rattle.core_tables.specs.Tables.{Tabled}
use Rattle.core_tables.specs.declared.client.Client.{Client}
use Rattle.core_stands.specs.Clients.{IsClient, IsClientOr, IsFrontOf, IsOver, IsOwing, IsPhase}
use Rattle.core_stands.specs.Grounds.{Ground, known_on, looked_at, on, view_on}
use Rattle.core_stands.specs.Stands.{IsAt, Stands}
use Rattle.core_laws.specs.parting.Partings.{IsEnding, IsLeaving}
use Rattle.core_laws.proofs.OfArrival.Changing.{stands-told}
use Rattle.core_laws.proofs.OfArrival.Finding.{client-true, false-true, map-itself}
use Rattle.core_laws.proofs.OfArrival.Grounding.{Aside, regrounded}
use Rattle.core_laws.proofs.OfArrival.Liking.{client-before}
use Rattle.core_laws.proofs.OfArrival.Messaging.{looking, unfresh}
use Rattle.core_laws.proofs.OfEntry.Parting.{ends_grow, row_within}
use Rattle.core_laws.specs.entry.Dues.{Continues}
use Rattle.core_laws.proofs.OfClients.Facts.{its_row, unended}
use Rattle.core_laws.proofs.OfPrepared.Mapping.{has_same}

-- what it was owed is a front of what it is owed then
module _ (service : Service) (g : Ground) (t : Tabled) (client : tales.Client) (row : Client) (stands : Stands service g t)
    (seated : IsSeated g.tale client) (there : t.clients client.number ≡ Some row) (going : g.over client.number ≡ false)
    (looked : g.fresh client.number ≡ false) (wordless : word_at g.plan g.tale.moment client.number ≡ None) where
  abbrev after : Ground
  after = on g (tell (Left client.number) g.tale)

  row_is : IsClient g client row
  row_is = its_row service g t client row stands seated there

  continues : Continues (known_on g) (known_on g) client client
  continues = record {
    plan = refl;
    number = refl;
    port = refl;
    salt = refl;
    more = [];
    read = sym (append-nil client.read);
    taken = omega arith;
    within = row_within g client row row_is going;
    answers = λ ordinal message bytes within some. some;
  }

  owed_by : (at : Phase) → is_ended at ≡ false → IsOwing at (g.fresh client.number) g client row.desk.seat
      → IsWrittenOf client row.desk.seat (due_so_far (known_on g) client)
  owed_by phase.LoggingIn going_on is = subst (λ (b : Bool). IsOwing phase.LoggingIn b g client row.desk.seat) looked is
  owed_by (phase.Serving login) going_on is = is
  owed_by phase.Ended going_on is = absurd (true≢false going_on)

  owed : IsWrittenOf client row.desk.seat (due_so_far (known_on g) client)
  owed = owed_by row.desk.seat.phase (unended service g t client row stands seated there going) row_is.owed

  front_of : IsFrontOf client row.desk.seat (due_bytes (view_on g).replies g.plan g.tale.moment client)
  front_of = record {
    written = owed.written;
    size = owed.size;
    front = subst (λ (due : List ℕ). IsFront due (due_bytes (view_on g).replies g.plan g.tale.moment client)) owed.all
        (ends_grow (known_on g) (known_on g) client client continues (λ word said. absurd (none-some word (sym wordless ∙ said))));
  }

  pub leaves_so : IsLeaving after client (ended row.desk.seat)
  leaves_so = record {
    who = record { link = row_is.who.link; number = row_is.who.number; port = row_is.who.port; salt = row_is.who.salt; drained = row_is.who.drained };
    heard = tt;
    owed = record { written = front_of.written; size = front_of.size; front = front_of.front };
    placed = tt;
  }

  pub ends_so : IsEnding after client (ended row.desk.seat)
  ends_so = record {
    ended = refl;
    told = λ worded. absurd (true≢false (sym worded ∙ ap is_some wordless));
  }

-- one that ended
module _ (service : Service) (g : Ground) (t : Tabled) (c : ClientNo) (was : Stands service g t) (over : g.over c ≡ true) where
  abbrev by : Aside
  by = looking g (unfresh g c)

  abbrev later : Ground
  later = regrounded by g

  ended_phase : (x : tales.Client) (row : Client) (b : Bool) → IsPhase b g x row → g.over x.number ≡ true → b ≡ true
  ended_phase x row true is ends = refl
  ended_phase x row false is ends = absurd (true≢false (sym ends ∙ is.going))

  ended_at : (at : Phase) → is_ended at ≡ true → at ≡ phase.Ended
  ended_at phase.LoggingIn is = absurd (true≢false (sym is))
  ended_at (phase.Serving login) is = absurd (true≢false (sym is))
  ended_at phase.Ended is = refl

  gone_row : (x : tales.Client) (row : Client) → g.over x.number ≡ true → IsClient g x row → IsClient later x row
  gone_row x row ends is =
      let at : row.desk.seat.phase ≡ phase.Ended =
      ended_at row.desk.seat.phase (ended_phase x row (is_ended row.desk.seat.phase) is.phase ends) in
      let owed = subst (λ (p : Phase). IsOwing p (g.fresh x.number) g x row.desk.seat) at is.owed in
      let over_so : IsOver g x row = subst (λ (p : Phase). IsPhase (is_ended p) g x row) at is.phase in
      record {
        who = is.who;
        heard = is.heard;
        owed = subst (λ (p : Phase). IsOwing p (unfresh g c x.number) later x row.desk.seat) (sym at)
            (record { written = owed.written; size = owed.size; front = owed.front });
        desk = is.desk;
        coming = is.coming;
        phase = subst (λ (p : Phase). IsPhase (is_ended p) later x row) (sym at)
            (record { over = over_so.over; idle = over_so.idle; told = over_so.told; homeless = over_so.homeless });
      }

  gone_or : (x : tales.Client) (found : Option Client) → g.over x.number ≡ true → IsClientOr g x found → IsClientOr later x found
  gone_or x None ends is = record { over = is.over; homeless = is.homeless }
  gone_or x (Some row) ends is = gone_row x row ends is

  each : (x : tales.Client) → IsAt g t x → IsClientOr later x (t.clients x.number)
  each x at = by_number (is_client c x.number) refl where
    by_number : (b : Bool) → is_client c x.number ≡ b → IsClientOr later x (t.clients x.number)
    by_number false aside =
        client-before g by x (record {
          own = λ ordinal below. refl;
          word = λ over. refl;
          over = refl;
          fresh = ap (λ (b : Bool). not b && g.fresh x.number) aside;
        }) (t.clients x.number) at.row
    by_number true its = gone_or x (t.clients x.number) (ap g.over (sym (client-true c x.number its)) ∙ over) at.row

  pub gone_looked : Stands service (looked_at c g) t
  gone_looked =
      stands-told g by t (λ (x : tales.Client). x)
      (record {
        clients = sym (map-itself g.tale.clients);
        moment = refl;
        number = λ x. refl;
        link = λ x. refl;
        taken = λ x. refl;
        more = λ x. has_same g.plan x;
        ends = λ n is. is;
        kept = λ n. refl;
        numbers = λ l. refl;
      }) service was
      (All-weaker (IsAt g t) (λ (x : tales.Client). IsClientOr later x (t.clients x.number)) each g.tale.clients was.clients.each)
