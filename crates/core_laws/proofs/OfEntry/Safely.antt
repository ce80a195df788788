-- A log goes on safely, by tables that stand for its tale.
use Rattle.std.specs.Prelude.{◌≡◌, ◌<◌, ℕ, zero, suc, Bool, true, false, ◌||◌, take, List, [], ◌∷◌, ◌++◌, Option, Some, None}
use Rattle.std.proofs.Common.{refl, sym, ap, ◌∙◌, subst, append-nil, arith, inl, inr}
use Rattle.std.proofs.lemmas.Bool.{false≢true, true≢false}
use Rattle.std.proofs.lemmas.List.Elements.{All-nil}
use Rattle.mx_wire.specs.Log.{Log, written_of}
use Rattle.mx_wire.specs.declared.entry.Entry.{Entry}
use Rattle.client_session.specs.Setups.{Setup as Service}
use Rattle.private_model.specs.Lawful.{IsLawful, MayCome}
use Rattle.private_model.specs.Names.{ClientNo, LinkId}
use Rattle.private_model.specs.Story.{BecameDue, Broke, Dropped, Freed, Gone, Happening, Heard, Left, LoggedIn, Mirrored, Ran, Sent, Story, Unprepared}
use Rattle.private_model.specs.View.{Setup, View, view_after}
use Rattle.link_laws.specs.Stands.{Codes}
use Rattle.log_story.specs.Headline.{WritesDue, tale_of}
use Rattle.log_story.specs.Honest.{IsFront}
use Rattle.log_story.specs.Plan.{Plan, is_by_now}
use Rattle.log_story.specs.Said.{IsSaidLog, SaysFrom, SaysSo}
use Rattle.log_story.specs.Tale.{Client, Tale, first_tale, is_to_server}
use Rattle.log_story.specs.Telling.{tale_step}
use Rattle.run_laws.proofs.Telling.{first_tells, step_tells}
use Rattle.run_laws.specs.Tells.{TellsBytes}
use Rattle.step_laws.specs.Seats.{IsSeated}
use Rattle.tale_world.specs.Decided.{Decided, first_decided}
use Rattle.tale_world.specs.Tested.{has_broken, is_broken}
use Rattle.core_tables.specs.Tables.{Tabled, no_tables}
use Rattle.core_stands.specs.Grounds.{Ground, first_ground, on}
use Rattle.core_stands.specs.Stands.{Rests, Stands}
use Rattle.core_laws.proofs.OfEntry.Going.{after, safe_more, tale_more}
use Rattle.core_laws.proofs.OfEntry.Lists.{seated_of}
use Rattle.core_laws.proofs.OfEntry.Speaking.{all_say}
use Rattle.core_laws.proofs.OfEntry.Writing.{row_writes, writes_due}
use Rattle.core_laws.specs.entry.Cores.{IsSafely, with_entry}
use Rattle.core_laws.specs.entry.Dues.{AreSilent, AreWrittenTo, IsWrittenBy, IsWrittenTo, WritesTo, due_on, written_by}
use Rattle.core_laws.specs.entry.Safe.{IsSafe}
use Rattle.core_laws.specs.entry.Speaks.{IsSilentOrSpoken}
use Rattle.core_laws.specs.entry.Tells.{IsCore, ground}

-- What a lawful story hasn't, and what a safe log has at its end.

come_unbroken : (setup : Setup) (view : View) (e : Happening) → MayCome setup view e → is_broken e ≡ false
come_unbroken setup view Broke may = absurd may
come_unbroken setup view (LoggedIn link server account) may = refl
come_unbroken setup view (BecameDue client hostgroup ordinal key command multiplex) may = refl
come_unbroken setup view (Sent link question) may = refl
come_unbroken setup view (Ran link) may = refl
come_unbroken setup view (Heard link reply) may = refl
come_unbroken setup view (Freed link) may = refl
come_unbroken setup view (Unprepared link number) may = refl
come_unbroken setup view (Dropped link) may = refl
come_unbroken setup view (Gone link) may = refl
come_unbroken setup view (Left client) may = refl
come_unbroken setup view (Mirrored client job) may = refl

or_both : (a b : Bool) → a ≡ false → b ≡ false → (a || b) ≡ false
or_both true b first next = absurd (true≢false first)
or_both false b first next = next

pub unbroken : (setup : Setup) (story : Story) → IsLawful setup story → has_broken story ≡ false
unbroken setup [] lawful = refl
unbroken setup (e ∷ past) lawful =
    or_both (is_broken e) (has_broken past) (come_unbroken setup (view_after setup past) e lawful.1) (unbroken setup past lawful.0)

says_end : (setup : Setup) (plan : Plan) (tale : Tale) (log : Log) → SaysFrom setup plan tale log → SaysSo setup plan (after setup plan tale log)
says_end setup plan tale [] is = is
says_end setup plan tale (e ∷ log) is = says_end setup plan (tale_step setup plan tale e) log is.2

pub says_last : (setup : Setup) (plan : Plan) (log : Log) → IsSaidLog setup plan log → SaysSo setup plan (tale_of setup plan log)
says_last setup plan log is = says_end setup plan first_tale log is

-- With one entry more.

module _ (service : Service) (setup : Setup) (codes : Codes) (plan : Plan) (d : Decided) (log : Log) (e : Entry) (t : Tabled)
    (safe : IsSafe setup plan log) (safely : IsSafely setup plan log e t) (stands : Stands service (ground setup codes plan d (with_entry log e)) t)
    (silent : AreSilent (ground setup codes plan d (with_entry log e)))
    (written : AreWrittenTo (ground setup codes plan d (with_entry log e)) (with_entry log e)) where
  abbrev new : Ground
  new = ground setup codes plan d (with_entry log e)

  -- the ground before it, by what is decided then
  abbrev was : Ground
  was = on new (tale_of setup plan log)

  abbrev stepped : Tale
  stepped = tale_step setup plan (tale_of setup plan log) e

  same : tale_of setup plan (with_entry log e) ≡ stepped
  same = tale_more setup plan log e

  tells : TellsBytes stepped
  tells = step_tells setup plan (tale_of setup plan log) e safely.gets safe.told

  so : SaysSo setup plan stepped
  so =
      all_say service was t e (says_last setup plan log safe.said) (subst (λ (tale : Tale). Stands service (on new tale) t) same stands)
      tells.heard
      (subst (λ (tale : Tale). (l : LinkId) → is_to_server tale l ≡ true → IsSilentOrSpoken setup plan (tale_of setup plan log) e tale t l) same
      safely.spoken)

  pub log_goes_on : IsSafe setup plan (with_entry log e)
  log_goes_on =
      safe_more setup plan log e safe safely.passes (unbroken setup new.tale.story stands.lawful) (subst TellsBytes (sym same) tells) safely.closes
      (subst (SaysSo setup plan) (sym same) so) (writes_due new (with_entry log e) refl silent written)

-- What an entry writes to clients.

pub all_written_by : (g : Ground) (log : Log) (e : Entry) → AreWrittenTo g log → ((client : Client) → IsSeated g.tale client → IsWrittenBy g e client)
    → WritesTo g log e
all_written_by g log e to each client seated = by (each client seated) where
  here : IsWrittenTo g log client
  here = seated_of (IsWrittenTo g log) g.tale client seated to

  by : IsWrittenBy g e client → IsFront (written_of client.link log ++ written_by client.link e) (due_on g client)
  by (inl none) =
      subst (λ (bytes : List ℕ). IsFront bytes (due_on g client))
      (sym (ap (λ (more : List ℕ). written_of client.link log ++ more) none ∙ append-nil (written_of client.link log))) here.front
  by (inr is) =
      subst (λ (more : List ℕ). IsFront (written_of client.link log ++ more) (due_on g client)) (sym is.taken)
      (row_writes g log client is.row is.count is.stands is.looked here)

-- The empty log.

none_taken : (P : Log → Type 0) → P [] → (n : ℕ) → P (take n [])
none_taken P is zero = is
none_taken P is (suc n) = is

none_due : (setup : Setup) (plan : Plan) → WritesDue setup plan []
none_due setup plan = λ k d within. absurd (omega (arith, within))

first_safe : (setup : Setup) (plan : Plan) → IsSafe setup plan []
first_safe setup plan = record {
  tested = tt;
  unbroken = refl;
  told = first_tells setup plan;
  said = λ l there. absurd (false≢true there);
  written = none_taken (WritesDue setup plan) (none_due setup plan);
}

not_by_now : (at : Option ℕ) → ((n : ℕ) → at ≡ Some n → 0 < n) → is_by_now 0 at ≡ false
not_by_now None later = refl
not_by_now (Some n) later = let more : 0 < n = later n refl in grind arith

pub core_of_none : (service : Service) (default : List ℕ) (roomy : ClientNo → Bool)
    → ((setup : Setup) (codes : Codes) (plan : Plan) → plan.service ≡ service → plan.room ≡ 1048576
    → ((c : ClientNo) → is_by_now 0 (plan.ends c) ≡ false) → Rests service (first_ground setup codes plan) no_tables roomy)
    → IsCore service default [] no_tables roomy
core_of_none service default roomy stands = record {
  decided = first_decided service 1048576;
  rests = λ setup codes plan of fits.
      stands setup codes plan of.agrees.service of.agrees.room (λ c. not_by_now (plan.ends c) (λ n is. of.agrees.going c n refl is));
  safe = λ setup codes plan of fits. first_safe setup plan;
  written = λ setup codes plan of fits. All-nil (IsWrittenTo (ground setup codes plan (first_decided service 1048576) []) []);
  opened = λ l there. absurd (false≢true there);
}
