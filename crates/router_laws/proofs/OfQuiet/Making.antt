-- What an entry makes of a tale that tells nothing, or that a server makes.
use Rattle.std.specs.Prelude.{◌≡◌, ℕ, suc, Bool, true, false, All, cond, if◌then◌else◌, List, [], ◌∷◌}
use Rattle.std.specs.List.{flat_map}
use Rattle.std.proofs.Common.{refl, sym, ap, ◌∙◌, subst}
use Rattle.std.proofs.lemmas.List.Elements.{All-weaker}
use Rattle.mx_wire.specs.Log.{is_link, link_of, open_step, wrote_bytes}
use Rattle.mx_wire.specs.declared.entry.Entry.{Entry}
use Rattle.mx_wire.specs.declared.entry.Entry.TheVariants as entry
use Rattle.client_session.specs.Setups.{Setup as Service}
use Rattle.private_model.specs.Names.{ClientNo, LinkId}
use Rattle.private_model.specs.Story.{Dropped, Happening, Ran}
use Rattle.private_model.specs.View.{Setup}
use Rattle.log_story.specs.Clients.{is_event_of}
use Rattle.log_story.specs.Plan.{word_at}
use Rattle.log_story.specs.Tale.{Client, Tale, counted, is_to_server, tell}
use Rattle.log_story.specs.Telling.{tale_step, told}
use Rattle.step_laws.specs.Freed.{NoneDone}
use Rattle.step_laws.specs.Taken.{GivesUpNone}
use Rattle.core_tables.specs.Tables.{Tabled}
use Rattle.core_stands.specs.Grounds.{Ground, on, view_on}
use Rattle.core_stands.specs.Stands.{Rests, Stands}
use Rattle.core_laws.proofs.OfEntry.Composing.{rest_of_nobody, told_alone}
use Rattle.core_laws.proofs.OfEntry.Uneventful.{Counting, Makes, Testing, all_spared, counted_rests, exec_rests, none_calm, of_nobody, stands_then}
use Rattle.core_laws.specs.entry.Calms.{IsAside}
use Rattle.core_laws.specs.entry.Dues.{written_by}
use Rattle.core_laws.specs.entry.Entries.{IsOfNobody, TellsOf, behind}
use Rattle.core_laws.specs.entry.Kinds.{IsQuiet, IsStill, IsUneventful}
use Rattle.router_laws.specs.clients.Behind.{IsOffServers}
use Rattle.router_laws.specs.clients.Continues.{HasCome, is_read_on}
use Rattle.router_laws.proofs.OfDecisions.Fates.{false_true}
use Rattle.router_laws.specs.decisions.Counting.{BeginsSo}
use Rattle.router_laws.specs.decisions.Deeds.{Deeds}
use Rattle.ready_loop.specs.Machine.{IsQuiet as IsQuietEntry}
use Rattle.router_laws.specs.quiet.Quiet.{is_quiet, is_silent}

-- What they leave alone.

pub record IsOfNoLink (setup : Setup) (deeds : Deeds) (tale : Tale) (e : Entry) : Type 0 where
  pub aside : (c : ClientNo) → IsAside setup tale e c
  pub of_none : TellsOf (λ c. false) tale e
  pub unread : (l : LinkId) → is_read_on e l ≡ false
  pub unwritten : wrote_bytes e ≡ []
  pub uncome : (client : Client) → HasCome tale e client → ⊥
  pub off : IsOffServers tale e
  pub begins : BeginsSo setup tale e deeds

pub of_no_link : (setup : Setup) (deeds : Deeds) (tale : Tale) (e : Entry) → is_quiet e ≡ true → IsOfNoLink setup deeds tale e
of_no_link setup deeds tale (entry.Listening port address) is = record {
  aside = λ c. tt;
  of_none = tt;
  unread = λ l. refl;
  unwritten = refl;
  uncome = λ client come. come;
  off = tt;
  begins = tt;
}
of_no_link setup deeds tale (entry.ListenFailed port) is = record {
  aside = λ c. tt;
  of_none = tt;
  unread = λ l. refl;
  unwritten = refl;
  uncome = λ client come. come;
  off = tt;
  begins = tt;
}
of_no_link setup deeds tale entry.WaitFailed is = record {
  aside = λ c. tt;
  of_none = tt;
  unread = λ l. refl;
  unwritten = refl;
  uncome = λ client come. come;
  off = tt;
  begins = tt;
}
of_no_link setup deeds tale entry.Over is = record {
  aside = λ c. tt;
  of_none = tt;
  unread = λ l. refl;
  unwritten = refl;
  uncome = λ client come. come;
  off = tt;
  begins = tt;
}
of_no_link setup deeds tale (entry.Named link) is = record {
  aside = λ c. tt;
  of_none = tt;
  unread = λ l. refl;
  unwritten = refl;
  uncome = λ client come. come;
  off = tt;
  begins = tt;
}
of_no_link setup deeds tale entry.NoneNamed is = record {
  aside = λ c. tt;
  of_none = tt;
  unread = λ l. refl;
  unwritten = refl;
  uncome = λ client come. come;
  off = tt;
  begins = tt;
}
of_no_link setup deeds tale (entry.AcceptNothing port) is = record {
  aside = λ c. tt;
  of_none = tt;
  unread = λ l. refl;
  unwritten = refl;
  uncome = λ client come. come;
  off = tt;
  begins = tt;
}
of_no_link setup deeds tale (entry.AcceptFailed port) is = record {
  aside = λ c. tt;
  of_none = tt;
  unread = λ l. refl;
  unwritten = refl;
  uncome = λ client come. come;
  off = tt;
  begins = tt;
}
of_no_link setup deeds tale (entry.ReadNothing link) is = record {
  aside = λ c. tt;
  of_none = tt;
  unread = λ l. refl;
  unwritten = refl;
  uncome = λ client come. come;
  off = tt;
  begins = tt;
}
of_no_link setup deeds tale (entry.WriteNothing link) is = record {
  aside = λ c. tt;
  of_none = tt;
  unread = λ l. refl;
  unwritten = refl;
  uncome = λ client come. come;
  off = tt;
  begins = tt;
}
of_no_link setup deeds tale (entry.Exec link) is = record {
  aside = λ c. tt;
  of_none = tt;
  unread = λ l. refl;
  unwritten = refl;
  uncome = λ client come. come;
  off = tt;
  begins = tt;
}
of_no_link setup deeds tale (entry.Drop link) is = record {
  aside = λ c. tt;
  of_none = tt;
  unread = λ l. refl;
  unwritten = refl;
  uncome = λ client come. come;
  off = tt;
  begins = tt;
}
of_no_link setup deeds tale _ is = false_true false refl is

pub open_alike : (e : Entry) → is_quiet e ≡ true → (was : Bool) → open_step was e ≡ was
open_alike (entry.Listening port address) is was = refl
open_alike (entry.ListenFailed port) is was = refl
open_alike entry.WaitFailed is was = refl
open_alike entry.Over is was = refl
open_alike (entry.Named link) is was = refl
open_alike entry.NoneNamed is was = refl
open_alike (entry.AcceptNothing port) is was = refl
open_alike (entry.AcceptFailed port) is was = refl
open_alike (entry.ReadNothing link) is was = refl
open_alike (entry.WriteNothing link) is was = refl
open_alike (entry.Exec link) is was = refl
open_alike (entry.Drop link) is was = refl
open_alike _ is was = false_true false refl is

silent_quiet : (g : Ground) (e : Entry) → is_silent e ≡ true → IsQuiet g e
silent_quiet g (entry.Listening port address) is = record { told_same = refl; uncalled = λ client. refl; aside = λ c. tt; of_none = tt }
silent_quiet g (entry.ListenFailed port) is = record { told_same = refl; uncalled = λ client. refl; aside = λ c. tt; of_none = tt }
silent_quiet g entry.WaitFailed is = record { told_same = refl; uncalled = λ client. refl; aside = λ c. tt; of_none = tt }
silent_quiet g entry.Over is = record { told_same = refl; uncalled = λ client. refl; aside = λ c. tt; of_none = tt }
silent_quiet g (entry.Named link) is = record { told_same = refl; uncalled = λ client. refl; aside = λ c. tt; of_none = tt }
silent_quiet g entry.NoneNamed is = record { told_same = refl; uncalled = λ client. refl; aside = λ c. tt; of_none = tt }
silent_quiet g (entry.AcceptNothing port) is = record { told_same = refl; uncalled = λ client. refl; aside = λ c. tt; of_none = tt }
silent_quiet g (entry.AcceptFailed port) is = record { told_same = refl; uncalled = λ client. refl; aside = λ c. tt; of_none = tt }
silent_quiet g (entry.ReadNothing link) is = record { told_same = refl; uncalled = λ client. refl; aside = λ c. tt; of_none = tt }
silent_quiet g (entry.WriteNothing link) is = record { told_same = refl; uncalled = λ client. refl; aside = λ c. tt; of_none = tt }
silent_quiet g _ is = false_true false refl is

pub none_written : (l : LinkId) (e : Entry) → wrote_bytes e ≡ [] → written_by l e ≡ []
none_written l e none = by (is_link l (link_of e)) where
  by : (b : Bool) → flat_map wrote_bytes (cond b (e ∷ []) []) ≡ []
  by true = ap (λ (bytes : List ℕ). flat_map (λ (x : List ℕ). x) (bytes ∷ [])) none
  by false = refl

pub no_machine : (e : Entry) → IsQuietEntry e → is_quiet e ≡ true
no_machine (entry.Listening port address) quiet = refl
no_machine (entry.ListenFailed port) quiet = refl
no_machine entry.WaitFailed quiet = refl
no_machine entry.Over quiet = refl
no_machine (entry.Named link) quiet = refl
no_machine entry.NoneNamed quiet = refl
no_machine (entry.AcceptNothing port) quiet = refl
no_machine (entry.AcceptFailed port) quiet = refl
no_machine (entry.ReadNothing link) quiet = refl
no_machine (entry.WriteNothing link) quiet = refl
no_machine (entry.Exec link) quiet = refl
no_machine (entry.Drop link) quiet = refl
no_machine _ quiet = absurd quiet

-- What they make.

pub record IsMade (service : Service) (g : Ground) (t : Tabled) (e : Entry) : Type 0 where
  pub made : Tale
  pub makes : Makes g e made
  pub stands : Stands service (on g made) t
  pub clients : made.clients ≡ g.tale.clients

module _ (service : Service) (g : Ground) (t : Tabled) (calm : IsUneventful g) (stands : Stands service g t) (rested : NoneDone g.setup g.plan g.tale) where
  -- nothing
  made_same : (e : Entry) → told g.setup g.plan g.tale e ≡ g.tale → ((client : Client) → is_event_of (view_on g) client e ≡ false) → IsMade service g t e
  made_same e same uncalled = record {
    made = g.tale;
    makes = record { told_as = same; moment = refl; rested = rested; still = calm.still; uncalled = uncalled };
    stands = stands;
    clients = refl;
  }

  told_still : (tale : Tale) → tale.clients ≡ g.tale.clients → tale.moment ≡ g.tale.moment → All (IsStill (on g tale)) tale.clients
  told_still tale clients moment =
      subst (λ (xs : List Client). All (IsStill (on g tale)) xs) (sym clients)
      (All-weaker (IsStill g) (IsStill (on g tale)) (λ client still. record {
        keeps = subst (λ (m : ℕ). GivesUpNone g.plan (suc m) client) (sym moment) still.keeps;
        word = subst (λ (m : ℕ). g.over client.number ≡ true → word_at g.plan (suc m) client.number ≡ word_at g.plan m client.number) (sym moment)
            still.word;
      }) g.tale.clients calm.still)

  made_drop : (l : LinkId) → Stands service (on g (tell (Dropped l) g.tale)) t → IsMade service g t (entry.Drop l)
  made_drop l stands_then = record {
    made = tell (Dropped l) g.tale;
    makes = record {
      told_as = refl;
      moment = refl;
      rested = rested;
      still = told_still (tell (Dropped l) g.tale) refl refl;
      uncalled = λ client. refl;
    };
    stands = stands_then;
    clients = refl;
  }

  abbrev run : LinkId → Tale
  run l = told g.setup g.plan g.tale (entry.Exec l)

  of_run : {A : Type 0} (of : Tale → A) → ((e : Happening) (tale : Tale) → of (tell e tale) ≡ of tale) → (l : LinkId) → of (run l) ≡ of g.tale
  of_run of tells l = by (g.tale.wires l).entered (g.tale.wires l).quits where
    by : (a b : Bool) → of (if a then tell (if b then Dropped l else Ran l) g.tale else g.tale) ≡ of g.tale
    by true b = tells (if b then Dropped l else Ran l) g.tale
    by false b = refl

  made_exec : (l : LinkId) → Stands service (on g (run l)) t → IsMade service g t (entry.Exec l)
  made_exec l stands_then = record {
    made = run l;
    makes = record {
      told_as = refl;
      moment = of_run (λ (tale : Tale). tale.moment) (λ e tale. refl) l;
      rested = exec_rests g.setup g.plan g.tale l rested;
      still = told_still (run l) (of_run (λ (tale : Tale). tale.clients) (λ e tale. refl) l) (of_run (λ (tale : Tale). tale.moment) (λ e tale. refl) l);
      uncalled = λ client. refl;
    };
    stands = stands_then;
    clients = of_run (λ (tale : Tale). tale.clients) (λ e tale. refl) l;
  }

  -- a link that is none to a server isn't entered, so that nothing runs there
  exec_by : (l : LinkId) (there : Bool) → is_to_server g.tale l ≡ there → (is_to_server g.tale l ≡ false → (g.tale.wires l).entered ≡ false)
      → (is_to_server g.tale l ≡ true → Stands service (on g (run l)) t) → IsMade service g t (entry.Exec l)
  exec_by l true is outside stands_then = made_exec l (stands_then is)
  exec_by l false is outside stands_then =
      made_same (entry.Exec l)
      (ap (λ (b : Bool). if b then tell (if (g.tale.wires l).quits then Dropped l else Ran l) g.tale else g.tale) (outside is)) (λ client. refl)

  silent_made : (e : Entry) → is_silent e ≡ true → IsMade service g t e
  silent_made e is = let quiet : IsQuiet g e = silent_quiet g e is in made_same e quiet.told_same quiet.uncalled

  pub is_made : (e : Entry) → is_quiet e ≡ true → ((l : LinkId) → is_to_server g.tale l ≡ false → (g.tale.wires l).entered ≡ false)
      → ((l : LinkId) → is_to_server g.tale l ≡ true → Stands service (on g (run l)) t)
      → ((l : LinkId) → Stands service (on g (tell (Dropped l) g.tale)) t) → IsMade service g t e
  is_made (entry.Exec l) is outside runs drops = exec_by l (is_to_server g.tale l) refl (outside l) (runs l)
  is_made (entry.Drop l) is outside runs drops = made_drop l (drops l)
  is_made e is outside runs drops = silent_made e is

-- Behind them the tables rest.
module _ (service : Service) (counting : Counting service) (testing : Testing service) (g : Ground) (t : Tabled) (roomy : ClientNo → Bool) (e : Entry)
    (rests : Rests service g t roomy) (calm : IsUneventful g) (is : IsMade service g t e) (of_none : TellsOf (λ c. false) g.tale e)
    (aside : (c : ClientNo) → IsAside g.setup g.tale e c) where
  nobody_then : IsOfNobody g e
  nobody_then =
      of_nobody g e is.made is.makes calm.endless
      (counted_rests service testing (on g is.made) t is.stands (counting (on g is.made) t is.stands is.makes.still) is.makes.rested)

  pub step_is : tale_step g.setup g.plan g.tale e ≡ counted is.made
  step_is = told_alone service g t t roomy roomy e rests nobody_then ∙ ap counted is.makes.told_as

  pub rests_then : Rests service (behind g e g.over) t roomy
  rests_then =
      rest_of_nobody service g t t roomy roomy e rests nobody_then (λ c. false) of_none (all_spared (λ c. false) g e calm aside)
      (stands_then g e is.made is.makes calm.endless service t (counting (on g is.made) t) is.stands) (λ c other full. full)
      (none_calm (behind g e g.over) roomy)
