-- Behind a loss of a link with which its client ends the tables rest, and no message was taken up.
use Rattle.std.specs.Prelude.{◌≡◌, suc, Bool, true, false, ◌&&◌, ◌||◌, not, All, is_some, length, if◌then◌else◌, List, [], ◌∷◌, Some, None}
use Rattle.std.proofs.Common.{refl, sym, ap, ◌∙◌, subst, arith, inl}
use Rattle.std.proofs.lemmas.Bool.{true≢false}
use Rattle.std.proofs.lemmas.List.Elements.{All-cons, All-nil, All-weaker}
use Rattle.std.proofs.lemmas.Option.{none-some, same_Some}
use Rattle.mx_wire.specs.declared.entry.Entry.{Entry}
use Rattle.mx_wire.specs.Log.{Log}
use Rattle.client_session.specs.Setups.{Setup as Service}
use Rattle.private_model.proofs.Maps.{client_of, same_number}
use Rattle.private_model.specs.Names.{ClientNo, LinkId, SessionName}
use Rattle.private_model.specs.Story.{Gone, Left, is_client}
use Rattle.private_model.specs.View.{Setup}
use Rattle.link_laws.specs.Stands.{Codes}
use Rattle.log_story.specs.Clients.{client_goes_on, is_answered, waits_for_capture}
use Rattle.log_story.specs.Owed.{has_room, messages}
use Rattle.log_story.specs.Plan.{Plan, word_at}
use Rattle.log_story.specs.Servers.{links_are_freed}
use Rattle.log_story.specs.Clients.{taken_up}
use Rattle.log_story.specs.Tale as tales
use Rattle.log_story.specs.Tale.{Tale, tell, view_of}
use Rattle.log_story.specs.Telling.{tale_step}
use Rattle.step_laws.proofs.Apart.{counted_apart}
use Rattle.step_laws.proofs.Giving.{kept_in, none_in}
use Rattle.step_laws.proofs.Orderly.{freed_in_order}
use Rattle.step_laws.proofs.Stepping.{step_one}
use Rattle.step_laws.proofs.Taking.{idle_takes}
use Rattle.step_laws.specs.Freed.{Ascend, freed_in}
use Rattle.step_laws.specs.Seats.{IsSeated, is_its}
use Rattle.step_laws.specs.Steps.{IsOfOne, leave, told_then}
use Rattle.step_laws.specs.Taken.{AreSingle, GivesUpNone, IsIdle, IsPassed, is_called}
use Rattle.tale_world.specs.Decided.{Decided}
use Rattle.core_tables.specs.Parting.{name_in}
use Rattle.core_tables.specs.Tables.{Tabled}
use Rattle.core_stands.specs.Grounds.{Ground, on, view_on}
use Rattle.core_stands.specs.Stands.{Rests, Stands}
use Rattle.core_laws.proofs.OfArrival.Finding.{client-same, client-true}
use Rattle.core_laws.proofs.OfArrival.Idling.{down-idles}
use Rattle.core_laws.proofs.OfEntry.Composing.{rest_of_one}
use Rattle.core_laws.proofs.OfEntry.Lists.{seated_of}
use Rattle.core_laws.proofs.OfEntry.Uneventful.{nobody_given}
use Rattle.core_laws.proofs.OfParting.Redesking.{IsPresent, present_so}
use Rattle.core_laws.proofs.OfClients.Keeping.{keeps_all_freed, keeps_same}
use Rattle.core_laws.specs.clients.Keeps.{KeepsRows}
use Rattle.core_laws.specs.entry.Entries.{behind}
use Rattle.core_laws.specs.entry.Freeing.{all_freed}
use Rattle.core_laws.specs.entry.Kinds.{IsStill}
use Rattle.core_laws.specs.entry.Tells.{ground}
use Rattle.router_laws.proofs.OfClients.Counting.{takes_none}
use Rattle.router_laws.proofs.OfClients.Duing.{moment_more}
use Rattle.router_laws.proofs.OfClients.Entering.{entered_goes_on}
use Rattle.router_laws.proofs.OfClients.Linking.{unwritten}
use Rattle.router_laws.proofs.OfClients.Saying.{ended_is}
use Rattle.router_laws.proofs.OfLinks.Breaking as breaking
use Rattle.router_laws.proofs.OfLinks.Breaking.{lost_off, lost_plain, lost_tells}
use Rattle.router_laws.proofs.OfLinks.Ended as ended
use Rattle.router_laws.proofs.OfLinks.Ended.{Laws}
use Rattle.router_laws.proofs.OfLinks.Going.{IsPlain}
use Rattle.router_laws.specs.clients.Behind.{IsDueBehind}
use Rattle.router_laws.specs.clients.Continues.{IsContinued}
use Rattle.router_laws.specs.clients.Counted.{GoesTaking}
use Rattle.router_laws.specs.clients.Plans.{IsDecided, ends_of, over_by}
use Rattle.router_laws.specs.links.Loses.{Break, LosesEnded, entry_by}

one_over : (a b : Bool) → (a || (b && true)) ≡ (b || a)
one_over true true = refl
one_over true false = refl
one_over false true = refl
one_over false false = refl

and_left : (a b : Bool) → (a && b) ≡ true → a ≡ true
and_left true b is = refl
and_left false b is = is

module _ (laws : Laws) (service : Service) (g : Ground) (t now : Tabled) (roomy : ClientNo → Bool) (rests : Rests service g t roomy) (l : LinkId) (how : Break)
    (client : tales.Client) (seated : IsSeated g.tale client) (links : List LinkId) (so : LosesEnded l client.number links t now) (log : Log)
    (over : ClientNo → Bool) (decided : IsDecided g (ends_of client.number true) over) (wordless : word_at g.plan (suc g.tale.moment) client.number ≡ None)
    (single : AreSingle g.plan (λ x. true)) (rising : Ascend (λ k. k.0) g.tale.links) where
  abbrev c : ClientNo
  c = client.number

  abbrev e : Entry
  e = entry_by how l

  abbrev later : Tale
  later = ended.later laws service g t now roomy rests l client seated links so decided.still wordless

  abbrev left : Tale
  left = tell (Left c) later

  -- The entry is of that client.

  present : IsPresent t l so.name
  present = present_so t l so.name so.carries

  told_as : later ≡ told_then g.setup g.plan g.tale e
  told_as = breaking.told_as service g t roomy l how nobody_given rests present.server present.there

  first : links_are_freed g.setup g.plan (told_then g.setup g.plan g.tale e) ≡ later
  first =
      ap (links_are_freed g.setup g.plan) (sym told_as)
      ∙ none_in g.setup g.plan later.links later
      (λ x among. ended.undone laws service g t now roomy rests l client seated links so decided.still wordless x among)

  seated_told : IsSeated (told_then g.setup g.plan g.tale e) client
  seated_told = subst (λ (tale : Tale). IsSeated tale client) told_as seated

  carried : (n : SessionName) → name_in present.server.row.link.state.carries ≡ Some n → is_its client n.client ≡ true
  carried n at =
      client-same n.client c (ap (λ (m : SessionName). m.client) (same_Some n so.name (sym at ∙ present.carries)) ∙ so.its)

  abbrev KeepsOther : tales.Client → Type 0
  KeepsOther x = is_its client x.number ≡ false → GivesUpNone g.plan (suc g.tale.moment) x

  keeps : All KeepsOther g.tale.clients
  keeps = All-weaker (IsStill g) KeepsOther (λ x is other. is.keeps) g.tale.clients decided.still

  abbrev Uncalled : tales.Client → Type 0
  Uncalled x = is_its client x.number ≡ false → is_called g.plan later.moment (view_on g) e x ≡ false

  abbrev Passes : tales.Client → Type 0
  Passes x = is_its client x.number ≡ false → IsPassed g.setup g.plan (view_on g) e later x

  uncalled : All Uncalled g.tale.clients
  uncalled = breaking.uncalled service g t roomy l how nobody_given rests present.server present.there (is_its client) carried keeps

  of_one : IsOfOne g.setup g.plan g.tale e client (c ∷ []) later
  of_one = record {
    first = first;
    seated = seated_told;
    single = λ m route mine routed. single m route refl routed;
    passes = All-weaker Uncalled Passes (λ x isnt other. inl (isnt other)) later.clients uncalled;
    ends = ended_is g e client true over decided seated_told;
  }

  -- It takes nothing up, as its last message isn't answered.

  its_still : IsStill g client
  its_still = seated_of (IsStill g) g.tale client seated decided.still

  unanswered : is_answered g.plan later (view_of g.setup later) client client.taken ≡ false
  unanswered =
      (counted_apart g.setup g.plan client (tell (Gone l) g.tale) its_still.keeps).answered client.taken (omega arith)
      ∙ ended.opened laws service g t now roomy rests l client seated links so decided.still wordless

  idle : IsIdle g.setup g.plan later client
  idle =
      down-idles g.setup g.plan client later
      (ap (λ (b : Bool). b && (not (waits_for_capture (view_of g.setup later) g.plan client)
      && has_room (view_of g.setup later).replies g.plan later.moment client)) unanswered)

  goes_nowhere : client_goes_on g.setup g.plan (view_on g) e later client ≡ later
  goes_nowhere = by (is_called g.plan later.moment (view_on g) e client) where
    by : (b : Bool) → (if b then taken_up (length (messages g.plan client)) g.setup g.plan client later else later) ≡ later
    by true = idle_takes g.setup g.plan (length (messages g.plan client)) client later idle
    by false = refl

  step_is : tale_step g.setup g.plan g.tale e ≡ freed_in g.setup g.plan links left
  step_is =
      step_one g.setup g.plan g.tale e client (c ∷ []) later (freed_in g.setup g.plan links left) of_one
      (ap (λ (tale : Tale). links_are_freed g.setup g.plan (leave (c ∷ []) tale)) goes_nowhere
      ∙ freed_in_order g.setup g.plan (λ k. k.0) links left
      (ended.are_all laws service g t now roomy rests l client seated links so decided.still wordless) rising so.homes.rising)

  -- So the tables stand behind it, and rest.

  over_is : (λ (x : ClientNo). is_client c x || g.over x) ≡ over
  over_is = λ i x. sym (decided.overs x ∙ one_over (g.over x) (is_client c x)) i

  over_its : over c ≡ true
  over_its = ap (λ (o : ClientNo → Bool). o c) (sym over_is) ∙ ap (λ (b : Bool). b || g.over c) (same_number c.0)

  abbrev with_over : Tale → Ground
  with_over tale = record g { tale = tale; over = over }

  parted : Stands service (with_over left) so.parted
  parted =
      subst (λ (o : ClientNo → Bool). Stands service (record g { tale = left; over = o }) so.parted) over_is
      (ended.parted_stands laws service g t now roomy rests l client seated links so decided.still wordless)

  stands_behind : Stands service (behind g e over) now
  stands_behind =
      subst (λ (tale : Tale). Stands service (with_over tale) now) (sym step_is)
      (laws.same service (with_over (freed_in g.setup g.plan links left)) (all_freed links so.parted) now
      (laws.frees service (with_over left) so.parted links parted
      (ended.to_servers laws service g t now roomy rests l client seated links so decided.still wordless)) so.freed)

  rests_behind : Rests service (behind g e over) now roomy
  rests_behind =
      rest_of_one service g t now roomy roomy e rests over client (c ∷ []) later of_one
      (All-cons (λ (n : ClientNo). is_its client n ≡ true) c [] (same_number c.0) (All-nil (λ (n : ClientNo). is_its client n ≡ true)))
      (lost_tells (is_its client) g.tale how l)
      (breaking.spared service g t roomy l how nobody_given rests present.server present.there (is_its client) carried keeps)
      stands_behind (λ x. decided.overs x ∙ ap (λ (b : Bool). g.over x || b) (sym (decided.ends x))) (λ x apart full. full)
      (λ x there mine going full. absurd (true≢false (sym (ap over (client_of x.number c mine) ∙ over_its) ∙ going)))

  clients_same : (tale_step g.setup g.plan g.tale e).clients ≡ g.tale.clients
  clients_same = ap (λ (tale : Tale). tale.clients) step_is ∙ kept_in g.setup g.plan (λ (tale : Tale). tale.clients) (λ story tale. refl) links left

  -- What is due behind it.

  plain : IsPlain g.tale e
  plain = lost_plain g.tale how l

  no_word : (was x : tales.Client) → IsContinued g.plan g.tale e was x → (is_client c was.number && true) ≡ true
      → word_at g.plan (behind g e over).tale.moment x.number ≡ None
  no_word was x on_it mine =
      (λ i. word_at g.plan (moment_more g.setup g.plan g.tale e i)
      ((on_it.number ∙ sym (client-true c was.number (and_left (is_client c was.number) true mine))) i)) ∙ wordless

  kept_rows : KeepsRows so.parted now
  kept_rows = keeps_same so.parted (all_freed links so.parted) now (keeps_all_freed links so.parted) so.freed

  due : IsDueBehind g log e (ends_of c true) over now
  due = record {
    writes = λ x there. inl (unwritten e plain.writes x.link);
    unread = λ x there is. plain.reads x.link;
    says = λ was x there on_it mine going word at. absurd (none-some word (sym (no_word was x on_it mine) ∙ at));
    there = λ x there mine.
        ap (λ (n : ClientNo). is_some (now.clients n)) (sym (client-true c x.number (and_left (is_client c x.number) true mine)))
        ∙ kept_rows.clients c
        ∙ ap is_some (ended.there_last laws service g t now roomy rests l client seated links so decided.still wordless);
    comes = λ x there come. absurd (plain.comes x come);
  }

-- So a core goes on with it.
pub ended_goes : Laws → (service : Service) (setup : Setup) (codes : Codes) (plan : Plan) (log : Log) (l : LinkId) (how : Break) (old new : Decided)
    (t now : Tabled) (roomy : ClientNo → Bool) (client : tales.Client) (links : List LinkId) → Rests service (ground setup codes plan old log) t roomy
    → IsSeated (ground setup codes plan old log).tale client → LosesEnded l client.number links t now
    → IsDecided (ground setup codes plan old log) (ends_of client.number true) (over_by new)
    → word_at plan (suc (ground setup codes plan old log).tale.moment) client.number ≡ None → AreSingle plan (λ x. true)
    → Ascend (λ k. k.0) (ground setup codes plan old log).tale.links
    → GoesTaking service setup codes plan log (entry_by how l) old new t now roomy roomy client.number 0
ended_goes laws service setup codes plan log l how old new t now roomy client links rests seated so decided wordless single rising =
    let g : Ground = ground setup codes plan old log in
    record {
      goes = entered_goes_on service setup codes plan log (entry_by how l) old new t now roomy roomy (ends_of client.number true) decided (record {
        rests = λ again. rests_behind laws service g t now roomy rests l how client seated links so log (over_by new) decided wordless single rising;
        due = λ again. due laws service g t now roomy rests l how client seated links so log (over_by new) decided wordless single rising;
        off = λ again. lost_off g.tale how l;
      });
      takes = λ again.
          takes_none client.number g.tale (tale_step setup plan g.tale (entry_by how l))
          (clients_same laws service g t now roomy rests l how client seated links so log (over_by new) decided wordless single rising);
    }
