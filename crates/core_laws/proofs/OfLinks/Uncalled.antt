-- Entries of links to servers by which no link is given back, and nobody is called.
use Rattle.std.specs.Prelude.{◌≡◌, ℕ, suc, Bool, true, false, All}
use Rattle.std.proofs.Common.{refl, sym, ◌∙◌, ap, subst}
use Rattle.std.proofs.lemmas.Bool.{true≢false}
use Rattle.std.proofs.lemmas.List.Elements.{All-weaker}
use Rattle.mx_wire.specs.declared.entry.Entry.{Entry}
use Rattle.client_session.specs.Setups.{Setup as Service}
use Rattle.private_model.proofs.Maps.{link_of}
use Rattle.private_model.specs.Names.{ClientNo, LinkId}
use Rattle.private_model.specs.Story.{is_link_id}
use Rattle.log_story.specs.Clients.{is_event_of}
use Rattle.log_story.specs.Plan.{word_at}
use Rattle.log_story.specs.Tale.{Client, Tale, counted, is_to_server}
use Rattle.log_story.specs.Telling.{tale_step, told}
use Rattle.step_laws.proofs.Telling.{told_spares}
use Rattle.step_laws.specs.Freed.{NoneDone}
use Rattle.step_laws.specs.Steps.{told_then}
use Rattle.step_laws.specs.Taken.{GivesUpNone}
use Rattle.core_tables.specs.Parting.{is_done_in}
use Rattle.core_tables.specs.Tables.{IsSame, Tabled}
use Rattle.core_stands.specs.Grounds.{Ground, on, view_on}
use Rattle.core_stands.specs.Stands.{IsAt, Rests, Stands}
use Rattle.core_laws.proofs.OfEntry.Composing.{rest_of_nobody, told_alone}
use Rattle.core_laws.proofs.OfEntry.Uneventful.{Counting, Makes, Testing, all_spared, counted_rests, none_calm, of_nobody}
use Rattle.core_laws.specs.entry.Calms.{IsAside}
use Rattle.core_laws.specs.entry.Entries.{OfItsLink, TellsOf, behind}
use Rattle.core_laws.specs.entry.Kinds.{IsStill, IsUneventful}

still_at : (g : Ground) (tale : Tale) → tale.moment ≡ g.tale.moment → (client : Client) → IsStill g client → IsStill (on g tale) client
still_at g tale same client still = record {
  keeps = subst (λ (m : ℕ). GivesUpNone g.plan (suc m) client) (sym same) still.keeps;
  word = subst (λ (m : ℕ). g.over client.number ≡ true → word_at g.plan (suc m) client.number ≡ word_at g.plan m client.number) (sym same) still.word;
}

pub all_still : (g : Ground) (e : Entry) → IsUneventful g → (told g.setup g.plan g.tale e).clients ≡ g.tale.clients
    → All (IsStill (on g (told g.setup g.plan g.tale e))) (told g.setup g.plan g.tale e).clients
all_still g e calm same =
    let made = told g.setup g.plan g.tale e in
    subst (All (IsStill (on g made))) (sym same)
    (All-weaker (IsStill g) (IsStill (on g made)) (still_at g made (told_spares g.setup g.plan g.tale e).moment) g.tale.clients calm.still)

abbrev pub Sames : Service → Type 0
Sames service = (g : Ground) (t other : Tabled) → Stands service g t → IsSame other t → Stands service g other

-- The tables stand for what is told, and no row of tables that are the same is done with its session.
module _ (service : Service) (counting : Counting service) (testing : Testing service) (sames : Sames service) (g : Ground) (t now made_of : Tabled)
    (roomy : ClientNo → Bool) (rests : Rests service g t roomy) (calm : IsUneventful g) (e : Entry)
    (uncalled : (client : Client) → is_event_of (view_on g) client e ≡ false)
    (same : (told g.setup g.plan g.tale e).clients ≡ g.tale.clients) (stands : Stands service (on g (told g.setup g.plan g.tale e)) now)
    (same_tables : IsSame now made_of)
    (undone : (l : LinkId) → is_to_server (told g.setup g.plan g.tale e) l ≡ true → is_done_in l made_of ≡ false) where
  abbrev made : Tale
  made = told g.setup g.plan g.tale e

  stands_made : Stands service (on g made) made_of
  stands_made = sames (on g made) now made_of stands (record {
    clients = λ c. sym (same_tables.clients c);
    numbers = λ l. sym (same_tables.numbers l);
    links = λ l. sym (same_tables.links l);
  })

  makes : Makes g e made
  makes = record {
    told_as = refl;
    moment = (told_spares g.setup g.plan g.tale e).moment;
    rested = λ l there. testing (on g made) made_of l stands_made there ∙ undone l there;
    still = all_still g e calm same;
    uncalled = uncalled;
  }

  undone_then : NoneDone g.setup g.plan (counted made)
  undone_then = counted_rests service testing (on g made) now stands (counting (on g made) now stands makes.still) makes.rested

  -- the entry is told and counted, and no more
  pub nobody_steps : tale_step g.setup g.plan g.tale e ≡ told_then g.setup g.plan g.tale e
  nobody_steps = told_alone service g t now roomy roomy e rests (of_nobody g e made makes calm.endless undone_then)

  pub nobody_rests : ((c : ClientNo) → IsAside g.setup g.tale e c) → TellsOf (λ c. false) g.tale e → Rests service (behind g e g.over) now roomy
  nobody_rests aside tells =
      let counts = counting (on g made) now stands makes.still in
      rest_of_nobody service g t now roomy roomy e rests
      (of_nobody g e made makes calm.endless undone_then)
      (λ c. false) tells (all_spared (λ c. false) g e calm aside) counts
      (λ c other full. full) (none_calm (behind g e g.over) roomy)

-- A link to a server is no client's.

no_client : (tale : Tale) (l : LinkId) → is_to_server tale l ≡ true → (client : Client) → is_to_server tale client.link ≡ false
    → is_link_id client.link l ≡ true → false ≡ true
no_client tale l there client aside here =
    absurd (true≢false (sym there ∙ ap (is_to_server tale) (sym (link_of client.link l here)) ∙ aside))

pub of_no_client : (service : Service) (g : Ground) (t : Tabled) (l : LinkId) → Stands service g t → is_to_server g.tale l ≡ true
    → (whose : ClientNo → Bool) → OfItsLink whose l g.tale
of_no_client service g t l stands there whose =
    All-weaker (IsAt g t) (λ (client : Client). is_link_id client.link l ≡ true → whose client.number ≡ true)
    (λ client at here. absurd (true≢false (sym (no_client g.tale l there client at.aside here)))) g.tale.clients stands.clients.each
