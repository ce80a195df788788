-- Behind bytes on a link to a server the tables rest, and as many messages were taken up as was decided.
use Rattle.std.specs.Prelude.{◌≡◌, ◌+◌, ◌||◌, ℕ, suc, Bool, true, false, filter, if◌then◌else◌, List, [], ◌∷◌, Option, Some, None}
use Rattle.std.proofs.Common.{refl, sym, ap, ◌∙◌, subst, arith}
use Rattle.std.proofs.lemmas.List.Elements.{All-nil}
use Rattle.mx_wire.specs.declared.entry.Entry.{Entry}
use Rattle.mx_wire.specs.declared.entry.Entry.TheVariants as entry
use Rattle.mx_wire.specs.Log.{Log}
use Rattle.client_session.specs.Setups.{Setup as Service}
use Rattle.private_model.proofs.Maps.{client_of}
use Rattle.private_model.specs.Names.{ClientNo, LinkId}
use Rattle.private_model.specs.Story.{is_client}
use Rattle.log_story.specs.Tale as tales
use Rattle.log_story.specs.Tale.{Tale}
use Rattle.log_story.specs.Telling.{tale_step}
use Rattle.step_laws.specs.Seats.{IsSeated, is_its, seats}
use Rattle.step_laws.specs.Steps.{ends_now}
use Rattle.core_tables.specs.Tables.{Tabled}
use Rattle.core_stands.specs.Grounds.{Ground, on}
use Rattle.core_stands.specs.Stands.{Rests, Stands}
use Rattle.core_laws.proofs.OfEntry.Resting.{one_seats}
use Rattle.core_laws.proofs.OfClients.Following.{ended_its}
use Rattle.core_laws.specs.clients.Following.{IsFollowed, IsFollowing, ended_by, to_look}
use Rattle.core_laws.specs.clients.Follows.{FollowsSo, Parting, ends_by}
use Rattle.core_laws.specs.clients.Going.{GivenUp, Going}
use Rattle.core_laws.specs.clients.Turns.{Choice, Halt, Rests as Resting, count_by}
use Rattle.router_laws.specs.decisions.Deeds.{taken_by}
use Rattle.router_laws.specs.decisions.Goings.{deeds_of}
use Rattle.router_laws.proofs.OfReading.Hearing as hearing
use Rattle.router_laws.proofs.OfReading.Hearing.{Laws}
use Rattle.router_laws.proofs.OfReading.Nobody as nobody
use Rattle.router_laws.proofs.OfReading.Somebody as somebody
use Rattle.router_laws.proofs.OfReading.Somebody.{for_other, for_same}
use Rattle.router_laws.specs.reading.Hearing.{AreHeard, IsHearing}
use Rattle.router_laws.specs.reading.Hears.{HearsSo}

-- who stands alone with a number is one
one_seated : (x was : tales.Client) (xs : List tales.Client) → x ∷ [] ≡ xs → xs ≡ was ∷ [] → x ≡ was
one_seated x was xs first second = let both : x ∷ [] ≡ was ∷ [] = first ∙ second in cc

none_taken : (n : ℕ) → n ≡ n + (0 + 0)
none_taken n = omega arith

abbrev pub Follows : Type 0
Follows =
    (service : Service) (default : List ℕ) (g : Ground) (t mid now : Tabled) (roomy room over fresh : ClientNo → Bool) (e : Entry)
    (client : tales.Client) (freed : Tale) (choices : List Choice) (halt : Halt) (parting : Parting) (links : List LinkId)
    → Rests service g t roomy → IsFollowing service default g e client freed choices halt parting
    → ((c : ClientNo) → is_client client.number c ≡ false → fresh c ≡ false) → Stands service (to_look g fresh freed) mid
    → FollowsSo service default client.number choices halt parting links mid now
    → ((c : ClientNo) → over c ≡ (g.over c || ends_now g.plan (suc g.tale.moment) c))
    → ((c : ClientNo) → is_its client c ≡ false → room c ≡ false → roomy c ≡ false)
    → IsFollowed service g e client freed (client.taken + count_by choices halt) over room now

module _ (laws : Laws) (follows : Follows) (service : Service) (default : List ℕ) (g : Ground) (log : Log)
    (t now : Tabled) (roomy room over : ClientNo → Bool) (l : LinkId) (bytes : List ℕ) (clock : ℕ) (given : Option GivenUp)
    (rests : Rests service g t roomy) (overs : (c : ClientNo) → over c ≡ (g.over c || ends_now g.plan (suc g.tale.moment) c))
    (rooms : (c : ClientNo) → room c ≡ false → roomy c ≡ false) where
  abbrev e : Entry
  e = entry.Got l bytes

  abbrev last : Tale
  last = tale_step g.setup g.plan g.tale e

  module _ (it : Going) (is : IsHearing service default g log l bytes given (Some it)) (so : HearsSo service default l bytes clock given (Some it) t now) where
    abbrev x : tales.Client
    x = (somebody.found laws service default g log t now roomy l bytes clock given it rests is so).0

    abbrev freed : Tale
    freed = hearing.freed laws service default g log t now roomy l bytes clock given (Some it) rests is so

    following : IsFollowing service default g e x freed it.choices it.halt it.parting
    following = somebody.following laws service default g log t now roomy l bytes clock given it rests is so

    followed : IsFollowed service g e x freed (x.taken + count_by it.choices it.halt) over room now
    followed =
        follows service default g t so.freed now roomy room over g.fresh e x freed it.choices it.halt it.parting it.links rests following
        (λ c other. rests.looked c)
        (hearing.freed_stands laws service default g log t now roomy l bytes clock given (Some it) rests is so)
        (somebody.follows laws service default g log t now roomy l bytes clock given it rests is so) overs (λ c other full. rooms c full)

    number : x.number ≡ it.client
    number = somebody.number laws service default g log t now roomy l bytes clock given it rests is so

    counts_by : (y was : tales.Client) → IsSeated last y → IsSeated g.tale was → y.number ≡ was.number → (b : Bool) → is_its x y.number ≡ b
        → y.taken ≡ was.taken + taken_by ((deeds_of given (Some it)).calls y.number) ((deeds_of given (Some it)).halts y.number)
    counts_by y was seated_y seated_was same true its =
        let no : y.number ≡ x.number = client_of y.number x.number its in
        let was_is : x ≡ was =
        one_seated x was (seats g.tale was.number)
        (sym (somebody.seated laws service default g log t now roomy l bytes clock given it rests is so)
        ∙ ap (seats g.tale) (sym no ∙ same)) seated_was in
        let its_call : is_client it.client y.number ≡ true =
        (λ i. is_client (sym number i) y.number) ∙ (λ i. is_client x.number (no i)) ∙ itself x.number in
        followed.counts y seated_y its ∙ ap (λ (c : tales.Client). c.taken + count_by it.choices it.halt) was_is
        ∙ (λ i. was.taken + taken_by (sym (for_same it.client y.number it.choices [] its_call) i) (sym (for_same it.client y.number it.halt Resting its_call) i))
      where
        itself : (c : ClientNo) → is_client c c ≡ true
        itself c = grind arith
    counts_by y was seated_y seated_was same false other =
        let alike : y ≡ was =
        one_seated y was (seats last y.number) (sym seated_y)
        (one_seats g.setup g.plan x g.tale e (ended_by it.halt it.parting x.number) freed following.of_one (ended_its x (ends_by it.halt it.parting))
        following.tells y.number other
        ∙ ap (seats g.tale) same ∙ seated_was) in
        let not_its : is_client it.client y.number ≡ false =
        (λ i. is_client (sym number i) y.number) ∙ reads_flip y.number x.number other in
        ap (λ (c : tales.Client). c.taken) alike ∙ none_taken was.taken
        ∙ (λ i. was.taken + taken_by (sym (for_other it.client y.number it.choices [] not_its) i) (sym (for_other it.client y.number it.halt Resting not_its) i))
      where
        reads_flip : (a b : ClientNo) → is_client a b ≡ false → is_client b a ≡ false
        reads_flip a b apart = grind arith

    pub somebody_heard : AreHeard service g l bytes (deeds_of given (Some it)) over room now
    somebody_heard = record {
      rests = followed.rests;
      counts = λ y was seated_y seated_was same. counts_by y was seated_y seated_was same (is_its x y.number) refl;
    }

  module _ (is : IsHearing service default g log l bytes given None) (so : HearsSo service default l bytes clock given None t now) where
    abbrev freed_alone : Tale
    freed_alone = hearing.freed laws service default g log t now roomy l bytes clock given None rests is so

    step_is : last ≡ freed_alone
    step_is = nobody.step_is laws service default g log t now roomy l bytes clock given rests is so

    clients_are : last.clients ≡ g.tale.clients
    clients_are =
        ap (λ (tale : Tale). tale.clients) step_is
        ∙ hearing.freed_clients laws service default g log t now roomy l bytes clock given None rests is so

    pub nobody_heard : AreHeard service g l bytes (deeds_of given None) over room now
    nobody_heard = record {
      rests = nobody.nobody_rests laws service default g log t now roomy l bytes clock given rests is so over room overs rooms;
      counts = λ y was seated_y seated_was same.
          ap (λ (c : tales.Client). c.taken)
          (one_seated y was (seats last y.number) (sym seated_y)
          ((λ i. filter (λ (other : tales.Client). is_client other.number (same i)) (clients_are i)) ∙ seated_was))
          ∙ none_taken was.taken;
    }

pub going_heard : (laws : Laws) → Follows → (service : Service) (default : List ℕ) (g : Ground) (log : Log)
    (t now : Tabled) (roomy room over : ClientNo → Bool) (l : LinkId) (bytes : List ℕ) (clock : ℕ) (given : Option GivenUp) (going : Option Going)
    → Rests service g t roomy → IsHearing service default g log l bytes given going → HearsSo service default l bytes clock given going t now
    → ((c : ClientNo) → over c ≡ (g.over c || ends_now g.plan (suc g.tale.moment) c)) → ((c : ClientNo) → room c ≡ false → roomy c ≡ false)
    → AreHeard service g l bytes (deeds_of given going) over room now
going_heard laws follows service default g log t now roomy room over l bytes clock given None rests is so overs rooms =
    nobody_heard laws follows service default g log t now roomy room over l bytes clock given rests overs rooms is so
going_heard laws follows service default g log t now roomy room over l bytes clock given (Some it) rests is so overs rooms =
    somebody_heard laws follows service default g log t now roomy room over l bytes clock given rests overs rooms it is so
