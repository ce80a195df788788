-- A client's link is to be read, or it has something in work and sent a mebibyte more.
use Rattle.std.specs.Prelude.{◌≡◌, ◌⊎◌, ◌≤◌, ◌&&◌, ◌||◌, ℕ, Bool, true, false, length, nat_lt, not, List, Option, Some}
use Rattle.std.proofs.Common.{refl, sym, ap, ◌∙◌, subst, inl, inr}
use Rattle.std.proofs.lemmas.Bool.{le-leb, ltb-false, true≢false}
use Rattle.server_side.specs.Account.{Account}
use Rattle.client_seat.specs.Seats.{is_ended, wants_read}
use Rattle.client_seat.specs.Stands.{IsHeardIn, IsServed}
use Rattle.client_seat.specs.declared.phase.Phase.{Phase}
use Rattle.client_seat.specs.declared.phase.Phase.TheVariants as phase
use Rattle.client_seat.specs.declared.seat.Seat.{Seat}
use Rattle.client_session.specs.Answers.{account_in, commands, commands_in, if_known, opening_of}
use Rattle.client_side.specs.Login.{Fails, Opening, Says, Waits}
use Rattle.private_model.specs.Names.{ClientNo}
use Rattle.link_laws.specs.Stands.{Codes}
use Rattle.log_story.specs.Clients.{is_answered}
use Rattle.log_story.specs.Owed.{talk_of}
use Rattle.log_story.specs.Tale as tales
use Rattle.core_tables.specs.Tables.{Tabled}
use Rattle.core_stands.specs.Stands.{IsAt}
use Rattle.core_stands.specs.Servers.{IsServerOr}
use Rattle.core_stands.specs.Grounds.{view_on}
use Rattle.core_says.specs.Says.{reads_in}
use Rattle.router_promises.specs.Ends.{behind, kept, kept_by, was_answered}
use Rattle.router_promises.specs.Now.{Now}
use Rattle.router_promises.specs.Rest.{is_ahead}
use Rattle.router_promises.specs.Terms.{Terms, plan_in}
use Rattle.router_laws.proofs.OfWaits.Kept.{mebibyte_left}
use Rattle.router_laws.proofs.OfWaits.Rows.{HasRow, ground_now}
use Rattle.router_laws.proofs.OfWaits.Telling.{reads_own}

module _ (terms : Terms) (client : tales.Client) where
  -- what is kept of one that is logged in is behind its messages that were taken up
  kept_as : (account : Account) (opening : Opening) → account_in (talk_of (plan_in terms) client) opening ≡ Some account
      → kept_by terms client opening ≡ behind client.taken (plan_in terms).service.limit (commands_in (talk_of (plan_in terms) client) opening)
  kept_as account (Waits switched) is = absurd (cc)
  kept_as account (Says switched response id rest) is =
      ap (λ (a : Option Account). behind client.taken (plan_in terms).service.limit (if_known a rest)) (sym is)
  kept_as account (Fails switched fault id) is = absurd (cc)

  kept_many : (seat : Seat) (account : Account) → IsServed (plan_in terms) client seat account → 1048576 ≤ length seat.client.framer.kept
      → 1048576 ≤ length (kept terms client)
  kept_many seat account served many =
      let talk = talk_of (plan_in terms) client in
      let limit = (plan_in terms).service.limit in
      let gone : 1048576 ≤ length (behind (length served.gone) limit (commands talk)) =
      mebibyte_left limit served.gone (commands talk) seat.client.framer.kept served.rest many in
      let taken : 1048576 ≤ length (behind client.taken limit (commands talk)) =
      subst (λ (n : ℕ). 1048576 ≤ length (behind n limit (commands talk))) served.size gone in
      subst (λ (bytes : List ℕ). 1048576 ≤ length bytes) (sym (kept_as account (opening_of talk) served.known)) taken

module _ (terms : Terms) (codes : Codes) (over : ClientNo → Bool) (now : Now) (t : Tabled) (client : tales.Client)
    (has : HasRow (ground_now terms codes over now) t client) (at : IsAt (ground_now terms codes over now) t client)
    (servers : IsServerOr (ground_now terms codes over now) t client.link (t.links client.link)) where
  abbrev seat : Seat
  seat = has.row.desk.seat

  kept_by_phase : (at_phase : Phase) → is_ended at_phase ≡ false → was_answered terms now client ≡ false
      → IsHeardIn at_phase (plan_in terms) client seat → 1048576 ≤ length seat.client.framer.kept → 1048576 ≤ length (kept terms client)
  kept_by_phase phase.LoggingIn goes none heard many =
      absurd (true≢false (sym (ap (is_answered (plan_in terms) now.tale (view_on (ground_now terms codes over now)) client) heard.untaken) ∙ none))
  kept_by_phase (phase.Serving account) goes none heard many = kept_many terms client seat account heard many
  kept_by_phase phase.Ended goes none heard many = absurd (true≢false goes)

  wants_by : (answered less : Bool) → seat.answered ≡ answered → nat_lt (length seat.client.framer.kept) 1048576 ≡ less
      → (wants_read seat ≡ true) ⊎ (is_ahead terms now client ≡ true)
  wants_by true less is_so below =
      inl (ap (λ (b : Bool). not b && (seat.answered || nat_lt (length seat.client.framer.kept) 1048576)) has.goes
      ∙ ap (λ (b : Bool). b || nat_lt (length seat.client.framer.kept) 1048576) is_so)
  wants_by false true is_so below =
      inl (ap (λ (b : Bool). not b && (seat.answered || nat_lt (length seat.client.framer.kept) 1048576)) has.goes
      ∙ (λ i. is_so i || below i))
  wants_by false false is_so below =
      let none : was_answered terms now client ≡ false = sym has.going.answered ∙ is_so in
      let many : 1048576 ≤ length (kept terms client) =
      kept_by_phase seat.phase has.goes none has.stands.heard (ltb-false _ _ below) in
      inr (λ i. not (none i) && le-leb 1048576 (length (kept terms client)) many i)

  pub read_or : (reads_in t client.link ≡ true) ⊎ (is_ahead terms now client ≡ true)
  read_or = elim (wants_by seat.answered (nat_lt (length seat.client.framer.kept) 1048576) refl refl) [
    | inl wants ↦ inl (reads_own (ground_now terms codes over now) t client has at servers ∙ wants)
    | inr ahead ↦ inr ahead
  ]
