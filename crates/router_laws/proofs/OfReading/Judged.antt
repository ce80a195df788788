-- What becomes of the messages of the one client that goes on with bytes on a link to a server.
use Rattle.std.specs.Prelude.{◌≡◌, ◌⊎◌, ℕ, suc, Bool, true, false, All, length, List, [], ◌∷◌, Option, Some, None}
use Rattle.std.proofs.Common.{refl, sym, ap, ◌∙◌, subst, inl, inr}
use Rattle.mx_base.specs.Fields.{AreBytes}
use Rattle.mx_wire.specs.Log.{Log}
use Rattle.mx_wire.specs.Tells.{MayFollow}
use Rattle.mx_wire.specs.declared.entry.Entry.{Entry}
use Rattle.mx_wire.specs.declared.entry.Entry.TheVariants as entry
use Rattle.core_service.specs.Serves.{rules_in}
use Rattle.core_service.specs.declared.service.Service.{Service}
use Rattle.core_texts.specs.declared.texts.Texts.{Texts}
use Rattle.core_promises.specs.Ruled.{Ruling, book_of, ruling_of}
use Rattle.core_promises.specs.Judges.{Rulebook}
use Rattle.private_model.proofs.Maps.{client_of}
use Rattle.private_model.specs.Names.{ClientNo, LinkId}
use Rattle.private_model.specs.Story.{is_client, is_link_id}
use Rattle.private_model.specs.View.{Setup}
use Rattle.link_laws.specs.Stands.{Codes}
use Rattle.log_story.specs.Headline.{tale_of}
use Rattle.log_story.specs.Plan.{Plan}
use Rattle.log_story.specs.Tale as tales
use Rattle.log_story.specs.Tale.{Tale}
use Rattle.log_story.specs.Telling.{tale_step}
use Rattle.step_laws.specs.Seats.{IsSeated, seats}
use Rattle.core_tables.specs.Tables.{Tabled}
use Rattle.core_stands.specs.Grounds.{Ground}
use Rattle.core_laws.proofs.OfEntry.Going.{tale_more}
use Rattle.core_laws.proofs.OfEntry.Lists.{seated_of}
use Rattle.core_laws.proofs.OfHearing.Elsewhere.{CarriedLaw}
use Rattle.core_laws.specs.entry.Cores.{with_entry}
use Rattle.core_laws.specs.entry.Tells.{Fits, IsOf, ground}
use Rattle.core_laws.specs.clients.Going.{GivenUp, Going}
use Rattle.core_laws.specs.clients.Turns.{Choice, Halt, Rests}
use Rattle.router_promises.specs.Takings.{Taking, takings_at}
use Rattle.router_laws.specs.clients.Continues.{HasCome, IsContinued, WasThere, is_read_on}
use Rattle.router_laws.proofs.OfDecisions.Stating.{IsNumbered, its_state, numbered_then, one_begins, one_ends, one_state, others_state}
use Rattle.router_laws.specs.decisions.Judges.{JudgedFrom, JudgesThen, judging_by}
use Rattle.router_laws.specs.decisions.Deeds.{decided_with}
use Rattle.router_laws.specs.decisions.Goings.{deeds_of}
use Rattle.core_promises.specs.Administers.{Administered}
use Rattle.router_laws.specs.decisions.Routers.{IsBefore, IsRouter}
use Rattle.router_laws.specs.decisions.Rulings.{IsRuledOn}
use Rattle.router_laws.proofs.OfDecisions.Causing.{heard_why, heard_parts}
use Rattle.router_laws.proofs.OfDecisions.JudgedOn.{FollowsJudge, judged_on}
use Rattle.router_laws.proofs.OfDecisions.KeptOn.{follow_held}
use Rattle.router_laws.specs.decisions.Held.{AreHeldSince, keys_since}
use Rattle.router_laws.specs.decisions.Causes.{IsHeardFor}
use Rattle.router_laws.proofs.OfReading.Hearing as hearing
use Rattle.router_laws.proofs.OfReading.Onward as onward
use Rattle.router_laws.proofs.OfReading.Onward.{Laws}
use Rattle.router_laws.proofs.OfReading.Somebody as somebody
use Rattle.router_laws.proofs.OfReading.Somebody.{for_other, for_same}
use Rattle.router_laws.specs.reading.Hearing.{IsHearing}
use Rattle.router_laws.specs.reading.Hears.{HearsSo}
use Rattle.router_laws.specs.decisions.Speaks.{AreGoingOurs}
use Rattle.core_texts.specs.Texts.{key_at}
use Rattle.router_laws.proofs.OfDecisions.Speaking.{known_keys}
use Rattle.router_laws.specs.decisions.Partings.{IsGoingParted}

-- who stands alone with a number is one
pub one_seated : (x was : tales.Client) (xs : List tales.Client) → x ∷ [] ≡ xs → xs ≡ was ∷ [] → x ≡ was
one_seated x was xs first second = let both : x ∷ [] ≡ was ∷ [] = first ∙ second in cc

-- One client goes on, at an entry that reads nothing of any.
module _ (book : Rulebook) (start end : Administered) (setup : Setup) (plan : Plan) (tale : Tale) (e : Entry) (taken : ClientNo → ℕ)
    (counted : All (λ (x : tales.Client). x.taken ≡ taken x.number) tale.clients) (given : Option GivenUp) (it : Going) (x : tales.Client)
    (seated : IsSeated tale x) (number : x.number ≡ it.client) (takings : List Taking)
    (judged : JudgedFrom (record { book = book; was = start; is = end }) setup plan x takings x.taken it.choices it.halt) where
  abbrev state : (number : ℕ) → Administered
  state number = one_state it.client start end number

  abbrev pub Judged : tales.Client → List Choice → Halt → Type 0
  Judged y choices halt =
      JudgedFrom (record { book = book; was = state y.number.0; is = state (suc y.number.0) }) setup plan y takings (taken y.number) choices halt

  one_by : (y was : tales.Client) → IsSeated tale was → IsContinued plan tale e was y → is_read_on e was.link ≡ false → (b : Bool)
      → is_client it.client y.number ≡ b → Judged y ((deeds_of given (Some it)).calls y.number) ((deeds_of given (Some it)).halts y.number)
  one_by y was seated_was on unread true its =
      let no : x.number ≡ was.number = number ∙ client_of it.client y.number its ∙ on.number in
      let same : x ≡ was = one_seated x was (seats tale was.number) (sym seated ∙ ap (seats tale) no) seated_was in
      subst (λ (choices : List Choice). Judged y choices ((deeds_of given (Some it)).halts y.number)) (sym (for_same it.client y.number it.choices [] its))
      (subst (Judged y it.choices) (sym (for_same it.client y.number it.halt Rests its))
      (judged_on (record { book = book; was = state y.number.0; is = state (suc y.number.0) }) setup plan takings tale e was y on unread (taken y.number)
      (seated_of (λ (z : tales.Client). z.taken ≡ taken z.number) tale was seated_was counted ∙ ap taken (sym on.number)) it.choices it.halt
      (subst (λ (z : tales.Client). JudgedFrom (record { book = book; was = state y.number.0; is = state (suc y.number.0) }) setup plan z takings z.taken it.choices it.halt)
      same
      (subst (λ (c : ClientNo). JudgedFrom (record { book = book; was = state c.0; is = state (suc c.0) }) setup plan x takings x.taken it.choices it.halt)
      (client_of it.client y.number its)
      (its_state it.client start end
      (λ (a b : Administered). JudgedFrom (record { book = book; was = a; is = b }) setup plan x takings x.taken it.choices it.halt) judged)))))
  one_by y was seated_was on unread false other =
      subst (λ (choices : List Choice). Judged y choices ((deeds_of given (Some it)).halts y.number)) (sym (for_other it.client y.number it.choices [] other))
      (subst (Judged y []) (sym (for_other it.client y.number it.halt Rests other)) ((tt, tt), others_state it.client start end y.number.0 other))

  pub one_judged : (y was : tales.Client) → IsSeated tale was → IsContinued plan tale e was y → is_read_on e was.link ≡ false
      → Judged y ((deeds_of given (Some it)).calls y.number) ((deeds_of given (Some it)).halts y.number)
  one_judged y was seated_was on unread = one_by y was seated_was on unread (is_client it.client y.number) refl

module _ {texts : Texts} {admin : Administered} (laws : Laws) (judges : FollowsJudge) (carried : CarriedLaw) (service : Service) (log : Log) (t now : Tabled) (roomy : ClientNo → Bool) (l : LinkId) (bytes : List ℕ)
    (clock : ℕ) (given : Option GivenUp) (router : IsRouter service texts admin log t roomy) (follow : MayFollow log (entry.Got l bytes))
    (bytes_are : AreBytes bytes) (since : AreHeldSince texts service.default_schema router.core.decided log)
    (end : Administered) (settled : admin.rules ≡ rules_in service) where
  abbrev e : Entry
  e = entry.Got l bytes

  abbrev book : Rulebook
  book = book_of service

  abbrev ruling : Ruling
  ruling = ruling_of service texts.since (key_at texts) admin end

  module _ (it : Going) (so : HearsSo service.setup service.default_schema l bytes clock given (Some it) t now)
      (ours : AreGoingOurs (rules_in service) texts (Some it))
      (ruled : IsRuledOn ruling (Some it) service.setup service.default_schema so.freed now so.goes) (setup : Setup) (codes : Codes) (plan : Plan)
      (of : IsOf (decided_with (deeds_of given (Some it)) router.counts log e router.core.decided) (length (with_entry log e)) plan)
      (fits : Fits (decided_with (deeds_of given (Some it)) router.counts log e router.core.decided).keys setup codes plan service.default_schema (tale_of setup plan (with_entry log e))) where
    abbrev g : Ground
    g = ground setup codes plan router.core.decided log

    abbrev last : Tale
    last = tale_step setup plan g.tale e

    before : IsBefore service texts admin log e t roomy router (deeds_of given (Some it)) setup codes plan
    before = onward.before laws service log t now roomy l bytes clock given (Some it) router follow bytes_are so ours setup codes plan of fits

    is : IsHearing service.setup service.default_schema g log l bytes given (Some it)
    is = onward.is laws service log t now roomy l bytes clock given (Some it) router follow bytes_are so ours setup codes plan of fits

    abbrev x : tales.Client
    x = (somebody.found laws.reads service.setup service.default_schema g log t now roomy l bytes clock given it before.rests is so).0

    number : x.number ≡ it.client
    number = somebody.number laws.reads service.setup service.default_schema g log t now roomy l bytes clock given it before.rests is so

    abbrev takings : List Taking
    takings = takings_at setup plan g.tale e

    judged : JudgedFrom (judging_by service admin end) setup plan x takings x.taken it.choices it.halt
    judged =
        judges ruling service.setup service.default_schema g so.freed so.goes.turned g.fresh e x
        (hearing.freed laws.reads service.setup service.default_schema g log t now roomy l bytes clock given (Some it) before.rests is so)
        it.choices it.halt it.parting it.client number
        (somebody.following laws.reads service.setup service.default_schema g log t now roomy l bytes clock given it before.rests is so)
        (hearing.freed_stands laws.reads service.setup service.default_schema g log t now roomy l bytes clock given (Some it) before.rests is so)
        fits.single so.goes.turns ruled
        (follow_held (keys_since texts.since (key_at texts)) service.setup service.default_schema setup codes plan router.core.decided log t so.freed g.fresh e x
        (hearing.freed laws.reads service.setup service.default_schema g log t now roomy l bytes clock given (Some it) before.rests is so)
        it.choices it.halt it.parting
        (somebody.following laws.reads service.setup service.default_schema g log t now roomy l bytes clock given it before.rests is so)
        (hearing.freed_stands laws.reads service.setup service.default_schema g log t now roomy l bytes clock given (Some it) before.rests is so)
        before.rests.stands (somebody.seated laws.reads service.setup service.default_schema g log t now roomy l bytes clock given it before.rests is so)
        (since setup codes plan before.of before.fits))
        (known_keys texts router.core.decided.keys router.known setup fits.keyed)

    abbrev IsJudgedBy : tales.Client → Type 0
    IsJudgedBy y =
        JudgedFrom (judging_by service (one_state it.client admin end y.number.0) (one_state it.client admin end (suc y.number.0))) setup plan y takings
        (router.counts.taken y.number) ((deeds_of given (Some it)).calls y.number) ((deeds_of given (Some it)).halts y.number)

    numbered : IsNumbered (tale_of setup plan (with_entry log e)) it.client
    numbered =
        subst (IsNumbered (tale_of setup plan (with_entry log e))) number
        (numbered_then setup plan log e x
        (somebody.seated laws.reads service.setup service.default_schema g log t now roomy l bytes clock given it before.rests is so))

    by_was : (y : tales.Client) → WasThere plan g.tale e y ⊎ HasCome g.tale e y
        → IsJudgedBy y
    by_was y (inr come) = absurd come
    by_was y (inl was) =
        one_judged book admin end setup plan g.tale e router.counts.taken before.counts.taken given it x
        (somebody.seated laws.reads service.setup service.default_schema g log t now roomy l bytes clock given it before.rests is so) number takings judged y was.was
        was.seated was.continued
        (onward.unread_by laws service log t now roomy l bytes clock given (Some it) router follow bytes_are so ours setup codes plan of fits was.was was.seated
        (is_link_id was.was.link l) refl)

    one_judges : (y : tales.Client) → IsSeated (tale_of setup plan (with_entry log e)) y
        → IsJudgedBy y
    one_judges y seated =
        by_was y
        (seated_of (λ (z : tales.Client). WasThere plan g.tale e z ⊎ HasCome g.tale e z) last y
        (subst (λ (tale : Tale). IsSeated tale y) (tale_more setup plan log e) seated)
        (onward.were laws service log t now roomy l bytes clock given (Some it) router follow bytes_are so ours setup codes plan of fits))

  pub hears_judge : (going : Option Going) (so : HearsSo service.setup service.default_schema l bytes clock given going t now)
      → AreGoingOurs (rules_in service) texts going → IsRuledOn ruling going service.setup service.default_schema so.freed now so.goes
      → IsHeardFor l t given → IsGoingParted service.buffer_budget l t going → JudgesThen service log e router.core.decided router.counts (deeds_of given going) admin end
  hears_judge None so ours ruled why parted = λ setup codes plan of fits. record {
    states = λ number. admin;
    begins = refl;
    ends = sym ruled;
    forced = λ c some. settled;
    takes = λ y seated. ((tt, tt), refl);
    gives = onward.sent laws service log t now roomy l bytes clock given None router follow bytes_are so ours setup codes plan of fits;
    why = heard_why carried service.wait_ms setup codes plan router.core.decided log t l so.server so.there
        ((onward.before laws service log t now roomy l bytes clock given None router follow bytes_are so ours setup codes plan of fits).rests.stands.servers l)
        router.counts.taken bytes given why;
    parts = heard_parts carried service.wait_ms setup codes plan router.core.decided log t l so.server so.there
        ((onward.before laws service log t now roomy l bytes clock given None router follow bytes_are so ours setup codes plan of fits).rests.stands.servers l)
        service.buffer_budget bytes given None parted;
  }
  hears_judge (Some it) so ours ruled why parted = λ setup codes plan of fits. record {
    states = one_state it.client admin end;
    begins = one_begins (tale_of setup plan (with_entry log e)) it.client admin end (numbered it so ours ruled setup codes plan of fits);
    ends = one_ends (tale_of setup plan (with_entry log e)) it.client admin end (numbered it so ours ruled setup codes plan of fits);
    forced = λ c some. settled;
    takes = λ y seated. one_judges it so ours ruled setup codes plan of fits y seated;
    gives = onward.sent laws service log t now roomy l bytes clock given (Some it) router follow bytes_are so ours setup codes plan of fits;
    why = heard_why carried service.wait_ms setup codes plan router.core.decided log t l so.server so.there
        ((onward.before laws service log t now roomy l bytes clock given (Some it) router follow bytes_are so ours setup codes plan of fits).rests.stands.servers l)
        router.counts.taken bytes given why;
    parts = heard_parts carried service.wait_ms setup codes plan router.core.decided log t l so.server so.there
        ((onward.before laws service log t now roomy l bytes clock given (Some it) router follow bytes_are so ours setup codes plan of fits).rests.stands.servers l)
        service.buffer_budget bytes given (Some it) parted;
  }
