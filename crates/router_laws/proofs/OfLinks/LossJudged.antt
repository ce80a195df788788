-- What becomes of the messages of the one client that goes on as a link to a server is lost.
use Rattle.std.specs.Prelude.{◌≡◌, ◌⊎◌, suc, Bool, length, List, Option, Some, None}
use Rattle.std.proofs.Common.{refl, sym, subst, inl, inr, arith}
use Rattle.mx_wire.specs.Log.{Log}
use Rattle.mx_wire.specs.Tells.{MayFollow}
use Rattle.mx_wire.specs.declared.entry.Entry.{Entry}
use Rattle.core_service.specs.Serves.{rules_in}
use Rattle.core_service.specs.declared.service.Service.{Service}
use Rattle.core_texts.specs.declared.texts.Texts.{Texts}
use Rattle.core_promises.specs.Ruled.{Ruling, book_of, ruling_of}
use Rattle.core_promises.specs.Judges.{Rulebook}
use Rattle.private_model.specs.Names.{ClientNo, LinkId}
use Rattle.private_model.specs.View.{Setup}
use Rattle.link_laws.specs.Stands.{Codes}
use Rattle.log_story.specs.Headline.{tale_of}
use Rattle.log_story.specs.Plan.{Plan}
use Rattle.log_story.specs.Tale as tales
use Rattle.log_story.specs.Tale.{Tale}
use Rattle.log_story.specs.Telling.{tale_step}
use Rattle.step_laws.specs.Seats.{IsSeated}
use Rattle.core_tables.specs.Tables.{Tabled}
use Rattle.core_stands.specs.Grounds.{Ground}
use Rattle.core_laws.proofs.OfEntry.Going.{tale_more}
use Rattle.core_laws.proofs.OfEntry.Lists.{seated_of}
use Rattle.core_laws.proofs.OfHearing.Elsewhere.{CarriedLaw}
use Rattle.core_laws.specs.entry.Cores.{with_entry}
use Rattle.core_laws.specs.entry.Tells.{Fits, IsOf, ground}
use Rattle.core_laws.specs.clients.Going.{GivenUp, Going}
use Rattle.router_promises.specs.Takings.{Taking, takings_at}
use Rattle.router_laws.specs.clients.Continues.{HasCome, WasThere}
use Rattle.router_laws.specs.decisions.Judges.{JudgedFrom, JudgesThen, judging_by}
use Rattle.router_laws.specs.decisions.Deeds.{decided_with}
use Rattle.router_laws.specs.decisions.Goings.{deeds_of}
use Rattle.core_promises.specs.Administers.{Administered}
use Rattle.router_laws.specs.decisions.Routers.{IsBefore, IsRouter}
use Rattle.router_laws.specs.decisions.Rulings.{IsRuledOn, IsSettledFor}
use Rattle.router_laws.proofs.OfDecisions.Causing.{loss_why, loss_parts}
use Rattle.router_laws.proofs.OfDecisions.JudgedOn.{FollowsJudge}
use Rattle.router_laws.proofs.OfDecisions.KeptOn.{follow_held}
use Rattle.router_laws.specs.decisions.Held.{AreHeldFor, AreHeldSince, keys_since}
use Rattle.router_laws.specs.decisions.Causes.{IsLostFor}
use Rattle.router_laws.proofs.OfReading.Judged.{one_judged}
use Rattle.router_laws.specs.reading.Hearing.{TellsSo}
use Rattle.router_laws.proofs.OfLinks.Breaking.{lost_plain}
use Rattle.router_laws.proofs.OfLinks.Going.{IsPlain}
use Rattle.router_laws.proofs.OfLinks.LossOnward as onward
use Rattle.router_laws.proofs.OfLinks.LossOnward.{Laws}
use Rattle.router_laws.proofs.OfDecisions.Stating.{IsNumbered, numbered_then, one_begins, one_ends, one_state}
use Rattle.router_laws.proofs.OfLinks.Losses as losses
use Rattle.router_laws.proofs.OfLinks.Losses.{IsLoss}
use Rattle.router_laws.proofs.OfLinks.OneLoses as somebody
use Rattle.router_laws.specs.links.Loses.{Break, LosesSo, entry_by}
use Rattle.router_laws.specs.decisions.Speaks.{AreGoingOurs}
use Rattle.core_texts.specs.Texts.{key_at}
use Rattle.router_laws.proofs.OfDecisions.Speaking.{known_keys}
use Rattle.router_laws.specs.decisions.Partings.{IsGoingParted}

module _ {texts : Texts} {admin : Administered} (laws : Laws) (judges : FollowsJudge) (carried : CarriedLaw) (service : Service) (log : Log) (t now : Tabled) (roomy : ClientNo → Bool) (l : LinkId) (how : Break)
    (given : Option GivenUp) (router : IsRouter service texts admin log t roomy) (follow : MayFollow log (entry_by how l)) (end : Administered) where
  abbrev e : Entry
  e = entry_by how l

  abbrev book : Rulebook
  book = book_of service

  abbrev ruling : Ruling
  ruling = ruling_of service texts.since (key_at texts) admin end

  module _ (it : Going) (so : LosesSo service.setup service.default_schema l given (Some it) t now)
      (ours : AreGoingOurs (rules_in service) texts (Some it)) (tells : TellsSo (Some it) service.setup)
      (ruled : IsRuledOn ruling (Some it) service.setup service.default_schema so.lost now so.goes)
      (since : AreHeldSince texts service.default_schema router.core.decided log) (setup : Setup) (codes : Codes) (plan : Plan)
      (of : IsOf (decided_with (deeds_of given (Some it)) router.counts log e router.core.decided) (length (with_entry log e)) plan)
      (fits : Fits (decided_with (deeds_of given (Some it)) router.counts log e router.core.decided).keys setup codes plan service.default_schema (tale_of setup plan (with_entry log e))) where
    abbrev g : Ground
    g = ground setup codes plan router.core.decided log

    abbrev last : Tale
    last = tale_step setup plan g.tale e

    before : IsBefore service texts admin log e t roomy router (deeds_of given (Some it)) setup codes plan
    before = onward.before laws service log t now roomy l how given (Some it) router follow so ours tells setup codes plan of fits

    is : IsLoss service.setup service.default_schema g log e given (Some it)
    is = onward.is laws service log t now roomy l how given (Some it) router follow so ours tells setup codes plan of fits

    abbrev x : tales.Client
    x = (somebody.found laws.losses service.setup service.default_schema g log t now roomy l how given it before.rests is so).0

    number : x.number ≡ it.client
    number = somebody.number laws.losses service.setup service.default_schema g log t now roomy l how given it before.rests is so

    abbrev takings : List Taking
    takings = takings_at setup plan g.tale e

    judged : JudgedFrom (judging_by service admin end) setup plan x takings x.taken it.choices it.halt
    judged =
        judges ruling service.setup service.default_schema g so.lost so.goes.turned g.fresh e x
        (losses.later laws.losses service.setup service.default_schema g log t now roomy l how given (Some it) before.rests is so)
        it.choices it.halt it.parting it.client number
        (somebody.following laws.losses service.setup service.default_schema g log t now roomy l how given it before.rests is so)
        (losses.lost_stands laws.losses service.setup service.default_schema g log t now roomy l how given (Some it) before.rests is so)
        fits.single so.goes.turns ruled
        (follow_held (keys_since texts.since (key_at texts)) service.setup service.default_schema setup codes plan router.core.decided log t so.lost g.fresh e x
        (losses.later laws.losses service.setup service.default_schema g log t now roomy l how given (Some it) before.rests is so)
        it.choices it.halt it.parting
        (somebody.following laws.losses service.setup service.default_schema g log t now roomy l how given it before.rests is so)
        (losses.lost_stands laws.losses service.setup service.default_schema g log t now roomy l how given (Some it) before.rests is so)
        before.rests.stands (somebody.seated laws.losses service.setup service.default_schema g log t now roomy l how given it before.rests is so)
        (since setup codes plan before.of before.fits))
        (known_keys texts router.core.decided.keys router.known setup fits.keyed)

    plain : IsPlain g.tale e
    plain = lost_plain g.tale how l

    abbrev IsJudgedBy : tales.Client → Type 0
    IsJudgedBy y =
        JudgedFrom (judging_by service (one_state it.client admin end y.number.0) (one_state it.client admin end (suc y.number.0))) setup plan y takings
        (router.counts.taken y.number) ((deeds_of given (Some it)).calls y.number) ((deeds_of given (Some it)).halts y.number)

    numbered : IsNumbered (tale_of setup plan (with_entry log e)) it.client
    numbered =
        subst (IsNumbered (tale_of setup plan (with_entry log e))) number
        (numbered_then setup plan log e x
        (somebody.seated laws.losses service.setup service.default_schema g log t now roomy l how given it before.rests is so))

    by_was : (y : tales.Client) → WasThere plan g.tale e y ⊎ HasCome g.tale e y
        → IsJudgedBy y
    by_was y (inr come) = absurd (plain.comes y come)
    by_was y (inl was) =
        one_judged book admin end setup plan g.tale e router.counts.taken before.counts.taken given it x
        (somebody.seated laws.losses service.setup service.default_schema g log t now roomy l how given it before.rests is so) number takings judged y was.was
        was.seated was.continued (plain.reads was.was.link)

    one_judges : (y : tales.Client) → IsSeated (tale_of setup plan (with_entry log e)) y
        → IsJudgedBy y
    one_judges y seated =
        by_was y
        (seated_of (λ (z : tales.Client). WasThere plan g.tale e z ⊎ HasCome g.tale e z) last y
        (subst (λ (tale : Tale). IsSeated tale y) (tale_more setup plan log e) seated)
        (onward.were laws service log t now roomy l how given (Some it) router follow so ours tells setup codes plan of fits))

  pub loses_judge : (going : Option Going) (so : LosesSo service.setup service.default_schema l given going t now)
      → AreGoingOurs (rules_in service) texts going → TellsSo going service.setup
      → IsRuledOn ruling going service.setup service.default_schema so.lost now so.goes → IsLostFor l t given → IsGoingParted service.buffer_budget l t going
      → AreHeldFor going texts service.default_schema router.core.decided log → IsSettledFor going service admin
      → JudgesThen service log e router.core.decided router.counts (deeds_of given going) admin end
  loses_judge None so ours tells ruled why parted since settled = λ setup codes plan of fits. record {
    states = λ number. admin;
    begins = refl;
    ends = sym ruled;
    forced = λ c some. absurd (omega (arith, some));
    takes = λ y seated. ((tt, tt), refl);
    gives = onward.sent laws service log t now roomy l how given None router follow so ours tells setup codes plan of fits;
    why = loss_why carried service.wait_ms setup codes plan router.core.decided log t l so.server so.there
        ((onward.before laws service log t now roomy l how given None router follow so ours tells setup codes plan of fits).rests.stands.servers l) router.counts.taken how given why;
    parts = loss_parts carried service.wait_ms setup codes plan router.core.decided log t l so.server so.there
        ((onward.before laws service log t now roomy l how given None router follow so ours tells setup codes plan of fits).rests.stands.servers l)
        service.buffer_budget how given None parted;
  }
  loses_judge (Some it) so ours tells ruled why parted since settled = λ setup codes plan of fits. record {
    states = one_state it.client admin end;
    begins = one_begins (tale_of setup plan (with_entry log e)) it.client admin end (numbered it so ours tells ruled since setup codes plan of fits);
    ends = one_ends (tale_of setup plan (with_entry log e)) it.client admin end (numbered it so ours tells ruled since setup codes plan of fits);
    forced = λ c some. settled;
    takes = λ y seated. one_judges it so ours tells ruled since setup codes plan of fits y seated;
    gives = onward.sent laws service log t now roomy l how given (Some it) router follow so ours tells setup codes plan of fits;
    why = loss_why carried service.wait_ms setup codes plan router.core.decided log t l so.server so.there
        ((onward.before laws service log t now roomy l how given (Some it) router follow so ours tells setup codes plan of fits).rests.stands.servers l) router.counts.taken how given why;
    parts = loss_parts carried service.wait_ms setup codes plan router.core.decided log t l so.server so.there
        ((onward.before laws service log t now roomy l how given (Some it) router follow so ours tells setup codes plan of fits).rests.stands.servers l)
        service.buffer_budget how given (Some it) parted;
  }
