use Rattle.std.specs.Prelude.{◌≡◌, ◌+◌, ℕ, true, []}
use Rattle.std.proofs.Common.{sym, ap, ◌∙◌, subst}
use Rattle.std.proofs.lemmas.List.Elements.{All-nil}
use Rattle.log_story.specs.Clients.{client_goes_on}
use Rattle.log_story.specs.Servers.{links_are_freed}
use Rattle.log_story.specs.Tale as tales
use Rattle.private_model.specs.Names.{ClientNo}
use Rattle.mx_wire.specs.declared.entry.Entry.TheVariants.{Got}
use Rattle.step_laws.proofs.Leaving.{none_ended}
use Rattle.step_laws.proofs.Stepping.{step_one}
use Rattle.step_laws.specs.Freed.{freed_in}
use Rattle.step_laws.specs.Seats.{is_its}
use Rattle.step_laws.specs.Steps.{IsOfOne, told_then}
use Rattle.step_laws.specs.Taken.{all_taken}
use Rattle.core_stands.specs.Grounds.{freshened, on, view_on}
use Rattle.core_stands.specs.Stands.{Stands}
use Rattle.core_laws.specs.clients.Speaks.{spoke_more, spoken}
use Rattle.core_laws.proofs.OfClients.Speaking.{begins, chosen, endless_then, ends_same, idle_last, looked_for, said_is, spared, stands_spoken, still_then, tells}
use Rattle.core_laws.specs.clients.Turns.{count_by}
use Rattle.core_laws.proofs.clients.speaks.speaks_rest.Goals as goal

pub returns : goal.returns
returns c = λ service default g t now roomy link bytes client choices halt links rests is so goes.
    let e = Got link bytes in
    let said = spoke_more bytes client in
    let then_told = told_then g.setup g.plan g.tale e in
    let hears = c.clients_speak.ensures.kept service g t so.heard link bytes client.number so.row rests.stands so.numbered so.there so.going so.hears in
    let counts = c.counts_alone.ensures service _ so.heard hears
    (still_then service default g t now roomy link bytes client choices halt links rests is so) in
    let none_ends = none_ended g.plan then_told
    (endless_then service default g t now roomy link bytes client choices halt links rests is so) in
    let same = said_is service default g t now roomy link bytes client choices halt links rests is so in
    let of_one : IsOfOne g.setup g.plan g.tale e said [] then_told =
    subst (λ (x : tales.Client). IsOfOne g.setup g.plan g.tale e x [] then_told) same
    (c.entries_of_a_speaker.ensures.one g link bytes client [] rests.over is.speaks none_ends) in
    let takes : client_goes_on g.setup g.plan (view_on g) e then_told said ≡ all_taken g.setup g.plan said then_told =
    subst (λ (x : tales.Client). client_goes_on g.setup g.plan (view_on g) e then_told x ≡ all_taken g.setup g.plan x then_told) same
    (c.entries_of_a_speaker.ensures.takes g link bytes client rests.over is.speaks) in
    let taken : ℕ = said.taken + count_by choices halt in
    let turned = looked_for halt service said then_told taken (freshened client.number (on g then_told)) client.number so.turned goes
    (c.turns_stand.ensures service default said said then_told (freshened client.number (on g then_told)) so.heard so.turned choices halt
    (begins service default g t now roomy link bytes client choices halt links rests is so counts of_one.seated)
    (chosen service default g t now roomy link bytes client choices halt links rests is so) so.turns) in
    let stood = stands_spoken service default g t now roomy link bytes client choices halt links rests is so taken turned in
    let freed = c.links_are_given_back.ensures service (on g (spoken g link bytes client)) so.turned links stood is.theirs in
    let step = step_one g.setup g.plan g.tale e said [] then_told (freed_in g.setup g.plan links (spoken g link bytes client)) of_one
    (ap (links_are_freed g.setup g.plan) takes ∙ is.all) in
    c.entries_of_one.ensures service g t now roomy roomy e g.over said [] then_told rests of_one (All-nil (λ (n : ClientNo). is_its said n ≡ true))
    (tells service default g t now roomy link bytes client choices halt links rests is so)
    (spared service default g t now roomy link bytes client choices halt links rests is so)
    (subst (λ (tale : tales.Tale). Stands service (on g tale) now) (sym step)
    (c.same_stands.ensures service _ _ now freed so.freed))
    (ends_same service default g t now roomy link bytes client choices halt links rests is so)
    (λ n aside full. full)
    (idle_last service default g t now roomy link bytes client choices halt links rests is so taken turned step)
