-- The text of a client's execute is to be prepared next on a link.
use Rattle.std.specs.Prelude.{◌≡◌, ◌≤◌, ℕ, List, Option, Some, None}
use Rattle.std.proofs.Common.{refl, sym, ap, ◌∙◌, subst, arith}
use Rattle.client_session.specs.Setups.{Setup as Service}
use Rattle.pin_classifier.specs.Classes.{class_of}
use Rattle.server_rule.specs.Classes.{Reads as Classes}
use Rattle.private_model.specs.Names.{LinkId, SessionName}
use Rattle.private_model.specs.Story as story
use Rattle.private_model.specs.View.{Link}
use Rattle.log_story.specs.Tale.{link_in}
use Rattle.link_state.specs.declared.asking.Form.TheVariants as forms
use Rattle.link_state.specs.declared.asking.Purpose.TheVariants as purposes
use Rattle.link_laws.specs.Stands.{Codes, IsPurpose}
use Rattle.served_link.specs.Begins.{prepares}
use Rattle.served_link.specs.declared.row.Row.{Row}
use Rattle.client_desk.specs.declared.work.Work.{Work}
use Rattle.row_laws.specs.Begins.{IsReadied}
use Rattle.row_laws.specs.Readied.{AreClasses}
use Rattle.core_tables.specs.Preparing.{prep_begun, prep_by, prep_for}
use Rattle.core_tables.specs.Tables.{Tabled}
use Rattle.core_tables.specs.declared.client.Client.{Client}
use Rattle.core_tables.specs.declared.server.Server.{Server}
use Rattle.core_stands.specs.Grounds.{Ground}
use Rattle.core_stands.specs.Servers.{IsTakenUp, keyed_text}
use Rattle.core_stands.specs.Stands.{Stands}
use Rattle.core_laws.specs.writing.Planned.{IsOpen, IsToPrepare}
use Rattle.core_laws.proofs.OfWriting.Knowing.{going, knows, working}
use Rattle.core_laws.proofs.OfWriting.Nexts.{TakesNext, row_next, stands_by}

-- row_laws' preparations_are_readied

abbrev pub PrepsReadied : Type 0
PrepsReadied = (reads : Classes) (codes : Codes) (row : Row) (link : Link) (name n : SessionName) (ordinal number key : ℕ) (text there : List ℕ)
    → AreClasses reads → IsPurpose codes (purposes.Prep name ordinal number) (story.Prep n key there) → text ≡ there
    → IsReadied reads codes (prepares name ordinal number text row) link
    (record { purpose = purposes.Prep name ordinal number; form = forms.Prepare (class_of text) }) (story.Prep n key there)

module _ (takes : TakesNext) (readied : PrepsReadied) (service : Service) (g : Ground) (t : Tabled) (l : LinkId) (server : Server) (n : SessionName)
    (client : Client) (work : Work) (text : List ℕ) (stands : Stands service g t) (open_so : IsOpen g t l server) (classes : AreClasses g.setup.reads)
    (there : t.clients n.client ≡ Some client) (in_work : client.desk.work ≡ Some work) (to : IsToPrepare g l n work.ordinal work.key text) where
  taken_up : IsTakenUp g n work.ordinal
  taken_up =
      let k = knows service g t n.client client stands there in
      let works = working g k.client client work in_work (going g k.client client work in_work k.is) in
      record { client = k.client; seated = k.known.seated; number = k.known.number; by_now = omega (arith, works.last) }

  made : Stands service g (prep_by l n text (Some work) t)
  made =
      stands_by service g t l server stands open_so (prepares n work.ordinal work.key text)
      (row_next takes service g t l server stands open_so _ _ _ None) refl refl refl refl (
        refl,
        record {
          said = λ due dues same.
              readied g.setup.reads g.codes server.row (link_in g.setup g.tale l) n n work.ordinal work.key due.key text (keyed_text g due) classes
              (to.keyed due dues same) (to.text_is due dues same);
          told = to.told;
          taken_up = taken_up;
        },
      )

  prep_is : prep_begun l n text t ≡ prep_by l n text (Some work) t
  prep_is = ap (λ (x : Option Client). prep_for l n text x t) there ∙ ap (λ (x : Option Work). prep_by l n text x t) in_work

  pub prep_so : Stands service g (prep_begun l n text t)
  prep_so = subst (λ (x : Tabled). Stands service g x) (sym prep_is) made
