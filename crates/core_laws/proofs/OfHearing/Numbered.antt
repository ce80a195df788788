-- The number that is read of an answer on a link is the law's.
use Rattle.std.specs.Prelude.{◌≡◌, ℕ, true, false, List}
use Rattle.std.proofs.Common.{◌∙◌}
use Rattle.mx_base.specs.Fields.{AreBytes}
use Rattle.private_model.specs.Names.{LinkId}
use Rattle.private_model.specs.View.{Link, Setup, View, ran_by}
use Rattle.log_story.specs.Plan.{Plan}
use Rattle.log_story.specs.Tale.{Tale, view_of}
use Rattle.log_story.specs.Telling.{wire_with}
use Rattle.link_laws.specs.Stands.{Codes}
use Rattle.lent_link.specs.Hears.{expecting}
use Rattle.served_link.specs.declared.row.Row.{Row}
use Rattle.row_laws.specs.Reads.{IsNumbered}
use Rattle.row_laws.specs.Rows.{IsRowIn, Serves}
use Rattle.row_laws.proofs.Expecting.{expect_so}
use Rattle.row_laws.proofs.Opening.{serves_in}
use Rattle.core_laws.proofs.OfHearing.Expected.{expected}
use Rattle.core_laws.proofs.OfHearing.Spelled.{NumbersAreRead, number_so}

module _ (setup : Setup) (codes : Codes) (plan : Plan) (tale : Tale) (l : LinkId) (row : Row) (bytes : List ℕ)
    (stands_row : IsRowIn setup codes plan tale l row) (entered : (tale.wires l).entered ≡ true) (fine : row.link.spoilt ≡ false)
    (are_bytes : AreBytes bytes) where
  abbrev seen : View
  seen = view_of setup tale

  abbrev link : Link
  link = seen.links l

  abbrev row_due : Row
  row_due = record row { link = expecting row.link }

  abbrev ran_link : Link
  ran_link = ran_by setup.reads link.stage link

  pub due_stands : Serves setup.reads codes (plan.logins l) seen row_due (tale.wires l) ran_link
  due_stands =
      expect_so setup.reads codes (plan.logins l) seen row (tale.wires l) link
      (serves_in setup.reads codes (plan.logins l) seen row (tale.wires l) link entered stands_row) fine

  pub due_fine : (expecting row.link).spoilt ≡ false
  due_fine = (expected row.link).spoilt ∙ fine

  pub numbered_so : NumbersAreRead → IsNumbered bytes row (wire_with tale l bytes)
  numbered_so numbers = λ asking end rest there ended.
      number_so numbers setup.reads codes (plan.logins l) seen row_due (tale.wires l) ran_link due_stands due_fine bytes are_bytes asking end rest there ended
