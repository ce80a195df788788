use Rattle.core_laws.proofs.OfTaking.Joining.{fields_form, query_form, schema_form}
use Rattle.core_laws.proofs.taking.joins.forms_are_asked.Goals as goal

pub returns-clause-query : goal.returns-clause-query
returns-clause-query c = query_form

pub returns-clause-schema : goal.returns-clause-schema
returns-clause-schema c = schema_form

pub returns-clause-fields : goal.returns-clause-fields
returns-clause-fields c = fields_form
