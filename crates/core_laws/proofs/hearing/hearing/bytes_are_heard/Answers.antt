use Rattle.core_laws.proofs.OfHearing.Reading.{read_stands}
use Rattle.core_laws.proofs.OfWriting.Numbering.{apart_named}
use Rattle.core_laws.proofs.hearing.hearing.bytes_are_heard.Goals as goal

pub returns : goal.returns
returns c = λ service g t mid new l server bytes now result stands to_server there kept fine named are some is keeps lawful.
    read_stands
    (record {
      hears = c.steps_are_heard.ensures;
      answers = c.answers_stand.ensures;
      parts = c.parted_stays.ensures;
      comes = c.coming_stays.ensures;
      rows = c.homes_have_rows.ensures;
    })
    (record { enter = c.rows_enter.ensures; hear = c.rows_hear.ensures })
    c.clients_at_stay.ensures c.carried_homes.ensures.row c.lawful_homes.ensures c.numbers_are_read.ensures c.statements_are_in_work.ensures
    c.rows_of_others_stay.ensures.all c.same_stands.ensures service g t stands l server there to_server kept fine (apart_named g.codes named) bytes are some now
    mid new result named is keeps lawful
