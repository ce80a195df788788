-- What a client is answered.
use Rattle.std.specs.Prelude.{ℕ, Bool, true, List}
use Rattle.packet_frame.specs.Packets.{spellings}
use Rattle.pin_classifier.specs.declared.class.Class.{Class}
use Rattle.client_seat.specs.Outgoing.{came, comes, said}
use Rattle.client_seat.specs.Seats.{Seat, place_by}

-- by the router itself
abbrev pub answered : (payloads : List (List ℕ)) → Seat → Seat
answered payloads seat = record seat { answered = true; outbox = said (spellings seat.first payloads) seat.outbox }

-- by a reply, which comes in pieces, and is whole then

abbrev pub grown : (packets : List ℕ) → Seat → Seat
grown packets seat = record seat { outbox = comes packets seat.outbox }

abbrev pub replied : Seat → Seat
replied seat = record seat { answered = true; outbox = came seat.outbox }

-- which may move it
abbrev pub moved : Class → (ok : Bool) → Seat → Seat
moved class ok seat = record seat { place = place_by class ok seat.place }
