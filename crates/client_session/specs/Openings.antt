-- How much of a client's bytes its login takes.
use Rattle.client_side.specs.Login.{Says, answer_in, by_answer, by_message, by_response, login_limit, needs_switch, opening}
use Rattle.packet_frame.specs.Packets.{Found, Framed, first_message, next_id}
use Rattle.std.specs.Prelude.{Bool, Err, List, Ok, Result, cond, false, length, refl, true, ℕ, ◌≡◌, ◌≤◌}
use Rattle.handshake.specs.{Response.response_of, declared.fault.HandFault.HandFault, declared.response.Response.Response}
use Rattle.packet_frame.specs.{Laws.first_message-shorter, Packets.Found.Faulty, Packets.Found.Nothing, Packets.Found.Whole}
use Rattle.std.proofs.Common.{ap, arith}

answer-shorter : (limit : ℕ) (response said : Response) (bytes : List ℕ) (switched : Bool) (id : ℕ) (rest : List ℕ) → answer_in limit response bytes ≡ Says switched said id rest → length rest ≤ length bytes
answer-shorter limit response said bytes switched id rest is = by (first_message (login_limit limit) 3 bytes) refl is where
  by : (found : Found) → first_message (login_limit limit) 3 bytes ≡ found → by_answer response found ≡ Says switched said id rest → length rest ≤ length bytes
  by Nothing at none = cc
  by (Whole message behind) at says = (let same : behind ≡ rest = cc in let short = first_message-shorter (login_limit limit) 3 bytes message behind at in omega (arith, ap length same))
  by (Faulty fault) at fails = cc

-- the bytes behind a login are no more than all of them
pub opening-shorter : (limit : ℕ) (read : List ℕ) (switched : Bool) (said : Response) (id : ℕ) (rest : List ℕ) → opening limit read ≡ Says switched said id rest → length rest ≤ length read
unfolding opening
opening-shorter limit read switched said id rest is = by (first_message (login_limit limit) 1 read) refl is where
  reads : (message : Framed) (behind : List ℕ) → first_message (login_limit limit) 1 read ≡ Whole message behind → (read_as : Result Response HandFault) → by_response limit (next_id message.last) read_as behind ≡ Says switched said id rest → length rest ≤ length read
  reads message behind at (Err fault) fails = cc
  reads message behind at (Ok response) says = or_not (needs_switch response.plugin) says where
    short : length behind ≤ length read
    short = (let less = first_message-shorter (login_limit limit) 1 read message behind at in omega arith)

    or_not : (b : Bool) → cond b (answer_in limit response behind) (Says false response (next_id message.last) behind) ≡ Says switched said id rest → length rest ≤ length read
    or_not true answer = (let less = answer-shorter limit response said behind switched id rest answer in omega (arith, short))
    or_not false here = (let same : behind ≡ rest = cc in omega (arith, short, ap length same))

  by : (found : Found) → first_message (login_limit limit) 1 read ≡ found → by_message limit found ≡ Says switched said id rest → length rest ≤ length read
  by Nothing at none = cc
  by (Whole message behind) at says = reads message behind at (response_of message.payload) says
  by (Faulty fault) at fails = cc
