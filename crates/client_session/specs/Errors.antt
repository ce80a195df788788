-- The payloads of the errors that the proxy itself answers.
use Rattle.std.specs.Prelude.{List, [], codes, if◌then◌else◌, length, nat_lt, take, ℕ, ◌++◌}
use Rattle.{reply_text.specs.Replies.err_payload, reply_text.specs.Replies.ok_payload, std.specs.Fmt.decimal}

-- the proxy's own OK: AUTOCOMMIT, and no info
unfoldable pub own_ok : List ℕ
own_ok = ok_payload 2 []

-- there is no room for one client more
unfoldable pub too_many_connections : List ℕ
too_many_connections = err_payload 1040 (codes "08004") (codes "Too many connections")

unfoldable pub bad_handshake : List ℕ
bad_handshake = err_payload 1043 (codes "08S01") (codes "Bad handshake")

-- the name, or its first 64 bytes where it is longer
abbrev pub shown : (name : List ℕ) → List ℕ
shown name = if nat_lt 64 (length name) then take 64 name else name

unfoldable pub denied_text : (name : List ℕ) → List ℕ
denied_text name = codes "Access denied for user '" ++ shown name ++ codes "'"

-- the user isn't known, or its answer is wrong
unfoldable pub access_denied : (name : List ℕ) → List ℕ
access_denied name = err_payload 1045 (codes "28000") (denied_text name)

unfoldable pub unserved_text : (collation : ℕ) → List ℕ
unserved_text collation = codes "Unknown character set: '" ++ (decimal collation ++ codes "'")

-- the collation that a client names is none that is served
unfoldable pub unknown_character_set : (collation : ℕ) → List ℕ
unknown_character_set collation = err_payload 1115 (codes "42000") (unserved_text collation)

unfoldable pub unknown_command : List ℕ
unknown_command = err_payload 1047 (codes "08S01") (codes "Unknown command")

unfoldable pub malformed_command : List ℕ
malformed_command = err_payload 9109 (codes "HY000") (codes "Malformed command")

-- no server is configured for the hostgroup of clients, which is 0
unfoldable pub no_server : List ℕ
no_server = err_payload 9100 (codes "HY000") (codes "No server in hostgroup 0")

-- the link that carried a command was lost before its reply was whole
unfoldable pub connection_lost : List ℕ
connection_lost = err_payload 9101 (codes "HY000") (codes "Server connection lost")

-- no link could be opened for a command
unfoldable pub connection_refused : List ℕ
connection_refused = err_payload 9103 (codes "HY000") (codes "Server connection refused")

-- the place counts the bytes of the reply from 0
unfoldable pub bad_bytes_text : ℕ → List ℕ
bad_bytes_text place = codes "Bad server bytes at " ++ decimal place

unfoldable pub too_large_text : (length limit : ℕ) → List ℕ
too_large_text length limit = codes "Packet of " ++ (decimal length ++ (codes " bytes is larger than " ++ decimal limit))

unfoldable pub out_of_order_text : (expected found : ℕ) → List ℕ
out_of_order_text expected found = codes "Packet " ++ decimal found ++ codes " came where " ++ decimal expected ++ codes " was due"

-- bytes of a server that are no reply
unfoldable pub bad_server_bytes : ℕ → List ℕ
bad_server_bytes place = err_payload 9110 (codes "HY000") (bad_bytes_text place)

unfoldable pub packet_too_large : (length limit : ℕ) → List ℕ
packet_too_large length limit = err_payload 1153 (codes "08S01") (too_large_text length limit)

unfoldable pub packet_out_of_order : (expected found : ℕ) → List ℕ
packet_out_of_order expected found = err_payload 1156 (codes "08S01") (out_of_order_text expected found)
