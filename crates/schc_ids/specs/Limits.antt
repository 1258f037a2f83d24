-- Limits and ranges, and the RuleIDs that are reserved.
use Rattle.std.specs.Prelude.{ℕ, ◌≤◌}

-- the bytes that the frames of an end may be limited to
abbrev pub min_mtu : ℕ
min_mtu = 15

abbrev pub max_mtu : ℕ
max_mtu = 242

abbrev pub IsMtu : ℕ → Type 0
IsMtu mtu = (min_mtu ≤ mtu) × (mtu ≤ max_mtu)

-- the ticks for which a timer may run
abbrev pub max_ticks : ℕ
max_ticks = 1000000

abbrev pub IsTicks : ℕ → Type 0
IsTicks ticks = (1 ≤ ticks) × (ticks ≤ max_ticks)

-- the bytes of a packet that is handed down: at least an IPv6 header (RFC 8200, section 3)
abbrev pub min_packet : ℕ
min_packet = 40

abbrev pub max_packet : ℕ
max_packet = 1500

-- how many packets wait at an end at most
abbrev pub queue_room : ℕ
queue_room = 8

-- the bytes that an end keeps of the fragments of a packet
abbrev pub reassembly_bytes : ℕ
reassembly_bytes = 2530

-- the bits of an SCHC packet that is cut in tiles, and of one that goes as a session: at most the
-- tiles of four windows of 63 (RFC 9011, section 5.6.2)
abbrev pub min_cut_bits : ℕ
min_cut_bits = 96

abbrev pub min_session_bits : ℕ
min_session_bits = 128

abbrev pub max_session_bits : ℕ
max_session_bits = 20160

-- how often an answer is asked for in a row: MAX_ACK_REQUESTS of RFC 8724, section 8.2.2.4
abbrev pub max_ack_requests : ℕ
max_ack_requests = 8

-- how many devices there are at most
abbrev pub max_devices : ℕ
max_devices = 1024

-- how many events a script has at most
abbrev pub max_events : ℕ
max_events = 200000

-- the most bytes of an input
abbrev pub max_input : ℕ
max_input = 67108864

-- how many rules an edition has at most, how many entries a rule, and how many bytes the targets of
-- an edition together
abbrev pub max_rules : ℕ
max_rules = 200

abbrev pub max_entries : ℕ
max_entries = 64

abbrev pub max_target_bytes : ℕ
max_target_bytes = 262144

-- how many editions there are at most
abbrev pub max_editions : ℕ
max_editions = 256

-- how many datagrams one loop takes at most, those that are dropped not counted
abbrev pub max_datagrams : ℕ
max_datagrams = 500000

-- RuleIDs, which are ports too (RFC 9011, section 5.2): of fragments up and their answers, of
-- fragments down and their answers, and of packets that no rule compresses
abbrev pub ack_on_error_port : ℕ
ack_on_error_port = 20

abbrev pub ack_always_port : ℕ
ack_always_port = 21

abbrev pub uncompressed_port : ℕ
uncompressed_port = 22

-- of fragments up and down without answers, which RFC 9011 doesn't have
abbrev pub no_ack_up_port : ℕ
no_ack_up_port = 222

abbrev pub no_ack_down_port : ℕ
no_ack_down_port = 223

-- the first port that LoRaWAN keeps from applications (RFC 9011, section 5.2)
abbrev pub first_reserved_port : ℕ
first_reserved_port = 224
