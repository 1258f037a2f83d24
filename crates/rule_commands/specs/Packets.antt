-- Packets that are written and read by the last edition of a work file, as `pack` and `unpack`
-- print it.
use Rattle.std.specs.Prelude.{ℕ, ◌+◌, not, nat_lt, if◌then◌else◌, List, [], ◌∷◌, ◌++◌, length}
use Rattle.std.specs.Prelude.{Option, Some, None, Result, Ok, Err, codes}
use Rattle.std.specs.Fmt.{decimal}
use Rattle.std.specs.Option.{option_map}
use Rattle.schc_bits.specs.Bits.{octets, padded, bytes_of}
use Rattle.schc_ids.specs.declared.ends.Iids.{Iids}
use Rattle.schc_ids.specs.declared.ends.Direction.{Direction}
use Rattle.schc_ids.specs.declared.faults.UnpackFault.{UnpackFault}
use Rattle.schc_ids.specs.Limits.{max_packet}
use Rattle.rule_model.specs.declared.finding.Finding.{Finding}
use Rattle.rule_model.specs.RawData.{RawEditionData}
use Rattle.rule_json.specs.Data.{WorkData}
use Rattle.rule_json.specs.Texts.{work_of}
use Rattle.editions.specs.Data.{EditionData, first_edition}
use Rattle.publishing.specs.Published.{published}
use Rattle.packer.specs.UnpackedData.{UnpackedData}
use Rattle.ip_udp_fields.specs.Fields.{has_ipv6_header}
use Rattle.packer.specs.Packing.{packed}
use Rattle.packer.specs.Unpacking.{unpacked}
use Rattle.packer.specs.declared.packing.Packed.{Packed}
use Rattle.printed_words.specs.Words.{bytes_text, unread_text}
use Rattle.rule_commands.specs.OutputData.{OutputData}
use Rattle.rule_commands.specs.declared.working.Task.{Task}
use Rattle.rule_commands.specs.declared.working.Task.TheVariants.{Pack, Unpack}

-- goes on with the next edition, if there is no finding
abbrev pub then_last : Result EditionData Finding → (EditionData → Result EditionData Finding)
    → Result EditionData Finding
then_last (Err finding) later = Err finding
then_last (Ok next) later = later next

-- the last of these editions, each of which is to follow the one before; or the first finding
abbrev pub last_from : EditionData → List RawEditionData → Result EditionData Finding
last_from last [] = Ok last
last_from last (raw ∷ later) = then_last (published last raw) (λ next. last_from next later)

-- how a packet is written: the RuleID, the number of bits of its SCHC packet, and the SCHC packet,
-- padded to whole bytes
unfoldable pub written_text : Packed → List ℕ
written_text w =
    codes "rule " ++ (decimal
    w.rule_id ++ (codes
    " bits " ++ (decimal
    (length w.bits) ++ (codes " " ++ bytes_text (bytes_of (padded w.bits))))))

-- the outcome of `pack` for a packet
unfoldable pub pack_outcome : EditionData → Iids → Direction → List ℕ → List ℕ
pack_outcome edition iids way packet =
    if not (has_ipv6_header packet) then codes "refused not-ipv6"
    else if nat_lt max_packet (length packet) then codes "refused too-long"
    else written_text (packed edition iids way packet)

-- what was read
unfoldable pub read_text : Result UnpackedData UnpackFault → List ℕ
read_text (Ok read) =
    codes "rule " ++ (decimal read.rule_id ++ (codes " " ++ bytes_text read.packet))
read_text (Err fault) = codes "refused " ++ unread_text fault

-- the outcome of `unpack` for a packet
unfoldable pub unpack_outcome : EditionData → Iids → Direction → List ℕ → List ℕ
unpack_outcome edition iids way packet = read_text (unpacked edition iids way (octets packet))

-- the line of a packet, which has this place, counted from 1
unfoldable pub packet_line : ℕ → List ℕ → List ℕ
packet_line place outcome = decimal place ++ (codes " " ++ (outcome ++ codes "\n"))

-- the lines of these packets
abbrev pub packet_lines : (List ℕ → List ℕ) → ℕ → List (List ℕ) → List ℕ
packet_lines outcome place [] = []
packet_lines outcome place (packet ∷ later) =
    packet_line place (outcome packet) ++ packet_lines outcome (place + 1) later

-- the outcome that a task has for a packet of a work file, by this edition
unfoldable pub outcome_of : Task → WorkData → EditionData → List ℕ → List ℕ
outcome_of Pack work edition packet = pack_outcome edition work.iids work.direction packet
outcome_of Unpack work edition packet = unpack_outcome edition work.iids work.direction packet

-- the output of a task for a work file, by the file's last edition: nothing where an edition has a
-- finding
abbrev pub worked_with : Task → WorkData → Result EditionData Finding → OutputData
worked_with task work (Err finding) = record { text = []; refused = Some finding }
worked_with task work (Ok edition) =
    record { text = packet_lines (outcome_of task work edition) 1 work.packets; refused = None }

abbrev pub worked : Task → WorkData → OutputData
worked task work = worked_with task work (last_from first_edition work.editions)

-- the outputs for a text; none where it is no work file
abbrev pub pack_of : List ℕ → Option OutputData
pack_of text = option_map (worked Pack) (work_of text)

abbrev pub unpack_of : List ℕ → Option OutputData
unpack_of text = option_map (worked Unpack) (work_of text)
