-- The numbers of a run, and the text that is printed of them.
use Rattle.std.specs.Prelude.{ℕ, ◌+◌, ◌%◌, ◌^◌, List, ◌++◌, length, Option, Some, None, codes}
use Rattle.std.specs.List.{sum_by}
use Rattle.std.specs.Fmt.{decimal}
use Rattle.schc_ids.specs.declared.notes.ReportKind.{ReportKind}
use Rattle.schc_ids.specs.declared.notes.ReportKind.TheVariants as ended
use Rattle.schc_ids.specs.declared.notes.Report.{Report}
use Rattle.event_data.specs.Records.{HandUpData}
use Rattle.event_data.specs.declared.outcomes.Line.{Line}
use Rattle.event_data.specs.declared.outcomes.Line.TheVariants as line
use Rattle.load_totals.specs.declared.totals.Totals.{Totals}

-- ---- the numbers of a line

-- the packets that were handed down and wait
abbrev pub packets_in : Line → ℕ
packets_in (line.Hand accepted) = 1
packets_in _ = 0

-- the frames that were sent
abbrev pub frames_in : Line → ℕ
frames_in (line.Slot (Some emission)) = 1
frames_in _ = 0

-- the packets that are handed up
abbrev pub ups_of : Option HandUpData → ℕ
ups_of None = 0
ups_of (Some up) = 1

abbrev pub ups_in : Line → ℕ
ups_in (line.Deliver taken) = ups_of taken.up
ups_in _ = 0

-- the bytes of the packets that are handed up
abbrev pub octets_of : Option HandUpData → ℕ
octets_of None = 0
octets_of (Some up) = length up.packet

abbrev pub octets_in : Line → ℕ
octets_in (line.Deliver taken) = octets_of taken.up
octets_in _ = 0

-- the sessions that ended with the answer that the receiver's check passed (RFC 8724, section 8.4)
abbrev pub delivered_as : ReportKind → ℕ
delivered_as ended.Delivered = 1
delivered_as _ = 0

abbrev pub delivered_of : Option Report → ℕ
delivered_of None = 0
delivered_of (Some report) = delivered_as report.kind

abbrev pub delivered_in : Line → ℕ
delivered_in (line.Slot (Some emission)) = delivered_of emission.emitted.report
delivered_in (line.Deliver taken) = delivered_of taken.report
delivered_in (line.Tick device gateway) = delivered_of device + delivered_of gateway
delivered_in (line.Abort report) = delivered_of report
delivered_in _ = 0

-- all of these
unfoldable pub totals_in : Line → Totals
totals_in line =
    record {
      packets = packets_in line;
      frames = frames_in line;
      up = ups_in line;
      delivered = delivered_in line;
      octets = octets_in line;
    }

-- ---- the numbers of a run

-- each number is the sum over the lines of the run
unfoldable pub totals : List Line → Totals
totals lines =
    record {
      packets = sum_by packets_in lines;
      frames = sum_by frames_in lines;
      up = sum_by ups_in lines;
      delivered = sum_by delivered_in lines;
      octets = sum_by octets_in lines;
    }

-- the numbers of no lines
unfoldable pub nothing : Totals
nothing = record { packets = 0; frames = 0; up = 0; delivered = 0; octets = 0 }

-- the numbers of two parts together, each of which wraps at its type's end
unfoldable pub together : Totals → Totals → Totals
together a b =
    record {
      packets = (a.packets + b.packets) % 2 ^ 64;
      frames = (a.frames + b.frames) % 2 ^ 64;
      up = (a.up + b.up) % 2 ^ 64;
      delivered = (a.delivered + b.delivered) % 2 ^ 64;
      octets = (a.octets + b.octets) % 2 ^ 128;
    }

-- ---- the text

-- the line of a run of so many devices and events
unfoldable pub totals_text : ℕ → ℕ → Totals → List ℕ
totals_text devices events totals =
    codes "devices " ++ (decimal devices
    ++ (codes " events " ++ (decimal events
    ++ (codes " packets " ++ (decimal totals.packets
    ++ (codes " frames " ++ (decimal totals.frames
    ++ (codes " up " ++ (decimal totals.up
    ++ (codes " delivered " ++ (decimal totals.delivered
    ++ (codes " octets " ++ (decimal totals.octets ++ codes "\n")))))))))))))
