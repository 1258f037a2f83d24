-- Of a packet that an admitted rule matches there is one restored packet.
use Rattle.std.specs.Prelude.{[], drop}
use Rattle.std.proofs.Common.{arith}
use Rattle.packer.specs.Laws.{OneRestoredPacket}
use Rattle.packer.proofs.rebuilt.ChecksumLemmas.{AreBytes-drop}
use Rattle.packer.proofs.reading.ReadBackLemmas.{read-back, restored-one}

-- an admitted rule has one restored packet of each packet that it matches, and no other
pub one_restored_packet : OneRestoredPacket
one_restored_packet rule iids direction packet admitted bytes m =
    let back =
    read-back rule iids direction packet m.fields m.payload_from m.is_packet m.matches [] admitted
    (AreBytes-drop m.payload_from packet bytes) (omega arith)
    in
    record {
      restored = back.restored;
      are_bytes = back.are_bytes;
      restores = back.restores;
      no_other = λ other are r.
          restored-one rule iids direction packet m.fields m.payload_from m.is_packet m.matches
          other back.restored admitted r back.restores are back.are_bytes;
    }
