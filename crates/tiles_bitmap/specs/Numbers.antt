-- RFC 8724, sections 8.2.2.2, 8.2.4 and 8.3: the numbers of tiles. W names the window and FCN the
-- tile in it (section 8.2.4).
use Rattle.std.specs.Prelude.{ℕ, ◌+◌, ◌-◌, ◌*◌, ◌/◌, ◌%◌, ◌<◌}
use Rattle.schc_ids.specs.declared.fragments.FragMode.{FragMode}
use Rattle.schc_ids.specs.declared.fragments.FragMode.TheVariants as mode
use Rattle.tiles_bitmap.specs.declared.numbers.TileNumber.{TileNumber}

-- the most tiles that have numbers of their own: in ACK-on-Error four windows of 63
abbrev pub HasNumber : FragMode → ℕ → Type 0
HasNumber mode.NoAck i = Unit {0}
HasNumber mode.AckAlways i = Unit {0}
HasNumber mode.AckOnError i = i < 4 * 63

-- the window and the FCN of the tile with the index `i`, from 0: in ACK-on-Error 63 tiles a window,
-- from FCN 62 down to 0 (RFC 9011, section 5.6.2); in ACK-Always one tile a window, whose number is
-- one bit; in No-ACK there are no windows
unfoldable pub tile_number : FragMode → ℕ → TileNumber
tile_number mode.NoAck i = record { w = 0; fcn = 0 }
tile_number mode.AckAlways i = record { w = i % 2; fcn = 0 }
tile_number mode.AckOnError i = record { w = i / 63; fcn = 62 - i % 63 }

-- the index of the tile with these numbers, in ACK-on-Error
abbrev pub tile_index : TileNumber → ℕ
tile_index number = 63 * number.w + (62 - number.fcn)
