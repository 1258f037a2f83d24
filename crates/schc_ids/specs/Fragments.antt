-- The modes of fragmentation and their parameters.
use Rattle.std.specs.Prelude.{◌≡◌}
use Rattle.schc_ids.specs.declared.fragments.FragMode.{FragMode}
use Rattle.schc_ids.specs.declared.fragments.FragMode.TheVariants.{NoAck, AckAlways, AckOnError}
use Rattle.schc_ids.specs.declared.fragments.FragParams.{FragParams}

-- the parameters of each mode: RFC 9011, section 5.6.2 (ACK-on-Error) and section 5.6.3
-- (ACK-Always); No-ACK is this project's own, with the smallest header that RFC 8724, section
-- 8.4.1, allows
abbrev pub params_of : FragMode → FragParams
params_of NoAck = record { mode = NoAck; w_bits = 0; fcn_bits = 1; window = 0 }
params_of AckAlways = record { mode = AckAlways; w_bits = 1; fcn_bits = 1; window = 1 }
params_of AckOnError = record { mode = AckOnError; w_bits = 2; fcn_bits = 6; window = 63 }

-- parameters that a mode has
abbrev pub IsFragParams : FragParams → Type 0
IsFragParams params = params ≡ params_of params.mode
