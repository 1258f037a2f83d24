-- RFC 8724, section 8.3: the forms of the messages between a sender and a receiver of fragments.
-- The RuleID stands in the port and there is no DTag, so that a message begins with W.
use Rattle.std.specs.Prelude.{ℕ, ◌≡◌, ◌+◌, ◌-◌, ◌^◌, ◌<◌, Bool, List, [], ◌++◌}
use Rattle.schc_bits.specs.Bits.{number_bits, octets}

-- the number that is written in ones only
abbrev pub all_ones : ℕ → ℕ
all_ones count = 2 ^ count - 1

-- what a fragment begins with: W in `w_bits` bits and FCN in `fcn_bits` bits
unfoldable pub fragment_head : ℕ → ℕ → ℕ → ℕ → List Bool
fragment_head w_bits fcn_bits w fcn = number_bits w_bits w ++ number_bits fcn_bits fcn

-- RFC 8724, section 8.3.1.1: a Regular fragment has an FCN that isn't all ones, and then its
-- payload
pub record IsRegular (w_bits : ℕ) (fcn_bits : ℕ) (w : ℕ) (fcn : ℕ) (from : ℕ) (payload : List Bool)
    (bytes : List ℕ) : Type 0 where
  pub window : w < 2 ^ w_bits
  pub number : fcn < all_ones fcn_bits
  pub place : from ≡ w_bits + fcn_bits
  pub bits : octets bytes ≡ fragment_head w_bits fcn_bits w fcn ++ payload

-- RFC 8724, section 8.3.1.2: an All-1 fragment has an FCN of ones, the RCS in 32 bits, and then its
-- payload
pub record IsAll1 (w_bits : ℕ) (fcn_bits : ℕ) (w : ℕ) (rcs : ℕ) (from : ℕ) (payload : List Bool)
    (bytes : List ℕ) : Type 0 where
  pub window : w < 2 ^ w_bits
  pub check : rcs < 2 ^ 32
  pub place : from ≡ w_bits + fcn_bits + 32
  pub bits : octets bytes ≡ fragment_head w_bits fcn_bits w (all_ones fcn_bits) ++ number_bits 32
      rcs ++ payload

-- RFC 8724, section 8.3.3: an ACK REQ has an FCN of zeros, and then padding that isn't looked at
pub record IsAckReq (w_bits : ℕ) (fcn_bits : ℕ) (w : ℕ) (payload : List Bool)
    (bytes : List ℕ) : Type 0 where
  pub window : w < 2 ^ w_bits
  pub no_payload : payload ≡ []
  pub padding : List Bool
  pub bits : octets bytes ≡ fragment_head w_bits fcn_bits w 0 ++ padding

-- RFC 8724, section 8.3.4: a Sender-Abort has W and FCN of ones, and then padding that isn't looked
-- at
pub record IsSenderAbort (w_bits : ℕ) (fcn_bits : ℕ) (payload : List Bool) (bytes : List ℕ) : Type 0
  where
    pub no_payload : payload ≡ []
    pub padding : List Bool
    pub bits : octets bytes ≡ fragment_head w_bits fcn_bits (all_ones w_bits)
        (all_ones fcn_bits) ++ padding

-- the bytes begin with this W and this FCN
pub record BeginsWith (w_bits : ℕ) (fcn_bits : ℕ) (w : ℕ) (fcn : ℕ) (bytes : List ℕ) : Type 0 where
  pub window : w < 2 ^ w_bits
  pub number : fcn < 2 ^ fcn_bits
  pub rest : List Bool
  pub bits : octets bytes ≡ fragment_head w_bits fcn_bits w fcn ++ rest
