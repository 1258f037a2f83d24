-- What stands in the bits of each form.
use Rattle.std.specs.Prelude.{ℕ, ◌≡◌, ◌+◌, ◌*◌, ◌^◌, ◌<◌, ◌≤◌, Bool, List, [], ◌++◌, length, drop}
use Rattle.std.proofs.Common.{arith, ap, refl, sym, subst, ◌∙◌}
use Rattle.std.proofs.lemmas.List.{append_assoc, length-append, drop_at, drop-drop}
use Rattle.schc_bits.specs.Bits.{number_bits, octets}
use Rattle.schc_bits.proofs.NumberBits.{length-number_bits}
use Rattle.frag_wire.specs.Fields.{number_in}
use Rattle.frag_wire.specs.Forms.{all_ones, fragment_head, IsRegular, IsAll1, IsAckReq}
use Rattle.frag_wire.specs.Forms.{IsSenderAbort, BeginsWith}
use Rattle.frag_wire.proofs.FieldsLemmas.{number_in-is, number_in-splits, number_in-below}

-- no bits write the number 0
pub number_in-none : (bytes : List ℕ) → number_in 0 0 bytes ≡ 0
number_in-none bytes = omega (arith, number_in-below bytes 0 0 (omega arith))

-- what a fragment begins with has the bits of W and those of FCN
pub length-fragment_head : (w_bits fcn_bits w fcn : ℕ)
    → length (fragment_head w_bits fcn_bits w fcn) ≡ w_bits + fcn_bits
unfolding fragment_head
length-fragment_head w_bits fcn_bits w fcn =
    length-append (number_bits w_bits w) (number_bits fcn_bits fcn)
    ∙ (omega (arith, length-number_bits w_bits w, length-number_bits fcn_bits fcn))

-- W is the first number
pub head-w : (bytes : List ℕ) (w_bits fcn_bits w fcn : ℕ) (rest : List Bool)
    → octets bytes ≡ fragment_head w_bits fcn_bits w fcn ++ rest → w < 2 ^ w_bits
    → number_in 0 w_bits bytes ≡ w
unfolding fragment_head
head-w bytes w_bits fcn_bits w fcn rest e h =
    number_in-is bytes [] (number_bits fcn_bits fcn ++ rest) 0 w_bits w
    (e ∙ append_assoc (number_bits w_bits w) (number_bits fcn_bits fcn) rest)
    refl h

-- FCN is the next
pub head-fcn : (bytes : List ℕ) (w_bits fcn_bits w fcn : ℕ) (rest : List Bool)
    → octets bytes ≡ fragment_head w_bits fcn_bits w fcn ++ rest → fcn < 2 ^ fcn_bits
    → number_in w_bits fcn_bits bytes ≡ fcn
unfolding fragment_head
head-fcn bytes w_bits fcn_bits w fcn rest e h =
    number_in-is bytes (number_bits w_bits w) rest w_bits fcn_bits fcn e
    (length-number_bits w_bits w) h

-- the rest comes after both
pub head-rest : (bytes : List ℕ) (w_bits fcn_bits w fcn : ℕ) (rest : List Bool)
    → octets bytes ≡ fragment_head w_bits fcn_bits w fcn ++ rest
    → rest ≡ drop (w_bits + fcn_bits) (octets bytes)
head-rest bytes w_bits fcn_bits w fcn rest e =
    sym (drop_at (fragment_head w_bits fcn_bits w fcn) rest (w_bits + fcn_bits)
    (length-fragment_head w_bits fcn_bits w fcn))
    ∙ ap (λ bits. drop (w_bits + fcn_bits) bits) (sym e)

-- bytes begin with the W and the FCN that are read
pub head-is : (bytes : List ℕ) (w_bits fcn_bits : ℕ) → w_bits + fcn_bits ≤ 8 * length bytes
    → octets bytes ≡ fragment_head w_bits fcn_bits (number_in 0 w_bits bytes)
    (number_in w_bits fcn_bits bytes) ++ drop (w_bits + fcn_bits) (octets bytes)
unfolding fragment_head
head-is bytes w_bits fcn_bits h =
    number_in-splits bytes 0 w_bits (omega arith)
    ∙ ap (λ rest. number_bits w_bits (number_in 0 w_bits bytes) ++ rest)
    (number_in-splits bytes w_bits fcn_bits h)
    ∙ ap (λ rest. number_bits w_bits
    (number_in 0 w_bits bytes) ++ (number_bits fcn_bits (number_in w_bits fcn_bits bytes) ++ rest))
    (drop-drop fcn_bits w_bits (octets bytes))
    ∙ sym (append_assoc (number_bits w_bits (number_in 0 w_bits bytes))
    (number_bits fcn_bits (number_in w_bits fcn_bits bytes))
    (drop (w_bits + fcn_bits) (octets bytes)))

-- the RCS stands after both
pub head-rcs : (bytes : List ℕ) (w_bits fcn_bits w fcn rcs : ℕ) (payload : List Bool)
    → octets bytes ≡ fragment_head w_bits fcn_bits w fcn ++ number_bits 32 rcs ++ payload
    → rcs < 2 ^ 32 → number_in (w_bits + fcn_bits) 32 bytes ≡ rcs
head-rcs bytes w_bits fcn_bits w fcn rcs payload e h =
    number_in-is bytes (fragment_head w_bits fcn_bits w fcn) payload (w_bits + fcn_bits) 32 rcs e
    (length-fragment_head w_bits fcn_bits w fcn) h

-- where W, FCN and an RCS stand in front, the payload is all that comes after them
pub head-payload : (bytes : List ℕ) (w_bits fcn_bits w fcn rcs : ℕ) (payload : List Bool)
    → octets bytes ≡ fragment_head w_bits fcn_bits w fcn ++ number_bits 32 rcs ++ payload
    → payload ≡ drop (w_bits + fcn_bits + 32) (octets bytes)
head-payload bytes w_bits fcn_bits w fcn rcs payload e =
    let width : length
    (fragment_head w_bits fcn_bits w fcn ++ number_bits 32 rcs) ≡ w_bits + fcn_bits + 32 =
    length-append (fragment_head w_bits fcn_bits w fcn) (number_bits 32 rcs)
    ∙ omega (arith, length-fragment_head w_bits fcn_bits w fcn, length-number_bits 32 rcs)
    in
    sym (drop_at (fragment_head w_bits fcn_bits w fcn ++ number_bits 32 rcs) payload
    (w_bits + fcn_bits + 32) width)
    ∙ ap (λ bits. drop (w_bits + fcn_bits + 32) bits) (sym e)

-- an FCN that isn't all ones: the bytes are a Regular
pub IsRegular-read : (bytes : List ℕ) (w_bits fcn_bits w fcn : ℕ)
    → w_bits + fcn_bits ≤ 8 * length bytes → w ≡ number_in 0 w_bits bytes
    → fcn ≡ number_in w_bits fcn_bits bytes → fcn < all_ones fcn_bits
    → IsRegular w_bits fcn_bits w fcn (w_bits + fcn_bits) (drop (w_bits + fcn_bits) (octets bytes))
    bytes
IsRegular-read bytes w_bits fcn_bits w fcn h ew ef below =
    record {
      window = subst (λ n. n < 2 ^ w_bits) (sym ew) (number_in-below bytes 0 w_bits (omega arith));
      number = below;
      place = refl;
      bits = head-is bytes w_bits fcn_bits h
          ∙ ap (λ (p : ℕ × ℕ). fragment_head w_bits fcn_bits p.0 p.1 ++ drop (w_bits + fcn_bits)
          (octets bytes))
          (let e : (number_in 0 w_bits bytes, number_in w_bits fcn_bits bytes) ≡ (w, fcn) =
          rw (ew, ef) in e);
    }

-- an FCN of ones and 32 bits after it: the bytes are an All-1
pub IsAll1-read : (bytes : List ℕ) (w_bits fcn_bits w rcs : ℕ)
    → w_bits + fcn_bits + 32 ≤ 8 * length bytes → w ≡ number_in 0 w_bits bytes
    → all_ones fcn_bits ≡ number_in w_bits fcn_bits bytes
    → rcs ≡ number_in (w_bits + fcn_bits) 32 bytes
    → IsAll1 w_bits fcn_bits w rcs (w_bits + fcn_bits + 32)
    (drop (w_bits + fcn_bits + 32) (octets bytes)) bytes
IsAll1-read bytes w_bits fcn_bits w rcs h ew ef er =
    let at : ℕ = w_bits + fcn_bits in
    record {
      window = subst (λ n. n < 2 ^ w_bits) (sym ew) (number_in-below bytes 0 w_bits (omega arith));
      check = subst (λ n. n < 2 ^ 32) (sym er) (number_in-below bytes at 32 h);
      place = refl;
      bits =
          rw (ew, ef, er)
          (
          head-is bytes w_bits fcn_bits (omega arith)
          ∙ ap (λ rest. fragment_head w_bits fcn_bits (number_in 0 w_bits bytes)
          (number_in w_bits fcn_bits bytes) ++ rest) (number_in-splits bytes at 32 h)
          ∙ ap (λ rest. fragment_head w_bits fcn_bits (number_in 0 w_bits bytes)
          (number_in w_bits fcn_bits bytes) ++ (number_bits 32 (number_in at 32 bytes) ++ rest))
          (drop-drop 32 at (octets bytes))
          ∙ sym (append_assoc
          (fragment_head w_bits fcn_bits (number_in 0 w_bits bytes)
          (number_in w_bits fcn_bits bytes)) (number_bits 32 (number_in at 32 bytes))
          (drop (at + 32) (octets bytes)))
          );
    }

-- bytes with room for W and FCN begin with the W and the FCN that are read from them
pub BeginsWith-read : (bytes : List ℕ) (w_bits fcn_bits w fcn : ℕ)
    → w_bits + fcn_bits ≤ 8 * length bytes → w ≡ number_in 0 w_bits bytes
    → fcn ≡ number_in w_bits fcn_bits bytes → BeginsWith w_bits fcn_bits w fcn bytes
BeginsWith-read bytes w_bits fcn_bits w fcn h ew ef =
    record {
      window = subst (λ n. n < 2 ^ w_bits) (sym ew) (number_in-below bytes 0 w_bits (omega arith));
      number = subst (λ n. n < 2 ^ fcn_bits) (sym ef) (number_in-below bytes w_bits fcn_bits h);
      rest = drop (w_bits + fcn_bits) (octets bytes);
      bits = rw (ew, ef) (head-is bytes w_bits fcn_bits h);
    }

-- an FCN of zeros: the bytes have the form of an ACK REQ, with the W that is read
pub IsAckReq-read : (bytes : List ℕ) (w_bits fcn_bits w : ℕ) → w_bits + fcn_bits ≤ 8 * length bytes
    → w ≡ number_in 0 w_bits bytes → 0 ≡ number_in w_bits fcn_bits bytes
    → IsAckReq w_bits fcn_bits w [] bytes
IsAckReq-read bytes w_bits fcn_bits w h ew ef =
    record {
      window = subst (λ n. n < 2 ^ w_bits) (sym ew) (number_in-below bytes 0 w_bits (omega arith));
      no_payload = refl;
      padding = drop (w_bits + fcn_bits) (octets bytes);
      bits = rw ew
          (subst (λ n. octets bytes ≡ fragment_head w_bits fcn_bits (number_in 0 w_bits bytes)
          n ++ drop (w_bits + fcn_bits) (octets bytes)) (sym ef) (head-is bytes w_bits fcn_bits h));
    }

-- W and FCN of ones: the bytes have the form of a Sender-Abort
pub IsSenderAbort-read : (bytes : List ℕ) (w_bits fcn_bits : ℕ)
    → w_bits + fcn_bits ≤ 8 * length bytes → all_ones w_bits ≡ number_in 0 w_bits bytes
    → all_ones fcn_bits ≡ number_in w_bits fcn_bits bytes → IsSenderAbort w_bits fcn_bits [] bytes
IsSenderAbort-read bytes w_bits fcn_bits h ew ef =
    record {
      no_payload = refl;
      padding = drop (w_bits + fcn_bits) (octets bytes);
      bits = rw (ew, ef) (head-is bytes w_bits fcn_bits h);
    }
