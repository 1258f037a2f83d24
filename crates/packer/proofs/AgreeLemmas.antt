-- Two editions of one chain agree on the rule of a packet that was written with the one and is read
-- with the other.
use Rattle.std.proofs.Common.{◌≡◌, ◌⊎◌, ℕ, ◌==◌, ◌<◌, ◌≤◌, Bool, true, false, cond, List, length}
use Rattle.std.proofs.Common.{take, drop, Option, Some, None, Result, Ok, Err, slice_get, inl, inr}
use Rattle.std.proofs.Common.{refl, sym, ap, arith, nat_lt, eqb-true}
use Rattle.std.proofs.lemmas.Bool.{cases_lt}
use Rattle.schc_bits.specs.Bits.{bits_value, bytes_of}
use Rattle.schc_ids.specs.declared.ends.Direction.{Direction}
use Rattle.schc_ids.specs.declared.ends.Iids.{Iids}
use Rattle.schc_ids.specs.declared.faults.ResidueFault.TheVariants.{Short}
use Rattle.schc_ids.specs.declared.faults.UnpackFault.{UnpackFault}
use Rattle.schc_ids.specs.declared.faults.UnpackFault.TheVariants.{BadResidue}
use Rattle.editions.specs.declared.listed.Listed.{Listed}
use Rattle.editions.specs.Data.{EditionData, lookup, IsAscending}
use Rattle.editions.specs.Follows.{KeepsMeanings}
use Rattle.editions.specs.Chains.{IsChain}
use Rattle.editions.proofs.ChainLemmas.{one-meaning}
use Rattle.editions.proofs.InChainLemmas.{kept}
use Rattle.packer.specs.UnpackedData.{UnpackedData}
use Rattle.schc_ids.specs.Limits.{uncompressed_port}
use Rattle.packer.specs.Schc.{IsChosen}
use Rattle.packer.specs.Unpacking.{unpacked, under, read_by, read_under, read_whole}
use Rattle.packer.specs.Laws.{AgreeOn}
use Rattle.packer.proofs.reading.UnpackedLemmas.{listed-found}

-- the RuleID is that of packets that no rule compresses, or the edition lists a rule under it
abbrev pub IsKnown : EditionData → ℕ → Type 0
IsKnown edition id = (id ≡ uncompressed_port)
    ⊎ ((listed : Listed) × (lookup edition.rules id ≡ Some listed))

-- the edition that writes a packet knows the RuleID under which it is written
pub chosen-known : (edition : EditionData) (iids : Iids) (way : Direction) (packet : List ℕ)
    (id : ℕ) (bits : List Bool) → IsAscending edition.rules
    → IsChosen edition iids way packet id bits → IsKnown edition id
chosen-known edition iids way packet id bits ascending
    (IsChosen.by_rule listed schc_packet candidate least) =
    inr (listed, listed-found edition.rules listed ascending candidate.listing)
chosen-known edition iids way packet id bits ascending (IsChosen.by_none none) = inl refl

under-id : (id : ℕ) (r : Result (List ℕ) UnpackFault) (read : UnpackedData) → under id r ≡ Ok read
    → read.rule_id ≡ id
under-id id (Err fault) read e = absurd cc
under-id id (Ok packet) read e = let same : record { rule_id = id; packet = packet } ≡ read = cc in
    sym (ap (λ r. r.rule_id) same)

listed-cases : (edition : EditionData) (iids : Iids) (way : Direction) (id : ℕ) (rest : List Bool)
    (b : Bool) (o : Option Listed) (read : UnpackedData) → (id == uncompressed_port) ≡ b
    → lookup edition.rules id ≡ o
    → under id (cond b (read_whole (bytes_of rest)) (read_by id iids way o rest)) ≡ Ok read
    → IsKnown edition id
listed-cases edition iids way id rest true o read e f given = inl (eqb-true id uncompressed_port e)
listed-cases edition iids way id rest false None read e f given = absurd cc
listed-cases edition iids way id rest false (Some listed) read e f given = inr (listed, f)

short-cases : (b : Bool) (r : Result UnpackedData UnpackFault) (fault : UnpackFault)
    (read : UnpackedData) → cond b (Err fault) r ≡ Ok read → r ≡ Ok read
short-cases true r fault read given = absurd cc
short-cases false r fault read given = given

-- an edition that reads a packet knows the RuleID in the first 8 bits
pub read-known : (edition : EditionData) (iids : Iids) (way : Direction) (bits : List Bool)
    (read : UnpackedData) → unpacked edition iids way bits ≡ Ok read
    → IsKnown edition (bits_value (take 8 bits))
unfolding unpacked
read-known edition iids way bits read given =
    listed-cases edition iids way (bits_value (take 8 bits)) (drop 8 bits)
    (bits_value (take 8 bits) == uncompressed_port)
    (lookup edition.rules (bits_value (take 8 bits))) read refl refl
    (short-cases (nat_lt (length bits) 8)
    (under (bits_value (take 8 bits))
    (read_under edition iids way (bits_value (take 8 bits)) (drop 8 bits))) (BadResidue 0 Short)
    read given)

-- a reader that has the later edition
pub agree-later : (writer reader : EditionData) (id : ℕ) → KeepsMeanings writer.rules reader.rules
    → IsKnown writer id → AgreeOn writer reader id
agree-later writer reader id keeps (inl whole) = inl whole
agree-later writer reader id keeps (inr these) =
    let those = kept writer.rules reader.rules id these.0 keeps these.1 in
    inr (these.0, those.0, these.1, those.1, those.2)

-- a reader that has the earlier edition, and knows the RuleID
pub agree-earlier : (writer reader : EditionData) (id : ℕ) → KeepsMeanings reader.rules writer.rules
    → IsKnown reader id → AgreeOn writer reader id
agree-earlier writer reader id keeps (inl whole) = inl whole
agree-earlier writer reader id keeps (inr those) =
    let these = kept reader.rules writer.rules id those.0 keeps those.1 in
    inr (these.0, those.0, these.1, those.1, sym these.2)

agree-cases : (chain : List EditionData) → IsChain chain
    → (i j : ℕ) (writer reader : EditionData) (id : ℕ) → slice_get chain i ≡ Some writer
    → slice_get chain j ≡ Some reader → IsKnown writer id → IsKnown reader id → (i < j) ⊎ (j ≤ i)
    → AgreeOn writer reader id
agree-cases chain is i j writer reader id at there writes reads (inl before) =
    agree-later writer reader id (one-meaning chain is i j writer reader (omega arith) at there).0
    writes
agree-cases chain is i j writer reader id at there writes reads (inr after) =
    agree-earlier writer reader id (one-meaning chain is j i reader writer after there at).0 reads

-- two editions of one chain that know a RuleID agree on it
pub agree-in_chain : (chain : List EditionData) → IsChain chain
    → (i j : ℕ) (writer reader : EditionData) (id : ℕ) → slice_get chain i ≡ Some writer
    → slice_get chain j ≡ Some reader → IsKnown writer id → IsKnown reader id
    → AgreeOn writer reader id
agree-in_chain chain is i j writer reader id at there writes reads =
    agree-cases chain is i j writer reader id at there writes reads (cases_lt i j)
