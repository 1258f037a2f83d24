-- The SCHC packet that comes first of several.
use Rattle.std.specs.Prelude.{◌≡◌, true, false, Option, Some, None}
use Rattle.std.specs.Option.{option_map}
use Rattle.std.proofs.Common.{refl, inl, inr}
use Rattle.std.proofs.lemmas.Bool.{cases_Bool}
use Rattle.packer.specs.Packing.{SchcPacketData, candidate_of, is_preferred, shorter, smaller}

-- the first is chosen, or the later one
pub shorter-first : (f g : SchcPacketData) → is_preferred (candidate_of f) (candidate_of g) ≡ true
    → shorter (Some f) (Some g) ≡ Some f
shorter-first f g h = rw h refl

-- where the first SCHC packet isn't preferred, the later one is chosen
pub shorter-later : (f g : SchcPacketData) → is_preferred (candidate_of f) (candidate_of g) ≡ false
    → shorter (Some f) (Some g) ≡ Some g
shorter-later f g h = rw h refl

-- where neither is there, there is none
pub shorter-both : (a b : Option SchcPacketData) → shorter a b ≡ None → (a ≡ None) × (b ≡ None)
shorter-both None b e = (refl, e)
shorter-both (Some a) None e = absurd (cc)
shorter-both (Some a) (Some b) e =
    elim (cases_Bool (is_preferred (candidate_of a) (candidate_of b))) [
      | inl t ↦ let first : shorter (Some a) (Some b) ≡ Some a = shorter-first a b t in absurd (cc)
      | inr n ↦ let later : shorter (Some a) (Some b) ≡ Some b = shorter-later a b n in absurd (cc)
    ]

-- the candidate of the SCHC packet is that of the candidates
pub shorter-candidate : (a b : Option SchcPacketData)
    → option_map candidate_of (shorter a b) ≡ smaller (option_map candidate_of a)
    (option_map candidate_of b)
shorter-candidate None b = refl
shorter-candidate (Some a) None = refl
shorter-candidate (Some a) (Some b) =
    elim (cases_Bool (is_preferred (candidate_of a) (candidate_of b))) [
      | inl t ↦ rw t refl
      | inr n ↦ rw n refl
    ]
